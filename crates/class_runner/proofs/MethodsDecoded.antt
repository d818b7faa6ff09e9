-- Decoding goes over the methods in order of files and methods.
use Rattle.std.proofs.Common.{◌≡◌, ℕ, zero, suc, ◌+◌, ◌<◌, ◌≤◌, List, [], ◌∷◌, ◌++◌, length, get_or, drop, Option, None, refl, sym, subst, ap, ◌∙◌, append_assoc, append-nil, arith}
use Rattle.std.{specs.{List.{AllZip, AllByRecursion}, Option.{option_map, option_or}}, proofs.lemmas.List.{drop_more, drop_all}}
use Rattle.jvm_types.specs.{ClassGrammar.{IsClass, IsMethod, IsMethodAttr}, CodeFault.code_fault, CodeGrammar.IsCode, Linkable.IsDecoded, Linked.code_of}
use Rattle.jvm_types.specs.{Members.{Declared, declared_from, declared_by}, declared.{class_file.{ClassFile.ClassFile, Constant.Constant, Member.Member, MemberAttr.MemberAttr}, code.Insn.Insn}}
use Rattle.jvm_types.{specs.declared.refusal.{KRule.KRule, Place.Place, Rule.{Rule, TheVariants.{C, K, L, V, S, A}}}, proofs.CodeLaws.faultless}
use Rattle.class_runner.specs.{Loading.decode_fault, Stages.{own_methods, method_code_fault, IsUndecoded, AreDecodedSoFar}, declared.loading.FileError.{FileError, TheVariants.{Memory, Refused}}}
use Rattle.jvm_types.specs.declared.class_file.MemberAttr.TheVariants as member_attrs

-- ---- a fact of each item

pub each_at : {X : Type 0} (P : X → Type 0) (xs : List X) (i : ℕ) (x : X) → i < length xs → x ≡ get_or xs i x → AllByRecursion P xs → P x
each_at P [] i x within is h = absurd (omega arith)
each_at P (y ∷ xs) zero x within is h = subst P (sym is) h.0
each_at P (y ∷ xs) (suc i) x within is h = each_at P xs i x (omega arith) is h.1

-- ---- the code of a method

rows_few : (pool : List Constant) (attrs : List MemberAttr) → AllByRecursion (IsMethodAttr pool) attrs → length (code_of attrs).rows ≤ 65535
rows_few pool [] h = omega arith
rows_few pool (member_attrs.Code code ∷ attrs) h = omega (arith, h.0.rows.count)
rows_few pool (member_attrs.ConstantValue name value ∷ attrs) h = absurd h.0
rows_few pool (member_attrs.Other a ∷ attrs) h = rows_few pool attrs h.1

pub method_rows_few : (c : ClassFile) (m : Member) (i : ℕ) → i < length c.methods → m ≡ get_or c.methods i m → IsClass c → length (code_of m.attrs).rows ≤ 65535
method_rows_few c m i within is class = rows_few c.constants m.attrs (each_at (IsMethod c.constants) c.methods i m within is class.methods.each).member.attrs.each

-- ---- one method after another

abbrev pub declared : ℕ → List Constant → ℕ → Member → Declared
declared file pool place m = record { file = file; place = place; pool = pool; member = m }

-- the method of this number, and those behind it
pub own_at : (file : ℕ) (pool : List Constant) (i : ℕ) (ms : List Member) (m : Member) (left : List Declared) → i < length ms → m ≡ get_or ms i m
    → declared_from file pool i (drop i ms) ++ left ≡ declared file pool i m ∷ (declared_from file pool (i + 1) (drop (i + 1) ms) ++ left)
own_at file pool i ms m left within is =
    ap (λ (xs : List Member). declared_from file pool i xs ++ left) (drop_more ms i m within)
    ∙ ap (λ (x : Member). declared file pool i x ∷ (declared_from file pool (i + 1) (drop (i + 1) ms) ++ left)) (sym is)

passes : (o : Option (KRule × ℕ)) (f : KRule × ℕ → Rule × Place) (other : Option (Rule × Place)) → o ≡ None → option_or (option_map f o) other ≡ other
passes o f other e = rw e refl

next : (d : Declared) (left all : List Declared) (code : List (List Insn)) (insns : List Insn) → IsDecoded d insns → AreDecodedSoFar (d ∷ left) all code → AreDecodedSoFar left all (code ++ insns ∷ [])
next d left all code insns decoded so_far = record {
  whole = λ rest h. rw append_assoc (so_far.whole (insns ∷ rest) (decoded, h));
  fault = sym (passes (code_fault (code_of d.member.attrs).bytes (code_of d.member.attrs).rows) _ (decode_fault left) (faultless (code_of d.member.attrs).bytes (code_of d.member.attrs).rows insns decoded)) ∙ so_far.fault;
}

found_first : (o other : Option (Rule × Place)) (e : FileError) → IsUndecoded o e → IsUndecoded (option_or o other) e
found_first o other Memory h = tt
found_first o other (Refused (C rule) place) h = h
found_first o other (Refused (K rule) place) h = rw h refl
found_first o other (Refused (L rule) place) h = h
found_first o other (Refused (V rule) place) h = h
found_first o other (Refused (S rule) place) h = h
found_first o other (Refused (A rule) place) h = h

stops : (d : Declared) (left all : List Declared) (code : List (List Insn)) (e : FileError) → IsUndecoded (method_code_fault d.file d.place (code_of d.member.attrs)) e → AreDecodedSoFar (d ∷ left) all code → IsUndecoded (decode_fault all) e
stops d left all code e undecoded so_far =
    subst (λ (o : Option (Rule × Place)). IsUndecoded o e) so_far.fault (found_first (method_code_fault d.file d.place (code_of d.member.attrs)) (decode_fault left) e undecoded)

pub method_next : (file : ℕ) (pool : List Constant) (i : ℕ) (ms : List Member) (m : Member) (insns : List Insn) (left all : List Declared) (code : List (List Insn)) → i < length ms → m ≡ get_or ms i m
    → IsCode (code_of m.attrs).bytes (code_of m.attrs).rows insns → AreDecodedSoFar (declared_from file pool i (drop i ms) ++ left) all code
    → AreDecodedSoFar (declared_from file pool (i + 1) (drop (i + 1) ms) ++ left) all (code ++ insns ∷ [])
method_next file pool i ms m insns left all code within is decoded so_far =
    next (declared file pool i m) (declared_from file pool (i + 1) (drop (i + 1) ms) ++ left) all code insns decoded
    (subst (λ (ds : List Declared). AreDecodedSoFar ds all code) (own_at file pool i ms m left within is) so_far)

pub method_stops : (file : ℕ) (pool : List Constant) (i : ℕ) (ms : List Member) (m : Member) (left all : List Declared) (code : List (List Insn)) (e : FileError) → i < length ms → m ≡ get_or ms i m
    → IsUndecoded (method_code_fault file i (code_of m.attrs)) e → AreDecodedSoFar (declared_from file pool i (drop i ms) ++ left) all code → IsUndecoded (decode_fault all) e
method_stops file pool i ms m left all code e within is undecoded so_far =
    stops (declared file pool i m) (declared_from file pool (i + 1) (drop (i + 1) ms) ++ left) all code e undecoded
    (subst (λ (ds : List Declared). AreDecodedSoFar ds all code) (own_at file pool i ms m left within is) so_far)

pub class_ends : (file : ℕ) (pool : List Constant) (i : ℕ) (ms : List Member) (left all : List Declared) (code : List (List Insn)) → length ms ≤ i
    → AreDecodedSoFar (declared_from file pool i (drop i ms) ++ left) all code → AreDecodedSoFar left all code
class_ends file pool i ms left all code past so_far =
    subst (λ (xs : List Member). AreDecodedSoFar (declared_from file pool i xs ++ left) all code) (drop_all i ms past) so_far

-- ---- one class after another

pub begins : (ds : List Declared) → AreDecodedSoFar ds ds []
begins ds = record { whole = λ rest h. h; fault = refl }

pub ends : (i : ℕ) (cs : List ClassFile) (all : List Declared) (code : List (List Insn)) → length cs ≤ i → AreDecodedSoFar (declared_by (λ c. c.methods) i (drop i cs)) all code → AllZip IsDecoded all code
ends i cs all code past so_far =
    let none : drop i cs ≡ [] = drop_all i cs past in
    subst (AllZip IsDecoded all) (append-nil code) (so_far.whole [] (rw none tt))

-- the methods of the class of this number, and those of the classes behind it
pub files_at : (i : ℕ) (cs : List ClassFile) (c : ClassFile) → i < length cs → c ≡ get_or cs i c → declared_by (λ x. x.methods) i (drop i cs) ≡ own_methods i c ++ declared_by (λ x. x.methods) (i + 1) (drop (i + 1) cs)
files_at i cs c within is =
    ap (declared_by (λ x. x.methods) i) (drop_more cs i c within)
    ∙ ap (λ (x : ClassFile). own_methods i x ++ declared_by (λ y. y.methods) (i + 1) (drop (i + 1) cs)) (sym is)
