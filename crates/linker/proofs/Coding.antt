-- Methods that take their instructions from one list, one after another.
use Rattle.std.proofs.Common.{◌≡◌, ℕ, zero, suc, ◌+◌, ◌<◌, ◌^◌, List, [], ◌∷◌, ◌++◌, length, get_or, drop, Option, Some, None, Result, Ok, Err, refl, sym, ap, subst, ◌∙◌, append_assoc, length-append, arith}
use Rattle.std.{specs.{List.{zip, AllByRecursion}, Option.option_or, Result.{result_err, result_unwrap_or}}, proofs.lemmas.List.{append-nil, drop-drop, at_drop_more}}
use Rattle.jvm_types.specs.{ClassGrammar.{IsHandler, IsMethod, IsMethodAttr}, LinkFaults.{LinkFault, rule_at_place, in_method, insn_fault, uses_fault}}
use Rattle.jvm_types.specs.{Linked.{code_of, site_of, resolved_target, linked_method, linked_methods}, Members.{Declared, declared_from, declared_by}, Targets.{Scope, target_of}}
use Rattle.jvm_types.specs.declared.{class_file.{ClassFile.ClassFile, Constant.Constant, Member.{Member as ClassMember}, MemberAttr.MemberAttr}, code.Insn.Insn, program.MethodInfo.MethodInfo}
use Rattle.jvm_types.specs.declared.{program.Target.Target, refusal.LRule.LRule}
use Rattle.link_scope.specs.Scoping.{FileOf, IsFileOf}
use Rattle.linker.specs.{Linking.{IsLinkErrorOf, AreLinked, use_faults, method_of}, declared.error.LinkError.{LinkError, TheVariants.{Memory, Refused}}}
use Rattle.jvm_types.specs.declared.class_file.MemberAttr.TheVariants as member_attrs
use Rattle.jvm_types.specs.declared.program.Target.TheVariants as targets

-- ---- what is known of a method of a class

handlers_in : (pool : List Constant) (attrs : List MemberAttr) → AllByRecursion (IsMethodAttr pool) attrs → AllByRecursion (IsHandler pool) (code_of attrs).rows
handlers_in pool [] all = tt
handlers_in pool (member_attrs.Code code ∷ attrs) all = all.0.rows.each
handlers_in pool (member_attrs.ConstantValue name value ∷ attrs) all = handlers_in pool attrs all.1
handlers_in pool (member_attrs.Other a ∷ attrs) all = handlers_in pool attrs all.1

pub handlers_of : (pool : List Constant) (m : ClassMember) → IsMethod pool m → AllByRecursion (IsHandler pool) (code_of m.attrs).rows
handlers_of pool m is = handlers_in pool m.attrs is.member.attrs.each

all_at : {X : Type 0} (P : X → Type 0) (xs : List X) (i : ℕ) (x : X) → AllByRecursion P xs → i < length xs → x ≡ get_or xs i x → P x
all_at P [] i x h l e = absurd (omega arith)
all_at P (y ∷ xs) zero x h l e = subst P (sym e) h.0
all_at P (y ∷ xs) (suc i) x h l e = all_at P xs i x h.1 (omega arith) e

pub method_at : (f : FileOf) (i : ℕ) (m : ClassMember) → IsFileOf f → i < length f.class.methods → m ≡ get_or f.class.methods i m → IsMethod f.class.constants m
method_at f i m is l e = all_at (IsMethod f.class.constants) f.class.methods i m is.class.methods.each l e

pub number_at : (f : FileOf) (i : ℕ) → IsFileOf f → i < length f.class.methods → i < 65536
number_at f i is l = omega (arith, is.class.methods.count)

-- ---- what an instruction names, and what refuses it

pub target_given : (s : Scope) (d : Declared) (insn : Insn) (t : Target) → Ok t ≡ target_of s (site_of d) d.pool insn.op → (insn_fault s d insn ≡ None) × (t ≡ resolved_target s (site_of d) d.pool insn)
target_given s d insn t e = (
  ap (λ (r : Result Target LRule). rule_at_place (in_method d.file d.place insn.pc) (result_err r)) (sym e),
  ap (λ (r : Result Target LRule). result_unwrap_or r targets.Nothing) e,
)

pub target_refused : (s : Scope) (d : Declared) (insn : Insn) (rule : LRule) → Err rule ≡ target_of s (site_of d) d.pool insn.op → insn_fault s d insn ≡ Some (rule, in_method d.file d.place insn.pc)
target_refused s d insn rule e = ap (λ (r : Result Target LRule). rule_at_place (in_method d.file d.place insn.pc) (result_err r)) (sym e)

-- ---- what is linked, and what refuses

module _ (s : Scope) where
  abbrev pub linked : List Declared → List (List Insn) → List MethodInfo
  linked ds code = linked_methods s (zip ds code)

  none_linked : (ds : List Declared) → linked ds [] ≡ []
  none_linked [] = refl
  none_linked (d ∷ ds) = refl

  no_faults : (ds : List Declared) → use_faults s ds [] ≡ None
  no_faults [] = refl
  no_faults (d ∷ ds) = refl

  or_assoc : {X : Type 0} (a b c : Option X) → option_or a (option_or b c) ≡ option_or (option_or a b) c
  or_assoc None b c = refl
  or_assoc (Some x) b c = refl

  linked_append : (xs ys : List Declared) (code : List (List Insn)) → linked (xs ++ ys) code ≡ linked xs code ++ linked ys (drop (length xs) code)
  linked_append [] ys code = refl
  linked_append (x ∷ xs) ys [] = sym (none_linked ys)
  linked_append (x ∷ xs) ys (insns ∷ code) = ap (λ ms. linked_method s x insns ∷ ms) (linked_append xs ys code)

  faults_append : (xs ys : List Declared) (code : List (List Insn))
      → use_faults s (xs ++ ys) code ≡ option_or (use_faults s xs code) (use_faults s ys (drop (length xs) code))
  faults_append [] ys code = refl
  faults_append (x ∷ xs) ys [] = sym (no_faults ys)
  faults_append (x ∷ xs) ys (insns ∷ code) =
      ap (λ (o : Option LinkFault). option_or (uses_fault s (x, insns)) o) (faults_append xs ys code)
      ∙ or_assoc (uses_fault s (x, insns)) (use_faults s xs code) (use_faults s ys (drop (length xs) code))

  -- ---- some methods, and those behind them

  module _ (xs ys : List Declared) (code left : List (List Insn)) (old new : List MethodInfo) (are : AreLinked s xs code left old new) where
    pub rest_on : drop (length ys) left ≡ drop (length (xs ++ ys)) code
    rest_on = ap (λ c. drop (length ys) c) are.rest ∙ drop-drop (length ys) (length xs) code ∙ ap (λ n. drop n code) (sym (length-append xs ys))

    pub linked_on : new ++ linked ys left ≡ old ++ linked (xs ++ ys) code
    linked_on =
        ap (λ c. new ++ linked ys c) are.rest
        ∙ ap (λ ms. ms ++ linked ys (drop (length xs) code)) are.added
        ∙ append_assoc old (linked xs code) (linked ys (drop (length xs) code))
        ∙ ap (λ ms. old ++ ms) (sym (linked_append xs ys code))

    pub faults_on : use_faults s ys left ≡ use_faults s (xs ++ ys) code
    faults_on =
        ap (λ c. use_faults s ys c) are.rest
        ∙ ap (λ o. option_or o (use_faults s ys (drop (length xs) code))) (sym are.unrefused)
        ∙ sym (faults_append xs ys code)

  -- what refuses some methods refuses them with those behind them
  first_error : (o p : Option LinkFault) (e : LinkError) → IsLinkErrorOf o e → IsLinkErrorOf (option_or o p) e
  first_error o p Memory h = tt
  first_error None p (Refused rule place) h = absurd cc
  first_error (Some fault) p (Refused rule place) h = h

  pub error_on : (xs ys : List Declared) (code : List (List Insn)) (e : LinkError) → IsLinkErrorOf (use_faults s xs code) e → IsLinkErrorOf (use_faults s (xs ++ ys) code) e
  error_on xs ys code e h = subst (λ (o : Option LinkFault). IsLinkErrorOf o e) (sym (faults_append xs ys code)) (first_error (use_faults s xs code) (use_faults s ys (drop (length xs) code)) e h)

  -- ---- a method alone

  or_none : {X : Type 0} (a : Option X) → option_or a None ≡ a
  or_none None = refl
  or_none (Some x) = refl

  pub fault_at : (d : Declared) (insns : List Insn) (code : List (List Insn)) → use_faults s (d ∷ []) (insns ∷ code) ≡ uses_fault s (d, insns)
  fault_at d insns code = or_none (uses_fault s (d, insns))

  -- where there are no instructions for a method, nothing is added
  pub none_at : (d : Declared) (ms : List MethodInfo) → AreLinked s (d ∷ []) [] [] ms ms
  none_at d ms = record { unrefused = refl; rest = refl; added = sym (append-nil ms) }

  pub one_at : (d : Declared) (code : List (List Insn)) (ms new : List MethodInfo) (insns : List Insn) (m : MethodInfo)
      → uses_fault s (d, insns) ≡ None → m ≡ linked_method s d insns → new ≡ ms ++ m ∷ [] → AreLinked s (d ∷ []) (insns ∷ code) code ms new
  one_at d code ms new insns m u is n = record {
    unrefused = fault_at d insns code ∙ u;
    rest = refl;
    added = n ∙ ap (λ (x : MethodInfo). ms ++ x ∷ []) is;
  }

  -- ---- one turn of a loop: the first of all methods that are left were linked, or refused

  module _ (all xs ys : List Declared) (code : List (List Insn)) (split : all ≡ xs ++ ys) (old : List MethodInfo) where
    module _ (left : List (List Insn)) (new : List MethodInfo) (are : AreLinked s xs code left old new) where
      pub turn_left : (whole : Option LinkFault) → use_faults s all code ≡ whole → use_faults s ys left ≡ whole
      turn_left whole h = faults_on xs ys code left old new are ∙ ap (λ (ds : List Declared). use_faults s ds code) (sym split) ∙ h

      pub turn_made : (whole : List MethodInfo) → old ++ linked all code ≡ whole → new ++ linked ys left ≡ whole
      turn_made whole h = linked_on xs ys code left old new are ∙ ap (λ (ds : List Declared). old ++ linked ds code) (sym split) ∙ h

      pub turn_rest : (whole : List (List Insn)) → drop (length all) code ≡ whole → drop (length ys) left ≡ whole
      turn_rest whole h = rest_on xs ys code left old new are ∙ ap (λ (ds : List Declared). drop (length ds) code) (sym split) ∙ h

    pub turn_refused : (e : LinkError) → IsLinkErrorOf (use_faults s xs code) e → (whole : Option LinkFault) → use_faults s all code ≡ whole → IsLinkErrorOf whole e
    turn_refused e h whole is = subst (λ (o : Option LinkFault). IsLinkErrorOf o e) (ap (λ (ds : List Declared). use_faults s ds code) (sym split) ∙ is) (error_on xs ys code e h)

-- ---- the methods that are left at one turn of a loop

next : {X Y : Type 0} (F : List X → Y) (xs : List X) (i : ℕ) (x : X) → i < length xs → x ≡ get_or xs i x → F (drop i xs) ≡ F (x ∷ drop (i + 1) xs)
next F xs i x l e = at_drop_more F xs i x l ∙ ap (λ y. F (y ∷ drop (i + 1) xs)) (sym e)

pub member_split : (f : FileOf) (members : List ClassMember) (i : ℕ) (m : ClassMember) → i < length members → m ≡ get_or members i m
    → declared_from f.number f.class.constants i (drop i members) ≡ (method_of f i m ∷ []) ++ declared_from f.number f.class.constants (i + 1) (drop (i + 1) members)
member_split f members i m l e = next (declared_from f.number f.class.constants i) members i m l e

pub class_split : (files items : List ClassFile) (i : ℕ) (c : ClassFile) → items ≡ files → i < length items → c ≡ get_or items i c
    → declared_by (λ d. d.methods) i (drop i files) ≡ declared_from i c.constants 0 c.methods ++ declared_by (λ d. d.methods) (i + 1) (drop (i + 1) files)
class_split files items i c same l e =
    subst (λ (fs : List ClassFile). declared_by (λ d. d.methods) i (drop i fs) ≡ declared_from i c.constants 0 c.methods ++ declared_by (λ d. d.methods) (i + 1) (drop (i + 1) fs)) same (next (declared_by (λ d. d.methods) i) items i c l e)
