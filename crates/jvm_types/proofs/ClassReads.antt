-- A class that is read is spelled so and keeps its rules, and what is spelled so is read again.
use Rattle.std.proofs.Common.{◌≡◌, ℕ, ◌-◌, ◌≤◌, Bool, true, false, cond, eqb, ltb, leb, List, [], ◌++◌, length, Some, Result, Ok, refl, sym, ap, subst, ◌∙◌, append_assoc, inl, inr, ◌&&◌, slice_get}
use Rattle.std.proofs.lemmas.{Bool.{and_parts, and_from, eqb-true, eq-eqb, not-true, not_from_false, leb-true, le-leb, ltb-false, le-ltb}, List.append-nil}
use Rattle.jvm_types.specs.{ClassGrammar.{Names, IsIndex, IsPool, IsAttr, IsFieldAttr, IsMethodAttr, IsMember, IsField, HasBody, IsMethod, IsClass, Spells}, Numbers.{u2, u4}}
use Rattle.jvm_types.specs.{ReadingClass.{attr_at, field_attr_at, method_attr_at, member_at, field_at, has_body, method_at, class_at, read_class}, ReadingPool.index_at}
use Rattle.jvm_types.specs.{ReadingSteps.{Fault, fault, whole}, Spelling.{counted, constant, attr, member_attr, member, class_file}, declared.class_file.{ClassFile.ClassFile, Constant.Constant}}
use Rattle.jvm_types.specs.declared.{class_file.{Constant.TheVariants.Class, Member.Member, MemberAttr.MemberAttr}, refusal.CRule.TheVariants.{C1, C2, C9, C10}}
use Rattle.jvm_types.proofs.{AttrLaws.{attr_reads, field_attr_reads, method_attr_reads, whole_takes}, IndexLaws.index_reads, PoolLaws.{IsPoolOrNone, pool_reads}}
use Rattle.jvm_types.proofs.StepLaws.{IsBytes, Finds, weaker, on_wanted, Took, Reads, on_step, u2_reads, u2_again, u4_reads, u4_again, counted_reads}
use Rattle.jvm_types.specs.declared.index_kind.IndexKind.TheVariants as kinds

-- ---- fields and methods

member_takes : (Fits : MemberAttr → Type 0) (item_at : List ℕ → Result (MemberAttr × List ℕ) Fault) (reads : Reads member_attr Fits item_at) (pool : List Constant) (bytes : List ℕ) → IsBytes bytes
    → Finds (member_at item_at pool bytes) (Took member (IsMember Fits pool) bytes)
unfolding member_at
member_takes Fits item_at reads pool bytes fits =
    on_step u2_reads bytes fits _ _ λ flags a.
    on_step (index_reads kinds.Utf8 pool) flags.1 a.rest _ _ λ name b.
    on_step (index_reads kinds.Utf8 pool) name.1 b.rest _ _ λ descriptor c.
    on_step (counted_reads member_attr Fits item_at reads) descriptor.1 c.rest _ _ λ attrs d.
    record {
      ok = record {
        parts = a.parts ∙ ap (λ (x : List ℕ). u2 flags.0 ++ x) (b.parts ∙ ap (λ (x : List ℕ). u2 name.0 ++ x) (c.parts ∙ ap (λ (x : List ℕ). u2 descriptor.0 ++ x) d.parts));
        fits = record { flags = a.fits; name = b.fits; descriptor = c.fits; attrs = d.fits };
        rest = d.rest;
      };
    }

member_again : (Fits : MemberAttr → Type 0) (item_at : List ℕ → Result (MemberAttr × List ℕ) Fault) (reads : Reads member_attr Fits item_at) (pool : List Constant) (m : Member) (rest : List ℕ)
    → IsMember Fits pool m → member_at item_at pool (member m ++ rest) ≡ Ok (m, rest)
unfolding member_at
member_again Fits item_at reads pool m rest is =
    let tail : List ℕ = counted member_attr m.attrs ++ rest in
    rw (
      u2_again m.flags (u2 m.name ++ (u2 m.descriptor ++ tail)),
      (index_reads kinds.Utf8 pool).again m.name (u2 m.descriptor ++ tail) is.name,
      (index_reads kinds.Utf8 pool).again m.descriptor tail is.descriptor,
      (counted_reads member_attr Fits item_at reads).again m.attrs rest is.attrs,
    )

pub member_reads : (Fits : MemberAttr → Type 0) (item_at : List ℕ → Result (MemberAttr × List ℕ) Fault) (reads : Reads member_attr Fits item_at) (pool : List Constant) → Reads member (IsMember Fits pool) (member_at item_at pool)
member_reads Fits item_at reads pool = record { takes = member_takes Fits item_at reads pool; again = member_again Fits item_at reads pool }

pub field_reads : (pool : List Constant) → Reads member (IsField pool) (field_at pool)
unfolding field_at
field_reads pool = member_reads (IsFieldAttr pool) (field_attr_at pool) (field_attr_reads pool) pool

pub body_from_test : (m : Member) → has_body m ≡ true → HasBody m
body_from_test m e =
    let p = and_parts _ _ e in
    let q = and_parts _ _ p.0 in
    record { one = eqb-true _ _ q.0; not_native = not-true _ q.1; not_abstract = not-true _ p.1 }

pub test_from_body : (m : Member) → HasBody m → has_body m ≡ true
test_from_body m has = and_from _ _ (and_from _ _ (eq-eqb _ _ has.one) (not_from_false _ has.not_native)) (not_from_false _ has.not_abstract)

pub method_reads : (pool : List Constant) → Reads member (IsMethod pool) (method_at pool)
unfolding method_at
method_reads pool = record {
  takes = λ bytes fits.
      on_step (member_reads (IsMethodAttr pool) (method_attr_at pool) (method_attr_reads pool) pool) bytes fits _ _ λ m a.
      on_wanted (has_body m.0) C9 (length bytes) _ _ λ ok.
      record { ok = record { parts = a.parts; fits = record { member = a.fits; body = body_from_test m.0 ok }; rest = a.rest } };
  again = λ m rest is. rw (member_again (IsMethodAttr pool) (method_attr_at pool) (method_attr_reads pool) pool m rest is.member, test_from_body m is.body);
}

-- ---- classes

under : (x : List ℕ) {y z : List ℕ} → y ≡ z → x ++ y ≡ x ++ z
under x e = ap (λ (t : List ℕ). x ++ t) e

regrouped : (a b c d e f g h i j k rest : List ℕ) → (a ++ b ++ c ++ d ++ e ++ f ++ g ++ h ++ i ++ j ++ k) ++ rest ≡ a ++ (b ++ (c ++ (d ++ (e ++ (f ++ (g ++ (h ++ (i ++ (j ++ (k ++ rest))))))))))
regrouped a b c d e f g h i j k rest = simp append_assoc

-- the bytes of a class and what follows, field by field from the left
parts_of : ClassFile → List ℕ → List ℕ
parts_of c rest = u4 3405691582 ++ (u2 c.minor ++ (u2 c.major ++ (counted constant c.constants ++ (u2 c.flags ++ (u2 c.this_class ++ (u2 c.super_class
    ++ (counted u2 c.interfaces ++ (counted member c.fields ++ (counted member c.methods ++ (counted attr c.attrs ++ rest))))))))))

in_parts : (c : ClassFile) (rest : List ℕ) → class_file c ++ rest ≡ parts_of c rest
unfolding parts_of
in_parts c rest = regrouped (u4 3405691582) (u2 c.minor) (u2 c.major) (counted constant c.constants) (u2 c.flags) (u2 c.this_class) (u2 c.super_class)
    (counted u2 c.interfaces) (counted member c.fields) (counted member c.methods) (counted attr c.attrs) rest

none_named : (pool : List Constant) (i : ℕ) → pool ≡ [] → Names kinds.Class pool i → ⊥
none_named pool i none named = let found = subst (λ (p : List Constant). slice_get p i ≡ Some (Class named.0)) none named.1 in absurd cc

pool_there : (pool : List Constant) (i : ℕ) → IsPoolOrNone pool → Names kinds.Class pool i → IsPool pool
pool_there pool i (inl none) named = absurd (none_named pool i none named)
pool_there pool i (inr is) named = is

pub class_takes : (bytes : List ℕ) → IsBytes bytes → Finds (class_at bytes) (Took class_file (λ c. length (class_file c) ≤ 1048576 → IsClass c) bytes)
unfolding class_at parts_of
class_takes bytes fits =
    on_step u4_reads bytes fits _ _ λ magic a.
    on_wanted (eqb magic.0 3405691582) C1 (length bytes) _ _ λ is_magic.
    on_step u2_reads magic.1 a.rest _ _ λ minor b.
    on_step u2_reads minor.1 b.rest _ _ λ major c.
    on_wanted (leb 45 major.0 && leb major.0 50) C2 (length minor.1) _ _ λ version.
    on_step pool_reads major.1 c.rest _ _ λ pool d.
    on_step u2_reads pool.1 d.rest _ _ λ flags e.
    on_step (index_reads kinds.Class pool.0) flags.1 e.rest _ _ λ own f.
    on_step (index_reads kinds.Class pool.0) own.1 f.rest _ _ λ super g.
    on_step (counted_reads u2 (IsIndex kinds.Class pool.0) (index_at kinds.Class pool.0) (index_reads kinds.Class pool.0)) super.1 g.rest _ _ λ interfaces h.
    on_step (counted_reads member (IsField pool.0) (field_at pool.0) (field_reads pool.0)) interfaces.1 h.rest _ _ λ fields i.
    on_step (counted_reads member (IsMethod pool.0) (method_at pool.0) (method_reads pool.0)) fields.1 i.rest _ _ λ methods j.
    on_step (counted_reads attr (IsAttr pool.0) (attr_at pool.0) (attr_reads pool.0)) methods.1 j.rest _ _ λ attrs k.
    let there = pool_there pool.0 own.0 d.fits f.fits.names in
    let P : List ℕ = counted constant pool.0 in
    let tail : flags.1 ≡ u2 own.0 ++ (u2 super.0 ++ (counted u2 interfaces.0 ++ (counted member fields.0 ++ (counted member methods.0 ++ (counted attr attrs.0 ++ attrs.1)))))
    = f.parts ∙ under (u2 own.0) (g.parts ∙ under (u2 super.0) (h.parts ∙ under (counted u2 interfaces.0) (i.parts ∙ under (counted member fields.0) (j.parts ∙ under (counted member methods.0) k.parts)))) in
    let all : bytes ≡ parts_of (record { minor = minor.0; major = major.0; constants = pool.0; flags = flags.0; this_class = own.0; super_class = super.0; interfaces = interfaces.0; fields = fields.0; methods = methods.0; attrs = attrs.0 }) attrs.1
    = a.parts ∙ ap (λ (n : ℕ). u4 n ++ magic.1) (eqb-true _ _ is_magic)
    ∙ under (u4 3405691582) (b.parts ∙ under (u2 minor.0) (c.parts ∙ under (u2 major.0) (d.parts ∙ under P (e.parts ∙ under (u2 flags.0) tail)))) in
    record {
      ok = record {
        parts = all ∙ sym (in_parts _ attrs.1);
        fits = λ short. record {
          short = short;
          minor = b.fits;
          from_45 = leb-true _ _ (and_parts _ _ version).0;
          to_50 = leb-true _ _ (and_parts _ _ version).1;
          pool = there;
          flags = e.fits;
          this_class = f.fits;
          super_class = g.fits;
          interfaces = h.fits;
          fields = i.fits;
          methods = j.fits;
          attrs = k.fits;
        };
        rest = k.rest;
      };
    }

pub class_again : (c : ClassFile) (rest : List ℕ) → IsClass c → class_at (class_file c ++ rest) ≡ Ok (c, rest)
unfolding class_at parts_of
class_again c rest is =
    let a : List ℕ = counted attr c.attrs ++ rest in
    let m : List ℕ = counted member c.methods ++ a in
    let f : List ℕ = counted member c.fields ++ m in
    let i : List ℕ = counted u2 c.interfaces ++ f in
    let s : List ℕ = u2 c.super_class ++ i in
    let t : List ℕ = u2 c.this_class ++ s in
    let g : List ℕ = u2 c.flags ++ t in
    let p : List ℕ = counted constant c.constants ++ g in
    let j : List ℕ = u2 c.major ++ p in
    let n : List ℕ = u2 c.minor ++ j in
    ap class_at (in_parts c rest)
    ∙ rw (
      u4_again 3405691582 n,
      u2_again c.minor j,
      u2_again c.major p,
      and_from _ _ (le-leb 45 c.major is.from_45) (le-leb c.major 50 is.to_50),
      pool_reads.again c.constants g (inr is.pool),
      u2_again c.flags t,
      (index_reads kinds.Class c.constants).again c.this_class s is.this_class,
      (index_reads kinds.Class c.constants).again c.super_class i is.super_class,
      (counted_reads u2 (IsIndex kinds.Class c.constants) (index_at kinds.Class c.constants) (index_reads kinds.Class c.constants)).again c.interfaces f is.interfaces,
      (counted_reads member (IsField c.constants) (field_at c.constants) (field_reads c.constants)).again c.fields m is.fields,
      (counted_reads member (IsMethod c.constants) (method_at c.constants) (method_reads c.constants)).again c.methods a is.methods,
      (counted_reads attr (IsAttr c.constants) (attr_at c.constants) (attr_reads c.constants)).again c.attrs rest is.attrs,
    )

-- ---- files

not_long : {B : Type 0} (b : Bool) (left : ℕ) (y : Result B Fault) (Q : B → Type 0) → (b ≡ false → Finds y Q) → Finds (cond b (fault C10 left) y) Q
not_long true left y Q h = record { ok = tt }
not_long false left y Q h = h refl

-- the class that is read is spelled so
pub read_takes : (bytes : List ℕ) → IsBytes bytes → Finds (read_class bytes) (Spells bytes)
unfolding read_class
read_takes bytes fits =
    not_long (ltb 1048576 (length bytes)) (length bytes - 1048576) (whole (class_at bytes)) (Spells bytes) λ short.
    weaker (Spells bytes) (whole_takes class_file (λ c. length (class_file c) ≤ 1048576 → IsClass c) bytes (class_at bytes) (class_takes bytes fits)) λ c f.
    record { spelled = f.all; is = f.fits (subst (λ (x : List ℕ). length x ≤ 1048576) f.all (ltb-false _ _ short)) }

-- the class that is spelled so is read
pub read_again : (bytes : List ℕ) (c : ClassFile) → Spells bytes c → read_class bytes ≡ Ok c
unfolding read_class whole
read_again bytes c spells =
    let none : class_at (class_file c) ≡ Ok (c, []) = ap class_at (sym (append-nil (class_file c))) ∙ class_again c [] spells.is in
    let short : ltb 1048576 (length (class_file c)) ≡ false = le-ltb _ _ spells.is.short in
    ap read_class spells.spelled ∙ rw (short, none)
