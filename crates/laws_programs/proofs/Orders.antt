-- The orders of classes, types and frames are orders.
use Rattle.std.{proofs.Common.{◌≡◌, ℕ, ◌⊎◌, ⊎_elim, inl, inr, Bool, true, false, not, ◌&&◌, ◌||◌, List, [], ◌∷◌, refl, sym, ap, subst, arith, ◌==◌}, specs.List.AllByRecursion}
use Rattle.std.proofs.lemmas.Bool.{and_from, and_parts, eqb-true, or_cases, Decides.nat_tests}
use Rattle.jvm_types.specs.{ClassTree.{super_class, ancestors, is_subclass, built_in_supers}, Numbers.has_number, Types.{TypeFrame, is_below, all_pairs, frame_below}, declared.typing.VType.VType}
use Rattle.jvm_types.specs.declared.typing.VType.TheVariants.{Int, Null, Ref, This, New, Top}
use Rattle.jvm_types.proofs.FrameOrder.{stack_below, locals_below, ready_below, types_self, types_trans, types_meet_left, types_meet_right, types_meet_least}
use Rattle.jvm_types.proofs.TypeOrder.{pick, subclass_self, subclass_trans, common_left, common_right, common_least, below_self, below_trans, meet_left, meet_right, meet_least}
use Rattle.laws_programs.{specs.OrderLaws.{ClassesAreOrdered, CommonAncestorIsLeast, TypesAreOrdered, MeetIsLeast, FramesAreOrdered, FramesMeet}, proofs.ClassTreeLaws.super_in}

-- ---- classes

-- a class that another is below is that one, or a built-in one with subclasses
abbrev IsSelfOrSuper : ℕ → ℕ → Type 0
IsSelfOrSuper c d = (c ≡ d) ⊎ (has_number built_in_supers d ≡ true)

super_is : (c d : ℕ) → super_class c ≡ d → has_number built_in_supers d ≡ true
super_is c d e = subst (λ (x : ℕ). has_number built_in_supers x ≡ true) e (super_in c)

self_or_super : (c d : ℕ) → is_subclass c d ≡ true → IsSelfOrSuper c d
unfolding is_subclass
self_or_super c d h = pick (ancestors c) d h (λ e. inl e, (λ e. inr (super_is c d e), (λ e. inr (super_is (super_class c) d e), (λ e. inr (super_is (super_class (super_class c)) d e), (λ e. inr (super_is (super_class (super_class (super_class c))) d e), tt)))))

each_number : (test : ℕ → Bool) (xs : List ℕ) (y : ℕ) → AllByRecursion (λ x. test x ≡ true) xs → has_number xs y ≡ true → test y ≡ true
each_number test [] y all h = absurd (cc)
each_number test (x ∷ xs) y all h =
    ⊎_elim (λ (e : (x == y) ≡ true). subst (λ (n : ℕ). test n ≡ true) (eqb-true x y e) all.0) (λ (e : has_number xs y ≡ true). each_number test xs y all.1 e) (or_cases (x == y) (has_number xs y) h)

-- no two are below each other
is_apart : ℕ → ℕ → Bool
unfolding is_subclass
is_apart c d = not (is_subclass c d && is_subclass d c) || (c == d)

apart_all : AllByRecursion (λ c. AllByRecursion (λ d. is_apart c d ≡ true) (1 ∷ 4 ∷ 5 ∷ 6 ∷ 7 ∷ [])) (1 ∷ 4 ∷ 5 ∷ 6 ∷ 7 ∷ [])
unfolding is_subclass is_apart
apart_all = search

-- each of the classes with subclasses stands once
fewer : (c : ℕ) → has_number built_in_supers c ≡ true → has_number (1 ∷ 4 ∷ 5 ∷ 6 ∷ 7 ∷ []) c ≡ true
fewer c h = grind (arith, nat_tests, h)

subclass_one : (c d : ℕ) → is_subclass c d ≡ true → is_subclass d c ≡ true → c ≡ d
unfolding is_apart
subclass_one c d h k = by_cases (self_or_super c d h) (self_or_super d c k)
  where
    apart : is_apart c d ≡ true → c ≡ d
    apart e = eqb-true c d (subst (λ (b : Bool). (not b || (c == d)) ≡ true) (and_from (is_subclass c d) (is_subclass d c) h k) e)

    by_cases : IsSelfOrSuper c d → IsSelfOrSuper d c → c ≡ d
    by_cases (inl e) g = e
    by_cases (inr e) (inl f) = sym f
    by_cases (inr e) (inr f) =
        let few = 1 ∷ 4 ∷ 5 ∷ 6 ∷ 7 ∷ [] in
        apart (each_number (λ x. is_apart c x) few d (row c (fewer c f)) (fewer d e))
      where
        row : (c : ℕ) → has_number (1 ∷ 4 ∷ 5 ∷ 6 ∷ 7 ∷ []) c ≡ true → AllByRecursion (λ d. is_apart c d ≡ true) (1 ∷ 4 ∷ 5 ∷ 6 ∷ 7 ∷ [])
        row c h = pick (1 ∷ 4 ∷ 5 ∷ 6 ∷ 7 ∷ []) c h (to apart_all.0, (to apart_all.1.0, (to apart_all.1.1.0, (to apart_all.1.1.1.0, (to apart_all.1.1.1.1.0, tt)))))
          where
            to : {x : ℕ} → AllByRecursion (λ d. is_apart x d ≡ true) (1 ∷ 4 ∷ 5 ∷ 6 ∷ 7 ∷ []) → x ≡ c → AllByRecursion (λ d. is_apart c d ≡ true) (1 ∷ 4 ∷ 5 ∷ 6 ∷ 7 ∷ [])
            to a e = subst (λ (n : ℕ). AllByRecursion (λ d. is_apart n d ≡ true) (1 ∷ 4 ∷ 5 ∷ 6 ∷ 7 ∷ [])) e a

pub classes_ordered : ClassesAreOrdered
classes_ordered = record { reflexive = subclass_self; transitive = subclass_trans; antisymmetric = subclass_one }

pub ancestor_least : CommonAncestorIsLeast
ancestor_least = record { first = common_left; second = common_right; least = common_least }

-- ---- types

one_type : (t u : VType) → is_below t u ≡ true → is_below u t ≡ true → t ≡ u
one_type Int Int h k = refl
one_type Null Null h k = refl
one_type (Ref c) (Ref d) h k = ap (λ n. Ref n) (subclass_one c d h k)
one_type This This h k = refl
one_type (New p) (New q) h k = ap (λ n. New n) (eqb-true p q h)
one_type Top Top h k = refl
one_type t u h k = absurd (cc)

pub types_ordered : TypesAreOrdered
types_ordered = record { reflexive = below_self; transitive = below_trans; antisymmetric = one_type }

pub meet_is_least : MeetIsLeast
meet_is_least = record { first = meet_left; second = meet_right; least = meet_least }

-- ---- frames

one_list : (ts us : List VType) → all_pairs is_below ts us ≡ true → all_pairs is_below us ts ≡ true → ts ≡ us
one_list [] [] h k = refl
one_list (t ∷ ts) (u ∷ us) h k =
    let a = and_parts (is_below t u) (all_pairs is_below ts us) h in
    let b = and_parts (is_below u t) (all_pairs is_below us ts) k in
    let first = one_type t u a.0 b.0 in
    let rest = one_list ts us a.1 b.1 in
    λ i. first i ∷ rest i
one_list ts us h k = absurd (cc)

one_ready : (a b : Bool) → (a || not b) ≡ true → (b || not a) ≡ true → a ≡ b
one_ready true false h k = absurd (cc)
one_ready false true h k = absurd (cc)
one_ready a b h k = refl

one_frame : (f g : TypeFrame) → frame_below f g ≡ true → frame_below g f ≡ true → f ≡ g
one_frame f g h k =
    let stack = one_list f.stack g.stack (stack_below f g h) (stack_below g f k) in
    let locals = one_list f.locals g.locals (locals_below f g h) (locals_below g f k) in
    let ready = one_ready f.ready g.ready (ready_below f g h) (ready_below g f k) in
    λ i. record { stack = stack i; locals = locals i; ready = ready i }

pub frames_ordered : FramesAreOrdered
frames_ordered = record { reflexive = types_self; transitive = types_trans; antisymmetric = one_frame }

pub frames_meet_least : FramesMeet
frames_meet_least f g s l = (types_meet_left f g s l, types_meet_right f g s l, λ h a b. types_meet_least f g h a b)
