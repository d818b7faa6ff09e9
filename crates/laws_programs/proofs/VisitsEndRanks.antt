-- A meet goes down: each type has a rank of at least 1, which falls where a meet with another changes the type. So the
-- rank of a frame, the sum over its places, falls where an edge changes the frame, whatever the depths.
use Rattle.std.proofs.Common.{◌≡◌, ℕ, zero, suc, ◌+◌, ◌-◌, ◌*◌, ◌<◌, ◌≤◌, Bool, true, false, List, [], ◌∷◌, length, refl, sym, subst, inl, inr, arith, ◌⊎◌, ◌&&◌, ◌==◌, slice_index_or}
use Rattle.std.{specs.List.AllByRecursion, proofs.lemmas.Bool.{cond_both, eq-eqb}}
use Rattle.jvm_types.specs.ClassTree.{super_class, is_subclass, first_above, common_ancestor}
use Rattle.jvm_types.specs.{Types.{TypeFrame, meet, if_same_place, same_type, all_pairs, meets, same_ready, same_frame, meet_frames}, declared.class_numbers.TheConstants.OBJECT_CLASS}
use Rattle.jvm_types.{specs.declared.typing.VType.{VType, TheVariants.{Int, Null, Ref, This, New, Top}}, proofs.{ClassCases.by_class, TypeOrder.subclass_object}}

-- ---- classes

-- how many classes are above each of the built-in ones, by its number
abbrev depths : List ℕ
depths = 1 ∷ 0 ∷ 1 ∷ 1 ∷ 1 ∷ 2 ∷ 2 ∷ 3 ∷ 3 ∷ 4 ∷ 4 ∷ 4 ∷ 4 ∷ 4 ∷ 3 ∷ 3 ∷ []

-- how many classes are above a class
depth : ℕ → ℕ
depth c = slice_index_or depths c 1

depth_above : (c : ℕ) → depth (super_class c) ≡ depth c - 1
unfolding depth
depth_above = by_class (λ c. depth (super_class c) ≡ depth c - 1) (refl, (refl, (refl, (refl, (refl, (refl, (refl, (refl, (refl, (refl, (refl, (refl, (refl, (refl, (refl, (refl, tt)))))))))))))))) (λ c. refl)

depth_object : (c : ℕ) → depth c ≡ 0 → c ≡ OBJECT_CLASS
unfolding depth
depth_object = by_class (λ c. depth c ≡ 0 → c ≡ OBJECT_CLASS) (λ e. absurd (omega (arith, e)), (λ e. refl, (λ e. absurd (omega (arith, e)), (λ e. absurd (omega (arith, e)), (λ e. absurd (omega (arith, e)), (λ e. absurd (omega (arith, e)), (λ e. absurd (omega (arith, e)), (λ e. absurd (omega (arith, e)), (λ e. absurd (omega (arith, e)), (λ e. absurd (omega (arith, e)), (λ e. absurd (omega (arith, e)), (λ e. absurd (omega (arith, e)), (λ e. absurd (omega (arith, e)), (λ e. absurd (omega (arith, e)), (λ e. absurd (omega (arith, e)), (λ e. absurd (omega (arith, e)), tt)))))))))))))))) (λ c e. absurd (omega (arith, e)))

-- no class has more than four above it
depth_small : (c : ℕ) → depth c ≤ 4
unfolding depth
depth_small = by_class (λ c. depth c ≤ 4) (omega arith, (omega arith, (omega arith, (omega arith, (omega arith, (omega arith, (omega arith, (omega arith, (omega arith, (omega arith, (omega arith, (omega arith, (omega arith, (omega arith, (omega arith, (omega arith, tt)))))))))))))))) (λ c. omega arith)

-- ---- the nearest common ancestor is the class itself or has fewer above it

first_lower : (d n : ℕ) (cs : List ℕ) → 0 < n → AllByRecursion (λ c. depth c < n) cs → depth (first_above d cs) < n
unfolding depth
first_lower d n [] h all = h
first_lower d n (c ∷ cs) h all = cond_both (is_subclass d c) c (first_above d cs) (λ x. depth x < n) (λ e. all.0) (λ e. first_lower d n cs h all.1)

supers_lower : (c : ℕ) → 0 < depth c
    → AllByRecursion (λ d. depth d < depth c) (super_class c ∷ super_class (super_class c) ∷ super_class (super_class (super_class c)) ∷ super_class (super_class (super_class (super_class c))) ∷ [])
supers_lower c h =
    let one = depth_above c in
    let two = depth_above (super_class c) in
    let three = depth_above (super_class (super_class c)) in
    let four = depth_above (super_class (super_class (super_class c))) in
    (omega (arith, h, one), (omega (arith, h, one, two), (omega (arith, h, one, two, three), (omega (arith, h, one, two, three, four), tt))))

common_falls : (c d : ℕ) → (common_ancestor c d ≡ c) ⊎ (depth (common_ancestor c d) < depth c)
unfolding common_ancestor
common_falls c d =
    let supers : List ℕ = super_class c ∷ super_class (super_class c) ∷ super_class (super_class (super_class c)) ∷ super_class (super_class (super_class (super_class c))) ∷ [] in
    cond_both (is_subclass d c) c (first_above d supers) (λ x. (x ≡ c) ⊎ (depth x < depth c)) (λ e. inl refl)
    (λ e. inr (first_lower d (depth c) supers (deep (depth c) refl e) (supers_lower c (deep (depth c) refl e))))
  where
    deep : (n : ℕ) → depth c ≡ n → is_subclass d c ≡ false → 0 < depth c
    deep zero e f =
        let below : is_subclass d c ≡ true = subst (λ (x : ℕ). is_subclass d x ≡ true) (sym (depth_object c e)) (subclass_object d) in
        absurd (cc)
    deep (suc n) e f = omega (arith, e)

-- ---- types

rank : VType → ℕ
rank Null = 7
rank (Ref c) = depth c + 2
rank Int = 2
rank This = 2
rank (New pc) = 2
rank Top = 1

-- at most what it was, and less where it is not the same
abbrev pub Falls : Bool → ℕ → ℕ → Type 0
Falls true after before = after ≤ before
Falls false after before = after < before

always : (t : Bool) (a b : ℕ) → a < b → Falls t a b
always true a b h = omega (arith, h)
always false a b h = h

class_same : (c : ℕ) → Falls (c == c) (depth c + 2) (depth c + 2)
class_same c = subst (λ (t : Bool). Falls t (depth c + 2) (depth c + 2)) (sym (eq-eqb c c refl)) (omega arith)

ref_falls : (c d : ℕ) → Falls (c == common_ancestor c d) (depth (common_ancestor c d) + 2) (depth c + 2)
ref_falls c d = elim (common_falls c d) as (λ _. Falls (c == common_ancestor c d) (depth (common_ancestor c d) + 2) (depth c + 2)) [
  | inl e ↦ subst (λ (x : ℕ). Falls (c == x) (depth x + 2) (depth c + 2)) (sym e) (class_same c)
  | inr h ↦ always (c == common_ancestor c d) (depth (common_ancestor c d) + 2) (depth c + 2) (omega (arith, h))
]

place_falls : (p : ℕ) (t : Bool) → (p == p) ≡ true → Falls (same_type (New p) (if_same_place t (New p))) (rank (if_same_place t (New p))) (rank (New p))
unfolding rank
place_falls p true e = subst (λ (t : Bool). Falls t 2 2) (sym e) (omega arith)
place_falls p false e = omega arith

meet_falls : (t u : VType) → Falls (same_type t (meet t u)) (rank (meet t u)) (rank t)
unfolding rank
meet_falls Int Int = omega arith
meet_falls This This = omega arith
meet_falls Top Top = omega arith
meet_falls Null (Ref d) = omega (arith, depth_small d)
meet_falls (Ref c) Null = class_same c
meet_falls (Ref c) (Ref d) = ref_falls c d
meet_falls (New p) (New q) = place_falls p (p == q) (eq-eqb p p refl)
meet_falls t u = omega arith

rank_some : (t : VType) → 1 ≤ rank t
unfolding rank
rank_some (Ref c) = omega arith
rank_some t = omega arith

rank_small : (t : VType) → rank t ≤ 7
unfolding rank
rank_small (Ref c) = omega (arith, depth_small c)
rank_small t = omega arith

-- ---- places

both_fall : (a b : Bool) (i j k l : ℕ) → Falls a i j → Falls b k l → Falls (a && b) (i + k) (j + l)
both_fall true true i j k l g h = omega (arith, g, h)
both_fall false false i j k l g h = omega (arith, g, h)
both_fall a b i j k l g h = omega (arith, g, h)

ranks : List VType → ℕ
ranks [] = 0
ranks (t ∷ ts) = rank t + ranks ts

ranks_fall : (ts us : List VType) → Falls (all_pairs same_type ts (meets ts us)) (ranks (meets ts us)) (ranks ts)
unfolding ranks
ranks_fall [] us = omega arith
ranks_fall (t ∷ ts) [] = omega (arith, rank_some t)
ranks_fall (t ∷ ts) (u ∷ us) = both_fall (same_type t (meet t u)) (all_pairs same_type ts (meets ts us)) (rank (meet t u)) (rank t) (ranks (meets ts us)) (ranks ts) (meet_falls t u) (ranks_fall ts us)

ranks_small : (ts : List VType) → ranks ts ≤ 7 * length ts
unfolding ranks
ranks_small [] = omega arith
ranks_small (t ∷ ts) = omega (arith, rank_small t, ranks_small ts)

-- ---- frames

ready_rank : Bool → ℕ
ready_rank true = 1
ready_rank false = 0

ready_falls : (a b : Bool) → Falls (same_ready a (a && b)) (ready_rank (a && b)) (ready_rank a)
unfolding ready_rank
ready_falls true true = omega arith
ready_falls a b = omega arith

ready_small : (a : Bool) → ready_rank a ≤ 1
unfolding ready_rank
ready_small true = omega arith
ready_small false = omega arith

pub types_rank : TypeFrame → ℕ
types_rank f = ranks f.stack + ranks f.locals + ready_rank f.ready

pub types_falls : (f g : TypeFrame) → Falls (same_frame f (meet_frames f g)) (types_rank (meet_frames f g)) (types_rank f)
unfolding types_rank
types_falls f g =
    let s = meets f.stack g.stack in
    let l = meets f.locals g.locals in
    let ready = f.ready && g.ready in
    both_fall (all_pairs same_type f.stack s && all_pairs same_type f.locals l) (same_ready f.ready ready) (ranks s + ranks l) (ranks f.stack + ranks f.locals) (ready_rank ready) (ready_rank f.ready)
    (both_fall (all_pairs same_type f.stack s) (all_pairs same_type f.locals l) (ranks s) (ranks f.stack) (ranks l) (ranks f.locals) (ranks_fall f.stack g.stack) (ranks_fall f.locals g.locals))
    (ready_falls f.ready g.ready)

-- a frame of few places has no great rank
pub types_small : (f : TypeFrame) (places : ℕ) → length f.stack + length f.locals ≤ places → types_rank f ≤ 7 * places + 1
unfolding types_rank
types_small f places h = omega (arith, h, ranks_small f.stack, ranks_small f.locals, ready_small f.ready)

pub meets_short : (ts us : List VType) → length (meets ts us) ≤ length ts
meets_short (t ∷ ts) (u ∷ us) = omega (arith, meets_short ts us)
meets_short ts us = omega arith
