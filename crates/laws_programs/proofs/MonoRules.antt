-- The rules at one instruction, but those on uninitialised objects: where none is broken at a frame, none is below it.
use Rattle.std.proofs.Common.{◌≡◌, ℕ, zero, suc, ◌-◌, ◌+◌, Bool, true, false, not, ◌||◌, List, [], ◌∷◌, length, Option, Some, None, refl, ap, ◌∙◌, nat_lt, slice_get}
use Rattle.std.proofs.lemmas.Bool.{or_parts, or_from, not-false}
use Rattle.jvm_types.specs.{Types.{TypeFrame, is_below, all_pairs, frame_below}, declared.{code.Insn.Insn, op_row.{OpRow.OpRow, Want.Want}, program.MethodInfo.MethodInfo, refusal.VRule.VRule}}
use Rattle.jvm_types.specs.Verifying.{suits, some_taken, is_fault_at_local, some_read, first_broken, takes_too_many, gives_too_many, names_no_local, lacks_locals, misuses_object, mistypes, broken_before}
use Rattle.jvm_types.{specs.declared.{refusal.VRule.TheVariants.{V1, V2, V3, V4, V7}, typing.VType.VType}, proofs.FrameOrder.{pairs_length, stack_below, locals_below}}
use Rattle.laws_programs.proofs.{MonoFrames.{mismatch, head_below, tail_below}, MonoTypes.suits_below}

-- ---- types of operands

match_below : (m : MethodInfo) (want : Want) (t u : VType) → is_below t u ≡ true → mismatch m want u ≡ false → mismatch m want t ≡ false
match_below m want t u h k = ap not (suits_below m want t u h (not-false (suits m want u) k))

taken_below : (m : MethodInfo) (wants : List Want) (ts us : List VType) → all_pairs is_below ts us ≡ true → some_taken (mismatch m) wants us ≡ false → some_taken (mismatch m) wants ts ≡ false
taken_below m (want ∷ wants) (t ∷ ts) [] h k = absurd (cc)
taken_below m (want ∷ wants) (t ∷ ts) (u ∷ us) h k =
    let parts = or_parts (mismatch m want u) (some_taken (mismatch m) wants us) k in
    or_from (mismatch m want t) (some_taken (mismatch m) wants ts) (match_below m want t u (head_below t u ts us h) parts.0) (taken_below m wants ts us (tail_below t u ts us h) parts.1)
taken_below m wants ts us h k = refl

local_below : (m : MethodInfo) (want : Want) (ts us : List VType) (i : ℕ) → all_pairs is_below ts us ≡ true → is_fault_at_local (mismatch m) want (slice_get us i) ≡ false
    → is_fault_at_local (mismatch m) want (slice_get ts i) ≡ false
local_below m want [] us i h k = refl
local_below m want (t ∷ ts) [] i h k = absurd (cc)
local_below m want (t ∷ ts) (u ∷ us) zero h k = match_below m want t u (head_below t u ts us h) k
local_below m want (t ∷ ts) (u ∷ us) (suc i) h k = local_below m want ts us i (tail_below t u ts us h) k

read_below : (m : MethodInfo) (read : Option (ℕ × Want)) (ts us : List VType) → all_pairs is_below ts us ≡ true → some_read (mismatch m) read us ≡ false
    → some_read (mismatch m) read ts ≡ false
read_below m None ts us h k = refl
read_below m (Some read) ts us h k = local_below m read.1 ts us read.0 h k

types_below : (m : MethodInfo) (r : OpRow) (f g : TypeFrame) → frame_below f g ≡ true → mistypes m r g ≡ false → mistypes m r f ≡ false
types_below m r f g h k =
    let parts = or_parts (some_taken (mismatch m) r.takes g.stack) (some_read (mismatch m) r.reads g.locals) k in
    or_from (some_taken (mismatch m) r.takes f.stack) (some_read (mismatch m) r.reads f.locals)
    (taken_below m r.takes f.stack g.stack (stack_below f g h) parts.0) (read_below m r.reads f.locals g.locals (locals_below f g h) parts.1)

pub taken_suit : (m : MethodInfo) (r : OpRow) (g : TypeFrame) → mistypes m r g ≡ false → some_taken (mismatch m) r.takes g.stack ≡ false
taken_suit m r g k = (or_parts (some_taken (mismatch m) r.takes g.stack) (some_read (mismatch m) r.reads g.locals) k).0

-- ---- depths and numbers of locals

same_depth : (f g : TypeFrame) → frame_below f g ≡ true → length f.stack ≡ length g.stack
same_depth f g h = pairs_length f.stack g.stack (stack_below f g h)

takes_below : (r : OpRow) (f g : TypeFrame) → frame_below f g ≡ true → takes_too_many r f ≡ takes_too_many r g
takes_below r f g h = ap (λ n. nat_lt n (length r.takes)) (same_depth f g h)

gives_below : (m : MethodInfo) (r : OpRow) (f g : TypeFrame) → frame_below f g ≡ true → gives_too_many m r f ≡ gives_too_many m r g
gives_below m r f g h = ap (λ n. nat_lt m.max_stack (n - length r.takes + length r.gives)) (same_depth f g h)

lacks_below : (m : MethodInfo) (r : OpRow) (f g : TypeFrame) → frame_below f g ≡ true → lacks_locals m r f ≡ lacks_locals m r g
lacks_below m r f g h = ap (λ n. names_no_local m r.reads || names_no_local m r.writes || nat_lt m.max_locals n) (pairs_length f.locals g.locals (locals_below f g h))

-- ---- the rules in their order

abbrev order : Bool → Bool → Bool → Bool → Bool → Option VRule
order a b c d e = first_broken ((a, V1) ∷ (b, V2) ∷ (c, V3) ∷ (d, V7) ∷ (e, V4) ∷ [])

record NoneHolds (a b c e : Bool) : Type 0 where
  first : a ≡ false
  second : b ≡ false
  third : c ≡ false
  last : e ≡ false

none_holds : (a b c d e : Bool) → order a b c d e ≡ None → NoneHolds a b c e
none_holds false false false false false h = record { first = refl; second = refl; third = refl; last = refl }
none_holds a b c d e h = absurd (cc)

v7_is_left : (a b c d e : Bool) (rule : VRule) → NoneHolds a b c e → order a b c d e ≡ Some rule → rule ≡ V7
v7_is_left true b c d e rule n h = absurd (cc)
v7_is_left false false false true e rule n h = cc
v7_is_left a b c d e rule n h = absurd (cc)

none_at : (m : MethodInfo) (insn : Insn) (r : OpRow) (g : TypeFrame) → broken_before m insn r g ≡ None → NoneHolds (takes_too_many r g) (gives_too_many m r g) (lacks_locals m r g) (mistypes m r g)
none_at m insn r g h = none_holds (takes_too_many r g) (gives_too_many m r g) (lacks_locals m r g) (misuses_object m insn r g) (mistypes m r g) h

-- where no rule is broken at a frame, none but V7 is broken below it
pub v7_alone : (m : MethodInfo) (insn : Insn) (r : OpRow) (f g : TypeFrame) → frame_below f g ≡ true → broken_before m insn r g ≡ None
    → (rule : VRule) → broken_before m insn r f ≡ Some rule → rule ≡ V7
v7_alone m insn r f g h k rule broken =
    let n = none_at m insn r g k in
    v7_is_left (takes_too_many r f) (gives_too_many m r f) (lacks_locals m r f) (misuses_object m insn r f) (mistypes m r f) rule
    (record { first = takes_below r f g h ∙ n.first; second = gives_below m r f g h ∙ n.second; third = lacks_below m r f g h ∙ n.third; last = types_below m r f g h n.last })
    broken

-- and the values that are taken are of the types that are asked for
pub suit_at : (m : MethodInfo) (insn : Insn) (r : OpRow) (g : TypeFrame) → broken_before m insn r g ≡ None → some_taken (mismatch m) r.takes g.stack ≡ false
suit_at m insn r g k = taken_suit m r g (none_at m insn r g k).last
