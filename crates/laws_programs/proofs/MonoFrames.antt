-- What a row does to two frames of which one is below the other, where its `<init>` is called on what it may be.
use Rattle.std.proofs.Common.{◌≡◌, ℕ, zero, suc, Bool, true, false, not, ◌||◌, List, [], ◌∷◌, ◌++◌, length, map, drop, Option, Some, None, refl, ap, sym, subst, ◌∙◌, slice_set, slice_index_or, if◌then◌else◌}
use Rattle.std.proofs.lemmas.Bool.{and_parts, and_from, not-false, or_parts}
use Rattle.jvm_types.specs.{CodeTable.{value_of, stack_after, locals_after}, Types.{TypeFrame, is_below, is_uninitialised, same_type, all_pairs, frame_below}}
use Rattle.jvm_types.specs.{Verifying.{suits, some_taken, started, initialised, after_start, frame_after}, declared.op_row.{Given.{Given, TheVariants.{Fresh, Taken, Local}}, OpRow.OpRow, Want.Want}}
use Rattle.jvm_types.specs.declared.{op_row.Want.TheVariants.{AnyValue, AnInt, AnObject, AnyReference, AHolder, ToStart}, program.MethodInfo.MethodInfo, typing.VType.VType}
use Rattle.jvm_types.{specs.declared.typing.VType.TheVariants.{Ref, This, Top}, proofs.{FrameOrder.{parts_below, stack_below, locals_below, ready_below}, TypeOrder.below_self}}
use Rattle.laws_programs.proofs.MonoTypes.{below_object, one_initialised, suits_start}

-- ---- places

pub head_below : (t u : VType) (ts us : List VType) → all_pairs is_below (t ∷ ts) (u ∷ us) ≡ true → is_below t u ≡ true
head_below t u ts us h = (and_parts (is_below t u) (all_pairs is_below ts us) h).0

pub tail_below : (t u : VType) (ts us : List VType) → all_pairs is_below (t ∷ ts) (u ∷ us) ≡ true → all_pairs is_below ts us ≡ true
tail_below t u ts us h = (and_parts (is_below t u) (all_pairs is_below ts us) h).1

cons_below : (t u : VType) (ts us : List VType) → is_below t u ≡ true → all_pairs is_below ts us ≡ true → all_pairs is_below (t ∷ ts) (u ∷ us) ≡ true
cons_below t u ts us h k = and_from (is_below t u) (all_pairs is_below ts us) h k

item_below : (none : VType) (ts us : List VType) (i : ℕ) → all_pairs is_below ts us ≡ true → is_below (slice_index_or ts i none) (slice_index_or us i none) ≡ true
item_below none [] [] i h = below_self none
item_below none (t ∷ ts) (u ∷ us) zero h = head_below t u ts us h
item_below none (t ∷ ts) (u ∷ us) (suc i) h = item_below none ts us i (tail_below t u ts us h)
item_below none ts us i h = absurd (cc)

set_below : (v w : VType) (ts us : List VType) (i : ℕ) → all_pairs is_below ts us ≡ true → is_below v w ≡ true → all_pairs is_below (slice_set ts i v) (slice_set us i w) ≡ true
set_below v w [] [] i h k = refl
set_below v w (t ∷ ts) (u ∷ us) zero h k = cons_below v w ts us k (tail_below t u ts us h)
set_below v w (t ∷ ts) (u ∷ us) (suc i) h k = cons_below t u (slice_set ts i v) (slice_set us i w) (head_below t u ts us h) (set_below v w ts us i (tail_below t u ts us h) k)
set_below v w ts us i h k = absurd (cc)

drop_below : (n : ℕ) (ts us : List VType) → all_pairs is_below ts us ≡ true → all_pairs is_below (drop n ts) (drop n us) ≡ true
drop_below zero ts us h = h
drop_below (suc n) [] [] h = refl
drop_below (suc n) (t ∷ ts) (u ∷ us) h = drop_below n ts us (tail_below t u ts us h)
drop_below n ts us h = absurd (cc)

-- ---- what a row gives

value_below : (f g : TypeFrame) → frame_below f g ≡ true → (given : Given)
    → is_below (value_of Top (λ t. t) f.stack f.locals given) (value_of Top (λ t. t) g.stack g.locals given) ≡ true
value_below f g h (Fresh type) = below_self type
value_below f g h (Taken place) = item_below Top f.stack g.stack place (stack_below f g h)
value_below f g h (Local i) = item_below Top f.locals g.locals i (locals_below f g h)

given_below : (f g : TypeFrame) → frame_below f g ≡ true → (gives : List Given) (ts us : List VType) → all_pairs is_below ts us ≡ true
    → all_pairs is_below (map (value_of Top (λ t. t) f.stack f.locals) gives ++ ts) (map (value_of Top (λ t. t) g.stack g.locals) gives ++ us) ≡ true
given_below f g h [] ts us k = k
given_below f g h (given ∷ gives) ts us k = cons_below (value_of Top (λ t. t) f.stack f.locals given) (value_of Top (λ t. t) g.stack g.locals given)
    (map (value_of Top (λ t. t) f.stack f.locals) gives ++ ts) (map (value_of Top (λ t. t) g.stack g.locals) gives ++ us)
    (value_below f g h given) (given_below f g h gives ts us k)

written_below : (f g : TypeFrame) → frame_below f g ≡ true → (write : Option (ℕ × Given))
    → all_pairs is_below (locals_after Top (λ t. t) write f.stack f.locals) (locals_after Top (λ t. t) write g.stack g.locals) ≡ true
written_below f g h None = locals_below f g h
written_below f g h (Some write) = set_below (value_of Top (λ t. t) f.stack f.locals write.1) (value_of Top (λ t. t) g.stack g.locals write.1)
    f.locals g.locals write.0 (locals_below f g h) (value_below f g h write.1)

-- the frame that the row makes, before an `<init>` changes its object
abbrev made : OpRow → TypeFrame → TypeFrame
made r f = record { stack = stack_after Top (λ t. t) r f.stack f.locals; locals = locals_after Top (λ t. t) r.writes f.stack f.locals; ready = f.ready }

made_below : (r : OpRow) (f g : TypeFrame) → frame_below f g ≡ true → frame_below (made r f) (made r g) ≡ true
made_below r f g h = parts_below (made r f) (made r g)
    (given_below f g h r.gives (drop (length r.takes) f.stack) (drop (length r.takes) g.stack) (drop_below (length r.takes) f.stack g.stack (stack_below f g h)))
    (written_below f g h r.writes) (ready_below f g h)

-- ---- the object that an `<init>` is called on

-- V4 at one value
abbrev pub mismatch : MethodInfo → Want → VType → Bool
mismatch m want t = not (suits m want t)

suits_here : (m : MethodInfo) (want : Want) (wants : List Want) (u : VType) (us : List VType) → some_taken (mismatch m) (want ∷ wants) (u ∷ us) ≡ false → suits m want u ≡ true
suits_here m want wants u us h = not-false (suits m want u) (or_parts (mismatch m want u) (some_taken (mismatch m) wants us) h).0

suit_after : (m : MethodInfo) (want : Want) (wants : List Want) (u : VType) (us : List VType) → some_taken (mismatch m) (want ∷ wants) (u ∷ us) ≡ false → some_taken (mismatch m) wants us ≡ false
suit_after m want wants u us h = (or_parts (mismatch m want u) (some_taken (mismatch m) wants us) h).1

starts_with : (own class : ℕ) (wants : List Want) (t : VType) (ts us : List VType) → started own (ToStart class ∷ wants) (t ∷ ts) ≡ started own (ToStart class ∷ wants) (t ∷ us)
starts_with own class wants This ts us = refl
starts_with own class wants t ts us = refl

pub same_started : (m : MethodInfo) (own : ℕ) (wants : List Want) (ts us : List VType) → all_pairs is_below ts us ≡ true → some_taken (mismatch m) wants us ≡ false
    → started own wants ts ≡ started own wants us
same_started m own (want ∷ wants) [] (u ∷ us) h k = absurd (cc)
same_started m own (want ∷ wants) (t ∷ ts) [] h k = absurd (cc)
same_started m own (ToStart class ∷ wants) (t ∷ ts) (u ∷ us) h k = starts_with own class wants t ts us
    ∙ ap (λ v. started own (ToStart class ∷ wants) (v ∷ us)) (below_object t u (suits_start m class u (suits_here m (ToStart class) wants u us k)) (head_below t u ts us h))
same_started m own (AnyValue ∷ wants) (t ∷ ts) (u ∷ us) h k = same_started m own wants ts us (tail_below t u ts us h) (suit_after m AnyValue wants u us k)
same_started m own (AnInt ∷ wants) (t ∷ ts) (u ∷ us) h k = same_started m own wants ts us (tail_below t u ts us h) (suit_after m AnInt wants u us k)
same_started m own (AnObject class ∷ wants) (t ∷ ts) (u ∷ us) h k = same_started m own wants ts us (tail_below t u ts us h) (suit_after m (AnObject class) wants u us k)
same_started m own (AnyReference ∷ wants) (t ∷ ts) (u ∷ us) h k = same_started m own wants ts us (tail_below t u ts us h) (suit_after m AnyReference wants u us k)
same_started m own (AHolder class ∷ wants) (t ∷ ts) (u ∷ us) h k = same_started m own wants ts us (tail_below t u ts us h) (suit_after m (AHolder class) wants u us k)
same_started m own wants ts us h k = refl

-- it is uninitialised
abbrev IsUnstarted : Option (VType × ℕ) → Type 0
IsUnstarted None = Unit {0}
IsUnstarted (Some object) = is_uninitialised object.0 ≡ true

unstarted_first : (own class : ℕ) (wants : List Want) (t : VType) (ts : List VType) → is_uninitialised t ≡ true → IsUnstarted (started own (ToStart class ∷ wants) (t ∷ ts))
unstarted_first own class wants This ts h = refl
unstarted_first own class wants t ts h = h

is_unstarted : (m : MethodInfo) (own : ℕ) (wants : List Want) (us : List VType) → some_taken (mismatch m) wants us ≡ false → IsUnstarted (started own wants us)
is_unstarted m own (ToStart class ∷ wants) (u ∷ us) k = unstarted_first own class wants u us (suits_start m class u (suits_here m (ToStart class) wants u us k))
is_unstarted m own (AnyValue ∷ wants) (u ∷ us) k = is_unstarted m own wants us (suit_after m AnyValue wants u us k)
is_unstarted m own (AnInt ∷ wants) (u ∷ us) k = is_unstarted m own wants us (suit_after m AnInt wants u us k)
is_unstarted m own (AnObject class ∷ wants) (u ∷ us) k = is_unstarted m own wants us (suit_after m (AnObject class) wants u us k)
is_unstarted m own (AnyReference ∷ wants) (u ∷ us) k = is_unstarted m own wants us (suit_after m AnyReference wants u us k)
is_unstarted m own (AHolder class ∷ wants) (u ∷ us) k = is_unstarted m own wants us (suit_after m (AHolder class) wants u us k)
is_unstarted m own wants us k = tt

initialised_below : (o : VType) (class : ℕ) → is_uninitialised o ≡ true → (ts us : List VType) → all_pairs is_below ts us ≡ true
    → all_pairs is_below (initialised o class ts) (initialised o class us) ≡ true
initialised_below o class e [] [] h = refl
initialised_below o class e (t ∷ ts) (u ∷ us) h = cons_below (if same_type o t then Ref class else t) (if same_type o u then Ref class else u)
    (initialised o class ts) (initialised o class us) (one_initialised o class t u e (head_below t u ts us h)) (initialised_below o class e ts us (tail_below t u ts us h))
initialised_below o class e ts us h = absurd (cc)

ready_both : (a b c : Bool) → (a || not b) ≡ true → ((a || c) || not (b || c)) ≡ true
ready_both false true c h = absurd (cc)
ready_both false false true h = refl
ready_both a b c h = refl

start_below : (o : Option (VType × ℕ)) (f g : TypeFrame) → IsUnstarted o → frame_below f g ≡ true → frame_below (after_start o f) (after_start o g) ≡ true
start_below None f g e h = h
start_below (Some object) f g e h = parts_below (after_start (Some object) f) (after_start (Some object) g)
    (initialised_below object.0 object.1 e f.stack g.stack (stack_below f g h)) (initialised_below object.0 object.1 e f.locals g.locals (locals_below f g h))
    (ready_both f.ready g.ready (same_type object.0 This) (ready_below f g h))

-- ---- the frame after an instruction

pub after_below : (m : MethodInfo) (r : OpRow) (f g : TypeFrame) → frame_below f g ≡ true → some_taken (mismatch m) r.takes g.stack ≡ false
    → frame_below (frame_after m r f) (frame_after m r g) ≡ true
after_below m r f g h k = subst (λ (o : Option (VType × ℕ)). frame_below (after_start o (made r f)) (after_start (started m.class r.takes g.stack) (made r g)) ≡ true)
    (sym (same_started m m.class r.takes f.stack g.stack (stack_below f g h) k))
    (start_below (started m.class r.takes g.stack) (made r f) (made r g) (is_unstarted m m.class r.takes g.stack k) (made_below r f g h))
