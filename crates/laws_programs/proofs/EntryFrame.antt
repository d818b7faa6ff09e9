-- The locals of the frame that a method begins with, place by place.
use Rattle.std.proofs.Common.{◌≡◌, ℕ, zero, suc, ◌+◌, ◌-◌, ◌<◌, ◌≤◌, Bool, true, false, cond, List, [], ◌∷◌, ◌++◌, length, map, replicate, Some, refl, ap, ◌∙◌, arith, length-append, slice_get}
use Rattle.std.{specs.Option.option_map, proofs.lemmas.{List.length-map, Option.slice_get-map}}
use Rattle.jvm_types.{specs.{CodeTable.type_of, Members.is_static, Types.receiver_types, declared.{program.MethodInfo.MethodInfo, typing.VType.{VType, TheVariants.Top}}}, proofs.EachAfter.front_at}
use Rattle.laws_programs.{specs.EntryLaws.{receiver_count, ArgumentsFit, EntryFramesFit, EntryHasReceiver, EntryHasArguments, EntryHasNoMore}, proofs.FrameLast.entry_locals}

-- ---- lists

behind_at : {X : Type 0} (xs ys : List X) (i : ℕ) (x : X) → length xs ≤ i → slice_get ys (i - length xs) ≡ Some x → slice_get (xs ++ ys) i ≡ Some x
behind_at [] ys i x h e = ap (slice_get ys) (omega arith) ∙ e
behind_at (y ∷ xs) ys zero x h e = absurd (omega (arith, h))
behind_at (y ∷ xs) ys (suc i) x h e = behind_at xs ys i x (omega (arith, h)) (ap (slice_get ys) (omega arith) ∙ e)

repeated_at : {X : Type 0} (n i : ℕ) (x : X) → i < n → slice_get (replicate n x) i ≡ Some x
repeated_at zero i x h = absurd (omega (arith, h))
repeated_at (suc n) zero x h = refl
repeated_at (suc n) (suc i) x h = repeated_at n i x (omega (arith, h))

-- ---- the receiver

abbrev first_types : Bool → VType → List VType
first_types static t = cond static [] (t ∷ [])

abbrev first_count : Bool → ℕ
first_count static = cond static 0 1

first_long : (static : Bool) (t : VType) → length (first_types static t) ≡ first_count static
first_long true t = refl
first_long false t = refl

receiver_long : (m : MethodInfo) → length (receiver_types m) ≡ receiver_count m
receiver_long m = first_long (is_static m.flags) _

-- receiver and arguments
abbrev given : MethodInfo → List VType
given m = receiver_types m ++ map type_of m.args

given_long : (m : MethodInfo) → length (given m) ≡ receiver_count m + length m.args
given_long m = length-append (receiver_types m) (map type_of m.args) ∙ ap (λ n. n + length (map type_of m.args)) (receiver_long m) ∙ ap (λ n. receiver_count m + n) (length-map m.args type_of)

-- ---- the laws

pub entry_fits_all : EntryFramesFit
entry_fits_all p m frames laid typed = entry_locals p m frames laid typed

pub arguments_fit_all : ArgumentsFit
arguments_fit_all p m frames laid typed = omega (arith, given_long m, length-append (given m) (replicate (m.max_locals - length (given m)) Top), entry_locals p m frames laid typed)

first_at : (static : Bool) (t : VType) (us vs : List VType) → static ≡ false → slice_get (first_types static t ++ us ++ vs) 0 ≡ Some t
first_at true t us vs e = absurd (cc)
first_at false t us vs e = refl

pub has_receiver : EntryHasReceiver
has_receiver m e = first_at (is_static m.flags) _ (map type_of m.args) _ e

pub has_arguments : EntryHasArguments
has_arguments m i kind e =
    front_at (given m) _ (receiver_count m + i) (type_of kind)
    (behind_at (receiver_types m) (map type_of m.args) (receiver_count m + i) (type_of kind) (omega (arith, receiver_long m))
    (ap (slice_get (map type_of m.args)) (omega (arith, receiver_long m)) ∙ slice_get-map type_of m.args i ∙ ap (option_map type_of) e))

pub has_no_more : EntryHasNoMore
has_no_more m i h k =
    behind_at (given m) (replicate (m.max_locals - length (given m)) Top) i Top (omega (arith, h, given_long m))
    (repeated_at (m.max_locals - length (given m)) (i - length (given m)) Top (omega (arith, h, k, given_long m)))
