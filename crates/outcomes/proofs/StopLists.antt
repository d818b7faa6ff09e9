-- The threads that are kept, one by one.
use Rattle.std.proofs.Common.{◌≡◌, ℕ, zero, suc, ◌+◌, ◌<◌, List, [], ◌∷◌, ◌++◌, length, drop, Some, refl, ap, append_assoc, add-one, arith, slice_get}
use Rattle.std.specs.Option.{option_map, option_to_list}
use Rattle.machine_types.specs.PlainState.{Holding, PlainThread}
use Rattle.outcomes.specs.{Stops.{stop_of, stopped_by, stopped_from}, declared.stopping.Stopped.Stopped}

-- what is left of some threads: the one of this number, and those behind it
got_left : (xs : List PlainThread) (i : ℕ) → i < length xs → (x : PlainThread) × (slice_get xs i ≡ Some x) × (drop i xs ≡ x ∷ drop (suc i) xs)
got_left [] i within = absurd (omega arith)
got_left (x ∷ xs) zero within = (x, refl, refl)
got_left (x ∷ xs) (suc i) within = got_left xs i (omega arith)

pub one_more_stopped : (hs : List Holding) (t : ℕ) (xs : List PlainThread) (rows now all : List Stopped) → t < length xs → ((x : PlainThread) → slice_get xs t ≡ Some x → now ≡ rows ++ option_to_list (option_map (stopped_by hs t x) (stop_of x.status))) → rows ++ stopped_from hs t (drop t xs) ≡ all → now ++ stopped_from hs (t + 1) (drop (t + 1) xs) ≡ all
one_more_stopped hs t xs rows now all within made before =
    let got = got_left xs t within in
    let here : List Stopped = option_to_list (option_map (stopped_by hs t got.0) (stop_of got.0.status)) in
    let gone : drop t xs ≡ got.0 ∷ drop (t + 1) xs = rw add-one got.2 in
    let more : stopped_from hs t (drop t xs) ≡ here ++ stopped_from hs (t + 1) (drop (t + 1) xs) = ap (stopped_from hs t) gone in
    rw (made got.0 got.1) (rw append_assoc (rw (← more) before))
