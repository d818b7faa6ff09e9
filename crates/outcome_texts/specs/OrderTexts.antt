-- An order as stretches, each of events that one worker makes one after the other, as `./run
-- --order` reads it: `1x13,2x22`.
use Rattle.std.specs.Prelude.{ℕ, ◌+◌, ◌==◌, List, [], ◌∷◌, ◌++◌, codes, if◌then◌else◌}
use Rattle.std.specs.Fmt.{decimal}

abbrev pub stretch : (worker events : ℕ) → List ℕ
stretch worker events = decimal worker ++ codes "x" ++ decimal events

-- a worker has made so many events when those of the list come
abbrev pub stretches_from : (worker events : ℕ) → List ℕ → List ℕ
stretches_from worker events [] = stretch worker events
stretches_from worker events (t ∷ ts) =
    if t == worker then stretches_from worker (events + 1) ts
    else stretch worker events ++ codes "," ++ stretches_from t 1 ts

-- a dash where there are no events
abbrev pub order_text : List ℕ → List ℕ
order_text [] = codes "-"
order_text (t ∷ ts) = stretches_from t 1 ts
