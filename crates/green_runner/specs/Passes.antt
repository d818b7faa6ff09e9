-- A pass over the threads of hands: each has a turn of so many events.
use Rattle.std.specs.Prelude.{◌≡◌, ℕ, zero, suc, ◌<◌, ◌≤◌, true, false, List, [], ◌∷◌}
use Rattle.machine_types.specs.Core.{is_live_thread}
use Rattle.table_rule.specs.Views.{held_in}
use Rattle.table_runner.specs.Handed.{Handed, IsEventOf}

-- hands behind so many events of thread t, each of which finds it live
abbrev pub MakeEvents : (t n : ℕ) → Handed → Handed → Type 0
MakeEvents t zero h after = after ≡ h
MakeEvents t (suc n) h after =
    (is_live_thread (held_in h.threads t) ≡ true)
    × ((next : Handed) × IsEventOf h t next × MakeEvents t n next after)

-- behind a turn of thread t: so many events, or fewer and it is not live
pub record HasTakenTurn (turn t : ℕ) (h after : Handed) : Type 0 where
  pub events : ℕ
  pub few : events ≤ turn
  pub made : MakeEvents t events h after
  pub over : events < turn → is_live_thread (held_in after.threads t) ≡ false

-- one turn after the other
abbrev pub HaveTurns : (turn : ℕ) → (numbers : List ℕ) → Handed → Handed → Type 0
HaveTurns turn [] h after = after ≡ h
HaveTurns turn (t ∷ ts) h after =
    (next : Handed) × HasTakenTurn turn t h next × HaveTurns turn ts next after
