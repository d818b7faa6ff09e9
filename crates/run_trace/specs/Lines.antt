-- The lines that are told of a run, each of an event by its number, and those that are asked for.
use Rattle.std.specs.Prelude.{ℕ, ◌+◌, ◌==◌, nat_le, nat_lt, Bool, ◌&&◌, List, [], ◌∷◌, ◌++◌, take}
use Rattle.std.specs.Prelude.{Option, Some, None, if◌then◌else◌}
use Rattle.std.specs.List.{filter, flat_map}
use Rattle.run_trace.specs.declared.events.Part.{Part}

pub record TraceLine : Type 0 where
  pub number : ℕ
  -- how the threads stand before the event
  pub standings : List ℕ
  pub text : List ℕ

abbrev pub with_line : Option TraceLine → List TraceLine → List TraceLine
with_line None lines = lines
with_line (Some l) lines = l ∷ lines

-- those from a number on, so many at most
abbrev pub lines_shown : Part → List TraceLine → List TraceLine
lines_shown part lines = take part.count (filter (λ l. nat_le part.from l.number) lines)

-- where they need not begin with the first event, how the threads stand comes before them
abbrev pub lines_text : (from : ℕ) → List TraceLine → List ℕ
lines_text from [] = []
lines_text from (l ∷ ls) =
    (if nat_lt 1 from then l.standings else []) ++ flat_map (λ x. x.text) (l ∷ ls)

abbrev pub shown_text : Part → List TraceLine → List ℕ
shown_text part lines = lines_text part.from (lines_shown part lines)

-- ---- one more, behind so many that are shown

abbrev pub is_shown : Part → (shown number : ℕ) → Bool
is_shown part shown number = nat_le part.from number && nat_lt shown part.count

abbrev pub has_standings : Part → (shown : ℕ) → Bool
has_standings part shown = (shown == 0) && nat_lt 1 part.from

abbrev pub standings_due : Part → (shown : ℕ) → (standings : List ℕ) → List ℕ
standings_due part shown standings = if has_standings part shown then standings else []

abbrev pub put_text : Part → (shown : ℕ) → Option TraceLine → List ℕ
put_text part shown None = []
put_text part shown (Some l) =
    if is_shown part shown l.number then standings_due part shown l.standings ++ l.text else []

abbrev pub shown_behind : Part → (shown : ℕ) → Option TraceLine → ℕ
shown_behind part shown None = shown
shown_behind part shown (Some l) = if is_shown part shown l.number then shown + 1 else shown
