-- A run with one turn more.
use Rattle.std.{proofs.{Common.{◌≡◌, ℕ, List, [], ◌∷◌, ◌++◌, Option, Some, None, refl, sym, ap, ◌∙◌, append_assoc}, lemmas.List.append-nil}, specs.Option.option_map}
use Rattle.json_lines.specs.declared.form.Form.{Form}
use Rattle.checked_program.specs.MarkedProgram.{MarkedProgram}
use Rattle.machine_types.specs.Core.{Happening}
use Rattle.place_names.specs.declared.names.Names.{Names}
use Rattle.run_trace.specs.{EventLines.{Trail, trail_along, ends_from, event_end, trail_after, lines_from, next_line_number, seen_of_event, told_line}, Lines.{TraceLine, with_line}, Traces.number_after, declared.events.Part.Part}
use Rattle.run_trace.proofs.ShownLines.{with_more}

-- where it leads
pub trail_on : (c : MarkedProgram) (v : Trail) (hs : List Happening) (h : Happening) → trail_along c v (hs ++ h ∷ []) ≡ trail_after c (trail_along c v hs) h
trail_on c v [] h = refl
trail_on c v (g ∷ gs) h = trail_on c (trail_after c v g) gs h

-- the line of its event, if that has one
abbrev pub own_line : MarkedProgram → Names → Part → ℕ → Trail → Happening → Option TraceLine
own_line c names part n v h = told_line c names part n v.told.core v.stands (seen_of_event c v h) h

-- its lines, and those of more
pub lines_ahead : (c : MarkedProgram) (names : Names) (part : Part) (n : ℕ) (v : Trail) (gs hs : List Happening)
    → lines_from c names part n v (gs ++ hs) ≡ lines_from c names part n v gs ++ lines_from c names part (number_after n gs) (trail_along c v gs) hs
lines_ahead c names part n v [] hs = refl
lines_ahead c names part n v (g ∷ gs) hs =
    ap (with_line (own_line c names part n v g)) (lines_ahead c names part (next_line_number n) (trail_after c v g) gs hs)
    ∙ with_more (own_line c names part n v g) (lines_from c names part (next_line_number n) (trail_after c v g) gs) (lines_from c names part (number_after (next_line_number n) gs) (trail_along c (trail_after c v g) gs) hs)

pub lines_on : (c : MarkedProgram) (names : Names) (part : Part) (n : ℕ) (v : Trail) (hs : List Happening) (h : Happening)
    → lines_from c names part n v (hs ++ h ∷ []) ≡ lines_from c names part n v hs ++ with_line (own_line c names part (number_after n hs) (trail_along c v hs) h) []
lines_on c names part n v hs h = lines_ahead c names part n v hs (h ∷ [])

-- its ends, and the number behind it

pub ends_on : (c : MarkedProgram) (names : Names) (form : Form) (n : ℕ) (v : Trail) (hs : List Happening) (h : Happening)
    → ends_from c names form n v (hs ++ h ∷ []) ≡ ends_from c names form n v hs ++ event_end c names form (number_after n hs) (trail_along c v hs).told.core (seen_of_event c (trail_along c v hs) h) h
ends_on c names form n v [] h = append-nil (event_end c names form n v.told.core (seen_of_event c v h) h)
ends_on c names form n v (g ∷ gs) h =
    ap (λ (text : List ℕ). event_end c names form n v.told.core (seen_of_event c v g) g ++ text) (ends_on c names form (next_line_number n) (trail_after c v g) gs h)
    ∙ sym (append_assoc (event_end c names form n v.told.core (seen_of_event c v g) g) (ends_from c names form (next_line_number n) (trail_after c v g) gs) (event_end c names form (number_after (next_line_number n) gs) (trail_along c (trail_after c v g) gs).told.core (seen_of_event c (trail_along c (trail_after c v g) gs) h) h))

pub number_on : (n : ℕ) (hs : List Happening) (h : Happening) → number_after n (hs ++ h ∷ []) ≡ next_line_number (number_after n hs)
number_on n [] h = refl
number_on n (g ∷ gs) h = number_on (next_line_number n) gs h

-- what a sink tells behind two texts
pub told_both : (first mid now : Option (List ℕ)) (a b : List ℕ) → mid ≡ option_map (λ t. t ++ a) first → now ≡ option_map (λ t. t ++ b) mid → now ≡ option_map (λ t. t ++ (a ++ b)) first
told_both first mid now a b e f = f ∙ ap (option_map (λ t. t ++ b)) e ∙ by_first first
  where
    by_first : (o : Option (List ℕ)) → option_map (λ t. t ++ b) (option_map (λ t. t ++ a) o) ≡ option_map (λ t. t ++ (a ++ b)) o
    by_first None = refl
    by_first (Some t) = ap Some (append_assoc t a b)
