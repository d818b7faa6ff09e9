-- An event of a thread in no attempt prints what its plain steps print, and its ticket is the number of prints so far.
use Rattle.std.proofs.Common.{◌≡◌, ℕ, Bool, true, false, cond, List, Option, Some, None, sym, ap, ◌∙◌, subst, option_map, slice_index}
use Rattle.lists.proofs.ListLaws.{same_some}
use Rattle.jvm_types.specs.declared.{fixed_words.TheConstants.NEXT_TICKET_WORD, outcome.Print.Print}
use Rattle.checked_program.specs.MarkedProgram.{MarkedProgram, IsMarked}
use Rattle.machine_types.specs.{Accesses.found_by, Agreement.{StatusFits, has_wait_bit}, Core.{Core, event_of, event_by, outcome}, Events.{wanted, moved}, Faithful.PrintsFit}
use Rattle.machine_types.specs.{Frames.{Top, top_of, effect_at}, History.{acts_of, steps_of}, Instructions.{has_print_left, effect_wants, run_wants}, Ints.int_of, Owners.references_of}
use Rattle.machine_types.specs.{PlainLaws.InstructionsChangeMemory, PlainSteps.plain_run, Structure.{IsAs, Stands}, Threads.{Attempt, Frame, Thread}, declared.access.Access.TheVariants.Add}
use Rattle.machine_types.specs.declared.{effect.Effect.{Effect, TheVariants.Prints}, lock.Held.Held, phase.Phase.Phase}
use Rattle.laws_simulation.{specs.OutcomeLaws.{PrintsAreKept, found_now}, proofs.{CountedEvents.{effect_print, top_print, new_print}, EventCounts.{tallied, turn_of}}}
use Rattle.laws_simulation.proofs.{OutcomePrints.{fit_of, prints_of, printed_by}, OwnThread.own, PlainPrints.{with_printed, ElementShows, element_shows, printed_at}}
use Rattle.machine_types.specs.declared.phase.Phase.TheVariants as phases

shows_at : (c : MarkedProgram) (phase was : Phase) (fs : List Frame) (held : List Held) (attempt : Option Attempt) → IsMarked c → IsAs phase was → Stands c was fs held attempt → ElementShows c.program phase fs
shows_at c (phases.Element word stored) was fs held attempt marked is stands = element_shows c word stored fs marked (subst (λ (p : Phase). Stands c p fs held attempt) is stands).phase_shows
shows_at c phase was fs held attempt marked is stands = tt

-- ---- the ticket is the word that was found

ticket_by : (b : Bool) (n : ℕ) (words : List ℕ) (p : Print) → cond b (Some (record { ticket = found_by words (cond b (Some (Add NEXT_TICKET_WORD 1)) None); value = int_of n })) None ≡ Some p → p.ticket ≡ slice_index words NEXT_TICKET_WORD
ticket_by true n words p e = ap (λ (z : Print). z.ticket) (sym (same_some e))
ticket_by false n words p e = absurd (cc)

effect_ticket : (s : Thread) (pc : ℕ) (e : Effect) (words : List ℕ) (p : Print) → effect_print s e (found_by words (effect_wants s pc e)) ≡ Some p → p.ticket ≡ slice_index words NEXT_TICKET_WORD
effect_ticket s pc (Prints n) words p e = ticket_by (has_print_left s) n words p e
effect_ticket s pc e words p f = absurd (cc)

top_ticket : (c : MarkedProgram) (s : Thread) (o : Option Top) (words : List ℕ) (p : Print) → top_print c.program s o (found_by words (run_wants c.program s o)) ≡ Some p → p.ticket ≡ slice_index words NEXT_TICKET_WORD
top_ticket c s None words p e = absurd (cc)
top_ticket c s (Some at) words p e = effect_ticket s at.frame.pc (effect_at c.program at) words p e

ticket_found : (c : MarkedProgram) (s : Thread) (phase : Phase) (words : List ℕ) (p : Print) → new_print c.program s phase (found_by words (wanted c s phase)) ≡ Some p → p.ticket ≡ slice_index words NEXT_TICKET_WORD
ticket_found c s phases.Run words p e = top_ticket c s (top_of c.program s.frames) words p e
ticket_found c s phase words p e = absurd (cc)

-- ---- all of it

pub prints_are_kept : InstructionsChangeMemory → PrintsAreKept
prints_are_kept memory c cfg objects was s t x q after h fit =
    let m = own (turn_of h) in
    let y = m.plain in
    let got = found_now c s x in
    let bit : ℕ → Bool = has_wait_bit (references_of q.objects) s.words t in
    let structured = h.facts.structure t x h.thread in
    let status = subst (λ (a : Option Attempt). StatusFits bit (record x { attempt = a }) x.phase y.status) h.outside m.fits.status in
    let run = subst (λ (a : Option Attempt). plain_run c.program q (steps_of t (acts_of c (record x { attempt = a }) x.phase got)) ≡ Some after) h.outside h.run in
    let later = subst (λ (a : Option Attempt). after.prints ≡ with_printed t q.prints (option_map (λ (p : Print). p.value) (new_print c.program (record x { attempt = a }) x.phase got))) (sym h.outside)
    (printed_at memory (turn_of h) after got x.phase status m.fits.frames (shows_at c x.phase (was t) x.frames x.held x.attempt h.marked structured.is_as structured.stands) run) in
    let now : Core = event_by c s t x (wanted c x x.phase) in
    let one : PrintsFit (outcome now) after =
    prints_of now after (printed_by s.threads t x (moved c x x.phase got) h.thread q.prints after.prints (new_print c.program x x.phase got) (tallied (turn_of h) after h.run).prints later
    (λ p e. ticket_found c x x.phase s.words p e ∙ h.beside.agrees.prints) (fit_of s q fit)) in
    subst (λ (o : Option Thread). PrintsFit (outcome (event_of c s t o)) after) (sym h.thread) one
