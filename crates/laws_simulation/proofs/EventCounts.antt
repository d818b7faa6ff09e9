-- What the counts of a thread say of its plain steps stays so at each event outside attempts.
use Rattle.std.proofs.Common.{◌≡◌, ℕ, List, Option, Some, sym, subst, arith}
use Rattle.checked_program.specs.MarkedProgram.{MarkedProgram, IsMarked}
use Rattle.machine_types.specs.{Agreement.{StatusFits, has_wait_bit}, Core.Core, Counting.{run_at, take_at, count_along, extra_of}, Events.moved, History.{acts_of, steps_of}, Lawful.within}
use Rattle.machine_types.specs.{Owners.references_of, PlainMemory.Object, PlainState.Plain, PlainSteps.plain_run, Structure.{IsAs, Stands}, Threads.{Attempt, Frame, Thread}, Typed.PhaseHolds}
use Rattle.machine_types.specs.declared.{config.Config.Config, lock.Held.Held, phase.Phase.Phase}
use Rattle.laws_threads.proofs.TopEffects.{effects_allowed}
use Rattle.laws_simulation.{specs.OutcomeLaws.{StandsToMove, EventsAreCounted, found_now, steps_now}, proofs.{CountedEvents.{Tallied, new_print, TakesNew, IsAllowedAt, tallied_at}, OwnThread.own}}
use Rattle.laws_simulation.proofs.Turns.{Turn}
use Rattle.machine_types.specs.declared.phase.Phase.TheVariants as phases

-- ---- facts by the phase

takes_new : (c : MarkedProgram) (phase was : Phase) (fs : List Frame) (held : List Held) (attempt : Option Attempt) → IsAs phase was → Stands c was fs held attempt → TakesNew phase held
takes_new c (phases.Take m count) was fs held attempt is stands = (subst (λ (p : Phase). Stands c p fs held attempt) is stands).phase_shows.not_held
takes_new c (phases.TakeFat m r) was fs held attempt is stands = (subst (λ (p : Phase). Stands c p fs held attempt) is stands).phase_shows.not_held
takes_new c phase was fs held attempt is stands = tt

allowed_at : (c : MarkedProgram) (phase : Phase) (frames : List Frame) → IsMarked c → PhaseHolds c (within c.program) phase frames → IsAllowedAt c.program phase frames
allowed_at c phases.Run frames marked holds = λ at e. effects_allowed c frames at marked holds e
allowed_at c phase frames marked holds = tt

-- ---- all of it

abbrev pub turn_of : {c : MarkedProgram} {cfg : Config} {objects : List Object} {was : ℕ → Phase}
    {s : Core} {t : ℕ} {x : Thread} {q after : Plain} → StandsToMove c cfg objects was s t x q after → Turn
turn_of {c} {cfg} {objects} {was} {s} {t} {x} {q} h = record {
  member = record { states = record { c = c; cfg = cfg; objects = objects; was = was; s = s; q = q; marked = h.marked; facts = h.facts; beside = h.beside }; t = t; x = x; here = h.thread };
  outside = h.outside;
}

module _ (turn : Turn) (after : Plain) where
  open turn use {c, s, t, x, q, marked, facts, here, outside}

  pub tallied : plain_run c.program q (steps_now c s t x) ≡ Some after
      → Tallied (extra_of x.attempt x.phase) x (moved c x x.phase (found_now c s x))
      (count_along c.program (run_at t) (steps_now c s t x) q) (count_along c.program (take_at t) (steps_now c s t x) q) (new_print c.program x x.phase (found_now c s x))
  tallied ran =
      let y = (own turn).plain in
      let got = found_now c s x in
      let bit : ℕ → _ = has_wait_bit (references_of q.objects) s.words t in
      let lawful = facts.threads.lawful t x here in
      let structured = facts.structure t x here in
      let status = subst (λ (a : Option Attempt). StatusFits bit (record x { attempt = a }) x.phase y.status) outside (own turn).fits.status in
      let run = subst (λ (a : Option Attempt). plain_run c.program q (steps_of t (acts_of c (record x { attempt = a }) x.phase got)) ≡ Some after) outside ran in
      subst (λ (a : Option Attempt). Tallied (extra_of a x.phase) (record x { attempt = a }) (moved c (record x { attempt = a }) x.phase got)
      (count_along c.program (run_at t) (steps_of t (acts_of c (record x { attempt = a }) x.phase got)) q) (count_along c.program (take_at t) (steps_of t (acts_of c (record x { attempt = a }) x.phase got)) q) (new_print c.program (record x { attempt = a }) x.phase got)) (sym outside)
      (tallied_at turn after got x.phase status (own turn).fits.frames (allowed_at c x.phase x.frames marked lawful.typed.values.phase)
      (takes_new c x.phase (turn.was t) x.frames x.held x.attempt structured.is_as structured.stands) run)

pub events_are_counted : EventsAreCounted
events_are_counted c cfg objects was s t x q after d runs takes h fit =
    let k = tallied (turn_of h) after h.run in
    let i = k.instructions in
    let n = k.sections in
    let f = fit.instructions in
    let g = fit.sections in
    record { instructions = omega (arith, i, f); sections = omega (arith, n, g) }
