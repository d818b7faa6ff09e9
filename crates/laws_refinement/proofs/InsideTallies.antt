-- What an event inside an attempt counts, and that it prints nothing.
use Rattle.std.proofs.Common.{◌≡◌, ℕ, ◌+◌, List, Option, Some, None, refl, sym, ap, ◌∙◌, subst, arith}
use Rattle.checked_program.specs.MarkedProgram.{MarkedProgram}
use Rattle.machine_types.specs.{Core.{Core, event_of, event_by, outcome}, Counting.{CountsFit, extra_of}, Elision.elided, Events.{moved, wanted}, Faithful.PrintsFit, Frames.top_of}
use Rattle.machine_types.specs.{History.{Fate, GoesOn, Fails, Finishes, Past, acts_of, fate, past_after, past_by, with_begun}, Onward.after, Threads.{Attempt, Thread}, declared.phase.Phase.Phase}
use Rattle.machine_types.specs.declared.{phase.Phase.TheVariants.Run, plain.Act.Act}
use Rattle.laws_threads.specs.{EntryFrames.{StepsKeepEntry, ThrowsKeepEntry, LeavesKeepEntry}, InsideEffects.InsideMayDo, InsideMoves.ElementsInside}
use Rattle.laws_simulation.proofs.{CalmEvents.{IsCalm, goes_if, no_extra}, OutcomePrints.{fit_of, prints_of, printed_none}}
use Rattle.laws_refinement.{specs.ElidedSteps.{AttemptsAreCounted, AttemptsPrintNothing, FinishesAreCounted, IsNotFinished, found_of}, proofs.{DoneSections.never_runs, Inside.is_inside}}
use Rattle.laws_refinement.proofs.InsideMoves.{Moves, moves_inside, sections_by, sections_of}

more_begun : (n : ℕ) (phase : Phase) → with_begun n phase ≡ n + with_begun 0 phase
more_begun n Run = omega arith
more_begun n phase = omega arith

-- no instruction is without its step where the thread goes on in the attempt, or enters again
no_extra_inside : (o : Option Attempt) (b : Attempt) (phase : Phase) → o ≡ Some b → extra_of o phase ≡ 0
no_extra_inside o b phase e = ap (λ (k : Option Attempt). extra_of k phase) e

module _ (c : MarkedProgram) (x y : Thread) (a : Attempt) (tried : x.attempt ≡ Some a) (d : Past) (acts : List Act) (runs takes : ℕ) where
  -- what began is pending still, or in vain
  still_counted : (later : Past) → later.wasted + later.pending ≡ d.wasted + with_begun d.pending x.phase → (f : Fate) → Moves c x y a x.phase f → sections_by (sections_of x) f ≡ sections_of x → extra_of y.attempt y.phase ≡ 0
      → CountsFit x d runs takes → CountsFit y later runs takes
  still_counted later same f m no_section none fit =
      let now = more_begun d.pending x.phase in
      let i = m.keeps.begun in
      let n = m.keeps.done in
      let g = fit.instructions in
      let h = fit.sections in
      record { instructions = omega (arith, no_extra_inside x.attempt a x.phase tried, none, more_begun x.counts.instructions x.phase, now, same, i, g); sections = omega (arith, n, no_section, h) }

  counted_by : (f : Fate) → Moves c x y a x.phase f → IsNotFinished f → CountsFit x d runs takes → CountsFit y (past_by d x.phase acts f) runs takes
  counted_by GoesOn m way fit = still_counted (past_by d x.phase acts GoesOn) refl GoesOn m refl (no_extra_inside y.attempt m.has.attempt y.phase m.has.is) fit
  counted_by Fails m way fit = still_counted (past_by d x.phase acts Fails) (omega arith) Fails m refl (ap (λ (o : Option Attempt). extra_of o y.phase) m.has.attempt ∙ ap (λ (phase : Phase). extra_of None phase) m.has.phase) fit
  counted_by Finishes m way fit = absurd way

  -- no instruction begins with the last exit
  finish_counted : Moves c x y a x.phase Finishes → with_begun x.counts.instructions x.phase ≡ x.counts.instructions → extra_of y.attempt y.phase ≡ 0 → CountsFit x d runs takes → CountsFit y (past_by d x.phase acts Finishes) (runs + d.pending) (takes + 1)
  finish_counted m none later fit =
      record { instructions = omega (arith, none, no_extra_inside x.attempt a x.phase tried, later, m.keeps.begun, fit.instructions); sections = omega (arith, m.keeps.done, fit.sections) }

-- ---- the last exit

at_finish : (c : MarkedProgram) (x : Thread) (a : Attempt) (got : ℕ) (phase : Phase) → fate c x a phase got ≡ Finishes → IsCalm phase × (with_begun x.counts.instructions phase ≡ x.counts.instructions)
at_finish c x a got Run e = absurd (never_runs c a (top_of c.program x.frames) got e)
at_finish c x a got phase e = (first_of (assumption, cc), cc)

-- ---- the laws

pub attempts_are_counted : InsideMayDo → ElementsInside → StepsKeepEntry → ThrowsKeepEntry → LeavesKeepEntry → AttemptsAreCounted
attempts_are_counted may_do elements steps throws leaves c cfg objects was s t x a d runs takes marked facts here tried way fit =
    let got = found_of c s x in
    let m = moves_inside steps throws leaves c x a (is_inside may_do elements c marked x a tried (was t) (facts.structure t x here)) got in
    subst (λ (o : Option Attempt). CountsFit (moved c x x.phase got) (past_after c x o got d) runs takes) (sym tried)
    (counted_by c x (moved c x x.phase got) a tried d (acts_of c x x.phase got) runs takes (fate c x a x.phase got) m way fit)

pub finishes_are_counted : InsideMayDo → ElementsInside → StepsKeepEntry → ThrowsKeepEntry → LeavesKeepEntry → FinishesAreCounted
finishes_are_counted may_do elements steps throws leaves c cfg objects was s t x a d runs takes marked facts here tried finish fit =
    let got = found_of c s x in
    let y = moved c x x.phase got in
    let m = subst (λ (f : Fate). Moves c x y a x.phase f) finish (moves_inside steps throws leaves c x a (is_inside may_do elements c marked x a tried (was t) (facts.structure t x here)) got) in
    let known = at_finish c x a got x.phase finish in
    let calm : IsCalm y.phase = subst (λ (z : Thread). IsCalm z.phase) (sym m.has.goes) (goes_if (elided x) (after c.program x.frames m.has.behind) known.0).phase in
    subst (λ (o : Option Attempt). CountsFit y (past_after c x o got d) (runs + d.pending) (takes + 1)) (sym tried)
    (subst (λ (f : Fate). CountsFit y (past_by d x.phase (acts_of c x x.phase got) f) (runs + d.pending) (takes + 1)) (sym finish)
    (finish_counted c x y a tried d (acts_of c x x.phase got) runs takes m known.1 (no_extra y.attempt y.phase calm) fit))

pub attempts_print_nothing : InsideMayDo → ElementsInside → StepsKeepEntry → ThrowsKeepEntry → LeavesKeepEntry → AttemptsPrintNothing
attempts_print_nothing may_do elements steps throws leaves c cfg objects was s t x a q after marked facts here tried same fit =
    let got = found_of c s x in
    let m = moves_inside steps throws leaves c x a (is_inside may_do elements c marked x a tried (was t) (facts.structure t x here)) got in
    let now : Core = event_by c s t x (wanted c x x.phase) in
    let one : PrintsFit (outcome now) after = prints_of now after (printed_none s.threads t x (moved c x x.phase got) here q.prints after.prints m.keeps.prints same (fit_of s q fit)) in
    subst (λ (o : Option Thread). PrintsFit (outcome (event_of c s t o)) after) (sym here) one
