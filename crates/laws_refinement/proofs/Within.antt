-- What an event inside an attempt makes of it: the thread goes on in the same one, or is about to enter again, or goes on behind
-- the section, and is then at no entry.
use Rattle.std.proofs.Common.{◌≡◌, ℕ, zero, suc, ◌+◌, nat_lt, Bool, true, false, cond, drop, List, [], ◌∷◌, Option, Some, None, refl, sym, ap, ◌∙◌, subst, option_map}
use Rattle.jvm_types.specs.declared.{program.Program.Program}
use Rattle.checked_program.{specs.MarkedProgram.MarkedProgram, proofs.FilledTags.some_fewer}
use Rattle.machine_types.specs.{Elision.{may_try, is_same, is_checked, put_back, fails, elided}, Events.{element_made, moved}, Frames.{Top, top_of, effect_at, returned, went_on}}
use Rattle.machine_types.specs.{Going.{with_phase, goes_on, goes_on_if, goes_after, root_over}, History.{Fate, GoesOn, Fails, Finishes, fate, fate_by, run_fate, leave_fate}}
use Rattle.machine_types.specs.{Instructions.{begun, did, instructed, ran}, Monitors.{Claim, finishes, enter_moves, leave_moves}, Onward.{Onward, Running, back, unwound, dispatched, after, done}}
use Rattle.machine_types.specs.{Threads.{Attempt, Frame, Thread}, declared.{effect.Effect.Effect, phase.{After.{After, TheVariants.{Next, Return, Unwind}}, Phase.Phase}}}
use Rattle.laws_threads.{specs.InsideEffects.MayDo, proofs.ThreadMove.same_onward}
use Rattle.laws_states.proofs.PlainMoves.{goes_attempt}
use Rattle.laws_refinement.{specs.EntryLaws.HasFailed, proofs.{Checks.{checked, did_by, instructed_by}, Inside.{Inside, KnownInside}, OutsideEntries.{is_entering, in_run}}}
use Rattle.machine_types.specs.declared.phase.Phase.TheVariants as phases

-- x is the thread before
abbrev pub HasFate : (x y : Thread) → Attempt → Fate → Type 0
HasFate x y a GoesOn = (inner : ℕ) × (y.attempt ≡ Some (record a { inner = inner })) × (y.counts.failed ≡ x.counts.failed)
HasFate x y a Fails = HasFailed x y a
HasFate x y a Finishes = (y.attempt ≡ None) × (is_entering y.phase ≡ false) × (y.counts.failed ≡ x.counts.failed)

-- ---- a thread that has left a monitor enters none

abbrev IsElsewhere : Thread → Type 0
IsElsewhere y = is_entering y.phase ≡ false

module _ (s : Thread) where
  back_elsewhere : (fs : List Frame) → IsElsewhere (goes_on s (back fs))
  back_elsewhere [] = elim s.roots as (λ (roots : List ℕ). is_entering (root_over roots) ≡ false) [ [] ↦ refl | number ∷ roots ↦ refl ]
  back_elsewhere (f ∷ fs) = in_run (nat_lt s.counts.instructions s.cfg.steps)

  after_elsewhere : (p : Program) (fs : List Frame) (a : After) → IsElsewhere s → IsElsewhere (goes_on_if s (after p fs a))
  after_elsewhere p fs Next k = in_run (nat_lt s.counts.instructions s.cfg.steps)
  after_elsewhere p fs Return k = elim (top_of p fs) as (λ (top : Option Top). IsElsewhere (goes_on_if s (option_map (λ at. back (returned p at)) top)))
      [ None ↦ k | Some at ↦ back_elsewhere (returned p at) ]
  after_elsewhere p fs (Unwind x class) k = elim (drop 1 fs) as (λ (fs : List Frame). IsElsewhere (goes_on s (unwound x class fs))) [ [] ↦ refl | f ∷ fs ↦ refl ]

-- ---- a thread that goes on counts no failure

goes_failed : (s : Thread) (o : Option Onward) → (goes_on_if s o).counts.failed ≡ s.counts.failed
goes_failed = same_onward (λ (s : Thread). s.counts.failed) (λ s frames phase turns. refl)

-- ---- all phases

module _ (c : MarkedProgram) (x : Thread) (a : Attempt) (tries : x.attempt ≡ Some a) (got : ℕ) where
  same : (y : Thread) → y.attempt ≡ x.attempt → y.counts.failed ≡ x.counts.failed → HasFate x y a GoesOn
  same y e f = (a.inner, e ∙ tries, f)

  -- a thread that fails in the frames and with the monitors and turns of x, and after as many failures
  put_back_to : (z : Thread) → z.frames ≡ x.frames → z.held ≡ x.held → z.turns ≡ x.turns → z.counts.failed ≡ x.counts.failed → HasFailed x (fails z a) a
  put_back_to z frames held turns failed = record { outside = refl; enters = refl; frames = ap (put_back a) frames; held = held; turns = turns; counted = ap (λ (n : ℕ). n + 1) failed }

  abbrev IsAlike : Thread → Type 0
  IsAlike y = (y.attempt ≡ x.attempt) × (y.counts.failed ≡ x.counts.failed)

  instructed_inside : (at : Top) (e : Effect) → MayDo c a.monitor at e → HasFate x (instructed c.program (begun x) at e got) a (cond (is_checked at.frame.pc e) (fate_by (is_same a got) GoesOn) GoesOn)
  instructed_inside at e may = instructed_by (λ y f. HasFate x y a f) c.program a (begun x) at e got tries (same (did c.program (begun x) at e got) on.0 on.1) (put_back_to (begun x) refl refl refl refl)
    where
      on : IsAlike (did c.program (begun x) at e got)
      on = did_by IsAlike c a.monitor (begun x) at got (λ word. (refl, refl)) (λ by n. (goes_attempt (begun x) (done c.program at by n), goes_failed (begun x) (done c.program at by n))) e may

  -- an exit, which may be the last
  finishes_inside : (e : After) (inner : ℕ) → is_entering x.phase ≡ false → HasFate x (finishes c.program x e a inner got) a (cond (nat_lt 0 inner) GoesOn (fate_by (is_same a got) Finishes))
  finishes_inside e zero k = elim (is_same a got) as (λ (b : Bool). HasFate x (cond b (goes_after c.program (elided x) e) (fails x a)) a (fate_by b Finishes))
      [ true ↦ (goes_attempt (elided x) (after c.program x.frames e), after_elsewhere (elided x) c.program x.frames e k, goes_failed (elided x) (after c.program x.frames e)) | false ↦ put_back_to x refl refl refl refl ]
  finishes_inside e (suc inner) k =
      let z : Thread = record x { attempt = Some (record a { inner = inner }) } in
      subst (λ (some : Bool). HasFate x (goes_after c.program z e) a (cond some GoesOn (fate_by (is_same a got) Finishes))) (sym (some_fewer inner)) (inner, goes_attempt z (after c.program x.frames e), goes_failed z (after c.program x.frames e))

  moves_at : (phase : Phase) → x.phase ≡ phase → KnownInside c x a phase → HasFate x (moved c x phase got) a (fate c x a phase got)
  moves_at phases.Run e k = subst (λ (o : Option Top). HasFate x (ran c.program x o got) a (run_fate c a o got)) (sym k.found) (instructed_inside k.at (effect_at c.program k.at) k.may)
  moves_at (phases.Element word stored) e k =
      let o : Option Onward = option_map (λ at. Running (went_on c.program at (element_made stored got))) (top_of c.program x.frames) in
      same (goes_on_if x o) (goes_attempt x o) (goes_failed x o)
  moves_at (phases.Throw r class) e k =
      let o : Option Onward = dispatched c.program r class x.frames in
      checked (λ y f. HasFate x y a f) a x (goes_on_if x o) got x.attempt tries (same (goes_on_if x o) (goes_attempt x o) (goes_failed x o)) (put_back_to x refl refl refl refl)
  moves_at (phases.Enter n number) e k = subst (λ (claim : Claim). HasFate x (enter_moves x n number (may_try c x number) claim got) a GoesOn) (sym k) (a.inner + 1, refl, refl)
  moves_at (phases.Leave n b) e k = subst (λ (claim : Claim). HasFate x (leave_moves c.program x n b claim got) a (leave_fate claim got)) (sym k) (finishes_inside b a.inner (subst (λ (phase : Phase). is_entering phase ≡ false) (sym e) refl))
  moves_at (phases.Ending reason) e k = same (with_phase x (phases.Ended reason)) refl refl
  moves_at (phases.Ended reason) e k = same x refl refl
  moves_at phase e k = absurd k

-- the event of a thread inside an attempt
pub inside_moves : (c : MarkedProgram) (x : Thread) (a : Attempt) → Inside c x a → (got : ℕ) → HasFate x (moved c x x.phase got) a (fate c x a x.phase got)
inside_moves c x a k got = moves_at c x a k.attempt got x.phase refl k.known
