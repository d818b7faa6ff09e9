-- An instruction of a thread that is in no attempt: what it may do, and the step of its plain thread.
use Rattle.std.proofs.Common.{◌≡◌, ℕ, List, [], ◌∷◌, Option, Some, refl, sym, ap, subst, ◌∙◌}
use Rattle.machine_types.specs.{Agreement.{StatusFits, frames_shown, roots_shown, has_wait_bit}, Events.{wanted, moved}, Frames.{Top, top_of, effect_at}, Going.goes_on}
use Rattle.machine_types.specs.{History.{instruction_acts, run_acts, acts_of, steps_of}, Instructions.{effect_wants, run_wants, begun, instructed, ran}, Onward.Onward, Owners.references_of}
use Rattle.machine_types.specs.{PlainInstructions.instructed_by, PlainState.Plain, PlainSteps.{step_at, plain_run}, Threads.Frame, Typed.{HasClass, PhaseHolds}}
use Rattle.machine_types.specs.declared.{effect.Effect.Effect, phase.Phase.Phase}
use Rattle.laws_threads.{specs.Allowed.Allowed}
use Rattle.machine_types.proofs.Lists.{set_as_it_is}
use Rattle.laws_simulation.specs.StandsBeside.{end_of_done}
use Rattle.laws_simulation.proofs.{Assembled.one_step, GoingOnAlike.{none_ends}, OwnThread.{IsBusy, own, under_way}, Scene.{GoesOn, awake, counts_as, going}, TopPlaces.{MayDo, may_do}, Turns.Turn}
use Rattle.machine_types.specs.PlainInstructions as steps
use Rattle.machine_types.specs.PlainState as plain
use Rattle.machine_types.specs.declared.phase.Phase.TheVariants as phases
use Rattle.machine_types.specs.declared.plain.Act.TheVariants as acts

module _ (turn : Turn) where
  open turn use {c, objects, s, t, x, q, marked, facts, here}

  -- ---- its plain thread

  -- it stays as it is
  pub same_plain : plain.with_thread q t (own turn).plain ≡ q
  same_plain = ap (λ (ys : List plain.PlainThread). record q { threads = ys }) (set_as_it_is q.threads t (own turn).plain (own turn).here)

  pub frames_are : (phase : Phase) → x.phase ≡ phase → (own turn).plain.frames ≡ frames_shown phase x.frames
  frames_are phase e = (own turn).fits.frames ∙ ap (λ (z : Phase). frames_shown z x.frames) e

  pub status_fits : (phase : Phase) → x.phase ≡ phase → StatusFits (has_wait_bit (references_of q.objects) s.words t) x phase (own turn).plain.status
  status_fits phase e = subst (λ (z : Phase). StatusFits (has_wait_bit (references_of q.objects) s.words t) x z (own turn).plain.status) e (own turn).fits.status

  pub values : (phase : Phase) → x.phase ≡ phase → PhaseHolds c (HasClass objects) phase x.frames
  values phase e = let k = facts.heap.typed.threads t x here in subst (λ (z : Phase). PhaseHolds c (HasClass objects) z x.frames) e k.phase

-- ---- an instruction that the thread begins, by its effect

pub record Instruction (turn : Turn) (e : Effect) : Type 0 where
  pub runs : turn.x.phase ≡ phases.Run
  pub at : Top
  pub found : top_of turn.c.program turn.x.frames ≡ Some at
  pub effect : effect_at turn.c.program at ≡ e

module _ {turn : Turn} {e : Effect} (i : Instruction turn e) where
  open turn use {c, objects, s, t, x, q}
  open i use {runs, at, found, effect}

  pub busy : IsBusy x.phase
  busy = subst IsBusy (sym runs) tt

  pub makes_none : (a word : ℕ) → x.phase ≡ phases.Made a word → ⊥
  makes_none a word h = let both : phases.Run ≡ phases.Made a word = sym runs ∙ h in cc

  pub goes : (o : Onward)
      → GoesOn turn (goes_on (begun x) o) (plain.plain_goes_on (own turn).plain o)
  goes o = going turn (begun x) (own turn).plain o refl turn.outside refl (awake turn phases.Run (counts_as turn phases.Run runs) (λ r h. h)) (under_way turn busy)

  -- in another phase, where its plain thread stays as it is
  pub still : (phase : Phase) → frames_shown phase x.frames ≡ x.frames → roots_shown c.program x.part phase x.roots ≡ x.roots → end_of_done (0 ∷ []) phase ≡ [] → StatusFits (has_wait_bit (references_of q.objects) s.words t) (record (begun x) { phase = phase }) phase (own turn).plain.status
      → GoesOn turn (record (begun x) { phase = phase }) (own turn).plain
  still phase frames roots none status =
      let under = under_way turn busy in
      record {
        held = refl;
        outside = turn.outside;
        part = refl;
        own = record {
          outside = record { frames = frames_are turn phases.Run runs ∙ sym frames; status = status; roots = under.roots ∙ sym roots };
          ended = under.ended ∙ sym (none_ends c.program x.part x.roots phase under.runs none);
        };
      }

  abbrev pub top : MayDo c objects at
  top = may_do c objects s x.frames at turn.marked turn.facts.heap (values turn phases.Run runs) found

  pub may : Allowed c.program at.method (HasClass objects) at.insn at.target top.row at.frame.stack e
  may = subst (Allowed c.program at.method (HasClass objects) at.insn at.target top.row at.frame.stack) effect top.allowed

  pub wants : wanted c x phases.Run ≡ effect_wants x at.frame.pc e
  wants = ap (run_wants c.program x) found ∙ ap (effect_wants x at.frame.pc) effect

  pub acts_are : (got : ℕ) → acts_of c x phases.Run got ≡ instruction_acts x e got
  acts_are got = ap (λ (o : Option Top). run_acts c x o got) found ∙ ap (λ (z : Effect). instruction_acts x z got) effect

  pub moves : (got : ℕ) → moved c x phases.Run got ≡ instructed c.program (begun x) at e got
  moves got = ap (λ (o : Option Top). ran c.program x o got) found ∙ ap (λ (z : Effect). instructed c.program (begun x) at z got) effect

  -- the plain instruction
  pub does : (after : Plain) → instructed_by c.program q t (own turn).plain at e ≡ Some after → plain_run c.program q (steps_of t (acts.Do ∷ [])) ≡ Some after
  does after k = one_step c.program q after t (own turn).plain acts.Do (own turn).here
      (ap (step_at c.program q t (own turn).plain acts.Do) (status_fits turn phases.Run runs)
      ∙ (ap (λ (fs : List Frame). steps.plain_instructed c.program q t (own turn).plain (top_of c.program fs)) (frames_are turn phases.Run runs)
      ∙ (ap (steps.plain_instructed c.program q t (own turn).plain) found
      ∙ (ap (instructed_by c.program q t (own turn).plain at) effect
      ∙ k))))
