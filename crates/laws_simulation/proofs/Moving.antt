-- A thread in no attempt that is about to move by its phase, with its plain thread; and what becomes of both.
use Rattle.std.proofs.Common.{◌≡◌, ℕ, ◌+◌, nat_lt, Bool, true, false, cond, List, [], ◌∷◌, Option, Some, None, refl, sym, ap, ◌∙◌, subst, arith, slice_set}
use Rattle.jvm_types.specs.declared.program.Program.{Program}
use Rattle.machine_types.specs.{Agreement.{StatusFits, OutsideFits, ThreadFits, IsTurning, has_wait_bit, frames_shown, roots_shown}, Going.{with_phase, runs, failed_turn, goes_on}, History.steps_of}
use Rattle.machine_types.specs.{Onward.{Onward, Running, Throwing, Entering, Leaving, RootReturned, Uncaught}, Owners.references_of, Parts.has_finished, PlainState.{Plain, PlainThread, Holding}}
use Rattle.machine_types.specs.{PlainSteps.plain_run, Threads.{Attempt, Frame, Thread}, declared.{phase.Phase.Phase, plain.Act.Act}}
use Rattle.laws_threads.proofs.ThreadMove.{same_onward}
use Rattle.laws_states.proofs.Phases.{IsOldPhase}
use Rattle.laws_simulation.{specs.StandsBeside.{end_of_done, ends_shown}, proofs.GoingOnAlike.{OwnFits, PartRuns, ends_before, awake_fits, none_ends, runs_alike}}
use Rattle.laws_simulation.proofs.{HoldingsAlike.{HoldAlike, alike_kept}, Landing.{WordsStay, Makes, stays, steps}, OwnThread.Moving, Turns.Turn}
use Rattle.jvm_types.specs.declared.outcome.End.TheVariants as ends
use Rattle.machine_types.specs.PlainState as plain
use Rattle.machine_types.specs.declared.phase.Phase.TheVariants as phases

-- ---- phases in which a part is under way, and all that the plain thread has is the thread's

abbrev pub IsCalm : Phase → Type 0
IsCalm phases.Idle = ⊥
IsCalm phases.Start = ⊥
IsCalm (phases.Made a word) = ⊥
IsCalm (phases.Ending e) = has_finished e ≡ false
IsCalm (phases.Ended e) = ⊥
IsCalm phase = Unit {0}

calm_frames : (phase : Phase) (frames : List Frame) → IsCalm phase → frames_shown phase frames ≡ frames
calm_frames (phases.Made a word) frames k = absurd k
calm_frames phase frames k = refl

calm_roots : (p : Program) (part : ℕ) (phase : Phase) (roots : List ℕ) → IsCalm phase → roots_shown p part phase roots ≡ roots
calm_roots p part phases.Idle roots k = absurd k
calm_roots p part phase roots k = first_of (cc, grind arith)

calm_ends : (phase : Phase) → IsCalm phase → end_of_done (0 ∷ []) phase ≡ []
calm_ends (phases.Ending e) k = ap (λ (b : Bool). cond b (e ∷ []) []) k
calm_ends (phases.Ended e) k = absurd k
calm_ends phase k = refl

pub calm_old : (phase : Phase) → IsCalm phase → IsOldPhase phase
calm_old (phases.Made a word) k = k
calm_old phase k = tt

-- ---- how a thread that goes on has its monitors, its part and its attempt

pub goes_part : (s : Thread) (o : Onward) → (goes_on s o).part ≡ s.part
goes_part s o = same_onward (λ (s : Thread). s.part) (λ s frames phase turns. refl) s (Some o)

pub runs_old : (b : Bool) → IsOldPhase (cond b phases.Run (phases.Ending ends.Steps))
runs_old true = tt
runs_old false = tt

pub goes_old : (s : Thread) (o : Onward) → IsOldPhase (goes_on s o).phase
goes_old s (Running frames) = runs_old (nat_lt s.counts.instructions s.cfg.steps)
goes_old s (Throwing x class frames) = tt
goes_old s (Entering m frames) = tt
goes_old s (Leaving m a frames) = tt
goes_old s RootReturned = elim s.roots as (λ (roots : List ℕ). IsOldPhase (goes_on (record s { roots = roots }) RootReturned).phase) [ [] ↦ tt | number ∷ roots ↦ tt ]
goes_old s (Uncaught class) = tt

-- ---- its event stands for acts, leaves words, and makes y of it

module _ {turn : Turn} (k : Moving turn) where
  open turn use {c, objects, s, t, x, q, beside, here, outside}

  outside_fits : (y : Thread) (a : Option Attempt) (w : PlainThread) → a ≡ None → OutsideFits c.program (has_wait_bit (references_of q.objects) s.words t) y w → ThreadFits c.program (has_wait_bit (references_of q.objects) s.words t) y a w
  outside_fits y a w e f = subst (λ (b : Option Attempt). ThreadFits c.program (has_wait_bit (references_of q.objects) s.words t) y b w) (sym e) f

  -- the plain thread makes no step
  pub stays_with : (words : List ℕ) (y : Thread) → WordsStay objects s q words → HoldAlike q.holdings (slice_set s.threads t y) → y.attempt ≡ x.attempt → y.part ≡ x.part → IsOldPhase y.phase → OwnFits c.program (has_wait_bit (references_of q.objects) s.words t) y k.z
      → Makes k [] words y
  stays_with words y stay holds attempt part now fits = stays k words y (record {
    stay = stay;
    holds = holds;
    fits = outside_fits y y.attempt k.z (attempt ∙ outside) fits.outside;
    ended = fits.ended;
    now = now;
    part = part;
  })

  pub stays_as : (words : List ℕ) (y : Thread) → WordsStay objects s q words → y.held ≡ x.held → y.attempt ≡ x.attempt → y.part ≡ x.part → IsOldPhase y.phase → OwnFits c.program (has_wait_bit (references_of q.objects) s.words t) y k.z → Makes k [] words y
  stays_as words y stay held attempt part now fits = stays_with words y stay (alike_kept q.holdings s.threads beside.agrees.monitors t x y here held) attempt part now fits

  -- it makes one
  pub steps_as : (act : Act) (words : List ℕ) (y : Thread) (later : List Holding) (w : PlainThread) → plain_run c.program q (steps_of t (act ∷ [])) ≡ Some (record q { holdings = later; threads = slice_set q.threads t w })
      → WordsStay objects s q words → HoldAlike later (slice_set s.threads t y) → y.attempt ≡ x.attempt → y.part ≡ x.part → IsOldPhase y.phase → OwnFits c.program (has_wait_bit (references_of q.objects) s.words t) y w → Makes k (act ∷ []) words y
  steps_as act words y later w run stay holds attempt part now fits = steps k act words y later w run (record {
    stay = stay;
    holds = holds;
    fits = outside_fits y y.attempt w (attempt ∙ outside) fits.outside;
    ended = fits.ended;
    now = now;
    part = part;
  })

  -- in another phase with its frames
  pub calm_fits : (y : Thread) → IsCalm y.phase → y.frames ≡ x.frames → y.roots ≡ x.roots → y.part ≡ x.part → StatusFits (has_wait_bit (references_of q.objects) s.words t) y y.phase k.z.status → OwnFits c.program (has_wait_bit (references_of q.objects) s.words t) y k.z
  calm_fits y calm frames roots part status = record {
    outside = record {
      frames = k.frames ∙ sym frames ∙ sym (calm_frames y.phase y.frames calm);
      status = status;
      roots = k.under_way.roots ∙ sym roots ∙ sym (calm_roots c.program y.part y.phase y.roots calm);
    };
    ended = k.under_way.ended ∙ sym (none_ends c.program x.part x.roots y.phase k.under_way.runs (calm_ends y.phase calm)) ∙ ap (λ (n : ℕ). ends_shown c.program n y.phase) (sym part);
  }

  pub to_phase : (words : List ℕ) (phase : Phase) → WordsStay objects s q words → IsCalm phase → StatusFits (has_wait_bit (references_of q.objects) s.words t) (with_phase x phase) phase k.z.status → Makes k [] words (with_phase x phase)
  to_phase words phase stay calm status = stays_as words (with_phase x phase) stay refl refl refl (calm_old phase calm) (calm_fits (with_phase x phase) calm refl refl refl status)

  -- it stays as it is
  pub itself_fits : OwnFits c.program (has_wait_bit (references_of q.objects) s.words t) x k.z
  itself_fits = record { outside = k.fits; ended = k.ended }

  pub stays_itself : (words : List ℕ) → WordsStay objects s q words → Makes k [] words x
  stays_itself words stay = stays_as words x stay refl refl refl k.old itself_fits

  -- a turn has failed
  pub turned : (words : List ℕ) (phase : Phase) → WordsStay objects s q words → IsCalm phase → StatusFits (has_wait_bit (references_of q.objects) s.words t) (record x { turns = x.turns + 1; phase = phase }) phase k.z.status → IsTurning k.z.status
      → Makes k [] words (failed_turn x phase)
  turned words phase stay calm status turning = elim (nat_lt (x.turns + 1) x.cfg.turns) as (λ (b : Bool). Makes k [] words (record x { turns = x.turns + 1; phase = cond b phase (phases.Ending ends.Turns) })) [
    | true ↦ stays_as words (record x { turns = x.turns + 1; phase = phase }) stay refl refl refl (calm_old phase calm) (calm_fits (record x { turns = x.turns + 1; phase = phase }) calm refl refl refl status)
    | false ↦ stays_as words (record x { turns = x.turns + 1; phase = phases.Ending ends.Turns }) stay refl refl refl tt
        (calm_fits (record x { turns = x.turns + 1; phase = phases.Ending ends.Turns }) refl refl refl refl (awake_fits (has_wait_bit (references_of q.objects) s.words t) k.z.status (IsTurning k.z.status) k.awake turning))
  ]

  -- it runs on
  pub runs_fits : (y : Thread) → y.frames ≡ x.frames → y.roots ≡ x.roots → y.part ≡ x.part → OwnFits c.program (has_wait_bit (references_of q.objects) s.words t) (runs y) (plain.with_status k.z plain.Run)
  runs_fits y frames roots part = subst (λ (fs : List Frame). OwnFits c.program (has_wait_bit (references_of q.objects) s.words t) (runs y) (record k.z { frames = fs; status = plain.Run })) (frames ∙ sym k.frames)
      (runs_alike c.program (has_wait_bit (references_of q.objects) s.words t) k.awake y k.z (record {
        roots = k.under_way.roots ∙ sym roots;
        ended = k.under_way.ended ∙ ap ends_before (sym part);
        runs = subst (λ (n : ℕ). PartRuns c.program n y.roots) (sym part) (subst (λ (rs : List ℕ). PartRuns c.program x.part rs) (sym roots) k.under_way.runs);
      }))
