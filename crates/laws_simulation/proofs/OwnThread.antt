-- The plain thread of a thread outside attempts: it is there, has its frames, and its part is under way.
use Rattle.std.proofs.Common.{◌≡◌, inl, inr, ℕ, zero, suc, List, [], ◌∷◌, Option, Some, refl, sym, ap, ◌∙◌, subst, arith, slice_get}
use Rattle.jvm_types.specs.declared.program.Program.{Program}
use Rattle.machine_types.specs.{Agreement.{OutsideFits, ThreadFits, has_wait_bit, roots_shown}, Owners.references_of, PlainState.PlainThread, Threads.Attempt, declared.phase.Phase.Phase}
use Rattle.laws_states.{specs.PartsStand.DoneRoots, proofs.{Lists.same_or_not, Phases.IsOldPhase}}
use Rattle.laws_simulation.{specs.StandsBeside.{ends_shown, end_of_done}, proofs.{Assembled.got_same_length, GoingOnAlike.{IsAwake, PartRuns, IsUnderWay, none_ends}, PartsDue.rests_between}}
use Rattle.laws_simulation.proofs.Turns.{Member, Turn}
use Rattle.jvm_types.specs.declared.outcome.End.TheVariants as ends
use Rattle.machine_types.specs.declared.phase.Phase.TheVariants as phases

-- ---- phases in which a part is under way

abbrev pub IsBusy : Phase → Type 0
IsBusy phases.Idle = ⊥
IsBusy phases.Start = ⊥
IsBusy (phases.Ending e) = ⊥
IsBusy (phases.Ended e) = ⊥
IsBusy phase = Unit {0}

busy_ends : (phase : Phase) → IsBusy phase → end_of_done (0 ∷ []) phase ≡ []
busy_ends phases.Idle k = absurd k
busy_ends phase k = first_of (cc, grind arith)

busy_roots : (p : Program) (part : ℕ) (phase : Phase) (roots : List ℕ) → IsBusy phase → roots_shown p part phase roots ≡ roots
busy_roots p part phases.Idle roots k = absurd k
busy_roots p part phase roots k = first_of (cc, grind arith)

busy_done : (p : Program) (phase : Phase) (roots : List ℕ) → IsBusy phase → DoneRoots p phase roots → roots ≡ []
busy_done p phases.Start roots k d = absurd k
busy_done p phase roots k d = d

pub not_ended : (phase : Phase) → IsBusy phase → phase ≡ phases.Ended ends.Returned → ⊥
not_ended phase k e = subst IsBusy e k

-- a part is under way where its thread has not ended, and what is left of a last part are no roots
module _ (member : Member) where
  open member use {c, s, t, x, facts, beside, here}

  pub part_runs : (x.phase ≡ phases.Ended ends.Returned → ⊥) → (DoneRoots c.program x.phase x.roots → x.roots ≡ []) → PartRuns c.program x.part x.roots
  part_runs goes_on done = elim (same_or_not t 0) [ inl e ↦ by_part x.part refl e | inr n ↦ subst (λ (part : ℕ). PartRuns c.program part x.roots) (sym ((facts.threads.own t x here).part n)) tt ]
    where
      first : t ≡ 0 → slice_get s.threads 0 ≡ Some x
      first e = ap (slice_get s.threads) (sym e) ∙ here

      by_part : (part : ℕ) → x.part ≡ part → t ≡ 0 → PartRuns c.program part x.roots
      by_part zero e z = tt
      by_part (suc zero) e z = absurd (goes_on (rests_between s.threads x facts.threads.parts (first z) e))
      by_part (suc (suc part)) e z = (
        done (facts.parts.done x (first z) (omega (arith, e))),
        λ none. goes_on (beside.done x (first z) (omega (arith, e)) none),
      )

-- ---- the thread

pub record Own (turn : Turn) : Type 0 where
  pub plain : PlainThread
  pub here : slice_get turn.q.threads turn.t ≡ Some plain
  pub fits : OutsideFits turn.c.program (has_wait_bit (references_of turn.q.objects) turn.s.words turn.t) turn.x plain
  pub ended : plain.ended ≡ ends_shown turn.c.program turn.x.part turn.x.phase

module _ (turn : Turn) where
  open turn use {c, s, q, t, x, beside, here, outside}

  pub own : Own turn
  own = by_plain (got_same_length s.threads q.threads t x beside.agrees.many here)
    where
      by_plain : (y : PlainThread) × (slice_get q.threads t ≡ Some y) → Own turn
      by_plain k = record {
        plain = k.0;
        here = k.1;
        fits = subst (λ (a : Option Attempt). ThreadFits c.program (has_wait_bit (references_of q.objects) s.words t) x a k.0) outside (beside.agrees.threads t x k.0 here k.1);
        ended = beside.ends t x k.0 here k.1;
      }

  pub under_way : IsBusy x.phase → IsUnderWay c.program x.part x.roots own.plain
  under_way busy =
      let runs = part_runs turn.member (not_ended x.phase busy) (busy_done c.program x.phase x.roots busy) in
      record {
        roots = own.fits.roots ∙ busy_roots c.program x.part x.phase x.roots busy;
        ended = own.ended ∙ none_ends c.program x.part x.roots x.phase runs (busy_ends x.phase busy);
        runs = runs;
      }

-- ---- a thread whose part is under way, about to move by its phase

pub record Moving (turn : Turn) : Type 0 where
  pub own : Own turn
  pub open own use {plain as z, here as twin, fits, ended}
  pub busy : IsBusy turn.x.phase
  pub old : IsOldPhase turn.x.phase
  pub counts : turn.was turn.t ≡ turn.x.phase
  pub frames : own.plain.frames ≡ turn.x.frames
  pub under_way : IsUnderWay turn.c.program turn.x.part turn.x.roots own.plain
  -- it doesn't wait
  pub awake : IsAwake (has_wait_bit (references_of turn.q.objects) turn.s.words turn.t)
