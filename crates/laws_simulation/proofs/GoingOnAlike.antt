-- A thread of the running machine and its plain thread go on alike, whatever way they go on.
use Rattle.std.proofs.Common.{◌≡◌, ℕ, zero, suc, nat_lt, Bool, true, false, cond, List, [], ◌∷◌, ◌++◌, refl, sym, ap, ◌∙◌, subst}
use Rattle.jvm_types.specs.declared.{outcome.End.End, program.Program.Program}
use Rattle.machine_types.specs.{Agreement.{LimitFits, OutsideFits, start_status, roots_shown}, Going.{goes_on, root_over}}
use Rattle.machine_types.specs.{Onward.{Onward, Running, Throwing, Entering, Leaving, RootReturned, Uncaught}, Parts.done_roots, PlainState.{Status, PlainThread}, Threads.Thread}
use Rattle.machine_types.specs.declared.phase.Phase.{Phase}
use Rattle.laws_simulation.specs.StandsBeside.{ends_shown, end_of_done}
use Rattle.jvm_types.specs.declared.outcome.End.TheVariants as ends
use Rattle.machine_types.specs.PlainState as plain
use Rattle.machine_types.specs.declared.phase.Phase.TheVariants as phases

-- ---- a part that is under way

abbrev pub ends_before : (part : ℕ) → List End
ends_before zero = []
ends_before part = ends.Returned ∷ []

-- thread 0 rests between `init` and `done`, and `done` has one root, which is running
abbrev pub PartRuns : Program → (part : ℕ) → (roots : List ℕ) → Type 0
PartRuns p zero roots = Unit {0}
PartRuns p (suc zero) roots = ⊥
PartRuns p part roots = (roots ≡ []) × (done_roots p ≡ [] → ⊥)

pub record IsUnderWay (p : Program) (part : ℕ) (left : List ℕ) (y : PlainThread) : Type 0 where
  pub roots : y.roots ≡ left
  pub ended : y.ended ≡ ends_before part
  pub runs : PartRuns p part left

-- ---- a thread outside attempts, with the ends of its parts

pub record OwnFits (p : Program) (bit : ℕ → Bool) (s : Thread) (y : PlainThread) : Type 0 where
  pub outside : OutsideFits p bit s y
  pub ended : y.ended ≡ ends_shown p s.part s.phase

-- it doesn't wait
abbrev pub IsAwake : (bit : ℕ → Bool) → Type 0
IsAwake bit = (m : ℕ) → bit m ≡ false

pub awake_fits : (bit : ℕ → Bool) (status : Status) (Awake : Type 0) → IsAwake bit → Awake → LimitFits bit status Awake
awake_fits bit status Awake none k = record { waits = λ m e. absurd (let n = none m in cc); awake = λ all. k }

-- ---- ends

own_done : (roots : List ℕ) (phase : Phase) (e : List End) → (roots ≡ [] → ⊥) → end_of_done (0 ∷ []) phase ≡ e → end_of_done roots phase ≡ e
own_done [] phase e n k = absurd (n refl)
own_done (r ∷ roots) phase e n k = k

-- no part ends in the phase
pub none_ends : (p : Program) (part : ℕ) (roots : List ℕ) (phase : Phase) → PartRuns p part roots → end_of_done (0 ∷ []) phase ≡ [] → ends_shown p part phase ≡ ends_before part
none_ends p zero roots phase k e = e
none_ends p (suc zero) roots phase k e = absurd k
none_ends p (suc (suc part)) roots phase k e = ap (λ (es : List End). ends.Returned ∷ es) (own_done (done_roots p) phase [] k.1 e)

-- it ends by itself
pub one_ends : (p : Program) (part : ℕ) (roots : List ℕ) (phase : Phase) (e : End) → PartRuns p part roots → end_of_done (0 ∷ []) phase ≡ e ∷ [] → ends_shown p part phase ≡ ends_before part ++ e ∷ []
one_ends p zero roots phase e k f = f
one_ends p (suc zero) roots phase e k f = absurd k
one_ends p (suc (suc part)) roots phase e k f = ap (λ (es : List End). ends.Returned ∷ es) (own_done (done_roots p) phase (e ∷ []) k.1 f)

-- ---- all ways to go on

module _ (p : Program) (bit : ℕ → Bool) (awake : IsAwake bit) where
  -- to the next instruction, unless the limit of instructions is made
  pub runs_alike : (s : Thread) (y : PlainThread) → IsUnderWay p s.part s.roots y → OwnFits p bit (goes_on s (Running s.frames)) (plain.plain_goes_on y (Running s.frames))
  runs_alike s y k = by_test (nat_lt s.counts.instructions s.cfg.steps)
    where
      by_test : (b : Bool) → OwnFits p bit (record s { phase = cond b phases.Run (phases.Ending ends.Steps) }) (plain.plain_goes_on y (Running s.frames))
      by_test true = record { outside = record { frames = refl; status = refl; roots = k.roots }; ended = k.ended ∙ sym (none_ends p s.part s.roots phases.Run k.runs refl) }
      by_test false = record {
        outside = record { frames = refl; status = awake_fits bit plain.Run (plain.Run ≡ plain.Run) awake refl; roots = k.roots };
        ended = k.ended ∙ sym (none_ends p s.part s.roots (phases.Ending ends.Steps) k.runs refl);
      }

  next_root : (s : Thread) (y : PlainThread) (part : ℕ) (roots : List ℕ) → s.part ≡ part → s.roots ≡ roots → y.roots ≡ roots → y.ended ≡ ends_before part → PartRuns p part roots
      → OwnFits p bit (record s { frames = []; phase = root_over roots }) (plain.plain_root_over y roots)
  next_root s y part [] e f g h k = record {
    outside = record { frames = refl; status = refl; roots = g ∙ sym f };
    ended = ap (λ (es : List End). es ++ ends.Returned ∷ []) h ∙ sym (ap (λ (n : ℕ). ends_shown p n (phases.Ending ends.Returned)) e ∙ one_ends p part [] (phases.Ending ends.Returned) ends.Returned k refl);
  }
  next_root s y zero (number ∷ roots) e f g h k = record {
    outside = record {
      frames = refl;
      status = ap start_status (sym e);
      roots = subst (λ (n : ℕ). y.roots ≡ roots_shown p n phases.Start s.roots) (sym e) (g ∙ sym f);
    };
    ended = h ∙ sym (ap (λ (n : ℕ). ends_shown p n phases.Start) e);
  }
  next_root s y (suc zero) (number ∷ roots) e f g h k = absurd k
  next_root s y (suc (suc part)) (number ∷ roots) e f g h k = absurd (let none = k.0 in cc)

  pub going_alike : (s : Thread) (y : PlainThread) (o : Onward) → IsUnderWay p s.part s.roots y → OwnFits p bit (goes_on s o) (plain.plain_goes_on y o)
  going_alike s y (Running frames) k = runs_alike (record s { frames = frames }) y k
  going_alike s y (Throwing x class frames) k = record { outside = record { frames = refl; status = refl; roots = k.roots }; ended = k.ended ∙ sym (none_ends p s.part s.roots (phases.Throw x class) k.runs refl) }
  going_alike s y (Entering m frames) k = record { outside = record { frames = refl; status = refl; roots = k.roots }; ended = k.ended ∙ sym (none_ends p s.part s.roots (phases.Enter m 0) k.runs refl) }
  going_alike s y (Leaving m a frames) k = record { outside = record { frames = refl; status = refl; roots = k.roots }; ended = k.ended ∙ sym (none_ends p s.part s.roots (phases.Leave m a) k.runs refl) }
  going_alike s y RootReturned k = subst (λ (roots : List ℕ). OwnFits p bit (record s { frames = []; phase = root_over s.roots }) (plain.plain_root_over y roots)) (sym k.roots) (next_root s y s.part s.roots refl refl k.roots k.ended k.runs)
  going_alike s y (Uncaught class) k = record {
    outside = record { frames = refl; status = refl; roots = k.roots };
    ended = ap (λ (es : List End). es ++ ends.Uncaught class ∷ []) k.ended ∙ sym (one_ends p s.part s.roots (phases.Ending (ends.Uncaught class)) (ends.Uncaught class) k.runs refl);
  }
