-- What is known of a thread inside an attempt: its phase, how it stands to the monitor that it enters or leaves there, and what
-- the instruction of its top frame may do.
use Rattle.std.proofs.Common.{◌≡◌, ℕ, ◌<◌, Bool, false, cond, List, [], ◌∷◌, length, Option, Some, None, refl, ap, ◌∙◌, subst, arith}
use Rattle.jvm_types.specs.declared.outcome.End.{End, TheVariants.{Returned, Uncaught}}
use Rattle.checked_program.specs.MarkedProgram.{MarkedProgram, IsMarked}
use Rattle.machine_types.specs.{Frames.{Top, top_of, effect_at}, HeldMonitors.held_at, Monitors.{Tries, HasNot, claim, claim_by}, Parts.has_finished, Shown.Show, Standing.Whole}
use Rattle.machine_types.specs.{Structure.{AttemptStands, AttemptStandsIn, IsAs, IsLimitAt, IsStructured, Stands}, Threads.{Attempt, Frame, Thread}, declared.{lock.Held.Held, phase.Phase.Phase}}
use Rattle.machine_types.proofs.PlainStepLaws.{is_same}
use Rattle.laws_threads.{specs.{InsideEffects.{InsideMayDo, MayDo, TakesOwned}, InsideMoves.ElementsInside}, proofs.FramePlaces.has_top}
use Rattle.machine_types.specs.declared.phase.Phase.TheVariants as phases

-- ---- what is known

-- the top frame, with what its instruction may do
pub record AtInstruction (c : MarkedProgram) (x : Thread) (a : Attempt) : Type 0 where
  pub at : Top
  pub found : top_of c.program x.frames ≡ Some at
  pub may : MayDo c a.monitor at (effect_at c.program at)

-- and where it has come to an element, which it reads, of an array that the monitor's object owns
pub record AtElement (c : MarkedProgram) (x : Thread) (a : Attempt)
    (stored : Option ℕ) : Type 0 where
  pub at : Top
  pub found : top_of c.program x.frames ≡ Some at
  pub read : stored ≡ None
  pub owned : TakesOwned c a.monitor at

-- a part that ended there was ended by a limit
abbrev pub KnownInside : MarkedProgram → Thread → Attempt → Phase → Type 0
KnownInside c x a phases.Run = AtInstruction c x a
KnownInside c x a (phases.Element word stored) = AtElement c x a stored
KnownInside c x a (phases.Throw r class) = Unit {0}
KnownInside c x a (phases.Enter n tried) = claim x n ≡ Tries a
KnownInside c x a (phases.Leave n b) = claim x n ≡ Tries a
KnownInside c x a (phases.Ending e) = has_finished e ≡ false
KnownInside c x a (phases.Ended e) = has_finished e ≡ false
KnownInside c x a phase = ⊥

pub record Inside (c : MarkedProgram) (x : Thread) (a : Attempt) : Type 0 where
  pub attempt : x.attempt ≡ Some a
  pub based : a.base < length x.frames
  pub known : KnownInside c x a x.phase

-- ---- its monitor, and its top frame

tries_it : (x : Thread) (a : Attempt) (n : ℕ) → x.attempt ≡ Some a → held_at x.held a.monitor ≡ None → n ≡ a.monitor → claim x n ≡ Tries a
tries_it x a n attempt none is = ap (λ (k : ℕ). claim x k) is
    ∙ ap (λ (o : Option Held). claim_by a.monitor o x.attempt) none ∙ ap (λ (o : Option Attempt). claim_by a.monitor None o) attempt ∙ ap (λ (b : Bool). cond b (Tries a) HasNot) (is_same a.monitor)

pub top_there : (c : MarkedProgram) → IsMarked c → (fs : List Frame) (shown : List ℕ) (base : ℕ) → Show c Whole fs shown → base < length fs → (at : Top) × (top_of c.program fs ≡ Some at)
top_there c marked [] shown base show some = absurd (omega (arith, some))
top_there c marked (f ∷ fs) shown base show some = let k = show.3.stands in (_, has_top c marked f fs k)

-- ---- by its phase

by_limit : (e : End) (phase was : Phase) → IsLimitAt e phase was → (was ≡ phase → ⊥) → has_finished e ≡ false
by_limit Returned phase was is never = absurd (never is)
by_limit (Uncaught class) phase was is never = absurd (never is)
by_limit e phase was is never = refl

module _ (may_do : InsideMayDo) (elements : ElementsInside) (c : MarkedProgram) (marked : IsMarked c) (x : Thread) (a : Attempt) (attempt : x.attempt ≡ Some a) where
  abbrev StandsAt : Phase → Type 0
  StandsAt phase = Stands c phase x.frames x.held (Some a) × AttemptStands c phase x.frames x.held a

  -- a part that ended has no frame
  no_frame : x.frames ≡ [] → a.base < length x.frames → ⊥
  no_frame none some = let long : length x.frames ≡ 0 = ap length none in omega (arith, long, some)

  known_at : (phase was : Phase) → IsAs phase was → StandsAt was → KnownInside c x a phase
  known_at phases.Run was is k =
      let top = top_there c marked x.frames (subst StandsAt is k).0.shown a.base (subst StandsAt is k).0.show (subst StandsAt is k).1.based in
      record { at = top.0; found = top.1; may = may_do c x.frames x.held a top.0 marked (subst StandsAt is k).1 (subst StandsAt is k).0 top.1 }
  known_at (phases.Element word stored) was is k =
      let top = top_there c marked x.frames (subst StandsAt is k).0.shown a.base (subst StandsAt is k).0.show (subst StandsAt is k).1.based in
      let reads = elements c word stored x.frames x.held a top.0 marked (subst StandsAt is k).1 (subst StandsAt is k).0 top.1 in
      record { at = top.0; found = top.1; read = reads.read; owned = reads.owned }
  known_at (phases.Throw r class) was is k = tt
  known_at (phases.Enter n tried) was is k = let now = subst StandsAt is k in tries_it x a n attempt now.1.not_held now.1.inside
  known_at (phases.Leave n b) was is k = let now = subst StandsAt is k in tries_it x a n attempt now.1.not_held now.1.inside
  known_at (phases.Ending e) was is k = by_limit e (phases.Ending e) was is (λ same. no_frame (subst StandsAt same k).0.phase_shows (subst StandsAt same k).1.based)
  known_at (phases.Ended e) was is k = by_limit e (phases.Ended e) was is (λ same. no_frame (subst StandsAt same k).0.phase_shows (subst StandsAt same k).1.based)
  known_at phase was is k = let now = subst StandsAt is k in now.1.inside

  pub is_inside : (was : Phase) → IsStructured c was x → Inside c x a
  is_inside was k =
      let tried = subst (λ (o : Option Attempt). AttemptStandsIn c was x.frames x.held o) attempt k.attempt in
      record { attempt = attempt; based = tried.based; known = known_at x.phase was k.is_as (subst (λ (o : Option Attempt). Stands c was x.frames x.held o) attempt k.stands, tried) }
