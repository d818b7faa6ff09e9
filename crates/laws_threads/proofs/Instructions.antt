-- A thread makes an instruction.
use Rattle.std.proofs.Common.{◌≡◌, ℕ, ◌+◌, Bool, true, cond, List, [], ◌∷◌, ◌++◌, Option, Some, None, refl, sym, ap, ◌∙◌, subst, arith, slice_get, option_map}
use Rattle.jvm_types.specs.{Members.is_synchronized, declared.code.Insn.Insn}
use Rattle.jvm_types.specs.declared.{outcome.Thrown.TheVariants.{StackOverflowError, IllegalMonitorStateException, OutOfMemoryError, ArrayIndexOutOfBoundsException}, program.MethodInfo.MethodInfo}
use Rattle.checked_program.specs.MarkedProgram.{MarkedProgram, IsMarked}
use Rattle.machine_types.specs.{Frames.{Top, top_of, frames_of, effect_at, went, went_on, waiting, making, has_room, monitor_of, returned}, Going.{with_phase, goes_on, goes_on_if}}
use Rattle.machine_types.specs.{HeldMonitors.held_at, Instructions.{made, printed}, Ints.low, Onward.{Onward, Running, Throwing, Entering, Leaving, threw, called, entered, returns, back, done}}
use Rattle.machine_types.specs.{ReadyObjects.{ready, thrown_of}, Shown.Show, Standing.Whole}
use Rattle.machine_types.specs.{Structure.{TopIs, AreHeldOnce, IsFlat, IsFat, Stands, AttemptStandsIn, is_element_op, count_in, held_depth, tried_depth, once_at}, Threads.{Frame, Attempt, Thread}}
use Rattle.machine_types.specs.{Words.{header_class, header_length, value_word}, declared.{effect.Effect.Effect, lock.{Held.Held, Kept.Kept}, phase.Phase.Phase}}
use Rattle.laws_threads.specs.{CallLaws.callee_frame, InsideEffects.MayDo, InsideMoves.GoesAlong, MoveLaws.goes_to, StructureLaws.StaysStructured, ThrowLaws.may_throw}
use Rattle.laws_threads.proofs.{ElementEffects.element_at, FrameCalls.{calls_law, call_enters_law}, FramePlaces.tops_stand_law, FrameReturns.returns_law, FrameThrows.{effects_throw_law, throws_law}}
use Rattle.laws_threads.proofs.{GoingOn.{back_shows, OnwardShows, AttemptGoesOn, none_goes_on, onward_stands, going}, Inside.{inside_may, stays_in}, MonitorMoves.{enters_law, leaves_law}}
use Rattle.laws_threads.proofs.{MoveProofs.{follow_law, effects_law, making_law}, Steps.steps_inside, Tests.either_way}
use Rattle.laws_threads.proofs.{ThreadMove.{if_either, Asks, WaitsFrom, IsNotify, of_one, of_all, Refuses, past_end, no_memory, waits_unheld, notifies_unheld}, Turns.{running, no_attempt}}
use Rattle.jvm_types.specs.declared.outcome.End.TheVariants as ends
use Rattle.jvm_types.specs.declared.outcome.Thrown as outcomes
use Rattle.machine_types.specs.declared.effect.Effect.TheVariants as effects
use Rattle.machine_types.specs.declared.phase.After.TheVariants as afters
use Rattle.machine_types.specs.declared.phase.Phase.TheVariants as phases
use Rattle.machine_types.specs.declared.phase.Toward.TheVariants as towards
use Rattle.laws_threads.proofs.ThreadMove as moves

-- ---- where there is an onward

abbrev pub OnwardShowsIf : MarkedProgram → Option Onward → (shown : List ℕ) → Type 0
OnwardShowsIf c None shown = Unit {0}
OnwardShowsIf c (Some onward) shown = OnwardShows c onward shown

abbrev pub AttemptGoesOnIf : MarkedProgram → Option Onward → List Held → Option Attempt → Type 0
AttemptGoesOnIf c None held a = Unit {0}
AttemptGoesOnIf c (Some onward) held a = AttemptGoesOn c onward held a

pub going_if : (c : MarkedProgram) (was : Phase) (s : Thread) → AreHeldOnce s.held → StaysStructured c was s → (o : Option Onward) (shown : List ℕ) → OnwardShowsIf c o shown → ((m : ℕ) → count_in m shown ≡ held_depth m s.held + tried_depth m s.attempt)
    → AttemptGoesOnIf c o s.held s.attempt → StaysStructured c was (goes_on_if s o)
going_if c was s once same None shown k d inside = same
going_if c was s once same (Some onward) shown k d inside = going c was s once onward shown k d inside

-- ---- what an instruction shows, by its effect

module _ (c : MarkedProgram) (marked : IsMarked c) (fs : List Frame) (shown : List ℕ) (at : Top) (t : top_of c.program fs ≡ Some at) (show : Show c Whole fs shown) where
  is_top : fs ≡ frames_of at
  is_top = (tops_stand_law c fs Whole shown at marked show t).1.frames

  moved_on : (to made : ℕ) (e : Effect) → effect_at c.program at ≡ e → goes_to at.insn.next e ≡ Some to → OnwardShows c (Running (went c.program at to made)) shown
  moved_on to made e f g = (tt, effects_law c fs shown at to made marked t show (ap (goes_to at.insn.next) f ∙ g))

  pub threw_shows : (x : outcomes.Thrown) (e : Effect) → effect_at c.program at ≡ e → may_throw e ≡ true → OnwardShows c (threw x at) shown
  threw_shows x e f g = let k = throws_law c fs shown at marked t show (effects_throw_law c fs shown at marked t show (ap may_throw f ∙ g)) in (k.1, k.0)

  raised_shows : (x : ℕ) → effect_at c.program at ≡ effects.Raises x → (o : Option outcomes.Thrown) → OnwardShowsIf c (option_map (λ class. Throwing x class (frames_of at)) o) shown
  raised_shows x f None = tt
  raised_shows x f (Some class) = let k = throws_law c fs shown at marked t show (effects_throw_law c fs shown at marked t show (ap may_throw f)) in (k.1, k.0)

  called_shows : (number : ℕ) → effect_at c.program at ≡ effects.Calls number → (o : Option MethodInfo) → slice_get c.program.methods number ≡ o → OnwardShowsIf c (option_map (called c.program at number) o) shown
  called_shows number f None g = tt
  called_shows number f (Some m) g =
      let frame = callee_frame c.program at number m in
      if_either (λ o. OnwardShows c o shown) (has_room c.program (frames_of at) m) (entered c.program m frame (waiting c.program at)) (threw StackOverflowError at)
      (either_way (λ (b : Bool). is_synchronized m.flags ≡ b → Show c Whole (frame ∷ waiting c.program at) (cond b (monitor_of c.program m frame ∷ []) [] ++ shown)
      → OnwardShows c (cond b (Entering (monitor_of c.program m frame) (frame ∷ waiting c.program at)) (Running (frame ∷ waiting c.program at))) shown) (is_synchronized m.flags)
      (λ e k. (call_enters_law c fs at number m marked t g e, k)) (λ e k. (tt, k)) refl (calls_law c fs shown at number m marked t show f g))
      (threw_shows StackOverflowError (effects.Calls number) f refl)

  returns_shows : effect_at c.program at ≡ effects.Returns → OnwardShows c (returns c.program at) shown
  returns_shows f =
      let left = returns_law c fs shown at marked t show f in
      either_way (λ (b : Bool). is_synchronized at.method.flags ≡ b → shown ≡ cond b (monitor_of c.program at.method at.frame ∷ []) [] ++ left.rest
      → OnwardShows c (cond b (Leaving (monitor_of c.program at.method at.frame) afters.Return (frames_of at)) (back (returned c.program at))) shown) (is_synchronized at.method.flags)
      (λ e own. record { leaves = left.leaves e; now = shown; counts = λ n. omega arith; show = subst (λ (gs : List Frame). Show c Whole gs shown) is_top show })
      (λ e own. subst (λ (ns : List ℕ). OnwardShows c (back (returned c.program at)) ns) (sym own) (back_shows c (returned c.program at) left.rest left.show)) refl left.own

  left_shows : (m : ℕ) → effect_at c.program at ≡ effects.Leaves m → OnwardShows c (Leaving m afters.Next (went_on c.program at 0)) shown
  left_shows m f = let k = leaves_law c fs shown at m marked t show f in
      record { leaves = tt; now = k.0; counts = λ n. (let all : count_in n shown ≡ once_at m n + count_in n k.0 = ap (count_in n) k.1 in omega arith); show = k.2 }

  pub done_shows : (e : Effect) → effect_at c.program at ≡ e → (got : ℕ) → OnwardShowsIf c (done c.program at e got) shown
  done_shows (effects.Goes to made) f got = moved_on to made (effects.Goes to made) f refl
  done_shows (effects.Throws x) f got = threw_shows x (effects.Throws x) f refl
  done_shows (effects.Reads v) f got = moved_on at.insn.next got (effects.Reads v) f refl
  done_shows (effects.Writes v word) f got = moved_on at.insn.next 0 (effects.Writes v word) f refl
  done_shows (effects.Measures array) f got = moved_on at.insn.next (header_length got) (effects.Measures array) f refl
  done_shows (effects.Raises x) f got = raised_shows x f (thrown_of (header_class got))
  done_shows (effects.Prints n) f got = moved_on at.insn.next 0 (effects.Prints n) f refl
  done_shows (effects.Calls number) f got = called_shows number f (slice_get c.program.methods number) refl
  done_shows effects.Returns f got = returns_shows f
  done_shows (effects.Enters m) f got = let k = enters_law c fs shown at m marked t show f in (k.1, k.0)
  done_shows (effects.Leaves m) f got = left_shows m f
  done_shows e f got = tt

-- ---- the instruction of a thread

module _ (c : MarkedProgram) (marked : IsMarked c) (s : Thread) (at : Top) (t : top_of c.program s.frames ≡ Some at) (k : Stands c phases.Run s.frames s.held s.attempt) (inside : AttemptStandsIn c phases.Run s.frames s.held s.attempt)
    (was : Phase) (same : StaysStructured c was s) where
  deep : (m : ℕ) → count_in m k.shown ≡ held_depth m s.held + tried_depth m s.attempt
  deep m = let d = k.depths m in omega arith

  -- in an attempt it may do but little
  may_do : (a : Attempt) → s.attempt ≡ Some a → (e : Effect) → effect_at c.program at ≡ e → MayDo c a.monitor at e
  may_do a g e f = subst (λ (x : Effect). MayDo c a.monitor at x) f (inside_may c s.frames s.held a at marked (subst (λ (o : Option Attempt). AttemptStandsIn c phases.Run s.frames s.held o) g inside) (subst (λ (o : Option Attempt). Stands c phases.Run s.frames s.held o) g k) t)

  along : (e : Effect) → effect_at c.program at ≡ e → GoesAlong at.insn e
  along (effects.Goes to v) f = (follow_law c s.frames k.shown at to marked t k.show (ap (goes_to at.insn.next) f)).1
  along e f = tt

  step_inside : (e : Effect) → effect_at c.program at ≡ e → (got : ℕ) (o : Option Onward) → done c.program at e got ≡ o → OnwardShowsIf c o k.shown → (q : Option Attempt) → s.attempt ≡ q → AttemptGoesOnIf c o s.held q
  step_inside e f got None g shows q h = tt
  step_inside e f got (Some onward) g shows None h = tt
  step_inside e f got (Some onward) g shows (Some a) h = steps_inside c s.frames s.held a at got onward marked (subst (λ (o : Option Attempt). AttemptStandsIn c phases.Run s.frames s.held o) h inside) (subst (λ (o : Option Attempt). Stands c phases.Run s.frames s.held o) h k)
      t (subst (λ (x : Effect). GoesAlong at.insn x) (sym f) (along e f)) (ap (λ (x : Effect). done c.program at x got) f ∙ g) (onward_stands c onward k.shown shows)

  step : (e : Effect) → effect_at c.program at ≡ e → (got : ℕ) → StaysStructured c was (goes_on_if s (done c.program at e got))
  step e f got = let shows = done_shows c marked s.frames k.shown at t k.show e f got in
      going_if c was s k.once same (done c.program at e got) k.shown shows deep (step_inside e f got (done c.program at e got) refl shows s.attempt refl)

  threw_inside : (x : outcomes.Thrown) (o : Option Attempt) → AttemptStandsIn c (phases.Throw (ready x) x) (frames_of at) s.held o → AttemptGoesOn c (threw x at) s.held o
  threw_inside x None h = tt
  threw_inside x (Some a) h = h

  threw_on : (x : outcomes.Thrown) (e : Effect) → effect_at c.program at ≡ e → may_throw e ≡ true → StaysStructured c was (goes_on s (threw x at))
  threw_on x e f g = going c was s k.once (threw x at) k.shown (threw_shows c marked s.frames k.shown at t k.show x e f g) deep
      (threw_inside x s.attempt (subst (λ (fs : List Frame). AttemptStandsIn c (phases.Throw (ready x) x) fs s.held s.attempt) (tops_stand_law c s.frames Whole k.shown at marked k.show t).1.frames (stays_in c (phases.Throw (ready x) x) s.frames s.held s.attempt (λ m. tt) inside)))

  none_by : (e : Effect) → effect_at c.program at ≡ e → ((m : ℕ) → MayDo c m at e → ⊥) → s.attempt ≡ None
  none_by e f never = (elim s.attempt as (λ o. s.attempt ≡ o → o ≡ None) [ None ↦ λ g. refl | Some a ↦ λ g. absurd (never a.monitor (may_do a g e f)) ]) refl

  pub does : (e : Effect) (got : ℕ) (onward : Onward) → effect_at c.program at ≡ e → done c.program at e got ≡ Some onward → StaysStructured c was (goes_on s onward)
  does e got onward f d = subst (λ (o : Option Onward). StaysStructured c was (goes_on_if s o)) d (step e f got)

  pub refuses : (x : outcomes.Thrown) (got : ℕ) → Refuses c.program got at x → StaysStructured c was (goes_on s (threw x at))
  refuses _ got (past_end array index stored f e) = threw_on ArrayIndexOutOfBoundsException (effects.Indexes array index stored) f refl
  refuses _ got (no_memory word size f) = threw_on OutOfMemoryError (effects.Makes word size) f refl
  refuses _ got (waits_unheld m f) = threw_on IllegalMonitorStateException (effects.Waits m) f refl
  refuses _ got (notifies_unheld m (of_one f)) = threw_on IllegalMonitorStateException (effects.Notifies m) f refl
  refuses _ got (notifies_unheld m (of_all f)) = threw_on IllegalMonitorStateException (effects.NotifiesAll m) f refl

  -- ---- an element

  top_at_element : (array index : ℕ) (stored : Option ℕ) → effect_at c.program at ≡ effects.Indexes array index stored → TopIs c (is_element_op stored) s.frames
  top_at_element array index stored f = let top = tops_stand_law c s.frames Whole k.shown at marked k.show t in
      subst (λ (fs : List Frame). TopIs c (is_element_op stored) fs) (sym top.1.frames)
      (top.0, subst (λ (insn : Insn). is_element_op stored insn.op ≡ true) (sym top.1.insn) (element_at c.program at.insn.next at.target at.insn.op at.frame.locals at.frame.stack array index stored f))

  pub element_begins : (array index : ℕ) (stored : Option ℕ) → effect_at c.program at ≡ effects.Indexes array index stored → StaysStructured c was (with_phase s (phases.Element (value_word array (low index)) stored))
  element_begins array index stored f = record {
    is_as = refl;
    stands = record { shown = k.shown; show = k.show; depths = k.depths; once = k.once; phase_shows = top_at_element array index stored f };
    attempt = stays_in c (phases.Element (value_word array (low index)) stored) s.frames s.held s.attempt (λ m. tt) inside;
  }

  -- ---- a new object, and a print

  pub object_begins : (word size got : ℕ) → effect_at c.program at ≡ effects.Makes word size → StaysStructured c was (record s { frames = making c.program at; phase = phases.Made got word })
  object_begins word size got f = record {
    is_as = refl;
    stands = record { shown = k.shown; show = making_law c s.frames k.shown at word size marked t k.show f; depths = k.depths; once = k.once; phase_shows = tt };
    attempt = no_attempt c (phases.Made got word) (making c.program at) s.held s.attempt (none_by (effects.Makes word size) f (λ m n. n));
  }

  pub prints_one : (n got : ℕ) → effect_at c.program at ≡ effects.Prints n → StaysStructured c was (goes_on (printed s got n) (Running (went_on c.program at 0)))
  prints_one n got f = going c was (printed s got n) k.once (Running (went_on c.program at 0)) k.shown (done_shows c marked s.frames k.shown at t k.show (effects.Prints n) f got) deep
      (none_goes_on c (Running (went_on c.program at 0)) s.held s.attempt (none_by (effects.Prints n) f (λ m n. n)))

  pub prints_no_more : StaysStructured c was (with_phase s (phases.Ending ends.Prints))
  prints_no_more = record { is_as = refl; stands = k; attempt = inside }

  -- ---- what asks that a monitor is held

  went_shows : (e : Effect) → effect_at c.program at ≡ e → goes_to at.insn.next e ≡ Some at.insn.next → Show c Whole (went_on c.program at 0) k.shown
  went_shows e f g = effects_law c s.frames k.shown at at.insn.next 0 marked t k.show (ap (goes_to at.insn.next) f ∙ g)

  pub waits_for : (m : ℕ) (h : Held) (kept : Kept) (now : Phase) → effect_at c.program at ≡ effects.Waits m → held_at s.held m ≡ Some h → h.kept ≡ kept → WaitsFrom m kept now
      → StaysStructured c was (record s { frames = went_on c.program at 0; phase = now; turns = 0 })
  waits_for m h _ _ f e g (moves.grows_first count) = record {
    is_as = refl;
    stands = record { shown = k.shown; show = went_shows (effects.Waits m) f refl; depths = k.depths; once = k.once; phase_shows = record { toward_shows = tt; flat = subst (λ (o : Option Held). IsFlat o) (sym e) (count, g); once = tt } };
    attempt = no_attempt c (phases.Grow m towards.Wait) (went_on c.program at 0) s.held s.attempt (none_by (effects.Waits m) f (λ m n. n));
  }
  waits_for m h _ _ f e g (moves.waits_fat r) = record {
    is_as = refl;
    stands = record { shown = k.shown; show = went_shows (effects.Waits m) f refl; depths = k.depths; once = k.once; phase_shows = (tt, subst (λ (o : Option Held). IsFat r o) (sym e) g) };
    attempt = no_attempt c (phases.WaitBit m r) (went_on c.program at 0) s.held s.attempt (none_by (effects.Waits m) f (λ m n. n));
  }

  -- one or all
  notify_shows : (m : ℕ) → IsNotify c.program at m → Show c Whole (went_on c.program at 0) k.shown × (s.attempt ≡ None)
  notify_shows m (of_one f) = (went_shows (effects.Notifies m) f refl, none_by (effects.Notifies m) f (λ m n. n))
  notify_shows m (of_all f) = (went_shows (effects.NotifiesAll m) f refl, none_by (effects.NotifiesAll m) f (λ m n. n))

  pub notifies_nobody : (m : ℕ) → IsNotify c.program at m → StaysStructured c was (goes_on s (Running (went_on c.program at 0)))
  notifies_nobody m y = let shows = notify_shows m y in
      running c was (record s { frames = went_on c.program at 0 }) (record { shown = k.shown; show = shows.0; depths = k.depths; once = k.once; phase_shows = tt }) (no_attempt c phases.Run (went_on c.program at 0) s.held s.attempt shows.1)

  pub notifies_some : (m : ℕ) (h : Held) (kept : Kept) (now : Phase) → IsNotify c.program at m → held_at s.held m ≡ Some h → h.kept ≡ kept → Asks m kept now → StaysStructured c was (record s { frames = went_on c.program at 0; phase = now })
  notifies_some m h _ _ y e g (moves.looks_who r) = let shows = notify_shows m y in record {
    is_as = refl;
    stands = record { shown = k.shown; show = shows.0; depths = k.depths; once = k.once; phase_shows = (tt, subst (λ (o : Option Held). IsFat r o) (sym e) g) };
    attempt = no_attempt c (phases.NotifyLook m r) (went_on c.program at 0) s.held s.attempt shows.1;
  }
  notifies_some m h _ _ y e g (moves.clears_all r) = let shows = notify_shows m y in record {
    is_as = refl;
    stands = record { shown = k.shown; show = shows.0; depths = k.depths; once = k.once; phase_shows = (tt, subst (λ (o : Option Held). IsFat r o) (sym e) g) };
    attempt = no_attempt c (phases.NotifyAll m r) (went_on c.program at 0) s.held s.attempt shows.1;
  }
