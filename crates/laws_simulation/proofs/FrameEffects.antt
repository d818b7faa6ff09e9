-- The instructions that read and write frames, and that enter and leave monitors, by their effects.
use Rattle.std.proofs.Common.{◌≡◌, ℕ, ◌+◌, nat_le, Bool, true, false, cond, List, [], ◌∷◌, ◌++◌, Option, Some, None, refl, sym, ap, ◌∙◌, subst, arith, IsSome, slice_index, option_map, option_and_then, if◌then◌else◌}
use Rattle.jvm_types.specs.{Members.is_synchronized, declared.{fixed_words.TheConstants.NEXT_TICKET_WORD, outcome.Thrown.{Thrown, TheVariants.{IllegalMonitorStateException, NullPointerException}}}}
use Rattle.jvm_types.specs.declared.program.MethodInfo.{MethodInfo}
use Rattle.machine_types.specs.{Accesses.{found_by, words_after}, Agreement.{has_wait_bit}, Effects.read_by, Elision.looks, Events.wanted}
use Rattle.machine_types.specs.{FoundWords.{WordFits, effect_content, run_content, content_at}, Frames.{Top, frames_of, effect_at, went, went_on, monitor_of, returned}, Going.{goes_on, goes_on_if, with_phase}}
use Rattle.machine_types.specs.{History.{act_if, instruction_acts}, Instructions.{has_print_left, effect_wants, run_wants, begun, printed, did}, Ints.int_of, Lawful.within}
use Rattle.machine_types.specs.{Onward.{Onward, Running, Throwing, Entering, Leaving, threw, called, back, returns}, Owners.references_of}
use Rattle.machine_types.specs.{PlainState.{Plain, PlainThread, Printed, value_at, holding_at, is_holder}, ReadyObjects.thrown_of, Structure.{Stands, count_in, held_depth, tried_depth}}
use Rattle.machine_types.specs.{Threads.{Frame}, Typed.{AfterHolds, FramesHold, PhaseHolds, HasClass}, Words.{header_class, header_length, header_word, variable_word}}
use Rattle.machine_types.specs.declared.{access.Access.{Access, TheVariants.{Load, Add}}, effect.Effect.Effect}
use Rattle.machine_types.specs.declared.effect.Effect.TheVariants.{Goes, Throws, Reads, Writes, Indexes, Measures, Raises, Makes, Prints, Calls, Returns, Enters, Leaves, Waits, Notifies, NotifiesAll, Stuck}
use Rattle.machine_types.{specs.declared.phase.Phase.Phase}
use Rattle.laws_threads.{specs.{TopFrames.{IsAllowed, EffectsAreAllowed}}, proofs.{FramePlaces.tops_stand_law, GoingOn.OnwardShows, Instructions.done_shows}}
use Rattle.laws_states.{specs.{FoundLaws.{IsOfHeap, HeapWordsFit}, SiteLaws.{SitesDiffer, SitesLieInside}}}
use Rattle.laws_simulation.{specs.StepsBeside.{IsAtEffect, IsOfFrames, FrameSteps}, proofs.EventSteps.{LeavesWords, not_checked, load_leaves, gone_on}}
use Rattle.laws_simulation.proofs.{GoingOnAlike.awake_fits, HeldToLeave.{IsHeld, leaves_held, exits_held, held_not_null}, HoldingsAlike.is_holder_then, MemoryParts.{prints, stays}}
use Rattle.laws_simulation.proofs.{OwnThread.{own, under_way}, RunScene.{Instruction, same_plain, still, status_fits, values, busy, makes_none, goes, may, wants, acts_are, moves, does as runs_plain}}
use Rattle.laws_simulation.proofs.{Scene.{Scene, awake, by_scene, counts_as, going, steps_in}, TopPlaces.{variable_value, header_value}, Turns.StepsOf}
use Rattle.jvm_types.specs.declared.outcome.End.TheVariants as ends
use Rattle.machine_types.specs.PlainInstructions as plain_instructions
use Rattle.machine_types.specs.PlainState as plain
use Rattle.machine_types.specs.declared.phase.After.TheVariants as afters
use Rattle.machine_types.specs.declared.phase.Phase.TheVariants as phases
use Rattle.machine_types.specs.declared.plain.Act.TheVariants as acts

pub is_some_thrown : (o : Option Thrown) → IsSome o → (x : Thrown) × (o ≡ Some x)
is_some_thrown None k = absurd (cc)
is_some_thrown (Some x) k = (x, refl)

module _ (scene : Scene) (fit : HeapWordsFit) (allowed : EffectsAreAllowed)
    (begins : IsAtEffect IsOfFrames scene.c scene.x) where
  open scene use {turn, c, objects, was, s, t, x, q, differ, marked, facts, beside, here, outside}
  open begins use {runs, at, found as at_top}

  abbrev y : PlainThread
  y = (own turn).plain

  abbrev instruction : (e : Effect) → effect_at c.program at ≡ e → Instruction turn e
  instruction e f = record { runs = runs; at = at; found = at_top; effect = f }

  counted : was t ≡ phases.Run
  counted = counts_as turn phases.Run runs

  -- ---- the thread goes on, and the plain one alike

  does_effect : (e : Effect) (o : Onward) (access : Option Access) → effect_at c.program at ≡ e → effect_wants x at.frame.pc e ≡ access → LeavesWords s.words access → plain_instructions.got_by (value_at q) (read_by e) ≡ Some (found_by s.words access)
      → did c.program (begun x) at e (found_by s.words access) ≡ goes_on (begun x) o
      → plain_instructions.plain_did c.program q t y at e (found_by s.words access) ≡ Some (plain.with_thread q t (plain.plain_goes_on y o))
      → instruction_acts x e (found_by s.words access) ≡ acts.Do ∷ [] → StepsOf turn
  does_effect e o access f w leaves value made step one =
      let i = instruction e f in
      steps_in turn phases.Run runs objects access (acts.Do ∷ []) q (goes_on (begun x) o) (plain.plain_goes_on y o) refl (wants i ∙ w) (acts_are i (found_by s.words access) ∙ one)
      (moves i (found_by s.words access) ∙ not_checked c.program (begun x) at e (found_by s.words access) outside ∙ made) (λ h. cc)
      (runs_plain i (plain.with_thread q t (plain.plain_goes_on y o)) (ap (option_and_then (λ (n : ℕ). plain_instructions.plain_did c.program q t y at e n)) value ∙ step)) (goes i o)
      (stays scene (words_after s.words access) (goes_on (begun x) o) leaves (makes_none i) (gone_on (begun x) o).makes)

  -- outside attempts nothing is looked at
  no_look : looks x.attempt ≡ None
  no_look = ap looks outside

  goes_wants : (to made : ℕ) → effect_wants x at.frame.pc (Goes to made) ≡ None
  goes_wants to made = elim (nat_le to at.frame.pc) as (λ (b : Bool). cond b (looks x.attempt) None ≡ None) [ true ↦ no_look | false ↦ refl ]

  allowed_at : (e : Effect) → effect_at c.program at ≡ e → IsAllowed c.program at e
  allowed_at e f =
      let frames : FramesHold c (within c.program) x.frames = subst (λ (now : Phase). PhaseHolds c (within c.program) now x.frames) runs (facts.threads.lawful t x here).typed.values.phase in
      subst (IsAllowed c.program at) f (allowed c x.frames at marked frames at_top)

  -- ---- what is found fits

  fits_phase : (now : Phase) → x.phase ≡ now → IsOfHeap (content_at c x now) → WordFits c.program (content_at c x now) (found_by s.words (wanted c x now))
  fits_phase now e = subst (λ (phase : Phase). IsOfHeap (content_at c x phase) → WordFits c.program (content_at c x phase) (found_by s.words (wanted c x phase))) e (fit c objects s t x marked facts.heap here (facts.threads.lawful t x here))

  fits_top : IsOfHeap (effect_content c.program at.target (effect_at c.program at)) → WordFits c.program (effect_content c.program at.target (effect_at c.program at)) (found_by s.words (effect_wants x at.frame.pc (effect_at c.program at)))
  fits_top = subst (λ (o : Option Top). IsOfHeap (run_content c.program o) → WordFits c.program (run_content c.program o) (found_by s.words (run_wants c.program x o))) at_top (fits_phase phases.Run runs)

  raised : (a : ℕ) → effect_at c.program at ≡ Raises a → IsSome (thrown_of (header_class (slice_index s.words (header_word a))))
  raised a f = (subst (λ (e : Effect). IsOfHeap (effect_content c.program at.target e) → WordFits c.program (effect_content c.program at.target e) (found_by s.words (effect_wants x at.frame.pc e))) f fits_top tt).1

  -- ---- monitors that are left

  stands : Stands c phases.Run x.frames x.held x.attempt
  stands = subst (λ (now : Phase). Stands c now x.frames x.held x.attempt) counted (facts.structure t x here).stands

  depth : (m : ℕ) → count_in m stands.shown ≡ held_depth m x.held + 0
  depth m =
      let d = stands.depths m in
      let none : tried_depth m x.attempt ≡ 0 = ap (tried_depth m) outside in
      omega (arith, d, none)

  is_holding : (m : ℕ) → IsHeld x.held m → is_holder t (holding_at q.holdings m) ≡ true
  is_holding m k = is_holder_then q.holdings s.threads beside.agrees.monitors t m x k.entry here k.is

  if_holding : (m : ℕ) (more : PlainThread) → IsHeld x.held m → plain_instructions.if_plain_held q t m y at more ≡ more
  if_holding m more k = ap (λ (b : Bool). if b then more else plain.plain_goes_on y (threw IllegalMonitorStateException at)) (is_holding m k)

  returning : effect_at c.program at ≡ Returns → plain_instructions.if_left q t y at (returns c.program at) ≡ plain.plain_goes_on y (returns c.program at)
  returning f = by_flag (is_synchronized at.method.flags) refl (done_shows c marked x.frames stands.shown at at_top stands.show Returns f 0)
    where
      holds : AfterHolds c (HasClass objects) afters.Return (frames_of at)
      holds = subst (FramesHold c (HasClass objects)) (tops_stand_law c x.frames _ stands.shown at marked stands.show at_top).1.frames (values turn phases.Run runs)

      by_flag : (b : Bool) → is_synchronized at.method.flags ≡ b → OnwardShows c (if b then Leaving (monitor_of c.program at.method at.frame) afters.Return (frames_of at) else back (returned c.program at)) stands.shown
          → plain_instructions.if_left q t y at (if b then Leaving (monitor_of c.program at.method at.frame) afters.Return (frames_of at) else back (returned c.program at))
          ≡ plain.plain_goes_on y (if b then Leaving (monitor_of c.program at.method at.frame) afters.Return (frames_of at) else back (returned c.program at))
      by_flag true e shows = if_holding (monitor_of c.program at.method at.frame) _ (leaves_held (HasClass objects) c (monitor_of c.program at.method at.frame) (frames_of at) stands.shown x.held marked (depth (monitor_of c.program at.method at.frame)) afters.Return shows holds)
      by_flag false e shows = elim (returned c.program at) as (λ (fs : List Frame). plain_instructions.if_left q t y at (back fs) ≡ plain.plain_goes_on y (back fs))
          [ [] ↦ refl | g ∷ fs ↦ refl ]

  exiting : (m : ℕ) → effect_at c.program at ≡ Leaves m → plain_instructions.plain_leaves c.program q t y at m ≡ plain.plain_goes_on y (Leaving m afters.Next (went_on c.program at 0))
  exiting m f =
      let k : IsHeld x.held m = exits_held (HasClass objects) c m (went_on c.program at 0) stands.shown x.held marked (depth m) (done_shows c marked x.frames stands.shown at at_top stands.show (Leaves m) f 0) in
      ap (λ (b : Bool). if b then plain.plain_goes_on y (threw NullPointerException at) else plain_instructions.if_left q t y at (Leaving m afters.Next (went_on c.program at 0))) (held_not_null c objects s t x m facts.heap here k)
      ∙ if_holding m _ k

  -- ---- prints

  abbrev print : (n : ℕ) → Printed
  print n = record { thread = t; value = int_of n }

  prints_by : (n : ℕ) → effect_at c.program at ≡ Prints n → (b : Bool) → has_print_left x ≡ b → StepsOf turn
  prints_by n f true e =
      let i = instruction (Prints n) f in
      let got = slice_index s.words NEXT_TICKET_WORD in
      let o = Running (went_on c.program at 0) in
      steps_in turn phases.Run runs objects (Some (Add NEXT_TICKET_WORD 1)) (acts.Do ∷ []) (record q { prints = q.prints ++ print n ∷ [] }) (goes_on (printed (begun x) got n) o) (plain.plain_goes_on y o) refl
      (wants i ∙ ap (λ (b : Bool). if b then Some (Add NEXT_TICKET_WORD 1) else None) e) (acts_are i got ∙ ap (λ (b : Bool). act_if b acts.Do) e)
      (moves i got ∙ not_checked c.program (begun x) at (Prints n) got outside ∙ ap (λ (b : Bool). if b then goes_on (printed (begun x) got n) (Running (went_on c.program at 0)) else with_phase (begun x) (phases.Ending ends.Prints)) e) (λ h. cc)
      (runs_plain i (plain.with_thread (record q { prints = q.prints ++ print n ∷ [] }) t (plain.plain_goes_on y (Running (went_on c.program at 0)))) refl)
      (going turn (printed (begun x) got n) y (Running (went_on c.program at 0)) refl outside refl (awake turn phases.Run counted (λ r h. h)) (under_way turn (busy i)))
      (prints scene (print n) (goes_on (printed (begun x) got n) (Running (went_on c.program at 0))) (makes_none i) (gone_on (printed (begun x) got n) (Running (went_on c.program at 0))).makes)
  -- the limit of prints is made
  prints_by n f false e =
      let i = instruction (Prints n) f in
      steps_in turn phases.Run runs objects None [] q (with_phase (begun x) (phases.Ending ends.Prints)) y refl
      (wants i ∙ ap (λ (b : Bool). if b then Some (Add NEXT_TICKET_WORD 1) else None) e) (acts_are i 0 ∙ ap (λ (b : Bool). act_if b acts.Do) e)
      (moves i 0 ∙ not_checked c.program (begun x) at (Prints n) 0 outside ∙ ap (λ (b : Bool). if b then goes_on (printed (begun x) 0 n) (Running (went_on c.program at 0)) else with_phase (begun x) (phases.Ending ends.Prints)) e) (λ h. cc)
      (ap Some (sym (same_plain turn)))
      (still i (phases.Ending ends.Prints) refl refl refl (awake_fits (has_wait_bit (references_of q.objects) s.words t) y.status (y.status ≡ plain.Run) (awake turn phases.Run counted (λ r h. h)) (status_fits turn phases.Run runs)))
      (stays scene s.words (with_phase (begun x) (phases.Ending ends.Prints)) refl (makes_none i) (λ a word h. cc))

  -- ---- all of them

  pub does : (e : Effect) → effect_at c.program at ≡ e → IsOfFrames e → StepsOf turn
  does (Goes to made) f k = does_effect (Goes to made) (Running (went c.program at to made)) None f (goes_wants to made) refl refl refl refl refl
  does (Throws class) f k = does_effect (Throws class) (threw class at) None f refl refl refl refl refl refl
  does (Reads v) f k =
      let k = may (instruction (Reads v) f) in
      does_effect (Reads v) (Running (went_on c.program at (slice_index s.words (variable_word v)))) (Some (Load (variable_word v))) f refl (load_leaves s.words (variable_word v))
      (variable_value c marked objects s facts.heap differ q beside at.target v k.1 k.2) refl refl refl
  does (Measures a) f k =
      let k = may (instruction (Measures a) f) in
      does_effect (Measures a) (Running (went_on c.program at (header_length (slice_index s.words (header_word a))))) (Some (Load (header_word a))) f refl (load_leaves s.words (header_word a))
      (header_value c marked objects s facts.heap differ q beside _ a k.1) refl refl refl
  does (Raises a) f k =
      let k = may (instruction (Raises a) f) in
      let class = is_some_thrown (thrown_of (header_class (slice_index s.words (header_word a)))) (raised a f) in
      does_effect (Raises a) (Throwing a class.0 (frames_of at)) (Some (Load (header_word a))) f refl (load_leaves s.words (header_word a))
      (header_value c marked objects s facts.heap differ q beside _ a k.1)
      (ap (λ (o : Option Thrown). goes_on_if (begun x) (option_map (λ class. Throwing a class (frames_of at)) o)) class.1)
      (ap (λ (o : Option Thrown). option_map (λ o. plain.with_thread q t (plain.plain_goes_on y o)) (option_map (λ class. Throwing a class (frames_of at)) o)) class.1) refl
  does (Prints n) f k = prints_by n f (has_print_left x) refl
  does (Calls number) f k =
      let call = allowed_at (Calls number) f in
      does_effect (Calls number) (called c.program at number call.called) None f no_look refl refl
      (ap (λ (o : Option MethodInfo). goes_on_if (begun x) (option_map (called c.program at number) o)) call.there)
      (ap (λ (o : Option MethodInfo). option_map (λ o. plain.with_thread q t (plain.plain_goes_on y o)) (option_map (called c.program at number) o)) call.there) refl
  does Returns f k = does_effect Returns (returns c.program at) None f refl refl refl refl (ap (λ (y : PlainThread). Some (plain.with_thread q t y)) (returning f)) refl
  does (Enters m) f k = does_effect (Enters m) (Entering m (went_on c.program at 0)) None f refl refl refl refl refl refl
  does (Leaves m) f k = does_effect (Leaves m) (Leaving m afters.Next (went_on c.program at 0)) None f refl refl refl refl (ap (λ (y : PlainThread). Some (plain.with_thread q t y)) (exiting m f)) refl
  does Stuck f k = absurd (allowed_at Stuck f)
  does (Writes v word) f k = absurd k
  does (Indexes array index stored) f k = absurd k
  does (Makes word size) f k = absurd k
  does (Waits m) f k = absurd k
  does (Notifies m) f k = absurd k
  does (NotifiesAll m) f k = absurd k

-- ---- the law

pub frame_steps : SitesDiffer → SitesLieInside → HeapWordsFit → EffectsAreAllowed → FrameSteps
frame_steps differ inside fit allowed = by_scene (IsAtEffect IsOfFrames) differ inside
    (λ scene b. does scene fit allowed b (effect_at scene.c.program b.at) refl b.kind)
