-- An instruction inside an attempt is one more act of the replay, which finds in every memory that has the places that stay what the
-- thread found.
use Rattle.std.proofs.Common.{◌≡◌, ◌⊎◌, inl, inr, ℕ, suc, ◌+◌, nat_lt, Bool, true, false, List, [], ◌∷◌, Option, Some, None, refl, sym, ap, ◌∙◌, subst, arith, IsSome, slice_get, slice_index, option_map, option_and_then, if◌then◌else◌}
use Rattle.jvm_types.specs.declared.{outcome.{End.End, Thrown.{Thrown, TheVariants.ArrayIndexOutOfBoundsException}}, program.{MethodInfo.MethodInfo, Program.Program}}
use Rattle.machine_types.specs.{Accesses.found_by, Attempts.IsReadBegun, Effects.read_by, Events.wanted, FoundWords.{WordFits, effect_content, run_content, content_at}}
use Rattle.machine_types.specs.{Frames.{Top, frames_of, top_of, effect_at, went, went_on}, Going.{goes_on, goes_on_if, with_phase}}
use Rattle.machine_types.specs.{History.{Fate, GoesOn, run_fate, instruction_acts, run_acts}, Instructions.{effect_wants, run_wants, begun, did, ran}, Ints.low, Lawful.within}
use Rattle.machine_types.specs.{Onward.{Onward, Running, Throwing, Entering, Leaving, threw, called, returns, done}, PlainInstructions.got_by, ReadyObjects.thrown_of}
use Rattle.machine_types.specs.{Replay.{Alone, only_on, reads_only, goes, instructs, replay_act, begun_and_done, status_inside, at_present}, Structure.{IsAs, IsStructured, Stands, AttemptStands}}
use Rattle.machine_types.specs.{Threads.{Attempt, Thread}, Typed.{FramesHold, PhaseHolds, HasClass}, Words.{header_class, header_length, header_word, value_word, variable_word}}
use Rattle.machine_types.specs.declared.{effect.Effect.{Effect, TheVariants.{Goes, Throws, Reads, Indexes, Measures, Raises, Calls, Returns, Enters, Leaves, Stuck}}, phase.Phase.Phase, plain.Act.Act}
use Rattle.laws_threads.{specs.{Allowed.Allowed, InsideEffects.MayDo, TopFrames.{IsAllowed, EffectsAreAllowed}}, proofs.{EntryKept.steps_kept, Inside.inside_may}}
use Rattle.laws_states.{specs.{FoundLaws.{IsOfHeap, HeapWordsFit}}}
use Rattle.laws_simulation.proofs.{FrameEffects.is_some_thrown}
use Rattle.laws_refinement.proofs.{Checks.instructed_by, Attempting.{Trying, StaysNow, attempt_as, stands_as, frames_as, holds_as}, GoingOn.{Grows, GoesAlike, Knows, comes_there, going_alike, grown}, StayPlaces.{top_reads, variable_stays, header_stays}}
use Rattle.machine_types.specs.PlainState as plain
use Rattle.machine_types.specs.declared.phase.After.TheVariants as afters
use Rattle.machine_types.specs.declared.phase.Phase.TheVariants as phases
use Rattle.machine_types.specs.declared.plain.Act.TheVariants as acts
use Rattle.laws_simulation.proofs.TopPlaces as agreement

-- ---- what an event makes of the attempt: it goes on with it, or ends it

abbrev pub ByFate : Program → (Keeps : (n : ℕ) → Type 0) → (words : List ℕ) → Thread → Attempt → (was now phase : Phase) → Fate → Thread → List Act → Type 0
ByFate p Keeps words x a was now phase GoesOn y acts = Grows p Keeps words x a was now phase y acts
ByFate p Keeps words x a was now phase fate y acts = y.attempt ≡ None

-- ---- one effect

-- it goes on, and so does a replay with the word that it reads in its memory
pub record DoesAlike (p : Program) (Keeps : (n : ℕ) → Type 0) (words : List ℕ) (x : Thread) (at : Top) (e : Effect) : Type 0 where
  pub onward : Onward
  pub moves : did p (begun x) at e (found_by words (effect_wants x at.frame.pc e)) ≡ goes_on (begun x) onward
  -- it goes on as some effect does
  pub step : (by : Effect) × (got : ℕ) × (done p at by got ≡ Some onward)
  pub act : instruction_acts x e (found_by words (effect_wants x at.frame.pc e)) ≡ acts.Do ∷ []
  pub reads : (memory : ℕ → Option ℕ) → Knows Keeps words memory → (got : ℕ) × (got_by memory (read_by e) ≡ Some got) × (reads_only p memory at e got ≡ Some onward)

-- or it comes to an element, which is still to be read
pub record ComesToElement (p : Program) (words : List ℕ) (x : Thread) (at : Top)
    (e : Effect) : Type 0 where
  pub word : ℕ
  pub moves : did p (begun x) at e (found_by words (effect_wants x at.frame.pc e)) ≡ with_phase (begun x) (phases.Element word None)
  pub act : instruction_acts x e (found_by words (effect_wants x at.frame.pc e)) ≡ []

-- ---- of a thread in an attempt, whose instruction begins

module _ (fit : HeapWordsFit) (allowed : EffectsAreAllowed) (trying : Trying) (runs : trying.x.phase ≡ phases.Run) (at : Top) (at_top : top_of trying.c.program trying.x.frames ≡ Some at) where
  open trying use {c, objects, was, s, t, x, marked, facts, here, a, tries}

  abbrev Keeps : (n : ℕ) → Type 0
  Keeps = StaysNow trying

  counted : was t ≡ phases.Run
  counted = subst (λ (now : Phase). IsAs now (was t)) runs (facts.structure t x here).is_as

  stands : Stands c phases.Run x.frames x.held (Some a)
  stands = stands_as trying phases.Run counted

  attempt_stands : AttemptStands c phases.Run x.frames x.held a
  attempt_stands = attempt_as trying phases.Run counted

  top : agreement.MayDo c objects at
  top = agreement.may_do c objects s x.frames at marked facts.heap (holds_as trying phases.Run runs) at_top

  -- what it may do
  does_at : (e : Effect) → effect_at c.program at ≡ e → Allowed c.program at.method (HasClass objects) at.insn at.target top.row at.frame.stack e
  does_at e f = subst (Allowed c.program at.method (HasClass objects) at.insn at.target top.row at.frame.stack) f top.allowed

  allowed_at : (e : Effect) → effect_at c.program at ≡ e → IsAllowed c.program at e
  allowed_at e f =
      let frames : FramesHold c (within c.program) x.frames = subst (λ (now : Phase). PhaseHolds c (within c.program) now x.frames) runs (facts.threads.lawful t x here).typed.values.phase in
      subst (IsAllowed c.program at) f (allowed c x.frames at marked frames at_top)

  -- what is found fits
  raised : (v : ℕ) → effect_at c.program at ≡ Raises v → IsSome (thrown_of (header_class (slice_index s.words (header_word v))))
  raised v f =
      let of_phase = subst (λ (phase : Phase). IsOfHeap (content_at c x phase) → WordFits c.program (content_at c x phase) (found_by s.words (wanted c x phase))) runs (fit c objects s t x marked facts.heap here (facts.threads.lawful t x here)) in
      let of_top = subst (λ (o : Option Top). IsOfHeap (run_content c.program o) → WordFits c.program (run_content c.program o) (found_by s.words (run_wants c.program x o))) at_top of_phase in
      (subst (λ (e : Effect). IsOfHeap (effect_content c.program at.target e) → WordFits c.program (effect_content c.program at.target e) (found_by s.words (effect_wants x at.frame.pc e))) f of_top tt).1

  -- ---- by its effect

  abbrev DoesSo : Effect → Type 0
  DoesSo e = DoesAlike c.program Keeps s.words x at e ⊎ ComesToElement c.program s.words x at e

  -- an element of an array that the monitor's object owns
  indexes : (array index : ℕ) → effect_at c.program at ≡ Indexes array index None → DoesSo (Indexes array index None)
  indexes array index f = by_test (nat_lt (low index) (header_length header)) refl
    where
      header : ℕ
      header = slice_index s.words (header_word array)

      moves_by : (b : Bool) → nat_lt (low index) (header_length header) ≡ b → did c.program (begun x) at (Indexes array index None) header ≡ (if b then with_phase (begun x)
          (phases.Element (value_word array (low index)) None) else goes_on (begun x) (threw ArrayIndexOutOfBoundsException at))
      moves_by b e = ap (λ (b : Bool). if b then with_phase (begun x) (phases.Element (value_word array (low index)) None) else goes_on (begun x) (threw ArrayIndexOutOfBoundsException at)) e

      by_test : (b : Bool) → nat_lt (low index) (header_length header) ≡ b → DoesSo (Indexes array index None)
      by_test true e = inr (record { word = value_word array (low index); moves = moves_by true e; act = ap (λ (b : Bool). if b then [] else acts.Do ∷ []) e })
      by_test false e = inl (record {
        onward = threw ArrayIndexOutOfBoundsException at;
        moves = moves_by false e;
        step = (Throws ArrayIndexOutOfBoundsException, 0, refl);
        act = ap (λ (b : Bool). if b then [] else acts.Do ∷ []) e;
        reads = λ memory knows. (
          header,
          knows (header_word array) (header_stays trying (frames_as trying phases.Run counted)
              at at_top _ array (does_at (Indexes array index None) f).1),
          ap (λ (b : Bool). if b then option_map (λ value. Running (went_on c.program at value)) (memory (value_word array (low index))) else Some (threw ArrayIndexOutOfBoundsException at)) e,
        );
      })

  -- an effect that loads the word of a place that stays
  loads : (e : Effect) (word : ℕ) (onward : Onward) → Keeps word → did c.program (begun x) at e (found_by s.words (effect_wants x at.frame.pc e)) ≡ goes_on (begun x) onward → done c.program at e (slice_index s.words word) ≡ Some onward
      → instruction_acts x e (found_by s.words (effect_wants x at.frame.pc e)) ≡ acts.Do ∷ [] → ((memory : ℕ → Option ℕ) → got_by memory (read_by e) ≡ memory word)
      → ((memory : ℕ → Option ℕ) → reads_only c.program memory at e (slice_index s.words word) ≡ Some onward) → DoesSo e
  loads e word onward stays moves step act reads only = inl (record {
    onward = onward;
    moves = moves;
    step = (e, slice_index s.words word, step);
    act = act;
    reads = λ memory knows. (slice_index s.words word, reads memory ∙ knows word stays, only memory);
  })

  does : (e : Effect) → effect_at c.program at ≡ e → MayDo c a.monitor at e → DoesSo e
  does (Goes to made) f k = inl (record { onward = Running (went c.program at to made); moves = refl; step = (Goes to made, 0, refl); act = refl; reads = λ memory knows. (0, refl, refl) })
  does (Throws class) f k = inl (record { onward = threw class at; moves = refl; step = (Throws class, 0, refl); act = refl; reads = λ memory knows. (0, refl, refl) })
  does (Reads v) f k =
      let named = does_at (Reads v) f in
      loads (Reads v) (variable_word v) (Running (went_on c.program at (slice_index s.words (variable_word v))))
      (variable_stays trying (frames_as trying phases.Run counted) at at_top v named.1 (top_reads c x.frames x.held a at marked attempt_stands stands at_top) f k named.2) refl refl refl
      (λ memory. refl) (λ memory. refl)
  does (Measures v) f k = loads (Measures v) (header_word v) (Running (went_on c.program at (header_length (slice_index s.words (header_word v)))))
      (header_stays trying (frames_as trying phases.Run counted) at at_top _ v (does_at (Measures v) f).1) refl refl refl (λ memory. refl) (λ memory. refl)
  does (Raises v) f k =
      let class = is_some_thrown (thrown_of (header_class (slice_index s.words (header_word v)))) (raised v f) in
      let step = ap (λ (o : Option Thrown). option_map (λ kind. Throwing v kind (frames_of at)) o) class.1 in
      loads (Raises v) (header_word v) (Throwing v class.0 (frames_of at))
      (header_stays trying (frames_as trying phases.Run counted) at at_top _ v (does_at (Raises v) f).1) (ap (goes_on_if (begun x)) step) step refl (λ memory. refl) (λ memory. step)
  does (Calls number) f k =
      let call = allowed_at (Calls number) f in
      let step : option_map (called c.program at number) (slice_get c.program.methods number) ≡ Some (called c.program at number call.called) = ap (λ (o : Option MethodInfo). option_map (called c.program at number) o) call.there in
      inl (record { onward = called c.program at number call.called; moves = ap (goes_on_if (begun x)) step; step = (Calls number, 0, step); act = refl; reads = λ memory knows. (0, refl, step) })
  does Returns f k = inl (record { onward = returns c.program at; moves = refl; step = (Returns, 0, refl); act = refl; reads = λ memory knows. (0, refl, refl) })
  does (Enters m) f k = inl (record { onward = Entering m (went_on c.program at 0); moves = refl; step = (Enters m, 0, refl); act = refl; reads = λ memory knows. (0, refl, refl) })
  does (Leaves m) f k = inl (record { onward = Leaving m afters.Next (went_on c.program at 0); moves = refl; step = (Leaves m, 0, refl); act = refl; reads = λ memory knows. (0, refl, refl) })
  does Stuck f k = absurd (allowed_at Stuck f)
  does (Indexes array index None) f k = indexes array index f
  does e f k = absurd k

  -- ---- the instruction

  abbrev its : Effect
  its = effect_at c.program at

  abbrev got : ℕ
  got = found_by s.words (effect_wants x at.frame.pc its)

  module _ (now : Phase) where
    abbrev GrowsTo : Thread → List Act → Type 0
    GrowsTo y act = Grows c.program Keeps s.words x a (was t) now phases.Run y act

    -- it is done
    module _ (d : DoesAlike c.program Keeps s.words x at its)
        (k : IsStructured c now (goes_on (begun x) d.onward)) where
      alike : GoesAlike c x a now (begun x) d.onward
      alike = going_alike c x a now (begun x) a.inner refl attempt_stands.based d.onward tries (steps_kept c.program x.frames a at d.step.0 d.step.1 d.onward at_top d.step.2) k

      acted : (memory : ℕ → Option ℕ) → Knows Keeps s.words memory → (n : ℕ) (ended : List End) → replay_act c.program a.monitor memory (at_present x a phases.Run n ended) acts.Do plain.Run ≡ Some
          (at_present (goes_on (begun x) d.onward) a now (n + 1) ended)
      acted memory knows n ended =
          let z : Alone = at_present x a phases.Run n ended in
          let more : Alone = record z { begun = n + 1 } in
          let found = d.reads memory knows in
          ap (instructs c.program a.monitor memory z) at_top ∙ ap (λ (o : Option ℕ). goes more (option_and_then (λ word. option_and_then (only_on a.monitor)
          (reads_only c.program memory at its word)) o)) found.1 ∙ ap (λ (o : Option Onward). goes more (option_and_then (only_on a.monitor) o)) found.2 ∙ ap (goes more) alike.only
          ∙ comes_there c x a now (begun x) d.onward a.inner alike plain.Run ended (n + 1)

      its_grown : GrowsTo (goes_on (begun x) d.onward) (acts.Do ∷ [])
      its_grown = grown c x a now (begun x) d.onward a.inner alike Keeps s.words (was t) phases.Run acts.Do counted tries (λ memory knows n some ended. acted memory knows n ended)

    -- it is still to be done
    comes : (word : ℕ) → IsStructured c now (with_phase (begun x) (phases.Element word None)) → GrowsTo (with_phase (begun x) (phases.Element word None)) []
    comes word k = record {
      inner = a.inner;
      attempt = tries;
      entry = λ ended. refl;
      begun = λ n. subst (λ (phase : Phase). IsReadBegun phase (n + 1)) (sym k.is_as) (omega arith);
      replays = λ memory knows n some ended. (
          let status : status_inside (was t) ≡ status_inside now = ap status_inside counted ∙ ap status_inside (sym k.is_as) in
          let same : begun_and_done (was t) n ≡ begun_and_done now (n + 1) = ap (λ (phase : Phase). begun_and_done phase n) counted ∙ (omega arith)
          ∙ ap (λ (phase : Phase). begun_and_done phase (n + 1)) (sym k.is_as) in
          (λ i. Some (let next : Alone = record { thread = record { frames = x.frames; status = status i; roots = x.roots; ended = ended }; depth = suc a.inner; begun = same i } in next)));
    }

    grows_by : (d : DoesSo its) → IsStructured c now (did c.program (begun x) at its got) → GrowsTo (did c.program (begun x) at its got) (instruction_acts x its got)
    grows_by (inl d) k = subst (λ (y : Thread). GrowsTo y (instruction_acts x its got)) (sym d.moves) (subst (λ (act : List Act). GrowsTo (goes_on (begun x) d.onward) act) (sym d.act)
        (its_grown d (subst (IsStructured c now) d.moves k)))
    grows_by (inr d) k = subst (λ (y : Thread). GrowsTo y (instruction_acts x its got)) (sym d.moves) (subst (λ (act : List Act). GrowsTo (with_phase (begun x) (phases.Element d.word None)) act)
        (sym d.act) (comes d.word (subst (IsStructured c now) d.moves k)))

    abbrev RunsBy : Option Top → Type 0
    RunsBy o = IsStructured c now (ran c.program x o (found_by s.words (run_wants c.program x o)))
        → ByFate c.program Keeps s.words x a (was t) now phases.Run (run_fate c a o (found_by s.words (run_wants c.program x o))) (ran c.program x o (found_by s.words (run_wants c.program x o))) (run_acts c x o (found_by s.words (run_wants c.program x o)))

    pub runs_by_fate : RunsBy (top_of c.program x.frames)
    runs_by_fate = subst RunsBy (sym at_top) (instructed_by (λ y fate. IsStructured c now y → ByFate c.program Keeps s.words x a (was t) now phases.Run fate y
        (instruction_acts x its got)) c.program a (begun x) at its got tries (grows_by (does its refl (inside_may c x.frames x.held a at marked attempt_stands stands at_top))) (λ k. refl))
