-- The event that reads or stores an element: the plain machine does the whole instruction with it.
use Rattle.std.proofs.Common.{◌≡◌, ℕ, ◌<◌, nat_lt, Bool, true, false, List, [], ◌∷◌, length, Option, Some, None, refl, sym, ap, subst, ◌∙◌, arith, Contains, slice_index, slice_set, option_map, option_and_then, ◌==◌, if◌then◌else◌}
use Rattle.std.proofs.lemmas.Bool.Decides.{nat_tests}
use Rattle.jvm_types.specs.declared.{class_numbers.TheConstants.INT_ARRAY_CLASS, code.{Insn.Insn, Op.Op}, fixed_words.TheConstants.NEXT_FREE_WORD, op_row.OpRow.OpRow}
use Rattle.jvm_types.specs.declared.{outcome.Thrown.TheVariants.ArrayIndexOutOfBoundsException, program.{MethodInfo.MethodInfo, Program.Program, Target.Target}}
use Rattle.checked_program.specs.{MarkedProgram.{MarkedProgram, IsMarked}, TaggedCode.row_of}
use Rattle.machine_types.specs.{Core.Core, Effects.effect, Events.{element_made, moved}, Frames.{Top, top_of, effect_at, went_on}, Going.{goes_on, goes_on_if}, History.{steps_of}, Ints.low}
use Rattle.machine_types.specs.{Onward.{Onward, Running, threw}, PlainInstructions.{plain_did, indexed_in, plain_instructed, instructed_by}, PlainMemory.Object}
use Rattle.machine_types.specs.{PlainState.{Plain, PlainThread, value_at, written, with_thread}, PlainSteps.{step_at, plain_run}, Structure.{PhaseShows, TopIs, is_element_op}, Threads.{Frame, Thread}}
use Rattle.machine_types.specs.{Typed.{FramesHold, HasClass, IsElementOn, ElementStands, HasElement, HasElementOn, HasElementIn}, Words.{header_length, header_word, value_word}}
use Rattle.machine_types.specs.declared.{access.Access.TheVariants.{Load, Store}, effect.Effect.{Effect, TheVariants.{Throws, Indexes}}, phase.Phase.Phase}
use Rattle.laws_threads.{specs.Allowed.{Allowed, IsOf}, proofs.{Landing.stand_top, Onwards.same_op, Standings.top_here, TopEffects.allowed_here}}
use Rattle.laws_states.{specs.{HeapFacts.{HeapFacts}, Sites.{HeaderOf, ValueOf}}, proofs.{Accesses.out_there, Found.length_found, Lists.contained_got, Places.same_object}}
use Rattle.laws_simulation.{specs.StepsBeside.StepsBeside, proofs.{Assembled.one_step, EventSteps.gone_on, MemoryParts.{stays, writes}, OwnThread.{IsBusy, own, under_way}, PlainValues.value_found}}
use Rattle.laws_simulation.proofs.{RunScene.{frames_are, status_fits, values}, Scene.{Scene, GoesOn, Memory, awake, counts_as, going, steps_in, looked}}
use Rattle.jvm_types.specs.declared.code.Op.TheVariants as ops
use Rattle.jvm_types.specs.declared.outcome.Thrown.TheVariants as thrown
use Rattle.machine_types.specs.PlainState as plain
use Rattle.machine_types.specs.declared.phase.Phase.TheVariants as phases
use Rattle.machine_types.specs.declared.plain.Act.TheVariants as acts

-- ---- the element that the stack names

pub record Names (objects : List Object) (p : Program) (next : ℕ) (target : Target) (op : Op) (locals stack : List ℕ) (word : ℕ) (stored : Option ℕ) : Type 0 where
  pub array : ℕ
  pub index : ℕ
  pub effect_is : effect p next target op locals stack ≡ Indexes array index stored
  pub word_is : word ≡ value_word array index
  pub element : HasElement objects array index

null_or_not : (a i : ℕ) (stored : Option ℕ) → 0 < a → (if a == 0 then Throws thrown.NullPointerException else Indexes a i stored) ≡ Indexes a i stored
null_or_not a i stored h = (elim (a == 0) as (λ (b : Bool). (a == 0) ≡ b → (if b then Throws thrown.NullPointerException else Indexes a i stored) ≡ Indexes a i stored)
    [ true ↦ λ e. absurd (grind (arith, nat_tests, e, h)) | false ↦ λ e. refl ]) refl

names : (objects : List Object) (p : Program) (next : ℕ) (target : Target) (op : Op) (locals stack : List ℕ) (word : ℕ) (stored : Option ℕ) → is_element_op stored op ≡ true → IsElementOn word stored stack → HasElementOn objects stored stack
    → ((o : Object) → Contains objects o → 0 < o.reference) → Names objects p next target op locals stack word stored
names objects p next target ops.Iaload locals (i ∷ a ∷ stack) word None t on k some =
    record { array = a; index = i; effect_is = null_or_not a i None (subst (λ (n : ℕ). 0 < n) k.is (some k.object k.there)); word_is = on; element = k }
names objects p next target ops.Iastore locals (w ∷ i ∷ a ∷ stack) word (Some v) t on k some = record {
  array = a;
  index = i;
  effect_is = null_or_not a i (Some w) (subst (λ (n : ℕ). 0 < n) k.is (some k.object k.there)) ∙ ap (λ (n : ℕ). Indexes a i (Some n)) (sym on.1);
  word_is = on.0;
  element = k;
}
names objects p next target op locals stack word None t on k some = absurd (first_of (assumption, cc))
names objects p next target op locals stack word (Some v) t on k some = absurd (first_of (assumption, cc))

-- one word stands there
one_on : (w v : ℕ) (stored : Option ℕ) (stack : List ℕ) → IsElementOn w stored stack → IsElementOn v stored stack → w ≡ v
one_on w v None (i ∷ a ∷ stack) e f = e ∙ sym f
one_on w v (Some n) (u ∷ i ∷ a ∷ stack) e f = e.0 ∙ sym f.0
one_on w v stored stack e f = absurd (assumption)

-- the instruction that the event ends, with the element at the word
module _ (c : MarkedProgram) (objects : List Object) (x : Thread) where
  pub record Element (word : ℕ) (stored : Option ℕ) : Type 0 where
    pub at : Top
    pub found : top_of c.program x.frames ≡ Some at
    pub array : ℕ
    pub index : ℕ
    pub effect_is : effect_at c.program at ≡ Indexes array index stored
    pub word_is : word ≡ value_word array (low index)
    pub element : HasElement objects array (low index)
    pub is_array : IsOf (HasClass objects) INT_ARRAY_CLASS array

module _ (c : MarkedProgram) (objects : List Object) (s : Core) (x : Thread) (marked : IsMarked c)
    (heap : HeapFacts c objects s) where
  pub element_in : (word : ℕ) (stored : Option ℕ) (fs : List Frame) → x.frames ≡ fs → ElementStands word stored fs → FramesHold c (HasClass objects) fs → HasElementIn objects stored fs → (test : TopIs c (is_element_op stored) fs) → Element c objects x word stored
  element_in word stored [] e on h k top = absurd on
  element_in word stored (f ∷ fs) e on h k top =
      let allows : (array index : ℕ) (z : Effect) → z ≡ Indexes array index stored → (m : MethodInfo) (insn : Insn) (target : Target) (r : OpRow) → Allowed c.program m (HasClass objects) insn target r f.stack z → IsOf (HasClass objects) INT_ARRAY_CLASS array × IsElementOn (value_word array (low index)) stored f.stack =
      λ array index z e m insn target r al. let k : Allowed c.program m (HasClass objects) insn target r f.stack (Indexes array index stored) = subst (λ (w : Effect). Allowed c.program m (HasClass objects) insn target r f.stack w) e al in (k.1, k.2) in
      let named : (f : Frame) (fs : List Frame) → x.frames ≡ f ∷ fs → IsElementOn word stored f.stack → (array index : ℕ) → HasElement objects array index → word ≡ value_word array index → (at : Top) → top_of c.program (f ∷ fs) ≡ Some at → effect_at c.program at ≡ Indexes array index stored → IsOf (HasClass objects) INT_ARRAY_CLASS array × IsElementOn (value_word array (low index)) stored f.stack → Element c objects x word stored =
      λ f fs e on array index k is at found effect_is al.
      let here : word ≡ value_word array (low index) = one_on word (value_word array (low index)) stored f.stack on al.1 in
      let same : low index ≡ index = omega (arith, here, is) in
      record {
        at = at;
        found = ap (top_of c.program) e ∙ found;
        array = array;
        index = index;
        effect_is = effect_is;
        word_is = here;
        element = subst (λ (n : ℕ). HasElement objects array n) (sym same) k;
        is_array = al.0;
      } in
      let j = h.0.stands in
      let op = ap (is_element_op stored) (same_op c marked (HasClass objects) f j top.0) ∙ top.1 in
      let n = names objects c.program j.insn.next j.target j.insn.op f.locals f.stack word stored op on k (λ o k. omega (arith, heap.apart.begin k.0 o (contained_got objects o k))) in
      let found : top_of c.program (f ∷ fs) ≡ Some (top_here c f fs j) = stand_top c marked f fs j in
      let al = allowed_here c marked (HasClass objects) (out_there c marked objects s heap) f h.0 in
      named f fs e on n.array n.index n.element n.word_is (top_here c f fs j) found n.effect_is (allows n.array n.index (effect_at c.program (top_here c f fs j)) n.effect_is j.method j.insn j.target (row_of c.program j.method j.insn j.target) al)

  -- the array has it
  pub has_element : (word : ℕ) (stored : Option ℕ) (k : Element c objects x word stored)
      → nat_lt (low k.index) (header_length (slice_index s.words (header_word k.array))) ≡ true
  has_element word stored k =
      let object : Object = k.is_array.2.0 in
      let one : k.element.object ≡ object = same_object c.program objects
      (slice_index s.words NEXT_FREE_WORD) heap.apart k.element.object object k.element.there
      k.is_array.2.1 (k.element.is ∙ sym k.is_array.2.2) in
      let long : header_length (slice_index s.words (header_word k.array)) ≡ length object.values =
      length_found c marked objects s heap k.array k.is_array in
      let below : low k.index < header_length (slice_index s.words (header_word k.array)) =
      omega (arith, k.element.below, long, ap (λ (o : Object). length o.values) one) in
      grind (arith, nat_tests, below)

module _ (scene : Scene) where
  open scene use {turn, c, objects, was, s, t, x, q}

  module _ (word : ℕ) (stored : Option ℕ) (phase_is : x.phase ≡ phases.Element word stored) where
    was_so : was t ≡ phases.Element word stored
    was_so = counts_as turn (phases.Element word stored) phase_is

    k : Element c objects x word stored
    k =
        let own = scene.facts.structure t x scene.here in
        let stands = own.stands in
        let shows : PhaseShows c (phases.Element word stored) x.frames stands.shown x.held x.attempt = subst (λ (z : Phase). PhaseShows c z x.frames stands.shown x.held x.attempt) was_so stands.phase_shows in
        let holds = values turn (phases.Element word stored) phase_is in
        element_in c objects s x scene.marked scene.facts.heap word stored x.frames refl holds.0 holds.1 (scene.facts.heap.typed.elements t x word stored scene.here phase_is) shows

    abbrev y : PlainThread
    y = (own turn).plain

    abbrev place : ℕ
    place = value_word k.array (low k.index)

    abbrev header : ℕ
    header = slice_index s.words (header_word k.array)

    header_stands : value_at q (header_word k.array) ≡ Some header
    header_stands = let object = k.is_array.2 in value_found scene.differ c objects s q scene.marked scene.facts.heap scene.beside (HeaderOf k.array) tt (object.0, object.1, object.2)

    stands : value_at q place ≡ Some (slice_index s.words place)
    stands = value_found scene.differ c objects s q scene.marked scene.facts.heap scene.beside (ValueOf k.array (low k.index)) tt (k.element.object, k.element.there, k.element.is, k.element.below)

    has_it : nat_lt (low k.index) (header_length header) ≡ true
    has_it = has_element c objects s x scene.marked scene.facts.heap word stored k

    makes_none : (a header : ℕ) → x.phase ≡ phases.Made a header → ⊥
    makes_none a header h = let both : phases.Element word stored ≡ phases.Made a header = sym phase_is ∙ h in cc

    goes : (made : ℕ) → GoesOn turn (goes_on x (Running (went_on c.program k.at made))) (plain.plain_goes_on y (Running (went_on c.program k.at made)))
    goes made = going turn x y (Running (went_on c.program k.at made)) refl scene.outside refl
        (awake turn (phases.Element word stored) was_so (λ r h. h)) (under_way turn (subst IsBusy (sym phase_is) tt))

    run_is : plain_run c.program q (steps_of t (acts.Do ∷ [])) ≡ Some (indexed_in c.program q t y k.at place stored (slice_index s.words place))
    run_is = one_step c.program q (indexed_in c.program q t y k.at place stored (slice_index s.words place)) t y acts.Do (own turn).here
        (ap (step_at c.program q t y acts.Do) (status_fits turn (phases.Element word stored) phase_is)
        ∙ (ap (λ (fs : List Frame). plain_instructed c.program q t y (top_of c.program fs)) (frames_are turn (phases.Element word stored) phase_is)
        ∙ (ap (plain_instructed c.program q t y) k.found
        ∙ (ap (instructed_by c.program q t y k.at) k.effect_is
        ∙ (ap (option_and_then (λ (n : ℕ). plain_did c.program q t y k.at (Indexes k.array k.index stored) n)) header_stands
        ∙ (ap (λ (b : Bool). if b then option_map (indexed_in c.program q t y k.at place stored) (value_at q place) else Some (with_thread q t (plain.plain_goes_on y (threw ArrayIndexOutOfBoundsException k.at)))) has_it
        ∙ ap (option_map (indexed_in c.program q t y k.at place stored)) stands))))))

    moves : (got : ℕ) → moved c x (phases.Element word stored) got ≡ goes_on x (Running (went_on c.program k.at (element_made stored got)))
    moves got = ap (λ (o : Option Top). goes_on_if x (option_map (λ (at : Top). Running (went_on c.program at (element_made stored got))) o)) k.found

  pub element_steps : (word : ℕ) (stored : Option ℕ) → x.phase ≡ phases.Element word stored → StepsBeside c objects s t x q
  element_steps word None phase_is =
      let e = k word None phase_is in
      let o : Onward = Running (went_on c.program e.at (slice_index s.words word)) in
      steps_in turn (phases.Element word None) phase_is objects (Some (Load word)) (acts.Do ∷ []) q (goes_on x o) (plain.plain_goes_on (own turn).plain o) refl refl refl (moves word None phase_is (slice_index s.words word)) (λ h. cc)
      (run_is word None phase_is ∙ ap (λ (n : ℕ). Some (with_thread q t (plain.plain_goes_on (own turn).plain (Running (went_on c.program e.at n))))) (ap (slice_index s.words) (sym e.word_is)))
      (goes word None phase_is (slice_index s.words word)) (stays scene (slice_set s.words word (slice_index s.words word)) (goes_on x o) (looked s.words word) (makes_none word None phase_is) (gone_on x o).makes)
  element_steps word (Some v) phase_is =
      let e = k word (Some v) phase_is in
      let o : Onward = Running (went_on c.program e.at 0) in
      steps_in turn (phases.Element word (Some v)) phase_is objects (Some (Store word v)) (acts.Do ∷ []) (written q word v) (goes_on x o) (plain.plain_goes_on (own turn).plain o) refl refl refl (moves word (Some v) phase_is (slice_index s.words word)) (λ h. cc)
      (run_is word (Some v) phase_is ∙ ap (λ (n : ℕ). Some (with_thread (written q n v) t (plain.plain_goes_on (own turn).plain o))) (sym e.word_is))
      (goes word (Some v) phase_is 0) (subst (λ (n : ℕ). Memory turn objects (slice_set s.words n v) (written q n v) (goes_on x o)) (sym e.word_is)
      (writes scene (ValueOf e.array (low e.index)) tt (e.element.object, e.element.there, e.element.is, e.element.below) v (slice_index s.words (value_word e.array (low e.index))) (stands word (Some v) phase_is) (goes_on x o) (makes_none word (Some v) phase_is) (gone_on x o).makes))
