-- What an event finds of headers, fields and elements is what stands there.
use Rattle.std.proofs.Common.{◌≡◌, ℕ, ◌<◌, ◌^◌, inl, inr, true, List, [], ◌∷◌, length, Option, Some, None, refl, ap, sym, subst, ◌∙◌, arith, slice_index, IsSome}
use Rattle.lists.proofs.ListLaws.{same_some}
use Rattle.jvm_types.specs.{ClassNames.is_throwable, declared.{class_numbers.TheConstants.{INT_ARRAY_CLASS, THROWABLE_CLASS}, code.Insn.Insn, op_row.OpRow.OpRow}}
use Rattle.jvm_types.specs.declared.{outcome.Thrown.Thrown, program.{FieldInfo.FieldInfo, Kind.Kind, MethodInfo.MethodInfo, Target.Target}}
use Rattle.laws_programs.proofs.ClassTreeLaws.{leaves_alone, throwables_below}
use Rattle.checked_program.specs.{MarkedProgram.{MarkedProgram, IsMarked}, TaggedCode.row_of}
use Rattle.machine_types.specs.{Accesses.found_by, Core.Core, Events.{element_wants, wanted}}
use Rattle.machine_types.specs.{FoundWords.{IsHeader, WordFits, kind_content, variable_content, effect_content, run_content, leave_content, content_at}, Frames.{Top, top_of, effect_at}}
use Rattle.machine_types.specs.{Instructions.{effect_wants, run_wants}, Monitors.{Claim, Has, Tries, HasNot, claim}, PlainMemory.{Object, header_of}, ReadyObjects.{class_of, thrown_of}}
use Rattle.machine_types.specs.{Threads.{Frame, Thread}, Typed.{KindHolds, FramesHold, HasClass, PhaseHolds}, Words.{header_class, header_length, header_word, variable_word}}
use Rattle.machine_types.specs.declared.{effect.{Effect.{Effect, TheVariants.{Reads, Writes, Indexes, Measures, Raises}}, Variable.Variable}, lock.Kept.Kept, phase.Phase.Phase}
use Rattle.laws_threads.{specs.Allowed.{IsOf, IsNamedField, Allowed}, proofs.{KeptPhases.PhaseFinds, Landing.stand_top, Onwards.FoundHolds, Standings.top_here, TopEffects.allowed_here}}
use Rattle.laws_states.{specs.{FoundLaws.{IsOfHeap, HeapWordsFit}, HeapFacts.HeapFacts}, proofs.Accesses.{out_there, read_holds, content_is, ElementSite, element_site, element_small}}
use Rattle.laws_states.proofs.{Headers.{array_length, class_small, thrown_is, thrown_some, throwable_small}, Lists.contained_got, Movers.{HeapState, HeapMover, heap_mover}, Phases.asked}
use Rattle.jvm_types.specs.declared.program.Kind.TheVariants as kinds
use Rattle.machine_types.specs.declared.lock.Kept.TheVariants as keeps
use Rattle.machine_types.specs.declared.phase.Phase.TheVariants as phases

header_found : (c : MarkedProgram) (objects : List Object) (s : Core) → HeapFacts c objects s
    → (class a : ℕ) (k : IsOf (HasClass objects) class a) → slice_index s.words (header_word a) ≡ header_of k.2.0
header_found c objects s facts class a k =
    sym (ap (λ n. slice_index s.words (header_word n)) k.2.2) ∙ facts.typed.places.headers k.2.0 k.2.1

-- an array's length
pub length_found : (c : MarkedProgram) (marked : IsMarked c) (objects : List Object) (s : Core)
    → HeapFacts c objects s → (a : ℕ) (k : IsOf (HasClass objects) INT_ARRAY_CLASS a)
    → header_length (slice_index s.words (header_word a)) ≡ length k.2.0.values
length_found c marked objects s facts a k =
    ap header_length (header_found c objects s facts INT_ARRAY_CLASS a k) ∙ array_length k.2.0 (k.2.3 ∙ (leaves_alone k.1 INT_ARRAY_CLASS refl k.3))

module _ (state : HeapState) where
  open state use {c, marked, marked.checked.program as is_program, objects, s, facts}

  pub inside : (class v : ℕ) → HasClass objects class v → v < c.program.heap
  inside class v k = omega (arith, facts.apart.inside k.1.0 k.0 (contained_got objects k.0 k.1), k.2)

  -- ---- fields

  kind_fits : (kind : Kind) (v : ℕ) → KindHolds (HasClass objects) kind v → WordFits c.program (kind_content kind) v
  kind_fits (kinds.Ref class) v (inl e) = omega (arith, e, is_program.heap_from)
  kind_fits (kinds.Ref class) v (inr k) = inside k.0 v k.1
  kind_fits kind v h = h

  variable_fits : (target : Target) (v : Variable) (f : FieldInfo) → IsNamedField c.program (HasClass objects) target v f → WordFits c.program (variable_content c.program target) (slice_index s.words (variable_word v))
  variable_fits target v f at =
      subst (λ content. WordFits c.program content (slice_index s.words (variable_word v))) (sym (content_is c marked objects s facts target v f at))
      (kind_fits f.kind (slice_index s.words (variable_word v)) (read_holds state target v f at))

  -- ---- headers

  header_fits : (class a : ℕ) → IsOf (HasClass objects) class a → IsHeader c.program (slice_index s.words (header_word a))
  header_fits class a k = subst (IsHeader c.program) (sym (header_found c objects s facts class a k)) (facts.headers k.2.0 k.2.1)

  -- a throwable's class
  thrown_class : (a : ℕ) (k : IsOf (HasClass objects) THROWABLE_CLASS a) → (is_throwable k.1 ≡ true) × (header_class (slice_index s.words (header_word a)) ≡ k.1)
  thrown_class a k =
      let below : is_throwable k.1 ≡ true = sym (throwables_below k.1) ∙ k.3 in
      let class : k.2.0.class ≡ k.1 = k.2.3 in
      (below, ap header_class (header_found c objects s facts THROWABLE_CLASS a k) ∙ (class_small k.2.0 (omega (arith, class, (throwable_small k.1 below).1)) ∙ class))

  raise_holds : (a : ℕ) → IsOf (HasClass objects) THROWABLE_CLASS a → (class : Thrown) → thrown_of (header_class (slice_index s.words (header_word a))) ≡ Some class → HasClass objects (class_of class) a
  raise_holds a k class e = subst (λ d. HasClass objects d a) (sym (thrown_is (header_class (slice_index s.words (header_word a))) class e ∙ (thrown_class a k).1)) k.2

  -- ---- what the event that begins an instruction finds

  effect_found : (x : Thread) (m : MethodInfo) (insn : Insn) (target : Target) (r : OpRow) (stack : List ℕ) (pc : ℕ) (e : Effect) → Allowed c.program m (HasClass objects) insn target r stack e → IsOfHeap (effect_content c.program target e)
      → WordFits c.program (effect_content c.program target e) (found_by s.words (effect_wants x pc e))
  effect_found x m insn target r stack pc (Reads v) al heap = variable_fits target v al.1 al.2
  effect_found x m insn target r stack pc (Writes v n) al heap = variable_fits target v al.1 al.2
  effect_found x m insn target r stack pc (Indexes a i stored) al heap = header_fits INT_ARRAY_CLASS a al.1
  effect_found x m insn target r stack pc (Measures a) al heap = header_fits INT_ARRAY_CLASS a al.1
  effect_found x m insn target r stack pc (Raises a) al heap = (header_fits THROWABLE_CLASS a al.1, (let t = thrown_class a al.1 in subst (λ d. IsSome (thrown_of d)) (sym t.1) (thrown_some al.1.1 t.0)))
  effect_found x m insn target r stack pc e al heap = first_of (assumption, grind arith)

  run_found : (x : Thread) (fs : List Frame) → FramesHold c (HasClass objects) fs → IsOfHeap (run_content c.program (top_of c.program fs))
      → WordFits c.program (run_content c.program (top_of c.program fs)) (found_by s.words (run_wants c.program x (top_of c.program fs)))
  run_found x [] h heap = tt
  run_found x (f ∷ fs) h heap =
      let k = h.0.stands in
      subst (λ o. IsOfHeap (run_content c.program o) → WordFits c.program (run_content c.program o) (found_by s.words (run_wants c.program x o))) (sym (stand_top c marked f fs k))
      (λ heap. effect_found x k.method k.insn k.target (row_of c.program k.method k.insn k.target) f.stack f.pc (effect_at c.program (top_here c f fs k)) (allowed_here c marked (HasClass objects) (out_there c marked objects s facts) f h.0) heap) heap

  -- ---- as the types of the thread ask it

  effect_holds : (x : Thread) (m : MethodInfo) (insn : Insn) (target : Target) (r : OpRow) (stack : List ℕ) (pc : ℕ) (e : Effect) → Allowed c.program m (HasClass objects) insn target r stack e
      → FoundHolds c.program (HasClass objects) target e (found_by s.words (effect_wants x pc e))
  effect_holds x m insn target r stack pc (Reads v) al = λ f at. read_holds state target v f at
  effect_holds x m insn target r stack pc (Measures a) al = omega (arith, (header_fits INT_ARRAY_CLASS a al.1).fits, is_program.heap_to)
  effect_holds x m insn target r stack pc (Raises a) al = raise_holds a al.1
  effect_holds x m insn target r stack pc e al = tt

  pub run_finds : (x : Thread) (fs : List Frame) → FramesHold c (HasClass objects) fs → PhaseFinds c (HasClass objects) phases.Run fs (found_by s.words (run_wants c.program x (top_of c.program fs)))
  run_finds x [] h = λ at e. absurd (cc)
  run_finds x (f ∷ fs) h = λ at e.
      let k = h.0.stands in
      let one : top_here c f fs k ≡ at = same_some (sym (stand_top c marked f fs k) ∙ e) in
      let holds : FoundHolds c.program (HasClass objects) k.target (effect_at c.program (top_here c f fs k)) (found_by s.words (run_wants c.program x (Some (top_here c f fs k)))) =
      effect_holds x k.method k.insn k.target (row_of c.program k.method k.insn k.target) f.stack f.pc (effect_at c.program (top_here c f fs k)) (allowed_here c marked (HasClass objects) (out_there c marked objects s facts) f h.0) in
      let there : FoundHolds c.program (HasClass objects) at.target (effect_at c.program at) (found_by s.words (run_wants c.program x (Some at))) =
      subst (λ (y : Top). FoundHolds c.program (HasClass objects) y.target (effect_at c.program y) (found_by s.words (run_wants c.program x (Some y)))) one holds in
      subst (λ o. FoundHolds c.program (HasClass objects) at.target (effect_at c.program at) (found_by s.words (run_wants c.program x o))) (sym e) there

  -- ---- an element

  pub element_found : (word : ℕ) (stored : Option ℕ) → ElementSite objects word stored → found_by s.words (Some (element_wants word stored)) < 2 ^ 32
  element_found word None k = element_small state word None k
  element_found word (Some v) k = element_small state word (Some v) k

  -- ---- all phases

  no_heap_left : (claimed : Claim) → IsOfHeap (leave_content claimed) → ⊥
  no_heap_left (Has h) heap = (elim h.kept as (λ (kept : Kept). IsOfHeap (leave_content (Has (record h { kept = kept }))) → ⊥)
      [ keeps.Flat n ↦ λ heap. heap | keeps.Fat r ↦ λ heap. heap ]) heap
  no_heap_left (Tries a) heap = heap
  no_heap_left HasNot heap = heap

module _ (mover : HeapMover) where
  open mover use {t, x, there, state, state.{c, objects, s, facts}}

  found_fits : (phase : Phase) → x.phase ≡ phase → IsOfHeap (content_at c x phase) → WordFits c.program (content_at c x phase) (found_by s.words (wanted c x phase))
  found_fits phases.Run e heap = run_found state x x.frames (subst (λ y. PhaseHolds c (HasClass objects) y x.frames) e (facts.typed.threads t x there).phase) heap
  found_fits (phases.Element word stored) e heap =
      let h : PhaseHolds c (HasClass objects) (phases.Element word stored) x.frames = subst (λ y. PhaseHolds c (HasClass objects) y x.frames) e (facts.typed.threads t x there).phase in
      let k = asked mover (phases.Element word stored) e in
      element_found state word stored (element_site state word stored x.frames h.0 h.1 k.0 k.1)
  found_fits (phases.Leave m a) e heap = absurd (no_heap_left state (claim x m) heap)
  found_fits phase e heap = first_of (assumption, grind arith)

pub heap_fits : HeapWordsFit
heap_fits c objects s t x marked facts there lawful = found_fits (heap_mover c marked objects s facts t x there lawful) x.phase refl
