-- What an instruction stores, and how large an object is that it makes.
use Rattle.std.proofs.Common.{◌≡◌, ℕ, ◌<◌, ◌≤◌, ◌^◌, inl, inr, true, false, List, [], ◌∷◌, Option, Some, ap, sym, subst, ◌∙◌, arith}
use Rattle.lists.proofs.ListLaws.{same_some}
use Rattle.jvm_types.specs.{CodeTable.row, declared.{code.Op.Op, program.{FieldInfo.FieldInfo, Kind.Kind, MethodInfo.MethodInfo, Program.Program, Target.Target}}}
use Rattle.jvm_types.specs.declared.typing.VType.{VType, TheVariants.{Ref, New}}
use Rattle.checked_program.{specs.{MarkedProgram.{MarkedProgram, IsMarked}, TaggedCode.row_of}, proofs.FewFields.few_fields}
use Rattle.machine_types.specs.{FoundWords.{Content, IntPlace, ReferencePlace, kind_content, field_content, variable_content}, Frames.{Top, top_of, effect_at}, Lawful.within, ReadyObjects.out_object}
use Rattle.machine_types.specs.{Structure.{TopIs, is_element_op}, Threads.Frame, Typed.{Classes, KindHolds, FramesHold, IsElementOn, ElementStands}, declared.effect.Effect.Effect}
use Rattle.machine_types.specs.declared.effect.Effect.TheVariants.{Writes, Makes}
use Rattle.laws_threads.{specs.Allowed.{IsNamedField, TakenHold, MadeAs, Allowed}, proofs.{Landing.stand_top, Onwards.same_op, Standings.top_here, TopEffects.{taken_here, allowed_here}}}
use Rattle.laws_states.specs.Counters.{most_size}
use Rattle.jvm_types.specs.declared.code.Op.TheVariants as ops
use Rattle.jvm_types.specs.declared.program.Kind.TheVariants as kinds

-- a place of a field or element
abbrev pub IsPlace : Content → Type 0
IsPlace IntPlace = Unit {0}
IsPlace ReferencePlace = Unit {0}
IsPlace content = ⊥

abbrev pub StoresFit : Program → Target → Effect → Type 0
StoresFit p target (Writes v word) = IsPlace (variable_content p target) × (word < 2 ^ 64)
StoresFit p target (Makes word size) = size ≤ most_size
StoresFit p target e = Unit {0}

kind_is_place : (k : Kind) → IsPlace (kind_content k)
kind_is_place (kinds.Ref class) = tt
kind_is_place k = tt

field_is_place : (p : Program) (is : Classes) (target : Target) (v : _) (f : FieldInfo) → IsNamedField p is target v f → IsPlace (variable_content p target)
field_is_place p is target v f at = subst (λ (t : Target). IsPlace (variable_content p t)) (sym at.named) (subst (λ (o : Option FieldInfo). IsPlace (field_content o)) (sym at.there) (kind_is_place f.kind))

module _ (c : MarkedProgram) (marked : IsMarked c) where
  open marked use {checked.program as is_program}

  value_small : (k : Kind) (v : ℕ) → KindHolds (within c.program) k v → v < 2 ^ 64
  value_small (kinds.Ref class) v (inl e) = omega (arith, e)
  value_small (kinds.Ref class) v (inr o) = omega (arith, o.1, is_program.heap_to)
  value_small k v h = omega (arith, h)

  size_small : (m : MethodInfo) (type : VType) (word size : ℕ) → MadeAs c.program m type word size → size ≤ most_size
  size_small m (New pc) word size h = omega (arith, h.4, few_fields c.program h.0 is_program)
  size_small m (Ref class) word size h = omega (arith, h.4, h.2, is_program.heap_to)
  size_small m type word size h = absurd (assumption)

  allowed_fits : (m : MethodInfo) (insn : _) (target : Target) (r : _) (s : List ℕ) (e : Effect) → Allowed c.program m (within c.program) insn target r s e → StoresFit c.program target e
  allowed_fits m insn target r s (Writes v word) a = (field_is_place c.program (within c.program) target v a.1 a.2, value_small a.1.kind word a.3)
  allowed_fits m insn target r s (Makes word size) a = size_small m a.1 word size a.4
  allowed_fits m insn target r s e a = tt

  out : out_object < c.program.heap
  out = omega (arith, is_program.heap_from)

  pub stores_fit : (fs : List Frame) (at : Top) → FramesHold c (within c.program) fs → top_of c.program fs ≡ Some at → StoresFit c.program at.target (effect_at c.program at)
  stores_fit [] at h e = absurd (cc)
  stores_fit (f ∷ fs) at h e =
      subst (λ (x : Top). StoresFit c.program x.target (effect_at c.program x)) (same_some (sym (stand_top c marked f fs h.0.stands) ∙ e))
      (allowed_fits h.0.stands.method h.0.stands.insn h.0.stands.target (row_of c.program h.0.stands.method h.0.stands.insn h.0.stands.target) f.stack (effect_at c.program (top_here c f fs h.0.stands)) (allowed_here c marked (within c.program) out f h.0))

  -- ---- an element

  stored_taken : (m n : MethodInfo) (pc : ℕ) (target : Target) (op : Op) (word v : ℕ) (s : List ℕ) → is_element_op (Some v) op ≡ true → TakenHold n (within c.program) (row c.program m pc target op).takes s
      → IsElementOn word (Some v) s → v < 2 ^ 64
  stored_taken m n pc target ops.Iastore word v (w ∷ i ∷ a ∷ s) e taken on = let small = taken.0 in omega (arith, on.1, small)
  stored_taken m n pc target ops.Iastore word v s e taken on = absurd on
  stored_taken m n pc target op word v s e taken on = absurd (let bad : false ≡ true = e in cc)

  pub stored_small : (fs : List Frame) (word v : ℕ) → FramesHold c (within c.program) fs → TopIs c (is_element_op (Some v)) fs → ElementStands word (Some v) fs → v < 2 ^ 64
  stored_small [] word v h top on = absurd top
  stored_small (f ∷ fs) word v h top on =
      let k = h.0.stands in
      let op : is_element_op (Some v) k.insn.op ≡ true = ap (is_element_op (Some v)) (same_op c marked (within c.program) f k top.0) ∙ top.1 in
      stored_taken k.method k.method k.insn.pc k.target k.insn.op word v f.stack op (taken_here c marked (within c.program) out f h.0) on
