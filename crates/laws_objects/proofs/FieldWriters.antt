-- An event that changes a field of an object is a `putfield` of that field on that object.
use Rattle.std.proofs.Common.{◌≡◌, ◌⊎◌, inl, inr, ℕ, Bool, true, false, List, [], ◌∷◌, Some, refl, sym, ap, ◌∙◌, arith, Contains, slice_get, slice_index, if◌then◌else◌}
use Rattle.std.proofs.lemmas.Bool.{cases_Bool}
use Rattle.jvm_types.specs.{CodeTable.row, Members.is_static, ProgramInvariant.{IsProgram, site_in}, declared.{class_numbers.TheConstants.INT_ARRAY_CLASS, code.Op.Op}}
use Rattle.jvm_types.specs.declared.{code.Op.TheVariants.{Iastore, Putfield}, program.{FieldInfo.FieldInfo, MethodInfo.MethodInfo, Target.{Target, TheVariants.Field}}}
use Rattle.laws_programs.proofs.{ClassTreeLaws.leaves_alone, FieldOrder.one_instance_field}
use Rattle.checked_program.specs.MarkedProgram.{MarkedProgram}
use Rattle.machine_types.specs.{Accesses.words_after, Effects.{variable_of, effect}, Events.wanted, PlainMemory.Object, Standing.Standing, Structure.{TopIs, is_element_op}, Threads.Frame}
use Rattle.machine_types.specs.{Typed.{IsNullOr, FramesHold, HasClass, HasElementIn, ElementStands, IsElementOn, HasElementOn}, Words.{value_word, variable_word}}
use Rattle.machine_types.specs.declared.effect.{Effect.TheVariants.Writes, Variable.{Variable, TheVariants.{Instance, Static}}}
use Rattle.laws_threads.{specs.Allowed.{IsNamedField, TakenHold}, proofs.{Onwards.same_op, TopEffects.taken_here}}
use Rattle.laws_states.{specs.Sites.{ValueOf, StaticAt, IsThere}, proofs.{Accesses.out_there, Lists.contained_got, Places.same_object}}
use Rattle.laws_objects.proofs.{PlaceWriters.{PlaceEvent, IsWriter, holder_of, has_field, names_field, place_writer, instance_word, static_word}, WrittenFields.field_put}

-- ---- a frame that writes the field of an object

pub record Writer (c : MarkedProgram) (fi reference : ℕ) (f : Frame) : Type 0 where
  pub stands : Standing c f
  pub index : ℕ
  pub is : stands.insn.op ≡ Putfield index
  pub names : stands.target ≡ Field fi
  pub on : slice_index f.stack 1 ≡ reference

-- ---- one variable of a reference

one_reference : (f : FieldInfo) (v : Variable) (a b : ℕ) → is_static f.flags ≡ false → v ≡ variable_of f a → v ≡ variable_of f b → a ≡ b
one_reference f v a b flag e h =
    let of_flag : (r : ℕ) → variable_of f r ≡ Instance r f.index = λ r. ap (λ (t : Bool). if t then Static f.index else Instance r f.index) flag in
    let same : Instance a f.index ≡ Instance b f.index = sym (of_flag a) ∙ (sym e ∙ h) ∙ of_flag b in cc

module _ (event : PlaceEvent) (fi : ℕ) (field : FieldInfo) (is : slice_get event.mover.state.c.program.fields fi ≡ Some field) (instance : is_static field.flags ≡ false) (o : Object) (here : Contains event.mover.state.objects o) (of_class : o.class ≡ field.class) where
  open event.mover use {t, x, state}
  open event.mover.state use {c, marked, objects, s, facts as heap}
  open event.sites use {differ}

  is_program : IsProgram c.program
  is_program = marked.checked.program

  is_there : IsThere c.program objects s (ValueOf o.reference field.index)
  is_there = (o, here, refl, has_field state o fi field here is instance of_class)

  -- ---- the place of a variable is that of one field of one object

  record IsThisField (number : ℕ) (f : FieldInfo) (reference : ℕ) : Type 0 where
    instance_too : is_static f.flags ≡ false
    number_is : number ≡ fi
    reference_is : reference ≡ o.reference

  module _ (target : Target) (v : Variable) (f : FieldInfo) (at : IsNamedField c.program (HasClass objects) target v f) where
    same_place : variable_word v ≡ value_word o.reference field.index → IsThisField at.number f at.reference
    same_place word = elim (cases_Bool (is_static f.flags)) [
      | inl flag ↦
          let k = heap.apart.there at.number f at.there flag in
          let site : StaticAt f.index ≡ ValueOf o.reference field.index = differ c objects s (StaticAt f.index) (ValueOf o.reference field.index) marked heap (k.0, k.1, k.2) is_there (sym (static_word c objects target v f at flag) ∙ word) in
          absurd (cc)
      | inr flag ↦
          let from = holder_of state at.number f at.reference at.there flag (at.holder flag) in
          let site : ValueOf at.reference f.index ≡ ValueOf o.reference field.index = differ c objects s (ValueOf at.reference f.index) (ValueOf o.reference field.index) marked heap from.there is_there (sym (instance_word c objects target v f at flag) ∙ word) in
          let reference : at.reference ≡ o.reference = cc in
          let index : f.index ≡ field.index = cc in
          let one : from.object ≡ o = same_object c.program objects _ heap.apart from.object o from.known here (from.is ∙ reference) in
          let classes : f.class ≡ field.class = sym from.of_class ∙ (ap (λ (e : Object). e.class) one ∙ of_class) in
          record { instance_too = flag; number_is = one_instance_field c.program at.number fi f field is_program at.there is classes flag instance index; reference_is = reference }
    ]

  -- ---- an instruction

  module _ (f : Frame) (k : Standing c f) (v : Variable) (n : ℕ) (e : effect c.program k.insn.next k.target k.insn.op f.locals f.stack ≡ Writes v n) (g : FieldInfo) (at : IsNamedField c.program (HasClass objects) k.target v g) where
    writes : variable_word v ≡ value_word o.reference field.index → Writer c fi o.reference f
    writes same = elim (field_put c.program (site_in k.method) at.number k.insn.next g v n at.there k.insn.op f.locals f.stack (names_field c f k at.number marked at.named) (ap (λ (t : Target). effect c.program k.insn.next t k.insn.op f.locals f.stack) (sym at.named) ∙ e)) [
      | inl put ↦ absurd (let zero_there = one_reference g v at.reference 0 it.instance_too at.variable put.variable in let some = (at.holder it.instance_too).0 in omega (arith, zero_there, some))
      | inr put ↦ record {
        stands = k;
        index = put.index;
        is = put.is;
        names = at.named ∙ ap (λ (i : ℕ). Field i) it.number_is;
        on = one_reference g v (slice_index f.stack 1) at.reference it.instance_too put.variable at.variable ∙ it.reference_is;
      }
    ]
      where
        it : IsThisField at.number g at.reference
        it = same_place k.target v g at same

  -- ---- an element is no field

  no_element : (n m : MethodInfo) (pc : ℕ) (target : Target) (op : Op) (w v : ℕ) (stack : List ℕ) → is_element_op (Some v) op ≡ true → TakenHold n (HasClass objects) (row c.program m pc target op).takes stack
      → HasElementOn objects (Some v) stack → IsElementOn w (Some v) stack → w ≡ value_word o.reference field.index → ⊥
  no_element n m pc target Iastore w v (u ∷ i ∷ a ∷ stack) e (first, (second, (array, rest))) has on same = by_array array
    where
      reference : a ≡ o.reference
      reference =
          let site : ValueOf a i ≡ ValueOf o.reference field.index = differ c objects s (ValueOf a i) (ValueOf o.reference field.index) marked heap (has.object, has.there, has.is, has.below) is_there (sym on.0 ∙ same) in
          cc

      by_array : IsNullOr (HasClass objects) INT_ARRAY_CLASS a → ⊥
      by_array (inl null) = let from = heap.apart.begin here.0 o (contained_got objects o here) in omega (arith, null, from, reference)
      by_array (inr (d, (known, contained, at, class), below)) =
          let one : known ≡ o = same_object c.program objects _ heap.apart known o contained here (at ∙ reference) in
          let alone : d ≡ INT_ARRAY_CLASS = leaves_alone d INT_ARRAY_CLASS refl below in
          let from = (is_program.fields fi field is).class.0 in
          omega (arith, from, of_class, ap (λ (e : Object). e.class) one, class, alone)
  no_element n m pc target Iastore w v stack e taken has on same = absurd on
  no_element n m pc target op w v stack e taken has on same = absurd (let bad : false ≡ true = e in cc)

  element_writes : (fs : List Frame) (w v : ℕ) → FramesHold c (HasClass objects) fs → TopIs c (is_element_op (Some v)) fs → HasElementIn objects (Some v) fs → ElementStands w (Some v) fs → w ≡ value_word o.reference field.index → ⊥
  element_writes [] w v h top has on same = top
  element_writes (f ∷ fs) w v h top has on same =
      let k = h.0.stands in
      let op : is_element_op (Some v) k.insn.op ≡ true = ap (is_element_op (Some v)) (same_op c marked (HasClass objects) f k top.0) ∙ top.1 in
      no_element k.method k.method k.insn.pc k.target k.insn.op w v f.stack op (taken_here c marked (HasClass objects) (out_there c marked objects s heap) f h.0) has on same

  -- ---- the word is as it was, or the thread writes the field

  pub field_writer : (slice_index (words_after s.words (wanted c x x.phase)) (value_word o.reference field.index) ≡ slice_index s.words (value_word o.reference field.index)) ⊎ IsWriter (Writer c fi o.reference) x
  field_writer = place_writer event (ValueOf o.reference field.index) tt is_there (Writer c fi o.reference) writes element_writes
