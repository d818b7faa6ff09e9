-- An event that changes a static field is a `putstatic` of that field.
use Rattle.std.proofs.Common.{◌≡◌, ◌⊎◌, inl, inr, ℕ, true, false, List, [], ◌∷◌, Some, sym, ap, ◌∙◌, subst, slice_get, slice_index}
use Rattle.std.proofs.lemmas.Bool.{cases_Bool}
use Rattle.lists.proofs.ListLaws.{same_some}
use Rattle.jvm_types.specs.{CodeTable.put_row, Members.is_static, ProgramInvariant.site_in, declared.{code.Op.{Op, TheVariants.{Putfield, Putstatic}}, program.{FieldInfo.FieldInfo, Target.Target}}}
use Rattle.laws_programs.{specs.TargetLaws.{HasRow, NamesField}, proofs.FieldOrder.one_static_field}
use Rattle.checked_program.specs.{MarkedProgram.MarkedProgram, TaggedCode.row_of}
use Rattle.machine_types.specs.{Accesses.words_after, Effects.effect, Events.wanted, Standing.Standing, Structure.{TopIs, is_element_op}}
use Rattle.machine_types.specs.{Threads.Frame, Typed.{FramesHold, HasClass, HasElementIn, HasElementOn, ElementStands, IsElementOn}, Words.variable_word}
use Rattle.machine_types.specs.declared.{effect.{Effect.TheVariants.Writes, Variable.{Variable}}}
use Rattle.laws_threads.{specs.Allowed.IsNamedField, proofs.Landing.rules_at}
use Rattle.laws_states.specs.Sites.{ValueOf, StaticAt, IsThere}
use Rattle.laws_objects.proofs.{PlaceWriters.{PlaceEvent, IsWriter, holder_of, names_field, place_writer, instance_word, static_word}, WrittenFields.{field_put}}
use Rattle.jvm_types.specs.declared.program.Target.TheVariants as targets

-- a frame that writes the field
pub record StaticWriter (c : MarkedProgram) (fi : ℕ) (f : Frame) : Type 0 where
  pub stands : Standing c f
  pub index : ℕ
  pub is : stands.insn.op ≡ Putstatic index
  pub names : stands.target ≡ targets.Field fi

module _ (event : PlaceEvent) (fi : ℕ) (field : FieldInfo) (is : slice_get event.mover.state.c.program.fields fi ≡ Some field) (static : is_static field.flags ≡ true) where
  open event.mover use {t, x, state}
  open event.mover.state use {c, marked, objects, s, facts as heap}
  open event.sites use {differ}

  is_there : IsThere c.program objects s (StaticAt field.index)
  is_there = let k = heap.apart.there fi field is static in (k.0, k.1, k.2)

  -- ---- an instruction

  module _ (f : Frame) (k : Standing c f) (v : Variable) (n : ℕ) (e : effect c.program k.insn.next k.target k.insn.op f.locals f.stack ≡ Writes v n) (g : FieldInfo) (at : IsNamedField c.program (HasClass objects) k.target v g) where
    -- the word of the variable is that of one field
    same_field : variable_word v ≡ field.index → (is_static g.flags ≡ true) × (at.number ≡ fi)
    same_field word = elim (cases_Bool (is_static g.flags)) [
      | inl flag ↦ (flag, one_static_field c.program at.number fi g field marked.checked.program at.there is flag static (sym (static_word c objects k.target v g at flag) ∙ word))
      | inr flag ↦
          let from = holder_of state at.number g at.reference at.there flag (at.holder flag) in
          let site : ValueOf at.reference g.index ≡ StaticAt field.index = differ c objects s (ValueOf at.reference g.index) (StaticAt field.index) marked heap from.there is_there (sym (instance_word c objects k.target v g at flag) ∙ word) in
          absurd (cc)
    ]

    -- a `putfield` names no static field
    no_putfield : (index : ℕ) → k.insn.op ≡ Putfield index → is_static g.flags ≡ true → ⊥
    no_putfield index put flag =
        let row = (rules_at c marked f k).has_row in
        let here : HasRow c.program (site_in k.method) k.insn.pc (targets.Field at.number) k.insn.op (row_of c.program k.method k.insn k.target) =
        subst (λ (target : Target). HasRow c.program (site_in k.method) k.insn.pc target k.insn.op (row_of c.program k.method k.insn k.target)) at.named row in
        let named : NamesField c.program at.number false put_row (row_of c.program k.method k.insn k.target) =
        subst (λ (op : Op). HasRow c.program (site_in k.method) k.insn.pc (targets.Field at.number) op (row_of c.program k.method k.insn k.target)) put here in
        let same : named.field ≡ g = same_some (sym named.there ∙ at.there) in
        let bad : true ≡ false = sym flag ∙ sym (ap (λ (f : FieldInfo). is_static f.flags) same) ∙ named.sort in
        cc

    writes : variable_word v ≡ field.index → StaticWriter c fi f
    writes same =
        let it = same_field same in
        elim (field_put c.program (site_in k.method) at.number k.insn.next g v n at.there k.insn.op f.locals f.stack (names_field c f k at.number marked at.named) (ap (λ (t : Target). effect c.program k.insn.next t k.insn.op f.locals f.stack) (sym at.named) ∙ e)) [
          | inl put ↦ record { stands = k; index = put.index; is = put.is; names = at.named ∙ ap (λ (i : ℕ). targets.Field i) it.1 }
          | inr put ↦ absurd (no_putfield put.index put.is it.0)
        ]

  -- ---- an element is no static field

  no_element : (w v : ℕ) (stack : List ℕ) → HasElementOn objects (Some v) stack → IsElementOn w (Some v) stack → w ≡ field.index → ⊥
  no_element w v (u ∷ i ∷ a ∷ stack) has on same =
      let site : ValueOf a i ≡ StaticAt field.index = differ c objects s (ValueOf a i) (StaticAt field.index) marked heap (has.object, has.there, has.is, has.below) is_there (sym on.0 ∙ same) in
      cc
  no_element w v stack has on same = on

  element_writes : (fs : List Frame) (w v : ℕ) → FramesHold c (HasClass objects) fs → TopIs c (is_element_op (Some v)) fs → HasElementIn objects (Some v) fs → ElementStands w (Some v) fs → w ≡ field.index → ⊥
  element_writes [] w v h top has on same = top
  element_writes (f ∷ fs) w v h top has on same = no_element w v f.stack has on same

  -- ---- the word is as it was, or the thread writes the field

  pub static_writer : (slice_index (words_after s.words (wanted c x x.phase)) field.index ≡ slice_index s.words field.index) ⊎ IsWriter (StaticWriter c fi) x
  static_writer = place_writer event (StaticAt field.index) tt is_there (StaticWriter c fi) writes element_writes
