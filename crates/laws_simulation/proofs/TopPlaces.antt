-- What the instruction of the top frame may do, and that the plain machine has the values of the variables and headers that it
-- names.
use Rattle.std.proofs.Common.{◌≡◌, ℕ, ◌<◌, Bool, true, false, List, [], ◌∷◌, length, Some, refl, sym, ◌∙◌, subst, arith, Contains, slice_index, if◌then◌else◌}
use Rattle.lists.proofs.ListLaws.{same_some}
use Rattle.jvm_types.specs.{Members.is_static, ProgramInvariant.{IsProgram, instances_among}, declared.{op_row.OpRow.OpRow, program.{FieldInfo.FieldInfo, Program.Program, Target.Target}}}
use Rattle.laws_programs.proofs.{ClassTreeLaws.files_alone, FieldOrder.instances_inside}
use Rattle.checked_program.specs.{MarkedProgram.{MarkedProgram, IsMarked}, TaggedCode.row_of}
use Rattle.machine_types.specs.{Core.Core, Frames.{Top, top_of, effect_at}, PlainMemory.Object, PlainState.{Plain, value_at}, Threads.Frame, Typed.{FramesHold, HasClass}}
use Rattle.machine_types.specs.{Words.{header_word, variable_word}, declared.effect.Variable.{Variable, TheVariants.{Instance, Static}}}
use Rattle.laws_threads.{specs.Allowed.{IsOf, IsNamedField, Allowed}, proofs.{Landing.stand_top, Standings.top_here, TopEffects.allowed_here}}
use Rattle.laws_states.{specs.{HeapFacts.HeapFacts, SiteLaws.SitesDiffer, Sites.{Site, HeaderOf, ValueOf, StaticAt, site_word, IsThere}}, proofs.{Accesses.out_there, Lists.contained_got}}
use Rattle.laws_simulation.{specs.StandsBeside.StandsBeside, proofs.PlainValues.{IsPlace, value_found}}

-- ---- what the effect may be

pub record MayDo (c : MarkedProgram) (objects : List Object) (at : Top) : Type 0 where
  pub row : OpRow
  pub allowed : Allowed c.program at.method (HasClass objects) at.insn at.target row at.frame.stack (effect_at c.program at)

pub may_do : (c : MarkedProgram) (objects : List Object) (s : Core) (fs : List Frame) (at : Top) → IsMarked c → HeapFacts c objects s → FramesHold c (HasClass objects) fs → top_of c.program fs ≡ Some at → MayDo c objects at
may_do c objects s [] at marked heap h e = absurd (cc)
may_do c objects s (f ∷ fs) at marked heap h e =
    let k = h.0.stands in
    let one : top_here c f fs k ≡ at = same_some (sym (stand_top c marked f fs k) ∙ e) in
    let here : MayDo c objects (top_here c f fs k) = record { row = row_of c.program k.method k.insn k.target; allowed = allowed_here c marked (HasClass objects) (out_there c marked objects s heap) f h.0 } in
    subst (λ (top : Top). MayDo c objects top) one here

-- ---- the place of a variable

pub record VariablePlace (p : Program) (objects : List Object) (s : Core) (v : Variable) : Type 0 where
  pub site : Site
  pub place : IsPlace site
  pub there : IsThere p objects s site
  pub word : variable_word v ≡ site_word site

module _ (c : MarkedProgram) (marked : IsMarked c) (objects : List Object) (s : Core)
    (facts : HeapFacts c objects s) where
  is_program : IsProgram c.program
  is_program = marked.checked.program

  pub variable_place : (target : Target) (v : Variable) (f : FieldInfo) → IsNamedField c.program (HasClass objects) target v f → VariablePlace c.program objects s v
  variable_place target v f at = subst (λ w. VariablePlace c.program objects s w) (sym at.variable) (by_flag (is_static f.flags) refl)
    where
      by_flag : (b : Bool) → is_static f.flags ≡ b → VariablePlace c.program objects s (if b then Static f.index else Instance at.reference f.index)
      by_flag true e = let k = facts.apart.there at.number f at.there e in record { site = StaticAt f.index; place = tt; there = (k.0, k.1, k.2); word = refl }
      by_flag false e =
          let holder = at.holder e in
          let from = (is_program.fields at.number f at.there).class.0 in
          let class : holder.1 ≡ f.class = files_alone holder.1 f.class from holder.3 in
          let object = holder.2.0 in
          let there : Contains objects object = holder.2.1 in
          let of_class : object.class ≡ f.class = holder.2.3 ∙ class in
          let sized = facts.apart.sized there.0 object (contained_got objects object there) (λ array. absurd (omega (arith, array, of_class, from))) in
          let below : f.index < length object.values = subst (λ n. f.index < n) (sym sized) (subst (λ d. f.index < instances_among d c.program.fields) (sym of_class) (instances_inside c.program at.number f is_program at.there e)) in
          record { site = ValueOf at.reference f.index; place = tt; there = (object, there, holder.2.2, below); word = refl }

  -- ---- what the plain machine has there

  module _ (differ : SitesDiffer) (q : Plain) (beside : StandsBeside c.program objects s q) where
    pub variable_value : (target : Target) (v : Variable) (f : FieldInfo) → IsNamedField c.program (HasClass objects) target v f → value_at q (variable_word v) ≡ Some (slice_index s.words (variable_word v))
    variable_value target v f at =
        let k = variable_place target v f at in
        subst (λ (w : ℕ). value_at q w ≡ Some (slice_index s.words w)) (sym k.word) (value_found differ c objects s q marked facts beside k.site k.place k.there)

    pub header_value : (class a : ℕ) → IsOf (HasClass objects) class a → value_at q (header_word a) ≡ Some (slice_index s.words (header_word a))
    header_value class a k = value_found differ c objects s q marked facts beside (HeaderOf a) tt (k.2.0, k.2.1, k.2.2)
