-- A place that stays while an attempt goes on has in the plain machine the value that stands in its word.
use Rattle.std.proofs.Common.{◌≡◌, ℕ, ◌<◌, true, false, length, Some, refl, sym, ap, ◌∙◌, subst, arith, slice_get, slice_index}
use Rattle.lists.proofs.ListLaws.{same_some}
use Rattle.jvm_types.specs.{Members.is_static, ProgramInvariant.{IsProgram, instances_among}, declared.program.FieldInfo.FieldInfo}
use Rattle.laws_programs.proofs.FieldOrder.{instances_inside}
use Rattle.machine_types.specs.{Attempts.{IsFieldAt, Stays, header, frozen, guarded, element, frozen_static, guarded_static}, OwnedPlaces.Stores, PlainMemory.Object, PlainState.{value_at}, Words.value_word}
use Rattle.machine_types.specs.Worlds.{World}
use Rattle.laws_states.{specs.{SiteLaws.SitesDiffer, Sites.{HeaderOf, ValueOf, StaticAt}}, proofs.Lists.contained_got}
use Rattle.laws_simulation.proofs.{PlainValues.value_found, Turns.States}

module _ (differ : SitesDiffer) (states : States) (stores : Stores) (w : World) (next t : ℕ) where
  open states use {c, objects, s, q, marked, facts, beside}

  is_program : IsProgram c.program
  is_program = marked.checked.program

  field_value : (fi x : ℕ) (o : Object) (f : FieldInfo) → slice_get c.program.fields fi ≡ Some f → is_static f.flags ≡ false → IsFieldAt c objects w next t fi x o → value_at q x ≡ Some (slice_index s.words x)
  field_value fi x o f get instance at =
      let same : at.field ≡ f = same_some (sym at.is ∙ get) in
      let class : o.class ≡ f.class = at.of_class ∙ ap (λ (g : FieldInfo). g.class) same in
      let place : x ≡ value_word o.reference f.index = at.place ∙ ap (λ (g : FieldInfo). value_word o.reference g.index) same in
      let from = (is_program.fields fi f get).class.0 in
      let sized : length o.values ≡ instances_among o.class c.program.fields = facts.heap.apart.sized at.there.0 o (contained_got objects o at.there) (λ array. absurd (omega (arith, array, class, from))) in
      let below : f.index < length o.values = subst (λ (n : ℕ). f.index < n) (ap (λ (n : ℕ). instances_among n c.program.fields) (sym class) ∙ sym sized) (instances_inside c.program fi f is_program get instance) in
      subst (λ (n : ℕ). value_at q n ≡ Some (slice_index s.words n)) (sym place) (value_found differ c objects s q marked facts.heap beside (ValueOf o.reference f.index) tt (o, at.there, refl, below))

  static_value : (fi x : ℕ) (f : FieldInfo) → slice_get c.program.fields fi ≡ Some f → is_static f.flags ≡ true → x ≡ f.index → value_at q x ≡ Some (slice_index s.words x)
  static_value fi x f get static place = subst (λ (n : ℕ). value_at q n ≡ Some (slice_index s.words n)) (sym place) (value_found differ c objects s q marked facts.heap beside (StaticAt f.index) tt (facts.heap.apart.there fi f get static))

  pub staying_value : (m x : ℕ) → Stays c stores objects w next t m x → value_at q x ≡ Some (slice_index s.words x)
  staying_value m x (header o there place) =
      subst (λ (n : ℕ). value_at q n ≡ Some (slice_index s.words n)) (sym place) (value_found differ c objects s q marked facts.heap beside (HeaderOf o.reference) tt (o, there, refl))
  staying_value m x (frozen fi o field at) = field_value fi x o field.field field.is field.instance at
  staying_value m x (guarded fi o field on at) = field_value fi x o field.field field.is field.instance at
  staying_value m x (element fi o owned there on k) = subst (λ (n : ℕ). value_at q n ≡ Some (slice_index s.words n)) (sym k.place) (value_found differ c objects s q marked facts.heap beside
      (ValueOf k.array.reference k.index) tt (k.array, k.there, refl, k.inside))
  staying_value m x (frozen_static fi field place) = static_value fi x field.field field.is field.static place
  staying_value m x (guarded_static fi field on place) = static_value fi x field.field field.is field.static place
