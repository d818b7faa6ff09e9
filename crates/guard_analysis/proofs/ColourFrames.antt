-- The frames of colours that the visits leave: each instruction that is tagged has one; and of one field they are what its row
-- makes of those before.
use Rattle.std.proofs.{Common.{◌≡◌, ℕ, zero, suc, Bool, true, false, List, [], ◌∷◌, ◌++◌, length, map, drop, replicate, refl, sym, ap, ◌∙◌, ◌==◌, if◌then◌else◌, None, slice_get, slice_index_or}, lemmas.Bool.eqb-true}
use Rattle.jvm_types.specs.{CodeTable.{value_of, stack_after}, declared.{code.{Insn.Insn, Op.Op}, op_row.{Given.{Given, TheVariants.{Fresh, Taken, Local}}, OpRow.OpRow}, program.Program.Program}}
use Rattle.jvm_types.specs.declared.program.Target.{Target}
use Rattle.checked_program.specs.Colours.{is_read_of}
use Rattle.laws_sections.proofs.{ArrayColours.NoneOf, VisitedNodes.Orders}
use Rattle.guard_analysis.specs.{ColourVisits.{is_array_field, colour_made, field_colours_after, colour_meeting, is_colour_of, of_field, colour_at}, ColourWork.same_stacks, declared.colouring.Colour.Colour}
use Rattle.guard_analysis.specs.declared.colouring.Colour.TheVariants.{Plain, Of}
use Rattle.jvm_types.specs.declared.code.Op.TheVariants as ops
use Rattle.jvm_types.specs.declared.program.Target.TheVariants as targets

-- any two frames may meet, and the first stays
abbrev pub AnyColours : List Colour → List Colour → Type 0
AnyColours f g = Unit {0}

pub colour_order : Orders colour_meeting AnyColours
colour_order = record {
  self = λ f. tt;
  trans = λ f g h a b. tt;
  left = λ g f e. tt;
  right = λ g f e. tt;
  equal = same_stacks;
  own = λ f. refl;
  again = λ g f e. refl;
}

-- ---- of one array field

module _ (p : Program) (fi : ℕ) (array : is_array_field p fi ≡ true) where
  -- what an instruction makes is coloured where it reads the field
  made_is : (op : Op) (target : Target) → is_colour_of fi (colour_made p op target) ≡ is_read_of fi op target
  made_is (ops.Getfield i) (targets.Field other) = by_array (is_array_field p other) refl
    where
      by_same : (s : Bool) → (other == fi) ≡ s → is_array_field p other ≡ false → false ≡ s
      by_same true e none = absurd (let bad : true ≡ false = sym array ∙ ap (is_array_field p) (sym (eqb-true other fi e)) ∙ none in by_sorts bad)
        where
          by_sorts : true ≡ false → ⊥
          by_sorts x = cc
      by_same false e none = refl

      by_array : (b : Bool) → is_array_field p other ≡ b → is_colour_of fi (if b then Of other else Plain) ≡ (other == fi)
      by_array true e = refl
      by_array false e = by_same (other == fi) refl e
  made_is op target = refl

  pub read_is : (k : ℕ) (stack : List Colour) → is_colour_of fi (slice_index_or stack k Plain) ≡ slice_index_or (of_field fi stack) k false
  read_is k [] = refl
  read_is zero (c ∷ stack) = refl
  read_is (suc k) (c ∷ stack) = read_is k stack

  value_is : (locals : List Bool) → NoneOf locals → (op : Op) (target : Target) (stack : List Colour) (given : Given)
      → is_colour_of fi (value_of Plain (λ type. colour_made p op target) stack [] given) ≡ value_of false (λ type. is_read_of fi op target) (of_field fi stack) locals given
  value_is locals none op target stack (Fresh type) = made_is op target
  value_is locals none op target stack (Taken place) = read_is place stack
  value_is locals none op target stack (Local i) = sym (none i)

  values_are : (locals : List Bool) → NoneOf locals → (op : Op) (target : Target) (stack : List Colour) (gives : List Given)
      → of_field fi (map (value_of Plain (λ type. colour_made p op target) stack []) gives) ≡ map (value_of false (λ type. is_read_of fi op target) (of_field fi stack) locals) gives
  values_are locals none op target stack [] = refl
  values_are locals none op target stack (given ∷ gives) =
      ap (λ (b : Bool). b ∷ of_field fi (map (value_of Plain (λ type. colour_made p op target) stack []) gives)) (value_is locals none op target stack given)
      ∙ ap (λ (bs : List Bool). value_of false (λ type. is_read_of fi op target) (of_field fi stack) locals given ∷ bs) (values_are locals none op target stack gives)

  fields_append : (cs ds : List Colour) → of_field fi (cs ++ ds) ≡ of_field fi cs ++ of_field fi ds
  fields_append [] ds = refl
  fields_append (c ∷ cs) ds = ap (λ (bs : List Bool). is_colour_of fi c ∷ bs) (fields_append cs ds)

  fields_drop : (n : ℕ) (cs : List Colour) → of_field fi (drop n cs) ≡ drop n (of_field fi cs)
  fields_drop zero cs = refl
  fields_drop (suc n) [] = refl
  fields_drop (suc n) (c ∷ cs) = fields_drop n cs

  -- where no local has a colour
  pub after_is : (locals : List Bool) → NoneOf locals → (insn : Insn) (target : Target) (r : OpRow) (stack : List Colour)
      → of_field fi (field_colours_after p insn target r stack) ≡ stack_after false (λ type. is_read_of fi insn.op target) r (of_field fi stack) locals
  after_is locals none insn target r stack =
      fields_append (map (value_of Plain (λ type. colour_made p insn.op target) stack []) r.gives) (drop (length r.takes) stack)
      ∙ ap (λ (bs : List Bool). bs ++ of_field fi (drop (length r.takes) stack)) (values_are locals none insn.op target stack r.gives)
      ∙ ap (λ (bs : List Bool). map (value_of false (λ type. is_read_of fi insn.op target) (of_field fi stack) locals) r.gives ++ bs) (fields_drop (length r.takes) stack)

-- a place that a stack does not have has no colour
pub past_colour : (stack : List Colour) (k : ℕ) → None ≡ slice_get stack k → Plain ≡ colour_at stack k
past_colour [] k e = refl
past_colour (c ∷ stack) zero e = absurd (cc)
past_colour (c ∷ stack) (suc k) e = past_colour stack k e
