-- The colours of one array field among those of all: none in a method of another class, and those of each colouring for a field
-- that is owned.
use Rattle.std.proofs.Common.{◌≡◌, ℕ, Bool, true, false, not, ◌&&◌, List, [], Option, Some, refl, sym, ap, ◌∙◌, subst, ◌==◌, slice_get}
use Rattle.std.proofs.lemmas.{Bool.{and_parts, eqb-true, eq-eqb, not-true}, Option.same_Some}
use Rattle.jvm_types.specs.{CodeTable.stack_after, Members.{is_private, is_static}, ProgramInvariant.IsProgram}
use Rattle.jvm_types.specs.declared.{class_numbers.TheConstants.INT_ARRAY_CLASS, code.Insn.Insn, program.{FieldInfo.FieldInfo, Kind.Kind, Program.Program, Target.Target}}
use Rattle.checked_program.specs.{Colours.{ColourShape, is_read_of, colours_after, IsColouring}, LockTags.TagShape, OwnedArrays.IsOwnedArrayField, SectionLaws.AreTagged, TaggedCode.{IsAt, row_of}}
use Rattle.checked_program.proofs.NamedFields.{target_named}
use Rattle.laws_sections.proofs.ArrayColours.{reads_own, NoneOf, none_at_all, none_first, none_after, array_law}
use Rattle.guard_analysis.specs.{ColourVisits.{is_int_array, may_be_owned, is_array_field, field_colours_after, is_colour_of, of_field}, OwnedFound.named_by, declared.colouring.Colour.Colour}
use Rattle.guard_analysis.{specs.declared.colouring.Colour.TheVariants.{Plain, Of}, proofs.{ColourFrames.after_is, ColourPaths.{ColouredMethod, colours_reached}}}
use Rattle.jvm_types.specs.declared.program.Kind.TheVariants as kinds

-- ---- one colour

pub names_field : (fi : ℕ) (c : Colour) → named_by c ≡ Some fi → is_colour_of fi c ≡ true
names_field fi Plain e = absurd (cc)
names_field fi (Of x) e = eq-eqb x fi (same_Some x fi e)

pub field_named : (fi : ℕ) (c : Colour) → is_colour_of fi c ≡ true → named_by c ≡ Some fi
field_named fi Plain e = absurd (let bad : false ≡ true = e in cc)
field_named fi (Of x) e = ap (λ (n : ℕ). Some n) (eqb-true x fi e)

-- ---- array fields

int_array : (kind : Kind) → is_int_array kind ≡ true → kind ≡ kinds.Ref INT_ARRAY_CLASS
int_array (kinds.Ref class) e = ap (λ (c : ℕ). kinds.Ref c) (eqb-true class INT_ARRAY_CLASS e)
int_array kind e = absurd (let bad : false ≡ true = e in cc)

pub record IsArrayField (field : FieldInfo) : Type 0 where
  pub array : field.kind ≡ kinds.Ref INT_ARRAY_CLASS
  pub private : is_private field.flags ≡ true
  pub instance : is_static field.flags ≡ false

pub array_parts : (p : Program) (fi : ℕ) (field : FieldInfo) → slice_get p.fields fi ≡ Some field → is_array_field p fi ≡ true → IsArrayField field
array_parts p fi field there e =
    let shown : may_be_owned (Some field) ≡ true = subst (λ (o : Option FieldInfo). may_be_owned o ≡ true) there e in
    let outer = and_parts (is_int_array field.kind && is_private field.flags) (not (is_static field.flags)) shown in
    let inner = and_parts (is_int_array field.kind) (is_private field.flags) outer.0 in
    record { array = int_array field.kind inner.0; private = inner.1; instance = not-true (is_static field.flags) outer.1 }

whole : (kind : Kind) (private static : Bool) → kind ≡ kinds.Ref INT_ARRAY_CLASS → private ≡ true → static ≡ false → (is_int_array kind && private && not static) ≡ true
whole kind private static e f g = rw (e, f, g) refl

pub array_whole : (p : Program) (fi : ℕ) (field : FieldInfo) → slice_get p.fields fi ≡ Some field → IsArrayField field → is_array_field p fi ≡ true
array_whole p fi field there a = ap may_be_owned there ∙ whole field.kind (is_private field.flags) (is_static field.flags) a.array a.private a.instance

-- ---- in a method

-- beside a field of arrays
pub record ColouredField : Type 0 where
  pub method : ColouredMethod
  pub open method use *
  pub program : IsProgram p
  pub fi : ℕ
  pub field : FieldInfo
  pub there : slice_get p.fields fi ≡ Some field
  pub array : is_array_field p fi ≡ true

module _ (place : ColouredField) where
  open place use {method, p, tags, mi, m, frames, program, fi, field, there, array}

  is_false : (b : Bool) → (b ≡ true → ⊥) → b ≡ false
  is_false true h = absurd (h refl)
  is_false false h = refl

  -- of another class
  module _ (other : (m.class == field.class) ≡ false) where
    pub no_class : field.class ≡ m.class → ⊥
    no_class own = let bad : true ≡ false = sym (eq-eqb m.class field.class (sym own)) ∙ other in cc

    no_read : (i : ℕ) (insn : Insn) (target : Target) (f : TagShape) → IsAt p tags mi i m insn target f → is_read_of fi insn.op target ≡ false
    no_read i insn target f at = is_false (is_read_of fi insn.op target) (λ e. no_class (reads_own p fi field m insn.op target there (array_parts p fi field there array).private (target_named p tags mi i m insn target f program at) e))

    pub none_brought : (i : ℕ) (insn : Insn) (target : Target) (f : TagShape) (cs : List Colour) → IsAt p tags mi i m insn target f → NoneOf (of_field fi cs) → NoneOf (of_field fi (field_colours_after p insn target (row_of p m insn target) cs))
    none_brought i insn target f cs at q = subst NoneOf (sym (after_is p fi array [] none_at_all insn target (row_of p m insn target) cs))
        (none_after fi insn target (row_of p m insn target) (record { stack = of_field fi cs; locals = [] }) (no_read i insn target f at) (record { stack = q; locals = none_at_all })).stack

    pub none_of_field : (i : ℕ) (insn : Insn) (target : Target) (cs : List Colour) → slice_get m.code i ≡ Some insn → slice_get m.targets i ≡ Some target → slice_get frames i ≡ Some (Some cs) → NoneOf (of_field fi cs)
    none_of_field i insn target cs c t e =
        (colours_reached method (λ i cs. NoneOf (of_field fi cs)) (λ x y f at. none_at_all) (λ i j a b x y f g ds from to goes q. none_brought i a x f ds from q) (λ i j a b x y f g ds from to goes q. none_first [] none_at_all)
        i insn target cs c t e).so

  -- of an owned field
  module _ (all : AreTagged p tags) (o : IsOwnedArrayField p tags fi) (colours : ℕ → ColourShape) (c : IsColouring p tags mi fi colours) where
    abbrev pub HasColours : ℕ → List Colour → Type 0
    HasColours i cs = (colours i).stack ≡ of_field fi cs

    pub colours_brought : (i j : ℕ) (insn : Insn) (target : Target) (f : TagShape) (cs : List Colour) → IsAt p tags mi i m insn target f → HasColours i cs → colours j ≡ colours_after fi insn target (row_of p m insn target) (colours i)
        → HasColours j (field_colours_after p insn target (row_of p m insn target) cs)
    colours_brought i j insn target f cs at q e =
        ap (λ (s : ColourShape). s.stack) e
        ∙ ap (λ (stack : List Bool). stack_after false (λ type. is_read_of fi insn.op target) (row_of p m insn target) stack (colours i).locals) q
        ∙ sym (after_is p fi array (colours i).locals (array_law p tags fi mi i m insn target f colours program all o c at).locals insn target (row_of p m insn target) cs)

    pub record AreThere (i : ℕ) (insn : Insn) (target : Target) (cs : List Colour) : Type 0 where
      pub f : TagShape
      pub at : IsAt p tags mi i m insn target f
      pub so : HasColours i cs

    pub are_there : (i : ℕ) (insn : Insn) (target : Target) (cs : List Colour) → slice_get m.code i ≡ Some insn → slice_get m.targets i ≡ Some target → slice_get frames i ≡ Some (Some cs) → AreThere i insn target cs
    are_there i insn target cs k t e =
        let r = colours_reached method HasColours (λ x y f at. ap (λ (s : ColourShape). s.stack) (c.entry m x y f at))
        (λ i j a b x y f g ds from to goes q. colours_brought i j a x f ds from q (c.onward i j m a b x y f g from to goes))
        (λ i j a b x y f g ds from to goes q. ap (λ (s : ColourShape). s.stack) (c.caught i j m a b x y f g from to goes))
        i insn target cs k t e in
        record { f = r.f; at = r.at; so = r.so }
