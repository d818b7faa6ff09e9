-- No instruction of any method puts out a field that is owned.
use Rattle.std.proofs.Common.{◌≡◌, ℕ, suc, Bool, true, false, not, ◌&&◌, List, [], ◌∷◌, length, Option, Some, None, refl, sym, ap, ◌∙◌, subst, arith, ◌==◌, slice_get, slice_index_or, IsSomeAnd}
use Rattle.std.proofs.lemmas.{Bool.{and_from, and_parts, eqb-true, eq-eqb, true≢false}, List.length-map, Option.same_Some}
use Rattle.jvm_types.specs.{Numbers.has_number, ProgramInvariant.{IsProgram, IsTargetOf, site_in}, Verifying.{edges, IsLaidOut}, declared.{code.{Insn.Insn, Op.Op}, program.MethodInfo.MethodInfo}}
use Rattle.jvm_types.specs.declared.program.{Program.Program, Target.Target}
use Rattle.laws_programs.proofs.CodeOrder.{have_targets}
use Rattle.code_table.{specs.PcTables.{number_at, Ascend}, proofs.NumbersExact.exact}
use Rattle.checked_program.specs.{Colours.{ColourShape, is_coloured}, FrozenPlaces.{is_field_of, stands_guarded, PutsGuarded}, LockTags.{TagShape, is_this}}
use Rattle.checked_program.specs.OwnedArrays.{GetsOnThis, StoresNew, PutsNew, StoresGuarded, UsesArrayWell, IsOwnedArrayField}
use Rattle.checked_program.specs.{SectionLaws.AreTagged, TaggedCode.{IsAt, row_of}, Tagging.catchers, declared.tag.Tag.TheVariants.Untagged}
use Rattle.checked_program.proofs.NamedFields.{target_named}
use Rattle.laws_sections.proofs.ArrayColours.{reads_own, writes_own, NoneOf, none_at_all, none_first}
use Rattle.guard_analysis.specs.{ColourVisits.{is_array_field, field_colours_after, is_colour_of, of_field, colour_at}, FieldUses.writes_guarded, OwnedFound.{named_by, colours_of, is_making_array, is_newarray, stores_new, branched_flags, handlers_of}}
use Rattle.guard_analysis.specs.declared.colouring.Colour.{Colour, TheVariants.Plain}
use Rattle.guard_analysis.proofs.ColourChecks.{IsOther, coloured, deeper, BringsOther, UsesOther, InsnOther, uses, takes, onward, caught}
use Rattle.guard_analysis.proofs.{ColourFrames.read_is, ColourPaths.ColouredMethod, FieldColours.{ColouredField, names_field, no_class, none_brought, none_of_field, colours_brought, are_there}, FieldUseLaws.guard_whole, MethodChecks.{branched_is, handler_there, OtherAt}}
use Rattle.jvm_types.specs.declared.code.Op.TheVariants as ops
use Rattle.jvm_types.specs.declared.program.Target.TheVariants as targets

-- ---- uses

not_both : (a b : Bool) → (a && not b) ≡ true → b ≡ true → ⊥
not_both a true h e = true≢false (sym (and_parts a false h).1)
not_both a false h e = true≢false (sym e)

put_is_new : (m : MethodInfo) (i : ℕ) (insn : Insn) → Ascend 0 m.code → slice_get m.code i ≡ Some insn → StoresNew m i insn.pc → stores_new m (branched_flags m) i ≡ true
put_is_new m i insn up c s = subst (λ (n : ℕ). stores_new m (branched_flags m) n ≡ true) (sym s.follows)
    (and_from (is_newarray (slice_get m.code s.before)) (not (slice_index_or (branched_flags m) (suc s.before) false))
    (ap is_newarray s.is ∙ ap is_making_array s.makes)
    (ap not (ap (λ (n : ℕ). slice_index_or (branched_flags m) n false) (sym s.follows) ∙ branched_is m i insn up c ∙ s.only)))

module _ (p : Program) (m : MethodInfo) (i fi : ℕ) where
  no_use : (pc : ℕ) (op : Op) (target : Target) (f : TagShape) (stack : List Colour) (shape : ColourShape) → (StoresNew m i pc → stores_new m (branched_flags m) i ≡ true) → shape.stack ≡ of_field fi stack
      → (named_by (colour_at stack 2) ≡ Some fi → is_coloured shape.stack 2 ≡ true) → GetsOnThis fi op target f → PutsGuarded fi m op target f → PutsNew fi m i pc op target → StoresGuarded m op f shape
      → UsesOther p m (branched_flags m) i op target f stack fi → ⊥
  no_use pc (ops.Getfield n) (targets.Field other) f stack shape new e named g w s k u = not_both (is_array_field p other) (is_this (slice_index_or f.stack 0 Untagged)) u.0 (ap is_this (g (same_Some other fi u.1)))
  no_use pc (ops.Putfield n) (targets.Field other) f stack shape new e named g w s k u =
      let same : other ≡ fi = same_Some other fi u.1 in
      not_both (is_array_field p other) (writes_guarded m f && stores_new m (branched_flags m) i) u.0
      (and_from (writes_guarded m f) (stores_new m (branched_flags m) i) (guard_whole (slice_index_or f.stack 1 Untagged) (stands_guarded m f) (w same).0 (w same).1) (new (s same)))
  no_use pc ops.Iastore target f stack shape new e named g w s k u = true≢false (sym (k (named u.1)) ∙ u.0)
  no_use pc op target f stack shape new e named g w s k u = u

module _ (method : ColouredMethod) (program : IsProgram method.p) (fi : ℕ) (array : is_array_field method.p fi ≡ true) (laid : IsLaidOut method.m) (all : AreTagged method.p method.tags) (o : IsOwnedArrayField method.p method.tags fi) where
  open method use {p, tags, mi, m, is, shapes, of_method, up, frames}

  abbrev place : ColouredField
  place = record { method = method; program = program; fi = fi; field = o.field; there = o.is; array = array }

  -- the instruction that an edge leads to, with its colours
  record IsThere (pc : ℕ) (stack : List Colour) : Type 0 where
    pub j : ℕ
    pub other : Insn
    pub next : Target
    pub in_code : slice_get m.code j ≡ Some other
    pub names : slice_get m.targets j ≡ Some next
    pub its_pc : other.pc ≡ pc
    pub stands : slice_get frames j ≡ Some (Some stack)

  is_there : (pc : ℕ) (stack : List Colour) → colours_of frames (number_at m.code pc) ≡ Some (Some stack) → IsThere pc stack
  is_there pc stack e = by_number (number_at m.code pc) refl e
    where
      by_insn : (j : ℕ) → number_at m.code pc ≡ Some j → slice_get frames j ≡ Some (Some stack) → (x : Option Insn) → slice_get m.code j ≡ x → IsSomeAnd x (λ insn. insn.pc ≡ pc) → IsThere pc stack
      by_insn j n k None c h = absurd h
      by_insn j n k (Some other) c h = let t = have_targets p mi j m other program is c in record { j = j; other = other; next = t.0; in_code = c; names = t.1; its_pc = h; stands = k }

      by_number : (x : Option ℕ) → number_at m.code pc ≡ x → colours_of frames x ≡ Some (Some stack) → IsThere pc stack
      by_number None n k = absurd (cc)
      by_number (Some j) n k = by_insn j n k (slice_get m.code j) refl ((exact m pc j laid).0 n)

  -- ---- in a method of the class

  module _ (u : UsesArrayWell p tags mi fi) where
    abbrev Has : ℕ → List Colour → Type 0
    Has i cs = (u.colours i).stack ≡ of_field fi cs

    -- an edge brings the colours that stand at its target
    not_brought : (cs : List Colour) (pc : ℕ) → ((j : ℕ) (other : Insn) (next : Target) (g : TagShape) → IsAt p tags mi j m other next g → other.pc ≡ pc → Has j cs) → BringsOther p m frames fi cs pc → ⊥
    not_brought cs pc brought b =
        let t = is_there pc b.there b.is in
        let a = are_there place all o u.colours u.colouring t.j t.other t.next b.there t.in_code t.names t.stands in
        by_other (sym (brought t.j t.other t.next a.f a.at t.its_pc) ∙ a.so) b.other
      where
        by_other : {ds : List Colour} → of_field fi cs ≡ of_field fi ds → IsOther p m.class fi cs ds → ⊥
        by_other same (coloured l h) = h same
        by_other {ds = ds} same (deeper d h) =
            let l : length cs ≡ length ds = sym (length-map cs (is_colour_of fi)) ∙ ap (λ (xs : List Bool). length xs) same ∙ length-map ds (is_colour_of fi) in
            true≢false (sym (eq-eqb (length cs) (length ds) l) ∙ d)

    class_not_out : (i : ℕ) (insn : Insn) (target : Target) (f : TagShape) (stack : List Colour) → IsAt p tags mi i m insn target f → Has i stack → InsnOther p m (branched_flags m) frames i insn target (row_of p m insn target) f stack fi → ⊥
    class_not_out i insn target f stack at h (uses x) = no_use p m i fi insn.pc insn.op target f stack (u.colours i) (put_is_new m i insn up at.in_code) h
        (λ named. ap (λ (bs : List Bool). is_coloured bs 2) h ∙ sym (read_is p fi array 2 stack) ∙ names_field fi (colour_at stack 2) named)
        (o.read mi i m insn target f at) (o.written mi i m insn target f at) (o.new mi i m insn target f at) (u.stored i m insn target f at) x
    class_not_out i insn target f stack at h (takes (k, low, never, named)) =
        let there : is_coloured (u.colours i).stack k ≡ true = ap (λ (bs : List Bool). is_coloured bs k) h ∙ sym (read_is p fi array k stack) ∙ names_field fi (colour_at stack k) named in
        true≢false (sym (u.taken i m insn target f at k low there) ∙ never)
    class_not_out i insn target f stack at h (onward (to, goes, b)) = not_brought (field_colours_after p insn target (row_of p m insn target) stack) to
        (λ j other next g there same. colours_brought place all o u.colours u.colouring i j insn target f stack at h
        (u.colouring.onward i j m insn other target next f g at there (subst (λ (pc : ℕ). has_number (edges insn) pc ≡ true) (sym same) goes))) b
    class_not_out i insn target f stack at h (caught (to, goes, b)) = not_brought (Plain ∷ []) to
        (λ j other next g there same. ap (λ (s : ColourShape). s.stack) (u.colouring.caught i j m insn other target next f g at there (sym (handler_there (catchers m insn) other.pc) ∙ subst (λ (pc : ℕ). has_number (handlers_of (catchers m insn)) pc ≡ true) (sym same) goes))) b

  -- ---- in one of another class

  module _ (other : (m.class == o.field.class) ≡ false) where
    none_named : (stack : List Colour) (k : ℕ) → NoneOf (of_field fi stack) → named_by (colour_at stack k) ≡ Some fi → ⊥
    none_named stack k none named = true≢false (sym (names_field fi (colour_at stack k) named) ∙ read_is p fi array k stack ∙ none k)

    none_same : (xs ys : List Bool) → length xs ≡ length ys → NoneOf xs → NoneOf ys → xs ≡ ys
    none_same [] [] l a b = refl
    none_same (x ∷ xs) (y ∷ ys) l a b =
        let first : x ≡ y = a 0 ∙ sym (b 0) in
        let more : xs ≡ ys = none_same xs ys (omega (arith, l)) (λ k. a (suc k)) (λ k. b (suc k)) in
        cc
    none_same xs ys l a b = absurd (omega (arith, l))

    none_differ : (cs : List Colour) (pc : ℕ) → NoneOf (of_field fi cs) → BringsOther p m frames fi cs pc → ⊥
    none_differ cs pc none b =
        let t = is_there pc b.there b.is in
        by_other (none_of_field place other t.j t.other t.next b.there t.in_code t.names t.stands) b.other
      where
        by_other : {ds : List Colour} → NoneOf (of_field fi ds) → IsOther p m.class fi cs ds → ⊥
        by_other {ds = ds} there (coloured l h) =
            h (none_same (of_field fi cs) (of_field fi ds) (length-map cs (is_colour_of fi) ∙ l ∙ sym (length-map ds (is_colour_of fi))) none there)
        by_other there (deeper d h) = no_class place other (eqb-true o.field.class m.class (ap (is_field_of m.class) (sym o.is) ∙ h))

    other_use : (op : Op) (target : Target) (f : TagShape) (stack : List Colour) (i : ℕ) → NoneOf (of_field fi stack) → IsTargetOf p (site_in m) op target → UsesOther p m (branched_flags m) i op target f stack fi → ⊥
    other_use (ops.Getfield n) (targets.Field x) f stack i none named u =
        no_class place other
        (reads_own p fi o.field m (ops.Getfield n) (targets.Field x) o.is o.private named (eq-eqb x fi (same_Some x fi u.1)))
    other_use (ops.Putfield n) (targets.Field x) f stack i none named u =
        no_class place other (writes_own p fi o.field m n x o.is o.private named (same_Some x fi u.1))
    other_use ops.Iastore target f stack i none named u = none_named stack 2 none u.1
    other_use op target f stack i none named u = u

    other_not_out : (i : ℕ) (insn : Insn) (target : Target) (f : TagShape) (stack : List Colour) → IsAt p tags mi i m insn target f → NoneOf (of_field fi stack) → InsnOther p m (branched_flags m) frames i insn target (row_of p m insn target) f stack fi → ⊥
    other_not_out i insn target f stack at none (uses x) = other_use insn.op target f stack i none (target_named p tags mi i m insn target f program at) x
    other_not_out i insn target f stack at none (takes (k, low, never, named)) = none_named stack k none named
    other_not_out i insn target f stack at none (onward (to, goes, b)) = none_differ (field_colours_after p insn target (row_of p m insn target) stack) to
        (none_brought place other i insn target f stack at none) b
    other_not_out i insn target f stack at none (caught (to, goes, b)) = none_differ (Plain ∷ []) to (none_first [] none_at_all) b

  -- ---- in any

  pub not_out : (i : ℕ) → OtherAt p m shapes (branched_flags m) frames fi i → ⊥
  not_out i x = by_class (m.class == o.field.class) refl
    where
      at : IsAt p tags mi i m x.insn x.target x.f
      at = record { in_program = is; in_code = x.is_insn; names = x.is_target; frames = shapes; of_method = of_method; frame = x.is_frame }

      by_class : (t : Bool) → (m.class == o.field.class) ≡ t → ⊥
      by_class true e =
          let u = o.used mi m is (eqb-true m.class o.field.class e) in
          let a = are_there place all o u.colours u.colouring i x.insn x.target x.stack x.is_insn x.is_target x.is_stack in
          class_not_out u i x.insn x.target x.f x.stack at a.so x.other
      by_class false e =
          other_not_out e i x.insn x.target x.f x.stack at (none_of_field place e i x.insn x.target x.stack x.is_insn x.is_target x.is_stack) x.other
