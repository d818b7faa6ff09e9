-- The fields that no method puts out are those that own their arrays.
use Rattle.std.proofs.Common.{◌≡◌, ◌<◌, ◌≢◌, ◌⊎◌, ⊎_elim, ℕ, zero, suc, ◌-◌, Bool, true, false, not, ◌&&◌, List, length, Option, Some, None, refl, sym, ap, ◌∙◌, subst, arith, ◌==◌, nat_lt, slice_get, IsSomeAnd, MatchOption}
use Rattle.std.proofs.lemmas.{Bool.{and_from, and_parts, cases_eq, eqb-true, eq-eqb, true≢false, not-true, cases_lt, Decides.nat_tests}, List.length-replicate, Option.{same_Some, slice_get_within}, Slice.Zip.AllZip-left}
use Rattle.jvm_types.specs.{ClassNames.file_class, ProgramInvariant.{IsProgram, IsFileClass, IsTargetOf, site_in}, declared.{code.{Insn.Insn, Op.Op}, program.{FieldInfo.FieldInfo, MethodInfo.MethodInfo}}}
use Rattle.jvm_types.specs.declared.program.{Program.Program, Target.Target}
use Rattle.laws_programs.proofs.CodeOrder.{methods_laid_out}
use Rattle.code_table.{specs.PcTables.Ascend, proofs.LaidOut.ascend}
use Rattle.checked_program.specs.{FrozenPlaces.{IsFrozenClass, PutsGuarded}, LockTags.TagShape, MarkedProgram.AreTaggings, OwnedArrays.{GetsOnThis, PutsNew, IsOwnedArrayField}, SectionLaws.AreTagged, TaggedCode.{IsAt, tagged_by}}
use Rattle.checked_program.specs.{Tagging.{HasTagging, IsTaggingOf}, Visits.HasFrames, declared.tag.Tags.Tags}
use Rattle.checked_program.proofs.NamedFields.{target_named}
use Rattle.laws_sections.proofs.ArrayColours.{reads_own, writes_own}
use Rattle.frozen_classes.specs.FrozenClasses.{AreFrozenClasses}
use Rattle.guard_analysis.specs.{ColourVisits.{is_array_field, colour_plan}, FieldUses.class_flag, OwnedFound.{branched_flags, may_own, fields_left_before, owning_with, owning_before}, declared.colouring.Colour.Colour}
use Rattle.guard_analysis.proofs.{CallEdges.frames_there, CheckedMethods.{IsKept, IsOutIn, AreKept}, ColourPaths.ColouredMethod, FieldColours.{IsArrayField, ColouredField, array_parts, array_whole}, FieldUseLaws.{noted_long, noted_keeps, noted_here}, FieldUsesFound.{is_frozen, not_frozen}}
use Rattle.guard_analysis.proofs.{FieldsLeft.{used_well, reads_well, writes_well, writes_new}, FieldsOut.not_out, FlagsPut.is_set, ListsMade.{made_long, made_at, made_past}, MethodChecks.OtherAt}
use Rattle.jvm_types.specs.declared.code.Op.TheVariants as ops
use Rattle.jvm_types.specs.declared.program.Target.TheVariants as targets

-- ---- the lists of flags

module _ (p : Program) (frozen outs : List Bool) where
  abbrev left_at : ℕ → Bool
  left_at fi = may_own p frozen fi (slice_get p.fields fi) && not (is_set outs fi)

  pub left_long : (n : ℕ) → length (fields_left_before p frozen outs n) ≡ n
  left_long n = made_long left_at (fields_left_before p frozen outs) refl (λ k. refl) n

  pub left_is : (n fi : ℕ) → fi < n → is_set (fields_left_before p frozen outs n) fi ≡ left_at fi
  left_is n fi l = made_at left_at (fields_left_before p frozen outs) refl (λ k. refl) false n fi l

  pub within : (n fi : ℕ) → is_set (fields_left_before p frozen outs n) fi ≡ true → fi < n
  within n fi h = ⊎_elim (λ x. x) (λ x. absurd (true≢false (sym h ∙ made_past left_at (fields_left_before p frozen outs) refl (λ k. refl) false n fi x))) (cases_lt fi n)

-- ---- the classes that own arrays

module _ (p : Program) (frozen : List Bool) where
  with_long : (t : Bool) (o : Option FieldInfo) (flags : List Bool) → length (owning_with t o flags) ≡ length flags
  with_long true (Some field) flags = noted_long flags (Some (field.class - file_class 0))
  with_long t o flags = refl

  with_keeps : (t : Bool) (o : Option FieldInfo) (flags : List Bool) (k : ℕ) → is_set flags k ≡ true → is_set (owning_with t o flags) k ≡ true
  with_keeps true (Some field) flags k h = noted_keeps flags (Some (field.class - file_class 0)) k h
  with_keeps t o flags k h = h

  owning_long : (n : ℕ) → length (owning_before p frozen n) ≡ length frozen
  owning_long zero = length-replicate (length frozen) false
  owning_long (suc n) = with_long (may_own p frozen n (slice_get p.fields n)) (slice_get p.fields n) (owning_before p frozen n) ∙ owning_long n

  with_here : (t : Bool) (o : Option FieldInfo) (flags : List Bool) (field : FieldInfo) → t ≡ true → o ≡ Some field → field.class - file_class 0 < length flags → is_set (owning_with t o flags) (field.class - file_class 0) ≡ true
  with_here true (Some other) flags field e f l =
      subst (λ (x : FieldInfo). is_set (owning_with true (Some x) flags) (field.class - file_class 0) ≡ true) (sym (same_Some other field f)) (noted_here flags (Some (field.class - file_class 0)) (field.class - file_class 0) l refl)
  with_here true None flags field e f l = absurd (cc)
  with_here false o flags field e f l = absurd (true≢false (sym e))

  pub owning_here : (n fi : ℕ) (field : FieldInfo) → fi < n → slice_get p.fields fi ≡ Some field → may_own p frozen fi (slice_get p.fields fi) ≡ true → field.class - file_class 0 < length frozen
      → is_set (owning_before p frozen n) (field.class - file_class 0) ≡ true
  owning_here zero fi field l there e c = absurd (omega (arith, l))
  owning_here (suc n) fi field l there e c = ⊎_elim
      (λ (q : fi ≡ n). with_here (may_own p frozen n (slice_get p.fields n)) (slice_get p.fields n) (owning_before p frozen n) field (ap (λ (k : ℕ). may_own p frozen k (slice_get p.fields k)) (sym q) ∙ e) (ap (slice_get p.fields) (sym q) ∙ there)
      (subst (λ (k : ℕ). field.class - file_class 0 < k) (sym (owning_long n)) c))
      (λ (q : fi ≢ n). with_keeps (may_own p frozen n (slice_get p.fields n)) (slice_get p.fields n) (owning_before p frozen n) (field.class - file_class 0) (owning_here n fi field (omega (arith, l, q)) there e c))
      (cases_eq fi n)

-- ---- the fields

module _ (p : Program) (tags : List Tags) (program : IsProgram p) (are : AreTaggings p p.methods tags) where
  pub tagging_at : (mi : ℕ) (m : MethodInfo) → slice_get p.methods mi ≡ Some m → (t : Tags) × (slice_get tags mi ≡ Some t) × HasTagging p m t.frames
  tagging_at mi m e = of_some (slice_get tags mi) refl (subst (λ (o : Option MethodInfo). MatchOption o (Unit {0}) (λ x. IsSomeAnd (slice_get tags mi) (IsTaggingOf p x))) e (AllZip-left (IsTaggingOf p) p.methods tags are mi))
    where
      of_some : (o : Option Tags) → slice_get tags mi ≡ o → IsSomeAnd o (IsTaggingOf p m) → (t : Tags) × (slice_get tags mi ≡ Some t) × HasTagging p m t.frames
      of_some None k h = absurd h
      of_some (Some t) k h = (t, k, h)

  pub all_tagged : AreTagged p (tagged_by tags)
  all_tagged mi m e = let t = tagging_at mi m e in (t.0.frames, frames_there p tags program mi t.0 t.1, t.2)

  -- the tagging of a method, by its tags
  pub tagging_of : (mi : ℕ) (m : MethodInfo) (t : Tags) → slice_get p.methods mi ≡ Some m → slice_get tags mi ≡ Some t → HasTagging p m t.frames
  tagging_of mi m t e f = let x = tagging_at mi m e in subst (λ (y : Tags). HasTagging p m y.frames) (same_Some x.0 t (sym x.1 ∙ f)) x.2

  pub laid_up : (mi : ℕ) (m : MethodInfo) → slice_get p.methods mi ≡ Some m → Ascend 0 m.code
  laid_up mi m e = ascend m (methods_laid_out p mi m program e)

  -- a method with the frames of its colouring
  abbrev pub coloured_method : (mi : ℕ) (m : MethodInfo) (e : slice_get p.methods mi ≡ Some m) (t : Tags) (its_tags : slice_get tags mi ≡ Some t) (frames : List (Option (List Colour))) → HasFrames (colour_plan p m) frames → ColouredMethod
  coloured_method mi m e t its_tags frames has = record {
    p = p;
    tags = tagged_by tags;
    mi = mi;
    m = m;
    is = e;
    shapes = t.frames;
    of_method = frames_there p tags program mi t its_tags;
    tagged = tagging_of mi m t e its_tags;
    up = laid_up mi m e;
    frames = frames;
    has = has;
  }

  -- ---- a field that no instruction of its class puts out is owned

  -- a method in which none does
  pub record IsLeftIn (fi mi : ℕ) (m : MethodInfo) : Type 0 where
    pub t : Tags
    pub its_tags : slice_get tags mi ≡ Some t
    pub frames : List (Option (List Colour))
    pub has : HasFrames (colour_plan p m) frames
    pub none : (i : ℕ) → OtherAt p m t.frames (branched_flags m) frames fi i → ⊥

  module _ (fi : ℕ) (field : FieldInfo) (there : slice_get p.fields fi ≡ Some field) (array : is_array_field p fi ≡ true) (frozen : IsFrozenClass p (tagged_by tags) field.class)
      (each : (mi : ℕ) (m : MethodInfo) → slice_get p.methods mi ≡ Some m → m.class ≡ field.class → IsLeftIn fi mi m) where
    -- what holds of the instructions of its class holds of all, where an instruction that uses the field stands there
    by_class : (mi i : ℕ) (m : MethodInfo) (insn : Insn) (target : Target) (f : TagShape) (P : Type 0) → IsAt p (tagged_by tags) mi i m insn target f → (field.class ≡ m.class → P) → ((field.class ≡ m.class → ⊥) → P) → P
    by_class mi i m insn target f P at own other = by_test (field.class == m.class) refl
      where
        by_test : (t : Bool) → (field.class == m.class) ≡ t → P
        by_test true e = own (eqb-true field.class m.class e)
        by_test false e = other (λ same. true≢false (sym (eq-eqb field.class m.class same) ∙ e))

    private : IsArrayField field
    private = array_parts p fi field there array

    other_reads : (m : MethodInfo) (op : Op) (target : Target) (f : TagShape) → IsTargetOf p (site_in m) op target → (field.class ≡ m.class → ⊥) → GetsOnThis fi op target f
    other_reads m (ops.Getfield n) (targets.Field x) f named never = λ (e : x ≡ fi). absurd (never (reads_own p fi field m (ops.Getfield n) (targets.Field x) there private.private named (eq-eqb x fi e)))
    other_reads m op target f named never = tt

    other_writes : (m : MethodInfo) (op : Op) (target : Target) (f : TagShape) → IsTargetOf p (site_in m) op target → (field.class ≡ m.class → ⊥) → PutsGuarded fi m op target f
    other_writes m (ops.Putfield n) (targets.Field x) f named never = λ (e : x ≡ fi). absurd (never (writes_own p fi field m n x there private.private named e))
    other_writes m op target f named never = tt

    other_new : (m : MethodInfo) (i pc : ℕ) (op : Op) (target : Target) → IsTargetOf p (site_in m) op target → (field.class ≡ m.class → ⊥) → PutsNew fi m i pc op target
    other_new m i pc (ops.Putfield n) (targets.Field x) named never = λ (e : x ≡ fi). absurd (never (writes_own p fi field m n x there private.private named e))
    other_new m i pc op target named never = tt

    abbrev place : (mi : ℕ) (m : MethodInfo) → slice_get p.methods mi ≡ Some m → IsLeftIn fi mi m → ColouredField
    place mi m e k = record { method = coloured_method mi m e k.t k.its_tags k.frames k.has; program = program; fi = fi; field = field; there = there; array = array }

    pub owned_if_left : IsOwnedArrayField p (tagged_by tags) fi
    owned_if_left = record {
      field = field;
      is = there;
      private = private.private;
      instance = private.instance;
      array = private.array;
      frozen = frozen;
      read = λ mi i m insn target f at. by_class mi i m insn target f (GetsOnThis fi insn.op target f) at
          (λ own. let k = each mi m at.in_program (sym own) in
          reads_well (place mi m at.in_program k) own k.none i insn target f at)
          (λ never. other_reads m insn.op target f (target_named p (tagged_by tags) mi i m insn target f program at) never);
      written = λ mi i m insn target f at. by_class mi i m insn target f (PutsGuarded fi m insn.op target f) at
          (λ own. let k = each mi m at.in_program (sym own) in
          writes_well (place mi m at.in_program k) own k.none i insn target f at)
          (λ never. other_writes m insn.op target f (target_named p (tagged_by tags) mi i m insn target f program at) never);
      new = λ mi i m insn target f at. by_class mi i m insn target f (PutsNew fi m i insn.pc insn.op target) at
          (λ own. let k = each mi m at.in_program (sym own) in
          writes_new (place mi m at.in_program k) own k.none i insn target f at)
          (λ never. other_new m i insn.pc insn.op target (target_named p (tagged_by tags) mi i m insn target f program at) never);
      used = λ mi m at own. let k = each mi m at own in
          used_well (place mi m at k) (sym own) k.none;
    }

  module _ (frozen : List Bool) (frozen_are : AreFrozenClasses p (tagged_by tags) frozen) (outs : List Bool) (reads : List (List Colour))
      (all : AreKept p tags (owning_before p frozen (length p.fields)) (length p.methods) outs reads) where
    abbrev pub owning : List Bool
    owning = owning_before p frozen (length p.fields)

    abbrev pub owners : List Bool
    owners = fields_left_before p frozen outs (length p.fields)

    flag_of : (flags : List Bool) (class : ℕ) → IsFileClass p class → is_set flags (class - file_class 0) ≡ true → class_flag flags class ≡ true
    flag_of flags class c h = let high : nat_lt class 17 ≡ false = grind (arith, nat_tests, c.0) in rw high h

    -- the methods of its class were looked at
    pub class_checked : (fi : ℕ) (field : FieldInfo) → slice_get p.fields fi ≡ Some field → may_own p frozen fi (slice_get p.fields fi) ≡ true → class_flag owning field.class ≡ true
    class_checked fi field there e =
        let c : IsFileClass p field.class = (program.fields fi field there).class in
        flag_of owning field.class c (owning_here p frozen (length p.fields) fi field (slice_get_within p.fields fi field there) there e (omega (arith, c.0, c.1, frozen_are.long)))

    pub checked_method : (fi mi : ℕ) (field : FieldInfo) (m : MethodInfo) → slice_get p.fields fi ≡ Some field → may_own p frozen fi (slice_get p.fields fi) ≡ true → slice_get p.methods mi ≡ Some m → m.class ≡ field.class → IsKept p tags owning outs reads mi m
    checked_method fi mi field m there e at own = all.kept mi m (slice_get_within p.methods mi m at) at (ap (class_flag owning) own ∙ class_checked fi field there e)

    -- ---- a field that is left is owned

    module _ (fi : ℕ) (field : FieldInfo) (there : slice_get p.fields fi ≡ Some field) (may : may_own p frozen fi (slice_get p.fields fi) ≡ true) (array : is_array_field p fi ≡ true) (left : is_set outs fi ≡ false) where
      none_other : (mi : ℕ) (m : MethodInfo) (k : IsKept p tags owning outs reads mi m) (i : ℕ) → OtherAt p m k.t.frames (branched_flags m) k.frames fi i → ⊥
      none_other mi m k i x = true≢false (sym (k.puts fi (slice_get_within p.fields fi field there) (i, slice_get_within m.code i x.insn x.is_insn, x)) ∙ left)

      left_owned : IsOwnedArrayField p (tagged_by tags) fi
      left_owned = owned_if_left fi field there array (is_frozen p tags program frozen frozen_are fi field there flagged)
          (λ mi m at own. let k = checked_method fi mi field m there may at own in record { t = k.t; its_tags = k.its_tags; frames = k.frames; has = k.has; none = none_other mi m k })
        where
          flagged : class_flag frozen field.class ≡ true
          flagged = (and_parts (is_array_field p fi) (class_flag frozen field.class) (subst (λ (o : Option FieldInfo). may_own p frozen fi o ≡ true) there may)).1

    pub found_owned : (fi : ℕ) → is_set owners fi ≡ true → IsOwnedArrayField p (tagged_by tags) fi
    found_owned fi h =
        let parts = and_parts (may_own p frozen fi (slice_get p.fields fi)) (not (is_set outs fi)) (sym (left_is p frozen outs (length p.fields) fi (within p frozen outs (length p.fields) fi h)) ∙ h) in
        by_field (slice_get p.fields fi) refl parts.0 (not-true (is_set outs fi) parts.1)
      where
        by_field : (o : Option FieldInfo) → slice_get p.fields fi ≡ o → may_own p frozen fi (slice_get p.fields fi) ≡ true → is_set outs fi ≡ false → IsOwnedArrayField p (tagged_by tags) fi
        by_field None e may left = absurd (true≢false (sym may ∙ ap (may_own p frozen fi) e))
        by_field (Some field) e may left =
            left_owned fi field e may (and_parts (is_array_field p fi) (class_flag frozen field.class) (subst (λ (o : Option FieldInfo). may_own p frozen fi o ≡ true) e may)).0 left

    -- ---- and one that is owned is left

    module _ (fi : ℕ) (o : IsOwnedArrayField p (tagged_by tags) fi) where
      pub is_array : is_array_field p fi ≡ true
      is_array = array_whole p fi o.field o.is (record { array = o.array; private = o.private; instance = o.instance })

      class_frozen : (b : Bool) → class_flag frozen o.field.class ≡ b → b ≡ true
      class_frozen true e = refl
      class_frozen false e = absurd (not_frozen p tags program frozen frozen_are fi o.field o.is e o.frozen)

      pub owned_may : may_own p frozen fi (slice_get p.fields fi) ≡ true
      owned_may = ap (may_own p frozen fi) o.is ∙ and_from (is_array_field p fi) (class_flag frozen o.field.class) is_array (class_frozen (class_flag frozen o.field.class) refl)

      not_in : IsOutIn p tags owning fi → ⊥
      not_in x = not_out (coloured_method x.u x.m x.in_program x.t x.its_tags x.frames x.has) program fi is_array
          (methods_laid_out p x.u x.m program x.in_program) all_tagged o x.other.0 x.other.2

      stays_in : (b : Bool) → is_set outs fi ≡ b → not b ≡ true
      stays_in true e = absurd (not_in (all.only fi e))
      stays_in false e = refl

      pub owned_found : is_set owners fi ≡ true
      owned_found = left_is p frozen outs (length p.fields) fi (slice_get_within p.fields fi o.field o.is) ∙ and_from (may_own p frozen fi (slice_get p.fields fi)) (not (is_set outs fi)) owned_may (stays_in (is_set outs fi) refl)
