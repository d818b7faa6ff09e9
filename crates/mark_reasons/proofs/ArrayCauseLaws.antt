-- What counts against a field, in the method of a number and with its tags among those of all; and that something counts against each
-- field that owns no arrays.
use Rattle.std.proofs.Common.{◌≡◌, ◌<◌, ℕ, zero, suc, ◌==◌, ◌∙◌, Bool, true, false, sym, ap, subst, arith, if◌then◌else◌, length, List, Option, Some, None, refl, slice_get}
use Rattle.std.proofs.lemmas.{Bool.{eq-eqb, false_from_ne_true, true≢false}, List.length-replicate, Option.{same_Some, slice_get-map, slice_get_within}}
use Rattle.jvm_types.specs.{ProgramInvariant.IsProgram, declared.{code.{Insn.Insn, Op.Op}, program.{FieldInfo.FieldInfo, MethodInfo.MethodInfo, Program.Program, Target.Target}}}
use Rattle.checked_program.specs.{FrozenPlaces.IsFrozenClass, LockTags.TagShape, MarkedProgram.AreTaggings, Marks.{Callee, BreaksAt, element_fault, section_fault}, OwnedArrays.{reads_owned, AreUses, IsOwnedArrayField, ReadsOwned}, TaggedCode.{Tagged, tagged_by, row_of}}
use Rattle.checked_program.specs.declared.{section.{Mode.{Mode, TheVariants.OnThis}, Uses.Uses}, tag.Tags.Tags}
use Rattle.guard_analysis.specs.ArrayFaults.{against_at, against_if, array_named, is_out, none_out, IsFirstAgainst, IsReadFrom}
use Rattle.guard_analysis.specs.{ColourVisits.{colour_at, is_array_field, may_be_owned}, OwnedFound.{branched_flags, colour_read, edges_out, method_out, out_at, read_colour, taken_before, used_out}}
use Rattle.guard_analysis.specs.declared.{array_faults.{Against.Against, Misuse.{Misuse, TheVariants.{Taken, Meets}}}, colouring.Colour.{Colour, TheVariants.{Plain, Of}}}
use Rattle.guard_analysis.proofs.{CallEdges.frames_there, ElementsFound.reads_of_owned, FieldUseLaws.none_set, MethodChecks.puts_method, OwnersFound.{IsLeftIn, owned_if_left, tagging_at}}
use Rattle.mark_reasons.specs.{ArrayCauses.{IsMisuseIf, IsMisuseIn, IsMisuseOf, IsNeverMisused}, Causes.{place_read, site_place}}
use Rattle.jvm_types.specs.declared.code.Op.TheVariants as ops
use Rattle.jvm_types.specs.declared.program.Target.TheVariants as targets
use Rattle.mark_reasons.specs.declared.cause.ReadPlace.TheVariants as places

module _ (p : Program) (tags : List Tags) (class fi mi : ℕ) (m : MethodInfo) (there : slice_get p.methods mi ≡ Some m) where
  pub misuse_there : (t : Tags) (found : Option Against) → slice_get tags mi ≡ Some t → IsMisuseIf (m.class == class) p fi m t.frames found → IsMisuseIn p (tagged_by tags) class fi mi found
  misuse_there t found e h = rw (there, slice_get-map (λ (t : Tags). t.frames) tags mi, e) h

  pub untagged_there : slice_get tags mi ≡ None → IsMisuseIn p (tagged_by tags) class fi mi None
  untagged_there e = rw (there, slice_get-map (λ (t : Tags). t.frames) tags mi, e) refl

-- ---- where no instruction of a method counts against a field, none puts it out

against_none : (a b c : Bool) (x : Misuse) → (if a then Some x else if b then Some Taken else if c then Some Meets else None) ≡ None → c ≡ false
against_none true b c x e = absurd (cc)
against_none false true c x e = absurd (cc)
against_none false false true x e = absurd (cc)
against_none false false false x e = refl

module _ (p : Program) (m : MethodInfo) (tags : List (Option TagShape)) (frames : List (Option (List Colour))) (fi : ℕ) where
  still_in : (i : ℕ) (oi : Option Insn) (ot : Option Target) (of : Option (Option TagShape)) (os : Option (Option (List Colour))) (outs : List Bool) → against_if p m (branched_flags m) frames i oi ot of os outs fi ≡ None → is_out outs fi ≡ false
      → is_out (out_at p m (branched_flags m) frames i oi ot of os outs) fi ≡ false
  still_in i (Some insn) (Some target) (Some (Some f)) (Some (Some stack)) outs e h =
      let used = used_out p m (branched_flags m) i insn.op target f stack outs in
      let taken = taken_before used insn.op stack (length (row_of p m insn target).takes) in
      against_none (is_out used fi) (is_out taken fi) (is_out (edges_out p m frames insn target (row_of p m insn target) stack taken) fi) _ e
  still_in i oi ot of os outs e h = h

  never_out : (n : ℕ) → ((i : ℕ) → i < n → against_at p m tags frames fi i ≡ None) → is_out (method_out p m tags (branched_flags m) frames (none_out p) n) fi ≡ false
  never_out zero h = false_from_ne_true (is_out (none_out p) fi) (λ e. none_set (length p.fields) fi e)
  never_out (suc n) h = still_in n (slice_get m.code n) (slice_get m.targets n) (slice_get tags n) (slice_get frames n) (method_out p m tags (branched_flags m) frames (none_out p) n) (h n (omega arith)) (never_out n (λ i l. h i (omega (arith, l))))

-- ---- and where none of all methods does, it owns its arrays

module _ (p : Program) (tags : List Tags) (program : IsProgram p) (are : AreTaggings p p.methods tags) (fi : ℕ) (field : FieldInfo) (there : slice_get p.fields fi ≡ Some field) where
  left_in : (mi : ℕ) (m : MethodInfo) (t : Tags) → slice_get tags mi ≡ Some t → IsFirstAgainst p m t.frames fi None → IsLeftIn p tags program are fi mi m
  left_in mi m t its k = record {
    t = t;
    its_tags = its;
    frames = k.frames;
    has = k.visited;
    none = λ i x.
        let inside : fi < length (none_out p) = subst (λ (n : ℕ). fi < n) (sym (length-replicate (length p.fields) false)) (slice_get_within p.fields fi field there) in
        true≢false (sym ((puts_method p m t.frames (branched_flags m) k.frames (none_out p) (length m.code)).all fi inside (i, slice_get_within m.code i x.insn x.is_insn, x)) ∙ never_out p m t.frames k.frames fi (length m.code) k.first);
  }

  pub never_misused : is_array_field p fi ≡ true → IsFrozenClass p (tagged_by tags) field.class → IsNeverMisused p (tagged_by tags) field.class fi → IsOwnedArrayField p (tagged_by tags) fi
  never_misused array frozen never = owned_if_left p tags program are fi field there array frozen (λ mi m at own.
      let its = tagging_at p tags program are mi m at in
      let shapes : slice_get (tagged_by tags) mi ≡ Some its.0.frames = frames_there p tags program mi its.0 its.1 in
      let of_method : IsMisuseOf p field.class fi (Some m) (slice_get (tagged_by tags) mi) None =
      subst (λ (o : Option MethodInfo). IsMisuseOf p field.class fi o (slice_get (tagged_by tags) mi) None) at (never mi (slice_get_within p.methods mi m at)) in
      let tagged : IsMisuseIf (m.class == field.class) p fi m its.0.frames None =
      subst (λ (o : Option (List (Option TagShape))). IsMisuseOf p field.class fi (Some m) o None) shapes of_method in
      left_in mi m its.0 its.1 (subst (λ (b : Bool). IsMisuseIf b p fi m its.0.frames None) (eq-eqb m.class field.class own) tagged))

pub no_array : (p : Program) (fi : ℕ) → is_array_field p fi ≡ true → slice_get p.fields fi ≡ None → ⊥
no_array p fi array e = by_field (slice_get p.fields fi) e array
  where
    by_field : (o : Option FieldInfo) → o ≡ None → may_be_owned o ≡ true → ⊥
    by_field None e h = let bad : false ≡ true = h in cc
    by_field (Some field) e h = cc

-- ---- the field that an array was read from

record IsArrayRead (p : Program) (oi : Option Insn) (os : Option (Option (List Colour))) (fi : ℕ) : Type 0 where
  pub insn : Insn
  pub stack : List Colour
  pub is_insn : oi ≡ Some insn
  pub is_frame : os ≡ Some (Some stack)
  pub reads : insn.op ≡ ops.Iaload
  pub colour : colour_at stack 1 ≡ Of fi
  pub array : is_array_field p fi ≡ true

array_read : (p : Program) (oi : Option Insn) (os : Option (Option (List Colour))) (fi : ℕ) → Some fi ≡ array_named p (read_colour oi os) → IsArrayRead p oi os fi
array_read p None os fi e = absurd (cc)
array_read p (Some insn) None fi e = absurd (cc)
array_read p (Some insn) (Some None) fi e = absurd (cc)
array_read p (Some insn) (Some (Some stack)) fi e =
    let op = by_op insn.op e in
    let c = by_colour (colour_at stack 1) op.1 in
    record { insn = insn; stack = stack; is_insn = refl; is_frame = refl; reads = op.0; colour = c.0; array = c.1 }
  where
    by_op : (op : Op) → Some fi ≡ array_named p (colour_read op stack) → (op ≡ ops.Iaload) × (Some fi ≡ array_named p (colour_at stack 1))
    by_op ops.Iaload h = (refl, h)
    by_op op h = absurd (cc)

    by_test : (x : ℕ) (b : Bool) → is_array_field p x ≡ b → Some fi ≡ (if b then Some x else None) → (Of x ≡ Of fi) × (is_array_field p fi ≡ true)
    by_test x true q h = let same : x ≡ fi = same_Some x fi (sym h) in (ap (λ (n : ℕ). Of n) same, ap (is_array_field p) (sym same) ∙ q)
    by_test x false q h = absurd (cc)

    by_colour : (c : Colour) → Some fi ≡ array_named p c → (c ≡ Of fi) × (is_array_field p fi ≡ true)
    by_colour Plain h = absurd (cc)
    by_colour (Of x) h = by_test x (is_array_field p x) refl h

module _ (p : Program) (m : MethodInfo) (i fi : ℕ) (from : Option ℕ) (is : from ≡ Some fi) (r : IsReadFrom p m i from) where
  parts : IsArrayRead p (slice_get m.code i) (slice_get r.frames i) fi
  parts = array_read p (slice_get m.code i) (slice_get r.frames i) fi (sym is ∙ r.is)

  pub is_array : is_array_field p fi ≡ true
  is_array = parts.array

  pub is_owned_read : (tags : List Tags) (mi : ℕ) → IsProgram p → AreTaggings p p.methods tags → slice_get p.methods mi ≡ Some m → IsOwnedArrayField p (tagged_by tags) fi → ReadsOwned p (tagged_by tags) mi i
  is_owned_read tags mi program are e own = reads_of_owned p tags program are mi m e r.frames r.visited i fi own parts.insn parts.stack parts.is_insn parts.is_frame parts.reads parts.colour

-- ---- an element that a section on `this` may not read is of no array that its object owns

not_owned : (mode : Mode) (owned : Bool) → element_fault mode owned ≡ 5 → mode ≡ OnThis → owned ≡ true → ⊥
not_owned mode owned five on owns = let bad : 0 ≡ 5 = ap (λ (b : Bool). element_fault OnThis b) (sym owns) ∙ ap (λ (x : Mode). element_fault x owned) (sym on) ∙ five in omega (arith, bad)

pub reads_no_owned : (p : Program) (tags : Tagged) (uses : Uses) (a : Callee) (i : ℕ) → AreUses p tags uses → BreaksAt p tags uses a i 5 → site_place (slice_get p.methods a.method) i ≡ Some places.Element → a.mode ≡ OnThis → ReadsOwned p tags a.method i → ⊥
reads_no_owned p tags uses a i are b e on r =
    not_owned a.mode (reads_owned uses a.method i) (by_op b.insn.op b.target (sym place_is ∙ e) b.fault_is) on ((are.elements a.method i).1 r)
  where
    place_is : site_place (slice_get p.methods a.method) i ≡ place_read b.insn.op b.target
    place_is = rw (b.at.in_program, b.at.in_code, b.at.names) refl

    by_op : (op : Op) (target : Target) → place_read op target ≡ Some places.Element → section_fault p uses.fields a.mode op target b.f.stack (reads_owned uses a.method i) ≡ 5 → element_fault a.mode (reads_owned uses a.method i) ≡ 5
    by_op ops.Iaload target q five = five
    by_op (ops.Getstatic n) (targets.Field x) q five = absurd (cc)
    by_op (ops.Getfield n) (targets.Field x) q five = absurd (cc)
    by_op op target q five = absurd (cc)
