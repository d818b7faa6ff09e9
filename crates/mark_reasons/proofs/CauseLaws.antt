-- What keeps a place from being read: writes of a field without its guard, and the causes of M5.
use Rattle.std.proofs.Common.{◌≡◌, ℕ, zero, suc, ◌<◌, ◌≤◌, Bool, true, false, List, length, Option, Some, None, refl, sym, ap, subst, ◌∙◌, arith, inl, inr, ◌⊎◌, ◌==◌, IsSomeAnd, slice_get, slice_index_or}
use Rattle.std.proofs.lemmas.{Bool.{false_from_ne_true, Decides.nat_tests}, Option.{slice_get_within, slice_get-get_or, same_Some}}
use Rattle.jvm_types.specs.{Members.{is_private, is_static, is_final, MethodSite, field_rule}, ProgramInvariant.{IsProgram, IsTargetOf, site_in}, declared.code.{Insn.Insn, Op.Op}}
use Rattle.jvm_types.specs.declared.program.{FieldInfo.FieldInfo, MethodInfo.MethodInfo, Program.Program, Target.Target}
use Rattle.checked_program.specs.{FrozenPlaces.{IsFrozenClass, IsFrozenUse, IsGuardedUse, IsUse}, LockTags.TagShape}
use Rattle.checked_program.specs.Marks.{Callee, BreaksAt, call_fault, enter_fault, section_fault, is_locking, is_class_locking, is_own_object, is_own_class, class_of_field, class_of_method, use_fault, receiver_tag}
use Rattle.checked_program.specs.{OwnedArrays.{reads_owned, AreUses}, TaggedCode.{Tagged, IsAt, tagged_by}, declared.section.{FieldUse.{FieldUse, TheVariants.{Frozen, Guarded, Open}}, Mode.Mode}}
use Rattle.checked_program.{specs.declared.{section.Uses.Uses, tag.{Tag.{Tag, TheVariants.Untagged}, Tags.Tags}}, proofs.NamedFields.target_named}
use Rattle.guard_analysis.{specs.FieldUses.{unguarded_at, unguarded_write}, proofs.{CallEdges.{frames_there, with_tags}, FieldUseLaws.{PutsWell, guarded_if, guarded_not, write_parts}}}
use Rattle.mark_reasons.specs.ArrayCauses.{KeepsElement}
use Rattle.mark_reasons.specs.Causes.{is_number, place_read, site_place, writes_at, Bars, IsCause, IsFirstWrite, IsFirstWriteOf, IsMutable, IsWriteFound, KeepsPlace, KeepsField, KeepsStatic, WritesUnguarded}
use Rattle.mark_reasons.specs.{Firsts.IsFirst, declared.cause.{Cause.Cause, ReadPlace.ReadPlace}}
use Rattle.jvm_types.specs.declared.code.Op.TheVariants as ops
use Rattle.jvm_types.specs.declared.program.Target.TheVariants as targets
use Rattle.mark_reasons.specs.declared.cause.Cause.TheVariants as causes
use Rattle.mark_reasons.specs.declared.cause.ReadPlace.TheVariants as places

-- ---- writes

number_is : (o : Option ℕ) (n : ℕ) → is_number o n ≡ true → o ≡ Some n
number_is None n e = absurd (let bad : false ≡ true = e in cc)
number_is (Some k) n e = let same : k ≡ n = grind (arith, nat_tests) in ap Some same

is_the_number : (o : Option ℕ) (n : ℕ) → o ≡ Some n → is_number o n ≡ true
is_the_number o n e = rw e (let same : (n == n) ≡ true = grind (arith, nat_tests) in same)

module _ (p : Program) (tags : List Tags) (is : IsProgram p) (fi mi : ℕ) (field : FieldInfo) (there : slice_get p.fields fi ≡ Some field) where
  module _ (m : MethodInfo) (t : Tags) (at_m : slice_get p.methods mi ≡ Some m) (at_t : slice_get tags mi ≡ Some t) where
    abbrev write_at : ℕ → Option ℕ
    write_at i = unguarded_at p m (slice_get m.code i) (slice_get m.targets i) (slice_get t.frames i)

    found_write : (i : ℕ) → is_number (write_at i) fi ≡ true → WritesUnguarded p (tagged_by tags) fi mi i
    found_write i e =
        let parts = write_parts p m (slice_get m.code i) (slice_get m.targets i) (slice_get t.frames i) fi (number_is (write_at i) fi e) in
        record {
          field = field;
          is = there;
          m = m;
          insn = parts.insn;
          target = parts.target;
          f = parts.f;
          at = record { in_program = at_m; in_code = parts.is_insn; names = parts.is_target; frames = t.frames; of_method = frames_there p tags is mi t at_t; frame = parts.is_frame };
          unguarded = guarded_not p fi field there m parts.insn.op parts.target parts.f parts.writes;
        }

    written_here : (i : ℕ) (w : WritesUnguarded p (tagged_by tags) fi mi i) → unguarded_write p w.m w.insn.op w.target w.f ≡ Some fi → write_at i ≡ Some fi
    written_here i w e =
        let has = with_tags p tags is mi w.at.frames w.at.of_method in
        let same_m : w.m ≡ m = same_Some w.m m (sym w.at.in_program ∙ at_m) in
        let same_t : has.0 ≡ t = same_Some has.0 t (sym has.1 ∙ at_t) in
        let code : slice_get m.code i ≡ Some w.insn = subst (λ (x : MethodInfo). slice_get x.code i ≡ Some w.insn) same_m w.at.in_code in
        let target : slice_get m.targets i ≡ Some w.target = subst (λ (x : MethodInfo). slice_get x.targets i ≡ Some w.target) same_m w.at.names in
        let frame : slice_get t.frames i ≡ Some (Some w.f) = subst (λ (x : Tags). slice_get x.frames i ≡ Some (Some w.f)) same_t (subst (λ l. slice_get l i ≡ Some (Some w.f)) (sym has.2) w.at.frame) in
        rw (code, target, frame) (subst (λ (x : MethodInfo). unguarded_write p x w.insn.op w.target w.f ≡ Some fi) same_m e)

    no_write : (i : ℕ) → is_number (write_at i) fi ≡ false → WritesUnguarded p (tagged_by tags) fi mi i → ⊥
    no_write i e w = w.unguarded (guarded_if p fi w.field w.is w.m w.insn.op w.target w.f (λ k.
        let bad : false ≡ true = sym e ∙ is_the_number (write_at i) fi (written_here i w k) in
        cc))

    inside_code : (i : ℕ) → WritesUnguarded p (tagged_by tags) fi mi i → i < length m.code
    inside_code i w = subst (λ (x : MethodInfo). i < length x.code) (same_Some w.m m (sym w.at.in_program ∙ at_m)) (slice_get_within w.m.code i w.insn w.at.in_code)

  none_there : slice_get p.methods mi ≡ None → (i : ℕ) → WritesUnguarded p (tagged_by tags) fi mi i → ⊥
  none_there e i w = let bad : None ≡ Some w.m = sym e ∙ w.at.in_program in cc

  none_tagged : slice_get tags mi ≡ None → (i : ℕ) → WritesUnguarded p (tagged_by tags) fi mi i → ⊥
  none_tagged e i w =
      let has = with_tags p tags is mi w.at.frames w.at.of_method in
      let bad : None ≡ Some has.0 = sym e ∙ has.1 in
      cc

  some_by : (at : ℕ) (om : Option MethodInfo) (ot : Option Tags) → slice_get p.methods mi ≡ om → slice_get tags mi ≡ ot → IsFirstWriteOf p fi om ot (Some at) → WritesUnguarded p (tagged_by tags) fi mi at
  some_by at (Some m) (Some t) e f h = found_write m t e f at h.1
  some_by at (Some m) None e f h = absurd (cc)
  some_by at None ot e f h = absurd (cc)

  none_by : (om : Option MethodInfo) (ot : Option Tags) → slice_get p.methods mi ≡ om → slice_get tags mi ≡ ot → IsFirstWriteOf p fi om ot None → (i : ℕ) → WritesUnguarded p (tagged_by tags) fi mi i → ⊥
  none_by (Some m) (Some t) e f h i w = no_write m t e f i (h i (inside_code m t e f i w)) w
  none_by (Some m) None e f h i w = none_tagged f i w
  none_by None ot e f h i w = none_there e i w

  none_before : (at : ℕ) (om : Option MethodInfo) (ot : Option Tags) → slice_get p.methods mi ≡ om → slice_get tags mi ≡ ot → IsFirstWriteOf p fi om ot (Some at) → (j : ℕ) → j < at → WritesUnguarded p (tagged_by tags) fi mi j → ⊥
  none_before at (Some m) (Some t) e f h j l = no_write m t e f j (h.2 j l)
  none_before at (Some m) None e f h j l = absurd (cc)
  none_before at None ot e f h j l = absurd (cc)

  pub first_found : (at : ℕ) → ((u : ℕ) → u < mi → (i : ℕ) → WritesUnguarded p (tagged_by tags) fi u i → ⊥) → IsFirstWriteOf p fi (slice_get p.methods mi) (slice_get tags mi) (Some at) → IsFirstWrite p (tagged_by tags) fi mi at
  first_found at earlier h = record {
    writes = some_by at (slice_get p.methods mi) (slice_get tags mi) refl refl h;
    before = λ j l. none_before at (slice_get p.methods mi) (slice_get tags mi) refl refl h j l;
    earlier = λ u i l. earlier u l i;
  }

  pub no_write_in : (found : Option ℕ) → found ≡ None → IsFirstWriteOf p fi (slice_get p.methods mi) (slice_get tags mi) found → (i : ℕ) → WritesUnguarded p (tagged_by tags) fi mi i → ⊥
  no_write_in found e h = none_by (slice_get p.methods mi) (slice_get tags mi) refl refl (subst (IsFirstWriteOf p fi (slice_get p.methods mi) (slice_get tags mi)) e h)

-- none in all methods
pub none_written : (p : Program) (tags : Tagged) (fi n : ℕ) → length p.methods ≤ n → ((mi : ℕ) → mi < n → (i : ℕ) → WritesUnguarded p tags fi mi i → ⊥) → (mi i : ℕ) → WritesUnguarded p tags fi mi i → ⊥
none_written p tags fi n e h mi i w = h mi (let low : mi < length p.methods = slice_get_within p.methods mi w.m w.at.in_program in omega (arith, low, e)) i w

-- ---- a field that is neither frozen nor guarded

module _ (p : Program) (tags : Tagged) (fi : ℕ) (field : FieldInfo) (there : slice_get p.fields fi ≡ Some field) where
  -- an instance field of a frozen class, or a static one
  pub is_mutable : (IsFrozenUse p tags fi → ⊥) → is_static field.flags ≡ false → IsFrozenClass p tags field.class → IsMutable p tags field
  is_mutable changes instance frozen = inl (record {
    instance = instance;
    frozen = frozen;
    changes = false_from_ne_true (is_final field.flags) (λ final. changes (inl (record { field = field; is = there; final = final; instance = instance; frozen = frozen })));
  })

  pub is_mutable_static : (IsFrozenUse p tags fi → ⊥) → is_static field.flags ≡ true → IsMutable p tags field
  is_mutable_static changes static = inr (record {
    static = static;
    changes = false_from_ne_true (is_final field.flags) (λ final. changes (inr (record { field = field; is = there; final = final; static = static })));
  })

  well_put : ((mi i : ℕ) → WritesUnguarded p tags fi mi i → ⊥) → (mi i : ℕ) (m : MethodInfo) (insn : Insn) (target : Target) (f : TagShape) → IsAt p tags mi i m insn target f → PutsWell fi field m insn.op target f
  well_put none mi i m insn target f at = guarded_if p fi field there m insn.op target f (λ e.
      none mi i (record { field = field; is = there; m = m; insn = insn; target = target; f = f; at = at; unguarded = guarded_not p fi field there m insn.op target f e }))

  pub some_write : (IsGuardedUse p tags fi → ⊥) → IsMutable p tags field → is_private field.flags ≡ true → ((mi i : ℕ) → WritesUnguarded p tags fi mi i → ⊥) → ⊥
  some_write loose (inl k) private none = loose (inl (record {
    field = field;
    is = there;
    private = private;
    changes = k.changes;
    instance = k.instance;
    frozen = k.frozen;
    written = λ mi i m insn target f at. (well_put none mi i m insn target f at).0;
  }))
  some_write loose (inr k) private none = loose (inr (record {
    field = field;
    is = there;
    private = private;
    changes = k.changes;
    static = k.static;
    written = λ mi i m insn target f at. (well_put none mi i m insn target f at).1;
  }))

  -- the write that is found bars the field
  pub write_bars : (cause : Cause) → IsMutable p tags field → is_private field.flags ≡ true → IsWriteFound p tags fi (Some cause) → Bars p tags fi cause
  write_bars (causes.Write mi at) mutable private h = (field, there, (mutable, private, h))
  write_bars causes.Element mutable private h = absurd h
  write_bars (causes.Misused misuse mi at) mutable private h = absurd h
  write_bars causes.Static mutable private h = absurd h
  write_bars causes.Shared mutable private h = absurd h
  write_bars causes.Other mutable private h = absurd h
  write_bars (causes.Constructor u) mutable private h = absurd h

-- ---- a field by its use

pub bars_keep_static : (p : Program) (tags : Tagged) (fi : ℕ) (own : Bool) (cause : Cause) → own ≡ true → Bars p tags fi cause → KeepsStatic p tags fi own cause
bars_keep_static p tags fi own causes.Static e b = absurd b.2
bars_keep_static p tags fi own cause e b = (e, b)

pub bars_keep : (p : Program) (tags : Tagged) (fi : ℕ) (own : Bool) (cause : Cause) → Bars p tags fi cause → KeepsField p tags fi own cause
bars_keep p tags fi own causes.Other b = absurd b.2
bars_keep p tags fi own cause b = b

module _ (p : Program) (tags : Tagged) (uses : Uses) (are : AreUses p tags uses) (fi : ℕ) (there : fi < length p.fields) where
  use_known : (u : FieldUse) → slice_index_or uses.fields fi Open ≡ u → IsUse p tags fi u
  use_known u e = are.fields.each fi u (slice_get-get_or uses.fields fi Open (subst (λ (n : ℕ). fi < n) (sym are.fields.long) there) ∙ ap (λ (x : FieldUse). Some x) e)

  pub open_is : slice_index_or uses.fields fi Open ≡ Open → (IsFrozenUse p tags fi → ⊥) × (IsGuardedUse p tags fi → ⊥)
  open_is e = use_known Open e

  pub guarded_keeps : slice_index_or uses.fields fi Open ≡ Guarded → (own : Bool) → use_fault (slice_index_or uses.fields fi Open) own ≡ 5 → KeepsField p tags fi own causes.Other
  guarded_keeps e own five = (
    by_own own (subst (λ (u : FieldUse). use_fault u own ≡ 5) e five),
    use_known Guarded e,
  )
    where
      by_own : (own : Bool) → use_fault Guarded own ≡ 5 → own ≡ false
      by_own true k = absurd (omega (arith, k))
      by_own false k = refl

  -- of the section's own class, only an open field breaks M5
  pub own_is_open : (own : Bool) → own ≡ true → use_fault (slice_index_or uses.fields fi Open) own ≡ 5 → slice_index_or uses.fields fi Open ≡ Open
  own_is_open own e five = by_use (slice_index_or uses.fields fi Open) refl (subst (λ (b : Bool). use_fault (slice_index_or uses.fields fi Open) b ≡ 5) e five)
    where
      by_use : (u : FieldUse) → slice_index_or uses.fields fi Open ≡ u → use_fault (slice_index_or uses.fields fi Open) true ≡ 5 → slice_index_or uses.fields fi Open ≡ Open
      by_use Open q k = q
      by_use Frozen q k = absurd (let bad : 0 ≡ 5 = subst (λ (u : FieldUse). use_fault u true ≡ 5) q k in omega (arith, bad))
      by_use Guarded q k = absurd (let bad : 0 ≡ 5 = subst (λ (u : FieldUse). use_fault u true ≡ 5) q k in omega (arith, bad))

  pub frozen_not : slice_index_or uses.fields fi Open ≡ Frozen → (own : Bool) → use_fault (slice_index_or uses.fields fi Open) own ≡ 5 → ⊥
  frozen_not e own five = let bad : 0 ≡ 5 = subst (λ (u : FieldUse). use_fault u own ≡ 5) e five in omega (arith, bad)

-- ---- an instruction that breaks M5

enter_low : (b : Bool) → enter_fault b ≡ 5 → ⊥
enter_low true e = omega (arith, e)
enter_low false e = omega (arith, e)

call_low : (a b : Bool) → call_fault a b ≡ 5 → ⊥
call_low true b e = enter_low b e
call_low false b e = omega (arith, e)

-- it reads a place
reads : (p : Program) (uses : List FieldUse) (mode : Mode) (op : Op) (target : Target) (stack : List Tag) (owned : Bool) → section_fault p uses mode op target stack owned ≡ 5 → place_read op target ≡ None → ⊥
reads p uses mode ops.Iaload target stack owned five none = cc
reads p uses mode (ops.Getstatic i) (targets.Field fi) stack owned five none = cc
reads p uses mode (ops.Getfield i) (targets.Field fi) stack owned five none = cc
reads p uses mode ops.Monitorenter target stack owned five none = enter_low (is_own_object mode (slice_index_or stack 0 Untagged)) five
reads p uses mode (ops.Invokevirtual i) (targets.Method u) stack owned five none = call_low (is_locking (slice_get p.methods u)) (is_own_object mode (receiver_tag p (ops.Invokevirtual i) (targets.Method u) stack)) five
reads p uses mode (ops.Invokespecial i) (targets.Method u) stack owned five none = call_low (is_locking (slice_get p.methods u)) (is_own_object mode (receiver_tag p (ops.Invokespecial i) (targets.Method u) stack)) five
reads p uses mode (ops.Invokestatic i) (targets.Method u) stack owned five none = call_low (is_class_locking (slice_get p.methods u)) (is_own_class mode (class_of_method (slice_get p.methods u))) five
reads p uses mode op target stack owned five none = omega (arith, five)

-- the field of a place, static or not
field_number : Option ReadPlace → ℕ
field_number (Some (places.Field n)) = n
field_number (Some (places.Static n)) = n
field_number o = 0

same_field : (x fi : ℕ) → Some (places.Field x) ≡ Some (places.Field fi) → x ≡ fi
unfolding field_number
same_field x fi e = ap field_number e

same_static : (x fi : ℕ) → Some (places.Static x) ≡ Some (places.Static fi) → x ≡ fi
unfolding field_number
same_static x fi e = ap field_number e

reads_field : (p : Program) (uses : List FieldUse) (mode : Mode) (op : Op) (target : Target) (stack : List Tag) (owned : Bool) (fi : ℕ) → place_read op target ≡ Some (places.Field fi) → section_fault p uses mode op target stack owned ≡ 5 → use_fault (slice_index_or uses fi Open) (is_own_object mode (slice_index_or stack 0 Untagged)) ≡ 5
reads_field p uses mode (ops.Getfield i) (targets.Field x) stack owned fi e five = subst (λ (n : ℕ). use_fault (slice_index_or uses n Open) (is_own_object mode (slice_index_or stack 0 Untagged)) ≡ 5) (same_field x fi e) five
reads_field p uses mode (ops.Getstatic i) (targets.Field x) stack owned fi e five = absurd (cc)
reads_field p uses mode op target stack owned fi e five = absurd (cc)

reads_static : (p : Program) (uses : List FieldUse) (mode : Mode) (op : Op) (target : Target) (stack : List Tag) (owned : Bool) (fi : ℕ) → place_read op target ≡ Some (places.Static fi) → section_fault p uses mode op target stack owned ≡ 5
    → use_fault (slice_index_or uses fi Open) (is_own_class mode (class_of_field (slice_get p.fields fi))) ≡ 5
reads_static p uses mode (ops.Getstatic i) (targets.Field x) stack owned fi e five = subst (λ (n : ℕ). use_fault (slice_index_or uses n Open) (is_own_class mode (class_of_field (slice_get p.fields n))) ≡ 5) (same_static x fi e) five
reads_static p uses mode (ops.Getfield i) (targets.Field x) stack owned fi e five = absurd (cc)
reads_static p uses mode op target stack owned fi e five = absurd (cc)

field_within : (p : Program) (site : MethodSite) (static : Bool) (fi : ℕ) (o : Option FieldInfo) → slice_get p.fields fi ≡ o → IsSomeAnd o (λ f. field_rule static false site f.class f.flags ≡ None) → fi < length p.fields
field_within p site static fi (Some f) e h = slice_get_within p.fields fi f e
field_within p site static fi None e h = absurd h

field_inside : (p : Program) (op : Op) (target : Target) (m : MethodInfo) (fi : ℕ) → place_read op target ≡ Some (places.Field fi) → IsTargetOf p (site_in m) op target → fi < length p.fields
field_inside p (ops.Getfield i) (targets.Field x) m fi e h = subst (λ (n : ℕ). n < length p.fields) (same_field x fi e) (field_within p (site_in m) false x (slice_get p.fields x) refl h)
field_inside p (ops.Getstatic i) (targets.Field x) m fi e h = absurd (cc)
field_inside p op target m fi e h = absurd (cc)

static_inside : (p : Program) (op : Op) (target : Target) (m : MethodInfo) (fi : ℕ) → place_read op target ≡ Some (places.Static fi) → IsTargetOf p (site_in m) op target → fi < length p.fields
static_inside p (ops.Getstatic i) (targets.Field x) m fi e h = subst (λ (n : ℕ). n < length p.fields) (same_static x fi e) (field_within p (site_in m) true x (slice_get p.fields x) refl h)
static_inside p (ops.Getfield i) (targets.Field x) m fi e h = absurd (cc)
static_inside p op target m fi e h = absurd (cc)

module _ (p : Program) (tags : Tagged) (uses : Uses) (a : Callee) (i : ℕ) (b : BreaksAt p tags uses a i 5) where
  place_is : site_place (slice_get p.methods a.method) i ≡ place_read b.insn.op b.target
  place_is = rw (b.at.in_program, b.at.in_code, b.at.names) refl

  cause_by : (place : Option ReadPlace) (cause : Cause) → site_place (slice_get p.methods a.method) i ≡ place → KeepsPlace p tags a.mode b.m i b.f.stack place cause → IsCause p tags a i cause
  cause_by place cause e k = record { m = b.m; insn = b.insn; target = b.target; f = b.f; at = b.at; keeps = subst (λ (o : Option ReadPlace). KeepsPlace p tags a.mode b.m i b.f.stack o cause) (sym e ∙ place_is) k }

  pub some_place : site_place (slice_get p.methods a.method) i ≡ None → ⊥
  some_place e = reads p uses.fields a.mode b.insn.op b.target b.f.stack (reads_owned uses a.method i) b.fault_is (sym place_is ∙ e)

  pub element_cause : site_place (slice_get p.methods a.method) i ≡ Some places.Element → (cause : Cause) → ((m : MethodInfo) → slice_get p.methods a.method ≡ Some m → KeepsElement p tags a.mode m i cause) → IsCause p tags a i cause
  element_cause e cause h = cause_by (Some places.Element) cause e (h b.m b.at.in_program)

  module _ (fi : ℕ) (e : site_place (slice_get p.methods a.method) i ≡ Some (places.Static fi)) where
    pub static_there : IsProgram p → fi < length p.fields
    static_there is = static_inside p b.insn.op b.target b.m fi (sym place_is ∙ e) (target_named p tags a.method i b.m b.insn b.target b.f is b.at)

    pub static_breaks : use_fault (slice_index_or uses.fields fi Open) (is_own_class a.mode (class_of_field (slice_get p.fields fi))) ≡ 5
    static_breaks = reads_static p uses.fields a.mode b.insn.op b.target b.f.stack (reads_owned uses a.method i) fi (sym place_is ∙ e) b.fault_is

    pub static_cause : (cause : Cause) → KeepsStatic p tags fi (is_own_class a.mode (class_of_field (slice_get p.fields fi))) cause → IsCause p tags a i cause
    static_cause cause h = cause_by (Some (places.Static fi)) cause e h

  module _ (fi : ℕ) (e : site_place (slice_get p.methods a.method) i ≡ Some (places.Field fi)) where
    pub field_there : IsProgram p → fi < length p.fields
    field_there is = field_inside p b.insn.op b.target b.m fi (sym place_is ∙ e) (target_named p tags a.method i b.m b.insn b.target b.f is b.at)

    pub field_cause : (cause : Cause) → ((own : Bool) → use_fault (slice_index_or uses.fields fi Open) own ≡ 5 → KeepsField p tags fi own cause) → IsCause p tags a i cause
    field_cause cause h = cause_by (Some (places.Field fi)) cause e (h (is_own_object a.mode (slice_index_or b.f.stack 0 Untagged)) (reads_field p uses.fields a.mode b.insn.op b.target b.f.stack (reads_owned uses a.method i) fi (sym place_is ∙ e) b.fault_is))
