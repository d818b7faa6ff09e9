-- How each field may be read, from what its class, its flags and all writes say.
use Rattle.std.proofs.Common.{◌≡◌, ◌≢◌, ℕ, zero, suc, ◌+◌, ◌-◌, ◌<◌, ◌≤◌, Bool, true, false, not, ◌&&◌, ◌||◌, List, [], ◌∷◌, length, Option, Some, None, refl, sym, ap, subst, ◌∙◌, arith, ⊎_elim, inl, inr, ◌⊎◌, nat_lt, if◌then◌else◌, slice_get, slice_index_or}
use Rattle.std.proofs.lemmas.{Bool.{cases_eq, Decides.nat_tests}, List.{length-append, get_or_append_left, get_or_push}, Option.{slice_get_within, get_or_from_slice_get, same_Some, slice_get-get_or}}
use Rattle.jvm_types.specs.{ClassNames.file_class, Members.{is_private, is_static, is_final}, ProgramInvariant.{IsProgram, IsFileClass}, declared.program.{FieldInfo.FieldInfo, Program.Program}}
use Rattle.checked_program.specs.FrozenPlaces.{IsFrozenClass, IsFrozenField, IsFrozenStatic, IsFrozenUse, IsGuardedField, IsGuardedStatic, IsGuardedUse, PutsStatic, IsUse, AreFieldUses}
use Rattle.checked_program.specs.{TaggedCode.tagged_by, declared.{section.FieldUse.{FieldUse, TheVariants.{Frozen, Guarded, Open}}, tag.Tags.Tags}}
use Rattle.frozen_classes.specs.FrozenClasses.{AreFrozenClasses, TellsFrozen}
use Rattle.guard_analysis.{specs.FieldUses.{unguarded_before, use_by, class_flag, use_at, uses_before}, proofs.{FieldUseLaws.{all_guarded, some_on_another, some_elsewhere}, ListsMade.{made_long, made_at}}}

-- ---- one by one

in_list : (fields : List FieldInfo) (fi : ℕ) → fi < length fields → slice_get fields fi ≡ None → ⊥
in_list [] fi l e = absurd (omega (arith, l))
in_list (f ∷ fs) zero l e = cc
in_list (f ∷ fs) (suc fi) l e = in_list fs fi (omega (arith, l)) e

module _ (fields : List FieldInfo) (frozen unguarded : List Bool) where
  abbrev the_use : ℕ → FieldUse
  the_use fi = use_at (slice_get fields fi) frozen (slice_index_or unguarded fi false)

  uses_long : (n : ℕ) → length (uses_before fields frozen unguarded n) ≡ n
  uses_long n = made_long the_use (uses_before fields frozen unguarded) refl (λ k. refl) n

  uses_at : (n fi : ℕ) → fi < n → slice_index_or (uses_before fields frozen unguarded n) fi Open ≡ the_use fi
  uses_at n fi l = made_at the_use (uses_before fields frozen unguarded) refl (λ k. refl) Open n fi l

-- ---- all

module _ (p : Program) (tags : List Tags) (is : IsProgram p) (frozen : List Bool) (are : AreFrozenClasses p (tagged_by tags) frozen) where
  abbrev unguarded : List Bool
  unguarded = unguarded_before p tags (length p.methods)

  class_by : (class : ℕ) → IsFileClass p class → TellsFrozen p (tagged_by tags) class (class_flag frozen class)
  class_by class c =
      let k : ℕ = class - 17 in
      let from : 17 ≤ class = c.0 in
      let to : class < 17 + length p.names = c.1 in
      let high : nat_lt class 17 ≡ false = grind (arith, nat_tests) in
      let low : k < length frozen = omega (arith, to, from, are.long) in
      let back : file_class k ≡ class = omega (arith, from) in
      rw high (subst (λ c. TellsFrozen p (tagged_by tags) c (slice_index_or frozen k false)) back (are.each k (slice_index_or frozen k false) (slice_get-get_or frozen k false low)))

  module _ (fi : ℕ) (field : FieldInfo) (e : slice_get p.fields fi ≡ Some field) where
    told : TellsFrozen p (tagged_by tags) field.class (class_flag frozen field.class)
    told = class_by field.class (is.fields fi field e).class

    pub is_frozen : class_flag frozen field.class ≡ true → IsFrozenClass p (tagged_by tags) field.class
    is_frozen h = subst (λ b. TellsFrozen p (tagged_by tags) field.class b) h told

    pub not_frozen : class_flag frozen field.class ≡ false → IsFrozenClass p (tagged_by tags) field.class → ⊥
    not_frozen h = subst (λ b. TellsFrozen p (tagged_by tags) field.class b) h told

    not_both : (b : Bool) → b ≡ true → b ≡ false → ⊥
    not_both b h k = cc

    same_field : (other : FieldInfo) → slice_get p.fields fi ≡ Some other → other ≡ field
    same_field other k = same_Some other field (sym k ∙ e)

    -- a frozen field is final; of an instance field its class is frozen
    no_frozen : is_final field.flags ≡ false → IsFrozenUse p (tagged_by tags) fi → ⊥
    no_frozen ef (inl r) = not_both (is_final field.flags) (subst (λ (x : FieldInfo). is_final x.flags ≡ true) (same_field r.field r.is) r.final) ef
    no_frozen ef (inr r) = not_both (is_final field.flags) (subst (λ (x : FieldInfo). is_final x.flags ≡ true) (same_field r.field r.is) r.final) ef

    no_frozen_class : is_static field.flags ≡ false → class_flag frozen field.class ≡ false → IsFrozenUse p (tagged_by tags) fi → ⊥
    no_frozen_class es ea (inl r) = not_frozen ea (subst (λ (x : FieldInfo). IsFrozenClass p (tagged_by tags) x.class) (same_field r.field r.is) r.frozen)
    no_frozen_class es ea (inr r) = not_both (is_static field.flags) (subst (λ (x : FieldInfo). is_static x.flags ≡ true) (same_field r.field r.is) r.static) es

    no_guarded_class : is_static field.flags ≡ false → class_flag frozen field.class ≡ false → IsGuardedUse p (tagged_by tags) fi → ⊥
    no_guarded_class es ea (inl r) = not_frozen ea (subst (λ (x : FieldInfo). IsFrozenClass p (tagged_by tags) x.class) (same_field r.field r.is) r.frozen)
    no_guarded_class es ea (inr r) = not_both (is_static field.flags) (subst (λ (x : FieldInfo). is_static x.flags ≡ true) (same_field r.field r.is) r.static) es

    -- a guarded field is private, and written under its guard alone
    no_guarded_shared : is_private field.flags ≡ false → IsGuardedUse p (tagged_by tags) fi → ⊥
    no_guarded_shared ep (inl r) = not_both (is_private field.flags) (subst (λ (x : FieldInfo). is_private x.flags ≡ true) (same_field r.field r.is) r.private) ep
    no_guarded_shared ep (inr r) = not_both (is_private field.flags) (subst (λ (x : FieldInfo). is_private x.flags ≡ true) (same_field r.field r.is) r.private) ep

    no_guarded_written : slice_index_or unguarded fi false ≡ true → IsGuardedUse p (tagged_by tags) fi → ⊥
    no_guarded_written eb (inl r) = some_on_another p tags is fi field e (subst (λ (x : FieldInfo). is_static x.flags ≡ false) (same_field r.field r.is) r.instance) eb r.written
    no_guarded_written eb (inr r) =
        let same = same_field r.field r.is in
        some_elsewhere p tags is fi field e (subst (λ (x : FieldInfo). is_static x.flags ≡ true) same r.static) eb
        (λ mi i m insn target f at. subst (λ (x : FieldInfo). PutsStatic fi x.class m insn.op target) same (r.written mi i m insn target f at))

    by_flags : (s a final private bad : Bool) → is_static field.flags ≡ s → class_flag frozen field.class ≡ a → is_final field.flags ≡ final → is_private field.flags ≡ private → slice_index_or unguarded fi false ≡ bad
        → IsUse p (tagged_by tags) fi (if not s && not a then Open else if final then Frozen else if private && not bad then Guarded else Open)
    by_flags false false final private bad es ea ef ep eb = (no_frozen_class es ea, no_guarded_class es ea)
    by_flags false true true private bad es ea ef ep eb = inl (record { field = field; is = e; final = ef; instance = es; frozen = is_frozen ea })
    by_flags false true false true false es ea ef ep eb =
        inl (record { field = field; is = e; private = ep; changes = ef; instance = es; frozen = is_frozen ea; written = λ mi i m insn target f at. (all_guarded p tags is fi field e eb mi i m insn target f at).0 })
    by_flags true a true private bad es ea ef ep eb = inr (record { field = field; is = e; final = ef; static = es })
    by_flags true a false true false es ea ef ep eb =
        inr (record { field = field; is = e; private = ep; changes = ef; static = es; written = λ mi i m insn target f at. (all_guarded p tags is fi field e eb mi i m insn target f at).1 })
    by_flags false true false true true es ea ef ep eb = (no_frozen ef, no_guarded_written eb)
    by_flags true a false true true es ea ef ep eb = (no_frozen ef, no_guarded_written eb)
    by_flags false true false false bad es ea ef ep eb = (no_frozen ef, no_guarded_shared ep)
    by_flags true a false false bad es ea ef ep eb = (no_frozen ef, no_guarded_shared ep)

    is_use : IsUse p (tagged_by tags) fi (use_by field (class_flag frozen field.class) (slice_index_or unguarded fi false))
    is_use = by_flags (is_static field.flags) (class_flag frozen field.class) (is_final field.flags) (is_private field.flags) (slice_index_or unguarded fi false) refl refl refl refl refl

  use_found : (fi : ℕ) → fi < length p.fields → (o : Option FieldInfo) → slice_get p.fields fi ≡ o → IsUse p (tagged_by tags) fi (use_at o frozen (slice_index_or unguarded fi false))
  use_found fi l None e = absurd (in_list p.fields fi l e)
  use_found fi l (Some field) e = is_use fi field e

  pub uses_found : AreFieldUses p (tagged_by tags) (uses_before p.fields frozen unguarded (length p.fields))
  uses_found = record {
    long = uses_long p.fields frozen unguarded (length p.fields);
    each = λ fi u e.
        let low : fi < length p.fields = subst (λ n. fi < n) (uses_long p.fields frozen unguarded (length p.fields)) (slice_get_within (uses_before p.fields frozen unguarded (length p.fields)) fi u e) in
        let same = sym (uses_at p.fields frozen unguarded (length p.fields) fi low) ∙ get_or_from_slice_get (uses_before p.fields frozen unguarded (length p.fields)) fi u Open e in
        subst (λ x. IsUse p (tagged_by tags) fi x) same (use_found fi low (slice_get p.fields fi) refl);
  }

  -- the same of what was found
  pub uses_shown : (uses : List FieldUse) (flags writes found : List Bool) → uses ≡ uses_before p.fields flags writes (length p.fields) → flags ≡ frozen → writes ≡ found → found ≡ unguarded → AreFieldUses p (tagged_by tags) uses
  uses_shown uses flags writes found e ef ew eg = subst (λ l. AreFieldUses p (tagged_by tags) l)
      (sym (e ∙ ap (λ l. uses_before p.fields l writes (length p.fields)) ef ∙ ap (λ l. uses_before p.fields frozen l (length p.fields)) (ew ∙ eg))) uses_found
