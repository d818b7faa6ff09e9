-- What a marked section reads: an instruction that breaks no rule reads frozen places and those of the section's object or class.
use Rattle.std.proofs.Common.{◌≡◌, ℕ, zero, suc, ◌≢◌, Bool, true, false, List, [], ◌∷◌, Option, Some, refl, sym, ap, ◌∙◌, subst, arith, ⊎_elim, inl, inr, ◌⊎◌, slice_get, slice_index, slice_index_or}
use Rattle.std.proofs.lemmas.Bool.{cases_eq, eqb-true}
use Rattle.jvm_types.specs.{ProgramInvariant.{IsTargetOf, site_in}, declared.{code.{Insn.Insn, Op.Op}, program.{FieldInfo.FieldInfo, MethodInfo.MethodInfo, Program.Program, Target.Target}}}
use Rattle.checked_program.specs.{FrozenPlaces.{IsUse, AreFieldUses, IsFrozenField, IsFrozenStatic, IsFrozenUse, IsGuardedField, IsGuardedUse}, LockTags.TagShape, TaggedCode.{Tagged, IsAt}}
use Rattle.checked_program.specs.Marks.{Callee, callee, Calls, CallsThrough, IsCalledBy, HasMark, section_fault, call_fault, enter_fault, use_fault, element_fault, args_of, is_locking, is_class_locking, is_own_object, is_own_class, class_of_field, class_of_method, BreaksAt, itself, called}
use Rattle.checked_program.specs.{OwnedArrays.{IsOwnedAt, reads_owned, AreUses}, SectionLaws.{Part, IsSectionPart, AreParts, HasThis, IsOwnStatic, ReadsOnly, ReadLaw}, declared.section.Mode.Mode}
use Rattle.checked_program.specs.{Sections.{Section, section_mode, IsOwn}, declared.section.{FieldUse.{FieldUse, TheVariants.{Frozen, Guarded, Open}}, Mode.TheVariants.{OnThis, OnClass}, Uses.Uses}}
use Rattle.checked_program.{specs.declared.tag.Tag.{Tag, TheVariants.{Untagged, This}}, proofs.{FrozenChecks.that_is_this, NamedFields.{HasSort, sort_read, sort_read_static, target_named}}}
use Rattle.jvm_types.specs.declared.code.Op.TheVariants as ops
use Rattle.jvm_types.specs.declared.program.Target.TheVariants as targets

-- ---- the object of the section

pub own_object : (mode : Mode) (t : Tag) → is_own_object mode t ≡ true → (mode ≡ OnThis) × (t ≡ This)
own_object OnThis t e = (refl, that_is_this t e)
own_object mode t e = absurd (let bad : false ≡ true = e in cc)

-- ---- the class of the section

pub own_class : (mode : Mode) (class : ℕ) → is_own_class mode class ≡ true → mode ≡ OnClass class
own_class (OnClass c) class e = ap (λ (x : ℕ). OnClass x) (sym (eqb-true class c e))
own_class mode class e = absurd (let bad : false ≡ true = e in cc)

-- ---- uses

use_at : (p : Program) (tags : Tagged) (uses : List FieldUse) (fi : ℕ) → AreFieldUses p tags uses → (x : FieldUse) → slice_index_or uses fi Open ≡ x → x ≢ Open → IsUse p tags fi x
use_at p tags uses fi a x e n = a.each fi x (got uses fi e)
  where
    got : (us : List FieldUse) (i : ℕ) → slice_index_or us i Open ≡ x → slice_get us i ≡ Some x
    got [] i q = absurd (n (sym q))
    got (u ∷ us) zero q = rw q refl
    got (u ∷ us) (suc i) q = got us i q

-- ---- what an instruction that breaks no rule does

-- a frame that is run so in a section whose own frame has the receiver o, with its stack
record InSection : Type 0 where
  o : ℕ
  receiver : ℕ
  mode : Mode
  is : mode ≡ OnThis → receiver ≡ o
  tags : List Tag
  values : List ℕ
  names : HasThis receiver tags values

module _ (p : Program) (tags : Tagged) (uses : Uses) (a : AreUses p tags uses) (frame : InSection) where
  open frame use {o, receiver, mode, is, tags as ts, values as vs, names}

  own_place : (k : ℕ) → is_own_object mode (slice_index_or ts k Untagged) ≡ true → (mode ≡ OnThis) × (slice_index vs k ≡ o)
  own_place k e = let h = own_object mode (slice_index_or ts k Untagged) e in (h.0, names k h.1 ∙ is h.0)

  entered : (t : Bool) → is_own_object mode (slice_index_or ts 0 Untagged) ≡ t → enter_fault t ≡ 0 → (mode ≡ OnThis) × (slice_index vs 0 ≡ o)
  entered true e z = own_place 0 e
  entered false e z = absurd (omega (arith, z))

  is_called : (k : ℕ) (locking t : Bool) → is_own_object mode (slice_index_or ts k Untagged) ≡ t → call_fault locking t ≡ 0 → locking ≡ true → (mode ≡ OnThis) × (slice_index vs k ≡ o)
  is_called k true true e z g = own_place k e
  is_called k true false e z g = absurd (omega (arith, z))
  is_called k false t e z g = absurd (let bad : false ≡ true = g in cc)

  calls_class : (class : ℕ) (locking t : Bool) → is_own_class mode class ≡ t → call_fault locking t ≡ 0 → locking ≡ true → mode ≡ OnClass class
  calls_class class true true e z g = own_class mode class e
  calls_class class true false e z g = absurd (omega (arith, z))
  calls_class class false t e z g = absurd (let bad : false ≡ true = g in cc)

  -- a frozen place, or a guarded one of the section's own
  read : (fi : ℕ) (x : FieldUse) (own : Bool) → slice_index_or uses.fields fi Open ≡ x → use_fault x own ≡ 0 → IsFrozenUse p tags fi ⊎ (IsGuardedUse p tags fi × (own ≡ true))
  read fi Frozen own e z = inl (use_at p tags uses.fields fi a.fields Frozen e (λ q. cc))
  read fi Guarded true e z = inr (use_at p tags uses.fields fi a.fields Guarded e (λ q. cc), refl)
  read fi x _ e z = absurd (omega (arith, z))

  read_field : (fi : ℕ) → HasSort p fi false → IsFrozenUse p tags fi ⊎ (IsGuardedUse p tags fi × (is_own_object mode (slice_index_or ts 0 Untagged) ≡ true))
      → IsFrozenField p tags fi ⊎ (IsGuardedField p tags fi × (mode ≡ OnThis) × (slice_index vs 0 ≡ o))
  read_field fi sort (inl (inl f)) = inl f
  read_field fi sort (inl (inr s)) = absurd (let bad : true ≡ false = sym s.static ∙ sort s.field s.is in cc)
  read_field fi sort (inr (inl g, own)) = let place = own_place 0 own in inr (g, place.0, place.1)
  read_field fi sort (inr (inr s, own)) = absurd (let bad : true ≡ false = sym s.static ∙ sort s.field s.is in cc)

  read_static : (fi : ℕ) → HasSort p fi true → IsFrozenUse p tags fi ⊎ (IsGuardedUse p tags fi × (is_own_class mode (class_of_field (slice_get p.fields fi)) ≡ true)) → IsFrozenStatic p fi ⊎ IsOwnStatic p tags mode fi
  read_static fi sort (inl (inl f)) = absurd (let bad : true ≡ false = sym (sort f.field f.is) ∙ f.instance in cc)
  read_static fi sort (inl (inr s)) = inl s
  read_static fi sort (inr (inl g, own)) = absurd (let bad : true ≡ false = sym (sort g.field g.is) ∙ g.instance in cc)
  read_static fi sort (inr (inr s, own)) = inr (record { guarded = s; own = own_class mode s.field.class (subst (λ (x : Option FieldInfo). is_own_class mode (class_of_field x) ≡ true) s.is own) })

  -- an element of an array that `this` owns
  element : (mi i : ℕ) (x : Mode) (owned : Bool) → mode ≡ x → reads_owned uses mi i ≡ owned → element_fault x owned ≡ 0 → (mode ≡ OnThis) × IsOwnedAt p tags mi i 1
  element mi i OnThis true e k z = (e, ((a.elements mi i).0 k).owned)
  element mi i x _ e k z = absurd (omega (arith, z))

  reads_only : (mi i : ℕ) (m : MethodInfo) (op : Op) (target : Target) → IsTargetOf p (site_in m) op target → section_fault p uses.fields mode op target ts (reads_owned uses mi i) ≡ 0 → ReadsOnly p tags mode o mi i op target vs
  reads_only mi i m (ops.Putfield n) target named z = omega (arith, z)
  reads_only mi i m (ops.Putstatic n) target named z = omega (arith, z)
  reads_only mi i m ops.Iastore target named z = omega (arith, z)
  reads_only mi i m (ops.New n) target named z = omega (arith, z)
  reads_only mi i m ops.Newarray target named z = omega (arith, z)
  reads_only mi i m ops.Iaload target named z = element mi i mode (reads_owned uses mi i) refl refl z
  reads_only mi i m (ops.Invokevirtual n) targets.Println named z = omega (arith, z)
  reads_only mi i m (ops.Invokevirtual n) targets.Wait named z = omega (arith, z)
  reads_only mi i m (ops.Invokevirtual n) targets.Notify named z = omega (arith, z)
  reads_only mi i m (ops.Invokevirtual n) targets.NotifyAll named z = omega (arith, z)
  reads_only mi i m (ops.Getstatic n) (targets.Field fi) named z =
      read_static fi (sort_read_static p m n fi named) (read fi (slice_index_or uses.fields fi Open) (is_own_class mode (class_of_field (slice_get p.fields fi))) refl z)
  reads_only mi i m ops.Monitorenter target named z = entered (is_own_object mode (slice_index_or ts 0 Untagged)) refl z
  reads_only mi i m (ops.Invokevirtual n) (targets.Method u) named z = is_called (args_of (slice_get p.methods u)) (is_locking (slice_get p.methods u)) (is_own_object mode (slice_index_or ts (args_of (slice_get p.methods u)) Untagged)) refl z
  reads_only mi i m (ops.Invokespecial n) (targets.Method u) named z = is_called (args_of (slice_get p.methods u)) (is_locking (slice_get p.methods u)) (is_own_object mode (slice_index_or ts (args_of (slice_get p.methods u)) Untagged)) refl z
  reads_only mi i m (ops.Invokestatic n) (targets.Method u) named z = calls_class (class_of_method (slice_get p.methods u)) (is_class_locking (slice_get p.methods u)) (is_own_class mode (class_of_method (slice_get p.methods u))) refl z
  reads_only mi i m (ops.Getfield n) (targets.Field fi) named z = read_field fi (sort_read p m n fi named) (read fi (slice_index_or uses.fields fi Open) (is_own_object mode (slice_index_or ts 0 Untagged)) refl z)
  reads_only mi i m op target named z = tt

-- ---- the frames of a section

through_more : (p : Program) (tags : Tagged) (a : Callee) (cs : List Callee) (b c : Callee) (i : ℕ) → CallsThrough p tags a cs b → Calls p tags b i c → (ds : List Callee) × CallsThrough p tags a ds c
through_more p tags a [] b c i w e = (c ∷ [], ((i, subst (λ x. Calls p tags x i c) (sym w) e), refl))
through_more p tags a (n ∷ cs) b c i w e = let r = through_more p tags n cs b c i w.1 e in (n ∷ r.0, (w.0, r.1))

-- the method of the top frame, where it is not the section's own frame, is called by the section
pub part_called : (p : Program) (tags : Tagged) (s : Section) (o : ℕ) (a b : Part) (parts : List Part) (mode : Mode) → AreParts p tags s o (a ∷ b ∷ parts) mode → IsCalledBy p tags s (callee a.method mode)
part_called p tags s o a b [] mode h =
    let last : IsSectionPart p tags s o b h.0 = h.1 in
    record {
      i = b.at;
      first = callee a.method mode;
      own = last.own;
      calls = subst (λ x. Calls p tags x b.at (callee a.method mode)) (ap (λ was. callee b.method was) last.mode_is ∙ ap (λ t. callee t (section_mode p s)) last.method) h.2;
      over = [];
      through = refl;
    }
part_called p tags s o a b (c ∷ parts) mode h =
    let r = part_called p tags s o b c parts h.0 h.1 in
    let w = through_more p tags r.first r.over (callee b.method h.0) (callee a.method mode) b.at r.through h.2 in
    record { i = r.i; first = r.first; own = r.own; calls = r.calls; over = w.0; through = w.1 }

pub on_receiver : (p : Program) (tags : Tagged) (s : Section) (o : ℕ) (a : Part) (parts : List Part) (mode : Mode) → AreParts p tags s o (a ∷ parts) mode → mode ≡ OnThis → a.receiver ≡ o
on_receiver p tags s o a [] mode h e = let last : IsSectionPart p tags s o a mode = h in last.receiver
on_receiver p tags s o a (b ∷ parts) mode h e = h.3 e

-- a marked section breaks no rule
pub own_no_fault : (p : Program) (tags : Tagged) (uses : Uses) (s : Section) (i : ℕ) (m : MethodInfo) (insn : Insn) (target : Target) (f : TagShape)
    → HasMark p tags uses s 0 → IsOwn p tags s.method s.spot i → IsAt p tags s.method i m insn target f → section_fault p uses.fields (section_mode p s) insn.op target f.stack (reads_owned uses s.method i) ≡ 0
own_no_fault p tags uses s i m insn target f k own at = ⊎_elim (λ q. q)
    (λ (q : section_fault p uses.fields (section_mode p s) insn.op target f.stack (reads_owned uses s.method i) ≢ 0).
    let n : ℕ = section_fault p uses.fields (section_mode p s) insn.op target f.stack (reads_owned uses s.method i) in
    let breaks : BreaksAt p tags uses (callee s.method (section_mode p s)) i n = record { m = m; insn = insn; target = target; f = f; at = at; fault_is = refl; some = omega (arith, q) } in
    absurd (k n (itself (record { i = i; own = own; breaks = breaks }))))
    (cases_eq (section_fault p uses.fields (section_mode p s) insn.op target f.stack (reads_owned uses s.method i)) 0)

-- nor does a method that it calls
pub called_no_fault : (p : Program) (tags : Tagged) (uses : Uses) (s : Section) (o i : ℕ) (a b : Part) (parts : List Part) (mode : Mode) (m : MethodInfo) (insn : Insn) (target : Target) (f : TagShape)
    → HasMark p tags uses s 0 → AreParts p tags s o (a ∷ b ∷ parts) mode → IsAt p tags a.method i m insn target f → section_fault p uses.fields mode insn.op target f.stack (reads_owned uses a.method i) ≡ 0
called_no_fault p tags uses s o i a b parts mode m insn target f k h at = ⊎_elim (λ q. q)
    (λ (q : section_fault p uses.fields mode insn.op target f.stack (reads_owned uses a.method i) ≢ 0).
    let n : ℕ = section_fault p uses.fields mode insn.op target f.stack (reads_owned uses a.method i) in
    let breaks : BreaksAt p tags uses (callee a.method mode) i n = record { m = m; insn = insn; target = target; f = f; at = at; fault_is = refl; some = omega (arith, q) } in
    absurd (k 6 (called refl (record { called = callee a.method mode; is_called = part_called p tags s o a b parts mode h; i = i; n = n; breaks = breaks }))))
    (cases_eq (section_fault p uses.fields mode insn.op target f.stack (reads_owned uses a.method i)) 0)

no_fault : (p : Program) (tags : Tagged) (uses : Uses) (s : Section) (o : ℕ) (a : Part) (parts : List Part) (mode : Mode) (m : MethodInfo) (insn : Insn) (target : Target) (f : TagShape)
    → HasMark p tags uses s 0 → AreParts p tags s o (a ∷ parts) mode → IsAt p tags a.method a.at m insn target f → section_fault p uses.fields mode insn.op target f.stack (reads_owned uses a.method a.at) ≡ 0
no_fault p tags uses s o a [] mode m insn target f k h at =
    let last : IsSectionPart p tags s o a mode = h in
    subst (λ was. section_fault p uses.fields was insn.op target f.stack (reads_owned uses a.method a.at) ≡ 0) (sym last.mode_is)
    (subst (λ (mi : ℕ). section_fault p uses.fields (section_mode p s) insn.op target f.stack (reads_owned uses mi a.at) ≡ 0) (sym last.method) (own_no_fault p tags uses s a.at m insn target f k last.own (subst (λ mi. IsAt p tags mi a.at m insn target f) last.method at)))
no_fault p tags uses s o a (b ∷ parts) mode m insn target f k h at = called_no_fault p tags uses s o a.at a b parts mode m insn target f k h at

pub read_law : ReadLaw
read_law p tags uses s o a parts mode m insn target f stack program u k h at names =
    reads_only p tags uses u (record { o = o; receiver = a.receiver; mode = mode; is = on_receiver p tags s o a parts mode h; tags = f.stack; values = stack; names = names }) a.method a.at m insn.op target (target_named p tags a.method a.at m insn target f program at) (no_fault p tags uses s o a parts mode m insn target f k h at)
