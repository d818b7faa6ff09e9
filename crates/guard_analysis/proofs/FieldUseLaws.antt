-- Which fields are written without their guard, and how each may be read.
use Rattle.std.proofs.Common.{◌≡◌, ◌≢◌, ℕ, zero, suc, ◌<◌, Bool, true, false, ◌&&◌, ◌||◌, List, [], ◌∷◌, length, replicate, Option, Some, None, refl, sym, ap, subst, ◌∙◌, arith, ⊎_elim, ◌⊎◌, inl, inr, nat_lt, if◌then◌else◌, slice_get, slice_set, slice_index_or}
use Rattle.std.{specs.List.list_any, proofs.lemmas.{Bool.{cases_eq, Decides.nat_tests}, List.{length-replicate, length-set}, Option.{slice_get_within, same_Some}}}
use Rattle.jvm_types.specs.{CodeTable.is_init, Members.is_static, ProgramInvariant.{IsProgram, IsTargetOf, site_in}, declared.{code.{Insn.Insn, Op.Op}, program.FieldInfo.FieldInfo}}
use Rattle.jvm_types.specs.declared.program.{MethodInfo.MethodInfo, Program.Program, Target.Target}
use Rattle.checked_program.specs.{FrozenPlaces.{PutsGuarded, PutsStatic, WritesGuarded, locks_this, writes_class}, LockTags.{TagShape, is_this}, TaggedCode.{Tagged, IsAt, tagged_by}}
use Rattle.checked_program.{specs.declared.tag.{Tag.{Tag, TheVariants.{Untagged, This}}, Tags.Tags}, proofs.NamedFields.{sort_written, sort_written_static, target_named}}
use Rattle.guard_analysis.specs.FieldUses.{writes_guarded, writes_class_of, unless_guarded, unguarded_write, unguarded_at, field_noted, noted_before, noted_in, unguarded_before}
use Rattle.guard_analysis.proofs.CallEdges.{with_tags, frames_there}
use Rattle.jvm_types.specs.declared.code.Op.TheVariants as ops
use Rattle.jvm_types.specs.declared.program.Target.TheVariants as targets

-- ---- flags

abbrev flag : List Bool → ℕ → Bool
flag flags i = slice_index_or flags i false

pub set_true : (flags : List Bool) (x fi : ℕ) → flag (slice_set flags x true) fi ≡ true → (flag flags fi ≡ true) ⊎ (x ≡ fi)
set_true (b ∷ bs) zero zero h = inr refl
set_true (b ∷ bs) (suc x) (suc fi) h = ⊎_elim (λ e. inl e) (λ e. inr (ap suc e)) (set_true bs x fi h)
set_true flags x fi h = inl h

pub set_keeps : (flags : List Bool) (x fi : ℕ) → flag flags fi ≡ true → flag (slice_set flags x true) fi ≡ true
set_keeps (b ∷ bs) zero zero h = refl
set_keeps (b ∷ bs) (suc x) (suc fi) h = set_keeps bs x fi h
set_keeps flags x fi h = h

pub set_here : (flags : List Bool) (fi : ℕ) → fi < length flags → flag (slice_set flags fi true) fi ≡ true
set_here [] fi l = absurd (omega (arith, l))
set_here (b ∷ bs) zero l = refl
set_here (b ∷ bs) (suc fi) l = set_here bs fi (omega (arith, l))

pub none_set : (n fi : ℕ) → flag (replicate n false) fi ≡ true → ⊥
none_set (suc n) (suc fi) h = none_set n fi h
none_set n fi h = cc

pub noted_long : (flags : List Bool) (o : Option ℕ) → length (field_noted flags o) ≡ length flags
noted_long flags None = refl
noted_long flags (Some x) = by_test (nat_lt x (length flags))
  where
    by_test : (t : Bool) → length (if t then slice_set flags x true else flags) ≡ length flags
    by_test true = length-set flags x true
    by_test false = refl

pub noted_true : (flags : List Bool) (o : Option ℕ) (fi : ℕ) → flag (field_noted flags o) fi ≡ true → (flag flags fi ≡ true) ⊎ (o ≡ Some fi)
noted_true flags None fi h = inl h
noted_true flags (Some x) fi h = by_test (nat_lt x (length flags)) h
  where
    by_test : (t : Bool) → flag (if t then slice_set flags x true else flags) fi ≡ true → (flag flags fi ≡ true) ⊎ (Some x ≡ Some fi)
    by_test true k = ⊎_elim (λ e. inl e) (λ e. inr (ap (λ (y : ℕ). Some y) e)) (set_true flags x fi k)
    by_test false k = inl k

pub noted_keeps : (flags : List Bool) (o : Option ℕ) (fi : ℕ) → flag flags fi ≡ true → flag (field_noted flags o) fi ≡ true
noted_keeps flags None fi h = h
noted_keeps flags (Some x) fi h = by_test (nat_lt x (length flags))
  where
    by_test : (t : Bool) → flag (if t then slice_set flags x true else flags) fi ≡ true
    by_test true = set_keeps flags x fi h
    by_test false = h

pub noted_here : (flags : List Bool) (o : Option ℕ) (fi : ℕ) → fi < length flags → o ≡ Some fi → flag (field_noted flags o) fi ≡ true
noted_here flags o fi l e = let test : nat_lt fi (length flags) ≡ true = grind (arith, nat_tests) in rw (e, test) (set_here flags fi l)

-- ---- one method

abbrev write_at : Program → MethodInfo → List (Option TagShape) → ℕ → Option ℕ
write_at p m frames i = unguarded_at p m (slice_get m.code i) (slice_get m.targets i) (slice_get frames i)

module _ (p : Program) (m : MethodInfo) (frames : List (Option TagShape)) (flags : List Bool) where
  before_long : (k : ℕ) → length (noted_before p m frames flags k) ≡ length flags
  before_long zero = refl
  before_long (suc k) = noted_long (noted_before p m frames flags k) (write_at p m frames k) ∙ before_long k

  before_true : (k fi : ℕ) → flag (noted_before p m frames flags k) fi ≡ true → (flag flags fi ≡ true) ⊎ ((i : ℕ) × (write_at p m frames i ≡ Some fi))
  before_true zero fi h = inl h
  before_true (suc k) fi h = ⊎_elim (λ e. before_true k fi e) (λ e. inr (k, e)) (noted_true (noted_before p m frames flags k) (write_at p m frames k) fi h)

  before_keeps : (k fi : ℕ) → flag flags fi ≡ true → flag (noted_before p m frames flags k) fi ≡ true
  before_keeps zero fi h = h
  before_keeps (suc k) fi h = noted_keeps (noted_before p m frames flags k) (write_at p m frames k) fi (before_keeps k fi h)

  before_here : (k i fi : ℕ) → fi < length flags → i < k → write_at p m frames i ≡ Some fi → flag (noted_before p m frames flags k) fi ≡ true
  before_here zero i fi l h e = absurd (omega (arith, h))
  before_here (suc k) i fi l h e = ⊎_elim
      (λ (q : i ≡ k). noted_here (noted_before p m frames flags k) (write_at p m frames k) fi (subst (λ n. fi < n) (sym (before_long k)) l) (subst (λ j. write_at p m frames j ≡ Some fi) q e))
      (λ (q : i ≢ k). noted_keeps (noted_before p m frames flags k) (write_at p m frames k) fi (before_here k i fi l (omega (arith, h, q)) e)) (cases_eq i k)

-- the three that stand at an instruction that writes so
pub record AtWrite (oi : Option Insn) (ot : Option Target) (of : Option (Option TagShape)) (p : Program) (m : MethodInfo) (fi : ℕ) : Type 0 where
  pub insn : Insn
  pub target : Target
  pub f : TagShape
  pub is_insn : oi ≡ Some insn
  pub is_target : ot ≡ Some target
  pub is_frame : of ≡ Some (Some f)
  pub writes : unguarded_write p m insn.op target f ≡ Some fi

pub write_parts : (p : Program) (m : MethodInfo) (oi : Option Insn) (ot : Option Target) (of : Option (Option TagShape)) (fi : ℕ) → unguarded_at p m oi ot of ≡ Some fi → AtWrite oi ot of p m fi
write_parts p m (Some insn) (Some target) (Some (Some f)) fi e = record { insn = insn; target = target; f = f; is_insn = refl; is_target = refl; is_frame = refl; writes = e }
write_parts p m oi ot of fi e = absurd (cc)

-- ---- guards

pub guard_parts : (t : Tag) (b : Bool) → (is_this t && b) ≡ true → (t ≡ This) × (b ≡ true)
guard_parts This b h = (refl, h)
guard_parts t b h = absurd (let bad : false ≡ true = h in cc)

pub guard_whole : (t : Tag) (b : Bool) → t ≡ This → b ≡ true → (is_this t && b) ≡ true
guard_whole t b e h = rw (e, h) refl

abbrev may_write : MethodInfo → TagShape → Bool
may_write m f = is_init m || (list_any is_this f.held || locks_this m)

-- where a field may be written, by its sort
abbrev pub PutsWell : ℕ → FieldInfo → MethodInfo → Op → Target → TagShape → Type 0
PutsWell fi field m op target f = PutsGuarded fi m op target f × PutsStatic fi field.class m op target

module _ (p : Program) (fi : ℕ) (field : FieldInfo) (is : slice_get p.fields fi ≡ Some field) (m : MethodInfo) where
  class_writes : (x : ℕ) → x ≡ fi → writes_class_of (slice_get p.fields x) m ≡ writes_class field.class m
  class_writes x e = ap (λ (n : ℕ). writes_class_of (slice_get p.fields n) m) e ∙ ap (λ (o : Option FieldInfo). writes_class_of o m) is

  pub guarded_if : (op : Op) (target : Target) (f : TagShape) → (unguarded_write p m op target f ≡ Some fi → ⊥) → PutsWell fi field m op target f
  guarded_if (ops.Putfield i) (targets.Field x) f h = ((λ (e : x ≡ fi). by_test (writes_guarded m f) refl (λ k. h (k ∙ ap (λ (y : ℕ). Some y) e))), tt)
    where
      by_test : (t : Bool) → writes_guarded m f ≡ t → (unless_guarded t x ≡ Some x → ⊥) → WritesGuarded m f
      by_test true w k = guard_parts (slice_index_or f.stack 1 Untagged) (may_write m f) w
      by_test false w k = absurd (k refl)
  guarded_if (ops.Putstatic i) (targets.Field x) f h = (tt, λ (e : x ≡ fi). by_test (writes_class_of (slice_get p.fields x) m) refl e (λ k. h (k ∙ ap (λ (y : ℕ). Some y) e)))
    where
      by_test : (t : Bool) → writes_class_of (slice_get p.fields x) m ≡ t → x ≡ fi → (unless_guarded t x ≡ Some x → ⊥) → writes_class field.class m ≡ true
      by_test true w e k = sym (class_writes x e) ∙ w
      by_test false w e k = absurd (k refl)
  guarded_if op target f h = (tt, tt)

  pub guarded_not : (op : Op) (target : Target) (f : TagShape) → unguarded_write p m op target f ≡ Some fi → PutsWell fi field m op target f → ⊥
  guarded_not (ops.Putfield i) (targets.Field x) f e g = by_test (writes_guarded m f) refl e
    where
      by_test : (t : Bool) → writes_guarded m f ≡ t → unless_guarded t x ≡ Some fi → ⊥
      by_test true w k = let bad : None ≡ Some fi = k in cc
      by_test false w k =
          let guard = g.0 (same_Some x fi k) in
          let whole : writes_guarded m f ≡ true = guard_whole (slice_index_or f.stack 1 Untagged) (may_write m f) guard.0 guard.1 in
          let bad : false ≡ true = sym w ∙ whole in
          cc
  guarded_not (ops.Putstatic i) (targets.Field x) f e g = by_test (writes_class_of (slice_get p.fields x) m) refl e
    where
      by_test : (t : Bool) → writes_class_of (slice_get p.fields x) m ≡ t → unless_guarded t x ≡ Some fi → ⊥
      by_test true w k = let bad : None ≡ Some fi = k in cc
      by_test false w k =
          let same : x ≡ fi = same_Some x fi k in
          let bad : false ≡ true = sym w ∙ class_writes x same ∙ g.1 same in
          cc
  guarded_not op target f e g = cc

  -- no instruction for instance fields writes a static one, nor the reverse
  pub static_puts : is_static field.flags ≡ true → (op : Op) (target : Target) (f : TagShape) → IsTargetOf p (site_in m) op target → PutsGuarded fi m op target f
  static_puts static (ops.Putfield i) (targets.Field x) f named = λ (e : x ≡ fi).
      let instance : is_static field.flags ≡ false = sort_written p m i x named field (ap (slice_get p.fields) e ∙ is) in
      absurd (let bad : true ≡ false = sym static ∙ instance in cc)
  static_puts static op target f named = tt

  pub instance_puts : is_static field.flags ≡ false → (op : Op) (target : Target) → IsTargetOf p (site_in m) op target → PutsStatic fi field.class m op target
  instance_puts instance (ops.Putstatic i) (targets.Field x) named = λ (e : x ≡ fi).
      let static : is_static field.flags ≡ true = sort_written_static p m i x named field (ap (slice_get p.fields) e ∙ is) in
      absurd (let bad : true ≡ false = sym static ∙ instance in cc)
  instance_puts instance op target named = tt

-- ---- all methods

-- a reached instruction that writes a field without its guard
record WritesField (p : Program) (tags : Tagged) (fi mi : ℕ) : Type 0 where
  pub i : ℕ
  pub m : MethodInfo
  pub insn : Insn
  pub target : Target
  pub f : TagShape
  pub at : IsAt p tags mi i m insn target f
  pub writes : unguarded_write p m insn.op target f ≡ Some fi

noted_in_long : (p : Program) (om : Option MethodInfo) (ot : Option Tags) (flags : List Bool) → length (noted_in p om ot flags) ≡ length flags
noted_in_long p (Some m) (Some t) flags = before_long p m t.frames flags (length m.code)
noted_in_long p om ot flags = refl

noted_in_keeps : (p : Program) (om : Option MethodInfo) (ot : Option Tags) (flags : List Bool) (fi : ℕ) → flag flags fi ≡ true → flag (noted_in p om ot flags) fi ≡ true
noted_in_keeps p (Some m) (Some t) flags fi h = before_keeps p m t.frames flags (length m.code) fi h
noted_in_keeps p om ot flags fi h = h

module _ (p : Program) (tags : List Tags) (is : IsProgram p) where
  all_long : (u : ℕ) → length (unguarded_before p tags u) ≡ length p.fields
  all_long zero = length-replicate (length p.fields) false
  all_long (suc u) = noted_in_long p (slice_get p.methods u) (slice_get tags u) (unguarded_before p tags u) ∙ all_long u

  in_true : (mi fi : ℕ) (om : Option MethodInfo) (ot : Option Tags) (flags : List Bool) → slice_get p.methods mi ≡ om → slice_get tags mi ≡ ot → flag (noted_in p om ot flags) fi ≡ true → (flag flags fi ≡ true) ⊎ WritesField p (tagged_by tags) fi mi
  in_true mi fi (Some m) (Some t) flags e g h = ⊎_elim (λ k. inl k) (λ k. inr (written k.0 k.1)) (before_true p m t.frames flags (length m.code) fi h)
    where
      written : (i : ℕ) → write_at p m t.frames i ≡ Some fi → WritesField p (tagged_by tags) fi mi
      written i k =
          let parts = write_parts p m (slice_get m.code i) (slice_get m.targets i) (slice_get t.frames i) fi k in
          record {
            i = i;
            m = m;
            insn = parts.insn;
            target = parts.target;
            f = parts.f;
            at = record { in_program = e; in_code = parts.is_insn; names = parts.is_target; frames = t.frames; of_method = frames_there p tags is mi t g; frame = parts.is_frame };
            writes = parts.writes;
          }
  in_true mi fi (Some m) None flags e g h = inl h
  in_true mi fi None ot flags e g h = inl h

  all_true : (u fi : ℕ) → flag (unguarded_before p tags u) fi ≡ true → (mi : ℕ) × WritesField p (tagged_by tags) fi mi
  all_true zero fi h = absurd (none_set (length p.fields) fi h)
  all_true (suc u) fi h = ⊎_elim (λ k. all_true u fi k) (λ w. (u, w)) (in_true u fi (slice_get p.methods u) (slice_get tags u) (unguarded_before p tags u) refl refl h)

  in_here : (mi fi : ℕ) (flags : List Bool) → fi < length flags → WritesField p (tagged_by tags) fi mi → flag (noted_in p (slice_get p.methods mi) (slice_get tags mi) flags) fi ≡ true
  in_here mi fi flags l w =
      let has = with_tags p tags is mi w.at.frames w.at.of_method in
      let at_frame : slice_get has.0.frames w.i ≡ Some (Some w.f) = subst (λ l. slice_get l w.i ≡ Some (Some w.f)) (sym has.2) w.at.frame in
      let here : write_at p w.m has.0.frames w.i ≡ Some fi = rw (w.at.in_code, w.at.names, at_frame) w.writes in
      rw (w.at.in_program, has.1) (before_here p w.m has.0.frames flags (length w.m.code) w.i fi l (slice_get_within w.m.code w.i w.insn w.at.in_code) here)

  all_here : (u mi fi : ℕ) → mi < u → fi < length p.fields → WritesField p (tagged_by tags) fi mi → flag (unguarded_before p tags u) fi ≡ true
  all_here zero mi fi h l w = absurd (omega (arith, h))
  all_here (suc u) mi fi h l w = ⊎_elim
      (λ (q : mi ≡ u). in_here u fi (unguarded_before p tags u) (subst (λ n. fi < n) (sym (all_long u)) l) (subst (λ n. WritesField p (tagged_by tags) fi n) q w))
      (λ (q : mi ≢ u). noted_in_keeps p (slice_get p.methods u) (slice_get tags u) (unguarded_before p tags u) fi (all_here u mi fi (omega (arith, h, q)) l w)) (cases_eq mi u)

  abbrev pub unguarded : List Bool
  unguarded = unguarded_before p tags (length p.methods)

  module _ (fi : ℕ) (field : FieldInfo) (there : slice_get p.fields fi ≡ Some field) where
    abbrev pub AllGuarded : Type 0
    AllGuarded = (mi i : ℕ) (m : MethodInfo) (insn : Insn) (target : Target) (f : TagShape) → IsAt p (tagged_by tags) mi i m insn target f → PutsWell fi field m insn.op target f

    pub all_guarded : flag unguarded fi ≡ false → AllGuarded
    all_guarded h mi i m insn target f at = guarded_if p fi field there m insn.op target f (λ e.
        let here = all_here (length p.methods) mi fi (slice_get_within p.methods mi m at.in_program) (slice_get_within p.fields fi field there) (record { i = i; m = m; insn = insn; target = target; f = f; at = at; writes = e }) in
        let bad : false ≡ true = sym h ∙ here in
        cc)

    some_unguarded : flag unguarded fi ≡ true → AllGuarded → ⊥
    some_unguarded h g = let w = all_true (length p.methods) fi h in guarded_not p fi field there w.1.m w.1.insn.op w.1.target w.1.f w.1.writes (g w.0 w.1.i w.1.m w.1.insn w.1.target w.1.f w.1.at)

    -- an instance field, and a static one
    pub some_on_another : is_static field.flags ≡ false → flag unguarded fi ≡ true
        → ((mi i : ℕ) (m : MethodInfo) (insn : Insn) (target : Target) (f : TagShape) → IsAt p (tagged_by tags) mi i m insn target f → PutsGuarded fi m insn.op target f) → ⊥
    some_on_another instance h g = some_unguarded h (λ mi i m insn target f at. (g mi i m insn target f at, instance_puts p fi field there m instance insn.op target (target_named p (tagged_by tags) mi i m insn target f is at)))

    pub some_elsewhere : is_static field.flags ≡ true → flag unguarded fi ≡ true
        → ((mi i : ℕ) (m : MethodInfo) (insn : Insn) (target : Target) (f : TagShape) → IsAt p (tagged_by tags) mi i m insn target f → PutsStatic fi field.class m insn.op target) → ⊥
    some_elsewhere static h g = some_unguarded h (λ mi i m insn target f at. (static_puts p fi field there m static insn.op target f (target_named p (tagged_by tags) mi i m insn target f is at), g mi i m insn target f at))
