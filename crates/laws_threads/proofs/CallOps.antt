-- The frame that a call enters has the receiver that stood below the arguments; the monitor of a synchronized method that a
-- section calls is the section's.
use Rattle.std.proofs.lemmas.Option.{get_or_from_slice_get}
use Rattle.std.proofs.Common.{◌≡◌, ℕ, Option, suc, Bool, true, false, List, length, reverse, take, Some, sym, ap, ◌∙◌, subst, slice_get, slice_index, if◌then◌else◌}
use Rattle.lists.proofs.ListLaws.{same_some}
use Rattle.jvm_types.specs.{ClassNames.file_of_class, CodeTable.{virtual_row, special_row, static_row}, Members.{MethodSite, is_static, is_synchronized}}
use Rattle.jvm_types.specs.declared.{call.Call.{Call, TheVariants.{Virtual, Special, Static}}, code.Op.Op, op_row.OpRow.OpRow, program.{MethodInfo.MethodInfo, Program.Program, Target.Target}}
use Rattle.laws_programs.specs.TargetLaws.{NamesMethod, HasRow}
use Rattle.checked_program.specs.{Marks.{args_of, called_method, class_of_method, is_locking, is_class_locking}, SectionLaws.ReadsOnly, TaggedCode.Tagged, declared.section.Mode.Mode}
use Rattle.checked_program.specs.declared.section.Mode.TheVariants.{OnThis, OnClass}
use Rattle.laws_sections.{specs.FrameLaws.IsReceiver, proofs.HiddenThis.with_receiver}
use Rattle.machine_types.specs.{Frames.{first_or_null, entry_frame, monitor_by}, Words.class_object}
use Rattle.laws_threads.proofs.{Calls.receiver_first, EffectOps.HasReceiver, SectionFrames.{is_locked, is_class_locked}}
use Rattle.jvm_types.specs.declared.code.Op.TheVariants as ops
use Rattle.jvm_types.specs.declared.program.Target.TheVariants as targets

module _ (p : Program) (number : ℕ) (called : MethodInfo) (there : slice_get p.methods number ≡ Some called) (s : List ℕ) where
  abbrev receiver_by : OpRow → ℕ
  receiver_by r = (entry_frame number called (reverse (take (length r.takes) s))).receiver

  -- by what the row of the call takes
  below_args : (other : MethodInfo) (receiver : ℕ) (r : OpRow) → slice_get p.methods number ≡ Some other → slice_get s (length other.args) ≡ Some receiver → is_static called.flags ≡ false → length r.takes ≡ suc (length called.args)
      → receiver_by r ≡ slice_index s (args_of (slice_get p.methods number))
  below_args other receiver r e v instance long =
      let same : other ≡ called = same_some (sym e ∙ there) in
      let value : slice_get s (length called.args) ≡ Some receiver = subst (λ (m : MethodInfo). slice_get s (length m.args) ≡ Some receiver) same v in
      ap (λ (b : Bool). if b then 0 else first_or_null (reverse (take (length r.takes) s))) instance ∙ receiver_first (length called.args) (length r.takes) s receiver value long
      ∙ sym (ap (λ o. slice_index s (args_of o)) there ∙ get_or_from_slice_get s (length called.args) receiver 0 value)

  -- a call of an instance method
  of_instance : (site : MethodSite) (u : ℕ) (call : Call) (row_by : Option MethodInfo → OpRow) (r : OpRow) → NamesMethod p site u call false row_by r → u ≡ number → length (row_by (Some called)).takes ≡ suc (length called.args)
      → (is_static called.flags ≡ false) × (length r.takes ≡ suc (length called.args))
  of_instance site u call row_by r k same takes =
      let k : NamesMethod p site number call false row_by r = subst (λ x. NamesMethod p site x call false row_by r) same k in
      let same : k.method ≡ called = same_some (sym k.there ∙ there) in
      (subst (λ (m : MethodInfo). is_static m.flags ≡ false) same k.sort, ap (λ (x : OpRow). length x.takes) (k.its ∙ ap (λ m. row_by (Some m)) same) ∙ takes)

  pub is_receiver : (site : MethodSite) (pc : ℕ) (target : Target) (op : Op) (r : OpRow) → HasRow p site pc target op r → called_method op target ≡ Some number → HasReceiver p op number s → IsReceiver p op number s (receiver_by r)
  is_receiver site pc (targets.Method u) (ops.Invokevirtual i) r k call at = let x = of_instance site u Virtual virtual_row r k (same_some call) (with_receiver called _) in below_args at.0 at.1 r at.2 at.3 x.0 x.1
  is_receiver site pc (targets.Method u) (ops.Invokespecial i) r k call at = let x = of_instance site u Special special_row r k (same_some call) (with_receiver called _) in below_args at.0 at.1 r at.2 at.3 x.0 x.1
  is_receiver site pc target (ops.Invokestatic i) r k call at = tt
  is_receiver site pc target op r k call at = absurd (cc)

  on_receiver : (u receiver o m : ℕ) (mode : Mode) → u ≡ number → (mode ≡ OnThis → o ≡ m) → (is_locking (slice_get p.methods u) ≡ true → (mode ≡ OnThis) × (slice_index s (args_of (slice_get p.methods u)) ≡ o))
      → is_synchronized called.flags ≡ true → is_static called.flags ≡ false → receiver ≡ slice_index s (args_of (slice_get p.methods number)) → monitor_by p called receiver ≡ m
  on_receiver u receiver o m mode same at_this h synchronized instance e =
      let on = subst (λ x. is_locking (slice_get p.methods x) ≡ true → (mode ≡ OnThis) × (slice_index s (args_of (slice_get p.methods x)) ≡ o)) same h (is_locked p number called there synchronized instance) in
      ap (λ (b : Bool). if b then class_object p (file_of_class called.class) else receiver) instance ∙ e ∙ on.1 ∙ at_this on.0

  -- a synchronized method is called on the section's object, or it is a static one of the section's class
  pub called_on : (tags : Tagged) (mode : Mode) (o m method place : ℕ) → (mode ≡ OnThis → o ≡ m) → ((class : ℕ) → mode ≡ OnClass class → class_object p (file_of_class class) ≡ m) → (site : MethodSite) (pc : ℕ) (op : Op) (target : Target) (r : OpRow) → HasRow p site pc target op r → called_method op target ≡ Some number → HasReceiver p op number s → ReadsOnly p tags mode o method place op target s
      → is_synchronized called.flags ≡ true → monitor_by p called (receiver_by r) ≡ m
  called_on tags mode o m method place at_this in_class site pc (ops.Invokevirtual i) (targets.Method u) r k call at h synchronized =
      on_receiver u _ o m mode (same_some call) at_this h synchronized (of_instance site u Virtual virtual_row r k (same_some call) (with_receiver called _)).0 (is_receiver site pc (targets.Method u) (ops.Invokevirtual i) r k call at)
  called_on tags mode o m method place at_this in_class site pc (ops.Invokespecial i) (targets.Method u) r k call at h synchronized =
      on_receiver u _ o m mode (same_some call) at_this h synchronized (of_instance site u Special special_row r k (same_some call) (with_receiver called _)).0 (is_receiver site pc (targets.Method u) (ops.Invokespecial i) r k call at)
  called_on tags mode o m method place at_this in_class site pc (ops.Invokestatic i) (targets.Method u) r k call at h synchronized =
      let k' : NamesMethod p site number Static true static_row r = subst (λ x. NamesMethod p site x Static true static_row r) (same_some call) k in
      let same : k'.method ≡ called = same_some (sym k'.there ∙ there) in
      let static : is_static called.flags ≡ true = subst (λ (m : MethodInfo). is_static m.flags ≡ true) same k'.sort in
      let own : is_class_locking (slice_get p.methods number) ≡ true → mode ≡ OnClass (class_of_method (slice_get p.methods number)) =
      subst (λ x. is_class_locking (slice_get p.methods x) ≡ true → mode ≡ OnClass (class_of_method (slice_get p.methods x))) (same_some call) h in
      let mode_is : mode ≡ OnClass called.class = own (is_class_locked p number called there synchronized static) ∙ ap (λ o. OnClass (class_of_method o)) there in
      ap (λ (b : Bool). if b then class_object p (file_of_class called.class) else receiver_by r) static ∙ in_class called.class mode_is
  called_on tags mode o m method place at_this in_class site pc op target r k call at h synchronized = absurd (cc)
