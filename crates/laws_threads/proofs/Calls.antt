-- What a call takes and gives, and that its receiver is there and not null.
use Rattle.std.proofs.Common.{◌≡◌, ℕ, zero, suc, ◌+◌, ◌<◌, ◌⊎◌, inl, inr, Bool, true, false, List, [], ◌∷◌, ◌++◌, length, Option, Some, None, refl, ap, sym, subst, ◌∙◌, arith, ◌==◌, slice_get, take, reverse, if◌then◌else◌}
use Rattle.std.proofs.lemmas.{Bool.Decides.nat_tests, List.{length-append, reverse-append}}
use Rattle.lists.proofs.ListLaws.{same_some}
use Rattle.jvm_types.specs.{CodeTable.{arguments, is_init, result_of, stack_row, virtual_row, special_row, static_row}, Members.{MethodSite, is_static, is_init_name, is_class_init_name}}
use Rattle.jvm_types.specs.declared.{code.Op.Op, op_row.{OpRow.OpRow, Want.{Want, TheVariants.{AnObject, ToStart}}}, outcome.Thrown.TheVariants.NullPointerException, program.MethodInfo.MethodInfo}
use Rattle.jvm_types.specs.declared.program.Program.{Program}
use Rattle.laws_programs.specs.{EntryLaws.receiver_count, TargetLaws.HasRow}
use Rattle.checked_program.{specs.CheckedLaws.receiver_want, proofs.CheckedPlaces.no_init}
use Rattle.laws_sections.proofs.HiddenThis.{long_arguments}
use Rattle.machine_types.specs.{Effects.{calls_on, calls_instance, effect}, Frames.first_or_null, declared.effect.Effect.TheVariants.{Throws, Calls}}
use Rattle.laws_threads.proofs.Tests.{either_way}
use Rattle.jvm_types.specs.declared.code.Op.TheVariants as ops
use Rattle.jvm_types.specs.declared.program.Target.TheVariants as targets

-- ---- the row of a call

pub record CallRow (called : MethodInfo) (r : OpRow) : Type 0 where
  pub takes : List Want
  pub is : r ≡ stack_row takes (result_of called)
  pub by : ((is_static called.flags ≡ false) × (takes ≡ arguments called ++ receiver_want (is_init called) called.class ∷ [])) ⊎ ((is_static called.flags ≡ true) × (takes ≡ arguments called))

virtual_call : (called : MethodInfo) → is_static called.flags ≡ false → is_init called ≡ false → CallRow called (virtual_row (Some called))
virtual_call called s e = record { takes = arguments called ++ AnObject called.class ∷ []; is = refl; by = inl (s, ap (λ b. arguments called ++ receiver_want b called.class ∷ []) (sym e)) }

special_call : (called : MethodInfo) → is_static called.flags ≡ false → CallRow called (special_row (Some called))
special_call called s = either_way (λ (b : Bool). is_init called ≡ b → CallRow called (special_row (Some called))) (is_init called)
    (λ e. record { takes = arguments called ++ ToStart called.class ∷ []; is = rw e refl; by = inl (s, ap (λ b. arguments called ++ receiver_want b called.class ∷ []) (sym e)) })
    (λ e. record { takes = arguments called ++ AnObject called.class ∷ []; is = rw e refl; by = inl (s, ap (λ b. arguments called ++ receiver_want b called.class ∷ []) (sym e)) }) refl

pub call_row : (p : Program) (site : MethodSite) (pc number : ℕ) (op : Op) (r : OpRow) (called : MethodInfo) → slice_get p.methods number ≡ Some called → HasRow p site pc (targets.Method number) op r → CallRow called r
call_row p site pc number (ops.Invokevirtual i) r called e h =
    let same : h.method ≡ called = same_some (sym h.there ∙ e) in
    subst (λ (x : OpRow). CallRow called x) (sym h.its)
    (subst (λ (x : MethodInfo). CallRow x (virtual_row (Some h.method))) same (virtual_call h.method h.sort (no_init (is_static h.method.flags) (is_init_name h.method.name) (is_class_init_name h.method.name) h.fits)))
call_row p site pc number (ops.Invokespecial i) r called e h =
    let same : h.method ≡ called = same_some (sym h.there ∙ e) in
    subst (λ (x : OpRow). CallRow called x) (sym h.its) (subst (λ (x : MethodInfo). CallRow x (special_row (Some h.method))) same (special_call h.method h.sort))
call_row p site pc number (ops.Invokestatic i) r called e h =
    let same : h.method ≡ called = same_some (sym h.there ∙ e) in
    subst (λ (x : OpRow). CallRow called x) (sym h.its) (subst (λ (x : MethodInfo). CallRow x (static_row (Some h.method))) same (record { takes = arguments h.method; is = refl; by = inr (h.sort, refl) }))
call_row p site pc number op r called e h = absurd (assumption)

-- as many values as the method has arguments, with its receiver
pub takes_arguments : (called : MethodInfo) (r : OpRow) → CallRow called r → length r.takes ≡ receiver_count called + length called.args
takes_arguments called r call = ap (λ (x : OpRow). length x.takes) call.is ∙ (elim call.by as (λ _. length call.takes ≡ receiver_count called + length called.args) [
  | inl k ↦ let one : receiver_count called ≡ 1 = ap (λ b. if b then 0 else 1) k.0 in omega (arith, one, ap length k.1, length-append (arguments called) (receiver_want (is_init called) called.class ∷ []), long_arguments called)
  | inr k ↦ let none : receiver_count called ≡ 0 = ap (λ b. if b then 0 else 1) k.0 in omega (arith, none, ap length k.1, long_arguments called)
])

-- ---- its receiver

-- below the arguments, and not null
abbrev pub HasReceiver : MethodInfo → (stack : List ℕ) → Type 0
HasReceiver called s = (v : ℕ) × (slice_get s (length called.args) ≡ Some v) × (0 < v)

on_receiver : (o : Option ℕ) (number n : ℕ) → calls_on o number ≡ Calls n → (v : ℕ) × (o ≡ Some v) × (0 < v)
on_receiver None number n e = absurd (cc)
on_receiver (Some v) number n e = either_way (λ (b : Bool). (v == 0) ≡ b → (if b then Throws NullPointerException else Calls number) ≡ Calls n → (w : ℕ) × (Some v ≡ Some w) × (0 < w)) (v == 0)
    (λ t e. absurd (cc))
    (λ t e. (v, refl, grind (arith, nat_tests, t))) refl e

pub call_receiver : (p : Program) (site : MethodSite) (pc next number n : ℕ) (op : Op) (r : OpRow) (called : MethodInfo) (l s : List ℕ) → slice_get p.methods number ≡ Some called → HasRow p site pc (targets.Method number) op r
    → effect p next (targets.Method number) op l s ≡ Calls n → is_static called.flags ≡ false → HasReceiver called s
call_receiver p site pc next number n (ops.Invokevirtual i) r called l s e h f k = on_receiver (slice_get s (length called.args)) number n (sym (ap (λ o. calls_instance o number s) e) ∙ f)
call_receiver p site pc next number n (ops.Invokespecial i) r called l s e h f k = on_receiver (slice_get s (length called.args)) number n (sym (ap (λ o. calls_instance o number s) e) ∙ f)
call_receiver p site pc next number n (ops.Invokestatic i) r called l s e h f k =
    let same : h.method ≡ called = same_some (sym h.there ∙ e) in
    let bad : true ≡ false = sym (subst (λ (x : MethodInfo). is_static x.flags ≡ true) same h.sort) ∙ k in
    absurd (cc)
call_receiver p site pc next number n op r called l s e h f k = absurd (assumption)

-- ---- the first of the arguments in their order is the deepest

pub deepest_first : (n : ℕ) (s : List ℕ) (v : ℕ) → slice_get s n ≡ Some v → (rest : List ℕ) × (reverse (take (suc n) s) ≡ v ∷ rest)
deepest_first n [] v e = absurd (cc)
deepest_first zero (x ∷ s) v e = let same : x ≡ v = cc in ([], ap (λ (y : ℕ). y ∷ []) same)
deepest_first (suc n) (x ∷ s) v e =
    let more = deepest_first n s v e in
    (more.0 ++ x ∷ [], reverse-append (x ∷ []) (take (suc n) s) ∙ ap (λ ys. ys ++ x ∷ []) more.1)

pub receiver_first : (n count : ℕ) (s : List ℕ) (v : ℕ) → slice_get s n ≡ Some v → count ≡ suc n → first_or_null (reverse (take count s)) ≡ v
receiver_first n count s v e c = let first = deepest_first n s v e in ap (λ k. first_or_null (reverse (take k s))) c ∙ ap first_or_null first.1
