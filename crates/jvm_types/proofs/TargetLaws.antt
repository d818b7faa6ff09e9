-- A name that no rule refuses names something of the program that may stand there.
use Rattle.std.proofs.Common.{◌≡◌, ℕ, zero, suc, ◌<◌, Bool, true, false, cond, List, [], ◌∷◌, length, Option, Some, None, IfSome, refl, sym, subst, inl, inr, bytes_eq, slice_get}
use Rattle.std.{specs.{List.{AllByRecursion, find}, Option.option_or, Result.{result_err, result_unwrap_or}, declared.result.Result.{Result, TheVariants.{Ok, Err}}}, proofs.lemmas.Bool.cond_both}
use Rattle.lists.proofs.ListLaws.{all_weaker}
use Rattle.jvm_types.specs.{ClassGrammar.FieldsFit, ClassNames.{class_number, named_class, class_text_at, text_at, is_class, can_be_made, system_name}}
use Rattle.jvm_types.specs.Members.{Entry, MethodSite, member_in, look_up, is_init_name, field_rule, call_rule}
use Rattle.jvm_types.specs.ProgramInvariant.{IsClassOf, IsFieldTarget, IsMethodTarget, IsValueTarget, IsNewTarget, IsTargetOf, IsCaught}
use Rattle.jvm_types.specs.Targets.{Scope, unless_refused, found_target, member_target, class_at_index, field_target, method_target, loaded_target, made_target, new_target, target_of, class_or_fault, catch_class}
use Rattle.jvm_types.specs.declared.{call.Call.{Call, TheVariants.{Virtual, Special, Static}}, class_file.Constant.Constant, class_numbers.TheConstants.OBJECT_CLASS, code.Op.Op}
use Rattle.jvm_types.specs.declared.{code.Op.TheVariants.{Ldc, LdcW, Getstatic, Putstatic, Getfield, Putfield, Invokevirtual, Invokespecial, Invokestatic, New}, program.Program.Program}
use Rattle.jvm_types.{specs.declared.{program.Target.Target, refusal.LRule.{LRule, TheVariants.{L1, L2}}}, proofs.{KindLaws.numbered, LayoutLaws.entry_fits}}
use Rattle.jvm_types.specs.declared.class_file.Constant.TheVariants as constants
use Rattle.jvm_types.specs.declared.program.Target.TheVariants as targets

-- what resolves to a target that fits, or to a rule
abbrev Fits : (Target → Type 0) → Result Target LRule → Type 0
Fits P r = result_err r ≡ None → P (result_unwrap_or r targets.Nothing)

-- ---- look-up

found : {X : Type 0} (P : X → Type 0) (test : X → Bool) (xs : List X) → AllByRecursion P xs → IfSome (find test xs) P
found P test [] h = tt
found P test (x ∷ xs) h = cond_both (test x) (Some x) (find test xs) (λ o. IfSome o P) (λ e. h.0) (λ e. found P test xs h.1)

either_found : {X : Type 0} (P : X → Type 0) (a b : Option X) → IfSome a P → IfSome b P → IfSome (option_or a b) P
either_found P None b h k = k
either_found P (Some x) b h k = h

looked_up : (P : Entry → Type 0) (entries : List Entry) (class : ℕ) (name descriptor : List ℕ) → AllByRecursion P entries → IfSome (look_up entries class name descriptor) P
looked_up P entries class name descriptor h =
    either_found P (member_in entries class name descriptor) (cond (is_init_name name) None (member_in entries OBJECT_CLASS name descriptor))
    (found P _ entries h) (cond_both (is_init_name name) None (member_in entries OBJECT_CLASS name descriptor) (λ o. IfSome o P) (λ e. tt) (λ e. found P _ entries h))

-- ---- a member

unless_fits : (P : Target → Type 0) (rule : Option LRule) (target : Target) → (rule ≡ None → P target) → Fits P (unless_refused rule target)
unless_fits P None target h e = h refl
unless_fits P (Some rule) target h e = absurd cc

found_fits : (P : Target → Type 0) (rule : Entry → Option LRule) (o : Option Entry) → IfSome o (λ e. rule e ≡ None → P e.target) → Fits P (found_target rule o)
found_fits P rule None h e = absurd cc
found_fits P rule (Some entry) h e = unless_fits P (rule entry) entry.target h e

refused : (P : Target → Type 0) (rule : LRule) → Fits P (Err rule)
refused P rule e = absurd cc

member_fits : (P : Target → Type 0) (rule : Entry → Option LRule) (entries : List Entry) (class : Option ℕ) (described : Bool) (name descriptor : List ℕ)
    → AllByRecursion (λ e. rule e ≡ None → P e.target) entries → Fits P (member_target rule entries class described name descriptor)
member_fits P rule entries None described name descriptor h = refused P L1
member_fits P rule entries (Some class) described name descriptor h =
    cond_both described (found_target rule (look_up entries class name descriptor)) (Err L1) (Fits P)
    (λ b. found_fits P rule (look_up entries class name descriptor) (looked_up (λ e. rule e ≡ None → P e.target) entries class name descriptor h)) (λ b. refused P L1)

-- all fields and methods that may be named stand for something of the program
abbrev pub FieldFits : Program → Entry → Type 0
FieldFits p e = (static writes : Bool) (site : MethodSite) → 0 < site.class → field_rule static writes site e.class e.flags ≡ None → IsFieldTarget p site static writes e.target

abbrev pub MethodFits : Program → Entry → Type 0
MethodFits p e = (call : Call) (site : MethodSite) → call_rule call site e.class e.name e.flags ≡ None → IsMethodTarget p site call e.target

pub record ScopeFits (p : Program) (s : Scope) : Type 0 where
  pub names : s.names ≡ p.names
  pub fields : AllByRecursion (FieldFits p) s.fields
  pub methods : AllByRecursion (MethodFits p) s.methods

module _ (p : Program) (s : Scope) (fit : ScopeFits p s) (site : MethodSite) (of_file : 0 < site.class) (pool : List Constant) (entries : AllByRecursion FieldsFit pool) where
  field_fits : (static writes : Bool) (o : Option Constant) → Fits (IsFieldTarget p site static writes) (field_target s site pool static writes o)
  field_fits static writes (Some (constants.Field class member)) e =
      member_fits (IsFieldTarget p site static writes) (λ e. field_rule static writes site e.class e.flags) s.fields (class_at_index s pool class) _ _ _
      (all_weaker (FieldFits p) (λ e. field_rule static writes site e.class e.flags ≡ None → IsFieldTarget p site static writes e.target) (λ e h. h static writes site of_file) s.fields fit.fields) e
  field_fits static writes o e = absurd cc

  method_fits : (call : Call) (o : Option Constant) → Fits (IsMethodTarget p site call) (method_target s site pool call o)
  method_fits call (Some (constants.Method class member)) e =
      member_fits (IsMethodTarget p site call) (λ e. call_rule call site e.class e.name e.flags) s.methods (class_at_index s pool class) _ _ _
      (all_weaker (MethodFits p) (λ e. call_rule call site e.class e.name e.flags ≡ None → IsMethodTarget p site call e.target) (λ e h. h call site) s.methods fit.methods) e
  method_fits call o e = absurd cc

  loaded_fits : (o : Option Constant) → IfSome o FieldsFit → Fits IsValueTarget (loaded_target o)
  loaded_fits (Some (constants.Integer n)) h e = h
  loaded_fits o h e = absurd cc

  class_in : (text : List ℕ) (class : ℕ) → class_number s.names text ≡ Some class → IsClassOf p class
  class_in text class e = subst (λ (names : List (List ℕ)). is_class (length names) class ≡ true) fit.names (numbered s.names text class e)

  -- `java/lang/System` cannot be made
  made_in : (text : List ℕ) (class : ℕ) → named_class s.names text ≡ Some class → can_be_made class ≡ true → IsClassOf p class
  made_in text class = cond_both (bytes_eq text system_name) (Some 0) (class_number s.names text) (λ o. o ≡ Some class → can_be_made class ≡ true → IsClassOf p class)
      (λ b e m. absurd (not_zero class (same e) m)) (λ b e m. class_in text class e)
    where
      same : {a b : ℕ} → Some a ≡ Some b → a ≡ b
      same e = cc

      not_zero : (n : ℕ) → 0 ≡ n → can_be_made n ≡ true → ⊥
      not_zero n e m = let z : can_be_made 0 ≡ true = subst (λ (k : ℕ). can_be_made k ≡ true) (sym e) m in absurd cc

  made_fits : (o : Option ℕ) → ((class : ℕ) → o ≡ Some class → can_be_made class ≡ true → IsClassOf p class) → Fits (IsNewTarget p) (made_target o)
  made_fits None h e = absurd cc
  made_fits (Some class) h e = cond_both (can_be_made class) (Ok (targets.Class class)) (Err L2) (Fits (IsNewTarget p)) (λ b e. (h class refl b, b)) (λ b. refused (IsNewTarget p) L2) e

  new_fits : (o : Option Constant) → Fits (IsNewTarget p) (new_target s pool o)
  new_fits (Some (constants.Class name)) e = made_fits (named_class s.names (text_at pool name)) (made_in (text_at pool name)) e
  new_fits o e = absurd cc

  -- the target of an instruction
  pub target_fits : (op : Op) → result_err (target_of s site pool op) ≡ None → IsTargetOf p site op (result_unwrap_or (target_of s site pool op) targets.Nothing)
  target_fits (Ldc i) e = loaded_fits (slice_get pool i) (entry_fits pool i entries) e
  target_fits (LdcW i) e = loaded_fits (slice_get pool i) (entry_fits pool i entries) e
  target_fits (Getstatic i) e = field_fits true false (slice_get pool i) e
  target_fits (Putstatic i) e = field_fits true true (slice_get pool i) e
  target_fits (Getfield i) e = field_fits false false (slice_get pool i) e
  target_fits (Putfield i) e = field_fits false true (slice_get pool i) e
  target_fits (Invokevirtual i) e = method_fits Virtual (slice_get pool i) e
  target_fits (Invokespecial i) e = method_fits Special (slice_get pool i) e
  target_fits (Invokestatic i) e = method_fits Static (slice_get pool i) e
  target_fits (New i) e = new_fits (slice_get pool i) e
  target_fits op e = refl

  caught_fits : (o : Option ℕ) → ((class : ℕ) → o ≡ Some class → IsClassOf p class) → result_err (class_or_fault o) ≡ None → IsCaught p (result_unwrap_or (class_or_fault o) 0)
  caught_fits None h e = absurd cc
  caught_fits (Some class) h e = inr (h class refl)

  -- the class that a handler row catches
  pub catch_fits : (i : ℕ) → result_err (catch_class s pool i) ≡ None → IsCaught p (result_unwrap_or (catch_class s pool i) 0)
  catch_fits zero e = inl refl
  catch_fits (suc i) e = caught_fits (class_number s.names (class_text_at pool (suc i))) (class_in (class_text_at pool (suc i))) e
