-- What the constant of an instruction names (JVMS 5.4.3, 6.5), or the rule that refuses it. At one
-- instruction L1 is tested first, then L2, L3 and L7.
use Rattle.std.specs.Prelude.{ℕ, zero, suc, Bool, true, false, List, [], Option, Some, None}
use Rattle.std.specs.Prelude.{is_some, slice_get, if◌then◌else◌}
use Rattle.std.specs.declared.result.Result.{Result}
use Rattle.std.specs.declared.result.Result.TheVariants.{Ok, Err}
use Rattle.jvm_types.specs.ClassNames.{text_at, class_text_at, named_class, class_number}
use Rattle.jvm_types.specs.ClassNames.{can_be_made}
use Rattle.jvm_types.specs.Descriptors.{field_kind, method_signature}
use Rattle.jvm_types.specs.Members.{Entry, MethodSite, look_up, field_rule, call_rule}
use Rattle.jvm_types.specs.declared.call.Call.{Call}
use Rattle.jvm_types.specs.declared.call.Call.TheVariants.{Virtual, Special, Static}
use Rattle.jvm_types.specs.declared.class_file.Constant.{Constant}
use Rattle.jvm_types.specs.declared.class_file.Constant.TheVariants as constants
use Rattle.jvm_types.specs.declared.code.Op.{Op}
use Rattle.jvm_types.specs.declared.code.Op.TheVariants.{Ldc, LdcW, Getstatic, Putstatic, Getfield}
use Rattle.jvm_types.specs.declared.code.Op.TheVariants.{Putfield, Invokevirtual, Invokespecial}
use Rattle.jvm_types.specs.declared.code.Op.TheVariants.{Invokestatic, New}
use Rattle.jvm_types.specs.declared.program.Target.{Target}
use Rattle.jvm_types.specs.declared.program.Target.TheVariants as targets
use Rattle.jvm_types.specs.declared.refusal.LRule.{LRule}
use Rattle.jvm_types.specs.declared.refusal.LRule.TheVariants.{L1, L2}

-- what the names of a program may name: its classes in order, and all fields and methods, the
-- built-in ones included
pub record Scope : Type 0 where
  pub names : List (List ℕ)
  pub fields : List Entry
  pub methods : List Entry

-- ---- a member

abbrev pub unless_refused : Option LRule → Target → Result Target LRule
unless_refused None target = Ok target
unless_refused (Some rule) target = Err rule

-- the member that was found, where the rule allows it
abbrev pub found_target : (Entry → Option LRule) → Option Entry → Result Target LRule
found_target rule None = Err L2
found_target rule (Some e) = unless_refused (rule e) e.target

-- a member of the named class, by its name and descriptor, where both the class and the descriptor
-- are of this machine
abbrev pub member_target : (Entry → Option LRule) → List Entry → Option ℕ → Bool → List ℕ → List ℕ
    → Result Target LRule
member_target rule entries None described name descriptor = Err L1
member_target rule entries (Some class) described name descriptor =
    if described then found_target rule (look_up entries class name descriptor) else Err L1

-- the name and the descriptor of a NameAndType entry (JVMS 4.4.6)
abbrev pub member_name : List Constant → Option Constant → List ℕ
member_name pool (Some (constants.NameAndType name descriptor)) = text_at pool name
member_name pool entry = []

abbrev pub member_descriptor : List Constant → Option Constant → List ℕ
member_descriptor pool (Some (constants.NameAndType name descriptor)) = text_at pool descriptor
member_descriptor pool entry = []

-- a class by the index of its Class entry
abbrev pub class_at_index : Scope → List Constant → ℕ → Option ℕ
class_at_index s pool i = named_class s.names (class_text_at pool i)

-- what a field constant names to an instruction for static fields or not, which writes or not (JVMS
-- 5.4.3.2). A constant of another kind is not looked into.
abbrev pub field_target : Scope → MethodSite → List Constant → (static writes : Bool)
    → Option Constant → Result Target LRule
field_target s site pool static writes (Some (constants.Field class member)) =
    let name : List ℕ = member_name pool (slice_get pool member) in
    let descriptor : List ℕ = member_descriptor pool (slice_get pool member) in
    member_target (λ e. field_rule static writes site e.class e.flags) s.fields
    (class_at_index s pool class) (is_some (field_kind s.names descriptor)) name descriptor
field_target s site pool static writes entry = Err L2

-- what a method constant names to a call (JVMS 5.4.3.3). An interface's method is a constant of
-- another kind.
abbrev pub method_target : Scope → MethodSite → List Constant → Call → Option Constant
    → Result Target LRule
method_target s site pool call (Some (constants.Method class member)) =
    let name : List ℕ = member_name pool (slice_get pool member) in
    let descriptor : List ℕ = member_descriptor pool (slice_get pool member) in
    member_target (λ e. call_rule call site e.class e.name e.flags) s.methods
    (class_at_index s pool class) (is_some (method_signature s.names descriptor)) name
    descriptor
method_target s site pool call entry = Err L2

-- ---- a number or a class

-- what `ldc` loads: an int. The standard loads floats, strings and classes too; they are of a type
-- that this machine has not.
abbrev pub loaded_target : Option Constant → Result Target LRule
loaded_target (Some (constants.Integer n)) = Ok (targets.Value n)
loaded_target (Some (constants.Float n)) = Err L1
loaded_target (Some (constants.Long n)) = Err L1
loaded_target (Some (constants.Double n)) = Err L1
loaded_target (Some (constants.Text string)) = Err L1
loaded_target (Some (constants.Class name)) = Err L1
loaded_target entry = Err L2

abbrev pub made_target : Option ℕ → Result Target LRule
made_target None = Err L1
made_target (Some class) = if can_be_made class then Ok (targets.Class class) else Err L2

-- the class that `new` names (JVMS 5.4.3.1)
abbrev pub new_target : Scope → List Constant → Option Constant → Result Target LRule
new_target s pool (Some (constants.Class name)) =
    made_target (named_class s.names (text_at pool name))
new_target s pool entry = Err L2

-- ---- all instructions

abbrev pub target_of : Scope → MethodSite → List Constant → Op → Result Target LRule
target_of s site pool (Ldc i) = loaded_target (slice_get pool i)
target_of s site pool (LdcW i) = loaded_target (slice_get pool i)
target_of s site pool (Getstatic i) = field_target s site pool true false (slice_get pool i)
target_of s site pool (Putstatic i) = field_target s site pool true true (slice_get pool i)
target_of s site pool (Getfield i) = field_target s site pool false false (slice_get pool i)
target_of s site pool (Putfield i) = field_target s site pool false true (slice_get pool i)
target_of s site pool (Invokevirtual i) = method_target s site pool Virtual (slice_get pool i)
target_of s site pool (Invokespecial i) = method_target s site pool Special (slice_get pool i)
target_of s site pool (Invokestatic i) = method_target s site pool Static (slice_get pool i)
target_of s site pool (New i) = new_target s pool (slice_get pool i)
target_of s site pool op = Ok targets.Nothing

-- ---- handler rows

abbrev pub class_or_fault : Option ℕ → Result ℕ LRule
class_or_fault None = Err L1
class_or_fault (Some class) = Ok class

-- The class that a handler row catches (JVMS 4.7.3), 0 for every one. Any class with a number may
-- stand there; that it is a throwable is for the verifier.
abbrev pub catch_class : Scope → List Constant → ℕ → Result ℕ LRule
catch_class s pool zero = Ok 0
catch_class s pool (suc i) = class_or_fault (class_number s.names (class_text_at pool (suc i)))
