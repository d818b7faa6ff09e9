-- The frame that a method begins with, and its arguments.
use Rattle.std.specs.Prelude.{◌≡◌, ℕ, ◌+◌, ◌<◌, ◌≤◌, false, List, length, Option, Some, slice_get}
use Rattle.std.specs.Prelude.{if◌then◌else◌}
use Rattle.jvm_types.specs.CodeTable.{type_of, is_init}
use Rattle.jvm_types.specs.Members.{is_static}
use Rattle.jvm_types.specs.Types.{TypeFrame, entry_type_frame}
use Rattle.jvm_types.specs.Verifying.{HasTyping, IsLaidOut}
use Rattle.jvm_types.specs.declared.program.Kind.{Kind}
use Rattle.jvm_types.specs.declared.program.MethodInfo.{MethodInfo}
use Rattle.jvm_types.specs.declared.program.Program.{Program}
use Rattle.jvm_types.specs.declared.typing.VType.TheVariants.{Ref, This, Top}

-- how many locals the receiver takes
abbrev pub receiver_count : MethodInfo → ℕ
receiver_count m = if is_static m.flags then 0 else 1

-- receiver and arguments of a typed method fit in its locals
abbrev pub ArgumentsFit : Type 0
ArgumentsFit =
    (p : Program) (m : MethodInfo) (frames : List (Option TypeFrame)) → IsLaidOut m
    → HasTyping p m frames → receiver_count m + length m.args ≤ m.max_locals

-- so its entry frame has max_locals locals
abbrev pub EntryFramesFit : Type 0
EntryFramesFit =
    (p : Program) (m : MethodInfo) (frames : List (Option TypeFrame)) → IsLaidOut m
    → HasTyping p m frames → length (entry_type_frame m).locals ≡ m.max_locals

-- `this` is in local 0 of an instance method, uninitialised in an `<init>`
abbrev pub EntryHasReceiver : Type 0
EntryHasReceiver =
    (m : MethodInfo) → is_static m.flags ≡ false
    → slice_get (entry_type_frame m).locals 0 ≡ Some (if is_init m then This else Ref m.class)

-- the arguments follow in their order
abbrev pub EntryHasArguments : Type 0
EntryHasArguments =
    (m : MethodInfo) (i : ℕ) (kind : Kind) → slice_get m.args i ≡ Some kind
    → slice_get (entry_type_frame m).locals (receiver_count m + i) ≡ Some (type_of kind)

-- and nothing is known of the other locals
abbrev pub EntryHasNoMore : Type 0
EntryHasNoMore =
    (m : MethodInfo) (i : ℕ) → receiver_count m + length m.args ≤ i → i < m.max_locals
    → slice_get (entry_type_frame m).locals i ≡ Some Top
