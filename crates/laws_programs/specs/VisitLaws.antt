-- Laws of the visits of a method (JVMS 4.10.2): the answer is one, and there is one. The order of
-- visits is fixed, so that a typing and a refusal are known by the method alone.
use Rattle.std.specs.Prelude.{◌≡◌, ℕ, ◌⊎◌, List, Option}
use Rattle.jvm_types.specs.Types.{TypeFrame}
use Rattle.jvm_types.specs.Verifying.{HasTyping, IsTypingOf, IsRefused, IsLaidOut}
use Rattle.jvm_types.specs.declared.program.MethodInfo.{MethodInfo}
use Rattle.jvm_types.specs.declared.program.Program.{Program}
use Rattle.jvm_types.specs.declared.refusal.VRule.{VRule}
use Rattle.jvm_types.specs.declared.typing.Typing.{Typing}

-- a method has at most one list of frames
abbrev pub OneTyping : Type 0
OneTyping =
    (p : Program) (m : MethodInfo) (frames others : List (Option TypeFrame)) → HasTyping p m frames
    → HasTyping p m others → frames ≡ others

-- and so at most one typing
abbrev pub OneTypingOf : Type 0
OneTypingOf =
    (p : Program) (m : MethodInfo) (typing other : Typing) → IsTypingOf p m typing
    → IsTypingOf p m other → typing ≡ other

-- no method that has a typing is refused
abbrev pub TypedNotRefused : Type 0
TypedNotRefused =
    (p : Program) (m : MethodInfo) (frames : List (Option TypeFrame)) (rule : VRule) (pc : ℕ)
    → HasTyping p m frames → IsRefused p m rule pc → ⊥

-- a method is refused by at most one rule, at one pc
abbrev pub OneRefusal : Type 0
OneRefusal =
    (p : Program) (m : MethodInfo) (rule other : VRule) (pc at : ℕ) → IsRefused p m rule pc
    → IsRefused p m other at → (rule ≡ other) × (pc ≡ at)

-- the visits end: a method as linking leaves it has a typing, or it is refused
abbrev pub TypedOrRefused : Type 0
TypedOrRefused =
    (p : Program) (m : MethodInfo) → IsLaidOut m
    → ((frames : List (Option TypeFrame)) × HasTyping p m frames)
    ⊎ ((rule : VRule) × (pc : ℕ) × IsRefused p m rule pc)
