-- Laws of lock tagging, over every program and method.
use Rattle.std.specs.Prelude.{◌≡◌, ℕ, ◌⊎◌, List, Option}
use Rattle.jvm_types.specs.Types.{TypeFrame}
use Rattle.jvm_types.specs.Verifying.{HasTyping, IsLaidOut}
use Rattle.jvm_types.specs.declared.program.MethodInfo.{MethodInfo}
use Rattle.jvm_types.specs.declared.program.Program.{Program}
use Rattle.jvm_types.specs.declared.refusal.SRule.{SRule}
use Rattle.checked_program.specs.LockTags.{TagShape}
use Rattle.checked_program.specs.Tagging.{HasTagging, IsTagRefused, IsTagAssignment}

-- The local law: no instruction breaks a rule, and each edge brings the held list and the tags of
-- its target. Tagging has no rule against falling off the end of the code; so the method has a
-- typing.
abbrev pub TagLocalLaw : Type 0
TagLocalLaw =
    (p : Program) (m : MethodInfo) (types : List (Option TypeFrame))
    (frames : List (Option TagShape)) → IsLaidOut m → HasTyping p m types
    → HasTagging p m frames → IsTagAssignment p m frames

-- a method has at most one tagging
abbrev pub OneTagging : Type 0
OneTagging =
    (p : Program) (m : MethodInfo) (frames others : List (Option TagShape)) → HasTagging p m frames
    → HasTagging p m others → frames ≡ others

-- no method that has a tagging is refused
abbrev pub TaggedNotRefused : Type 0
TaggedNotRefused =
    (p : Program) (m : MethodInfo) (frames : List (Option TagShape)) (rule : SRule) (pc : ℕ)
    → HasTagging p m frames → IsTagRefused p m rule pc → ⊥

-- a method is refused by at most one rule, at one pc
abbrev pub OneTagRefusal : Type 0
OneTagRefusal =
    (p : Program) (m : MethodInfo) (rule other : SRule) (pc at : ℕ) → IsTagRefused p m rule pc
    → IsTagRefused p m other at → (rule ≡ other) × (pc ≡ at)

-- the visits end: a method as linking leaves it has a tagging, or it is refused
abbrev pub TaggedOrRefused : Type 0
TaggedOrRefused =
    (p : Program) (m : MethodInfo) → IsLaidOut m
    → ((frames : List (Option TagShape)) × HasTagging p m frames)
    ⊎ ((rule : SRule) × (pc : ℕ) × IsTagRefused p m rule pc)
