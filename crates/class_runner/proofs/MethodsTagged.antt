-- Tagging stops at the first method that has no lock tags.
use Rattle.std.proofs.Common.{ℕ, ◌+◌, ◌<◌, List, ◌++◌, length, drop, slice_get}
use Rattle.jvm_types.specs.{Members.{Declared, declared_from}, declared.{class_file.{Constant.Constant, Member.Member}, program.Program.Program, refusal.Rule.TheVariants.{C, K, L, V, S, A}}}
use Rattle.checked_program.specs.{Tagging.{IsTaggingOf, IsTagRefused}, declared.tag.Tags.Tags}
use Rattle.class_runner.{specs.{Stages.{IsUntaggedAt, IsNotTagged, AreTaggedSoFar}, declared.loading.FileError.{FileError, TheVariants.{Memory, Refused}}}, proofs.MethodsFound.method_stops}

pub stops : (p : Program) (file : ℕ) (pool : List Constant) (i : ℕ) (ms : List Member) (left all : List Declared) (tags : List Tags) (e : FileError) → i < length ms
    → IsUntaggedAt p (slice_get p.methods (length tags)) file i e → AreTaggedSoFar p (declared_from file pool i (drop i ms) ++ left) all tags → IsNotTagged p all p.methods e
stops p file pool i ms left all tags Memory within untagged so_far = tt
stops p file pool i ms left all tags (Refused (S rule) place) within untagged so_far = method_stops (IsTaggingOf p) (IsTagRefused p) p.methods file pool i ms left all tags rule place within untagged so_far
stops p file pool i ms left all tags (Refused (C rule) place) within untagged so_far = absurd untagged
stops p file pool i ms left all tags (Refused (K rule) place) within untagged so_far = absurd untagged
stops p file pool i ms left all tags (Refused (L rule) place) within untagged so_far = absurd untagged
stops p file pool i ms left all tags (Refused (V rule) place) within untagged so_far = absurd untagged
stops p file pool i ms left all tags (Refused (A rule) place) within untagged so_far = absurd untagged
