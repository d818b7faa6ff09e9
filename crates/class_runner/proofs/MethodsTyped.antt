-- Verifying stops at the first method that has no typing.
use Rattle.std.proofs.Common.{ℕ, ◌+◌, ◌<◌, List, ◌++◌, length, drop, slice_get}
use Rattle.jvm_types.specs.{Members.{Declared, declared_from}, Verifying.{IsTypingOf, IsRefused}, declared.{class_file.{Constant.Constant, Member.Member}, program.Program.Program}}
use Rattle.jvm_types.specs.declared.{refusal.Rule.TheVariants.{C, K, L, V, S, A}, typing.Typing.Typing}
use Rattle.class_runner.{specs.{Stages.{IsUntypedAt, IsUnverified, AreTypedSoFar}, declared.loading.FileError.{FileError, TheVariants.{Memory, Refused}}}, proofs.MethodsFound.method_stops}

pub stops : (p : Program) (file : ℕ) (pool : List Constant) (i : ℕ) (ms : List Member) (left all : List Declared) (typings : List Typing) (e : FileError) → i < length ms
    → IsUntypedAt p (slice_get p.methods (length typings)) file i e → AreTypedSoFar p (declared_from file pool i (drop i ms) ++ left) all typings → IsUnverified p all p.methods e
stops p file pool i ms left all typings Memory within untyped so_far = tt
stops p file pool i ms left all typings (Refused (V rule) place) within untyped so_far = method_stops (IsTypingOf p) (IsRefused p) p.methods file pool i ms left all typings rule place within untyped so_far
stops p file pool i ms left all typings (Refused (C rule) place) within untyped so_far = absurd untyped
stops p file pool i ms left all typings (Refused (K rule) place) within untyped so_far = absurd untyped
stops p file pool i ms left all typings (Refused (L rule) place) within untyped so_far = absurd untyped
stops p file pool i ms left all typings (Refused (S rule) place) within untyped so_far = absurd untyped
stops p file pool i ms left all typings (Refused (A rule) place) within untyped so_far = absurd untyped
