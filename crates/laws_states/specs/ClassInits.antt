-- A `<clinit>` runs in `init` alone, where no worker has begun: no instruction calls one (JVMS
-- 2.9), and the parts that begin behind `init` have other roots.
use Rattle.std.specs.Prelude.{◌≡◌, ℕ, zero, suc, false, List, IfSome, Some, slice_get}
use Rattle.std.specs.List.{AllByRecursion}
use Rattle.jvm_types.specs.Members.{is_class_init_name}
use Rattle.jvm_types.specs.declared.program.MethodInfo.{MethodInfo}
use Rattle.jvm_types.specs.declared.program.Program.{Program}
use Rattle.machine_types.specs.Threads.{Thread}

-- no `<clinit>` has the number
abbrev pub IsNoClassInit : Program → (number : ℕ) → Type 0
IsNoClassInit p number =
    (m : MethodInfo) → slice_get p.methods number ≡ Some m → is_class_init_name m.name ≡ false

-- no frame is one of a `<clinit>`, and none is put back
pub record RunsNoClassInit (p : Program) (x : Thread) : Type 0 where
  pub frames : AllByRecursion (λ f. IsNoClassInit p f.method) x.frames
  pub entry : IfSome x.attempt (λ a. IsNoClassInit p a.entry.method)

-- by the number of a thread, and how many parts it has seen begin
abbrev pub IsBehindInit : (number part : ℕ) → Type 0
IsBehindInit (suc number) part = Unit {0}
IsBehindInit zero zero = ⊥
IsBehindInit zero (suc zero) = ⊥
IsBehindInit zero (suc (suc part)) = Unit {0}

abbrev pub ClassInitsComeFirst : Program → List Thread → Type 0
ClassInitsComeFirst p threads =
    (t : ℕ) (x : Thread) → slice_get threads t ≡ Some x → IsBehindInit t x.part
    → RunsNoClassInit p x
