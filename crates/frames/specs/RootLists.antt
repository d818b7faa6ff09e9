-- The methods that a thread begins with: those that its part has still to run, and those of its
-- later part.
use Rattle.std.specs.Prelude.{ℕ, zero, suc, codes, Bool, List, []}
use Rattle.jvm_types.specs.Members.{is_class_init_name}
use Rattle.jvm_types.specs.declared.program.MethodInfo.{MethodInfo}
use Rattle.jvm_types.specs.declared.program.Program.{Program}
use Rattle.machine_types.specs.Parts.{is_entry_named, init_roots, run_roots, done_roots}
use Rattle.frames.specs.declared.roots.Root.{Root}
use Rattle.frames.specs.declared.roots.Root.TheVariants.{ClassInit, Init, Run, Done}

pub record RootLists : Type 0 where
  pub left : List ℕ
  pub later : List ℕ

abbrev pub is_root : Root → MethodInfo → Bool
is_root ClassInit m = is_class_init_name m.name
is_root Init m = is_entry_named (codes "init") (codes "()V") m
is_root Run m = is_entry_named (codes "run") (codes "(I)V") m
is_root Done m = is_entry_named (codes "done") (codes "()V") m

-- of thread 0, which runs `init` and then `done`, and of the workers

abbrev pub first_roots : Program → (number : ℕ) → List ℕ
first_roots p zero = init_roots p
first_roots p (suc t) = []

abbrev pub later_roots : Program → (number : ℕ) → List ℕ
later_roots p zero = done_roots p
later_roots p (suc t) = run_roots p
