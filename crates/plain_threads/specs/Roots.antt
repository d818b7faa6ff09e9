-- The methods that a part begins with, by their kind.
use Rattle.std.specs.Prelude.{codes, Bool}
use Rattle.jvm_types.specs.Members.{is_class_init_name}
use Rattle.jvm_types.specs.declared.program.MethodInfo.{MethodInfo}
use Rattle.machine_types.specs.Parts.{is_entry_named}
use Rattle.plain_threads.specs.declared.roots.Root.{Root}
use Rattle.plain_threads.specs.declared.roots.Root.TheVariants.{ClassInit, Init, Run, Done}

abbrev pub is_plain_root : Root → MethodInfo → Bool
is_plain_root ClassInit m = is_class_init_name m.name
is_plain_root Init m = is_entry_named (codes "init") (codes "()V") m
is_plain_root Run m = is_entry_named (codes "run") (codes "(I)V") m
is_plain_root Done m = is_entry_named (codes "done") (codes "()V") m
