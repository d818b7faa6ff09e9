-- No row of the table of instructions leaves more than six values on the stack: of all instructions of the standard `dup2_x2` leaves the most.
use Rattle.std.{proofs.Common.{ℕ, ◌≤◌, length, Option, Some, None, arith, slice_get}, specs.Option.{option_map, option_to_list}}
use Rattle.jvm_types.specs.{CodeTable.{move_row, type_of, row, constant_row, get_static_row, get_row, put_row, put_static_row, virtual_row, special_row, static_row}, declared.code.Op.Op}
use Rattle.jvm_types.specs.declared.{op_row.{Given.TheVariants.Fresh, OpRow.OpRow}, program.{Kind.Kind, MethodInfo.MethodInfo, Program.Program, Target.Target}}
use Rattle.jvm_types.specs.declared.code.Op.TheVariants as ops
use Rattle.jvm_types.specs.declared.stack_move.StackMove.{StackMove}
use Rattle.jvm_types.specs.declared.stack_move.StackMove.TheVariants as moves
use Rattle.jvm_types.specs.declared.program.Target.TheVariants as targets

few_results : (r : Option Kind) → length (option_to_list (option_map (λ kind. Fresh (type_of kind)) r)) ≤ 6
few_results None = omega arith
few_results (Some kind) = omega arith

by_option : {X : Type 0} (rows : Option X → OpRow) → length (rows None).gives ≤ 6 → ((x : X) → length (rows (Some x)).gives ≤ 6) → (o : Option X) → length (rows o).gives ≤ 6
by_option rows none some None = none
by_option rows none some (Some x) = some x

few_constant : (p : Program) (pc : ℕ) (target : Target) (op : Op) → length (constant_row p pc target op).gives ≤ 6
few_constant p pc (targets.Field f) (ops.Getstatic i) = by_option get_static_row (omega arith) (λ field. omega arith) (slice_get p.fields f)
few_constant p pc (targets.Field f) (ops.Putstatic i) = by_option put_static_row (omega arith) (λ field. omega arith) (slice_get p.fields f)
few_constant p pc (targets.Field f) (ops.Getfield i) = by_option get_row (omega arith) (λ field. omega arith) (slice_get p.fields f)
few_constant p pc (targets.Field f) (ops.Putfield i) = by_option put_row (omega arith) (λ field. omega arith) (slice_get p.fields f)
few_constant p pc (targets.Method f) (ops.Invokevirtual i) = by_option virtual_row (omega arith) (λ called. few_results called.result) (slice_get p.methods f)
few_constant p pc (targets.Method f) (ops.Invokespecial i) = by_option special_row (omega arith) (λ called. few_results called.result) (slice_get p.methods f)
few_constant p pc (targets.Method f) (ops.Invokestatic i) = by_option static_row (omega arith) (λ called. few_results called.result) (slice_get p.methods f)
few_constant p pc target op = omega arith

few_moved : (move : StackMove) → length (move_row move).gives ≤ 6
few_moved moves.Pop = omega arith
few_moved move = omega arith

pub few_given : (p : Program) (m : MethodInfo) (pc : ℕ) (target : Target) (op : Op) → length (row p m pc target op).gives ≤ 6
few_given p m pc target (ops.Ldc i) = few_constant p pc target (ops.Ldc i)
few_given p m pc target (ops.LdcW i) = few_constant p pc target (ops.LdcW i)
few_given p m pc target (ops.Getstatic i) = few_constant p pc target (ops.Getstatic i)
few_given p m pc target (ops.Putstatic i) = few_constant p pc target (ops.Putstatic i)
few_given p m pc target (ops.Getfield i) = few_constant p pc target (ops.Getfield i)
few_given p m pc target (ops.Putfield i) = few_constant p pc target (ops.Putfield i)
few_given p m pc target (ops.Invokevirtual i) = few_constant p pc target (ops.Invokevirtual i)
few_given p m pc target (ops.Invokespecial i) = few_constant p pc target (ops.Invokespecial i)
few_given p m pc target (ops.Invokestatic i) = few_constant p pc target (ops.Invokestatic i)
few_given p m pc target (ops.New i) = few_constant p pc target (ops.New i)
few_given p m pc target (ops.Stack move) = few_moved move
few_given p m pc target op = omega arith
