-- No instruction makes an object that is larger than the heap.
use Rattle.std.proofs.Common.{◌≤◌, ℕ, List, arith}
use Rattle.std.proofs.lemmas.Bool.Decides.{nat_tests}
use Rattle.jvm_types.specs.{ProgramInvariant.IsProgram, declared.{code.Op.Op, program.{Program.Program, Target.Target}}}
use Rattle.checked_program.proofs.FewFields.{few_fields}
use Rattle.machine_types.{specs.{Frames.{Top, effect_at}, Ints.low, declared.effect.Effect.Effect}, proofs.EffectCases.{Comes, makes_object, makes_int_array, comes}}
use Rattle.history_rule.specs.Small.{MakesSmall}

small : (p : Program) → IsProgram p → (next : ℕ) (target : Target) (op : Op) (s : List ℕ) (e : Effect) → Comes p 0 next target op s e → MakesSmall e
small p is next _ _ _ _ (makes_object class op s k) = let few = few_fields p class is in omega (arith, few)
small p is next _ _ _ _ (makes_int_array target n s room) = let most = is.heap_to in let few : low n ≤ p.heap = grind (arith, nat_tests, room) in omega (arith, most, few)
small p is next target op s e k = tt

pub top_small : (p : Program) → IsProgram p → (at : Top) → MakesSmall (effect_at p at)
top_small p is at = small p is at.insn.next at.target at.insn.op at.frame.stack _ (comes p 0 at.insn.next at.target at.insn.op at.frame.locals at.frame.stack)
