use Rattle.std.proofs.{Common.{ℕ, ◌*◌, ◌%◌, ◌^◌, ap, ◌∙◌}, lemmas.Nat.mul-mod_first}
use Rattle.machine_types.specs.Ints.{low, shift_of}
use Rattle.instr_effects.proofs.ints.shift_left.Goals as goal

pub returns : goal.returns
returns c = ap (λ (n : ℕ). n * 2 ^ c.shift.result % 2 ^ 32) c.low.ensures.word
    ∙ ap (λ (s : ℕ). low c.args.a * 2 ^ s % 2 ^ 32) c.shift.ensures.shift
    ∙ mul-mod_first c.args.a (2 ^ shift_of c.args.b) (2 ^ 32)
