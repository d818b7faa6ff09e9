use Rattle.std.proofs.{Common.{ℕ, ◌*◌, ◌^◌, sym, ap, ◌∙◌}, lemmas.Nat.mul-mod}
use Rattle.machine_types.specs.Ints.{low}
use Rattle.instr_effects.proofs.ints.multiply.Goals as goal

pub returns : goal.returns
returns c = c.low-3.ensures.word
    ∙ ap (λ (n : ℕ). low (n * c.low-2.result)) c.low.ensures.word
    ∙ ap (λ (n : ℕ). low (low c.args.a * n)) c.low-2.ensures.word
    ∙ sym (mul-mod c.args.a c.args.b (2 ^ 32))
