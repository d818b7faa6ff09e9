use Rattle.std.proofs.{Common.{arith, ◌≡◌, true, false}, lemmas.Grind.common_steps}
use Rattle.host_io.specs.ListShelf.{is_failing}
use Rattle.host_io.proofs.shelf.ListShelfShelf.read_file.Goals as goal

-- the file is there and the call is not on the list, so it does not fail
pub returns-in-Some-clause-failed : goal.returns-in-Some-clause-failed
returns-in-Some-clause-failed c =
    let calm : is_failing c.args.self.now c.args.name.now ≡ false = grind (arith, common_steps) in
    (λ e. absurd (c.copied_within.ensures.failed e), λ t. absurd (let apart : false ≡ true = rw calm at t in cc))
