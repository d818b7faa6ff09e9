use Rattle.std.proofs.Common.{◌≡◌, ap, arith, length, rules}
use Rattle.refusal_places.proofs.Spelled.{as_many}
use Rattle.refusal_places.proofs.explaining.explained_refusal.Goals as goal

pub tell_told-requires : goal.tell_told-requires
tell_told-requires c =
    let same : c.as_slice-2.result.now ≡ c.in_ok-classes.classes = search rules in
    omega (arith, c.requires, ap length same, as_many c.args.contents.now c.in_ok-classes.classes c.in_ok-classes.ensures)
