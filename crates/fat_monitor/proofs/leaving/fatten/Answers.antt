use Rattle.std.proofs.Common.{◌≡◌, ap, Some, ℕ}
use Rattle.machine_types.specs.HeldMonitors.{held_at}
use Rattle.fat_monitor.proofs.HeldFits.{held_is_of}
use Rattle.fat_monitor.proofs.leaving.fatten.Goals as goal

pub put_held-requires : goal.put_held-requires
put_held-requires c none =
    let found : held_at c.args.s.now.held c.args.monitor ≡ Some c.in-Some.h = cc in
    let own : c.in-Some.h.monitor ≡ c.args.monitor = held_is_of c.args.s.now.held c.args.monitor c.in-Some.h found in
    let same : held_at c.args.s.now.held c.in-Some.h.monitor ≡ held_at c.args.s.now.held c.args.monitor = ap (λ (m : ℕ). held_at c.args.s.now.held m) own in
    absurd (cc)
