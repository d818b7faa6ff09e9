use Rattle.std.proofs.Common.{◌≡◌, ℕ, ap}
use Rattle.machine_types.specs.HeldMonitors.{held_at}
use Rattle.fat_monitor.proofs.HeldFits.{held_is_of}
use Rattle.fat_monitor.proofs.again.put_depth.Goals as goal

pub put_held-requires : goal.put_held-requires
put_held-requires c none =
    let own : c.args.held.monitor ≡ c.args.monitor = held_is_of c.args.s.now.held c.args.monitor c.args.held c.requires in
    let same : held_at c.args.s.now.held c.args.held.monitor ≡ held_at c.args.s.now.held c.args.monitor = ap (λ (m : ℕ). held_at c.args.s.now.held m) own in
    absurd (cc)
