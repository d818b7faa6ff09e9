use Rattle.fat_monitor.proofs.HeldFits.{kept_fits}
use Rattle.fat_monitor.proofs.asking.ask_last_exit.Goals as goal

pub release-requires-clause-kept : goal.release-requires-clause-kept
release-requires-clause-kept c = kept_fits c.args.s.now.held c.args.monitor c.in-Some.h c.requires.kept (cc)
