-- The command is one of which clap states the matches.
use Rattle.std.proofs.Common.{◌≡◌, true, ap}
use Rattle.clap.specs.{Faults.is_simple_and_free, Simple.{App, is_simple}}
use Rattle.solero_explain.specs.Command.{explain_app}

pub is_a_simple_command : (a : App) → a ≡ explain_app → is_simple a ≡ true
is_a_simple_command a is = ap is_simple is

pub is_a_free_command : (a : App) → a ≡ explain_app → is_simple_and_free a ≡ true
is_a_free_command a is = ap is_simple_and_free is
