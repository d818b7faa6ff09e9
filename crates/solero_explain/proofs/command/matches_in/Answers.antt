use Rattle.solero_explain.proofs.Commands.{is_a_free_command, is_a_simple_command}
use Rattle.solero_explain.proofs.command.matches_in.Goals as goal

pub found_in-requires-clause-simple : goal.found_in-requires-clause-simple
found_in-requires-clause-simple c = is_a_simple_command _ c.in_ok-command.ensures

pub found_in-requires-clause-free : goal.found_in-requires-clause-free
found_in-requires-clause-free c = is_a_free_command _ c.in_ok-command.ensures

pub returns : goal.returns
returns c = rw c.in_ok-command.ensures at c.found_in.ensures
