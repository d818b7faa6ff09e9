use Rattle.std.{proofs.Common.{◌≡◌, drop, fold, map, ℕ, List}, specs.Borrow.Bor}
use Rattle.clap.specs.Simple.{app_of, new_app}
use Rattle.command_words.specs.Words.{with_option}
use Rattle.command_words.proofs.found_words.simple_command.Given as goal

-- the command so far, with the options that are left, is the one with all options
abbrev pub invariant-loop-option : goal.invariant-loop-option
invariant-loop-option l = fold with_option (app_of l.command) (map (λ (o : Bor (List ℕ)). o.now) (drop l.option-index l.options)) ≡ fold with_option (new_app l.program) (map (λ (o : Bor (List ℕ)). o.now) l.options)
