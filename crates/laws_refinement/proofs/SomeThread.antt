-- What a run comes to has a report of a thread.
use Rattle.std.proofs.{Common.{◌<◌, List, length, arith}, lemmas.List.length-map}
use Rattle.checked_program.specs.MarkedProgram.{MarkedProgram}
use Rattle.machine_types.specs.{Core.{Happening, core, outcome, report_of}, declared.config.Config.Config}
use Rattle.laws_states.proofs.GrowingRuns.{runs_keep_sizes}

pub some_thread : (c : MarkedProgram) (cfg : Config) (hs : List Happening) → 0 < length (outcome (core c cfg hs)).threads
some_thread c cfg hs = let sizes = runs_keep_sizes c cfg hs in let many = sizes.threads in omega (arith, length-map (core c cfg hs).threads report_of, many)
