use Rattle.latch_cell.proofs.steps.take.Given as goal

abbrev pub ghosts-take_by : goal.ghosts-take_by
ghosts-take_by a = record { values = a._values.now }
