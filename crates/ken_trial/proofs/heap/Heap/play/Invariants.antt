use Rattle.ken_trial.proofs.heap.Heap.play.Given as goal

abbrev pub ghosts-turn_by : goal.ghosts-turn_by
ghosts-turn_by g a = record { draws = a.draws.now }
