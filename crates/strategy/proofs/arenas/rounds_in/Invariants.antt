use Rattle.strategy.specs.Found.{AreRounds}
use Rattle.strategy.proofs.arenas.rounds_in.Given as goal

abbrev pub invariant-loop-at : goal.invariant-loop-at
invariant-loop-at l = AreRounds l.losses l.made.items l.at
