use Rattle.cooperative.specs.Lost.{AreListed}
use Rattle.cooperative.proofs.losing.listed.Given as goal

abbrev pub invariant-loop-at : goal.invariant-loop-at
invariant-loop-at l = AreListed l.ranks l.distances l.numbers l.made l.at
