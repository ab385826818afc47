use Rattle.layers.specs.Narrowed.{AreNarrowed}
use Rattle.layers.proofs.narrowing.narrowed.Given as goal

abbrev pub invariant-loop-at : goal.invariant-loop-at
invariant-loop-at l = AreNarrowed l.numbers l.made.items l.at
