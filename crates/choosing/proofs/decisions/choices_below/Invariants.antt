use Rattle.choosing.specs.Found.{IsRight}
use Rattle.choosing.specs.Choices.{AreChoicesBelow}
use Rattle.choosing.proofs.decisions.choices_below.Given as goal

abbrev pub invariant-loop-at : goal.invariant-loop-at
invariant-loop-at l = record {
  right : IsRight l.store l.outputs l.tables l.found;
  choices : AreChoicesBelow l.store l.outputs l.size l.duty l.tables l.below l.made.items l.at;
}
