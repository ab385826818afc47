use Rattle.std.specs.Prelude.{◌≤◌, length}
use Rattle.choosing.specs.Choices.{AreNumbered}
use Rattle.choosing.proofs.decisions.number_choices.Given as goal

abbrev pub invariant-loop-choice : goal.invariant-loop-choice
invariant-loop-choice l = record {
  numbered : AreNumbered l.choices l.numbers.items l.distinct.keys l.choice-index;
  few : length l.distinct.keys ≤ l.choice-index;
}
