use Rattle.std.proofs.Common.{suc}
use Rattle.automata.specs.Table.{moves_of}
use Rattle.automata.proofs.RenumberLemmas.{fits_closed}
use Rattle.class_laws.proofs.Beginning.{marks_divide}
use Rattle.class_laws.proofs.Rounds.{split_divides, unchanged_stable, stable_classes}
use Rattle.class_laws.proofs.Settling.{classes_stable}
use Rattle.class_laws.proofs.Paid.{paid_few}
use Rattle.class_laws.proofs.laws.laws_of_classes.Goals as goal

pub returns : goal.returns
returns c = record {
  marks = marks_divide;
  rows = split_divides;
  unchanged = λ s n t old new key k f first r q w d e.
      stable_classes s.props (moves_of s t) (suc w) old (fits_closed s t first f) d (unchanged_stable s n t old new key k f first r q w d e);
  stable = classes_stable;
  few = paid_few;
}
