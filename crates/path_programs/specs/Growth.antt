-- Stores and tables that go on.
use Rattle.std.specs.Prelude.{List}
use Rattle.diagrams.specs.Eval.{Diagrams}
use Rattle.diagrams.specs.Live.{Keeps}
use Rattle.obligations.specs.declared.cells.Obligation.{Obligation}
use Rattle.obligations.specs.Value.{FitsCells}
use Rattle.obligations.specs.Followed.{GoesOn}

-- the store keeps what it had, and the table fits it and goes on where it ended
pub record HasGrown (s : Diagrams) (c : List Obligation) (n : Diagrams) (d : List Obligation) : Type 0 where
  pub keeps : Keeps s n
  pub fits : FitsCells n d
  pub grows : GoesOn c d
