use Rattle.diagrams.specs.Kept.{AllKept}
use Rattle.diagrams.specs.Transformed.{same_id}
use Rattle.obligations.specs.Entered.{IsEntered}
use Rattle.obligations.proofs.Stands.{IsSetting}
use Rattle.obligations.proofs.following.set_bodies.Given as goal

abbrev pub invariant-loop-at : goal.invariant-loop-at
invariant-loop-at l = record {
  setting : IsSetting l.fn.store l.store l.fn.cells l.cells l.automaton l.base l.items l.at;
  right : AllKept same_id (IsEntered l.store l.items) l.memo;
}
