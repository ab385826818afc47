use Rattle.std.proofs.Common.{◌-◌, ◌^◌}
use Rattle.diagrams.specs.Kept.{AllKept}
use Rattle.diagrams.specs.Transformed.{same_id}
use Rattle.diagrams.specs.Composed.{IsRightFor}
use Rattle.obligations.specs.Located.{IsExploring, IsCut, HasBodies}
use Rattle.obligations.proofs.explore.determinise.Given as goal

abbrev pub invariant-loop-at : goal.invariant-loop-at
invariant-loop-at l =
    IsExploring l.fn.store l.store l.cells l.fn.start l.frontier l.rows.items l.marks.items l.at
    × AllKept same_id (IsCut l.store l.frontier) l.cuts × HasBodies l.cells l.bodies.items × IsRightFor l.store l.bodies.items l.composed

abbrev pub decreases-loop-at : goal.decreases-loop-at
decreases-loop-at l = 2 ^ 32 - l.at
