use Rattle.std.proofs.Common.{◌<◌}
use Rattle.std.specs.Prelude.{Contains}
use Rattle.obligations.specs.Inclusion.{AllBelow, AllSimulate}
use Rattle.obligations.specs.Related.{related, or_same}
use Rattle.obligations.proofs.inclusions.simulators.Given as goal

abbrev pub invariant-loop-y : goal.invariant-loop-y
invariant-loop-y l = record {
  within : AllBelow l.relation.size l.list.items;
  each : AllSimulate (or_same (related l.relation)) l.x l.list.items;
  itself : l.x < l.y → Contains l.list.items l.x;
}
