use Rattle.std.proofs.Common.{arith}
use Rattle.obligations.proofs.Exploring.{first_none, first_next, first_done}
use Rattle.obligations.proofs.explore.bodies_of.Goals as goal

pub loop-cell-init : goal.loop-cell-init
loop-cell-init c = rw c.new-made.ensures.items (first_none c.args.cells.now)

pub loop-cell-preserved : goal.loop-cell-preserved
loop-cell-preserved c = rw c.in_ok-push.ensures.items (first_next c.args.cells.now c.loop-cell.made.items c.loop-cell.cell _ c.loop-cell.invariant c.body.ensures)

pub returns : goal.returns
returns c =
    first_done c.args.cells.now c.loop-cell.made.items c.loop-cell.cell c.loop-cell.invariant
    (omega (arith, c.len-cell-end.ensures.number, c.loop-cell-test.false, c.loop-cell.auto.cell-end))
