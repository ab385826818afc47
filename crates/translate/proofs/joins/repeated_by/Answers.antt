use Rattle.obligations.proofs.Holds.{fits_cells_lasts}
use Rattle.translate.specs.Exact.{accepted}
use Rattle.translate.proofs.LeastLemmas.{least_same_ok}
use Rattle.translate.proofs.OwnLemmas.{own_repeated}
use Rattle.translate.proofs.joins.repeated_by.Goals as goal

pub with_next-requires-clause-now : goal.with_next-requires-clause-now
with_next-requires-clause-now c = rw (c.len.ensures.number, c.body.ensures) (c.in_ok-now.ensures.cells c.in_ok-now.now c.in_ok-now.ensures.stands.within)

pub solved_with-requires-clause-fits : goal.solved_with-requires-clause-fits
solved_with-requires-clause-fits c = fits_cells_lasts c.operand.new.store c.with_next.new.store c.with_next.ensures.keeps c.operand.new.cells c.in_ok-now.ensures.cells

pub solved_with-requires-clause-body : goal.solved_with-requires-clause-body
solved_with-requires-clause-body c = rw c.len.ensures.number at c.in_ok-body.ensures.body

pub returns-clause-least : goal.returns-clause-least
returns-clause-least c =
    least_same_ok c.solved_with.result c.solved_with.new.store _ _
    (own_repeated c.operand.new.store c.with_next.new.store c.with_next.ensures.keeps c.operand.new.cells c.in_ok-now.now (accepted c.args.store.now c.args.a.now) c.in_ok-now.ensures.stands c.args.op c.args.ends c.in_ok-body.body
    (rw (c.body.ensures, c.len.ensures.number) at c.in_ok-body.ensures.says))
    c.solved_with.ensures.least
