use Rattle.std.proofs.Common.{length}
use Rattle.diagrams.proofs.Meaning.{Keeps_trans}
use Rattle.obligations.specs.Table.{body_of}
use Rattle.obligations.specs.Value.{IsBody}
use Rattle.obligations.proofs.Holds.{body_lasts, fits_cells_lasts}
use Rattle.translate.specs.Exact.{accepted}
use Rattle.translate.proofs.LeastLemmas.{least_same_ok}
use Rattle.translate.proofs.JoinLemmas.{can_join}
use Rattle.translate.proofs.OwnLemmas.{own_awaited, awaited_says, awaited_body}
use Rattle.translate.proofs.joins.awaited_by.Goals as goal

pub with_next-requires-clause-now : goal.with_next-requires-clause-now
with_next-requires-clause-now c = rw (c.len.ensures.number, c.body.ensures) (c.in_ok-of.ensures.cells c.in_ok-of.of.first c.in_ok-of.ensures.first.within)

pub combine-requires : goal.combine-requires
combine-requires c =
    let cells = c.in_ok-of.of.cells in
    let now : IsBody c.with_next.new.store (length cells) (body_of cells c.in_ok-of.of.second) =
    body_lasts c.two_operands.new.store c.with_next.new.store c.with_next.ensures.keeps (length cells) (body_of cells c.in_ok-of.of.second) (c.in_ok-of.ensures.cells c.in_ok-of.of.second c.in_ok-of.ensures.second.within) in
    let same : IsBody c.with_next.new.store (length cells) c.body-now.result = rw c.body-now.ensures now in
    record {
      f_live = same.live;
      g_live = c.in_ok-rest.ensures.body.live;
      fit = can_join c.with_next.new.store c.args.outer c.requires.outer c.body-now.result c.in_ok-rest.rest same.truth c.in_ok-rest.ensures.body.truth;
    }

pub solved_with-requires-clause-fits : goal.solved_with-requires-clause-fits
solved_with-requires-clause-fits c =
    fits_cells_lasts c.two_operands.new.store c.combine.new.self (Keeps_trans _ _ _ c.with_next.ensures.keeps c.combine.ensures.keeps) c.in_ok-of.of.cells c.in_ok-of.ensures.cells

pub solved_with-requires-clause-body : goal.solved_with-requires-clause-body
solved_with-requires-clause-body c =
    let cells = c.in_ok-of.of.cells in
    awaited_body c.two_operands.new.store c.with_next.new.store c.combine.new.self c.with_next.ensures.keeps c.combine.ensures.keeps c.args.outer c.requires.outer (body_of cells c.in_ok-of.of.second) c.in_ok-rest.rest c.in_ok-body.body (length cells)
    (c.in_ok-of.ensures.cells c.in_ok-of.of.second c.in_ok-of.ensures.second.within) (rw c.len.ensures.number at c.in_ok-rest.ensures.body) (rw c.body-now.ensures at c.in_ok-body.ensures.id)

pub returns-clause-least : goal.returns-clause-least
returns-clause-least c =
    let cells = c.in_ok-of.of.cells in
    least_same_ok c.solved_with.result c.solved_with.new.store _ _
    (own_awaited c.two_operands.new.store c.combine.new.self (Keeps_trans _ _ _ c.with_next.ensures.keeps c.combine.ensures.keeps) cells c.in_ok-of.of.first c.in_ok-of.of.second
    (accepted c.args.store.now c.args.a.now) (accepted c.args.store.now c.args.b.now) c.in_ok-of.ensures.first c.in_ok-of.ensures.second c.args.outer c.args.inner c.args.ends c.in_ok-body.body
    (awaited_says c.two_operands.new.store c.with_next.new.store c.combine.new.self c.with_next.ensures.keeps c.combine.ensures.keeps c.args.outer c.args.inner c.requires.outer
    (body_of cells c.in_ok-of.of.first) (body_of cells c.in_ok-of.of.second) c.in_ok-rest.rest c.in_ok-body.body (length cells)
    (c.in_ok-of.ensures.cells c.in_ok-of.of.first c.in_ok-of.ensures.first.within) (c.in_ok-of.ensures.cells c.in_ok-of.of.second c.in_ok-of.ensures.second.within)
    (rw c.len.ensures.number at c.in_ok-rest.ensures.body) (rw (c.body.ensures, c.len.ensures.number) at c.in_ok-rest.ensures.says) (rw c.body-now.ensures at c.in_ok-body.ensures.id)))
    c.solved_with.ensures.least
