use Rattle.std.proofs.Common.{length}
use Rattle.diagrams.proofs.Meaning.{Keeps_trans}
use Rattle.obligations.proofs.Holds.{fits_cells_lasts}
use Rattle.translate.specs.Exact.{accepted}
use Rattle.translate.proofs.LeastLemmas.{least_same_ok}
use Rattle.translate.proofs.JoinLemmas.{can_join, means_literal_small}
use Rattle.translate.proofs.OwnLemmas.{own_stepped, stepped_says, stepped_body}
use Rattle.translate.proofs.joins.stepped_by.Goals as goal

pub combine-requires : goal.combine-requires
combine-requires c = record {
  f_live = c.in_ok-next.ensures.second.live;
  g_live = c.in_ok-next.ensures.first.live;
  fit =
      can_join c.literals.new.store c.args.op c.requires.op c.in_ok-next.end c.in_ok-next.next
      (means_literal_small c.literals.new.store _ c.in_ok-next.end c.in_ok-next.ensures.second) (means_literal_small c.literals.new.store _ c.in_ok-next.next c.in_ok-next.ensures.first);
}

pub solved_with-requires-clause-fits : goal.solved_with-requires-clause-fits
solved_with-requires-clause-fits c =
    fits_cells_lasts c.operand_and_end.new.store c.combine.new.self (Keeps_trans _ _ _ c.literals.ensures.keeps c.combine.ensures.keeps) c.in_ok-of.of.cells c.in_ok-of.ensures.cells

pub solved_with-requires-clause-body : goal.solved_with-requires-clause-body
solved_with-requires-clause-body c =
    stepped_body c.operand_and_end.new.store c.literals.new.store c.combine.new.self c.literals.ensures.keeps c.combine.ensures.keeps c.args.op c.requires.op c.in_ok-of.of.second c.in_ok-of.of.first (length c.in_ok-of.of.cells)
    c.in_ok-of.ensures.second.within c.in_ok-of.ensures.first.within c.in_ok-next.end c.in_ok-next.next c.in_ok-body.body c.in_ok-next.ensures.second c.in_ok-next.ensures.first c.in_ok-body.ensures.id

pub returns-clause-least : goal.returns-clause-least
returns-clause-least c =
    least_same_ok c.solved_with.result c.solved_with.new.store _ _
    (own_stepped c.operand_and_end.new.store c.combine.new.self (Keeps_trans _ _ _ c.literals.ensures.keeps c.combine.ensures.keeps) c.in_ok-of.of.cells c.in_ok-of.of.first c.in_ok-of.of.second
    (accepted c.args.store.now c.args.a.now) c.args.ends c.in_ok-of.ensures.first c.in_ok-of.ensures.second c.args.op c.in_ok-body.body
    (stepped_says c.operand_and_end.new.store c.literals.new.store c.combine.new.self c.literals.ensures.keeps c.combine.ensures.keeps c.args.op c.requires.op c.in_ok-of.of.second c.in_ok-of.of.first
    c.in_ok-next.end c.in_ok-next.next c.in_ok-body.body c.in_ok-next.ensures.second c.in_ok-next.ensures.first c.in_ok-body.ensures.id))
    c.solved_with.ensures.least
