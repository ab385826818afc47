use Rattle.std.proofs.Common.{length}
use Rattle.obligations.proofs.Holds.{fits_cells_lasts}
use Rattle.diagrams.proofs.Meaning.{Keeps_trans}
use Rattle.translate.proofs.LeastLemmas.{least_same_ok}
use Rattle.translate.proofs.JoinLemmas.{can_join, means_literal_small, literals_claim, literals_hold}
use Rattle.translate.proofs.joins.joined_now.Goals as goal

pub combine-requires : goal.combine-requires
combine-requires c = record {
  f_live = c.in_ok-first.ensures.first.live;
  g_live = c.in_ok-first.ensures.second.live;
  fit =
      can_join c.literals.new.store c.args.op c.requires.op c.in_ok-first.first c.in_ok-first.second
      (means_literal_small c.literals.new.store _ c.in_ok-first.first c.in_ok-first.ensures.first) (means_literal_small c.literals.new.store _ c.in_ok-first.second c.in_ok-first.ensures.second);
}

pub solved-requires-clause-fits : goal.solved-requires-clause-fits
solved-requires-clause-fits c =
    fits_cells_lasts c.args.store.now c.combine.new.self (Keeps_trans _ _ _ c.literals.ensures.keeps c.combine.ensures.keeps) c.args.of.now.cells c.requires.fits

pub solved-requires-clause-start : goal.solved-requires-clause-start
solved-requires-clause-start c =
    literals_claim c.args.store.now c.literals.new.store c.combine.new.self c.literals.ensures.keeps c.combine.ensures.keeps c.args.op c.requires.op (length c.args.of.now.cells) c.args.of.now.first c.args.of.now.second
    c.requires.first c.requires.second c.in_ok-first.first c.in_ok-first.second c.in_ok-start.start c.in_ok-first.ensures.first c.in_ok-first.ensures.second c.in_ok-start.ensures.id

pub returns-clause-least : goal.returns-clause-least
returns-clause-least c =
    least_same_ok c.solved.result c.solved.new.store _ _
    (literals_hold c.args.store.now c.literals.new.store c.combine.new.self c.literals.ensures.keeps c.combine.ensures.keeps c.args.op c.requires.op c.args.of.now.cells c.requires.fits c.args.of.now.first c.args.of.now.second
    c.requires.first c.requires.second c.in_ok-first.first c.in_ok-first.second c.in_ok-start.start c.in_ok-first.ensures.first c.in_ok-first.ensures.second c.in_ok-start.ensures.id)
    c.solved.ensures.least
