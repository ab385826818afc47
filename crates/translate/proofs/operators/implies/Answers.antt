use Rattle.std.proofs.Common.{◌+◌, ◌∙◌, ap, length}
use Rattle.std.specs.Prelude.{not, ◌||◌}
use Rattle.diagrams.proofs.Meaning.{Keeps_trans, means_lasts}
use Rattle.obligations.specs.Value.{cell}
use Rattle.obligations.proofs.Holds.{fits_cells_lasts}
use Rattle.translate.specs.Exact.{accepted}
use Rattle.diagrams.specs.Eval.{literal_value}
use Rattle.translate.proofs.LeastLemmas.{least_same_ok}
use Rattle.translate.proofs.StandingLemmas.{cell-stands}
use Rattle.translate.proofs.JoinLemmas.{means_literal_small}
use Rattle.translate.proofs.OperatorLemmas.{chosen_claim, chosen_holds}
use Rattle.translate.proofs.operators.implies.Goals as goal

pub ite-requires : goal.ite-requires
ite-requires c =
    let props = c.two_operands.new.store.props in
    let m = c.literals.new.store in
    let q = c.terminal.new.self in
    let first = means_lasts m q c.terminal.ensures.keeps c.in_ok-first.first (literal_value (props + c.in_ok-of.of.first)) c.in_ok-first.ensures.first in
    let second = means_lasts m q c.terminal.ensures.keeps c.in_ok-first.second (literal_value (props + c.in_ok-of.of.second)) c.in_ok-first.ensures.second in
    record {
      test = record { live = first.live; truth = means_literal_small q (props + c.in_ok-of.of.first) c.in_ok-first.first first };
      yes = second.live;
      no = c.in_ok-one.ensures.id.live;
    }

pub solved-requires : goal.solved-requires
solved-requires c = record {
  fits =
      fits_cells_lasts c.two_operands.new.store c.ite.new.self (Keeps_trans _ _ _ (Keeps_trans _ _ _ c.literals.ensures.keeps c.terminal.ensures.keeps) c.ite.ensures.keeps) c.in_ok-of.of.cells c.in_ok-of.ensures.cells;
  start =
      chosen_claim c.two_operands.new.store c.literals.new.store c.terminal.new.self c.ite.new.self c.literals.ensures.keeps c.terminal.ensures.keeps c.ite.ensures.keeps (length c.in_ok-of.of.cells) c.in_ok-of.of.first c.in_ok-of.of.second
      c.in_ok-of.ensures.first.within c.in_ok-of.ensures.second.within c.in_ok-first.first c.in_ok-first.second c.in_ok-one.one c.in_ok-start.start c.in_ok-first.ensures.first c.in_ok-first.ensures.second c.in_ok-one.ensures.id c.in_ok-start.ensures.id;
}

pub returns-clause-least : goal.returns-clause-least
returns-clause-least c =
    let s = c.two_operands.new.store in
    let cells = c.in_ok-of.of.cells in
    let first = cell-stands s c.two_operands.ensures.keeps.now cells c.in_ok-of.of.first (accepted c.args.store.now c.args.a.now) c.in_ok-of.ensures.first in
    let second = cell-stands s c.two_operands.ensures.keeps.now cells c.in_ok-of.of.second (accepted c.args.store.now c.args.b.now) c.in_ok-of.ensures.second in
    least_same_ok c.solved.result c.solved.new.store _ _
    (λ w.
    chosen_holds s c.literals.new.store c.terminal.new.self c.ite.new.self c.literals.ensures.keeps c.terminal.ensures.keeps c.ite.ensures.keeps cells c.in_ok-of.ensures.cells c.in_ok-of.of.first c.in_ok-of.of.second
    c.in_ok-of.ensures.first.within c.in_ok-of.ensures.second.within c.in_ok-first.first c.in_ok-first.second c.in_ok-one.one c.in_ok-start.start c.in_ok-first.ensures.first c.in_ok-first.ensures.second c.in_ok-one.ensures.id c.in_ok-start.ensures.id w
    ∙ ap (λ v. not v || cell s cells w c.in_ok-of.of.second) (first w)
    ∙ ap (λ v. not (accepted c.args.store.now c.args.a.now w) || v) (second w))
    c.solved.ensures.least
