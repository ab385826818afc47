use Rattle.std.proofs.Common.{ap, ◌∙◌}
use Rattle.obligations.specs.Value.{cell}
use Rattle.translate.specs.Exact.{accepted}
use Rattle.translate.specs.Joined.{joined}
use Rattle.translate.proofs.LeastLemmas.{least_same_ok}
use Rattle.translate.proofs.StandingLemmas.{cell-stands}
use Rattle.translate.proofs.joins.joined_automata.Goals as goal

pub returns-clause-least : goal.returns-clause-least
returns-clause-least c =
    let s = c.two_operands.new.store in
    let cells = c.in_ok-of.of.cells in
    let first = cell-stands s c.two_operands.ensures.keeps.now cells c.in_ok-of.of.first (accepted c.args.store.now c.args.a.now) c.in_ok-of.ensures.first in
    let second = cell-stands s c.two_operands.ensures.keeps.now cells c.in_ok-of.of.second (accepted c.args.store.now c.args.b.now) c.in_ok-of.ensures.second in
    least_same_ok c.joined_now.result c.joined_now.new.store _ _
    (λ w. ap (λ v. joined c.args.op v (cell s cells w c.in_ok-of.of.second)) (first w) ∙ ap (joined c.args.op (accepted c.args.store.now c.args.a.now w)) (second w))
    c.joined_now.ensures.least
