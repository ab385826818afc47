use Rattle.translate.specs.Exact.{accepted}
use Rattle.translate.specs.Joined.{ended}
use Rattle.std.proofs.Common.{false}
use Rattle.translate.proofs.LeastLemmas.{least_same_ok}
use Rattle.translate.proofs.StandingLemmas.{cell-stands}
use Rattle.translate.proofs.OperatorLemmas.{nonempty_and}
use Rattle.translate.proofs.operators.nonempty.Goals as goal

pub returns-clause-least : goal.returns-clause-least
returns-clause-least c =
    let s = c.operand_and_end.new.store in
    let cells = c.in_ok-of.of.cells in
    let first = cell-stands s c.operand_and_end.ensures.keeps.now cells c.in_ok-of.of.first (accepted c.args.store.now c.args.a.now) c.in_ok-of.ensures.first in
    let second = cell-stands s c.operand_and_end.ensures.keeps.now cells c.in_ok-of.of.second (ended false) c.in_ok-of.ensures.second in
    least_same_ok c.joined_now.result c.joined_now.new.store _ _ (λ w. nonempty_and _ _ (accepted c.args.store.now c.args.a.now) w (first w) (second w)) c.joined_now.ensures.least
