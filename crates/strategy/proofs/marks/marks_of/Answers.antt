use Rattle.std.proofs.Common.{◌<◌, ◌∙◌, ap, arith, None, length}
use Rattle.strategy.specs.Numbers.{goal_in, number_in, has_losses, mark_by}
use Rattle.strategy.proofs.NumberLemmas.{marks_none, marks_more, same-within}
use Rattle.strategy.proofs.marks.marks_of.Goals as goal

pub loop-at-init : goal.loop-at-init
loop-at-init c = marks_none c.args.goals.now c.args.numbers.now c.new-marks.result.items c.new-marks.ensures.items

pub loop-at-preserved : goal.loop-at-preserved
loop-at-preserved c =
    let numbers = c.args.numbers.now in
    let at = c.loop-at.at in
    let goal = goal_in c.args.goals.now at in
    let ranks : at < length numbers.ranks.items = omega (arith, c.loop-at-test.true, c.requires.ranks) in
    let distances : at < length numbers.distances.items = omega (arith, c.loop-at-test.true, c.requires.distances) in
    let rank = c.index.ensures ∙ same-within numbers.ranks.items at c.index.result.now None ranks in
    let distance = c.index-in-loop-at.ensures ∙ same-within numbers.distances.items at c.index-in-loop-at.result.now None distances in
    rw (c.in_ok-push.ensures.items)
    (marks_more c.args.goals.now numbers c.loop-at.marks.items at c.mark_by.result
    (c.mark_by.ensures ∙ ap (λ z. mark_by goal z c.index-in-loop-at.result.now c.is_some-duty.result c.loss.result) rank
    ∙ ap (λ z. mark_by goal (number_in numbers.ranks.items at) z c.is_some-duty.result c.loss.result) distance
    ∙ ap (λ z. mark_by goal (number_in numbers.ranks.items at) (number_in numbers.distances.items at) z c.loss.result) c.is_some-duty.ensures
    ∙ ap (mark_by goal (number_in numbers.ranks.items at) (number_in numbers.distances.items at) (has_losses numbers)) c.loss.ensures)
    c.loop-at.invariant)
