use Rattle.std.proofs.Common.{◌≡◌, ◌∙◌, length, arith, subst}
use Rattle.strategy.specs.Numbers.{number_in, IsTableTo}
use Rattle.strategy.proofs.NumberLemmas.{code-or, table_none, table_more, table_whole}
use Rattle.strategy.proofs.marks.table_of.Goals as goal

pub loop-number-init : goal.loop-number-init
loop-number-init c = table_none c.args.numbers.now c.new-table.result.items c.new-table.ensures.items

pub loop-number-preserved : goal.loop-number-preserved
loop-number-preserved c =
    rw (c.in_ok-push.ensures.items)
    (table_more c.args.numbers.now c.loop-number.table.items c.loop-number.number-index c.unwrap_or.result (c.unwrap_or.ensures ∙ code-or (number_in c.args.numbers.now c.loop-number.number-index)) c.loop-number.invariant)

pub returns : goal.returns
returns c =
    let past = c.loop-number-test.false in
    let end = c.loop-number.auto.number-index-end in
    let all : c.loop-number.number-index ≡ length c.args.numbers.now = omega (arith, past, end) in
    rw (c.in_ok-push-2.ensures.items)
    (table_whole c.args.numbers.now c.loop-number.table.items c.args.illegal (subst (λ z. IsTableTo c.args.numbers.now c.loop-number.table.items z) all c.loop-number.invariant))
