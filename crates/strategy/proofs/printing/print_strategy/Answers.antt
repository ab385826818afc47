use Rattle.std.proofs.Common.{◌≡◌, ◌++◌, sym, ◌∙◌, ap, arith, append-nil}
use Rattle.std.specs.Prelude.{codes}
use Rattle.printed_strategy.specs.StrategyText.{head_text, location_texts, strategy_text}
use Rattle.strategy.specs.Plan.{size_of, plan_of}
use Rattle.strategy.proofs.printing.print_strategy.Goals as goal

pub loop-at-init : goal.loop-at-init
loop-at-init c =
    let head = head_text c.args.names.now.names (plan_of c.args.store.now c.args.strategy.now) in
    c.in_ok-print_head.ensures c.args.store.now ∙ ap (λ z. z ++ head) c.new-text.ensures ∙ sym (append-nil head)

pub returns : goal.returns
unfolding strategy_text
returns c =
    let plan = plan_of c.args.store.now c.args.strategy.now in
    let head = head_text c.args.names.now.names plan in
    let past = c.loop-at-test.false in
    let end = c.loop-at.auto.at-end in
    let all : c.loop-at.at ≡ size_of c.args.strategy.now = omega (arith, past, end, c.size-at-end.ensures) in
    c.in_ok-push.ensures.ok ∙ ap (λ z. z ++ codes "end\n") (c.loop-at.invariant ∙ ap (λ n. head ++ location_texts plan n) all)
