use Rattle.std.proofs.Common.{◌≡◌, ◌++◌, sym, ◌∙◌, ap, subst, append_assoc}
use Rattle.std.specs.Prelude.{codes, decimal, OnOk}
use Rattle.printed_strategy.specs.StrategyText.{verdict_line}
use Rattle.strategy.proofs.printing.print_verdict.Goals as goal

pub returns-in_ok-print_numbered-in-Some : goal.returns-in_ok-print_numbered-in-Some
returns-in_ok-print_numbered-in-Some c =
    let text = c.args.text.now in
    let words = codes "verdict realisable " in
    let number = decimal c.in-Some.rounds in
    subst (λ z. OnOk c.push-in-Some.result (c.push-in-Some.new.self ≡ z))
    (ap (λ z. z ++ codes "\n") c.in_ok-print_numbered-in-Some.ensures ∙ ap (λ z. z ++ codes "\n") (append_assoc text words number) ∙ append_assoc text (words ++ number) (codes "\n")
    ∙ ap (λ v. text ++ verdict_line v) (sym c.in-Some.is))
    c.push-in-Some.ensures.ok
