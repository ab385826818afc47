use Rattle.std.proofs.Common.{◌≡◌, ◌++◌, ◌∙◌, ap, subst}
use Rattle.std.specs.Prelude.{OnOk, codes, decimal}
use Rattle.strategy.proofs.BelowLemmas.{head-joined}
use Rattle.strategy.proofs.printing.print_head.Goals as goal

pub returns : goal.returns
returns c s =
    subst (λ z. OnOk c.push.result (c.push.new.self ≡ z))
    (head-joined c.args.names.now.names s c.args.strategy.now c.args.text.now c.print_version.new.text c.print_verdict.new.text c.print_propositions.new.text c.print_numbered.new.text
    c.in_ok-print_version.ensures c.in_ok-print_verdict.ensures c.in_ok-print_propositions.ensures
    (c.in_ok-print_numbered.ensures ∙ ap (λ z. (c.print_propositions.new.text ++ codes "locations ") ++ decimal z) c.size.ensures))
    c.push.ensures.ok
