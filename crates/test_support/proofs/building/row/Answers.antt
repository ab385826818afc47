use Rattle.std.proofs.Common.{◌≡◌, ◌<◌, ◌≤◌, arith, sym, ◌∙◌}
use Rattle.diagrams.proofs.Meaning.{means_lasts}
use Rattle.diagrams.proofs.DependsLemmas.{constant_over}
use Rattle.test_support.proofs.BuildingLemmas.{split_ok, split_leads, constant_leads}
use Rattle.test_support.proofs.building.row.Goals as goal

pub node-requires-clause-lo_above : goal.node-requires-clause-lo_above
node-requires-clause-lo_above c =
    constant_over c.terminal.new.self c.terminal-2.new.self c.in_ok-on_true.ensures.keeps c.in_ok-on_false.on_false c.min.result (λ v. c.args.var < v) c.in_ok-on_false.ensures.id

pub returns-clause-row : goal.returns-clause-row
returns-clause-row c =
    let s = c.terminal-2.new.self in
    let n = c.node.new.self in
    let lo = means_lasts c.terminal.new.self s c.in_ok-on_true.ensures.keeps c.in_ok-on_false.on_false (λ _. c.min.result) c.in_ok-on_false.ensures.id in
    let small : c.min.result ≤ c.args.last = omega (arith, c.min.ensures) in
    let great : c.min-2.result ≤ c.args.last = omega (arith, c.min-2.ensures) in
    let props : n.props ≡ c.props.result = c.node.ensures.keeps.extends.props ∙ c.in_ok-on_true.ensures.keeps.extends.props ∙ sym c.props.ensures.number in
    split_ok s n c.args.last c.args.var c.min.result c.min-2.result c.in_ok-on_false.on_false c.in_ok-on_true.on_true lo c.in_ok-on_true.ensures.id small great
    (omega (arith, props, c.if-var-props.false)) c.node.result c.node.ensures.id

pub returns-then-var-props-clause-leads : goal.returns-then-var-props-clause-leads
returns-then-var-props-clause-leads c =
    constant_leads c.terminal.new.self c.args.last c.args.var c.args.lo c.args.hi c.in_ok-on_false.on_false (rw (← c.min.ensures) c.in_ok-on_false.ensures.id)
    (omega (arith, c.props.ensures.number, c.if-var-props.true))

pub returns-clause-leads : goal.returns-clause-leads
returns-clause-leads c =
    let s = c.terminal-2.new.self in
    let n = c.node.new.self in
    let lo = means_lasts c.terminal.new.self s c.in_ok-on_true.ensures.keeps c.in_ok-on_false.on_false (λ _. c.min.result) c.in_ok-on_false.ensures.id in
    let props : n.props ≡ c.props.result = c.node.ensures.keeps.extends.props ∙ c.in_ok-on_true.ensures.keeps.extends.props ∙ sym c.props.ensures.number in
    split_leads s n c.args.last c.args.var c.args.lo c.args.hi c.in_ok-on_false.on_false c.in_ok-on_true.on_true (rw (← c.min.ensures) lo) (rw (← c.min-2.ensures) c.in_ok-on_true.ensures.id)
    (omega (arith, props, c.if-var-props.false)) c.node.result c.node.ensures.id
