use Rattle.std.proofs.Common.{◌≡◌, ◌+◌, ◌-◌, ◌++◌, subst, length, arith}
use Rattle.std.specs.Prelude.{OnOk}
use Rattle.strategy.proofs.ListingLemmas.{outputs-agent, outputs-environment}
use Rattle.strategy.proofs.printing.print_outputs.Goals as goal

pub returns-in-Agent : goal.returns-in-Agent
returns-in-Agent c =
    let s = c.args.parts in
    let count : s.outputs - 0 ≡ s.outputs = omega arith in
    subst (λ z. OnOk c.print_names.result (c.print_names.new.text ≡ c.args.text.now ++ z))
    (outputs-agent s.first s.inputs s.outputs (s.outputs - 0) c.args.names.now.names c.in-Agent.is c.requires count) c.print_names.ensures

pub returns-in-Environment : goal.returns-in-Environment
returns-in-Environment c =
    let s = c.args.parts in
    let all : length c.args.names.now.names ≡ s.inputs + s.outputs = c.requires in
    let count : c.len.result - s.inputs ≡ s.outputs = omega (arith, c.len.ensures.value, all) in
    subst (λ z. OnOk c.print_names-in-Environment.result (c.print_names-in-Environment.new.text ≡ c.args.text.now ++ z))
    (outputs-environment s.first s.inputs s.outputs (c.len.result - s.inputs) c.args.names.now.names c.in-Environment.is all count) c.print_names-in-Environment.ensures
