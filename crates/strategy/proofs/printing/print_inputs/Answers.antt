use Rattle.std.proofs.Common.{◌≡◌, ◌+◌, ◌-◌, ◌++◌, subst, length, arith}
use Rattle.std.specs.Prelude.{OnOk}
use Rattle.strategy.proofs.ListingLemmas.{inputs-agent, inputs-environment}
use Rattle.strategy.proofs.printing.print_inputs.Goals as goal

pub returns-in-Agent : goal.returns-in-Agent
returns-in-Agent c =
    let s = c.args.parts in
    let all : length c.args.names.now.names ≡ s.inputs + s.outputs = c.requires in
    let count : c.len.result - s.outputs ≡ s.inputs = omega (arith, c.len.ensures.value, all) in
    subst (λ z. OnOk c.print_names.result (c.print_names.new.text ≡ c.args.text.now ++ z))
    (inputs-agent s.first s.inputs s.outputs (c.len.result - s.outputs) c.args.names.now.names c.in-Agent.is all count) c.print_names.ensures

pub returns-in-Environment : goal.returns-in-Environment
returns-in-Environment c =
    let s = c.args.parts in
    let count : s.inputs - 0 ≡ s.inputs = omega arith in
    subst (λ z. OnOk c.print_names-in-Environment.result (c.print_names-in-Environment.new.text ≡ c.args.text.now ++ z))
    (inputs-environment s.first s.inputs s.outputs (s.inputs - 0) c.args.names.now.names c.in-Environment.is c.requires count) c.print_names-in-Environment.ensures
