use Rattle.std.proofs.Common.{◌∙◌, ap}
use Rattle.strategy.specs.Plan.{plan_of}
use Rattle.synth_command.specs.Synthesis.{verdict_ending}
use Rattle.synth_command.proofs.command.strategy_text.Goals as goal

pub returns-in-Ok-clause-text : goal.returns-in-Ok-clause-text
returns-in-Ok-clause-text c = record {
  strategy = plan_of c.in_ok-solved.solved.store c.in_ok-solved.solved.strategy;
  printed = c.in_ok-solved.ensures.printed;
  within = c.in_ok-solved.ensures.within;
  kept = c.in_ok-solved.ensures.kept;
  few = c.in_ok-solved.ensures.few;
  whole = c.in-Ok.ensures;
  ends = c.verdict_ending.ensures ∙ ap verdict_ending (c.verdict.ensures c.in_ok-solved.solved.store);
}
