use Rattle.std.proofs.Common.{◌≡◌, ◌++◌}
use Rattle.printed_strategy.specs.StrategyText.{head_text, location_texts}
use Rattle.strategy.specs.Plan.{plan_of}
use Rattle.strategy.proofs.printing.print_strategy.Given as goal

abbrev pub invariant-loop-at : goal.invariant-loop-at
invariant-loop-at l = l.text ≡ head_text l.names.names (plan_of l.store l.strategy) ++ location_texts (plan_of l.store l.strategy) l.at
