use Rattle.printed_strategy.proofs.HeadlineLemmas.{keeps_promises, following-promised}
use Rattle.printed_strategy.proofs.OnePrinted.{only_printed}
use Rattle.printed_strategy.proofs.OneText.{same_text}
use Rattle.printed_strategy.proofs.ComputedLemmas.{printed_for_claims}
use Rattle.printed_strategy.proofs.NameLemmas.{agent_first_names, environment_first_names}
use Rattle.printed_strategy.proofs.laws.laws_of_printed_strategies.Goals as goal

pub returns : goal.returns
returns c = record {
  keeps = keeps_promises;
  follows = following-promised;
  only = only_printed;
  one_text = same_text;
  computed = printed_for_claims;
  agent_first = agent_first_names;
  environment_first = environment_first_names;
}
