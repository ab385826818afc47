use Rattle.translate.proofs.laws.laws_of_counts.Goals as goal
use Rattle.translate.proofs.CountLemmas.{first_over_is_one, first_over_is_not_within}

pub returns : goal.returns
returns c = record { one = first_over_is_one; not_within = first_over_is_not_within }
