use Rattle.choosing.proofs.StandingLemmas.{chosen_there}
use Rattle.choosing.proofs.laws.laws_of_choices.Goals as goal

pub returns : goal.returns
returns c = record { chosen = chosen_there }
