use Rattle.cooperative.proofs.OverArena.{hope_is_possibility}
use Rattle.cooperative.proofs.laws.laws_of_hope.Goals as goal

pub returns : goal.returns
returns c = hope_is_possibility
