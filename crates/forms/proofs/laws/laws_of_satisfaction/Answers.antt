use Rattle.forms.proofs.PathRelation.{diamond_holds, box_holds}
use Rattle.forms.proofs.laws.laws_of_satisfaction.Goals as goal

pub returns-clause-diamond : goal.returns-clause-diamond
returns-clause-diamond c = diamond_holds

pub returns-clause-box_all : goal.returns-clause-box_all
returns-clause-box_all c = box_holds
