use Rattle.path_programs.proofs.Making.{one_variable}
use Rattle.path_programs.proofs.made.variable.Goals as goal

pub returns-clause-id : goal.returns-clause-id
returns-clause-id c = one_variable c.literal.result c.literal.new.self c.args.var c.literal.ensures.id
