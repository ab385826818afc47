use Rattle.std.proofs.Common.{arith}
use Rattle.path_programs.proofs.Making.{one_constant}
use Rattle.path_programs.proofs.made.always.Goals as goal

pub returns-clause-id : goal.returns-clause-id
returns-clause-id c = one_constant c.terminal.result c.terminal.new.self 1 (omega arith) c.terminal.ensures.id
