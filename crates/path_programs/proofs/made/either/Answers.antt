use Rattle.path_programs.proofs.Making.{one_either}
use Rattle.path_programs.proofs.made.either.Goals as goal

pub returns-clause-id : goal.returns-clause-id
returns-clause-id c = one_either c.combine.result c.args.store.now c.combine.new.self c.args.f c.args.g c.requires.f c.requires.g c.combine.ensures.id
