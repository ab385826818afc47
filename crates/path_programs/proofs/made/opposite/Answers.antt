use Rattle.diagrams.proofs.Meaning.{truth_lasts}
use Rattle.path_programs.proofs.Making.{one_opposite}
use Rattle.path_programs.proofs.made.opposite.Goals as goal

pub agreeing-requires-clause-f : goal.agreeing-requires-clause-f
agreeing-requires-clause-f c = truth_lasts _ _ c.never.ensures.keeps c.args.f c.requires

pub returns-clause-id : goal.returns-clause-id
returns-clause-id c = one_opposite c.agreeing.result c.args.store.now c.never.new.store c.agreeing.new.store c.args.f c.in_ok-zero.zero c.never.ensures.keeps c.requires.live c.in_ok-zero.ensures.id c.agreeing.ensures.id
