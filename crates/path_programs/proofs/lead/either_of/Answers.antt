use Rattle.std.proofs.Common.{refl}
use Rattle.diagrams.proofs.Meaning.{truth_lasts}
use Rattle.path_programs.proofs.Joining.{either_made}
use Rattle.path_programs.proofs.lead.either_of.Goals as goal

pub either-requires-2-clause-f : goal.either-requires-2-clause-f
either-requires-2-clause-f c = truth_lasts _ _ c.either.ensures.keeps c.args.x.stays c.requires.x_stays

pub either-requires-2-clause-g : goal.either-requires-2-clause-g
either-requires-2-clause-g c = truth_lasts _ _ c.either.ensures.keeps c.args.y.stays c.requires.y_stays

pub returns-then-x-clause-lead : goal.returns-then-x-clause-lead
returns-then-x-clause-lead c = either_made c.args.store.now c.either.new.store c.either-2.new.store c.args.x c.args.y _ c.either.ensures.keeps c.either-2.ensures.keeps c.requires.x_stays.live c.requires.y_stays.live
    c.in_ok-further.ensures.id c.in_ok-stays.ensures.id (rw c.if-x.true refl)

pub returns-else-x-clause-lead : goal.returns-else-x-clause-lead
returns-else-x-clause-lead c = either_made c.args.store.now c.either.new.store c.either-2.new.store c.args.x c.args.y _ c.either.ensures.keeps c.either-2.ensures.keeps c.requires.x_stays.live c.requires.y_stays.live
    c.in_ok-further.ensures.id c.in_ok-stays.ensures.id (rw c.if-x.false refl)
