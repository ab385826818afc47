use Rattle.std.proofs.Common.{refl}
use Rattle.diagrams.proofs.Meaning.{Keeps_trans, truth_lasts}
use Rattle.path_programs.proofs.Joining.{in_turn_made}
use Rattle.path_programs.proofs.lead.in_turn.Goals as goal

pub either-requires-clause-f : goal.either-requires-clause-f
either-requires-clause-f c = truth_lasts _ _ c.both.ensures.keeps c.args.x.further c.requires.x_further

pub both-requires-2-clause-f : goal.both-requires-2-clause-f
both-requires-2-clause-f c = truth_lasts _ _ (Keeps_trans _ _ _ c.both.ensures.keeps c.either.ensures.keeps) c.args.x.stays c.requires.x_stays

pub both-requires-2-clause-g : goal.both-requires-2-clause-g
both-requires-2-clause-g c = truth_lasts _ _ (Keeps_trans _ _ _ c.both.ensures.keeps c.either.ensures.keeps) c.args.y.stays c.requires.y_stays

pub returns-then-x-clause-lead : goal.returns-then-x-clause-lead
returns-then-x-clause-lead c = in_turn_made c.args.store.now c.both.new.store c.either.new.store c.both-2.new.store c.args.x c.args.y _ c.in_ok-second.second c.both.ensures.keeps c.either.ensures.keeps c.both-2.ensures.keeps
    c.requires.x_further.live c.requires.x_stays.live c.requires.y_stays.live c.in_ok-second.ensures.id c.in_ok-further.ensures.id c.in_ok-stays.ensures.id (rw c.if-x.true refl)

pub returns-else-x-clause-lead : goal.returns-else-x-clause-lead
returns-else-x-clause-lead c = in_turn_made c.args.store.now c.both.new.store c.either.new.store c.both-2.new.store c.args.x c.args.y _ c.in_ok-second.second c.both.ensures.keeps c.either.ensures.keeps c.both-2.ensures.keeps
    c.requires.x_further.live c.requires.x_stays.live c.requires.y_stays.live c.in_ok-second.ensures.id c.in_ok-further.ensures.id c.in_ok-stays.ensures.id (rw c.if-x.false refl)
