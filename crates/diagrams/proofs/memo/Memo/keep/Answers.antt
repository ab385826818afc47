use Rattle.std.proofs.Common.{◌+◌, refl, Some}
use Rattle.std.specs.Vec.{with_item}
use Rattle.diagrams.proofs.Kept.{learnt_put}
use Rattle.diagrams.proofs.memo.Memo.keep.Goals as goal

pub returns-clause-ok : goal.returns-clause-ok
returns-clause-ok g c =
    learnt_put g.K.PartialEq.eq c.args.self.now c.make_room.new.self
    (record {
      alloc = c.make_room.new.self.alloc;
      entries = with_item c.make_room.new.self.entries c.place_of-place.result (Some (record { key = c.args.key; id = c.args.id }));
      count = c.make_room.new.self.count + 1;
    })
    c.place_of-place.result c.args.key c.args.id c.in_ok-make_room.ensures.same refl
