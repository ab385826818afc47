use Rattle.diagrams.proofs.memo.Memo.make_room.Goals as goal

pub returns-clause-same : goal.returns-clause-same
returns-clause-same g c = rw c.deref.ensures.value at c.in_ok-self.ensures.same
