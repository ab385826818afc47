use Rattle.diagrams.proofs.store.Store.ite.Goals as goal

pub chosen-requires-clause-right : goal.chosen-requires-clause-right
chosen-requires-clause-right c = λ key id e. absurd (c.new-memo.ensures key id e)
