use Rattle.diagrams.proofs.store.Store.combine.Goals as goal

pub combined-requires-clause-right : goal.combined-requires-clause-right
combined-requires-clause-right c = λ key id e. absurd (c.new-memo.ensures key id e)
