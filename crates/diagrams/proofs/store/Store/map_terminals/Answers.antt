use Rattle.diagrams.proofs.store.Store.map_terminals.Goals as goal

pub mapped-requires-clause-right : goal.mapped-requires-clause-right
mapped-requires-clause-right c = λ key id e. absurd (c.new-memo.ensures key id e)
