use Rattle.layers.proofs.FoldingLemmas.{none_found}
use Rattle.layers.proofs.folding.Folding.new.Goals as goal

pub returns : goal.returns
returns c = λ s below inputs table. record { found = rw (c.new-found.ensures.items) (none_found s table); made = λ key id e. absurd (c.new-made.ensures key id e) }
