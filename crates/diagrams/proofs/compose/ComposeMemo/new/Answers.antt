use Rattle.diagrams.proofs.compose.ComposeMemo.new.Goals as goal

pub returns : goal.returns
returns c = λ s cells. record {
  choices = λ key id e. absurd (c.new-choices.ensures key id e);
  composed = λ key id e. absurd (c.new-composed.ensures key id e);
}
