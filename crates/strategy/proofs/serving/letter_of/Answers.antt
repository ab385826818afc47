use Rattle.strategy.proofs.LetterLemmas.{letter-below, letter-same, agent-none}
use Rattle.strategy.proofs.serving.letter_of.Goals as goal

pub returns-in-Environment-clause-below : goal.returns-in-Environment-clause-below
returns-in-Environment-clause-below c = letter-below c.args.partition c.args.input c.in-Environment.is c.requires.width c.requires.input

pub returns-in-Environment-clause-same : goal.returns-in-Environment-clause-same
returns-in-Environment-clause-same c = letter-same c.args.partition c.args.input c.in-Environment.is c.requires.width c.requires.input

pub returns-in-Agent-clause-same : goal.returns-in-Agent-clause-same
returns-in-Agent-clause-same c v l = absurd (agent-none c.args.partition.first c.args.partition.inputs v c.in-Agent.is l)
