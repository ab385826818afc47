use Rattle.automata.proofs.Walks.{IsAfter}
use Rattle.automata.proofs.automaton.Automaton.accepts.Given as goal

abbrev pub invariant-loop-letter : goal.invariant-loop-letter
invariant-loop-letter l = IsAfter l.store l.self l.word l.letter-index l.at
