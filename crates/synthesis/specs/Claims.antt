-- The claims that automata stand for.
use Rattle.std.specs.Prelude.{Option}
use Rattle.diagrams.specs.Eval.{Diagrams}
use Rattle.automata.specs.Table.{Table}
use Rattle.game.specs.Same.{Claims}
use Rattle.legality.specs.Legal.{claim_of}
use Rattle.arena.specs.Building.{claim_where}

-- what the automata of the goal, of what is assumed and of the duty accept
abbrev pub claims_of : Diagrams → Table → Option Table → Option Table → Claims
claims_of s goal keep duty = record { goal = claim_of s goal; assumed = claim_where s keep; duty = claim_where s duty }
