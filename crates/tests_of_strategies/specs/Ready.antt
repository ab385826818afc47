-- Automata of which a strategy can be made.
use Rattle.std.specs.Prelude.{◌<◌, ℕ, Option}
use Rattle.diagrams.specs.Eval.{Diagrams}
use Rattle.automata.specs.Table.{Table, size_of, mark_of, Fits}
use Rattle.arena.specs.Building.{FitsWhere}

-- the automata of a goal, of what is assumed and of a duty fit the store, and that of the goal tells what it accepts by the
-- marks 0 and 1
pub record AreReady (s : Diagrams) (wanted : Table) (assumed owed : Option Table) : Type 0 where
  pub goal : Fits s wanted
  pub marks : (at : ℕ) → at < size_of wanted → mark_of wanted at < 2
  pub keep : FitsWhere s assumed
  pub duty : FitsWhere s owed
