-- The walk along a word.
use Rattle.std.proofs.Common.{◌≡◌, ◌<◌, ℕ, drop}
use Rattle.forms.specs.Word.{Word}
use Rattle.diagrams.specs.Eval.{Diagrams}
use Rattle.automata.specs.Moves.{location_after}
use Rattle.automata.specs.Table.{Table, size_of, moves_of}

-- the walk has read k letters of the word and is at a location, from which the rest leads where the word leads
pub record IsAfter (s : Diagrams) (t : Table) (word : Word) (k at : ℕ) : Type 0 where
  pub within : at < size_of t
  pub rest : location_after (moves_of s t) at (drop k word) ≡ location_after (moves_of s t) t.first word
