-- What a monitor is in, the words that lead there, and the verdict after one more letter.
use Rattle.std.specs.Prelude.{◌≡◌, ◌<◌, ℕ, [], ◌∷◌, ◌++◌}
use Rattle.forms.specs.Word.{Word, Claim, IsOver}
use Rattle.forms.specs.Verdict.{Verdict, IsVerdict}
use Rattle.diagrams.specs.Eval.{Diagrams}
use Rattle.automata.specs.Moves.{location_after, accepts}
use Rattle.automata.specs.Table.{Table, size_of, mark_of, Fits, moves_of}
use Rattle.minimise.specs.Minimal.{IsLeast}

-- an automaton, and one of its locations
pub record Configuration : Type 0 where
  pub automaton : Table
  pub location : ℕ

-- the automaton fits the store, has the marks 0 and 1, and is least; the location is one of it
pub record IsReady (s : Diagrams) (m : Configuration) : Type 0 where
  pub fits : Fits s m.automaton
  pub marks : (at : ℕ) → at < size_of m.automaton → mark_of m.automaton at < 2
  pub least : IsLeast s.props (moves_of s m.automaton)
  pub within : m.location < size_of m.automaton

-- the word leads from the first location to this one
abbrev pub LeadsTo : Diagrams → Configuration → Word → Type 0
LeadsTo s m w = location_after (moves_of s m.automaton) m.automaton.first w ≡ m.location

-- the words of the claim are those that the automaton accepts
abbrev pub IsClaimOf : Diagrams → Table → Claim → Type 0
IsClaimOf s t f = (w : Word) → IsOver s.props w → f w ≡ accepts (moves_of s t) w

-- for the automaton's claim, and every word that leads to the location: the verdict of the word and one more letter
abbrev pub IsVerdictAfter : Diagrams → Configuration → ℕ → Verdict → Type 0
IsVerdictAfter s m letter verdict =
    (f : Claim) → IsClaimOf s m.automaton f → (w : Word) → IsOver s.props w → LeadsTo s m w → IsVerdict s.props f (w ++ letter ∷ []) verdict

-- every word that leads to the location before leads, with one more letter, to the location after
abbrev pub IsMovedBy : Diagrams → Configuration → Configuration → ℕ → Type 0
IsMovedBy s before after letter = (w : Word) → IsOver s.props w → LeadsTo s before w → LeadsTo s after (w ++ letter ∷ [])
