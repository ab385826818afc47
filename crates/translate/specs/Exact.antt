-- Least automata of what is true or false of words.
use Rattle.std.specs.Prelude.{◌≡◌, ℕ, ◌<◌, Bool, true, false, not, ◌&&◌}
use Rattle.forms.specs.Word.{Word, Claim, is_empty}
use Rattle.forms.specs.Tree.{Formula}
use Rattle.forms.specs.Satisfaction.{sat}
use Rattle.diagrams.specs.Eval.{Diagrams}
use Rattle.automata.specs.Moves.{accepts}
use Rattle.automata.specs.Table.{Table, size_of, mark_of, Fits, moves_of}
use Rattle.automata.specs.Numbering.{IsNumbered}
use Rattle.minimise.specs.Minimal.{IsLeast}

-- what an automaton accepts
abbrev pub accepted : Diagrams → Table → Claim
accepted s t w = accepts (moves_of s t) w

-- the automaton fits the store, its marks are 0 and 1, it accepts what the claim holds of, whatever the numbers of the
-- word, and it is the least such automaton, numbered by least words
pub record IsLeastOf (s : Diagrams) (t : Table) (f : Claim) : Type 0 where
  pub fits : Fits s t
  pub marks : (at : ℕ) → at < size_of t → mark_of t at < 2
  pub same : (w : Word) → accepted s t w ≡ f w
  pub least : IsLeast s.props (moves_of s t)
  pub numbered : IsNumbered s.props (moves_of s t)

-- the least automaton of a formula, the empty word included
abbrev pub IsLeastMeant : Diagrams → Table → Formula → Type 0
IsLeastMeant s t f = IsLeastOf s t (λ w. sat s.props f w)

-- the claim on words that have a letter, and on the empty one only where it is admitted
abbrev pub admitted : Bool → Claim → Claim
admitted true f = f
admitted false f = λ w. not (is_empty w) && f w
