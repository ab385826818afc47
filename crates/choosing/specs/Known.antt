-- Numbers that are kept of diagrams.
use Rattle.std.specs.Prelude.{◌≡◌, ℕ, List, Option, Some, if◌then◌else◌}
use Rattle.std.specs.HashMap as hash
use Rattle.diagrams.specs.declared.top.Id.{Id}
use Rattle.diagrams.specs.Transformed.{same_id}
use Rattle.diagrams.specs.Eval.{Diagrams, tree}
use Rattle.choosing.specs.declared.known.Known.{Known}
use Rattle.choosing.specs.declared.walks.Turns.{Turns}
use Rattle.choosing.specs.Best.{best_of}

-- the number of a diagram, where there is one
abbrev pub number_of : Known → Id → Option ℕ
number_of known id = hash.get same_id known.numbers id

-- one more number is kept
abbrev pub IsNoted : Known → Known → Id → ℕ → Type 0
IsNoted old new id number = (other : Id) → number_of new other ≡ (if same_id id other then Some number else number_of old other)

-- each number that is kept is the best below its diagram
abbrev pub AllRight : Diagrams → Turns → List ℕ → Known → Type 0
AllRight s turns values known = (id : Id) (number : ℕ) → number_of known id ≡ Some number → number ≡ best_of turns values (tree s id)
