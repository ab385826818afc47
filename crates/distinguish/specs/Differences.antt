-- The least letter at which two diagrams differ.
use Rattle.std.specs.Prelude.{◌≡◌, ◌≢◌, ◌<◌, ◌^◌, ℕ}
use Rattle.diagrams.specs.declared.top.Id.{Id}
use Rattle.diagrams.specs.Eval.{Diagrams, eval, DependsOn, letter_truth}
use Rattle.diagrams.specs.Live.{IsLive}

-- the id is live, and depends on propositions alone
pub record IsOverLetters (s : Diagrams) (i : Id) : Type 0 where
  pub live : IsLive s i
  pub letters : DependsOn s i (λ v. v < s.props)

-- the two have different values at the letter, and equal ones at each lesser letter
pub record IsLeastDifference (s : Diagrams) (f g : Id) (letter : ℕ) : Type 0 where
  pub within : letter < 2 ^ s.props
  pub differ : eval s f (letter_truth s.props letter) ≢ eval s g (letter_truth s.props letter)
  pub least : (b : ℕ) → b < letter → eval s f (letter_truth s.props b) ≡ eval s g (letter_truth s.props b)
