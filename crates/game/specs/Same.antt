-- Specifications that ask the same of words over the propositions.
use Rattle.std.specs.Prelude.{◌≡◌, ℕ, Option, Some, None}
use Rattle.forms.specs.Word.{Word, Claim, IsOver}
use Rattle.game.specs.Board.{Partition}
use Rattle.game.specs.Histories.{Aims}

-- the claims agree on words over p propositions
abbrev pub AgreeOver : ℕ → Claim → Claim → Type 0
AgreeOver p c d = (w : Word) → IsOver p w → c w ≡ d w

-- neither is there, or both are, and they agree
abbrev pub AgreeWhere : ℕ → Option Claim → Option Claim → Type 0
AgreeWhere p None None = Unit {0}
AgreeWhere p None (Some d) = ⊥
AgreeWhere p (Some c) None = ⊥
AgreeWhere p (Some c) (Some d) = AgreeOver p c d

-- the claims of a specification
pub record Claims : Type 0 where
  pub goal : Claim
  pub assumed : Option Claim
  pub duty : Option Claim

-- what is asked for by these claims in this partition
abbrev pub aims_with : Partition → Claims → Aims
aims_with parts c = record { parts = parts; goal = c.goal; assumed = c.assumed; duty = c.duty }

-- the claims of two specifications agree on words over p propositions
pub record Agree (p : ℕ) (c d : Claims) : Type 0 where
  pub goal : AgreeOver p c.goal d.goal
  pub assumed : AgreeWhere p c.assumed d.assumed
  pub duty : AgreeWhere p c.duty d.duty
