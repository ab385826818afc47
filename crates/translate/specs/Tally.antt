-- The counts of a list of formulas as they are taken one after another, up to the first that is over a limit.
use Rattle.std.specs.Prelude.{◌≡◌, ℕ, ◌<◌, ◌≤◌, ◌+◌, List, ◌∷◌, ◌++◌, length}
use Rattle.std.specs.List.{AllZip}
use Rattle.forms.specs.Tree.{Formula}
use Rattle.forms.specs.Parts.{parts}
use Rattle.forms.specs.Satisfaction.{sat}
use Rattle.forms.specs.Equivalence.{HasClassCount}
use Rattle.translate.specs.declared.fault.TranslateFault.{TranslateFault}
use Rattle.translate.specs.Counting.{IfTooMany}

-- the formula has so many classes of equivalent words, no more than the limit
pub record HasCountWithin (p limit : ℕ) (f : Formula) (count : ℕ) : Type 0 where
  pub has : HasClassCount p (λ w. sat p f w) count
  pub within : count ≤ limit

-- after the old counts stand those of the formulas, each within the limit
pub record AddsCounts (p limit : ℕ) (fs : List Formula) (old new : List ℕ) : Type 0 where
  pub added : List ℕ
  pub appended : new ≡ old ++ added
  pub counts : AllZip (HasCountWithin p limit) fs added

-- one of the formulas has more classes than the limit, and those before it don't; its number goes on from the old counts
pub record StopsAt (p limit : ℕ) (fs : List Formula) (old : List ℕ) (number count : ℕ) : Type 0 where
  pub before : List Formula
  pub stop : Formula
  pub after : List Formula
  pub split : fs ≡ before ++ stop ∷ after
  pub added : List ℕ
  pub counts : AllZip (HasCountWithin p limit) before added
  pub counted : number ≡ length old + length before + 1
  pub has : HasClassCount p (λ w. sat p stop w) count
  pub over : limit < count

-- after the old counts stand those of the parts of a formula, each within the limit
abbrev pub AddsPartCounts : ℕ → ℕ → Formula → List ℕ → List ℕ → Type 0
AddsPartCounts p limit f old new = AddsCounts p limit (parts f) old new

-- where the fault is too many classes, a part of the formula is the first that has more than the limit
abbrev pub StopsAtPart : ℕ → ℕ → Formula → List ℕ → TranslateFault → Type 0
StopsAtPart p limit f old fault = IfTooMany fault (StopsAt p limit (parts f) old)
