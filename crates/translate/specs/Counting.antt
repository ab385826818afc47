-- The class counts of a formula's parts and of the formula as a whole, and the first of them over a limit, which may be any
-- number. Number k, from 1 on, is part k; the number after the last part's is the whole. The last part is the formula too,
-- but its count is of all words, the empty one included, and that of the whole is of the traces, which are not empty, unless
-- the empty word is admitted.
use Rattle.std.specs.Prelude.{◌≡◌, ℕ, suc, ◌<◌, ◌≤◌, Bool, true, false, List, All, length, slice_index, Option, Some, None}
use Rattle.forms.specs.Word.{Claim}
use Rattle.forms.specs.Tree.{Formula}
use Rattle.forms.specs.Parts.{parts, part}
use Rattle.forms.specs.Satisfaction.{sat, meets}
use Rattle.forms.specs.Equivalence.{HasClassCount}
use Rattle.translate.specs.declared.fault.TranslateFault.{TranslateFault}
use Rattle.translate.specs.declared.fault.TranslateFault.TheVariants.{TooMany, Memory}

-- what the whole says of a word: that it is a trace of the formula or, where the empty word is admitted, that the formula
-- holds on it
abbrev pub whole_claim : ℕ → Formula → Bool → Claim
whole_claim p f false = λ w. meets p f w
whole_claim p f true = λ w. sat p f w

-- the claim whose classes are counted: that the part holds on a word or, where there is no part, what the whole says
abbrev pub claim_of : ℕ → Formula → Bool → Option Formula → Claim
claim_of p f empty (Some g) = λ w. sat p g w
claim_of p f empty None = whole_claim p f empty

-- the claim of number k has `count` classes of equivalent words; each number that no part has is the whole's
abbrev pub HasCount : ℕ → Formula → Bool → ℕ → ℕ → Type 0
HasCount p f empty k count = HasClassCount p (claim_of p f empty (part f k)) count

-- the list holds the count of each part, in the order of the parts, and not that of the whole
pub record AreCounts (p : ℕ) (f : Formula) (counts : List ℕ) : Type 0 where
  pub size : length counts ≡ length (parts f)
  pub count : (k : ℕ) (empty : Bool) → k < length counts → HasCount p f empty (suc k) (slice_index counts k)

-- the count of number k is at most the limit
pub record IsWithin (p : ℕ) (f : Formula) (empty : Bool) (limit k : ℕ) : Type 0 where
  pub count : ℕ
  pub has : HasCount p f empty k count
  pub within : count ≤ limit

-- number k is the first whose count is over the limit, and `count` is its count; a claim has a class at least, so the limit 0
-- is passed by number 1
pub record IsFirstOver (p : ℕ) (f : Formula) (empty : Bool) (limit k count : ℕ) : Type 0 where
  pub some : 0 < k
  pub last : k ≤ suc (length (parts f))
  pub has : HasCount p f empty k count
  pub over : limit < count
  pub before : (j : ℕ) → 0 < j → j < k → IsWithin p f empty limit j

-- where the fault is too many classes, P holds of the number and of the count that it names
abbrev pub IfTooMany : TranslateFault → (ℕ → ℕ → Type 0) → Type 0
IfTooMany (TooMany part count) P = P part count
IfTooMany Memory P = Unit {0}

-- at most one number is the first over a limit, and it has one count
abbrev pub FirstOverIsOne : Type 0
FirstOverIsOne = (p : ℕ) (f : Formula) (empty : Bool) (limit i j m n : ℕ) → IsFirstOver p f empty limit i m → IsFirstOver p f empty limit j n
    → (i ≡ j) × (m ≡ n)

-- where some number is the first over the limit, the counts of the parts and of the whole are not all within it
abbrev pub FirstOverIsNotWithin : Type 0
FirstOverIsNotWithin = (p : ℕ) (f : Formula) (empty : Bool) (limit k count whole : ℕ) (counts : List ℕ) → IsFirstOver p f empty limit k count
    → AreCounts p f counts → All (λ n. n ≤ limit) counts → HasClassCount p (whole_claim p f empty) whole → whole ≤ limit → ⊥
