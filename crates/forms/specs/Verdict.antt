-- What the letters so far say of all words that begin with them.
-- The claim is `meets p f` for the verdict of a formula f.
use Rattle.std.specs.Prelude.{◌≡◌, ℕ, true, false, ◌++◌}
use Rattle.forms.specs.Word.{Word, Claim, IsOver}

-- permanently true or false, or so for now
pub data Verdict : Type 0 where
  PermTrue PermFalse TempTrue TempFalse : Verdict

-- the verdict of the claim after the word w: what holds after every continuation, the empty one
-- included, is permanent; else some continuation has another answer than w
abbrev pub IsVerdict : ℕ → Claim → Word → Verdict → Type 0
IsVerdict p f w PermTrue = (v : Word) → IsOver p v → f (w ++ v) ≡ true
IsVerdict p f w PermFalse = (v : Word) → IsOver p v → f (w ++ v) ≡ false
IsVerdict p f w TempTrue = (f w ≡ true) × ((v : Word) × IsOver p v × (f (w ++ v) ≡ false))
IsVerdict p f w TempFalse = (f w ≡ false) × ((v : Word) × IsOver p v × (f (w ++ v) ≡ true))
