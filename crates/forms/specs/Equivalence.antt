-- Equivalent words, and how many classes of them there are (Myhill 1957, Nerode 1958).
-- For a part f of a formula the claim is `sat p f`, for the whole `meets p f`.
use Rattle.std.specs.Prelude.{◌≡◌, ◌≢◌, ℕ, List, ◌++◌, All, Any, AllPairs, length}
use Rattle.forms.specs.Word.{Word, Claim, IsOver}

-- u and v are equivalent for the claim: after each continuation it holds of both or of neither
abbrev pub AreEquivalent : ℕ → Claim → Word → Word → Type 0
AreEquivalent p f u v = (w : Word) → IsOver p w → f (u ++ w) ≡ f (v ++ w)

-- after some continuation the claim holds of one of the two words alone, so they are not equivalent
pub record AreDistinguishable (p : ℕ) (f : Claim) (u v : Word) : Type 0 where
  pub word : Word
  pub over : IsOver p word
  pub differ : f (u ++ word) ≢ f (v ++ word)

-- there are n words, every two not equivalent (some continuation separates them), and each word is
-- equivalent to one of them
pub record HasClassCount (p : ℕ) (f : Claim) (n : ℕ) : Type 0 where
  pub words : List Word
  pub count : length words ≡ n
  pub over : All (IsOver p) words
  pub differ : AllPairs (AreDistinguishable p f) words
  pub cover : (u : Word) → IsOver p u → Any (AreEquivalent p f u) words
