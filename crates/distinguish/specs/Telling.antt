-- The words that tell locations apart, in shortlex order, and laws of their lists.
use Rattle.std.specs.Prelude.{◌≡◌, ◌≢◌, ◌<◌, ◌≤◌, ◌+◌, ℕ, true, List, All, AllPairs, Any, length}
use Rattle.forms.specs.Word.{Word, IsOver}
use Rattle.forms.specs.Shortlex.{comes_before}
use Rattle.automata.specs.Moves.{Moves, mark_after, IsClosed}
use Rattle.minimise.specs.Minimal.{AreTheSame}

-- the word leads from the two locations to different marks, and no word that comes before it does
pub record IsLeastDistinguishing (p : ℕ) (m : Moves) (i j : ℕ) (w : Word) : Type 0 where
  pub over : IsOver p w
  pub differ : mark_after m i w ≢ mark_after m j w
  pub least : (v : Word) → IsOver p v → comes_before v w ≡ true → mark_after m i v ≡ mark_after m j v

-- the word is the least that leads from some two locations to different marks
pub record IsLeastForSome (p : ℕ) (m : Moves) (w : Word) : Type 0 where
  pub one : ℕ
  pub other : ℕ
  pub one_within : one < m.size
  pub other_within : other < m.size
  pub least : IsLeastDistinguishing p m one other w

-- in shortlex order each word that is the least to tell some two locations apart, and no other: so every two are told apart by one of the words
pub record IsTellingList (p : ℕ) (m : Moves) (words : List Word) : Type 0 where
  pub order : AllPairs (λ u v. comes_before u v ≡ true) words
  pub needed : All (IsLeastForSome p m) words
  pub whole : (i j : ℕ) → i < m.size → j < m.size → i ≢ j → Any (IsLeastDistinguishing p m i j) words

-- there are fewer distinguishing words than locations
abbrev pub TellingWordsAreFew : Type 0
TellingWordsAreFew = (p : ℕ) (m : Moves) (words : List Word) → 0 < m.size → IsTellingList p m words → length words + 1 ≤ m.size

-- automata with the same marks and moves have one list of distinguishing words
abbrev pub TellingListIsUnique : Type 0
TellingListIsUnique = (p : ℕ) (m n : Moves) (words others : List Word) → IsClosed p m → AreTheSame p m n
    → IsTellingList p m words → IsTellingList p n others → words ≡ others
