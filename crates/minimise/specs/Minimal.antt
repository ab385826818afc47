-- Least automata, and what holds of each.
use Rattle.std.specs.Prelude.{◌≡◌, ◌≢◌, ◌<◌, ◌≤◌, ◌^◌, ℕ}
use Rattle.forms.specs.Word.{Word, Claim, IsOver}
use Rattle.forms.specs.Equivalence.{HasClassCount}
use Rattle.automata.specs.Moves.{Moves, accepts, HaveSameMarksOver, IsClosed, IsReached, AreDistinguished}
use Rattle.automata.specs.Numbering.{IsNumbered}

-- every location is reached, and some word leads every two to different marks
pub record IsLeast (p : ℕ) (m : Moves) : Type 0 where
  pub closed : IsClosed p m
  pub reached : (at : ℕ) → at < m.size → IsReached p m at
  pub apart : (i j : ℕ) → i < m.size → j < m.size → i ≢ j → AreDistinguished p m i j

-- marks are 0 and 1, and the automaton accepts the words of the claim
pub record Decides (p : ℕ) (m : Moves) (f : Claim) : Type 0 where
  pub marks : (at : ℕ) → at < m.size → m.mark at < 2
  pub accepts : (w : Word) → IsOver p w → f w ≡ accepts m w

-- the least automaton of a claim, numbered by least words
pub record IsLeastFor (p : ℕ) (m : Moves) (f : Claim) : Type 0 where
  pub least : IsLeast p m
  pub numbered : IsNumbered p m
  pub decides : Decides p m f

-- the two have the same locations, with the same marks and moves
pub record AreTheSame (p : ℕ) (m n : Moves) : Type 0 where
  pub size : m.size ≡ n.size
  pub first : m.first ≡ n.first
  pub mark : (at : ℕ) → at < m.size → m.mark at ≡ n.mark at
  pub next : (at a : ℕ) → at < m.size → a < 2 ^ p → m.next at a ≡ n.next at a

-- every numbered least automaton of the claim's words is this one, and no automaton that decides the claim has fewer locations
pub record IsOnlyFor (p : ℕ) (m : Moves) (f : Claim) : Type 0 where
  pub unique : (g : Claim) (n : Moves) → ((w : Word) → IsOver p w → g w ≡ f w) → IsLeastFor p n g → AreTheSame p n m
  pub smallest : (n : Moves) → IsClosed p n → Decides p n f → m.size ≤ n.size

-- a least automaton has as many locations as its claim has classes of equivalent words (Nerode 1958)
abbrev pub SizeIsClassCount : Type 0
SizeIsClassCount = (p : ℕ) (m : Moves) (f : Claim) → IsLeast p m → Decides p m f → HasClassCount p f m.size

-- a claim has one class count at most
abbrev pub ClassCountIsOne : Type 0
ClassCountIsOne = (p : ℕ) (f : Claim) (n k : ℕ) → HasClassCount p f n → HasClassCount p f k → n ≡ k

-- numbered least automata with the same marks after each word are the same
abbrev pub LeastIsUnique : Type 0
LeastIsUnique = (p : ℕ) (m n : Moves) → IsLeast p m → IsNumbered p m → IsLeast p n → IsNumbered p n
    → HaveSameMarksOver p m n → AreTheSame p m n

-- no automaton with the same marks after each word has fewer locations
abbrev pub LeastIsSmallest : Type 0
LeastIsSmallest = (p : ℕ) (m n : Moves) → IsLeast p m → IsClosed p n → HaveSameMarksOver p m n → m.size ≤ n.size
