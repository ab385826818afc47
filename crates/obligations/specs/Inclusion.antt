-- The obligations that stand for locations, and which locations accept what others do.
use Rattle.std.specs.Prelude.{◌≡◌, ℕ, ◌<◌, ◌+◌, ◌==◌, ◌&&◌, Bool, true, List, [], ◌∷◌}
use Rattle.forms.specs.Word.{Claim}
use Rattle.diagrams.specs.Tree.{Assignment}
use Rattle.diagrams.specs.Eval.{Diagrams, eval}
use Rattle.automata.specs.Moves.{mark_after}
use Rattle.automata.specs.Table.{Table, size_of, mark_of, row_of, moves_of}
use Rattle.obligations.specs.declared.cells.Obligation.{Obligation}
use Rattle.obligations.specs.Table.{ends_of, body_of}

-- whether a location accepts a word
abbrev pub accepts_from : Diagrams → Table → ℕ → Claim
accepts_from s t at w = mark_after (moves_of s t) at w == 1

-- each of some locations is there
abbrev pub AllBelow : ℕ → List ℕ → Type 0
AllBelow n [] = Unit {0}
AllBelow n (at ∷ ats) = (at < n) × AllBelow n ats

-- whether the body of an obligation is 1
abbrev pub body_value : Diagrams → List Obligation → ℕ → Assignment → Bool
body_value s c j a = eval s (body_of c j) a == 1

-- whether obligation j is asked of the next position
abbrev pub later : Diagrams → ℕ → Assignment → Bool
later s j a = a (s.props + j)

-- whether each of some obligations is asked of the next position
abbrev pub all_later : Diagrams → ℕ → Assignment → List ℕ → Bool
all_later s base a [] = true
all_later s base a (at ∷ ats) = later s (base + at) a && all_later s base a ats

-- from base on there is an obligation for each location; its body asks for the locations that go with the target of the row
pub record Follows (s : Diagrams) (c : List Obligation) (t : Table) (base : ℕ) (wider : ℕ → List ℕ) : Type 0 where
  pub ends : (at : ℕ) → at < size_of t → ends_of c (base + at) ≡ (mark_of t at == 1)
  pub body : (at : ℕ) → at < size_of t → (a : Assignment) → body_value s c (base + at) a ≡ all_later s base a (wider (eval s (row_of t at) a))

-- a relation on locations that marks and rows keep: so it is an inclusion of languages
pub record IsSimulation (s : Diagrams) (t : Table) (R : ℕ → ℕ → Bool) : Type 0 where
  pub marks : (x y : ℕ) → R x y ≡ true → (mark_of t x == 1) ≡ true → (mark_of t y == 1) ≡ true
  pub rows : (x y : ℕ) → R x y ≡ true → (a : Assignment) → R (eval s (row_of t x) a) (eval s (row_of t y) a) ≡ true

-- whether each of some locations accepts a word
abbrev pub all_accept : Diagrams → Table → List ℕ → List ℕ → Bool
all_accept s t w [] = true
all_accept s t w (at ∷ ats) = accepts_from s t at w && all_accept s t w ats

-- with each location goes a list of locations, which all accept a word exactly where the location does
pub record IsWider (s : Diagrams) (t : Table) (wider : ℕ → List ℕ) : Type 0 where
  pub within : (at : ℕ) → at < size_of t → AllBelow (size_of t) (wider at)
  pub same : (at : ℕ) (w : List ℕ) → at < size_of t → all_accept s t w (wider at) ≡ accepts_from s t at w

-- each of some locations simulates a location
abbrev pub AllSimulate : (ℕ → ℕ → Bool) → ℕ → List ℕ → Type 0
AllSimulate R at [] = Unit {0}
AllSimulate R at (x ∷ xs) = (R at x ≡ true) × AllSimulate R at xs
