-- What is known after a round of division.
use Rattle.std.specs.Prelude.{◌≡◌, ◌≢◌, ◌<◌, ◌≤◌, ◌^◌, ℕ, true, List, All, AllPairs, Any, length, slice_index}
use Rattle.forms.specs.Word.{Word}
use Rattle.forms.specs.Shortlex.{comes_before}
use Rattle.automata.specs.Moves.{Moves, IsClosed}
use Rattle.automata.specs.Table.{Table, size_of, mark_of, moves_of}
use Rattle.diagrams.specs.declared.top.Id.{Id}
use Rattle.diagrams.specs.Eval.{Diagrams}
use Rattle.dividing.specs.Divisions.{AreBlockRows}
use Rattle.class_laws.specs.Divided.{IsDivided}
use Rattle.distinguish.specs.declared.telling.Refinement.{Refinement}
use Rattle.distinguish.specs.Telling.{IsLeastDistinguishing, IsLeastForSome}
use Rattle.distinguish.specs.Columns.{AreColumns}

-- blocks that words of fewer than so many letters divide, those of the list of distinguishing words among
-- these in order, and the marks after them
pub record IsDividedByWords (p : ℕ) (m : Moves) (blocks : List ℕ) (words : List Word) (columns : List (List ℕ)) : Type 0 where
  pub closed : IsClosed p m
  pub letters : ℕ
  pub some : 0 < letters
  pub size : length blocks ≡ m.size
  pub low : (at : ℕ) → at < m.size → slice_index blocks at ≤ at
  pub own : (at : ℕ) → at < m.size → slice_index blocks (slice_index blocks at) ≡ slice_index blocks at
  pub divided : IsDivided p m letters (slice_index blocks)
  pub order : AllPairs (λ u v. comes_before u v ≡ true) words
  pub needed : All (IsLeastForSome p m) words
  pub short : All (λ w. length w < letters) words
  pub whole : (i j : ℕ) → i < m.size → j < m.size → slice_index blocks i ≢ slice_index blocks j → Any (IsLeastDistinguishing p m i j) words
  pub marks : AreColumns m words columns

-- the same of a refinement's parts
abbrev pub HasDivided : Diagrams → Table → Refinement → Type 0
HasDivided s t x = IsDividedByWords s.props (moves_of s t) x.blocks.items x.words x.columns.items

-- a refinement has the two locations in one block
abbrev pub HasInOneBlock : Refinement → ℕ → ℕ → Type 0
HasInOneBlock x i j = slice_index x.blocks.items i ≡ slice_index x.blocks.items j

-- the rows of all locations, with the refinement's blocks in place of locations
abbrev pub HasRows : Diagrams → Table → Refinement → List Id → Type 0
HasRows s t x rows = AreBlockRows s s t x.blocks.items rows (size_of t)

-- letters lead locations of one block to one block
abbrev pub IsStable : ℕ → Moves → List ℕ → Type 0
IsStable p m blocks = (i j a : ℕ) → i < m.size → j < m.size → a < 2 ^ p → slice_index blocks i ≡ slice_index blocks j
    → slice_index blocks (m.next i a) ≡ slice_index blocks (m.next j a)

-- the same of a refinement's blocks
abbrev pub HasStableBlocks : Diagrams → Table → Refinement → Type 0
HasStableBlocks s t x = IsStable s.props (moves_of s t) x.blocks.items

-- locations with equal marks are in one block, whose name is its first location
pub record IsByMarks (t : Table) (blocks : List ℕ) : Type 0 where
  pub size : length blocks ≡ size_of t
  pub low : (at : ℕ) → at < size_of t → slice_index blocks at ≤ at
  pub mark : (at : ℕ) → at < size_of t → mark_of t (slice_index blocks at) ≡ mark_of t at
  pub one : (i j : ℕ) → i < size_of t → j < size_of t → mark_of t i ≡ mark_of t j → slice_index blocks i ≡ slice_index blocks j
