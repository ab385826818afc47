-- Laws of partition refinement.
use Rattle.std.specs.Prelude.{◌≡◌, ◌<◌, ◌^◌, ℕ, suc, List}
use Rattle.diagrams.specs.declared.top.Id.{Id}
use Rattle.diagrams.specs.Eval.{Diagrams}
use Rattle.diagrams.specs.Live.{Keeps, Means}
use Rattle.automata.specs.Moves.{Moves, IsClosed}
use Rattle.automata.specs.Table.{Table, size_of, mark_of, Fits, moves_of}
use Rattle.linked_blocks.specs.Lists.{HoldEach}
use Rattle.class_laws.specs.Divided.{IsDivided}
use Rattle.class_laws.specs.Classes.{AreClasses, IsPaid, HasFewMoves}
use Rattle.class_laws.specs.Splits.{IsSplit}
use Rattle.class_laws.specs.Current.{AreRowsBy}

-- locations of one block have one mark, and go to one block by each letter
pub record IsStable (p : ℕ) (m : Moves) (block : ℕ → ℕ) : Type 0 where
  pub mark : (i j : ℕ) → i < m.size → j < m.size → block i ≡ block j → m.mark i ≡ m.mark j
  pub next : (i j a : ℕ) → i < m.size → j < m.size → block i ≡ block j → a < 2 ^ p → block (m.next i a) ≡ block (m.next j a)

-- a split of one block by marks divides by the empty word
abbrev pub MarksDivide : Type 0
MarksDivide = (s n : Diagrams) (t : Table) (old new : ℕ → ℕ) (key : ℕ → Id) → Keeps s n → ((at : ℕ) → at < size_of t → Means n (key at) (λ a. mark_of t at))
    → ((i j : ℕ) → i < size_of t → j < size_of t → old i ≡ old j) → IsSplit (size_of t) old new key → IsDivided s.props (moves_of s t) 1 new

-- a split by rows with blocks in place of locations divides by words of one letter more
abbrev pub RowsDivide : Type 0
RowsDivide = (s n : Diagrams) (t : Table) (old new : ℕ → ℕ) (key : ℕ → Id) → Keeps s n → Fits s t → t.first < size_of t → AreRowsBy s n t old key
    → IsSplit (size_of t) old new key → (k : ℕ) → IsDivided s.props (moves_of s t) (suc k) old → IsDivided s.props (moves_of s t) (suc (suc k)) new

-- where such a split changes no block, the blocks are the classes
abbrev pub UnchangedAreClasses : Type 0
UnchangedAreClasses = (s n : Diagrams) (t : Table) (old new : ℕ → ℕ) (key : ℕ → Id) → Keeps s n → Fits s t → t.first < size_of t → AreRowsBy s n t old key
    → IsSplit (size_of t) old new key → (k : ℕ) → IsDivided s.props (moves_of s t) (suc k) old → ((i : ℕ) → i < size_of t → new i ≡ old i)
    → AreClasses s.props (moves_of s t) old

-- classes are stable
abbrev pub ClassesAreStable : Type 0
ClassesAreStable = (p : ℕ) (m : Moves) (block : ℕ → ℕ) → IsClosed p m → AreClasses p m block → IsStable p m block

-- where each location's block has halved as often as it moved, there are few moves
abbrev pub PaidAreFew : Type 0
PaidAreFew = (size : ℕ) (lists : List (List ℕ)) (moves : ℕ) → HoldEach size lists → IsPaid size lists moves → HasFewMoves size moves
