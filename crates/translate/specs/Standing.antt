-- Obligations that stand for claims about words, and flipped automata.
use Rattle.std.specs.Prelude.{◌≡◌, ℕ, ◌<◌, ◌==◌, List, length, if◌then◌else◌}
use Rattle.forms.specs.Word.{Word, Claim}
use Rattle.diagrams.specs.Eval.{Diagrams}
use Rattle.diagrams.specs.Live.{Keeps}
use Rattle.automata.specs.Table.{Table, size_of, mark_of, row_of}
use Rattle.obligations.specs.declared.cells.Obligation.{Obligation}
use Rattle.obligations.specs.Value.{cell}
use Rattle.obligations.specs.Followed.{GoesOn}

-- obligation j holds on a word exactly where the claim does, however the store and the table grow
pub record Stands (s : Diagrams) (c : List Obligation) (j : ℕ) (f : Claim) : Type 0 where
  pub within : j < length c
  pub same : (n : Diagrams) (d : List Obligation) → Keeps s n → GoesOn c d → (w : Word) → cell n d w j ≡ f w

-- n has the locations of t, with the mark 0 where t has 1, and else 1
pub record IsFlipped (t n : Table) : Type 0 where
  pub size : size_of n ≡ size_of t
  pub first : n.first ≡ t.first
  pub row : (at : ℕ) → at < size_of t → row_of n at ≡ row_of t at
  pub mark : (at : ℕ) → at < size_of t → mark_of n at ≡ (if mark_of t at == 1 then 0 else 1)
