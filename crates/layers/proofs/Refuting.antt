-- Answers that lead from where no number wins to where none does refute every number of rounds.
use Rattle.std.proofs.Common.{◌≡◌, ℕ, zero, suc, refl, Some}
use Rattle.game.specs.Board.{Board, IsOutput, shown}
use Rattle.forms.specs.declared.partition.Partition.{Partition}
use Rattle.game.specs.Winning.{WinsWithin}
use Rattle.game.specs.Following.{Answers, RefutesWithin}
use Rattle.game.specs.Marks.{Evades}
use Rattle.layers.proofs.Layers.{IsClosed}

-- no number wins
abbrev pub IsNotWon : {s : Partition} (b : Board s) → b.Place → Type 0
IsNotWon b h = (k : ℕ) → ¬ WinsWithin b k h

-- at each of these places without a number there are answers, and each evades what it is shown
abbrev pub Evade : {s : Partition} (b : Board s) → (b.Place → Type 0) → Answers b → Type 0
Evade {s = s} b Among answer = (h : b.Place) → Among h → IsNotWon b h → (input : ℕ → ℕ) × (answer h ≡ Some input) × ((y : ℕ) → IsOutput s y → Evades b h (input (shown s y)) y)

pub refutes_all : {s : Partition} (b : Board s) (Among : b.Place → Type 0) (answer : Answers b) → IsClosed b Among → Evade b Among answer
    → (n : ℕ) (h : b.Place) → Among h → IsNotWon b h → RefutesWithin b answer n h
refutes_all b Among answer c e zero h i f = let q = e h i f in (f zero, rw q.1 refl)
refutes_all b Among answer c e (suc n) h i f =
    let q = e h i f in (
      λ m. f zero m,
      rw q.1 (λ y o. let v = q.2 y o in (v.0, v.1, v.2, refutes_all b Among answer c e n (b.after h v.0) (c h v.0 i v.1.letter v.2) v.3)),
    )
