-- What the automaton of legality and the duty tells.
use Rattle.std.specs.Prelude.{◌≡◌, ◌⊎◌}
use Rattle.forms.specs.Word.{Word, IsOver}
use Rattle.automata.specs.Moves.{Moves, mark_after}
use Rattle.game.specs.Board.{width}
use Rattle.game.specs.Histories.{Aims, IsViolated, IsLegalHistory}

-- the mark after a word: 0 where it is legal and the duty not broken, 2 where it is legal and the duty broken, 3 where it is illegal
abbrev pub TellsDuty : Aims → Moves → Type 0
TellsDuty s b = (w : Word) → IsOver (width s.parts) w
    → (IsLegalHistory s w × ((mark_after b b.first w ≡ 0) × (¬ IsViolated s.duty w) ⊎ (mark_after b b.first w ≡ 2) × IsViolated s.duty w))
    ⊎ ((¬ IsLegalHistory s w) × (mark_after b b.first w ≡ 3))
