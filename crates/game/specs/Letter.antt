-- Letters by their inputs and outputs.
use Rattle.std.specs.Prelude.{◌+◌, ◌*◌, ◌^◌, ℕ}
use Rattle.game.specs.Board.{Partition, Agent, Environment}

-- the letter with this input and this output
abbrev pub letter_with : Partition → ℕ → ℕ → ℕ
letter_with s x y = elim s.first [ Agent ↦ y * 2 ^ s.inputs + x | Environment ↦ x * 2 ^ s.outputs + y ]
