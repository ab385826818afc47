-- The first LF of some bytes.
use Rattle.std.specs.Prelude.{ℕ, ◌==◌, Bool, List}
use Rattle.std.specs.List.{position_or_len}

-- whether a byte is the LF
abbrev pub is_lf : ℕ → Bool
is_lf b = b == 10

-- the length of the first line, without its LF
abbrev pub text_len : List ℕ → ℕ
text_len bytes = position_or_len is_lf bytes
