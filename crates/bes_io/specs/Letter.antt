-- Letters: a letter over p propositions is a number below 2 ^ p.
use Rattle.std.specs.Prelude.{ℕ, ◌-◌, ◌==◌, Bool}
use Rattle.std.specs.Int.{bit_at}

-- whether the letter has proposition i of p, where i is below p: its bit of weight 2 ^ (p - 1 - i)
abbrev pub has : ℕ → ℕ → ℕ → Bool
has p i letter = bit_at letter (p - 1 - i) == 1
