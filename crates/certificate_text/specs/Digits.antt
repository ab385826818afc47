-- What a reader of digits has found so far.
use Rattle.std.specs.Prelude.{◌≡◌, ◌<◌, ◌^◌, ℕ, List, take}
use Rattle.std.specs.Str.Parse.{AllDigits, digits_value}
use Rattle.printed_strategy.specs.StrategyText.{bits_of}

pub record ReadSoFar (text : List ℕ) (i n : ℕ) : Type 0 where
  pub digits : AllDigits 10 (take i text)
  pub value : n ≡ digits_value 10 (take i text)
  pub small : n < 10 ^ i

-- the first i bytes are the bits of n
pub record SpeltSoFar (text : List ℕ) (i n : ℕ) : Type 0 where
  pub small : n < 2 ^ i
  pub spelt : take i text ≡ bits_of i n
