-- What one word of a line adds to the letter.
use Rattle.std.specs.Prelude.{ℕ, ◌-◌, ◌^◌, if◌then◌else◌, bit_or, List, length}
use Rattle.form_tokens.specs.Names.{number_of}
use Rattle.spec_reader.specs.Event.{is_known}

-- the letter with the word's proposition, if the word is a name
abbrev pub with_word : List (List ℕ) → List ℕ → ℕ → ℕ
with_word names word letter =
    if is_known names word then bit_or letter (2 ^ (length names - 1 - number_of names word)) else letter
