-- A text as blanks, runs of word bytes, signs and bad bytes, in their order.
use Rattle.std.specs.Prelude.{◌≡◌, ℕ, suc, ◌+◌, List, [], ◌∷◌, ◌++◌, All, true, false, length, take, drop}
use Rattle.std.specs.List.{list_all}
use Rattle.std.specs.Io.{StartsWith}
use Rattle.form_tokens.specs.declared.dialect.Dialect.{Dialect}
use Rattle.form_tokens.specs.declared.token.Token.{Token}
use Rattle.form_tokens.specs.Words.{is_blank, begins_word, goes_on, begins_with_word, longest_word}
use Rattle.form_tokens.specs.Spelling.{Lexeme, Sign, Bad, word_lexeme, lexemes}
use Rattle.form_tokens.specs.Signs.{signs, IsLongestSign}

-- no byte that goes on a word stands at the front
abbrev pub IsApart : List ℕ → Type 0
IsApart [] = Unit {0}
IsApart (b ∷ bs) = goes_on b ≡ false

-- the bytes are the whole run before the rest: the first begins a word, all go on, and the byte behind them, if there is one, doesn't
pub record IsRun (run rest : List ℕ) : Type 0 where
  pub begins : begins_with_word run ≡ true
  pub every : list_all goes_on run ≡ true
  pub ends : IsApart rest

-- each byte is bad, the first at the place
abbrev pub bad_from : ℕ → List ℕ → List (ℕ × Lexeme)
bad_from at [] = []
bad_from at (b ∷ bs) = (at, Bad) ∷ bad_from (suc at) bs

-- the lexemes of a run: its first 64 bytes are a word, and each byte behind them is bad
abbrev pub of_run : Dialect → ℕ → List ℕ → List (ℕ × Lexeme)
of_run d at run =
    let word = take longest_word run in
    (at, word_lexeme d word) ∷ bad_from (at + length word) (drop longest_word run)

-- the lexemes of a text whose first byte has the place: in order, blanks, whole runs, longest signs and bytes at which neither begins make it up
pub data IsCut (d : Dialect) : ℕ → List ℕ → List (ℕ × Lexeme) → Type 0 where
  nothing : {at : ℕ} → IsCut d at [] []
  a_blank : {at b : ℕ} {rest : List ℕ} {ls : List (ℕ × Lexeme)} → is_blank b ≡ true → IsCut d (suc at) rest ls → IsCut d at (b ∷ rest) ls
  a_run : {at : ℕ} (bytes : List ℕ) {rest : List ℕ} {ls : List (ℕ × Lexeme)} → IsRun bytes rest
      → IsCut d (at + length bytes) rest ls → IsCut d at (bytes ++ rest) (of_run d at bytes ++ ls)
  a_sign : {at : ℕ} (bytes : List ℕ) {rest : List ℕ} {t : Token} {ls : List (ℕ × Lexeme)} → IsLongestSign d (bytes ++ rest) t (length bytes)
      → IsCut d (at + length bytes) rest ls → IsCut d at (bytes ++ rest) ((at, Sign t) ∷ ls)
  a_bad_byte : {at b : ℕ} {rest : List ℕ} {ls : List (ℕ × Lexeme)} → is_blank b ≡ false → begins_word b ≡ false → All (λ sign. ¬ StartsWith (b ∷ rest) sign.0) (signs d)
      → IsCut d (suc at) rest ls → IsCut d at (b ∷ rest) ((at, Bad) ∷ ls)

-- each text is cut into its lexemes
abbrev pub CutsEachText : Type 0
CutsEachText = (d : Dialect) (text : List ℕ) → IsCut d 1 text (lexemes d text)

-- and into no others
abbrev pub CutsInOneWay : Type 0
CutsInOneWay = (d : Dialect) (text : List ℕ) (ls : List (ℕ × Lexeme)) → IsCut d 1 text ls → ls ≡ lexemes d text
