-- What the program found, as a piece of the text.
use Rattle.std.specs.Prelude.{◌≡◌, ℕ, zero, ◌+◌, ◌-◌, ◌≤◌, Bool, true, length, List, [], ◌∷◌, Option, Some, None, take, drop, slice_index}
use Rattle.form_tokens.specs.declared.dialect.Dialect.{Dialect}
use Rattle.form_tokens.specs.declared.spelling.Lexeme.{Lexeme}
use Rattle.form_tokens.specs.declared.spelling.Lexeme.TheVariants as lexemes
use Rattle.form_tokens.specs.declared.spelling.Found.{Found}
use Rattle.form_tokens.specs.Words.{begins_word, is_name}
use Rattle.form_tokens.specs.Spelling as spelling
use Rattle.form_tokens.specs.Spelling.{piece_at, pieces}

-- the lexeme of the bytes
abbrev pub lexeme_of : Lexeme → List ℕ → spelling.Lexeme
lexeme_of (lexemes.Sign t) w = spelling.Sign t
lexeme_of lexemes.Word w = spelling.Word w
lexeme_of lexemes.Bad w = spelling.Bad

-- the lexeme in its text
abbrev pub lexeme_in : Found → List ℕ → spelling.Lexeme
lexeme_in f text = lexeme_of f.lexeme (take (f.to - f.from) (drop f.from text))

-- a word is a name
abbrev pub IsNamed : spelling.Lexeme → Type 0
IsNamed (spelling.Word w) = is_name w ≡ true
IsNamed l = Unit {0}

-- its bytes are bytes of the text, and a name if it is a word
abbrev pub IsWithin : Found → List ℕ → Type 0
IsWithin f text = (f.from ≤ f.to) × (f.to ≤ length text) × IsNamed (lexeme_in f text)

-- the lexeme with its place
abbrev pub lexeme_at : Found → List ℕ → ℕ × spelling.Lexeme
lexeme_at f text = (f.from + 1, lexeme_in f text)

-- it is the piece at the place
pub record IsPieceAt (d : Dialect) (f : Found) (text : List ℕ) (at : ℕ) : Type 0 where
  pub from : f.from ≡ at
  pub to : f.to ≡ at + (piece_at d (drop at text)).size
  pub lexeme : lexeme_of f.lexeme (take (f.to - f.from) (drop f.from text)) ≡ (piece_at d (drop at text)).lexeme
  pub is_word : f.is_word ≡ begins_word (slice_index (drop at text) 0)

-- the lexemes from the byte on; `in_word`: a word ends right before it
abbrev pub lexemes_from : Dialect → List ℕ → ℕ → Bool → List (ℕ × spelling.Lexeme)
lexemes_from d text from in_word = pieces d zero in_word (from + 1) (drop from text)

-- what was found is the first of the lexemes, before those behind it; if nothing was, there are none
abbrev pub IsFirst : Option Found → Dialect → List ℕ → List (ℕ × spelling.Lexeme) → Type 0
IsFirst None d text ls = ls ≡ []
IsFirst (Some f) d text ls = ls ≡ lexeme_at f text ∷ lexemes_from d text f.to f.is_word
