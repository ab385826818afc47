-- The signs of each dialect, and the longest token at the front of a text.
use Rattle.std.specs.Prelude.{◌≡◌, ℕ, ◌≤◌, List, [], ◌∷◌, ◌++◌, All, Contains, Bool, true, false, length, take, codes, slice_index}
use Rattle.std.specs.Io.{StartsWith}
use Rattle.form_tokens.specs.declared.dialect.Dialect.{Dialect}
use Rattle.form_tokens.specs.declared.dialect.Dialect.TheVariants as dialects
use Rattle.form_tokens.specs.declared.token.Prefix.TheVariants as before
use Rattle.form_tokens.specs.declared.token.Infix.TheVariants as binary
use Rattle.form_tokens.specs.declared.token.PathInfix.TheVariants as path_binary
use Rattle.form_tokens.specs.declared.token.Modality.TheVariants as modalities
use Rattle.form_tokens.specs.declared.token.Token.{Token}
use Rattle.form_tokens.specs.declared.token.Token.TheVariants as token
use Rattle.form_tokens.specs.Words.{begins_word, is_word}
use Rattle.form_tokens.specs.Spelling.{Lexeme, Sign, Word, Bad, Piece, piece_at, word_lexeme}

-- the signs that both dialects have, each with its token
abbrev pub common_signs : List (List ℕ × Token)
common_signs =
    (codes "(", token.Open)
    ∷ (codes ")", token.Close)
    ∷ (codes "!", token.Prefix before.Not)
    ∷ (codes "~", token.Prefix before.Not)
    ∷ (codes "&", token.Infix binary.And)
    ∷ (codes "&&", token.Infix binary.And)
    ∷ (codes "|", token.Infix binary.Or)
    ∷ (codes "||", token.Infix binary.Or)
    ∷ (codes "->", token.Infix binary.Implies)
    ∷ (codes "<->", token.Infix binary.Iff)
    ∷ []

-- the signs that LDLf alone has
abbrev pub path_signs : List (List ℕ × Token)
path_signs =
    (codes "<", token.OpenModality modalities.Diamond)
    ∷ (codes ">", token.CloseModality modalities.Diamond)
    ∷ (codes "[", token.OpenModality modalities.BoxAll)
    ∷ (codes "]", token.CloseModality modalities.BoxAll)
    ∷ (codes "{", token.OpenBrace)
    ∷ (codes "}", token.CloseBrace)
    ∷ (codes ";", token.PathInfix path_binary.Seq)
    ∷ (codes "+", token.PathInfix path_binary.Choice)
    ∷ (codes "*", token.Star)
    ∷ (codes "?", token.Question)
    ∷ []

-- the signs of the dialect
abbrev pub signs : Dialect → List (List ℕ × Token)
signs dialects.Ltlf = common_signs
signs dialects.Ldlf = common_signs ++ path_signs

-- the first n bytes are a sign of the dialect with the token, and no sign at the front has more bytes
pub record IsLongestSign (d : Dialect) (bs : List ℕ) (t : Token) (n : ℕ) : Type 0 where
  pub listed : Contains (signs d) (take n bs, t)
  pub within : n ≤ length bs
  pub longest : All (λ sign. StartsWith bs sign.0 → length sign.0 ≤ n) (signs d)

-- the first n bytes are a word of at most 64 bytes, and no such word at the front has more bytes
pub record IsLongestWord (bs : List ℕ) (n : ℕ) : Type 0 where
  pub word : is_word (take n bs) ≡ true
  pub within : n ≤ length bs
  pub longest : (m : ℕ) → m ≤ length bs → is_word (take m bs) ≡ true → m ≤ n

-- the longest sign at the front with its token, or one byte where no sign is at the front
abbrev pub IsLongestSignOrBad : Dialect → List ℕ → Lexeme → ℕ → Type 0
IsLongestSignOrBad d bs (Sign t) n = IsLongestSign d bs t n
IsLongestSignOrBad d bs (Word w) n = ⊥
IsLongestSignOrBad d bs Bad n = (n ≡ 1) × All (λ sign. ¬ StartsWith bs sign.0) (signs d)

-- the longest word at the front and what it is, where a word begins there, else the longest sign or a bad byte
abbrev pub IsLongestPiece : Bool → Dialect → List ℕ → Piece → Type 0
IsLongestPiece true d bs piece = IsLongestWord bs piece.size × (piece.lexeme ≡ word_lexeme d (take piece.size bs))
IsLongestPiece false d bs piece = IsLongestSignOrBad d bs piece.lexeme piece.size

-- at each place the longest token is taken
abbrev pub TakesLongestTokens : Type 0
TakesLongestTokens = (d : Dialect) (bs : List ℕ) → IsLongestPiece (begins_word (slice_index bs 0)) d bs (piece_at d bs)
