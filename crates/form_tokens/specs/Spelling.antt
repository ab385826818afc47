-- The bytes of a text cut into tokens: at each place the longest.
use Rattle.std.specs.Prelude.{ℕ, zero, suc, ◌-◌, List, [], ◌∷◌, Option, Some, None, Bool, true, false, ◌&&◌, ◌||◌, ◌==◌, if◌then◌else◌, take, codes, slice_index}
use Rattle.std.specs.Str.{bytes_eq}
use Rattle.form_tokens.specs.declared.dialect.Dialect.{Dialect}
use Rattle.form_tokens.specs.declared.dialect.Dialect.TheVariants as dialects
use Rattle.form_tokens.specs.declared.token.Prefix.TheVariants as before
use Rattle.form_tokens.specs.declared.token.Infix.TheVariants as binary
use Rattle.form_tokens.specs.declared.token.PathInfix.TheVariants as path_binary
use Rattle.form_tokens.specs.declared.token.Modality.TheVariants as modalities
use Rattle.form_tokens.specs.declared.token.Leaf.TheVariants as leaf_tokens
use Rattle.form_tokens.specs.declared.token.Token.{Token}
use Rattle.form_tokens.specs.declared.token.Token.TheVariants as token
use Rattle.form_tokens.specs.Words.{is_blank, begins_word, goes_on, word_length, longest_word, is_constant, is_operator, is_unused}

-- a token, a name, or a byte at which no token begins
pub data Lexeme : Type 0 where
  Sign : (t : Token) → Lexeme
  Word : (bytes : List ℕ) → Lexeme
  Bad : Lexeme

-- `last` in the dialect
abbrev pub last_of : Dialect → Token
last_of dialects.Ltlf = token.Leaf leaf_tokens.Last
last_of dialects.Ldlf = token.Leaf leaf_tokens.LastStep

-- `end` in the dialect
abbrev pub end_of : Dialect → Token
end_of dialects.Ltlf = token.Reserved
end_of dialects.Ldlf = token.Leaf leaf_tokens.End

-- the token of a constant word
abbrev pub constant : Dialect → List ℕ → Token
constant d w =
    if bytes_eq w (codes "true") || bytes_eq w (codes "tt") then token.Leaf leaf_tokens.True
    else if bytes_eq w (codes "false") || bytes_eq w (codes "ff") then token.Leaf leaf_tokens.False
    else if bytes_eq w (codes "last") then last_of d
    else end_of d

-- the token of an operator of LTLf
abbrev pub operator : List ℕ → Token
operator w =
    if bytes_eq w (codes "X") then token.Prefix before.Next
    else if bytes_eq w (codes "N") || bytes_eq w (codes "WX") then token.Prefix before.WeakNext
    else if bytes_eq w (codes "F") then token.Prefix before.Eventually
    else if bytes_eq w (codes "G") then token.Prefix before.Always
    else if bytes_eq w (codes "U") then token.Infix binary.Until
    else token.Infix binary.Release

-- a token that LTLf alone has
abbrev pub in_ltlf : Dialect → Token → Token
in_ltlf dialects.Ltlf t = t
in_ltlf dialects.Ldlf t = token.Reserved

-- what a word is
unfoldable pub word_lexeme : Dialect → List ℕ → Lexeme
word_lexeme d w =
    if is_constant w then Sign (constant d w)
    else if is_operator w then Sign (in_ltlf d (operator w))
    else if is_unused w then Sign token.Reserved
    else Word w

-- the sign of one byte that LDLf alone has: < > [ ] { } ; + * ?
abbrev pub path_sign : ℕ → Option Token
path_sign b =
    if b == 60 then Some (token.OpenModality modalities.Diamond)
    else if b == 62 then Some (token.CloseModality modalities.Diamond)
    else if b == 91 then Some (token.OpenModality modalities.BoxAll)
    else if b == 93 then Some (token.CloseModality modalities.BoxAll)
    else if b == 123 then Some token.OpenBrace
    else if b == 125 then Some token.CloseBrace
    else if b == 59 then Some (token.PathInfix path_binary.Seq)
    else if b == 43 then Some (token.PathInfix path_binary.Choice)
    else if b == 42 then Some token.Star
    else if b == 63 then Some token.Question
    else None

-- a token of one byte
abbrev pub of_one_byte : Option Token → Option (Token × ℕ)
of_one_byte None = None
of_one_byte (Some t) = Some (t, 1)

-- the same of the dialect
abbrev pub dialect_sign : Dialect → ℕ → Option (Token × ℕ)
dialect_sign dialects.Ltlf b = None
dialect_sign dialects.Ldlf b = of_one_byte (path_sign b)

-- the sign at the front, and how many bytes it has: of ( ) ! ~ & && | || -> <-> and those of the dialect
abbrev pub sign_at : Dialect → List ℕ → Option (Token × ℕ)
sign_at d bs =
    let b = slice_index bs 0 in
    let c = slice_index bs 1 in
    let e = slice_index bs 2 in
    if b == 40 then Some (token.Open, 1)
    else if b == 41 then Some (token.Close, 1)
    else if b == 33 || b == 126 then Some (token.Prefix before.Not, 1)
    else if b == 38 then Some (token.Infix binary.And, if c == 38 then 2 else 1)
    else if b == 124 then Some (token.Infix binary.Or, if c == 124 then 2 else 1)
    else if b == 45 && c == 62 then Some (token.Infix binary.Implies, 2)
    else if b == 60 && c == 45 && e == 62 then Some (token.Infix binary.Iff, 3)
    else dialect_sign d b

-- what stands at the front of a text that begins with no blank, and how many bytes it has
pub record Piece : Type 0 where
  pub lexeme : Lexeme
  pub size : ℕ

-- a sign, or a bad byte
abbrev pub sign_piece : Option (Token × ℕ) → Piece
sign_piece None = record { lexeme = Bad; size = 1 }
sign_piece (Some s) = record { lexeme = Sign s.0; size = s.1 }

-- a word goes on as far as its bytes do, up to 64
abbrev pub piece_at : Dialect → List ℕ → Piece
piece_at d bs =
    if begins_word (slice_index bs 0)
    then (let n = word_length (take longest_word bs) in record { lexeme = word_lexeme d (take n bs); size = n })
    else sign_piece (sign_at d bs)

-- the pieces of the text with their places: `at` is the place of the first byte, and the first `skip` bytes belong to a piece before.
-- Where that piece is a word, a byte right after it that would go on a word is the 65th of a run, and bad.
abbrev pub pieces : Dialect → ℕ → Bool → ℕ → List ℕ → List (ℕ × Lexeme)
pieces d skip in_word at [] = []
pieces d (suc skip) in_word at (b ∷ bs) = pieces d skip in_word (suc at) bs
pieces d zero in_word at (b ∷ bs) =
    if in_word && goes_on b then (at, Bad) ∷ pieces d zero true (suc at) bs
    else if is_blank b then pieces d zero false (suc at) bs
    else (let p = piece_at d (b ∷ bs) in (at, p.lexeme) ∷ pieces d (p.size - 1) (begins_word b) (suc at) bs)

-- the tokens and bad bytes of the text, with their places, which count from 1
abbrev pub lexemes : Dialect → List ℕ → List (ℕ × Lexeme)
lexemes d text = pieces d zero false 1 text
