-- Which tokens may come next: by the last token and the innermost open bracket, with no tree and no precedence.
use Rattle.std.specs.Prelude.{◌≡◌, List, [], ◌∷◌, Option, Some, Bool, true, false, ◌&&◌, ◌||◌, not, if◌then◌else◌, nat_le, length}
use Rattle.std.specs.Option.{is_some}
use Rattle.form_tokens.specs.declared.token.Prefix.{Prefix}
use Rattle.form_tokens.specs.declared.token.Prefix.TheVariants as before
use Rattle.form_tokens.specs.declared.token.Infix.{Infix}
use Rattle.form_tokens.specs.declared.token.Infix.TheVariants as binary
use Rattle.form_tokens.specs.declared.token.Modality.TheVariants as modalities
use Rattle.form_tokens.specs.declared.token.Leaf.{Leaf}
use Rattle.form_tokens.specs.declared.token.Leaf.TheVariants as leaf_tokens
use Rattle.form_tokens.specs.declared.token.Token.{Token}
use Rattle.form_tokens.specs.declared.token.Token.TheVariants as token
use Rattle.form_reader.specs.Waiting.{Kind, Bracket, PathBracket, Brace, Angle, Unary, Binary, PathBinary, loosened, path_loosened, after_close, innermost, most_waiting}

-- the rows of the table of admitted tokens
pub data Row : Type 0 where
  -- a formula is due; a formula was read
  Due Read : Row
  -- a path is due
  PathDue : Row
  -- what may be a step or a test was read, or what may be a test alone
  StepRead TestRead : Row
  -- a path was read that may take a star, or one with a star
  PathRead StarRead : Row

-- where the reading of tokens stands
pub record Scan : Type 0 where
  pub row : Row
  -- what waits, the latest first
  pub waits : List Kind
  -- all tokens since the last `{` have a place in a propositional formula
  pub plain : Bool

-- at the start of the text
abbrev pub start : Scan
start = record { row = Due; waits = []; plain = true }

-- the row lists the token
abbrev pub lists : Row → Token → Bool
lists Due (token.Prefix p) = true
lists Due token.Open = true
lists Due (token.Leaf l) = true
lists Due (token.OpenModality m) = true
lists Read (token.Infix o) = true
lists Read token.Close = true
lists Read token.CloseBrace = true
lists PathDue (token.Leaf l) = true
lists PathDue token.OpenBrace = true
lists PathDue token.Open = true
lists StepRead token.Question = true
lists StepRead token.Star = true
lists StepRead (token.PathInfix o) = true
lists StepRead (token.CloseModality m) = true
lists StepRead token.Close = true
lists TestRead token.Question = true
lists PathRead token.Star = true
lists PathRead (token.PathInfix o) = true
lists PathRead (token.CloseModality m) = true
lists PathRead token.Close = true
lists StarRead (token.PathInfix o) = true
lists StarRead (token.CloseModality m) = true
lists StarRead token.Close = true
lists row t = false

-- the token closes a bracket
abbrev pub is_closing : Token → Bool
is_closing token.Close = true
is_closing token.CloseBrace = true
is_closing (token.CloseModality m) = true
is_closing t = false

-- the closing token belongs to the open bracket
abbrev pub fits : Option Kind → Token → Bool
fits (Some Bracket) token.Close = true
fits (Some PathBracket) token.Close = true
fits (Some Brace) token.CloseBrace = true
fits (Some (Angle modalities.Diamond)) (token.CloseModality modalities.Diamond) = true
fits (Some (Angle modalities.BoxAll)) (token.CloseModality modalities.BoxAll) = true
fits k t = false

-- the token may come next: its row lists it, and if it closes a bracket, it fits the innermost one
abbrev pub admits : Scan → Token → Bool
admits g t = lists g.row t && (not (is_closing t) || fits (innermost g.waits) t)

-- a path is due
abbrev pub is_path_due : Row → Bool
is_path_due PathDue = true
is_path_due row = false

-- a name, `true` or `false`
abbrev pub is_plain_leaf : Leaf → Bool
is_plain_leaf leaf_tokens.True = true
is_plain_leaf leaf_tokens.False = true
is_plain_leaf (leaf_tokens.Name i) = true
is_plain_leaf l = false

-- `!`
abbrev pub is_plain_prefix : Prefix → Bool
is_plain_prefix before.Not = true
is_plain_prefix p = false

-- `&`, `|`, `->` or `<->`
abbrev pub is_plain_infix : Infix → Bool
is_plain_infix binary.Until = false
is_plain_infix binary.Release = false
is_plain_infix o = true

-- a propositional formula may have the token
abbrev pub is_plain : Token → Bool
is_plain token.Open = true
is_plain token.Close = true
is_plain (token.Prefix p) = is_plain_prefix p
is_plain (token.Infix o) = is_plain_infix o
is_plain (token.Leaf l) = is_plain_leaf l
is_plain t = false

-- all tokens since the last `{` are plain, after the token too
abbrev pub plain_after : Bool → Token → Bool
plain_after plain token.OpenBrace = true
plain_after plain t = is_plain t && plain

-- the row after a step or a test, or after what can be a test alone
abbrev pub guard_row : Bool → Row
guard_row plain = if plain then StepRead else TestRead

-- the row after a `)` that closed the bracket
abbrev pub closed_row : Option Kind → Row
closed_row (Some PathBracket) = PathRead
closed_row k = Read

-- the row after the token
abbrev pub row_after : Scan → Token → Row
row_after g token.Open = if is_path_due g.row then PathDue else Due
row_after g token.Close = closed_row (innermost g.waits)
row_after g (token.Prefix p) = Due
row_after g (token.Infix o) = Due
row_after g (token.Leaf l) = if is_path_due g.row then guard_row (is_plain_leaf l) else Read
row_after g (token.OpenModality m) = PathDue
row_after g (token.CloseModality m) = Due
row_after g token.OpenBrace = Due
row_after g token.CloseBrace = guard_row g.plain
row_after g token.Question = PathRead
row_after g token.Star = StarRead
row_after g (token.PathInfix o) = PathDue
row_after g token.Reserved = g.row

-- what waits after the token; `?` and `*` change nothing
abbrev pub waits_after : Scan → Token → List Kind
waits_after g token.Open = (if is_path_due g.row then PathBracket else Bracket) ∷ g.waits
waits_after g token.Close = after_close g.waits
waits_after g (token.Prefix p) = Unary ∷ g.waits
waits_after g (token.Infix o) = Binary o ∷ loosened o g.waits
waits_after g (token.OpenModality m) = Angle m ∷ g.waits
waits_after g (token.CloseModality m) = Unary ∷ after_close g.waits
waits_after g token.OpenBrace = Brace ∷ g.waits
waits_after g token.CloseBrace = after_close g.waits
waits_after g (token.PathInfix o) = PathBinary o ∷ path_loosened o g.waits
waits_after g t = g.waits

-- one token further
abbrev pub after : Scan → Token → Scan
after g t = record { row = row_after g t; waits = waits_after g t; plain = plain_after g.plain t }

-- a formula was read
abbrev pub is_read : Row → Bool
is_read Read = true
is_read row = false

-- the text may end here: no bracket is open, and the last token is one of the second row
abbrev pub may_end : Scan → Bool
may_end g = is_read g.row && not (is_some (innermost g.waits))

-- each token is admitted, and the text may end after the last
abbrev pub all_admitted : Scan → List Token → Bool
all_admitted g [] = may_end g
all_admitted g (t ∷ ts) = admits g t && all_admitted (after g t) ts

-- at no token do too many items wait
abbrev pub is_shallow : Scan → List Token → Bool
is_shallow g [] = true
is_shallow g (t ∷ ts) = nat_le (length (waits_after g t)) most_waiting && is_shallow (after g t) ts

-- no token is refused by the table, no bracket is open at the end, and the last token is one of the second row
abbrev pub IsAdmitted : List Token → Type 0
IsAdmitted ts = all_admitted start ts ≡ true
