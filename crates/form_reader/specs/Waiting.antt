-- The kinds of items that wait, which of them operators and closing brackets leave, and how many may wait.
use Rattle.std.specs.Prelude.{ℕ, List, [], ◌∷◌, Option, Some, None, if◌then◌else◌, nat_lt}
use Rattle.form_tokens.specs.declared.token.Infix.{Infix}
use Rattle.form_tokens.specs.declared.token.PathInfix.{PathInfix}
use Rattle.form_tokens.specs.declared.token.Modality.{Modality}
use Rattle.form_reader.specs.Grammar.{level, path_level}

-- the kind of an item that waits
pub data Kind : Type 0 where
  -- `(` of a formula, `(` of a path, `{`
  Bracket PathBracket Brace : Kind
  -- `<` or `[`
  Angle : (m : Modality) → Kind
  -- a prefix operator or a closed path
  Unary : Kind
  Binary : (o : Infix) → Kind
  PathBinary : (o : PathInfix) → Kind

-- the items that a binary operator leaves: back to the nearest open bracket it removes the prefix operators and the binary ones that bind more tightly
abbrev pub loosened : Infix → List Kind → List Kind
loosened o (Unary ∷ ks) = loosened o ks
loosened o (Binary q ∷ ks) = if nat_lt (level o) (level q) then loosened o ks else Binary q ∷ loosened o ks
loosened o ks = ks

-- the items that an operator between paths leaves
abbrev pub path_loosened : PathInfix → List Kind → List Kind
path_loosened o (PathBinary q ∷ ks) = if nat_lt (path_level o) (path_level q) then path_loosened o ks else PathBinary q ∷ path_loosened o ks
path_loosened o ks = ks

-- the items that a closing bracket leaves: it removes all back to its opening bracket, and that bracket too
abbrev pub after_close : List Kind → List Kind
after_close [] = []
after_close (Unary ∷ ks) = after_close ks
after_close (Binary q ∷ ks) = after_close ks
after_close (PathBinary q ∷ ks) = after_close ks
after_close (k ∷ ks) = ks

-- the innermost open bracket
abbrev pub innermost : List Kind → Option Kind
innermost [] = None
innermost (Unary ∷ ks) = innermost ks
innermost (Binary q ∷ ks) = innermost ks
innermost (PathBinary q ∷ ks) = innermost ks
innermost (k ∷ ks) = Some k

-- how many items may wait
abbrev pub most_waiting : ℕ
most_waiting = 300
