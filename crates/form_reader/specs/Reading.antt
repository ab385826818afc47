-- Which formula a text is.
use Rattle.std.specs.Prelude.{◌≡◌, ℕ, List, [], ◌∷◌, ◌+◌, Bool, true, not, ◌&&◌, nat_le, take, Option}
use Rattle.std.specs.Option.{is_some}
use Rattle.forms.specs.Tree.{Formula}
use Rattle.form_tokens.specs.declared.dialect.Dialect.{Dialect}
use Rattle.form_tokens.specs.declared.token.Token.{Token}
use Rattle.form_reader.specs.declared.fault.FormFault.{FormFault}
use Rattle.form_reader.specs.declared.fault.FormFault.TheVariants as faults
use Rattle.form_tokens.specs.Names.{Table}
use Rattle.form_reader.specs.Grammar.{IsText}
use Rattle.form_tokens.specs.Spelling.{Lexeme, lexemes}
use Rattle.form_reader.specs.Admitted.{start, is_shallow}
use Rattle.form_reader.specs.Faults.{token_of, names_with, is_bad, most_tokens, name_fault, names_after, before_fault, before_first, first_fault}

-- the tokens of the lexemes: the table of names grows along the text
abbrev pub tokens : List (List ℕ) → List (ℕ × Lexeme) → List Token
tokens ns [] = []
tokens ns (l ∷ ls) = token_of ns l.1 ∷ tokens (names_with ns l.1) ls

-- the limits that do not speak of what waits: on bytes, tokens and names
abbrev pub is_within : Bool → List (List ℕ) → ℕ → List (ℕ × Lexeme) → Bool
is_within closed ns count [] = true
is_within closed ns count (l ∷ ls) =
    not (is_bad l.1) && not (nat_le most_tokens count) && not (is_some (name_fault closed ns l.0 l.1)) && is_within closed (names_with ns l.1) (count + 1) ls

-- the tokens are the text of the formula, and at none do too many items wait
abbrev pub IsReadAs : List Token → Formula → Type 0
IsReadAs ts f = IsText ts f × (is_shallow start ts ≡ true)

-- the lexemes are the text of the formula, within the limits
abbrev pub IsRead : Bool → List (List ℕ) → List (ℕ × Lexeme) → Formula → Type 0
IsRead closed ns ls f = (is_within closed ns 0 ls ≡ true) × IsReadAs (tokens ns ls) f

-- the text is that of the formula, over a table of names, within the limits
abbrev pub IsFormulaOf : Dialect → Table → List ℕ → Formula → Type 0
IsFormulaOf d names text f = IsRead names.closed names.names (lexemes d text) f

-- the first fault of the text
abbrev pub refusal : Dialect → Table → List ℕ → Option FormFault
refusal d names text = first_fault names.closed names.names 0 start (lexemes d text)

-- the tokens of the text
abbrev pub tokens_of : Dialect → Table → List ℕ → List Token
tokens_of d names text = tokens names.names (lexemes d text)

-- the names after the text, the new ones in order of first use
abbrev pub names_of : Dialect → Table → List ℕ → List (List ℕ)
names_of d names text = names_after names.names (lexemes d text)

-- the lexemes that no rule refuses: those before the refused place, and all of them where the text is not refused
abbrev pub accepted : Dialect → Table → List ℕ → List (ℕ × Lexeme)
accepted d names text = before_first (refusal d names text) (lexemes d text)

-- which names a fault keeps: those of the tokens before it; want of memory keeps those of some tokens at the front, all before the refused place
abbrev pub KeepsNames : FormFault → Dialect → Table → List ℕ → List (List ℕ) → Type 0
KeepsNames faults.Memory d names text after = (n : ℕ) × (after ≡ names_after names.names (take n (accepted d names text)))
KeepsNames e d names text after = after ≡ names_after names.names (before_fault e (lexemes d text))
