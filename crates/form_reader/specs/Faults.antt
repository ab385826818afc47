-- At which place a text is refused, and why.
use Rattle.std.specs.Prelude.{ℕ, List, [], ◌∷◌, ◌+◌, Option, Some, None, Bool, true, false, not, if◌then◌else◌, nat_lt, nat_le, length}
use Rattle.form_tokens.specs.declared.token.Leaf.TheVariants as leaf_tokens
use Rattle.form_tokens.specs.declared.token.Token.{Token}
use Rattle.form_tokens.specs.declared.token.Token.TheVariants as token
use Rattle.form_reader.specs.declared.fault.FormFault.{FormFault}
use Rattle.form_reader.specs.declared.fault.FormFault.TheVariants as faults
use Rattle.form_tokens.specs.Names.{number_of, is_listed, included, most_names}
use Rattle.form_tokens.specs.Spelling.{Lexeme, Sign, Word, Bad}
use Rattle.form_reader.specs.Waiting.{most_waiting}
use Rattle.form_reader.specs.Admitted.{Scan, admits, after, may_end}

-- how many tokens a text may have
abbrev pub most_tokens : ℕ
most_tokens = 2000

-- the token of a lexeme; of a bad byte there is none, and it is refused before
abbrev pub token_of : List (List ℕ) → Lexeme → Token
token_of ns (Sign t) = t
token_of ns (Word w) = token.Leaf (leaf_tokens.Name (number_of ns w))
token_of ns Bad = token.Reserved

-- a name that is not in the table is added
abbrev pub names_with : List (List ℕ) → Lexeme → List (List ℕ)
names_with ns (Word w) = included ns w
names_with ns l = ns

-- the names after the lexemes, in order of first use
abbrev pub names_after : List (List ℕ) → List (ℕ × Lexeme) → List (List ℕ)
names_after ns [] = ns
names_after ns (l ∷ ls) = names_after (names_with ns l.1) ls

-- no token begins at the byte
abbrev pub is_bad : Lexeme → Bool
is_bad Bad = true
is_bad l = false

-- the fault of a name that is not in the table
abbrev pub name_fault : Bool → List (List ℕ) → ℕ → Lexeme → Option FormFault
name_fault closed ns at (Word w) =
    if is_listed ns w then None
    else if closed then Some (faults.Undeclared at)
    else if nat_le most_names (length ns) then Some (faults.TooManyNames at)
    else None
name_fault closed ns at l = None

-- the fault at a lexeme with `count` tokens before it: of the rules in their order the first that holds
abbrev pub fault_at : Bool → List (List ℕ) → ℕ → Scan → ℕ × Lexeme → Option FormFault
fault_at closed ns count g l =
    let t = token_of ns l.1 in
    if is_bad l.1 then Some (faults.BadByte l.0)
    else if nat_le most_tokens count then Some (faults.TooManyTokens l.0)
    else if not (admits g t) then Some (faults.Unexpected l.0)
    else if nat_lt most_waiting (length (after g t).waits) then Some (faults.TooDeep l.0)
    else name_fault closed ns l.0 l.1

-- a fault, or else a later one
abbrev pub or_else : Option FormFault → Option FormFault → Option FormFault
or_else None later = later
or_else (Some e) later = Some e

-- the first fault of the text
abbrev pub first_fault : Bool → List (List ℕ) → ℕ → Scan → List (ℕ × Lexeme) → Option FormFault
first_fault closed ns count g [] = if may_end g then None else Some faults.Unfinished
first_fault closed ns count g (l ∷ ls) =
    or_else (fault_at closed ns count g l) (first_fault closed (names_with ns l.1) (count + 1) (after g (token_of ns l.1)) ls)

-- the lexemes before a place
abbrev pub before : ℕ → List (ℕ × Lexeme) → List (ℕ × Lexeme)
before at [] = []
before at (l ∷ ls) = if nat_lt l.0 at then l ∷ before at ls else []

-- the lexemes before the fault, and all of them where the text ends too early
abbrev pub before_fault : FormFault → List (ℕ × Lexeme) → List (ℕ × Lexeme)
before_fault (faults.BadByte at) ls = before at ls
before_fault (faults.Unexpected at) ls = before at ls
before_fault (faults.TooDeep at) ls = before at ls
before_fault (faults.TooManyTokens at) ls = before at ls
before_fault (faults.TooManyNames at) ls = before at ls
before_fault (faults.Undeclared at) ls = before at ls
before_fault _ ls = ls

-- the lexemes before the fault, and all of them where there is none
abbrev pub before_first : Option FormFault → List (ℕ × Lexeme) → List (ℕ × Lexeme)
before_first None ls = ls
before_first (Some e) ls = before_fault e ls
