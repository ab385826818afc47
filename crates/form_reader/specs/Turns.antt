-- What the answer to one lexeme says.
use Rattle.std.specs.Prelude.{◌≡◌, ℕ, List, Result, Ok, Err, Some, None, Bool, false, nat_le}
use Rattle.form_reader.specs.declared.fault.FormFault.{FormFault}
use Rattle.form_tokens.specs.declared.token.Token.{Token}
use Rattle.form_reader.specs.declared.item.Item.{Item}
use Rattle.form_reader.specs.declared.item.Latest.{Latest}
use Rattle.form_tokens.specs.Names.{Table}
use Rattle.form_tokens.specs.Spelling.{Lexeme}
use Rattle.form_reader.specs.Faults.{token_of, names_with, is_bad, most_tokens, name_fault}
use Rattle.form_reader.specs.Outcome.{Stage, turn, stage_of}
use Rattle.form_reader.specs.Blames.{Blames}
use Rattle.form_reader.specs.Stack.{state_of}

-- the token of the lexeme, neither bad nor one too many; or its fault in each stage with so many tokens
abbrev pub GivesToken : Result Token FormFault → Table → ℕ → ℕ × Lexeme → Type 0
GivesToken (Ok token) names count l = (is_bad l.1 ≡ false) × (nat_le most_tokens count ≡ false) × (token ≡ token_of names.names l.1)
GivesToken (Err e) names count l = Blames e ((stage : Stage) → stage.count ≡ count → turn names.closed stage l ≡ Err e)

-- the table with the name of the lexeme, if it is one, or the fault of that name
abbrev pub AddsName : {A : Type 0} → Result A FormFault → Table → ℕ × Lexeme → List (List ℕ) → Type 0
AddsName (Ok x) names l after = (name_fault names.closed names.names l.0 l.1 ≡ None) × (after ≡ names_with names.names l.1)
AddsName (Err e) names l after = Blames e (name_fault names.closed names.names l.0 l.1 ≡ Some e)

-- where the program stands: its names, the number of tokens, and what waits
abbrev pub stage_at : List (List ℕ) → ℕ → List Item → Latest → Stage
stage_at ns count waiting latest = stage_of ns count (state_of waiting latest)

-- the lexeme takes the stage before to the one after, or has the fault there, unless memory ran out
abbrev pub Turns : Result Latest FormFault → Bool → Stage → ℕ × Lexeme → (Latest → Stage) → Type 0
Turns (Ok next) closed before l after = turn closed before l ≡ Ok (after next)
Turns (Err e) closed before l after = Blames e (turn closed before l ≡ Err e)
