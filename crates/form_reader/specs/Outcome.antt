-- What reading a text lexeme by lexeme comes to.
use Rattle.std.specs.Prelude.{ℕ, List, [], ◌∷◌, ◌+◌, Option, Some, None, Result, Ok, Err, Bool, if◌then◌else◌, nat_lt, nat_le, length}
use Rattle.forms.specs.Tree.{Formula}
use Rattle.form_reader.specs.declared.fault.FormFault.{FormFault}
use Rattle.form_reader.specs.declared.fault.FormFault.TheVariants as faults
use Rattle.form_tokens.specs.Spelling.{Lexeme}
use Rattle.form_reader.specs.Waiting.{most_waiting}
use Rattle.form_reader.specs.Faults.{token_of, names_with, is_bad, most_tokens, name_fault}
use Rattle.form_reader.specs.Machine.{State, step, finish, waits}

-- where the reading stands
pub record Stage : Type 0 where
  pub names : List (List ℕ)
  pub count : ℕ
  pub state : State

-- the stage with these names, so many tokens and this state
abbrev pub stage_of : List (List ℕ) → ℕ → State → Stage
stage_of ns n s = record { names = ns; count = n; state = s }

-- the stage, or the fault if there is one
abbrev pub unless : Option FormFault → Stage → Result Stage FormFault
unless None s = Ok s
unless (Some e) s = Err e

-- after the lexeme's token has taken the machine to its next state, or found none
abbrev pub stepped : Bool → Stage → ℕ × Lexeme → Option State → Result Stage FormFault
stepped closed g l None = Err (faults.Unexpected l.0)
stepped closed g l (Some next) =
    if nat_lt most_waiting (length (waits next)) then Err (faults.TooDeep l.0)
    else unless (name_fault closed g.names l.0 l.1) (record { names = names_with g.names l.1; count = g.count + 1; state = next })

-- one more lexeme
abbrev pub turn : Bool → Stage → ℕ × Lexeme → Result Stage FormFault
turn closed g l =
    if is_bad l.1 then Err (faults.BadByte l.0)
    else if nat_le most_tokens g.count then Err (faults.TooManyTokens l.0)
    else stepped closed g l (step g.state (token_of g.names l.1))

-- what comes next, unless there was a fault
abbrev pub and_then : (Stage → Result Formula FormFault) → Result Stage FormFault → Result Formula FormFault
and_then f (Ok g) = f g
and_then f (Err e) = Err e

-- at the end of the text
abbrev pub ended : Option Formula → Result Formula FormFault
ended None = Err faults.Unfinished
ended (Some f) = Ok f

-- what the lexemes make after the stage
abbrev pub outcome : Bool → Stage → List (ℕ × Lexeme) → Result Formula FormFault
outcome closed g [] = ended (finish g.state)
outcome closed g (l ∷ ls) = and_then (λ next. outcome closed next ls) (turn closed g l)
