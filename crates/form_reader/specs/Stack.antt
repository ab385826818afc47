-- What waits in the program, as the items of the machine.
use Rattle.std.specs.Prelude.{◌≡◌, Bool, true, false, nat_lt, List, ◌∷◌, Option, Some, None, Result, Ok, Err, map, reverse}
use Rattle.forms.specs.declared.form.Form.{Form}
use Rattle.forms.specs.declared.form.Path.{Path}
use Rattle.forms.specs.Tree.{Formula, Program, tree, program}
use Rattle.form_reader.specs.declared.step.StepFault.{StepFault}
use Rattle.form_reader.specs.declared.step.StepFault.TheVariants as faults
use Rattle.form_tokens.specs.declared.token.Infix.{Infix}
use Rattle.form_tokens.specs.declared.token.PathInfix.{PathInfix}
use Rattle.form_tokens.specs.declared.token.Token.{Token}
use Rattle.form_reader.specs.declared.item.Bracket.{Bracket}
use Rattle.form_reader.specs.declared.item.Bracket.TheVariants as brackets
use Rattle.form_reader.specs.declared.item.Operator.{Operator}
use Rattle.form_reader.specs.declared.item.Operator.TheVariants as operators
use Rattle.form_reader.specs.declared.item.Item.{Item}
use Rattle.form_reader.specs.declared.item.Item.TheVariants as items
use Rattle.form_reader.specs.declared.item.Latest.{Latest}
use Rattle.form_reader.specs.declared.item.Latest.TheVariants as latests
use Rattle.form_reader.specs.Grammar.{prefixed, behind, joined, path_joined, level, path_level}
use Rattle.form_reader.specs.Machine as machine

-- an open bracket
abbrev pub bracket : Bracket → machine.Item
bracket brackets.Formula = machine.Bracket
bracket brackets.Path = machine.PathBracket
bracket brackets.Brace = machine.Brace
bracket (brackets.Modality m) = machine.Angle m

-- an operator that waits for a formula
abbrev pub operator : Operator → machine.Item
operator (operators.Before p) = machine.Before p
operator (operators.Behind m p) = machine.Behind m (program p)
operator (operators.Between o left) = machine.Between o (tree left.form)

-- what waits
abbrev pub item : Item → machine.Item
item (items.Bracket b) = bracket b
item (items.Operator o) = operator o
item (items.PathOperator o p) = machine.PathBetween o (program p)

-- all that waits, the latest first
abbrev pub stack : List Item → List machine.Item
stack xs = reverse (map item xs)

-- the state with the items
abbrev pub state_at : List machine.Item → Latest → machine.State
state_at ws latests.FormulaDue = machine.Due ws
state_at ws (latests.Formula operand) = machine.After ws (tree operand.form)
state_at ws latests.PathDue = machine.PathDue ws
state_at ws (latests.Guard operand) = machine.GuardRead ws (tree operand.form)
state_at ws (latests.Path p) = machine.Based ws (program p)
state_at ws (latests.Starred p) = machine.Starred ws (program p)

-- the state of the program
abbrev pub state_of : List Item → Latest → machine.State
state_of xs latest = state_at (stack xs) latest

-- the operator with the formula after it
abbrev pub applied : Operator → Formula → Formula
applied (operators.Before p) f = prefixed p f
applied (operators.Behind m p) f = behind m (program p) f
applied (operators.Between o left) f = joined o (tree left.form) f

-- a refusal has the cause
abbrev pub Fails : StepFault → Type 0 → Type 0
Fails faults.Memory cause = Unit {0}
Fails faults.Refused cause = cause

-- the form or the refusal is what was found, unless memory ran out
abbrev pub Gives : Result Form StepFault → Option Formula → Type 0
Gives (Ok f) found = found ≡ Some (tree f)
Gives (Err e) found = Fails e (found ≡ None)

-- the token leads to this state, or is refused where there is none, unless memory ran out
abbrev pub Steps : Result Latest StepFault → List Item → Option machine.State → Type 0
Steps (Ok next) waiting found = found ≡ Some (state_of waiting next)
Steps (Err e) waiting found = Fails e (found ≡ None)

-- the token closes the bracket behind the formula, or it is refused there, whatever waits before the bracket
abbrev pub Closes : Result Latest StepFault → Bracket → Formula → Token → Type 0
Closes (Ok next) b f token = (ws : List machine.Item) → machine.closed (bracket b ∷ ws) f token ≡ Some (state_at ws next)
Closes (Err e) b f token = Fails e ((ws : List machine.Item) → machine.closed (bracket b ∷ ws) f token ≡ None)

-- the answer is as the fact says, unless memory ran out
abbrev pub UnlessMemory : {A : Type 0} → Result A StepFault → (A → Type 0) → Type 0
UnlessMemory (Ok x) P = P x
UnlessMemory (Err e) P = e ≡ faults.Memory

-- the item is applied before the binary operator comes to wait
abbrev pub tighter_than : Infix → machine.Item → Bool
tighter_than o (machine.Before p) = true
tighter_than o (machine.Behind m p) = true
tighter_than o (machine.Between q f) = nat_lt (level o) (level q)
tighter_than o w = false

-- the item is applied before the operator between paths comes to wait
abbrev pub path_tighter_than : PathInfix → machine.Item → Bool
path_tighter_than o (machine.PathBetween q p) = nat_lt (path_level o) (path_level q)
path_tighter_than o w = false

-- what is taken away is applied before the operator comes to wait; if nothing is, the operator waits last
abbrev pub Loosens : Infix → Option Operator → List machine.Item → List machine.Item → Type 0
Loosens o None before after = (f : Formula) → machine.extended o before f ≡ machine.Between o f ∷ after
Loosens o (Some tighter) before after = (f : Formula) → machine.extended o before f ≡ machine.extended o after (applied tighter f)

-- the same of an operator between paths
abbrev pub LoosensPath : PathInfix → Option (PathInfix × Path) → List machine.Item → List machine.Item → Type 0
LoosensPath o None before after = (p : Program) → machine.path_extended o before p ≡ machine.PathBetween o p ∷ after
LoosensPath o (Some tighter) before after =
    (p : Program) → machine.path_extended o before p ≡ machine.path_extended o after (path_joined tighter.0 (program tighter.1) p)
