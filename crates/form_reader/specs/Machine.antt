-- Reading token by token, with the items that wait.
use Rattle.std.specs.Prelude.{List, [], ◌∷◌, Bool, true, false, ◌&&◌, Option, Some, None, if◌then◌else◌, nat_lt, nat_le, length}
use Rattle.std.specs.Option.{option_and_then}
use Rattle.forms.specs.Tree.{Formula, Program}
use Rattle.forms.specs.Tree as formula
use Rattle.form_tokens.specs.declared.token.Prefix.{Prefix}
use Rattle.form_tokens.specs.declared.token.Infix.{Infix}
use Rattle.form_tokens.specs.declared.token.PathInfix.{PathInfix}
use Rattle.form_tokens.specs.declared.token.Modality.{Modality}
use Rattle.form_tokens.specs.declared.token.Modality.TheVariants as modalities
use Rattle.form_tokens.specs.declared.token.Token.{Token}
use Rattle.form_tokens.specs.declared.token.Token.TheVariants as token
use Rattle.form_reader.specs.Grammar.{leaf_of, prefixed, behind, joined, path_joined, level, path_level}
use Rattle.form_reader.specs.Waiting.{most_waiting}

-- whether the formula may be a step
abbrev pub is_propositional : Formula → Bool
is_propositional formula.True = true
is_propositional formula.False = true
is_propositional (formula.Atom i) = true
is_propositional (formula.Not f) = is_propositional f
is_propositional (formula.And f g) = is_propositional f && is_propositional g
is_propositional (formula.Or f g) = is_propositional f && is_propositional g
is_propositional (formula.Implies f g) = is_propositional f && is_propositional g
is_propositional (formula.Iff f g) = is_propositional f && is_propositional g
is_propositional _ = false

-- an item that waits: an open bracket, an operator for its operand, or one with its left operand for the right one
pub data Item : Type 0 where
  Bracket PathBracket Brace : Item
  Angle : (m : Modality) → Item
  Before : (p : Prefix) → Item
  Behind : (m : Modality) → (p : Program) → Item
  Between : (o : Infix) → (f : Formula) → Item
  PathBetween : (o : PathInfix) → (p : Program) → Item

-- the items that wait, the latest first, and what was read after them
pub data State : Type 0 where
  -- a formula is due
  Due : (waits : List Item) → State
  -- a formula was read
  After : (waits : List Item) → (f : Formula) → State
  -- a path is due
  PathDue : (waits : List Item) → State
  -- what a step or a test holds was read
  GuardRead : (waits : List Item) → (f : Formula) → State
  -- a path was read that may take a star
  Based : (waits : List Item) → (p : Program) → State
  Starred : (waits : List Item) → (p : Program) → State

-- the items after a binary operator
abbrev pub extended : Infix → List Item → Formula → List Item
extended o (Before p ∷ ws) f = extended o ws (prefixed p f)
extended o (Behind m p ∷ ws) f = extended o ws (behind m p f)
extended o (Between q g ∷ ws) f =
    if nat_lt (level o) (level q) then extended o ws (joined q g f) else Between o f ∷ Between q g ∷ ws
extended o ws f = Between o f ∷ ws

-- the items after `+` or `;`
abbrev pub path_extended : PathInfix → List Item → Program → List Item
path_extended o (PathBetween q r ∷ ws) p =
    if nat_lt (path_level o) (path_level q) then path_extended o ws (path_joined q r p) else PathBetween o p ∷ PathBetween q r ∷ ws
path_extended o ws p = PathBetween o p ∷ ws

-- a formula is closed by `)` or by `}`
abbrev pub closed : List Item → Formula → Token → Option State
closed (Before p ∷ ws) f t = closed ws (prefixed p f) t
closed (Behind m p ∷ ws) f t = closed ws (behind m p f) t
closed (Between q g ∷ ws) f t = closed ws (joined q g f) t
closed (Bracket ∷ ws) f token.Close = Some (After ws f)
closed (Brace ∷ ws) f token.CloseBrace = Some (GuardRead ws f)
closed ws f t = None

-- a path is closed by `)`, `>` or `]`
abbrev pub path_closed : List Item → Program → Token → Option State
path_closed (PathBetween q r ∷ ws) p t = path_closed ws (path_joined q r p) t
path_closed (PathBracket ∷ ws) p token.Close = Some (Based ws p)
path_closed (Angle modalities.Diamond ∷ ws) p (token.CloseModality modalities.Diamond) = Some (Due (Behind modalities.Diamond p ∷ ws))
path_closed (Angle modalities.BoxAll ∷ ws) p (token.CloseModality modalities.BoxAll) = Some (Due (Behind modalities.BoxAll p ∷ ws))
path_closed ws p t = None

-- at the end of the text
abbrev pub finished : List Item → Formula → Option Formula
finished [] f = Some f
finished (Before p ∷ ws) f = finished ws (prefixed p f)
finished (Behind m p ∷ ws) f = finished ws (behind m p f)
finished (Between q g ∷ ws) f = finished ws (joined q g f)
finished ws f = None

-- a token after a path with a star
abbrev pub step_starred : List Item → Program → Token → Option State
step_starred ws p (token.PathInfix o) = Some (PathDue (path_extended o ws p))
step_starred ws p t = path_closed ws p t

-- a token after a path that may take a star
abbrev pub step_based : List Item → Program → Token → Option State
step_based ws p token.Star = Some (Starred ws (formula.Star p))
step_based ws p t = step_starred ws p t

-- a token other than `?` after what a step holds
abbrev pub step_stepped : List Item → Formula → Token → Option State
step_stepped ws f t = if is_propositional f then step_based ws (formula.Step f) t else None

-- a token after what a step or a test holds
abbrev pub step_guard : List Item → Formula → Token → Option State
step_guard ws f token.Question = Some (Based ws (formula.Test f))
step_guard ws f t = step_stepped ws f t

-- the state after a token, if the token has a place there
abbrev pub step : State → Token → Option State
step (Due ws) token.Open = Some (Due (Bracket ∷ ws))
step (Due ws) (token.Prefix p) = Some (Due (Before p ∷ ws))
step (Due ws) (token.OpenModality m) = Some (PathDue (Angle m ∷ ws))
step (Due ws) (token.Leaf l) = Some (After ws (leaf_of l))
step (Due ws) _ = None
step (After ws f) (token.Infix o) = Some (Due (extended o ws f))
step (After ws f) t = closed ws f t
step (PathDue ws) (token.Leaf l) = Some (GuardRead ws (leaf_of l))
step (PathDue ws) token.OpenBrace = Some (Due (Brace ∷ ws))
step (PathDue ws) token.Open = Some (PathDue (PathBracket ∷ ws))
step (PathDue ws) _ = None
step (GuardRead ws f) t = step_guard ws f t
step (Based ws p) t = step_based ws p t
step (Starred ws p) t = step_starred ws p t

-- the formula that was read, at the end of the text
abbrev pub finish : State → Option Formula
finish (After ws f) = finished ws f
finish _ = None

-- the formula that the tokens make after the state
abbrev pub run : State → List Token → Option Formula
run s [] = finish s
run s (t ∷ ts) = option_and_then (λ next. run next ts) (step s t)

-- the items of a state
abbrev pub waits : State → List Item
waits (Due ws) = ws
waits (After ws f) = ws
waits (PathDue ws) = ws
waits (GuardRead ws f) = ws
waits (Based ws p) = ws
waits (Starred ws p) = ws

-- the state after a token, where not too many items wait
abbrev pub step_within : State → Token → Option State
step_within s t = option_and_then (λ next. if nat_le (length (waits next)) most_waiting then Some next else None) (step s t)

-- the same of all tokens
abbrev pub run_within : State → List Token → Option Formula
run_within s [] = finish s
run_within s (t ∷ ts) = option_and_then (λ next. run_within next ts) (step_within s t)
