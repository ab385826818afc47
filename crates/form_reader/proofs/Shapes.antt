-- Which items can wait: operators between formulas inside formulas, those between paths inside paths, the tighter ones later.
use Rattle.std.proofs.Common.{◌≡◌, suc, ◌≤◌, ◌<◌, List, [], ◌∷◌, None, arith, Bool, true, false, cond, leb, inl, inr, ◌⊎◌}
use Rattle.std.proofs.lemmas.Bool.Decides.{leb_tells}
use Rattle.std.specs.Option.{IfSome}
use Rattle.forms.specs.Tree.{Formula, Program}
use Rattle.forms.specs.Tree as formula
use Rattle.form_tokens.specs.declared.token.Infix.{Infix}
use Rattle.form_tokens.specs.declared.token.PathInfix.{PathInfix}
use Rattle.form_tokens.specs.declared.token.Modality.TheVariants as modalities
use Rattle.form_tokens.specs.declared.token.Token.{Token}
use Rattle.form_tokens.specs.declared.token.Token.TheVariants as token
use Rattle.form_reader.specs.Grammar.{prefixed, behind, joined, path_joined, level, path_level}
use Rattle.form_reader.specs.Machine.{Item, Bracket, PathBracket, Brace, Angle, Before, Behind, Between, PathBetween, State, Due, After, PathDue, GuardRead, Based, Starred, extended, path_extended, closed, path_closed, step_starred, step_based, step_guard, step, is_propositional}
use Rattle.form_reader.proofs.Complete.{Fits, PathFits}

-- the items can wait, before a path or before a formula
abbrev pub IsShaped : Bool → List Item → Type 0
IsShaped false [] = Unit {0}
IsShaped false (Bracket ∷ ws) = IsShaped false ws
IsShaped false (Brace ∷ ws) = IsShaped true ws
IsShaped false (Before p ∷ ws) = IsShaped false ws
IsShaped false (Behind m p ∷ ws) = IsShaped false ws
IsShaped false (Between o f ∷ ws) = Fits (level o) ws × IsShaped false ws
IsShaped true (PathBracket ∷ ws) = IsShaped true ws
IsShaped true (Angle m ∷ ws) = IsShaped false ws
IsShaped true (PathBetween o p ∷ ws) = PathFits (path_level o) ws × IsShaped true ws
IsShaped _ _ = ⊥

-- the same of a state
abbrev pub Shaped : State → Type 0
Shaped (Due ws) = IsShaped false ws
Shaped (After ws f) = IsShaped false ws
Shaped (PathDue ws) = IsShaped true ws
Shaped (GuardRead ws f) = IsShaped true ws
Shaped (Based ws p) = IsShaped true ws
Shaped (Starred ws p) = IsShaped true ws

extended-IsShaped : (o : Infix) (ws : List Item) (f : Formula) → IsShaped false ws → IsShaped false (extended o ws f)
extended-IsShaped o [] f h = (tt, tt)
extended-IsShaped o (Bracket ∷ ws) f h = (tt, h)
extended-IsShaped o (Brace ∷ ws) f h = (tt, h)
extended-IsShaped o (Before p ∷ ws) f h = extended-IsShaped o ws (prefixed p f) h
extended-IsShaped o (Behind m p ∷ ws) f h = extended-IsShaped o ws (behind m p f) h
extended-IsShaped o (Between q g ∷ ws) f h = go (extended-IsShaped o ws (joined q g f) h.1) (leb_tells (suc (level o)) (level q))
  where
    go : IsShaped false (extended o ws (joined q g f)) → ((leb (suc (level o)) (level q) ≡ true) × (suc (level o) ≤ level q)) ⊎ ((leb (suc (level o)) (level q) ≡ false) × (level q < suc (level o))) → IsShaped false (extended o (Between q g ∷ ws) f)
    go further (inl e) = rw e.0 further
    go further (inr e) = rw e.0 (omega (arith, e.1), h)
extended-IsShaped o _ f h = absurd h

path_extended-IsShaped : (o : PathInfix) (ws : List Item) (p : Program) → IsShaped true ws → IsShaped true (path_extended o ws p)
path_extended-IsShaped o (PathBracket ∷ ws) p h = (tt, h)
path_extended-IsShaped o (Angle m ∷ ws) p h = (tt, h)
path_extended-IsShaped o (PathBetween q r ∷ ws) p h = go (path_extended-IsShaped o ws (path_joined q r p) h.1) (leb_tells (suc (path_level o)) (path_level q))
  where
    go : IsShaped true (path_extended o ws (path_joined q r p)) → ((leb (suc (path_level o)) (path_level q) ≡ true) × (suc (path_level o) ≤ path_level q)) ⊎ ((leb (suc (path_level o)) (path_level q) ≡ false) × (path_level q < suc (path_level o))) → IsShaped true (path_extended o (PathBetween q r ∷ ws) p)
    go further (inl e) = rw e.0 further
    go further (inr e) = rw e.0 (omega (arith, e.1), h)
path_extended-IsShaped o _ p h = absurd h

closed-Shaped : (ws : List Item) (f : Formula) (t : Token) → IsShaped false ws → IfSome (closed ws f t) Shaped
closed-Shaped (Before p ∷ ws) f t h = closed-Shaped ws (prefixed p f) t h
closed-Shaped (Behind m p ∷ ws) f t h = closed-Shaped ws (behind m p f) t h
closed-Shaped (Between q g ∷ ws) f t h = closed-Shaped ws (joined q g f) t h.1
closed-Shaped (Bracket ∷ ws) f token.Close h = h
closed-Shaped (Brace ∷ ws) f token.CloseBrace h = h
closed-Shaped ws f t h = tt

path_closed-Shaped : (ws : List Item) (p : Program) (t : Token) → IsShaped true ws → IfSome (path_closed ws p t) Shaped
path_closed-Shaped (PathBetween q r ∷ ws) p t h = path_closed-Shaped ws (path_joined q r p) t h.1
path_closed-Shaped (PathBracket ∷ ws) p token.Close h = h
path_closed-Shaped (Angle modalities.Diamond ∷ ws) p (token.CloseModality modalities.Diamond) h = h
path_closed-Shaped (Angle modalities.BoxAll ∷ ws) p (token.CloseModality modalities.BoxAll) h = h
path_closed-Shaped ws p t h = tt

starred-Shaped : (ws : List Item) (p : Program) (t : Token) → IsShaped true ws → IfSome (step_starred ws p t) Shaped
starred-Shaped ws p (token.PathInfix o) h = path_extended-IsShaped o ws p h
starred-Shaped ws p t h = path_closed-Shaped ws p t h

based-Shaped : (ws : List Item) (p : Program) (t : Token) → IsShaped true ws → IfSome (step_based ws p t) Shaped
based-Shaped ws p token.Star h = h
based-Shaped ws p t h = starred-Shaped ws p t h

guard-Shaped : (ws : List Item) (f : Formula) (t : Token) → IsShaped true ws → IfSome (step_guard ws f t) Shaped
guard-Shaped ws f token.Question h = h
guard-Shaped ws f t h = go (is_propositional f)
  where
    go : (b : Bool) → IfSome (cond b (step_based ws (formula.Step f) t) None) Shaped
    go true = based-Shaped ws (formula.Step f) t h
    go false = tt

-- what can wait can wait after each token
pub step-Shaped : (s : State) (t : Token) → Shaped s → IfSome (step s t) Shaped
step-Shaped (Due ws) token.Open h = h
step-Shaped (Due ws) (token.Prefix p) h = h
step-Shaped (Due ws) (token.OpenModality m) h = h
step-Shaped (Due ws) (token.Leaf l) h = h
step-Shaped (Due ws) _ h = tt
step-Shaped (After ws f) (token.Infix o) h = extended-IsShaped o ws f h
step-Shaped (After ws f) t h = closed-Shaped ws f t h
step-Shaped (PathDue ws) (token.Leaf l) h = h
step-Shaped (PathDue ws) token.OpenBrace h = h
step-Shaped (PathDue ws) token.Open h = h
step-Shaped (PathDue ws) _ h = tt
step-Shaped (GuardRead ws f) t h = guard-Shaped ws f t h
step-Shaped (Based ws p) t h = based-Shaped ws p t h
step-Shaped (Starred ws p) t h = starred-Shaped ws p t h
