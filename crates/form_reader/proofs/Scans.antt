-- The machine goes by the table, and its items without their trees are those that the table counts.
use Rattle.std.proofs.Common.{◌≡◌, suc, ◌≤◌, ◌<◌, List, [], ◌∷◌, Option, Some, None, refl, sym, ap, ◌∙◌, arith, Bool, true, false, ◌&&◌, cond, not, leb, inl, inr, ◌⊎◌, length}
use Rattle.std.proofs.Math.Bool.{and-false, and-true}
use Rattle.std.proofs.lemmas.Bool.Decides.{leb_tells}
use Rattle.std.proofs.lemmas.Bool.{le-ltb}
use Rattle.std.specs.Option.{IfSome, is_some}
use Rattle.forms.specs.Tree.{Formula, Program}
use Rattle.forms.specs.Tree as formula
use Rattle.form_tokens.specs.declared.token.Infix.{Infix}
use Rattle.form_tokens.specs.declared.token.PathInfix.{PathInfix}
use Rattle.form_tokens.specs.declared.token.Modality.{Modality}
use Rattle.form_tokens.specs.declared.token.Modality.TheVariants as modalities
use Rattle.form_tokens.specs.declared.token.Token.{Token}
use Rattle.form_tokens.specs.declared.token.Token.TheVariants as token
use Rattle.form_reader.specs.Grammar.{prefixed, behind, joined, path_joined, level, path_level, unary}
use Rattle.form_reader.specs.Waiting as kind
use Rattle.form_reader.specs.Waiting.{Kind, loosened, path_loosened, after_close, innermost}
use Rattle.form_reader.specs.Admitted as row
use Rattle.form_reader.specs.Admitted.{Row, Scan, lists, is_closing, fits, admits, after, guard_row, closed_row, may_end}
use Rattle.form_reader.specs.Machine.{Item, Bracket, PathBracket, Brace, Angle, Before, Behind, Between, PathBetween, State, Due, After, PathDue, GuardRead, Based, Starred, extended, path_extended, closed, path_closed, finished, step_starred, step_based, step_guard, step, finish, waits, is_propositional}
use Rattle.form_reader.proofs.Complete.{Fits, PathFits, Fits-more, PathFits-more, level-below}
use Rattle.form_reader.proofs.Plain.{plain, plain_of, plain-prefixed, plain-behind, plain-joined, plain-extended, leaf-plain}
use Rattle.form_reader.proofs.Shapes.{IsShaped, Shaped}

-- the kinds of the items
abbrev pub kinds : List Item → List Kind
kinds [] = []
kinds (Bracket ∷ ws) = kind.Bracket ∷ kinds ws
kinds (PathBracket ∷ ws) = kind.PathBracket ∷ kinds ws
kinds (Brace ∷ ws) = kind.Brace ∷ kinds ws
kinds (Angle m ∷ ws) = kind.Angle m ∷ kinds ws
kinds (Before p ∷ ws) = kind.Unary ∷ kinds ws
kinds (Behind m p ∷ ws) = kind.Unary ∷ kinds ws
kinds (Between o f ∷ ws) = kind.Binary o ∷ kinds ws
kinds (PathBetween o p ∷ ws) = kind.PathBinary o ∷ kinds ws

-- as many kinds as items
pub length-kinds : (ws : List Item) → length (kinds ws) ≡ length ws
length-kinds [] = refl
length-kinds (Bracket ∷ ws) = ap suc (length-kinds ws)
length-kinds (PathBracket ∷ ws) = ap suc (length-kinds ws)
length-kinds (Brace ∷ ws) = ap suc (length-kinds ws)
length-kinds (Angle m ∷ ws) = ap suc (length-kinds ws)
length-kinds (Before p ∷ ws) = ap suc (length-kinds ws)
length-kinds (Behind m p ∷ ws) = ap suc (length-kinds ws)
length-kinds (Between o f ∷ ws) = ap suc (length-kinds ws)
length-kinds (PathBetween o p ∷ ws) = ap suc (length-kinds ws)

-- the row of a state
abbrev pub row_of : State → Row
row_of (Due ws) = row.Due
row_of (After ws f) = row.Read
row_of (PathDue ws) = row.PathDue
row_of (GuardRead ws f) = guard_row (is_propositional f)
row_of (Based ws p) = row.PathRead
row_of (Starred ws p) = row.StarRead

-- where the reading of tokens stands at a state
abbrev pub scan_of : State → Scan
scan_of s = record { row = row_of s; waits = kinds (waits s); plain = plain_of s }

abbrev scan : Row → List Kind → Bool → Scan
scan r ks b = record { row = r; waits = ks; plain = b }

same_scan : (r : Row) (ks ls : List Kind) (b c : Bool) → ks ≡ ls → b ≡ c → scan r ks b ≡ scan r ls c
same_scan r ks ls b c e d = rw (e, d)

same_scan_at : (ks : List Kind) (r q : Row) (b c : Bool) → r ≡ q → b ≡ c → scan r ks b ≡ scan q ks c
same_scan_at ks r q b c e d = rw (e, d)

-- where a left operand fits, the operator removes nothing
loosened-Fits : (o : Infix) (ws : List Item) → IsShaped false ws → Fits (level o) ws → loosened o (kinds ws) ≡ kinds ws
loosened-Fits o [] h e = refl
loosened-Fits o (Bracket ∷ ws) h e = refl
loosened-Fits o (Brace ∷ ws) h e = refl
loosened-Fits o (Before p ∷ ws) h e = let b : level o < unary = level-below o in absurd (omega arith)
loosened-Fits o (Behind m p ∷ ws) h e = let b : level o < unary = level-below o in absurd (omega arith)
loosened-Fits o (Between q g ∷ ws) h e =
    rw (le-ltb (level o) (level q) e) (ap (λ ks. kind.Binary q ∷ ks) (loosened-Fits o ws h.1 (Fits-more (level q) (level o) ws e h.0)))
loosened-Fits o _ h e = absurd h

path_loosened-PathFits : (o : PathInfix) (ws : List Item) → IsShaped true ws → PathFits (path_level o) ws → path_loosened o (kinds ws) ≡ kinds ws
path_loosened-PathFits o (PathBracket ∷ ws) h e = refl
path_loosened-PathFits o (Angle m ∷ ws) h e = refl
path_loosened-PathFits o (PathBetween q g ∷ ws) h e =
    rw (le-ltb (path_level o) (path_level q) e) (ap (λ ks. kind.PathBinary q ∷ ks) (path_loosened-PathFits o ws h.1 (PathFits-more (path_level q) (path_level o) ws e h.0)))
path_loosened-PathFits o _ h e = absurd h

kinds-extended : (o : Infix) (ws : List Item) (f : Formula) → IsShaped false ws → kinds (extended o ws f) ≡ kind.Binary o ∷ loosened o (kinds ws)
kinds-extended o [] f h = refl
kinds-extended o (Bracket ∷ ws) f h = refl
kinds-extended o (Brace ∷ ws) f h = refl
kinds-extended o (Before p ∷ ws) f h = kinds-extended o ws (prefixed p f) h
kinds-extended o (Behind m p ∷ ws) f h = kinds-extended o ws (behind m p f) h
kinds-extended o (Between q g ∷ ws) f h = go (kinds-extended o ws (joined q g f) h.1) (leb_tells (suc (level o)) (level q))
  where
    go : kinds (extended o ws (joined q g f)) ≡ kind.Binary o ∷ loosened o (kinds ws) → ((leb (suc (level o)) (level q) ≡ true) × (suc (level o) ≤ level q)) ⊎ ((leb (suc (level o)) (level q) ≡ false) × (level q < suc (level o))) → kinds (extended o (Between q g ∷ ws) f) ≡ kind.Binary o ∷ loosened o (kinds (Between q g ∷ ws))
    go further (inl e) = rw e.0 further
    go further (inr e) = rw e.0 (ap (λ ks. kind.Binary o ∷ kind.Binary q ∷ ks) (sym (loosened-Fits o ws h.1 (Fits-more (level q) (level o) ws (omega (arith, e.1)) h.0))))
kinds-extended o _ f h = absurd h

kinds-path_extended : (o : PathInfix) (ws : List Item) (p : Program) → IsShaped true ws → kinds (path_extended o ws p) ≡ kind.PathBinary o ∷ path_loosened o (kinds ws)
kinds-path_extended o (PathBracket ∷ ws) p h = refl
kinds-path_extended o (Angle m ∷ ws) p h = refl
kinds-path_extended o (PathBetween q r ∷ ws) p h = go (kinds-path_extended o ws (path_joined q r p) h.1) (leb_tells (suc (path_level o)) (path_level q))
  where
    go : kinds (path_extended o ws (path_joined q r p)) ≡ kind.PathBinary o ∷ path_loosened o (kinds ws) → ((leb (suc (path_level o)) (path_level q) ≡ true) × (suc (path_level o) ≤ path_level q)) ⊎ ((leb (suc (path_level o)) (path_level q) ≡ false) × (path_level q < suc (path_level o))) → kinds (path_extended o (PathBetween q r ∷ ws) p) ≡ kind.PathBinary o ∷ path_loosened o (kinds (PathBetween q r ∷ ws))
    go further (inl e) = rw e.0 further
    go further (inr e) = rw e.0 (ap (λ ks. kind.PathBinary o ∷ kind.PathBinary q ∷ ks) (sym (path_loosened-PathFits o ws h.1 (PathFits-more (path_level q) (path_level o) ws (omega (arith, e.1)) h.0))))
kinds-path_extended o _ p h = absurd h

-- a `)` that closes a formula
closed-Close : (ws : List Item) (f : Formula) (c : Bool) → (is_propositional f && plain ws) ≡ c → IfSome (closed ws f token.Close) (λ next. scan_of next ≡ scan (closed_row (innermost (kinds ws))) (after_close (kinds ws)) c)
closed-Close (Before p ∷ ws) f c e = closed-Close ws (prefixed p f) c (plain-prefixed p f (plain ws) ∙ e)
closed-Close (Behind m p ∷ ws) f c e = closed-Close ws (behind m p f) c (plain-behind m p f (plain ws) ∙ e)
closed-Close (Between q g ∷ ws) f c e = closed-Close ws (joined q g f) c (plain-joined q g f (plain ws) ∙ e)
closed-Close (Bracket ∷ ws) f c e = ap (λ b. scan row.Read (kinds ws) b) e
closed-Close _ f c e = tt

-- a `}`: the formula is propositional exactly where all tokens since the `{` are plain
closed-CloseBrace : (ws : List Item) (f : Formula) (c : Bool) → (is_propositional f && plain ws) ≡ c → IfSome (closed ws f token.CloseBrace) (λ next. scan_of next ≡ scan (guard_row c) (after_close (kinds ws)) false)
closed-CloseBrace (Before p ∷ ws) f c e = closed-CloseBrace ws (prefixed p f) c (plain-prefixed p f (plain ws) ∙ e)
closed-CloseBrace (Behind m p ∷ ws) f c e = closed-CloseBrace ws (behind m p f) c (plain-behind m p f (plain ws) ∙ e)
closed-CloseBrace (Between q g ∷ ws) f c e = closed-CloseBrace ws (joined q g f) c (plain-joined q g f (plain ws) ∙ e)
closed-CloseBrace (Brace ∷ ws) f c e = ap (λ b. scan (guard_row b) (kinds ws) false) (sym (and-true (is_propositional f)) ∙ e)
closed-CloseBrace _ f c e = tt

-- no other token closes a formula
pub closed-None : (ws : List Item) (f : Formula) (t : Token) → (lists row.Read t && is_closing t) ≡ false → closed ws f t ≡ None
closed-None (Before p ∷ ws) f t e = closed-None ws (prefixed p f) t e
closed-None (Behind m p ∷ ws) f t e = closed-None ws (behind m p f) t e
closed-None (Between q g ∷ ws) f t e = closed-None ws (joined q g f) t e
closed-None (Bracket ∷ ws) f token.Close e = cc
closed-None (Brace ∷ ws) f token.CloseBrace e = cc
closed-None ws f t e = refl

path_closed-Close : (ws : List Item) (p : Program) → IfSome (path_closed ws p token.Close) (λ next. scan_of next ≡ scan (closed_row (innermost (kinds ws))) (after_close (kinds ws)) false)
path_closed-Close (PathBetween q r ∷ ws) p = path_closed-Close ws (path_joined q r p)
path_closed-Close (PathBracket ∷ ws) p = refl
path_closed-Close (Angle modalities.Diamond ∷ ws) p = tt
path_closed-Close (Angle modalities.BoxAll ∷ ws) p = tt
path_closed-Close _ p = tt

path_closed-CloseModality : (ws : List Item) (p : Program) (m : Modality) → IfSome (path_closed ws p (token.CloseModality m)) (λ next. scan_of next ≡ scan row.Due (kind.Unary ∷ after_close (kinds ws)) false)
path_closed-CloseModality (PathBetween q r ∷ ws) p m = path_closed-CloseModality ws (path_joined q r p) m
path_closed-CloseModality (Angle modalities.Diamond ∷ ws) p modalities.Diamond = refl
path_closed-CloseModality (Angle modalities.BoxAll ∷ ws) p modalities.BoxAll = refl
path_closed-CloseModality _ p m = tt

-- no other token closes a path
pub path_closed-None : (ws : List Item) (p : Program) (t : Token) → (lists row.StarRead t && is_closing t) ≡ false → path_closed ws p t ≡ None
path_closed-None (PathBetween q r ∷ ws) p t e = path_closed-None ws (path_joined q r p) t e
path_closed-None (PathBracket ∷ ws) p token.Close e = cc
path_closed-None (Angle modalities.Diamond ∷ ws) p (token.CloseModality modalities.Diamond) e = cc
path_closed-None (Angle modalities.BoxAll ∷ ws) p (token.CloseModality modalities.BoxAll) e = cc
path_closed-None ws p t e = refl

IfSome-None : {A : Type 0} (P : A → Type 0) (o : Option A) → o ≡ None → IfSome o P
IfSome-None P None e = tt
IfSome-None P (Some x) e = cc

starred-scan : (ws : List Item) (p : Program) (r : Row) (t : Token) → IsShaped true ws → IfSome (step_starred ws p t) (λ next. scan_of next ≡ after (scan r (kinds ws) false) t)
starred-scan ws p r (token.PathInfix o) h = ap (λ ks. scan row.PathDue ks false) (kinds-path_extended o ws p h)
starred-scan ws p r token.Close h = path_closed-Close ws p
starred-scan ws p r (token.CloseModality m) h = path_closed-CloseModality ws p m
starred-scan ws p r t h = IfSome-None _ (path_closed ws p t) (path_closed-None ws p t refl)

based-scan : (ws : List Item) (p : Program) (r : Row) (t : Token) → IsShaped true ws → IfSome (step_based ws p t) (λ next. scan_of next ≡ after (scan r (kinds ws) false) t)
based-scan ws p r token.Star h = refl
based-scan ws p r t h = starred-scan ws p r t h

guard-scan : (ws : List Item) (f : Formula) (r : Row) (t : Token) → IsShaped true ws → IfSome (step_guard ws f t) (λ next. scan_of next ≡ after (scan r (kinds ws) false) t)
guard-scan ws f r token.Question h = refl
guard-scan ws f r t h = go (is_propositional f)
  where
    go : (b : Bool) → IfSome (cond b (step_based ws (formula.Step f) t) None) (λ next. scan_of next ≡ after (scan r (kinds ws) false) t)
    go true = based-scan ws (formula.Step f) r t h
    go false = tt

guard_leaf : (ks : List Kind) (b c : Bool) → b ≡ c → scan (guard_row b) ks false ≡ scan (guard_row c) ks (c && false)
guard_leaf ks b c e = same_scan_at ks _ _ _ _ (ap guard_row e) (sym (and-false c))

-- a token takes the table where it takes the machine
pub step-scan : (s : State) (t : Token) → Shaped s → IfSome (step s t) (λ next. scan_of next ≡ after (scan_of s) t)
step-scan (Due ws) token.Open h = refl
step-scan (Due ws) (token.Prefix p) h = refl
step-scan (Due ws) (token.OpenModality m) h = refl
step-scan (Due ws) (token.Leaf l) h = ap (λ b. scan row.Read (kinds ws) (b && plain ws)) (leaf-plain l)
step-scan (Due ws) _ h = tt
step-scan (After ws f) (token.Infix o) h = same_scan row.Due _ _ _ _ (kinds-extended o ws f h) (plain-extended o ws f)
step-scan (After ws f) token.Close h = closed-Close ws f _ refl
step-scan (After ws f) token.CloseBrace h = closed-CloseBrace ws f _ refl
step-scan (After ws f) t h = IfSome-None _ (closed ws f t) (closed-None ws f t refl)
step-scan (PathDue ws) (token.Leaf l) h = guard_leaf (kinds ws) _ _ (leaf-plain l)
step-scan (PathDue ws) token.OpenBrace h = refl
step-scan (PathDue ws) token.Open h = refl
step-scan (PathDue ws) _ h = tt
step-scan (GuardRead ws f) t h = guard-scan ws f (guard_row (is_propositional f)) t h
step-scan (Based ws p) t h = based-scan ws p row.PathRead t h
step-scan (Starred ws p) t h = starred-scan ws p row.StarRead t h

closed-fits-Close : (ws : List Item) (f : Formula) → IsShaped false ws → is_some (closed ws f token.Close) ≡ fits (innermost (kinds ws)) token.Close
closed-fits-Close (Before p ∷ ws) f h = closed-fits-Close ws (prefixed p f) h
closed-fits-Close (Behind m p ∷ ws) f h = closed-fits-Close ws (behind m p f) h
closed-fits-Close (Between q g ∷ ws) f h = closed-fits-Close ws (joined q g f) h.1
closed-fits-Close [] f h = refl
closed-fits-Close (Bracket ∷ ws) f h = refl
closed-fits-Close (Brace ∷ ws) f h = refl
closed-fits-Close _ f h = absurd h

closed-fits-CloseBrace : (ws : List Item) (f : Formula) → IsShaped false ws → is_some (closed ws f token.CloseBrace) ≡ fits (innermost (kinds ws)) token.CloseBrace
closed-fits-CloseBrace (Before p ∷ ws) f h = closed-fits-CloseBrace ws (prefixed p f) h
closed-fits-CloseBrace (Behind m p ∷ ws) f h = closed-fits-CloseBrace ws (behind m p f) h
closed-fits-CloseBrace (Between q g ∷ ws) f h = closed-fits-CloseBrace ws (joined q g f) h.1
closed-fits-CloseBrace [] f h = refl
closed-fits-CloseBrace (Bracket ∷ ws) f h = refl
closed-fits-CloseBrace (Brace ∷ ws) f h = refl
closed-fits-CloseBrace _ f h = absurd h

path_closed-fits-Close : (ws : List Item) (p : Program) → IsShaped true ws → is_some (path_closed ws p token.Close) ≡ fits (innermost (kinds ws)) token.Close
path_closed-fits-Close (PathBetween q r ∷ ws) p h = path_closed-fits-Close ws (path_joined q r p) h.1
path_closed-fits-Close (PathBracket ∷ ws) p h = refl
path_closed-fits-Close (Angle m ∷ ws) p h = angle m
  where
    angle : (m : Modality) → is_some (path_closed (Angle m ∷ ws) p token.Close) ≡ fits (Some (kind.Angle m)) token.Close
    angle modalities.Diamond = refl
    angle modalities.BoxAll = refl
path_closed-fits-Close _ p h = absurd h

path_closed-fits-CloseModality : (ws : List Item) (p : Program) (m : Modality) → IsShaped true ws → is_some (path_closed ws p (token.CloseModality m)) ≡ fits (innermost (kinds ws)) (token.CloseModality m)
path_closed-fits-CloseModality (PathBetween q r ∷ ws) p m h = path_closed-fits-CloseModality ws (path_joined q r p) m h.1
path_closed-fits-CloseModality (PathBracket ∷ ws) p m h = refl
path_closed-fits-CloseModality (Angle modalities.Diamond ∷ ws) p modalities.Diamond h = refl
path_closed-fits-CloseModality (Angle modalities.Diamond ∷ ws) p modalities.BoxAll h = refl
path_closed-fits-CloseModality (Angle modalities.BoxAll ∷ ws) p modalities.Diamond h = refl
path_closed-fits-CloseModality (Angle modalities.BoxAll ∷ ws) p modalities.BoxAll h = refl
path_closed-fits-CloseModality _ p m h = absurd h

starred-admits : (ws : List Item) (p : Program) (c : Bool) (t : Token) → IsShaped true ws → is_some (step_starred ws p t) ≡ admits (scan row.StarRead (kinds ws) c) t
starred-admits ws p c (token.PathInfix o) h = refl
starred-admits ws p c token.Close h = path_closed-fits-Close ws p h
starred-admits ws p c (token.CloseModality m) h = path_closed-fits-CloseModality ws p m h
starred-admits ws p c t h = ap is_some (path_closed-None ws p t refl)

based-admits : (ws : List Item) (p : Program) (c : Bool) (t : Token) → IsShaped true ws → is_some (step_based ws p t) ≡ admits (scan row.PathRead (kinds ws) c) t
based-admits ws p c token.Star h = refl
based-admits ws p c t h = starred-admits ws p c t h

guard-admits : (ws : List Item) (f : Formula) (c : Bool) (t : Token) → IsShaped true ws → is_some (step_guard ws f t) ≡ admits (scan (guard_row (is_propositional f)) (kinds ws) c) t
guard-admits ws f c token.Question h = go (is_propositional f)
  where
    go : (b : Bool) → true ≡ admits (scan (guard_row b) (kinds ws) c) token.Question
    go true = refl
    go false = refl
guard-admits ws f c t h = go (is_propositional f)
  where
    go : (b : Bool) → is_some (cond b (step_based ws (formula.Step f) t) None) ≡ admits (scan (guard_row b) (kinds ws) c) t
    go true = based-admits ws (formula.Step f) c t h
    go false = refl

-- a token is refused exactly where the table does not admit it
pub step-admits : (s : State) (t : Token) → Shaped s → is_some (step s t) ≡ admits (scan_of s) t
step-admits (Due ws) token.Open h = refl
step-admits (Due ws) (token.Prefix p) h = refl
step-admits (Due ws) (token.OpenModality m) h = refl
step-admits (Due ws) (token.Leaf l) h = refl
step-admits (Due ws) _ h = refl
step-admits (After ws f) (token.Infix o) h = refl
step-admits (After ws f) token.Close h = closed-fits-Close ws f h
step-admits (After ws f) token.CloseBrace h = closed-fits-CloseBrace ws f h
step-admits (After ws f) t h = ap is_some (closed-None ws f t refl)
step-admits (PathDue ws) (token.Leaf l) h = refl
step-admits (PathDue ws) token.OpenBrace h = refl
step-admits (PathDue ws) token.Open h = refl
step-admits (PathDue ws) _ h = refl
step-admits (GuardRead ws f) t h = guard-admits ws f false t h
step-admits (Based ws p) t h = based-admits ws p false t h
step-admits (Starred ws p) t h = starred-admits ws p false t h

finished-innermost : (ws : List Item) (f : Formula) → IsShaped false ws → is_some (finished ws f) ≡ not (is_some (innermost (kinds ws)))
finished-innermost [] f h = refl
finished-innermost (Bracket ∷ ws) f h = refl
finished-innermost (Brace ∷ ws) f h = refl
finished-innermost (Before p ∷ ws) f h = finished-innermost ws (prefixed p f) h
finished-innermost (Behind m p ∷ ws) f h = finished-innermost ws (behind m p f) h
finished-innermost (Between o g ∷ ws) f h = finished-innermost ws (joined o g f) h.1
finished-innermost _ f h = absurd h

-- the text may end exactly where the machine has a formula
pub finish-may_end : (s : State) → Shaped s → is_some (finish s) ≡ may_end (scan_of s)
finish-may_end (After ws f) h = finished-innermost ws f h
finish-may_end (GuardRead ws f) h = go (is_propositional f)
  where
    go : (b : Bool) → false ≡ may_end (scan (guard_row b) (kinds ws) false)
    go true = refl
    go false = refl
finish-may_end _ h = refl
