-- What the machine reads, the grammar gives.
use Rattle.std.proofs.Common.{◌≡◌, ℕ, zero, suc, ◌≤◌, ◌<◌, List, [], ◌∷◌, Option, Some, None, refl, sym, arith, Bool, true, false, cond, leb, subst, inl, inr, ◌⊎◌}
use Rattle.std.proofs.lemmas.Bool.Decides.{leb_tells}
use Rattle.std.specs.Option.{IfSome, option_and_then}
use Rattle.forms.specs.Tree.{Formula, Program}
use Rattle.forms.specs.Tree as formula
use Rattle.form_tokens.specs.declared.token.Prefix.{Prefix}
use Rattle.form_tokens.specs.declared.token.Infix.{Infix}
use Rattle.form_tokens.specs.declared.token.PathInfix.{PathInfix}
use Rattle.form_tokens.specs.declared.token.Modality.{Modality}
use Rattle.form_tokens.specs.declared.token.Modality.TheVariants as modalities
use Rattle.form_tokens.specs.declared.token.Token.{Token}
use Rattle.form_tokens.specs.declared.token.Token.TheVariants as token
use Rattle.form_reader.specs.Grammar.{prefixed, behind, joined, path_joined, level, path_level, unary, star, base, Reads, Leads, ReadsGuard, IsText, leaf, prefix_of, modal_of, brackets, alone, infix_of, step_of, test_of, path_brackets, star_of, path_alone, path_infix_of, bare, braces}
use Rattle.form_reader.specs.Machine.{Item, Bracket, PathBracket, Brace, Angle, Before, Behind, Between, PathBetween, State, Due, After, PathDue, GuardRead, Based, Starred, extended, path_extended, closed, path_closed, finished, step_starred, step_based, step_guard, step, is_propositional, run}
use Rattle.form_reader.proofs.Propositional.{IsPropositional-tested}
use Rattle.form_reader.proofs.Complete.{Fits, PathFits, level-below, path_level-below}

-- the tokens `input` up to `ts` are those of the items
abbrev pub Spells : List Token → List Item → List Token → Type 0
Spells input [] ts = input ≡ ts
Spells input (Bracket ∷ ws) ts = Spells input ws (token.Open ∷ ts)
Spells input (PathBracket ∷ ws) ts = Spells input ws (token.Open ∷ ts)
Spells input (Brace ∷ ws) ts = Spells input ws (token.OpenBrace ∷ ts)
Spells input (Angle m ∷ ws) ts = Spells input ws (token.OpenModality m ∷ ts)
Spells input (Before p ∷ ws) ts = Spells input ws (token.Prefix p ∷ ts)
Spells input (Behind m p ∷ ws) ts = (us : List Token) × Spells input ws (token.OpenModality m ∷ us) × Leads 0 us p (token.CloseModality m ∷ ts)
Spells input (Between o f ∷ ws) ts = (us : List Token) × Spells input ws us × Reads (suc (level o)) us f (token.Infix o ∷ ts) × Fits (level o) ws
Spells input (PathBetween o p ∷ ws) ts = (us : List Token) × Spells input ws us × Leads (suc (path_level o)) us p (token.PathInfix o ∷ ts) × PathFits (path_level o) ws

-- the items, and then a formula of level n that may stand behind them
pub record Operand (input : List Token) (ws : List Item) (n : ℕ) (f : Formula) (ts : List Token) : Type 0 where
  pub from : List Token
  pub spells : Spells input ws from
  pub reads : Reads n from f ts
  pub fits : Fits n ws

-- the items, and then a path of level n that may stand behind them
pub record PathOperand (input : List Token) (ws : List Item) (n : ℕ) (p : Program) (ts : List Token) : Type 0 where
  pub from : List Token
  pub spells : Spells input ws from
  pub leads : Leads n from p ts
  pub fits : PathFits n ws

-- a formula of a level is one of each lower level
pub Reads-looser : (n m : ℕ) {ts rest : List Token} {f : Formula} → n ≤ m → Reads m ts f rest → Reads n ts f rest
Reads-looser n zero {ts} {rest} {f} h r = let e : zero ≡ n = omega arith in subst (λ k. Reads k ts f rest) e r
Reads-looser n (suc m) {ts} {rest} {f} h r = go (λ e. Reads-looser n m e (alone m r)) (leb_tells n m)
  where
    go : (n ≤ m → Reads n ts f rest) → ((leb n m ≡ true) × (n ≤ m)) ⊎ ((leb n m ≡ false) × (m < n)) → Reads n ts f rest
    go further (inl e) = further e.1
    go further (inr e) = let below : m < n = e.1 in let d : suc m ≡ n = omega arith in subst (λ k. Reads k ts f rest) d r

-- the same of a path
pub Leads-looser : (n m : ℕ) {ts rest : List Token} {p : Program} → n ≤ m → Leads m ts p rest → Leads n ts p rest
Leads-looser n zero {ts} {rest} {p} h r = let e : zero ≡ n = omega arith in subst (λ k. Leads k ts p rest) e r
Leads-looser n (suc m) {ts} {rest} {p} h r = go (λ e. Leads-looser n m e (path_alone m r)) (leb_tells n m)
  where
    go : (n ≤ m → Leads n ts p rest) → ((leb n m ≡ true) × (n ≤ m)) ⊎ ((leb n m ≡ false) × (m < n)) → Leads n ts p rest
    go further (inl e) = further e.1
    go further (inr e) = let below : m < n = e.1 in let d : suc m ≡ n = omega arith in subst (λ k. Leads k ts p rest) d r

-- a formula with no binary operator of its own may stand behind anything
pub Fits-unary : (ws : List Item) → Fits unary ws
Fits-unary (Before p ∷ ws) = omega arith
Fits-unary (Behind m p ∷ ws) = omega arith
Fits-unary (Between o f ∷ ws) = let b : level o < unary = level-below o in omega arith
Fits-unary _ = tt

-- a path of level 2 or 3 may stand behind anything
pub PathFits-star : (n : ℕ) (ws : List Item) → star ≤ n → PathFits n ws
PathFits-star n (PathBetween o p ∷ ws) h = let b : path_level o < star = path_level-below o in omega arith
PathFits-star n _ h = tt

-- the waiting operator is applied
pub apply-Before : {input : List Token} (p : Prefix) (ws : List Item) (n : ℕ) (f : Formula) (ts : List Token) → Operand input (Before p ∷ ws) n f ts → Operand input ws unary (prefixed p f) ts
apply-Before p ws n f ts o = record { from = token.Prefix p ∷ o.from; spells = o.spells; reads = prefix_of p (Reads-looser unary n o.fits o.reads); fits = Fits-unary ws }

-- the waiting modality with its path is applied
pub apply-Behind : {input : List Token} (m : Modality) (p : Program) (ws : List Item) (n : ℕ) (f : Formula) (ts : List Token) → Operand input (Behind m p ∷ ws) n f ts → Operand input ws unary (behind m p f) ts
apply-Behind m p ws n f ts o = record { from = token.OpenModality m ∷ o.spells.0; spells = o.spells.1; reads = modal_of m o.spells.2 (Reads-looser unary n o.fits o.reads); fits = Fits-unary ws }

-- the waiting binary operator is applied to its two operands
pub apply-Between : {input : List Token} (q : Infix) (g : Formula) (ws : List Item) (n : ℕ) (f : Formula) (ts : List Token) → Operand input (Between q g ∷ ws) n f ts → Operand input ws (level q) (joined q g f) ts
apply-Between q g ws n f ts o = record { from = o.spells.0; spells = o.spells.1; reads = infix_of q o.spells.2 (Reads-looser (level q) n o.fits o.reads); fits = o.spells.3 }

-- the waiting operator between paths is applied to its two paths
pub apply-PathBetween : {input : List Token} (q : PathInfix) (r : Program) (ws : List Item) (n : ℕ) (p : Program) (ts : List Token) → PathOperand input (PathBetween q r ∷ ws) n p ts → PathOperand input ws (path_level q) (path_joined q r p) ts
apply-PathBetween q r ws n p ts o = record { from = o.spells.0; spells = o.spells.1; leads = path_infix_of q o.spells.2 (Leads-looser (path_level q) n o.fits o.leads); fits = o.spells.3 }

-- what was read up to the tokens is as the state says
abbrev pub Holds : List Token → State → List Token → Type 0
Holds input (Due ws) ts = Spells input ws ts
Holds input (After ws f) ts = Operand input ws unary f ts
Holds input (PathDue ws) ts = Spells input ws ts
Holds input (GuardRead ws f) ts = (us : List Token) × Spells input ws us × ReadsGuard us f ts
Holds input (Based ws p) ts = PathOperand input ws base p ts
Holds input (Starred ws p) ts = PathOperand input ws star p ts

-- after a token that closes a formula, what was read is as the next state says
pub closed-Holds : (input : List Token) (ws : List Item) (n : ℕ) (f : Formula) (t : Token) (ts : List Token) → Operand input ws n f (t ∷ ts) → IfSome (closed ws f t) (λ next. Holds input next ts)
closed-Holds input (Before p ∷ ws) n f t ts o = closed-Holds input ws unary (prefixed p f) t ts (apply-Before p ws n f _ o)
closed-Holds input (Behind m p ∷ ws) n f t ts o = closed-Holds input ws unary (behind m p f) t ts (apply-Behind m p ws n f _ o)
closed-Holds input (Between q g ∷ ws) n f t ts o = closed-Holds input ws (level q) (joined q g f) t ts (apply-Between q g ws n f _ o)
closed-Holds input (Bracket ∷ ws) n f token.Close ts o = record { from = token.Open ∷ o.from; spells = o.spells; reads = brackets (Reads-looser 0 n (omega arith) o.reads); fits = Fits-unary ws }
closed-Holds input (Brace ∷ ws) n f token.CloseBrace ts o = (token.OpenBrace ∷ o.from, o.spells, braces (Reads-looser 0 n (omega arith) o.reads))
closed-Holds input _ n f t ts o = tt

-- so it is after one that closes a path
pub path_closed-Holds : (input : List Token) (ws : List Item) (n : ℕ) (p : Program) (t : Token) (ts : List Token) → PathOperand input ws n p (t ∷ ts) → IfSome (path_closed ws p t) (λ next. Holds input next ts)
path_closed-Holds input (PathBetween q r ∷ ws) n p t ts o = path_closed-Holds input ws (path_level q) (path_joined q r p) t ts (apply-PathBetween q r ws n p _ o)
path_closed-Holds input (PathBracket ∷ ws) n p token.Close ts o = record { from = token.Open ∷ o.from; spells = o.spells; leads = path_brackets (Leads-looser 0 n (omega arith) o.leads); fits = PathFits-star base ws (omega arith) }
path_closed-Holds input (Angle modalities.Diamond ∷ ws) n p (token.CloseModality modalities.Diamond) ts o = (o.from, o.spells, Leads-looser 0 n (omega arith) o.leads)
path_closed-Holds input (Angle modalities.BoxAll ∷ ws) n p (token.CloseModality modalities.BoxAll) ts o = (o.from, o.spells, Leads-looser 0 n (omega arith) o.leads)
path_closed-Holds input _ n p t ts o = tt

-- at the end of the text, the finished formula is that of the text
pub finished-Holds : (input : List Token) (ws : List Item) (n : ℕ) (f : Formula) → Operand input ws n f [] → IfSome (finished ws f) (λ w. IsText input w)
finished-Holds input [] n f o = subst (λ ts. IsText ts f) (sym o.spells) (Reads-looser 0 n (omega arith) o.reads)
finished-Holds input (Before p ∷ ws) n f o = finished-Holds input ws unary (prefixed p f) (apply-Before p ws n f _ o)
finished-Holds input (Behind m p ∷ ws) n f o = finished-Holds input ws unary (behind m p f) (apply-Behind m p ws n f _ o)
finished-Holds input (Between q g ∷ ws) n f o = finished-Holds input ws (level q) (joined q g f) (apply-Between q g ws n f _ o)
finished-Holds input _ n f o = tt

-- the items after a binary operator are those of the tokens before them
pub extended-Holds : (input : List Token) (b : Infix) (ws : List Item) (n : ℕ) (f : Formula) (ts : List Token) → level b < n → Operand input ws n f (token.Infix b ∷ ts) → Spells input (extended b ws f) ts
extended-Holds input b (Before p ∷ ws) n f ts h o = extended-Holds input b ws unary (prefixed p f) ts (level-below b) (apply-Before p ws n f _ o)
extended-Holds input b (Behind m p ∷ ws) n f ts h o = extended-Holds input b ws unary (behind m p f) ts (level-below b) (apply-Behind m p ws n f _ o)
extended-Holds input b (Between q g ∷ ws) n f ts h o =
    go (λ e. extended-Holds input b ws (level q) (joined q g f) ts e (apply-Between q g ws n f _ o)) (leb_tells (suc (level b)) (level q))
  where
    go : (level b < level q → Spells input (extended b ws (joined q g f)) ts) → ((leb (suc (level b)) (level q) ≡ true) × (suc (level b) ≤ level q)) ⊎ ((leb (suc (level b)) (level q) ≡ false) × (level q < suc (level b))) → Spells input (extended b (Between q g ∷ ws) f) ts
    go further (inl e) = rw e.0 (further (omega (arith, e.1)))
    go further (inr e) = rw e.0 (o.from, o.spells, Reads-looser (suc (level b)) n (omega arith) o.reads, omega (arith, e.1))
extended-Holds input b _ n f ts h o = (o.from, o.spells, Reads-looser (suc (level b)) n (omega arith) o.reads, tt)

-- so are the items after an operator between paths
pub path_extended-Holds : (input : List Token) (b : PathInfix) (ws : List Item) (n : ℕ) (p : Program) (ts : List Token) → path_level b < n → PathOperand input ws n p (token.PathInfix b ∷ ts) → Spells input (path_extended b ws p) ts
path_extended-Holds input b (PathBetween q r ∷ ws) n p ts h o =
    go (λ e. path_extended-Holds input b ws (path_level q) (path_joined q r p) ts e (apply-PathBetween q r ws n p _ o)) (leb_tells (suc (path_level b)) (path_level q))
  where
    go : (path_level b < path_level q → Spells input (path_extended b ws (path_joined q r p)) ts) → ((leb (suc (path_level b)) (path_level q) ≡ true) × (suc (path_level b) ≤ path_level q)) ⊎ ((leb (suc (path_level b)) (path_level q) ≡ false) × (path_level q < suc (path_level b))) → Spells input (path_extended b (PathBetween q r ∷ ws) p) ts
    go further (inl e) = rw e.0 (further (omega (arith, e.1)))
    go further (inr e) = rw e.0 (o.from, o.spells, Leads-looser (suc (path_level b)) n (omega arith) o.leads, omega (arith, e.1))
path_extended-Holds input b _ n p ts h o = (o.from, o.spells, Leads-looser (suc (path_level b)) n (omega arith) o.leads, tt)

step_starred-Holds : (input : List Token) (ws : List Item) (p : Program) (t : Token) (ts : List Token) → PathOperand input ws star p (t ∷ ts) → IfSome (step_starred ws p t) (λ next. Holds input next ts)
step_starred-Holds input ws p (token.PathInfix b) ts h = path_extended-Holds input b ws star p ts (path_level-below b) h
step_starred-Holds input ws p t ts h = path_closed-Holds input ws star p t ts h

looser : (input : List Token) (ws : List Item) (p : Program) (ts : List Token) → PathOperand input ws base p ts → PathOperand input ws star p ts
looser input ws p ts o = record { from = o.from; spells = o.spells; leads = Leads-looser star base (omega arith) o.leads; fits = PathFits-star star ws (omega arith) }

step_based-Holds : (input : List Token) (ws : List Item) (p : Program) (t : Token) (ts : List Token) → PathOperand input ws base p (t ∷ ts) → IfSome (step_based ws p t) (λ next. Holds input next ts)
step_based-Holds input ws p token.Star ts o = record { from = o.from; spells = o.spells; leads = star_of o.leads; fits = PathFits-star star ws (omega arith) }
step_based-Holds input ws p t ts o = step_starred-Holds input ws p t ts (looser input ws p (t ∷ ts) o)

step_guard-Holds : (input : List Token) (ws : List Item) (f : Formula) (t : Token) (ts : List Token) → (us : List Token) × Spells input ws us × ReadsGuard us f (t ∷ ts) → IfSome (step_guard ws f t) (λ next. Holds input next ts)
step_guard-Holds input ws f token.Question ts h = record { from = h.0; spells = h.1; leads = test_of h.2; fits = PathFits-star base ws (omega arith) }
step_guard-Holds input ws f t ts h = go (is_propositional f) refl
  where
    go : (b : Bool) → is_propositional f ≡ b → IfSome (cond b (step_based ws (formula.Step f) t) None) (λ next. Holds input next ts)
    go true e = step_based-Holds input ws (formula.Step f) t ts (record { from = h.0; spells = h.1; leads = step_of h.2 (IsPropositional-tested f e); fits = PathFits-star base ws (omega arith) })
    go false e = tt

-- after each token, what was read is as the next state says
pub step-Holds : (input : List Token) (s : State) (t : Token) (ts : List Token) → Holds input s (t ∷ ts) → IfSome (step s t) (λ next. Holds input next ts)
step-Holds input (Due ws) token.Open ts h = h
step-Holds input (Due ws) (token.Prefix p) ts h = h
step-Holds input (Due ws) (token.OpenModality m) ts h = h
step-Holds input (Due ws) (token.Leaf l) ts h = record { from = token.Leaf l ∷ ts; spells = h; reads = leaf l; fits = Fits-unary ws }
step-Holds input (Due ws) _ ts h = tt
step-Holds input (After ws f) (token.Infix b) ts h = extended-Holds input b ws unary f ts (level-below b) h
step-Holds input (After ws f) t ts h = closed-Holds input ws unary f t ts h
step-Holds input (PathDue ws) (token.Leaf l) ts h = (token.Leaf l ∷ ts, h, bare l)
step-Holds input (PathDue ws) token.OpenBrace ts h = h
step-Holds input (PathDue ws) token.Open ts h = h
step-Holds input (PathDue ws) _ ts h = tt
step-Holds input (GuardRead ws f) t ts h = step_guard-Holds input ws f t ts h
step-Holds input (Based ws p) t ts h = step_based-Holds input ws p t ts h
step-Holds input (Starred ws p) t ts h = step_starred-Holds input ws p t ts h

and_then-IfSome : {A B : Type 0} (P : A → Type 0) (Q : B → Type 0) (f : A → Option B) (o : Option A) → IfSome o P → ((x : A) → P x → IfSome (f x) Q) → IfSome (option_and_then f o) Q
and_then-IfSome P Q f None h k = tt
and_then-IfSome P Q f (Some x) h k = k x h

-- so what is read at the end is the formula of the text
pub run-Holds : (input : List Token) (s : State) (ts : List Token) → Holds input s ts → IfSome (run s ts) (λ f. IsText input f)
run-Holds input (After ws f) [] h = finished-Holds input ws unary f h
run-Holds input _ [] h = tt
run-Holds input s (t ∷ ts) h =
    and_then-IfSome (λ next. Holds input next ts) (λ f. IsText input f) (λ next. run next ts) (step s t) (step-Holds input s t ts h) (λ next k. run-Holds input next ts k)

-- what is read is the text of its formula
pub IsText-run : (ts : List Token) → IfSome (run (Due []) ts) (λ f. IsText ts f)
IsText-run ts = run-Holds ts (Due []) ts refl
