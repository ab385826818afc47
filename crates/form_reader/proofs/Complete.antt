-- What the grammar gives, the machine reads.
use Rattle.std.proofs.Common.{◌≡◌, ℕ, suc, ◌≤◌, ◌<◌, List, [], ◌∷◌, Some, refl, ap, ◌∙◌, arith, true}
use Rattle.std.proofs.lemmas.Bool.{le-ltb, lt-ltb}
use Rattle.forms.specs.Tree.{Formula, Program}
use Rattle.forms.specs.Tree as formula
use Rattle.form_tokens.specs.declared.token.Prefix.{Prefix}
use Rattle.form_tokens.specs.declared.token.Infix.{Infix}
use Rattle.form_tokens.specs.declared.token.Infix.TheVariants as binary
use Rattle.form_tokens.specs.declared.token.PathInfix.{PathInfix}
use Rattle.form_tokens.specs.declared.token.PathInfix.TheVariants as path_binary
use Rattle.form_tokens.specs.declared.token.Modality.{Modality}
use Rattle.form_tokens.specs.declared.token.Modality.TheVariants as modalities
use Rattle.form_tokens.specs.declared.token.Token.{Token}
use Rattle.form_tokens.specs.declared.token.Token.TheVariants as token
use Rattle.form_reader.specs.Grammar.{prefixed, behind, joined, path_joined, level, path_level, unary, star, base, Reads, Leads, ReadsGuard, IsText, leaf, prefix_of, modal_of, brackets, alone, infix_of, step_of, test_of, path_brackets, star_of, path_alone, path_infix_of, bare, braces}
use Rattle.form_reader.specs.Machine.{Item, Bracket, PathBracket, Brace, Angle, Before, Behind, Between, PathBetween, Due, After, PathDue, GuardRead, Based, Starred, extended, path_extended, is_propositional, run}
use Rattle.form_reader.proofs.Propositional.{is_propositional-true}

-- what may follow a formula of level n: no operator of its level or above
abbrev pub Follows : ℕ → List Token → Type 0
Follows n (token.Infix o ∷ ts) = level o < n
Follows n _ = Unit {0}

-- what may follow a path of level n
abbrev pub PathFollows : ℕ → List Token → Type 0
PathFollows n (token.PathInfix o ∷ ts) = path_level o < n
PathFollows n (token.Star ∷ ts) = base ≤ n
PathFollows n (token.Question ∷ ts) = ⊥
PathFollows n _ = Unit {0}

-- a formula of level n may stand behind the items
abbrev pub Fits : ℕ → List Item → Type 0
Fits n (Before p ∷ ws) = unary ≤ n
Fits n (Behind m p ∷ ws) = unary ≤ n
Fits n (Between o f ∷ ws) = level o ≤ n
Fits n _ = Unit {0}

-- the same of a path
abbrev pub PathFits : ℕ → List Item → Type 0
PathFits n (PathBetween o p ∷ ws) = path_level o ≤ n
PathFits n _ = Unit {0}

-- each binary operator binds less tightly than a prefix operator
pub level-below : (o : Infix) → level o < unary
level-below binary.Iff = omega arith
level-below binary.Implies = omega arith
level-below binary.Or = omega arith
level-below binary.And = omega arith
level-below binary.Until = omega arith
level-below binary.Release = omega arith

-- and each one between paths less than a star
pub path_level-below : (o : PathInfix) → path_level o < star
path_level-below path_binary.Choice = omega arith
path_level-below path_binary.Seq = omega arith

-- a prefix operator may be applied at once
pub run-Before : (p : Prefix) (ws : List Item) (f : Formula) (ts : List Token) → run (After (Before p ∷ ws) f) ts ≡ run (After ws (prefixed p f)) ts
run-Before p ws f [] = refl
run-Before p ws f (token.Infix o ∷ ts) = refl
run-Before p ws f (_ ∷ ts) = refl

-- so may a modality with its path
pub run-Behind : (m : Modality) (p : Program) (ws : List Item) (f : Formula) (ts : List Token) → run (After (Behind m p ∷ ws) f) ts ≡ run (After ws (behind m p f)) ts
run-Behind m p ws f [] = refl
run-Behind m p ws f (token.Infix o ∷ ts) = refl
run-Behind m p ws f (_ ∷ ts) = refl

-- a binary operator may be applied at once where no tighter one follows
pub run-Between : (o : Infix) (ws : List Item) (f g : Formula) (ts : List Token) → Follows (level o) ts → run (After (Between o f ∷ ws) g) ts ≡ run (After ws (joined o f g)) ts
run-Between o ws f g [] h = refl
run-Between o ws f g (token.Infix q ∷ ts) h = rw (lt-ltb (level q) (level o) h)
run-Between o ws f g (_ ∷ ts) h = refl

-- and one between paths, where no operator of its level or above follows, nor a star, nor `?`
pub run-PathBetween : (o : PathInfix) (ws : List Item) (p q : Program) (ts : List Token) → PathFollows (path_level o) ts → run (Based (PathBetween o p ∷ ws) q) ts ≡ run (Based ws (path_joined o p q)) ts
run-PathBetween o ws p q [] h = refl
run-PathBetween o ws p q (token.PathInfix r ∷ ts) h = rw (lt-ltb (path_level r) (path_level o) h)
run-PathBetween o ws p q (token.Star ∷ ts) h = let b : path_level o < star = path_level-below o in absurd (omega arith)
run-PathBetween o ws p q (token.Question ∷ ts) h = absurd h
run-PathBetween o ws p q (_ ∷ ts) h = refl

-- where no star follows, a starred path is like another
pub run-Starred : (ws : List Item) (p : Program) (ts : List Token) → PathFollows star ts → run (Starred ws p) ts ≡ run (Based ws p) ts
run-Starred ws p [] h = refl
run-Starred ws p (token.Star ∷ ts) h = absurd (omega arith)
run-Starred ws p (_ ∷ ts) h = refl

-- a propositional formula is a step where what may follow a path follows, so no `?`
pub run-GuardRead : (ws : List Item) (f : Formula) (n : ℕ) (ts : List Token) → is_propositional f ≡ true → PathFollows n ts → run (GuardRead ws f) ts ≡ run (Based ws (formula.Step f)) ts
run-GuardRead ws f n [] e h = refl
run-GuardRead ws f n (token.Question ∷ ts) e h = absurd h
run-GuardRead ws f n (_ ∷ ts) e h = rw e

-- nothing that waits before a binary operator is removed where its left operand fits
pub extended-Fits : (o : Infix) (ws : List Item) (f : Formula) → Fits (level o) ws → extended o ws f ≡ Between o f ∷ ws
extended-Fits o (Before p ∷ ws) f e = let b : level o < unary = level-below o in absurd (omega arith)
extended-Fits o (Behind m p ∷ ws) f e = let b : level o < unary = level-below o in absurd (omega arith)
extended-Fits o (Between q g ∷ ws) f e = rw (le-ltb (level o) (level q) e)
extended-Fits o _ f e = refl

-- the same of an operator between paths
pub path_extended-PathFits : (o : PathInfix) (ws : List Item) (p : Program) → PathFits (path_level o) ws → path_extended o ws p ≡ PathBetween o p ∷ ws
path_extended-PathFits o (PathBetween q r ∷ ws) p e = rw (le-ltb (path_level o) (path_level q) e)
path_extended-PathFits o _ p e = refl

-- what may follow a formula may follow one of the next level
pub Follows-suc : (n : ℕ) (ts : List Token) → Follows n ts → Follows (suc n) ts
Follows-suc n (token.Infix q ∷ ts) h = omega arith
Follows-suc n _ h = tt

-- the same of a path
pub PathFollows-suc : (n : ℕ) (ts : List Token) → PathFollows n ts → PathFollows (suc n) ts
PathFollows-suc n (token.PathInfix q ∷ ts) h = omega arith
PathFollows-suc n (token.Star ∷ ts) h = omega arith
PathFollows-suc n (token.Question ∷ ts) h = h
PathFollows-suc n _ h = tt

-- where a formula fits, one that binds more tightly fits
pub Fits-more : (n m : ℕ) (ws : List Item) → n ≤ m → Fits n ws → Fits m ws
Fits-more n m (Before p ∷ ws) e h = omega arith
Fits-more n m (Behind k p ∷ ws) e h = omega arith
Fits-more n m (Between q g ∷ ws) e h = omega arith
Fits-more n m _ e h = tt

-- the same of a path
pub PathFits-more : (n m : ℕ) (ws : List Item) → n ≤ m → PathFits n ws → PathFits m ws
PathFits-more n m (PathBetween q g ∷ ws) e h = omega arith
PathFits-more n m _ e h = tt

run-CloseModality : (m : Modality) (ws : List Item) (p : Program) (ts : List Token) → run (Based (Angle m ∷ ws) p) (token.CloseModality m ∷ ts) ≡ run (Due (Behind m p ∷ ws)) ts
run-CloseModality modalities.Diamond ws p ts = refl
run-CloseModality modalities.BoxAll ws p ts = refl

-- the machine reads a formula or a path of the grammar and goes on after it
mutual
  -- a formula of the grammar is read
  pub run-Reads : {n : ℕ} {ts rest : List Token} {f : Formula} (ws : List Item) → Reads n ts f rest → Follows n rest → Fits n ws → run (Due ws) ts ≡ run (After ws f) rest
  run-Reads ws (leaf l) h e = refl
  run-Reads ws (prefix_of p {ts} {rest} {f} r) h e = run-Reads (Before p ∷ ws) r h (omega arith) ∙ run-Before p ws f rest
  run-Reads ws (modal_of m {ts} {us} {rest} {p} {f} q r) h e =
      run-Leads (Angle m ∷ ws) q tt tt ∙ run-CloseModality m ws p us ∙ run-Reads (Behind m p ∷ ws) r h (omega arith) ∙ run-Behind m p ws f rest
  run-Reads ws (brackets r) h e = run-Reads (Bracket ∷ ws) r tt tt
  run-Reads ws (alone n {ts} {rest} {f} r) h e = run-Reads ws r (Follows-suc n rest h) (Fits-more n (suc n) ws (omega arith) e)
  run-Reads ws (infix_of o {ts} {us} {rest} {f} {g} r s) h e =
      run-Reads ws r (omega arith) (Fits-more (level o) (suc (level o)) ws (omega arith) e)
      ∙ ap (λ vs. run (Due vs) us) (extended-Fits o ws f e)
      ∙ run-Reads (Between o f ∷ ws) s h (omega arith)
      ∙ run-Between o ws f g rest h

  -- so is a path
  pub run-Leads : {n : ℕ} {ts rest : List Token} {p : Program} (ws : List Item) → Leads n ts p rest → PathFollows n rest → PathFits n ws → run (PathDue ws) ts ≡ run (Based ws p) rest
  run-Leads ws (step_of {ts} {rest} {f} k e) h d = run-ReadsGuard ws k ∙ run-GuardRead ws f base rest (is_propositional-true f e) h
  run-Leads ws (test_of k) h d = run-ReadsGuard ws k
  run-Leads ws (path_brackets q) h d = run-Leads (PathBracket ∷ ws) q tt tt
  run-Leads ws (star_of {ts} {rest} {p} q) h d = run-Leads ws q (omega arith) (PathFits-more star (suc star) ws (omega arith) d) ∙ run-Starred ws (formula.Star p) rest h
  run-Leads ws (path_alone n {ts} {rest} {p} q) h d = run-Leads ws q (PathFollows-suc n rest h) (PathFits-more n (suc n) ws (omega arith) d)
  run-Leads ws (path_infix_of o {ts} {us} {rest} {p} {q} r s) h d =
      run-Leads ws r (omega arith) (PathFits-more (path_level o) (suc (path_level o)) ws (omega arith) d)
      ∙ ap (λ vs. run (PathDue vs) us) (path_extended-PathFits o ws p d)
      ∙ run-Leads (PathBetween o p ∷ ws) s h (omega arith)
      ∙ run-PathBetween o ws p q rest h

  -- and what a step or a test holds
  pub run-ReadsGuard : {ts rest : List Token} {f : Formula} (ws : List Item) → ReadsGuard ts f rest → run (PathDue ws) ts ≡ run (GuardRead ws f) rest
  run-ReadsGuard ws (bare l) = refl
  run-ReadsGuard ws (braces r) = run-Reads (Brace ∷ ws) r tt tt

-- what the grammar gives is read
pub run-IsText : (ts : List Token) (f : Formula) → IsText ts f → run (Due []) ts ≡ Some f
run-IsText ts f r = run-Reads [] r tt tt

-- one text, one tree
pub one_tree : (ts : List Token) (f g : Formula) → IsText ts f → IsText ts g → f ≡ g
one_tree ts f g r s = let d : run (Due []) ts ≡ Some f = run-IsText ts f r in let e : run (Due []) ts ≡ Some g = run-IsText ts g s in cc
