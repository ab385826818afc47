-- The tokens of a printed formula are read as that formula.
use Rattle.std.proofs.Common.{ℕ, suc, ◌≤◌, ◌<◌, List, [], ◌∷◌, arith, cond}
use Rattle.forms.specs.Tree.{Formula, Program, True, False, Atom, Not, And, Or, Implies, Iff, Next, WeakNext, Until, Release, Eventually, Always, Diamond, BoxAll, Step, Test, Choice, Seq, Star}
use Rattle.forms.specs.Proper.{IsProper, IsProperProgram}
use Rattle.form_tokens.specs.declared.token.Prefix.TheVariants as before
use Rattle.form_tokens.specs.declared.token.Infix.{Infix}
use Rattle.form_tokens.specs.declared.token.Infix.TheVariants as binary
use Rattle.form_tokens.specs.declared.token.PathInfix.{PathInfix}
use Rattle.form_tokens.specs.declared.token.PathInfix.TheVariants as path_binary
use Rattle.form_tokens.specs.declared.token.Modality.TheVariants as modalities
use Rattle.form_tokens.specs.declared.token.Leaf.TheVariants as leaf_tokens
use Rattle.form_tokens.specs.declared.token.Token.{Token}
use Rattle.form_tokens.specs.declared.token.Token.TheVariants as token
use Rattle.form_reader.specs.Grammar.{joined, path_joined, level, path_level, unary, star, base, Reads, Leads, ReadsGuard, IsText, leaf, prefix_of, modal_of, brackets, infix_of, step_of, test_of, path_brackets, star_of, path_infix_of, bare, braces}
use Rattle.form_printer.specs.Printed.{is_bare, is_starred}
use Rattle.form_reader.proofs.Complete.{level-below, path_level-below}
use Rattle.form_reader.proofs.Sound.{Reads-looser, Leads-looser}

abbrev mutual
  -- the tokens of a formula, and then the rest
  pub written : Formula → List Token → List Token
  written True rest = token.Leaf leaf_tokens.True ∷ rest
  written False rest = token.Leaf leaf_tokens.False ∷ rest
  written (Atom i) rest = token.Leaf (leaf_tokens.Name i) ∷ rest
  written (Not f) rest = token.Prefix before.Not ∷ written f rest
  written (And f g) rest = token.Open ∷ written f (token.Infix binary.And ∷ written g (token.Close ∷ rest))
  written (Or f g) rest = token.Open ∷ written f (token.Infix binary.Or ∷ written g (token.Close ∷ rest))
  written (Implies f g) rest = token.Open ∷ written f (token.Infix binary.Implies ∷ written g (token.Close ∷ rest))
  written (Iff f g) rest = token.Open ∷ written f (token.Infix binary.Iff ∷ written g (token.Close ∷ rest))
  written (Next f) rest = token.Prefix before.Next ∷ written f rest
  written (WeakNext f) rest = token.Prefix before.WeakNext ∷ written f rest
  written (Until f g) rest = token.Open ∷ written f (token.Infix binary.Until ∷ written g (token.Close ∷ rest))
  written (Release f g) rest = token.Open ∷ written f (token.Infix binary.Release ∷ written g (token.Close ∷ rest))
  written (Eventually f) rest = token.Prefix before.Eventually ∷ written f rest
  written (Always f) rest = token.Prefix before.Always ∷ written f rest
  written (Diamond p f) rest = token.OpenModality modalities.Diamond ∷ written_path p (token.CloseModality modalities.Diamond ∷ written f rest)
  written (BoxAll p f) rest = token.OpenModality modalities.BoxAll ∷ written_path p (token.CloseModality modalities.BoxAll ∷ written f rest)

  -- the tokens of a path, and then the rest
  pub written_path : Program → List Token → List Token
  written_path (Step f) rest = cond (is_bare f) (written f rest) (token.OpenBrace ∷ written f (token.CloseBrace ∷ rest))
  written_path (Test f) rest = cond (is_bare f) (written f (token.Question ∷ rest)) (token.OpenBrace ∷ written f (token.CloseBrace ∷ token.Question ∷ rest))
  written_path (Choice p q) rest = token.Open ∷ written_path p (token.PathInfix path_binary.Choice ∷ written_path q (token.Close ∷ rest))
  written_path (Seq p q) rest = token.Open ∷ written_path p (token.PathInfix path_binary.Seq ∷ written_path q (token.Close ∷ rest))
  written_path (Star p) rest = cond (is_starred p) (token.Open ∷ written_path p (token.Close ∷ token.Star ∷ rest)) (written_path p (token.Star ∷ rest))

-- how tightly the text of a path binds
abbrev height : Program → ℕ
height (Star p) = star
height p = base

height-star : (p : Program) → star ≤ height p
height-star (Star p) = omega arith
height-star _ = omega arith

Reads-between : (o : Infix) {ts us rest : List Token} {f g : Formula} → Reads unary ts f (token.Infix o ∷ us) → Reads unary us g (token.Close ∷ rest) → Reads unary (token.Open ∷ ts) (joined o f g) rest
Reads-between o r s =
    let b : level o < unary = level-below o in
    brackets (Reads-looser 0 (level o) (omega arith) (infix_of o (Reads-looser (suc (level o)) unary (omega arith) r) (Reads-looser (level o) unary (omega arith) s)))

Leads-between : (o : PathInfix) {ts us rest : List Token} {p q : Program} → Leads star ts p (token.PathInfix o ∷ us) → Leads star us q (token.Close ∷ rest) → Leads base (token.Open ∷ ts) (path_joined o p q) rest
Leads-between o r s =
    let b : path_level o < star = path_level-below o in
    path_brackets (Leads-looser 0 (path_level o) (omega arith) (path_infix_of o (Leads-looser (suc (path_level o)) star (omega arith) r) (Leads-looser (path_level o) star (omega arith) s)))

-- what a step or a test holds
ReadsGuard-held : (f : Formula) (rest : List Token) → Reads unary (written f (token.CloseBrace ∷ rest)) f (token.CloseBrace ∷ rest) → ReadsGuard (cond (is_bare f) (written f rest) (token.OpenBrace ∷ written f (token.CloseBrace ∷ rest))) f rest
ReadsGuard-held True rest r = bare leaf_tokens.True
ReadsGuard-held False rest r = bare leaf_tokens.False
ReadsGuard-held (Atom i) rest r = bare (leaf_tokens.Name i)
ReadsGuard-held _ rest r = braces (Reads-looser 0 unary (omega arith) r)

-- a path with a star behind it
Leads-starred : (p : Program) (rest : List Token) → ((us : List Token) → Leads (height p) (written_path p us) p us) → Leads base (cond (is_starred p) (token.Open ∷ written_path p (token.Close ∷ token.Star ∷ rest)) (written_path p (token.Star ∷ rest))) p (token.Star ∷ rest)
Leads-starred (Star p) rest h = path_brackets (Leads-looser 0 star (omega arith) (h (token.Close ∷ token.Star ∷ rest)))
Leads-starred _ rest h = h (token.Star ∷ rest)

mutual
  Reads-written : (n : ℕ) (f : Formula) (rest : List Token) → IsProper n f → Reads unary (written f rest) f rest
  Reads-written n True rest h = leaf leaf_tokens.True
  Reads-written n False rest h = leaf leaf_tokens.False
  Reads-written n (Atom i) rest h = leaf (leaf_tokens.Name i)
  Reads-written n (Not f) rest h = prefix_of before.Not (Reads-written n f rest h)
  Reads-written n (And f g) rest h = Reads-between binary.And (Reads-written n f _ h.0) (Reads-written n g _ h.1)
  Reads-written n (Or f g) rest h = Reads-between binary.Or (Reads-written n f _ h.0) (Reads-written n g _ h.1)
  Reads-written n (Implies f g) rest h = Reads-between binary.Implies (Reads-written n f _ h.0) (Reads-written n g _ h.1)
  Reads-written n (Iff f g) rest h = Reads-between binary.Iff (Reads-written n f _ h.0) (Reads-written n g _ h.1)
  Reads-written n (Next f) rest h = prefix_of before.Next (Reads-written n f rest h)
  Reads-written n (WeakNext f) rest h = prefix_of before.WeakNext (Reads-written n f rest h)
  Reads-written n (Until f g) rest h = Reads-between binary.Until (Reads-written n f _ h.0) (Reads-written n g _ h.1)
  Reads-written n (Release f g) rest h = Reads-between binary.Release (Reads-written n f _ h.0) (Reads-written n g _ h.1)
  Reads-written n (Eventually f) rest h = prefix_of before.Eventually (Reads-written n f rest h)
  Reads-written n (Always f) rest h = prefix_of before.Always (Reads-written n f rest h)
  Reads-written n (Diamond p f) rest h = modal_of modalities.Diamond (Leads-looser 0 (height p) (omega arith) (Leads-written n p _ h.0)) (Reads-written n f rest h.1)
  Reads-written n (BoxAll p f) rest h = modal_of modalities.BoxAll (Leads-looser 0 (height p) (omega arith) (Leads-written n p _ h.0)) (Reads-written n f rest h.1)

  Leads-written : (n : ℕ) (p : Program) (rest : List Token) → IsProperProgram n p → Leads (height p) (written_path p rest) p rest
  Leads-written n (Step f) rest h = step_of (ReadsGuard-held f rest (Reads-written n f _ h.1)) h.0
  Leads-written n (Test f) rest h = test_of (ReadsGuard-held f (token.Question ∷ rest) (Reads-written n f _ h))
  Leads-written n (Choice p q) rest h = Leads-between path_binary.Choice (Leads-looser star (height p) (height-star p) (Leads-written n p _ h.0)) (Leads-looser star (height q) (height-star q) (Leads-written n q _ h.1))
  Leads-written n (Seq p q) rest h = Leads-between path_binary.Seq (Leads-looser star (height p) (height-star p) (Leads-written n p _ h.0)) (Leads-looser star (height q) (height-star q) (Leads-written n q _ h.1))
  Leads-written n (Star p) rest h = star_of (Leads-starred p rest (λ us. Leads-written n p us h))

-- the tokens of a proper formula are its text
pub IsText-written : (n : ℕ) (f : Formula) → IsProper n f → IsText (written f []) f
IsText-written n f h = Reads-looser 0 unary (omega arith) (Reads-written n f [] h)
