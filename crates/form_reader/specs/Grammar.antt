-- The grammar of both dialects: which tokens are the text of which formula.
use Rattle.std.specs.Prelude.{ℕ, suc, List, [], ◌∷◌}
use Rattle.forms.specs.Tree.{Formula, Program}
use Rattle.forms.specs.Proper.{IsPropositional}
use Rattle.forms.specs.Tree as formula
use Rattle.form_tokens.specs.declared.token.Prefix.{Prefix}
use Rattle.form_tokens.specs.declared.token.Prefix.TheVariants as before
use Rattle.form_tokens.specs.declared.token.Infix.{Infix}
use Rattle.form_tokens.specs.declared.token.Infix.TheVariants as binary
use Rattle.form_tokens.specs.declared.token.PathInfix.{PathInfix}
use Rattle.form_tokens.specs.declared.token.PathInfix.TheVariants as path_binary
use Rattle.form_tokens.specs.declared.token.Modality.{Modality}
use Rattle.form_tokens.specs.declared.token.Modality.TheVariants as modalities
use Rattle.form_tokens.specs.declared.token.Leaf.{Leaf}
use Rattle.form_tokens.specs.declared.token.Leaf.TheVariants as leaf_tokens
use Rattle.form_tokens.specs.declared.token.Token.{Token}
use Rattle.form_tokens.specs.declared.token.Token.TheVariants as token

-- the formula of a name or a constant word
abbrev pub leaf_of : Leaf → Formula
leaf_of leaf_tokens.True = formula.True
leaf_of leaf_tokens.False = formula.False
leaf_of leaf_tokens.Last = formula.WeakNext formula.False
leaf_of leaf_tokens.LastStep = formula.Diamond (formula.Step formula.True) (formula.BoxAll (formula.Step formula.True) formula.False)
leaf_of leaf_tokens.End = formula.BoxAll (formula.Step formula.True) formula.False
leaf_of (leaf_tokens.Name i) = formula.Atom i

-- what a prefix operator makes of its operand
abbrev pub prefixed : Prefix → Formula → Formula
prefixed before.Not f = formula.Not f
prefixed before.Next f = formula.Next f
prefixed before.WeakNext f = formula.WeakNext f
prefixed before.Eventually f = formula.Eventually f
prefixed before.Always f = formula.Always f

-- the formula behind a path in brackets
abbrev pub behind : Modality → Program → Formula → Formula
behind modalities.Diamond p f = formula.Diamond p f
behind modalities.BoxAll p f = formula.BoxAll p f

-- what a binary operator makes of its operands
abbrev pub joined : Infix → Formula → Formula → Formula
joined binary.Iff f g = formula.Iff f g
joined binary.Implies f g = formula.Implies f g
joined binary.Or f g = formula.Or f g
joined binary.And f g = formula.And f g
joined binary.Until f g = formula.Until f g
joined binary.Release f g = formula.Release f g

-- what `+` or `;` makes of two paths
abbrev pub path_joined : PathInfix → Program → Program → Program
path_joined path_binary.Choice p q = formula.Choice p q
path_joined path_binary.Seq p q = formula.Seq p q

-- the level of a binary operator: a greater one binds more tightly
abbrev pub level : Infix → ℕ
level binary.Iff = 0
level binary.Implies = 1
level binary.Or = 2
level binary.And = 3
level binary.Until = 4
level binary.Release = 4

-- the same of an operator between paths
abbrev pub path_level : PathInfix → ℕ
path_level path_binary.Choice = 0
path_level path_binary.Seq = 1

-- the level of a formula without a binary operator of its own
abbrev pub unary : ℕ
unary = 5

-- the level of a path without a binary operator of its own
abbrev pub star : ℕ
star = 2

-- the level of a path without a star of its own too
abbrev pub base : ℕ
base = 3

mutual
  -- `Reads n ts f rest`: at the front of ts stands a formula of level n with the tree f, and rest is left.
  pub data Reads : ℕ → List Token → Formula → List Token → Type 0 where
    leaf : (l : Leaf) → {rest : List Token} → Reads unary (token.Leaf l ∷ rest) (leaf_of l) rest
    prefix_of : (p : Prefix) → {ts rest : List Token} → {f : Formula} → Reads unary ts f rest → Reads unary (token.Prefix p ∷ ts) (prefixed p f) rest
    modal_of : (m : Modality) → {ts us rest : List Token} → {p : Program} → {f : Formula} → Leads 0 ts p (token.CloseModality m ∷ us) → Reads unary us f rest → Reads unary (token.OpenModality m ∷ ts) (behind m p f) rest
    brackets : {ts rest : List Token} → {f : Formula} → Reads 0 ts f (token.Close ∷ rest) → Reads unary (token.Open ∷ ts) f rest
    alone : (n : ℕ) → {ts rest : List Token} → {f : Formula} → Reads (suc n) ts f rest → Reads n ts f rest
    infix_of : (o : Infix) → {ts us rest : List Token} → {f g : Formula} → Reads (suc (level o)) ts f (token.Infix o ∷ us) → Reads (level o) us g rest → Reads (level o) ts (joined o f g) rest

  -- `Leads n ts p rest`: the same of a path of level n with the tree p.
  pub data Leads : ℕ → List Token → Program → List Token → Type 0 where
    step_of : {ts rest : List Token} → {f : Formula} → ReadsGuard ts f rest → IsPropositional f → Leads base ts (formula.Step f) rest
    test_of : {ts rest : List Token} → {f : Formula} → ReadsGuard ts f (token.Question ∷ rest) → Leads base ts (formula.Test f) rest
    path_brackets : {ts rest : List Token} → {p : Program} → Leads 0 ts p (token.Close ∷ rest) → Leads base (token.Open ∷ ts) p rest
    star_of : {ts rest : List Token} → {p : Program} → Leads base ts p (token.Star ∷ rest) → Leads star ts (formula.Star p) rest
    path_alone : (n : ℕ) → {ts rest : List Token} → {p : Program} → Leads (suc n) ts p rest → Leads n ts p rest
    path_infix_of : (o : PathInfix) → {ts us rest : List Token} → {p q : Program} → Leads (suc (path_level o)) ts p (token.PathInfix o ∷ us) → Leads (path_level o) us q rest → Leads (path_level o) ts (path_joined o p q) rest

  -- `ReadsGuard ts f rest`: the same of what a step or a test holds, a name, a constant word or a formula in braces.
  pub data ReadsGuard : List Token → Formula → List Token → Type 0 where
    bare : (l : Leaf) → {rest : List Token} → ReadsGuard (token.Leaf l ∷ rest) (leaf_of l) rest
    braces : {ts rest : List Token} → {f : Formula} → Reads 0 ts f (token.CloseBrace ∷ rest) → ReadsGuard (token.OpenBrace ∷ ts) f rest

-- the tokens are the text of the formula
abbrev pub IsText : List Token → Formula → Type 0
IsText ts f = Reads 0 ts f []
