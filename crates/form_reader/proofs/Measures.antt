-- The atoms and the size of a formula that was read.
use Rattle.std.proofs.Common.{◌≡◌, ℕ, ◌+◌, ◌*◌, ◌≤◌, ◌<◌, List, [], ◌∷◌, arith, length, refl}
use Rattle.forms.specs.Tree.{Formula, Program, nodes, program_nodes}
use Rattle.forms.specs.Proper.{IsProper, IsProperProgram}
use Rattle.form_tokens.specs.declared.token.Prefix.{Prefix}
use Rattle.form_tokens.specs.declared.token.Prefix.TheVariants as before
use Rattle.form_tokens.specs.declared.token.Infix.{Infix}
use Rattle.form_tokens.specs.declared.token.Infix.TheVariants as binary
use Rattle.form_tokens.specs.declared.token.PathInfix.{PathInfix}
use Rattle.form_tokens.specs.declared.token.PathInfix.TheVariants as path_binary
use Rattle.form_tokens.specs.declared.token.Modality.{Modality}
use Rattle.form_tokens.specs.declared.token.Modality.TheVariants as modalities
use Rattle.form_tokens.specs.declared.token.Leaf.{Leaf}
use Rattle.form_tokens.specs.declared.token.Leaf.TheVariants as leaf_tokens
use Rattle.form_tokens.specs.declared.token.Token.{Token}
use Rattle.form_tokens.specs.declared.token.Token.TheVariants as token
use Rattle.form_reader.specs.Grammar.{leaf_of, prefixed, behind, joined, path_joined, Reads, Leads, ReadsGuard, leaf, prefix_of, modal_of, brackets, alone, infix_of, step_of, test_of, path_brackets, star_of, path_alone, path_infix_of, bare, braces}

-- the number of the name is below p
abbrev pub IsNameBelow : ℕ → Token → Type 0
IsNameBelow p (token.Leaf (leaf_tokens.Name i)) = i < p
IsNameBelow p t = Unit {0}

-- the numbers of all names are below p
abbrev pub AreNamesBelow : ℕ → List Token → Type 0
AreNamesBelow p [] = Unit {0}
AreNamesBelow p (t ∷ ts) = IsNameBelow p t × AreNamesBelow p ts

leaf-IsProper : (p : ℕ) (l : Leaf) → IsNameBelow p (token.Leaf l) → IsProper p (leaf_of l)
leaf-IsProper p leaf_tokens.True h = tt
leaf-IsProper p leaf_tokens.False h = tt
leaf-IsProper p leaf_tokens.Last h = tt
leaf-IsProper p leaf_tokens.LastStep h = ((tt, tt), ((tt, tt), tt))
leaf-IsProper p leaf_tokens.End h = ((tt, tt), tt)
leaf-IsProper p (leaf_tokens.Name i) h = h

prefixed-IsProper : (p : ℕ) (o : Prefix) (f : Formula) → IsProper p f → IsProper p (prefixed o f)
prefixed-IsProper p before.Not f h = h
prefixed-IsProper p _ f h = h

joined-IsProper : (p : ℕ) (o : Infix) (f g : Formula) → IsProper p f → IsProper p g → IsProper p (joined o f g)
joined-IsProper p binary.Iff f g h k = (h, k)
joined-IsProper p _ f g h k = (h, k)

behind-IsProper : (p : ℕ) (m : Modality) (r : Program) (f : Formula) → IsProperProgram p r → IsProper p f → IsProper p (behind m r f)
behind-IsProper p modalities.Diamond r f h k = (h, k)
behind-IsProper p modalities.BoxAll r f h k = (h, k)

path_joined-IsProper : (p : ℕ) (o : PathInfix) (q r : Program) → IsProperProgram p q → IsProperProgram p r → IsProperProgram p (path_joined o q r)
path_joined-IsProper p path_binary.Choice q r h k = (h, k)
path_joined-IsProper p path_binary.Seq q r h k = (h, k)

-- a formula of names with numbers below c is proper for c
mutual
  -- a formula that is read is proper for the number
  pub Reads-IsProper : (c : ℕ) {n : ℕ} {ts rest : List Token} {f : Formula} → Reads n ts f rest → AreNamesBelow c ts → IsProper c f × AreNamesBelow c rest
  Reads-IsProper c (leaf l) h = (leaf-IsProper c l h.0, h.1)
  Reads-IsProper c (prefix_of o {ts} {rest} {f} r) h = let k = Reads-IsProper c r h.1 in (prefixed-IsProper c o f k.0, k.1)
  Reads-IsProper c (modal_of m {ts} {us} {rest} {p} {f} l r) h =
      let j = Leads-IsProper c l h.1 in let k = Reads-IsProper c r j.1.1 in (behind-IsProper c m p f j.0 k.0, k.1)
  Reads-IsProper c (brackets r) h = let k = Reads-IsProper c r h.1 in (k.0, k.1.1)
  Reads-IsProper c (alone n r) h = Reads-IsProper c r h
  Reads-IsProper c (infix_of o {ts} {us} {rest} {f} {g} r s) h =
      let j = Reads-IsProper c r h in let k = Reads-IsProper c s j.1.1 in (joined-IsProper c o f g j.0 k.0, k.1)

  -- a path that is read is
  pub Leads-IsProper : (c : ℕ) {n : ℕ} {ts rest : List Token} {p : Program} → Leads n ts p rest → AreNamesBelow c ts → IsProperProgram c p × AreNamesBelow c rest
  Leads-IsProper c (step_of l e) h = let k = ReadsGuard-IsProper c l h in ((e, k.0), k.1)
  Leads-IsProper c (test_of l) h = let k = ReadsGuard-IsProper c l h in (k.0, k.1.1)
  Leads-IsProper c (path_brackets l) h = let k = Leads-IsProper c l h.1 in (k.0, k.1.1)
  Leads-IsProper c (star_of l) h = let k = Leads-IsProper c l h in (k.0, k.1.1)
  Leads-IsProper c (path_alone n l) h = Leads-IsProper c l h
  Leads-IsProper c (path_infix_of o {ts} {us} {rest} {p} {q} l m) h =
      let j = Leads-IsProper c l h in let k = Leads-IsProper c m j.1.1 in (path_joined-IsProper c o p q j.0 k.0, k.1)

  -- what a step or a test holds is
  pub ReadsGuard-IsProper : (c : ℕ) {ts rest : List Token} {f : Formula} → ReadsGuard ts f rest → AreNamesBelow c ts → IsProper c f × AreNamesBelow c rest
  ReadsGuard-IsProper c (bare l) h = (leaf-IsProper c l h.0, h.1)
  ReadsGuard-IsProper c (braces r) h = let k = Reads-IsProper c r h.1 in (k.0, k.1.1)

leaf-nodes : (l : Leaf) → nodes (leaf_of l) ≤ 7
leaf-nodes leaf_tokens.True = omega arith
leaf-nodes leaf_tokens.False = omega arith
leaf-nodes leaf_tokens.Last = omega arith
leaf-nodes leaf_tokens.LastStep = omega arith
leaf-nodes leaf_tokens.End = omega arith
leaf-nodes (leaf_tokens.Name i) = omega arith

prefixed-nodes : (o : Prefix) (f : Formula) → nodes (prefixed o f) ≡ nodes f + 1
prefixed-nodes before.Not f = refl
prefixed-nodes _ f = refl

joined-nodes : (o : Infix) (f g : Formula) → nodes (joined o f g) ≡ nodes f + nodes g + 1
joined-nodes binary.Iff f g = refl
joined-nodes _ f g = refl

behind-nodes : (m : Modality) (r : Program) (f : Formula) → nodes (behind m r f) ≡ program_nodes r + nodes f + 1
behind-nodes modalities.Diamond r f = refl
behind-nodes modalities.BoxAll r f = refl

path_joined-nodes : (o : PathInfix) (q r : Program) → program_nodes (path_joined o q r) ≡ program_nodes q + program_nodes r + 1
path_joined-nodes path_binary.Choice q r = refl
path_joined-nodes path_binary.Seq q r = refl

-- each token makes at most eight nodes
mutual
  -- a formula has eight nodes a token, or fewer
  pub Reads-nodes : {n : ℕ} {ts rest : List Token} {f : Formula} → Reads n ts f rest → nodes f + 8 * length rest ≤ 8 * length ts
  Reads-nodes (leaf l) = let b = leaf-nodes l in omega arith
  Reads-nodes (prefix_of o {ts} {rest} {f} r) = let b = Reads-nodes r in let e = prefixed-nodes o f in omega arith
  Reads-nodes (modal_of m {ts} {us} {rest} {p} {f} l r) = let a = Leads-nodes l in let b = Reads-nodes r in let e = behind-nodes m p f in omega arith
  Reads-nodes (brackets r) = let b = Reads-nodes r in omega arith
  Reads-nodes (alone n r) = Reads-nodes r
  Reads-nodes (infix_of o {ts} {us} {rest} {f} {g} r s) = let a = Reads-nodes r in let b = Reads-nodes s in let e = joined-nodes o f g in omega arith

  -- a path has eight nodes a token, or fewer
  pub Leads-nodes : {n : ℕ} {ts rest : List Token} {p : Program} → Leads n ts p rest → program_nodes p + 8 * length rest ≤ 8 * length ts
  Leads-nodes (step_of l e) = let b = ReadsGuard-nodes l in omega arith
  Leads-nodes (test_of l) = let b = ReadsGuard-nodes l in omega arith
  Leads-nodes (path_brackets l) = let b = Leads-nodes l in omega arith
  Leads-nodes (star_of l) = let b = Leads-nodes l in omega arith
  Leads-nodes (path_alone n l) = Leads-nodes l
  Leads-nodes (path_infix_of o {ts} {us} {rest} {p} {q} l m) = let a = Leads-nodes l in let b = Leads-nodes m in let e = path_joined-nodes o p q in omega arith

  -- and at most seven, where a step is made of it
  pub ReadsGuard-nodes : {ts rest : List Token} {f : Formula} → ReadsGuard ts f rest → nodes f + 1 + 8 * length rest ≤ 8 * length ts
  ReadsGuard-nodes (bare l) = let b = leaf-nodes l in omega arith
  ReadsGuard-nodes (braces r) = let b = Reads-nodes r in omega arith
