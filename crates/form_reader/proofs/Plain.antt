-- Whether the formula in a brace is propositional shows in the items since that brace.
use Rattle.std.proofs.Common.{◌≡◌, suc, ◌≤◌, ◌<◌, List, [], ◌∷◌, refl, sym, ap, ◌∙◌, Bool, true, false, ◌&&◌, leb, inl, inr, ◌⊎◌}
use Rattle.std.proofs.Math.Bool.{and-false}
use Rattle.std.proofs.lemmas.Bool.Decides.{leb_tells}
use Rattle.forms.specs.Tree.{Formula, Program}
use Rattle.form_tokens.specs.declared.token.Prefix.{Prefix}
use Rattle.form_tokens.specs.declared.token.Prefix.TheVariants as before
use Rattle.form_tokens.specs.declared.token.Infix.{Infix}
use Rattle.form_tokens.specs.declared.token.Infix.TheVariants as binary
use Rattle.form_tokens.specs.declared.token.Modality.{Modality}
use Rattle.form_tokens.specs.declared.token.Modality.TheVariants as modalities
use Rattle.form_tokens.specs.declared.token.Leaf.{Leaf}
use Rattle.form_tokens.specs.declared.token.Leaf.TheVariants as leaf_tokens
use Rattle.form_reader.specs.Grammar.{leaf_of, prefixed, behind, joined, level}
use Rattle.form_reader.specs.Machine.{Item, Bracket, Brace, Before, Behind, Between, State, Due, After, extended, is_propositional}
use Rattle.form_reader.specs.Admitted.{is_plain_prefix, is_plain_infix, is_plain_leaf}

-- the items since the innermost brace make a propositional formula of one
abbrev pub plain : List Item → Bool
plain [] = true
plain (Brace ∷ ws) = true
plain (Bracket ∷ ws) = plain ws
plain (Before p ∷ ws) = is_plain_prefix p && plain ws
plain (Between o f ∷ ws) = is_plain_infix o && (is_propositional f && plain ws)
plain _ = false

-- the same of a state
abbrev pub plain_of : State → Bool
plain_of (Due ws) = plain ws
plain_of (After ws f) = is_propositional f && plain ws
plain_of _ = false

-- with a prefix operator before it, a formula is propositional where it was and the operator is `!`
pub plain-prefixed : (p : Prefix) (f : Formula) (b : Bool) → (is_propositional (prefixed p f) && b) ≡ (is_propositional f && (is_plain_prefix p && b))
plain-prefixed before.Not f b = refl
plain-prefixed _ f b = sym (and-false (is_propositional f))

-- with a modality before it, no formula is propositional
pub plain-behind : (m : Modality) (p : Program) (f : Formula) (b : Bool) → (is_propositional (behind m p f) && b) ≡ (is_propositional f && false)
plain-behind modalities.Diamond p f b = sym (and-false (is_propositional f))
plain-behind modalities.BoxAll p f b = sym (and-false (is_propositional f))

rearranged : (x y b : Bool) → ((x && y) && b) ≡ (y && (x && b))
rearranged true true b = refl
rearranged true false b = refl
rearranged false true b = refl
rearranged false false b = refl

-- two joined formulas are propositional where both are and the operator is neither `U` nor `R`
pub plain-joined : (o : Infix) (g f : Formula) (b : Bool) → (is_propositional (joined o g f) && b) ≡ (is_propositional f && (is_plain_infix o && (is_propositional g && b)))
plain-joined binary.Until g f b = sym (and-false (is_propositional f))
plain-joined binary.Release g f b = sym (and-false (is_propositional f))
plain-joined _ g f b = rearranged (is_propositional g) (is_propositional f) b

-- the items after a binary operator, as the operator, its left formula and the items before tell
pub plain-extended : (o : Infix) (ws : List Item) (f : Formula) → plain (extended o ws f) ≡ (is_plain_infix o && (is_propositional f && plain ws))
plain-extended o (Before p ∷ ws) f = plain-extended o ws (prefixed p f) ∙ ap (λ b. is_plain_infix o && b) (plain-prefixed p f (plain ws))
plain-extended o (Behind m p ∷ ws) f = plain-extended o ws (behind m p f) ∙ ap (λ b. is_plain_infix o && b) (plain-behind m p f (plain ws))
plain-extended o (Between q g ∷ ws) f = go (plain-extended o ws (joined q g f) ∙ ap (λ b. is_plain_infix o && b) (plain-joined q g f (plain ws))) (leb_tells (suc (level o)) (level q))
  where
    go : plain (extended o ws (joined q g f)) ≡ (is_plain_infix o && (is_propositional f && plain (Between q g ∷ ws))) → ((leb (suc (level o)) (level q) ≡ true) × (suc (level o) ≤ level q)) ⊎ ((leb (suc (level o)) (level q) ≡ false) × (level q < suc (level o))) → plain (extended o (Between q g ∷ ws) f) ≡ (is_plain_infix o && (is_propositional f && plain (Between q g ∷ ws)))
    go further (inl e) = rw e.0 further
    go further (inr e) = rw e.0
plain-extended o _ f = refl

-- a leaf is propositional where it is plain
pub leaf-plain : (l : Leaf) → is_propositional (leaf_of l) ≡ is_plain_leaf l
leaf-plain leaf_tokens.True = refl
leaf-plain _ = refl
