-- The least automata of operators, over those of their operands in earlier stores.
use mathlib.Core.Path.{fun_ext}
use Rattle.std.proofs.Common.{◌≡◌, ℕ, ◌<◌, Bool, true, false, List, [], ◌∷◌, refl, sym, ◌∙◌, ap, ap₂, subst, not}
use Rattle.std.specs.Prelude.{◌==◌, All}
use Rattle.std.proofs.lemmas.List.Elements.{All-append, All-cons, All-nil}
use Rattle.forms.specs.Word.{Word, Claim, IsOver}
use Rattle.forms.specs.Paths.{reaches}
use Rattle.forms.specs.Tree.{Formula, Program, tree}
use Rattle.forms.specs.Satisfaction.{sat, goes}
use Rattle.forms.specs.Equivalence.{HasClassCount}
use Rattle.forms.proofs.Further.{not-reaches}
use Rattle.diagrams.specs.Eval.{Diagrams}
use Rattle.diagrams.specs.Live.{Keeps}
use Rattle.automata.specs.declared.meant.Meant.{Meant}
use Rattle.automata.specs.Moves.{Moves}
use Rattle.automata.specs.Table.{Table, size_of, moves_of, IsMeant}
use Rattle.automata.proofs.Lasts.{mark_after-lasts, meant_lasts}
use Rattle.minimise.specs.Minimal.{IsLeastFor, IsOnlyFor, Decides}
use Rattle.minimise.proofs.Counts.{size_is_class_count}
use Rattle.minimise.proofs.Only.{least_is_only}
use Rattle.translate.specs.declared.operation.Unary.{Unary}
use Rattle.translate.specs.declared.operation.Binary.{Binary}
use Rattle.translate.specs.declared.operation.Modal.{Modal}
use Rattle.translate.specs.declared.operation.Unary.TheVariants.{Not, Next, WeakNext, Eventually, Always}
use Rattle.translate.specs.declared.operation.Binary.TheVariants.{And, Or, Implies, Iff, Until, Release}
use Rattle.translate.specs.declared.operation.Modal.TheVariants.{Diamond, BoxAll}
use Rattle.translate.specs.Exact.{accepted, admitted, IsLeastOf, IsLeastMeant}
use Rattle.translate.specs.Counting.{whole_claim}
use Rattle.translate.specs.Operation.{constant_form, unary_form, unary_claim, binary_form, binary_claim, modal_form, modal_claim, box_claim}
use Rattle.translate.specs.PathTests.{IsTest, IsAppended}

-- the least automaton of a claim is that of an equal one
pub least_as : (s : Diagrams) (t : Table) (f g : Claim) → f ≡ g → IsLeastOf s t f → IsLeastOf s t g
least_as s t f g e h = subst (λ c. IsLeastOf s t c) e h

-- what the least automaton of a claim accepts
pub accepted-least : (s : Diagrams) (t : Table) (f : Claim) → IsLeastOf s t f → accepted s t ≡ f
accepted-least s t f h = fun_ext (λ w. h.same w)

-- and in a later store
pub accepted-lasts : (s n : Diagrams) (t : Table) (f : Claim) → Keeps s n → IsLeastOf s t f → accepted n t ≡ f
accepted-lasts s n t f k h = fun_ext (λ w. ap (λ x. x == 1) (mark_after-lasts s n k t h.fits t.first w h.least.closed.first) ∙ h.same w)

-- what a formula says of words
abbrev pub said : ℕ → Formula → Claim
said p f = λ w. sat p f w

-- a formula says the same in a later store
said-lasts : (s n : Diagrams) (f : Formula) → Keeps s n → said s.props f ≡ said n.props f
said-lasts s n f k = ap (λ p. said p f) (sym k.extends.props)

-- the least automaton in the terms of an earlier store
pub meant_now : (s n : Diagrams) (t : Table) (f : Formula) → Keeps s n → IsLeastOf n t (said s.props f) → IsLeastMeant n t f
meant_now s n t f k h = least_as n t (said s.props f) (said n.props f) (said-lasts s n f k) h

-- operators of claims are those of formulas
sat-unary : (op : Unary) (p : ℕ) (f : Formula) → unary_claim op (said p f) ≡ said p (unary_form op f)
sat-unary Not p f = refl
sat-unary Next p f = refl
sat-unary WeakNext p f = refl
sat-unary Eventually p f = refl
sat-unary Always p f = refl

sat-binary : (op : Binary) (p : ℕ) (f g : Formula) → binary_claim op (said p f) (said p g) ≡ said p (binary_form op f g)
sat-binary And p f g = refl
sat-binary Or p f g = refl
sat-binary Implies p f g = refl
sat-binary Iff p f g = refl
sat-binary Until p f g = refl
sat-binary Release p f g = refl

sat-modal : (op : Modal) (p : ℕ) (r : Program) (f : Formula) → modal_claim op (goes p r) (said p f) ≡ said p (modal_form op r f)
sat-modal Diamond p r f = refl
sat-modal BoxAll p r f = refl

-- what is made of the operand's least automaton is the formula's
pub unary_made : (op : Unary) (s n : Diagrams) (a t : Table) (f : Formula) → IsLeastMeant s a f → Keeps s n → IsLeastOf n t (unary_claim op (accepted s a)) → IsLeastMeant n t (unary_form op f)
unary_made op s n a t f x k h =
    meant_now s n t (unary_form op f) k
    (least_as n t _ _ (ap (unary_claim op) (accepted-least s a (said s.props f) x) ∙ sat-unary op s.props f) h)

-- the same of two operands, the first in an earlier store
pub binary_made : (op : Binary) (r s n : Diagrams) (a b t : Table) (f g : Formula) → IsLeastMeant r a f → Keeps r s → IsLeastMeant s b g → Keeps s n
    → IsLeastOf n t (binary_claim op (accepted s a) (accepted s b)) → IsLeastMeant n t (binary_form op f g)
binary_made op r s n a b t f g x j y k h =
    meant_now s n t (binary_form op f g) k
    (least_as n t _ _
    (ap₂ (binary_claim op) (accepted-lasts r s a (said r.props f) j x ∙ said-lasts r s f j) (accepted-least s b (said s.props g) y) ∙ sat-binary op s.props f g) h)

-- the same of a path and an operand
pub modal_made : (op : Modal) (s n : Diagrams) (a t : Table) (r : Program) (f : Formula) → IsLeastMeant s a f → Keeps s n
    → IsLeastOf n t (modal_claim op (goes s.props r) (accepted s a)) → IsLeastMeant n t (modal_form op r f)
modal_made op s n a t r f x k h =
    meant_now s n t (modal_form op r f) k
    (least_as n t _ _ (ap (modal_claim op (goes s.props r)) (accepted-least s a (said s.props f) x) ∙ sat-modal op s.props r f) h)

-- a box is the negation of a diamond over the negation
pub box_made : (p : ℕ) (r : Program) (s x y n : Diagrams) (a b d t : Table) → IsLeastOf x b (λ w. not (accepted s a w)) → x.props ≡ p
    → IsLeastOf y d (reaches (goes x.props r) (accepted x b)) → IsLeastOf n t (λ w. not (accepted y d w)) → IsLeastOf n t (box_claim (goes p r) (accepted s a))
box_made p r s x y n a b d t h e k l =
    least_as n t _ _
    (ap (λ c. λ w. not (c w)) (accepted-least y d _ k ∙ ap₂ (λ z c. reaches (goes z r) c) e (accepted-least x b _ h))
    ∙ fun_ext (λ u. not-reaches (goes p r) (accepted s a) u)) l

-- a least automaton decides its claim
decides_of : (s : Diagrams) (t : Table) (f : Claim) → IsLeastOf s t f → Decides s.props (moves_of s t) f
decides_of s t f h = record { marks = h.marks; accepts = λ w o. sym (h.same w) }

-- and is the claim's own, numbered
pub least_for : (s : Diagrams) (t : Table) (f : Claim) (p : ℕ) → s.props ≡ p → IsLeastOf s t f → IsLeastFor p (moves_of s t) f
least_for s t f p e h =
    subst (λ q. IsLeastFor q (moves_of s t) f) e (record { least = h.least; numbered = h.numbered; decides = decides_of s t f h })

-- and has as many locations as the claim has classes
pub class_count : (s : Diagrams) (t : Table) (f : Claim) (p : ℕ) → s.props ≡ p → IsLeastOf s t f → HasClassCount p f (size_of t)
class_count s t f p e h =
    let l = least_for s t f p e h in
    size_is_class_count p (moves_of s t) f l.least l.decides

-- a least automaton is that of what it accepts
pub least_own : (s : Diagrams) (t : Table) (f : Claim) → IsLeastOf s t f → IsLeastOf s t (accepted s t)
least_own s t f h = record { fits = h.fits; marks = h.marks; same = λ w. refl; least = h.least; numbered = h.numbered }

-- what the whole says is the formula's claim, as the empty word is admitted
whole_admitted : (p : ℕ) (f : Formula) (empty : Bool) → admitted empty (said p f) ≡ whole_claim p f empty
whole_admitted p f false = refl
whole_admitted p f true = refl

-- the automaton is the least one of the claim, the only one with its numbering, and as large as the claim has classes
pub record IsWholeOf (p : ℕ) (m : Moves) (f : Claim) : Type 0 where
  pub least : IsLeastFor p m f
  pub only : IsOnlyFor p m f
  pub size : HasClassCount p f m.size

-- the least automaton of what a formula's automaton accepts, as the empty word is admitted, is that of the whole
pub whole_now : (o s r : Diagrams) (a t : Table) (f : Formula) (empty : Bool) → Keeps o s → IsLeastMeant s a f → IsLeastOf r t (admitted empty (accepted s a))
    → IsLeastOf r t (whole_claim o.props f empty)
whole_now o s r a t f empty k x h =
    subst (λ p. IsLeastOf r t (whole_claim p f empty)) k.extends.props
    (least_as r t (admitted empty (accepted s a)) (whole_claim s.props f empty)
    (ap (admitted empty) (accepted-least s a (said s.props f) x) ∙ whole_admitted s.props f empty) h)

-- and the only one with its numbering, and as large as the whole has classes
pub whole_meant : (o s r : Diagrams) (a t : Table) (f : Formula) (empty : Bool) → Keeps o s → Keeps s r → IsLeastMeant s a f → IsLeastOf r t (admitted empty (accepted s a))
    → IsWholeOf o.props (moves_of r t) (whole_claim o.props f empty)
whole_meant o s r a t f empty k j x h =
    let p = o.props in
    let e : r.props ≡ p = j.extends.props ∙ k.extends.props in
    let whole = whole_now o s r a t f empty k x h in
    let least = least_for r t (whole_claim p f empty) p e whole in record {
      least = least;
      only = least_is_only p (moves_of r t) (whole_claim p f empty) least;
      size = class_count r t (whole_claim p f empty) p e whole;
    }

-- a least automaton is one of its formula
pub meant_of : (s : Diagrams) (t : Table) (f : Formula) → IsLeastMeant s t f → IsMeant s t f
meant_of s t f h = record { fits = h.fits; same = λ w o. h.same w }

-- a least automaton stands for a formula that holds on the same words
pub meant_by : (s n : Diagrams) → Keeps s n → (t : Table) (g : Claim) (f : Formula) → IsLeastOf n t g → ((w : Word) → IsOver s.props w → g w ≡ sat s.props f w) → IsMeant n t f
meant_by s n k t g f l e = record {
  fits = l.fits;
  same = λ w o. l.same w ∙ e w (subst (λ p. IsOver p w) k.extends.props o) ∙ ap (λ p. sat p f w) (sym k.extends.props);
}

-- tests stay tests
pub tests_last : (s n : Diagrams) → Keeps s n → (ts : List Meant) → All (IsTest s) ts → All (IsTest n) ts
tests_last s n k ts x i d h =
    let t = x i d h in
    record { first = t.first; meant = meant_lasts s n k _ _ t.first t.meant }

-- the automaton of all words or of none is that of true or of false
pub constant_made : (s : Diagrams) (t : Table) (b : Bool) → IsLeastOf s t (λ w. b) → IsLeastMeant s t (constant_form b)
constant_made s t true h = h
constant_made s t false h = h

-- a test more
pub tests_more : (s n : Diagrams) → Keeps s n → (f g : Formula) (a : Table) (old new : List Meant) → All (IsTest s) old → IsAppended g a old new → g ≡ f → IsLeastMeant n a f → All (IsTest n) new
tests_more s n k f g a old new h r e l =
    subst (λ ts. All (IsTest n) ts) (sym r.appended)
    (All-append (IsTest n) old (r.test ∷ []) (tests_last s n k old h) (All-cons (IsTest n) r.test [] test (All-nil (IsTest n))))
  where
    test : IsTest n r.test
    test = record {
      first = subst (λ t. t.first < size_of t) (sym r.automaton) l.least.closed.first;
      meant = subst (λ t. IsMeant n t (tree r.test.form)) (sym r.automaton) (subst (λ z. IsMeant n a z) (sym (r.form ∙ e)) (meant_of n a f l));
    }
