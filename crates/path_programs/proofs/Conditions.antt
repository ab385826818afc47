-- What a propositional formula says of a letter.
use Rattle.std.proofs.Common.{◌≡◌, ℕ, ◌<◌, Bool, true, ◌∷◌, refl, ◌∙◌, ap}
use Rattle.std.specs.Prelude.{nat_lt, not}
use Rattle.std.proofs.lemmas.Bool.{lt-ltb}
use Rattle.bes_io.specs.Letter.{has}
use Rattle.forms.specs.Word.{Word}
use Rattle.forms.specs.Tree.{Formula, True, False, Atom, Not, And, Or, Implies, Iff, Next, WeakNext, Until, Release, Eventually, Always, Diamond, BoxAll}
use Rattle.forms.specs.Proper.{IsPropositional, IsProper}
use Rattle.forms.specs.Satisfaction.{sat}
use Rattle.diagrams.specs.Tree.{Assignment}
use Rattle.diagrams.specs.Eval.{letter_truth}
use Rattle.obligations.specs.Value.{joint}
use Rattle.obligations.proofs.Holds.{joint-letter}
use Rattle.path_programs.specs.Made.{truth_of}

-- it says one thing of two assignments that agree on the propositions
pub truth_of-same : (p : ℕ) (f : Formula) → IsProper p f → (a b : Assignment) → ((i : ℕ) → i < p → a i ≡ b i) → truth_of f a ≡ truth_of f b
truth_of-same p True h a b e = refl
truth_of-same p False h a b e = refl
truth_of-same p (Atom i) h a b e = e i h
truth_of-same p (Not f) h a b e = ap not (truth_of-same p f h a b e)
truth_of-same p (And f g) h a b e = rw (truth_of-same p f h.0 a b e, truth_of-same p g h.1 a b e) refl
truth_of-same p (Or f g) h a b e = rw (truth_of-same p f h.0 a b e, truth_of-same p g h.1 a b e) refl
truth_of-same p (Implies f g) h a b e = rw (truth_of-same p f h.0 a b e, truth_of-same p g h.1 a b e) refl
truth_of-same p (Iff f g) h a b e = rw (truth_of-same p f h.0 a b e, truth_of-same p g h.1 a b e) refl
truth_of-same p (Next f) h a b e = refl
truth_of-same p (WeakNext f) h a b e = refl
truth_of-same p (Until f g) h a b e = refl
truth_of-same p (Release f g) h a b e = refl
truth_of-same p (Eventually f) h a b e = refl
truth_of-same p (Always f) h a b e = refl
truth_of-same p (Diamond r f) h a b e = refl
truth_of-same p (BoxAll r f) h a b e = refl

-- what it says of the propositions of a letter holds at the front of each word that begins with the letter
pub truth_of-sat : (p : ℕ) (f : Formula) → IsPropositional f → IsProper p f → (a : Assignment) (letter : ℕ) → ((i : ℕ) → i < p → a i ≡ has p i letter) → (word : Word)
    → truth_of f a ≡ sat p f (letter ∷ word)
truth_of-sat p True q h a letter e word = refl
truth_of-sat p False q h a letter e word = refl
truth_of-sat p (Atom i) q h a letter e word = e i h
truth_of-sat p (Not f) q h a letter e word = ap not (truth_of-sat p f q h a letter e word)
truth_of-sat p (And f g) q h a letter e word = rw (truth_of-sat p f q.0 h.0 a letter e word, truth_of-sat p g q.1 h.1 a letter e word) refl
truth_of-sat p (Or f g) q h a letter e word = rw (truth_of-sat p f q.0 h.0 a letter e word, truth_of-sat p g q.1 h.1 a letter e word) refl
truth_of-sat p (Implies f g) q h a letter e word = rw (truth_of-sat p f q.0 h.0 a letter e word, truth_of-sat p g q.1 h.1 a letter e word) refl
truth_of-sat p (Iff f g) q h a letter e word = rw (truth_of-sat p f q.0 h.0 a letter e word, truth_of-sat p g q.1 h.1 a letter e word) refl
truth_of-sat p (Next f) q h a letter e word = absurd q
truth_of-sat p (WeakNext f) q h a letter e word = absurd q
truth_of-sat p (Until f g) q h a letter e word = absurd q
truth_of-sat p (Release f g) q h a letter e word = absurd q
truth_of-sat p (Eventually f) q h a letter e word = absurd q
truth_of-sat p (Always f) q h a letter e word = absurd q
truth_of-sat p (Diamond r f) q h a letter e word = absurd q
truth_of-sat p (BoxAll r f) q h a letter e word = absurd q

-- the same beside obligations
pub truth_of-joint : (p : ℕ) (f : Formula) → IsPropositional f → IsProper p f → (letter : ℕ) (values : ℕ → Bool) (word : Word) → truth_of f (joint p letter values) ≡ sat p f (letter ∷ word)
truth_of-joint p f q h letter values word = truth_of-sat p f q h (joint p letter values) letter (λ i l. joint-letter p letter values i l ∙ front i l) word
  where
    front : (i : ℕ) → i < p → letter_truth p letter i ≡ has p i letter
    front i l = let t : nat_lt i p ≡ true = lt-ltb i p l in rw t refl
