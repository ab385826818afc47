-- What a proper formula and the rows of an automaton say of a list of numbers is what they say of a word.
use Rattle.std.proofs.Common.{◌≡◌, ℕ, zero, suc, ◌<◌, [], ◌∷◌, length, refl, sym, ◌∙◌, ap, ap₂, subst, arith, true, nat_lt}
use Rattle.std.specs.Prelude.{◌==◌, ◌&&◌, ◌||◌, not}
use Rattle.std.specs.Cmp.{both_ways}
use Rattle.std.proofs.lemmas.Bool.{lt-ltb}
use Rattle.bes_io.specs.Letter.{has}
use Rattle.forms.specs.Word.{Word, Claim, IsSuffix, whole, later, is_empty, same, some_suffix, every_suffix}
use Rattle.forms.specs.Operators.{agree, next, weak_next, until, release, eventually, always}
use Rattle.forms.specs.Paths.{WordRelation, reaches, one_step, turns, star}
use Rattle.forms.specs.Tree.{Formula, Program, True, False, Atom, Not, And, Or, Implies, Iff, Next, WeakNext, Until, Release, Eventually, Always, Diamond, BoxAll, Step, Test, Choice, Seq, Star}
use Rattle.forms.specs.Proper.{IsProper, IsProperProgram}
use Rattle.forms.specs.Satisfaction.{sat, goes}
use Rattle.forms.proofs.Suffixes.{IsSuffix-trans, same-refl, same-true}
use Rattle.forms.proofs.Further.{IsSuffix-length}
use Rattle.diagrams.specs.Eval.{Diagrams, letter_truth}
use Rattle.automata.specs.Moves.{accepts}
use Rattle.automata.specs.Table.{Table, mark_of, moves_of, IsMeant}
use Rattle.automata.proofs.Letters.{spelt-truth}
use Rattle.automata.proofs.RenumberLemmas.{letter_of, word_of, over-word_of, location_after-word_of}

word_of-length : (p : ℕ) (w : Word) → length (word_of p w) ≡ length w
word_of-length p [] = refl
word_of-length p (a ∷ w) = ap suc (word_of-length p w)

word_of-empty : (p : ℕ) (w : Word) → is_empty w ≡ is_empty (word_of p w)
word_of-empty p [] = refl
word_of-empty p (a ∷ w) = refl

letter_of-has : (p i a : ℕ) → i < p → has p i a ≡ has p i (letter_of p a)
letter_of-has p i a h =
    let e = spelt-truth (letter_truth p a) p i h in
    sym (rw (lt-ltb i p h) at e)

-- suffixes of a word that are equally long are one
IsSuffix-same : {u v w : Word} → IsSuffix u w → IsSuffix v w → length u ≡ length v → u ≡ v
IsSuffix-same whole whole e = refl
IsSuffix-same whole (later d) e = absurd (omega (arith, IsSuffix-length d, e))
IsSuffix-same (later d) whole e = absurd (omega (arith, IsSuffix-length d, e))
IsSuffix-same (later c) (later d) e = IsSuffix-same c d e

same-word_of : (p : ℕ) (w u v : Word) → IsSuffix u w → IsSuffix v w → same u v ≡ same (word_of p u) (word_of p v)
same-word_of p w u v c d = both_ways _ _
    (λ h. subst (λ z. same (word_of p u) (word_of p z) ≡ true) (same-true u v h) (same-refl (word_of p u)))
    (λ h. let e : word_of p u ≡ word_of p v = same-true _ _ h in
    let one : u ≡ v = IsSuffix-same c d (sym (word_of-length p u) ∙ ap length e ∙ word_of-length p v) in
    subst (λ z. same u z ≡ true) one (same-refl u))

some-word_of : (p : ℕ) (f g : Claim) (u : Word) → ((v : Word) → IsSuffix v u → f v ≡ g (word_of p v)) → some_suffix f u ≡ some_suffix g (word_of p u)
some-word_of p f g [] x = x [] whole
some-word_of p f g (a ∷ w) x = ap₂ ◌||◌ (x (a ∷ w) whole) (some-word_of p f g w (λ v d. x v (later d)))

every-word_of : (p : ℕ) (f g : Claim) (u : Word) → ((v : Word) → IsSuffix v u → f v ≡ g (word_of p v)) → every_suffix f u ≡ every_suffix g (word_of p u)
every-word_of p f g [] x = x [] whole
every-word_of p f g (a ∷ w) x = ap₂ ◌&&◌ (x (a ∷ w) whole) (every-word_of p f g w (λ v d. x v (later d)))

-- the claim says of each list of numbers what it says of its word
abbrev ReadsLetters : ℕ → Claim → Type 0
ReadsLetters p f = (w : Word) → f w ≡ f (word_of p w)

next-word_of : (p : ℕ) (f : Claim) → ReadsLetters p f → ReadsLetters p (next f)
next-word_of p f x [] = refl
next-word_of p f x (a ∷ w) = ap₂ (λ b c. not b && c) (word_of-empty p w) (x w)

weak_next-word_of : (p : ℕ) (f : Claim) → ReadsLetters p f → ReadsLetters p (weak_next f)
weak_next-word_of p f x [] = refl
weak_next-word_of p f x (a ∷ w) = ap₂ ◌||◌ (word_of-empty p w) (x w)

until-word_of : (p : ℕ) (f g : Claim) → ReadsLetters p f → ReadsLetters p g → ReadsLetters p (until f g)
until-word_of p f g x y [] = refl
until-word_of p f g x y (a ∷ w) = ap₂ ◌||◌ (y (a ∷ w)) (ap₂ ◌&&◌ (x (a ∷ w)) (until-word_of p f g x y w))

release-word_of : (p : ℕ) (f g : Claim) → ReadsLetters p f → ReadsLetters p g → ReadsLetters p (release f g)
release-word_of p f g x y [] = refl
release-word_of p f g x y (a ∷ w) = ap₂ ◌&&◌ (y (a ∷ w)) (ap₂ ◌||◌ (x (a ∷ w)) (release-word_of p f g x y w))

eventually-word_of : (p : ℕ) (f : Claim) → ReadsLetters p f → ReadsLetters p (eventually f)
eventually-word_of p f x [] = refl
eventually-word_of p f x (a ∷ w) = ap₂ ◌||◌ (x (a ∷ w)) (eventually-word_of p f x w)

always-word_of : (p : ℕ) (f : Claim) → ReadsLetters p f → ReadsLetters p (always f)
always-word_of p f x [] = refl
always-word_of p f x (a ∷ w) = ap₂ ◌&&◌ (x (a ∷ w)) (always-word_of p f x w)

-- the link leads between suffixes of the list of numbers as it does between those of its word
abbrev RelatesLetters : ℕ → Word → WordRelation → Type 0
RelatesLetters p w q = (u v : Word) → IsSuffix u w → IsSuffix v w → q u v ≡ q (word_of p u) (word_of p v)

reaches-word_of : (p : ℕ) (w : Word) (q : WordRelation) (f g : Claim) → RelatesLetters p w q → (u : Word) → IsSuffix u w → ((v : Word) → IsSuffix v w → f v ≡ g (word_of p v)) → reaches q f u ≡ reaches q g (word_of p u)
unfolding reaches
reaches-word_of p w q f g x u c y =
    some-word_of p (λ v. q u v && f v) (λ v. q (word_of p u) v && g v) u
    (λ v d. ap₂ ◌&&◌ (x u v c (IsSuffix-trans d c)) (y v (IsSuffix-trans d c)))

step-word_of : (p : ℕ) (w : Word) (f : Claim) → ReadsLetters p f → RelatesLetters p w (one_step f)
step-word_of p w f x [] v c d = refl
step-word_of p w f x (a ∷ u) v c d = ap₂ ◌&&◌ (same-word_of p w u v (IsSuffix-trans (later whole) c) d) (x (a ∷ u))

turns-word_of : (p : ℕ) (w : Word) (q : WordRelation) → RelatesLetters p w q → (n : ℕ) → RelatesLetters p w (turns n q)
turns-word_of p w q x zero u v c d = same-word_of p w u v c d
turns-word_of p w q x (suc n) u v c d =
    ap₂ ◌||◌ (same-word_of p w u v c d)
    (some-word_of p (λ m. nat_lt (length m) (length u) && (q u m && turns n q m v)) (λ m. nat_lt (length m) (length (word_of p u)) && (q (word_of p u) m && turns n q m (word_of p v))) u
    (λ m e. let at : IsSuffix m w = IsSuffix-trans e c in
    ap₂ ◌&&◌ (ap₂ nat_lt (sym (word_of-length p m)) (sym (word_of-length p u))) (ap₂ ◌&&◌ (x u m c at) (turns-word_of p w q x n m v at d))))

star-word_of : (p : ℕ) (w : Word) (q : WordRelation) → RelatesLetters p w q → RelatesLetters p w (star q)
star-word_of p w q x u v c d =
    turns-word_of p w q x (length u) u v c d ∙ ap (λ n. turns n q (word_of p u) (word_of p v)) (sym (word_of-length p u))

mutual
  -- a proper formula looks at its propositions alone
  pub sat-word_of : (p : ℕ) (f : Formula) → IsProper p f → ReadsLetters p (λ w. sat p f w)
  sat-word_of p True h w = refl
  sat-word_of p False h w = refl
  sat-word_of p (Atom i) h [] = refl
  sat-word_of p (Atom i) h (a ∷ w) = letter_of-has p i a h
  sat-word_of p (Not f) h w = ap not (sat-word_of p f h w)
  sat-word_of p (And f g) h w = ap₂ ◌&&◌ (sat-word_of p f h.0 w) (sat-word_of p g h.1 w)
  sat-word_of p (Or f g) h w = ap₂ ◌||◌ (sat-word_of p f h.0 w) (sat-word_of p g h.1 w)
  sat-word_of p (Implies f g) h w = ap₂ (λ b c. not b || c) (sat-word_of p f h.0 w) (sat-word_of p g h.1 w)
  sat-word_of p (Iff f g) h w = ap₂ agree (sat-word_of p f h.0 w) (sat-word_of p g h.1 w)
  sat-word_of p (Next f) h w = next-word_of p (λ v. sat p f v) (sat-word_of p f h) w
  sat-word_of p (WeakNext f) h w = weak_next-word_of p (λ v. sat p f v) (sat-word_of p f h) w
  sat-word_of p (Until f g) h w = until-word_of p (λ v. sat p f v) (λ v. sat p g v) (sat-word_of p f h.0) (sat-word_of p g h.1) w
  sat-word_of p (Release f g) h w = release-word_of p (λ v. sat p f v) (λ v. sat p g v) (sat-word_of p f h.0) (sat-word_of p g h.1) w
  sat-word_of p (Eventually f) h w = eventually-word_of p (λ v. sat p f v) (sat-word_of p f h) w
  sat-word_of p (Always f) h w = always-word_of p (λ v. sat p f v) (sat-word_of p f h) w
  sat-word_of p (Diamond r f) h w =
      reaches-word_of p w (λ m n. goes p r m n) (λ v. sat p f v) (λ v. sat p f v) (goes-word_of p r h.0 w) w whole (λ v d. sat-word_of p f h.1 v)
  sat-word_of p (BoxAll r f) h w =
      every-word_of p (λ v. not (goes p r w v) || sat p f v) (λ v. not (goes p r (word_of p w) v) || sat p f v) w
      (λ v d. ap₂ (λ b c. not b || c) (goes-word_of p r h.0 w w v whole d) (sat-word_of p f h.1 v))

  -- and so does a proper path program
  pub goes-word_of : (p : ℕ) (r : Program) → IsProperProgram p r → (w : Word) → RelatesLetters p w (λ u v. goes p r u v)
  goes-word_of p (Step f) h w u v c d = step-word_of p w (λ z. sat p f z) (sat-word_of p f h.1) u v c d
  goes-word_of p (Test f) h w u v c d = ap₂ ◌&&◌ (same-word_of p w u v c d) (sat-word_of p f h u)
  goes-word_of p (Choice q r) h w u v c d = ap₂ ◌||◌ (goes-word_of p q h.0 w u v c d) (goes-word_of p r h.1 w u v c d)
  goes-word_of p (Seq q r) h w u v c d =
      reaches-word_of p w (λ m n. goes p q m n) (λ m. goes p r m v) (λ m. goes p r m (word_of p v)) (goes-word_of p q h.0 w) u c (λ m e. goes-word_of p r h.1 w m v e d)
  goes-word_of p (Star q) h w u v c d = star-word_of p w (λ m n. goes p q m n) (goes-word_of p q h w) u v c d

-- an automaton of a proper formula accepts every list of numbers exactly where the formula holds at its front
pub IsMeant-everywhere : (s : Diagrams) (t : Table) (f : Formula) → IsProper s.props f → IsMeant s t f → (w : Word) → accepts (moves_of s t) w ≡ sat s.props f w
IsMeant-everywhere s t f proper m w =
    ap (λ at. mark_of t at == 1) (sym (location_after-word_of s t t.first w))
    ∙ m.same (word_of s.props w) (over-word_of s.props w)
    ∙ sym (sat-word_of s.props f proper w)
