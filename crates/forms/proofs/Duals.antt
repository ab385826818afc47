-- Operators over claims that are the same everywhere, or opposite.
use Rattle.std.proofs.Common.{◌≡◌, ℕ, zero, suc, [], ◌∷◌, length, refl, sym, ap, Bool, true, false, nat_lt}
use Rattle.std.specs.Prelude.{◌&&◌, ◌||◌, not}
use Rattle.std.proofs.Math.Bool.{not-not}
use Rattle.forms.specs.Word.{Word, Claim, same, some_suffix, every_suffix}
use Rattle.forms.specs.Operators.{agree, next, weak_next, until, release, eventually, always}
use Rattle.forms.specs.Paths.{WordRelation, reaches, turns}

-- both claims say the same of each word
abbrev pub AreSame : Claim → Claim → Type 0
AreSame f g = (w : Word) → f w ≡ g w

-- the first claim holds exactly where the second does not
abbrev pub AreOpposite : Claim → Claim → Type 0
AreOpposite f g = (w : Word) → f w ≡ not (g w)

-- the negation of an `and` is the `or` of the negations
pub not-and : (x y : Bool) → (not x || not y) ≡ not (x && y)
not-and true y = refl
not-and false y = refl

-- the negation of an `or` is the `and` of the negations
pub not-or : (x y : Bool) → (not x && not y) ≡ not (x || y)
not-or true y = refl
not-or false y = refl

-- an equivalence with its first side negated is the negated equivalence
pub not-agree : (x y : Bool) → agree (not x) y ≡ not (agree x y)
not-agree true y = refl
not-agree false y = sym (not-not y)

-- an implication fails where its premise holds and its conclusion does not
pub not-implies : (x y : Bool) → (x && not y) ≡ not (not x || y)
not-implies true y = refl
not-implies false y = refl

-- next is the same over claims that are the same everywhere
pub next-same : (f g : Claim) → AreSame f g → (w : Word) → next f w ≡ next g w
next-same f g e [] = refl
next-same f g e (a ∷ w) = rw (e w) refl

-- weak next is the same over claims that are the same everywhere
pub weak_next-same : (f g : Claim) → AreSame f g → (w : Word) → weak_next f w ≡ weak_next g w
weak_next-same f g e [] = refl
weak_next-same f g e (a ∷ w) = rw (e w) refl

-- until is the same over claims that are the same everywhere
pub until-same : (f g h k : Claim) → AreSame f h → AreSame g k → (w : Word) → until f g w ≡ until h k w
until-same f g h k d e [] = refl
until-same f g h k d e (a ∷ w) = rw (d (a ∷ w), e (a ∷ w), until-same f g h k d e w) refl

-- release is the same over claims that are the same everywhere
pub release-same : (f g h k : Claim) → AreSame f h → AreSame g k → (w : Word) → release f g w ≡ release h k w
release-same f g h k d e [] = refl
release-same f g h k d e (a ∷ w) = rw (d (a ∷ w), e (a ∷ w), release-same f g h k d e w) refl

-- eventually is the same over claims that are the same everywhere
pub eventually-same : (f g : Claim) → AreSame f g → (w : Word) → eventually f w ≡ eventually g w
eventually-same f g e [] = refl
eventually-same f g e (a ∷ w) = rw (e (a ∷ w), eventually-same f g e w) refl

-- always is the same over claims that are the same everywhere
pub always-same : (f g : Claim) → AreSame f g → (w : Word) → always f w ≡ always g w
always-same f g e [] = refl
always-same f g e (a ∷ w) = rw (e (a ∷ w), always-same f g e w) refl

-- weak next of a claim is the opposite of next of the opposite claim
pub weak_next-opposite : (f g : Claim) → AreOpposite f g → (w : Word) → weak_next f w ≡ not (next g w)
weak_next-opposite f g e [] = refl
weak_next-opposite f g e (a ∷ []) = refl
weak_next-opposite f g e (a ∷ (b ∷ w)) = e (b ∷ w)

-- next of a claim is the opposite of weak next of the opposite claim
pub next-opposite : (f g : Claim) → AreOpposite f g → (w : Word) → next f w ≡ not (weak_next g w)
next-opposite f g e [] = refl
next-opposite f g e (a ∷ []) = refl
next-opposite f g e (a ∷ (b ∷ w)) = e (b ∷ w)

-- release of two claims is the opposite of until of the opposite claims
pub release-opposite : (f g h k : Claim) → AreOpposite f h → AreOpposite g k → (w : Word) → release f g w ≡ not (until h k w)
release-opposite f g h k d e [] = refl
release-opposite f g h k d e (a ∷ w) =
    rw (d (a ∷ w), e (a ∷ w), release-opposite f g h k d e w, not-and (h (a ∷ w)) (until h k w))
    (not-or (k (a ∷ w)) (h (a ∷ w) && until h k w))

-- until of two claims is the opposite of release of the opposite claims
pub until-opposite : (f g h k : Claim) → AreOpposite f h → AreOpposite g k → (w : Word) → until f g w ≡ not (release h k w)
until-opposite f g h k d e [] = refl
until-opposite f g h k d e (a ∷ w) =
    rw (d (a ∷ w), e (a ∷ w), until-opposite f g h k d e w, not-or (h (a ∷ w)) (release h k w))
    (not-and (k (a ∷ w)) (h (a ∷ w) || release h k w))

-- always of a claim is the opposite of eventually of the opposite claim
pub always-opposite : (f g : Claim) → AreOpposite f g → (w : Word) → always f w ≡ not (eventually g w)
always-opposite f g e [] = refl
always-opposite f g e (a ∷ w) = rw (e (a ∷ w), always-opposite f g e w) (not-or (g (a ∷ w)) (eventually g w))

-- eventually of a claim is the opposite of always of the opposite claim
pub eventually-opposite : (f g : Claim) → AreOpposite f g → (w : Word) → eventually f w ≡ not (always g w)
eventually-opposite f g e [] = refl
eventually-opposite f g e (a ∷ w) = rw (e (a ∷ w), eventually-opposite f g e w) (not-and (g (a ∷ w)) (always g w))

-- whether some suffix has a claim is the same for claims that are the same everywhere
pub some_suffix-same : (f g : Claim) → AreSame f g → (w : Word) → some_suffix f w ≡ some_suffix g w
some_suffix-same f g e [] = e []
some_suffix-same f g e (a ∷ w) = rw (e (a ∷ w), some_suffix-same f g e w) refl

-- whether every suffix has a claim is the same for claims that are the same everywhere
pub every_suffix-same : (f g : Claim) → AreSame f g → (w : Word) → every_suffix f w ≡ every_suffix g w
every_suffix-same f g e [] = e []
every_suffix-same f g e (a ∷ w) = rw (e (a ∷ w), every_suffix-same f g e w) refl

-- every suffix has a claim exactly where no suffix has the opposite claim
pub every_suffix-opposite : (f g : Claim) → AreOpposite f g → (w : Word) → every_suffix f w ≡ not (some_suffix g w)
every_suffix-opposite f g e [] = e []
every_suffix-opposite f g e (a ∷ w) = rw (e (a ∷ w), every_suffix-opposite f g e w) (not-or (g (a ∷ w)) (some_suffix g w))

-- some suffix has a claim exactly where not every suffix has the opposite claim
pub some_suffix-opposite : (f g : Claim) → AreOpposite f g → (w : Word) → some_suffix f w ≡ not (every_suffix g w)
some_suffix-opposite f g e [] = e []
some_suffix-opposite f g e (a ∷ w) = rw (e (a ∷ w), some_suffix-opposite f g e w) (not-and (g (a ∷ w)) (every_suffix g w))

-- relations that lead to the same words, and claims that are the same there
pub reaches-same : (q r : WordRelation) (f g : Claim) → ((u v : Word) → q u v ≡ r u v) → AreSame f g → (u : Word) → reaches q f u ≡ reaches r g u
unfolding reaches
reaches-same q r f g d e u = some_suffix-same (λ v. q u v && f v) (λ v. r u v && g v) (λ v. rw (d u v, e v) refl) u

-- relations that lead to the same words lead to the same words in at most so many turns
pub turns-same : (n : ℕ) (q r : WordRelation) → ((u v : Word) → q u v ≡ r u v) → (u v : Word) → turns n q u v ≡ turns n r u v
turns-same zero q r e u v = refl
turns-same (suc n) q r e u v =
    ap (λ x. same u v || x)
    (some_suffix-same (λ m. nat_lt (length m) (length u) && (q u m && turns n q m v)) (λ m. nat_lt (length m) (length u) && (r u m && turns n r m v))
    (λ m. rw (e u m, turns-same n q r e m v) refl) u)

-- a box over relations and claims that are a diamond's, the claims opposite
pub box-opposite : (q r : WordRelation) (f g : Claim) → ((u v : Word) → q u v ≡ r u v) → AreOpposite f g → (u : Word)
    → every_suffix (λ v. not (q u v) || f v) u ≡ not (reaches r g u)
unfolding reaches
box-opposite q r f g d e u =
    every_suffix-opposite (λ v. not (q u v) || f v) (λ v. r u v && g v) (λ v. rw (d u v, e v) (not-and (r u v) (g v))) u

-- and the other way round
pub diamond-opposite : (q r : WordRelation) (f g : Claim) → ((u v : Word) → q u v ≡ r u v) → AreOpposite f g → (u : Word)
    → reaches q f u ≡ not (every_suffix (λ v. not (r u v) || g v) u)
unfolding reaches
diamond-opposite q r f g d e u =
    some_suffix-opposite (λ v. q u v && f v) (λ v. not (r u v) || g v) (λ v. rw (d u v, e v) (not-implies (r u v) (g v))) u
