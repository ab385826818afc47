-- The table of satisfaction: what each form says of the empty word, and of a letter a before a word w.
-- The connectives go by their operands on every word.
use Rattle.std.specs.Prelude.{◌≡◌, ℕ, [], ◌∷◌, true, false, ◌&&◌, ◌||◌, not}
use Rattle.bes_io.specs.Letter.{has}
use Rattle.forms.specs.Word.{Word, is_empty}
use Rattle.forms.specs.Operators.{agree}
use Rattle.forms.specs.Tree.{Formula, True, False, Atom, Not, And, Or, Implies, Iff, Next, WeakNext, Until, Release, Eventually, Always}
use Rattle.forms.specs.Satisfaction.{sat, meets}

-- true holds on every word
abbrev pub TrueHolds : Type 0
TrueHolds = (p : ℕ) (w : Word) → sat p True w ≡ true

-- false holds on no word
abbrev pub FalseHolds : Type 0
FalseHolds = (p : ℕ) (w : Word) → sat p False w ≡ false

-- an atom is false on the empty word, and else what the first letter says
abbrev pub AtomHolds : Type 0
AtomHolds = (p i : ℕ) → (sat p (Atom i) [] ≡ false) × ((a : ℕ) (w : Word) → sat p (Atom i) (a ∷ w) ≡ has p i a)

-- a negation holds where its operand doesn't
abbrev pub NotHolds : Type 0
NotHolds = (p : ℕ) (f : Formula) (w : Word) → sat p (Not f) w ≡ not (sat p f w)

-- a conjunction holds where both operands do
abbrev pub AndHolds : Type 0
AndHolds = (p : ℕ) (f g : Formula) (w : Word) → sat p (And f g) w ≡ (sat p f w && sat p g w)

-- a disjunction holds where one of the operands does
abbrev pub OrHolds : Type 0
OrHolds = (p : ℕ) (f g : Formula) (w : Word) → sat p (Or f g) w ≡ (sat p f w || sat p g w)

-- an implication holds where the first operand doesn't, or the second does
abbrev pub ImpliesHolds : Type 0
ImpliesHolds = (p : ℕ) (f g : Formula) (w : Word) → sat p (Implies f g) w ≡ (not (sat p f w) || sat p g w)

-- an equivalence holds where both operands do or neither
abbrev pub IffHolds : Type 0
IffHolds = (p : ℕ) (f g : Formula) (w : Word) → sat p (Iff f g) w ≡ agree (sat p f w) (sat p g w)

-- next: there is a next position, and f holds there
abbrev pub NextHolds : Type 0
NextHolds = (p : ℕ) (f : Formula) → (sat p (Next f) [] ≡ false)
    × ((a : ℕ) (w : Word) → sat p (Next f) (a ∷ w) ≡ (not (is_empty w) && sat p f w))

-- weak next: f holds at the next position, if there is one
abbrev pub WeakNextHolds : Type 0
WeakNextHolds = (p : ℕ) (f : Formula) → (sat p (WeakNext f) [] ≡ true)
    × ((a : ℕ) (w : Word) → sat p (WeakNext f) (a ∷ w) ≡ (is_empty w || sat p f w))

-- until: g holds now, or f does and the until holds of the rest
abbrev pub UntilHolds : Type 0
UntilHolds = (p : ℕ) (f g : Formula) → (sat p (Until f g) [] ≡ false)
    × ((a : ℕ) (w : Word) → sat p (Until f g) (a ∷ w) ≡ (sat p g (a ∷ w) || sat p f (a ∷ w) && sat p (Until f g) w))

-- release: g holds now, and f does or the release holds of the rest
abbrev pub ReleaseHolds : Type 0
ReleaseHolds = (p : ℕ) (f g : Formula) → (sat p (Release f g) [] ≡ true)
    × ((a : ℕ) (w : Word) → sat p (Release f g) (a ∷ w) ≡ (sat p g (a ∷ w) && (sat p f (a ∷ w) || sat p (Release f g) w)))

-- eventually: f holds now, or eventually of the rest
abbrev pub EventuallyHolds : Type 0
EventuallyHolds = (p : ℕ) (f : Formula) → (sat p (Eventually f) [] ≡ false)
    × ((a : ℕ) (w : Word) → sat p (Eventually f) (a ∷ w) ≡ (sat p f (a ∷ w) || sat p (Eventually f) w))

-- always: f holds now, and always of the rest
abbrev pub AlwaysHolds : Type 0
AlwaysHolds = (p : ℕ) (f : Formula) → (sat p (Always f) [] ≡ true)
    × ((a : ℕ) (w : Word) → sat p (Always f) (a ∷ w) ≡ (sat p f (a ∷ w) && sat p (Always f) w))

-- the empty word meets no formula, and every other word those that hold at its front
abbrev pub MeetsHolds : Type 0
MeetsHolds = (p : ℕ) (f : Formula) → (meets p f [] ≡ false)
    × ((a : ℕ) (w : Word) → meets p f (a ∷ w) ≡ sat p f (a ∷ w))
