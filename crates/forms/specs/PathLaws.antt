-- What the path relation says of each path program, and what formulas say of the suffixes that a path leads to.
use Rattle.std.specs.Prelude.{◌≡◌, ◌⊎◌, ◌↔◌, ℕ, ◌<◌, ◌∷◌, length, IsTrue}
use Rattle.forms.specs.Word.{Word, IsSuffix}
use Rattle.forms.specs.Paths.{WordRelation}
use Rattle.forms.specs.Tree.{Formula, Program, Diamond, BoxAll, Step, Test, Choice, Seq, Star}
use Rattle.forms.specs.Satisfaction.{sat, goes}

-- a diamond holds where the path leads to some suffix on which f holds
abbrev pub DiamondHolds : Type 0
DiamondHolds = (p : ℕ) (r : Program) (f : Formula) (u : Word)
    → IsTrue (sat p (Diamond r f) u) ↔ ((v : Word) × IsSuffix v u × IsTrue (goes p r u v) × IsTrue (sat p f v))

-- a box holds where f holds on every suffix that the path leads to
abbrev pub BoxHolds : Type 0
BoxHolds = (p : ℕ) (r : Program) (f : Formula) (u : Word)
    → IsTrue (sat p (BoxAll r f) u) ↔ ((v : Word) → IsSuffix v u → IsTrue (goes p r u v) → IsTrue (sat p f v))

-- a step reads one letter, where its formula holds before it
abbrev pub StepGoes : Type 0
StepGoes = (p : ℕ) (g : Formula) (u v : Word)
    → IsTrue (goes p (Step g) u v) ↔ (((a : ℕ) × (u ≡ a ∷ v)) × IsTrue (sat p g u))

-- a test stays where it is, where its formula holds
abbrev pub TestGoes : Type 0
TestGoes = (p : ℕ) (g : Formula) (u v : Word)
    → IsTrue (goes p (Test g) u v) ↔ ((v ≡ u) × IsTrue (sat p g u))

-- a choice goes as one of its two paths does
abbrev pub ChoiceGoes : Type 0
ChoiceGoes = (p : ℕ) (q r : Program) (u v : Word)
    → IsTrue (goes p (Choice q r) u v) ↔ (IsTrue (goes p q u v) ⊎ IsTrue (goes p r u v))

-- a sequence goes by some suffix m, to which the first path goes and from which the second does
abbrev pub SeqGoes : Type 0
SeqGoes = (p : ℕ) (q r : Program) (u v : Word)
    → IsTrue (goes p (Seq q r) u v) ↔ ((m : Word) × IsSuffix m u × IsTrue (goes p q u m) × IsTrue (goes p r m v))

-- a star stays where it is, or one turn leads to a shorter word from which the star goes on
abbrev pub StarGoes : Type 0
StarGoes = (p : ℕ) (q : Program) (u v : Word)
    → IsTrue (goes p (Star q) u v)
    ↔ ((v ≡ u) ⊎ ((m : Word) × (length m < length u) × IsTrue (goes p q u m) × IsTrue (goes p (Star q) m v)))

-- a path leads from a word to its suffixes alone
abbrev pub GoesToSuffixes : Type 0
GoesToSuffixes = (p : ℕ) (r : Program) (u v : Word) → IsTrue (goes p r u v) → IsSuffix v u

-- each word is related to itself
abbrev pub IsReflexive : WordRelation → Type 0
IsReflexive q = (u : Word) → IsTrue (q u u)

-- two relations in a row are one
abbrev pub IsTransitive : WordRelation → Type 0
IsTransitive q = (u m v : Word) → IsTrue (q u m) → IsTrue (q m v) → IsTrue (q u v)

-- what the first relation relates the second does
abbrev pub IsIncludedIn : WordRelation → WordRelation → Type 0
IsIncludedIn q r = (u v : Word) → IsTrue (q u v) → IsTrue (r u v)

-- the second relation is the reflexive and transitive closure of the first
pub record IsClosureOf (q r : WordRelation) : Type 0 where
  pub reflexive : IsReflexive r
  pub transitive : IsTransitive r
  pub within : IsIncludedIn q r
  pub least : (s : WordRelation) → IsReflexive s → IsTransitive s → IsIncludedIn q s → IsIncludedIn r s

-- a star is the reflexive and transitive closure of its path, turns that take no letter included
abbrev pub StarIsClosure : Type 0
StarIsClosure = (p : ℕ) (q : Program) → IsClosureOf (goes p q) (goes p (Star q))
