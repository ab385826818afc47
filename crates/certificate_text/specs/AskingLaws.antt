-- Laws of questions over assignments, of whole lists, and of what targets are asked for.
use Rattle.std.specs.Prelude.{◌≡◌, ◌<◌, ◌^◌, ◌+◌, ◌*◌, ◌++◌, ◌↔◌, ℕ, List, Bool, true, not, length, Option, IsSome, Some, take, drop}
use Rattle.certificate_rules.specs.Cubes.{Entry, agrees, field_at, IsWhole}
use Rattle.certificate_text.specs.Asked.{Level, Each, Any, asked, levels, levels_at, cube_levels}
use Rattle.certificate_text.specs.Exact.{AreCharacters, IsLine, IsExact}
use Rattle.certificate_text.specs.Lines.{rows, meets}
use Rattle.certificate_text.specs.Marks.{mark_of, IsMetBy}
use Rattle.certificate_text.specs.declared.marks.CertMark.{CertMark}
use Rattle.certificate_text.specs.declared.marks.Test.{Test}

-- of n propositions, each assignment has p
abbrev pub EachIsAsked : Type 0
EachIsAsked = (n : ℕ) (p : ℕ → Bool) → (asked (levels Each n) p ≡ true) ↔ ((a : ℕ) → a < 2 ^ n → p a ≡ true)

-- some assignment has p
abbrev pub SomeIsAsked : Type 0
SomeIsAsked = (n : ℕ) (p : ℕ → Bool) → (asked (levels Any n) p ≡ true) ↔ ((a : ℕ) × (a < 2 ^ n) × (p a ≡ true))

-- some front of m propositions has p with each rest of n
abbrev pub SomeEachIsAsked : Type 0
SomeEachIsAsked = (m n : ℕ) (p : ℕ → Bool) → (asked (levels Any m ++ levels Each n) p ≡ true) ↔ ((y : ℕ) × (y < 2 ^ m) × ((x : ℕ) → x < 2 ^ n → p (y * 2 ^ n + x) ≡ true))

-- each front has p with some rest
abbrev pub EachSomeIsAsked : Type 0
EachSomeIsAsked = (m n : ℕ) (p : ℕ → Bool) → (asked (levels Each m ++ levels Any n) p ≡ true) ↔ ((y : ℕ) → y < 2 ^ m → (x : ℕ) × (x < 2 ^ n) × (p (y * 2 ^ n + x) ≡ true))

-- one front has p with each rest
abbrev pub OneEachIsAsked : Type 0
OneEachIsAsked = (m n y : ℕ) (p : ℕ → Bool) → y < 2 ^ m → (asked (levels_at m y ++ levels Each n) p ≡ true) ↔ ((x : ℕ) → x < 2 ^ n → p (y * 2 ^ n + x) ≡ true)

-- one front has p with some rest
abbrev pub OneSomeIsAsked : Type 0
OneSomeIsAsked = (m n y : ℕ) (p : ℕ → Bool) → y < 2 ^ m → (asked (levels_at m y ++ levels Any n) p ≡ true) ↔ ((x : ℕ) × (x < 2 ^ n) × (p (y * 2 ^ n + x) ≡ true))

-- each front for which a cube stands is as is asked
abbrev pub CubeIsAsked : Type 0
CubeIsAsked = (cube : List ℕ) (ls : List Level) (p : ℕ → Bool) → AreCharacters cube
    → (asked (cube_levels cube ++ ls) p ≡ true) ↔ ((x : ℕ) → x < 2 ^ length cube → agrees cube x ≡ true → asked ls (λ b. p (x * 2 ^ length ls + b)) ≡ true)

-- some assignment fails p exactly where not each has it
abbrev pub SomeFailsIsNotEach : Type 0
SomeFailsIsNotEach = (n : ℕ) (p : ℕ → Bool) → ((a : ℕ) × (a < 2 ^ n) × (not (p a) ≡ true)) ↔ (¬ ((a : ℕ) → a < 2 ^ n → p a ≡ true))

-- a whole list gives each assignment a field
abbrev pub WholeGivesEach : Type 0
WholeGivesEach = (k : ℕ) (es : List (Entry ℕ)) (a : ℕ) → IsWhole k es → a < 2 ^ k → IsSome (field_at es a)

-- each line of a whole list stands for some assignment, and gives each for which it stands its field
abbrev pub WholeIsExact : Type 0
WholeIsExact = (k : ℕ) (es : List (Entry ℕ)) (e : Entry ℕ) → IsWhole k es → IsLine e es → IsExact k es e

-- the line with the number that is an assignment's field stands for it
abbrev pub FieldIsLine : Type 0
FieldIsLine = (w : ℕ) (cubes : List ℕ) (n a i : ℕ) → field_at (rows w 0 cubes 0 n) a ≡ Some i → (i < n) × (agrees (drop 0 (take w (drop (i * w) cubes))) a ≡ true)

-- what the program asks of a location is what the rules say of its mark and its value
abbrev pub TestsAreOfRules : Type 0
TestsAreOfRules = (test : Test) (m : CertMark) (v : Option ℕ) → (meets test m v ≡ true) ↔ IsMetBy test (mark_of m) v
