-- Shortlex order of words: by length, and words of one length from the front.
use Rattle.std.specs.Prelude.{◌≡◌, ◌⊎◌, ℕ, ◌<◌, [], ◌∷◌, ◌++◌, Bool, false, ◌&&◌, ◌||◌, ◌==◌, nat_lt, length, IsTrue}
use Rattle.forms.specs.Word.{Word}

-- of two words of one length, the first has the lesser letter where they first differ
abbrev pub has_lesser_letters : Word → Word → Bool
has_lesser_letters [] v = false
has_lesser_letters (a ∷ u) [] = false
has_lesser_letters (a ∷ u) (b ∷ v) = nat_lt a b || a == b && has_lesser_letters u v

-- u comes before v: it is shorter, or as long with the lesser letter where they first differ
unfoldable pub comes_before : Word → Word → Bool
comes_before u v = nat_lt (length u) (length v) || length u == length v && has_lesser_letters u v

-- of two words the shorter comes first
abbrev pub ShorterComesFirst : Type 0
ShorterComesFirst = (u v : Word) → length u < length v → IsTrue (comes_before u v)

-- of two words of one length that first differ in the letters a and b, the one with the lesser letter comes first
abbrev pub LesserLetterComesFirst : Type 0
LesserLetterComesFirst = (w u v : Word) (a b : ℕ) → a < b → length u ≡ length v
    → IsTrue (comes_before (w ++ a ∷ u) (w ++ b ∷ v))

-- no word comes before itself
abbrev pub NeverBeforeItself : Type 0
NeverBeforeItself = (u : Word) → comes_before u u ≡ false

-- what comes before a word comes before all that the word comes before
abbrev pub BeforeIsTransitive : Type 0
BeforeIsTransitive = (u v w : Word) → IsTrue (comes_before u v) → IsTrue (comes_before v w) → IsTrue (comes_before u w)

-- of two different words one comes first
abbrev pub OneComesFirst : Type 0
OneComesFirst = (u v : Word) → (u ≡ v) ⊎ (IsTrue (comes_before u v) ⊎ IsTrue (comes_before v u))
