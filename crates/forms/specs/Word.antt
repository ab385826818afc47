-- Words, their suffixes, and claims about words.
use Rattle.std.specs.Prelude.{ℕ, ◌^◌, ◌<◌, List, [], ◌∷◌, Bool, true, false, ◌&&◌, ◌||◌, ◌==◌, All}

-- a word is a list of letters, perhaps empty; a letter is a number
abbrev pub Word : Type 0
Word = List ℕ

-- each letter of the word is below 2 ^ p, so it says of each of p propositions whether it is true
abbrev pub IsOver : ℕ → Word → Type 0
IsOver p w = All (λ a. a < 2 ^ p) w

-- the first word is a suffix of the second: the word itself, or a suffix of what follows its first letter
pub data IsSuffix : Word → Word → Type 0 where
  whole : {u : Word} → IsSuffix u u
  later : {v w : Word} {a : ℕ} → IsSuffix v w → IsSuffix v (a ∷ w)

-- what is true or false of each word
abbrev pub Claim : Type 0
Claim = Word → Bool

-- the word has no letter
abbrev pub is_empty : Claim
is_empty [] = true
is_empty (a ∷ w) = false

-- the two words are one
abbrev pub same : Word → Word → Bool
same [] [] = true
same [] (b ∷ v) = false
same (a ∷ u) [] = false
same (a ∷ u) (b ∷ v) = a == b && same u v

-- some suffix of the word has f; the word itself and the empty word are suffixes
abbrev pub some_suffix : Claim → Claim
some_suffix f [] = f []
some_suffix f (a ∷ w) = f (a ∷ w) || some_suffix f w

-- every suffix of the word has f
abbrev pub every_suffix : Claim → Claim
every_suffix f [] = f []
every_suffix f (a ∷ w) = f (a ∷ w) && every_suffix f w
