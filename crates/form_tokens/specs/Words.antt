-- Words, and what the reserved ones mean.
use Rattle.std.specs.Prelude.{ℕ, suc, List, [], ◌∷◌, Bool, false, ◌&&◌, ◌||◌, ◌==◌, if◌then◌else◌, not, nat_le, length, codes}
use Rattle.std.specs.List.{list_all}
use Rattle.std.specs.Str.{bytes_eq}

-- a blank: a space or a tab
abbrev pub is_blank : ℕ → Bool
is_blank b = b == 32 || b == 9

-- an ASCII letter or `_`
abbrev pub begins_word : ℕ → Bool
begins_word b = nat_le 97 b && nat_le b 122 || nat_le 65 b && nat_le b 90 || b == 95

-- or an ASCII digit
abbrev pub goes_on : ℕ → Bool
goes_on b = begins_word b || nat_le 48 b && nat_le b 57

-- how many bytes at the front go on a word
abbrev pub word_length : List ℕ → ℕ
word_length [] = 0
word_length (b ∷ bs) = if goes_on b then suc (word_length bs) else 0

-- how long a word may be
abbrev pub longest_word : ℕ
longest_word = 64

-- the first byte begins a word
abbrev pub begins_with_word : List ℕ → Bool
begins_with_word [] = false
begins_with_word (b ∷ bs) = begins_word b

-- a word of at most 64 bytes
abbrev pub is_word : List ℕ → Bool
is_word w = begins_with_word w && list_all goes_on w && nat_le (length w) longest_word

-- the constant words
abbrev pub is_constant : List ℕ → Bool
is_constant w = bytes_eq w (codes "true") || bytes_eq w (codes "tt") || bytes_eq w (codes "false") || bytes_eq w (codes "ff") || bytes_eq w (codes "last") || bytes_eq w (codes "end")

-- the operators of LTLf that are words
abbrev pub is_operator : List ℕ → Bool
is_operator w = bytes_eq w (codes "X") || bytes_eq w (codes "N") || bytes_eq w (codes "WX") || bytes_eq w (codes "F") || bytes_eq w (codes "G") || bytes_eq w (codes "U") || bytes_eq w (codes "R")

-- the reserved words without a place in a formula of either dialect
abbrev pub is_unused : List ℕ → Bool
is_unused w = bytes_eq w (codes "W") || bytes_eq w (codes "M") || bytes_eq w (codes "Y") || bytes_eq w (codes "S") || bytes_eq w (codes "O") || bytes_eq w (codes "H")

-- the reserved words, which are those of both dialects
abbrev pub is_reserved : List ℕ → Bool
is_reserved w = is_constant w || is_operator w || is_unused w

-- a word of at most 64 bytes that is not reserved
abbrev pub is_name : List ℕ → Bool
is_name w = is_word w && not (is_reserved w)
