-- Relations: which words a path leads to from a word.
use Rattle.std.specs.Prelude.{ℕ, zero, suc, [], ◌∷◌, Bool, false, ◌&&◌, ◌||◌, nat_lt, length}
use Rattle.forms.specs.Word.{Word, Claim, same, some_suffix}

-- whether a path leads from one word to another
abbrev pub WordRelation : Type 0
WordRelation = Word → Word → Bool

-- the relation leads from the word to some suffix of it that has k
unfoldable pub reaches : WordRelation → Claim → Claim
reaches q k u = some_suffix (λ v. q u v && k v) u

-- the same, the suffix being shorter than the word
unfoldable pub reaches_further : WordRelation → Claim → Claim
reaches_further q k u = reaches q (λ m. nat_lt (length m) (length u) && k m) u

-- one letter is read, and f holds before it
abbrev pub one_step : Claim → WordRelation
one_step f [] v = false
one_step f (a ∷ w) v = same w v && f (a ∷ w)

-- from u to v in at most n turns of q, each of which leads to a shorter word
abbrev pub turns : ℕ → WordRelation → WordRelation
turns zero q u v = same u v
turns (suc n) q u v =
    same u v || some_suffix (λ m. nat_lt (length m) (length u) && (q u m && turns n q m v)) u

-- any number of turns: each takes a letter, so there are at most as many as the word has letters
abbrev pub star : WordRelation → WordRelation
star q u = turns (length u) q u
