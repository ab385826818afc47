-- The operators on claims: what they say of a word, whose first letter is at the position that is spoken of.
use Rattle.std.specs.Prelude.{ℕ, [], ◌∷◌, Bool, true, false, ◌&&◌, ◌||◌, not}
use Rattle.bes_io.specs.Letter.{has}
use Rattle.forms.specs.Word.{Claim, is_empty}

-- both or neither
abbrev pub agree : Bool → Bool → Bool
agree true b = b
agree false b = not b

-- there is a letter, and it has proposition i of p
abbrev pub atom : ℕ → ℕ → Claim
atom p i [] = false
atom p i (a ∷ w) = has p i a

-- there is a next position, and f holds there
abbrev pub next : Claim → Claim
next f [] = false
next f (a ∷ w) = not (is_empty w) && f w

-- f holds at the next position, if there is one
abbrev pub weak_next : Claim → Claim
weak_next f [] = true
weak_next f (a ∷ w) = is_empty w || f w

-- g holds at some position, and f at each one before it
abbrev pub until : Claim → Claim → Claim
until f g [] = false
until f g (a ∷ w) = g (a ∷ w) || f (a ∷ w) && until f g w

-- g holds at each position up to and with the first one at which f holds, and at all if there is none
abbrev pub release : Claim → Claim → Claim
release f g [] = true
release f g (a ∷ w) = g (a ∷ w) && (f (a ∷ w) || release f g w)

-- f holds at some position
abbrev pub eventually : Claim → Claim
eventually f [] = false
eventually f (a ∷ w) = f (a ∷ w) || eventually f w

-- f holds at each position
abbrev pub always : Claim → Claim
always f [] = true
always f (a ∷ w) = f (a ∷ w) && always f w
