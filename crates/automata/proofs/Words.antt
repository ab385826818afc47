-- Words that lead from location to location.
use Rattle.std.proofs.Common.{◌≡◌, ◌<◌, ◌^◌, ℕ, [], ◌∷◌, ◌++◌, refl, ◌∙◌, ap}
use Rattle.std.proofs.lemmas.List.Elements.{All-head, All-tail, All-cons, All-nil, All-append}
use Rattle.forms.specs.Word.{Word, IsOver}
use Rattle.automata.specs.Moves.{Moves, location_after, mark_after, IsClosed}
use Rattle.automata.specs.Subautomaton.{IsSubautomaton}

-- the empty word is over every number of propositions
pub over-nil : (p : ℕ) → IsOver p []
over-nil p = All-nil (λ b. b < 2 ^ p)

-- the first letter of a word is a letter
pub over-head : (p a : ℕ) (w : Word) → IsOver p (a ∷ w) → a < 2 ^ p
over-head p a w h = All-head (λ b. b < 2 ^ p) a w h

-- what follows the first letter is a word over the same propositions
pub over-tail : (p a : ℕ) (w : Word) → IsOver p (a ∷ w) → IsOver p w
over-tail p a w h = All-tail (λ b. b < 2 ^ p) a w h

-- a letter before a word
pub over-cons : (p a : ℕ) (w : Word) → a < 2 ^ p → IsOver p w → IsOver p (a ∷ w)
over-cons p a w h k = All-cons (λ b. b < 2 ^ p) a w h k

-- one word after another
pub over-append : (p : ℕ) (u w : Word) → IsOver p u → IsOver p w → IsOver p (u ++ w)
over-append p u w h k = All-append (λ b. b < 2 ^ p) u w h k

-- a letter after a word
pub over-push : (p : ℕ) (u : Word) (a : ℕ) → IsOver p u → a < 2 ^ p → IsOver p (u ++ a ∷ [])
over-push p u a h k = over-append p u (a ∷ []) h (over-cons p a [] k (over-nil p))

-- one word after another leads where the second leads from where the first leads
pub location_after-append : (m : Moves) (at : ℕ) (u w : Word) → location_after m at (u ++ w) ≡ location_after m (location_after m at u) w
location_after-append m at [] w = refl
location_after-append m at (a ∷ u) w = location_after-append m (m.next at a) u w

-- words lead from locations to locations
pub location_after-within : (p : ℕ) (m : Moves) → IsClosed p m → (at : ℕ) (w : Word) → at < m.size → IsOver p w → location_after m at w < m.size
location_after-within p m c at [] h o = h
location_after-within p m c at (a ∷ w) h o = location_after-within p m c (m.next at a) w (c.next at a h (over-head p a w o)) (over-tail p a w o)

-- a word leads from a location of a part to where it leads in the whole
pub location_after-part : (p : ℕ) (m n : Moves) (r : IsSubautomaton p m n) (k : ℕ) (w : Word) → k < n.size → IsOver p w
    → r.of (location_after n k w) ≡ location_after m (r.of k) w
location_after-part p m n r k [] h o = refl
location_after-part p m n r k (a ∷ w) h o =
    let x = over-head p a w o in
    location_after-part p m n r (n.next k a) w (r.closed.next k a h x) (over-tail p a w o)
    ∙ ap (λ z. location_after m z w) (r.next k a h x)

-- and to the same mark
pub mark_after-part : (p : ℕ) (m n : Moves) (r : IsSubautomaton p m n) (k : ℕ) (w : Word) → k < n.size → IsOver p w
    → mark_after n k w ≡ mark_after m (r.of k) w
mark_after-part p m n r k w h o =
    r.mark (location_after n k w) (location_after-within p n r.closed k w h o) ∙ ap m.mark (location_after-part p m n r k w h o)
