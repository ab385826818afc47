-- A formula's automaton has one text.
use Rattle.std.proofs.Common.{◌≡◌, ◌<◌, ◌^◌, ◌++◌, ℕ, zero, suc, List, [], ◌∷◌, sym, ◌∙◌, ap, inl, inr, false, true, map}
use Rattle.std.specs.Prelude.{slice_get, slice_index_or, Some}
use Rattle.diagrams.specs.declared.cubes.Cube.{Cube}
use Rattle.diagrams.specs.Tree.{Assignment, put}
use Rattle.diagrams.specs.Eval.{letter_truth}
use Rattle.diagrams.specs.Cubes.{AreCubesOf, IsFree, lead, printed_cube}
use Rattle.automata.specs.Moves.{Moves}
use Rattle.automata.specs.Listing.{location_lines}
use Rattle.automata.proofs.Letters.{spelt, spelt-less, spelt-truth}
use Rattle.automata.proofs.ListingLemmas.{location_lines-same}
use Rattle.minimise.specs.Minimal.{AreTheSame}
use Rattle.translate_command.specs.AutomatonText.{AreLetterCubes, ListsMoves}

-- both functions have the same values
abbrev AreEqual : (Assignment → ℕ) → (Assignment → ℕ) → Type 0
AreEqual h k = (a : Assignment) → h a ≡ k a

free-same : (h k : Assignment → ℕ) (v : ℕ) → AreEqual h k → IsFree h v → IsFree k v
free-same h k v e f a = sym (e (put a v false)) ∙ f a ∙ e (put a v true)

-- a function has one list of cubes
cubes-one : (n v : ℕ) (h k : Assignment → ℕ) → AreEqual h k → (xs ys : List Cube) → AreCubesOf n v h xs → AreCubesOf n v k ys → xs ≡ ys
cubes-one zero v h k e xs ys x y =
    let nothing : Assignment = λ w. false in
    x nothing ∙ ap (λ t. record { text = []; terminal = t } ∷ []) (e nothing) ∙ sym (y nothing)
cubes-one (suc n) v h k e xs ys (inl (f, rest, are, is)) (inl (g, others, were, was)) =
    is ∙ ap (map (lead 45)) (cubes-one n (suc v) h k e rest others are were) ∙ sym was
cubes-one (suc n) v h k e xs ys (inl x) (inr y) = absurd (y.0 (free-same h k v e x.0))
cubes-one (suc n) v h k e xs ys (inr x) (inl y) = absurd (x.0 (free-same k h v (λ a. sym (e a)) y.0))
cubes-one (suc n) v h k e xs ys (inr (f, lo, hi, low, high, is)) (inr (g, los, his, lows, highs, was)) =
    let down = cubes-one n (suc v) (λ a. h (put a v false)) (λ a. k (put a v false)) (λ a. e (put a v false)) lo los low lows in
    let up = cubes-one n (suc v) (λ a. h (put a v true)) (λ a. k (put a v true)) (λ a. e (put a v true)) hi his high highs in
    is ∙ ap (λ z. map (lead 48) z ++ map (lead 49) hi) down ∙ ap (λ z. map (lead 48) los ++ map (lead 49) z) up ∙ sym was

-- a function on letters has one list of cubes
letter-cubes-one : (p : ℕ) (f g : ℕ → ℕ) → ((a : ℕ) → a < 2 ^ p → f a ≡ g a) → (xs ys : List Cube) → AreLetterCubes p f xs → AreLetterCubes p g ys → xs ≡ ys
letter-cubes-one p f g e xs ys x y =
    x.cubes_printed ∙ ap (map printed_cube) (cubes-one p 0 x.value y.value same x.plain y.plain x.are y.are) ∙ sym y.cubes_printed
  where
    same : AreEqual x.value y.value
    same a =
        x.over a (letter_truth p (spelt a p)) (λ v l. sym (spelt-truth a p v l))
        ∙ x.letters (spelt a p) (spelt-less a p) ∙ e (spelt a p) (spelt-less a p) ∙ sym (y.letters (spelt a p) (spelt-less a p))
        ∙ y.over (letter_truth p (spelt a p)) a (λ v l. spelt-truth a p v l)

-- automata with the same marks and moves have the same lines
pub lists-one : (p : ℕ) (m n : Moves) → AreTheSame p m n → (xs ys : List ℕ) → ListsMoves p m xs → ListsMoves p n ys → xs ≡ ys
lists-one p m n e xs ys x y =
    x.lines
    ∙ location_lines-same m.mark n.mark x.cubes y.cubes m.size e.mark
    (λ at l. letter-cubes-one p (m.next at) (n.next at) (λ a h. e.next at a l h) (x.cubes at) (y.cubes at) (x.rows at l) (y.rows at (rw (sym e.size) l)))
    ∙ ap (location_lines n.mark y.cubes) e.size ∙ sym y.lines

-- an item that is got is the one there
pub got_item : (words : List (List ℕ)) (i : ℕ) (word : List ℕ) → slice_get words i ≡ Some word → slice_index_or words i [] ≡ word
got_item [] i word e = absurd (cc)
got_item (w ∷ words) zero word e = cc
got_item (w ∷ words) (suc i) word e = got_item words i word e
