-- An automaton as its store grows.
use Rattle.std.proofs.Common.{◌≡◌, ◌<◌, ◌==◌, ℕ, [], ◌∷◌, refl, sym, ◌∙◌, ap, subst}
use Rattle.forms.specs.Word.{Word, IsOver}
use Rattle.forms.specs.Tree.{Formula}
use Rattle.forms.specs.Satisfaction.{sat}
use Rattle.diagrams.specs.declared.top.Id.{Id}
use Rattle.diagrams.specs.Eval.{Diagrams, eval, letter_truth}
use Rattle.diagrams.specs.Live.{Keeps}
use Rattle.diagrams.proofs.DependsLemmas.{DependsOn-lasts}
use Rattle.diagrams.proofs.Meaning.{eval-lasts, live_lasts}
use Rattle.automata.specs.Moves.{location_after, mark_after}
use Rattle.automata.specs.Table.{Table, size_of, mark_of, row_of, IsRow, Fits, next_of, moves_of, IsMeant}

-- a row stays one
pub row_lasts : (s n : Diagrams) → Keeps s n → (size : ℕ) (row : Id) → IsRow s size row → IsRow n size row
row_lasts s n k size row r = record {
  live = live_lasts s n k.extends row r.live;
  letters = DependsOn-lasts s n k row (λ p v. v < p) r.live r.letters;
  targets = λ a. rw (eval-lasts s n k.was k.now k.extends row r.live a) (r.targets a);
}

-- what fits a store fits it when it has grown
pub fits_lasts : (s n : Diagrams) → Keeps s n → (t : Table) → Fits s t → Fits n t
fits_lasts s n k t f at h = row_lasts s n k (size_of t) (row_of t at) (f at h)

-- each letter leads where it led
pub next_of-lasts : (s n : Diagrams) → Keeps s n → (t : Table) → Fits s t → (at letter : ℕ) → at < size_of t → next_of n t at letter ≡ next_of s t at letter
next_of-lasts s n k t f at letter h =
    ap (λ p. eval n (row_of t at) (letter_truth p letter)) k.extends.props
    ∙ eval-lasts s n k.was k.now k.extends (row_of t at) (f at h).live (letter_truth s.props letter)

-- each word leads where it led
pub location_after-lasts : (s n : Diagrams) → Keeps s n → (t : Table) → Fits s t → (at : ℕ) (w : Word) → at < size_of t → location_after (moves_of n t) at w ≡ location_after (moves_of s t) at w
location_after-lasts s n k t f at [] h = refl
location_after-lasts s n k t f at (a ∷ w) h =
    ap (λ x. location_after (moves_of n t) x w) (next_of-lasts s n k t f at a h)
    ∙ location_after-lasts s n k t f (next_of s t at a) w ((f at h).targets (letter_truth s.props a))

-- the mark after each word is what it was
pub mark_after-lasts : (s n : Diagrams) → Keeps s n → (t : Table) → Fits s t → (at : ℕ) (w : Word) → at < size_of t → mark_after (moves_of n t) at w ≡ mark_after (moves_of s t) at w
mark_after-lasts s n k t f at w h = ap (mark_of t) (location_after-lasts s n k t f at w h)

-- an automaton of a formula stays one
pub meant_lasts : (s n : Diagrams) → Keeps s n → (t : Table) (f : Formula) → t.first < size_of t → IsMeant s t f → IsMeant n t f
meant_lasts s n k t f h m = record {
  fits = fits_lasts s n k t m.fits;
  same = λ w o.
      ap (λ x. x == 1) (mark_after-lasts s n k t m.fits t.first w h)
      ∙ m.same w (subst (λ p. IsOver p w) k.extends.props o)
      ∙ ap (λ p. sat p f w) (sym k.extends.props);
}
