-- A claim has one numbered least automaton, and no smaller one.
use Rattle.std.proofs.Common.{◌≡◌, ℕ, refl, sym, ◌∙◌}
use Rattle.bes_io.proofs.Bits.{same_bit}
use Rattle.forms.specs.Word.{Word, Claim, IsOver}
use Rattle.automata.specs.Moves.{Moves, location_after, mark_after, IsClosed, HaveSameMarksOver}
use Rattle.automata.proofs.Words.{location_after-within}
use Rattle.minimise.specs.Minimal.{Decides, IsLeastFor, IsOnlyFor}
use Rattle.minimise.proofs.Smallest.{least_is_smallest}
use Rattle.minimise.proofs.Unique.{least_is_unique}

-- two automata that decide claims that agree have the same marks
agree_of : (p : ℕ) (m n : Moves) (f g : Claim) → IsClosed p m → IsClosed p n → Decides p m f → Decides p n g → ((w : Word) → IsOver p w → f w ≡ g w) → HaveSameMarksOver p m n
agree_of p m n f g c d x y e w o =
    same_bit (mark_after m m.first w) (mark_after n n.first w)
    (x.marks (location_after m m.first w) (location_after-within p m c m.first w c.first o))
    (y.marks (location_after n n.first w) (location_after-within p n d n.first w d.first o))
    (sym (x.accepts w o) ∙ e w o ∙ y.accepts w o)

-- a numbered least automaton is the only one
pub least_is_only : (p : ℕ) (m : Moves) (f : Claim) → IsLeastFor p m f → IsOnlyFor p m f
least_is_only p m f h = record {
  unique = λ g n same l.
      least_is_unique p n m l.least l.numbered h.least h.numbered (agree_of p n m g f l.least.closed h.least.closed l.decides h.decides same);
  smallest = λ n closed decides.
      least_is_smallest p m n h.least closed (agree_of p m n f f h.least.closed closed h.decides decides (λ w o. refl));
}
