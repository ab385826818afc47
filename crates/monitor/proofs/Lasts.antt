-- A monitor as its store grows.
use Rattle.std.proofs.Common.{◌<◌, ℕ, sym, ◌∙◌, subst}
use Rattle.diagrams.specs.Eval.{Diagrams}
use Rattle.diagrams.specs.Live.{Keeps}
use Rattle.automata.specs.Moves.{IsReached, AreDistinguished}
use Rattle.automata.specs.Table.{Table, size_of, Fits, moves_of}
use Rattle.automata.proofs.Lasts.{fits_lasts, next_of-lasts, location_after-lasts, mark_after-lasts}
use Rattle.minimise.specs.Minimal.{IsLeast}
use Rattle.monitor.specs.Configuration.{Configuration, IsReady}

reached_lasts : (s n : Diagrams) → Keeps s n → (t : Table) → Fits s t → t.first < size_of t → (at : ℕ)
    → IsReached s.props (moves_of s t) at → IsReached s.props (moves_of n t) at
reached_lasts s n k t f first at r =
    record { word = r.word; over = r.over; leads = location_after-lasts s n k t f t.first r.word first ∙ r.leads }

apart_lasts : (s n : Diagrams) → Keeps s n → (t : Table) → Fits s t → (i j : ℕ) → i < size_of t → j < size_of t
    → AreDistinguished s.props (moves_of s t) i j → AreDistinguished s.props (moves_of n t) i j
apart_lasts s n k t f i j h l d = record {
  word = d.word;
  over = d.over;
  differ = λ e. d.differ (sym (mark_after-lasts s n k t f i d.word h) ∙ e ∙ mark_after-lasts s n k t f j d.word l);
}

-- a least automaton stays one
pub least_lasts : (s n : Diagrams) → Keeps s n → (t : Table) → Fits s t → IsLeast s.props (moves_of s t) → IsLeast n.props (moves_of n t)
least_lasts s n k t f m =
    let first : t.first < size_of t = m.closed.first in
    let same : IsLeast s.props (moves_of n t) = record {
      closed = record {
        first = first;
        next = λ at a h l. subst (λ z. z < size_of t) (sym (next_of-lasts s n k t f at a h)) (m.closed.next at a h l);
      };
      reached = λ at h. reached_lasts s n k t f first at (m.reached at h);
      apart = λ i j h l d. apart_lasts s n k t f i j h l (m.apart i j h l d);
    } in
    subst (λ p. IsLeast p (moves_of n t)) (sym k.extends.props) same

-- a monitor that is ready stays so
pub ready_lasts : (s n : Diagrams) → Keeps s n → (m : Configuration) → IsReady s m → IsReady n m
ready_lasts s n k m r = record {
  fits = fits_lasts s n k m.automaton r.fits;
  marks = r.marks;
  least = least_lasts s n k m.automaton r.fits r.least;
  within = r.within;
}
