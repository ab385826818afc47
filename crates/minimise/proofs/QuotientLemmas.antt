-- From divided locations to the least automaton.
use Rattle.std.proofs.Common.{◌≡◌, ◌<◌, ◌≢◌, ◌^◌, ℕ, [], ◌∷◌, refl, sym, ◌∙◌, ap}
use Rattle.forms.specs.Word.{Word, IsOver}
use Rattle.automata.specs.Moves.{Moves, location_after, mark_after, HaveSameMarksOver, IsClosed, AreDistinguished}
use Rattle.automata.specs.Numbering.{IsNumbered}
use Rattle.automata.specs.Subautomaton.{IsSubautomaton}
use Rattle.automata.proofs.Words.{over-head, over-tail, location_after-within, mark_after-part}
use Rattle.class_laws.specs.Divided.{IsDivided}
use Rattle.minimise.specs.Minimal.{IsLeast}
use Rattle.minimise.specs.Quotient.{IsQuotient}

block-after : (p : ℕ) (m q : Moves) (block : ℕ → ℕ) → IsClosed p m → IsQuotient p m q block → (i : ℕ) (w : Word) → i < m.size → IsOver p w
    → location_after q (block i) w ≡ block (location_after m i w)
block-after p m q block c s i [] h o = refl
block-after p m q block c s i (a ∷ w) h o =
    let x = over-head p a w o in
    ap (λ z. location_after q z w) (s.next i a h x) ∙ block-after p m q block c s (m.next i a) w (c.next i a h x) (over-tail p a w o)

block-mark : (p : ℕ) (m q : Moves) (block : ℕ → ℕ) → IsClosed p m → IsQuotient p m q block → (i : ℕ) (w : Word) → i < m.size → IsOver p w
    → mark_after q (block i) w ≡ mark_after m i w
block-mark p m q block c s i w h o =
    ap q.mark (block-after p m q block c s i w h o) ∙ s.mark (location_after m i w) (location_after-within p m c i w h o)

apart : (p : ℕ) (m q n : Moves) (k : ℕ) (block : ℕ → ℕ) → IsClosed p m → IsDivided p m k block → IsQuotient p m q block
    → IsSubautomaton p q n → (i j : ℕ) → i < n.size → j < n.size → i ≢ j → AreDistinguished p n i j
apart p m q n k block c d s f i j h l e =
    let x = s.member (f.of i) (f.within i h) in
    let y = s.member (f.of j) (f.within j l) in
    let t = d.apart x.0 y.0 x.1 y.1 (λ z. e (f.once i j h l (sym x.2 ∙ z ∙ y.2))) in
    record {
      word = t.word;
      over = t.over;
      differ = λ z. t.differ (
          sym (block-mark p m q block c s x.0 t.word x.1 t.over)
          ∙ ap (λ v. mark_after q v t.word) x.2
          ∙ sym (mark_after-part p q n f i t.word h t.over)
          ∙ z
          ∙ mark_after-part p q n f j t.word l t.over
          ∙ ap (λ v. mark_after q v t.word) (sym y.2)
          ∙ block-mark p m q block c s y.0 t.word y.1 t.over);
    }

-- the reached blocks of divided locations are the least automaton
pub divided_is_least : (p : ℕ) (m q n : Moves) (k : ℕ) (block : ℕ → ℕ) → IsClosed p m → IsDivided p m k block → IsQuotient p m q block
    → IsSubautomaton p q n → IsNumbered p n → IsLeast p n
divided_is_least p m q n k block c d s f a = record {
  closed = f.closed;
  reached = λ at h. let w = a.least at h in record { word = a.word at; over = w.over; leads = w.leads };
  apart = apart p m q n k block c d s f;
}

-- the blocks have the marks of the automaton that was divided
pub quotient_marks : (p : ℕ) (m q : Moves) (block : ℕ → ℕ) → IsClosed p m → IsQuotient p m q block → HaveSameMarksOver p q m
quotient_marks p m q block c s w o = ap (λ z. mark_after q z w) s.first ∙ block-mark p m q block c s m.first w c.first o
