-- What holds of an automaton holds of one with the same marks and moves.
use Rattle.std.proofs.Common.{◌≡◌, ◌<◌, ℕ, List, [], ◌∷◌, refl, sym, ◌∙◌, ap, subst, All}
use Rattle.std.specs.Prelude.{Any, slice_index, slice_index_or}
use Rattle.std.proofs.lemmas.List.Elements.{All-weaker}
use Rattle.forms.specs.Word.{Word, IsOver}
use Rattle.automata.specs.Moves.{Moves, location_after, mark_after, IsClosed}
use Rattle.automata.proofs.Words.{over-head, over-tail, location_after-within}
use Rattle.minimise.specs.Minimal.{AreTheSame}
use Rattle.class_laws.specs.Divided.{IsDivided}
use Rattle.distinguish.specs.Telling.{IsLeastDistinguishing, IsLeastForSome, IsTellingList}
use Rattle.distinguish.specs.Columns.{AreColumns}
use Rattle.distinguish.specs.Rounds.{IsDividedByWords}

-- where one fact follows from another, some item with the one is an item with the other
pub any_weaker : {X : Type 0} → (P Q : X → Type 0) → ((x : X) → P x → Q x) → (xs : List X) → Any P xs → Any Q xs
any_weaker P Q f xs a = (a.0, a.1, a.2, a.3, f a.1 a.4)

-- a word leads to one location in both
pub location_after-same : (p : ℕ) (m n : Moves) → IsClosed p m → AreTheSame p m n → (at : ℕ) (w : Word) → at < m.size → IsOver p w
    → location_after m at w ≡ location_after n at w
location_after-same p m n c e at [] h o = refl
location_after-same p m n c e at (a ∷ w) h o =
    let x = over-head p a w o in
    location_after-same p m n c e (m.next at a) w (c.next at a h x) (over-tail p a w o) ∙ ap (λ z. location_after n z w) (e.next at a h x)

-- and to one mark
pub mark_after-same : (p : ℕ) (m n : Moves) → IsClosed p m → AreTheSame p m n → (at : ℕ) (w : Word) → at < m.size → IsOver p w
    → mark_after m at w ≡ mark_after n at w
mark_after-same p m n c e at w h o =
    e.mark (location_after m at w) (location_after-within p m c at w h o) ∙ ap n.mark (location_after-same p m n c e at w h o)

module _ (p : ℕ) (m n : Moves) (c : IsClosed p m) (e : AreTheSame p m n) where
  below : (i : ℕ) → i < n.size → i < m.size
  below i h = subst (λ z. i < z) (sym e.size) h

  -- a word that is the least to tell two locations apart is so in both
  pub least_same : (i j : ℕ) → i < m.size → j < m.size → (w : Word) → IsLeastDistinguishing p m i j w → IsLeastDistinguishing p n i j w
  least_same i j h k w l = record {
    over = l.over;
    differ = λ q. l.differ (mark_after-same p m n c e i w h l.over ∙ q ∙ sym (mark_after-same p m n c e j w k l.over));
    least = λ v o b. sym (mark_after-same p m n c e i v h o) ∙ l.least v o b ∙ mark_after-same p m n c e j v k o;
  }

  -- a word that is the least for some two locations is so in both
  pub needed_same : (w : Word) → IsLeastForSome p m w → IsLeastForSome p n w
  needed_same w x = record {
    one = x.one;
    other = x.other;
    one_within = subst (λ z. x.one < z) e.size x.one_within;
    other_within = subst (λ z. x.other < z) e.size x.other_within;
    least = least_same x.one x.other x.one_within x.other_within w x.least;
  }

  -- a telling list is one of both
  pub list_same : (words : List Word) → IsTellingList p m words → IsTellingList p n words
  list_same words t = record {
    order = t.order;
    needed = All-weaker (IsLeastForSome p m) (IsLeastForSome p n) needed_same words t.needed;
    whole = λ i j h k d.
        any_weaker (IsLeastDistinguishing p m i j) (IsLeastDistinguishing p n i j) (least_same i j (below i h) (below j k)) words
        (t.whole i j (below i h) (below j k) d);
  }

  divided_same : (k : ℕ) (block : ℕ → ℕ) → IsDivided p m k block → IsDivided p n k block
  divided_same k block d = record {
    same = λ i j h l q w o s.
        sym (mark_after-same p m n c e i w (below i h) o) ∙ d.same i j (below i h) (below j l) q w o s ∙ mark_after-same p m n c e j w (below j l) o;
    apart = λ i j h l q.
        let t = d.apart i j (below i h) (below j l) q in
        record {
          word = t.word;
          over = t.over;
          short = t.short;
          differ = λ z. t.differ (mark_after-same p m n c e i t.word (below i h) t.over ∙ z ∙ sym (mark_after-same p m n c e j t.word (below j l) t.over));
        };
  }

  columns_same : (words : List Word) (columns : List (List ℕ)) → All (IsLeastForSome p m) words → AreColumns m words columns → AreColumns n words columns
  columns_same words columns o a = record {
    size = a.size;
    column = λ k h.
        let x = a.column k h in
        record {
          size = x.size ∙ e.size;
          mark = λ at l. x.mark at (below at l) ∙ mark_after-same p m n c e at (slice_index_or words k []) (below at l) ((o k [] h).least.over);
        };
  }

  -- blocks that words divide are such blocks of both
  pub words_same : (blocks : List ℕ) (words : List Word) (columns : List (List ℕ)) → IsDividedByWords p m blocks words columns → IsDividedByWords p n blocks words columns
  words_same blocks words columns t = record {
    closed = record {
      first = rw (← e.first, ← e.size) c.first;
      next = λ at a h o. rw (← e.next at a (below at h) o, ← e.size) (c.next at a (below at h) o);
    };
    letters = t.letters;
    some = t.some;
    size = t.size ∙ e.size;
    low = λ at h. t.low at (below at h);
    own = λ at h. t.own at (below at h);
    divided = divided_same t.letters (slice_index blocks) t.divided;
    order = t.order;
    needed = All-weaker (IsLeastForSome p m) (IsLeastForSome p n) needed_same words t.needed;
    short = t.short;
    whole = λ i j h k d.
        any_weaker (IsLeastDistinguishing p m i j) (IsLeastDistinguishing p n i j) (least_same i j (below i h) (below j k)) words
        (t.whole i j (below i h) (below j k) d);
    marks = columns_same words columns t.needed t.marks;
  }
