-- A search breadth first: locations are found in the order of their least words.
use Rattle.std.proofs.Common.{◌≡◌, ◌<◌, ◌^◌, ℕ, [], ◌∷◌, ◌++◌, sym, ◌∙◌, ap, subst, append_assoc, append-nil, false}
use Rattle.forms.specs.Word.{Word, IsOver}
use Rattle.forms.specs.Shortlex.{comes_before}
use Rattle.forms.proofs.ShortlexLemmas.{before-not_itself}
use Rattle.automata.specs.Moves.{Moves, location_after, IsClosed}
use Rattle.automata.specs.Numbering.{IsLeastWord, IsNumbered}
use Rattle.automata.specs.Subautomaton.{IsSubautomaton}
use Rattle.automata.specs.Search.{IsSearched}
use Rattle.automata.proofs.Words.{over-head, over-tail, location_after-append, location_after-within, location_after-part}
use Rattle.automata.proofs.Order.{not_before-trans, not_before-more}

-- n is m with the k-th found location as location k
pub record IsRenamed (p : ℕ) (m n : Moves) (found : ℕ → ℕ) : Type 0 where
  pub closed : IsClosed p n
  pub first : n.first ≡ 0
  pub mark : (k : ℕ) → k < n.size → n.mark k ≡ m.mark (found k)
  pub next : (k a : ℕ) → k < n.size → a < 2 ^ p → found (n.next k a) ≡ m.next (found k) a

-- the location after a word was found, by a word that comes no later
record IsEarly (m : Moves) (found : ℕ → ℕ) (word : ℕ → Word) (count : ℕ) (w : Word) : Type 0 where
  place : ℕ
  within : place < count
  leads : found place ≡ location_after m m.first w
  early : comes_before w (word place) ≡ false

early-step : (p : ℕ) (m : Moves) (found : ℕ → ℕ) (word : ℕ → Word) (count : ℕ) → IsSearched p m found word count count
    → (u : Word) (a : ℕ) → a < 2 ^ p → IsEarly m found word count u → IsEarly m found word count (u ++ a ∷ [])
early-step p m found word count s u a h e =
    let t = s.targets e.place a e.within h in
    record {
      place = t.place;
      within = t.within;
      leads = t.target ∙ ap (λ z. m.next z a) e.leads ∙ sym (location_after-append m m.first u (a ∷ []));
      early = not_before-trans (u ++ a ∷ []) (word e.place ++ a ∷ []) (word t.place) (not_before-more u (word e.place) a e.early) t.early;
    }

early-more : (p : ℕ) (m : Moves) (found : ℕ → ℕ) (word : ℕ → Word) (count : ℕ) → IsSearched p m found word count count
    → (u w : Word) → IsOver p w → IsEarly m found word count u → IsEarly m found word count (u ++ w)
early-more p m found word count s u [] o e = subst (λ z. IsEarly m found word count z) (sym (append-nil u)) e
early-more p m found word count s u (a ∷ w) o e =
    subst (λ z. IsEarly m found word count z) (append_assoc u (a ∷ []) w)
    (early-more p m found word count s (u ++ a ∷ []) w (over-tail p a w o) (early-step p m found word count s u a (over-head p a w o) e))

early : (p : ℕ) (m : Moves) (found : ℕ → ℕ) (word : ℕ → Word) (count : ℕ) → IsSearched p m found word count count
    → (w : Word) → IsOver p w → IsEarly m found word count w
early p m found word count s w o =
    early-more p m found word count s [] w o
    (record { place = 0; within = s.some; leads = s.start; early = ap (comes_before []) s.empty ∙ before-not_itself [] })

-- found locations are locations
pub found-within : (p : ℕ) (m : Moves) (found : ℕ → ℕ) (word : ℕ → Word) (count done : ℕ) → IsClosed p m → IsSearched p m found word count done
    → (k : ℕ) → k < count → found k < m.size
found-within p m found word count done c s k h =
    let f = s.finds k h in
    subst (λ z. z < m.size) f.leads (location_after-within p m c m.first (word k) c.first f.over)

-- what a finished search finds is a part
pub search_part : (p : ℕ) (m n : Moves) (found : ℕ → ℕ) (word : ℕ → Word) → IsClosed p m → IsSearched p m found word n.size n.size
    → IsRenamed p m n found → IsSubautomaton p m n
search_part p m n found word c s r = record {
  of = found;
  closed = r.closed;
  within = found-within p m found word n.size n.size c s;
  once = s.once;
  first = ap found r.first ∙ s.start;
  mark = r.mark;
  next = r.next;
}

found-first : (p : ℕ) (m n : Moves) (r : IsSubautomaton p m n) (w : Word) → IsOver p w → r.of (location_after n n.first w) ≡ location_after m m.first w
found-first p m n r w o =
    location_after-part p m n r n.first w r.closed.first o ∙ ap (λ z. location_after m z w) r.first

least_word : (p : ℕ) (m n : Moves) (found : ℕ → ℕ) (word : ℕ → Word) → IsClosed p m → IsSearched p m found word n.size n.size → IsRenamed p m n found
    → (k : ℕ) → k < n.size → IsLeastWord p n k (word k)
unfolding search_part
least_word p m n found word c s r k h =
    let f = s.finds k h in
    let part = search_part p m n found word c s r in
    record {
      over = f.over;
      leads = s.once _ k (location_after-within p n r.closed n.first (word k) r.closed.first f.over) h
          (found-first p m n part (word k) f.over ∙ f.leads);
      least = λ v o e.
          let x = early p m found word n.size s v o in
          let same : x.place ≡ k = s.once x.place k x.within h (x.leads ∙ sym (found-first p m n part v o) ∙ ap found e) in
          subst (λ z. comes_before v (word z) ≡ false) same x.early;
    }

-- and is numbered by least words
pub search_numbers : (p : ℕ) (m n : Moves) (found : ℕ → ℕ) (word : ℕ → Word) → IsClosed p m → IsSearched p m found word n.size n.size
    → IsRenamed p m n found → IsNumbered p n
search_numbers p m n found word c s r = record { word = word; least = least_word p m n found word c s r; order = s.order }
