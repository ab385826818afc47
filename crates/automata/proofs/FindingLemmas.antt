-- One more location found, and the targets of one location done.
use Rattle.std.proofs.Common.{◌≡◌, ◌<◌, ◌≤◌, ◌+◌, ◌==◌, ◌^◌, ◌⊎◌, ℕ, [], ◌∷◌, ◌++◌, refl, sym, ◌∙◌, ap, arith, inl, inr, true, false, if◌then◌else◌}
use Rattle.std.proofs.lemmas.Bool.{cases_eq, eq-eqb, ne_eqb}
use Rattle.forms.specs.Word.{Word, IsOver}
use Rattle.forms.specs.Shortlex.{comes_before}
use Rattle.forms.proofs.ShortlexLemmas.{before-trans, before-not_itself}
use Rattle.automata.specs.Moves.{Moves, location_after}
use Rattle.automata.proofs.Words.{over-nil, over-push, location_after-append}
use Rattle.automata.proofs.Order.{before-not_after, before-more, before-longer, before-last, not_before-trans}
use Rattle.automata.specs.Search.{IsTargetFound, IsSearched, IsSearching}

-- of the targets of location k the first j are found, each by the least letter to it; words so far come before the others
pub record IsFinding (p : ℕ) (m : Moves) (found : ℕ → ℕ) (word : ℕ → Word) (count k : ℕ) (letters : ℕ → ℕ) (total j : ℕ) : Type 0 where
  pub searched : IsSearched p m found word count k
  pub here : k < count
  pub earlier : (i at a : ℕ) → i < count → k < at → at < count → comes_before (word i) (word at ++ a ∷ []) ≡ true
  pub before : (i e : ℕ) → i < count → j ≤ e → e < total → comes_before (word i) (word k ++ letters e ∷ []) ≡ true
  pub got : (e : ℕ) → e < j → IsTargetFound p m found word count k (letters e)

-- the targets of location k: those of so many letters, which rise
pub record AreTargets (p : ℕ) (m : Moves) (at : ℕ) (letters : ℕ → ℕ) (total : ℕ) : Type 0 where
  pub over : (e : ℕ) → e < total → letters e < 2 ^ p
  pub rise : (d e : ℕ) → d < e → e < total → letters d < letters e
  pub all : (a : ℕ) → a < 2 ^ p → (e : ℕ) × (e < total) × (letters e ≤ a) × (m.next at (letters e) ≡ m.next at a)

-- a search that has come to location k is at the first of its targets
pub finding_begins : (p : ℕ) (m : Moves) (found : ℕ → ℕ) (word : ℕ → Word) (count k : ℕ) (letters : ℕ → ℕ) (total : ℕ)
    → k < count → IsSearching p m found word count k → IsFinding p m found word count k letters total 0
finding_begins p m found word count k letters total h s = record {
  searched = s.searched;
  here = h;
  earlier = λ i at a x y z. s.earlier i at a x (omega (arith, y)) z;
  before = λ i e x y z. s.earlier i k (letters e) x (omega arith) h;
  got = λ e x. absurd (omega (arith, x));
}

-- the target is there already
pub finding_has : (p : ℕ) (m : Moves) (found : ℕ → ℕ) (word : ℕ → Word) (count k : ℕ) (letters : ℕ → ℕ) (total j q : ℕ)
    → IsFinding p m found word count k letters total j → j < total → q < count → found q ≡ m.next (found k) (letters j)
    → IsFinding p m found word count k letters total (j + 1)
finding_has p m found word count k letters total j q f h l e = record {
  searched = f.searched;
  here = f.here;
  earlier = f.earlier;
  before = λ i d x y z. f.before i d x (omega (arith, y)) z;
  got = λ d x. elim (cases_eq d j) [
    | inl z ↦ rw (z) (record { place = q; within = l; target = e; early = before-not_after (word q) (word k ++ letters j ∷ []) (f.before q j l (omega arith) h) })
    | inr z ↦ f.got d (omega (arith, x, z))
  ];
}

-- the words with one more
abbrev pub with_word : (ℕ → Word) → ℕ → Word → ℕ → Word
with_word word count w i = if i == count then w else word i

with_word-at : (word : ℕ → Word) (count : ℕ) (w : Word) → with_word word count w count ≡ w
with_word-at word count w = rw (eq-eqb count count refl) refl

with_word-before : (word : ℕ → Word) (count : ℕ) (w : Word) (i : ℕ) → i < count → with_word word count w i ≡ word i
with_word-before word count w i h = rw (ne_eqb i count (λ e. omega (arith, h, e))) refl

-- what was found stays so among more
target_lasts : (p : ℕ) (m : Moves) (f g : ℕ → ℕ) (u v : ℕ → Word) (count k a : ℕ) → k < count
    → ((i : ℕ) → i < count → g i ≡ f i) → ((i : ℕ) → i < count → v i ≡ u i)
    → IsTargetFound p m f u count k a → IsTargetFound p m g v (count + 1) k a
target_lasts p m f g u v count k a h same alike t = record {
  place = t.place;
  within = omega (arith, t.within);
  target = same t.place t.within ∙ t.target ∙ ap (λ z. m.next z a) (sym (same k h));
  early = rw (alike k h, alike t.place t.within) t.early;
}

-- before any other place of more, or the last
pub place_cases : (i count : ℕ) → i < count + 1 → (i < count) ⊎ (i ≡ count)
place_cases i count h = elim (cases_eq i count) [ inl e ↦ inr e | inr e ↦ inl (omega (arith, h, e)) ]

-- one more location, by a word that all words so far come before
searched_more : (p : ℕ) (m : Moves) (f g : ℕ → ℕ) (u v : ℕ → Word) (count k : ℕ) (w : Word)
    → IsSearched p m f u count k → k ≤ count → ((i : ℕ) → i < count → g i ≡ f i) → ((i : ℕ) → i < count → v i ≡ u i) → v count ≡ w
    → IsOver p w → location_after m m.first w ≡ g count
    → ((i : ℕ) → i < count → comes_before (u i) w ≡ true) → ((i : ℕ) → i < count → f i ≡ g count → ⊥)
    → IsSearched p m g v (count + 1) k
searched_more p m f g u v count k w s le same alike last over leads before new = record {
  some = omega arith;
  start = same 0 s.some ∙ s.start;
  empty = alike 0 s.some ∙ s.empty;
  finds = λ i h. elim (place_cases i count h) [
    | inl l ↦ let x = s.finds i l in record { over = rw (alike i l) x.over; leads = rw (alike i l, same i l) x.leads }
    | inr e ↦ rw (e, last) (record { over = over; leads = leads })
  ];
  order = λ i j h l. elim (place_cases j count l) [
    | inl x ↦ let y : i < count = omega (arith, h, x) in rw (alike i y, alike j x) (s.order i j h x)
    | inr e ↦ let y : i < count = omega (arith, h, e) in rw (e, alike i y, last) (before i y)
  ];
  once = λ i j h l e. elim (place_cases i count h) [
    | inl x ↦ elim (place_cases j count l) [
      | inl y ↦ s.once i j x y (sym (same i x) ∙ e ∙ same j y)
      | inr y ↦ absurd (new i x (sym (same i x) ∙ e ∙ ap g y))
    ]
    | inr x ↦ elim (place_cases j count l) [
      | inl y ↦ absurd (new j y (sym (same j y) ∙ sym e ∙ ap g x))
      | inr y ↦ x ∙ sym y
    ]
  ];
  targets = λ i a h l. target_lasts p m f g u v count i a (omega (arith, h, le)) same alike (s.targets i a h l);
}

-- the target is new, and is found by the word of location k and its least letter
pub finding_new : (p : ℕ) (m : Moves) (f g : ℕ → ℕ) (u : ℕ → Word) (count k : ℕ) (letters : ℕ → ℕ) (total j : ℕ)
    → AreTargets p m (f k) letters total → IsFinding p m f u count k letters total j → j < total
    → ((i : ℕ) → i < count → g i ≡ f i) → g count ≡ m.next (f k) (letters j) → ((i : ℕ) → i < count → f i ≡ g count → ⊥)
    → IsFinding p m g (with_word u count (u k ++ letters j ∷ [])) (count + 1) k letters total (j + 1)
finding_new p m f g u count k letters total j ts s h same target new = record {
  searched = searched_more p m f g u v count k w s.searched (omega (arith, s.here)) same alike last
      (over-push p (u k) (letters j) (s.searched.finds k s.here).over (ts.over j h))
      (location_after-append m m.first (u k) (letters j ∷ []) ∙ ap (λ z. m.next z (letters j)) (s.searched.finds k s.here).leads ∙ sym target)
      (λ i l. s.before i j l (omega arith) h)
      new;
  here = omega (arith, s.here);
  earlier = λ i at a x y z. elim (place_cases at count z) [
    | inl l ↦ elim (place_cases i count x) [
      | inl q ↦ rw (alike i q, alike at l) (s.earlier i at a q y l)
      | inr e ↦ rw (e, last, alike at l) (before-more (u k) (u at) (letters j) a (s.searched.order k at y l))
    ]
    | inr e ↦ elim (place_cases i count x) [
      | inl q ↦ rw (e, alike i q, last) (before-trans (u i) w (w ++ a ∷ []) (s.before i j q (omega arith) h) (before-longer w a))
      | inr d ↦ rw (e, d, last) (before-longer w a)
    ]
  ];
  before = λ i e x y z. elim (place_cases i count x) [
    | inl q ↦ rw (alike i q, alike k s.here) (s.before i e q (omega (arith, y)) z)
    | inr d ↦ rw (d, last, alike k s.here) (before-last (u k) (letters j) (letters e) (ts.rise j e (omega (arith, y)) z))
  ];
  got = λ e x. elim (cases_eq e j) [
    | inl d ↦ rw (d) (record {
      place = count;
      within = omega arith;
      target = target ∙ ap (λ z. m.next z (letters j)) (sym (same k s.here));
      early = rw (alike k s.here, last) (before-not_itself w);
    })
    | inr d ↦ target_lasts p m f g u v count k (letters e) s.here same alike (s.got e (omega (arith, x, d)))
  ];
}
  where
    w : Word
    w = u k ++ letters j ∷ []

    v : ℕ → Word
    v = with_word u count w

    last : v count ≡ w
    last = with_word-at u count w

    alike : (i : ℕ) → i < count → v i ≡ u i
    alike i h = with_word-before u count w i h

-- after a word, a letter no less comes no earlier
not_before-last : (u : Word) (a b : ℕ) → b ≤ a → comes_before (u ++ a ∷ []) (u ++ b ∷ []) ≡ false
not_before-last u a b h = elim (cases_eq a b) [
  | inl e ↦ rw (e) (before-not_itself (u ++ b ∷ []))
  | inr e ↦ before-not_after (u ++ b ∷ []) (u ++ a ∷ []) (before-last u b a (omega (arith, h, e)))
]

target_found : (p : ℕ) (m : Moves) (found : ℕ → ℕ) (word : ℕ → Word) (count k a b : ℕ) → b ≤ a → m.next (found k) b ≡ m.next (found k) a
    → IsTargetFound p m found word count k b → IsTargetFound p m found word count k a
target_found p m found word count k a b h e t = record {
  place = t.place;
  within = t.within;
  target = t.target ∙ e;
  early = not_before-trans (word k ++ a ∷ []) (word k ++ b ∷ []) (word t.place) (not_before-last (word k) a b h) t.early;
}

-- all targets of location k are found
pub finding_ends : (p : ℕ) (m : Moves) (found : ℕ → ℕ) (word : ℕ → Word) (count k : ℕ) (letters : ℕ → ℕ) (total : ℕ)
    → AreTargets p m (found k) letters total → IsFinding p m found word count k letters total total → IsSearching p m found word count (k + 1)
finding_ends p m found word count k letters total ts f = record {
  searched = record {
    some = f.searched.some;
    start = f.searched.start;
    empty = f.searched.empty;
    finds = f.searched.finds;
    order = f.searched.order;
    once = f.searched.once;
    targets = λ i a h l. elim (cases_eq i k) [
      | inl e ↦ let r = ts.all a l in rw (e) (target_found p m found word count k a (letters r.0) r.2 r.3 (f.got r.0 r.1))
      | inr e ↦ f.searched.targets i a (omega (arith, h, e)) l
    ];
  };
  earlier = λ i at a x y z. f.earlier i at a x (omega (arith, y)) z;
}

-- the first location alone
pub search_begins : (p : ℕ) (m : Moves) (found : ℕ → ℕ) → found 0 ≡ m.first → IsSearching p m found (λ i. []) 1 0
search_begins p m found e = record {
  searched = record {
    some = omega arith;
    start = e;
    empty = refl;
    finds = λ k h. record { over = over-nil p; leads = sym (ap found (omega (arith, h)) ∙ e) };
    order = λ i j h l. absurd (omega (arith, h, l));
    once = λ i j h l q. omega (arith, h, l);
    targets = λ k a h l. absurd (omega (arith, h));
  };
  earlier = λ i at a x y z. before-longer [] a;
}
