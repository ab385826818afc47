-- There are fewer needed words than locations: each makes a location the first of its kind.
use Rattle.std.proofs.Common.{◌≡◌, ◌≢◌, ℕ, zero, suc, ◌<◌, ◌≤◌, ◌+◌, ◌-◌, List, [], length, true, All, get_or, refl, sym, ◌∙◌, ap, subst, arith, inl, inr, ◌⊎◌}
use Rattle.std.specs.Prelude.{AllPairs}
use Rattle.std.proofs.lemmas.Bool.{cases_eq, cases_lt, cases_order}
use Rattle.forms.specs.Word.{Word}
use Rattle.automata.specs.Moves.{Moves, mark_after}
use Rattle.forms.specs.Shortlex.{comes_before}
use Rattle.distinguish.specs.Telling.{IsLeastForSome, TellingWordsAreFew}
use Rattle.automata.proofs.Pigeon.{no_more_than}

-- the two have one mark after each of the first k words
abbrev AgreeOn : Moves → (ℕ → Word) → ℕ → ℕ → ℕ → Type 0
AgreeOn m ws k x y = (n : ℕ) → n < k → mark_after m x (ws n) ≡ mark_after m y (ws n)

-- one of the first k words tells the two apart
record ApartOn (m : Moves) (ws : ℕ → Word) (k x y : ℕ) : Type 0 where
  place : ℕ
  within : place < k
  differ : mark_after m x (ws place) ≢ mark_after m y (ws place)

-- the first k words tell the location from each lesser one
abbrev IsFresh : Moves → (ℕ → Word) → ℕ → ℕ → Type 0
IsFresh m ws k x = (y : ℕ) → y < x → ApartOn m ws k y x

agree_or_apart : (m : Moves) (ws : ℕ → Word) (k x y : ℕ) → AgreeOn m ws k x y ⊎ ApartOn m ws k x y
agree_or_apart m ws zero x y = inl (λ n h. absurd (omega (arith, h)))
agree_or_apart m ws (suc k) x y =
    elim (agree_or_apart m ws k x y) [
      | inl e ↦ elim (cases_eq (mark_after m x (ws k)) (mark_after m y (ws k))) [
        | inl q ↦ inl (λ n h. elim (cases_eq n k) [ inl z ↦ rw (z) q | inr z ↦ e n (omega (arith, h, z)) ])
        | inr q ↦ inr (record { place = k; within = omega arith; differ = q })
      ]
      | inr r ↦ inr (record { place = r.place; within = omega (arith, r.within); differ = r.differ })
    ]

-- the least location that agrees with x
record First (m : Moves) (ws : ℕ → Word) (k x : ℕ) : Type 0 where
  at : ℕ
  least : at ≤ x
  agree : AgreeOn m ws k at x
  fresh : IsFresh m ws k at

first_below : (m : Moves) (ws : ℕ → Word) (k x n : ℕ) → n ≤ x → ((y : ℕ) → y < n → ApartOn m ws k y x) ⊎ First m ws k x
first_below m ws k x zero h = inl (λ y l. absurd (omega (arith, l)))
first_below m ws k x (suc n) h =
    elim (first_below m ws k x n (omega (arith, h))) [
      | inr r ↦ inr r
      | inl e ↦ elim (agree_or_apart m ws k n x) [
        | inl a ↦ inr (record {
          at = n;
          least = omega (arith, h);
          agree = a;
          fresh = λ y l. let t = e y l in record { place = t.place; within = t.within; differ = λ q. t.differ (q ∙ a t.place t.within) };
        })
        | inr a ↦ inl (λ y l. elim (cases_eq y n) [ inl z ↦ subst (λ v. ApartOn m ws k v x) (sym z) a | inr z ↦ e y (omega (arith, l, z)) ])
      ]
    ]

first_of : (m : Moves) (ws : ℕ → Word) (k x : ℕ) → First m ws k x
first_of m ws k x =
    elim (first_below m ws k x x (omega arith)) [
      | inr r ↦ r
      | inl e ↦ record { at = x; least = omega arith; agree = λ n h. refl; fresh = e }
    ]

-- with word k the location at becomes fresh
record BecomesFresh (m : Moves) (ws : ℕ → Word) (k : ℕ) : Type 0 where
  at : ℕ
  within : at < m.size
  fresh : IsFresh m ws (suc k) at
  lesser : ℕ
  below : lesser < at
  agree : AgreeOn m ws k lesser at

-- y is the first that agrees with j before word k, which tells them apart
becomes : (m : Moves) (ws : ℕ → Word) (k j y : ℕ) → j < m.size → AgreeOn m ws k y j → IsFresh m ws k y
    → mark_after m y (ws k) ≢ mark_after m j (ws k) → BecomesFresh m ws k
becomes m ws k j y h a f n =
    let t = first_of m ws (suc k) j in
    let both : AgreeOn m ws k y t.at = λ v l. a v l ∙ sym (t.agree v (omega (arith, l))) in
    record {
      at = t.at;
      within = omega (arith, t.least, h);
      fresh = t.fresh;
      lesser = y;
      below = elim (cases_order y t.at) [
        | inl e ↦ absurd (n (ap (λ z. mark_after m z (ws k)) e ∙ t.agree k (omega arith)))
        | inr r ↦ elim r [
          | inl q ↦ q
          | inr q ↦ let z = f t.at q in absurd (z.differ (sym (both z.place z.within)))
        ]
      ];
      agree = both;
    }

splits : (m : Moves) (ws : ℕ → Word) (k i j : ℕ) → i < m.size → j < m.size → AgreeOn m ws k i j
    → mark_after m i (ws k) ≢ mark_after m j (ws k) → BecomesFresh m ws k
splits m ws k i j h l a n =
    let t = first_of m ws k i in
    elim (cases_eq (mark_after m t.at (ws k)) (mark_after m i (ws k))) [
      | inl e ↦ becomes m ws k j t.at l (λ v z. t.agree v z ∙ a v z) t.fresh (λ q. n (sym e ∙ q))
      | inr e ↦ becomes m ws k i t.at h t.agree t.fresh e
    ]

once : (m : Moves) (ws : ℕ → Word) (k l : ℕ) → k < l → (a : BecomesFresh m ws k) → (b : BecomesFresh m ws l) → a.at ≢ b.at
once m ws k l h a b e =
    let z = a.fresh b.lesser (subst (λ v. b.lesser < v) (sym e) b.below) in
    z.differ (b.agree z.place (omega (arith, z.within, h)) ∙ ap (λ v. mark_after m v (ws z.place)) (sym e))

-- what is chosen for each word of a list
record Chosen (m : Moves) (ws : ℕ → Word) (count k : ℕ) : Type 0 where
  at : ℕ
  fresh : k < count → (b : BecomesFresh m ws k) × (b.at ≡ at)

few : (m : Moves) (ws : ℕ → Word) (count : ℕ) → 0 < m.size → ((k : ℕ) → k < count → BecomesFresh m ws k) → count + 1 ≤ m.size
few m ws count s b =
    let r = no_more_than (m.size - 1) count (λ k. (pick k).at - 1) small apart in omega (arith, r, s)
  where
    pick : (k : ℕ) → Chosen m ws count k
    pick k = elim (cases_lt k count) [
      | inl h ↦ record { at = (b k h).at; fresh = λ _. (b k h, refl) }
      | inr h ↦ record { at = 0; fresh = λ l. absurd (omega (arith, h, l)) }
    ]

    small : (k : ℕ) → k < count → (pick k).at - 1 < m.size - 1
    small k h = let c = (pick k).fresh h in omega (arith, c.0.within, c.0.below, c.1)

    apart : (k l : ℕ) → k < l → l < count → (pick k).at - 1 ≢ (pick l).at - 1
    apart k l h q e =
        let c = (pick k).fresh (omega (arith, h, q)) in
        let d = (pick l).fresh q in
        once m ws k l h c.0 d.0 (omega (arith, c.0.below, c.1, d.0.below, d.1, e))

-- needed words in order are fewer than locations
pub needed_are_few : (p : ℕ) (m : Moves) (words : List Word) → 0 < m.size → AllPairs (λ u v. comes_before u v ≡ true) words → All (IsLeastForSome p m) words
    → length words + 1 ≤ m.size
needed_are_few p m words s order needed =
    few m (λ k. get_or words k []) (length words) s (λ k h.
    let n = needed k [] h in
    splits m (λ k. get_or words k []) k n.one n.other n.one_within n.other_within
    (λ v l. n.least.least (get_or words v []) ((needed v [] (omega (arith, l, h))).least.over) (order v k [] l h))
    n.least.differ)

-- distinguishing words are needed ones in order
pub telling_words_are_few : TellingWordsAreFew
telling_words_are_few p m words s t = needed_are_few p m words s t.order t.needed
