-- There is one numbered least automaton for each set of marks.
use Rattle.std.proofs.Common.{◌≡◌, ℕ, zero, suc, ◌<◌, ◌≤◌, ◌^◌, [], ◌∷◌, ◌++◌, refl, sym, ◌∙◌, ap, arith, inl, inr}
use Rattle.std.proofs.lemmas.Bool.{cases_eq, cases_order}
use Rattle.std.proofs.lemmas.List.Elements.{All-cons, All-nil}
use Rattle.forms.specs.Word.{Word, IsOver}
use Rattle.forms.proofs.ShortlexLemmas.{before-neither}
use Rattle.automata.proofs.Order.{before-once}
use Rattle.automata.specs.Moves.{Moves, location_after, HaveSameMarksOver}
use Rattle.automata.specs.Numbering.{IsNumbered}
use Rattle.minimise.specs.Minimal.{IsLeast, LeastIsUnique}
use Rattle.automata.proofs.Words.{over-append, location_after-append, location_after-within}

-- the location of n to which the word of a location of m leads
abbrev across : (p : ℕ) (m n : Moves) → IsNumbered p m → ℕ → ℕ
across p m n a i = location_after n n.first (a.word i)

-- words that lead to one location of m lead to one location of n
same_target : (p : ℕ) (m n : Moves) → IsLeast p n → HaveSameMarksOver p m n → (u v : Word) → IsOver p u → IsOver p v
    → location_after m m.first u ≡ location_after m m.first v → location_after n n.first u ≡ location_after n n.first v
same_target p m n l alike u v h k e =
    elim (cases_eq (location_after n n.first u) (location_after n n.first v)) [
      | inl q ↦ q
      | inr q ↦
          let t = l.apart _ _ (location_after-within p n l.closed n.first u l.closed.first h) (location_after-within p n l.closed n.first v l.closed.first k) q in
          let x = alike (u ++ t.word) (over-append p u t.word h t.over) in
          let y = alike (v ++ t.word) (over-append p v t.word k t.over) in
          absurd (t.differ (
          sym (ap n.mark (location_after-append n n.first u t.word))
          ∙ sym x
          ∙ ap m.mark (location_after-append m m.first u t.word ∙ ap (λ z. location_after m z t.word) e ∙ sym (location_after-append m m.first v t.word))
          ∙ y
          ∙ ap n.mark (location_after-append n n.first v t.word)))
    ]

-- the least word of a location of m is the least word of the location across
same_word : (p : ℕ) (m n : Moves) → IsLeast p m → (a : IsNumbered p m) → IsLeast p n → (b : IsNumbered p n) → HaveSameMarksOver p m n → HaveSameMarksOver p n m
    → (i : ℕ) → i < m.size → a.word i ≡ b.word (across p m n a i)
same_word p m n l a g b alike ekila i h =
    let x = a.least i h in
    let within = location_after-within p n g.closed n.first (a.word i) g.closed.first x.over in
    let y = b.least (across p m n a i) within in
    let back : location_after m m.first (b.word (across p m n a i)) ≡ i =
    same_target p n m l ekila (b.word (across p m n a i)) (a.word i) y.over x.over y.leads ∙ x.leads in
    before-neither (a.word i) (b.word (across p m n a i)) (y.least (a.word i) x.over refl) (x.least (b.word (across p m n a i)) y.over back)

rises : (p : ℕ) (m n : Moves) → IsLeast p m → (a : IsNumbered p m) → IsLeast p n → (b : IsNumbered p n) → HaveSameMarksOver p m n → HaveSameMarksOver p n m
    → (i j : ℕ) → i < j → j < m.size → across p m n a i < across p m n a j
rises p m n l a g b alike ekila i j h k =
    let i2 : i < m.size = omega (arith, h, k) in
    let before = a.order i j h k in
    let x = same_word p m n l a g b alike ekila i i2 in
    let y = same_word p m n l a g b alike ekila j k in
    let within = location_after-within p n g.closed n.first (a.word i) g.closed.first (a.least i i2).over in
    elim (cases_order (across p m n a i) (across p m n a j)) [
      | inl e ↦ absurd (before-once (a.word i) (a.word j) before (rw (x ∙ ap b.word e ∙ sym y) (rw (x ∙ ap b.word e ∙ sym y) at before)))
      | inr r ↦ elim r [
        | inl q ↦ q
        | inr q ↦ absurd (before-once (a.word i) (a.word j) before (rw (x, y) (b.order _ _ q within)))
      ]
    ]

-- a rising function is nowhere below its argument
no_less : (f : ℕ → ℕ) (n : ℕ) → ((i j : ℕ) → i < j → j < n → f i < f j) → (i : ℕ) → i < n → i ≤ f i
no_less f n r zero h = omega arith
no_less f n r (suc i) h =
    let below = no_less f n r i (omega (arith, h)) in
    let step = r i (suc i) (omega arith) h in
    omega (arith, below, step)

-- so the location across has the same number
pub across-same : (p : ℕ) (m n : Moves) → IsLeast p m → (a : IsNumbered p m) → IsLeast p n → (b : IsNumbered p n) → HaveSameMarksOver p m n → HaveSameMarksOver p n m
    → (i : ℕ) → i < m.size → across p m n a i ≡ i
across-same p m n l a g b alike ekila i h =
    let x = a.least i h in
    let j = across p m n a i in
    let within = location_after-within p n g.closed n.first (a.word i) g.closed.first x.over in
    let up = no_less (across p m n a) m.size (rises p m n l a g b alike ekila) i h in
    let down = no_less (across p n m b) n.size (rises p n m g b l a ekila alike) j within in
    let back : across p n m b j ≡ i = ap (location_after m m.first) (sym (same_word p m n l a g b alike ekila i h)) ∙ x.leads in
    omega (arith, up, rw back at down)

-- a word leads to one number in both
one_number : (p : ℕ) (m n : Moves) → IsLeast p m → (a : IsNumbered p m) → IsLeast p n → (b : IsNumbered p n) → HaveSameMarksOver p m n → HaveSameMarksOver p n m
    → (w : Word) → IsOver p w → location_after m m.first w ≡ location_after n n.first w
one_number p m n l a g b alike ekila w o =
    let h = location_after-within p m l.closed m.first w l.closed.first o in
    let x = a.least (location_after m m.first w) h in
    sym (same_target p m n g alike w (a.word (location_after m m.first w)) o x.over (sym x.leads)
    ∙ across-same p m n l a g b alike ekila (location_after m m.first w) h)

-- each location of m is one of n
no_more : (p : ℕ) (m n : Moves) → IsLeast p m → (a : IsNumbered p m) → IsLeast p n → (b : IsNumbered p n) → HaveSameMarksOver p m n → HaveSameMarksOver p n m
    → (i : ℕ) → i < m.size → i < n.size
no_more p m n l a g b alike ekila i h =
    let within = location_after-within p n g.closed n.first (a.word i) g.closed.first (a.least i h).over in
    rw (across-same p m n l a g b alike ekila i h) at within

same_size : (x y : ℕ) → ((i : ℕ) → i < x → i < y) → ((i : ℕ) → i < y → i < x) → x ≡ y
same_size x y f g =
    elim (cases_order x y) [
      | inl e ↦ e
      | inr r ↦ elim r [
        | inl h ↦ absurd (omega (arith, g x h))
        | inr h ↦ absurd (omega (arith, f y h))
      ]
    ]

-- numbered least automata with the same marks after each word are the same
pub least_is_unique : LeastIsUnique
least_is_unique p m n l a g b alike =
    let ekila : HaveSameMarksOver p n m = λ w o. sym (alike w o) in
    let one = one_number p m n l a g b alike ekila in
    record {
      size = same_size m.size n.size (no_more p m n l a g b alike ekila) (no_more p n m g b l a ekila alike);
      first = one [] (λ k d h. absurd (omega (arith, h)));
      mark = λ i h.
          let x = a.least i h in
          sym (ap m.mark x.leads) ∙ alike (a.word i) x.over ∙ ap n.mark (sym (one (a.word i) x.over) ∙ x.leads);
      next = λ i c h k.
          let x = a.least i h in
          let w = a.word i ++ c ∷ [] in
          let o = over-append p (a.word i) (c ∷ []) x.over (All-cons (λ z. z < 2 ^ p) c [] k (All-nil (λ z. z < 2 ^ p))) in
          sym (location_after-append m m.first (a.word i) (c ∷ []) ∙ ap (λ z. m.next z c) x.leads)
          ∙ one w o
          ∙ location_after-append n n.first (a.word i) (c ∷ []) ∙ ap (λ z. n.next z c) (sym (one (a.word i) x.over) ∙ x.leads);
    }
