-- One group parts from the others of its block.
use Rattle.std.proofs.Common.{◌≡◌, ◌≢◌, ◌<◌, ◌≤◌, ◌+◌, ◌*◌, ◌^◌, ◌++◌, ℕ, zero, suc, true, false, List, [], ◌∷◌, refl, sym, ◌∙◌, ap, arith, inl, inr, length, map}
use Rattle.std.specs.Prelude.{slice_index}
use Rattle.std.specs.List.{range_with_len}
use Rattle.std.proofs.lemmas.Bool.{cases_eq, cases_Bool, false≢true}
use Rattle.std.proofs.lemmas.List.FromFn.{length-map-range_with_len}
use Rattle.linked_blocks.specs.Lists.{Lists, holds, list_of, block_in, without, IsOnce, HoldEach}
use Rattle.linked_blocks.proofs.LinkLemmas.{holds-head, holds-tail, holds-cases, lacks-cons, lacks-append, holds-append, holds-left, held-apart}
use Rattle.linked_blocks.proofs.ListLemmas.{once_short, split_at, length-split, once-without, holds-without, without-split}
use Rattle.class_laws.specs.Classes.{AreFull, IsPaid}
use Rattle.class_laws.specs.Shifts.{AreShifted, AreOf, IsParted, AreNoted, AreHalved}
use Rattle.class_laws.proofs.Paid.{paid_more, paid_few}
use Rattle.class_laws.proofs.ShiftAll.{holds-place}

-- different locations that another list has are no more than it has
pub once-few : (xs ys : List ℕ) → IsOnce xs → IsOnce ys → ((x : ℕ) → holds xs x ≡ true → holds ys x ≡ true) → length xs ≤ length ys
once-few [] ys o p f = omega arith
once-few (x ∷ xs) ys o p f =
    let s = split_at x ys (f x (holds-head x xs)) p in
    let e : without x ys ≡ s.front ++ s.back = ap (without x) s.is ∙ without-split x s.front s.back s.front_lacks s.back_lacks in
    let r = once-few xs (without x ys) o.1 (once-without x ys p) (λ y h.
    holds-without x y ys (held-apart xs y x h o.0) ∙ f y (holds-tail x y xs h)) in
    let a = length-split s.front x s.back in
    let b = ap length s.is in
    let c = ap length e in
    omega (arith, r, a, b, c)

-- as many of them are all of them
pub once-all : (xs ys : List ℕ) → IsOnce xs → IsOnce ys → ((x : ℕ) → holds xs x ≡ true → holds ys x ≡ true) → length xs ≡ length ys
    → (y : ℕ) → holds ys y ≡ true → holds xs y ≡ true
once-all xs ys o p f e y h = elim (cases_Bool (holds xs y)) [
  | inl t ↦ t
  | inr g ↦
      let r = once-few (y ∷ xs) ys (g, o) p (λ x i. elim (holds-cases y x xs i) [ inl q ↦ rw (← q) h | inr t ↦ f x t ]) in
      absurd (omega (arith, r, e))
]

pub holds-map : (f g : ℕ → ℕ) (i n x : ℕ) → ((k : ℕ) → i ≤ k → k < i + n → g (f k) ≡ k) → holds (map f (range_with_len i n)) x ≡ true → (i ≤ g x) × (g x < i + n) × (f (g x) ≡ x)
holds-map f g i zero x e h = absurd (false≢true h)
holds-map f g i (suc n) x e h = elim (holds-cases (f i) x (map f (range_with_len (i + 1) n)) h) [
  | inl q ↦
      let b : g x ≡ i = ap g (sym q) ∙ e i (omega arith) (omega arith) in
      (omega (arith, b), omega (arith, b), ap f b ∙ q)
  | inr t ↦
      let r = holds-map f g (i + 1) n x (λ k l m. e k (omega (arith, l)) (omega (arith, m))) t in
      let a = r.0 in
      let b = r.1 in
      (omega (arith, a), omega (arith, b), r.2)
]

pub once-map : (f g : ℕ → ℕ) (i n : ℕ) → ((k : ℕ) → i ≤ k → k < i + n → g (f k) ≡ k) → IsOnce (map f (range_with_len i n))
once-map f g i zero e = tt
once-map f g i (suc n) e = (
  elim (cases_Bool (holds (map f (range_with_len (i + 1) n)) (f i))) [
    | inr x ↦ x
    | inl t ↦
        let r = holds-map f g (i + 1) n (f i) (λ k l m. e k (omega (arith, l)) (omega (arith, m))) t in
        let a = r.0 in
        let b = e i (omega arith) (omega arith) in
        absurd (omega (arith, a, b))
  ],
  once-map f g (i + 1) n (λ k l m. e k (omega (arith, l)) (omega (arith, m))),
)

-- where no block is empty and one has two locations there are fewer blocks than locations
pub room : (size : ℕ) (lists : List (List ℕ)) (b : ℕ) → HoldEach size lists → AreFull lists → b < length lists → 1 < length (list_of lists b) → length lists < size
room size lists b e full h two =
    let first : ℕ → ℕ = λ k. slice_index (list_of lists k) 0 in
    let back : (k : ℕ) → 0 ≤ k → k < 0 + length lists → block_in lists (first k) ≡ k =
    λ k l m. let i : k < length lists = omega (arith, m) in (e.within k (first k) i (holds-place (list_of lists k) 0 (full k i))).1 in
    let x = slice_index (list_of lists b) 1 in
    let w = e.within b x h (holds-place (list_of lists b) 1 two) in
    let firsts = map first (range_with_len 0 (length lists)) in
    let new : holds firsts x ≡ false = elim (cases_Bool (holds firsts x)) [
      | inr f ↦ f
      | inl t ↦
          let r = holds-map first (block_in lists) 0 (length lists) x back t in
          absurd (first-second (list_of lists b) (e.once b h) two (ap first (sym w.1) ∙ r.2))
    ] in
    let s = once_short size (x ∷ firsts) (new, once-map first (block_in lists) 0 (length lists) back) (λ y i. elim (holds-cases x y firsts i) [
      | inl q ↦ rw (← q) w.0
      | inr t ↦
          let r = holds-map first (block_in lists) 0 (length lists) y back t in
          let k = block_in lists y in
          let m : k < length lists = let a = r.1 in omega (arith, a) in
          rw (← r.2) (e.within k (first k) m (holds-place (list_of lists k) 0 (full k m))).0
    ]) in
    let l = length-map-range_with_len first 0 (length lists) in
    omega (arith, s, l)
  where
    first-second : (xs : List ℕ) → IsOnce xs → 1 < length xs → slice_index xs 0 ≡ slice_index xs 1 → ⊥
    first-second [] o l q = omega (arith, l)
    first-second (y ∷ []) o l q = omega (arith, l)
    first-second (y ∷ z ∷ xs) o l q = (lacks-cons z y xs o.0).0 (sym q)

-- there is room for the moves of one block
pub moves_small : (size : ℕ) (lists : List (List ℕ)) (moves n : ℕ) → size < 2 ^ 32 → HoldEach size lists → IsPaid size lists moves → n ≤ size → moves + n < 2 ^ 64
moves_small size lists moves n h e p l = let f = paid_few size lists moves e p 32 h in omega (arith, f, h, l)

module _ (size from : ℕ) (old new : Lists) (moving group before after : List ℕ) (e : HoldEach size old.lists) (full : AreFull old.lists) (paid : IsPaid size old.lists old.moves)
    (h : from < length old.lists) (of : AreOf size from old.lists moving) (few : 2 * length moving ≤ length (list_of old.lists from)) (some : 0 < length moving)
    (in-block : (x : ℕ) → holds group x ≡ true → (x < size) × (block_in old.lists x ≡ from))
    (char : (i j : ℕ) → i < size → j < size → block_in old.lists i ≡ from → block_in old.lists j ≡ from
    → (holds moving i ≡ holds moving j → holds group i ≡ holds group j) × (holds group i ≡ holds group j → holds moving i ≡ holds moving j))
    (s : AreShifted size from old new moving) where
  pub full-after : AreFull new.lists
  full-after b l = elim (cases_eq b (length old.lists)) [
    | inl q ↦ rw (q, s.into) some
    | inr d ↦
        let m : b < length old.lists = let n = s.number in omega (arith, l, d, n) in
        elim (cases_eq b from) [
          | inl q ↦ rw (q) (let a = s.from_less in omega (arith, a, few, some))
          | inr f ↦ rw (s.others b m f) (full b m)
        ]
  ]

  half-moved : (x : ℕ) → holds moving x ≡ true → (x < size) × (length (list_of new.lists (block_in new.lists x)) * 2 ≤ length (list_of old.lists (block_in old.lists x)))
  half-moved x t = let w = of.within x t in (w.0, rw (s.moved x w.0 t, s.into, w.1) (omega (arith, few)))

  no-larger : (x : ℕ) → x < size → holds moving x ≡ false → length (list_of new.lists (block_in new.lists x)) ≤ length (list_of old.lists (block_in old.lists x))
  no-larger x l f =
      let b = block_in old.lists x in
      rw (s.stays x l f) (elim (cases_eq b from) [
        | inl q ↦ rw (q) (let a = s.from_less in omega (arith, a))
        | inr d ↦ let a = s.others b (e.there x l).0 d in omega (arith, a)
      ])

  pub paid-after : IsPaid size new.lists new.moves
  paid-after = paid_more size old.moves new.moves old.lists new.lists moving paid of.once half-moved no-larger s.moves

  pub halved-after : AreHalved size old.lists new.lists
  halved-after = record {
    small = λ x l. elim (cases_Bool (holds moving x)) [
      | inl t ↦ let a = (half-moved x t).1 in omega (arith, a)
      | inr f ↦ no-larger x l f
    ];
    half = λ x l n. elim (cases_Bool (holds moving x)) [
      | inl t ↦ (half-moved x t).1
      | inr f ↦ absurd (n (s.stays x l f))
    ];
  }

  lacks-group : (x : ℕ) → block_in old.lists x ≢ from → holds group x ≡ false
  lacks-group x n = elim (cases_Bool (holds group x)) [ inl t ↦ absurd (n (in-block x t).1) | inr f ↦ f ]

  lacks-moving : (x : ℕ) → block_in old.lists x ≢ from → holds moving x ≡ false
  lacks-moving x n = elim (cases_Bool (holds moving x)) [ inl t ↦ absurd (n (of.within x t).1) | inr f ↦ f ]

  fresh : (i j : ℕ) → i < size → j < size → holds moving i ≡ true → holds moving j ≡ false → new.lists ≡ new.lists → block_in new.lists i ≢ block_in new.lists j
  fresh i j l m t f r q =
      let a = s.moved i l t in
      let b = s.stays j m f in
      let c = (e.there j m).0 in
      absurd (omega (arith, a, b, c, q))

  parted-same : (i j : ℕ) → i < size → j < size → block_in new.lists i ≡ block_in new.lists j → (block_in old.lists i ≡ block_in old.lists j) × (holds group i ≡ holds group j)
  parted-same i j l m q = elim (cases_Bool (holds moving i)) [
    | inl t ↦ elim (cases_Bool (holds moving j)) [
      | inl u ↦
          let a = (of.within i t).1 in
          let b = (of.within j u).1 in
          (a ∙ sym b, (char i j l m a b).0 (t ∙ sym u))
      | inr u ↦ absurd (fresh i j l m t u refl q)
    ]
    | inr t ↦ elim (cases_Bool (holds moving j)) [
      | inl u ↦ absurd (fresh j i m l u t refl (sym q))
      | inr u ↦
          let o = sym (s.stays i l t) ∙ q ∙ s.stays j m u in (
            o,
            elim (cases_eq (block_in old.lists i) from) [
              | inl a ↦ (char i j l m a (sym o ∙ a)).0 (t ∙ sym u)
              | inr n ↦ lacks-group i n ∙ sym (lacks-group j (λ z. n (o ∙ z)))
            ],
          )
    ]
  ]

  parted-one : (i j : ℕ) → i < size → j < size → block_in old.lists i ≡ block_in old.lists j → holds group i ≡ holds group j → block_in new.lists i ≡ block_in new.lists j
  parted-one i j l m o g =
      let same : holds moving i ≡ holds moving j = elim (cases_eq (block_in old.lists i) from) [
        | inl a ↦ (char i j l m a (sym o ∙ a)).1 g
        | inr n ↦ lacks-moving i n ∙ sym (lacks-moving j (λ z. n (o ∙ z)))
      ] in
      elim (cases_Bool (holds moving i)) [
        | inl t ↦ s.moved i l t ∙ sym (s.moved j m (sym same ∙ t))
        | inr t ↦ s.stays i l t ∙ o ∙ sym (s.stays j m (sym same ∙ t))
      ]

  pub parted-after : IsParted size (block_in old.lists) (block_in new.lists) group
  parted-after = record { same = parted-same; one = parted-one }

  pub noted-after : after ≡ before ++ moving → AreNoted size old.lists new.lists before after
  noted-after a = record {
    kept = λ x t. rw (a) (holds-left before moving x t);
    rest = λ x l f. s.stays x l (lacks-append before moving x (rw (a) at f)).1;
    within = λ w x t. elim (holds-append before moving x (rw (a) at t)) [ inl u ↦ w x u | inr u ↦ (of.within x u).0 ];
    more = let n = s.number in (omega (arith, n), λ z. omega (arith, n));
  }
