-- Groups part from the others one after another.
use Rattle.std.proofs.Common.{◌≡◌, ◌≢◌, ◌<◌, ◌+◌, ℕ, true, false, List, sym, ◌∙◌, ap, arith, inl, inr, length}
use Rattle.std.proofs.lemmas.Bool.{cases_Bool, cases_lt, false≢true}
use Rattle.diagrams.specs.declared.top.Id.{Id}
use Rattle.linked_blocks.specs.Lists.{holds, list_of, IsOnce}
use Rattle.class_laws.specs.Splits.{IsSplit}
use Rattle.class_laws.specs.Shifts.{IsGroup, IsParted}
use Rattle.class_laws.specs.Current.{AreChanges}

-- the first so many groups have parted from the others of their blocks
pub record IsSplitting (size : ℕ) (old cur : ℕ → ℕ) (key : ℕ → Id) (groups : List (List ℕ)) (count : ℕ) : Type 0 where
  pub finer : (i j : ℕ) → i < size → j < size → cur i ≡ cur j → old i ≡ old j
  pub whole : (i j : ℕ) → i < size → j < size → old i ≡ old j → key i ≡ key j → cur i ≡ cur j
  pub alone : (g i j : ℕ) → g < count → holds (list_of groups g) i ≡ true → i < size → j < size → cur i ≡ cur j → key i ≡ key j

pub splitting_none : (size : ℕ) (old : ℕ → ℕ) (key : ℕ → Id) (groups : List (List ℕ)) → IsSplitting size old old key groups 0
splitting_none size old key groups = record {
  finer = λ i j h l e. e;
  whole = λ i j h l e k. e;
  alone = λ g i j h. absurd (omega (arith, h));
}

-- a group of the blocks at first is one of the blocks now
pub group_now : (size : ℕ) (old cur : ℕ → ℕ) (key : ℕ → Id) (groups : List (List ℕ)) (count : ℕ) (group : List ℕ) → IsSplitting size old cur key groups count
    → IsGroup size old key group → IsGroup size cur key group
group_now size old cur key groups count group s g = record {
  some = g.some;
  once = g.once;
  within = g.within;
  same = λ i j h l. let e = g.same i j h l in (s.whole i j (g.within i h) (g.within j l) e.0 e.1, e.1);
  all = λ i j h l e k. g.all i j h l (s.finer i j (g.within i h) l e) k;
}

-- a group in which two locations are together or not as their keys are
group-whole : (size : ℕ) (old : ℕ → ℕ) (key : ℕ → Id) (group : List ℕ) → IsGroup size old key group → (i j : ℕ) → i < size → j < size → old i ≡ old j → key i ≡ key j
    → holds group i ≡ holds group j
group-whole size old key group g i j h l e k = elim (cases_Bool (holds group i)) [
  | inl t ↦ t ∙ sym (g.all i j t l e k)
  | inr f ↦ elim (cases_Bool (holds group j)) [
    | inl u ↦ absurd (false≢true (sym f ∙ g.all j i u h (sym e) (sym k)))
    | inr u ↦ f ∙ sym u
  ]
]

pub splitting_more : (size : ℕ) (old cur new : ℕ → ℕ) (key : ℕ → Id) (groups : List (List ℕ)) (count : ℕ) → IsSplitting size old cur key groups count
    → IsGroup size old key (list_of groups count) → IsParted size cur new (list_of groups count) → IsSplitting size old new key groups (count + 1)
splitting_more size old cur new key groups count s g p = record {
  finer = λ i j h l e. s.finer i j h l (p.same i j h l e).0;
  whole = λ i j h l e k. p.one i j h l (s.whole i j h l e k) (group-whole size old key (list_of groups count) g i j h l e k);
  alone = alone;
}
  where
    alone : (n i j : ℕ) → n < count + 1 → holds (list_of groups n) i ≡ true → i < size → j < size → new i ≡ new j → key i ≡ key j
    alone n i j h t b l e = elim (cases_lt n count) [
      | inl m ↦ s.alone n i j m t b l (p.same i j b l e).0
      | inr m ↦
          let q : n ≡ count = omega (arith, h, m) in
          let u : holds (list_of groups count) i ≡ true = ap (λ z. holds (list_of groups z) i) (sym q) ∙ t in
          (g.same i j u (sym (p.same i j b l e).1 ∙ u)).1
    ]

-- when all changes are in groups that have parted, the blocks go by the old blocks and the keys
pub splitting_ends : (size : ℕ) (old new : ℕ → ℕ) (key : ℕ → Id) (groups : List (List ℕ)) (changed : List ℕ) → IsSplitting size old new key groups (length groups)
    → AreChanges size old key changed → ((x : ℕ) → holds changed x ≡ true → (g : ℕ) × (g < length groups) × (holds (list_of groups g) x ≡ true)) → IsSplit size old new key
splitting_ends size old new key groups changed s c f = record {
  same = λ i j h l e. (
    s.finer i j h l e,
    elim (cases_Bool (holds changed i)) [
      | inl t ↦ let g = f i t in s.alone g.0 i j g.1 g.2 h l e
      | inr t ↦ elim (cases_Bool (holds changed j)) [
        | inl u ↦ let g = f j u in sym (s.alone g.0 j i g.1 g.2 l h (sym e))
        | inr u ↦ c.rest i j h l t u (s.finer i j h l e)
      ]
    ],
  );
  one = s.whole;
}

-- what changed in a look
pub record IsLook (size : ℕ) (old rows : ℕ → Id) (changed : List ℕ) : Type 0 where
  pub once : IsOnce changed
  pub within : (x : ℕ) → holds changed x ≡ true → x < size
  pub differ : (x : ℕ) → holds changed x ≡ true → rows x ≢ old x
  pub same : (x : ℕ) → x < size → holds changed x ≡ false → rows x ≡ old x

-- where each block had one row, these are changes
pub look_changes : (size : ℕ) (block : ℕ → ℕ) (old rows : ℕ → Id) (changed : List ℕ) → ((i j : ℕ) → i < size → j < size → block i ≡ block j → old i ≡ old j)
    → IsLook size old rows changed → AreChanges size block rows changed
look_changes size block old rows changed one k = record {
  once = k.once;
  within = k.within;
  apart = λ i j t l f e q. k.differ i t (q ∙ k.same j l f ∙ one j i l (k.within i t) (sym e));
  rest = λ i j h l t u e. k.same i h t ∙ one i j h l e ∙ sym (k.same j l u);
}
