-- What a shift does to lists that hold each location once.
use Rattle.std.proofs.Common.{◌≡◌, ◌≢◌, ◌<◌, ◌≤◌, ◌+◌, ◌*◌, ◌^◌, ◌++◌, ◌==◌, ◌⊎◌, ℕ, zero, suc, Bool, true, false, cond, List, [], ◌∷◌, refl, sym, ◌∙◌, ap, subst, arith, inl, inr, length, length-append, map, if◌then◌else◌}
use Rattle.std.specs.Prelude.{slice_index_or, slice_set}
use Rattle.std.proofs.lemmas.Bool.{cases_eq, cases_Bool, eq-eqb, ne_eqb, false≢true}
use Rattle.std.proofs.lemmas.List.{get_or-set_same, get_or-set_other, length-set, get_or-map, length-map}
use Rattle.linked_blocks.specs.Lists.{holds, list_of, block_in, IsThere, without, shifted, IsOnce, HoldEach}
use Rattle.linked_blocks.proofs.LinkLemmas.{holds-head, holds-tail, holds-cases, lacks-cons, lacks-join, held-apart, holds-append, holds-left, holds-right}
use Rattle.linked_blocks.proofs.ListLemmas.{block_in-is, block_in-holds, without-lacks, without-split, holds-without, without-gone, once-without, once-push, split_at, length-split, once_short}

-- lists that hold each location in the block that it is said to be in
pub each_from : (size : ℕ) (lists : List (List ℕ)) (block : ℕ → ℕ)
    → ((b x : ℕ) → b < length lists → holds (list_of lists b) x ≡ true → (x < size) × (block x ≡ b))
    → ((x : ℕ) → x < size → (block x < length lists) × (holds (list_of lists (block x)) x ≡ true))
    → ((b : ℕ) → b < length lists → IsOnce (list_of lists b))
    → HoldEach size lists × ((x : ℕ) → x < size → block_in lists x ≡ block x)
each_from size lists block mine there once = (
  record {
    there = λ x h. let t = there x h in rw (is x h) t;
    within = λ b x h i. let t = mine b x h i in (t.0, is x t.0 ∙ t.1);
    once = once;
  },
  is,
)
  where
    is : (x : ℕ) → x < size → block_in lists x ≡ block x
    is x h =
        let t = there x h in
        block_in-is lists (block x) x t.0 t.1 (λ k l. elim (cases_Bool (holds (list_of lists k) x)) [
          | inl y ↦ let z = (mine k x (let m = t.0 in omega (arith, l, m)) y).1 in absurd (omega (arith, z, l))
          | inr f ↦ f
        ])

module _ (size : ℕ) (lists : List (List ℕ)) (at into : ℕ) (e : HoldEach size lists) (h : at < size) (l : into < length lists) (n : block_in lists at ≢ into) where
  outs : List (List ℕ)
  outs = map (without at) lists

  pub length-shifted : length (shifted lists at into) ≡ length lists
  length-shifted = length-set (map (without at) lists) into (list_of lists into ++ at ∷ []) ∙ length-map lists (without at)

  pub list-into : list_of (shifted lists at into) into ≡ list_of lists into ++ at ∷ []
  list-into = get_or-set_same (map (without at) lists) into (list_of lists into ++ at ∷ []) [] (rw (length-map lists (without at)) l)

  pub list-other : (b : ℕ) → b < length lists → b ≢ into → list_of (shifted lists at into) b ≡ without at (list_of lists b)
  list-other b m d = get_or-set_other (map (without at) lists) into b (list_of lists into ++ at ∷ []) [] d ∙ get_or-map (without at) lists b [] [] m

  pub lacks : (b : ℕ) → b < length lists → block_in lists at ≢ b → holds (list_of lists b) at ≡ false
  lacks b m d = elim (cases_Bool (holds (list_of lists b) at)) [
    | inl t ↦ absurd (d (e.within b at m t).1)
    | inr f ↦ f
  ]

  abbrev pub block_after : ℕ → ℕ
  block_after x = if x == at then into else block_in lists x

  mine : (b x : ℕ) → b < length (shifted lists at into) → holds (list_of (shifted lists at into) b) x ≡ true → (x < size) × (block_after x ≡ b)
  mine b x m t =
      let k : b < length lists = rw (length-shifted) at m in
      elim (cases_eq b into) [
        | inl q ↦
            elim (holds-append (list_of lists into) (at ∷ []) x (rw (q, list-into) at t)) [
              | inl y ↦
                  let z = e.within into x l y in
                  (z.0, rw (ne_eqb x at (λ w. n (ap (block_in lists) (sym w) ∙ z.1))) (z.1 ∙ sym q))
              | inr y ↦ elim (holds-cases at x [] y) [
                | inl w ↦ (rw (← w) h, rw (eq-eqb x at (sym w)) (sym q))
                | inr w ↦ absurd (false≢true w)
              ]
            ]
        | inr d ↦
            let y : holds (without at (list_of lists b)) x ≡ true = rw (list-other b k d) at t in
            let a = held-apart (without at (list_of lists b)) x at y (without-gone at (list_of lists b)) in
            let z = e.within b x k (sym (holds-without at x (list_of lists b) a) ∙ y) in
            (z.0, rw (ne_eqb x at a) z.1)
      ]

  there : (x : ℕ) → x < size → (block_after x < length (shifted lists at into)) × (holds (list_of (shifted lists at into) (block_after x)) x ≡ true)
  there x i = elim (cases_eq x at) [
    | inl q ↦ rw (eq-eqb x at q, length-shifted, list-into) (l, holds-right (list_of lists into) (at ∷ []) x (rw (q) (holds-head at [])))
    | inr d ↦
        let t = e.there x i in
        rw (ne_eqb x at d, length-shifted) (
          t.0,
          elim (cases_eq (block_in lists x) into) [
            | inl q ↦ rw (q, list-into) (holds-left (list_of lists into) (at ∷ []) x (subst (λ z. holds (list_of lists z) x ≡ true) q t.1))
            | inr f ↦ rw (list-other (block_in lists x) t.0 f) (holds-without at x (list_of lists (block_in lists x)) d ∙ t.1)
          ],
        )
  ]

  both : HoldEach size (shifted lists at into) × ((x : ℕ) → x < size → block_in (shifted lists at into) x ≡ block_after x)
  both = each_from size (shifted lists at into) block_after mine there (λ b m.
      let k : b < length lists = rw (length-shifted) at m in
      elim (cases_eq b into) [
        | inl q ↦ rw (q, list-into) (once-push (list_of lists into) at (e.once into l) (lacks into l n))
        | inr d ↦ rw (list-other b k d) (once-without at (list_of lists b) (e.once b k))
      ])

  -- each location is held once still, and only this one is in another block
  pub each-shifted : HoldEach size (shifted lists at into)
  each-shifted = both.0

  pub block-here : block_in (shifted lists at into) at ≡ into
  block-here = both.1 at h ∙ rw (eq-eqb at at refl) refl

  pub block-other : (x : ℕ) → x < size → x ≢ at → block_in (shifted lists at into) x ≡ block_in lists x
  block-other x i d = both.1 x i ∙ rw (ne_eqb x at d) refl

  -- how many locations the blocks have
  pub count-into : length (list_of (shifted lists at into) into) ≡ length (list_of lists into) + 1
  count-into = ap length list-into ∙ length-append (list_of lists into) (at ∷ [])

  pub count-from : length (list_of (shifted lists at into) (block_in lists at)) + 1 ≡ length (list_of lists (block_in lists at))
  count-from =
      let b = block_in lists at in
      let t = e.there at h in
      let p = split_at at (list_of lists b) t.1 (e.once b t.0) in
      let x : list_of (shifted lists at into) b ≡ p.front ++ p.back =
      list-other b t.0 n ∙ ap (without at) p.is ∙ without-split at p.front p.back p.front_lacks p.back_lacks in
      let y = ap length x in
      let z = ap length p.is in
      let w = length-split p.front at p.back in
      omega (arith, y, z, w)

  pub count-other : (b : ℕ) → b < length lists → b ≢ into → b ≢ block_in lists at → length (list_of (shifted lists at into) b) ≡ length (list_of lists b)
  count-other b m d f = ap length (list-other b m d ∙ without-lacks at (list_of lists b) (lacks b m (λ q. f (sym q))))
