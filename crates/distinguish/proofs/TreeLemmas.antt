-- New blocks of one old block as a tree: a location is compared with those on its way down alone.
use Rattle.std.proofs.Common.{◌≡◌, ◌<◌, ◌≤◌, ◌+◌, ◌++◌, ◌⊎◌, ℕ, Bool, List, [], ◌∷◌, Option, Some, None, sym, ◌∙◌, ap, subst, arith, inl, inr, length, true, false}
use Rattle.std.specs.Prelude.{AllPairs, Any, Contains, slice_index, slice_index_or, cond}
use Rattle.std.proofs.lemmas.Bool.{cases_order, cases_Bool, true≢false, and_parts, eqb-true}
use Rattle.std.proofs.lemmas.List.Elements.{All-push, Contains-append_left, Contains-push}
use Rattle.std.proofs.lemmas.Option.{none-some, same_Some}
use Rattle.forms.specs.Word.{Word}
use Rattle.forms.specs.Shortlex.{comes_before}
use Rattle.forms.proofs.ShortlexLemmas.{before-trans, before-not_itself, before-total}
use Rattle.automata.specs.Moves.{Moves}
use Rattle.automata.proofs.FindingLemmas.{place_cases}
use Rattle.distinguish.specs.declared.steps.Step.{Step}
use Rattle.distinguish.specs.declared.steps.Branch.{Branch}
use Rattle.distinguish.specs.contracts.steps.BranchPartialEq.TheImpl as branch_eq
use Rattle.distinguish.specs.Telling.{IsLeastDistinguishing}
use Rattle.distinguish.specs.Steps.{word_of, IsStepFor, IsStep, AreSteps}
use Rattle.distinguish.specs.Trees.{IsBelow, here, down, IsBranch, IsTreeFor}
use Rattle.distinguish.proofs.ListLemmas.{any_left}
use Rattle.distinguish.proofs.RoundLemmas.{step_same}
use Rattle.distinguish.proofs.WordLemmas.{least_swap}

-- of the least words that tell i from x and from y, one that comes before the other is the least that tells x from y
earlier_tells : (p : ℕ) (m : Moves) (i x y : ℕ) (u v : Word) → IsLeastDistinguishing p m i x u → IsLeastDistinguishing p m i y v → comes_before u v ≡ true
    → IsLeastDistinguishing p m x y u
earlier_tells p m i x y u v a b h = record {
  over = a.over;
  differ = λ q. a.differ (b.least u a.over h ∙ sym q);
  least = λ w o k. sym (a.least w o k) ∙ b.least w o (before-trans w u v k h);
}

-- a list in order has no word twice
place_once : (words : List Word) → AllPairs (λ u v. comes_before u v ≡ true) words → (i j : ℕ) → j < length words
    → slice_index_or words i [] ≡ slice_index_or words j [] → i < j → ⊥
place_once words order i j k e h =
    true≢false (sym (order i j [] h k) ∙ ap (λ w. comes_before w (slice_index_or words j [])) e ∙ before-not_itself (slice_index_or words j []))

cons_parts : (a b : ℕ) (u v : Word) → a ∷ u ≡ b ∷ v → (a ≡ b) × (u ≡ v)
cons_parts a b u v e = (cc, cc)

-- whether two branches are the same
abbrev pub same_branch : Branch → Branch → Bool
same_branch = (branch_eq.ghosts).eq

-- branches that are the same are equal
branch_true : (a b : Branch) → same_branch a b ≡ true → a ≡ b
branch_true a b e =
    let p = and_parts _ _ e in
    let from : a.from ≡ b.from = eqb-true a.from b.from p.0 in
    let step : a.step ≡ b.step = step_same a.step b.step p.1 in
    λ d. record { from = from d; step = step d }

branch_same : (a : Branch) → same_branch a a ≡ true
branch_same a = grind arith

-- what a step of a list is for tells some item of it
any_of : (P : Step → Type 0) (steps : List Step) (step : Step) → Contains steps step → P step → Any P steps
any_of P steps step c f = (c.0, step, c.1, c.2, f)

-- the branches of one tree are among those of the other
abbrev pub HasBranches : (Branch → Option ℕ) → (Branch → Option ℕ) → Type 0
HasBranches old new = (b : Branch) (to : ℕ) → old b ≡ Some to → new b ≡ Some to

-- a location is below in a tree with more branches
below_grows : (p : ℕ) (m : Moves) (words : List Word) (old new : Branch → Option ℕ) → HasBranches old new → (x from : ℕ) → IsBelow p m words old x from → IsBelow p m words new x from
below_grows p m words old new grows x from here = here
below_grows p m words old new grows x from (down {to = to} told e r) = down told (grows _ to e) (below_grows p m words old new grows x to r)

-- on the way down from the old block's name: each lesser name is told from the location, or is below
pub record IsOnWay (p : ℕ) (m : Moves) (blocks next : List ℕ) (words : List Word) (target : Branch → Option ℕ) (steps : List Step) (at from : ℕ) : Type 0 where
  pub lesser : from < at
  pub same : slice_index blocks from ≡ slice_index blocks at
  pub name : slice_index next from ≡ from
  pub others : (x : ℕ) → x < at → slice_index next x ≡ x → slice_index blocks x ≡ slice_index blocks at
      → Any (IsStepFor p m words x at) steps ⊎ IsBelow p m words target x from
  pub way : (more : Branch → Option ℕ) → HasBranches target more → IsBelow p m words more at from → IsBelow p m words more at (slice_index blocks at)

module _ (p : ℕ) (m : Moves) (blocks next : List ℕ) (words : List Word) (order : AllPairs (λ u v. comes_before u v ≡ true) words) where
  -- steps with one word are one
  word_once : (a b : Step) → a.rest < length words → b.rest < length words → word_of words a ≡ word_of words b → a ≡ b
  word_once a b h k e =
      let parts = cons_parts a.letter b.letter (slice_index_or words a.rest []) (slice_index_or words b.rest []) e in
      let rest : a.rest ≡ b.rest = elim (cases_order a.rest b.rest) [
        | inl q ↦ q
        | inr (inl q) ↦ absurd (place_once words order a.rest b.rest k parts.1 q)
        | inr (inr q) ↦ absurd (place_once words order b.rest a.rest h (sym parts.1) q)
      ] in
      λ d. record { letter = parts.0 d; rest = rest d }

  -- of different steps from one location one is the step of the two others
  step_between : (i x y : ℕ) (a b : Step) → IsStepFor p m words i x a → IsStepFor p m words i y b → (a ≡ b) ⊎ (IsStepFor p m words x y a ⊎ IsStepFor p m words x y b)
  step_between i x y a b f g =
      elim (before-total (word_of words a) (word_of words b)) [
        | inl e ↦ inl (word_once a b f.rest g.rest e)
        | inr (inl h) ↦ inr (inl (record { rest = f.rest; least = earlier_tells p m i x y (word_of words a) (word_of words b) f.least g.least h }))
        | inr (inr h) ↦
            inr (inr (record {
              rest = g.rest;
              least = least_swap p m y x (word_of words b) (earlier_tells p m i y x (word_of words b) (word_of words a) g.least f.least h);
            }))
      ]

  -- a location below is told apart by a step of the list, or it is below where the branch of the step leads
  told_or_below : (target : Branch → Option ℕ) (steps : List Step) (at from x : ℕ) (step : Step)
      → ((i to : ℕ) (s : Step) → target (record { from = i; step = s }) ≡ Some to → Contains steps s) → Contains steps step
      → IsStepFor p m words from at step → IsBelow p m words target x from
      → Any (IsStepFor p m words x at) steps ⊎ ((to : ℕ) × (target (record { from = from; step = step }) ≡ Some to) × IsBelow p m words target x to)
  told_or_below target steps at from x step listed found f here = inl (any_of (IsStepFor p m words x at) steps step found f)
  told_or_below target steps at from x step listed found f (down {to = to} {step = own} told e r) =
      elim (step_between from x at own step told f) [
        | inl q ↦ inr (to, ap (λ s. target (record { from = from; step = s })) (sym q) ∙ e, r)
        | inr (inl g) ↦ inl (any_of (IsStepFor p m words x at) steps own (listed from to own e) g)
        | inr (inr g) ↦ inl (any_of (IsStepFor p m words x at) steps step found g)
      ]

module _ (p : ℕ) (m : Moves) (blocks next : List ℕ) (words : List Word) (order : AllPairs (λ u v. comes_before u v ≡ true) words)
    (target : Branch → Option ℕ) (steps : List Step) (at : ℕ) (tree : IsTreeFor p m blocks next words target steps at) where
  -- the way begins at the old block's name
  pub way_begins : slice_index blocks at < at → slice_index blocks (slice_index blocks at) ≡ slice_index blocks at
      → slice_index next (slice_index blocks at) ≡ slice_index blocks at → IsOnWay p m blocks next words target steps at (slice_index blocks at)
  way_begins lesser own name = record {
    lesser = lesser;
    same = own;
    name = name;
    others = λ x h fx e. inr (subst (IsBelow p m words target x) e (tree.below x h fx));
    way = λ more has r. r;
  }

  -- and goes on down a branch
  pub way_goes : (from to : ℕ) (step : Step) → IsOnWay p m blocks next words target steps at from → IsStepFor p m words from at step
      → target (record { from = from; step = step }) ≡ Some to → IsOnWay p m blocks next words target steps at to
  way_goes from to step w f e = record {
    lesser = b.within;
    same = sym b.same ∙ w.same;
    name = b.name;
    others = λ x h fx q. elim (w.others x h fx q) [
      | inl a ↦ inl a
      | inr r ↦ elim (told_or_below p m blocks next words order target steps at from x step (λ i t s z. (tree.branch i t s z).listed) b.listed f r) [
        | inl a ↦ inl a
        | inr z ↦ inr (subst (IsBelow p m words target x) (same_Some z.0 to (sym z.1 ∙ e)) z.2)
      ]
    ];
    way = λ more has r. w.way more has (down f (has (record { from = from; step = step }) to e) r);
  }
    where
      b : IsBranch blocks next steps at from to step
      b = tree.branch from to step e

  -- to a new branch
  module _ (from : ℕ) (step : Step) (new : Branch → Option ℕ) (w : IsOnWay p m blocks next words target steps at from) (f : IsStepFor p m words from at step)
      (none : target (record { from = from; step = step }) ≡ None)
      (up : (b : Branch) → new b ≡ cond (same_branch (record { from = from; step = step }) b) (Some at) (target b))
      (within : at < m.size) (name : slice_index next at ≡ at) where
    new-branch : new (record { from = from; step = step }) ≡ Some at
    new-branch =
        let b : Branch = record { from = from; step = step } in
        up b ∙ ap (λ z. cond z (Some at) (target b)) (branch_same b)

    old-branch : (b : Branch) → same_branch (record { from = from; step = step }) b ≡ false → new b ≡ target b
    old-branch b q = up b ∙ ap (λ z. cond z (Some at) (target b)) q

    has-branches : HasBranches target new
    has-branches b to e = elim (cases_Bool (same_branch (record { from = from; step = step }) b)) [
      | inl q ↦ absurd (none-some to (sym none ∙ ap target (branch_true (record { from = from; step = step }) b q) ∙ e))
      | inr q ↦ old-branch b q ∙ e
    ]

    told : (x : ℕ) → x < at → slice_index next x ≡ x → slice_index blocks x ≡ slice_index blocks at → Any (IsStepFor p m words x at) (steps ++ step ∷ [])
    told x h fx q = elim (w.others x h fx q) [
      | inl a ↦ any_left (IsStepFor p m words x at) steps (step ∷ []) a
      | inr r ↦
          elim (told_or_below p m blocks next words order target (steps ++ step ∷ []) at from x step
          (λ i t s z. Contains-append_left steps (step ∷ []) s (tree.branch i t s z).listed) (Contains-push steps step) f r) [
            | inl a ↦ a
            | inr z ↦ absurd (none-some z.0 (sym none ∙ z.1))
          ]
    ]

    all-steps : AreSteps p m blocks next words (at + 1) (steps ++ step ∷ [])
    all-steps = record {
      right = All-push (IsStep p m blocks words) steps step tree.all.right
          (record { one = from; other = at; one_within = omega (arith, w.lesser, within); other_within = within; same = w.same; tells = f });
      whole = λ x y h l fx fy q. elim (place_cases y at l) [
        | inl k ↦ any_left (IsStepFor p m words x y) steps (step ∷ []) (tree.all.whole x y h k fx fy q)
        | inr e ↦
            subst (λ z. Any (IsStepFor p m words x z) (steps ++ step ∷ [])) (sym e)
            (told x (omega (arith, h, e)) fx (q ∙ ap (slice_index blocks) e))
      ];
    }

    all-branches : (i to : ℕ) (s : Step) → new (record { from = i; step = s }) ≡ Some to → IsBranch blocks next (steps ++ step ∷ []) (at + 1) i to s
    all-branches i to s e = elim (cases_Bool (same_branch (record { from = from; step = step }) (record { from = i; step = s }))) [
      | inl q ↦
          let b = branch_true (record { from = from; step = step }) (record { from = i; step = s }) q in
          let begin : from ≡ i = ap (λ z. z.from) b in
          let own : step ≡ s = ap (λ z. z.step) b in
          let end : at ≡ to = same_Some at to (sym new-branch ∙ ap new b ∙ e) in
          record {
            later = omega (arith, w.lesser, begin, end);
            within = omega (arith, end);
            same = ap (slice_index blocks) (sym begin) ∙ w.same ∙ ap (slice_index blocks) end;
            name = ap (slice_index next) (sym end) ∙ name ∙ end;
            listed = subst (Contains (steps ++ step ∷ [])) own (Contains-push steps step);
          }
      | inr q ↦
          let b = tree.branch i to s (sym (old-branch (record { from = i; step = s }) q) ∙ e) in
          record {
            later = b.later;
            within = omega (arith, b.within);
            same = b.same;
            name = b.name;
            listed = Contains-append_left steps (step ∷ []) s b.listed;
          }
    ]

    -- with the new branch it is a tree as far as the next location
    pub way_ends : IsTreeFor p m blocks next words new (steps ++ step ∷ []) (at + 1)
    way_ends = record {
      all = all-steps;
      branch = all-branches;
      below = λ x l fx. elim (place_cases x at l) [
        | inl h ↦ below_grows p m words target new has-branches x (slice_index blocks x) (tree.below x h fx)
        | inr e ↦ subst (λ z. IsBelow p m words new z (slice_index blocks z)) (sym e) (w.way new has-branches (down f new-branch here))
      ];
    }

-- a location that is the name of no new block, or of an old one
pub tree_skips : (p : ℕ) (m : Moves) (blocks next : List ℕ) (words : List Word) (target : Branch → Option ℕ) (steps : List Step) (at : ℕ) → at < m.size
    → ((x : ℕ) → x < m.size → slice_index blocks x ≤ x) → (slice_index next at ≡ at → slice_index blocks at ≡ at)
    → IsTreeFor p m blocks next words target steps at → IsTreeFor p m blocks next words target steps (at + 1)
tree_skips p m blocks next words target steps at within low own tree = record {
  all = record {
    right = tree.all.right;
    whole = λ x y h l fx fy q. elim (place_cases y at l) [
      | inl k ↦ tree.all.whole x y h k fx fy q
      | inr e ↦
          let name : slice_index next at ≡ at = ap (slice_index next) (sym e) ∙ fy ∙ e in
          let block : slice_index blocks x ≡ at = q ∙ ap (slice_index blocks) e ∙ own name in
          absurd (omega (arith, h, e, block, low x (omega (arith, h, e, within))))
    ];
  };
  branch = λ i to s e. let b = tree.branch i to s e in record { later = b.later; within = omega (arith, b.within); same = b.same; name = b.name; listed = b.listed };
  below = λ x l fx. elim (place_cases x at l) [
    | inl h ↦ tree.below x h fx
    | inr e ↦
        let name : slice_index next at ≡ at = ap (slice_index next) (sym e) ∙ fx ∙ e in
        subst (λ z. IsBelow p m words target z (slice_index blocks z)) (sym e) (subst (IsBelow p m words target at) (sym (own name)) here)
  ];
}
