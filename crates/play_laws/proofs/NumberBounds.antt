-- Numbers of marks are few: below each number of its sort lies the number of some place, so each is below the number of places
-- that marks tell apart.
use Rattle.std.proofs.Common.{◌≡◌, ◌≢◌, ◌<◌, ◌≤◌, ◌+◌, ◌-◌, ◌⊎◌, ℕ, zero, suc, refl, sym, ◌∙◌, subst, arith, inl, inr, true}
use Rattle.std.proofs.lemmas.Bool.{cases_lt, cases_eq, true≢false}
use Rattle.std.proofs.lemmas.Nat.{pow_pos}
use Rattle.automata.proofs.Pigeon.{no_more_than}
use Rattle.game.specs.Board.{Partition, Board, IsOutput, SomeLeads}
use Rattle.game.specs.Numbers.{IsLeastNumber}
use Rattle.game.specs.Winning.{WinsWithin, DecisionWinsWithin, IsWinnable, ReachesWithin, DecisionReachesWithin, FailsDutyWithin, DecisionFailsDutyWithin}
use Rattle.game.specs.Marks.{Mark, Goal, Win, Pending, Lost, Held, LostIn, HasMark, HasDecisionMark, IsOutOfReach, IsDecisionOutOfReach, HasNumberBelow}
use Rattle.game.specs.Playing.{GoesOn}
use Rattle.game.proofs.LeastLemmas.{least-below, one_least}
use Rattle.game.proofs.WinningLemmas.{wins-more, fails-more, reaches-by, reaches-won}
use Rattle.game.proofs.Hope.{winning_is_hope}
use Rattle.play_laws.proofs.SearchLemmas.{find}

-- the mark says that the place is won within n rounds and no fewer
abbrev RankIs : Mark → ℕ → Type 0
RankIs Goal n = 0 ≡ n
RankIs (Win k) n = k ≡ n
RankIs m n = ⊥

-- that it is won or to be hoped for within n and no fewer
abbrev HopeIs : Mark → ℕ → Type 0
HopeIs Goal n = 0 ≡ n
HopeIs (Win k) n = k ≡ n
HopeIs (Pending k) n = k ≡ n
HopeIs m n = ⊥

-- that its duty is broken within n and no fewer
abbrev LossIs : Mark → ℕ → Type 0
LossIs (LostIn k) n = k ≡ n
LossIs m n = ⊥

rank_told : (m : Mark) (n : ℕ) → RankIs m n ⊎ (¬ RankIs m n)
rank_told Goal n = cases_eq 0 n
rank_told (Win k) n = cases_eq k n
rank_told (Pending k) n = inr (λ e. e)
rank_told Lost n = inr (λ e. e)
rank_told Held n = inr (λ e. e)
rank_told (LostIn k) n = inr (λ e. e)

loss_told : (m : Mark) (n : ℕ) → LossIs m n ⊎ (¬ LossIs m n)
loss_told Goal n = inr (λ e. e)
loss_told (Win k) n = inr (λ e. e)
loss_told (Pending k) n = inr (λ e. e)
loss_told Lost n = inr (λ e. e)
loss_told Held n = inr (λ e. e)
loss_told (LostIn k) n = cases_eq k n

rank_once : (m : Mark) (i j : ℕ) → RankIs m i → RankIs m j → i ≡ j
rank_once Goal i j x y = sym x ∙ y
rank_once (Win k) i j x y = sym x ∙ y
rank_once (Pending k) i j x y = absurd x
rank_once Lost i j x y = absurd x
rank_once Held i j x y = absurd x
rank_once (LostIn k) i j x y = absurd x

hope_once : (m : Mark) (i j : ℕ) → HopeIs m i → HopeIs m j → i ≡ j
hope_once Goal i j x y = sym x ∙ y
hope_once (Win k) i j x y = sym x ∙ y
hope_once (Pending k) i j x y = sym x ∙ y
hope_once Lost i j x y = absurd x
hope_once Held i j x y = absurd x
hope_once (LostIn k) i j x y = absurd x

loss_once : (m : Mark) (i j : ℕ) → LossIs m i → LossIs m j → i ≡ j
loss_once Goal i j x y = absurd x
loss_once (Win k) i j x y = absurd x
loss_once (Pending k) i j x y = absurd x
loss_once Lost i j x y = absurd x
loss_once Held i j x y = absurd x
loss_once (LostIn k) i j x y = sym x ∙ y

rank_hope : (m : Mark) (n : ℕ) → RankIs m n → HopeIs m n
rank_hope Goal n x = x
rank_hope (Win k) n x = x
rank_hope (Pending k) n x = absurd x
rank_hope Lost n x = absurd x
rank_hope Held n x = absurd x
rank_hope (LostIn k) n x = absurd x

-- some place below the size has the number
abbrev IsTaken : ℕ → (ℕ → Mark) → (Mark → ℕ → Type 0) → ℕ → Type 0
IsTaken size mark L n = (at : ℕ) × (at < size) × L (mark at) n

module _ (size : ℕ) (mark : ℕ → Mark) (L : Mark → ℕ → Type 0) (once : (m : Mark) (i j : ℕ) → L m i → L m j → i ≡ j)
    (down : (k : ℕ) → IsTaken size mark L (suc k) → IsTaken size mark L k) where
  all_below : (k d : ℕ) → IsTaken size mark L (k + d) → IsTaken size mark L k
  all_below k zero t = let e : k + 0 ≡ k = omega arith in subst (λ z. IsTaken size mark L z) e t
  all_below k (suc d) t = let e : k + suc d ≡ suc (k + d) = omega arith in all_below k d (down (k + d) (subst (λ z. IsTaken size mark L z) e t))

  below : (n k : ℕ) → k ≤ n → IsTaken size mark L n → IsTaken size mark L k
  below n k l t = let e : n ≡ k + (n - k) = omega (arith, l) in all_below k (n - k) (subst (λ z. IsTaken size mark L z) e t)

  -- numbers that go down are below the size
  few : (n : ℕ) → IsTaken size mark L n → n < size
  few n t =
      let r = no_more_than size (suc n) (λ k. (place k).0) (λ k l. ((place k).1 l).0) apart in
      omega (arith, r)
    where
      place : (k : ℕ) → (at : ℕ) × (k < suc n → (at < size) × L (mark at) k)
      place k = elim (cases_lt k (suc n)) [
        | inl l ↦ let x = below n k (omega (arith, l)) t in (x.0, λ h. (x.1, x.2))
        | inr l ↦ (0, λ h. absurd (omega (arith, l, h)))
      ]

      apart : (i j : ℕ) → i < j → j < suc n → (place i).0 ≢ (place j).0
      apart i j l h e =
          let x = ((place i).1 (omega (arith, l, h))).1 in
          let y = ((place j).1 h).1 in
          let q = once (mark (place j).0) i j (subst (λ z. L (mark z) i) e x) y in
          omega (arith, l, q)

-- a place that is won within n + 1 rounds and whose number isn't n + 1 is won within n
wins-less : {s : Partition} (b : Board s) (h : b.Place) (n : ℕ) (m : Mark) → HasMark b h m → ¬ RankIs m (suc n) → WinsWithin b (suc n) h → WinsWithin b n h
wins-less b h zero Goal w c x = w
wins-less b h (suc n) Goal w c x = inl w
wins-less b h n (Win k) w c x =
    let l = least-below (λ i. WinsWithin b i h) k (suc n) w.1 x in
    elim (cases_eq k (suc n)) [ inl e ↦ absurd (c e) | inr d ↦ wins-more b k n h (omega (arith, l, d)) w.1.holds ]
wins-less b h n (Pending k) w c x = absurd (w.0 (suc n) x)
wins-less b h n Lost w c x = absurd (w.1.0 (suc n) x)
wins-less b h n Held w c x = absurd (w.1.0 (suc n) x)
wins-less b h n (LostIn k) w c x = absurd (w.1.0 (suc n) x)

-- a place that meets the goal has the number 0
met-rank : {s : Partition} (b : Board s) (h : b.Place) (m : Mark) → HasMark b h m → b.IsMet h → RankIs m 0
met-rank b h Goal w x = refl
met-rank b h (Win k) w x = absurd (w.0 x)
met-rank b h (Pending k) w x = absurd (w.0 0 x)
met-rank b h Lost w x = absurd (w.1.0 0 x)
met-rank b h Held w x = absurd (w.1.0 0 x)
met-rank b h (LostIn k) w x = absurd (w.1.0 0 x)

-- the same of losses, where the goal is out of reach
fails-less : {s : Partition} (b : Board s) (h : b.Place) (n : ℕ) (m : Mark) → HasMark b h m → IsOutOfReach b h → b.has_duty ≡ true → ¬ LossIs m (suc n)
    → FailsDutyWithin b (suc n) h → FailsDutyWithin b n h
fails-less b h n Goal w out duty c x = absurd (out.0 0 w)
fails-less b h n (Win k) w out duty c x = absurd (out.0 k w.1.holds)
fails-less b h n (Pending k) w out duty c x = absurd (out.1 k w.1.holds)
fails-less b h n Lost w out duty c x = absurd (true≢false (sym duty ∙ w.0))
fails-less b h n Held w out duty c x = absurd (w.2 (suc n) x)
fails-less b h n (LostIn k) w out duty c x =
    let l = least-below (λ i. FailsDutyWithin b i h) k (suc n) w.2 x in
    elim (cases_eq k (suc n)) [ inl e ↦ absurd (c e) | inr d ↦ fails-more b k n h (omega (arith, l, d)) w.2.holds ]

broken-loss : {s : Partition} (b : Board s) (h : b.Place) (m : Mark) → HasMark b h m → IsOutOfReach b h → b.has_duty ≡ true → b.IsBroken h → LossIs m 0
broken-loss b h Goal w out duty x = absurd (out.0 0 w)
broken-loss b h (Win k) w out duty x = absurd (out.0 k w.1.holds)
broken-loss b h (Pending k) w out duty x = absurd (out.1 k w.1.holds)
broken-loss b h Lost w out duty x = absurd (true≢false (sym duty ∙ w.0))
broken-loss b h Held w out duty x = absurd (w.2 0 x)
broken-loss b h (LostIn k) w out duty x = let l = least-below (λ i. FailsDutyWithin b i h) k 0 w.2 x in omega (arith, l)

-- Places of the board with marks, so many of which marks tell apart: each place has the mark of a number below the size, and
-- each number below the size is that of some place.
pub record AreMarked {s : Partition} (b : Board s) (In : b.Place → Type 0) (size : ℕ) (mark : ℕ → Mark) : Type 0 where
  pub place : b.Place → ℕ
  pub small : (h : b.Place) → In h → place h < size
  pub right : (h : b.Place) → In h → HasMark b h (mark (place h))
  pub some : (at : ℕ) → at < size → (h : b.Place) × In h × HasMark b h (mark at)

module _ {s : Partition} (b : Board s) (In : b.Place → Type 0) (on : GoesOn b In) (size : ℕ) (mark : ℕ → Mark) (are : AreMarked b In size mark) where
  abbrev Ranked : ℕ → Type 0
  Ranked n = IsTaken size mark RankIs n

  abbrev Hoped : ℕ → Type 0
  Hoped n = IsTaken size mark HopeIs n

  abbrev Failed : ℕ → Type 0
  Failed n = IsTaken size mark LossIs n

  rank_at : (h : b.Place) → In h → (n : ℕ) → RankIs (mark (are.place h)) n → Ranked n
  rank_at h i n x = (are.place h, are.small h i, x)

  no_rank : (h : b.Place) → In h → (n : ℕ) → ((at : ℕ) → at < size → ¬ RankIs (mark at) (suc n)) → WinsWithin b (suc n) h → WinsWithin b n h
  no_rank h i n c w = wins-less b h n (mark (are.place h)) (are.right h i) (c (are.place h) (are.small h i)) w

  -- what a decision needs to be won is the number of some place, and one more
  won-taken : (k : ℕ) (h : b.Place) (x : ℕ) → In h → ¬ b.IsMet h → b.IsDecision h x → DecisionWinsWithin b (suc k) h x → ¬ DecisionWinsWithin b k h x → Ranked k
  won-taken zero h x i u d w c =
      let r = on.playable.goes_on h i u x w.0 d w.1 in
      let k = on.playable.kept h i u r.0 r.1.letter r.2 in
      let g = b.after h r.0 in
      rank_at g k 0 (met-rank b g (mark (are.place g)) (are.right g k) (w.2 r.0 r.1 r.2))
  won-taken (suc j) h x i u d w c =
      elim (find (λ at. RankIs (mark at) (suc j)) size (λ at l. rank_told (mark at) (suc j))) [
        | inl t ↦ t
        | inr none ↦ absurd (c (w.0, w.1, λ a r l. no_rank (b.after h a) (on.playable.kept h i u a r.letter l) j none (w.2 a r l)))
      ]

  rank_from : (k : ℕ) (h : b.Place) → In h → IsLeastNumber (λ n. WinsWithin b n h) (suc k) → Ranked k
  rank_from k h i w =
      elim (on.met h i) [
        | inl m ↦ absurd (w.least 0 (omega arith) m)
        | inr u ↦ by-holds u w.holds
      ]
    where
      again : (k : ℕ) → ((at : ℕ) → at < size → ¬ RankIs (mark at) (suc k)) → ¬ b.IsMet h → ((x : ℕ) → b.IsDecision h x → DecisionWinsWithin b (suc (suc k)) h x) → WinsWithin b (suc k) h
      again k none u f = inr (λ x d. let p = f x d in (p.0, p.1, λ a r l. no_rank (b.after h a) (on.playable.kept h i u a r.letter l) k none (p.2 a r l)))

      by-number : (k : ℕ) → ((j : ℕ) → j < suc k → ¬ WinsWithin b j h) → ¬ b.IsMet h → ((x : ℕ) → b.IsDecision h x → DecisionWinsWithin b (suc k) h x) → Ranked k
      by-number zero c u f =
          let d = on.playable.decides h i u in
          won-taken 0 h d.0 i u d.1 (f d.0 d.1) (λ z. z.2)
      by-number (suc j) c u f =
          elim (find (λ at. RankIs (mark at) (suc j)) size (λ at l. rank_told (mark at) (suc j))) [
            | inl t ↦ t
            | inr none ↦ absurd (c (suc j) (omega arith) (again j none u f))
          ]

      by-holds : ¬ b.IsMet h → WinsWithin b (suc k) h → Ranked k
      by-holds u (inl m) = absurd (u m)
      by-holds u (inr f) = by-number k w.least u f

  rank_down : (k : ℕ) → Ranked (suc k) → Ranked k
  rank_down k (at, l, x) = by-mark (mark at) x (are.some at l).2
    where
      by-mark : (m : Mark) → RankIs m (suc k) → HasMark b (are.some at l).0 m → Ranked k
      by-mark Goal x w = absurd (omega (arith, x))
      by-mark (Win n) x w = rank_from k (are.some at l).0 (are.some at l).1 (subst (λ z. IsLeastNumber (λ j. WinsWithin b j (are.some at l).0) z) x w.1)
      by-mark (Pending n) x w = absurd x
      by-mark Lost x w = absurd x
      by-mark Held x w = absurd x
      by-mark (LostIn n) x w = absurd x

  rank_hoped : (k : ℕ) → Ranked k → Hoped k
  rank_hoped k (at, l, x) = (at, l, rank_hope (mark at) k x)

  -- the number within which a place is reached is that of some place
  hope-taken : (k : ℕ) (g : b.Place) → In g → IsLeastNumber (λ n. ReachesWithin b n g) k → Hoped k
  hope-taken k g i r = by-mark (mark (are.place g)) (are.right g i) refl
    where
      ranked : (n : ℕ) → WinsWithin b n g → RankIs (mark (are.place g)) n → Hoped k
      ranked n w x =
          let l = least-below (λ j. ReachesWithin b j g) k n r (winning_is_hope b In on.playable on.met n g i w) in
          rank_hoped k (below size mark RankIs rank_once rank_down n k l (rank_at g i n x))

      by-mark : (m : Mark) → HasMark b g m → mark (are.place g) ≡ m → Hoped k
      by-mark Goal w e = ranked 0 w (subst (λ z. RankIs z 0) (sym e) refl)
      by-mark (Win n) w e = ranked n w.1.holds (subst (λ z. RankIs z n) (sym e) refl)
      by-mark (Pending n) w e = (are.place g, are.small g i, subst (λ z. HopeIs z k) (sym e) (one_least (λ j. ReachesWithin b j g) n k w.1 r))
      by-mark Lost w e = absurd (w.1.1 k r.holds)
      by-mark Held w e = absurd (w.1.1 k r.holds)
      by-mark (LostIn n) w e = absurd (w.1.1 k r.holds)

  -- what a decision needs to be reached is the number of some place, and one more
  reached-taken : (k : ℕ) (h : b.Place) (x : ℕ) → In h → ¬ b.IsMet h → b.IsDecision h x → DecisionReachesWithin b (suc k) h x
      → ((j : ℕ) → j < suc k → ¬ DecisionReachesWithin b j h x) → Hoped k
  reached-taken k h x i u d (inl w) c = rank_hoped k (won-taken k h x i u d w (λ z. c k (omega arith) (reaches-won b k h x z)))
  reached-taken k h x i u d (inr (never, y, o, (a, r, l, w))) c =
      hope-taken k (b.after h a) (on.playable.kept h i u a r.letter l)
      (record { holds = w; least = λ j less z. c (suc j) (omega (arith, less)) (inr (never, y, o, (a, r, l, z))) })

  hope_down : (k : ℕ) → Hoped (suc k) → Hoped k
  hope_down k (at, l, x) = by-mark (mark at) refl x (are.some at l).2
    where
      h : b.Place
      h = (are.some at l).0

      by-reach : IsLeastNumber (λ j. ReachesWithin b j h) (suc k) → ReachesWithin b (suc k) h → Hoped k
      by-reach w (inl m) = absurd (w.least 0 (omega arith) m)
      by-reach w (inr (x, d, p)) =
          reached-taken k h x (are.some at l).1 (λ m. w.least 0 (omega arith) m) d p (λ j less z. w.least j less (reaches-by b j h x d z))

      by-mark : (m : Mark) → mark at ≡ m → HopeIs m (suc k) → HasMark b h m → Hoped k
      by-mark Goal e x w = absurd (omega (arith, x))
      by-mark (Win n) e x w = rank_hoped k (rank_down k (at, l, subst (λ z. RankIs z (suc k)) (sym e) x))
      by-mark (Pending n) e x w = let r = subst (λ z. IsLeastNumber (λ j. ReachesWithin b j h) z) x w.1 in by-reach r r.holds
      by-mark Lost e x w = absurd x
      by-mark Held e x w = absurd x
      by-mark (LostIn n) e x w = absurd x

  -- after a decision that is out of reach all places are
  out-next : (h : b.Place) (x y a : ℕ) → In (b.after h a) → IsDecisionOutOfReach b h x → IsOutput s y → SomeLeads b (λ g. g ≡ b.after h a) h x y → IsOutOfReach b (b.after h a)
  out-next h x y a i o k (c, r, l, e) =
      let none : ¬ IsWinnable b h x = λ z. o.0 z.0 z.1 in
      let never : (n : ℕ) → ¬ ReachesWithin b n (b.after h a) = λ n z.
      o.1 (suc n) (inr (none, y, k, (c, r, l, subst (λ g. ReachesWithin b n g) (sym e) z))) in
      (λ n z. never n (winning_is_hope b In on.playable on.met n (b.after h a) i z), never)

  -- within how many rounds a decision fails the duty is the number of some place, and one more
  loss-taken : (k : ℕ) (h : b.Place) (x : ℕ) → In h → ¬ b.IsMet h → IsDecisionOutOfReach b h x → b.has_duty ≡ true
      → DecisionFailsDutyWithin b (suc k) h x → ¬ DecisionFailsDutyWithin b k h x → Failed k
  loss-taken zero h x i u o duty f c =
      let w = f 0 (pow_pos s.outputs) in
      let g = b.after h w.0 in
      let k = on.playable.kept h i u w.0 w.1.letter w.2 in
      let out = out-next h x 0 w.0 k o (pow_pos s.outputs) (w.0, w.1, w.2, refl) in
      (are.place g, are.small g k, broken-loss b g (mark (are.place g)) (are.right g k) out duty w.3)
  loss-taken (suc j) h x i u o duty f c =
      elim (find (λ at. LossIs (mark at) (suc j)) size (λ at l. loss_told (mark at) (suc j))) [
        | inl t ↦ t
        | inr none ↦ absurd (c (λ y q.
            let w = f y q in
            let g = b.after h w.0 in
            let k = on.playable.kept h i u w.0 w.1.letter w.2 in
            let out = out-next h x y w.0 k o q (w.0, w.1, w.2, refl) in
            (w.0, w.1, w.2, fails-less b g j (mark (are.place g)) (are.right g k) out duty (none (are.place g) (are.small g k)) w.3)))
      ]

  loss_down : (k : ℕ) → Failed (suc k) → Failed k
  loss_down k (at, l, x) = by-mark (mark at) x (are.some at l).2
    where
      h : b.Place
      h = (are.some at l).0

      by-fail : IsOutOfReach b h → b.has_duty ≡ true → IsLeastNumber (λ j. FailsDutyWithin b j h) (suc k) → FailsDutyWithin b (suc k) h → Failed k
      by-fail out duty w (inl m) = absurd (w.least 0 (omega arith) m)
      by-fail out duty w (inr (x, d, f)) =
          let o : IsDecisionOutOfReach b h x = (λ j z. out.1 j (reaches-by b j h x d (reaches-won b j h x z)), λ j z. out.1 j (reaches-by b j h x d z)) in
          loss-taken k h x (are.some at l).1 (λ m. out.0 0 m) o duty f (λ z. w.least k (omega arith) (up k w.least z))
        where
          up : (k : ℕ) → ((j : ℕ) → j < suc k → ¬ FailsDutyWithin b j h) → DecisionFailsDutyWithin b k h x → FailsDutyWithin b k h
          up zero c z = absurd z
          up (suc j) c z = inr (x, d, z)

      by-mark : (m : Mark) → LossIs m (suc k) → HasMark b h m → Failed k
      by-mark Goal x w = absurd x
      by-mark (Win n) x w = absurd x
      by-mark (Pending n) x w = absurd x
      by-mark Lost x w = absurd x
      by-mark Held x w = absurd x
      by-mark (LostIn n) x w = let r = subst (λ z. IsLeastNumber (λ j. FailsDutyWithin b j h) z) x w.2 in by-fail w.1 w.0 r r.holds

  rank_few : (n : ℕ) → Ranked n → n < size
  rank_few = few size mark RankIs rank_once rank_down

  hope_few : (n : ℕ) → Hoped n → n < size
  hope_few = few size mark HopeIs hope_once hope_down

  loss_few : (n : ℕ) → Failed n → n < size
  loss_few = few size mark LossIs loss_once loss_down

  -- each number of a place's mark is below the size
  pub number_small : (at : ℕ) → at < size → HasNumberBelow size (mark at)
  number_small at l = by-mark (mark at) refl
    where
      by-mark : (m : Mark) → mark at ≡ m → HasNumberBelow size m
      by-mark Goal e = tt
      by-mark (Win n) e = rank_few n (at, l, subst (λ z. RankIs z n) (sym e) refl)
      by-mark (Pending n) e = hope_few n (at, l, subst (λ z. HopeIs z n) (sym e) refl)
      by-mark Lost e = tt
      by-mark Held e = tt
      by-mark (LostIn n) e = loss_few n (at, l, subst (λ z. LossIs z n) (sym e) refl)

  -- and each number within which a place is won
  pub won-small : (h : b.Place) (n : ℕ) → In h → IsLeastNumber (λ k. WinsWithin b k h) n → n < size
  won-small h zero i w = rank_few 0 (rank_at h i 0 (met-rank b h (mark (are.place h)) (are.right h i) w.holds))
  won-small h (suc n) i w = rank_few (suc n) (by-mark (mark (are.place h)) (are.right h i) refl)
    where
      by-mark : (m : Mark) → HasMark b h m → mark (are.place h) ≡ m → Ranked (suc n)
      by-mark Goal z e = absurd (w.least 0 (omega arith) z)
      by-mark (Win k) z e = rank_at h i (suc n) (subst (λ q. RankIs q (suc n)) (sym e) (one_least (λ j. WinsWithin b j h) k (suc n) z.1 w))
      by-mark (Pending k) z e = absurd (z.0 (suc n) w.holds)
      by-mark Lost z e = absurd (z.1.0 (suc n) w.holds)
      by-mark Held z e = absurd (z.1.0 (suc n) w.holds)
      by-mark (LostIn k) z e = absurd (z.1.0 (suc n) w.holds)

  -- that of a decision's mark is at most the size
  pub decision_number_small : (h : b.Place) (x : ℕ) (m : Mark) → In h → ¬ b.IsMet h → b.IsDecision h x → HasDecisionMark b h x m → HasNumberBelow (suc size) m
  decision_number_small h x Goal i u d w = tt
  decision_number_small h x (Win zero) i u d w = omega arith
  decision_number_small h x (Win (suc n)) i u d w =
      let l = rank_few n (won-taken n h x i u d w.holds (w.least n (omega arith))) in omega (arith, l)
  decision_number_small h x (Pending zero) i u d w = omega arith
  decision_number_small h x (Pending (suc n)) i u d w =
      let l = hope_few n (reached-taken n h x i u d w.1.holds w.1.least) in omega (arith, l)
  decision_number_small h x Lost i u d w = tt
  decision_number_small h x Held i u d w = tt
  decision_number_small h x (LostIn zero) i u d w = omega arith
  decision_number_small h x (LostIn (suc n)) i u d w =
      let l = loss_few n (loss-taken n h x i u w.1 w.0 w.3.holds (w.3.least n (omega arith))) in omega (arith, l)
