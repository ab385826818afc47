-- What was found of an arena's locations is what merging asks for, so the plan is the strategy of each specification whose
-- arena it is.
use Rattle.std.proofs.Common.{◌≡◌, ◌≢◌, ◌<◌, ◌≤◌, ◌^◌, ◌+◌, ◌++◌, ◌∷◌, ℕ, zero, suc, List, [], Bool, true, false, Option, Some, None, IsSome, inl, inr, refl, sym, ◌∙◌, ap, subst, arith, length, length-append, true≢false}
use Rattle.std.specs.Prelude.{is_some, not}
use Rattle.std.proofs.lemmas.Bool.{cases_lt}
use Rattle.std.proofs.lemmas.List.{get_or_append_left, get_or_at}
use Rattle.std.proofs.lemmas.Nat.{pow_pos}
use Rattle.forms.specs.Word.{Word, Claim}
use Rattle.diagrams.specs.declared.top.Id.{Id}
use Rattle.diagrams.specs.Eval.{Diagrams, DependsOn, eval, id_at, letter_truth}
use Rattle.attractor.specs.Graph.{number_at}
use Rattle.game.specs.Board.{Mover, Agent, Environment, Partition, Board, IsOutput, IsShown, width}
use Rattle.game.specs.Numbers.{IsLeastNumber, IsLeastOrNone}
use Rattle.game.specs.Winning.{WinsWithin, ReachesWithin, FailsDutyWithin}
use Rattle.game.specs.Marks.{IsOutOfReach, Evades, IsAnswer}
use Rattle.game.specs.Histories.{IsViolated, IsKeepable, is_given}
use Rattle.game.specs.Arena.{Locations, locations, IsArenaOf}
use Rattle.game.specs.Same.{Claims, aims_with, Agree}
use Rattle.game.specs.Values.{AreNumbers, LeadsToNone, IsAnswerBy}
use Rattle.game.proofs.SimulatedMarks.{least_same}
use Rattle.layers.specs.Ranked.{AreRanks, IsPlayableArena}
use Rattle.layers.specs.HistoryNumbers.{AreBelow}
use Rattle.arena.specs.Left.{ArenaTable, FitsArena, locations_of}
use Rattle.adversarial.specs.Answered.{shown_count}
use Rattle.cooperative.specs.declared.loss.Loss.{Loss}
use Rattle.cooperative.specs.declared.loss.Loss.TheVariants.{Held, In}
use Rattle.cooperative.specs.Lost.{loss_at, IsLoss, AreKeptOrLost}
use Rattle.printed_strategy.specs.Strategy.{Strategy}
use Rattle.printed_strategy.specs.StrategyText.{shown_width}
use Rattle.printed_strategy.specs.Printed.{IsPrintedFor}
use Rattle.printed_strategy.specs.Planned.{IsComputedOn}
use Rattle.printed_strategy.proofs.ComputedLemmas.{printed_for_claims}
use Rattle.choosing.specs.ArenaRows.{IsRowAt}
use Rattle.strategy.specs.declared.marks.Numbers.{Numbers}
use Rattle.strategy.specs.Numbers.{number_in, loss_in, has_losses, goal_in, AreSmall, HasNumbers, AreLossesOf}
use Rattle.strategy.specs.Fits.{IsRow, IsAnswerTable}
use Rattle.strategy.specs.Merged.{table_at, HasAnswers, AreRowsOf, AreAnswersOn, IsMerged}
use Rattle.strategy.specs.Found.{rounds_of, rounds_at, AreRounds, AreNumbersOf, AreLossesWhere, AreFound}

rounds-in : (o : Option Loss) (n : ℕ) → rounds_of o ≡ Some n → o ≡ Some (In n)
rounds-in None n e = absurd (cc)
rounds-in (Some Held) n e = absurd (cc)
rounds-in (Some (In k)) n e = let same : k ≡ n = cc in ap (λ z. Some (In z)) same

-- numbers of losses are below the number of locations
losses-below : (parts : Partition) (duty : Bool) (m : Locations) (ranks distances : List (Option ℕ)) (losses : Option (List (Option Loss)))
    → AreLossesWhere parts duty m ranks distances losses → (at n : ℕ) → at < m.size → rounds_at losses at ≡ Some n → n < m.size
losses-below parts duty m ranks distances None are at n l e = absurd (cc)
losses-below parts duty m ranks distances (Some losses) are at n l e = are.1.below at n l (rounds-in (loss_at losses at) n e)

not-some : (P : ℕ → Type 0) (o : Option ℕ) → IsLeastOrNone P o → ((k : ℕ) → ¬ P k) → IsSome o → ⊥
not-some P None f never e = true≢false (sym e)
not-some P (Some n) f never e = never n f.holds

-- there is no number exactly where no number will do
none-by : (P : ℕ → Type 0) (o : Option ℕ) → IsLeastOrNone P o → ((k : ℕ) → ¬ P k) → o ≡ None
none-by P None f never = refl
none-by P (Some n) f never = absurd (never n f.holds)

never-by : (P : ℕ → Type 0) (o : Option ℕ) → IsLeastOrNone P o → o ≡ None → (k : ℕ) → ¬ P k
never-by P o f e = subst (IsLeastOrNone P) e f

-- where no location is broken, no duty fails
never-fails : (parts : Partition) (duty : Bool) (m : Locations) → ((at : ℕ) → at < m.size → ¬ (m.is_broken at ≡ true))
    → (n at : ℕ) → at < m.size → ¬ FailsDutyWithin (locations parts duty m) n at
never-fails parts duty m unbroken zero at l w = unbroken at l w
never-fails parts duty m unbroken (suc n) at l (inl w) = unbroken at l w
never-fails parts duty m unbroken (suc n) at l (inr (x, d, w)) =
    let r = w 0 (pow_pos parts.outputs) in
    never-fails parts duty m unbroken n (m.next at r.0) r.2 r.3

-- the loss of a location that is out of reach
loss-by : (P : ℕ → Type 0) (o : Option Loss) → (o ≢ None) → ((loss : Loss) → o ≡ Some loss → IsLeastOrNone P (rounds_of (Some loss))) → IsLeastOrNone P (rounds_of o)
loss-by P None some right = absurd (some refl)
loss-by P (Some loss) some right = right loss refl

loss-is : (P : ℕ → Type 0) (loss : Loss) → IsLoss P loss → IsLeastOrNone P (rounds_of (Some loss))
loss-is P Held f = f
loss-is P (In n) f = f

loss-there : (parts : Partition) (duty : Bool) (m : Locations) (ranks distances : List (Option ℕ)) (losses : Option (List (Option Loss)))
    → AreLossesWhere parts duty m ranks distances losses → (duty ≡ false → (at : ℕ) → at < m.size → ¬ (m.is_broken at ≡ true))
    → (at : ℕ) → at < m.size → (IsSome (number_at ranks at) → ⊥) → (IsSome (number_at distances at) → ⊥)
    → IsLeastOrNone (λ k. FailsDutyWithin (locations parts duty m) k at) (rounds_at losses at)
loss-there parts duty m ranks distances None none unbroken at l rank distance = λ k. never-fails parts duty m (unbroken none) k at l
loss-there parts duty m ranks distances (Some losses) are unbroken at l rank distance =
    let P : ℕ → Type 0 = λ k. FailsDutyWithin (locations parts duty m) k at in
    loss-by P (loss_at losses at)
    (λ e. elim ((are.1.none at l).0 e) [ inl r ↦ rank r | inr d ↦ distance d ])
    (λ loss e. loss-is P loss (are.1.right at loss l e))

-- an answer by what no number wins is one by ranks
evades-none : {s : Partition} (b : Board s) (rank : b.Place → Option ℕ) (Inside : b.Place → Type 0) → ((g : b.Place) → Inside g → IsLeastOrNone (λ k. WinsWithin b k g) (rank g))
    → (h : b.Place) → ((a : ℕ) → b.IsLegal h a → Inside (b.after h a)) → (x y : ℕ) → Evades b h x y → LeadsToNone b rank h x y
evades-none b rank Inside right h kept x y (a, letter, legal, never) =
    (a, letter, legal, none-by (λ k. WinsWithin b k (b.after h a)) (rank (b.after h a)) (right (b.after h a) (kept a legal)) never)

none-evades : {s : Partition} (b : Board s) (rank : b.Place → Option ℕ) (Inside : b.Place → Type 0) → ((g : b.Place) → Inside g → IsLeastOrNone (λ k. WinsWithin b k g) (rank g))
    → (h : b.Place) → ((a : ℕ) → b.IsLegal h a → Inside (b.after h a)) → (x y : ℕ) → LeadsToNone b rank h x y → Evades b h x y
none-evades b rank Inside right h kept x y (a, letter, legal, none) =
    (a, letter, legal, never-by (λ k. WinsWithin b k (b.after h a)) (rank (b.after h a)) (right (b.after h a) (kept a legal)) none)

answer-by : (d : Mover) (i o : ℕ) (b : Board (record { first = d; inputs = i; outputs = o })) (rank : b.Place → Option ℕ) (h : b.Place)
    → ((x y : ℕ) → Evades b h x y → LeadsToNone b rank h x y) → ((x y : ℕ) → LeadsToNone b rank h x y → Evades b h x y)
    → (y x : ℕ) → IsAnswer b h y x → IsAnswerBy b rank h y x
answer-by Agent i o b rank h to back y x w = least_same (λ z. Evades b h z y) (λ z. LeadsToNone b rank h z y) x (λ z. to z y) (λ z. back z y) w
answer-by Environment i o b rank h to back y x w =
    least_same (λ z. (y : ℕ) → y < 2 ^ o → Evades b h z y) (λ z. (y : ℕ) → y < 2 ^ o → LeadsToNone b rank h z y) x
    (λ z p y k. to z y (p y k)) (λ z q y k. back z y (q y k)) w

-- what is shown is an output
shown-output : (d : Mover) (i o y : ℕ) → IsShown (record { first = d; inputs = i; outputs = o }) y → y < 2 ^ o
shown-output Agent i o y l = l
shown-output Environment i o y e = subst (λ z. z < 2 ^ o) (sym e) (pow_pos o)

shown-same : (d : Mover) (i o : ℕ) → shown_count (record { first = d; inputs = i; outputs = o }) ≡ shown_width d (record { first = d; inputs = i; outputs = o })
shown-same Agent i o = refl
shown-same Environment i o = refl

-- a location has a table exactly where it has no rank
table-where : (rank : Option ℕ) (table : Option Id) → ((k : ℕ) → rank ≡ Some k → table ≡ None) → (rank ≡ None → is_some table ≡ true) → is_some table ≡ not (is_some rank)
table-where None table won open_ = open_ refl
table-where (Some k) table won open_ = ap is_some (won k refl)

not-violated : (o : Option Claim) (h : Word) → is_given o ≡ false → ¬ IsViolated o h
not-violated None h e v = v
not-violated (Some claim) h e v = true≢false e

module _ (s : Diagrams) (t : ArenaTable) (fit : FitsArena s t) (w : width t.partition ≡ s.props) (few : length t.rows < 4294967295)
    (ranks distances : List (Option ℕ)) (answers : List (Option Id)) (losses : Option (List (Option Loss))) (found : AreFound s t ranks distances answers losses)
    (numbers : Numbers) (are : AreNumbersOf ranks distances losses numbers) where
  abbrev there : Board t.partition
  there = locations t.partition t.has_duty (locations_of s t)

  loss-number : (at : ℕ) → at < length t.rows → loss_in numbers at ≡ rounds_at losses at
  loss-number at l = let e = found.rank_count in are.loss at (omega (arith, l, e))

  -- the numbers are small enough
  pub has-numbers : HasNumbers numbers (length t.rows)
  has-numbers = record {
    ranks = ap length are.rank ∙ found.rank_count;
    distances = ap length are.distance ∙ found.distance_count;
    losses = subst (AreLossesOf numbers) found.rank_count are.counted;
    small_ranks = λ at n l e.
        let k = found.rank_below at n l (sym (ap (λ z. number_in z at) are.rank) ∙ e) in
        omega (arith, k, few);
    small_distances = λ at n l e.
        let k = found.distance_below at n l (sym (ap (λ z. number_in z at) are.distance) ∙ e) in
        omega (arith, k, few);
    small_losses = λ at n l e.
        let k = losses-below t.partition t.has_duty (locations_of s t) ranks distances losses found.loss at n l (sym (loss-number at l) ∙ e) in
        omega (arith, k, few);
  }

  -- the tables of answers stand where they are asked for
  pub has-answers : HasAnswers s t.partition t.goals numbers answers (length t.rows)
  has-answers = record {
    count = found.answer.size;
    present = λ at l goal.
        table-where (number_at ranks at) (table_at answers at) (λ k e. found.answer.won at k l e) (λ e. let r = found.answer.answers at l e in ap is_some r.1)
        ∙ ap (λ z. not (is_some (number_in z at))) (sym are.rank);
    table = λ at id l e.
        let c = found.answer.size in
        let r = found.answer_over at id (omega (arith, l, c)) e in
        record {
          live = r.live;
          over = subst (λ k. DependsOn s id (λ v. v < k)) (shown-same t.partition.first t.partition.inputs t.partition.outputs) r.over;
          inputs = r.inputs;
        };
  }

  -- the rows are those that are asked for
  pub is-row : (at : ℕ) → at < length t.rows → IsRow s (width t.partition) (length t.rows) (id_at t.rows at)
  is-row at l =
      let r = fit.rows at l in
      record {
        live = r.live;
        over = subst (λ p. DependsOn s (id_at t.rows at) (λ v. v < p)) (sym w) r.letters;
        targets = λ a. let k = r.targets a in omega (arith, k);
      }

  are-rows : AreRowsOf s t.partition (locations_of s t) t.rows t.goals
  are-rows = record {
    size = refl;
    row = λ at l.
        let r = is-row at l in
        record { over = r.over; targets = r.targets; next = λ a k. ap (λ p. eval s (id_at t.rows at) (letter_truth p a)) (sym w) };
    goal = λ at l. refl;
  }

  rank-there : (g : ℕ) → g < length t.rows → IsLeastOrNone (λ k. WinsWithin there k g) (number_in numbers.ranks.items g)
  rank-there g l = subst (λ z. IsLeastOrNone (λ k. WinsWithin there k g) (number_in z g)) (sym are.rank) (found.rank g l)

  module _ (unbroken : t.has_duty ≡ false → (at : ℕ) → at < length t.rows → ¬ ((locations_of s t).is_broken at ≡ true)) where
    are-numbers : AreNumbers there (λ at. at < length t.rows) (number_in numbers.ranks.items) (number_in numbers.distances.items) (loss_in numbers)
    are-numbers = record {
      rank = rank-there;
      distance = λ g l. subst (λ z. IsLeastOrNone (λ k. ReachesWithin there k g) (number_in z g)) (sym are.distance) (found.distance g l);
      loss = λ g l out.
          subst (IsLeastOrNone (λ k. FailsDutyWithin there k g)) (sym (loss-number g l))
          (loss-there t.partition t.has_duty (locations_of s t) ranks distances losses found.loss unbroken g l
          (not-some (λ k. WinsWithin there k g) (number_at ranks g) (found.rank g l) out.0)
          (not-some (λ k. ReachesWithin there k g) (number_at distances g) (found.distance g l) out.1));
    }

    are-answers : AreAnswersOn s t.partition t.has_duty (locations_of s t) (number_in numbers.ranks.items) answers
    are-answers at l goal none =
        let r = found.answer.answers at l (sym (ap (λ z. number_in z at) are.rank) ∙ none) in
        let rank = number_in numbers.ranks.items in
        let inside : ℕ → Type 0 = λ g. g < length t.rows in (
          r.0,
          r.1,
          λ y shown. answer-by t.partition.first t.partition.inputs t.partition.outputs there rank at
              (evades-none there rank inside rank-there at (λ a legal. legal)) (none-evades there rank inside rank-there at (λ a legal. legal))
              y (eval s r.0 (letter_truth t.partition.outputs y)) (r.3 y (shown-output t.partition.first t.partition.inputs t.partition.outputs y shown)),
        )

    -- what is merged is what is computed on the arena
    pub computed-there : IsPlayableArena t.partition t.has_duty (locations_of s t) → (plan : Strategy) → IsMerged s t.partition t.rows t.goals numbers answers plan
        → IsComputedOn t.partition t.has_duty (locations_of s t) (number_in numbers.ranks.items) (number_in numbers.distances.items) (loss_in numbers) plan
    computed-there playable plan merged =
        let m = locations_of s t in
        let rank = number_in numbers.ranks.items in
        let distance = number_in numbers.distances.items in
        let loss = loss_in numbers in
        let duty : has_losses numbers ≡ t.has_duty = are.given ∙ given-where t.partition t.has_duty m ranks distances losses found.loss in
        subst (λ b. IsPlayableArena t.partition b m → AreNumbers (locations t.partition b m) (λ at. at < m.size) rank distance loss → AreAnswersOn s t.partition b m rank answers
        → IsComputedOn t.partition b m rank distance loss plan) duty (merged m are-rows) playable are-numbers are-answers
      where
        given-where : (parts : Partition) (duty : Bool) (m : Locations) (ranks distances : List (Option ℕ)) (losses : Option (List (Option Loss)))
            → AreLossesWhere parts duty m ranks distances losses → is_some losses ≡ duty
        given-where parts duty m ranks distances None e = sym e
        given-where parts duty m ranks distances (Some losses) e = sym e.0

  -- so it is the strategy of each specification whose arena this is
  pub printed-there : IsPlayableArena t.partition t.has_duty (locations_of s t) → (plan : Strategy) → IsMerged s t.partition t.rows t.goals numbers answers plan
      → (c d : Claims) → Agree (width t.partition) c d → is_given c.duty ≡ t.has_duty → IsArenaOf (aims_with t.partition c) (locations_of s t)
      → IsKeepable (aims_with t.partition c) [] → IsPrintedFor (aims_with t.partition d) plan
  printed-there playable plan merged c d agree given arena keep =
      let m = locations_of s t in
      let rank = number_in numbers.ranks.items in
      let distance = number_in numbers.distances.items in
      let loss = loss_in numbers in
      let unbroken : t.has_duty ≡ false → (at : ℕ) → at < length t.rows → ¬ (m.is_broken at ≡ true) =
      λ none at l broken.
      let word = arena.numbered.word at in
      let leads = (arena.numbered.least at l).leads in
      not-violated c.duty word (given ∙ none) ((arena.broken word at leads).0 broken) in
      printed_for_claims t.partition c d agree m arena keep rank distance loss plan
      (subst (λ b. IsComputedOn t.partition b m rank distance loss plan) (sym given) (computed-there unbroken playable plan merged))

-- The same of lists that are those of the arena.
module _ (s : Diagrams) (t : ArenaTable) (fit : FitsArena s t) (w : width t.partition ≡ s.props) (few : length t.rows < 4294967295)
    (ranks distances : List (Option ℕ)) (answers : List (Option Id)) (losses : Option (List (Option Loss))) (found : AreFound s t ranks distances answers losses)
    (numbers : Numbers) (are : AreNumbersOf ranks distances losses numbers) (parts : Partition) (rows : List Id) (goals : List Bool) (tables : List (Option Id))
    (p : parts ≡ t.partition) (r : rows ≡ t.rows) (g : goals ≡ t.goals) (a : tables ≡ answers) where
  pub rows-asked : (at : ℕ) → at < length rows → IsRow s (width parts) (length rows) (id_at rows at)
  rows-asked at l =
      subst (λ z. IsRow s (width z) (length rows) (id_at rows at)) (sym p)
      (subst (λ z. IsRow s (width t.partition) (length z) (id_at z at)) (sym r)
      (is-row s t fit w few ranks distances answers losses found numbers are at (subst (λ z. at < length z) r l)))

  pub numbers-asked : HasNumbers numbers (length rows)
  numbers-asked = subst (λ z. HasNumbers numbers (length z)) (sym r) (has-numbers s t fit w few ranks distances answers losses found numbers are)

  pub answers-asked : HasAnswers s parts goals numbers tables (length rows)
  answers-asked =
      subst (λ z. HasAnswers s z goals numbers tables (length rows)) (sym p)
      (subst (λ z. HasAnswers s t.partition z numbers tables (length rows)) (sym g)
      (subst (λ z. HasAnswers s t.partition t.goals numbers z (length rows)) (sym a)
      (subst (λ z. HasAnswers s t.partition t.goals numbers answers (length z)) (sym r)
      (has-answers s t fit w few ranks distances answers losses found numbers are))))

  pub printed-asked : IsPlayableArena t.partition t.has_duty (locations_of s t) → (plan : Strategy) → IsMerged s parts rows goals numbers tables plan
      → (c d : Claims) → Agree (width t.partition) c d → is_given c.duty ≡ t.has_duty → IsArenaOf (aims_with t.partition c) (locations_of s t)
      → IsKeepable (aims_with t.partition c) [] → IsPrintedFor (aims_with t.partition d) plan
  printed-asked playable plan merged =
      printed-there s t fit w few ranks distances answers losses found numbers are playable plan
      (subst (λ z. IsMerged s t.partition t.rows t.goals numbers z plan) a
      (subst (λ z. IsMerged s t.partition t.rows z numbers tables plan) g
      (subst (λ z. IsMerged s t.partition z goals numbers tables plan) r
      (subst (λ z. IsMerged s z rows goals numbers tables plan) p merged))))

-- no loss
pub rounds_none : (losses : List (Option Loss)) (made : List (Option ℕ)) → made ≡ [] → AreRounds losses made 0
rounds_none losses made e = record { size = ap length e; each = λ at h. absurd (omega (arith, h)) }

-- one more
pub rounds_more : (losses : List (Option Loss)) (made : List (Option ℕ)) (count : ℕ) (rounds : Option ℕ) → rounds ≡ rounds_of (loss_at losses count)
    → AreRounds losses made count → AreRounds losses (made ++ rounds ∷ []) (count + 1)
rounds_more losses made count rounds e are = record {
  size = let q = are.size in length-append made (rounds ∷ []) ∙ omega (arith, q);
  each = λ at h. elim (cases_lt at count) [
    | inl l ↦ let q = are.size in get_or_append_left made (rounds ∷ []) None at (omega (arith, l, q)) ∙ are.each at l
    | inr l ↦
        let same : at ≡ count = omega (arith, h, l) in
        ap (number_in (made ++ rounds ∷ [])) same ∙ get_or_at made rounds [] None count are.size ∙ e ∙ ap (λ k. rounds_of (loss_at losses k)) (sym same)
  ];
}
