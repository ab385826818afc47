-- What is merged fits its store, and is what is computed on each arena whose rows, numbers and answers were given.
use Rattle.std.proofs.Common.{◌≡◌, ◌<◌, ◌-◌, ◌^◌, ℕ, List, Bool, false, Option, Some, None, refl, sym, ◌∙◌, ap, subst, arith, length, true≢false}
use Rattle.std.specs.Prelude.{is_some, not}
use Rattle.std.proofs.lemmas.Option.{get_or_from_slice_get}
use Rattle.std.proofs.lemmas.Nat.{pow_pos}
use Rattle.diagrams.specs.Tree.{Assignment, Tree}
use Rattle.diagrams.specs.Eval.{Diagrams, eval, id_at, letter_truth}
use Rattle.diagrams.specs.Live.{Keeps}
use Rattle.diagrams.proofs.DependsLemmas.{over_later}
use Rattle.diagrams.proofs.Meaning.{eval-lasts, live_lasts}
use Rattle.game.specs.Arena.{Locations, locations}
use Rattle.game.specs.Board.{Mover, Agent, Environment, Partition, Board, IsChoice, width}
use Rattle.game.specs.Playable.{IsPlayable}
use Rattle.game.specs.Values.{AreNumbers, IsAnswerBy, IsMarkedBy}
use Rattle.printed_strategy.specs.Planned.{IsChosenFor, IsComputedOn, target_on}
use Rattle.printed_strategy.specs.Strategy.{is_goal}
use Rattle.printed_strategy.specs.StrategyText.{has_answers, shown_width}
use Rattle.choosing.specs.declared.choice.Chosen.{Chosen}
use Rattle.choosing.specs.declared.choice.Mark.{Mark}
use Rattle.choosing.specs.declared.choice.Mark.TheVariants.{Goal, Win, Pending, Lost, Held, LostIn}
use Rattle.choosing.specs.declared.choice.Tables.{Tables}
use Rattle.choosing.specs.ArenaRows.{AreTables, outputs_of}
use Rattle.choosing.specs.Choices.{AreChoices, IsChoiceBelow, IsChoiceAt}
use Rattle.choosing.specs.Chosen.{IsChosenBelow, no_number}
use Rattle.choosing.specs.MarkOf.{mark_of, IsChosenThere}
use Rattle.choosing.specs.Numbers.{number_at}
use Rattle.choosing.specs.Rounds.{from_of, to_of}
use Rattle.choosing.proofs.StandingLemmas.{chosen_there, truth-number}
use Rattle.strategy.specs.declared.marks.Numbers.{Numbers}
use Rattle.strategy.specs.declared.strategy.Strategy.{Strategy as Kept}
use Rattle.strategy.specs.Fits.{IsRow, IsSmall, IsSmallChosen, FitsAt, FitsStrategy}
use Rattle.strategy.specs.Merged.{HasAnswers, AreRowsOf, AreAnswersOn, table_at}
use Rattle.strategy.specs.Numbers.{number_in, loss_in, has_losses, goal_in, mark_by, HasNumbers, AreMarks, AreTablesOf, IsTableOf}
use Rattle.strategy.specs.Plan.{size_of, mark_at, choice_at, chosen_at, choice_of, target_at, table_of, decision_end, plan_of}
use Rattle.strategy.proofs.NumberLemmas.{is_table, marked, goal-mark, answers-mark}

small-below : (from to : ℕ) (duty : Bool) (ranks distances losses : List ℕ) (t : Tree) (m : Mark) (y : ℕ) → IsChosenBelow from to duty ranks distances losses t m y → IsSmall m × (y < 2 ^ (to - from))
small-below from to duty ranks distances losses t Goal y c = absurd c
small-below from to duty ranks distances losses t (Win n) y c = let e = c.0 in let l = c.1 in (omega (arith, e, l), c.2.small)
small-below from to duty ranks distances losses t (Pending n) y c = let e = c.1 in let l = c.2 in (omega (arith, e, l), c.3.small)
small-below from to duty ranks distances losses t Lost y c = let e = c.2 in let p = pow_pos (to - from) in (tt, omega (arith, e, p))
small-below from to duty ranks distances losses t Held y c = (tt, c.3.small)
small-below from to duty ranks distances losses t (LostIn n) y c = let e = c.2 in let l = c.3 in let z = c.4 in let p = pow_pos (to - from) in (omega (arith, e, l), omega (arith, z, p))

width-of : (d : Mover) (i o : ℕ) → to_of d i o - from_of d i ≡ o
width-of Agent i o = omega arith
width-of Environment i o = omega arith

small-choice : (s : Partition) (size : ℕ) (duty : Bool) (tables : Tables) (t : Tree) (c : Option Chosen) → IsChoiceBelow (outputs_of s) size duty tables t c → IsSmallChosen s.outputs c
small-choice s size duty tables t None is = tt
small-choice s size duty tables t (Some c) is =
    let r = small-below (from_of s.first s.inputs) (to_of s.first s.inputs s.outputs) duty tables.ranks.items tables.distances.items tables.losses.items t c.mark c.output is.1 in
    (r.0, subst (λ z. c.output < 2 ^ z) (width-of s.first s.inputs s.outputs) r.1)

none-from : {A : Type 0} → (o : Option A) → is_some o ≡ false → o ≡ None
none-from None e = refl
none-from (Some x) e = absurd (true≢false e)

-- the variables of a decision spell it
choice-spelt : (d : Mover) (i o x : ℕ) → IsChoice (record { first = d; inputs = i; outputs = o }) x → number_at (letter_truth (from_of d i) x) 0 (from_of d i) ≡ x
choice-spelt Agent i o x e = sym e
choice-spelt Environment i o x l = truth-number i x l

for-there : {s : Partition} (b : Board s) (ranks distances losses : b.Place → Option ℕ) (h : b.Place) (x : ℕ) (c : Option Chosen)
    → IsChosenThere b ranks distances losses h x c → IsChosenFor b ranks distances losses h x (choice_of c)
for-there b ranks distances losses h x None r = r
for-there b ranks distances losses h x (Some c) r = r

module _ (s n : Diagrams) (keeps : Keeps s n) (k : Kept) (goals : List Bool) (numbers : Numbers) (tables : Tables) (props : s.props ≡ width k.partition)
    (rows : (at : ℕ) → at < length k.rows.items → IsRow s (width k.partition) (length k.rows.items) (id_at k.rows.items at)) (long : length goals ≡ length k.rows.items)
    (has : HasNumbers numbers (length k.rows.items)) (answers : HasAnswers s k.partition goals numbers k.answers.items (length k.rows.items))
    (marks : AreMarks goals numbers k.marks.items (length goals)) (tabled : AreTablesOf numbers (length k.rows.items) tables)
    (duty : k.duty ≡ has_losses numbers) (verdict : k.verdict ≡ number_in numbers.ranks.items 0)
    (chosen : AreChoices s n (outputs_of k.partition) (length k.rows.items) (has_losses numbers) tables k.rows.items k.moves.items k.choices.keys) where
  sizes : length k.rows.items ≡ size_of k
  sizes = sym (marks.size ∙ long)

  row-value : (at : ℕ) → at < length k.rows.items → (a : Assignment) → eval n (id_at k.rows.items at) a ≡ eval s (id_at k.rows.items at) a
  row-value at l a = eval-lasts s n keeps.was keeps.now keeps.extends (id_at k.rows.items at) (rows at l).live a

  -- the choice to which a location's diagram leads
  choice-is : (at : ℕ) → at < length k.rows.items → (a : Assignment)
      → (c : Option Chosen) × (choice_at k (eval n (id_at k.moves.items at) a) ≡ c) × IsChoiceAt s (id_at k.rows.items at) a (outputs_of k.partition) (length k.rows.items) (has_losses numbers) tables c
  choice-is at l a =
      let r = chosen.each at l a in
      (r.0, get_or_from_slice_get k.choices.keys (eval n (id_at k.moves.items at) a) r.0 None r.1, r.2)

  mark-is : (at : ℕ) → at < length k.rows.items
      → mark_at k at ≡ mark_by (goal_in goals at) (number_in numbers.ranks.items at) (number_in numbers.distances.items at) (has_losses numbers) (loss_in numbers at)
  mark-is at l = marks.each at (omega (arith, l, long))

  fits-at : (at : ℕ) → at < length k.rows.items → FitsAt n k at
  fits-at at l = record {
    row = record {
      live = live_lasts s n keeps.extends (id_at k.rows.items at) (rows at l).live;
      over = over_later s n keeps (id_at k.rows.items at) (λ v. v < width k.partition) (rows at l).live (rows at l).over;
      targets = λ a. let e = row-value at l a in let t = (rows at l).targets a in omega (arith, e, t, sizes);
    };
    move = chosen.cut at l;
    small = λ a.
        let r = choice-is at l a in
        subst (IsSmallChosen k.partition.outputs) (sym r.1) (small-choice k.partition (length k.rows.items) (has_losses numbers) tables r.2.rest r.0 r.2.chosen);
    answered = λ e.
        let rank = number_in numbers.ranks.items at in
        let distance = number_in numbers.distances.items at in
        let loss = loss_in numbers at in
        let unmet : goal_in goals at ≡ false = sym (goal-mark (goal_in goals at) rank distance loss (has_losses numbers)) ∙ ap (λ z. is_goal (mark_of z)) (sym (mark-is at l)) ∙ e in
        ap (λ z. has_answers (mark_of z)) (mark-is at l) ∙ ap (λ z. has_answers (mark_of (mark_by z rank distance (has_losses numbers) loss))) unmet
        ∙ answers-mark rank distance loss (has_losses numbers) ∙ sym (answers.present at l unmet);
    table = λ id e.
        let t = answers.table at id l e in
        record {
          live = live_lasts s n keeps.extends id t.live;
          over = over_later s n keeps id (λ v. v < shown_width k.partition.first k.partition) t.live t.over;
          inputs = λ a. subst (λ z. z < 2 ^ k.partition.inputs) (sym (eval-lasts s n keeps.was keeps.now keeps.extends id t.live a)) (t.inputs a);
        };
  }

  -- it belongs to the store
  pub fits : FitsStrategy n k
  fits = record {
    props = keeps.extends.props ∙ props;
    rows = sizes;
    moves = chosen.long ∙ sizes;
    answers = answers.count ∙ sizes;
    distinct = chosen.distinct;
    each = λ at l. fits-at at (omega (arith, l, sizes));
  }

  module _ (m : Locations) (are : AreRowsOf s k.partition m k.rows.items goals) (playable : IsPlayable (locations k.partition (has_losses numbers) m) (λ at. at < m.size)) where
    within : (at : ℕ) → at < m.size → at < length k.rows.items
    within at l = let e = are.size in omega (arith, l, e)

    are-tables : AreTables (locations k.partition (has_losses numbers) m) (λ v. v) m.size (number_in numbers.ranks.items) (number_in numbers.distances.items) (loss_in numbers) tables
    are-tables =
        let b = locations k.partition (has_losses numbers) m in
        record {
          rank_table = is_table b (number_in numbers.ranks.items) (λ v. v) m.size 0 tables.ranks.items
              (subst (λ z. IsTableOf (number_in numbers.ranks.items) z 0 tables.ranks.items) (sym are.size) tabled.ranks) (λ v r l e. has.small_ranks v r (within v l) e);
          distance_table = is_table b (number_in numbers.distances.items) (λ v. v) m.size no_number tables.distances.items
              (subst (λ z. IsTableOf (number_in numbers.distances.items) z no_number tables.distances.items) (sym are.size) tabled.distances) (λ v r l e. has.small_distances v r (within v l) e);
          loss_table = λ e. is_table b (loss_in numbers) (λ v. v) m.size no_number tables.losses.items
              (subst (λ z. IsTableOf (loss_in numbers) z no_number tables.losses.items) (sym are.size) tabled.losses) (λ v r l e. has.small_losses v r (within v l) e);
        }

    choice-there : (at x : ℕ) → at < m.size → m.is_goal at ≡ false → IsChoice k.partition x
        → IsChosenFor (locations k.partition (has_losses numbers) m) (number_in numbers.ranks.items) (number_in numbers.distances.items) (loss_in numbers) at x (choice_of (chosen_at n k at x))
    choice-there at x l goal is =
        let b = locations k.partition (has_losses numbers) m in
        let a = letter_truth (decision_end k.partition) x in
        let r = choice-is at (within at l) a in
        let at_size = subst (λ z. IsChoiceAt s (id_at k.rows.items at) a (outputs_of k.partition) z (has_losses numbers) tables r.0) (sym are.size) r.2 in
        let there = chosen_there k.partition (has_losses numbers) m s (id_at k.rows.items at) at x a tables (number_in numbers.ranks.items) (number_in numbers.distances.items) (loss_in numbers)
        l goal is playable (are.row at l) (choice-spelt k.partition.first k.partition.inputs k.partition.outputs x is) are-tables r.0 at_size in
        subst (λ z. IsChosenFor b (number_in numbers.ranks.items) (number_in numbers.distances.items) (loss_in numbers) at x (choice_of z)) (sym r.1)
        (for-there b (number_in numbers.ranks.items) (number_in numbers.distances.items) (loss_in numbers) at x r.0 there)

    mark-there : (at : ℕ) → at < m.size
        → IsMarkedBy (locations k.partition (has_losses numbers) m) (number_in numbers.ranks.items) (number_in numbers.distances.items) (loss_in numbers) at (mark_of (mark_at k at))
    mark-there at l =
        let b = locations k.partition (has_losses numbers) m in
        let goal : m.is_goal at ≡ goal_in goals at = are.goal at l in
        subst (λ z. IsMarkedBy b (number_in numbers.ranks.items) (number_in numbers.distances.items) (loss_in numbers) at (mark_of z)) (sym (mark-is at (within at l)))
        (marked b (number_in numbers.ranks.items) (number_in numbers.distances.items) (loss_in numbers) at (goal_in goals at) (number_in numbers.ranks.items at) (number_in numbers.distances.items at) (loss_in numbers at)
        (λ e. goal ∙ e) (λ e h. true≢false (sym h ∙ goal ∙ e)) refl refl refl (has_losses numbers) refl)

    target-there : (at a : ℕ) → at < m.size → a < 2 ^ width k.partition → target_at (size_of k) (eval n (id_at k.rows.items at) (letter_truth (width k.partition) a)) ≡ target_on m at a
    target-there at a l small =
        let size : size_of k ≡ m.size = sym sizes ∙ sym are.size in
        let value : eval n (id_at k.rows.items at) (letter_truth (width k.partition) a) ≡ m.next at a =
        row-value at (within at l) (letter_truth (width k.partition) a) ∙ sym ((are.row at l).next a small) in
        ap (λ z. target_at z (eval n (id_at k.rows.items at) (letter_truth (width k.partition) a))) size ∙ ap (target_at m.size) value

    -- it is what is computed on the arena
    pub computed : AreNumbers (locations k.partition (has_losses numbers) m) (λ at. at < m.size) (number_in numbers.ranks.items) (number_in numbers.distances.items) (loss_in numbers)
        → AreAnswersOn s k.partition (has_losses numbers) m (number_in numbers.ranks.items) k.answers.items
        → IsComputedOn k.partition (has_losses numbers) m (number_in numbers.ranks.items) (number_in numbers.distances.items) (loss_in numbers) (plan_of n k)
    computed right answered = record {
      parts = refl;
      duty = duty;
      verdict = verdict;
      size = sym sizes ∙ sym are.size;
      target = λ at a l goal small. target-there at a l small;
      numbers = right;
      mark = mark-there;
      choice = choice-there;
      answers = λ at l goal none.
          let r = answered at l goal none in
          let t = answers.table at r.0 (within at l) r.1 in (
            λ y. eval n r.0 (letter_truth k.partition.outputs y),
            ap (table_of n k.partition.outputs) r.1,
            λ y shown. subst (λ z. IsAnswerBy (locations k.partition (has_losses numbers) m) (number_in numbers.ranks.items) at y z)
                (sym (eval-lasts s n keeps.was keeps.now keeps.extends r.0 t.live (letter_truth k.partition.outputs y))) (r.2 y shown),
          );
      unanswered = λ at r l goal some.
          let unmet : goal_in goals at ≡ false = sym (are.goal at l) ∙ goal in
          let without : is_some (table_at k.answers.items at) ≡ false = answers.present at (within at l) unmet ∙ ap (λ z. not (is_some z)) some in
          ap (table_of n k.partition.outputs) (none-from (table_at k.answers.items at) without);
    }
