-- Marks by numbers, and numbers as tables, one more at a time.
use Rattle.std.proofs.Common.{◌≡◌, ◌<◌, ◌+◌, ◌++◌, ℕ, zero, suc, List, [], ◌∷◌, Bool, true, false, Option, Some, None, refl, sym, ◌∙◌, ap, arith, inl, inr, length, length-append, replicate}
use Rattle.std.specs.Prelude.{slice_index, slice_index_or, is_some, not, unwrap_or}
use Rattle.std.proofs.lemmas.Bool.{cases_lt}
use Rattle.std.proofs.lemmas.List.{get_or_append_left, get_or_at, length-replicate, get_or-replicate}
use Rattle.choosing.specs.declared.choice.Mark.{Mark}
use Rattle.choosing.specs.declared.choice.Mark.TheVariants.{Lost}
use Rattle.choosing.specs.Chosen.{no_number}
use Rattle.choosing.specs.MarkOf.{mark_of}
use Rattle.choosing.specs.Rounds.{IsTable, code}
use Rattle.game.specs.Board.{Partition, Board}
use Rattle.game.specs.Values.{IsMarkedBy}
use Rattle.printed_strategy.specs.Strategy.{is_goal}
use Rattle.printed_strategy.specs.StrategyText.{has_answers}
use Rattle.strategy.specs.declared.marks.Numbers.{Numbers}
use Rattle.strategy.specs.Numbers.{number_in, loss_in, has_losses, goal_in, mark_by, AreMarks, IsTableTo, IsTableOf}

-- no mark
pub marks_none : (goals : List Bool) (numbers : Numbers) (marks : List Mark) → marks ≡ [] → AreMarks goals numbers marks 0
marks_none goals numbers marks e = record { size = ap length e; each = λ at h. absurd (omega (arith, h)) }

-- one more
pub marks_more : (goals : List Bool) (numbers : Numbers) (marks : List Mark) (count : ℕ) (mark : Mark)
    → mark ≡ mark_by (goal_in goals count) (number_in numbers.ranks.items count) (number_in numbers.distances.items count) (has_losses numbers) (loss_in numbers count)
    → AreMarks goals numbers marks count → AreMarks goals numbers (marks ++ mark ∷ []) (count + 1)
marks_more goals numbers marks count mark e are = record {
  size = let q = are.size in length-append marks (mark ∷ []) ∙ omega (arith, q);
  each = λ at h. elim (cases_lt at count) [
    | inl l ↦ let q = are.size in get_or_append_left marks (mark ∷ []) Lost at (omega (arith, l, q)) ∙ are.each at l
    | inr l ↦
        let same : at ≡ count = omega (arith, h, l) in
        ap (λ k. slice_index_or (marks ++ mark ∷ []) k Lost) same ∙ get_or_at marks mark [] Lost count are.size ∙ e
        ∙ ap (λ k. mark_by (goal_in goals k) (number_in numbers.ranks.items k) (number_in numbers.distances.items k) (has_losses numbers) (loss_in numbers k)) (sym same)
  ];
}

-- no number
pub table_none : (numbers : List (Option ℕ)) (table : List ℕ) → table ≡ [] → IsTableTo numbers table 0
table_none numbers table e = record { size = ap length e; each = λ at h. absurd (omega (arith, h)) }

-- one more
pub table_more : (numbers : List (Option ℕ)) (table : List ℕ) (count number : ℕ) → number ≡ code (number_in numbers count) → IsTableTo numbers table count
    → IsTableTo numbers (table ++ number ∷ []) (count + 1)
table_more numbers table count number e is = record {
  size = let q = is.size in length-append table (number ∷ []) ∙ omega (arith, q);
  each = λ at h. elim (cases_lt at count) [
    | inl l ↦ let q = is.size in get_or_append_left table (number ∷ []) 0 at (omega (arith, l, q)) ∙ is.each at l
    | inr l ↦
        let same : at ≡ count = omega (arith, h, l) in
        ap (slice_index (table ++ number ∷ [])) same ∙ get_or_at table number [] 0 count is.size ∙ e ∙ ap (λ k. code (number_in numbers k)) (sym same)
  ];
}

-- the number of an illegal round at the end
pub table_whole : (numbers : List (Option ℕ)) (table : List ℕ) (illegal : ℕ) → IsTableTo numbers table (length numbers)
    → IsTableOf (number_in numbers) (length numbers) illegal (table ++ illegal ∷ [])
table_whole numbers table illegal is = record {
  long = let q = is.size in length-append table (illegal ∷ []) ∙ omega (arith, q);
  each = λ at l. let q = is.size in get_or_append_left table (illegal ∷ []) 0 at (omega (arith, l, q)) ∙ is.each at l;
  past = get_or_at table illegal [] 0 (length numbers) is.size;
}

-- a table without numbers
pub table_empty : (number : ℕ → Option ℕ) (size : ℕ) → ((at : ℕ) → number at ≡ None) → IsTableOf number size no_number (replicate (size + 1) no_number)
table_empty number size none = record {
  long = length-replicate (size + 1) no_number;
  each = λ at l. get_or-replicate (size + 1) at no_number 0 (omega (arith, l)) ∙ sym (ap code (none at));
  past = get_or-replicate (size + 1) size no_number 0 (omega arith);
}

-- a list of all numbers is a table for the walks
pub is_table : {s : Partition} (b : Board s) (number : b.Place → Option ℕ) (place : ℕ → b.Place) (size illegal : ℕ) (values : List ℕ)
    → IsTableOf (λ v. number (place v)) size illegal values → ((v n : ℕ) → v < size → number (place v) ≡ Some n → n < no_number) → IsTable b number place size illegal values
is_table b number place size illegal values is small = record { item = is.each; past = is.past; small = small }

-- the mark is by the numbers
pub marked : {s : Partition} (b : Board s) (ranks distances losses : b.Place → Option ℕ) (h : b.Place) (goal : Bool) (rank distance loss : Option ℕ)
    → ((goal ≡ true) → b.IsMet h) → ((goal ≡ false) → ¬ b.IsMet h) → ranks h ≡ rank → distances h ≡ distance → losses h ≡ loss
    → (duty : Bool) → b.has_duty ≡ duty → IsMarkedBy b ranks distances losses h (mark_of (mark_by goal rank distance duty loss))
marked b ranks distances losses h true rank distance loss met unmet r d l duty u = met refl
marked b ranks distances losses h false (Some n) distance loss met unmet r d l duty u = (unmet refl, r)
marked b ranks distances losses h false None (Some n) loss met unmet r d l duty u = (r, d)
marked b ranks distances losses h false None None loss met unmet r d l false u = (u, r, d)
marked b ranks distances losses h false None None None met unmet r d l true u = (u, r, d, l)
marked b ranks distances losses h false None None (Some n) met unmet r d l true u = (u, r, d, l)

-- a goal's mark
pub goal-mark : (goal : Bool) (rank distance loss : Option ℕ) (duty : Bool) → is_goal (mark_of (mark_by goal rank distance duty loss)) ≡ goal
goal-mark true rank distance loss duty = refl
goal-mark false (Some n) distance loss duty = refl
goal-mark false None (Some n) loss duty = refl
goal-mark false None None loss false = refl
goal-mark false None None None true = refl
goal-mark false None None (Some n) true = refl

-- a location that isn't a goal has answers exactly where it has no rank
pub answers-mark : (rank distance loss : Option ℕ) (duty : Bool) → has_answers (mark_of (mark_by false rank distance duty loss)) ≡ not (is_some rank)
answers-mark (Some n) distance loss duty = refl
answers-mark None (Some n) loss duty = refl
answers-mark None None loss false = refl
answers-mark None None None true = refl
answers-mark None None (Some n) true = refl

-- an item within a list is so whatever stands past its end
pub same-within : {A : Type 0} → (xs : List A) (i : ℕ) (d e : A) → i < length xs → slice_index_or xs i d ≡ slice_index_or xs i e
same-within [] i d e h = absurd (omega (arith, h))
same-within (x ∷ xs) zero d e h = refl
same-within (x ∷ xs) (suc i) d e h = same-within xs i d e (omega (arith, h))

-- the number of an option, or what stands for none
pub code-or : (o : Option ℕ) → unwrap_or o no_number ≡ code o
code-or None = refl
code-or (Some n) = refl
