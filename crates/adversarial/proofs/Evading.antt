-- Answers of the tables evade, so they refute every number of rounds, from locations and from histories.
use Rattle.std.proofs.Common.{◌≡◌, ◌<◌, ◌^◌, ℕ, inl, inr, sym, ap, subst, Bool, List, Option, Some, None}
use Rattle.std.proofs.lemmas.Nat.{pow_pos}
use Rattle.diagrams.specs.declared.top.Id.{Id}
use Rattle.diagrams.specs.Eval.{Diagrams, eval, letter_truth}
use Rattle.attractor.proofs.SettlingLemmas.{option_cases}
use Rattle.forms.specs.declared.partition.Partition.{Partition}
use Rattle.forms.specs.declared.partition.Mover.{Mover}
use Rattle.forms.specs.declared.partition.Mover.TheVariants.{Agent, Environment}
use Rattle.game.specs.Board.{Board, shown, width}
use Rattle.game.specs.Winning.{WinsWithin}
use Rattle.game.specs.Marks.{Evades, IsAnswer}
use Rattle.game.specs.Histories.{Aims, histories, is_given}
use Rattle.game.specs.Arena.{Locations, locations, LeadsTo, IsArenaOf}
use Rattle.game.specs.Numbers.{IsLeastOrNone}
use Rattle.game.proofs.ArenaLemmas.{arena_simulates}
use Rattle.game.proofs.Simulation.{turned}
use Rattle.game.proofs.SimulatedMarks.{printed_answer}
use Rattle.layers.specs.Ranked.{AreRanks}
use Rattle.layers.proofs.Refuting.{IsNotWon, Evade, refutes_all}
use Rattle.layers.proofs.HistoryLemmas.{leads_within, history_refutes}
use Rattle.adversarial.specs.Answered.{AreAnswers, Refute, AnswerHistories, answers_of, read_table, table_at}

-- the answer to what is shown evades
answer_evades : (f : Mover) (i o : ℕ) (b : Board (record { first = f; inputs = i; outputs = o })) (h : b.Place) (input : ℕ → ℕ) → ((y : ℕ) → y < 2 ^ o → IsAnswer b h y (input y))
    → (y : ℕ) → y < 2 ^ o → Evades b h (input (shown (record { first = f; inputs = i; outputs = o }) y)) y
answer_evades Agent i o b h input f y l = (f y l).holds
answer_evades Environment i o b h input f y l = (f 0 (pow_pos o)).holds y l

module _ (n : Diagrams) (s : Partition) (duty : Bool) (m : Locations) (rank : ℕ → Option ℕ) (r : AreRanks s duty m rank) (tables : List (Option Id)) (a : AreAnswers n s duty m rank tables) where
  -- a location without a rank isn't won
  pub unranked_lost : (at : ℕ) → at < m.size → rank at ≡ None → IsNotWon (locations s duty m) at
  unranked_lost at h e = subst (λ v. IsLeastOrNone (λ k. WinsWithin (locations s duty m) k at) v) e (r at h)

  -- and one that isn't won has no rank
  lost_unranked : (at : ℕ) → at < m.size → IsNotWon (locations s duty m) at → rank at ≡ None
  lost_unranked at h f = elim (option_cases (rank at)) [
    | inl e ↦ e
    | inr e ↦ absurd (f e.0 (subst (λ v. IsLeastOrNone (λ k. WinsWithin (locations s duty m) k at) v) e.1 (r at h)).holds)
  ]

  tables_evade : Evade (locations s duty m) (λ at. at < m.size) (answers_of n s tables)
  tables_evade at h f =
      let z = a.answers at h (lost_unranked at h f) in (
        (λ y. eval n z.0 (letter_truth s.outputs y)),
        ap (read_table n s) z.1,
        answer_evades s.first s.inputs s.outputs (locations s duty m) at (λ y. eval n z.0 (letter_truth s.outputs y)) z.3,
      )

  -- the tables refute every number of rounds
  pub tables_refute : Refute n s duty m rank tables
  tables_refute k at h e = refutes_all (locations s duty m) (λ i. i < m.size) (answers_of n s tables) (λ i x l g q. q) tables_evade k at h (unranked_lost at h e)

-- and do so from histories
pub tables_of_histories : (n : Diagrams) (s : Aims) (m : Locations) → IsArenaOf s m → (rank : ℕ → Option ℕ) → AreRanks s.parts (is_given s.duty) m rank
    → (tables : List (Option Id)) → AreAnswers n s.parts (is_given s.duty) m rank tables → AnswerHistories n s m rank tables
tables_of_histories n s m arena rank r tables a = record {
  answers = λ h at x e.
      let z = a.answers at (leads_within s m arena h at x) e in
      let b = histories s in
      let c = locations s.parts (is_given s.duty) m in
      let unmet : ¬ c.IsMet at = λ g. unranked_lost n s.parts (is_given s.duty) m rank r tables a at (leads_within s m arena h at x) e 0 g in (
        z.0,
        z.1,
        λ y o. printed_answer c b (λ k g. LeadsTo (width s.parts) m g k) (turned b c (λ g k. LeadsTo (width s.parts) m g k) (arena_simulates s m arena)) at h x unmet y
            (eval n z.0 (letter_truth s.parts.outputs y)) (z.3 y o),
      );
  refutes = λ h at x e k.
      history_refutes s m arena (answers_of n s.parts tables) k h at x
      (tables_refute n s.parts (is_given s.duty) m rank r tables a k at (leads_within s m arena h at x) e);
}

-- answers stay so where the duty or what has broken it is another
pub answers_with : (n : Diagrams) (s : Partition) (d e : Bool) (m : Locations) (broken : ℕ → Bool) (rank : ℕ → Option ℕ) (tables : List (Option Id)) → AreAnswers n s d m rank tables
    → AreAnswers n s e (record { size = m.size; next = m.next; is_goal = m.is_goal; is_broken = broken }) rank tables
answers_with n s d e m broken rank tables a = record { size = a.size; won = λ at k h q. a.won at k h q; answers = λ at h q. a.answers at h q }
