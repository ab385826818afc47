-- What the program asks of marks is what the rules say of them.
use Rattle.std.proofs.Common.{◌≡◌, ◌<◌, ◌≤◌, ◌+◌, ◌↔◌, ℕ, suc, Bool, true, false, Option, Some, None, refl, sym, ◌∙◌, ap, arith, add-one}
use Rattle.std.specs.Prelude.{not, nat_lt}
use Rattle.std.proofs.lemmas.Bool.{ltb-true, lt-ltb, ltb-false, le-ltb}
use Rattle.game.specs.Marks.{Held}
use Rattle.certificate_rules.specs.Rules.{IsWon, IsRankBelow, IsOutMark, IsLossBelow, IsLossFrom}
use Rattle.certificate_text.specs.Lines.{won, rank_below, out, held, loss_below, loss_from, value_below, meets}
use Rattle.certificate_text.specs.Marks.{mark_of, IsBelow, IsMetBy}
use Rattle.certificate_text.specs.AskingLaws.{TestsAreOfRules}
use Rattle.certificate_text.specs.declared.marks.CertMark.{CertMark}
use Rattle.certificate_text.specs.declared.marks.CertMark.TheVariants as kept
use Rattle.certificate_text.specs.declared.marks.Test.{Test}
use Rattle.certificate_text.specs.declared.marks.Test.TheVariants as tests

not_true : false ≡ true → ⊥
not_true h = cc

won_is : (m : CertMark) → (won m ≡ true) ↔ IsWon (mark_of m)
won_is kept.Goal = (λ h. tt, λ h. refl)
won_is (kept.Win k) = (λ h. tt, λ h. refl)
won_is (kept.Pending k) = (λ h. absurd (not_true h), λ h. absurd h)
won_is kept.Held = (λ h. absurd (not_true h), λ h. absurd h)
won_is (kept.LostIn k) = (λ h. absurd (not_true h), λ h. absurd h)
won_is kept.Lost = (λ h. absurd (not_true h), λ h. absurd h)

rank_is : (n : ℕ) (m : CertMark) → (rank_below n m ≡ true) ↔ IsRankBelow n (mark_of m)
rank_is n kept.Goal = (λ h. ltb-true 0 n h, λ h. lt-ltb 0 n h)
rank_is n (kept.Win k) = (λ h. ltb-true k n h, λ h. lt-ltb k n h)
rank_is n (kept.Pending k) = (λ h. absurd (not_true h), λ h. absurd h)
rank_is n kept.Held = (λ h. absurd (not_true h), λ h. absurd h)
rank_is n (kept.LostIn k) = (λ h. absurd (not_true h), λ h. absurd h)
rank_is n kept.Lost = (λ h. absurd (not_true h), λ h. absurd h)

out_is : (m : CertMark) → (out m ≡ true) ↔ IsOutMark (mark_of m)
out_is kept.Goal = (λ h. absurd (not_true h), λ h. absurd h)
out_is (kept.Win k) = (λ h. absurd (not_true h), λ h. absurd h)
out_is (kept.Pending k) = (λ h. absurd (not_true h), λ h. absurd h)
out_is kept.Held = (λ h. tt, λ h. refl)
out_is (kept.LostIn k) = (λ h. tt, λ h. refl)
out_is kept.Lost = (λ h. tt, λ h. refl)

held_is : (m : CertMark) → (held m ≡ true) ↔ (mark_of m ≡ Held)
held_is kept.Goal = (λ h. absurd (not_true h), λ h. cc)
held_is (kept.Win k) = (λ h. absurd (not_true h), λ h. cc)
held_is (kept.Pending k) = (λ h. absurd (not_true h), λ h. cc)
held_is kept.Held = (λ h. refl, λ h. refl)
held_is (kept.LostIn k) = (λ h. absurd (not_true h), λ h. cc)
held_is kept.Lost = (λ h. absurd (not_true h), λ h. cc)

loss_is : (n : ℕ) (m : CertMark) → (loss_below n m ≡ true) ↔ IsLossBelow n (mark_of m)
loss_is n kept.Goal = (λ h. absurd (not_true h), λ h. absurd h)
loss_is n (kept.Win k) = (λ h. absurd (not_true h), λ h. absurd h)
loss_is n (kept.Pending k) = (λ h. absurd (not_true h), λ h. absurd h)
loss_is n kept.Held = (λ h. absurd (not_true h), λ h. absurd h)
loss_is n (kept.LostIn k) = (λ h. ltb-true k n h, λ h. lt-ltb k n h)
loss_is n kept.Lost = (λ h. absurd (not_true h), λ h. absurd h)

turned : (b : Bool) (P : Type 0) → (b ≡ true) ↔ P → (not b ≡ true) ↔ (¬ P)
turned true P h = (λ e. absurd (not_true e), λ n. absurd (n (h.0 refl)))
turned false P h = (λ e p. not_true (h.1 p), λ n. refl)

opened : (b : Bool) → not b ≡ true → b ≡ false
opened true h = absurd (not_true h)
opened false h = refl

not_below : (a b : ℕ) → (not (nat_lt a b) ≡ true) ↔ (b ≤ a)
not_below a b = (λ h. ltb-false a b (opened (nat_lt a b) h), λ h. ap not (le-ltb a b h))

loss_from_is : (n : ℕ) (m : CertMark) → (loss_from n m ≡ true) ↔ IsLossFrom n (mark_of m)
loss_from_is n kept.Goal = (λ h. absurd (not_true h), λ h. absurd h)
loss_from_is n (kept.Win k) = (λ h. absurd (not_true h), λ h. absurd h)
loss_from_is n (kept.Pending k) = (λ h. absurd (not_true h), λ h. absurd h)
loss_from_is n kept.Held = (λ h. tt, λ h. refl)
loss_from_is n (kept.LostIn k) = let b = not_below (k + 1) n in (λ h. let l : n ≤ k + 1 = b.0 h in omega arith, λ h. b.1 (omega arith))
loss_from_is n kept.Lost = (λ h. absurd (not_true h), λ h. absurd h)

below_is : (n : ℕ) (v : Option ℕ) → (value_below n v ≡ true) ↔ IsBelow n v
below_is n None = (λ h. absurd (not_true h), λ h. absurd h)
below_is n (Some v) = (λ h. ltb-true v n h, λ h. lt-ltb v n h)

pub tests_are_of_rules : TestsAreOfRules
tests_are_of_rules tests.Legal m v = (λ h. tt, λ h. refl)
tests_are_of_rules tests.Illegal m v = (λ h. absurd (not_true h), λ h. absurd h)
tests_are_of_rules (tests.RankBelow n) m v = rank_is n m
tests_are_of_rules (tests.NotRankBelow n) m v = turned (rank_below n m) (IsRankBelow n (mark_of m)) (rank_is n m)
tests_are_of_rules tests.IsWon m v = won_is m
tests_are_of_rules tests.IsNotWon m v = turned (won m) (IsWon (mark_of m)) (won_is m)
tests_are_of_rules (tests.ValueBelow n) m v = below_is n v
tests_are_of_rules (tests.NotValueBelow n) m v = turned (value_below n v) (IsBelow n v) (below_is n v)
tests_are_of_rules tests.IsOut m v = out_is m
tests_are_of_rules tests.IsHeld m v = held_is m
tests_are_of_rules (tests.LossBelow n) m v = loss_is n m
tests_are_of_rules (tests.LossFrom n) m v = loss_from_is n m
