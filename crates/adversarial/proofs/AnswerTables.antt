-- The least number of a diagram of letters that evade is the answer.
use Rattle.std.proofs.Common.{◌≡◌, ℕ, suc, ◌<◌, ◌≤◌, ◌^◌, ◌+◌, ◌-◌, ◌/◌, ◌%◌, inl, inr, refl, sym, ◌∙◌, ap, subst, arith, Bool, true, false}
use Rattle.std.specs.Prelude.{nat_lt, ◌↔◌}
use Rattle.std.proofs.lemmas.Nat.{pow_pos}
use Rattle.diagrams.specs.declared.work.Op.TheVariants.{Least}
use Rattle.diagrams.specs.Tree.{Assignment}
use Rattle.diagrams.specs.Eval.{letter_truth}
use Rattle.diagrams.specs.Folded.{IsExtreme, AgreeOutside}
use Rattle.diagrams.specs.Picked.{number_of, IsLeastNumber}
use Rattle.automata.proofs.Letters.{spelt, spelt-less, spelt-truth}
use Rattle.forms.specs.declared.partition.Partition.{Partition}
use Rattle.game.specs.Winning.{WinsWithin}
use Rattle.game.specs.Marks.{Evades, IsAnswer}
use Rattle.game.specs.Arena.{Locations, locations}
use Rattle.layers.proofs.LetterParts.{first_part, spelt-first, spelt-same, spelt-letter}
use Rattle.layers.proofs.Rounds.{agent_first, environment_first, below, beyond, letter_with, letter_first, letter_second, letter_less, first_less, second_less, same_letter}
use Rattle.layers.proofs.FoldedRows.{mixed, mixed_below, mixed_beyond}
use Rattle.adversarial.proofs.Numbered.{second_part, number_first}

-- the letter is legal and leads to where no number wins
abbrev pub IsFree : (s : Partition) → Bool → Locations → ℕ → ℕ → Type 0
IsFree s duty m at a = (m.next at a < m.size) × ((k : ℕ) → ¬ WinsWithin (locations s duty m) k (m.next at a))

module _ (i o : ℕ) (duty : Bool) (m : Locations) (at : ℕ) (g : Assignment → ℕ) (good : (a : ℕ) → a < 2 ^ (i + o) → (g (letter_truth (i + o) a) ≡ 1) ↔ IsFree (agent_first i o) duty m at a)
    (props : (b : Assignment) → g b ≡ g (letter_truth (i + o) (spelt b (i + o)))) where
  turned : i + o ≡ o + i
  turned = omega arith

  spelt_turned : (b : Assignment) → spelt b (i + o) ≡ spelt b (o + i)
  spelt_turned b = ap (spelt b) turned

  -- an input that evades the output is the number of an assignment
  evading_number : (y z : ℕ) → Evades (locations (agent_first i o) duty m) at z y → (b : Assignment) × AgreeOutside o (i + o) (letter_truth o y) b × (g b ≡ 1) × (number_of b i o ≡ z)
  evading_number y z (a, r, legal, never) = (
    letter_truth (i + o) a,
    (λ v h. elim h [
      | inl l ↦ ap (λ p. letter_truth p a v) turned ∙ first_part o i a v l ∙ ap (λ w. letter_truth o w v) r.output
      | inr l ↦ let e = beyond (i + o) v l in let f = beyond o v (omega arith) in rw (e, f) refl
    ]),
    (good a r.letter).1 (legal, never),
    sym (second_part (letter_truth (i + o) a) o i) ∙ ap (λ w. w % 2 ^ i) (sym (spelt_turned (letter_truth (i + o) a)) ∙ spelt-letter (i + o) a r.letter) ∙ r.input,
  )

  -- and the number of an assignment with which g is 1 is such an input
  number_evades : (y : ℕ) → y < 2 ^ o → (b : Assignment) → AgreeOutside o (i + o) (letter_truth o y) b → g b ≡ 1 → Evades (locations (agent_first i o) duty m) at (number_of b i o) y
  number_evades y l b agree e =
      let less = spelt-less b (i + o) in
      let q = (good (spelt b (i + o)) less).0 (sym (props b) ∙ e) in
      let output : spelt b (i + o) / 2 ^ i ≡ y = ap (λ w. w / 2 ^ i) (spelt_turned b) ∙ spelt-first b o i ∙ spelt-same b (letter_truth o y) o (λ v h. agree v (inl h)) ∙ spelt-letter o y l in
      let input : spelt b (i + o) % 2 ^ i ≡ number_of b i o = ap (λ w. w % 2 ^ i) (spelt_turned b) ∙ second_part b o i in
      (spelt b (i + o), record { letter = less; input = input; output = output }, q.0, q.1)

  pub agent_answer : (y x : ℕ) → y < 2 ^ o → (z : ℕ) × Evades (locations (agent_first i o) duty m) at z y → IsLeastNumber o (i + o) g (letter_truth o y) x → IsAnswer (locations (agent_first i o) duty m) at y x
  agent_answer y x l ev q =
      let count : i + o - o ≡ i = omega arith in
      record {
        holds = elim q.taken [
          | inl t ↦ subst (λ w. Evades (locations (agent_first i o) duty m) at w y) (ap (λ n. number_of t.0 n o) (sym count) ∙ t.3) (number_evades y l t.0 t.1 t.2)
          | inr t ↦ let n = evading_number y ev.0 ev.1 in absurd (t.1 n.0 n.1 n.2)
        ];
        least = λ k h e.
            let n = evading_number y k e in
            let low : x ≤ number_of n.0 i o = rw count at (q.least n.0 n.1 n.2) in
            let is : number_of n.0 i o ≡ k = n.3 in
            absurd (omega arith);
      }

module _ (i o : ℕ) (duty : Bool) (m : Locations) (at : ℕ) (g : Assignment → ℕ) (good : (a : ℕ) → a < 2 ^ (i + o) → (g (letter_truth (i + o) a) ≡ 1) ↔ IsFree (environment_first i o) duty m at a)
    (props : (b : Assignment) → g b ≡ g (letter_truth (i + o) (spelt b (i + o)))) (small : (b : Assignment) → g b < 2)
    (f : Assignment → ℕ) (extreme : (b : Assignment) → IsExtreme Least i (i + o) g b (f b)) where
  -- an input that evades each output is the number of an assignment
  evading_input : (a0 : Assignment) (z : ℕ) → ((y : ℕ) → y < 2 ^ o → Evades (locations (environment_first i o) duty m) at z y)
      → (b : Assignment) × AgreeOutside 0 i a0 b × (f b ≡ 1) × (number_of b i 0 ≡ z)
  evading_input a0 z ev =
      let e0 = ev 0 (pow_pos o) in
      let zsmall : z < 2 ^ i = subst (λ w. w < 2 ^ i) e0.1.input (first_less i o e0.0 e0.1.letter) in
      let b = mixed i (letter_truth i z) a0 in
      let t = (extreme (mixed i (letter_truth i z) a0)).taken in
      let a = spelt t.0 (i + o) in
      let less = spelt-less t.0 (i + o) in
      let first : spelt t.0 (i + o) / 2 ^ o ≡ z =
      spelt-first t.0 i o ∙ spelt-same t.0 (letter_truth i z) i (λ v h. t.1 v (inl h) ∙ mixed_below i (letter_truth i z) a0 v h) ∙ spelt-letter i z zsmall in
      let e = ev (spelt t.0 (i + o) % 2 ^ o) (second_less o (spelt t.0 (i + o))) in
      let same : e.0 ≡ spelt t.0 (i + o) = same_letter o e.0 (spelt t.0 (i + o)) (e.1.input ∙ sym first) e.1.output in
      let free : IsFree (environment_first i o) duty m at (spelt t.0 (i + o)) = subst (IsFree (environment_first i o) duty m at) same (e.2, e.3) in (
        mixed i (letter_truth i z) a0,
        (λ v h. elim h [
          | inl l ↦ absurd (omega arith)
          | inr l ↦ mixed_beyond i (letter_truth i z) a0 v l
        ]),
        sym t.2 ∙ props t.0 ∙ (good a less).1 free,
        number_first (mixed i (letter_truth i z) a0) i ∙ spelt-same (mixed i (letter_truth i z) a0) (letter_truth i z) i (λ v h. mixed_below i (letter_truth i z) a0 v h) ∙ spelt-letter i z zsmall,
      )

  -- and the number of an assignment whose least is 1 is such an input
  input_evades : (b : Assignment) → f b ≡ 1 → (y : ℕ) → y < 2 ^ o → Evades (locations (environment_first i o) duty m) at (number_of b i 0) y
  input_evades b e y l =
      let x = spelt b i in
      let a = letter_with o (spelt b i) y in
      let less : letter_with o (spelt b i) y < 2 ^ (i + o) = letter_less i o (spelt b i) y (spelt-less b i) l in
      let first = letter_first o (spelt b i) y l in
      let c = mixed (i + o) (letter_truth (i + o) (letter_with o (spelt b i) y)) b in
      let agrees : AgreeOutside i (i + o) b (mixed (i + o) (letter_truth (i + o) (letter_with o (spelt b i) y)) b) = λ v h. elim h [
        | inl k ↦ mixed_below (i + o) (letter_truth (i + o) (letter_with o (spelt b i) y)) b v (omega arith) ∙ first_part i o (letter_with o (spelt b i) y) v k
            ∙ ap (λ w. letter_truth i w v) first ∙ spelt-truth b i v k
        | inr k ↦ mixed_beyond (i + o) (letter_truth (i + o) (letter_with o (spelt b i) y)) b v k
      ] in
      let low : f b ≤ g (mixed (i + o) (letter_truth (i + o) (letter_with o (spelt b i) y)) b) = (extreme b).bounds (mixed (i + o) (letter_truth (i + o) (letter_with o (spelt b i) y)) b) agrees in
      let same : g (mixed (i + o) (letter_truth (i + o) (letter_with o (spelt b i) y)) b) ≡ g (letter_truth (i + o) (letter_with o (spelt b i) y)) =
      props (mixed (i + o) (letter_truth (i + o) (letter_with o (spelt b i) y)) b)
      ∙ ap (λ w. g (letter_truth (i + o) w))
      (spelt-same (mixed (i + o) (letter_truth (i + o) (letter_with o (spelt b i) y)) b) (letter_truth (i + o) (letter_with o (spelt b i) y)) (i + o)
      (λ v h. mixed_below (i + o) (letter_truth (i + o) (letter_with o (spelt b i) y)) b v h)
      ∙ spelt-letter (i + o) (letter_with o (spelt b i) y) less) in
      let most = small (letter_truth (i + o) (letter_with o (spelt b i) y)) in
      let one : g (letter_truth (i + o) (letter_with o (spelt b i) y)) ≡ 1 = omega arith in
      let q = (good a less).0 one in
      (a, record { letter = less; input = first ∙ sym (number_first b i); output = letter_second o (spelt b i) y l }, q.0, q.1)

  pub environment_answer : (y x : ℕ) → (z : ℕ) × ((w : ℕ) → w < 2 ^ o → Evades (locations (environment_first i o) duty m) at z w) → IsLeastNumber 0 i f (letter_truth o y) x
      → IsAnswer (locations (environment_first i o) duty m) at y x
  environment_answer y x ev q =
      let count : i - 0 ≡ i = omega arith in
      record {
        holds = elim q.taken [
          | inl t ↦ λ w l. subst (λ z. Evades (locations (environment_first i o) duty m) at z w) (ap (λ n. number_of t.0 n 0) (sym count) ∙ t.3) (input_evades t.0 t.2 w l)
          | inr t ↦ let n = evading_input (letter_truth o y) ev.0 ev.1 in absurd (t.1 n.0 n.1 n.2)
        ];
        least = λ k h e.
            let n = evading_input (letter_truth o y) k e in
            let low : x ≤ number_of n.0 i 0 = rw count at (q.least n.0 n.1 n.2) in
            let is : number_of n.0 i 0 ≡ k = n.3 in
            absurd (omega arith);
      }
