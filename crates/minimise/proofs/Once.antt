-- A claim has one class count.
use Rattle.std.proofs.Common.{◌≡◌, ◌≢◌, ℕ, ◌<◌, ◌≤◌, List, [], ◌++◌, length, get_or, sym, ◌∙◌, ap, arith, inl, inr}
use Rattle.std.proofs.lemmas.Bool.{cases_lt}
use Rattle.std.proofs.lemmas.List.{get_or_default}
use Rattle.forms.specs.Word.{Word}
use Rattle.forms.specs.Word.{Claim}
use Rattle.forms.specs.Equivalence.{AreEquivalent, HasClassCount}
use Rattle.minimise.specs.Minimal.{ClassCountIsOne}
use Rattle.automata.proofs.Pigeon.{no_more_than}

-- the word among b's that is equivalent to word i of a
record Placed (p : ℕ) (f : Claim) (us vs : List Word) (i : ℕ) : Type 0 where
  place : ℕ
  within : i < length us → place < length vs
  alike : i < length us → AreEquivalent p f (get_or us i []) (get_or vs place [])

placed : (p : ℕ) (f : Claim) (n k : ℕ) → (a : HasClassCount p f n) → (b : HasClassCount p f k) → (i : ℕ) → Placed p f a.words b.words i
placed p f n k a b i =
    elim (cases_lt i (length a.words)) [
      | inl h ↦
          let c = b.cover (get_or a.words i []) (a.over i [] h) in
          let e : get_or b.words c.0 [] ≡ c.1 = get_or_default b.words c.0 [] c.1 c.2 ∙ c.3 in
          record { place = c.0; within = λ _. c.2; alike = λ _ w o. c.4 w o ∙ ap (λ z. f (z ++ w)) (sym e) }
      | inr h ↦ record { place = 0; within = λ l. absurd (omega (arith, h, l)); alike = λ l. absurd (omega (arith, h, l)) }
    ]

at_most : (p : ℕ) (f : Claim) (n k : ℕ) → HasClassCount p f n → HasClassCount p f k → n ≤ k
at_most p f n k a b =
    let r = no_more_than (length b.words) (length a.words) (λ i. (placed p f n k a b i).place) (λ i h. (placed p f n k a b i).within h) apart in
    omega (arith, r, a.count, b.count)
  where
    apart : (i j : ℕ) → i < j → j < length a.words → (placed p f n k a b i).place ≢ (placed p f n k a b j).place
    apart i j h l e =
        let x = placed p f n k a b i in
        let y = placed p f n k a b j in
        let s = a.differ i j [] h l in
        s.differ (x.alike (omega (arith, h, l)) s.word s.over ∙ ap (λ z. f (get_or b.words z [] ++ s.word)) e ∙ sym (y.alike l s.word s.over))

-- any two class counts of a claim are equal
pub class_count_is_one : ClassCountIsOne
class_count_is_one p f n k a b =
    let x = at_most p f n k a b in
    let y = at_most p f k n b a in
    omega (arith, x, y)
