-- The least letter at which two diagrams differ, by their parts.
use Rattle.std.proofs.Common.{◌≡◌, ◌≢◌, ◌<◌, ◌≤◌, ◌+◌, ◌-◌, ◌^◌, ℕ, suc, true, false, if◌then◌else◌, sym, ◌∙◌, ap, arith, inl, inr, Some}
use Rattle.std.proofs.lemmas.Bool.{cases_lt, cases_eq}
use Rattle.std.proofs.lemmas.Nat.{pow_below}
use Rattle.std.proofs.Math.Nat.{pow-suc}
use Rattle.diagrams.specs.declared.top.Id.{Id}
use Rattle.diagrams.specs.declared.top.Look.{Look}
use Rattle.diagrams.specs.declared.top.Look.TheVariants.{Terminal, Node}
use Rattle.diagrams.specs.Tree.{put}
use Rattle.diagrams.specs.Eval.{Diagrams, top_of, limit, eval, letter_truth}
use Rattle.diagrams.specs.Live.{IsCanonical}
use Rattle.diagrams.specs.Cofactors.{var_of, IsLeastVariable}
use Rattle.diagrams.proofs.Canon.{put-alike}
use Rattle.diagrams.proofs.Meaning.{live-above, tree-node, same_id_by_value}
use Rattle.diagrams.proofs.CofactorLemmas.{AreCofactors, low-value, high-value}
use Rattle.diagrams.proofs.Expansion.{depends_from_stands, vars_below}
use Rattle.diagrams.proofs.LetterBits.{own_low, own_high, later_same}
use Rattle.distinguish.specs.Differences.{IsOverLetters, IsLeastDifference}

pow_le : (i j : ℕ) → i ≤ j → 2 ^ i ≤ 2 ^ j
pow_le i j h = elim (cases_eq i j) [ inl e ↦ rw (e) (omega arith) | inr n ↦ let l = pow_below i j (omega (arith, h, n)) in omega (arith, l) ]

-- a number below the weight of proposition v is a letter with that weight added
pub high_less : (p n v a : ℕ) → v + suc n ≡ p → a < 2 ^ n → 2 ^ n + a < 2 ^ p
high_less p n v a e h = let double = pow-suc 2 n in let up = pow_le (suc n) p (omega (arith, e)) in omega (arith, double, up, h)

-- a diagram at a letter whose proposition v is false, and at one whose is true
low_letter : (s : Diagrams) (n v l : ℕ) (f lo hi : Id) → v + suc n ≡ s.props → AreCofactors s v f lo hi → l < 2 ^ n
    → eval s f (letter_truth s.props l) ≡ eval s lo (letter_truth s.props l)
low_letter s n v l f lo hi e p h =
    p.splits (letter_truth s.props l) ∙ ap (λ b. if b then eval s hi (letter_truth s.props l) else eval s lo (letter_truth s.props l)) (own_low s.props n v l e h)

high_letter : (s : Diagrams) → IsCanonical s → (n v l : ℕ) (f lo hi : Id) → v + suc n ≡ s.props → AreCofactors s v f lo hi → l < 2 ^ n
    → eval s f (letter_truth s.props (2 ^ n + l)) ≡ eval s hi (letter_truth s.props l)
high_letter s c n v l f lo hi e p h =
    p.splits (letter_truth s.props (2 ^ n + l))
    ∙ ap (λ b. if b then eval s hi (letter_truth s.props (2 ^ n + l)) else eval s lo (letter_truth s.props (2 ^ n + l))) (own_high s.props n v l e h)
    ∙ depends_from_stands s c v hi p.hi_above (letter_truth s.props (2 ^ n + l)) (letter_truth s.props l) (λ w k. later_same s.props n v l w e k)

-- the parts where v is false differ first
pub difference_low : (s : Diagrams) (n v a : ℕ) (f g fl fh gl gh : Id) → v + suc n ≡ s.props → AreCofactors s v f fl fh → AreCofactors s v g gl gh → a < 2 ^ n
    → IsLeastDifference s fl gl a → IsLeastDifference s f g a
difference_low s n v a f g fl fh gl gh e p q h d = record {
  within = d.within;
  differ = λ z. d.differ (sym (low_letter s n v a f fl fh e p h) ∙ z ∙ low_letter s n v a g gl gh e q h);
  least = λ b l. let k : b < 2 ^ n = omega (arith, l, h) in low_letter s n v b f fl fh e p k ∙ d.least b l ∙ sym (low_letter s n v b g gl gh e q k);
}

-- the parts where v is false are one
pub difference_high : (s : Diagrams) → IsCanonical s → (n v a : ℕ) (f g fl fh gl gh : Id) → v + suc n ≡ s.props → AreCofactors s v f fl fh → AreCofactors s v g gl gh → a < 2 ^ n
    → fl ≡ gl → IsLeastDifference s fh gh a → IsLeastDifference s f g (2 ^ n + a)
difference_high s c n v a f g fl fh gl gh e p q h same d = record {
  within = high_less s.props n v a e h;
  differ = λ z. d.differ (sym (high_letter s c n v a f fl fh e p h) ∙ z ∙ high_letter s c n v a g gl gh e q h);
  least = λ b l. elim (cases_lt b (2 ^ n)) [
    | inl k ↦ low_letter s n v b f fl fh e p k ∙ ap (λ i. eval s i (letter_truth s.props b)) same ∙ sym (low_letter s n v b g gl gh e q k)
    | inr k ↦
        let rest : b - 2 ^ n < a = omega (arith, l, k) in
        let small : b - 2 ^ n < 2 ^ n = omega (arith, rest, h) in
        let is : b ≡ 2 ^ n + (b - 2 ^ n) = omega (arith, k) in
        ap (λ i. eval s f (letter_truth s.props i)) is
        ∙ high_letter s c n v (b - 2 ^ n) f fl fh e p small
        ∙ d.least (b - 2 ^ n) rest
        ∙ sym (high_letter s c n v (b - 2 ^ n) g gl gh e q small)
        ∙ ap (λ i. eval s g (letter_truth s.props i)) (sym is)
  ];
}

-- the part of a diagram over propositions where v is false is such a diagram
pub low_over : (s : Diagrams) → IsCanonical s → (v : ℕ) (f lo hi : Id) → AreCofactors s v f lo hi → IsOverLetters s f → IsOverLetters s lo
low_over s c v f lo hi p o = record {
  live = live-above v _ p.lo_above;
  letters = λ a b same.
      sym (low-value s c v f lo hi p a) ∙ o.letters (put a v false) (put b v false) (λ w h. put-alike a b v false w (same w h)) ∙ low-value s c v f lo hi p b;
}

-- and the part where v is true
pub high_over : (s : Diagrams) → IsCanonical s → (v : ℕ) (f lo hi : Id) → AreCofactors s v f lo hi → IsOverLetters s f → IsOverLetters s hi
high_over s c v f lo hi p o = record {
  live = live-above v _ p.hi_above;
  letters = λ a b same.
      sym (high-value s c v f lo hi p a) ∙ o.letters (put a v true) (put b v true) (λ w h. put-alike a b v true w (same w h)) ∙ high-value s c v f lo hi p b;
}

own_small : (s : Diagrams) → IsCanonical s → (f : Id) (ft : Look) (v : ℕ) → top_of s f ≡ Some ft → IsOverLetters s f → v < limit → v ≡ var_of ft → v < s.props
own_small s c f (Terminal x) v e o h q = absurd (omega (arith, h, q))
own_small s c f (Node w lo hi) v e o h q =
    let all = rw (tree-node s c f w lo hi e) at (vars_below s c s.props f o.live o.letters) in
    rw (q) (all.0)

-- the least variable of two diagrams over propositions is a proposition
pub least_small : (s : Diagrams) → IsCanonical s → (f g : Id) (ft gt : Look) (v : ℕ) → top_of s f ≡ Some ft → top_of s g ≡ Some gt → IsOverLetters s f → IsOverLetters s g
    → IsLeastVariable ft gt v → v < s.props
least_small s c f g ft gt v ef eg o q l =
    elim (l.one) [
      | inl e ↦ own_small s c f ft v ef o l.small e
      | inr e ↦ own_small s c g gt v eg q l.small e
    ]

-- what stands after an earlier proposition is below its weight
pub below_weight : (p n v w a : ℕ) → v + suc n ≡ p → w < v → a < 2 ^ suc n → a < 2 ^ (p - 1 - w)
below_weight p n v w a e h l = let up = pow_le (suc n) (p - 1 - w) (omega (arith, e, h)) in omega (arith, up, l)

-- different parts where v is true, if those where it is false are one
pub high_apart : (s : Diagrams) → IsCanonical s → (v : ℕ) (f g fl fh gl gh : Id) → AreCofactors s v f fl fh → AreCofactors s v g gl gh → IsOverLetters s f → IsOverLetters s g → f ≢ g → fl ≡ gl → fh ≢ gh
high_apart s c v f g fl fh gl gh p q o u n e h =
    n (same_id_by_value s c f g o.live u.live (λ a.
    p.splits a ∙ (λ d. if a v then eval s (h d) a else eval s (e d) a) ∙ sym (q.splits a)))
