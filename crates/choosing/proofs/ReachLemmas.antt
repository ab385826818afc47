-- The least number that some output reaches, and the least output that reaches it.
use Rattle.std.proofs.Common.{◌≡◌, ◌<◌, ◌≤◌, ◌-◌, ◌^◌, ℕ, List, sym, subst, arith}
use Rattle.diagrams.specs.Tree.{Tree, Assignment, IsReduced}
use Rattle.diagrams.proofs.Windows.{Starts}
use Rattle.game.specs.Board.{Partition, IsOutput, IsLeastNumber}
use Rattle.game.specs.Marks.{IsLeastOutput}
use Rattle.game.specs.Values.{SomeOutput}
use Rattle.choosing.specs.declared.walks.Extreme.TheVariants.{Least}
use Rattle.choosing.specs.declared.walks.Turns.{Turns}
use Rattle.choosing.specs.Best.{best_of, rest_of, IsLeastOutputOf, IsAsGood}
use Rattle.choosing.specs.Chosen.{no_number}
use Rattle.choosing.specs.Numbers.{number_at}
use Rattle.choosing.proofs.BestLemmas.{best-bound, first-is}
use Rattle.choosing.proofs.NumberLemmas.{number-less, spelling}

least-good : (turns : Turns) (x y : ℕ) → turns.agent ≡ Least → IsAsGood turns.agent x y → x ≤ y
least-good turns x y e g = subst (λ z. IsAsGood z x y) e g

module _ (s : Partition) (turns : Turns) (values : List ℕ) (t : Tree) (P : ℕ → ℕ → Type 0)
    (takes : turns.agent ≡ Least) (range : turns.from ≤ turns.to) (starts : Starts turns.from t) (reduced : IsReduced t) (width : turns.to - turns.from ≡ s.outputs)
    (to : (a : Assignment) (k : ℕ) → P (number_at a turns.from (turns.to - turns.from)) k → best_of turns values (rest_of turns a t) ≤ k)
    (back : (a : Assignment) (k : ℕ) → k < no_number → best_of turns values (rest_of turns a t) ≤ k → P (number_at a turns.from (turns.to - turns.from)) k)
    (small : (a : Assignment) (k : ℕ) → P (number_at a turns.from (turns.to - turns.from)) k → best_of turns values (rest_of turns a t) < no_number) where
  spell : (y : ℕ) → IsOutput s y → (a : Assignment) × (number_at a turns.from (turns.to - turns.from) ≡ y)
  spell y o = spelling turns.from (turns.to - turns.from) y (subst (λ n. y < 2 ^ n) (sym width) o)

  bound : (a : Assignment) → best_of turns values t ≤ best_of turns values (rest_of turns a t)
  bound a = least-good turns (best_of turns values t) (best_of turns values (rest_of turns a t)) takes (best-bound turns values t a)

  -- the number that is reached is the least that some output reaches
  pub least-reached : best_of turns values t < no_number → IsLeastNumber (λ k. SomeOutput s (λ y. P y k)) (best_of turns values t)
  least-reached few =
      let f = first-is turns values (turns.to - turns.from) turns.from t (omega (arith, range)) (omega arith) starts reduced in
      let a = f.taken.0 in
      record {
        holds = (
          number_at a turns.from (turns.to - turns.from),
          subst (λ n. number_at a turns.from (turns.to - turns.from) < 2 ^ n) width (number-less a turns.from (turns.to - turns.from)),
          back a (best_of turns values t) few (let e = f.taken.1 in omega (arith, e)),
        );
        least = λ k less p.
            let s = spell p.0 p.1 in
            let r = to s.0 k (subst (λ y. P y k) (sym s.1) p.2) in
            let g = bound s.0 in omega (arith, less, r, g);
      }

  -- where none is reached, no output reaches any
  pub none-reached : no_number ≤ best_of turns values t → (k : ℕ) → ¬ SomeOutput s (λ y. P y k)
  none-reached many k p =
      let s = spell p.0 p.1 in
      let r = small s.0 k (subst (λ y. P y k) (sym s.1) p.2) in
      let g = bound s.0 in omega (arith, many, r, g)

  -- the least output with which what is left has the best is the least that reaches it
  pub least-output : best_of turns values t < no_number → (y : ℕ) → IsLeastOutputOf turns values t y → IsLeastOutput s (λ z. P z (best_of turns values t)) y
  least-output few y l =
      let a = l.taken.0 in
      record {
        output = subst (λ n. y < 2 ^ n) width l.small;
        least = record {
          holds = subst (λ z. P z (best_of turns values t)) l.taken.2 (back a (best_of turns values t) few (let e = l.taken.1 in omega (arith, e)));
          least = λ z less p.
              let o : IsOutput s z = let h = l.small in subst (λ n. z < 2 ^ n) width (omega (arith, less, h)) in
              let s = spell z o in
              let r = to s.0 (best_of turns values t) (subst (λ i. P i (best_of turns values t)) (sym s.1) p) in
              let g = bound s.0 in
              let q = l.least s.0 (omega (arith, r, g)) in
              let e = s.1 in omega (arith, less, q, e);
        };
      }
