-- Least numbers.
use Rattle.std.proofs.Common.{◌≡◌, ◌≤◌, ℕ, zero, suc, subst, arith, inl, inr}
use Rattle.std.proofs.lemmas.Bool.{cases_order}
use Rattle.game.specs.Board.{Partition, IsLeastNumber}
use Rattle.game.specs.Marks.{IsLeastOutput}

-- what holds of a number and passes to the next holds of each greater one
pub upwards : (P : ℕ → Type 0) → ((k : ℕ) → P k → P (suc k)) → (n m : ℕ) → n ≤ m → P n → P m
upwards P more n zero h p = subst P (omega (arith, h)) p
upwards P more n (suc m) h p =
    elim (cases_order n (suc m)) [
      | inl e ↦ subst P e p
      | inr r ↦ elim r [
        | inl l ↦ more m (upwards P more n m (omega (arith, l)) p)
        | inr l ↦ absurd (omega (arith, h, l))
      ]
    ]

-- there is one least number
pub one_least : (P : ℕ → Type 0) (n m : ℕ) → IsLeastNumber P n → IsLeastNumber P m → n ≡ m
one_least P n m x y =
    elim (cases_order n m) [
      | inl e ↦ e
      | inr r ↦ elim r [
        | inl l ↦ absurd (y.least n l x.holds)
        | inr l ↦ absurd (x.least m l y.holds)
      ]
    ]

-- the least number is none above one with P
pub least-below : (P : ℕ → Type 0) (n m : ℕ) → IsLeastNumber P n → P m → n ≤ m
least-below P n m x p =
    elim (cases_order n m) [
      | inl e ↦ omega (arith, e)
      | inr r ↦ elim r [
        | inl l ↦ omega (arith, l)
        | inr l ↦ absurd (x.least m l p)
      ]
    ]

-- there is one least output
pub one_output : (s : Partition) (P : ℕ → Type 0) (y z : ℕ) → IsLeastOutput s P y → IsLeastOutput s P z → y ≡ z
one_output s P y z p q = one_least P y z p.least q.least
