-- The first formula over a limit is one, and where there is one not all are within it.
use Rattle.std.proofs.Common.{◌≡◌, ◌<◌, ◌≤◌, ℕ, Bool, false, Option, Some, None, refl, arith}
use Rattle.forms.specs.Tree.{Formula}
use Rattle.minimise.proofs.Once.{class_count_is_one}
use Rattle.translate.specs.Counting.{IsFirstOver}
use Rattle.translate.proofs.CountLemmas.{first_over_is_one}
use Rattle.synthesis.specs.declared.fault.Role.{Role}
use Rattle.synthesis.specs.declared.fault.Role.TheVariants.{Assumption, Goal, Duty}
use Rattle.synthesis.specs.Formulas.{Asked, IsFormulaWithin, IsWithinWhere, AreWithin, IsFirstOverWhere, IsFirstOverIn}

over-or-within : (p limit : ℕ) (f : Formula) (empty : Bool) (part count : ℕ) → IsFirstOver p f empty limit part count → IsFormulaWithin p limit f empty → ⊥
over-or-within p limit f empty part count over within =
    let w = within part over.some over.last in
    let same = class_count_is_one p _ count w.count over.has w.has in
    let above = over.over in
    let below = w.within in
    omega (arith, same, above, below)

where-or-within : (p limit : ℕ) (o : Option Formula) (part count : ℕ) → IsFirstOverWhere p limit o part count → IsWithinWhere p limit o → ⊥
where-or-within p limit None part count over within = over
where-or-within p limit (Some f) part count over within = over-or-within p limit f false part count over within

where-one : (p limit : ℕ) (o : Option Formula) (i j m n : ℕ) → IsFirstOverWhere p limit o i m → IsFirstOverWhere p limit o j n → (i ≡ j) × (m ≡ n)
where-one p limit None i j m n x y = absurd x
where-one p limit (Some f) i j m n x y = first_over_is_one p f false limit i j m n x y

-- where one is over, not all are within
pub over-not-within : (p limit : ℕ) (a : Asked) (role : Role) (part count : ℕ) → IsFirstOverIn p limit a role part count → AreWithin p limit a → ⊥
over-not-within p limit a Assumption part count over within = where-or-within p limit a.assume part count over within.assume
over-not-within p limit a Goal part count over within = over-or-within p limit a.goal a.empty part count over.1 within.goal
over-not-within p limit a Duty part count over within = where-or-within p limit a.duty part count over.2 within.duty

-- one is the first
pub one-over : (p limit : ℕ) (a : Asked) (r q : Role) (i j m n : ℕ) → IsFirstOverIn p limit a r i m → IsFirstOverIn p limit a q j n → (r ≡ q) × (i ≡ j) × (m ≡ n)
one-over p limit a Assumption Assumption i j m n x y = let e = where-one p limit a.assume i j m n x y in (refl, e.0, e.1)
one-over p limit a Assumption Goal i j m n x y = absurd (where-or-within p limit a.assume i m x y.0)
one-over p limit a Assumption Duty i j m n x y = absurd (where-or-within p limit a.assume i m x y.0)
one-over p limit a Goal Assumption i j m n x y = absurd (where-or-within p limit a.assume j n y x.0)
one-over p limit a Goal Goal i j m n x y = let e = first_over_is_one p a.goal a.empty limit i j m n x.1 y.1 in (refl, e.0, e.1)
one-over p limit a Goal Duty i j m n x y = absurd (over-or-within p limit a.goal a.empty i m x.1 y.1)
one-over p limit a Duty Assumption i j m n x y = absurd (where-or-within p limit a.assume j n y x.0)
one-over p limit a Duty Goal i j m n x y = absurd (over-or-within p limit a.goal a.empty j n y.1 x.1)
one-over p limit a Duty Duty i j m n x y = let e = where-one p limit a.duty i j m n x.2 y.2 in (refl, e.0, e.1)
