-- The parts of a formula by their number.
use Rattle.std.proofs.Common.{◌≡◌, ℕ, zero, suc, ◌-◌, ◌<◌, ap, arith, slice_get}
use Rattle.forms.specs.Tree.{Formula}
use Rattle.forms.specs.Parts.{parts, part}

-- part k, from 1 on, by its index in the list
pub part-at : (f : Formula) (k : ℕ) → 0 < k → part f k ≡ slice_get (parts f) (k - 1)
part-at f zero h = absurd (omega arith)
part-at f (suc k) h = ap (slice_get (parts f)) (let e : k ≡ suc k - 1 = omega arith in e)
