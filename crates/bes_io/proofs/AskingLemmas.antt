-- Chains of calls of `take`.
use Rattle.std.proofs.Common.{◌≡◌, ℕ, List, ◌∙◌, refl}
use Rattle.bes_io.specs.Asking.{IsAsked, unasked, asked, IsTakenOnce}

-- one call is a chain
pub asked-once : {A : Type 0} {faults : A → ℕ} {taken : A → ℕ → List ℕ → A → Type 0} {before after : A}
    → IsTakenOnce taken before after → IsAsked faults taken before after
asked-once once = asked unasked refl once

-- a chain that left the count of faults goes on with the calls of another
pub asked-then : {A : Type 0} {faults : A → ℕ} {taken : A → ℕ → List ℕ → A → Type 0} {before between after : A}
    → IsAsked faults taken before between → faults between ≡ faults before → IsAsked faults taken between after → IsAsked faults taken before after
asked-then first same unasked = first
asked-then first same (asked more kept once) = asked (asked-then first same more) (kept ∙ same) once
