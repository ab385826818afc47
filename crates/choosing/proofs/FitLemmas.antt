-- Bounds of the values of the diagrams that were met.
use Rattle.std.proofs.Common.{◌≡◌, ◌<◌, ◌≤◌, ℕ, List, length, sym, subst, inl, inr}
use Rattle.std.proofs.lemmas.Bool.{cases_lt}
use Rattle.diagrams.specs.declared.top.Id.{Id}
use Rattle.diagrams.specs.Tree.{Assignment}
use Rattle.diagrams.specs.Eval.{Diagrams, eval, id_at}
use Rattle.diagrams.specs.Live.{IsLive, Keeps}
use Rattle.diagrams.proofs.Meaning.{eval-lasts}
use Rattle.choosing.specs.Cuts.{Grows, AllBelow, AllFit, FitsOn}

-- the values stay as the store grows
pub fit_lasts : (bound : ℕ) (s n : Diagrams) → Keeps s n → (g : ℕ) (items : List Id) → AllBelow s bound items → AllFit s g items → AllFit n g items
fit_lasts bound s n k g items all fit at h a = subst (λ z. z < g) (sym (eval-lasts s n k.was k.now k.extends (id_at items at) (all at h).live a)) (fit at h a)

-- one more item
pub fits_placed : (bound : ℕ) (s n : Diagrams) → Keeps s n → (c d : List Id) (f : Id) → AllBelow s bound c → IsLive s f → Grows c d
    → ((at : ℕ) → length c ≤ at → at < length d → id_at d at ≡ f) → FitsOn s n c d f
fits_placed bound s n k c d f all live g others b fit value at h a =
    elim (cases_lt at (length c)) [
      | inl l ↦ subst (λ z. eval n z a < b) (sym (g.same at l)) (subst (λ z. z < b) (sym (eval-lasts s n k.was k.now k.extends (id_at c at) (all at l).live a)) (fit at l a))
      | inr l ↦ subst (λ z. eval n z a < b) (sym (others at l h)) (subst (λ z. z < b) (sym (eval-lasts s n k.was k.now k.extends f live a)) (value a))
    ]

-- of both children in turn, and of the store after them
pub fits_both : (bound : ℕ) (s0 s1 s2 n : Diagrams) → Keeps s0 s1 → Keeps s2 n → (c0 c1 c2 : List Id) (f lo hi : Id) → IsLive s0 hi → AllBelow s2 bound c2
    → ((g : ℕ) → ((a : Assignment) → eval s0 f a < g) → (a : Assignment) → eval s0 lo a < g) → ((g : ℕ) → ((a : Assignment) → eval s0 f a < g) → (a : Assignment) → eval s0 hi a < g)
    → FitsOn s0 s1 c0 c1 lo → FitsOn s1 s2 c1 c2 hi → FitsOn s0 n c0 c2 f
fits_both bound s0 s1 s2 n k0 k2 c0 c1 c2 f lo hi live all low high x y g fit value =
    let first = x g fit (low g value) in
    let later : (a : Assignment) → eval s1 hi a < g = λ a. subst (λ z. z < g) (sym (eval-lasts s0 s1 k0.was k0.now k0.extends hi live a)) (high g value a) in
    fit_lasts bound s2 n k2 g c2 all (y g first later)

-- one more row
pub fits-more : (s0 s n : Diagrams) → Keeps s0 s → (c d rows : List Id) (at : ℕ) → at < length rows → IsLive s0 (id_at rows at)
    → ((g : ℕ) → AllFit s0 g rows → AllFit s g c) → FitsOn s n c d (id_at rows at) → (g : ℕ) → AllFit s0 g rows → AllFit n g d
fits-more s0 s n k c d rows at l live before step g fit =
    step g (before g fit) (λ a. subst (λ z. z < g) (sym (eval-lasts s0 s k.was k.now k.extends (id_at rows at) live a)) (fit at l a))
