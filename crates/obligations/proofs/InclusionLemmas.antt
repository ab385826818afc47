-- What the obligations of locations hold on, and inclusions by simulation.
use Rattle.std.proofs.Common.{◌≡◌, ℕ, ◌<◌, ◌+◌, Bool, true, List, [], ◌∷◌, refl, ◌∙◌, ap, arith}
use Rattle.diagrams.specs.Tree.{Assignment}
use Rattle.diagrams.specs.Eval.{Diagrams, eval, letter_truth}
use Rattle.automata.specs.Table.{Table, size_of, row_of, Fits, next_of}
use Rattle.obligations.specs.declared.cells.Obligation.{Obligation}
use Rattle.obligations.specs.Value.{joint, cell}
use Rattle.obligations.specs.Inclusion.{accepts_from, later, all_later, all_accept, AllBelow, Follows, IsSimulation, IsWider, AllSimulate}
use Rattle.obligations.proofs.Holds.{joint-obligations, joint-letter}

-- what is asked of the next position is the value there
pub later-joint : (s : Diagrams) (c : List Obligation) (letter : ℕ) (word : List ℕ) (j : ℕ) → later s j (joint s.props letter (cell s c word)) ≡ cell s c word j
later-joint s c letter word j =
    joint-obligations s.props letter (cell s c word) (s.props + j) (omega arith)
    ∙ ap (cell s c word) (omega arith)

all_later-joint : (s : Diagrams) (c : List Obligation) (t : Table) (base letter : ℕ) (word : List ℕ) (ats : List ℕ) → AllBelow (size_of t) ats
    → ((at : ℕ) → at < size_of t → cell s c word (base + at) ≡ accepts_from s t at word)
    → all_later s base (joint s.props letter (cell s c word)) ats ≡ all_accept s t word ats
all_later-joint s c t base letter word [] below same = refl
all_later-joint s c t base letter word (at ∷ ats) below same =
    rw (
      later-joint s c letter word (base + at),
      same at below.0,
      all_later-joint s c t base letter word ats below.1 same,
    ) refl

-- the obligation of a location holds where the location accepts
pub cell-location : (s : Diagrams) (c : List Obligation) (t : Table) → Fits s t → (base : ℕ) (wider : ℕ → List ℕ) → Follows s c t base wider → IsWider s t wider
    → (word : List ℕ) (at : ℕ) → at < size_of t → cell s c word (base + at) ≡ accepts_from s t at word
cell-location s c t f base wider o i [] at h = o.ends at h
cell-location s c t f base wider o i (letter ∷ word) at h =
    let j : Assignment = joint s.props letter (cell s c word) in
    let row = f at h in
    let same : eval s (row_of t at) j ≡ next_of s t at letter = row.letters j (letter_truth s.props letter) (λ v l. joint-letter s.props letter (cell s c word) v l) in
    let there = row.targets (letter_truth s.props letter) in
    o.body at h j
    ∙ rw same (
    all_later-joint s c t base letter word (wider (next_of s t at letter)) (i.within (next_of s t at letter) there)
    (λ q k. cell-location s c t f base wider o i word q k)
    ∙ i.same (next_of s t at letter) word there)

-- a simulation is an inclusion of languages
pub included : (s : Diagrams) (t : Table) (R : ℕ → ℕ → Bool) → IsSimulation s t R → (word : List ℕ) (x y : ℕ) → R x y ≡ true
    → accepts_from s t x word ≡ true → accepts_from s t y word ≡ true
included s t R i [] x y r h = i.marks x y r h
included s t R i (letter ∷ word) x y r h =
    included s t R i word (next_of s t x letter) (next_of s t y letter) (i.rows x y r (letter_truth s.props letter)) h

-- where a location accepts, all that simulate it do
pub all_simulate : (s : Diagrams) (t : Table) (R : ℕ → ℕ → Bool) → IsSimulation s t R → (at : ℕ) (others : List ℕ) → AllSimulate R at others
    → (word : List ℕ) → accepts_from s t at word ≡ true → all_accept s t word others ≡ true
all_simulate s t R i at [] h word e = refl
all_simulate s t R i at (x ∷ xs) h word e = rw (included s t R i word at x h.0 e, all_simulate s t R i at xs h.1 word e) refl
