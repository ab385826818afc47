-- Letters that are led away: the bridge from the least over the outputs to each letter with an input.
use Rattle.std.proofs.Common.{◌≡◌, ◌≢◌, ◌<◌, ◌≤◌, ◌+◌, ◌^◌, ◌/◌, ◌==◌, ◌⊎◌, ℕ, List, length, true, false, inl, inr, refl, sym, ◌∙◌, ap, subst, arith}
use Rattle.std.specs.Prelude.{slice_index}
use Rattle.std.proofs.lemmas.Bool.{cases_eq}
use Rattle.std.proofs.lemmas.Bool.Decides.{nat_tests}
use Rattle.diagrams.specs.declared.top.Id.{Id}
use Rattle.diagrams.specs.Tree.{Assignment}
use Rattle.diagrams.specs.Eval.{Diagrams, eval, DependsOn, letter_truth}
use Rattle.diagrams.specs.Live.{Keeps}
use Rattle.automata.specs.Table.{IsRow}
use Rattle.automata.proofs.Letters.{spelt, spelt-less, spelt-truth}
use Rattle.game.specs.Board.{Mover, Agent, Environment, Partition, width}
use Rattle.legality.specs.Spared.{IsSpared, IsRestrictedRow, telling_count}
use Rattle.game.proofs.Rounds.{input_small}
use Rattle.layers.specs.declared.folding.Below.TheVariants.{Sink}
use Rattle.layers.specs.Folding.{instead_of, IsFoldedRow}
use Rattle.layers.proofs.FoldingEnds.{after_same}
use Rattle.layers.proofs.LetterParts.{spelt-first, spelt-same, first_part, spelt-letter}
use Rattle.legality.proofs.LetterParts.{same_outside}

-- what is put in place of a value
sink_or : (sink y t : ℕ) → ((y ≡ 0) × (instead_of (Sink sink) y t ≡ sink)) ⊎ ((y ≢ 0) × (instead_of (Sink sink) y t ≡ t))
sink_or sink y t = elim (cases_eq y 0) [
  | inl e ↦ let is : (y == 0) ≡ true = grind (arith, nat_tests) in inl (e, rw is refl)
  | inr d ↦ let is : (y == 0) ≡ false = grind (arith, nat_tests) in inr (d, rw is refl)
]

-- the made row goes by the propositions
made_letters : (telling sink : ℕ) (s n : Diagrams) (table : List ℕ) (row id : Id) → telling ≤ s.props → n.props ≡ s.props → IsRow s (length table) row → IsFoldedRow s n (Sink sink) telling table row id
    → DependsOn n id (λ v. v < n.props)
made_letters telling sink s n table row id inside props r u a b same =
    let x = u.value a in
    let y = u.value b in
    let e : eval s row a ≡ eval s row b = r.letters a b (λ v l. same v (omega arith)) in
    let f : x.0 ≡ y.0 = after_same telling (λ c. slice_index table (eval s row c)) a b (λ v l. same v (omega arith)) x.0 y.0 x.1 y.1 in
    x.2 ∙ ap (λ z. instead_of (Sink sink) z (eval s row a)) f ∙ ap (instead_of (Sink sink) y.0) e ∙ sym y.2

made_targets : (telling sink : ℕ) (s n : Diagrams) (table : List ℕ) (row id : Id) → IsFoldedRow s n (Sink sink) telling table row id → (a : Assignment) → (eval n id a ≡ eval s row a) ⊎ (eval n id a ≡ sink)
made_targets telling sink s n table row id u a =
    let x = u.value a in
    elim (sink_or sink x.0 (eval s row a)) [ inl (z, q) ↦ inr (x.2 ∙ q) | inr (z, q) ↦ inl (x.2 ∙ q) ]

-- agent first a letter is spared by itself
agent_spared : (i o sink : ℕ) (s n : Diagrams) (table : List ℕ) (row id : Id) → i + o ≡ s.props → IsRow s (length table) row → IsFoldedRow s n (Sink sink) (i + o) table row id → (a : ℕ)
    → (IsSpared (record { first = Agent; inputs = i; outputs = o }) (λ b. slice_index table (eval s row (letter_truth (i + o) b))) a × (eval n id (letter_truth (i + o) a) ≡ eval s row (letter_truth (i + o) a)))
    ⊎ ((¬ IsSpared (record { first = Agent; inputs = i; outputs = o }) (λ b. slice_index table (eval s row (letter_truth (i + o) b))) a) × (eval n id (letter_truth (i + o) a) ≡ sink))
agent_spared i o sink s n table row id e r u a =
    let x = u.value (letter_truth (i + o) a) in
    let t = x.1.taken in
    let same : eval s row t.0 ≡ eval s row (letter_truth (i + o) a) = r.letters t.0 (letter_truth (i + o) a) (λ v l. t.1 v (omega arith)) in
    let is : slice_index table (eval s row (letter_truth (i + o) a)) ≡ x.0 = ap (slice_index table) (sym same) ∙ t.2 in
    elim (sink_or sink x.0 (eval s row (letter_truth (i + o) a))) [
      | inl (z, q) ↦ inr (λ y. y (is ∙ z), x.2 ∙ q)
      | inr (z, q) ↦ inl (λ y. z (sym is ∙ y), x.2 ∙ q)
    ]

-- environment first by each letter with its input
environment_spared : (i o sink : ℕ) (s n : Diagrams) (table : List ℕ) (row id : Id) → i + o ≡ s.props → IsRow s (length table) row → IsFoldedRow s n (Sink sink) i table row id → (a : ℕ) → a < 2 ^ (i + o)
    → (IsSpared (record { first = Environment; inputs = i; outputs = o }) (λ b. slice_index table (eval s row (letter_truth (i + o) b))) a × (eval n id (letter_truth (i + o) a) ≡ eval s row (letter_truth (i + o) a)))
    ⊎ ((¬ IsSpared (record { first = Environment; inputs = i; outputs = o }) (λ b. slice_index table (eval s row (letter_truth (i + o) b))) a) × (eval n id (letter_truth (i + o) a) ≡ sink))
environment_spared i o sink s n table row id e r u a h =
    let x = u.value (letter_truth (i + o) a) in
    let t = x.1.taken in
    let c = spelt t.0 (i + o) in
    let one : spelt t.0 (i + o) / 2 ^ o ≡ a / 2 ^ o =
    spelt-first t.0 i o ∙ spelt-same t.0 (letter_truth i (a / 2 ^ o)) i (λ w l. t.1 w l ∙ first_part i o a w l) ∙ spelt-letter i (a / 2 ^ o) (input_small (record { first = Environment; inputs = i; outputs = o }) a h) in
    let there : eval s row (letter_truth (i + o) (spelt t.0 (i + o))) ≡ eval s row t.0 = r.letters (letter_truth (i + o) (spelt t.0 (i + o))) t.0 (λ v l. spelt-truth t.0 (i + o) v (omega arith)) in
    elim (sink_or sink x.0 (eval s row (letter_truth (i + o) a))) [
      | inl (z, q) ↦ inr (λ spares. spares (spelt t.0 (i + o)) (spelt-less t.0 (i + o)) one (ap (slice_index table) there ∙ t.2 ∙ z), x.2 ∙ q)
      | inr (z, q) ↦ inl (
        λ b l k y.
            let w : x.0 ≤ slice_index table (eval s row (letter_truth (i + o) b)) = x.1.bounds (letter_truth (i + o) b) (λ v j. same_outside i o a b (sym k) v (inl j)) in
            z (omega arith),
        x.2 ∙ q,
      )
    ]

restricted_by_mover : (d : Mover) (i o sink : ℕ) (s n : Diagrams) (table : List ℕ) (row id : Id) → i + o ≡ s.props → n.props ≡ s.props → IsRow s (length table) row
    → IsFoldedRow s n (Sink sink) (telling_count (record { first = d; inputs = i; outputs = o })) table row id → IsRestrictedRow (record { first = d; inputs = i; outputs = o }) s n table sink row id
restricted_by_mover Agent i o sink s n table row id e props r u = record {
  live = u.live;
  letters = made_letters (i + o) sink s n table row id (omega arith) props r u;
  targets = made_targets (i + o) sink s n table row id u;
  value = λ a h. agent_spared i o sink s n table row id e r u a;
}
restricted_by_mover Environment i o sink s n table row id e props r u = record {
  live = u.live;
  letters = made_letters i sink s n table row id (omega arith) props r u;
  targets = made_targets i sink s n table row id u;
  value = λ a h. environment_spared i o sink s n table row id e r u a h;
}

-- the row with each letter that isn't spared led away
pub restricted_row : (p : Partition) (s n : Diagrams) (table : List ℕ) (sink telling : ℕ) (row id : Id) → Keeps s n → width p ≡ s.props → telling ≡ telling_count p → IsRow s (length table) row
    → IsFoldedRow s n (Sink sink) telling table row id → IsRestrictedRow p s n table sink row id
restricted_row p s n table sink telling row id k w t r u =
    restricted_by_mover p.first p.inputs p.outputs sink s n table row id w k.extends.props r (subst (λ z. IsFoldedRow s n (Sink sink) z table row id) t u)

pub spared_same : (d : Mover) (i o : ℕ) (f g : ℕ → ℕ) (a : ℕ) → ((b : ℕ) → f b ≡ g b) → IsSpared (record { first = d; inputs = i; outputs = o }) f a → IsSpared (record { first = d; inputs = i; outputs = o }) g a
spared_same Agent i o f g a e x = λ y. x (e a ∙ y)
spared_same Environment i o f g a e x = λ b h k y. x b h k (e b ∙ y)
