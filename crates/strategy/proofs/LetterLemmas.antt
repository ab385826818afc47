-- The letter of a decision.
use Rattle.std.proofs.Common.{◌≡◌, ◌<◌, ◌≤◌, ◌+◌, ◌-◌, ◌*◌, ◌/◌, ◌%◌, ◌^◌, ◌==◌, ◌&&◌, ℕ, true, sym, ◌∙◌, ap, subst, arith}
use Rattle.std.specs.Prelude.{nat_lt}
use Rattle.std.proofs.Math.Nat.{div-div-eq-div-mul, pow-le-pow_right}
use Rattle.std.proofs.lemmas.Bool.{lt-ltb}
use Rattle.std.proofs.lemmas.Nat.{pow_pos, pow-add, div-mul-add}
use Rattle.diagrams.specs.Eval.{Diagrams, eval, id_at, letter_truth}
use Rattle.game.specs.Board.{Mover, Agent, Environment, Partition, IsChoice, width}
use Rattle.choosing.specs.Rounds.{from_of}
use Rattle.strategy.specs.declared.strategy.Strategy.{Strategy as Kept}
use Rattle.strategy.specs.Fits.{FitsStrategy}
use Rattle.strategy.specs.Plan.{size_of, choice_at, chosen_at, decision_end}

-- an input shifted by the outputs has the input's propositions
pub shifted : (i o x v : ℕ) → v < i → letter_truth (i + o) (x * 2 ^ o) v ≡ letter_truth i x v
shifted i o x v l =
    let inside : nat_lt v (i + o) ≡ true = lt-ltb v (i + o) (omega (arith, l)) in
    let own : nat_lt v i ≡ true = lt-ltb v i l in
    let far : i + o - 1 - v ≡ o + (i - 1 - v) = omega (arith, l) in
    let power : 2 ^ (i + o - 1 - v) ≡ 2 ^ o * 2 ^ (i - 1 - v) = ap (λ z. 2 ^ z) far ∙ pow-add 2 o (i - 1 - v) in
    let positive : 0 < 2 ^ o = pow_pos o in
    let front : x * 2 ^ o / 2 ^ o ≡ x =
    (let e : x * 2 ^ o ≡ x * 2 ^ o + 0 = omega arith in ap (λ z. z / 2 ^ o) e ∙ div-mul-add x (2 ^ o) 0 positive) in
    let part : x * 2 ^ o / 2 ^ (i + o - 1 - v) ≡ x / 2 ^ (i - 1 - v) =
    ap (λ z. x * 2 ^ o / z) power ∙ sym (div-div-eq-div-mul (x * 2 ^ o) (2 ^ o) (2 ^ (i - 1 - v))) ∙ ap (λ z. z / 2 ^ (i - 1 - v)) front in
    ap (λ z. z && (x * 2 ^ o / 2 ^ (i + o - 1 - v) % 2 == 1)) inside
    ∙ ap (λ z. z % 2 == 1) part ∙ sym (ap (λ z. z && (x / 2 ^ (i - 1 - v) % 2 == 1)) own)

pub small-shift : (i o x : ℕ) → x < 2 ^ i → x * 2 ^ o < 2 ^ (i + o)
small-shift i o x l =
    let power : 2 ^ (i + o) ≡ 2 ^ i * 2 ^ o = pow-add 2 i o in
    let more : (x + 1) * 2 ^ o ≤ 2 ^ i * 2 ^ o = mul-mono (x + 1) (2 ^ i) (2 ^ o) (omega (arith, l)) in
    let split : (x + 1) * 2 ^ o ≡ x * 2 ^ o + 2 ^ o = omega arith in
    let positive : 0 < 2 ^ o = pow_pos o in
    omega (arith, power, more, split, positive)
  where
    mul-mono : (a b c : ℕ) → a ≤ b → a * c ≤ b * c
    mul-mono a b c h = let e : b ≡ a + (b - a) = omega (arith, h) in let d : (a + (b - a)) * c ≡ a * c + (b - a) * c = omega arith in let f : b * c ≡ (a + (b - a)) * c = ap (λ z. z * c) e in omega (arith, d, f)

-- the choice at a letter of a decision
pub chosen-by : (s : Diagrams) (k : Kept) → FitsStrategy s k → (at input letter : ℕ) → at < size_of k
    → ((v : ℕ) → v < decision_end k.partition → letter_truth (width k.partition) letter v ≡ letter_truth (decision_end k.partition) input v)
    → choice_at k (eval s (id_at k.moves.items at) (letter_truth s.props letter)) ≡ chosen_at s k at input
chosen-by s k fits at input letter l same =
    ap (choice_at k) (ap (λ p. eval s (id_at k.moves.items at) (letter_truth p letter)) fits.props
    ∙ (fits.each at l).move.letters (letter_truth (width k.partition) letter) (letter_truth (decision_end k.partition) input) same)

-- with the environment first a decision is an input
env-choice : (d : Mover) (i o x : ℕ) → d ≡ Environment → IsChoice (record { first = d; inputs = i; outputs = o }) x → x < 2 ^ i
env-choice Environment i o x e l = l
env-choice Agent i o x e l = absurd (cc)

-- the shift loses no bit
shift-whole : (d : Mover) (i o x : ℕ) → d ≡ Environment → i + o ≤ 32 → IsChoice (record { first = d; inputs = i; outputs = o }) x
    → (x * 2 ^ o < 2 ^ (i + o)) × (x * 2 ^ o % 18446744073709551616 ≡ x * 2 ^ o)
shift-whole d i o x e few is =
    let small = small-shift i o x (env-choice d i o x e is) in
    let bound : 2 ^ (i + o) ≤ 2 ^ 32 = pow-le-pow_right (omega arith) few in
    let fits : x * 2 ^ o < 4294967296 = omega (arith, small, bound) in
    (small, omega (arith, fits))

pub letter-below : (s : Partition) (x : ℕ) → s.first ≡ Environment → width s ≤ 32 → IsChoice s x → x * 2 ^ s.outputs % 18446744073709551616 < 2 ^ width s
letter-below s x e few is =
    let r = shift-whole s.first s.inputs s.outputs x e few is in
    subst (λ z. z < 2 ^ width s) (sym r.1) r.0

same-by : (d : Mover) (i o x v : ℕ) → d ≡ Environment → v < from_of d i → letter_truth (i + o) (x * 2 ^ o) v ≡ letter_truth (from_of d i) x v
same-by Environment i o x v e l = shifted i o x v l
same-by Agent i o x v e l = absurd (cc)

pub letter-same : (s : Partition) (x : ℕ) → s.first ≡ Environment → width s ≤ 32 → IsChoice s x → (v : ℕ) → v < decision_end s
    → letter_truth (width s) (x * 2 ^ s.outputs % 18446744073709551616) v ≡ letter_truth (decision_end s) x v
letter-same s x e few is v l =
    let r = shift-whole s.first s.inputs s.outputs x e few is in
    ap (λ z. letter_truth (width s) z v) r.1 ∙ same-by s.first s.inputs s.outputs x v e l

pub agent-none : (d : Mover) (i v : ℕ) → d ≡ Agent → v < from_of d i → ⊥
agent-none Agent i v e l = omega (arith, l)
agent-none Environment i v e l = cc
