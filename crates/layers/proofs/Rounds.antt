-- One round on the board of locations is the choice of terminals of a row.
use Rattle.std.proofs.Common.{◌≡◌, ℕ, ◌<◌, ◌≤◌, ◌^◌, ◌+◌, ◌*◌, ◌/◌, ◌%◌, inl, inr, refl, sym, ◌∙◌, ap, subst, arith, Bool, true, false}
use Rattle.std.specs.Prelude.{nat_lt, not, ◌↔◌}
use Rattle.std.proofs.Math.Nat.{div-eq_of_lt, mul-add-div_right, mul-add-mod_self_right, mod-eq_of_lt, div-lt_iff_lt-mul}
use Rattle.std.proofs.lemmas.Nat.{pow_pos, pow-add, div-add-mod'}
use Rattle.std.proofs.lemmas.Bool.{cases_lt}
use Rattle.std.proofs.lemmas.Bool.Decides.{nat_tests}
use Rattle.diagrams.specs.Tree.{Tree, AllVars}
use Rattle.game.specs.Board.{IsRound}
use Rattle.forms.specs.declared.partition.Partition.{Partition}
use Rattle.forms.specs.declared.partition.Mover.{Mover}
use Rattle.forms.specs.declared.partition.Mover.TheVariants.{Agent, Environment}
use Rattle.game.specs.Arena.{Locations, locations}
use Rattle.layers.specs.Ranked.{GoesByInput}
use Rattle.layers.specs.Settles.{Settles}
use Rattle.layers.specs.Layers.{is_output, EachDecisionForces, SomeDecisionForces, IsRowTree}
use Rattle.layers.proofs.MinimaxLemmas.{other}
use Rattle.layers.proofs.LetterParts.{at_letter, SomeFirst, EachFirst, chooses_first, first_chooses, answers_first, first_answers}

-- the letter with first part x and second part y
abbrev pub letter_with : ℕ → ℕ → ℕ → ℕ
letter_with o x y = x * 2 ^ o + y

pub letter_first : (o x y : ℕ) → y < 2 ^ o → letter_with o x y / 2 ^ o ≡ x
letter_first o x y h = mul-add-div_right {m = 2 ^ o} (pow_pos o) x y ∙ (rw (div-eq_of_lt {n = y} {m = 2 ^ o} h) (omega arith))

pub letter_second : (o x y : ℕ) → y < 2 ^ o → letter_with o x y % 2 ^ o ≡ y
letter_second o x y h = mul-add-mod_self_right x (2 ^ o) y ∙ mod-eq_of_lt {n = y} {m = 2 ^ o} h

pub letter_less : (i o x y : ℕ) → x < 2 ^ i → y < 2 ^ o → letter_with o x y < 2 ^ (i + o)
letter_less i o x y h k =
    let l : letter_with o x y / 2 ^ o < 2 ^ i = rw (letter_first o x y k) h in
    rw (pow-add 2 i o) ((div-lt_iff_lt-mul {k = 2 ^ o} {x = letter_with o x y} {y = 2 ^ i} (pow_pos o)).0 l)

pub first_less : (k r a : ℕ) → a < 2 ^ (k + r) → a / 2 ^ r < 2 ^ k
first_less k r a h = (div-lt_iff_lt-mul {k = 2 ^ r} {x = a} {y = 2 ^ k} (pow_pos r)).1 (rw (pow-add 2 k r) at h)

pub second_less : (r a : ℕ) → a % 2 ^ r < 2 ^ r
second_less r a = let p = pow_pos r in omega arith

pub same_letter : (r a c : ℕ) → a / 2 ^ r ≡ c / 2 ^ r → a % 2 ^ r ≡ c % 2 ^ r → a ≡ c
same_letter r a c e f = sym (div-add-mod' a (2 ^ r)) ∙ (rw (e, f) (div-add-mod' c (2 ^ r)))

pub below : (k v : ℕ) → v < k → nat_lt v k ≡ true
below k v h = grind (arith, nat_tests)

pub beyond : (k v : ℕ) → k ≤ v → nat_lt v k ≡ false
beyond k v h = grind (arith, nat_tests)

-- the partition with these numbers, agent first or environment first
abbrev pub agent_first : ℕ → ℕ → Partition
agent_first i o = record { first = Agent; inputs = i; outputs = o }

abbrev pub environment_first : ℕ → ℕ → Partition
environment_first i o = record { first = Environment; inputs = i; outputs = o }

-- a location or none
abbrev pub IsTarget : Locations → (ℕ → Type 0) → ℕ → Type 0
IsTarget m P x = x < m.size → P x

-- a location, with P
abbrev pub IsSomeTarget : Locations → (ℕ → Type 0) → ℕ → Type 0
IsSomeTarget m P x = (x < m.size) × P x

module _ (i o : ℕ) (duty : Bool) (m : Locations) (at : ℕ) (t : Tree) (row : IsRowTree (agent_first i o) m at t) (P : ℕ → Type 0) where
  swap : o + i ≡ i + o
  swap = omega arith

  vars_swapped : AllVars (λ v. v < o + i) t
  vars_swapped = rw swap row.vars

  letter_here : (a : ℕ) → a < 2 ^ (o + i) → a < 2 ^ (i + o)
  letter_here a h = rw swap at h

  letter_there : (a : ℕ) → a < 2 ^ (i + o) → a < 2 ^ (o + i)
  letter_there a h = rw swap h

  -- what a letter leads to, by the tree
  next_here : (a : ℕ) → a < 2 ^ (i + o) → m.next at a ≡ at_letter o i t a
  next_here a h = rw swap (row.next a h)

  agent_out : EachDecisionForces (locations (agent_first i o) duty m) P at → SomeFirst o i (IsTarget m P) t
  agent_out f =
      let p = f 0 refl in (
        p.0,
        p.1,
        λ a l z.
            let k = letter_here a l in
            subst (IsTarget m P) (next_here a k) (λ h. p.2 a (record { letter = k; decision = refl; output = z }) h),
      )

  agent_in : SomeFirst o i (IsTarget m P) t → EachDecisionForces (locations (agent_first i o) duty m) P at
  agent_in (w, h, g) = λ x d. (w, h, λ a r l. subst (IsTarget m P) (sym (next_here a r.letter)) (g a (letter_there a r.letter) r.output) l)

  breaks_out : SomeDecisionForces (locations (agent_first i o) duty m) P at → EachFirst o i (IsSomeTarget m P) t
  breaks_out (x, d, f) = λ w h. let q = f w h in (q.0, letter_there q.0 q.1.letter, q.1.output, subst (IsSomeTarget m P) (next_here q.0 q.1.letter) (q.2, q.3))

  breaks_in : EachFirst o i (IsSomeTarget m P) t → SomeDecisionForces (locations (agent_first i o) duty m) P at
  breaks_in g = (
    0,
    refl,
    λ y h.
        let q = g y h in
        let k = letter_here q.0 q.1 in
        let z : IsSomeTarget m P (m.next at q.0) = subst (IsSomeTarget m P) (sym (next_here q.0 k)) q.3 in
        (q.0, record { letter = k; decision = refl; output = q.2 }, z.0, z.1),
  )

  first_side : (v : ℕ) → v < o → is_output (agent_first i o) v ≡ true
  first_side v h = below o v h

  second_side : (v : ℕ) → o ≤ v → is_output (agent_first i o) v ≡ false
  second_side v h = beyond o v h

  pub agent_forces : EachDecisionForces (locations (agent_first i o) duty m) P at ↔ Settles (is_output (agent_first i o)) (IsTarget m P) t
  agent_forces = (
    λ f. first_chooses (IsTarget m P) (is_output (agent_first i o)) o i t row.reduced vars_swapped first_side second_side (agent_out f),
    λ w. agent_in (chooses_first (IsTarget m P) (is_output (agent_first i o)) o i t row.reduced vars_swapped first_side second_side w),
  )

  pub agent_breaks : SomeDecisionForces (locations (agent_first i o) duty m) P at ↔ Settles (other (is_output (agent_first i o))) (IsSomeTarget m P) t
  agent_breaks = (
    λ f. first_answers (IsSomeTarget m P) (other (is_output (agent_first i o))) o i t row.reduced vars_swapped
        (λ v h. ap not (first_side v h)) (λ v h. ap not (second_side v h)) (breaks_out f),
    λ w. breaks_in (answers_first (IsSomeTarget m P) (other (is_output (agent_first i o))) o i t row.reduced vars_swapped
        (λ v h. ap not (first_side v h)) (λ v h. ap not (second_side v h)) w),
  )

module _ (i o : ℕ) (duty : Bool) (m : Locations) (at : ℕ) (t : Tree) (row : IsRowTree (environment_first i o) m at t) (P : ℕ → Type 0)
    (even : (a c : ℕ) → a < 2 ^ (i + o) → c < 2 ^ (i + o) → a / 2 ^ o ≡ c / 2 ^ o → m.next at a < m.size → m.next at c < m.size) where
  env_next : (a : ℕ) → a < 2 ^ (i + o) → m.next at a ≡ at_letter i o t a
  env_next a h = row.next a h

  -- a round is the letter with its input and its output
  the_letter : (a : ℕ) (c : ℕ) → IsRound (environment_first i o) (c / 2 ^ o) (c % 2 ^ o) a → a ≡ c
  the_letter a c r = same_letter o a c r.decision r.output

  env_out : EachDecisionForces (locations (environment_first i o) duty m) P at → EachFirst i o (IsTarget m P) t
  env_out f w h =
      let z : 0 < 2 ^ o = pow_pos o in
      let a = letter_with o w 0 in
      let less : a < 2 ^ (i + o) = letter_less i o w 0 h z in
      let first : a / 2 ^ o ≡ w = letter_first o w 0 z in
      elim (cases_lt (m.next at a) m.size) [
        | inl l ↦
            let q = f w (h, λ c k e. even a c less k (first ∙ sym e) l) in
            let b = letter_with o w q.0 in
            let small : b < 2 ^ (i + o) = letter_less i o w q.0 h q.1 in (
              b,
              small,
              letter_first o w q.0 q.1,
              subst (IsTarget m P) (env_next b small) (λ k. q.2 b (record { letter = small; decision = letter_first o w q.0 q.1; output = letter_second o w q.0 q.1 }) k),
            )
        | inr l ↦ (a, less, first, subst (IsTarget m P) (env_next a less) (λ k. absurd (omega arith)))
      ]

  env_in : EachFirst i o (IsTarget m P) t → EachDecisionForces (locations (environment_first i o) duty m) P at
  env_in g x (h, legal) =
      let q = g x h in (
        q.0 % 2 ^ o,
        second_less o q.0,
        λ a r l.
            let e : a ≡ q.0 = same_letter o a q.0 (r.decision ∙ sym q.2) r.output in
            subst (λ c. IsTarget m P (m.next at c)) (sym e) (subst (IsTarget m P) (sym (env_next q.0 q.1)) q.3) l,
      )

  env_breaks_out : SomeDecisionForces (locations (environment_first i o) duty m) P at → SomeFirst i o (IsSomeTarget m P) t
  env_breaks_out (x, (h, legal), f) = (
    x,
    h,
    λ a l z.
        let q = f (a % 2 ^ o) (second_less o a) in
        let e : q.0 ≡ a = same_letter o q.0 a (q.1.decision ∙ sym z) q.1.output in
        subst (IsSomeTarget m P) (env_next a l) (subst (λ c. IsSomeTarget m P (m.next at c)) e (q.2, q.3)),
  )

  env_breaks_in : SomeFirst i o (IsSomeTarget m P) t → SomeDecisionForces (locations (environment_first i o) duty m) P at
  env_breaks_in (w, h, g) =
      let to : (a : ℕ) → a < 2 ^ (i + o) → a / 2 ^ o ≡ w → IsSomeTarget m P (m.next at a) = λ a l e. subst (IsSomeTarget m P) (sym (env_next a l)) (g a l e) in (
        w,
        (h, λ a l e. (to a l e).0),
        λ y k.
            let b = letter_with o w y in
            let small : b < 2 ^ (i + o) = letter_less i o w y h k in
            let q = to b small (letter_first o w y k) in
            (b, record { letter = small; decision = letter_first o w y k; output = letter_second o w y k }, q.0, q.1),
      )

  env_first_side : (v : ℕ) → v < i → is_output (environment_first i o) v ≡ false
  env_first_side v h = ap not (below i v h)

  env_second_side : (v : ℕ) → i ≤ v → is_output (environment_first i o) v ≡ true
  env_second_side v h = ap not (beyond i v h)

  pub environment_forces : EachDecisionForces (locations (environment_first i o) duty m) P at ↔ Settles (is_output (environment_first i o)) (IsTarget m P) t
  environment_forces = (
    λ f. first_answers (IsTarget m P) (is_output (environment_first i o)) i o t row.reduced row.vars env_first_side env_second_side (env_out f),
    λ w. env_in (answers_first (IsTarget m P) (is_output (environment_first i o)) i o t row.reduced row.vars env_first_side env_second_side w),
  )

  pub environment_breaks : SomeDecisionForces (locations (environment_first i o) duty m) P at ↔ Settles (other (is_output (environment_first i o))) (IsSomeTarget m P) t
  environment_breaks = (
    λ f. first_chooses (IsSomeTarget m P) (other (is_output (environment_first i o))) i o t row.reduced row.vars
        (λ v h. ap not (env_first_side v h)) (λ v h. ap not (env_second_side v h)) (env_breaks_out f),
    λ w. env_breaks_in (chooses_first (IsSomeTarget m P) (other (is_output (environment_first i o))) i o t row.reduced row.vars
        (λ v h. ap not (env_first_side v h)) (λ v h. ap not (env_second_side v h)) w),
  )

-- the agent forces a round into P exactly where outputs, chosen in the row's order, lead there or to no location
pub forces_row : (s : Partition) (duty : Bool) (m : Locations) (at : ℕ) (t : Tree) → at < m.size → IsRowTree s m at t → GoesByInput s m → (P : ℕ → Type 0)
    → EachDecisionForces (locations s duty m) P at ↔ Settles (is_output s) (IsTarget m P) t
forces_row s duty m at t l row even P = by_mover s.first s.inputs s.outputs row even
  where
    by_mover : (f : Mover) (i o : ℕ) → IsRowTree (record { first = f; inputs = i; outputs = o }) m at t → GoesByInput (record { first = f; inputs = i; outputs = o }) m
        → EachDecisionForces (locations (record { first = f; inputs = i; outputs = o }) duty m) P at ↔ Settles (is_output (record { first = f; inputs = i; outputs = o })) (IsTarget m P) t
    by_mover Agent i o row even = agent_forces i o duty m at t row P
    by_mover Environment i o row even = environment_forces i o duty m at t row P (λ a c. even at a c l)

-- the environment forces one exactly where inputs lead to a location in P
pub breaks_row : (s : Partition) (duty : Bool) (m : Locations) (at : ℕ) (t : Tree) → at < m.size → IsRowTree s m at t → GoesByInput s m → (P : ℕ → Type 0)
    → SomeDecisionForces (locations s duty m) P at ↔ Settles (other (is_output s)) (IsSomeTarget m P) t
breaks_row s duty m at t l row even P = by_mover s.first s.inputs s.outputs row even
  where
    by_mover : (f : Mover) (i o : ℕ) → IsRowTree (record { first = f; inputs = i; outputs = o }) m at t → GoesByInput (record { first = f; inputs = i; outputs = o }) m
        → SomeDecisionForces (locations (record { first = f; inputs = i; outputs = o }) duty m) P at ↔ Settles (other (is_output (record { first = f; inputs = i; outputs = o }))) (IsSomeTarget m P) t
    by_mover Agent i o row even = agent_breaks i o duty m at t row P
    by_mover Environment i o row even = environment_breaks i o duty m at t row P (λ a c. even at a c l)
