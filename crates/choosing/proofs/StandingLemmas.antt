-- What is chosen for a row of an arena is chosen for the decision.
use Rattle.std.proofs.Common.{◌≡◌, ◌<◌, ◌≤◌, ◌+◌, ◌-◌, ◌*◌, ◌/◌, ◌%◌, ◌^◌, ℕ, zero, suc, sym, ◌∙◌, ap, subst, arith, Bool, true, false, true≢false, if◌then◌else◌, inl, inr, Option, Some, None}
use Rattle.std.specs.Int.{from_bool}
use Rattle.std.proofs.lemmas.Bool.{lt-ltb, le-ltb, cases_lt}
use Rattle.std.proofs.lemmas.Nat.{pow-add, div-mul-add, mod-mul-add}
use Rattle.diagrams.specs.Tree.{Assignment, Tree, value_at}
use Rattle.diagrams.specs.Eval.{Diagrams, eval, DependsOn, letter_truth}
use Rattle.diagrams.specs.declared.top.Id.{Id}
use Rattle.automata.proofs.Letters.{spelt, spelt-truth}
use Rattle.game.specs.Board.{Mover, Agent, Environment, Partition, Board, IsRound, IsChoice}
use Rattle.game.specs.Arena.{Locations, locations}
use Rattle.game.specs.Playable.{IsPlayable}
use Rattle.game.proofs.Rounds.{letter_once}
use Rattle.choosing.specs.declared.choice.Chosen.{Chosen}
use Rattle.choosing.specs.declared.choice.Tables.{Tables}
use Rattle.choosing.specs.Choices.{IsAllIllegal, IsChoiceAt, mixed}
use Rattle.choosing.specs.MarkOf.{IsChosenThere}
use Rattle.choosing.specs.Numbers.{number_at}
use Rattle.choosing.specs.Rounds.{StandsBelow, from_of, to_of}
use Rattle.choosing.specs.ArenaRows.{IsRowAt, AreTables, RowChoicesAreChosen}
use Rattle.choosing.proofs.ChosenLemmas.{chosen-below}
use Rattle.choosing.proofs.FirstLemmas.{starts-vars}
use Rattle.choosing.proofs.NumberLemmas.{number-less, spelling}
use Rattle.choosing.proofs.RoundLemmas.{once-number}

abbrev parts : Mover → ℕ → ℕ → Partition
parts d i o = record { first = d; inputs = i; outputs = o }

-- the number of the variables of two runs
number-split : (a : Assignment) (n k v : ℕ) → number_at a v (n + k) ≡ number_at a v n * 2 ^ k + number_at a (v + n) k
number-split a zero k v =
    let e : v + 0 ≡ v = omega arith in
    let f : 0 + k ≡ k = omega arith in
    let g : number_at a (v + 0) k ≡ 0 * 2 ^ k + number_at a (v + 0) k = omega arith in
    ap (number_at a v) f ∙ ap (λ z. number_at a z k) (sym e) ∙ g
number-split a (suc n) k v =
    let r = number-split a n k (suc v) in
    let e : suc v + n ≡ v + suc n = omega arith in
    let p = pow-add 2 n k in
    let f : number_at a (suc v) (n + k) ≡ number_at a (suc v) n * 2 ^ k + number_at a (v + suc n) k = r ∙ ap (λ z. number_at a (suc v) n * 2 ^ k + number_at a z k) e in
    let up : suc n + k ≡ suc (n + k) = omega arith in
    ap (number_at a v) up ∙ head (a v) (2 ^ (n + k)) (2 ^ n) (2 ^ k) (number_at a (suc v) (n + k)) (number_at a (suc v) n) (number_at a (v + suc n) k) p f
  where
    head : (b : Bool) (q r w x y z : ℕ) → q ≡ r * w → x ≡ y * w + z → (if b then q else 0) + x ≡ ((if b then r else 0) + y) * w + z
    head true q r w x y z e f = let d : (r + y) * w ≡ r * w + y * w = omega arith in omega (arith, e, f, d)
    head false q r w x y z e f = omega (arith, f)

number-front : (a : Assignment) (n k : ℕ) → number_at a 0 (n + k) ≡ number_at a 0 n * 2 ^ k + number_at a n k
number-front a n k = let e : 0 + n ≡ n = omega arith in number-split a n k 0 ∙ ap (λ z. number_at a 0 n * 2 ^ k + number_at a z k) e

-- what all variables spell, from the front and from the back
number-spelt : (a : Assignment) (n v : ℕ) → spelt a (v + n) ≡ spelt a v * 2 ^ n + number_at a v n
number-spelt a zero v = let e : v + 0 ≡ v = omega arith in ap (spelt a) e ∙ omega arith
number-spelt a (suc n) v =
    let e : v + suc n ≡ suc v + n = omega arith in
    let r = number-spelt a n (suc v) in
    let twice : 2 * 2 ^ n ≡ 2 ^ suc n = omega arith in
    ap (spelt a) e ∙ r ∙ head (a v) (spelt a v) (2 ^ n) (number_at a (suc v) n) ∙ ap (λ z. spelt a v * z + number_at a v (suc n)) twice
  where
    head : (b : Bool) (x w y : ℕ) → (2 * x + from_bool b) * w + y ≡ x * (2 * w) + ((if b then w else 0) + y)
    head true x w y = let d : (2 * x + 1) * w ≡ x * (2 * w) + w = omega arith in omega (arith, d)
    head false x w y = let d : (2 * x + 0) * w ≡ x * (2 * w) = omega arith in omega (arith, d)

-- the first propositions as one letter
pub all-spelt : (a : Assignment) (p : ℕ) → number_at a 0 p ≡ spelt a p
all-spelt a p =
    let e : p ≡ 0 + p = omega arith in
    let f : 0 * 2 ^ p + number_at a 0 p ≡ number_at a 0 p = omega arith in
    sym (ap (spelt a) e ∙ number-spelt a p 0 ∙ f)

-- the letter that variables spell has exactly those that are true
pub number-truth : (a : Assignment) (p v : ℕ) → v < p → letter_truth p (number_at a 0 p) v ≡ a v
number-truth a p v l = ap (λ z. letter_truth p z v) (all-spelt a p) ∙ spelt-truth a p v l

-- and the propositions of a letter spell it
pub truth-number : (p x : ℕ) → x < 2 ^ p → number_at (letter_truth p x) 0 p ≡ x
truth-number p x small =
    let s = spelling 0 p x small in
    once-number (letter_truth p x) s.0 p 0 (λ v h l. let k : v < p = omega (arith, l) in ap (λ z. letter_truth p z v) (sym s.1) ∙ number-truth s.0 p v k) ∙ s.1

mixed-before : (bound : ℕ) (a c : Assignment) (v : ℕ) → v < bound → mixed bound a c v ≡ a v
mixed-before bound a c v l = ap (λ z. if z then a v else c v) (lt-ltb v bound l)

mixed-after : (bound : ℕ) (a c : Assignment) (v : ℕ) → bound ≤ v → mixed bound a c v ≡ c v
mixed-after bound a c v l = ap (λ z. if z then a v else c v) (le-ltb v bound l)

-- the letter of a decision and an assignment of what follows
abbrev pub letter_at : Mover → ℕ → ℕ → Assignment → Assignment → ℕ
letter_at d i o choice c = number_at (mixed (from_of d i) choice c) 0 (i + o)

-- it is a round with them
round-at : (d : Mover) (i o x : ℕ) (choice : Assignment) → number_at choice 0 (from_of d i) ≡ x → (c : Assignment)
    → IsRound (parts d i o) x (number_at c (from_of d i) (to_of d i o - from_of d i)) (letter_at d i o choice c)
round-at Agent i o x choice e c =
    let a = mixed 0 choice c in
    let swap : i + o ≡ o + i = omega arith in
    let split : number_at a 0 (i + o) ≡ number_at a 0 o * 2 ^ i + number_at a o i = ap (number_at a 0) swap ∙ number-front a o i in
    let wide : o - 0 ≡ o = omega arith in
    record {
      letter = number-less a 0 (i + o);
      decision = e;
      output =
          ap (λ z. z / 2 ^ i) split ∙ div-mul-add (number_at a 0 o) (2 ^ i) (number_at a o i) (number-less a o i)
          ∙ once-number a c o 0 (λ w l k. mixed-after 0 choice c w (omega arith)) ∙ ap (number_at c 0) (sym wide);
    }
round-at Environment i o x choice e c =
    let a = mixed i choice c in
    let split : number_at a 0 (i + o) ≡ number_at a 0 i * 2 ^ o + number_at a i o = number-front a i o in
    let wide : i + o - i ≡ o = omega arith in
    record {
      letter = number-less a 0 (i + o);
      decision =
          ap (λ z. z / 2 ^ o) split ∙ div-mul-add (number_at a 0 i) (2 ^ o) (number_at a i o) (number-less a i o)
          ∙ once-number a choice i 0 (λ w l k. mixed-before i choice c w (omega (arith, k))) ∙ e;
      output =
          ap (λ z. z % 2 ^ o) split ∙ mod-mul-add (number_at a 0 i) (2 ^ o) (number_at a i o) (number-less a i o)
          ∙ once-number a c o i (λ w l k. mixed-after i choice c w l) ∙ ap (number_at c i) (sym wide);
    }

-- each round is one
each-at : (d : Mover) (i o x : ℕ) (choice : Assignment) → number_at choice 0 (from_of d i) ≡ x → (y r : ℕ) → IsRound (parts d i o) x y r
    → (c : Assignment) × (letter_at d i o choice c ≡ r)
each-at Agent i o x choice e y r round =
    let s = spelling 0 (i + o) r round.letter in
    (s.0, once-number (mixed 0 choice s.0) s.0 (i + o) 0 (λ w l k. mixed-after 0 choice s.0 w (omega arith)) ∙ s.1)
each-at Environment i o x choice e y r round =
    let small : y < 2 ^ o = subst (λ z. z < 2 ^ o) round.output (let q = number-less (λ v. false) 0 o in omega arith) in
    let s = spelling i o y small in
    let wide : i + o - i ≡ o = omega arith in
    let here = round-at Environment i o x choice e s.0 in (
      s.0,
      letter_once (parts Environment i o) x y (letter_at Environment i o choice s.0) r
          (record { letter = here.letter; input = here.decision; output = here.output ∙ ap (number_at s.0 i) wide ∙ s.1 })
          (record { letter = round.letter; input = round.decision; output = round.output }),
    )

width-at : (d : Mover) (i o : ℕ) → to_of d i o - from_of d i ≡ o
width-at Agent i o = omega arith
width-at Environment i o = omega arith

module _ (d : Mover) (i o at x : ℕ) (has_duty : Bool) (m : Locations) (s : Diagrams) (row : Id) (t : Tree) (over : DependsOn s row (λ v. v < i + o)) (targets : (a : Assignment) → eval s row a ≤ m.size)
    (rows : (a : ℕ) → a < 2 ^ (i + o) → m.next at a ≡ eval s row (letter_truth (i + o) a))
    (choice : Assignment) (spells : number_at choice 0 (from_of d i) ≡ x) (values : (c : Assignment) → value_at t c ≡ eval s row (mixed (from_of d i) choice c)) where
  -- the value below is that of the letter
  value-at : (c : Assignment) → value_at t c ≡ m.next at (letter_at d i o choice c)
  value-at c =
      let a = mixed (from_of d i) choice c in
      let truth : eval s row a ≡ eval s row (letter_truth (i + o) (letter_at d i o choice c)) =
      over a (letter_truth (i + o) (letter_at d i o choice c))
      (λ v l. sym (ap (λ z. letter_truth (i + o) z v) (all-spelt a (i + o)) ∙ spelt-truth a (i + o) v l)) in
      values c ∙ truth ∙ sym (rows (letter_at d i o choice c) (number-less a 0 (i + o)))

  -- the tree stands below the decision
  pub stands_below : StandsBelow (locations (parts d i o) has_duty m) at x (from_of d i) (to_of d i o) m.size (λ v. v) t
  stands_below = record {
    width = width-at d i o;
    letter = letter_at d i o choice;
    round = round-at d i o x choice spells;
    each = each-at d i o x choice spells;
    within = λ c. rw (values c) (targets (mixed (from_of d i) choice c));
    legal = λ a l. subst (λ z. z < m.size) (value-at a) l;
    illegal = λ a c l. c (subst (λ z. z < m.size) (sym (value-at a)) l);
    leads = λ a l. sym (value-at a);
  }

range-at : (d : Mover) (i o : ℕ) → from_of d i ≤ to_of d i o
range-at Agent i o = omega arith
range-at Environment i o = omega arith

module _ (d : Mover) (i o at x : ℕ) (has_duty : Bool) (m : Locations) (here : at < m.size) (unmet : ¬ (m.is_goal at ≡ true))
    (playable : IsPlayable (locations (parts d i o) has_duty m) (λ g. g < m.size)) (t : Tree)
    (below : StandsBelow (locations (parts d i o) has_duty m) at x (from_of d i) (to_of d i o) m.size (λ v. v) t) where
  abbrev board : Board (parts d i o)
  board = locations (parts d i o) has_duty m

  -- where each round is illegal there is no decision
  pub no-decision : IsAllIllegal m.size t → board.IsDecision at x → ⊥
  no-decision all decides =
      let some : 0 < 2 ^ o = let q = number-less (λ v. false) 0 o in omega arith in
      let r = playable.goes_on at here unmet x 0 decides some in
      let c = below.each 0 r.0 r.1 in
      let legal : board.IsLegal at (below.letter c.0) = subst (board.IsLegal at) (sym c.1) r.2 in
      below.illegal c.0 (λ l. let h = all c.0 in omega (arith, h, l)) legal

  -- where some round is legal the decision is told from illegal ones by any letter
  legal-decides : (¬ IsAllIllegal m.size t) → ¬ (¬ board.IsDecision at x)
  legal-decides some not = some (λ c. elim (cases_lt (value_at t c) m.size) [
    | inl l ↦
        let round = below.round c in
        absurd (not (subst (board.IsDecision at) round.decision (playable.belongs at here unmet (below.letter c) round.letter (below.legal c l))))
    | inr l ↦ l
  ])

decided : (d : Mover) (i o at x : ℕ) (has_duty : Bool) (m : Locations) → IsChoice (parts d i o) x
    → ¬ (¬ (locations (parts d i o) has_duty m).IsDecision at x) → (locations (parts d i o) has_duty m).IsDecision at x
decided Agent i o at x has_duty m choice not = choice
decided Environment i o at x has_duty m choice not = (
  choice,
  λ a l e. elim (cases_lt (m.next at a) m.size) [
    | inl k ↦ k
    | inr k ↦ absurd (not (λ decides. let h = decides.1 a l e in omega (arith, h, k)))
  ],
)

-- the choice for a row is that for the decision which the assignment spells
chosen-parts : (d : Mover) (i o : ℕ) (has_duty : Bool) (m : Locations) (s : Diagrams) (row : Id) (at x : ℕ) (a : Assignment) (tables : Tables)
    → (ranks distances losses : ℕ → Option ℕ) → at < m.size → m.is_goal at ≡ false → IsChoice (parts d i o) x
    → IsPlayable (locations (parts d i o) has_duty m) (λ g. g < m.size) → IsRowAt (parts d i o) m s at row → number_at a 0 (from_of d i) ≡ x
    → AreTables (locations (parts d i o) has_duty m) (λ v. v) m.size ranks distances losses tables → (choice : Option Chosen)
    → IsChoiceAt s row a (record { from = from_of d i; to = to_of d i o }) m.size has_duty tables choice
    → IsChosenThere (locations (parts d i o) has_duty m) ranks distances losses at x choice
chosen-parts d i o has_duty m s row at x a tables ranks distances losses here goal is_choice playable is_row spells are None chosen =
    let below = stands_below d i o at x has_duty m s row chosen.rest is_row.over is_row.targets is_row.next a spells chosen.values in
    no-decision d i o at x has_duty m here (λ e. true≢false (sym e ∙ goal)) playable chosen.rest below chosen.chosen
chosen-parts d i o has_duty m s row at x a tables ranks distances losses here goal is_choice playable is_row spells are (Some c) chosen =
    let below = stands_below d i o at x has_duty m s row chosen.rest is_row.over is_row.targets is_row.next a spells chosen.values in
    let decides = decided d i o at x has_duty m is_choice (legal-decides d i o at x has_duty m here (λ e. true≢false (sym e ∙ goal)) playable chosen.rest below chosen.chosen.0) in (
      decides,
      chosen-below (locations (parts d i o) has_duty m) at x (from_of d i) (to_of d i o) m.size (λ v. v) chosen.rest below (range-at d i o)
          (starts-vars (from_of d i) chosen.rest chosen.vars) chosen.reduced
          ranks distances losses tables.ranks.items tables.distances.items tables.losses.items are.rank_table are.distance_table are.loss_table c.mark c.output chosen.chosen.1,
    )

pub chosen_there : RowChoicesAreChosen
chosen_there s has_duty = chosen-parts s.first s.inputs s.outputs has_duty
