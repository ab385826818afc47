-- Where what is assumed can be kept, and it is told which histories are live, the game goes on until the goal is met.
use Rattle.std.proofs.Common.{◌<◌, ◌≤◌, ◌+◌, ◌^◌, ◌⊎◌, ℕ, suc, [], refl, sym, subst, inl, inr, Option}
use Rattle.std.proofs.lemmas.Nat.{pow_pos}
use Rattle.forms.specs.Word.{Word, Claim}
use Rattle.automata.proofs.Words.{over-push}
use Rattle.game.specs.Board.{Mover, Agent, Environment, Partition, Board, width, input_of, output_of, decision_of, IsRound, IsLetter, IsChoice, EachLeads}
use Rattle.game.specs.Histories.{Aims, one_more, violation, ViolatesWithin, IsKeepable, IsInputLegal, IsLegalRound, IsDecisionAt, IsDone, histories, IsLegalHistory, IsLive, IsHistory, IsLiveHistory}
use Rattle.game.proofs.Rounds.{letter_of, letter_once, input_small, output_small}
use Rattle.game.proofs.HistoryLemmas.{Ends, nothing, letter, ends, legal-less, live_legal, live_unmet, live-more, live-less, done_or_not, violated-more}
use Rattle.game.specs.Playing.{GoesOn}
use Rattle.play_laws.proofs.SearchLemmas.{find, all_at_once}
use Rattle.game.proofs.WinningLemmas.{wins-more}

abbrev parts : Mover → ℕ → ℕ → Partition
parts d i o = record { first = d; inputs = i; outputs = o }

-- what a specification asks for, by its parts
abbrev aims : Mover → ℕ → ℕ → Claim → Option Claim → Option Claim → Aims
aims d i o g k u = record { parts = parts d i o; goal = g; assumed = k; duty = u }

-- after a legal round what is assumed can be kept
round_keeps : (d : Mover) (i o : ℕ) (g : Claim) (k u : Option Claim) (h : Word) (a : ℕ) → a < 2 ^ (i + o) → IsLegalRound (aims d i o g k u) h a → IsKeepable (aims d i o g k u) (one_more h a)
round_keeps Agent i o g k u h a l legal = legal
round_keeps Environment i o g k u h a l legal = legal a l refl

-- so it can after each legal history
keepable_by : (s : Aims) (h : Word) → Ends h → IsKeepable s [] → IsLegalHistory s h → IsKeepable s h
keepable_by s _ nothing keep legal = keep
keepable_by s _ (letter u a) keep legal =
    let r = legal-less s u a legal in
    round_keeps s.parts.first s.parts.inputs s.parts.outputs s.goal s.assumed s.duty u a r.1 r.2

-- legal rounds belong to decisions
belongs_by : (d : Mover) (i o : ℕ) (g : Claim) (k u : Option Claim) (h : Word) (a : ℕ) → a < 2 ^ (i + o) → IsLegalRound (aims d i o g k u) h a
    → IsDecisionAt (aims d i o g k u) h (decision_of (parts d i o) a)
belongs_by Agent i o g k u h a l legal = refl
belongs_by Environment i o g k u h a l legal = (input_small (parts Environment i o) a l, legal)

-- where the agent can violate what is assumed after every input to some output, it can before
agent-violates : (i o : ℕ) (g : Claim) (k u : Option Claim) (h : Word) (y : ℕ) → y < 2 ^ o → IsKeepable (aims Agent i o g k u) h
    → ((x a : ℕ) → x < 2 ^ i → IsLetter (parts Agent i o) x y a → ¬ IsKeepable (aims Agent i o g k u) (one_more h a)) → ⊥
agent-violates i o g k u h y small keep all =
    let s = aims Agent i o g k u in
    let P : ℕ → ℕ → Type 0 = λ x n. (a : ℕ) → IsLetter s.parts x y a → ViolatesWithin s n (one_more h a) in
    let each : (x : ℕ) → x < 2 ^ i → ¬ ¬ ((n : ℕ) × P x n) = λ x l none.
    let c = letter_of s.parts x y l small in
    all x c.0 l c.1 (λ n w. none (n, λ b q. subst (λ z. ViolatesWithin s n (one_more h z)) (letter_once s.parts x y c.0 b c.1 q) w)) in
    all_at_once P (λ x n m le w a q. wins-more (violation s) n m (one_more h a) le (w a q)) (2 ^ i) each
    (λ r. keep (suc r.0) (inr (λ x d. (
      y,
      small,
      λ a q legal.
          r.1 (input_of s.parts a) (input_small s.parts a q.letter) a (record { letter = q.letter; input = refl; output = q.output }),
    ))))

-- where each input has a round after which it can violate it, it can before
environment-violates : (i o : ℕ) (g : Claim) (k u : Option Claim) (h : Word) → IsKeepable (aims Environment i o g k u) h
    → ((x : ℕ) → x < 2 ^ i → ¬ IsInputLegal (aims Environment i o g k u) h x) → ⊥
environment-violates i o g k u h keep all =
    let s = aims Environment i o g k u in
    let P : ℕ → ℕ → Type 0 = λ x n. (y : ℕ) × (y < 2 ^ o) × EachLeads (violation s) (ViolatesWithin s n) h x y in
    let up : (x n m : ℕ) → n ≤ m → P x n → P x m = λ x n m le w. (w.0, w.1, λ a r l. wins-more (violation s) n m (one_more h a) le (w.2 a r l)) in
    let each : (x : ℕ) → x < 2 ^ i → ¬ ¬ ((n : ℕ) × P x n) = λ x l none.
    all x l (λ a b e n w. none (
      n,
      (
        output_of s.parts a,
        output_small s.parts a b,
        λ c q legal.
            subst (λ z. ViolatesWithin s n (one_more h z))
            (letter_once s.parts x (output_of s.parts a) a c (record { letter = b; input = e; output = refl }) (record { letter = q.letter; input = q.decision; output = q.output })) w,
      ),
    )) in
    all_at_once P up (2 ^ i) each (λ r. keep (suc r.0) (inr (λ x d. r.1 x d)))

-- a decision, where it is told which rounds are legal
decides_by : (d : Mover) (i o : ℕ) (g : Claim) (k u : Option Claim) (h : Word) → IsKeepable (aims d i o g k u) h
    → ((a : ℕ) → a < 2 ^ (i + o) → IsLegalRound (aims d i o g k u) h a ⊎ (¬ IsLegalRound (aims d i o g k u) h a))
    → (x : ℕ) × IsDecisionAt (aims d i o g k u) h x
decides_by Agent i o g k u h keep told = (0, refl)
decides_by Environment i o g k u h keep told =
    let s = aims Environment i o g k u in
    let test : (x : ℕ) → x < 2 ^ i → IsInputLegal s h x ⊎ (¬ IsInputLegal s h x) = λ x l.
    let c = letter_of s.parts x 0 l (pow_pos o) in
    elim (told c.0 c.1.letter) [
      | inl legal ↦ inl (subst (λ z. IsInputLegal s h z) c.1.input legal)
      | inr illegal ↦ inr (λ legal. illegal (subst (λ z. IsInputLegal s h z) (sym c.1.input) legal))
    ] in
    elim (find (λ x. IsInputLegal s h x) (2 ^ i) test) [
      | inl f ↦ (f.0, (f.1, f.2))
      | inr none ↦ absurd (environment-violates i o g k u h keep none)
    ]

-- to each decision each output makes a legal round
goes_on_by : (d : Mover) (i o : ℕ) (g : Claim) (k u : Option Claim) (h : Word) → IsKeepable (aims d i o g k u) h
    → ((a : ℕ) → a < 2 ^ (i + o) → IsLegalRound (aims d i o g k u) h a ⊎ (¬ IsLegalRound (aims d i o g k u) h a))
    → (x y : ℕ) → IsDecisionAt (aims d i o g k u) h x → y < 2 ^ o → (a : ℕ) × IsRound (parts d i o) x y a × IsLegalRound (aims d i o g k u) h a
goes_on_by Agent i o g k u h keep told x y d small =
    let s = aims Agent i o g k u in
    let L : ℕ → Type 0 = λ z. (a : ℕ) × IsLetter s.parts z y a × IsLegalRound s h a in
    let test : (z : ℕ) → z < 2 ^ i → L z ⊎ (¬ L z) = λ z l.
    let c = letter_of s.parts z y l small in
    elim (told c.0 c.1.letter) [
      | inl legal ↦ inl (c.0, c.1, legal)
      | inr illegal ↦ inr (λ w. illegal (subst (λ b. IsLegalRound s h b) (letter_once s.parts z y w.0 c.0 w.1 c.1) w.2))
    ] in
    elim (find L (2 ^ i) test) [
      | inl f ↦ let w = f.2 in (w.0, record { letter = w.1.letter; decision = sym d; output = w.1.output }, w.2)
      | inr none ↦ absurd (agent-violates i o g k u h y small keep (λ z a l q legal. none z l (a, q, legal)))
    ]
goes_on_by Environment i o g k u h keep told x y (small, legal) j =
    let c = letter_of (parts Environment i o) x y small j in
    (c.0, record { letter = c.1.letter; decision = c.1.input; output = c.1.output }, subst (λ z. IsInputLegal (aims Environment i o g k u) h z) (sym c.1.input) legal)

-- a decision is an input, or the empty one
choice_by : (d : Mover) (i o : ℕ) (g : Claim) (k u : Option Claim) (h : Word) (x : ℕ) → IsDecisionAt (aims d i o g k u) h x → IsChoice (parts d i o) x
choice_by Agent i o g k u h x d = d
choice_by Environment i o g k u h x d = d.0

pub decision-choice : (s : Aims) (h : Word) (x : ℕ) → IsDecisionAt s h x → IsChoice s.parts x
decision-choice s h x d = choice_by s.parts.first s.parts.inputs s.parts.outputs s.goal s.assumed s.duty h x d

-- a board that goes on at some places goes on at the same places
pub goes_on_same : {s : Partition} (b : Board s) (I J : b.Place → Type 0) → ((h : b.Place) → I h → J h) → ((h : b.Place) → J h → I h) → GoesOn b I → GoesOn b J
goes_on_same b I J to from on = record {
  playable = record {
    kept = λ h j unmet a k l. to (b.after h a) (on.playable.kept h (from h j) unmet a k l);
    belongs = λ h j unmet a k l. on.playable.belongs h (from h j) unmet a k l;
    decides = λ h j unmet. on.playable.decides h (from h j) unmet;
    goes_on = λ h j unmet x y d o. on.playable.goes_on h (from h j) unmet x y d o;
  };
  met = λ h j. on.met h (from h j);
  broken = λ h a j unmet k l w. on.broken h a (from h j) unmet k l w;
}

module _ (s : Aims) (decide : (h : Word) → IsHistory s h → IsLive s h ⊎ (¬ IsLive s h)) (keep : IsKeepable s []) where
  live-keeps : (h : Word) → IsLiveHistory s h → IsKeepable s h
  live-keeps h l = keepable_by s h (ends h) keep (live_legal s h l.1)

  live-stays : (h : Word) → IsLiveHistory s h → ¬ IsDone s h → (c : ℕ) → c < 2 ^ width s.parts → IsLegalRound s h c → IsLiveHistory s (one_more h c)
  live-stays h l unmet c b r = (over-push (width s.parts) h c l.0 b, live-more s h c (live_unmet s h l.1 unmet) b r)

  -- it is told whether a round is legal, where it is told which histories are live
  told : (h : Word) → IsLiveHistory s h → ¬ IsDone s h → (c : ℕ) → c < 2 ^ width s.parts → IsLegalRound s h c ⊎ (¬ IsLegalRound s h c)
  told h l unmet c b =
      elim (decide (one_more h c) (over-push (width s.parts) h c l.0 b)) [
        | inl live ↦ inl (live-less s h c live).2
        | inr dead ↦ inr (λ r. dead (live-stays h l unmet c b r).1)
      ]

  -- the game goes on at live histories
  pub live_go_on : GoesOn (histories s) (IsLiveHistory s)
  live_go_on = record {
    playable = record {
      kept = live-stays;
      belongs = λ h l unmet a k r. belongs_by s.parts.first s.parts.inputs s.parts.outputs s.goal s.assumed s.duty h a k r;
      decides = λ h l unmet. decides_by s.parts.first s.parts.inputs s.parts.outputs s.goal s.assumed s.duty h (live-keeps h l) (told h l unmet);
      goes_on = λ h l unmet x y d o. goes_on_by s.parts.first s.parts.inputs s.parts.outputs s.goal s.assumed s.duty h (live-keeps h l) (told h l unmet) x y d o;
    };
    met = λ h l. done_or_not s h;
    broken = λ h a l unmet b r w. violated-more s.duty h a w;
  }
