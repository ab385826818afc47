-- What is told of legal histories, over a store that grows.
use Rattle.std.proofs.Common.{◌≡◌, ◌<◌, ◌^◌, ◌+◌, ◌-◌, ◌==◌, ℕ, zero, suc, [], ◌∷◌, ◌++◌, inl, inr, refl, sym, ◌∙◌, ap, subst, Option, Some, None, arith}
use Rattle.forms.specs.Word.{Word, Claim, IsOver}
use Rattle.diagrams.specs.Eval.{Diagrams, letter_truth}
use Rattle.diagrams.specs.Live.{Keeps}
use Rattle.automata.specs.Moves.{Moves, location_after, mark_after, IsClosed}
use Rattle.automata.specs.Table.{Table, size_of, mark_of, Fits, moves_of}
use Rattle.automata.proofs.Words.{over-nil, over-head, over-tail}
use Rattle.automata.proofs.Lasts.{mark_after-lasts, fits_lasts}
use Rattle.products.specs.Watch.{Tells, IsWatching}
use Rattle.game.specs.Board.{Mover, Agent, Environment, Partition, width, IsLeastNumber}
use Rattle.game.specs.Winning.{WinsWithin}
use Rattle.game.specs.Numbers.{IsLeastOrNone}
use Rattle.game.specs.Histories.{IsKeepable, IsLegalRound, violation}
use Rattle.game.specs.Same.{AgreeWhere}
use Rattle.game.proofs.Simulation.{turned, wins}
use Rattle.game.proofs.Rounds.{some_choice, round_of}
use Rattle.game.proofs.SameLemmas.{agree_turned, violated_same}
use Rattle.legality.specs.Violation.{TellsViolated, watched, AreViolationRanks, IsRestricted}
use Rattle.legality.specs.Legal.{claim_of, keeping, TellsLegal, IsLeastViolation, ArePlayable}
use Rattle.legality.proofs.WatchLemmas.{watch_tells, violation_simulated, is_ranked, restricted_tells}
use Rattle.legality.proofs.PlayableLemmas.{histories_playable}

-- what an automaton accepts stays so as the store grows
pub claim_last : (s n : Diagrams) (t : Table) → Keeps s n → Fits s t → t.first < size_of t → (w : Word) → claim_of n t w ≡ claim_of s t w
claim_last s n t k fits h w = ap (λ x. x == 1) (mark_after-lasts s n k t fits t.first w h)

-- and so what its marks tell
pub tells_last : (p : ℕ) (s n : Diagrams) (t : Table) (P : Word → Type 0) (v : ℕ) (Q : Word → Type 0) → Keeps s n → Fits s t → t.first < size_of t → Tells p (moves_of s t) P v Q → Tells p (moves_of n t) P v Q
tells_last p s n t P v Q k fits h tells w o =
    let e = mark_after-lasts s n k t fits t.first w h in
    elim (tells w o) [ inl (z, x) ↦ inl (e ∙ z, x) | inr (z, x) ↦ inr (e ∙ z, x) ]

pub closed_of : (p : ℕ) (s : Diagrams) (t : Table) → Fits s t → t.first < size_of t → IsClosed p (moves_of s t)
closed_of p s t fits h = record { first = h; next = λ at a l k. (fits at l).targets (letter_truth s.props a) }

-- claims that agree are violated alike
pub violated_told : (p : ℕ) (m : Moves) (v : ℕ) (o q : Option Claim) → AgreeWhere p o q → TellsViolated p m v o → TellsViolated p m v q
violated_told p m v o q e tells w over =
    elim (tells w over) [
      | inl (z, whole) ↦ inl (z, λ x. whole (violated_same p q o (agree_turned p o q e) w over x))
      | inr (z, x) ↦ inr (z, violated_same p o q e w over x)
    ]

-- what a watching automaton tells of the claim before the store grew
pub watch_told : (p : ℕ) (s n : Diagrams) (t u : Table) (v : ℕ) → p ≡ s.props → Keeps s n → Fits s t → t.first < size_of t → IsWatching n.props (moves_of n t) (moves_of n u) v
    → TellsViolated p (moves_of n u) v (Some (claim_of s t))
watch_told p s n t u v w k fits h r =
    let e : n.props ≡ p = k.extends.props ∙ sym w in
    let closed = closed_of p n t (fits_lasts s n k t fits) h in
    violated_told p (moves_of n u) v (Some (claim_of n t)) (Some (claim_of s t)) (λ x o. claim_last s n t k fits h x)
    (watch_tells p (moves_of n t) (moves_of n u) v closed (subst (λ q. IsWatching q (moves_of n t) (moves_of n u) v) e r))

-- where nothing is assumed nothing is violated
never : (p : Partition) (n : ℕ) (h : Word) → WinsWithin (violation (keeping p None)) n h → ⊥
never p zero h w = elim w [ ]
never p (suc n) h (inl w) = elim w [ ]
never p (suc n) h (inr w) =
    let x = some_choice p in
    let y = w x.0 x.1 in
    let a = round_of p x.0 y.0 x.1 y.1 in
    never p n (h ++ a.0 ∷ []) (y.2 a.0 a.1 tt)

round_none : (d : Mover) (i o : ℕ) (h : Word) (a : ℕ) → IsLegalRound (keeping (record { first = d; inputs = i; outputs = o }) None) h a
round_none Agent i o h a = λ n w. never (record { first = Agent; inputs = i; outputs = o }) n (h ++ a ∷ []) w
round_none Environment i o h a = λ b l e n w. never (record { first = Environment; inputs = i; outputs = o }) n (h ++ b ∷ []) w

pub none_kept : (p : Partition) → IsKeepable (keeping p None) []
none_kept p n w = never p n [] w

letter_in : (p : ℕ) (u v : Word) (a : ℕ) → IsOver p (u ++ a ∷ v) → a < 2 ^ p
letter_in p [] v a o = over-head p a v o
letter_in p (b ∷ u) v a o = letter_in p u v a (over-tail p b (u ++ a ∷ v) o)

pub none_legal : (p : Partition) (m : Moves) → ((w : Word) → mark_after m m.first w ≡ 0) → TellsLegal (keeping p None) m
none_legal p m always w o = inl (always w, λ u v a e. (letter_in (width p) u v a (subst (IsOver (width p)) e o), round_none p.first p.inputs p.outputs u a))

pub none_violated : (p : ℕ) (m : Moves) (v : ℕ) → ((w : Word) → mark_after m m.first w ≡ 0) → TellsViolated p m v None
none_violated p m v always w o = inl (always w, λ x. x)

-- what the ranks say of the empty history
pub rank_least : (p : Partition) (assumed : Option Claim) (m : Moves) (rank : ℕ → Option ℕ) (n : ℕ) → TellsViolated (width p) m 3 assumed → m.first < m.size → AreViolationRanks p m rank → rank m.first ≡ Some n
    → IsLeastViolation (keeping p assumed) n
rank_least p assumed m rank n tells h ranks e =
    let s = keeping p assumed in
    let R : Word → ℕ → Type 0 = λ h at. IsOver (width p) h × (location_after m m.first h ≡ at) in
    let S : ℕ → Word → Type 0 = λ at h. R h at in
    let sim = violation_simulated s m 3 (λ z. absurd (omega arith)) tells in
    let back = turned (violation s) (watched p m) R sim in
    let r : IsLeastNumber (λ k. WinsWithin (watched p m) k m.first) n =
    subst (λ o. IsLeastOrNone (λ k. WinsWithin (watched p m) k m.first) o) e (ranks m.first h) in
    record {
      holds = wins (watched p m) (violation s) S back n m.first [] (over-nil (width p), refl) r.holds;
      least = λ k l w. r.least k l (wins (violation s) (watched p m) R sim k [] m.first (over-nil (width p), refl) w);
    }

-- where there is none it can be kept
pub none_keeps : (p : Partition) (assumed : Option Claim) (m : Moves) (rank : ℕ → Option ℕ) → TellsViolated (width p) m 3 assumed → IsClosed (width p) m → AreViolationRanks p m rank → rank m.first ≡ None
    → IsKeepable (keeping p assumed) []
none_keeps p assumed m rank tells closed ranks e = (is_ranked (keeping p assumed) m 3 rank (λ z. absurd (omega arith)) tells closed ranks [] (over-nil (width p))).keepable e

-- legal histories are told
pub legal_told : (p : Partition) (s n : Diagrams) (keep t : Table) (assumed : Option Claim) (l : Moves) (rank : ℕ → Option ℕ) → TellsViolated (width p) (moves_of n t) 3 assumed → Fits n t → t.first < size_of t
    → IsWatching n.props (moves_of n keep) (moves_of n t) 3 → AreViolationRanks p (moves_of n t) rank → rank t.first ≡ None → IsRestricted p (moves_of n t) l rank (size_of t - 1) → TellsLegal (keeping p assumed) l
legal_told p s n keep t assumed l rank tells fits h r ranks e res =
    let size : size_of t ≡ size_of keep + 2 = r.size in
    let last : size_of t - 1 ≡ size_of keep + 1 = omega arith in
    restricted_tells (keeping p assumed) (moves_of n t) l 3 rank (size_of t - 1) (λ z. absurd (omega arith)) tells (closed_of (width p) n t fits h) ranks e (omega arith) (ap (mark_of t) last ∙ r.violated) res

-- where nothing is assumed, an automaton of one location tells what is violated
abbrev one_location : Moves
one_location = record { size = 1; first = 0; mark = λ at. 0; next = λ at a. 0 }

one_never : (p : Partition) (n at : ℕ) → WinsWithin (watched p one_location) n at → ⊥
one_never p zero at w = w refl
one_never p (suc n) at (inl w) = w refl
one_never p (suc n) at (inr w) =
    let x = some_choice p in
    let y = w x.0 x.1 in
    let a = round_of p x.0 y.0 x.1 y.1 in
    one_never p n 0 (y.2 a.0 a.1 tt)

pub none_playable : (p : Partition) → ArePlayable p None
none_playable p goal duty =
    histories_playable (record { parts = p; goal = goal; assumed = None; duty = duty }) one_location 3 (λ at. None) (λ z. absurd (omega arith)) (none_violated (width p) one_location 3 (λ w. refl))
    (record { first = omega arith; next = λ at a h l. omega arith }) (λ at h n w. one_never p n at w) (none_kept p)

pub some_playable : (p : Partition) (s n : Diagrams) (t k : Table) (rank : ℕ → Option ℕ) → TellsViolated (width p) (moves_of n t) 3 (Some (claim_of s k)) → Fits n t → t.first < size_of t → AreViolationRanks p (moves_of n t) rank
    → IsKeepable (keeping p (Some (claim_of s k))) [] → ArePlayable p (Some (claim_of s k))
some_playable p s n t k rank tells fits h ranks keep goal duty =
    histories_playable (record { parts = p; goal = goal; assumed = Some (claim_of s k); duty = duty }) (moves_of n t) 3 rank (λ z. absurd (omega arith)) tells (closed_of (width p) n t fits h) ranks keep
