-- The game of violating what is assumed is one on the locations of an arena, all of whose rounds are legal.
use Rattle.std.proofs.Common.{◌≡◌, ◌≢◌, ◌<◌, ◌≤◌, ◌^◌, ◌+◌, ◌-◌, ◌↔◌, ◌==◌, ℕ, true, false, not, inl, inr, refl, sym, ◌∙◌, ap, subst, arith, Bool, List, [], length, Option, Some, None}
use Rattle.std.proofs.lemmas.Bool.{true≢false, cases_eq, cases_Bool, eqb-true}
use Rattle.diagrams.specs.declared.top.Id.{Id}
use Rattle.diagrams.specs.Eval.{Diagrams, eval, id_at, letter_truth}
use Rattle.diagrams.specs.Live.{IsCanonical}
use Rattle.automata.specs.Moves.{Moves, IsClosed}
use Rattle.automata.specs.Table.{Table, size_of, Fits, IsRow, moves_of}
use Rattle.attractor.specs.Graph.{number_at}
use Rattle.attractor.specs.Rows.{IsAttraction}
use Rattle.game.specs.Board.{Mover, Agent, Environment, Partition, width, IsChoice}
use Rattle.game.specs.Winning.{WinsWithin}
use Rattle.game.specs.Numbers.{IsLeastOrNone}
use Rattle.game.specs.Arena.{Locations, IsDecisionThere, locations}
use Rattle.game.specs.Simulates.{Simulates}
use Rattle.game.proofs.Simulation.{wins, turned}
use Rattle.layers.specs.Ranked.{GoesByInput}
use Rattle.layers.specs.ArenaRows.{locations_of, AreArenaRows, agent_sides}
use Rattle.layers.proofs.ArenaLemmas.{attraction_ranks, attraction_small}
use Rattle.legality.specs.Violation.{watched, AreViolationRanks, AreWatchedRows}

-- locations on which letters lead as in an automaton, with the goal at each mark other than 0
record AreLike (p : ℕ) (m : Moves) (l : Locations) : Type 0 where
  size : l.size ≡ m.size
  next : (at a : ℕ) → at < m.size → l.next at a ≡ m.next at a
  goal : (at : ℕ) → at < m.size → l.is_goal at ≡ not (m.mark at == 0)
  broken : (at : ℕ) → l.is_broken at ≡ false

like_small : (p : ℕ) (m : Moves) (l : Locations) → IsClosed p m → AreLike p m l → (at a : ℕ) → at < m.size → a < 2 ^ p → l.next at a < l.size
like_small p m l closed r at a h k = let c = closed.next at a h k in let e = r.size in let f = r.next at a h in omega arith

decision_by : (d : Mover) (i o : ℕ) (m : Moves) (l : Locations) (at x : ℕ) → IsClosed (i + o) m → AreLike (i + o) m l → at < m.size
    → (IsChoice (record { first = d; inputs = i; outputs = o }) x ↔ IsDecisionThere (record { first = d; inputs = i; outputs = o }) l at x)
decision_by Agent i o m l at x closed r h = (λ c. c, λ c. c)
decision_by Environment i o m l at x closed r h = (λ c. (c, λ a k e. like_small (i + o) m l closed r at a h k), λ c. c.0)

some_mark : (n : ℕ) → n ≢ 0 → not (n == 0) ≡ true
some_mark n d = elim (cases_Bool (n == 0)) [ inl t ↦ absurd (d (eqb-true n 0 t)) | inr f ↦ ap not f ]

-- the two games are the same
like_simulates : (s : Partition) (m : Moves) (l : Locations) → IsClosed (width s) m → AreLike (width s) m l → Simulates (watched s m) (locations s false l) (λ at g. (at < m.size) × (at ≡ g))
like_simulates s m l closed r =
    let met : (at : ℕ) → at < m.size → (m.mark at ≢ 0) ↔ (l.is_goal at ≡ true) =
    λ at h. (
      λ d. r.goal at h ∙ some_mark (m.mark at) d,
      λ e z. true≢false (sym e ∙ r.goal at h ∙ ap (λ q. not (q == 0)) z),
    ) in
    record {
      duty = refl;
      decided = λ at g q. elim (cases_eq (m.mark at) 0) [ inl z ↦ inr (λ d. d z) | inr d ↦ inl d ];
      met = λ at g q. let e = met at q.0 in (λ d. subst (λ z. l.is_goal z ≡ true) q.1 (e.0 d), λ d. e.1 (subst (λ z. l.is_goal z ≡ true) (sym q.1) d));
      broken = λ at g q. (λ w. absurd w, λ w. absurd (true≢false (sym w ∙ r.broken g)));
      decision = λ at g q unmet x.
          let e = decision_by s.first s.inputs s.outputs m l at x closed r q.0 in
          (λ c. subst (λ z. IsDecisionThere s l z x) q.1 (e.0 c), λ c. e.1 (subst (λ z. IsDecisionThere s l z x) (sym q.1) c));
      legal = λ at g q unmet a k. (λ t. subst (λ z. l.next z a < l.size) q.1 (like_small (width s) m l closed r at a q.0 k), λ t. tt);
      kept = λ at g q unmet a k t. (closed.next at a q.0 k, sym (r.next at a q.0) ∙ ap (λ z. l.next z a) q.1);
    }

-- so ranks of the one are ranks of the other
ranks_by : (s : Partition) (m : Moves) (l : Locations) (at : ℕ) (o : Option ℕ) → IsClosed (width s) m → AreLike (width s) m l → at < m.size
    → IsLeastOrNone (λ k. WinsWithin (locations s false l) k at) o → IsLeastOrNone (λ k. WinsWithin (watched s m) k at) o
ranks_by s m l at None closed r h x = λ k w. x k (wins (watched s m) (locations s false l) (λ at g. (at < m.size) × (at ≡ g)) (like_simulates s m l closed r) k at at (h, refl) w)
ranks_by s m l at (Some n) closed r h x =
    let R : ℕ → ℕ → Type 0 = λ at g. (at < m.size) × (at ≡ g) in
    let sim = like_simulates s m l closed r in
    record {
      holds = wins (locations s false l) (watched s m) (λ g at. R at g) (turned (watched s m) (locations s false l) R sim) n at at (h, refl) x.holds;
      least = λ k j w. x.least k j (wins (watched s m) (locations s false l) R sim k at at (h, refl) w);
    }

-- environment first the rounds with one input are legal together, since all are legal
even_by : (d : Mover) (i o : ℕ) (m : Moves) (l : Locations) → IsClosed (i + o) m → AreLike (i + o) m l → GoesByInput (record { first = d; inputs = i; outputs = o }) l
even_by Agent i o m l closed r = tt
even_by Environment i o m l closed r = λ at a c h j k e f. like_small (i + o) m l closed r at c (let z = r.size in omega arith) k

module _ (s : Diagrams) (p : Partition) (t : Table) (rows : List Id) (violated : List Bool) (w : width p ≡ s.props) (canonical : IsCanonical s) (fits : Fits s t) (first : t.first < size_of t)
    (lists : AreWatchedRows t rows violated (size_of t)) where
  like : AreLike (width p) (moves_of s t) (locations_of s rows violated [])
  like = record {
    size = lists.rows_count;
    next = λ at a h. ap (λ i. eval s i (letter_truth s.props a)) (lists.row at h);
    goal = λ at h. lists.mark at h;
    broken = λ at. refl;
  }

  closed : IsClosed (width p) (moves_of s t)
  closed = record { first = first; next = λ at a h k. (fits at h).targets (letter_truth s.props a) }

  row_there : (at : ℕ) → at < length rows → IsRow s (size_of t) (id_at rows at)
  row_there at h = let e = lists.rows_count in let k : at < size_of t = omega arith in subst (IsRow s (size_of t)) (sym (lists.row at k)) (fits at k)

  -- the rows are those of an arena
  pub watched_rows : AreArenaRows s p rows violated []
  watched_rows = record {
    canonical = canonical;
    props = sym w;
    rows_are = λ at h. let r = row_there at h in (r.live, λ a. let t = r.targets a in let e = lists.rows_count in omega arith);
    letters = λ at h. (row_there at h).letters;
    even = even_by p.first p.inputs p.outputs (moves_of s t) (locations_of s rows violated []) closed like;
  }

  -- and what attract gives of them the ranks of violation
  pub violation_ranks : (numbers : List (Option ℕ)) → IsAttraction s (agent_sides p) rows violated true numbers → AreViolationRanks p (moves_of s t) (number_at numbers)
  violation_ranks numbers a at h =
      ranks_by p (moves_of s t) (locations_of s rows violated []) at (number_at numbers at) closed like h
      (attraction_ranks s p false rows violated [] watched_rows numbers a at (let e = lists.rows_count in omega arith))

  pub violation_small : (numbers : List (Option ℕ)) → IsAttraction s (agent_sides p) rows violated true numbers → size_of t ≤ 2 ^ 32 - 2
      → (k n : ℕ) → k < size_of t → number_at numbers k ≡ Some n → n < 2 ^ 32
  violation_small numbers a few k n h e =
      let c = lists.rows_count in
      attraction_small s p false rows violated [] watched_rows numbers a (omega arith) k n (omega arith) e
