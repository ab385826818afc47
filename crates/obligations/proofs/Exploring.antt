-- The exploration of locations, step by step.
use Rattle.std.proofs.Common.{◌≡◌, ℕ, ◌<◌, ◌≤◌, ◌+◌, ◌-◌, ◌++◌, List, [], ◌∷◌, length, length-append, refl, sym, ◌∙◌, ap, arith, inl, inr}
use Rattle.std.specs.Prelude.{nat_lt, ◌==◌, slice_index}
use Rattle.std.proofs.lemmas.Bool.Decides.{nat_tests}
use Rattle.std.proofs.lemmas.List.{get_or_append_left, get_or_at}
use Rattle.diagrams.specs.declared.top.Id.{Id}
use Rattle.diagrams.specs.Eval.{Diagrams, eval}
use Rattle.diagrams.specs.Live.{Keeps, IsCanonical}
use Rattle.diagrams.specs.Eval.{id_at}
use Rattle.diagrams.proofs.Meaning.{Keeps_trans}
use Rattle.diagrams.proofs.Meaning.{eval-lasts, Extends_refl}
use Rattle.std.proofs.lemmas.Bool.{cases_Bool}
use Rattle.automata.specs.Moves.{mark_after, accepts}
use Rattle.automata.specs.Table.{Table, size_of, mark_of, Fits, moves_of}
use Rattle.obligations.specs.declared.cells.Obligation.{Obligation}
use Rattle.obligations.specs.Table.{ends_of, body_of}
use Rattle.obligations.specs.Value.{by_values, cell, holds, IsClaim, FitsCells}
use Rattle.obligations.specs.Located.{Grows, AllClaims, IsLocated, AllLocated, IsExploring, HasFirst}
use Rattle.obligations.proofs.Holds.{cell-lasts, fits_cells_lasts, mark_after-claim, by_values-obligations}
use Rattle.obligations.proofs.Explored.{located_lasts}
use Rattle.obligations.proofs.Cuts.{claims_placed}

-- before the first location
pub exploring_first : (s : Diagrams) → IsCanonical s → (c : List Obligation) (start : Id) (claims : List Id) → AllClaims s (length c) claims → 0 < length claims → id_at claims 0 ≡ start
    → IsExploring s s c start claims [] [] 0
exploring_first s k c start claims all some e = record {
  keeps = record { was = k; now = k; extends = Extends_refl s };
  sound = all;
  some = some;
  first = e;
  row_count = refl;
  mark_count = refl;
  within = omega arith;
  each = λ i h. absurd (omega arith);
}

-- one location more
pub exploring_next : (s0 s n : Diagrams) (c : List Obligation) → FitsCells s0 c → (start : Id) (claims more rows : List Id) (marks : List ℕ) (at : ℕ) (row : Id) (mark : ℕ)
    → IsExploring s0 s c start claims rows marks at → Keeps s n → Grows claims more → AllClaims n (length c) more → at < length claims
    → IsLocated n c more (id_at claims at) row mark → IsExploring s0 n c start more (rows ++ row ∷ []) (marks ++ mark ∷ []) (at + 1)
exploring_next s0 s n c f start claims more rows marks at row mark x k g all l made = record {
  keeps = Keeps_trans s0 s n x.keeps k;
  sound = all;
  some = let h = x.some in let m = g.longer in omega arith;
  first = g.same 0 x.some ∙ x.first;
  row_count = rw (length-append, x.row_count) refl;
  mark_count = rw (length-append, x.mark_count) refl;
  within = let m = g.longer in omega arith;
  each = λ i h.
      elim (cases_Bool (nat_lt i at)) [
        | inl t ↦
            let b : i < at = grind (arith, nat_tests) in
            let r : id_at (rows ++ row ∷ []) i ≡ id_at rows i = get_or_append_left rows (row ∷ []) _ i (rw x.row_count b) in
            let m : slice_index (marks ++ mark ∷ []) i ≡ slice_index marks i = get_or_append_left marks (mark ∷ []) _ i (rw x.mark_count b) in
            let w = x.within in
            rw (g.same i (omega arith), r, m)
            (located_lasts s n k c (fits_cells_lasts s0 s x.keeps c f) claims more g x.sound (id_at claims i) (id_at rows i) (slice_index marks i) (x.each i b))
        | inr t ↦
            let b : i ≡ at = grind (arith, nat_tests) in
            let r : id_at (rows ++ row ∷ []) at ≡ row = get_or_at rows row [] _ at x.row_count in
            let m : slice_index (marks ++ mark ∷ []) at ≡ mark = get_or_at marks mark [] _ at x.mark_count in
            rw (b, g.same at l, r, m) made
      ];
}

-- when all are done, each location stands for its claim
pub exploring_done : (s0 s : Diagrams) (c : List Obligation) (start : Id) (claims rows : List Id) (marks : List ℕ) (at : ℕ) → IsExploring s0 s c start claims rows marks at → at ≡ length claims
    → (t : Table) → t.rows ≡ rows → t.marks ≡ marks → AllLocated s c claims t
exploring_done s0 s c start claims rows marks at x e t r m = record {
  size = ap length r ∙ x.row_count ∙ e;
  each = λ i h. rw (r, m) (x.each i (rw e h));
}

-- a claim holds on the same words in the grown store
pub holds-lasts : (s n : Diagrams) → Keeps s n → (c : List Obligation) → FitsCells s c → (claim : Id) → IsClaim s (length c) claim → (word : List ℕ)
    → eval n claim (by_values n.props (cell n c word)) ≡ eval s claim (by_values s.props (cell s c word))
holds-lasts s n k c f claim q word =
    eval-lasts s n k.was k.now k.extends claim q.live (by_values n.props (cell n c word))
    ∙ ap (λ p. eval s claim (by_values p (cell n c word))) k.extends.props
    ∙ q.over (by_values s.props (cell n c word)) (by_values s.props (cell s c word)) (λ v h.
    by_values-obligations s.props (cell n c word) v h.0
    ∙ cell-lasts s n k c f word (v - s.props) (let a = h.0 in let b = h.1 in omega arith)
    ∙ sym (by_values-obligations s.props (cell s c word) v h.0))

-- the automaton accepts where start holds
pub determinised : (s0 s : Diagrams) (c : List Obligation) → FitsCells s0 c → (start : Id) → IsClaim s0 (length c) start → (claims rows : List Id) (marks : List ℕ) (at : ℕ)
    → IsExploring s0 s c start claims rows marks at → at ≡ length claims → (t : Table) → t.first ≡ 0 → t.rows ≡ rows → t.marks ≡ marks → (word : List ℕ)
    → accepts (moves_of s t) word ≡ holds s0 c start word
determinised s0 s c f start q claims rows marks at x e t o r m word =
    let a : mark_after (moves_of s t) 0 word ≡ eval s (id_at claims 0) (by_values s.props (cell s c word)) =
    mark_after-claim s c claims t (exploring_done s0 s c start claims rows marks at x e t r m) 0 x.some word in
    let b : mark_after (moves_of s t) t.first word ≡ eval s start (by_values s.props (cell s c word)) = rw (o, ← x.first) a in
    ap (λ v. v == 1) (b ∙ holds-lasts s0 s x.keeps c f start q word)

-- the automaton fits the store
pub fits_done : (s0 s : Diagrams) (c : List Obligation) (start : Id) (claims rows : List Id) (marks : List ℕ) (at : ℕ) → IsExploring s0 s c start claims rows marks at → at ≡ length claims
    → (t : Table) → t.rows ≡ rows → t.marks ≡ marks → Fits s t
fits_done s0 s c start claims rows marks at x e t r m i h =
    let a = exploring_done s0 s c start claims rows marks at x e t r m in
    let l : i < length claims = rw a.size at h in
    rw a.size (a.each i l).leads.fits

-- each mark is 0 or 1
pub marks_done : (s0 s : Diagrams) (c : List Obligation) (start : Id) (claims rows : List Id) (marks : List ℕ) (at : ℕ) → IsExploring s0 s c start claims rows marks at → at ≡ length claims
    → (t : Table) → t.rows ≡ rows → t.marks ≡ marks → (i : ℕ) → i < size_of t → mark_of t i < 2
marks_done s0 s c start claims rows marks at x e t r m i h =
    let a = exploring_done s0 s c start claims rows marks at x e t r m in
    let l = a.each i (rw a.size at h) in
    rw l.end (l.sound.truth (by_values s.props (ends_of c)))

-- one body more
pub first_next : (c : List Obligation) (bodies : List Id) (n : ℕ) (b : Id) → HasFirst c bodies n → b ≡ body_of c n → HasFirst c (bodies ++ b ∷ []) (n + 1)
first_next c bodies n b x e = record {
  count = rw (length-append, x.count) refl;
  each = λ j h.
      elim (cases_Bool (nat_lt j n)) [
        | inl t ↦
            let l : j < n = grind (arith, nat_tests) in
            let r : id_at (bodies ++ b ∷ []) j ≡ id_at bodies j = get_or_append_left bodies (b ∷ []) _ j (rw x.count l) in
            r ∙ x.each j l
        | inr t ↦
            let l : j ≡ n = grind (arith, nat_tests) in
            let r : id_at (bodies ++ b ∷ []) n ≡ b = get_or_at bodies b [] _ n x.count in
            rw l (r ∙ e)
      ];
}

-- no body yet
pub first_none : (c : List Obligation) → HasFirst c [] 0
first_none c = record { count = refl; each = λ j h. absurd (omega arith) }

-- all bodies
pub first_done : (c : List Obligation) (bodies : List Id) (n : ℕ) → HasFirst c bodies n → n ≡ length c → HasFirst c bodies (length c)
first_done c bodies n x e = rw e at x

-- what stands when start has been placed
pub exploring_start : (s : Diagrams) → IsCanonical s → (c : List Obligation) (start : Id) → IsClaim s (length c) start → (old new : List Id) (at : ℕ) → old ≡ [] → Grows old new
    → ((i : ℕ) → length old ≤ i → i < length new → id_at new i ≡ start) → at < length new → IsExploring s s c start new [] [] 0
exploring_start s k c start q old new at e g others h =
    let none : AllClaims s (length c) old = rw e (λ i l. absurd (omega arith)) in
    let zero : length old ≤ 0 = rw e (omega arith) in
    exploring_first s k c start new (claims_placed s (length c) old new start none q g others) (omega arith) (others 0 zero (omega arith))
