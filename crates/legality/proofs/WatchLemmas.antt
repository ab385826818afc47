-- What watching automata tell of histories, and the violation game on their locations.
use Rattle.std.proofs.Common.{◌≡◌, ◌≢◌, ◌<◌, ◌^◌, ◌+◌, ◌⊎◌, ◌↔◌, ◌==◌, ℕ, [], ◌∷◌, inl, inr, refl, sym, ◌∙◌, ap, Bool, true, false, Option, Some, None, arith, if◌then◌else◌}
use Rattle.std.proofs.lemmas.Bool.{cases_Bool, true≢false, cases_eq}
use Rattle.forms.specs.Word.{Word, Claim, IsOver}
use Rattle.automata.specs.Moves.{Moves, location_after, accepts, IsClosed}
use Rattle.automata.proofs.Words.{over-push, location_after-append, location_after-within}
use Rattle.game.specs.Board.{Mover, Agent, Environment, Partition, width}
use Rattle.game.specs.Winning.{WinsWithin}
use Rattle.game.specs.Numbers.{IsLeastOrNone}
use Rattle.game.specs.Histories.{Aims, IsViolated, IsKeepable, IsLegalRound, IsLegalHistory, violation, one_more}
use Rattle.game.specs.Simulates.{Simulates}
use Rattle.products.specs.Watch.{Tells, IsWatching}
use Rattle.legality.specs.Violation.{TellsViolated, watched, AreViolationRanks, LeadsToNoRank, IsRestricted}
use Rattle.game.proofs.Simulation.{turned, wins}
use Rattle.game.proofs.HistoryLemmas.{over-front, over-last, by_last_letter, violated-nil, violated-more, violated-now, violated-cases, violated_or_not, legal-nil, legal-more, legal-less}

-- where a watching automaton is after a word that violates nothing so far
record IsKept (k m : Moves) (w : Word) : Type 0 where
  whole : ¬ IsViolated (Some (λ u. accepts k u)) w
  place : ((location_after m m.first w ≡ k.size) × (location_after k k.first w ≡ k.first)) ⊎ (location_after m m.first w ≡ location_after k k.first w)

if_true : (b : Bool) (x y : ℕ) → b ≡ true → (if b then x else y) ≡ x
if_true b x y e = rw e refl

if_false : (b : Bool) (x y : ℕ) → b ≡ false → (if b then x else y) ≡ y
if_false b x y e = rw e refl

-- where the next letter leads
watch_goes : (p : ℕ) (k m : Moves) (v : ℕ) → IsClosed p k → IsWatching p k m v → (w : Word) (a : ℕ) → IsOver p w → a < 2 ^ p → IsKept k m w
    → m.next (location_after m m.first w) a ≡ (if accepts k (one_more w a) then location_after k k.first (one_more w a) else (k.size + 1))
watch_goes p k m v closed r w a o l kept =
    let f : location_after k k.first (one_more w a) ≡ k.next (location_after k k.first w) a = location_after-append k k.first w (a ∷ []) in
    let T : ℕ → ℕ = λ q. if k.mark q == 1 then q else (k.size + 1) in
    let g : m.next (location_after m m.first w) a ≡ T (k.next (location_after k k.first w) a) =
    elim kept.place [
      | inl (e, g) ↦ ap (λ q. m.next q a) e ∙ r.begins a l ∙ ap (λ q. T (k.next q a)) (sym g)
      | inr e ↦ ap (λ q. m.next q a) e ∙ r.next (location_after k k.first w) a (location_after-within p k closed k.first w closed.first o) l
    ] in
    g ∙ ap T (sym f)

pub watch_tells : (p : ℕ) (k m : Moves) (v : ℕ) → IsClosed p k → IsWatching p k m v → TellsViolated p m v (Some (λ u. accepts k u))
watch_tells p k m v closed r w o =
    let c : Claim = λ u. accepts k u in
    let P : Word → Type 0 = λ w. IsOver p w → IsKept k m w ⊎ (IsViolated (Some c) w × (location_after m m.first w ≡ k.size + 1)) in
    elim (by_last_letter P
    (λ o. inl (record { whole = violated-nil (Some c); place = inl (r.first, refl) }))
    (λ u a before o.
    let f = over-front p u a o in
    let l = over-last p u a o in
    let n : location_after m m.first (one_more u a) ≡ m.next (location_after m m.first u) a = location_after-append m m.first u (a ∷ []) in
    elim (before f) [
      | inl kept ↦
          let g = n ∙ watch_goes p k m v closed r u a f l kept in
          elim (cases_Bool (accepts k (one_more u a))) [
            | inl t ↦ inl (record {
              whole = λ w. elim (violated-cases c u a w) [ inl x ↦ kept.whole x | inr e ↦ true≢false (sym t ∙ e) ];
              place = inr (g ∙ if_true (accepts k (one_more u a)) (location_after k k.first (one_more u a)) (k.size + 1) t);
            })
            | inr e ↦ inr (violated-now c u a e, g ∙ if_false (accepts k (one_more u a)) (location_after k k.first (one_more u a)) (k.size + 1) e)
          ]
      | inr (x, e) ↦ inr (violated-more (Some c) u a x, n ∙ ap (λ q. m.next q a) e ∙ r.stays a l)
    ])
    w o) [
      | inl kept ↦ inl (
        elim kept.place [
          | inl (e, g) ↦ ap m.mark e ∙ r.kept k.size (omega arith)
          | inr e ↦ ap m.mark e ∙ r.kept (location_after k k.first w) (let l = location_after-within p k closed k.first w closed.first o in omega arith)
        ],
        kept.whole,
      )
      | inr (x, e) ↦ inr (ap m.mark e ∙ r.violated, x)
    ]

-- a watching automaton simulates the game of violating what is assumed
pub violation_simulated : (s : Aims) (m : Moves) (v : ℕ) → v ≢ 0 → TellsViolated (width s.parts) m v s.assumed
    → Simulates (violation s) (watched s.parts m) (λ h at. IsOver (width s.parts) h × (location_after m m.first h ≡ at))
violation_simulated s m v some tells =
    record {
      duty = refl;
      decided = λ h at r. violated_or_not s.assumed h;
      met = λ h at r. elim (tells h r.0) [
        | inl (e, whole) ↦ (λ w. absurd (whole w), λ d. absurd (d (ap m.mark (sym r.1) ∙ e)))
        | inr (e, w) ↦ (λ w z. some (sym e ∙ ap m.mark r.1 ∙ z), λ d. w)
      ];
      broken = λ h at r. (λ w. w, λ w. w);
      decision = λ h at r unmet x. (λ d. d, λ d. d);
      legal = λ h at r unmet a k. (λ l. l, λ l. l);
      kept = λ h at r unmet a k l. (over-push (width s.parts) h a r.0 k, location_after-append m m.first h (a ∷ []) ∙ ap (λ q. m.next q a) r.1);
    }

-- what is assumed can be kept exactly where the location has no rank
pub record IsRanked (s : Aims) (m : Moves) (rank : ℕ → Option ℕ) (h : Word) : Type 0 where
  pub keepable : rank (location_after m m.first h) ≡ None → IsKeepable s h
  pub ranked : IsKeepable s h → rank (location_after m m.first h) ≡ None

ranked_by : (s : Partition) (m : Moves) (at : ℕ) (o : Option ℕ) → IsLeastOrNone (λ k. WinsWithin (watched s m) k at) o
    → (o ≡ None → (k : ℕ) → ¬ WinsWithin (watched s m) k at) × (((k : ℕ) → ¬ WinsWithin (watched s m) k at) → o ≡ None)
ranked_by s m at None x = (λ e. x, λ n. refl)
ranked_by s m at (Some n) x = (λ e. cc, λ never. absurd (never n x.holds))

pub is_ranked : (s : Aims) (m : Moves) (v : ℕ) (rank : ℕ → Option ℕ) → v ≢ 0 → TellsViolated (width s.parts) m v s.assumed → IsClosed (width s.parts) m
    → AreViolationRanks s.parts m rank → (h : Word) → IsOver (width s.parts) h → IsRanked s m rank h
is_ranked s m v rank some tells closed ranks h o =
    let R : Word → ℕ → Type 0 = λ h at. IsOver (width s.parts) h × (location_after m m.first h ≡ at) in
    let S : ℕ → Word → Type 0 = λ at h. R h at in
    let sim = violation_simulated s m v some tells in
    let at = location_after m m.first h in
    let r = ranked_by s.parts m at (rank at) (ranks at (location_after-within (width s.parts) m closed m.first h closed.first o)) in
    record {
      keepable = λ e n w. r.0 e n (wins (violation s) (watched s.parts m) R sim n h at (o, refl) w);
      ranked = λ keep. r.1 (λ n w. keep n (wins (watched s.parts m) (violation s) S (turned (violation s) (watched s.parts m) R sim) n at h (o, refl) w));
    }

-- a round is legal exactly where its letter leads to no rank
rounds_by : (d : Mover) (i o : ℕ) (g : Claim) (k u : Option Claim) (m : Moves) (rank : ℕ → Option ℕ) (h : Word) (a : ℕ)
    → ((b : ℕ) → b < 2 ^ (i + o) → IsRanked (record { parts = record { first = d; inputs = i; outputs = o }; goal = g; assumed = k; duty = u }) m rank (one_more h b))
    → a < 2 ^ (i + o)
    → (LeadsToNoRank (record { first = d; inputs = i; outputs = o }) m rank (location_after m m.first h) a
    ↔ IsLegalRound (record { parts = record { first = d; inputs = i; outputs = o }; goal = g; assumed = k; duty = u }) h a)
rounds_by Agent i o g k u m rank h a ranked l =
    let e : (b : ℕ) → location_after m m.first (one_more h b) ≡ m.next (location_after m m.first h) b = λ b. location_after-append m m.first h (b ∷ []) in
    let r = ranked a l in
    (λ n. r.keepable (ap rank (e a) ∙ n), λ keep. ap rank (sym (e a)) ∙ r.ranked keep)
rounds_by Environment i o g k u m rank h a ranked l =
    let e : (b : ℕ) → location_after m m.first (one_more h b) ≡ m.next (location_after m m.first h) b = λ b. location_after-append m m.first h (b ∷ []) in
    (λ n b l' same. (ranked b l').keepable (ap rank (e b) ∙ n b l' same), λ keep b l' same. ap rank (sym (e b)) ∙ (ranked b l').ranked (keep b l' same))

-- in particular the letter itself does
own_rank : (d : Mover) (i o : ℕ) (m : Moves) (rank : ℕ → Option ℕ) (at a : ℕ) → a < 2 ^ (i + o)
    → LeadsToNoRank (record { first = d; inputs = i; outputs = o }) m rank at a → rank (m.next at a) ≡ None
own_rank Agent i o m rank at a l n = n
own_rank Environment i o m rank at a l n = n a l refl

-- a location without a rank has the mark 0
no_rank_mark : (s : Partition) (m : Moves) (rank : ℕ → Option ℕ) → AreViolationRanks s m rank → (at : ℕ) → at < m.size → rank at ≡ None → m.mark at ≡ 0
no_rank_mark s m rank ranks at h e =
    elim (cases_eq (m.mark at) 0) [ inl z ↦ z | inr d ↦ absurd ((ranked_by s m at (rank at) (ranks at h)).0 e 0 d) ]

-- the restricted automaton tells legal histories
pub restricted_tells : (s : Aims) (m l : Moves) (v : ℕ) (rank : ℕ → Option ℕ) (sink : ℕ) → v ≢ 0 → TellsViolated (width s.parts) m v s.assumed
    → IsClosed (width s.parts) m → AreViolationRanks s.parts m rank → rank m.first ≡ None → sink < m.size → m.mark sink ≡ v → IsRestricted s.parts m l rank sink
    → Tells (width s.parts) l (IsLegalHistory s) v (λ w. ¬ IsLegalHistory s w)
restricted_tells s m l v rank sink some tells closed ranks begins within marked r w o =
    let p = width s.parts in
    let IsLegalPlace : Word → Type 0 = λ w. IsLegalHistory s w × (location_after l l.first w ≡ location_after m m.first w) × (rank (location_after m m.first w) ≡ None) in
    let P : Word → Type 0 = λ w. IsOver p w → IsLegalPlace w ⊎ ((¬ IsLegalHistory s w) × (location_after l l.first w ≡ sink)) in
    elim (by_last_letter P
    (λ o. inl (legal-nil s, r.first, begins))
    (λ u a before o.
    let f = over-front p u a o in
    let k = over-last p u a o in
    let at = location_after m m.first u in
    let h = location_after-within p m closed m.first u closed.first f in
    let n : location_after l l.first (one_more u a) ≡ l.next (location_after l l.first u) a = location_after-append l l.first u (a ∷ []) in
    let e : location_after m m.first (one_more u a) ≡ m.next at a = location_after-append m m.first u (a ∷ []) in
    elim (before f) [
      | inl (legal, same, none) ↦
          let rounds = rounds_by s.parts.first s.parts.inputs s.parts.outputs s.goal s.assumed s.duty m rank u a
          (λ b j. is_ranked s m v rank some tells closed ranks (one_more u b) (over-push p u b f j)) k in
          elim (r.goes at a h k) [
            | inl (good, to) ↦ inl (
              legal-more s u a legal k (rounds.0 good),
              n ∙ ap (λ q. l.next q a) same ∙ to ∙ sym e,
              ap rank e ∙ own_rank s.parts.first s.parts.inputs s.parts.outputs m rank at a k good,
            )
            | inr (bad, to) ↦ inr (λ x. bad (rounds.1 (legal-less s u a x).2), n ∙ ap (λ q. l.next q a) same ∙ to)
          ]
      | inr (illegal, same) ↦ inr (λ x. illegal (legal-less s u a x).0, n ∙ ap (λ q. l.next q a) same ∙ r.stays a k)
    ])
    w o) [
      | inl (legal, same, none) ↦
          let h = location_after-within p m closed m.first w closed.first o in
          inl (ap l.mark same ∙ r.mark (location_after m m.first w) h ∙ no_rank_mark s.parts m rank ranks (location_after m m.first w) h none, legal)
      | inr (illegal, same) ↦ inr (ap l.mark same ∙ r.mark sink within ∙ marked, illegal)
    ]
