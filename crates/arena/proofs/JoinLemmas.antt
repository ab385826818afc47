-- From what is told of the goal, of legality and of the duty to the kinds of histories.
use Rattle.std.proofs.Common.{◌≡◌, ◌<◌, ◌^◌, ◌⊎◌, ◌==◌, ℕ, [], ◌∷◌, ◌++◌, inl, inr, refl, sym, ◌∙◌, ap, subst, true, false, max}
use Rattle.std.proofs.lemmas.Bool.{true≢false}
use Rattle.std.proofs.lemmas.List.{append-nil, append_assoc}
use Rattle.forms.specs.Word.{Word, IsOver}
use Rattle.automata.specs.Moves.{Moves, location_after, mark_after}
use Rattle.automata.proofs.Words.{location_after-append}
use Rattle.game.specs.Board.{width}
use Rattle.game.specs.Histories.{Aims, IsViolated, IsDone, IsLegalHistory, IsRunning, IsMetFirst, Kind, Running, Broken, Met, Past, Illegal, HasKind, one_more}
use Rattle.game.specs.Kinds.{kind_number, TellsKinds}
use Rattle.products.specs.Watch.{Tells}
use Rattle.legality.specs.Violation.{TellsViolated}
use Rattle.products.specs.Joins.{is_end, IsJoin, IsEnded}
use Rattle.arena.specs.Told.{TellsDuty}
use Rattle.game.proofs.HistoryLemmas.{by_last_letter, legal-nil, legal-more, legal-less, running-more, met-more, empty_prefix, not_empty, over-front, over-last}

-- a location that stands for those to which a word leads in both automata
pub record Tracks (p : ℕ) (a b j : Moves) (r : IsJoin p a b j) (w : Word) (at : ℕ) : Type 0 where
  pub within : at < j.size
  pub left : r.left at ≡ location_after a a.first w
  pub right : r.right at ≡ location_after b b.first w

-- its mark
tracks_mark : (p : ℕ) (a b j : Moves) (r : IsJoin p a b j) (w : Word) (at x y : ℕ) → Tracks p a b j r w at
    → mark_after a a.first w ≡ x → mark_after b b.first w ≡ y → j.mark at ≡ max x y
tracks_mark p a b j r w at x y t e f =
    r.mark at t.within ∙ ap (λ n. max n (b.mark (r.right at))) (ap a.mark t.left ∙ e) ∙ ap (λ n. max x n) (ap b.mark t.right ∙ f)

tracks-nil : (p : ℕ) (a b j : Moves) (r : IsJoin p a b j) → Tracks p a b j r [] j.first
tracks-nil p a b j r = record { within = r.closed.first; left = r.first_left; right = r.first_right }

tracks-more : (p : ℕ) (a b j : Moves) (r : IsJoin p a b j) (w : Word) (at x : ℕ) → x < 2 ^ p → Tracks p a b j r w at → is_end (j.mark at) ≡ false
    → Tracks p a b j r (one_more w x) (j.next at x)
tracks-more p a b j r w at x k t e =
    record {
      within = r.closed.next at x t.within k;
      left = r.goes_left at x t.within k e ∙ ap (λ q. a.next q x) t.left ∙ sym (location_after-append a a.first w (x ∷ []));
      right = r.goes_right at x t.within k e ∙ ap (λ q. b.next q x) t.right ∙ sym (location_after-append b b.first w (x ∷ []));
    }

-- the join of what tells legal histories and of what tells the duty
pub duty_told : (s : Aims) (l d b : Moves) → Tells (width s.parts) l (IsLegalHistory s) 3 (λ w. ¬ IsLegalHistory s w) → TellsViolated (width s.parts) d 2 s.duty
    → IsJoin (width s.parts) l d b → TellsDuty s b
duty_told s l d b legal duty r w o =
    let p = width s.parts in
    let T : Word → Type 0 = λ w. (IsLegalHistory s w × Tracks p l d b r w (location_after b b.first w))
    ⊎ ((¬ IsLegalHistory s w) × (location_after b b.first w < b.size) × (mark_after b b.first w ≡ 3)) in
    let P : Word → Type 0 = λ w. IsOver p w → T w in
    let marked : (w : Word) → IsOver p w → IsLegalHistory s w → Tracks p l d b r w (location_after b b.first w)
    → ((mark_after b b.first w ≡ 0) × (¬ IsViolated s.duty w)) ⊎ ((mark_after b b.first w ≡ 2) × IsViolated s.duty w) = λ w o h t.
    elim (legal w o) [
      | inl (e, x) ↦ elim (duty w o) [
        | inl (f, y) ↦ inl (tracks_mark p l d b r w (location_after b b.first w) 0 0 t e f, y)
        | inr (f, y) ↦ inr (tracks_mark p l d b r w (location_after b b.first w) 0 2 t e f, y)
      ]
      | inr (e, x) ↦ absurd (x h)
    ] in
    elim (by_last_letter P
    (λ o. inl (legal-nil s, tracks-nil p l d b r))
    (λ u a before o.
    let f = over-front p u a o in
    let k = over-last p u a o in
    let n : location_after b b.first (one_more u a) ≡ b.next (location_after b b.first u) a = location_after-append b b.first u (a ∷ []) in
    elim (before f) [
      | inl (h, t) ↦
          let open_end : is_end (mark_after b b.first u) ≡ false =
          elim (marked u f h t) [ inl (e, x) ↦ ap is_end e | inr (e, x) ↦ ap is_end e ] in
          let t' : Tracks p l d b r (one_more u a) (location_after b b.first (one_more u a)) =
          subst (λ q. Tracks p l d b r (one_more u a) q) (sym n) (tracks-more p l d b r u (location_after b b.first u) a k t open_end) in
          elim (legal (one_more u a) o) [
            | inl (e, x) ↦ inl (x, t')
            | inr (e, x) ↦ inr (
              x,
              t'.within,
              elim (duty (one_more u a) o) [
                | inl (g, y) ↦ tracks_mark p l d b r (one_more u a) (location_after b b.first (one_more u a)) 3 0 t' e g
                | inr (g, y) ↦ tracks_mark p l d b r (one_more u a) (location_after b b.first (one_more u a)) 3 2 t' e g
              ],
            )
          ]
      | inr (x, h, e) ↦
          let stay : location_after b b.first (one_more u a) ≡ location_after b b.first u = n ∙ r.stays (location_after b b.first u) a h k (ap is_end e) in
          inr (λ y. x (legal-less s u a y).0, subst (λ q. q < b.size) (sym stay) h, ap b.mark stay ∙ e)
    ])
    w o) [
      | inl (h, t) ↦ inl (h, marked w o h t)
      | inr (x, h, e) ↦ inr (x, e)
    ]

-- where the ended join is after a word: at a place that tracks it, at a met goal, at an illegal end, or past the goal
data Stands (s : Aims) (b g x : Moves) (r : IsJoin (width s.parts) b g x) (w : Word) (at : ℕ) : Type 0 where
  runs : IsRunning s w → Tracks (width s.parts) b g x r w at → Stands s b g x r w at
  met : IsMetFirst s w → at < x.size → x.mark at ≡ 1 → Stands s b g x r w at
  illegal : HasKind s w Illegal → at < x.size → x.mark at ≡ 3 → Stands s b g x r w at
  past : HasKind s w Past → at ≡ x.size → Stands s b g x r w at

-- what a word becomes by what it is: what is needed of its proper prefixes
record Becomes (s : Aims) (w : Word) : Type 0 where
  met : IsLegalHistory s w → IsDone s w → IsMetFirst s w
  runs : IsLegalHistory s w → ¬ IsDone s w → IsRunning s w
  illegal : ¬ IsLegalHistory s w → HasKind s w Illegal

becomes-nil : (s : Aims) → Becomes s []
becomes-nil s = record {
  met = λ l d. (l, d, λ u v e some. absurd (some (empty_prefix u v e).1));
  runs = λ l unmet. (l, λ u v e d. unmet (subst (λ x. IsDone s x) (empty_prefix u v e).0 d));
  illegal = λ n. absurd (n (legal-nil s));
}

becomes-more : (s : Aims) (w : Word) (a : ℕ) → a < 2 ^ width s.parts → IsRunning s w → Becomes s (one_more w a)
becomes-more s w a k run = record {
  met = λ l d. let r = legal-less s w a l in met-more s w a run r.1 r.2 d;
  runs = λ l unmet. let r = legal-less s w a l in running-more s w a run r.1 r.2 unmet;
  illegal = λ n. (w, [], a, refl, run, λ l. n (legal-more s w a run.0 k l));
}

-- a word that is tracked stands where it is to
arrives : (s : Aims) (b g x : Moves) (r : IsJoin (width s.parts) b g x) → TellsDuty s b → Tells (width s.parts) g (λ w. s.goal w ≡ false) 1 (λ w. s.goal w ≡ true)
    → (w : Word) (at : ℕ) → IsOver (width s.parts) w → Becomes s w → Tracks (width s.parts) b g x r w at → Stands s b g x r w at
arrives s b g x r duty goal w at o c t =
    let p = width s.parts in
    elim (duty w o) [
      | inr (n, e) ↦ illegal (c.illegal n) t.within (elim (goal w o) [ inl (f, y) ↦ tracks_mark p b g x r w at 3 0 t e f | inr (f, y) ↦ tracks_mark p b g x r w at 3 1 t e f ])
      | inl (l, inr (e, broken)) ↦ runs (c.runs l (λ d. d.0 broken)) t
      | inl (l, inl (e, whole)) ↦ elim (goal w o) [
        | inl (f, y) ↦ runs (c.runs l (λ d. true≢false (sym d.1 ∙ y))) t
        | inr (f, y) ↦ met (c.met l (whole, y)) t.within (tracks_mark p b g x r w at 0 1 t e f)
      ]
    ]

-- the mark where a running word is tracked
running_mark : (s : Aims) (b g x : Moves) (r : IsJoin (width s.parts) b g x) → TellsDuty s b → Tells (width s.parts) g (λ w. s.goal w ≡ false) 1 (λ w. s.goal w ≡ true)
    → (w : Word) (at : ℕ) → IsOver (width s.parts) w → IsRunning s w → Tracks (width s.parts) b g x r w at
    → ((x.mark at ≡ 0) × (¬ IsViolated s.duty w)) ⊎ ((x.mark at ≡ 2) × IsViolated s.duty w)
running_mark s b g x r duty goal w at o run t =
    let p = width s.parts in
    elim (duty w o) [
      | inr (n, e) ↦ absurd (n run.0)
      | inl (l, inr (e, broken)) ↦ inr (elim (goal w o) [ inl (f, y) ↦ tracks_mark p b g x r w at 2 0 t e f | inr (f, y) ↦ tracks_mark p b g x r w at 2 1 t e f ], broken)
      | inl (l, inl (e, whole)) ↦ elim (goal w o) [
        | inl (f, y) ↦ inl (tracks_mark p b g x r w at 0 0 t e f, whole)
        | inr (f, y) ↦ absurd (run.1 w [] (sym (append-nil w)) (whole, y))
      ]
    ]

-- one more letter
stands-more : (s : Aims) (b g x e : Moves) (r : IsJoin (width s.parts) b g x) → TellsDuty s b → Tells (width s.parts) g (λ w. s.goal w ≡ false) 1 (λ w. s.goal w ≡ true)
    → IsEnded (width s.parts) x e → (w : Word) (a at : ℕ) → IsOver (width s.parts) (one_more w a) → Stands s b g x r w at → Stands s b g x r (one_more w a) (e.next at a)
stands-more s b g x e r duty goal ended w a at o (runs run t) =
    let p = width s.parts in
    let f = over-front p w a o in
    let k = over-last p w a o in
    let m = running_mark s b g x r duty goal w at f run t in
    let open_end : is_end (x.mark at) ≡ false = elim m [ inl (q, y) ↦ ap is_end q | inr (q, y) ↦ ap is_end q ] in
    let unmet : (x.mark at == 1) ≡ false = elim m [ inl (q, y) ↦ ap (λ n. n == 1) q | inr (q, y) ↦ ap (λ n. n == 1) q ] in
    arrives s b g x r duty goal (one_more w a) (e.next at a) o (becomes-more s w a k run)
    (subst (λ q. Tracks p b g x r (one_more w a) q) (sym (ended.next at a t.within k unmet)) (tracks-more p b g x r w at a k t open_end))
stands-more s b g x e r duty goal ended w a at o (met m h q) =
    let k = over-last (width s.parts) w a o in
    past (w, a ∷ [], refl, λ z. cc, m) (ended.past at a h k (ap (λ n. n == 1) q))
stands-more s b g x e r duty goal ended w a at o (illegal (u, v, c, z, run, bad) h q) =
    let k = over-last (width s.parts) w a o in
    let stay : e.next at a ≡ at = ended.next at a h k (ap (λ n. n == 1) q) ∙ r.stays at a h k (ap is_end q) in
    illegal (u, v ++ a ∷ [], c, ap (λ t. t ++ a ∷ []) z ∙ append_assoc u (c ∷ v) (a ∷ []), run, bad)
    (subst (λ t. t < x.size) (sym stay) h) (ap x.mark stay ∙ q)
stands-more s b g x e r duty goal ended w a at o (past (u, v, z, some, m) q) =
    let k = over-last (width s.parts) w a o in
    past (u, v ++ a ∷ [], ap (λ t. t ++ a ∷ []) z ∙ append_assoc u v (a ∷ []), not_empty v [] a, m) (ap (λ t. e.next t a) q ∙ ended.stays a k)

-- the mark at a place tells the kind
stands_kind : (s : Aims) (b g x e : Moves) (r : IsJoin (width s.parts) b g x) → TellsDuty s b → Tells (width s.parts) g (λ w. s.goal w ≡ false) 1 (λ w. s.goal w ≡ true)
    → IsEnded (width s.parts) x e → (w : Word) (at : ℕ) → IsOver (width s.parts) w → Stands s b g x r w at → (k : Kind) × HasKind s w k × (e.mark at ≡ kind_number k)
stands_kind s b g x e r duty goal ended w at o (runs run t) =
    elim (running_mark s b g x r duty goal w at o run t) [
      | inl (q, whole) ↦ (Running, (run, whole), ended.mark at t.within ∙ q)
      | inr (q, broken) ↦ (Broken, (run, broken), ended.mark at t.within ∙ q)
    ]
stands_kind s b g x e r duty goal ended w at o (met m h q) = (Met, m, ended.mark at h ∙ q)
stands_kind s b g x e r duty goal ended w at o (illegal i h q) = (Illegal, i, ended.mark at h ∙ q)
stands_kind s b g x e r duty goal ended w at o (past i q) = (Past, i, ap e.mark q ∙ ended.past_mark)

-- the join of what tells legality and the duty and of what tells the goal, ended at the goal, tells kinds
pub kinds_told : (s : Aims) (b g x e : Moves) → TellsDuty s b → Tells (width s.parts) g (λ w. s.goal w ≡ false) 1 (λ w. s.goal w ≡ true)
    → IsJoin (width s.parts) b g x → IsEnded (width s.parts) x e → TellsKinds s e
kinds_told s b g x e duty goal r ended w o =
    let p = width s.parts in
    let P : Word → Type 0 = λ w. IsOver p w → Stands s b g x r w (location_after e e.first w) in
    let stands = by_last_letter P
    (λ o. subst (λ q. Stands s b g x r [] q) (sym ended.first) (arrives s b g x r duty goal [] x.first o (becomes-nil s) (tracks-nil p b g x r)))
    (λ u a before o. subst (λ q. Stands s b g x r (one_more u a) q) (sym (location_after-append e e.first u (a ∷ [])))
    (stands-more s b g x e r duty goal ended u a (location_after e e.first u) o (before (over-front p u a o))))
    w o in
    stands_kind s b g x e r duty goal ended w (location_after e e.first w) o stands
