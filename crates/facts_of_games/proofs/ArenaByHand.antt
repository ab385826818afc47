-- How to show by hand that a few locations are the arena of a specification: what each says of its histories, one step, and a
-- word for every two of them.
use Rattle.std.proofs.Common.{◌≡◌, ◌<◌, ◌⊎◌, ◌↔◌, ◌^◌, ℕ, [], ◌∷◌, ◌++◌, length, refl, sym, ◌∙◌, subst, arith, inl, inr, Bool, true, false, Option, Some, None, nat_lt, if◌then◌else◌}
use Rattle.std.proofs.lemmas.Bool.{true≢false, false≢true, cases_Bool, cases_eq, ltb-true, lt-ltb}
use Rattle.std.proofs.lemmas.Option.{none-some, same_Some}
use Rattle.std.proofs.lemmas.List.{append-nil, append_assoc}
use Rattle.forms.specs.Word.{Word, IsOver}
use Rattle.forms.specs.Shortlex.{comes_before, has_lesser_letters}
use Rattle.forms.proofs.ShortlexLemmas.{before-cases, lesser-cases}
use Rattle.automata.proofs.Words.{over-nil, over-head, over-tail}
use Rattle.game.specs.Board.{width}
use Rattle.game.specs.Histories.{Aims, IsDone, IsViolated, IsLegalRound, IsRunning, IsMetFirst, IsLive, ShareLocation, Kind, Running, Broken, Met, Past, Illegal, HasKind, one_more}
use Rattle.game.specs.Arena.{Locations, location_from, LeadsTo, AreNumbered, IsArenaOf}
use Rattle.game.proofs.HistoryLemmas.{by_last_letter, live-less}
use Rattle.game.proofs.ArenaLemmas.{leads-more, walk-within}
use Rattle.game.proofs.KindLemmas.{kind_once, running_not_met}

-- the kind of a location's histories
abbrev pub kind_by : Bool → Bool → Kind
kind_by true broken = Met
kind_by false true = Broken
kind_by false false = Running

abbrev pub kind_at : Locations → ℕ → Kind
kind_at m at = kind_by (m.is_goal at) (m.is_broken at)

-- and of what follows them
abbrev pub kind_after : Locations → ℕ → Word → Kind
kind_after m at [] = kind_at m at
kind_after m at (a ∷ w) = if m.is_goal at then Past else (if nat_lt (m.next at a) m.size then kind_after m (m.next at a) w else Illegal)

cons-some : (a : ℕ) (w : Word) → a ∷ w ≡ [] → ⊥
cons-some a w e = cc

not-small : (n k : ℕ) → nat_lt n k ≡ false → n < k → ⊥
not-small n k e l = true≢false (sym (lt-ltb n k l) ∙ e)

walk-some : (g l : Bool) (o : Option ℕ) (q : ℕ) → (if g then None else (if l then o else None)) ≡ Some q → (g ≡ false) × (l ≡ true) × (o ≡ Some q)
walk-some true l o q e = absurd (none-some q e)
walk-some false false o q e = absurd (none-some q e)
walk-some false true o q e = (refl, refl, e)

module _ (s : Aims) (h : Word) where
  kind-live : (g b : Bool) → HasKind s h (kind_by g b) → IsLive s h
  kind-live true b x = inr x
  kind-live false true x = inl x.0
  kind-live false false x = inl x.0

  kind-met : (g b : Bool) → g ≡ true → HasKind s h (kind_by g b) → IsMetFirst s h
  kind-met true b e x = x
  kind-met false b e x = absurd (false≢true e)

  kind-running : (g b : Bool) → g ≡ false → HasKind s h (kind_by g b) → IsRunning s h
  kind-running true b e x = absurd (true≢false e)
  kind-running false true e x = x.0
  kind-running false false e x = x.0

  running-unmet : (g b : Bool) → IsRunning s h → HasKind s h (kind_by g b) → g ≡ false
  running-unmet true b run x = absurd (running_not_met s h run x)
  running-unmet false b run x = refl

  done-met : (g b : Bool) → HasKind s h (kind_by g b) → IsDone s h → g ≡ true
  done-met true b x d = refl
  done-met false b x d = absurd ((kind-running false b refl x).1 h [] (sym (append-nil h)) d)

  broken-by : (g b : Bool) → ¬ (IsDone s h × (b ≡ true)) → HasKind s h (kind_by g b) → (b ≡ true) ↔ IsViolated s.duty h
  broken-by true b both x = (λ e. absurd (both (x.1, e)), λ v. absurd (x.1.0 v))
  broken-by false true both x = (λ e. x.1, λ v. refl)
  broken-by false false both x = (λ e. absurd (false≢true e), λ v. absurd (x.1 v))

module _ (s : Aims) (m : Locations) (Says : ℕ → Word → Type 0) (some : 0 < m.size) (start : Says 0 [])
    (kind : (at : ℕ) (h : Word) → at < m.size → Says at h → HasKind s h (kind_at m at))
    (step : (at a : ℕ) (h : Word) → at < m.size → m.is_goal at ≡ false → a < 2 ^ width s.parts → Says at h → m.next at a < m.size → Says (m.next at a) (one_more h a))
    (stops : (at a : ℕ) (h : Word) → at < m.size → m.is_goal at ≡ false → a < 2 ^ width s.parts → Says at h → nat_lt (m.next at a) m.size ≡ false → ¬ IsLegalRound s h a) where
  follow : (w h : Word) (at q : ℕ) → at < m.size → IsOver (width s.parts) w → Says at h → location_from m at w ≡ Some q → Says q (h ++ w)
  follow [] h at q l o x e = subst (λ z. Says q z) (sym (append-nil h)) (subst (λ z. Says z h) (same_Some at q e) x)
  follow (a ∷ w) h at q l o x e =
      let p = walk-some (m.is_goal at) (nat_lt (m.next at a) m.size) (location_from m (m.next at a) w) q e in
      let k = ltb-true (m.next at a) m.size p.1 in
      subst (λ z. Says q z) (append_assoc h (a ∷ []) w)
      (follow w (one_more h a) (m.next at a) q k (over-tail (width s.parts) a w o) (step at a h l p.0 (over-head (width s.parts) a w o) x k) p.2)

  says : (h : Word) (at : ℕ) → LeadsTo (width s.parts) m h at → Says at h
  says h at x = follow h [] 0 at some x.over start x.leads

  within : (h : Word) (at : ℕ) → LeadsTo (width s.parts) m h at → at < m.size
  within h at x = walk-within m 0 at h some x.leads

  tells : (h : Word) (at : ℕ) → LeadsTo (width s.parts) m h at → HasKind s h (kind_at m at)
  tells h at x = kind at h (within h at x) (says h at x)

  -- each continuation of a location's histories has one kind
  past-by : (a : ℕ) (w h : Word) (at : ℕ) (g l : Bool) → at < m.size → a < 2 ^ width s.parts → m.is_goal at ≡ g → nat_lt (m.next at a) m.size ≡ l → Says at h
      → (m.is_goal at ≡ false → m.next at a < m.size → HasKind s (h ++ a ∷ w) (kind_after m (m.next at a) w))
      → HasKind s (h ++ a ∷ w) (if g then Past else (if l then kind_after m (m.next at a) w else Illegal))
  past-by a w h at true l k b e f x later = (h, a ∷ w, refl, cons-some a w, kind-met s h (m.is_goal at) (m.is_broken at) e (kind at h k x))
  past-by a w h at false true k b e f x later = later e (ltb-true (m.next at a) m.size f)
  past-by a w h at false false k b e f x later = (h, w, a, refl, kind-running s h (m.is_goal at) (m.is_broken at) e (kind at h k x), stops at a h k e b x f)

  kinds : (w h : Word) (at : ℕ) → at < m.size → IsOver (width s.parts) w → Says at h → HasKind s (h ++ w) (kind_after m at w)
  kinds [] h at l o x = subst (λ z. HasKind s z (kind_at m at)) (sym (append-nil h)) (kind at h l x)
  kinds (a ∷ w) h at l o x =
      let b = over-head (width s.parts) a w o in
      past-by a w h at (m.is_goal at) (nat_lt (m.next at a) m.size) l b refl refl x
      (λ g k. subst (λ z. HasKind s z (kind_after m (m.next at a) w)) (append_assoc h (a ∷ []) w)
      (kinds w (one_more h a) (m.next at a) k (over-tail (width s.parts) a w o) (step at a h l g b x k)))

  live-leads : (h : Word) → IsLive s h → (at : ℕ) × LeadsTo (width s.parts) m h at
  live-leads h = by_last_letter (λ z. IsLive s z → (at : ℕ) × LeadsTo (width s.parts) m z at) (λ live. (0, record { over = over-nil (width s.parts); leads = refl }))
      (λ u a later live.
      let r = live-less s u a live in
      let x = later (inl r.0) in
      let g = running-unmet s u (m.is_goal x.0) (m.is_broken x.0) r.0 (tells u x.0 x.1) in
      let l : m.next x.0 a < m.size = elim (cases_Bool (nat_lt (m.next x.0 a) m.size)) [
        | inl t ↦ ltb-true (m.next x.0 a) m.size t
        | inr f ↦ absurd (stops x.0 a u (within u x.0 x.1) g r.1 (says u x.0 x.1) f r.2)
      ] in
      (m.next x.0 a, leads-more (width s.parts) m u x.0 a x.1 g r.1 l)) h

  module _ (sound : (at : ℕ) → m.is_goal at ≡ true → m.is_broken at ≡ false)
      (differ : (i j : ℕ) → i < m.size → j < m.size → ¬ (i ≡ j) → (w : Word) × IsOver (width s.parts) w × ¬ (kind_after m i w ≡ kind_after m j w))
      (numbered : AreNumbered (width s.parts) m) where
    share-one : (u v : Word) (i j : ℕ) → LeadsTo (width s.parts) m u i → LeadsTo (width s.parts) m v j → ShareLocation s u v → i ≡ j
    share-one u v i j x y share =
        elim (cases_eq i j) [
          | inl e ↦ e
          | inr d ↦
              let w = differ i j (within u i x) (within v j y) d in
              let r = share w.0 w.1 in
              let p = kind_once s (u ++ w.0) (kind_after m i w.0) r.0 (kinds w.0 u i (within u i x) w.1 (says u i x)) r.1 in
              let q = kind_once s (v ++ w.0) (kind_after m j w.0) r.0 (kinds w.0 v j (within v j y) w.1 (says v j y)) r.2 in
              absurd (w.2 (p ∙ sym q))
        ]

    -- the locations are the arena of the specification
    pub arena_by_hand : IsArenaOf s m
    arena_by_hand = record {
      live = λ h o. (live-leads h, λ (at, x). kind-live s h (m.is_goal at) (m.is_broken at) (tells h at x));
      shared = λ u v i j x y. (
        (λ e w o. (
          kind_after m i w,
          kinds w u i (within u i x) o (says u i x),
          subst (λ z. HasKind s (v ++ w) (kind_after m z w)) (sym e) (kinds w v j (within v j y) o (says v j y)),
        )),
        share-one u v i j x y,
      );
      goal = λ h at x. (
        (λ e. (kind-met s h (m.is_goal at) (m.is_broken at) e (tells h at x)).1),
        done-met s h (m.is_goal at) (m.is_broken at) (tells h at x),
      );
      broken = λ h at x.
          broken-by s h (m.is_goal at) (m.is_broken at)
          (λ d. true≢false (sym d.1 ∙ sound at (done-met s h (m.is_goal at) (m.is_broken at) (tells h at x) d.0))) (tells h at x);
      numbered = numbered;
    }

-- the words that come before one letter
no-lesser : (v : Word) → has_lesser_letters v [] ≡ true → ⊥
no-lesser [] h = false≢true h
no-lesser (a ∷ v) h = false≢true h

-- nothing comes before the empty word
pub nil-least : (v : Word) → comes_before v [] ≡ false
nil-least v =
    elim (cases_Bool (comes_before v [])) [
      | inl t ↦ absurd (elim (before-cases v [] t) [ inl l ↦ omega (arith, l) | inr r ↦ no-lesser v r.1 ])
      | inr f ↦ f
    ]

-- before one letter come the empty word and the lesser letters
before-letter : (v : Word) (c : ℕ) → length v < 1 ⊎ ((length v ≡ 1) × (has_lesser_letters v (c ∷ []) ≡ true)) → (v ≡ []) ⊎ ((d : ℕ) × (d < c) × (v ≡ d ∷ []))
before-letter [] c x = inl refl
before-letter (d ∷ []) c (inl l) = absurd (omega (arith, l))
before-letter (d ∷ []) c (inr (l, h)) =
    elim (lesser-cases d c [] [] h) [ inl less ↦ inr (d, less, refl) | inr w ↦ absurd (false≢true w.1) ]
before-letter (d ∷ e ∷ v) c (inl l) = absurd (omega (arith, l))
before-letter (d ∷ e ∷ v) c (inr (l, h)) = absurd (omega (arith, l))

-- so one letter is least where none of these leads to the location
pub letter-least : (m : Locations) (at c : ℕ) → ¬ (0 ≡ at) → ((d : ℕ) → d < c → ¬ (location_from m 0 (d ∷ []) ≡ Some at))
    → (v : Word) → location_from m 0 v ≡ Some at → comes_before v (c ∷ []) ≡ false
letter-least m at c some none v e =
    elim (cases_Bool (comes_before v (c ∷ []))) [
      | inl t ↦ absurd (elim (before-letter v c (before-cases v (c ∷ []) t)) [
        | inl n ↦ some (same_Some 0 at (subst (λ z. location_from m 0 z ≡ Some at) n e))
        | inr d ↦ none d.0 d.1 (subst (λ z. location_from m 0 z ≡ Some at) d.2 e)
      ])
      | inr f ↦ f
    ]
