-- A history has one kind.
use Rattle.std.proofs.Common.{◌≡◌, ◌⊎◌, ℕ, [], ◌∷◌, ◌++◌, inl, inr, refl, sym, ◌∙◌, ap}
use Rattle.forms.specs.Word.{Word}
use Rattle.std.proofs.lemmas.List.{append-nil}
use Rattle.game.specs.Histories.{Aims, IsLegalHistory, IsRunning, IsMetFirst, Kind, Running, Broken, Met, Past, Illegal, HasKind}

-- of two prefixes of a word one is a prefix of the other
compare : (u v x y : Word) → u ++ v ≡ x ++ y → ((z : Word) × (x ≡ u ++ z)) ⊎ ((b : ℕ) × (z : Word) × (u ≡ x ++ b ∷ z))
compare [] v x y e = inl (x, refl)
compare (b ∷ u) v [] y e = inr (b, u, refl)
compare (b ∷ u) v (c ∷ x) y e =
    let f : u ++ v ≡ x ++ y = cc in
    let g : b ≡ c = cc in
    elim (compare u v x y f) [ inl r ↦ inl (r.0, let q = r.1 in cc) | inr r ↦ inr (r.0, r.1, let q = r.2 in cc) ]

-- the letter after the shorter of two prefixes is that of the longer
next_letter : (u v x y : Word) (b a : ℕ) (z : Word) → u ≡ x ++ b ∷ z → u ++ v ≡ x ++ a ∷ y → a ≡ b
next_letter u v [] y b a z e f = let g : (b ∷ z) ++ v ≡ a ∷ y = ap (λ t. t ++ v) (sym e) ∙ f in cc
next_letter [] v (c ∷ x) y b a z e f = cc
next_letter (d ∷ u) v (c ∷ x) y b a z e f =
    let p : u ≡ x ++ b ∷ z = cc in
    let q : u ++ v ≡ x ++ a ∷ y = cc in
    next_letter u v x y b a z p q

pub running_not_met : (s : Aims) (h : Word) → IsRunning s h → IsMetFirst s h → ⊥
running_not_met s h r m = r.1 h [] (sym (append-nil h)) m.1

pub legal_not_illegal : (s : Aims) (h : Word) → IsLegalHistory s h → HasKind s h Illegal → ⊥
legal_not_illegal s h l (u, v, a, e, run, illegal) = illegal (l u v a e).1

pub running_not_past : (s : Aims) (h : Word) → IsRunning s h → HasKind s h Past → ⊥
running_not_past s h r (u, v, e, some, m) = r.1 u v e m.1

pub met_not_past : (s : Aims) (h : Word) → IsMetFirst s h → HasKind s h Past → ⊥
met_not_past s h m (u, v, e, some, n) = m.2 u v e some n.1

past_not_illegal : (s : Aims) (h : Word) → HasKind s h Past → HasKind s h Illegal → ⊥
past_not_illegal s h (u, v, e, some, m) (x, y, a, f, run, illegal) =
    let g : u ++ v ≡ x ++ a ∷ y = sym e ∙ f in
    elim (compare u v x (a ∷ y) g) [
      | inl r ↦ run.1 u r.0 r.1 m.1
      | inr r ↦ let q = next_letter u v x y r.0 a r.1 r.2 g in
          illegal (m.0 x r.1 a (r.2 ∙ ap (λ t. x ++ t ∷ r.1) (sym q))).1
    ]

pub kind_once : (s : Aims) (h : Word) (j k : Kind) → HasKind s h j → HasKind s h k → j ≡ k
kind_once s h Running Running x y = refl
kind_once s h Running Broken x y = absurd (x.1 y.1)
kind_once s h Running Met x y = absurd (running_not_met s h x.0 y)
kind_once s h Running Past x y = absurd (running_not_past s h x.0 y)
kind_once s h Running Illegal x y = absurd (legal_not_illegal s h x.0.0 y)
kind_once s h Broken Running x y = absurd (y.1 x.1)
kind_once s h Broken Broken x y = refl
kind_once s h Broken Met x y = absurd (running_not_met s h x.0 y)
kind_once s h Broken Past x y = absurd (running_not_past s h x.0 y)
kind_once s h Broken Illegal x y = absurd (legal_not_illegal s h x.0.0 y)
kind_once s h Met Running x y = absurd (running_not_met s h y.0 x)
kind_once s h Met Broken x y = absurd (running_not_met s h y.0 x)
kind_once s h Met Met x y = refl
kind_once s h Met Past x y = absurd (met_not_past s h x y)
kind_once s h Met Illegal x y = absurd (legal_not_illegal s h x.0 y)
kind_once s h Past Running x y = absurd (running_not_past s h y.0 x)
kind_once s h Past Broken x y = absurd (running_not_past s h y.0 x)
kind_once s h Past Met x y = absurd (met_not_past s h y x)
kind_once s h Past Past x y = refl
kind_once s h Past Illegal x y = absurd (past_not_illegal s h x y)
kind_once s h Illegal Running x y = absurd (legal_not_illegal s h y.0.0 x)
kind_once s h Illegal Broken x y = absurd (legal_not_illegal s h y.0.0 x)
kind_once s h Illegal Met x y = absurd (legal_not_illegal s h y.0 x)
kind_once s h Illegal Past x y = absurd (past_not_illegal s h y x)
kind_once s h Illegal Illegal x y = refl
