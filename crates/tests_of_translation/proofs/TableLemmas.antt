-- Tables of obligations, and the conjunctions and disjunctions in them.
use Rattle.std.proofs.Common.{◌≡◌, ℕ, ◌<◌, ◌≤◌, ◌+◌, ◌++◌, Bool, List, [], ◌∷◌, length, length-append, refl, sym, ◌∙◌, ap, arith, inl, inr}
use Rattle.std.specs.Prelude.{nat_lt}
use Rattle.std.proofs.lemmas.Bool.{cases_lt}
use Rattle.std.proofs.lemmas.Bool.Decides.{nat_tests}
use Rattle.std.proofs.lemmas.List.{get_or_append_left, get_or_at}
use Rattle.diagrams.specs.declared.top.Id.{Id}
use Rattle.diagrams.specs.declared.work.Op.{Op}
use Rattle.diagrams.specs.declared.work.Op.TheVariants.{And, Or}
use Rattle.diagrams.specs.Eval.{Diagrams, eval, DependsOn}
use Rattle.diagrams.specs.Live.{IsCanonical, IsTruth, Keeps, Means}
use Rattle.diagrams.specs.Work.{CanCombine, applied, combined_value}
use Rattle.diagrams.proofs.Meaning.{truth_lasts, Keeps_trans, Extends_refl}
use Rattle.std.proofs.lemmas.Bool.{cases_Bool}
use Rattle.diagrams.proofs.DependsLemmas.{over_weaker, over_later}
use Rattle.test_support.proofs.DiagramLemmas.{can_combine}
use Rattle.obligations.specs.declared.cells.Obligation.{Obligation}
use Rattle.obligations.specs.Table.{body_of}
use Rattle.obligations.specs.Value.{IsBody, FitsCells}
use Rattle.obligations.proofs.Holds.{body_lasts}

-- a conjunction or disjunction so far, over variables from one to before another
pub record IsMade (s0 s : Diagrams) (from to : ℕ) (f : Id) : Type 0 where
  pub keeps : Keeps s0 s
  pub truth : IsTruth s f
  pub over : DependsOn s f (λ v. (from ≤ v) × (v < to))

-- the constant that it begins with
pub made_first : (s n : Diagrams) (from to x : ℕ) (i : Id) → x < 2 → Keeps s n → Means n i (λ _. x) → IsMade s n from to i
made_first s n from to x i h k m = record {
  keeps = k;
  truth = record { live = m.live; truth = λ a. rw (m.value a) h };
  over = λ a b same. m.value a ∙ sym (m.value b);
}

-- one part more
pub made_next : (op : Op) → ((x y : ℕ) → x < 2 → y < 2 → applied op x y < 2) → (s0 s m n : Diagrams) (from to : ℕ) (f g i : Id) → IsMade s0 s from to f → Keeps s m → IsTruth m g
    → DependsOn m g (λ v. (from ≤ v) × (v < to)) → Keeps m n → Means n i (combined_value m op f g) → IsMade s0 n from to i
made_next op small s0 s m n from to f g i x k t d j e =
    let a = truth_lasts s m k f x.truth in
    let b = over_later s m k f (λ v. (from ≤ v) × (v < to)) x.truth.live x.over in
    record {
      keeps = Keeps_trans s0 m n (Keeps_trans s0 s m x.keeps k) j;
      truth = record { live = e.live; truth = λ y. rw (e.value y) (small (eval m f y) (eval m g y) (a.truth y) (t.truth y)) };
      over = λ y z same. e.value y ∙ (rw (b y z same, d y z same) refl) ∙ sym (e.value z);
    }

-- a conjunction of numbers below 2 is below 2
pub and_small : (x y : ℕ) → x < 2 → y < 2 → applied And x y < 2
and_small x y h k = elim (cases_lt x y) [ inl l ↦ omega arith | inr l ↦ omega arith ]

-- a disjunction of numbers below 2 is below 2
pub or_small : (x y : ℕ) → x < 2 → y < 2 → applied Or x y < 2
or_small x y h k = elim (cases_lt x y) [ inl l ↦ omega arith | inr l ↦ omega arith ]

-- both parts are live and have the terminals 0 and 1
pub can_and : (s m : Diagrams) → Keeps s m → (f g : Id) → IsTruth s f → IsTruth m g → CanCombine m And f g
can_and s m k f g t u = can_combine m And (λ x y h l. (h, l)) f g (truth_lasts s m k f t) u

-- the same for a disjunction
pub can_or : (s m : Diagrams) → Keeps s m → (f g : Id) → IsTruth s f → IsTruth m g → CanCombine m Or f g
can_or s m k f g t u = can_combine m Or (λ x y h l. (h, l)) f g (truth_lasts s m k f t) u

-- a variable lies among others
pub variable_among : (s : Diagrams) (i : Id) (var from to : ℕ) → from ≤ var → var < to → DependsOn s i (λ v. v ≡ var) → DependsOn s i (λ v. (from ≤ v) × (v < to))
variable_among s i var from to h k d = over_weaker s i (λ v. v ≡ var) (λ v. (from ≤ v) × (v < to)) (λ v e. (omega arith, omega arith)) d

-- variables from 0 on, before a number, are variables before it
pub over_before : (s : Diagrams) (i : Id) (to : ℕ) → DependsOn s i (λ v. (0 ≤ v) × (v < to)) → DependsOn s i (λ v. v < to)
over_before s i to d = over_weaker s i (λ v. (0 ≤ v) × (v < to)) (λ v. v < to) (λ v h. h.1) d

-- a table so far: its bodies may speak of so many obligations
pub record IsTable (s0 s : Diagrams) (count : ℕ) (c : List Obligation) : Type 0 where
  pub keeps : Keeps s0 s
  pub bodies : (j : ℕ) → j < length c → IsBody s count (body_of c j)

-- no entry yet
pub table_first : (s : Diagrams) → IsCanonical s → (count : ℕ) (c : List Obligation) → c ≡ [] → IsTable s s count c
table_first s k count c e = record {
  keeps = record { was = k; now = k; extends = Extends_refl s };
  bodies = rw e (λ j h. absurd (omega arith));
}

-- one entry more
pub table_next : (s0 s n : Diagrams) (count : ℕ) (c d : List Obligation) (ends : Bool) (f : Id) → s0.props ≡ 2 → IsTable s0 s count c → Keeps s n → IsTruth n f → DependsOn n f (λ v. v < 2 + count)
    → d ≡ c ++ record { ends = ends; body = f } ∷ [] → IsTable s0 n count d
table_next s0 s n count c d ends f p x k t o e =
    let keeps : Keeps s0 n = Keeps_trans s0 s n x.keeps k in
    let q : n.props ≡ 2 = keeps.extends.props ∙ p in
    let last : Obligation = record { ends = ends; body = f } in
    record {
      keeps = keeps;
      bodies = rw e (λ j h.
          elim (cases_Bool (nat_lt j (length c))) [
            | inl b ↦
                let l : j < length c = grind (arith, nat_tests) in
                let r : body_of (c ++ last ∷ []) j ≡ body_of c j = ap (λ v. v.body) (get_or_append_left c (last ∷ []) _ j l) in
                rw r (body_lasts s n k count (body_of c j) (x.bodies j l))
            | inr b ↦
                let l : length c ≡ j = length_last c last j h (grind (arith, nat_tests)) in
                let r : body_of (c ++ last ∷ []) j ≡ f = ap (λ v. v.body) (get_or_at c last [] _ j l) in
                rw r (record { live = t.live; over = over_weaker n f (λ v. v < 2 + count) (λ v. v < n.props + count) (λ v u. omega arith) o; truth = t.truth })
          ]);
    }
  where
    length_last : (c : List Obligation) (x : Obligation) (j : ℕ) → j < length (c ++ x ∷ []) → length c ≤ j → length c ≡ j
    length_last c x j h k = let g : j < length c + 1 = rw length-append at h in omega arith

-- a table with all its entries fits
pub table_done : (s0 s : Diagrams) (count : ℕ) (c : List Obligation) → IsTable s0 s count c → length c ≡ count → FitsCells s c
table_done s0 s count c x e = rw e (λ j h. x.bodies j (rw e h))
