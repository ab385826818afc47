-- Diagrams by where they are 1.
use Rattle.std.proofs.Common.{◌≡◌, ℕ, zero, suc, ◌<◌, ◌≤◌, ◌+◌, Bool, true, false, if◌then◌else◌, refl, sym, ◌∙◌, ap, arith, min, max, Result, IfOk}
use Rattle.std.specs.Prelude.{◌==◌, ◌&&◌, ◌||◌, not}
use Rattle.std.proofs.lemmas.Result.{IfOk-weaker}
use Rattle.bes_io.proofs.Bits.{same_bit}
use Rattle.forms.specs.Operators.{agree}
use Rattle.diagrams.specs.declared.top.Id.{Id}
use Rattle.diagrams.specs.Tree.{Assignment}
use Rattle.diagrams.specs.Eval.{Diagrams, DependsOn, eval, is_one, literal_value}
use Rattle.diagrams.specs.Live.{IsLive, IsTruth, Keeps, Means}
use Rattle.diagrams.specs.Composed.{IsObligation}
use Rattle.diagrams.proofs.Meaning.{eval-lasts, is_one-lasts, live_lasts}
use Rattle.obligations.specs.Value.{IsClaim, IsBody}
use Rattle.path_programs.specs.Made.{IsOneWhere}
use Rattle.diagrams.proofs.Literals.{number_small, min-and, max-or, literal_small, literal_one}

-- two numbers below 2 are equal exactly where both are 1 or neither is
pub equal-agree : (x y : ℕ) → x < 2 → y < 2 → ((if x == y then 1 else 0) == 1) ≡ agree (x == 1) (y == 1)
equal-agree zero zero h k = refl
equal-agree zero (suc zero) h k = refl
equal-agree zero (suc (suc y)) h k = absurd (omega arith)
equal-agree (suc zero) zero h k = refl
equal-agree (suc zero) (suc zero) h k = refl
equal-agree (suc zero) (suc (suc y)) h k = absurd (omega arith)
equal-agree (suc (suc x)) y h k = absurd (omega arith)

-- what is known of a diagram by its value
pub one_by_value : (n : Diagrams) (id : Id) (g : Assignment → ℕ) (f : Assignment → Bool) → ((a : Assignment) → g a < 2) → ((a : Assignment) → (g a == 1) ≡ f a)
    → Means n id g → IsOneWhere n id f
one_by_value n id g f h e m = record {
  live = m.live;
  truth = λ a. rw (m.value a) (h a);
  value = λ a. ap (λ x. x == 1) (m.value a) ∙ e a;
}

-- both of two
pub one_both : {E : Type 0} (r : Result Id E) (s n : Diagrams) (f g : Id) → IsTruth s f → IsTruth s g → IfOk r (λ id. Means n id (λ a. min (eval s f a) (eval s g a)))
    → IfOk r (λ id. IsOneWhere n id (λ a. is_one s f a && is_one s g a))
one_both r s n f g p q ok = IfOk-weaker r (λ id. Means n id (λ a. min (eval s f a) (eval s g a))) (λ id. IsOneWhere n id (λ a. is_one s f a && is_one s g a))
    (λ id m. one_by_value n id (λ a. min (eval s f a) (eval s g a)) (λ a. is_one s f a && is_one s g a)
    (λ a. let h = p.truth a in omega arith) (λ a. min-and (eval s f a) (eval s g a) (p.truth a) (q.truth a)) m) ok

-- one of two
pub one_either : {E : Type 0} (r : Result Id E) (s n : Diagrams) (f g : Id) → IsTruth s f → IsTruth s g → IfOk r (λ id. Means n id (λ a. max (eval s f a) (eval s g a)))
    → IfOk r (λ id. IsOneWhere n id (λ a. is_one s f a || is_one s g a))
one_either r s n f g p q ok = IfOk-weaker r (λ id. Means n id (λ a. max (eval s f a) (eval s g a))) (λ id. IsOneWhere n id (λ a. is_one s f a || is_one s g a))
    (λ id m. one_by_value n id (λ a. max (eval s f a) (eval s g a)) (λ a. is_one s f a || is_one s g a)
    (λ a. let h = p.truth a in let k = q.truth a in omega arith) (λ a. max-or (eval s f a) (eval s g a) (p.truth a) (q.truth a)) m) ok

-- both of two or neither
pub one_agreeing : {E : Type 0} (r : Result Id E) (s n : Diagrams) (f g : Id) → IsTruth s f → IsTruth s g → IfOk r (λ id. Means n id (λ a. if eval s f a == eval s g a then 1 else 0))
    → IfOk r (λ id. IsOneWhere n id (λ a. agree (is_one s f a) (is_one s g a)))
one_agreeing r s n f g p q ok = IfOk-weaker r (λ id. Means n id (λ a. if eval s f a == eval s g a then 1 else 0)) (λ id. IsOneWhere n id (λ a. agree (is_one s f a) (is_one s g a)))
    (λ id m. one_by_value n id (λ a. if eval s f a == eval s g a then 1 else 0) (λ a. agree (is_one s f a) (is_one s g a))
    (λ a. number_small (eval s f a == eval s g a)) (λ a. equal-agree (eval s f a) (eval s g a) (p.truth a) (q.truth a)) m) ok

-- a constant
pub one_constant : {E : Type 0} (r : Result Id E) (n : Diagrams) (x : ℕ) → x < 2 → IfOk r (λ id. Means n id (λ _. x)) → IfOk r (λ id. IsOneWhere n id (λ _. x == 1))
one_constant r n x h ok = IfOk-weaker r (λ id. Means n id (λ _. x)) (λ id. IsOneWhere n id (λ _. x == 1))
    (λ id m. one_by_value n id (λ _. x) (λ _. x == 1) (λ a. h) (λ a. refl) m) ok

-- a variable
pub one_variable : {E : Type 0} (r : Result Id E) (n : Diagrams) (v : ℕ) → IfOk r (λ id. Means n id (literal_value v)) → IfOk r (λ id. IsOneWhere n id (λ a. a v))
one_variable r n v ok = IfOk-weaker r (λ id. Means n id (literal_value v)) (λ id. IsOneWhere n id (λ a. a v))
    (λ id m. one_by_value n id (literal_value v) (λ a. a v) (literal_small v) (literal_one v) m) ok

-- a function that is the same
pub one_same : (n : Diagrams) (id : Id) (f g : Assignment → Bool) → IsOneWhere n id f → ((a : Assignment) → f a ≡ g a) → IsOneWhere n id g
one_same n id f g m e = record { live = m.live; truth = m.truth; value = λ a. m.value a ∙ e a }

-- its terminals are 0 and 1
pub one_truth : (n : Diagrams) (id : Id) (f : Assignment → Bool) → IsOneWhere n id f → IsTruth n id
one_truth n id f m = record { live = m.live; truth = m.truth }

-- where a diagram is 1 in a later store
pub one_lasts : (s n : Diagrams) → Keeps s n → (id : Id) (f : Assignment → Bool) → IsOneWhere s id f → IsOneWhere n id f
one_lasts s n k id f m = record {
  live = live_lasts s n k.extends id m.live;
  truth = λ a. rw (eval-lasts s n k.was k.now k.extends id m.live a) (m.truth a);
  value = λ a. is_one-lasts s n k id m.live a ∙ m.value a;
}

-- it depends on what its function depends on
pub one_over : (n : Diagrams) (id : Id) (f : Assignment → Bool) (P : ℕ → Type 0) → IsOneWhere n id f → ((a b : Assignment) → ((v : ℕ) → P v → a v ≡ b v) → f a ≡ f b)
    → DependsOn n id P
one_over n id f P m h = λ a b same. same_bit (eval n id a) (eval n id b) (m.truth a) (m.truth b) (m.value a ∙ h a b same ∙ sym (m.value b))

-- a body, by its function
pub one_body : (n : Diagrams) (id : Id) (f : Assignment → Bool) (count : ℕ) → IsOneWhere n id f
    → ((a b : Assignment) → ((v : ℕ) → v < n.props + count → a v ≡ b v) → f a ≡ f b) → IsBody n count id
one_body n id f count m h = record { live = m.live; over = one_over n id f (λ v. v < n.props + count) m h; truth = m.truth }

-- a claim, by its function
pub one_claim : (n : Diagrams) (id : Id) (f : Assignment → Bool) (count : ℕ) → IsOneWhere n id f
    → ((a b : Assignment) → ((v : ℕ) → IsObligation n.props count v → a v ≡ b v) → f a ≡ f b) → IsClaim n count id
one_claim n id f count m h = record { live = m.live; over = one_over n id f (IsObligation n.props count) m h; truth = m.truth }

-- a body says one thing of two assignments that agree
pub body_same : (s : Diagrams) (count : ℕ) (f : Id) → IsBody s count f → (a b : Assignment) → ((v : ℕ) → v < s.props + count → a v ≡ b v) → is_one s f a ≡ is_one s f b
body_same s count f k a b same = ap (λ x. x == 1) (k.over a b same)

-- a claim says one thing of two assignments that agree
pub claim_same : (s : Diagrams) (count : ℕ) (f : Id) → IsClaim s count f → (a b : Assignment) → ((v : ℕ) → IsObligation s.props count v → a v ≡ b v) → is_one s f a ≡ is_one s f b
claim_same s count f k a b same = ap (λ x. x == 1) (k.over a b same)

-- a body has the terminals 0 and 1
pub body_truth : (s : Diagrams) (count : ℕ) (f : Id) → IsBody s count f → IsTruth s f
body_truth s count f b = record { live = b.live; truth = b.truth }

-- a claim has the terminals 0 and 1
pub claim_truth : (s : Diagrams) (count : ℕ) (f : Id) → IsClaim s count f → IsTruth s f
claim_truth s count f b = record { live = b.live; truth = b.truth }

-- a claim over more obligations
pub claim_more : (s : Diagrams) (count more : ℕ) (f : Id) → count ≤ more → IsClaim s count f → IsClaim s more f
claim_more s count more f h b = record { live = b.live; over = λ x y same. b.over x y (λ v l. let u : v < s.props + count = l.1 in same v (l.0, omega arith)); truth = b.truth }

agree-false : (x : Bool) → agree x false ≡ not x
agree-false true = refl
agree-false false = refl

-- the opposite
pub one_opposite : {E : Type 0} (r : Result Id E) (s m n : Diagrams) (f none : Id) → Keeps s m → IsLive s f → IsOneWhere m none (λ _. false)
    → IfOk r (λ id. IsOneWhere n id (λ a. agree (is_one m f a) (is_one m none a))) → IfOk r (λ id. IsOneWhere n id (λ a. not (is_one s f a)))
one_opposite r s m n f none k l z ok = IfOk-weaker r (λ id. IsOneWhere n id (λ a. agree (is_one m f a) (is_one m none a))) (λ id. IsOneWhere n id (λ a. not (is_one s f a)))
    (λ id o. one_same n id (λ a. agree (is_one m f a) (is_one m none a)) (λ a. not (is_one s f a)) o
    (λ a. rw (is_one-lasts s m k f l a, z.value a) (agree-false (is_one s f a)))) ok

-- an operation on two diagrams, the first of which was made in an earlier store
pub one_of_two : {E : Type 0} (r : Result Id E) (s m n : Diagrams) (f g : Id) (F G H : Assignment → Bool) (op : Bool → Bool → Bool) → Keeps s m → IsOneWhere s f F → IsOneWhere m g G
    → ((a : Assignment) → op (F a) (G a) ≡ H a) → IfOk r (λ id. IsOneWhere n id (λ a. op (is_one m f a) (is_one m g a))) → IfOk r (λ id. IsOneWhere n id H)
one_of_two r s m n f g F G H op k p q e ok = IfOk-weaker r (λ id. IsOneWhere n id (λ a. op (is_one m f a) (is_one m g a))) (λ id. IsOneWhere n id H)
    (λ id o. one_same n id (λ a. op (is_one m f a) (is_one m g a)) H o (λ a. rw (is_one-lasts s m k f p.live a, p.value a, q.value a) (e a))) ok

-- in a later store its terminals are 0 and 1
pub one_truth_later : (s m : Diagrams) (f : Id) (F : Assignment → Bool) → Keeps s m → IsOneWhere s f F → IsTruth m f
one_truth_later s m f F k p = one_truth m f F (one_lasts s m k f F p)
