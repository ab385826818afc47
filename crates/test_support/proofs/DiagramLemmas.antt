-- Small functions, and operations on them.
use Rattle.std.proofs.Common.{◌≡◌, ℕ, ◌<◌, arith, true, refl, sym, ◌∙◌, [], ◌∷◌, zero, suc}
use Rattle.diagrams.specs.declared.top.Id.{Id}
use Rattle.diagrams.specs.declared.work.Op.{Op}
use Rattle.diagrams.specs.declared.work.Op.TheVariants.{Pair}
use Rattle.diagrams.specs.Tree.{Assignment}
use Rattle.diagrams.specs.Eval.{Diagrams, eval, DependsOn, literal_value}
use Rattle.diagrams.specs.Live.{IsTruth, Means}
use Rattle.diagrams.specs.Work.{CanApply, CanCombine, combined_value}
use Rattle.diagrams.specs.Composed.{AllTruths, IsOverObligations, IsObligation}
use Rattle.diagrams.proofs.DependsLemmas.{over_weaker}
use Rattle.diagrams.proofs.Literals.{literal_small, literal_same}

-- a constant depends on nothing
pub constant_depends : (s : Diagrams) (i : Id) (x : ℕ) (P : ℕ → Type 0) → Means s i (λ _. x) → DependsOn s i P
constant_depends s i x P m a b same = m.value a ∙ sym (m.value b)

-- the function that is 1 where a variable is true has the terminals 0 and 1
pub literal_truth : (n : Diagrams) (i : Id) (v : ℕ) → Means n i (literal_value v) → IsTruth n i
literal_truth n i v m = record { live = m.live; truth = λ a. rw (m.value a) (literal_small v a) }

-- and it depends on that variable alone
pub literal_over : (n : Diagrams) (i : Id) (v : ℕ) → Means n i (literal_value v) → DependsOn n i (λ w. w ≡ v)
literal_over n i v m a b same = m.value a ∙ literal_same v a b (same v refl) ∙ sym (m.value b)

-- an operation on functions with the terminals 0 and 1
pub can_combine : (s : Diagrams) (op : Op) → ((x y : ℕ) → x < 2 → y < 2 → CanApply op x y) → (f g : Id) → IsTruth s f → IsTruth s g → CanCombine s op f g
can_combine s op can f g a b x = can (eval s f x) (eval s g x) (a.truth x) (b.truth x)

-- a pair of numbers below 2 fits two values a place
pub pair_fits : (x y : ℕ) → x < 2 → y < 2 → CanApply (Pair 2) x y
pair_fits x y h k = (k, omega arith)

-- the number 2 * a + b
pub number_small : (s n : Diagrams) (a b i : Id) → IsTruth s a → IsTruth s b → Means n i (combined_value s (Pair 2) a b) → (x : Assignment) → eval n i x < 4
number_small s n a b i p q m x = let h = p.truth x in let k = q.truth x in rw (m.value x) (omega arith)

-- it depends on what its digits depend on
pub number_over : (s n : Diagrams) (a b i : Id) (P : ℕ → Type 0) → DependsOn s a P → DependsOn s b P → Means n i (combined_value s (Pair 2) a b) → DependsOn n i P
number_over s n a b i P p q m x y same = m.value x ∙ (rw (p x y same, q x y same) refl) ∙ sym (m.value y)

-- two cells
pub two_truths : (s : Diagrams) (f g : Id) → IsTruth s f → IsTruth s g → AllTruths s (f ∷ g ∷ [])
two_truths s f g a b zero h = a
two_truths s f g a b (suc zero) h = b
two_truths s f g a b (suc (suc k)) h = absurd (omega arith)

-- a variable of an obligation
pub obligation_over : (s : Diagrams) (f : Id) → s.props ≡ 2 → DependsOn s f (λ v. v ≡ 3) → IsOverObligations s 2 f
obligation_over s f e d = over_weaker s f (λ v. v ≡ 3) (IsObligation s.props 2) (λ v h. (omega arith, omega arith)) d
