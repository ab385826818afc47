-- The automata of the tests of a path.
use Rattle.std.proofs.Common.{◌≡◌, ℕ, ◌<◌, ◌≤◌, ◌+◌, ◌-◌, ◌++◌, List, length, refl, sym, ◌∙◌, ap, subst, arith, map}
use Rattle.std.specs.Prelude.{slice_index_or, All}
use Rattle.std.proofs.lemmas.List.{get_or_append_left, get_or-append-add, get_or-map, length-append, length-map}
use Rattle.forms.specs.Tree.{Formula, Program, tree, Step, Test, Choice, Seq, Star, True}
use Rattle.diagrams.specs.Eval.{Diagrams}
use Rattle.diagrams.specs.Live.{Keeps}
use Rattle.automata.specs.declared.meant.Meant.{Meant}
use Rattle.automata.specs.Table.{IsMeant}
use Rattle.automata.proofs.Lasts.{fits_lasts, meant_lasts}
use Rattle.path_programs.specs.PathTests.{test_forms, test_count, IsTestAt, HasTests}

-- they stay those as a store grows
pub has_tests_last : (s n : Diagrams) → Keeps s n → (tests : List Meant) (count : ℕ) (x : Program) → HasTests s tests count x → HasTests n tests count x
has_tests_last s n k tests count (Step f) h = tt
has_tests_last s n k tests count (Test f) h = (
  h.0,
  record {
    within = h.1.within;
    fits = λ d. fits_lasts s n k (slice_index_or tests (count - 1) d).automaton (h.1.fits d);
    meant = λ d l. meant_lasts s n k (slice_index_or tests (count - 1) d).automaton f l (h.1.meant d l);
  },
)
has_tests_last s n k tests count (Choice p q) h = (has_tests_last s n k tests count q h.0, has_tests_last s n k tests (count - test_count q) p h.1)
has_tests_last s n k tests count (Seq p q) h = (has_tests_last s n k tests count q h.0, has_tests_last s n k tests (count - test_count q) p h.1)
has_tests_last s n k tests count (Star p) h = has_tests_last s n k tests count p h

-- as many as are counted
pub length-forms : (x : Program) → length (test_forms x) ≡ test_count x
length-forms (Step f) = refl
length-forms (Test f) = refl
length-forms (Choice p q) = rw (length-append, length-forms p, length-forms q) refl
length-forms (Seq p q) = rw (length-append, length-forms p, length-forms q) refl
length-forms (Star p) = length-forms p

-- the formulas of the tests of a path are some of a list from a place on
HasForms : List Formula → ℕ → Program → Type 0
HasForms forms from x = (k : ℕ) → k < test_count x → slice_index_or forms (from + k) True ≡ slice_index_or (test_forms x) k True

has_first : (forms : List Formula) (from : ℕ) (p q x : Program) → test_forms x ≡ test_forms p ++ test_forms q → test_count x ≡ test_count p + test_count q → HasForms forms from x → HasForms forms from p
unfolding HasForms
has_first forms from p q x e n h = λ k l.
    let in_first : k < length (test_forms p) = rw length-forms l in
    h k (omega arith) ∙ rw e (get_or_append_left (test_forms p) (test_forms q) True k in_first)

has_second : (forms : List Formula) (from : ℕ) (p q x : Program) → test_forms x ≡ test_forms p ++ test_forms q → test_count x ≡ test_count p + test_count q → HasForms forms from x → HasForms forms (from + test_count p) q
unfolding HasForms
has_second forms from p q x e n h = λ k l.
    ap (λ i. slice_index_or forms i True) (omega arith)
    ∙ h (test_count p + k) (omega arith)
    ∙ rw e (ap (λ i. slice_index_or (test_forms p ++ test_forms q) (i + k) True) (sym (length-forms p)) ∙ get_or-append-add (test_forms p) (test_forms q) k True)

one_test : (s : Diagrams) (tests : List Meant) → All (λ t. IsMeant s t.automaton (tree t.form)) tests → (from : ℕ) (f : Formula) → from < length tests
    → slice_index_or (map (λ t. tree t.form) tests) from True ≡ f → IsTestAt s tests from f
one_test s tests meant from f l e = record {
  within = l;
  fits = λ d. (meant from d l).fits;
  meant = λ d h.
      let own : tree (slice_index_or tests from d).form ≡ f = sym (get_or-map (λ t. tree t.form) tests from d True l) ∙ e in
      let P : Formula → Type 0 = λ g. IsMeant s (slice_index_or tests from d).automaton g in
      subst P own (meant from d l);
}

has_tests : (s : Diagrams) (tests : List Meant) → All (λ t. IsMeant s t.automaton (tree t.form)) tests → (x : Program) (from : ℕ) → from + test_count x ≤ length tests
    → HasForms (map (λ t. tree t.form) tests) from x → HasTests s tests (from + test_count x) x
unfolding HasForms
has_tests s tests meant (Step f) from l h = tt
has_tests s tests meant (Test f) from l h =
    let e : slice_index_or (map (λ t. tree t.form) tests) from True ≡ f = ap (λ i. slice_index_or (map (λ t. tree t.form) tests) i True) (omega arith) ∙ h 0 (omega arith) in
    let P : ℕ → Type 0 = λ i. IsTestAt s tests i f in
    (omega arith, subst P (omega arith) (one_test s tests meant from f (omega arith) e))
has_tests s tests meant (Choice p q) from l h =
    let P : ℕ → Type 0 = λ i. HasTests s tests i q in
    let Q : ℕ → Type 0 = λ i. HasTests s tests i p in (
      subst P (omega arith) (has_tests s tests meant q (from + test_count p) (omega arith) (has_second (map (λ t. tree t.form) tests) from p q (Choice p q) refl refl h)),
      subst Q (omega arith) (has_tests s tests meant p from (omega arith) (has_first (map (λ t. tree t.form) tests) from p q (Choice p q) refl refl h)),
    )
has_tests s tests meant (Seq p q) from l h =
    let P : ℕ → Type 0 = λ i. HasTests s tests i q in
    let Q : ℕ → Type 0 = λ i. HasTests s tests i p in (
      subst P (omega arith) (has_tests s tests meant q (from + test_count p) (omega arith) (has_second (map (λ t. tree t.form) tests) from p q (Seq p q) refl refl h)),
      subst Q (omega arith) (has_tests s tests meant p from (omega arith) (has_first (map (λ t. tree t.form) tests) from p q (Seq p q) refl refl h)),
    )
has_tests s tests meant (Star p) from l h = has_tests s tests meant p from l h

-- a list of automata, one for each test of a path
pub all_tests : (s : Diagrams) (tests : List Meant) (x : Program) → map (λ t. tree t.form) tests ≡ test_forms x → All (λ t. IsMeant s t.automaton (tree t.form)) tests → HasTests s tests (length tests) x
unfolding HasForms
all_tests s tests x e meant =
    let n : length tests ≡ test_count x = sym (simp length-map) ∙ ap length e ∙ length-forms x in
    let P : ℕ → Type 0 = λ i. HasTests s tests i x in
    subst P (omega arith) (has_tests s tests meant x 0 (omega arith) (λ k l. ap (λ i. slice_index_or (map (λ t. tree t.form) tests) i True) (omega arith) ∙ ap (λ fs. slice_index_or fs k True) e))
