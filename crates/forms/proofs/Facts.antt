-- Values known from outside, so that a wrong rule in the definitions does not check.
-- There are two propositions, a and b. Of the four letters 0 says neither, 1 b, 2 a and 3 both.
use Rattle.std.proofs.Common.{◌≡◌, ℕ, zero, suc, ◌<◌, List, [], ◌∷◌, get_or, map, refl, arith, Bool, true, false, lit<}
use Rattle.std.specs.Prelude.{Some, None, Any}
use Rattle.std.proofs.lemmas.Bool.{false≢true}
use Rattle.std.proofs.lemmas.List.Elements.{All-cons, All-nil}
use Rattle.forms.specs.Word.{Word, IsOver}
use Rattle.forms.specs.Paths.{reaches}
use Rattle.forms.specs.Shortlex.{comes_before}
use Rattle.forms.specs.Tree.{Formula, True, False, Atom, Not, And, Or, Implies, Iff, Next, WeakNext, Until, Release, Eventually, Always, Diamond, BoxAll, Step, Test, Choice, Seq, Star, nodes}
use Rattle.forms.specs.Proper.{IsProper}
use Rattle.forms.specs.Parts.{parts, part}
use Rattle.forms.specs.Satisfaction.{sat, goes, meets}
use Rattle.forms.specs.Verdict.{IsVerdict, PermTrue, PermFalse, TempTrue, TempFalse}
use Rattle.forms.specs.Equivalence.{AreEquivalent, AreDistinguishable, HasClassCount}

abbrev a : Formula
a = Atom 0

abbrev b : Formula
b = Atom 1

-- no letter is left
abbrev end : Formula
end = BoxAll (Step True) False

-- what the formula says of the empty word, and of each word of one letter
abbrev on_short_words : Formula → List Bool
on_short_words f = map (λ w. sat 2 f w) ([] ∷ (0 ∷ []) ∷ (1 ∷ []) ∷ (2 ∷ []) ∷ (3 ∷ []) ∷ [])

abbrev row : Bool → Bool → Bool → Bool → Bool → List Bool
row on_empty on_neither on_b on_a on_both = on_empty ∷ on_neither ∷ on_b ∷ on_a ∷ on_both ∷ []

short-true : on_short_words True ≡ row true true true true true
short-true = refl

short-false : on_short_words False ≡ row false false false false false
short-false = refl

short-a : on_short_words a ≡ row false false false true true
short-a = refl

short-b : on_short_words b ≡ row false false true false true
short-b = refl

short-not : on_short_words (Not a) ≡ row true true true false false
short-not = refl

short-and : on_short_words (And a b) ≡ row false false false false true
short-and = refl

short-or : on_short_words (Or a b) ≡ row false false true true true
short-or = refl

short-implies : on_short_words (Implies a b) ≡ row true true true false true
short-implies = refl

short-iff : on_short_words (Iff a b) ≡ row true true false false true
short-iff = refl

-- the last position has no next one
short-next : on_short_words (Next True) ≡ row false false false false false
short-next = refl

short-weak_next : on_short_words (WeakNext False) ≡ row true true true true true
short-weak_next = refl

short-until : on_short_words (Until a b) ≡ row false false true false true
short-until = refl

short-release : on_short_words (Release a b) ≡ row true false true false true
short-release = refl

short-eventually : on_short_words (Eventually a) ≡ row false false false true true
short-eventually = refl

short-always : on_short_words (Always a) ≡ row true false false true true
short-always = refl

-- after the one letter no proposition holds
short-diamond : on_short_words (Diamond (Step a) b) ≡ row false false false false false
unfolding reaches
short-diamond = refl

short-diamond_not : on_short_words (Diamond (Step a) (Not b)) ≡ row false false false true true
unfolding reaches
short-diamond_not = refl

short-box : on_short_words (BoxAll (Step a) b) ≡ row true true true false false
short-box = refl

short-diamond_test : on_short_words (Diamond (Test a) b) ≡ row false false false false true
unfolding reaches
short-diamond_test = refl

short-box_test : on_short_words (BoxAll (Test a) b) ≡ row true true true false true
short-box_test = refl

short-choice : on_short_words (Diamond (Choice (Step a) (Test b)) end) ≡ row false false false true true
unfolding reaches
short-choice = refl

short-seq : on_short_words (Diamond (Seq (Test b) (Step a)) True) ≡ row false false false false true
unfolding reaches
short-seq = refl

short-seq_steps : on_short_words (Diamond (Seq (Step True) (Step True)) True) ≡ row false false false false false
unfolding reaches
short-seq_steps = refl

short-star : on_short_words (Diamond (Star (Step a)) end) ≡ row true false false true true
unfolding reaches
short-star = refl

-- the end is the position after the last letter
short-end : on_short_words end ≡ row true false false false false
short-end = refl

-- a star of tests stays where it is
short-star_of_tests : on_short_words (Diamond (Star (Choice (Test a) (Test True))) end) ≡ row true false false false false
unfolding reaches
short-star_of_tests = refl

short-box_of_tests : on_short_words (BoxAll (Star (Choice (Test a) (Test True))) (Not end)) ≡ row false true true true true
unfolding reaches
short-box_of_tests = refl

-- what the formula says of words of 0, 1, 2 and 3 letters that say nothing
abbrev on_lengths : Formula → List Bool
on_lengths f = map (λ w. sat 2 f w) ([] ∷ (0 ∷ []) ∷ (0 ∷ 0 ∷ []) ∷ (0 ∷ 0 ∷ 0 ∷ []) ∷ [])

lengths-even : on_lengths (Diamond (Star (Seq (Step True) (Step True))) end) ≡ true ∷ false ∷ true ∷ false ∷ []
unfolding reaches
lengths-even = refl

lengths-even_box : on_lengths (BoxAll (Star (Seq (Step True) (Step True))) (Not end)) ≡ false ∷ true ∷ false ∷ true ∷ []
unfolding reaches
lengths-even_box = refl

-- a turn may begin or end with a test, and one that takes no letter does no harm
lengths-turn_with_tests : on_lengths (Diamond (Star (Choice (Test True) (Seq (Test (Not a)) (Seq (Step True) (Test True))))) end) ≡ true ∷ true ∷ true ∷ true ∷ []
unfolding reaches
lengths-turn_with_tests = refl

lengths-next : on_lengths (Next (Not a)) ≡ false ∷ false ∷ true ∷ true ∷ []
lengths-next = refl

lengths-weak_next : on_lengths (WeakNext a) ≡ true ∷ true ∷ false ∷ false ∷ []
lengths-weak_next = refl

-- until needs its second operand, release doesn't need its first
longer-until : sat 2 (Until a b) (2 ∷ 2 ∷ 1 ∷ []) ≡ true
longer-until = refl

longer-until_never : sat 2 (Until a b) (2 ∷ 2 ∷ 2 ∷ []) ≡ false
longer-until_never = refl

longer-until_gap : sat 2 (Until a b) (2 ∷ 0 ∷ 1 ∷ []) ≡ false
longer-until_gap = refl

longer-release : sat 2 (Release a b) (1 ∷ 3 ∷ 0 ∷ []) ≡ true
longer-release = refl

longer-release_never : sat 2 (Release a b) (1 ∷ 1 ∷ 1 ∷ []) ≡ true
longer-release_never = refl

longer-release_gap : sat 2 (Release a b) (1 ∷ 2 ∷ 1 ∷ []) ≡ false
longer-release_gap = refl

goes-step : goes 2 (Step a) (2 ∷ 1 ∷ []) (1 ∷ []) ≡ true
goes-step = refl

goes-step_once : goes 2 (Step a) (2 ∷ 2 ∷ []) [] ≡ false
goes-step_once = refl

goes-star : goes 2 (Star (Step a)) (2 ∷ 2 ∷ 1 ∷ []) (1 ∷ []) ≡ true
goes-star = refl

goes-star_stops : goes 2 (Star (Step a)) (2 ∷ 2 ∷ 1 ∷ []) [] ≡ false
goes-star_stops = refl

-- the empty word is no trace
meets-empty : meets 2 True [] ≡ false
meets-empty = refl

meets-letter : meets 2 True (0 ∷ []) ≡ true
meets-letter = refl

-- the parts of a path's tests come first; what a step holds is none
abbrev mixed : Formula
mixed = Diamond (Seq (Star (Choice (Test a) (Step b))) (Test (Not b))) (Next a)

mixed-parts : parts mixed ≡ a ∷ b ∷ Not b ∷ a ∷ Next a ∷ mixed ∷ []
mixed-parts = refl

mixed-part_none : part mixed 0 ≡ None
mixed-part_none = refl

mixed-part_first : part mixed 1 ≡ Some a
mixed-part_first = refl

mixed-part_last : part mixed 6 ≡ Some mixed
mixed-part_last = refl

mixed-part_beyond : part mixed 7 ≡ None
mixed-part_beyond = refl

mixed-nodes : nodes mixed ≡ 13
mixed-nodes = refl

proper-atom : IsProper 2 b
proper-atom = lit< tt

not_proper-atom : ¬ IsProper 1 b
not_proper-atom h = omega arith

-- a step holds no temporal operator
not_proper-step : ¬ IsProper 2 (Diamond (Step (Next a)) True)
not_proper-step h = h.0.0

before-empty : comes_before [] (0 ∷ []) ≡ true
unfolding comes_before
before-empty = refl

before-longer : comes_before (3 ∷ []) (0 ∷ 0 ∷ []) ≡ true
unfolding comes_before
before-longer = refl

before-greater : comes_before (1 ∷ 2 ∷ []) (2 ∷ 1 ∷ []) ≡ true
unfolding comes_before
before-greater = refl

not_before-lesser : comes_before (2 ∷ 1 ∷ []) (1 ∷ 2 ∷ []) ≡ false
unfolding comes_before
not_before-lesser = refl

over-letter : (x : ℕ) → x < 4 → IsOver 2 (x ∷ [])
over-letter x h = All-cons (λ x. x < 4) x [] h (All-nil (λ x. x < 4))

-- once a was seen, `F a` stays true
verdict-seen : IsVerdict 2 (meets 2 (Eventually a)) (2 ∷ []) PermTrue
verdict-seen v o = refl

-- a may still be seen
verdict-not_yet : IsVerdict 2 (meets 2 (Eventually a)) (0 ∷ []) TempFalse
verdict-not_yet = (refl, (2 ∷ [], over-letter _ (lit< tt), refl))

-- once a is missed, `G a` stays false
verdict-missed : IsVerdict 2 (meets 2 (Always a)) (1 ∷ []) PermFalse
verdict-missed v o = refl

-- a may still be missed
verdict-so_far : IsVerdict 2 (meets 2 (Always a)) (2 ∷ []) TempTrue
verdict-so_far = (refl, (0 ∷ [], over-letter _ (lit< tt), refl))

-- `true` isn't met before the first letter
verdict-nothing_yet : IsVerdict 2 (meets 2 True) [] TempFalse
verdict-nothing_yet = (refl, (0 ∷ [], over-letter _ (lit< tt), refl))

-- as a part `true` tells no words apart
classes-part : HasClassCount 2 (sat 2 True) 1
classes-part = record {
  words = [] ∷ [];
  count = refl;
  over = All-cons (IsOver 2) [] [] (All-nil (λ x. x < 4)) (All-nil (IsOver 2));
  differ = λ i j d h k. absurd (omega arith);
  cover = λ u o. (0, [], lit< tt, refl, λ w h. refl);
}

-- as the whole it tells the empty word from the others
classes-whole : HasClassCount 2 (meets 2 True) 2
classes-whole = record {
  words = [] ∷ (0 ∷ []) ∷ [];
  count = refl;
  over = All-cons (IsOver 2) [] ((0 ∷ []) ∷ []) (All-nil (λ x. x < 4)) (All-cons (IsOver 2) (0 ∷ []) [] (over-letter 0 (lit< tt)) (All-nil (IsOver 2)));
  differ = apart;
  cover = one;
}
  where
    apart : (i j : ℕ) (d : Word) → i < j → j < 2 → AreDistinguishable 2 (meets 2 True) (get_or ([] ∷ (0 ∷ []) ∷ []) i d) (get_or ([] ∷ (0 ∷ []) ∷ []) j d)
    apart zero zero d h k = absurd (omega arith)
    apart zero (suc zero) d h k = record { word = []; over = All-nil (λ x. x < 4); differ = λ e. false≢true e }
    apart zero (suc (suc j)) d h k = absurd (omega arith)
    apart (suc i) j d h k = absurd (omega arith)

    one : (u : Word) → IsOver 2 u → Any (AreEquivalent 2 (meets 2 True) u) ([] ∷ (0 ∷ []) ∷ [])
    one [] o = (0, [], lit< tt, refl, λ w h. refl)
    one (x ∷ u) o = (1, 0 ∷ [], lit< tt, refl, λ w h. refl)
