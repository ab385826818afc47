-- Bits one by one, and different values that have different fields.
use Rattle.std.proofs.Common.{◌≡◌, ◌<◌, ◌≤◌, ◌-◌, ◌^◌, ◌++◌, ℕ, zero, suc, List, [], ◌∷◌, Option, Some, None, refl, sym, ◌∙◌, ap, subst, arith, inl, inr, append_assoc, length, if◌then◌else◌}
use Rattle.std.specs.Prelude.{slice_index_or, codes, decimal, slice_get}
use Rattle.std.proofs.lemmas.Bool.{cases_lt, lt-ltb, le-ltb}
use Rattle.std.specs.Str.Parse.{AllDigits}
use Rattle.std.proofs.lemmas.Fmt.{decimal_is_IsNumeral}
use Rattle.std.proofs.lemmas.Str.Parse.{digit_from_value}
use Rattle.diagrams.specs.declared.top.Id.{Id}
use Rattle.diagrams.specs.Tree.{Assignment}
use Rattle.diagrams.specs.Eval.{Diagrams, eval, id_at}
use Rattle.game.specs.Board.{width}
use Rattle.game.specs.Marks as game
use Rattle.printed_strategy.specs.Strategy.{Choice}
use Rattle.printed_strategy.specs.StrategyText.{bits_of, bits_text, choice_text, target_text}
use Rattle.printed_strategy.proofs.FieldLemmas.{IsSmallMark, IsSmallChoice, choice-once, decimal-once, bits_text-once}
use Rattle.choosing.specs.declared.choice.Chosen.{Chosen}
use Rattle.choosing.specs.declared.choice.Mark.{Mark}
use Rattle.choosing.specs.declared.choice.Mark.TheVariants.{Goal, Win, Pending, Lost, Held, LostIn}
use Rattle.choosing.specs.Choices.{AreDistinct}
use Rattle.choosing.specs.MarkOf.{mark_of}
use Rattle.strategy.specs.declared.strategy.Strategy.{Strategy as Kept}
use Rattle.strategy.specs.Fits.{IsRow, IsSmall, IsSmallChosen, FitsAt}
use Rattle.strategy.specs.Listing.{AreTold}
use Rattle.strategy.specs.Plan.{size_of, choice_at, choice_of, target_at}

-- a bit that is 0
pub bit-low : (k : ℕ) (text : List ℕ) (n : ℕ) → n < 2 ^ k → (text ++ 48 ∷ []) ++ bits_of k n ≡ text ++ bits_of (suc k) n
bit-low k text n h =
    append_assoc text (48 ∷ []) (bits_of k n) ∙ ap (λ z. text ++ z) (sym (ap (λ z. if z then 48 ∷ bits_of k n else 49 ∷ bits_of k (n - 2 ^ k)) (lt-ltb n (2 ^ k) h)))

-- and one that is 1
pub bit-high : (k : ℕ) (text : List ℕ) (n : ℕ) → 2 ^ k ≤ n → (text ++ 49 ∷ []) ++ bits_of k (n - 2 ^ k) ≡ text ++ bits_of (suc k) n
bit-high k text n h =
    append_assoc text (49 ∷ []) (bits_of k (n - 2 ^ k)) ∙ ap (λ z. text ++ z) (sym (ap (λ z. if z then 48 ∷ bits_of k n else 49 ∷ bits_of k (n - 2 ^ k)) (le-ltb n (2 ^ k) h)))

illegal-apart : (n : ℕ) → n < 2 ^ 64 → codes "illegal" ≡ decimal n → ⊥
illegal-apart n h e = let r = digit_from_value 105 (subst (AllDigits 10) (sym e) (decimal_is_IsNumeral n h).0.1).0 in omega (arith, r)

-- targets have different texts
target-once : (size x y : ℕ) → x ≤ size → y ≤ size → size < 2 ^ 64 → target_text (target_at size x) ≡ target_text (target_at size y) → x ≡ y
target-once size x y h l few e =
    elim (cases_lt x size) [
      | inl p ↦ elim (cases_lt y size) [
        | inl q ↦ decimal-once x y (omega (arith, p, few)) (omega (arith, q, few)) (sym (at x p) ∙ e ∙ at y q)
        | inr q ↦ absurd (illegal-apart x (omega (arith, p, few)) (sym (past y q) ∙ sym e ∙ at x p))
      ]
      | inr p ↦ elim (cases_lt y size) [
        | inl q ↦ absurd (illegal-apart y (omega (arith, q, few)) (sym (past x p) ∙ e ∙ at y q))
        | inr q ↦ omega (arith, h, l, p, q)
      ]
    ]
  where
    at : (v : ℕ) → v < size → target_text (target_at size v) ≡ decimal v
    at v q = ap (λ z. target_text (if z then Some v else None)) (lt-ltb v size q)

    past : (v : ℕ) → size ≤ v → target_text (target_at size v) ≡ codes "illegal"
    past v q = ap (λ z. target_text (if z then Some v else None)) (le-ltb v size q)

-- rows
pub told-row : (s : Diagrams) (props size : ℕ) (row : Id) → size < 2 ^ 64 → IsRow s props size row → AreTold (λ v. target_text (target_at size v)) (eval s row)
told-row s props size row few is a b e = target-once size (eval s row a) (eval s row b) (is.targets a) (is.targets b) few e

-- answers
pub told-answer : (s : Diagrams) (inputs : ℕ) (id : Id) → ((a : Assignment) → eval s id a < 2 ^ inputs) → AreTold (λ v. bits_text inputs v) (eval s id)
told-answer s inputs id small a b e = bits_text-once inputs (eval s id a) (eval s id b) (small a) (small b) e

small-mark : (m : Mark) → IsSmall m → IsSmallMark (mark_of m)
small-mark Goal h = tt
small-mark (Win n) h = h
small-mark (Pending n) h = h
small-mark Lost h = tt
small-mark Held h = tt
small-mark (LostIn n) h = h

small-choice : (outputs : ℕ) (c : Option Chosen) → IsSmallChosen outputs c → IsSmallChoice outputs (choice_of c)
small-choice outputs None h = tt
small-choice outputs (Some c) h = (small-mark c.mark h.0, h.1)

-- the mark of the code
mark_back : game.Mark → Mark
mark_back game.Goal = Goal
mark_back (game.Win n) = Win n
mark_back (game.Pending n) = Pending n
mark_back game.Lost = Lost
mark_back game.Held = Held
mark_back (game.LostIn n) = LostIn n

mark-back : (m : Mark) → mark_back (mark_of m) ≡ m
unfolding mark_back
mark-back Goal = refl
mark-back (Win n) = refl
mark-back (Pending n) = refl
mark-back Lost = refl
mark-back Held = refl
mark-back (LostIn n) = refl

chosen_back : Option Choice → Option Chosen
chosen_back None = None
chosen_back (Some c) = Some (record { mark = mark_back c.mark; output = c.output })

chosen-back : (c : Option Chosen) → chosen_back (choice_of c) ≡ c
unfolding chosen_back
chosen-back None = refl
chosen-back (Some c) = ap (λ m. Some (record { mark = m; output = c.output })) (mark-back c.mark)

choice-same : (c d : Option Chosen) → choice_of c ≡ choice_of d → c ≡ d
choice-same c d e = sym (chosen-back c) ∙ ap chosen_back e ∙ chosen-back d

some-at : {A : Type 0} → (xs : List A) (k : ℕ) (x : A) → k < length xs → slice_get xs k ≡ Some (slice_index_or xs k x)
some-at [] k x h = absurd (omega (arith, h))
some-at (y ∷ xs) zero x h = refl
some-at (y ∷ xs) (suc k) x h = some-at xs k x (omega (arith, h))

-- choices
pub told-move : (s : Diagrams) (k : Kept) (at : ℕ) → AreDistinct k.choices.keys → FitsAt s k at
    → AreTold (λ v. choice_text k.partition.outputs (choice_of (choice_at k v))) (eval s (id_at k.moves.items at))
told-move s k at distinct fits a b e =
    let x = eval s (id_at k.moves.items at) a in
    let y = eval s (id_at k.moves.items at) b in
    let outputs = k.partition.outputs in
    let same : choice_at k x ≡ choice_at k y = choice-same (choice_at k x) (choice_at k y)
    (choice-once outputs (choice_of (choice_at k x)) (choice_of (choice_at k y)) (small-choice outputs (choice_at k x) (fits.small a)) (small-choice outputs (choice_at k y) (fits.small b)) e) in
    distinct x y (choice_at k x) (some-at k.choices.keys x None (fits.move.targets a)) (some-at k.choices.keys y None (fits.move.targets b) ∙ ap Some (sym same))

-- rows of locations
pub told-round : (s : Diagrams) (k : Kept) (at : ℕ) → FitsAt s k at → AreTold (λ v. target_text (target_at (size_of k) v)) (eval s (id_at k.rows.items at))
told-round s k at fits = told-row s (width k.partition) (size_of k) (id_at k.rows.items at) (let q = k.few in omega (arith, q)) fits.row
