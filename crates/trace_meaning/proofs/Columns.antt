-- One step of a loop over columns, from the last position backwards.
use Rattle.std.proofs.Common.{◌≡◌, ℕ, zero, suc, ◌+◌, ◌<◌, ◌≤◌, List, [], ◌∷◌, ◌++◌, length, get_or, take, drop, refl, sym, ◌∙◌, ap, arith, Bool}
use Rattle.std.specs.Prelude.{◌||◌}
use Rattle.std.proofs.lemmas.List.{get_or-take, drop-set, take-set, take-take}
use Rattle.std.proofs.Math.Seq.{drop-cons}
use Rattle.std.proofs.Math.ListN.{set}
use Rattle.trace_meaning.specs.declared.node.Lead.{Lead}
use Rattle.trace_meaning.specs.State.{PathState}
use Rattle.trace_meaning.specs.Star.{lead, followed, first_or, turns_further, turns_followed}
use Rattle.trace_meaning.specs.declared.operator.Unary.{Unary}
use Rattle.trace_meaning.specs.declared.operator.Binary.{Binary}
use Rattle.trace_meaning.specs.Operator.{unary_now, unary_handed_on, binary_now}
use Rattle.trace_meaning.specs.Column.{handed, changed, first, column, last, without_last}

first-step : (op : Binary) (b v : Bool) (x y : List Bool) (i : ℕ) (d e : Bool) → i < length x → length x ≡ length y
    → first op (binary_now op (get_or x i d) (get_or y i e) b) (take i (set x i v)) (take i y) ≡ first op b (take (suc i) x) (take (suc i) y)
first-step op b v [] y i d e h l = absurd (omega arith)
first-step op b v (x ∷ xs) [] i d e h l = absurd (omega arith)
first-step op b v (x ∷ xs) (y ∷ ys) zero d e h l = refl
first-step op b v (x ∷ xs) (y ∷ ys) (suc i) d e h l = ap (binary_now op x y) (first-step op b v xs ys i d e (omega arith) (omega arith))

column-step : (op : Binary) (b : Bool) (x y : List Bool) (i : ℕ) (d e : Bool) → i < length x → length x ≡ length y
    → column op (binary_now op (get_or x i d) (get_or y i e) b) (take i (set x i (binary_now op (get_or x i d) (get_or y i e) b))) (take i y)
    ++ drop i (set x i (binary_now op (get_or x i d) (get_or y i e) b))
    ≡ column op b (take (suc i) x) (take (suc i) y) ++ drop (suc i) x
column-step op b [] y i d e h l = absurd (omega arith)
column-step op b (x ∷ xs) [] i d e h l = absurd (omega arith)
column-step op b (x ∷ xs) (y ∷ ys) zero d e h l = refl
column-step op b (x ∷ xs) (y ∷ ys) (suc i) d e h l =
    let v : Bool = binary_now op (get_or xs i d) (get_or ys i e) b in
    let m : length xs ≡ length ys = omega arith in
    let k : i < length xs = omega arith in
    rw (first-step op b v xs ys i d e k m, column-step op b xs ys i d e k m) refl

-- the loop's step from n to i, the operator's value `here` being written and handed on
pub first-last : (op : Binary) (b here : Bool) (x y : List Bool) (n i : ℕ) (d e : Bool) → i + 1 ≡ n → n ≤ length x → length x ≡ length y
    → here ≡ binary_now op (get_or x i d) (get_or y i e) b
    → first op here (take i (set x i here)) (take i y) ≡ first op b (take n x) (take n y)
first-last op b here x y n i d e s h l f =
    let m : suc i ≡ n = omega arith in
    let o : i < length x = omega arith in
    rw (f, ← m) (first-step op b (binary_now op (get_or x i d) (get_or y i e) b) x y i d e o l)

-- the same step keeps the whole column: the part still to be found, and after it the part that is written
pub column-last : (op : Binary) (b here : Bool) (x y : List Bool) (n i : ℕ) (d e : Bool) → i + 1 ≡ n → n ≤ length x → length x ≡ length y
    → here ≡ binary_now op (get_or x i d) (get_or y i e) b
    → column op here (take i (set x i here)) (take i y) ++ drop i (set x i here) ≡ column op b (take n x) (take n y) ++ drop n x
column-last op b here x y n i d e s h l f =
    let m : suc i ≡ n = omega arith in
    let o : i < length x = omega arith in
    rw (f, ← m) (column-step op b x y i d e o l)

handed-step : (op : Unary) (b v : Bool) (x : List Bool) (i : ℕ) (d : Bool) → i < length x
    → handed op (unary_handed_on op (get_or x i d) b) (take i (set x i v)) ≡ handed op b (take (suc i) x)
handed-step op b v [] i d h = absurd (omega arith)
handed-step op b v (x ∷ xs) zero d h = refl
handed-step op b v (x ∷ xs) (suc i) d h = ap (unary_handed_on op x) (handed-step op b v xs i d (omega arith))

changed-step : (op : Unary) (b : Bool) (x : List Bool) (i : ℕ) (d : Bool) → i < length x
    → changed op (unary_handed_on op (get_or x i d) b) (take i (set x i (unary_now op (get_or x i d) b)))
    ++ drop i (set x i (unary_now op (get_or x i d) b))
    ≡ changed op b (take (suc i) x) ++ drop (suc i) x
changed-step op b [] i d h = absurd (omega arith)
changed-step op b (x ∷ xs) zero d h = refl
changed-step op b (x ∷ xs) (suc i) d h =
    let v : Bool = unary_now op (get_or xs i d) b in
    let k : i < length xs = omega arith in
    rw (handed-step op b v xs i d k, changed-step op b xs i d k) refl

-- the same step of an operator of one operand, `k` being handed on
pub handed-last : (op : Unary) (b k here : Bool) (x : List Bool) (n i : ℕ) (d : Bool) → i + 1 ≡ n → n ≤ length x
    → k ≡ unary_handed_on op (get_or x i d) b → handed op k (take i (set x i here)) ≡ handed op b (take n x)
handed-last op b k here x n i d s h f =
    let m : suc i ≡ n = omega arith in
    let o : i < length x = omega arith in
    rw (f, ← m) (handed-step op b here x i d o)

-- the step of one operand keeps the whole column: the part to be found, and after it the part written
pub changed-last : (op : Unary) (b k here : Bool) (x : List Bool) (n i : ℕ) (d : Bool) → i + 1 ≡ n → n ≤ length x
    → k ≡ unary_handed_on op (get_or x i d) b → here ≡ unary_now op (get_or x i d) b
    → changed op k (take i (set x i here)) ++ drop i (set x i here) ≡ changed op b (take n x) ++ drop n x
changed-last op b k here x n i d s h f g =
    let m : suc i ≡ n = omega arith in
    let o : i < length x = omega arith in
    rw (f, g, ← m) (changed-step op b x i d o)

-- a column of two operands of one length has that length
pub length-column : (op : Binary) (b : Bool) (x y : List Bool) → length x ≡ length y → length (column op b x y) ≡ length x
length-column op b [] y h = refl
length-column op b (x ∷ xs) [] h = absurd (omega arith)
length-column op b (x ∷ xs) (y ∷ ys) h = let m : length xs ≡ length ys = omega arith in ap suc (length-column op b xs ys m)

-- a column of one operand is as long as the operand's
pub length-changed : (op : Unary) (b : Bool) (x : List Bool) → length (changed op b x) ≡ length x
length-changed op b [] = refl
length-changed op b (x ∷ xs) = ap suc (length-changed op b xs)

-- the last value of a list is the one put at its end
pub last-push : (xs : List Bool) (x : Bool) → last (xs ++ x ∷ []) ≡ x
last-push [] x = refl
last-push (y ∷ []) x = refl
last-push (y ∷ z ∷ zs) x = last-push (z ∷ zs) x

-- a list with one more value at its end is the list itself without that last value
pub without_last-push : (xs : List Bool) (x : Bool) → without_last (xs ++ x ∷ []) ≡ xs
without_last-push [] x = refl
without_last-push (y ∷ []) x = refl
without_last-push (y ∷ z ∷ zs) x = ap (λ t. y ∷ t) (without_last-push (z ∷ zs) x)

-- how long the columns are
pub ruleset lengths = (length-column, length-changed)

-- the step of a star's loop from n to i, the places below n still saying whether the next position is good
pub turns-last : (b : Bool) (xs later : List Bool) (p : PathState) (n i : ℕ) (d : Bool) → i + 1 ≡ n → n ≤ length xs → length xs ≡ length later
    → take n xs ≡ take n later
    → (turns_further b (drop i later) p ≡ (lead (first_or b (turns_further b (drop n later) p) || get_or xs i d) (turns_followed b (drop n later) p)).further ∷ turns_further b (drop n later) p)
    × (turns_followed b (drop i later) p ≡ followed (first_or b (turns_further b (drop n later) p) || get_or xs i d) (turns_followed b (drop n later) p))
turns-last b xs later p n i d s h l e =
    let m : suc i ≡ n = omega arith in
    let below : i < n = omega arith in
    let o : i < length later = omega arith in
    let same : get_or later i d ≡ get_or xs i d = sym (get_or-take n later i d below) ∙ ap (λ t. get_or t i d) (sym e) ∙ get_or-take n xs i d below in
    let split : drop i later ≡ get_or xs i d ∷ drop n later = drop-cons later i d o ∙ rw (same, m) refl in (
      ap (λ t. turns_further b t p) split,
      ap (λ t. turns_followed b t p) split,
    )

-- the same step, once the path was followed
pub turns-more : (b next good : Bool) (xs later : List Bool) (p s t : PathState) (n i : ℕ) (d : Bool) (r : Lead)
    → i + 1 ≡ n → n ≤ length xs → length xs ≡ length later → take n xs ≡ take n later
    → drop n xs ≡ turns_further b (drop n later) p → next ≡ first_or b (turns_further b (drop n later) p) → s ≡ turns_followed b (drop n later) p
    → good ≡ (next || get_or xs i d) → r ≡ lead good s → t ≡ followed good s
    → (drop i (set xs i r.further) ≡ turns_further b (drop i later) p)
    × (r.further ≡ first_or b (turns_further b (drop i later) p))
    × (t ≡ turns_followed b (drop i later) p)
turns-more b next good xs later p s t n i d r steps h l left done nx fs g leads follows =
    let q = turns-last b xs later p n i d steps h l left in
    let o : i < length xs = omega arith in
    let e : good ≡ (first_or b (turns_further b (drop n later) p) || get_or xs i d) = g ∙ ap (λ x. x || get_or xs i d) nx in
    let further : r.further ≡ (lead (first_or b (turns_further b (drop n later) p) || get_or xs i d) (turns_followed b (drop n later) p)).further =
    ap (λ x. x.further) leads ∙ ap (λ x. (lead x s).further) e
    ∙ ap (λ x. (lead (first_or b (turns_further b (drop n later) p) || get_or xs i d) x).further) fs in
    let rest : drop (i + 1) xs ≡ turns_further b (drop n later) p = ap (λ m. drop m xs) steps ∙ done in (
      drop-set xs i r.further o ∙ rw (further, rest) (sym q.0),
      further ∙ ap (first_or b) (sym q.0),
      follows ∙ rw (e, fs) (sym q.1),
    )

-- a write at a place leaves the places before it as they were at first
pub left-fewer : (xs later : List Bool) (n i : ℕ) (v : Bool) → i + 1 ≡ n → take n xs ≡ take n later → take i (set xs i v) ≡ take i later
left-fewer xs later n i v s e =
    let below : i ≤ n = omega arith in
    take-set xs i v ∙ sym (take-take i n xs below) ∙ ap (take i) e ∙ take-take i n later below
