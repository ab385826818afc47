-- The lines of cubes, and of names, one more at a time.
use Rattle.std.proofs.Common.{◌≡◌, ◌<◌, ◌≤◌, ◌+◌, ◌-◌, ◌++◌, ℕ, zero, suc, List, [], ◌∷◌, Some, refl, sym, ◌∙◌, ap, subst, arith, length, length-drop, take, drop, append_assoc, append-nil, add-one, map}
use Rattle.std.specs.Prelude.{slice_get, slice_index_or, codes}
use Rattle.diagrams.specs.declared.top.Id.{Id}
use Rattle.diagrams.specs.declared.cubes.Cube.{Cube}
use Rattle.diagrams.specs.Eval.{Diagrams, DependsOn, eval, letter_truth}
use Rattle.diagrams.specs.Cubes.{AreCubes, printed_cube}
use Rattle.game.specs.Board.{Mover, Agent, Environment}
use Rattle.printed_strategy.specs.CubeLines.{line_text, line_texts, function_lines}
use Rattle.printed_strategy.specs.StrategyText.{spaced, input_names, output_names}
use Rattle.choosing.specs.Numbers.{number_at}
use Rattle.choosing.proofs.StandingLemmas.{number-truth}
use Rattle.strategy.specs.Listing.{cube_line, cube_lines, line_for, AreTold, spaced_from}
use Rattle.strategy.proofs.CubeLemmas.{cubes-lines}

-- one more cube
pub cube_lines-more : (key : List ℕ) (fields : ℕ → List ℕ) (cubes : List Cube) (i : ℕ) (x : Cube) → slice_get cubes i ≡ Some x
    → cube_lines key fields (take (i + 1) cubes) ≡ cube_lines key fields (take i cubes) ++ cube_line key fields x
cube_lines-more key fields cubes i x e = rw (add-one) (go cubes i e)
  where
    go : (cubes : List Cube) (i : ℕ) → slice_get cubes i ≡ Some x → cube_lines key fields (take (suc i) cubes) ≡ cube_lines key fields (take i cubes) ++ cube_line key fields x
    go [] i e = absurd (cc)
    go (y ∷ cubes) zero e = let q : y ≡ x = cc in append-nil (cube_line key fields y) ∙ ap (cube_line key fields) q
    go (y ∷ cubes) (suc i) e =
        ap (λ z. cube_line key fields y ++ z) (go cubes i e) ∙ sym (append_assoc (cube_line key fields y) (cube_lines key fields (take i cubes)) (cube_line key fields x))

-- all cubes
pub cube_lines-all : (key : List ℕ) (fields : ℕ → List ℕ) (cubes : List Cube) (i : ℕ) → length cubes ≤ i → cube_lines key fields (take i cubes) ≡ cube_lines key fields cubes
cube_lines-all key fields [] zero h = refl
cube_lines-all key fields [] (suc i) h = refl
cube_lines-all key fields (y ∷ cubes) zero h = absurd (omega (arith, h))
cube_lines-all key fields (y ∷ cubes) (suc i) h = ap (λ z. cube_line key fields y ++ z) (cube_lines-all key fields cubes i (omega (arith, h)))

printed-line : (key : List ℕ) (fields : ℕ → List ℕ) (cube : Cube) → cube_line key fields (printed_cube cube) ≡ line_text key (line_for fields cube)
printed-line key fields cube = go cube.text cube.terminal
  where
    go : (text : List ℕ) (terminal : ℕ) → cube_line key fields (printed_cube (record { text = text; terminal = terminal })) ≡ line_text key (line_for fields (record { text = text; terminal = terminal }))
    go [] terminal = refl
    go (c ∷ cs) terminal = refl

printed-lines : (key : List ℕ) (fields : ℕ → List ℕ) (plain : List Cube) → cube_lines key fields (map printed_cube plain) ≡ line_texts key (map (line_for fields) plain)
printed-lines key fields [] = refl
printed-lines key fields (cube ∷ plain) =
    ap (λ z. z ++ cube_lines key fields (map printed_cube plain)) (printed-line key fields cube) ∙ ap (λ z. line_text key (line_for fields cube) ++ z) (printed-lines key fields plain)

-- the lines of a diagram's cubes are those of its function
pub listed : (key : List ℕ) (fields : ℕ → List ℕ) (s : Diagrams) (id : Id) (count : ℕ) (cubes : List Cube) → AreCubes s id 0 (count - 0) cubes
    → DependsOn s id (λ v. v < count) → AreTold fields (eval s id) → cube_lines key fields cubes ≡ function_lines key count (λ n. fields (eval s id (letter_truth count n)))
listed key fields s id count cubes are over told =
    let wide : count - 0 ≡ count = omega arith in
    let plain = subst (λ n. AreCubes s id 0 n cubes) wide are in
    ap (cube_lines key fields) plain.2 ∙ printed-lines key fields plain.0
    ∙ ap (line_texts key) (cubes-lines fields count 0 (eval s id) (λ n. fields (eval s id (letter_truth count n)))
    (λ a. ap fields (over (letter_truth count (number_at a 0 count)) a (λ v l. number-truth a count v l))) told plain.0 plain.1)

-- one more name
spaced-more : (names : List (List ℕ)) (n : ℕ) → n < length names → spaced (take (suc n) names) ≡ spaced (take n names) ++ codes " " ++ slice_index_or names n []
spaced-more [] n h = absurd (omega (arith, h))
spaced-more (name ∷ names) zero h = ap (λ z. codes " " ++ z) (append-nil name)
spaced-more (name ∷ names) (suc n) h =
    let rest = spaced-more names n (omega (arith, h)) in
    let front = spaced (take n names) in
    let item = slice_index_or names n [] in
    ap (λ z. codes " " ++ z) (ap (λ z. name ++ z) rest ∙ sym (append_assoc name (front ++ codes " ") item) ∙ ap (λ z. z ++ item) (sym (append_assoc name front (codes " "))))

from-start : (names : List (List ℕ)) (n : ℕ) → n ≤ length names → spaced_from names 0 n ≡ spaced (take n names)
from-start names zero h = refl
from-start names (suc n) h =
    let same : 0 + n ≡ n = omega arith in
    ap (λ z. z ++ codes " " ++ slice_index_or names (0 + n) []) (from-start names n (omega (arith, h)))
    ∙ ap (λ k. spaced (take n names) ++ codes " " ++ slice_index_or names k []) same ∙ sym (spaced-more names n (omega (arith, h)))

from-later : (name : List ℕ) (names : List (List ℕ)) (from n : ℕ) → spaced_from (name ∷ names) (suc from) n ≡ spaced_from names from n
from-later name names from zero = refl
from-later name names from (suc n) =
    let same : suc from + n ≡ suc (from + n) = omega arith in
    ap (λ z. z ++ codes " " ++ slice_index_or (name ∷ names) (suc from + n) []) (from-later name names from n)
    ∙ ap (λ k. spaced_from names from n ++ codes " " ++ slice_index_or (name ∷ names) k []) same

-- the names from one on are those of the rest of the list
pub spaced-from : (names : List (List ℕ)) (from n : ℕ) → from + n ≤ length names → spaced_from names from n ≡ spaced (take n (drop from names))
spaced-from names zero n h = from-start names n (omega (arith, h))
spaced-from [] (suc from) n h = absurd (omega (arith, h))
spaced-from (name ∷ names) (suc from) n h = from-later name names from n ∙ spaced-from names from n (omega (arith, h))

take-all : (n : ℕ) (xs : List (List ℕ)) → length xs ≤ n → take n xs ≡ xs
take-all zero [] h = refl
take-all (suc n) [] h = refl
take-all zero (x ∷ xs) h = absurd (omega (arith, h))
take-all (suc n) (x ∷ xs) h = ap (λ z. x ∷ z) (take-all n xs (omega (arith, h)))

-- the names of inputs, where the agent moves first, and where the environment does
pub inputs-agent : (d : Mover) (i o n : ℕ) (names : List (List ℕ)) → d ≡ Agent → length names ≡ i + o → n ≡ i
    → spaced_from names o n ≡ spaced (input_names d (record { first = d; inputs = i; outputs = o }) names)
inputs-agent Agent i o n names d e f =
    ap (spaced_from names o) f ∙ spaced-from names o i (omega (arith, e)) ∙ ap spaced (take-all i (drop o names) (let h = length-drop o names in omega (arith, h, e)))
inputs-agent Environment i o n names d e f = absurd (cc)

pub inputs-environment : (d : Mover) (i o n : ℕ) (names : List (List ℕ)) → d ≡ Environment → length names ≡ i + o → n ≡ i
    → spaced_from names 0 n ≡ spaced (input_names d (record { first = d; inputs = i; outputs = o }) names)
inputs-environment Environment i o n names d e f = ap (spaced_from names 0) f ∙ spaced-from names 0 i (omega (arith, e))
inputs-environment Agent i o n names d e f = absurd (cc)

-- and those of outputs
pub outputs-agent : (d : Mover) (i o n : ℕ) (names : List (List ℕ)) → d ≡ Agent → length names ≡ i + o → n ≡ o
    → spaced_from names 0 n ≡ spaced (output_names d (record { first = d; inputs = i; outputs = o }) names)
outputs-agent Agent i o n names d e f = ap (spaced_from names 0) f ∙ spaced-from names 0 o (omega (arith, e))
outputs-agent Environment i o n names d e f = absurd (cc)

pub outputs-environment : (d : Mover) (i o n : ℕ) (names : List (List ℕ)) → d ≡ Environment → length names ≡ i + o → n ≡ o
    → spaced_from names i n ≡ spaced (output_names d (record { first = d; inputs = i; outputs = o }) names)
outputs-environment Environment i o n names d e f =
    ap (spaced_from names i) f ∙ spaced-from names i o (omega (arith, e)) ∙ ap spaced (take-all o (drop i names) (let h = length-drop i names in omega (arith, h, e)))
outputs-environment Agent i o n names d e f = absurd (cc)
