-- A function has one list of lines.
use Rattle.std.proofs.Common.{◌≡◌, ◌<◌, ◌+◌, ◌^◌, ◌++◌, ℕ, zero, suc, List, [], ◌∷◌, refl, ◌∙◌, ap, arith, map}
use Rattle.std.specs.Prelude.{◌&&◌, if◌then◌else◌}
use Rattle.std.specs.Str.{bytes_eq}
use Rattle.printed_strategy.specs.CubeLines.{lead, agree, upper, lines_of, function_lines, line_texts}

-- the two functions have equal values below n
abbrev pub AgreeBelow : ℕ → (ℕ → List ℕ) → (ℕ → List ℕ) → Type 0
AgreeBelow n f g = (a : ℕ) → a < n → f a ≡ g a

pub agree-same : (n : ℕ) (f f2 g g2 : ℕ → List ℕ) → AgreeBelow n f f2 → AgreeBelow n g g2 → agree n f g ≡ agree n f2 g2
agree-same zero f f2 g g2 x y = refl
agree-same (suc n) f f2 g g2 x y =
    let rest = agree-same n f f2 g g2 (λ a l. x a (omega (arith, l))) (λ a l. y a (omega (arith, l))) in
    let here = x n (omega arith) in
    let there = y n (omega arith) in
    ap (λ z. z && bytes_eq (f n) (g n)) rest ∙ ap (λ z. agree n f2 g2 && bytes_eq z (g n)) here ∙ ap (λ z. agree n f2 g2 && bytes_eq (f2 n) z) there

power-twice : (k : ℕ) → 2 ^ suc k ≡ 2 ^ k + 2 ^ k
power-twice k = omega arith

-- functions with equal values have the same lines
pub lines_of-same : (k : ℕ) (f g : ℕ → List ℕ) → AgreeBelow (2 ^ k) f g → lines_of k f ≡ lines_of k g
unfolding lines_of
lines_of-same zero f g e = ap (λ z. record { pattern = []; fields = z } ∷ []) (e 0 (omega arith))
lines_of-same (suc k) f g e =
    let twice = power-twice k in
    let low : AgreeBelow (2 ^ k) f g = λ a l. e a (omega (arith, l, twice)) in
    let high : AgreeBelow (2 ^ k) (upper k f) (upper k g) = λ a l. e (2 ^ k + a) (omega (arith, l, twice)) in
    let lower = lines_of-same k f g low in
    let higher = lines_of-same k (upper k f) (upper k g) high in
    let test = agree-same (2 ^ k) f g (upper k f) (upper k g) low high in
    ap (λ z. if z then map (lead 45) (lines_of k f) else map (lead 48) (lines_of k f) ++ map (lead 49) (lines_of k (upper k f))) test
    ∙ ap (λ z. if agree (2 ^ k) g (upper k g) then map (lead 45) z else map (lead 48) z ++ map (lead 49) (lines_of k (upper k f))) lower
    ∙ ap (λ z. if agree (2 ^ k) g (upper k g) then map (lead 45) (lines_of k g) else map (lead 48) (lines_of k g) ++ map (lead 49) z) higher

pub function_lines-same : (key : List ℕ) (k : ℕ) (f g : ℕ → List ℕ) → AgreeBelow (2 ^ k) f g → function_lines key k f ≡ function_lines key k g
function_lines-same key k f g e = ap (line_texts key) (lines_of-same k f g e)
