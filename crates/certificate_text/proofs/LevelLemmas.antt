-- The levels of a letter, one by one.
use Rattle.std.proofs.Common.{◌≡◌, ◌<◌, ◌≤◌, ◌+◌, ◌-◌, ◌==◌, ◌++◌, ℕ, zero, suc, List, [], ◌∷◌, map, length, get_or, refl, sym, ap, ◌∙◌, arith, length-append}
use Rattle.std.specs.Int.{bit_at}
use Rattle.std.proofs.lemmas.List.{length-map}
use Rattle.certificate_text.specs.Asked.{Level, Each, Any, levels, level_of, levels_at, character_level, cube_levels}
use Rattle.certificate_text.specs.Lines.{way_levels, way_level, levels_of}
use Rattle.certificate_text.specs.declared.marks.Way.{Way}
use Rattle.certificate_text.specs.declared.marks.Way.TheVariants as ways
use Rattle.certificate_text.specs.declared.marks.Levels.{Levels}
use Rattle.certificate_text.proofs.AskedLemmas.{length-levels, length-levels_at}

get_or-levels : (l : Level) (n i : ℕ) → i < n → get_or (levels l n) i Each ≡ l
get_or-levels l zero i h = absurd (omega arith)
get_or-levels l (suc n) zero h = refl
get_or-levels l (suc n) (suc i) h = get_or-levels l n i (omega arith)

get_or-levels_at : (n b i : ℕ) → i < n → get_or (levels_at n b) i Each ≡ level_of (bit_at b (n - 1 - i) == 1)
get_or-levels_at zero b i h = absurd (omega arith)
get_or-levels_at (suc n) b zero h = let e : n ≡ suc n - 1 - 0 = omega arith in ap (λ (z : ℕ). level_of (bit_at b z == 1)) e
get_or-levels_at (suc n) b (suc i) h =
    let e : n - 1 - i ≡ suc n - 1 - suc i = omega arith in
    get_or-levels_at n b i (omega arith) ∙ ap (λ (z : ℕ). level_of (bit_at b z == 1)) e

pub length-way : (w : Way) (n : ℕ) → length (way_levels w n) ≡ n
length-way ways.Each n = length-levels Each n
length-way ways.Any n = length-levels Any n
length-way (ways.At b) n = length-levels_at n b

-- one of the levels of a way
way_at : (w : Way) (n i : ℕ) → i < n → get_or (way_levels w n) i Each ≡ way_level w (n - 1 - i)
way_at ways.Each n i h = get_or-levels Each n i h
way_at ways.Any n i h = get_or-levels Any n i h
way_at (ways.At b) n i h = get_or-levels_at n b i h

get_left : (xs ys : List Level) (i : ℕ) → i < length xs → get_or (xs ++ ys) i Each ≡ get_or xs i Each
get_left [] ys i h = absurd (omega arith)
get_left (x ∷ xs) ys zero h = refl
get_left (x ∷ xs) ys (suc i) h = get_left xs ys i (omega arith)

get_right : (xs ys : List Level) (i : ℕ) → length xs ≤ i → get_or (xs ++ ys) i Each ≡ get_or ys (i - length xs) Each
get_right [] ys i h = let e : i ≡ i - 0 = omega arith in ap (λ (z : ℕ). get_or ys z Each) e
get_right (x ∷ xs) ys zero h = absurd (omega arith)
get_right (x ∷ xs) ys (suc i) h =
    let e : i - length xs ≡ suc i - suc (length xs) = omega arith in
    get_right xs ys i (omega arith) ∙ ap (λ (z : ℕ). get_or ys z Each) e

get_or-characters : (cube : List ℕ) (i : ℕ) → i < length cube → get_or (cube_levels cube) i Each ≡ character_level (get_or cube i 0)
get_or-characters [] i h = absurd (omega arith)
get_or-characters (c ∷ cs) zero h = refl
get_or-characters (c ∷ cs) (suc i) h = get_or-characters cs i (omega arith)

pub length-cube_levels : (cube : List ℕ) → length (cube_levels cube) ≡ length cube
length-cube_levels cube = length-map cube character_level

-- how many propositions are asked
pub length-levels_of : (l : Levels) → length (levels_of l) ≡ length l.cube.now + l.middle_count + l.back_count
length-levels_of l =
    let a = length-append (cube_levels l.cube.now) (way_levels l.middle l.middle_count ++ way_levels l.back l.back_count) in
    let b = length-append (way_levels l.middle l.middle_count) (way_levels l.back l.back_count) in
    let f = length-cube_levels l.cube.now in
    let m = length-way l.middle l.middle_count in
    let n = length-way l.back l.back_count in
    omega (arith, a, b, f, m, n)

-- the level at a depth, in each of the three parts
pub level_in_front : (l : Levels) (d : ℕ) → d < length l.cube.now → character_level (get_or l.cube.now d 0) ≡ get_or (levels_of l) d Each
level_in_front l d h =
    let f = length-cube_levels l.cube.now in
    sym (get_left (cube_levels l.cube.now) (way_levels l.middle l.middle_count ++ way_levels l.back l.back_count) d (omega (arith, f, h)) ∙ get_or-characters l.cube.now d h)

pub level_in_middle : (l : Levels) (d : ℕ) → length l.cube.now ≤ d → d - length l.cube.now < l.middle_count
    → way_level l.middle (l.middle_count - 1 - (d - length l.cube.now)) ≡ get_or (levels_of l) d Each
level_in_middle l d h k =
    let f = length-cube_levels l.cube.now in
    let m = length-way l.middle l.middle_count in
    let i = d - length l.cube.now in
    sym (get_right (cube_levels l.cube.now) (way_levels l.middle l.middle_count ++ way_levels l.back l.back_count) d (omega (arith, f, h))
    ∙ ap (λ (z : ℕ). get_or (way_levels l.middle l.middle_count ++ way_levels l.back l.back_count) (d - z) Each) f
    ∙ get_left (way_levels l.middle l.middle_count) (way_levels l.back l.back_count) i (omega (arith, m, k))
    ∙ way_at l.middle l.middle_count i k)

pub level_in_back : (l : Levels) (d : ℕ) → length l.cube.now ≤ d → l.middle_count ≤ d - length l.cube.now → d < length (levels_of l)
    → way_level l.back (l.back_count - 1 - (d - length l.cube.now - l.middle_count)) ≡ get_or (levels_of l) d Each
level_in_back l d h k b =
    let f = length-cube_levels l.cube.now in
    let m = length-way l.middle l.middle_count in
    let s = length-levels_of l in
    let i = d - length l.cube.now in
    sym (get_right (cube_levels l.cube.now) (way_levels l.middle l.middle_count ++ way_levels l.back l.back_count) d (omega (arith, f, h))
    ∙ ap (λ (z : ℕ). get_or (way_levels l.middle l.middle_count ++ way_levels l.back l.back_count) (d - z) Each) f
    ∙ get_right (way_levels l.middle l.middle_count) (way_levels l.back l.back_count) i (omega (arith, m, k))
    ∙ ap (λ (z : ℕ). get_or (way_levels l.back l.back_count) (i - z) Each) m
    ∙ way_at l.back l.back_count (i - l.middle_count) (omega (arith, s, b, h, k)))
