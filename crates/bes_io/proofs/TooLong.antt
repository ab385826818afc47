-- Which byte is one too many of a line, or of an input.
use Rattle.std.proofs.Common.{◌≡◌, ℕ, ◌+◌, ◌-◌, ◌<◌, ◌≤◌, ◌∷◌, ◌↔◌, List, [], ◌++◌, length, take, drop, arith, sym, refl, ◌∙◌, ap, cond, nat_lt, nat_eq, true, false, Bool, Result, Ok, Err, min, not, suc, length-drop}
use Rattle.std.proofs.lemmas.Grind.{common_steps}
use Rattle.std.proofs.lemmas.Bool.Decides.{nat_tests}
use Rattle.std.proofs.lemmas.List.{take-append-drop}
use Rattle.std.proofs.lemmas.List.Sums.{prefix_len-le-length}
use Rattle.std.specs.List.{after_first, Contains}
use Rattle.bes_io.specs.Bytes.{is_lf, text_len}
use Rattle.bes_io.specs.Reader.{next_of, line_len}
use Rattle.bes_io.specs.Lines.{Stop, at_end, at_fault, HasLines, ended, faulty, line}
use Rattle.bes_io.specs.declared.lines.Found.{Found}
use Rattle.bes_io.specs.declared.lines.Found.TheVariants.{Line, End}
use Rattle.bes_io.specs.declared.lines.LineFault.{LineFault}
use Rattle.bes_io.specs.declared.lines.LineFault.TheVariants.{LineTooLong, InputTooLong}
use Rattle.bes_io.proofs.Deciding.{text-append, text-append_more}
use Rattle.bes_io.proofs.Finding.{contained, end-empty}

-- the text is no longer than the bytes
text-within : (bytes : List ℕ) → text_len bytes ≤ length bytes
text-within bytes = prefix_len-le-length (λ x. not (is_lf x)) bytes

-- an LF stands where the text ends before the bytes do
has-lf : (xs : List ℕ) → text_len xs < length xs → Contains xs 10
has-lf [] lt = absurd (omega arith)
has-lf (x ∷ xs) lt = by (is_lf x) refl (λ h. has-lf xs h)
  where
    by : (b : Bool) → is_lf x ≡ b → (text_len xs < length xs → Contains xs 10) → Contains (x ∷ xs) 10
    by true e rest = (0, omega arith, grind (arith, nat_tests))
    by false e rest = let later : Contains xs 10 = rest (grind (arith, nat_tests)) in (suc later.0, omega (arith, later.1), later.2)

-- the first bytes and the others
parted : (n : ℕ) (bytes : List ℕ) → text_len (take n bytes ++ drop n bytes) ≡ text_len bytes
parted n bytes = ap text_len (take-append-drop n bytes)

-- no LF is among the first bytes where the text is no shorter
none-among : (n : ℕ) (bytes : List ℕ) → n ≤ length bytes → n ≤ text_len bytes → ¬ Contains (take n bytes) 10
none-among n bytes within long (k, lt, e) =
    let few : text_len (take n bytes) < length (take n bytes) = contained (take n bytes) k lt e in
    let is : length (take n bytes) ≡ n = grind (arith, common_steps) in
    omega (arith, few, is, sym (parted n bytes) ∙ text-append (take n bytes) (drop n bytes) few)

-- and only there
none-only : (n : ℕ) (bytes : List ℕ) → n ≤ length bytes → (¬ Contains (take n bytes) 10) → n ≤ text_len bytes
none-only n bytes within none = by (nat_lt (text_len (take n bytes)) (length (take n bytes))) refl
  where
    by : (b : Bool) → nat_lt (text_len (take n bytes)) (length (take n bytes)) ≡ b → n ≤ text_len bytes
    by true e = absurd (none (has-lf (take n bytes) (grind (arith, nat_tests))))
    by false e =
        let all : length (take n bytes) ≤ text_len (take n bytes) = grind (arith, nat_tests) in
        let is : length (take n bytes) ≡ n = grind (arith, common_steps) in
        omega (arith, is, sym (parted n bytes) ∙ text-append_more (take n bytes) (drop n bytes) all)

-- what is found, over the place of the first LF and the length
abbrev found_at : ℕ → ℕ → ℕ → Result Found LineFault
found_at most t n = cond (nat_eq n 0) (Ok End) (cond (nat_lt most (min (min (t + 1) n) 4097)) (Err InputTooLong) (cond (nat_lt 4096 t) (Err LineTooLong) (Ok Line)))

-- the numbers of a line that is too long
long-numbers : (most t n : ℕ) → t ≤ n → found_at most t n ≡ Err LineTooLong → (4097 ≤ t) × (4097 ≤ most)
long-numbers most t n within e = (grind (arith, nat_tests), grind (arith, nat_tests))

-- and back
numbers-long : (most t n : ℕ) → t ≤ n → 4097 ≤ t → 4097 ≤ most → found_at most t n ≡ Err LineTooLong
numbers-long most t n within long all = grind (arith, nat_tests)

-- the numbers of an input that is too long
input-numbers : (most t n : ℕ) → t ≤ n → found_at most t n ≡ Err InputTooLong → (most < n) × (most ≤ 4096) × (most ≤ t)
input-numbers most t n within e = (grind (arith, nat_tests), grind (arith, nat_tests), grind (arith, nat_tests))

-- and back
numbers-input : (most t n : ℕ) → most < n → most ≤ 4096 → most ≤ t → found_at most t n ≡ Err InputTooLong
numbers-input most t n more few before = grind (arith, nat_tests)

-- the numbers of a line
line-numbers : (most t n : ℕ) → t ≤ n → found_at most t n ≡ Ok Line → min (t + 1) n ≤ most
line-numbers most t n within e = grind (arith, nat_tests)

-- which byte is one too many of a line
pub line-too-long : (most : ℕ) (bytes : List ℕ) → next_of most bytes ≡ Err LineTooLong ↔ ((4097 ≤ length bytes) × (4097 ≤ most) × ¬ Contains (take 4097 bytes) 10)
line-too-long most bytes =
    let w = text-within bytes in (
      λ e.
          let p = long-numbers most (text_len bytes) (length bytes) w e in
          (omega (arith, w, p.0), p.1, none-among 4097 bytes (omega (arith, w, p.0)) p.0),
      λ h. numbers-long most (text_len bytes) (length bytes) w (none-only 4097 bytes h.0 h.2) h.1,
    )

-- which byte is one too many of an input
pub input-too-long : (most : ℕ) (bytes : List ℕ) → next_of most bytes ≡ Err InputTooLong ↔ ((most < length bytes) × (most ≤ 4096) × ¬ Contains (take most bytes) 10)
input-too-long most bytes =
    let w = text-within bytes in (
      λ e.
          let p = input-numbers most (text_len bytes) (length bytes) w e in
          (p.0, p.1, none-among most bytes (omega (arith, p.0)) p.2),
      λ h. numbers-input most (text_len bytes) (length bytes) h.0 h.1 (none-only most bytes (omega (arith, h.0)) h.2),
    )

-- how many bytes come after the first line
after-len : (bytes : List ℕ) → length (after_first is_lf bytes) ≡ length bytes - (text_len bytes + 1)
after-len bytes = length-drop (text_len bytes + 1) bytes

-- at the end all bytes were allowed
pub ends-within : (most : ℕ) (bytes : List ℕ) (found : List (List ℕ)) (stop : Stop) → HasLines most bytes found stop → stop ≡ at_end → length bytes ≤ most
ends-within most bytes found stop (ended e) end = omega (arith, end-empty most bytes (sym e))
ends-within most bytes found stop (faulty e) end = cc
ends-within most bytes found stop (line {lines = later} e rest) end =
    omega (
      arith,
      ends-within (most - line_len bytes) (after_first is_lf bytes) later stop rest end,
      line-numbers most (text_len bytes) (length bytes) (text-within bytes) e,
      after-len bytes,
      text-within bytes,
    )

-- at too much input there are more bytes than are allowed
pub stops-past : (most : ℕ) (bytes : List ℕ) (found : List (List ℕ)) (stop : Stop) → HasLines most bytes found stop → stop ≡ at_fault InputTooLong → most < length bytes
stops-past most bytes found stop (ended e) end = cc
stops-past most bytes found stop (faulty {fault = fault} e) end =
    let is : fault ≡ InputTooLong = cc in
    (input-numbers most (text_len bytes) (length bytes) (text-within bytes) (e ∙ ap Err is)).0
stops-past most bytes found stop (line {lines = later} e rest) end =
    omega (
      arith,
      stops-past (most - line_len bytes) (after_first is_lf bytes) later stop rest end,
      line-numbers most (text_len bytes) (length bytes) (text-within bytes) e,
      after-len bytes,
      text-within bytes,
    )
