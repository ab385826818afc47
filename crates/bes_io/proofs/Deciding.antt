-- What the held bytes decide, and where their first LF stands.
use Rattle.std.proofs.Common.{◌≡◌, ℕ, ◌+◌, ◌-◌, ◌<◌, ◌≤◌, ◌∷◌, List, [], ◌++◌, length, take, drop, arith, sym, ◌∙◌, ap, cond, true, false, Bool, Some, None, Ok, not, get_or}
use Rattle.std.proofs.lemmas.Bool.{false_from_ne_true}
use Rattle.std.proofs.lemmas.Bool.Decides.{nat_tests}
use Rattle.std.proofs.lemmas.List.{take-append-drop, take_all, length-drop}
use Rattle.std.proofs.lemmas.List.Sums.{prefix_len-le-length, position_or_len_is}
use Rattle.std.specs.Io.{StartsWith}
use Rattle.memchr.specs.Find.{IsFirstByte, is_byte}
use Prim.Native.Nat.{zero, suc}
use Rattle.std.proofs.lemmas.List.Folds.{prefix_len-append}
use Rattle.std.specs.List.{position}
use Rattle.bes_io.specs.Bytes.{is_lf, text_len}
use Rattle.bes_io.specs.Reader.{next_of}
use Rattle.bes_io.specs.Steps.{decided}
use Rattle.bes_io.specs.declared.lines.Found.TheVariants.{Line}

-- undecided bytes at the end of input are a line, if there are any
pub closing : (most : ℕ) (held : List ℕ) → decided most held ≡ None → 0 < length held → Ok Line ≡ next_of most held
closing most held e some = grind (arith, nat_tests, prefix_len-le-length)

-- more bytes after an LF leave the first line
pub text-append : (held rest : List ℕ) → text_len held < length held → text_len (held ++ rest) ≡ text_len held
text-append held rest lf = rw (prefix_len-append (λ x. not (is_lf x)) held rest) (grind (arith, nat_tests))

-- bytes without an LF lengthen the text of those after them
pub text-append_more : (held rest : List ℕ) → length held ≤ text_len held → text_len (held ++ rest) ≡ length held + text_len rest
text-append_more held rest lf = rw (prefix_len-append (λ x. not (is_lf x)) held rest) (grind (arith, nat_tests, prefix_len-le-length))

-- where the first bytes hold no LF, the first one stands among the rest
pub text_len-drop : (n : ℕ) (bytes : List ℕ) → n ≤ length bytes → n ≤ text_len bytes → text_len bytes ≡ n + text_len (drop n bytes)
text_len-drop zero bytes within none = omega arith
text_len-drop (suc n) [] within none = absurd (omega arith)
text_len-drop (suc n) (x ∷ xs) within none = passed (is_lf x) (text_len xs) (text_len (drop n xs)) n none (λ h. text_len-drop n xs (omega arith) h)
  where
    passed : (b : Bool) (t d n : ℕ) → suc n ≤ cond (not b) (1 + t) 0 → (n ≤ t → t ≡ n + d) → cond (not b) (1 + t) 0 ≡ suc n + d
    passed true t d n h later = absurd (omega arith)
    passed false t d n h later = omega (arith, later (omega arith))

-- the place of the first LF, found past the bytes that hold none
pub position-past : (n place : ℕ) (bytes : List ℕ) → n ≤ length bytes → n ≤ text_len bytes → IsFirstByte (is_byte 10) (drop n bytes) (Some place) → Some (n + place) ≡ position is_lf bytes
position-past n place bytes within none first =
    let at : text_len (drop n bytes) ≡ place = position_or_len_is is_lf (drop n bytes) place 0 (omega (arith, first.0.high)) (λ k below. false_from_ne_true (is_lf (get_or (drop n bytes) k 0)) (first.0.before k (omega arith) below)) (λ below. first.1) in
    let all : text_len bytes ≡ n + place = text_len-drop n bytes within none ∙ ap (λ m. n + m) at in
    let lt : n + place < length bytes = omega (arith, first.0.high, length-drop n bytes) in
    rw all (grind (arith, nat_tests))

-- no LF at all, where none is past the bytes that hold none
pub position-nowhere : (n : ℕ) (bytes : List ℕ) → n ≤ length bytes → n ≤ text_len bytes → IsFirstByte (is_byte 10) (drop n bytes) None → None ≡ position is_lf bytes
position-nowhere n bytes within none first =
    let at : text_len (drop n bytes) ≡ length (drop n bytes) = position_or_len_is is_lf (drop n bytes) (length (drop n bytes)) 0 (omega arith) (λ k below. false_from_ne_true (is_lf (get_or (drop n bytes) k 0)) (first k (omega arith) below)) (λ below. absurd (omega arith)) in
    let all : text_len bytes ≡ n + length (drop n bytes) = text_len-drop n bytes within none ∙ ap (λ m. n + m) at in
    let end : text_len bytes ≡ length bytes = omega (arith, all, length-drop n bytes) in
    rw end (grind (arith, nat_tests))

-- bytes that go on after others without an LF have none among those either
pub text_len-more : (old new : List ℕ) → StartsWith new old → length old ≤ text_len old → length old ≤ text_len new
text_len-more old new starts none =
    let whole : new ≡ old ++ drop (length old) new = sym (take-append-drop (length old) new) ∙ ap (λ xs. xs ++ drop (length old) new) starts in
    omega (arith, ap text_len whole, text-append_more old (drop (length old) new) none)

-- the part from a place to the end
pub take-drop_rest : (n : ℕ) (bytes : List ℕ) → take (length bytes - n) (drop n bytes) ≡ drop n bytes
take-drop_rest n bytes = take_all (length bytes - n) (drop n bytes) (omega (arith, length-drop n bytes))
