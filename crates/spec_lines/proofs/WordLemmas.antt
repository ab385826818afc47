-- Words between blanks, one after the other.
use Rattle.std.proofs.Common.{◌≡◌, ℕ, suc, ◌+◌, ◌<◌, ◌≤◌, List, [], ◌∷◌, length, get_or, drop, Bool, true, false, cond, not, filter, arith, refl, sym, ap, ◌∙◌, inl, inr, one-add, add-one, nat_eq, length-take-le, take_all, drop-cons, length-drop, get_or-drop, add-zero}
use Rattle.std.specs.Prelude.{◌==◌}
use Rattle.std.specs.List.{slice_split, prefix_len, position_or_len, before_first, after_first}
use Rattle.std.proofs.lemmas.Bool.{cases_lt}
use Rattle.std.proofs.lemmas.Bool.Decides.{nat_tests}
use Rattle.std.proofs.lemmas.List.{drop_all}
use Rattle.std.proofs.lemmas.List.Sums.{fails_before_first, passes_at_first, prefix_len-le-length, prefix_len_stops}
use Rattle.std.proofs.lemmas.List.Splits.{slice_split-cons_yes, slice_split_first, slice_split_none}
use Rattle.form_tokens.specs.Words.{is_blank}
use Rattle.spec_lines.specs.Lines.{without_front}
use Rattle.spec_lines.specs.Values.{words_of}

-- whether a word has a byte
abbrev has_byte : List ℕ → Bool
has_byte word = not (length word == 0)

-- a blank at the front gives no word
words_of-blank : (b : ℕ) (bytes : List ℕ) → is_blank b ≡ true → words_of (b ∷ bytes) ≡ words_of bytes
words_of-blank b bytes e = ap (λ parts. filter has_byte parts) (slice_split-cons_yes is_blank b bytes e)

-- blanks at the front give none
pub words_of-without_front : (bytes : List ℕ) → words_of bytes ≡ words_of (without_front bytes)
words_of-without_front [] = refl
words_of-without_front (b ∷ bytes) = go (is_blank b) refl (words_of-without_front bytes)
  where
    go : (c : Bool) → is_blank b ≡ c → words_of bytes ≡ words_of (without_front bytes) → words_of (b ∷ bytes) ≡ words_of (drop (cond c (1 + prefix_len is_blank bytes) 0) (b ∷ bytes))
    go true e h = words_of-blank b bytes e ∙ h ∙ ap (λ n. words_of (drop n (b ∷ bytes))) (sym (one-add (prefix_len is_blank bytes)))
    go false e h = refl

-- no byte, no word
pub words_of-nil : (bytes : List ℕ) → length bytes ≡ 0 → words_of bytes ≡ []
words_of-nil [] e = refl
words_of-nil (b ∷ bytes) e = absurd (omega arith)

-- a word with a byte is kept
has_byte-some : (word : List ℕ) → 0 < length word → has_byte word ≡ true
has_byte-some word h = let e : nat_eq (length word) 0 ≡ false = grind (arith, nat_tests) in rw e refl

-- a first byte that is no blank is before the first blank
position-some : (bytes : List ℕ) → 0 < length bytes → is_blank (get_or bytes 0 0) ≡ false → 0 < position_or_len is_blank bytes
position-some [] h e = absurd (omega arith)
position-some (b ∷ bytes) h e = rw e (omega arith)

-- the words of a first part and others
filter-front : (word : List ℕ) (parts : List (List ℕ)) → 0 < length word → filter has_byte (word ∷ parts) ≡ word ∷ filter has_byte parts
filter-front word parts h = let e = has_byte-some word h in rw e refl

-- the word before a blank, and then those behind it
front-inside : (bytes : List ℕ) → 0 < length bytes → is_blank (get_or bytes 0 0) ≡ false → position_or_len is_blank bytes < length bytes → words_of bytes ≡ before_first is_blank bytes ∷ words_of (drop (length (before_first is_blank bytes)) bytes)
front-inside bytes some solid h =
    let n = position_or_len is_blank bytes in
    let size : length (before_first is_blank bytes) ≡ n = length-take-le n bytes (omega arith) in
    let pos = position-some bytes some solid in
    let some_word : 0 < length (before_first is_blank bytes) = omega arith in
    let after : words_of (drop n bytes) ≡ words_of (after_first is_blank bytes) =
    ap words_of (drop-cons bytes n 0 h)
    ∙ words_of-blank (get_or bytes n 0) (drop (suc n) bytes) (passes_at_first is_blank bytes 0 h)
    ∙ ap (λ k. words_of (drop k bytes)) (sym (add-one n)) in
    ap (λ parts. filter has_byte parts) (slice_split_first is_blank bytes 0 h)
    ∙ filter-front (before_first is_blank bytes) (slice_split is_blank (after_first is_blank bytes)) some_word
    ∙ ap (λ ws. before_first is_blank bytes ∷ ws) (sym after ∙ ap (λ k. words_of (drop k bytes)) (sym size))

-- the only word
front-last : (bytes : List ℕ) → 0 < length bytes → length bytes ≤ position_or_len is_blank bytes → words_of bytes ≡ before_first is_blank bytes ∷ words_of (drop (length (before_first is_blank bytes)) bytes)
front-last bytes some h =
    let whole : before_first is_blank bytes ≡ bytes = take_all _ bytes h in
    let rest : drop (length (before_first is_blank bytes)) bytes ≡ [] = ap (λ xs. drop (length xs) bytes) whole ∙ drop_all (length bytes) bytes (omega arith) in
    ap (λ parts. filter has_byte parts) (slice_split_none is_blank bytes (λ k d below. fails_before_first is_blank bytes k d (omega arith)))
    ∙ filter-front bytes [] some
    ∙ ap (λ xs. xs ∷ []) (sym whole)
    ∙ ap (λ ws. before_first is_blank bytes ∷ ws) (sym (ap words_of rest))

-- the word at the front, and then those of what follows it
pub words_of-front : (bytes : List ℕ) → 0 < length bytes → is_blank (get_or bytes 0 0) ≡ false → words_of bytes ≡ before_first is_blank bytes ∷ words_of (drop (length (before_first is_blank bytes)) bytes)
words_of-front bytes some solid =
    elim (cases_lt (position_or_len is_blank bytes) (length bytes)) [
      | inl h ↦ front-inside bytes some solid h
      | inr h ↦ front-last bytes some h
    ]

-- behind the blanks at the front stands no blank
pub without_front-solid : (bytes front : List ℕ) → front ≡ without_front bytes → 0 < length front → is_blank (get_or front 0 0) ≡ false
without_front-solid bytes front e some =
    let n = prefix_len is_blank bytes in
    let size = ap length e in
    let h : n < length bytes = omega (arith, length-drop n bytes) in
    rw (e, get_or-drop n bytes 0 0, add-zero n) (prefix_len_stops is_blank bytes 0 h)

-- the word at the front has a byte
pub front-some : (bytes word : List ℕ) → 0 < length bytes → is_blank (get_or bytes 0 0) ≡ false → word ≡ before_first is_blank bytes → 0 < length word
front-some bytes word some solid e =
    let pos = position-some bytes some solid in
    let most = prefix_len-le-length (λ b. not (is_blank b)) bytes in
    rw e (omega (arith, length-take-le (position_or_len is_blank bytes) bytes most))
