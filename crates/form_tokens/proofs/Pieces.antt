-- Going along a text by index.
use Rattle.std.proofs.Common.{◌≡◌, ℕ, zero, suc, ◌+◌, ◌-◌, ◌≤◌, ◌<◌, List, [], ◌∷◌, sym, ap, ◌∙◌, arith, Bool, true, false, cond, length, drop, get_or, drop-cons, add-one, add-zero, slice_index, take, refl, nat_le}
use Rattle.std.proofs.lemmas.List.{length-drop, drop-drop, length-take, take-take, take_all}
use Rattle.std.proofs.lemmas.Bool.{and_from, le-leb}
use Rattle.std.specs.List.{list_all}
use Rattle.form_tokens.specs.declared.dialect.Dialect.{Dialect}
use Rattle.form_tokens.specs.declared.spelling.Found.{Found}
use Rattle.form_tokens.specs.Words.{is_blank, begins_word, goes_on, word_length, longest_word, begins_with_word, is_word}
use Rattle.form_tokens.specs.Spelling as spelling
use Rattle.form_tokens.specs.Spelling.{piece_at, pieces}
use Rattle.form_tokens.specs.Found.{lexeme_at, IsPieceAt, IsNamed, lexeme_of}
use Rattle.form_tokens.specs.declared.spelling.Lexeme.{Lexeme}

-- the length of a word by its first byte: one more than the rest where that byte goes on a word, else 0
pub word_length-here : (text : List ℕ) (n : ℕ) → n < length text → word_length (drop n text) ≡ cond (goes_on (get_or text n 0)) (suc (word_length (drop (n + 1) text))) 0
word_length-here text n h = rw (add-one, drop-cons text n 0)

-- where the byte goes on a word, the length is one more than that from the next byte on
pub word_length-goes_on : (text : List ℕ) (n : ℕ) → n < length text → goes_on (get_or text n 0) ≡ true → word_length (drop n text) ≡ suc (word_length (drop (n + 1) text))
word_length-goes_on text n h e = rw (word_length-here text n h, e)

-- where the byte does not go on a word, the length is 0
pub word_length-stops : (text : List ℕ) (n : ℕ) → n < length text → goes_on (get_or text n 0) ≡ false → word_length (drop n text) ≡ 0
word_length-stops text n h e = rw (word_length-here text n h, e)

-- the bytes of a piece are passed over
pub pieces-skip : (d : Dialect) (w : Bool) (n at : ℕ) (bs : List ℕ) → n ≤ length bs → pieces d n w at bs ≡ pieces d zero w (at + n) (drop n bs)
pieces-skip d w zero at bs h = rw add-zero
pieces-skip d w (suc n) at [] h = absurd (omega arith)
pieces-skip d w (suc n) at (b ∷ bs) h = pieces-skip d w n (suc at) bs (omega arith) ∙ (let e : suc at + n ≡ at + suc n = omega arith in ap (λ k. pieces d zero w k (drop n bs)) e)

-- a blank is passed over
pub pieces-blank : (d : Dialect) (text : List ℕ) (at : ℕ) → at < length text → is_blank (get_or text at 0) ≡ true → pieces d zero false (at + 1) (drop at text) ≡ pieces d zero false (at + 1 + 1) (drop (at + 1) text)
pieces-blank d text at h e = rw (drop-cons text at 0, e, add-one, add-one)

-- a byte that would go on the word before it
pub pieces-in_word : (d : Dialect) (text : List ℕ) (at : ℕ) → at < length text → goes_on (get_or text at 0) ≡ true → pieces d zero true (at + 1) (drop at text) ≡ (at + 1, spelling.Bad) ∷ pieces d zero true (at + 1 + 1) (drop (at + 1) text)
pieces-in_word d text at h e = rw (drop-cons text at 0, e, add-one, add-one)

-- after a word that ends there, the text goes on as after a blank
pub pieces-apart : (d : Dialect) (text : List ℕ) (at p : ℕ) → at < length text → goes_on (get_or text at 0) ≡ false → pieces d zero true p (drop at text) ≡ pieces d zero false p (drop at text)
pieces-apart d text at p h e = rw (drop-cons text at 0, e)

same_front : (a b : ℕ) (x y : spelling.Lexeme) (r s : List (ℕ × spelling.Lexeme)) → b ≡ a → y ≡ x → r ≡ s → ◌≡◌ {A = List (ℕ × spelling.Lexeme)} ((a, x) ∷ r) ((b, y) ∷ s)
same_front a b x y r s e d h = rw (e, d, h)

front : (d : Dialect) (xs : List ℕ) (b : ℕ) (bs : List ℕ) (at : ℕ) → xs ≡ b ∷ bs → is_blank b ≡ false → pieces d zero false at xs ≡ (at, (piece_at d xs).lexeme) ∷ pieces d ((piece_at d xs).size - 1) (begins_word (slice_index xs 0)) (suc at) bs
front d xs b bs at c e = rw (c, e)

-- where no blank stands, the first lexeme is that of the piece there, and the cut goes on after it
pub pieces-piece : (d : Dialect) (text : List ℕ) (at : ℕ) (f : Found) → at < length text → is_blank (get_or text at 0) ≡ false → IsPieceAt d f text at → f.to ≤ length text → at < f.to → pieces d zero false (at + 1) (drop at text) ≡ lexeme_at f text ∷ pieces d zero f.is_word (f.to + 1) (drop f.to text)
pieces-piece d text at f h e s within later =
    let size = (piece_at d (drop at text)).size in
    let room : size - 1 ≤ length (drop (suc at) text) = simp length-drop (omega (arith, s.to)) in
    let to : suc at + (size - 1) ≡ f.to = omega (arith, s.to) in
    let place : suc (at + 1) + (size - 1) ≡ f.to + 1 = omega (arith, s.to) in
    let here : f.from + 1 ≡ at + 1 = omega (arith, s.from) in
    front d (drop at text) _ _ (at + 1) (drop-cons text at 0 h) e ∙ same_front _ _ _ _ _ _ here s.lexeme
    (pieces-skip d (begins_word (slice_index (drop at text) 0)) (size - 1) (suc (at + 1)) (drop (suc at) text) room
    ∙ ap (λ ds. pieces d zero (begins_word (slice_index (drop at text) 0)) (suc (at + 1) + (size - 1)) ds) (drop-drop (size - 1) (suc at) text)
    ∙ ap (λ k. pieces d zero (begins_word (slice_index (drop at text) 0)) (suc (at + 1) + (size - 1)) (drop k text)) to
    ∙ ap (λ k. pieces d zero (begins_word (slice_index (drop at text) 0)) k (drop f.to text)) place
    ∙ ap (λ w. pieces d zero w (f.to + 1) (drop f.to text)) (sym s.is_word))

pub goes_on-begins : (b : ℕ) → begins_word b ≡ true → goes_on b ≡ true
goes_on-begins b e = rw e

pub front-goes_on : (bs : List ℕ) → list_all goes_on (take (word_length bs) bs) ≡ true
front-goes_on [] = refl
front-goes_on (b ∷ bs) = go (goes_on b) refl (front-goes_on bs)
  where
    go : (c : Bool) → goes_on b ≡ c → list_all goes_on (take (word_length bs) bs) ≡ true → list_all goes_on (take (cond c (suc (word_length bs)) 0) (b ∷ bs)) ≡ true
    go true e h = rw e h
    go false e h = refl

-- a run of bytes that go on is no longer than the bytes
pub word_length-le : (bs : List ℕ) → word_length bs ≤ length bs
word_length-le [] = omega arith
word_length-le (b ∷ bs) = go (goes_on b) (word_length-le bs)
  where
    go : (c : Bool) → word_length bs ≤ length bs → cond c (suc (word_length bs)) 0 ≤ suc (length bs)
    go true h = omega arith
    go false h = omega arith

-- the bytes of a word are one
pub is_word-front : (bs : List ℕ) → 0 < length bs → begins_word (slice_index bs 0) ≡ true → is_word (take (word_length (take longest_word bs)) bs) ≡ true
is_word-front [] h e = absurd (omega arith)
is_word-front (b ∷ bs) h e =
    let ws = take longest_word (b ∷ bs) in
    let n = word_length ws in
    let within : n ≤ longest_word = omega (arith, word_length-le ws, length-take longest_word (b ∷ bs)) in
    let same : take n ws ≡ take n (b ∷ bs) = take-take n longest_word (b ∷ bs) within in
    let every : list_all goes_on (take n (b ∷ bs)) ≡ true = rw (← same) (front-goes_on ws) in
    let on : goes_on b ≡ true = goes_on-begins b e in
    let begins : begins_with_word (take n (b ∷ bs)) ≡ true = rw on e in
    let short : nat_le (length (take n (b ∷ bs))) longest_word ≡ true = le-leb _ longest_word (omega (arith, within, length-take n (b ∷ bs))) in
    and_from _ _ (and_from _ _ begins every) short

-- the bytes of a word, by the indices of the text
pub IsNamed-at : (text : List ℕ) (at n : ℕ) (l : Lexeme) → IsNamed (lexeme_of l (take n (take (length text - at) (drop at text)))) → IsNamed (lexeme_of l (take (at + n - at) (drop at text)))
IsNamed-at text at n l h =
    let size : at + n - at ≡ n = omega arith in
    let rest : take (length text - at) (drop at text) ≡ drop at text = take_all (length text - at) (drop at text) (omega (arith, length-drop at text)) in
    rw size (rw rest at h)

-- the bytes of a run that begins a word, up to the longest word, are a word
pub ruleset fronts = (is_word-front)

-- the length of a word, byte by byte
pub ruleset words = (word_length-goes_on, word_length-stops)

-- the cut of a text where no word stands right before: at a blank and at a piece
pub ruleset steps = (pieces-blank, pieces-piece)

-- the cut of a text right behind a word
pub ruleset word_ends = (pieces-in_word, pieces-apart)
