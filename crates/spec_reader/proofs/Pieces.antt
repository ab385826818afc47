-- Going along a line by index.
use Rattle.std.proofs.Common.{◌≡◌, ℕ, zero, suc, ◌+◌, ◌-◌, ◌<◌, ◌≤◌, List, [], ◌∷◌, length, take, drop, get_or, true, false, ap, sym, ◌∙◌, arith, add-zero}
use Rattle.std.proofs.lemmas.List.{length-drop, drop-drop, drop_all, take_rest}
use Rattle.form_tokens.specs.Words.{is_blank, begins_word, word_length}
use Rattle.spec_reader.specs.Event.{Piece, Stray, run_pieces, pieces_from}
use Rattle.form_tokens.proofs.Pieces.{word_length-le}

-- the pieces from index i of a line on
abbrev pub pieces_at : List ℕ → ℕ → List Piece
pieces_at line i = pieces_from zero (i + 1) (drop i line)

-- the bytes of a piece are passed over
pieces_from-skip : (n at : ℕ) (bs : List ℕ) → n ≤ length bs → pieces_from n at bs ≡ pieces_from zero (at + n) (drop n bs)
pieces_from-skip zero at bs h = rw add-zero
pieces_from-skip (suc n) at [] h = absurd (omega arith)
pieces_from-skip (suc n) at (b ∷ bs) h =
    pieces_from-skip n (suc at) bs (omega arith)
    ∙ (let e : suc at + n ≡ at + suc n = omega arith in ap (λ k. pieces_from zero k (drop n bs)) e)

-- a byte that belongs to no word
pieces_from-stray : (at : ℕ) (bs : List ℕ) → 0 < length bs → is_blank (get_or bs 0 0) ≡ false → begins_word (get_or bs 0 0) ≡ false → pieces_from zero at bs ≡ Stray at ∷ pieces_from zero (at + 1) (drop 1 bs)
pieces_from-stray at [] h e f = absurd (omega arith)
pieces_from-stray at (b ∷ bs) h e f = rw (e, f) (let one : suc at ≡ at + 1 = omega arith in ap (λ k. Stray at ∷ pieces_from zero k bs) one)

-- a run of word bytes
pub pieces_from-word : (at : ℕ) (bs : List ℕ) → 0 < length bs → is_blank (get_or bs 0 0) ≡ false → begins_word (get_or bs 0 0) ≡ true → pieces_from zero at bs ≡ run_pieces at (word_length bs) bs (pieces_from zero (at + word_length bs) (drop (word_length bs) bs))
pieces_from-word at [] h e f = absurd (omega arith)
pieces_from-word at (b ∷ bs) h e f =
    let n = word_length bs in
    let place : suc at + n ≡ at + suc n = omega arith in
    let rest : pieces_from n (suc at) bs ≡ pieces_from zero (at + suc n) (drop n bs) =
    pieces_from-skip n (suc at) bs (word_length-le bs) ∙ ap (λ k. pieces_from zero k (drop n bs)) place in
    rw (e, f) (ap (λ ps. run_pieces at (suc n) (b ∷ bs) ps) rest)

-- the bytes from index i on, as a slice of the line has them
abbrev pub rest_of : List ℕ → ℕ → List ℕ
rest_of line i = take (length line - i) (drop i line)

-- the pieces at a byte that neither is blank nor begins a word
pub pieces_at-stray : (line : List ℕ) (i : ℕ) → i < length line → is_blank (get_or (rest_of line i) 0 0) ≡ false → begins_word (get_or (rest_of line i) 0 0) ≡ false → pieces_at line i ≡ Stray (i + 1) ∷ pieces_at line (i + 1)
pieces_at-stray line i h e f =
    pieces_from-stray (i + 1) (drop i line) (simp length-drop (omega arith)) (rw take_rest at e) (rw take_rest at f)
    ∙ ap (λ bs. Stray (i + 1) ∷ pieces_from zero (i + 1 + 1) bs) (drop-drop 1 i line)

-- at a word
pub pieces_at-word : (line : List ℕ) (i run : ℕ) → i < length line → is_blank (get_or (rest_of line i) 0 0) ≡ false → begins_word (get_or (rest_of line i) 0 0) ≡ true → run ≡ word_length (rest_of line i) → pieces_at line i ≡ run_pieces (i + 1) run (rest_of line i) (pieces_at line (i + run))
pieces_at-word line i run h e f r =
    let bs = drop i line in
    let same : run ≡ word_length bs = rw take_rest at r in
    let place : i + 1 + run ≡ i + run + 1 = omega arith in
    rw take_rest (
    pieces_from-word (i + 1) bs (simp length-drop (omega arith)) (rw take_rest at e) (rw take_rest at f)
    ∙ ap (λ k. run_pieces (i + 1) k bs (pieces_from zero (i + 1 + k) (drop k bs))) (sym same)
    ∙ ap (λ ds. run_pieces (i + 1) run bs (pieces_from zero (i + 1 + run) ds)) (drop-drop run i line)
    ∙ ap (λ k. run_pieces (i + 1) run bs (pieces_from zero k (drop (i + run) line))) place)

-- at the end
pub pieces_at-end : (line : List ℕ) (i : ℕ) → length line ≤ i → pieces_at line i ≡ []
pieces_at-end line i h = ap (λ bs. pieces_from zero (i + 1) bs) (drop_all i line h)
