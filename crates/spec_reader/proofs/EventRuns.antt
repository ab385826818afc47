-- An event line is cut in one way: what stands at its front, and then the rest.
use Rattle.std.proofs.Common.{◌≡◌, ℕ, zero, suc, ◌+◌, ◌<◌, ◌≤◌, inl, inr, min, List, [], ◌∷◌, ◌++◌, length, take, drop, Bool, true, false, cond, refl, sym, ap, ◌∙◌, subst, arith}
use Rattle.std.specs.List.{list_all}
use Rattle.std.proofs.Math.Seq.{take-append_seam}
use Rattle.std.proofs.lemmas.Bool.{and_parts, cases_lt, lt-ltb, le-ltb}
use Rattle.std.proofs.lemmas.List.{length-take, length-drop, drop_all, take_all, take-append-drop, take-append-le}
use Rattle.form_tokens.specs.Words.{is_blank, begins_word, goes_on, word_length, longest_word}
use Rattle.form_tokens.specs.Runs.{IsApart, IsRun}
use Rattle.form_tokens.proofs.Pieces.{front-goes_on, goes_on-begins}
use Rattle.form_tokens.proofs.Runs.{begins_word-blank}
use Rattle.spec_reader.specs.Event.{Piece, Word, Stray, run_pieces, pieces_from}
use Rattle.spec_reader.specs.EventPieces.{stray_behind, of_run, IsEventCut, nothing, a_blank, a_run, a_stray_byte, CutsEachLine, CutsLinesInOneWay}
use Rattle.spec_reader.proofs.Pieces.{pieces_from-word}

-- a run is as long as its bytes go on
run-length : (v rest : List ℕ) → list_all goes_on v ≡ true → IsApart rest → word_length (v ++ rest) ≡ length v
run-length [] [] every apart = refl
run-length [] (b ∷ bs) every apart = rw apart refl
run-length (b ∷ v) rest every apart =
    let on : goes_on b ≡ true = (and_parts _ _ every).0 in
    rw on (ap suc (run-length v rest (and_parts (goes_on b) _ every).1 apart))

stray-some : (at : ℕ) (bs : List ℕ) → 0 < length bs → stray_behind at bs ≡ Stray at ∷ []
stray-some at [] some = absurd (omega arith)
stray-some at (b ∷ bs) some = refl

-- the word of a run, and what is stray behind it
run-pieces : (at : ℕ) (bytes rest : List ℕ) (ps : List Piece) → run_pieces at (length bytes) (bytes ++ rest) ps ≡ of_run at bytes ++ ps
run-pieces at bytes rest ps = elim (cases_lt longest_word (length bytes)) [
  | inl long ↦
      let size : min (length bytes) longest_word ≡ longest_word = omega (arith, long) in
      let word : take (min (length bytes) longest_word) (bytes ++ rest) ≡ take longest_word bytes =
      ap (λ n. take n (bytes ++ rest)) size ∙ take-append-le longest_word bytes rest (omega (arith, long)) in
      let place : at + longest_word ≡ at + length (take longest_word bytes) = omega (arith, long, length-take longest_word bytes) in
      rw (word, lt-ltb longest_word (length bytes) long, stray-some (at + length (take longest_word bytes)) (drop longest_word bytes) (omega (arith, long, length-drop longest_word bytes)))
      (ap (λ k. Word at (take longest_word bytes) ∷ (Stray k ∷ ps)) place)
  | inr short ↦
      let size : min (length bytes) longest_word ≡ length bytes = omega (arith, short) in
      let word : take (min (length bytes) longest_word) (bytes ++ rest) ≡ bytes = ap (λ n. take n (bytes ++ rest)) size ∙ take-append_seam bytes rest in
      rw (word, le-ltb longest_word (length bytes) short, take_all longest_word bytes short, drop_all longest_word bytes short) refl
]

-- the bytes of a run are passed over
run-passed : (v rest : List ℕ) → drop (length v) (v ++ rest) ≡ rest
run-passed [] rest = refl
run-passed (b ∷ v) rest = run-passed v rest

-- a whole run, and then the rest
cut-front : (at : ℕ) (bytes rest : List ℕ) → IsRun bytes rest → pieces_from zero at (bytes ++ rest) ≡ of_run at bytes ++ pieces_from zero (at + length bytes) rest
cut-front at [] rest r = let no = r.begins in cc
cut-front at (b ∷ v) rest r =
    let begins : begins_word b ≡ true = r.begins in
    let size : word_length (b ∷ (v ++ rest)) ≡ suc (length v) = run-length (b ∷ v) rest r.every r.ends in
    pieces_from-word at (b ∷ (v ++ rest)) (omega arith) (begins_word-blank b begins) begins
    ∙ ap (λ n. run_pieces at n (b ∷ (v ++ rest)) (pieces_from zero (at + n) (drop n (b ∷ (v ++ rest))))) size
    ∙ ap (λ bs. run_pieces at (suc (length v)) (b ∷ (v ++ rest)) (pieces_from zero (at + suc (length v)) bs)) (run-passed v rest)
    ∙ run-pieces at (b ∷ v) rest (pieces_from zero (at + suc (length v)) rest)

blank-front : (at b : ℕ) (rest : List ℕ) → is_blank b ≡ true → pieces_from zero at (b ∷ rest) ≡ pieces_from zero (suc at) rest
blank-front at b rest h = rw h refl

stray-front : (at b : ℕ) (rest : List ℕ) → is_blank b ≡ false → begins_word b ≡ false → pieces_from zero at (b ∷ rest) ≡ Stray at ∷ pieces_from zero (suc at) rest
stray-front at b rest h k = rw (h, k) refl

-- a line is cut in no other way
cut-one : {at : ℕ} {line : List ℕ} {ps : List Piece} → IsEventCut at line ps → ps ≡ pieces_from zero at line
cut-one nothing = refl
cut-one (a_blank {at} {b} {rest} {ps} e c) = cut-one c ∙ sym (blank-front at b rest e)
cut-one (a_run {at} bytes {rest} {ps} r c) = ap (λ qs. of_run at bytes ++ qs) (cut-one c) ∙ sym (cut-front at bytes rest r)
cut-one (a_stray_byte {at} {b} {rest} {ps} e f c) = ap (λ qs. Stray at ∷ qs) (cut-one c) ∙ sym (stray-front at b rest e f)

pub cuts-lines-one : CutsLinesInOneWay
cuts-lines-one line ps c = cut-one c

-- behind the bytes that go on, none does
run-ends : (bs : List ℕ) → IsApart (drop (word_length bs) bs)
run-ends [] = tt
run-ends (b ∷ bs) = go (goes_on b) refl (run-ends bs)
  where
    go : (c : Bool) → goes_on b ≡ c → IsApart (drop (word_length bs) bs) → IsApart (drop (cond c (suc (word_length bs)) 0) (b ∷ bs))
    go true e h = h
    go false e h = e

-- so many bytes of any line are cut
abbrev Cuts : ℕ → Type 0
Cuts n = (at : ℕ) (line : List ℕ) → length line ≤ n → IsEventCut at line (pieces_from zero at line)

cut-run : (n at b : ℕ) (bs : List ℕ) → begins_word b ≡ true → length bs ≤ n → Cuts n → IsEventCut at (b ∷ bs) (pieces_from zero at (b ∷ bs))
cut-run n at b bs begins h cuts =
    let on = goes_on-begins b begins in
    let size = suc (word_length bs) in
    let is : word_length (b ∷ bs) ≡ size = rw on refl in
    let bytes = take size (b ∷ bs) in
    let rest = drop size (b ∷ bs) in
    let every : list_all goes_on bytes ≡ true = subst (λ m. list_all goes_on (take m (b ∷ bs)) ≡ true) is (front-goes_on (b ∷ bs)) in
    let ends : IsApart rest = subst (λ m. IsApart (drop m (b ∷ bs))) is (run-ends (b ∷ bs)) in
    let r : IsRun bytes rest = record { begins = begins; every = every; ends = ends } in
    let few : length rest ≤ n = omega (arith, h, length-drop size (b ∷ bs)) in
    let cut = subst (IsEventCut at (bytes ++ rest)) (sym (cut-front at bytes rest r)) (a_run bytes r (cuts (at + length bytes) rest few)) in
    subst (λ line. IsEventCut at line (pieces_from zero at line)) (take-append-drop size (b ∷ bs)) cut

cut-step : (n at b : ℕ) (bs : List ℕ) → length bs ≤ n → Cuts n → IsEventCut at (b ∷ bs) (pieces_from zero at (b ∷ bs))
cut-step n at b bs h cuts = go (is_blank b) (begins_word b) refl refl
  where
    go : (blank begins : Bool) → is_blank b ≡ blank → begins_word b ≡ begins → IsEventCut at (b ∷ bs) (pieces_from zero at (b ∷ bs))
    go true _ e f = subst (IsEventCut at (b ∷ bs)) (sym (blank-front at b bs e)) (a_blank e (cuts (suc at) bs h))
    go false true e f = cut-run n at b bs f h cuts
    go false false e f = subst (IsEventCut at (b ∷ bs)) (sym (stray-front at b bs e f)) (a_stray_byte e f (cuts (suc at) bs h))

cut-each : (n : ℕ) → Cuts n
cut-each n at [] h = nothing
cut-each zero at (b ∷ bs) h = absurd (omega arith)
cut-each (suc n) at (b ∷ bs) h = cut-step n at b bs (omega arith) (cut-each n)

pub cuts-lines-each : CutsEachLine
cuts-lines-each line = cut-each (length line) 1 line (omega arith)
