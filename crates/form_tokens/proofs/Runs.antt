-- A text is cut in one way: what stands at its front, and then the rest.
use Rattle.std.proofs.Common.{◌≡◌, ℕ, zero, suc, ◌+◌, ◌-◌, ◌≤◌, ◌<◌, List, [], ◌∷◌, ◌++◌, All, Contains, Option, Some, None, refl, sym, ap, ◌∙◌, arith, Bool, true, false, not, ◌&&◌, cond, eqb, length, take, drop, subst, inl, inr, ◌⊎◌, ◌≢◌, add-zero}
use Rattle.std.proofs.lemmas.Bool.{leb-true, le-leb, and_parts, and_from}
use Rattle.std.proofs.lemmas.Bool.Decides.{eqb_tells}
use Rattle.std.proofs.lemmas.List.{append_assoc, length-take, length-drop, drop_all, take-append-drop}
use Rattle.std.proofs.lemmas.List.Elements.{All-contains, All-from_recursion}
use Rattle.std.proofs.lemmas.List.Folds.{list_all-append}
use Rattle.std.proofs.Math.Seq.{take-append_seam}
use Rattle.std.specs.Io.{StartsWith}
use Rattle.std.specs.List.{list_all}
use Rattle.std.specs.Str.{bytes_eq}
use Rattle.form_tokens.specs.declared.dialect.Dialect.{Dialect}
use Rattle.form_tokens.specs.declared.dialect.Dialect.TheVariants as dialects
use Rattle.form_tokens.specs.declared.token.Token.{Token}
use Rattle.form_tokens.specs.Words.{is_blank, begins_word, goes_on, word_length, longest_word, begins_with_word, is_word}
use Rattle.form_tokens.specs.Spelling.{Lexeme, Sign, Bad, Piece, piece_at, pieces, sign_at, sign_piece, word_lexeme}
use Rattle.form_tokens.specs.Signs.{common_signs, path_signs, signs, IsLongestSign}
use Rattle.form_tokens.specs.Runs.{IsApart, IsRun, bad_from, of_run, IsCut, nothing, a_blank, a_run, a_sign, a_bad_byte, CutsEachText, CutsInOneWay}
use Rattle.form_tokens.proofs.Pieces.{front-goes_on, goes_on-begins}
use Rattle.form_tokens.proofs.Signs.{IsLongestTaken, IsAbsent, All-signs, sign_at-Takes}

-- the bytes of a piece are passed over
pub pieces-passed : (d : Dialect) (w : Bool) (v rest : List ℕ) (at : ℕ) → pieces d (length v) w at (v ++ rest) ≡ pieces d zero w (at + length v) rest
pieces-passed d w [] rest at = rw add-zero
pieces-passed d w (b ∷ v) rest at = pieces-passed d w v rest (suc at) ∙ (let e : suc at + length v ≡ at + suc (length v) = omega arith in ap (λ k. pieces d zero w k rest) e)

-- after a word, what does not go on it is cut as anywhere
pub pieces-apart : (d : Dialect) (w : Bool) (rest : List ℕ) (at : ℕ) → IsApart rest → pieces d zero w at rest ≡ pieces d zero false at rest
pieces-apart d false rest at h = refl
pieces-apart d true [] at h = refl
pieces-apart d true (b ∷ bs) at h = rw h refl

-- the piece at the front, and then the rest
pub pieces-front : (d : Dialect) (b : ℕ) (v rest : List ℕ) (x : Lexeme) (at : ℕ) → is_blank b ≡ false → piece_at d (b ∷ (v ++ rest)) ≡ record { lexeme = x; size = suc (length v) } → pieces d zero false at (b ∷ (v ++ rest)) ≡ (at, x) ∷ pieces d zero (begins_word b) (at + suc (length v)) rest
pieces-front d b v rest x at blank piece =
    let size : suc (length v) - 1 ≡ length v = omega arith in
    let place : suc at + length v ≡ at + suc (length v) = omega arith in
    rw blank (ap (λ (p : Piece). (at, p.lexeme) ∷ pieces d (p.size - 1) (begins_word b) (suc at) (v ++ rest)) piece)
    ∙ ap (λ ls. (at, x) ∷ ls) (ap (λ k. pieces d k (begins_word b) (suc at) (v ++ rest)) size ∙ pieces-passed d (begins_word b) v rest (suc at) ∙ ap (λ k. pieces d zero (begins_word b) k rest) place)

-- a byte that begins a word is no blank
pub begins_word-blank : (b : ℕ) → begins_word b ≡ true → is_blank b ≡ false
begins_word-blank b h = go (eqb_tells b 32) (eqb_tells b 9)
  where
    go : ((eqb b 32 ≡ true) × (b ≡ 32)) ⊎ ((eqb b 32 ≡ false) × (b ≢ 32)) → ((eqb b 9 ≡ true) × (b ≡ 9)) ⊎ ((eqb b 9 ≡ false) × (b ≢ 9)) → is_blank b ≡ false
    go (inl e) _ = let k : begins_word 32 ≡ true = subst (λ c. begins_word c ≡ true) e.1 h in cc
    go (inr e) (inl f) = let k : begins_word 9 ≡ true = subst (λ c. begins_word c ≡ true) f.1 h in cc
    go (inr e) (inr f) = rw (e.0, f.0) refl

-- a word of at most so many bytes ends where what follows does not go on it, or where no more are looked at
word_length-ends : (m : ℕ) (v rest : List ℕ) → list_all goes_on v ≡ true → length v ≤ m → (length v < m → IsApart rest) → word_length (take m (v ++ rest)) ≡ length v
word_length-ends zero [] rest every room h = refl
word_length-ends (suc m) [] [] every room h = refl
word_length-ends (suc m) [] (b ∷ bs) every room h = let apart : goes_on b ≡ false = h (omega arith) in rw apart refl
word_length-ends zero (b ∷ v) rest every room h = absurd (omega arith)
word_length-ends (suc m) (b ∷ v) rest every room h =
    let on : goes_on b ≡ true = (and_parts _ _ every).0 in
    rw on (ap suc (word_length-ends m v rest (and_parts (goes_on b) _ every).1 (omega arith) (λ lt. h (omega (arith, lt)))))

word_piece : (a : Bool) (d : Dialect) (bs w : List ℕ) (n m : ℕ) → a ≡ true → n ≡ m → take m bs ≡ w → ◌≡◌ {A = Piece} (cond a (record { lexeme = word_lexeme d (take n bs); size = n }) (sign_piece (sign_at d bs))) (record { lexeme = word_lexeme d w; size = m })
word_piece a d bs w n m begins e front = rw (begins, e, front) refl

-- the piece at the front is a word that ends there, or that is as long as one may be
pub piece_at-word : (d : Dialect) (b : ℕ) (v rest : List ℕ) → is_word (b ∷ v) ≡ true → (length (b ∷ v) < longest_word → IsApart rest) → piece_at d (b ∷ (v ++ rest)) ≡ record { lexeme = word_lexeme d (b ∷ v); size = suc (length v) }
piece_at-word d b v rest word h =
    let both = (and_parts _ _ word).0 in
    let begins : begins_word b ≡ true = (and_parts _ _ both).0 in
    let every : list_all goes_on (b ∷ v) ≡ true = (and_parts (begins_word b) _ both).1 in
    let short : length (b ∷ v) ≤ longest_word = leb-true _ _ (and_parts (begins_word b && list_all goes_on (b ∷ v)) _ word).1 in
    let size : word_length (take longest_word (b ∷ (v ++ rest))) ≡ suc (length v) = word_length-ends longest_word (b ∷ v) rest every short h in
    word_piece (begins_word b) d (b ∷ (v ++ rest)) (b ∷ v) _ (suc (length v)) begins size (take-append_seam (b ∷ v) rest)

-- the bytes that go on right behind a word are bad, and behind them the text is cut as anywhere
pieces-behind : (d : Dialect) (at : ℕ) (tail rest : List ℕ) → list_all goes_on tail ≡ true → IsApart rest → pieces d zero true at (tail ++ rest) ≡ bad_from at tail ++ pieces d zero false (at + length tail) rest
pieces-behind d at [] rest every ends = pieces-apart d true rest at ends ∙ (let e : at ≡ at + 0 = omega arith in ap (λ k. pieces d zero false k rest) e)
pieces-behind d at (b ∷ tail) rest every ends =
    let on : goes_on b ≡ true = (and_parts _ _ every).0 in
    let place : suc at + length tail ≡ at + suc (length tail) = omega arith in
    rw on (ap (λ ls. (at, Bad) ∷ ls) (pieces-behind d (suc at) tail rest (and_parts (goes_on b) _ every).1 ends ∙ ap (λ k. bad_from (suc at) tail ++ pieces d zero false k rest) place))

-- a word, the bytes that go on behind it, and then the rest
pieces-word : (d : Dialect) (at : ℕ) (word tail rest : List ℕ) → is_word word ≡ true → (length word < longest_word → IsApart (tail ++ rest)) → list_all goes_on tail ≡ true → IsApart rest
    → pieces d zero false at (word ++ (tail ++ rest)) ≡ (at, word_lexeme d word) ∷ (bad_from (at + length word) tail ++ pieces d zero false (at + length word + length tail) rest)
pieces-word d at [] tail rest word h every ends = cc
pieces-word d at (b ∷ v) tail rest word h every ends =
    let begins : begins_word b ≡ true = (and_parts _ _ (and_parts _ _ word).0).0 in
    pieces-front d b v (tail ++ rest) (word_lexeme d (b ∷ v)) at (begins_word-blank b begins) (piece_at-word d b v (tail ++ rest) word h)
    ∙ ap (λ w. (at, word_lexeme d (b ∷ v)) ∷ pieces d zero w (at + suc (length v)) (tail ++ rest)) begins
    ∙ ap (λ ls. (at, word_lexeme d (b ∷ v)) ∷ ls) (pieces-behind d (at + suc (length v)) tail rest every ends)

-- a short list ends before so many items
short-append : (n : ℕ) (xs rest : List ℕ) → length (take n xs) < n → IsApart rest → IsApart (drop n xs ++ rest)
short-append n xs rest lt ends =
    let short : length xs ≤ n = omega (arith, lt, length-take n xs) in
    rw (drop_all n xs short) ends

begins-take : (n : ℕ) (bs : List ℕ) → 0 < n → begins_with_word bs ≡ true → begins_with_word (take n bs) ≡ true
begins-take zero bs p h = absurd (omega arith)
begins-take (suc n) [] p h = cc
begins-take (suc n) (b ∷ bs) p h = h

-- a whole run is a word of its first 64 bytes and bad bytes
pub pieces-run : (d : Dialect) (at : ℕ) (bytes rest : List ℕ) → IsRun bytes rest → pieces d zero false at (bytes ++ rest) ≡ of_run d at bytes ++ pieces d zero false (at + length bytes) rest
pieces-run d at bytes rest r =
    let word = take longest_word bytes in
    let tail = drop longest_word bytes in
    let whole : word ++ tail ≡ bytes = take-append-drop longest_word bytes in
    let every : (list_all goes_on word && list_all goes_on tail) ≡ true = sym (list_all-append goes_on word tail) ∙ ap (list_all goes_on) whole ∙ r.every in
    let parts = and_parts (list_all goes_on word) (list_all goes_on tail) every in
    let begins = begins-take longest_word bytes (omega arith) r.begins in
    let short = le-leb (length word) longest_word (omega (arith, length-take longest_word bytes)) in
    let is = and_from _ _ (and_from _ _ begins parts.0) short in
    let place : at + length word + length tail ≡ at + length bytes = omega (arith, length-take longest_word bytes, length-drop longest_word bytes) in
    ap (λ bs. pieces d zero false at (bs ++ rest)) (sym whole)
    ∙ ap (λ bs. pieces d zero false at bs) (append_assoc word tail rest)
    ∙ pieces-word d at word tail rest is (λ lt. short-append longest_word bytes rest lt r.ends) parts.1 r.ends
    ∙ ap (λ k. (at, word_lexeme d word) ∷ (bad_from (at + length word) tail ++ pieces d zero false k rest)) place

-- the token of a sign
abbrev token_in : List (List ℕ × Token) → List ℕ → Option Token
token_in [] bytes = None
token_in (s ∷ ss) bytes = cond (bytes_eq s.0 bytes) (Some s.1) (token_in ss bytes)

-- each sign stands once in its table, and begins with a byte that begins no word and is no blank
abbrev begins_apart : List ℕ → Bool
begins_apart [] = false
begins_apart (b ∷ bs) = not (begins_word b) && not (is_blank b)

record IsEntry (s : List ℕ × Token) : Type 0 where
  token : token_in (signs dialects.Ldlf) s.0 ≡ Some s.1
  apart : begins_apart s.0 ≡ true

is_entry : (s : List ℕ × Token) → token_in (signs dialects.Ldlf) s.0 ≡ Some s.1 → begins_apart s.0 ≡ true → IsEntry s
is_entry s t a = record { token = t; apart = a }

entries : (d : Dialect) → All IsEntry (signs d)
entries d =
    All-signs IsEntry d
    (All-from_recursion IsEntry common_signs (is_entry _ refl refl, (is_entry _ refl refl, (is_entry _ refl refl, (is_entry _ refl refl, (is_entry _ refl refl, (is_entry _ refl refl, (is_entry _ refl refl, (is_entry _ refl refl, (is_entry _ refl refl, (is_entry _ refl refl, tt)))))))))))
    (All-from_recursion IsEntry path_signs (is_entry _ refl refl, (is_entry _ refl refl, (is_entry _ refl refl, (is_entry _ refl refl, (is_entry _ refl refl, (is_entry _ refl refl, (is_entry _ refl refl, (is_entry _ refl refl, (is_entry _ refl refl, (is_entry _ refl refl, tt)))))))))))

entry : (d : Dialect) (bytes : List ℕ) (t : Token) → Contains (signs d) (bytes, t) → IsEntry (bytes, t)
entry d bytes t h = All-contains IsEntry (signs d) (bytes, t) (entries d) h

-- so many bytes at the front are at the front
starts-take : (bs : List ℕ) (n : ℕ) → n ≤ length bs → StartsWith bs (take n bs)
starts-take bs n h = let e : length (take n bs) ≡ n = omega (arith, length-take n bs) in ap (λ k. take k bs) e

-- the longest sign at the front is the one that is taken
sign_at-longest : (d : Dialect) (bs : List ℕ) (t : Token) (n : ℕ) → IsLongestSign d bs t n → sign_at d bs ≡ Some (t, n)
sign_at-longest d bs t n l = go (sign_at d bs) (sign_at-Takes d bs).longest
  where
    go : (taken : Option (Token × ℕ)) → IsLongestTaken d bs taken → taken ≡ Some (t, n)
    go None h = absurd (All-contains (IsAbsent bs) (signs d) (take n bs, t) h l.listed (starts-take bs n l.within))
    go (Some (u, m)) h =
        let up = All-contains (λ s. StartsWith bs s.0 → length s.0 ≤ m) (signs d) (take n bs, t) h.longest l.listed (starts-take bs n l.within) in
        let down = All-contains (λ s. StartsWith bs s.0 → length s.0 ≤ n) (signs d) (take m bs, u) l.longest h.listed (starts-take bs m h.within) in
        let same : m ≡ n = omega (arith, up, down, length-take n bs, length-take m bs, l.within, h.within) in
        let first = (entry d (take n bs) t l.listed).token in
        let second = (entry d (take m bs) u h.listed).token in
        let tokens : Some u ≡ Some t = sym second ∙ ap (λ k. token_in (signs dialects.Ldlf) (take k bs)) same ∙ first in
        cc

-- where no sign is at the front, none is taken
sign_at-absent : (d : Dialect) (bs : List ℕ) → All (IsAbsent bs) (signs d) → sign_at d bs ≡ None
sign_at-absent d bs absent = go (sign_at d bs) (sign_at-Takes d bs).longest
  where
    go : (taken : Option (Token × ℕ)) → IsLongestTaken d bs taken → taken ≡ None
    go None h = refl
    go (Some (u, m)) h = absurd (All-contains (IsAbsent bs) (signs d) (take m bs, u) absent h.listed (starts-take bs m h.within))

not-true : (b : Bool) → not b ≡ true → b ≡ false
not-true true h = cc
not-true false h = refl

sign_front : (d : Dialect) (b : ℕ) (bs : List ℕ) (taken : Option (Token × ℕ)) → begins_word b ≡ false → sign_at d (b ∷ bs) ≡ taken → piece_at d (b ∷ bs) ≡ sign_piece taken
sign_front d b bs taken begins e = rw (begins, e) refl

-- a longest sign, and then the rest
pub pieces-sign : (d : Dialect) (at : ℕ) (bytes rest : List ℕ) (t : Token) → IsLongestSign d (bytes ++ rest) t (length bytes) → pieces d zero false at (bytes ++ rest) ≡ (at, Sign t) ∷ pieces d zero false (at + length bytes) rest
pieces-sign d at bytes rest t l = go bytes (subst (λ bs. IsEntry (bs, t)) (take-append_seam bytes rest) (entry d (take (length bytes) (bytes ++ rest)) t l.listed)) l
  where
    go : (bytes : List ℕ) → IsEntry (bytes, t) → IsLongestSign d (bytes ++ rest) t (length bytes) → pieces d zero false at (bytes ++ rest) ≡ (at, Sign t) ∷ pieces d zero false (at + length bytes) rest
    go [] e k = let no = e.apart in cc
    go (b ∷ v) e k =
        let both = and_parts (not (begins_word b)) (not (is_blank b)) e.apart in
        let begins = not-true (begins_word b) both.0 in
        let blank = not-true (is_blank b) both.1 in
        let taken = sign_at-longest d (b ∷ (v ++ rest)) t (suc (length v)) k in
        pieces-front d b v rest (Sign t) at blank (sign_front d b (v ++ rest) _ begins taken)
        ∙ ap (λ w. (at, Sign t) ∷ pieces d zero w (at + suc (length v)) rest) begins

-- a byte at which neither a word nor a sign begins, and then the rest
pub pieces-bad : (d : Dialect) (at b : ℕ) (rest : List ℕ) → is_blank b ≡ false → begins_word b ≡ false → All (IsAbsent (b ∷ rest)) (signs d) → pieces d zero false at (b ∷ rest) ≡ (at, Bad) ∷ pieces d zero false (suc at) rest
pieces-bad d at b rest blank begins absent =
    pieces-front d b [] rest Bad at blank (sign_front d b rest None begins (sign_at-absent d (b ∷ rest) absent))
    ∙ (let e : at + 1 ≡ suc at = omega arith in ap (λ k. (at, Bad) ∷ pieces d zero (begins_word b) k rest) e)
    ∙ ap (λ w. (at, Bad) ∷ pieces d zero w (suc at) rest) begins

-- a blank is passed over
pieces-blank : (d : Dialect) (at b : ℕ) (rest : List ℕ) → is_blank b ≡ true → pieces d zero false at (b ∷ rest) ≡ pieces d zero false (suc at) rest
pieces-blank d at b rest h = rw h refl

-- a text is cut in no other way
cut-one : (d : Dialect) {at : ℕ} {text : List ℕ} {ls : List (ℕ × Lexeme)} → IsCut d at text ls → ls ≡ pieces d zero false at text
cut-one d nothing = refl
cut-one d (a_blank {at} {b} {rest} {ls} e c) = cut-one d c ∙ sym (pieces-blank d at b rest e)
cut-one d (a_run {at} bytes {rest} {ls} r c) = ap (λ ks. of_run d at bytes ++ ks) (cut-one d c) ∙ sym (pieces-run d at bytes rest r)
cut-one d (a_sign {at} bytes {rest} {t} {ls} l c) = ap (λ ks. (at, Sign t) ∷ ks) (cut-one d c) ∙ sym (pieces-sign d at bytes rest t l)
cut-one d (a_bad_byte {at} {b} {rest} {ls} blank begins absent c) = ap (λ ks. (at, Bad) ∷ ks) (cut-one d c) ∙ sym (pieces-bad d at b rest blank begins absent)

pub cuts-one : CutsInOneWay
cuts-one d text ls c = cut-one d c

-- behind the bytes that go on, none does
run-ends : (bs : List ℕ) → IsApart (drop (word_length bs) bs)
run-ends [] = tt
run-ends (b ∷ bs) = go (goes_on b) refl (run-ends bs)
  where
    go : (c : Bool) → goes_on b ≡ c → IsApart (drop (word_length bs) bs) → IsApart (drop (cond c (suc (word_length bs)) 0) (b ∷ bs))
    go true e h = h
    go false e h = e

-- so many items of any text are cut
abbrev Cuts : Dialect → ℕ → Type 0
Cuts d n = (at : ℕ) (text : List ℕ) → length text ≤ n → IsCut d at text (pieces d zero false at text)

-- what stands at the front, by the text behind it
cut-blank : (d : Dialect) (n at b : ℕ) (rest : List ℕ) → is_blank b ≡ true → length rest ≤ n → Cuts d n → IsCut d at (b ∷ rest) (pieces d zero false at (b ∷ rest))
cut-blank d n at b rest e h cuts = subst (IsCut d at (b ∷ rest)) (sym (pieces-blank d at b rest e)) (a_blank e (cuts (suc at) rest h))

cut-run : (d : Dialect) (n at b : ℕ) (bs : List ℕ) → begins_word b ≡ true → length bs ≤ n → Cuts d n → IsCut d at (b ∷ bs) (pieces d zero false at (b ∷ bs))
cut-run d n at b bs begins h cuts =
    let on = goes_on-begins b begins in
    let size = suc (word_length bs) in
    let is : word_length (b ∷ bs) ≡ size = rw on refl in
    let bytes = take size (b ∷ bs) in
    let rest = drop size (b ∷ bs) in
    let every : list_all goes_on bytes ≡ true = subst (λ m. list_all goes_on (take m (b ∷ bs)) ≡ true) is (front-goes_on (b ∷ bs)) in
    let ends : IsApart rest = subst (λ m. IsApart (drop m (b ∷ bs))) is (run-ends (b ∷ bs)) in
    let r : IsRun bytes rest = record { begins = begins; every = every; ends = ends } in
    let few : length rest ≤ n = omega (arith, h, length-drop size (b ∷ bs)) in
    let cut = subst (IsCut d at (bytes ++ rest)) (sym (pieces-run d at bytes rest r)) (a_run bytes r (cuts (at + length bytes) rest few)) in
    subst (λ text. IsCut d at text (pieces d zero false at text)) (take-append-drop size (b ∷ bs)) cut

cut-sign : (d : Dialect) (n at : ℕ) (text : List ℕ) (t : Token) (m : ℕ) → IsLongestSign d text t m → length text ≤ suc n → Cuts d n → IsCut d at text (pieces d zero false at text)
cut-sign d n at text t m l h cuts =
    let bytes = take m text in
    let rest = drop m text in
    let size : length bytes ≡ m = omega (arith, l.within, length-take m text) in
    let whole : bytes ++ rest ≡ text = take-append-drop m text in
    let longest : IsLongestSign d (bytes ++ rest) t (length bytes) = rw (whole, size) l in
    let some : 0 < length bytes = apart-some bytes (entry d bytes t l.listed).apart in
    let few : length rest ≤ n = omega (arith, h, some, size, length-drop m text) in
    let cut = subst (IsCut d at (bytes ++ rest)) (sym (pieces-sign d at bytes rest t longest)) (a_sign bytes longest (cuts (at + length bytes) rest few)) in
    subst (λ bs. IsCut d at bs (pieces d zero false at bs)) whole cut
  where
    apart-some : (bytes : List ℕ) → begins_apart bytes ≡ true → 0 < length bytes
    apart-some [] e = cc
    apart-some (b ∷ bs) e = omega arith

cut-step : (d : Dialect) (n at b : ℕ) (bs : List ℕ) → length bs ≤ n → Cuts d n → IsCut d at (b ∷ bs) (pieces d zero false at (b ∷ bs))
cut-step d n at b bs h cuts = go (is_blank b) (begins_word b) refl refl
  where
    other : is_blank b ≡ false → begins_word b ≡ false → (taken : Option (Token × ℕ)) → IsLongestTaken d (b ∷ bs) taken → IsCut d at (b ∷ bs) (pieces d zero false at (b ∷ bs))
    other blank begins (Some (t, m)) l = cut-sign d n at (b ∷ bs) t m l (omega (arith, h)) cuts
    other blank begins None l = subst (IsCut d at (b ∷ bs)) (sym (pieces-bad d at b bs blank begins l)) (a_bad_byte blank begins l (cuts (suc at) bs h))

    go : (blank begins : Bool) → is_blank b ≡ blank → begins_word b ≡ begins → IsCut d at (b ∷ bs) (pieces d zero false at (b ∷ bs))
    go true _ e f = cut-blank d n at b bs e h cuts
    go false true e f = cut-run d n at b bs f h cuts
    go false false e f = other e f (sign_at d (b ∷ bs)) (sign_at-Takes d (b ∷ bs)).longest

cut-each : (d : Dialect) (n : ℕ) → Cuts d n
cut-each d n at [] h = nothing
cut-each d zero at (b ∷ bs) h = absurd (omega arith)
cut-each d (suc n) at (b ∷ bs) h = cut-step d n at b bs (omega arith) (cut-each d n)

pub cuts-each : CutsEachText
cuts-each d text = cut-each d (length text) 1 text (omega arith)
