-- How a text is cut, piece by piece, where each piece is known.
use Rattle.std.proofs.Common.{◌≡◌, ℕ, zero, suc, ◌+◌, List, [], ◌∷◌, ◌++◌, Some, refl, sym, ap, ◌∙◌, true, false, eqb, length, subst, inl, inr, ◌⊎◌, ◌≢◌}
use Rattle.std.proofs.lemmas.Bool.{and_parts, or_parts}
use Rattle.std.proofs.lemmas.Bool.Decides.{eqb_tells}
use Rattle.form_tokens.specs.declared.dialect.Dialect.{Dialect}
use Rattle.form_tokens.specs.declared.token.Token.{Token}
use Rattle.form_tokens.specs.Words.{is_blank, begins_word, goes_on, is_word}
use Rattle.form_tokens.specs.Spelling.{Lexeme, Sign, Word, Bad, Piece, piece_at, pieces, sign_at, word_lexeme}
use Rattle.form_tokens.specs.Names.{is_listed}
use Rattle.form_tokens.specs.Runs.{IsApart}
use Rattle.form_tokens.proofs.Runs.{pieces-apart, pieces-front, begins_word-blank, piece_at-word}
use Rattle.form_reader.specs.Faults.{token_of}
use Rattle.form_reader.specs.Reading.{tokens}

-- a token, or a name of the table
abbrev pub IsKnown : List (List ℕ) → Lexeme → Type 0
IsKnown ns (Sign t) = Unit {0}
IsKnown ns (Word w) = is_listed ns w ≡ true
IsKnown ns Bad = ⊥

-- all lexemes are known
abbrev pub AreKnown : List (List ℕ) → List (ℕ × Lexeme) → Type 0
AreKnown ns [] = Unit {0}
AreKnown ns (l ∷ ls) = IsKnown ns l.1 × AreKnown ns ls

-- the text is cut into these tokens, whose names are in the table
pub record Gives (d : Dialect) (ns : List (List ℕ)) (text : List ℕ) (ts : List Token) : Type 0 where
  pub known : (at : ℕ) → AreKnown ns (pieces d zero false at text)
  pub tokens : (at : ℕ) → tokens ns (pieces d zero false at text) ≡ ts

tokens-known : (ns : List (List ℕ)) (at : ℕ) (x : Lexeme) (ls : List (ℕ × Lexeme)) → IsKnown ns x → tokens ns ((at, x) ∷ ls) ≡ token_of ns x ∷ tokens ns ls
tokens-known ns at (Sign t) ls h = refl
tokens-known ns at (Word w) ls h = rw h refl
tokens-known ns at Bad ls h = absurd h

-- one more lexeme at the front
Gives-lexeme : {d : Dialect} {ns : List (List ℕ)} {rest : List ℕ} {ts : List Token} (text : List ℕ) (x : Lexeme) (t : Token) (n : ℕ) → ((at : ℕ) → pieces d zero false at text ≡ (at, x) ∷ pieces d zero false (at + n) rest)
    → IsKnown ns x → token_of ns x ≡ t → Gives d ns rest ts → Gives d ns text (t ∷ ts)
Gives-lexeme {d} {ns} {rest} {ts} text x t n cut known is g = record {
  known = λ at. subst (AreKnown ns) (sym (cut at)) (known, g.known (at + n));
  tokens = λ at. ap (tokens ns) (cut at) ∙ tokens-known ns at x (pieces d zero false (at + n) rest) known ∙ rw (is, g.tokens (at + n)) refl;
}

-- an equal text is cut into the same tokens
pub Gives-same : {d : Dialect} {ns : List (List ℕ)} {text other : List ℕ} {ts : List Token} → other ≡ text → Gives d ns text ts → Gives d ns other ts
Gives-same {d} {ns} {text} {other} {ts} e g = subst (λ bs. Gives d ns bs ts) (sym e) g

-- the empty text has no tokens
pub Gives-nothing : (d : Dialect) (ns : List (List ℕ)) → Gives d ns [] []
Gives-nothing d ns = record { known = λ at. tt; tokens = λ at. refl }

-- a space means nothing
pub Gives-blank : {d : Dialect} {ns : List (List ℕ)} {rest : List ℕ} {ts : List Token} → Gives d ns rest ts → Gives d ns (32 ∷ rest) ts
Gives-blank g = record { known = λ at. g.known (suc at); tokens = λ at. g.tokens (suc at) }

-- a sign at the front
pub Gives-sign : {d : Dialect} {ns : List (List ℕ)} {rest : List ℕ} {ts : List Token} (b : ℕ) (v : List ℕ) (t : Token) → goes_on b ≡ false → is_blank b ≡ false → sign_at d (b ∷ (v ++ rest)) ≡ Some (t, suc (length v)) → Gives d ns rest ts → Gives d ns (b ∷ (v ++ rest)) (t ∷ ts)
Gives-sign {d} {ns} {rest} {ts} b v t apart blank sign g =
    let begins : begins_word b ≡ false = (or_parts _ _ apart).0 in
    let piece : piece_at d (b ∷ (v ++ rest)) ≡ record { lexeme = Sign t; size = suc (length v) } = rw (begins, sign) refl in
    Gives-lexeme (b ∷ (v ++ rest)) (Sign t) t (suc (length v)) (λ at. pieces-front d b v rest (Sign t) at blank piece ∙ ap (λ w. (at, Sign t) ∷ pieces d zero w (at + suc (length v)) rest) begins) tt refl g

-- a byte that begins a word is none that begins no word
pub begins_word-other : (b c : ℕ) → begins_word b ≡ true → begins_word c ≡ false → eqb b c ≡ false
begins_word-other b c h k = go (eqb_tells b c)
  where
    go : ((eqb b c ≡ true) × (b ≡ c)) ⊎ ((eqb b c ≡ false) × (b ≢ c)) → eqb b c ≡ false
    go (inl e) = let d : begins_word c ≡ true = subst (λ x. begins_word x ≡ true) e.1 h in cc
    go (inr e) = e.0

same_piece : (x y : Lexeme) (m n : ℕ) → x ≡ y → m ≡ n → ◌≡◌ {A = Piece} (record { lexeme = x; size = m }) (record { lexeme = y; size = n })
same_piece x y m n e d = rw (e, d) refl

-- a word at the front
pub Gives-word : {d : Dialect} {ns : List (List ℕ)} {rest : List ℕ} {ts : List Token} (v : List ℕ) (x : Lexeme) (t : Token) → is_word v ≡ true → word_lexeme d v ≡ x → IsKnown ns x → token_of ns x ≡ t → IsApart rest → Gives d ns rest ts → Gives d ns (v ++ rest) (t ∷ ts)
Gives-word [] x t word lexeme known is h g = cc
Gives-word {d} {ns} {rest} {ts} (b ∷ v) x t word lexeme known is h g =
    let blank : is_blank b ≡ false = begins_word-blank b (and_parts _ _ (and_parts _ _ word).0).0 in
    let piece = piece_at-word d b v rest word (λ _. h) ∙ same_piece _ _ (suc (length v)) _ lexeme refl in
    Gives-lexeme (b ∷ (v ++ rest)) x t (suc (length v)) (λ at. pieces-front d b v rest x at blank piece ∙ ap (λ ls. (at, x) ∷ ls) (pieces-apart d (begins_word b) rest (at + suc (length v)) h)) known is g
