-- What a text that was read says of its formula and of the names.
use Rattle.std.proofs.Common.{◌≡◌, ℕ, zero, suc, ◌+◌, ◌-◌, ◌^◌, ◌≤◌, ◌<◌, List, [], ◌∷◌, ◌++◌, Option, Some, None, Result, Ok, Err, refl, sym, ap, ◌∙◌, arith, Bool, true, false, ◌&&◌, ◌||◌, ◌==◌, cond, not, nat_le, leb, length, take, append_assoc, append-nil, slice_index, codes, inl, inr, ◌⊎◌}
use Rattle.std.proofs.lemmas.Bool.Decides.{leb_tells}
use Rattle.std.proofs.lemmas.List.{length-append}
use Rattle.std.specs.Option.{is_some}
use Rattle.std.specs.Result.{OnOk, IfErr, IfOk}
use Rattle.std.specs.Str.{bytes_eq}
use Rattle.forms.specs.Tree.{Formula, nodes, tree}
use Rattle.forms.specs.Proper.{IsProper}
use Rattle.forms.specs.declared.form.Form.{Form}
use Rattle.form_tokens.specs.declared.dialect.Dialect.{Dialect}
use Rattle.form_tokens.specs.declared.dialect.Dialect.TheVariants as dialects
use Rattle.form_tokens.specs.declared.token.Prefix.TheVariants as before
use Rattle.form_tokens.specs.declared.token.Infix.TheVariants as binary
use Rattle.form_tokens.specs.declared.token.PathInfix.TheVariants as path_binary
use Rattle.form_tokens.specs.declared.token.Modality.TheVariants as modalities
use Rattle.form_tokens.specs.declared.token.Leaf.TheVariants as leaf_tokens
use Rattle.form_tokens.specs.declared.token.Token.{Token}
use Rattle.form_tokens.specs.declared.token.Token.TheVariants as token
use Rattle.form_reader.specs.declared.fault.FormFault.{FormFault}
use Rattle.form_reader.specs.declared.fault.FormFault.TheVariants as faults
use Rattle.form_tokens.specs.Words.{is_blank, begins_word, goes_on, is_constant, is_operator, is_unused, word_length, longest_word}
use Rattle.form_tokens.specs.Names.{Table, number_of, is_listed, included}
use Rattle.form_tokens.specs.Spelling.{Lexeme, Sign, Word, Bad, constant, operator, in_ltlf, last_of, end_of, word_lexeme, sign_at, dialect_sign, path_sign, of_one_byte, sign_piece, piece_at, pieces, lexemes}
use Rattle.form_reader.specs.Faults.{names_with, names_after, is_bad, most_tokens, name_fault, before_fault}
use Rattle.form_reader.specs.Reading.{tokens, is_within, IsFormulaOf, refusal, accepted, KeepsNames, names_of}
use Rattle.form_reader.specs.Machine.{Due}
use Rattle.form_reader.specs.Outcome.{outcome, stage_of}
use Rattle.form_reader.specs.Blames.{Blames, Answers}
use Rattle.form_reader.proofs.Measures.{IsNameBelow, AreNamesBelow, Reads-IsProper, Reads-nodes}
use Rattle.std.proofs.Math.Seq.{take-append_seam}
use Rattle.form_tokens.proofs.NamesLemmas.{position_or_len-within, position_or_len-le}
use Rattle.form_reader.proofs.Outcomes.{outcome-found, Blames-first_fault}

-- the token is no name
abbrev pub IsNameless : Token → Type 0
IsNameless (token.Leaf (leaf_tokens.Name i)) = ⊥
IsNameless t = Unit {0}

-- a lexeme other than a word gives no name
abbrev pub IsPlainLexeme : Lexeme → Type 0
IsPlainLexeme (Sign t) = IsNameless t
IsPlainLexeme l = Unit {0}

-- no lexeme that is no word gives a name
abbrev pub ArePlainLexemes : List (ℕ × Lexeme) → Type 0
ArePlainLexemes [] = Unit {0}
ArePlainLexemes (l ∷ ls) = IsPlainLexeme l.1 × ArePlainLexemes ls

last-IsNameless : (d : Dialect) → IsNameless (last_of d)
last-IsNameless dialects.Ltlf = tt
last-IsNameless dialects.Ldlf = tt

end-IsNameless : (d : Dialect) → IsNameless (end_of d)
end-IsNameless dialects.Ltlf = tt
end-IsNameless dialects.Ldlf = tt

constant-IsNameless : (d : Dialect) (w : List ℕ) → IsNameless (constant d w)
constant-IsNameless d w = go (bytes_eq w (codes "true") || bytes_eq w (codes "tt")) (bytes_eq w (codes "false") || bytes_eq w (codes "ff")) (bytes_eq w (codes "last"))
  where
    go : (a b c : Bool) → IsNameless (cond a (token.Leaf leaf_tokens.True) (cond b (token.Leaf leaf_tokens.False) (cond c (last_of d) (end_of d))))
    go true _ _ = tt
    go false true _ = tt
    go false false true = last-IsNameless d
    go false false false = end-IsNameless d

operator-IsNameless : (w : List ℕ) → IsNameless (operator w)
operator-IsNameless w = go (bytes_eq w (codes "X")) (bytes_eq w (codes "N") || bytes_eq w (codes "WX")) (bytes_eq w (codes "F")) (bytes_eq w (codes "G")) (bytes_eq w (codes "U"))
  where
    go : (a0 a1 a2 a3 a4 : Bool) → IsNameless (cond a0 (token.Prefix before.Next) (cond a1 (token.Prefix before.WeakNext) (cond a2 (token.Prefix before.Eventually) (cond a3 (token.Prefix before.Always) (cond a4 (token.Infix binary.Until) (token.Infix binary.Release))))))
    go true _ _ _ _ = tt
    go false true _ _ _ = tt
    go false false true _ _ = tt
    go false false false true _ = tt
    go false false false false true = tt
    go false false false false false = tt

in_ltlf-IsNameless : (d : Dialect) (t : Token) → IsNameless t → IsNameless (in_ltlf d t)
in_ltlf-IsNameless dialects.Ltlf t h = h
in_ltlf-IsNameless dialects.Ldlf t h = tt

word_lexeme-IsPlain : (d : Dialect) (w : List ℕ) → IsPlainLexeme (word_lexeme d w)
unfolding word_lexeme
word_lexeme-IsPlain d w = go (is_constant w) (is_operator w) (is_unused w)
  where
    go : (a b c : Bool) → IsPlainLexeme (cond a (Sign (constant d w)) (cond b (Sign (in_ltlf d (operator w))) (cond c (Sign token.Reserved) (Word w))))
    go true _ _ = constant-IsNameless d w
    go false true _ = in_ltlf-IsNameless d (operator w) (operator-IsNameless w)
    go false false true = tt
    go false false false = tt

abbrev IsNamelessSign : Option (Token × ℕ) → Type 0
IsNamelessSign None = Unit {0}
IsNamelessSign (Some s) = IsNameless s.0

abbrev IsNamelessOption : Option Token → Type 0
IsNamelessOption None = Unit {0}
IsNamelessOption (Some t) = IsNameless t

path_sign-IsNameless : (b : ℕ) → IsNamelessOption (path_sign b)
path_sign-IsNameless b = go (b == 60) (b == 62) (b == 91) (b == 93) (b == 123) (b == 125) (b == 59) (b == 43) (b == 42) (b == 63)
  where
    go : (a0 a1 a2 a3 a4 a5 a6 a7 a8 a9 : Bool) → IsNamelessOption (cond a0 (Some (token.OpenModality modalities.Diamond)) (cond a1 (Some (token.CloseModality modalities.Diamond)) (cond a2 (Some (token.OpenModality modalities.BoxAll)) (cond a3 (Some (token.CloseModality modalities.BoxAll)) (cond a4 (Some token.OpenBrace) (cond a5 (Some token.CloseBrace) (cond a6 (Some (token.PathInfix path_binary.Seq)) (cond a7 (Some (token.PathInfix path_binary.Choice)) (cond a8 (Some token.Star) (cond a9 (Some token.Question) None))))))))))
    go true _ _ _ _ _ _ _ _ _ = tt
    go false true _ _ _ _ _ _ _ _ = tt
    go false false true _ _ _ _ _ _ _ = tt
    go false false false true _ _ _ _ _ _ = tt
    go false false false false true _ _ _ _ _ = tt
    go false false false false false true _ _ _ _ = tt
    go false false false false false false true _ _ _ = tt
    go false false false false false false false true _ _ = tt
    go false false false false false false false false true _ = tt
    go false false false false false false false false false true = tt
    go false false false false false false false false false false = tt

dialect_sign-IsNameless : (d : Dialect) (b : ℕ) → IsNamelessSign (dialect_sign d b)
dialect_sign-IsNameless dialects.Ltlf b = tt
dialect_sign-IsNameless dialects.Ldlf b = go (path_sign b) (path_sign-IsNameless b)
  where
    go : (o : Option Token) → IsNamelessOption o → IsNamelessSign (of_one_byte o)
    go None h = tt
    go (Some t) h = h

sign_at-IsNameless : (d : Dialect) (bs : List ℕ) → IsNamelessSign (sign_at d bs)
sign_at-IsNameless d bs = go (slice_index bs 0 == 40) (slice_index bs 0 == 41) (slice_index bs 0 == 33 || slice_index bs 0 == 126) (slice_index bs 0 == 38) (slice_index bs 0 == 124) (slice_index bs 0 == 45 && slice_index bs 1 == 62) (slice_index bs 0 == 60 && slice_index bs 1 == 45 && slice_index bs 2 == 62)
  where
    go : (a0 a1 a2 a3 a4 a5 a6 : Bool) → IsNamelessSign (cond a0 (Some (token.Open, 1)) (cond a1 (Some (token.Close, 1)) (cond a2 (Some (token.Prefix before.Not, 1)) (cond a3 (Some (token.Infix binary.And, cond (slice_index bs 1 == 38) 2 1)) (cond a4 (Some (token.Infix binary.Or, cond (slice_index bs 1 == 124) 2 1)) (cond a5 (Some (token.Infix binary.Implies, 2)) (cond a6 (Some (token.Infix binary.Iff, 3)) (dialect_sign d (slice_index bs 0)))))))))
    go true _ _ _ _ _ _ = tt
    go false true _ _ _ _ _ = tt
    go false false true _ _ _ _ = tt
    go false false false true _ _ _ = tt
    go false false false false true _ _ = tt
    go false false false false false true _ = tt
    go false false false false false false true = tt
    go false false false false false false false = dialect_sign-IsNameless d (slice_index bs 0)

piece_at-IsPlain : (d : Dialect) (bs : List ℕ) → IsPlainLexeme (piece_at d bs).lexeme
piece_at-IsPlain d bs = go (begins_word (slice_index bs 0))
  where
    sign : (o : Option (Token × ℕ)) → IsNamelessSign o → IsPlainLexeme (sign_piece o).lexeme
    sign None h = tt
    sign (Some s) h = h

    go : (a : Bool) → IsPlainLexeme (cond a (record { lexeme = word_lexeme d (take (word_length (take longest_word bs)) bs); size = word_length (take longest_word bs) }) (sign_piece (sign_at d bs))).lexeme
    go true = word_lexeme-IsPlain d (take (word_length (take longest_word bs)) bs)
    go false = sign (sign_at d bs) (sign_at-IsNameless d bs)

pieces-ArePlain : (d : Dialect) (skip : ℕ) (w : Bool) (at : ℕ) (bs : List ℕ) → ArePlainLexemes (pieces d skip w at bs)
pieces-ArePlain d skip w at [] = tt
pieces-ArePlain d (suc skip) w at (b ∷ bs) = pieces-ArePlain d skip w (suc at) bs
pieces-ArePlain d zero w at (b ∷ bs) = go (w && goes_on b) (is_blank b) (λ n v. pieces-ArePlain d n v (suc at) bs)
  where
    go : (c e : Bool) → ((n : ℕ) (v : Bool) → ArePlainLexemes (pieces d n v (suc at) bs)) →
        ArePlainLexemes (cond c ((at, Bad) ∷ pieces d zero true (suc at) bs) (cond e (pieces d zero false (suc at) bs) ((at, (piece_at d (b ∷ bs)).lexeme) ∷ pieces d ((piece_at d (b ∷ bs)).size - 1) (begins_word b) (suc at) bs)))
    go true e h = (tt, h zero true)
    go false true h = h zero false
    go false false h = (piece_at-IsPlain d (b ∷ bs), h ((piece_at d (b ∷ bs)).size - 1) (begins_word b))

-- the table keeps its names and gets new ones behind them
names_with-append : (ns : List (List ℕ)) (l : Lexeme) → (ys : List (List ℕ)) × (names_with ns l ≡ ns ++ ys)
names_with-append ns (Sign t) = ([], sym (append-nil ns))
names_with-append ns Bad = ([], sym (append-nil ns))
names_with-append ns (Word w) = go (is_listed ns w)
  where
    go : (b : Bool) → (ys : List (List ℕ)) × (cond b ns (ns ++ w ∷ []) ≡ ns ++ ys)
    go true = ([], sym (append-nil ns))
    go false = (w ∷ [], refl)

names_after-append : (ns : List (List ℕ)) (ls : List (ℕ × Lexeme)) → (ys : List (List ℕ)) × (names_after ns ls ≡ ns ++ ys)
names_after-append ns [] = ([], sym (append-nil ns))
names_after-append ns (l ∷ ls) =
    let r = names_after-append (names_with ns l.1) ls in
    let q = names_with-append ns l.1 in
    (q.0 ++ r.0, r.1 ∙ ap (λ ms. ms ++ r.0) q.1 ∙ append_assoc ns q.0 r.0)

names_after-keeps : (ns : List (List ℕ)) (ls : List (ℕ × Lexeme)) → take (length ns) (names_after ns ls) ≡ ns
names_after-keeps ns ls = let r = names_after-append ns ls in ap (λ ms. take (length ns) ms) r.1 ∙ take-append_seam ns r.0

names_after-more : (ns : List (List ℕ)) (ls : List (ℕ × Lexeme)) → length ns ≤ length (names_after ns ls)
names_after-more ns ls = let r = names_after-append ns ls in let e = ap (λ ms. length ms) r.1 in omega (arith, e, length-append ns r.0)

KeepsNames-keeps : (e : FormFault) (d : Dialect) (names : Table) (text : List ℕ) (after : List (List ℕ)) → KeepsNames e d names text after → take (length names.names) after ≡ names.names
KeepsNames-keeps faults.Memory d names text after h = ap (λ ms. take (length names.names) ms) h.1 ∙ names_after-keeps names.names (take h.0 (accepted d names text))
KeepsNames-keeps e d names text after h = ap (λ ms. take (length names.names) ms) h ∙ names_after-keeps names.names (before_fault e (lexemes d text))

-- whatever the answer, the names before are the first of those after
pub names-kept : (r : Result Form FormFault) (d : Dialect) (names : Table) (text : List ℕ) (after : List (List ℕ)) → OnOk r (after ≡ names_of d names text) → IfErr r (λ e. KeepsNames e d names text after) → take (length names.names) after ≡ names.names
names-kept (Ok f) d names text after h k = ap (λ ms. take (length names.names) ms) h ∙ names_after-keeps names.names (lexemes d text)
names-kept (Err e) d names text after h k = KeepsNames-keeps e d names text after k

-- a name has a number in the table that has it
number_of-included : (ns : List (List ℕ)) (w : List ℕ) → number_of ns w < length (included ns w)
number_of-included ns w = go (is_listed ns w) (position_or_len-within (bytes_eq w) ns) (leb_tells (suc (number_of ns w)) (length ns)) (position_or_len-le (bytes_eq w) ns)
  where
    go : (b : Bool) → leb (suc (number_of ns w)) (length ns) ≡ b → ((leb (suc (number_of ns w)) (length ns) ≡ true) × (suc (number_of ns w) ≤ length ns)) ⊎ ((leb (suc (number_of ns w)) (length ns) ≡ false) × (length ns < suc (number_of ns w))) → number_of ns w ≤ length ns → number_of ns w < length (cond b ns (ns ++ w ∷ []))
    go true e (inl h) k = omega (arith, h.1)
    go true e (inr h) k = cc
    go false e h k = omega (arith, k, length-append ns (w ∷ []))

tokens-below : (ns : List (List ℕ)) (ls : List (ℕ × Lexeme)) → ArePlainLexemes ls → AreNamesBelow (length (names_after ns ls)) (tokens ns ls)
tokens-below ns [] h = tt
tokens-below ns ((at, Word w) ∷ ls) h =
    let more : length (included ns w) ≤ length (names_after (included ns w) ls) = names_after-more (included ns w) ls in
    let here : number_of ns w < length (included ns w) = number_of-included ns w in
    (omega arith, tokens-below (included ns w) ls h.1)
tokens-below ns ((at, Bad) ∷ ls) h = (tt, tokens-below ns ls h.1)
tokens-below ns ((at, Sign t) ∷ ls) h = (go t h.0, tokens-below ns ls h.1)
  where
    go : (t : Token) → IsNameless t → IsNameBelow (length (names_after ns ls)) t
    go (token.Leaf (leaf_tokens.Name i)) k = absurd k
    go (token.Leaf _) k = tt
    go _ k = tt

-- a formula that was read is proper for the names after it
pub IsFormulaOf-IsProper : (d : Dialect) (names : Table) (text : List ℕ) (f : Formula) → IsFormulaOf d names text f → IsProper (length (names_of d names text)) f
IsFormulaOf-IsProper d names text f h =
    (Reads-IsProper (length (names_of d names text)) h.1.0 (tokens-below names.names (lexemes d text) (pieces-ArePlain d zero false 1 text))).0

length-tokens : (ns : List (List ℕ)) (ls : List (ℕ × Lexeme)) → length (tokens ns ls) ≡ length ls
length-tokens ns [] = refl
length-tokens ns (l ∷ ls) = ap suc (length-tokens (names_with ns l.1) ls)

is_within-length : (closed : Bool) (ns : List (List ℕ)) (count : ℕ) (ls : List (ℕ × Lexeme)) → count ≤ most_tokens → is_within closed ns count ls ≡ true → count + length ls ≤ most_tokens
is_within-length closed ns count [] h e = omega arith
is_within-length closed ns count (l ∷ ls) h e =
    go (is_bad l.1) (leb_tells most_tokens count) (is_some (name_fault closed ns l.0 l.1)) e (λ k d. is_within-length closed (names_with ns l.1) (count + 1) ls k d)
  where
    go : (a : Bool) → ((leb most_tokens count ≡ true) × (most_tokens ≤ count)) ⊎ ((leb most_tokens count ≡ false) × (count < most_tokens)) → (c : Bool) → (not a && not (nat_le most_tokens count) && not c && is_within closed (names_with ns l.1) (count + 1) ls) ≡ true → (count + 1 ≤ most_tokens → is_within closed (names_with ns l.1) (count + 1) ls ≡ true → count + 1 + length ls ≤ most_tokens) → count + suc (length ls) ≤ most_tokens
    go true t c d k = cc
    go false (inl t) c d k = let g = t.0 in let e = rw g at d in cc
    go false (inr t) true d k = let g = t.0 in let e = rw g at d in cc
    go false (inr t) false d k = let g = t.0 in omega (arith, k (omega (arith, t.1)) (rw g at d))

-- and small
pub IsFormulaOf-small : (d : Dialect) (names : Table) (text : List ℕ) (f : Formula) → IsFormulaOf d names text f → nodes f < 2 ^ 32
IsFormulaOf-small d names text f h =
    let few = is_within-length names.closed names.names 0 (lexemes d text) (omega arith) h.0 in
    let each = Reads-nodes h.1.0 in
    omega (arith, few, each, length-tokens names.names (lexemes d text))

-- what is read is the text of its formula
pub Answers-found : (r : Result Form FormFault) (d : Dialect) (names : Table) (text : List ℕ) → Answers r (outcome names.closed (stage_of names.names 0 (Due [])) (lexemes d text)) → IfOk r (λ form. IsFormulaOf d names text (tree form))
Answers-found (Ok form) d names text h = outcome-found names.closed names.names (lexemes d text) (tree form) h
Answers-found (Err e) d names text h = tt

-- a refusal names the first fault
pub Answers-place : (r : Result Form FormFault) (d : Dialect) (names : Table) (text : List ℕ) → Answers r (outcome names.closed (stage_of names.names 0 (Due [])) (lexemes d text)) → IfErr r (λ e. Blames e (refusal d names text ≡ Some e))
Answers-place (Ok form) d names text h = tt
Answers-place (Err e) d names text h = Blames-first_fault names.closed names.names (lexemes d text) e h

-- what was read is proper for the names after it
pub Answers-proper : (r : Result Form FormFault) (d : Dialect) (names : Table) (text : List ℕ) (after : List (List ℕ)) → IfOk r (λ form. IsFormulaOf d names text (tree form)) → OnOk r (after ≡ names_of d names text) → IfOk r (λ form. IsProper (length after) (tree form))
Answers-proper (Ok form) d names text after h e = rw e (IsFormulaOf-IsProper d names text (tree form) h)
Answers-proper (Err e) d names text after h k = tt

-- what was read has fewer than 2^32 nodes
pub Answers-small : (r : Result Form FormFault) (d : Dialect) (names : Table) (text : List ℕ) → IfOk r (λ form. IsFormulaOf d names text (tree form)) → IfOk r (λ form. nodes (tree form) < 2 ^ 32)
Answers-small (Ok form) d names text h = IsFormulaOf-small d names text (tree form) h
Answers-small (Err e) d names text h = tt
