-- Going along the keys.
use Rattle.std.proofs.Common.{◌≡◌, ℕ, zero, suc, ◌+◌, ◌<◌, ◌≤◌, ◌∙◌, ap, Bool, true, false, List, [], ◌∷◌, length, get_or, drop, Some, None, cond, arith, refl, add-one}
use Rattle.std.specs.Str.{bytes_eq}
use Rattle.std.proofs.lemmas.List.{drop_all}
use Rattle.std.proofs.lemmas.Slice.Eq.{bytes_eq-Decides}
use Rattle.spec_lines.specs.declared.keywords.Keyword.{Keyword}
use Rattle.spec_lines.specs.declared.keywords.Keyword.TheVariants as key
use Rattle.spec_lines.specs.Lines.{TextLine}
use Rattle.spec_lines.specs.Keywords.{word_of, keywords, keyword_among, keyword_of, is_of}

-- the key at an index has the word, or a later one may
pub keyword_among-drop : (ks : List Keyword) (i : ℕ) (word : List ℕ) (d : Keyword) → i < length ks → keyword_among (drop i ks) word ≡ cond (bytes_eq word (word_of (get_or ks i d))) (Some (get_or ks i d)) (keyword_among (drop (suc i) ks) word)
keyword_among-drop [] i word d h = absurd (omega arith)
keyword_among-drop (k ∷ ks) zero word d h = refl
keyword_among-drop (k ∷ ks) (suc i) word d h = keyword_among-drop ks i word d (omega arith)

-- a key of another word is passed over
pub keyword_among-other : (ks : List Keyword) (i : ℕ) (word bytes : List ℕ) (d : Keyword) → i < length ks → bytes ≡ word_of (get_or ks i d) → bytes_eq word bytes ≡ false → keyword_among (drop i ks) word ≡ keyword_among (drop (i + 1) ks) word
keyword_among-other ks i word bytes d h e f =
    let g = rw e at f in
    keyword_among-drop ks i word d h ∙ rw (g, add-one) refl

-- a key of this word is found
pub keyword_among-here : (ks : List Keyword) (i : ℕ) (word bytes : List ℕ) (d : Keyword) → i < length ks → bytes ≡ word_of (get_or ks i d) → bytes_eq word bytes ≡ true → keyword_among (drop i ks) word ≡ Some (get_or ks i d)
keyword_among-here ks i word bytes d h e f =
    let g = rw e at f in
    keyword_among-drop ks i word d h ∙ rw g refl

-- behind the last key there is none
pub keyword_among-end : (ks : List Keyword) (i : ℕ) (word : List ℕ) → length ks ≤ i → keyword_among (drop i ks) word ≡ None
keyword_among-end ks i word h = ap (λ others. keyword_among others word) (drop_all i ks h)

-- the key that is found has the word
keyword_among-word : (ks : List Keyword) (word : List ℕ) (k : Keyword) → keyword_among ks word ≡ Some k → bytes_eq word (word_of k) ≡ true
keyword_among-word [] word k e = cc
keyword_among-word (j ∷ ks) word k e = go (bytes_eq word (word_of j)) refl (keyword_among-word ks word k) e
  where
    go : (b : Bool) → bytes_eq word (word_of j) ≡ b → (keyword_among ks word ≡ Some k → bytes_eq word (word_of k) ≡ true) → cond b (Some j) (keyword_among ks word) ≡ Some k → bytes_eq word (word_of k) ≡ true
    go true f later h = let same : j ≡ k = cc in rw same at f
    go false f later h = later h

-- a line whose key is known has that key
pub is_of-keyword : (line : TextLine) (k : Keyword) → keyword_of line.key ≡ Some k → is_of k line ≡ true
is_of-keyword line k e = keyword_among-word keywords line.key k e

-- the word of a key is that of no other
keyword_of-word : (k : Keyword) → keyword_of (word_of k) ≡ Some k
unfolding keywords word_of
keyword_of-word key.Version = refl
keyword_of-word key.Dialect = refl
keyword_of-word key.Inputs = refl
keyword_of-word key.Outputs = refl
keyword_of-word key.First = refl
keyword_of-word key.Assume = refl
keyword_of-word key.Goal = refl
keyword_of-word key.Limit = refl
keyword_of-word key.Empty = refl
keyword_of-word key.Duty = refl

-- a line that has a key has no other
pub keyword_of-is : (line : TextLine) (k : Keyword) → is_of k line ≡ true → keyword_of line.key ≡ Some k
keyword_of-is line k e = let same : line.key ≡ word_of k = (bytes_eq-Decides line.key (word_of k)).0 e in ap keyword_of same ∙ keyword_of-word k
