-- The bytes of a printed formula are cut into its tokens.
use Rattle.std.proofs.Common.{◌≡◌, ℕ, suc, ◌<◌, List, [], ◌∷◌, ◌++◌, Some, refl, ap, Bool, true, false, ◌||◌, ◌==◌, cond, not, length, append_assoc, codes}
use Rattle.std.proofs.lemmas.Bool.{and_parts}
use Rattle.forms.specs.Tree.{Formula, Program, True, False, Atom, Not, And, Or, Implies, Iff, Next, WeakNext, Until, Release, Eventually, Always, Diamond, BoxAll, Step, Test, Choice, Seq, Star}
use Rattle.forms.specs.Proper.{IsProper, IsProperProgram}
use Rattle.form_tokens.specs.declared.dialect.Dialect.{Dialect}
use Rattle.form_tokens.specs.declared.dialect.Dialect.TheVariants as dialects
use Rattle.form_tokens.specs.declared.token.Prefix.TheVariants as before
use Rattle.form_tokens.specs.declared.token.Infix.TheVariants as binary
use Rattle.form_tokens.specs.declared.token.PathInfix.TheVariants as path_binary
use Rattle.form_tokens.specs.declared.token.Modality.TheVariants as modalities
use Rattle.form_tokens.specs.declared.token.Leaf.TheVariants as leaf_tokens
use Rattle.form_tokens.specs.declared.token.Token.{Token}
use Rattle.form_tokens.specs.declared.token.Token.TheVariants as token
use Rattle.form_tokens.specs.Words.{is_blank, goes_on, is_word, is_constant, is_operator, is_unused, is_name}
use Rattle.form_tokens.specs.Spelling.{Sign, Word, sign_at, word_lexeme, constant, operator, in_ltlf}
use Rattle.form_tokens.specs.Names.{AreNames}
use Rattle.form_printer.specs.Printed.{name_of, is_bare, in_braces, is_starred, bracketed, printed, printed_path}
use Rattle.form_printer.specs.Dialects.{IsOfDialect, IsPathOfDialect}
use Rattle.form_printer.specs.ReadBack.{AreNumberedIn}
use Rattle.form_tokens.specs.Runs.{IsApart}
use Rattle.form_printer.proofs.Cuts.{Gives, Gives-same, Gives-blank, Gives-sign, Gives-word, begins_word-other}
use Rattle.form_printer.proofs.Numbered.{is_name-at}
use Rattle.form_printer.proofs.Written.{written, written_path}

-- the text gives these tokens before whatever follows
record Marks (d : Dialect) (ms : List (List ℕ)) (text : List ℕ) (spelled : List Token → List Token) : Type 0 where
  gives : (rest : List ℕ) (us : List Token) → Gives d ms rest us → Gives d ms (text ++ rest) (spelled us)

-- the text gives these tokens before what goes on no word
pub record Prints (d : Dialect) (ms : List (List ℕ)) (text : List ℕ) (spelled : List Token → List Token) : Type 0 where
  pub gives : (rest : List ℕ) (us : List Token) → IsApart rest → Gives d ms rest us → Gives d ms (text ++ rest) (spelled us)

-- the text goes on no word
abbrev BeginsApart : List ℕ → Type 0
BeginsApart text = (rest : List ℕ) → IsApart (text ++ rest)

Prints-Marks : {d : Dialect} {ms : List (List ℕ)} {text : List ℕ} {F : List Token → List Token} → Marks d ms text F → Prints d ms text F
Prints-Marks m = record { gives = λ rest us apart g. m.gives rest us g }

Marks-then : {d : Dialect} {ms : List (List ℕ)} {text more : List ℕ} {F G : List Token → List Token} → Marks d ms text F → Prints d ms more G → Prints d ms (text ++ more) (λ us. F (G us))
Marks-then {d} {ms} {text} {more} {F} {G} m p = record { gives = λ rest us apart g. Gives-same (append_assoc text more rest) (m.gives (more ++ rest) (G us) (p.gives rest us apart g)) }

Prints-then : {d : Dialect} {ms : List (List ℕ)} {text more : List ℕ} {F G : List Token → List Token} → Prints d ms text F → Marks d ms more G → BeginsApart more → Marks d ms (text ++ more) (λ us. F (G us))
Prints-then {d} {ms} {text} {more} {F} {G} p m apart = record { gives = λ rest us g. Gives-same (append_assoc text more rest) (p.gives (more ++ rest) (G us) (apart rest) (m.gives rest us g)) }

-- a sign of one byte
Marks-byte : (d : Dialect) (ms : List (List ℕ)) (b : ℕ) (t : Token) → goes_on b ≡ false → is_blank b ≡ false → ((rest : List ℕ) → sign_at d (b ∷ rest) ≡ Some (t, 1)) → Marks d ms (b ∷ []) (λ us. t ∷ us)
Marks-byte d ms b t apart blank sign = record { gives = λ rest us g. Gives-sign b [] t apart blank (sign rest) g }

-- a sign between spaces
Marks-sign : (d : Dialect) (ms : List (List ℕ)) (b : ℕ) (v : List ℕ) (t : Token) → goes_on b ≡ false → is_blank b ≡ false → ((rest : List ℕ) → sign_at d (b ∷ (v ++ (32 ∷ rest))) ≡ Some (t, suc (length v))) → Marks d ms (32 ∷ b ∷ (v ++ 32 ∷ [])) (λ us. t ∷ us)
Marks-sign d ms b v t apart blank sign = record {
  gives = λ rest us g. Gives-same (ap (λ bs. 32 ∷ b ∷ bs) (append_assoc v (32 ∷ []) rest)) (Gives-blank (Gives-sign b v t apart blank (sign rest) (Gives-blank g)));
}

-- a word between spaces
Marks-word : (d : Dialect) (ms : List (List ℕ)) (v : List ℕ) (t : Token) → is_word v ≡ true → word_lexeme d v ≡ Sign t → Marks d ms (32 ∷ (v ++ 32 ∷ [])) (λ us. t ∷ us)
Marks-word d ms v t word lexeme = record {
  gives = λ rest us g. Gives-same (ap (λ bs. 32 ∷ bs) (append_assoc v (32 ∷ []) rest)) (Gives-blank (Gives-word v (Sign t) t word lexeme tt refl refl (Gives-blank g)));
}

-- a word before a space
Marks-before : (d : Dialect) (ms : List (List ℕ)) (v : List ℕ) (t : Token) → is_word v ≡ true → word_lexeme d v ≡ Sign t → Marks d ms (v ++ 32 ∷ []) (λ us. t ∷ us)
Marks-before d ms v t word lexeme = record {
  gives = λ rest us g. Gives-same (append_assoc v (32 ∷ []) rest) (Gives-word v (Sign t) t word lexeme tt refl refl (Gives-blank g));
}

-- a constant
Prints-constant : (d : Dialect) (ms : List (List ℕ)) (v : List ℕ) (t : Token) → is_word v ≡ true → word_lexeme d v ≡ Sign t → Prints d ms v (λ us. t ∷ us)
Prints-constant d ms v t word lexeme = record { gives = λ rest us apart g. Gives-word v (Sign t) t word lexeme tt refl apart g }

true-lexeme : (d : Dialect) → word_lexeme d (codes "true") ≡ Sign (token.Leaf leaf_tokens.True)
unfolding word_lexeme
true-lexeme d = refl

false-lexeme : (d : Dialect) → word_lexeme d (codes "false") ≡ Sign (token.Leaf leaf_tokens.False)
unfolding word_lexeme
false-lexeme d = refl

next-lexeme : (d : Dialect) → d ≡ dialects.Ltlf → word_lexeme d (codes "X") ≡ Sign (token.Prefix before.Next)
unfolding word_lexeme
next-lexeme dialects.Ltlf e = refl
next-lexeme dialects.Ldlf e = cc

weak_next-lexeme : (d : Dialect) → d ≡ dialects.Ltlf → word_lexeme d (codes "N") ≡ Sign (token.Prefix before.WeakNext)
unfolding word_lexeme
weak_next-lexeme dialects.Ltlf e = refl
weak_next-lexeme dialects.Ldlf e = cc

eventually-lexeme : (d : Dialect) → d ≡ dialects.Ltlf → word_lexeme d (codes "F") ≡ Sign (token.Prefix before.Eventually)
unfolding word_lexeme
eventually-lexeme dialects.Ltlf e = refl
eventually-lexeme dialects.Ldlf e = cc

always-lexeme : (d : Dialect) → d ≡ dialects.Ltlf → word_lexeme d (codes "G") ≡ Sign (token.Prefix before.Always)
unfolding word_lexeme
always-lexeme dialects.Ltlf e = refl
always-lexeme dialects.Ldlf e = cc

until-lexeme : (d : Dialect) → d ≡ dialects.Ltlf → word_lexeme d (codes "U") ≡ Sign (token.Infix binary.Until)
unfolding word_lexeme
until-lexeme dialects.Ltlf e = refl
until-lexeme dialects.Ldlf e = cc

release-lexeme : (d : Dialect) → d ≡ dialects.Ltlf → word_lexeme d (codes "R") ≡ Sign (token.Infix binary.Release)
unfolding word_lexeme
release-lexeme dialects.Ltlf e = refl
release-lexeme dialects.Ldlf e = cc

name-lexeme : (d : Dialect) (w : List ℕ) → is_name w ≡ true → word_lexeme d w ≡ Word w
unfolding word_lexeme
name-lexeme d w h = go (is_constant w) (is_operator w) (is_unused w) (and_parts (is_word w) _ h).1
  where
    go : (a b c : Bool) → not (a || b || c) ≡ true → cond a (Sign (constant d w)) (cond b (Sign (in_ltlf d (operator w))) (cond c (Sign token.Reserved) (Word w))) ≡ Word w
    go true b c k = cc
    go false true c k = cc
    go false false true k = cc
    go false false false k = refl

-- a name
Prints-name : (d : Dialect) (ns ms : List (List ℕ)) (i : ℕ) → AreNames ns → AreNumberedIn ns ms → i < length ns → Prints d ms (name_of ns i) (λ us. token.Leaf (leaf_tokens.Name i) ∷ us)
Prints-name d ns ms i valid numbered within =
    let name : is_name (name_of ns i) ≡ true = is_name-at ns i valid within in
    let at = numbered i within in
    record { gives = λ rest us apart g. Gives-word (name_of ns i) (Word (name_of ns i)) (token.Leaf (leaf_tokens.Name i)) (and_parts _ _ name).0 (name-lexeme d (name_of ns i) name) at.0 (ap (λ k. token.Leaf (leaf_tokens.Name k)) at.1) apart g }

Marks-open : (d : Dialect) (ms : List (List ℕ)) → Marks d ms (codes "(") (λ us. token.Open ∷ us)
Marks-open d ms = Marks-byte d ms 40 token.Open refl refl (λ rest. refl)

Marks-close : (d : Dialect) (ms : List (List ℕ)) → Marks d ms (codes ")") (λ us. token.Close ∷ us)
Marks-close d ms = Marks-byte d ms 41 token.Close refl refl (λ rest. refl)

-- two texts in brackets
Prints-bracketed : {d : Dialect} {ms : List (List ℕ)} {f sign g : List ℕ} {F S G : List Token → List Token} → Prints d ms f F → Marks d ms sign S → BeginsApart sign → Prints d ms g G → Prints d ms (bracketed f sign g) (λ us. token.Open ∷ F (S (G (token.Close ∷ us))))
Prints-bracketed {d} {ms} p m apart q = Prints-Marks (Prints-then (Marks-then (Prints-then (Marks-then (Marks-open d ms) p) m apart) q) (Marks-close d ms) (λ rest. refl))

-- the signs of paths
path-sign : (d : Dialect) (ms : List (List ℕ)) (b : ℕ) (t : Token) → d ≡ dialects.Ldlf → goes_on b ≡ false → is_blank b ≡ false → ((rest : List ℕ) → sign_at dialects.Ldlf (b ∷ rest) ≡ Some (t, 1)) → Marks d ms (b ∷ []) (λ us. t ∷ us)
path-sign dialects.Ltlf ms b t e apart blank sign = cc
path-sign dialects.Ldlf ms b t e apart blank sign = Marks-byte dialects.Ldlf ms b t apart blank sign

choice-sign : (d : Dialect) (rest : List ℕ) → d ≡ dialects.Ldlf → sign_at d (43 ∷ 32 ∷ rest) ≡ Some (token.PathInfix path_binary.Choice, 1)
choice-sign dialects.Ltlf rest e = cc
choice-sign dialects.Ldlf rest e = refl

seq-sign : (d : Dialect) (rest : List ℕ) → d ≡ dialects.Ldlf → sign_at d (59 ∷ 32 ∷ rest) ≡ Some (token.PathInfix path_binary.Seq, 1)
seq-sign dialects.Ltlf rest e = cc
seq-sign dialects.Ldlf rest e = refl

-- the text does not go on `<` to `<->`
abbrev BeginsNoArrow : List ℕ → Type 0
BeginsNoArrow [] = ⊥
BeginsNoArrow (b ∷ bs) = (b == 45) ≡ false

BeginsNoArrow-append : (xs ys : List ℕ) → BeginsNoArrow xs → BeginsNoArrow (xs ++ ys)
BeginsNoArrow-append [] ys h = absurd h
BeginsNoArrow-append (b ∷ xs) ys h = h

BeginsNoArrow-name : (w : List ℕ) → is_name w ≡ true → BeginsNoArrow w
BeginsNoArrow-name [] h = cc
BeginsNoArrow-name (b ∷ w) h = begins_word-other b 45 (and_parts _ _ (and_parts _ _ (and_parts _ _ h).0).0).0 refl

BeginsNoArrow-held : (ns : List (List ℕ)) (f : Formula) → AreNames ns → IsProper (length ns) f → BeginsNoArrow (in_braces f (printed ns f))
BeginsNoArrow-held ns True valid h = refl
BeginsNoArrow-held ns False valid h = refl
BeginsNoArrow-held ns (Atom i) valid h = BeginsNoArrow-name (name_of ns i) (is_name-at ns i valid h)
BeginsNoArrow-held ns _ valid h = refl

BeginsNoArrow-starred : (a : Bool) (text : List ℕ) → BeginsNoArrow text → BeginsNoArrow (cond a (codes "(" ++ text ++ codes ")*") (text ++ codes "*"))
BeginsNoArrow-starred true text h = refl
BeginsNoArrow-starred false text h = BeginsNoArrow-append text (codes "*") h

BeginsNoArrow-path : (ns : List (List ℕ)) (p : Program) → AreNames ns → IsProperProgram (length ns) p → BeginsNoArrow (printed_path ns p)
BeginsNoArrow-path ns (Step f) valid h = BeginsNoArrow-held ns f valid h.1
BeginsNoArrow-path ns (Test f) valid h = BeginsNoArrow-append (in_braces f (printed ns f)) (codes "?") (BeginsNoArrow-held ns f valid h)
BeginsNoArrow-path ns (Choice p q) valid h = refl
BeginsNoArrow-path ns (Seq p q) valid h = refl
BeginsNoArrow-path ns (Star p) valid h = BeginsNoArrow-starred (is_starred p) (printed_path ns p) (BeginsNoArrow-path ns p valid h)

diamond-sign : (b : ℕ) (bs : List ℕ) → (b == 45) ≡ false → sign_at dialects.Ldlf (60 ∷ b ∷ bs) ≡ Some (token.OpenModality modalities.Diamond, 1)
diamond-sign b bs h = rw h refl

-- a path behind `<`
Prints-angle : (d : Dialect) (ms : List (List ℕ)) (text : List ℕ) (F : List Token → List Token) → d ≡ dialects.Ldlf → BeginsNoArrow text → Prints d ms text F → Prints d ms (codes "<" ++ text) (λ us. token.OpenModality modalities.Diamond ∷ F us)
Prints-angle dialects.Ltlf ms text F e n p = cc
Prints-angle dialects.Ldlf ms [] F e n p = absurd n
Prints-angle dialects.Ldlf ms (b ∷ bs) F e n p = record { gives = λ rest us apart g. Gives-sign 60 [] (token.OpenModality modalities.Diamond) refl refl (diamond-sign b (bs ++ rest) n) (p.gives rest us apart g) }

-- what a step or a test holds
Prints-held : {d : Dialect} {ms : List (List ℕ)} {text : List ℕ} {F : List Token → List Token} (a : Bool) → d ≡ dialects.Ldlf → Prints d ms text F → Prints d ms (cond a text (codes "{" ++ text ++ codes "}")) (λ us. cond a (F us) (token.OpenBrace ∷ F (token.CloseBrace ∷ us)))
Prints-held true e p = p
Prints-held {d} {ms} false e p = Prints-Marks (Prints-then (Marks-then (path-sign d ms 123 token.OpenBrace e refl refl (λ rest. refl)) p) (path-sign d ms 125 token.CloseBrace e refl refl (λ rest. refl)) (λ rest. refl))

-- a path with a star behind it
Prints-starred : {d : Dialect} {ms : List (List ℕ)} {text : List ℕ} {F : List Token → List Token} (a : Bool) → d ≡ dialects.Ldlf → Prints d ms text F → Prints d ms (cond a (codes "(" ++ text ++ codes ")*") (text ++ codes "*")) (λ us. cond a (token.Open ∷ F (token.Close ∷ token.Star ∷ us)) (F (token.Star ∷ us)))
Prints-starred {d} {ms} true e p =
    let star = path-sign d ms 42 token.Star e refl refl (λ rest. refl) in
    Prints-Marks (Prints-then (Marks-then (Marks-open d ms) p) (record { gives = λ rest us g. (Marks-close d ms).gives (42 ∷ rest) (token.Star ∷ us) (star.gives rest us g) }) (λ rest. refl))
Prints-starred {d} {ms} false e p = Prints-Marks (Prints-then p (path-sign d ms 42 token.Star e refl refl (λ rest. refl)) (λ rest. refl))

-- the texts of formulas and paths give their tokens
mutual
  -- the text of a formula gives its tokens
  pub Prints-printed : (d : Dialect) (ns ms : List (List ℕ)) (f : Formula) → AreNames ns → AreNumberedIn ns ms → IsProper (length ns) f → IsOfDialect d f → Prints d ms (printed ns f) (written f)
  Prints-printed d ns ms True valid numbered h o = Prints-constant d ms (codes "true") (token.Leaf leaf_tokens.True) refl (true-lexeme d)
  Prints-printed d ns ms False valid numbered h o = Prints-constant d ms (codes "false") (token.Leaf leaf_tokens.False) refl (false-lexeme d)
  Prints-printed d ns ms (Atom i) valid numbered h o = Prints-name d ns ms i valid numbered h
  Prints-printed d ns ms (Not f) valid numbered h o = Marks-then (Marks-byte d ms 33 (token.Prefix before.Not) refl refl (λ rest. refl)) (Prints-printed d ns ms f valid numbered h o)
  Prints-printed d ns ms (And f g) valid numbered h o =
      Prints-bracketed (Prints-printed d ns ms f valid numbered h.0 o.0) (Marks-sign d ms 38 [] (token.Infix binary.And) refl refl (λ rest. refl)) (λ rest. refl) (Prints-printed d ns ms g valid numbered h.1 o.1)
  Prints-printed d ns ms (Or f g) valid numbered h o =
      Prints-bracketed (Prints-printed d ns ms f valid numbered h.0 o.0) (Marks-sign d ms 124 [] (token.Infix binary.Or) refl refl (λ rest. refl)) (λ rest. refl) (Prints-printed d ns ms g valid numbered h.1 o.1)
  Prints-printed d ns ms (Implies f g) valid numbered h o =
      Prints-bracketed (Prints-printed d ns ms f valid numbered h.0 o.0) (Marks-sign d ms 45 (62 ∷ []) (token.Infix binary.Implies) refl refl (λ rest. refl)) (λ rest. refl) (Prints-printed d ns ms g valid numbered h.1 o.1)
  Prints-printed d ns ms (Iff f g) valid numbered h o =
      Prints-bracketed (Prints-printed d ns ms f valid numbered h.0 o.0) (Marks-sign d ms 60 (45 ∷ 62 ∷ []) (token.Infix binary.Iff) refl refl (λ rest. refl)) (λ rest. refl) (Prints-printed d ns ms g valid numbered h.1 o.1)
  Prints-printed d ns ms (Next f) valid numbered h o = Marks-then (Marks-before d ms (codes "X") (token.Prefix before.Next) refl (next-lexeme d o.0)) (Prints-printed d ns ms f valid numbered h o.1)
  Prints-printed d ns ms (WeakNext f) valid numbered h o = Marks-then (Marks-before d ms (codes "N") (token.Prefix before.WeakNext) refl (weak_next-lexeme d o.0)) (Prints-printed d ns ms f valid numbered h o.1)
  Prints-printed d ns ms (Until f g) valid numbered h o =
      Prints-bracketed (Prints-printed d ns ms f valid numbered h.0 o.1) (Marks-word d ms (codes "U") (token.Infix binary.Until) refl (until-lexeme d o.0)) (λ rest. refl) (Prints-printed d ns ms g valid numbered h.1 o.2)
  Prints-printed d ns ms (Release f g) valid numbered h o =
      Prints-bracketed (Prints-printed d ns ms f valid numbered h.0 o.1) (Marks-word d ms (codes "R") (token.Infix binary.Release) refl (release-lexeme d o.0)) (λ rest. refl) (Prints-printed d ns ms g valid numbered h.1 o.2)
  Prints-printed d ns ms (Eventually f) valid numbered h o = Marks-then (Marks-before d ms (codes "F") (token.Prefix before.Eventually) refl (eventually-lexeme d o.0)) (Prints-printed d ns ms f valid numbered h o.1)
  Prints-printed d ns ms (Always f) valid numbered h o = Marks-then (Marks-before d ms (codes "G") (token.Prefix before.Always) refl (always-lexeme d o.0)) (Prints-printed d ns ms f valid numbered h o.1)
  Prints-printed d ns ms (Diamond p f) valid numbered h o =
      Marks-then
      (Prints-then (Prints-angle d ms (printed_path ns p) (written_path p) o.0 (BeginsNoArrow-path ns p valid h.0) (Prints-path d ns ms p valid numbered h.0 o.0 o.1)) (path-sign d ms 62 (token.CloseModality modalities.Diamond) o.0 refl refl (λ rest. refl)) (λ rest. refl))
      (Prints-printed d ns ms f valid numbered h.1 o.2)
  Prints-printed d ns ms (BoxAll p f) valid numbered h o =
      Marks-then
      (Prints-then (Marks-then (path-sign d ms 91 (token.OpenModality modalities.BoxAll) o.0 refl refl (λ rest. refl)) (Prints-path d ns ms p valid numbered h.0 o.0 o.1)) (path-sign d ms 93 (token.CloseModality modalities.BoxAll) o.0 refl refl (λ rest. refl)) (λ rest. refl))
      (Prints-printed d ns ms f valid numbered h.1 o.2)

  Prints-path : (d : Dialect) (ns ms : List (List ℕ)) (p : Program) → AreNames ns → AreNumberedIn ns ms → IsProperProgram (length ns) p → d ≡ dialects.Ldlf → IsPathOfDialect d p → Prints d ms (printed_path ns p) (written_path p)
  Prints-path d ns ms (Step f) valid numbered h e o = Prints-held (is_bare f) e (Prints-printed d ns ms f valid numbered h.1 o)
  Prints-path d ns ms (Test f) valid numbered h e o = Prints-Marks (Prints-then (Prints-held (is_bare f) e (Prints-printed d ns ms f valid numbered h o)) (path-sign d ms 63 token.Question e refl refl (λ rest. refl)) (λ rest. refl))
  Prints-path d ns ms (Choice p q) valid numbered h e o =
      Prints-bracketed (Prints-path d ns ms p valid numbered h.0 e o.0) (Marks-sign d ms 43 [] (token.PathInfix path_binary.Choice) refl refl (λ rest. choice-sign d rest e)) (λ rest. refl) (Prints-path d ns ms q valid numbered h.1 e o.1)
  Prints-path d ns ms (Seq p q) valid numbered h e o =
      Prints-bracketed (Prints-path d ns ms p valid numbered h.0 e o.0) (Marks-sign d ms 59 [] (token.PathInfix path_binary.Seq) refl refl (λ rest. seq-sign d rest e)) (λ rest. refl) (Prints-path d ns ms q valid numbered h.1 e o.1)
  Prints-path d ns ms (Star p) valid numbered h e o = Prints-starred (is_starred p) e (Prints-path d ns ms p valid numbered h e o)
