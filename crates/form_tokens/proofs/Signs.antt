-- At the front of a text the longest token is taken.
use Rattle.std.proofs.Common.{◌≡◌, ℕ, zero, suc, ◌<◌, ◌≤◌, ◌==◌, nat_le, List, [], ◌∷◌, All, Contains, Option, Some, None, Bool, true, false, ◌&&◌, ◌||◌, cond, refl, sym, ap, ◌∙◌, arith, length, take, slice_index}
use Rattle.std.specs.Io.{StartsWith}
use Rattle.std.specs.List.{list_all}
use Rattle.std.proofs.lemmas.Bool.{eqb-true, eq-eqb, leb-true, and_from, and_parts, or_parts}
use Rattle.std.proofs.lemmas.List.{get_or-take, length-take, take-take}
use Rattle.std.proofs.lemmas.List.Elements.{All-from_recursion, All-append, Contains-append_left}
use Rattle.form_tokens.specs.declared.dialect.Dialect.{Dialect}
use Rattle.form_tokens.specs.declared.dialect.Dialect.TheVariants as dialects
use Rattle.form_tokens.specs.declared.token.Prefix.TheVariants as before
use Rattle.form_tokens.specs.declared.token.Infix.TheVariants as binary
use Rattle.form_tokens.specs.declared.token.PathInfix.TheVariants as path_binary
use Rattle.form_tokens.specs.declared.token.Modality.TheVariants as modalities
use Rattle.form_tokens.specs.declared.token.Token.{Token}
use Rattle.form_tokens.specs.declared.token.Token.TheVariants as token
use Rattle.form_tokens.specs.Words.{begins_word, goes_on, word_length, longest_word, begins_with_word, is_word}
use Rattle.form_tokens.specs.Spelling.{piece_at, sign_at, sign_piece, dialect_sign, path_sign, of_one_byte}
use Rattle.form_tokens.specs.Signs.{common_signs, path_signs, signs, IsLongestSign, IsLongestWord, IsLongestSignOrBad, IsLongestPiece, TakesLongestTokens}
use Rattle.form_tokens.proofs.Pieces.{is_word-front, word_length-le}

-- a byte of what the text starts with
slice_index-StartsWith : (bs text : List ℕ) (i : ℕ) → StartsWith bs text → i < length text → slice_index bs i ≡ slice_index text i
slice_index-StartsWith bs text i h lt = sym (get_or-take (length text) bs i 0 lt) ∙ ap (λ ts. slice_index ts i) h

-- a text whose first byte is another starts with no such sign
not_front-one : (bs : List ℕ) (x : ℕ) (xs : List ℕ) → (slice_index bs 0 == x) ≡ false → ¬ StartsWith bs (x ∷ xs)
not_front-one bs x xs e h = let first = eq-eqb (slice_index bs 0) x (slice_index-StartsWith bs (x ∷ xs) 0 h (omega arith)) in cc

-- the same by the first two bytes
not_front-two : (bs : List ℕ) (x y : ℕ) (xs : List ℕ) → (slice_index bs 0 == x && slice_index bs 1 == y) ≡ false → ¬ StartsWith bs (x ∷ y ∷ xs)
not_front-two bs x y xs e h =
    let first = eq-eqb (slice_index bs 0) x (slice_index-StartsWith bs (x ∷ y ∷ xs) 0 h (omega arith)) in
    let second = eq-eqb (slice_index bs 1) y (slice_index-StartsWith bs (x ∷ y ∷ xs) 1 h (omega arith)) in
    let both = and_from _ _ first second in cc

-- the same by the first three bytes
not_front-three : (bs : List ℕ) (x y z : ℕ) (xs : List ℕ) → (slice_index bs 0 == x && slice_index bs 1 == y && slice_index bs 2 == z) ≡ false → ¬ StartsWith bs (x ∷ y ∷ z ∷ xs)
not_front-three bs x y z xs e h =
    let first = eq-eqb (slice_index bs 0) x (slice_index-StartsWith bs (x ∷ y ∷ z ∷ xs) 0 h (omega arith)) in
    let second = eq-eqb (slice_index bs 1) y (slice_index-StartsWith bs (x ∷ y ∷ z ∷ xs) 1 h (omega arith)) in
    let third = eq-eqb (slice_index bs 2) z (slice_index-StartsWith bs (x ∷ y ∷ z ∷ xs) 2 h (omega arith)) in
    let every : (slice_index bs 0 == x && slice_index bs 1 == y && slice_index bs 2 == z) ≡ true = rw (first, second, third) refl in cc

-- a text with that first byte, which isn't 0 as past the end, has it at its front
front-one : (bs : List ℕ) (x : ℕ) → slice_index bs 0 ≡ x → 0 < x → (take 1 bs ≡ x ∷ []) × (1 ≤ length bs)
front-one [] x e p = absurd (omega arith)
front-one (b ∷ bs) x e p = (cc, omega arith)

-- the same of two bytes
front-two : (bs : List ℕ) (x y : ℕ) → slice_index bs 0 ≡ x → slice_index bs 1 ≡ y → 0 < y → (take 2 bs ≡ x ∷ y ∷ []) × (2 ≤ length bs)
front-two [] x y e f p = absurd (omega arith)
front-two (b ∷ []) x y e f p = absurd (omega arith)
front-two (b ∷ c ∷ bs) x y e f p = (cc, omega arith)

-- the same of three bytes
front-three : (bs : List ℕ) (x y z : ℕ) → slice_index bs 0 ≡ x → slice_index bs 1 ≡ y → slice_index bs 2 ≡ z → 0 < z → (take 3 bs ≡ x ∷ y ∷ z ∷ []) × (3 ≤ length bs)
front-three [] x y z e f g p = absurd (omega arith)
front-three (b ∷ []) x y z e f g p = absurd (omega arith)
front-three (b ∷ c ∷ []) x y z e f g p = absurd (omega arith)
front-three (b ∷ c ∷ d ∷ bs) x y z e f g p = (cc, omega arith)

-- what holds of the signs of both dialects and of those of paths holds of those of the dialect
pub All-signs : (P : List ℕ × Token → Type 0) (d : Dialect) → All P common_signs → All P path_signs → All P (signs d)
All-signs P dialects.Ltlf h k = h
All-signs P dialects.Ldlf h k = All-append P common_signs path_signs h k

-- the sign is no longer than n bytes, if it is at the front
abbrev IsUpTo : List ℕ → ℕ → List ℕ × Token → Type 0
IsUpTo bs n sign = StartsWith bs sign.0 → length sign.0 ≤ n

-- the bytes are no sign of two or three bytes
record IsAlone (b c e : ℕ) : Type 0 where
  and : (b == 38 && c == 38) ≡ false
  or : (b == 124 && c == 124) ≡ false
  implies : (b == 45 && c == 62) ≡ false
  iff : (b == 60 && c == 45 && e == 62) ≡ false

-- each sign that LDLf alone has is one byte
up_to-paths : (bs : List ℕ) (n : ℕ) → 1 ≤ n → All (IsUpTo bs n) path_signs
up_to-paths bs n p = All-from_recursion (IsUpTo bs n) path_signs (λ _. p, (λ _. p, (λ _. p, (λ _. p, (λ _. p, (λ _. p, (λ _. p, (λ _. p, (λ _. p, (λ _. p, tt))))))))))

-- before a byte that begins no longer sign, each sign at the front is one byte
up_to-one : (d : Dialect) (bs : List ℕ) → IsAlone (slice_index bs 0) (slice_index bs 1) (slice_index bs 2) → All (IsUpTo bs 1) (signs d)
up_to-one d bs a =
    let p : 1 ≤ 1 = omega arith in
    All-signs (IsUpTo bs 1) d
    (All-from_recursion (IsUpTo bs 1) common_signs
    (λ _. p, (λ _. p, (λ _. p, (λ _. p, (λ _. p, (λ h. absurd (not_front-two bs 38 38 [] a.and h), (λ _. p, (λ h. absurd (not_front-two bs 124 124 [] a.or h), (λ h. absurd (not_front-two bs 45 62 [] a.implies h), (λ h. absurd (not_front-three bs 60 45 62 [] a.iff h), tt)))))))))))
    (up_to-paths bs 1 p)

-- where `<->` isn't at the front, each sign there has at most two bytes
up_to-two : (d : Dialect) (bs : List ℕ) → (slice_index bs 0 == 60 && slice_index bs 1 == 45 && slice_index bs 2 == 62) ≡ false → All (IsUpTo bs 2) (signs d)
up_to-two d bs a =
    let p : 1 ≤ 2 = omega arith in
    let q : 2 ≤ 2 = omega arith in
    All-signs (IsUpTo bs 2) d
    (All-from_recursion (IsUpTo bs 2) common_signs (λ _. p, (λ _. p, (λ _. p, (λ _. p, (λ _. p, (λ _. q, (λ _. p, (λ _. q, (λ _. q, (λ h. absurd (not_front-three bs 60 45 62 [] a h), tt)))))))))))
    (up_to-paths bs 2 p)

-- each sign has at most three bytes
up_to-three : (d : Dialect) (bs : List ℕ) → All (IsUpTo bs 3) (signs d)
up_to-three d bs =
    let p : 1 ≤ 3 = omega arith in
    let q : 2 ≤ 3 = omega arith in
    let r : 3 ≤ 3 = omega arith in
    All-signs (IsUpTo bs 3) d
    (All-from_recursion (IsUpTo bs 3) common_signs (λ _. p, (λ _. p, (λ _. p, (λ _. p, (λ _. p, (λ _. q, (λ _. p, (λ _. q, (λ _. q, (λ _. r, tt)))))))))))
    (up_to-paths bs 3 p)

-- a listed sign of one byte that begins no longer sign here is the longest
longest-one : (d : Dialect) (bs : List ℕ) (t : Token) (x : ℕ) → (slice_index bs 0 == x) ≡ true → 0 < x → Contains (signs d) (x ∷ [], t) → IsAlone x (slice_index bs 1) (slice_index bs 2) → IsLongestSign d bs t 1
longest-one d bs t x h p listed alone =
    let e = eqb-true (slice_index bs 0) x h in
    let front = front-one bs x e p in
    let cut = front.0 in
    record { listed = rw cut listed; within = front.1; longest = up_to-one d bs (rw e alone) }

-- a listed sign of two bytes is the longest where `<->` isn't at the front
longest-two : (d : Dialect) (bs : List ℕ) (t : Token) (x y : ℕ) → (slice_index bs 0 == x) ≡ true → (slice_index bs 1 == y) ≡ true → 0 < y → Contains (signs d) (x ∷ y ∷ [], t) → (x == 60 && slice_index bs 1 == 45 && slice_index bs 2 == 62) ≡ false → IsLongestSign d bs t 2
longest-two d bs t x y h k p listed alone =
    let e = eqb-true (slice_index bs 0) x h in
    let front = front-two bs x y e (eqb-true (slice_index bs 1) y k) p in
    let cut = front.0 in
    record { listed = rw cut listed; within = front.1; longest = up_to-two d bs (rw e alone) }

-- a listed sign of three bytes is the longest
longest-three : (d : Dialect) (bs : List ℕ) (t : Token) (x y z : ℕ) → (slice_index bs 0 == x) ≡ true → (slice_index bs 1 == y) ≡ true → (slice_index bs 2 == z) ≡ true → 0 < z → Contains (signs d) (x ∷ y ∷ z ∷ [], t) → IsLongestSign d bs t 3
longest-three d bs t x y z h k l p listed =
    let front = front-three bs x y z (eqb-true (slice_index bs 0) x h) (eqb-true (slice_index bs 1) y k) (eqb-true (slice_index bs 2) z l) p in
    let cut = front.0 in
    record { listed = rw cut listed; within = front.1; longest = up_to-three d bs }

-- a sign of both dialects is one of the dialect
listed-both : (d : Dialect) (text : List ℕ) (t : Token) → Contains common_signs (text, t) → Contains (signs d) (text, t)
listed-both dialects.Ltlf text t h = h
listed-both dialects.Ldlf text t h = Contains-append_left common_signs path_signs (text, t) h

-- a listed sign of one byte that begins no other sign is the longest
longest-plain : (d : Dialect) (bs : List ℕ) (t : Token) (x : ℕ) → (slice_index bs 0 == x) ≡ true → 0 < x → (x == 38 || x == 124 || x == 45 || x == 60) ≡ false → Contains (signs d) (x ∷ [], t) → IsLongestSign d bs t 1
longest-plain d bs t x h p other listed =
    let last = or_parts (x == 38 || x == 124 || x == 45) (x == 60) other in
    let third = or_parts (x == 38 || x == 124) (x == 45) last.0 in
    let first = or_parts (x == 38) (x == 124) third.0 in
    let first_0 = first.0 in
    let first_1 = first.1 in
    let third_1 = third.1 in
    let last_1 = last.1 in
    longest-one d bs t x h p listed (record { and = rw first_0 refl; or = rw first_1 refl; implies = rw third_1 refl; iff = rw last_1 refl })

-- `!` or `~`
longest-not : (d : Dialect) (bs : List ℕ) → (slice_index bs 0 == 33 || slice_index bs 0 == 126) ≡ true → IsLongestSign d bs (token.Prefix before.Not) 1
longest-not d bs = go (slice_index bs 0 == 33) refl
  where
    go : (a : Bool) → (slice_index bs 0 == 33) ≡ a → (a || slice_index bs 0 == 126) ≡ true → IsLongestSign d bs (token.Prefix before.Not) 1
    go true e h = longest-plain d bs (token.Prefix before.Not) 33 e (omega arith) refl (listed-both d _ _ (2, omega arith, refl))
    go false e h = longest-plain d bs (token.Prefix before.Not) 126 h (omega arith) refl (listed-both d _ _ (3, omega arith, refl))

-- `&&`, or `&` before another byte
longest-and : (d : Dialect) (bs : List ℕ) → (slice_index bs 0 == 38) ≡ true → IsLongestSign d bs (token.Infix binary.And) (cond (slice_index bs 1 == 38) 2 1)
longest-and d bs h = go (slice_index bs 1 == 38) refl
  where
    go : (a : Bool) → (slice_index bs 1 == 38) ≡ a → IsLongestSign d bs (token.Infix binary.And) (cond a 2 1)
    go true e = longest-two d bs (token.Infix binary.And) 38 38 h e (omega arith) (listed-both d _ _ (5, omega arith, refl)) refl
    go false e = longest-one d bs (token.Infix binary.And) 38 h (omega arith) (listed-both d _ _ (4, omega arith, refl)) (record { and = e; or = refl; implies = refl; iff = refl })

-- `||`, or `|` before another byte
longest-or : (d : Dialect) (bs : List ℕ) → (slice_index bs 0 == 124) ≡ true → IsLongestSign d bs (token.Infix binary.Or) (cond (slice_index bs 1 == 124) 2 1)
longest-or d bs h = go (slice_index bs 1 == 124) refl
  where
    go : (a : Bool) → (slice_index bs 1 == 124) ≡ a → IsLongestSign d bs (token.Infix binary.Or) (cond a 2 1)
    go true e = longest-two d bs (token.Infix binary.Or) 124 124 h e (omega arith) (listed-both d _ _ (7, omega arith, refl)) refl
    go false e = longest-one d bs (token.Infix binary.Or) 124 h (omega arith) (listed-both d _ _ (6, omega arith, refl)) (record { and = refl; or = e; implies = refl; iff = refl })

-- `->`
longest-implies : (d : Dialect) (bs : List ℕ) → (slice_index bs 0 == 45 && slice_index bs 1 == 62) ≡ true → IsLongestSign d bs (token.Infix binary.Implies) 2
longest-implies d bs h = longest-two d bs (token.Infix binary.Implies) 45 62 (and_parts _ _ h).0 (and_parts _ _ h).1 (omega arith) (listed-both d _ _ (8, omega arith, refl)) refl

-- `<->`
longest-iff : (d : Dialect) (bs : List ℕ) → (slice_index bs 0 == 60 && slice_index bs 1 == 45 && slice_index bs 2 == 62) ≡ true → IsLongestSign d bs (token.Infix binary.Iff) 3
longest-iff d bs h =
    let two = (and_parts (slice_index bs 0 == 60 && slice_index bs 1 == 45) _ h).0 in
    longest-three d bs (token.Infix binary.Iff) 60 45 62 (and_parts _ _ two).0 (and_parts _ _ two).1 (and_parts (slice_index bs 0 == 60 && slice_index bs 1 == 45) _ h).1 (omega arith) (listed-both d _ _ (9, omega arith, refl))

-- what was taken is the longest sign at the front; where nothing was, no sign is at the front
abbrev pub IsLongestTaken : Dialect → List ℕ → Option (Token × ℕ) → Type 0
IsLongestTaken d bs None = All (λ sign. ¬ StartsWith bs sign.0) (signs d)
IsLongestTaken d bs (Some taken) = IsLongestSign d bs taken.0 taken.1

-- what is taken is the longest sign at the front
pub record Takes (d : Dialect) (bs : List ℕ) (taken : Option (Token × ℕ)) : Type 0 where
  pub longest : IsLongestTaken d bs taken

-- the longest sign is taken by the test of the sign, else by those after it
Takes-if : (d : Dialect) (bs : List ℕ) (a : Bool) (s : Token × ℕ) (other : Option (Token × ℕ)) → (a ≡ true → IsLongestSign d bs s.0 s.1) → (a ≡ false → Takes d bs other) → Takes d bs (cond a (Some s) other)
Takes-if d bs true s other h k = record { longest = h refl }
Takes-if d bs false s other h k = k refl

-- the same of a sign of one byte that LDLf alone has
record TakesOne (bs : List ℕ) (taken : Option Token) : Type 0 where
  longest : IsLongestTaken dialects.Ldlf bs (of_one_byte taken)

-- the same of one byte
TakesOne-if : (bs : List ℕ) (a : Bool) (t : Token) (other : Option Token) → (a ≡ true → IsLongestSign dialects.Ldlf bs t 1) → (a ≡ false → TakesOne bs other) → TakesOne bs (cond a (Some t) other)
TakesOne-if bs true t other h k = record { longest = h refl }
TakesOne-if bs false t other h k = k refl

-- the tests of the signs of both dialects fail
record HasNoCommon (bs : List ℕ) : Type 0 where
  open_bracket : (slice_index bs 0 == 40) ≡ false
  close_bracket : (slice_index bs 0 == 41) ≡ false
  not : (slice_index bs 0 == 33 || slice_index bs 0 == 126) ≡ false
  and : (slice_index bs 0 == 38) ≡ false
  or : (slice_index bs 0 == 124) ≡ false
  implies : (slice_index bs 0 == 45 && slice_index bs 1 == 62) ≡ false
  iff : (slice_index bs 0 == 60 && slice_index bs 1 == 45 && slice_index bs 2 == 62) ≡ false

-- the sign isn't at the front
abbrev pub IsAbsent : List ℕ → List ℕ × Token → Type 0
IsAbsent bs sign = ¬ StartsWith bs sign.0

-- where the tests of both dialects fail, none of their signs is at the front
absent-common : (bs : List ℕ) → HasNoCommon bs → All (IsAbsent bs) common_signs
absent-common bs n =
    let nots = or_parts (slice_index bs 0 == 33) (slice_index bs 0 == 126) n.not in
    All-from_recursion (IsAbsent bs) common_signs
    (not_front-one bs 40 [] n.open_bracket, (not_front-one bs 41 [] n.close_bracket, (not_front-one bs 33 [] nots.0, (not_front-one bs 126 [] nots.1, (not_front-one bs 38 [] n.and, (not_front-one bs 38 (38 ∷ []) n.and, (not_front-one bs 124 [] n.or, (not_front-one bs 124 (124 ∷ []) n.or, (not_front-two bs 45 62 [] n.implies, (not_front-three bs 60 45 62 [] n.iff, tt))))))))))

-- behind the signs of both dialects, the longest sign that LDLf alone has is taken
path_sign-TakesOne : (bs : List ℕ) → HasNoCommon bs → TakesOne bs (path_sign (slice_index bs 0))
path_sign-TakesOne bs n =
    let plain = λ (t : Token) (x : ℕ) (h : (slice_index bs 0 == x) ≡ true). longest-plain dialects.Ldlf bs t x h in
    TakesOne-if bs (slice_index bs 0 == 60) _ _ (λ h. longest-one dialects.Ldlf bs (token.OpenModality modalities.Diamond) 60 h (omega arith) (10, omega arith, refl) (record { and = refl; or = refl; implies = refl; iff = rw h at n.iff })) (λ n60.
    TakesOne-if bs (slice_index bs 0 == 62) _ _ (λ h. plain (token.CloseModality modalities.Diamond) 62 h (omega arith) refl (11, omega arith, refl)) (λ n62.
    TakesOne-if bs (slice_index bs 0 == 91) _ _ (λ h. plain (token.OpenModality modalities.BoxAll) 91 h (omega arith) refl (12, omega arith, refl)) (λ n91.
    TakesOne-if bs (slice_index bs 0 == 93) _ _ (λ h. plain (token.CloseModality modalities.BoxAll) 93 h (omega arith) refl (13, omega arith, refl)) (λ n93.
    TakesOne-if bs (slice_index bs 0 == 123) _ _ (λ h. plain token.OpenBrace 123 h (omega arith) refl (14, omega arith, refl)) (λ n123.
    TakesOne-if bs (slice_index bs 0 == 125) _ _ (λ h. plain token.CloseBrace 125 h (omega arith) refl (15, omega arith, refl)) (λ n125.
    TakesOne-if bs (slice_index bs 0 == 59) _ _ (λ h. plain (token.PathInfix path_binary.Seq) 59 h (omega arith) refl (16, omega arith, refl)) (λ n59.
    TakesOne-if bs (slice_index bs 0 == 43) _ _ (λ h. plain (token.PathInfix path_binary.Choice) 43 h (omega arith) refl (17, omega arith, refl)) (λ n43.
    TakesOne-if bs (slice_index bs 0 == 42) _ _ (λ h. plain token.Star 42 h (omega arith) refl (18, omega arith, refl)) (λ n42.
    TakesOne-if bs (slice_index bs 0 == 63) _ _ (λ h. plain token.Question 63 h (omega arith) refl (19, omega arith, refl)) (λ n63.
    record { longest = All-signs (IsAbsent bs) dialects.Ldlf (absent-common bs n) (All-from_recursion (IsAbsent bs) path_signs (not_front-one bs 60 [] n60, (not_front-one bs 62 [] n62, (not_front-one bs 91 [] n91, (not_front-one bs 93 [] n93, (not_front-one bs 123 [] n123, (not_front-one bs 125 [] n125, (not_front-one bs 59 [] n59, (not_front-one bs 43 [] n43, (not_front-one bs 42 [] n42, (not_front-one bs 63 [] n63, tt))))))))))) }))))))))))

-- the same in each dialect
dialect_sign-Takes : (d : Dialect) (bs : List ℕ) → HasNoCommon bs → Takes d bs (dialect_sign d (slice_index bs 0))
dialect_sign-Takes dialects.Ltlf bs n = record { longest = absent-common bs n }
dialect_sign-Takes dialects.Ldlf bs n = record { longest = (path_sign-TakesOne bs n).longest }

-- the longest sign is taken by the tests in their order
pub sign_at-Takes : (d : Dialect) (bs : List ℕ) → Takes d bs (sign_at d bs)
sign_at-Takes d bs =
    Takes-if d bs (slice_index bs 0 == 40) _ _ (λ h. longest-plain d bs token.Open 40 h (omega arith) refl (listed-both d _ _ (0, omega arith, refl))) (λ n40.
    Takes-if d bs (slice_index bs 0 == 41) _ _ (λ h. longest-plain d bs token.Close 41 h (omega arith) refl (listed-both d _ _ (1, omega arith, refl))) (λ n41.
    Takes-if d bs (slice_index bs 0 == 33 || slice_index bs 0 == 126) _ _ (longest-not d bs) (λ n33.
    Takes-if d bs (slice_index bs 0 == 38) _ _ (longest-and d bs) (λ n38.
    Takes-if d bs (slice_index bs 0 == 124) _ _ (longest-or d bs) (λ n124.
    Takes-if d bs (slice_index bs 0 == 45 && slice_index bs 1 == 62) _ _ (longest-implies d bs) (λ n45.
    Takes-if d bs (slice_index bs 0 == 60 && slice_index bs 1 == 45 && slice_index bs 2 == 62) _ _ (longest-iff d bs) (λ n60.
    dialect_sign-Takes d bs (record { open_bracket = n40; close_bracket = n41; not = n33; and = n38; or = n124; implies = n45; iff = n60 }))))))))

-- the piece made of what was taken is the longest sign, or a bad byte where there is none
sign_piece-longest : (d : Dialect) (bs : List ℕ) (taken : Option (Token × ℕ)) → IsLongestTaken d bs taken → IsLongestSignOrBad d bs (sign_piece taken).lexeme (sign_piece taken).size
sign_piece-longest d bs None h = (refl, h)
sign_piece-longest d bs (Some taken) h = h

-- bytes at the front that all go on a word are no more than those that do
word_length-most : (bs : List ℕ) (m : ℕ) → m ≤ length bs → list_all goes_on (take m bs) ≡ true → m ≤ word_length bs
word_length-most bs zero h e = omega arith
word_length-most [] (suc m) h e = absurd (omega arith)
word_length-most (b ∷ bs) (suc m) h e =
    let on = (and_parts (goes_on b) _ e).0 in
    let more = word_length-most bs m (omega arith) (and_parts (goes_on b) _ e).1 in
    rw on (omega arith)

-- a word at the front of at most 64 bytes is no longer than the bytes that go on
word-most : (bs : List ℕ) (m : ℕ) → m ≤ length bs → is_word (take m bs) ≡ true → m ≤ word_length (take longest_word bs)
word-most bs m within word =
    let start = begins_with_word (take m bs) && list_all goes_on (take m bs) in
    let few = leb-true (length (take m bs)) longest_word (and_parts start (nat_le (length (take m bs)) longest_word) word).1 in
    let every = (and_parts (begins_with_word (take m bs)) (list_all goes_on (take m bs)) (and_parts start (nat_le (length (take m bs)) longest_word) word).0).1 in
    let short : m ≤ longest_word = omega (arith, few, length-take m bs) in
    let same : take m (take longest_word bs) ≡ take m bs = take-take m longest_word bs short in
    word_length-most (take longest_word bs) m (omega (arith, short, length-take longest_word bs)) (rw same every)

-- the bytes that go on a word, up to 64, are the longest word at the front
word-IsLongestWord : (bs : List ℕ) → begins_word (slice_index bs 0) ≡ true → IsLongestWord bs (word_length (take longest_word bs))
word-IsLongestWord [] begins = cc
word-IsLongestWord (b ∷ bs) begins = record {
  word = is_word-front (b ∷ bs) (omega arith) begins;
  within = omega (arith, word_length-le (take longest_word (b ∷ bs)), length-take longest_word (b ∷ bs));
  longest = word-most (b ∷ bs);
}

-- at each place the longest token is taken
pub piece_at-longest : TakesLongestTokens
piece_at-longest d bs = go (begins_word (slice_index bs 0)) refl
  where
    go : (a : Bool) → begins_word (slice_index bs 0) ≡ a → IsLongestPiece (begins_word (slice_index bs 0)) d bs (piece_at d bs)
    go true e = rw e (word-IsLongestWord bs e, refl)
    go false e = rw e (sign_piece-longest d bs (sign_at d bs) (sign_at-Takes d bs).longest)
