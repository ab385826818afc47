-- Names in the order of the set that holds them.
use Rattle.std.proofs.Common.{◌≡◌, ℕ, suc, ◌+◌, ◌≤◌, ◌<◌, List, [], ◌∷◌, ◌++◌, Some, None, refl, sym, ap, ◌∙◌, arith, Bool, true, false, ◌||◌, cond, not, nat_lt, leb, length, map, position, inl, inr, ◌⊎◌}
use Rattle.std.proofs.lemmas.Bool.Decides.{leb_tells}
use Rattle.std.proofs.lemmas.Bool.{le-ltb, lt-ltb, or_parts}
use Rattle.std.proofs.lemmas.List.{length-map, map-append, length-append}
use Rattle.std.proofs.lemmas.List.Folds.{list_any-append}
use Rattle.std.proofs.lemmas.List.Elements.{All-push}
use Rattle.std.proofs.lemmas.Slice.Eq.{bytes_eq-Decides}
use Rattle.std.specs.Str.{bytes_eq}
use Rattle.indexmap.specs.IndexSet.{insert_key}
use Rattle.form_tokens.specs.Names.{is_listed, AreDifferent, AreNames, most_names}
use Rattle.form_tokens.specs.Words.{is_name}
use Rattle.std.specs.List.{position_or_len, list_any}
use Rattle.std.specs.Option.{is_some}

-- `position_or_len` of a mapped list is that of the list, by the test after the map
pub position_or_len-map : {A B : Type 0} (p : B → Bool) (f : A → B) (xs : List A) → position_or_len p (map f xs) ≡ position_or_len (λ x. p (f x)) xs
position_or_len-map p f [] = refl
position_or_len-map p f (x ∷ xs) = ap (λ n. cond (not (p (f x))) (1 + n) 0) (position_or_len-map p f xs)

-- where a name stands in the list that the set shows
pub position-map : {A B : Type 0} (p : B → Bool) (f : A → B) (xs : List A) → position p (map f xs) ≡ position (λ x. p (f x)) xs
position-map p f xs = rw (position_or_len-map p f xs, length-map)

-- an item of a mapped list passes a test exactly where one of the list passes it after the map
pub list_any-map : {A B : Type 0} (p : B → Bool) (f : A → B) (xs : List A) → list_any p (map f xs) ≡ list_any (λ x. p (f x)) xs
list_any-map p f [] = refl
list_any-map p f (x ∷ xs) = ap (λ b. p (f x) || b) (list_any-map p f xs)

lt-suc : (n m : ℕ) → nat_lt (1 + n) (suc m) ≡ nat_lt n m
lt-suc n m = pick (leb_tells (suc n) m)
  where
    pick : ((leb (suc n) m ≡ true) × (suc n ≤ m)) ⊎ ((leb (suc n) m ≡ false) × (m < suc n)) → nat_lt (1 + n) (suc m) ≡ nat_lt n m
    pick (inl p) = rw (p.0, lt-ltb (1 + n) (suc m) (omega (arith, p.1)))
    pick (inr p) = rw (p.0, le-ltb (1 + n) (suc m) (omega (arith, p.1)))

-- the position of what is there is within the list
pub position_or_len-within : {A : Type 0} (p : A → Bool) (xs : List A) → nat_lt (position_or_len p xs) (length xs) ≡ list_any p xs
position_or_len-within p [] = refl
position_or_len-within p (x ∷ xs) = go (p x) (position_or_len-within p xs)
  where
    go : (b : Bool) → nat_lt (position_or_len p xs) (length xs) ≡ list_any p xs → nat_lt (cond (not b) (1 + position_or_len p xs) 0) (suc (length xs)) ≡ (b || list_any p xs)
    go true e = lt-ltb 0 (suc (length xs)) (omega arith)
    go false e = lt-suc (position_or_len p xs) (length xs) ∙ e

-- a position is found exactly where something passes the test
pub is_some-position : {A : Type 0} (p : A → Bool) (xs : List A) → is_some (position p xs) ≡ list_any p xs
is_some-position p xs = go (nat_lt (position_or_len p xs) (length xs)) (position_or_len-within p xs)
  where
    go : (b : Bool) → b ≡ list_any p xs → is_some (cond b (Some (position_or_len p xs)) None) ≡ list_any p xs
    go true e = e
    go false e = e

list_any-insert_key : {A : Type 0} (eq : A → A → Bool) (f : A → List ℕ) (ks : List A) (v : A) → ((k : A) → eq v k ≡ bytes_eq (f v) (f k)) → list_any (eq v) ks ≡ list_any (bytes_eq (f v)) (map f ks)
list_any-insert_key eq f [] v same = refl
list_any-insert_key eq f (k ∷ ks) v same = rw (same k) (ap (λ b. bytes_eq (f v) (f k) || b) (list_any-insert_key eq f ks v same))

-- a new name goes last
pub map-insert_key : {A : Type 0} (eq : A → A → Bool) (f : A → List ℕ) (ks ls : List A) (v : A) (w : List ℕ) (ns : List (List ℕ)) → ((k : A) → eq v k ≡ bytes_eq (f v) (f k)) → f v ≡ w → map f ks ≡ ns → is_listed ns w ≡ false → ls ≡ insert_key eq ks v → map f ls ≡ ns ++ w ∷ []
map-insert_key eq f ks ls v w ns same is view new e =
    let absent : list_any (eq v) ks ≡ false = list_any-insert_key eq f ks v same ∙ rw (is, view) new in
    ap (map f) (e ∙ rw absent) ∙ map-append f ks (v ∷ []) ∙ rw (is, view)

bytes_eq-false : (u v : List ℕ) → bytes_eq u v ≡ false → bytes_eq v u ≡ false
bytes_eq-false u v e = go (bytes_eq v u) refl
  where
    go : (b : Bool) → bytes_eq v u ≡ b → b ≡ false
    go true h = let d : v ≡ u = (bytes_eq-Decides v u).0 h in let k : bytes_eq u v ≡ true = (bytes_eq-Decides u v).1 (sym d) in cc
    go false h = refl

-- a new name keeps names different
AreDifferent-push : (ns : List (List ℕ)) (w : List ℕ) → AreDifferent ns → is_listed ns w ≡ false → AreDifferent (ns ++ w ∷ [])
AreDifferent-push [] w h e = (refl, tt)
AreDifferent-push (n ∷ ns) w h e =
    let apart = or_parts (bytes_eq w n) _ e in
    (list_any-append (bytes_eq n) ns (w ∷ []) ∙ rw (h.0, bytes_eq-false w n apart.0), AreDifferent-push ns w h.1 apart.1)

-- the names of a table with a new one
pub AreNames-push : (ns ms : List (List ℕ)) (w : List ℕ) → AreNames ns → length ns < most_names → is_listed ns w ≡ false → is_name w ≡ true → ms ≡ ns ++ w ∷ [] → AreNames ms
AreNames-push ns ms w h room new valid e = rw e (record {
  few = omega (arith, length-append ns (w ∷ []));
  valid = All-push (λ v. is_name v ≡ true) ns w h.valid valid;
  different = AreDifferent-push ns w h.different new;
})

-- a position that is found is the one that `position_or_len` gives
pub position-Some_is : {A : Type 0} (p : A → Bool) (xs : List A) (i : ℕ) → Some i ≡ position p xs → i ≡ position_or_len p xs
position-Some_is p xs i e = go (nat_lt (position_or_len p xs) (length xs)) e
  where
    go : (b : Bool) → Some i ≡ cond b (Some (position_or_len p xs)) None → i ≡ position_or_len p xs
    go true h = cc
    go false h = cc

-- `position_or_len` is at most the length
pub position_or_len-le : {A : Type 0} (p : A → Bool) (xs : List A) → position_or_len p xs ≤ length xs
position_or_len-le p [] = omega arith
position_or_len-le p (x ∷ xs) = go (p x) (position_or_len-le p xs)
  where
    go : (b : Bool) → position_or_len p xs ≤ length xs → cond (not b) (1 + position_or_len p xs) 0 ≤ suc (length xs)
    go true h = omega arith
    go false h = omega arith

-- where none is found, `position_or_len` gives the length
pub position-None_is : {A : Type 0} (p : A → Bool) (xs : List A) → None ≡ position p xs → length xs ≡ position_or_len p xs
position-None_is p xs e = go (leb_tells (suc (position_or_len p xs)) (length xs))
  where
    go : ((leb (suc (position_or_len p xs)) (length xs) ≡ true) × (suc (position_or_len p xs) ≤ length xs)) ⊎ ((leb (suc (position_or_len p xs)) (length xs) ≡ false) × (length xs < suc (position_or_len p xs))) → length xs ≡ position_or_len p xs
    go (inl h) = let d : None ≡ Some (position_or_len p xs) = e ∙ rw h.0 in cc
    go (inr h) = omega (arith, h.1, position_or_len-le p xs)

-- `position_or_len` by what the search for a position found
pub ruleset positions = (position-Some_is, position-None_is)
