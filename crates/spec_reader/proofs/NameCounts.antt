-- Names in another order are names, and each is added to those before it.
use Rattle.std.proofs.Common.{◌≡◌, ℕ, ◌+◌, ◌≤◌, ◌<◌, List, [], ◌∷◌, ◌++◌, length, Option, Some, None, Bool, true, false, cond, not, ◌&&◌, ◌||◌, nat_le, arith, refl, sym, ap, ◌∙◌, append_assoc, append-nil, length-append}
use Rattle.std.specs.List.{list_any, list_all, count_by}
use Rattle.std.specs.Str.{bytes_eq}
use Rattle.std.proofs.lemmas.Bool.{leb-false, lt-leb}
use Rattle.std.proofs.lemmas.List.Sums.{sum_by-cons, sum_by-append, AllPass-from_list_all, list_all-from_AllPass}
use Rattle.std.proofs.lemmas.Slice.Eq.{bytes_eq-Decides}
use Rattle.form_tokens.specs.declared.name_fault.NameFault.{NameFault}
use Rattle.form_tokens.specs.declared.name_fault.NameFault.TheVariants as name_faults
use Rattle.form_tokens.specs.Names.{AreNames, AreDifferent, is_listed, name_refusal, most_names}
use Rattle.form_tokens.specs.Words.{is_name}
use Rattle.form_tokens.proofs.NamesLemmas.{AreNames-push}
use Rattle.spec_reader.specs.declared.spec.SpecFault.{SpecFault}
use Rattle.spec_reader.specs.Refusal.{name_or_else, names_fault}

-- one more is counted where it passes
pub count-cons : {A : Type 0} (p : A → Bool) (x : A) (xs : List A) → count_by p (x ∷ xs) ≡ cond (p x) 1 0 + count_by p xs
count-cons p x xs = sum_by-cons (λ y. cond (p y) 1 0) x xs

pub count-append : {A : Type 0} (p : A → Bool) (xs ys : List A) → count_by p (xs ++ ys) ≡ count_by p xs + count_by p ys
count-append p xs ys = sum_by-append (λ y. cond (p y) 1 0) xs ys

count-all : {A : Type 0} (xs : List A) → count_by (λ x. true) xs ≡ length xs
count-all [] = refl
count-all (x ∷ xs) = count-cons (λ y. true) x xs ∙ ap (λ n. 1 + n) (count-all xs) ∙ omega arith

-- where none passes none is counted
none-count : {A : Type 0} (p : A → Bool) (xs : List A) → list_any p xs ≡ false → count_by p xs ≡ 0
none-count p [] e = refl
none-count p (x ∷ xs) e = go (p x) refl e (none-count p xs)
  where
    go : (b : Bool) → p x ≡ b → (b || list_any p xs) ≡ false → (list_any p xs ≡ false → count_by p xs ≡ 0) → count_by p (x ∷ xs) ≡ 0
    go true f h k = cc
    go false f h k = count-cons p x xs ∙ rw (f, k h) refl

count-none : {A : Type 0} (p : A → Bool) (xs : List A) → count_by p xs ≡ 0 → list_any p xs ≡ false
count-none p [] e = refl
count-none p (x ∷ xs) e = go (p x) refl (sym (count-cons p x xs) ∙ e) (count-none p xs)
  where
    go : (b : Bool) → p x ≡ b → cond (p x) 1 0 + count_by p xs ≡ 0 → (count_by p xs ≡ 0 → list_any p xs ≡ false) → (b || list_any p xs) ≡ false
    go true f h k = let g = rw f at h in absurd (omega arith)
    go false f h k = let g = rw f at h in k (omega arith)

-- where all pass none is counted that doesn't
all-count : {A : Type 0} (p : A → Bool) (xs : List A) → list_all p xs ≡ true → count_by (λ x. not (p x)) xs ≡ 0
all-count p [] e = refl
all-count p (x ∷ xs) e = go (p x) refl e (all-count p xs)
  where
    go : (b : Bool) → p x ≡ b → (b && list_all p xs) ≡ true → (list_all p xs ≡ true → count_by (λ y. not (p y)) xs ≡ 0) → count_by (λ y. not (p y)) (x ∷ xs) ≡ 0
    go true f h k = count-cons (λ y. not (p y)) x xs ∙ rw (f, k h) refl
    go false f h k = cc

count-all_pass : {A : Type 0} (p : A → Bool) (xs : List A) → count_by (λ x. not (p x)) xs ≡ 0 → list_all p xs ≡ true
count-all_pass p [] e = refl
count-all_pass p (x ∷ xs) e = go (p x) refl (sym (count-cons (λ y. not (p y)) x xs) ∙ e) (count-all_pass p xs)
  where
    go : (b : Bool) → p x ≡ b → cond (not (p x)) 1 0 + count_by (λ y. not (p y)) xs ≡ 0 → (count_by (λ y. not (p y)) xs ≡ 0 → list_all p xs ≡ true) → (b && list_all p xs) ≡ true
    go true f h k = let g = rw f at h in k (omega arith)
    go false f h k = let g = rw f at h in absurd (omega arith)

-- of different names none is counted twice
different-count : (ns : List (List ℕ)) (w : List ℕ) → AreDifferent ns → count_by (bytes_eq w) ns ≤ 1
different-count [] w h = omega arith
different-count (n ∷ ns) w h = go (bytes_eq w n) refl (different-count ns w h.1)
  where
    go : (b : Bool) → bytes_eq w n ≡ b → count_by (bytes_eq w) ns ≤ 1 → count_by (bytes_eq w) (n ∷ ns) ≤ 1
    go true e k =
        let same : w ≡ n = (bytes_eq-Decides w n).0 e in
        let none : count_by (bytes_eq w) ns ≡ 0 = rw same (none-count (bytes_eq n) ns h.0) in
        let c : count_by (bytes_eq w) (n ∷ ns) ≡ 1 + count_by (bytes_eq w) ns = count-cons (bytes_eq w) n ns ∙ rw e refl in
        omega arith
    go false e k =
        let c : count_by (bytes_eq w) (n ∷ ns) ≡ 0 + count_by (bytes_eq w) ns = count-cons (bytes_eq w) n ns ∙ rw e refl in
        omega arith

count-different : (ns : List (List ℕ)) → ((w : List ℕ) → count_by (bytes_eq w) ns ≤ 1) → AreDifferent ns
count-different [] h = tt
count-different (n ∷ ns) h =
    let same : bytes_eq n n ≡ true = (bytes_eq-Decides n n).1 refl in
    let c : count_by (bytes_eq n) (n ∷ ns) ≡ 1 + count_by (bytes_eq n) ns = count-cons (bytes_eq n) n ns ∙ rw same refl in
    let most = h n in
    (count-none (bytes_eq n) ns (omega arith), count-different ns (λ w. let k = h w in let d = count-cons (bytes_eq w) n ns in omega arith))

-- names that are counted alike by every test are names
pub AreNames-same : (ns ms : List (List ℕ)) → ((p : List ℕ → Bool) → count_by p ns ≡ count_by p ms) → AreNames ns → AreNames ms
AreNames-same ns ms same h = record {
  few = (let e = same (λ w. true) in let f = h.few in omega (arith, count-all ns, count-all ms));
  valid = AllPass-from_list_all is_name ms (count-all_pass is_name ms (sym (same (λ w. not (is_name w))) ∙ all-count is_name ns (list_all-from_AllPass is_name ns h.valid)));
  different = count-different ms (λ w. let e = same (bytes_eq w) in let k = different-count ns w h.different in omega arith);
}

name_or_else-None : (number : ℕ) (given : List (List ℕ)) (w : List ℕ) (later : Option SpecFault) → name_or_else number (name_refusal given w) later ≡ None → (name_refusal given w ≡ None) × (later ≡ None)
name_or_else-None number given w later e = go (name_refusal given w) refl e
  where
    go : (o : Option NameFault) → name_refusal given w ≡ o → name_or_else number o later ≡ None → (name_refusal given w ≡ None) × (later ≡ None)
    go None f h = (f, h)
    go (Some x) f h = cc

-- a name that isn't refused is new, and there is room for it
name_refusal-None : (given : List (List ℕ)) (w : List ℕ) → name_refusal given w ≡ None → (is_name w ≡ true) × (is_listed given w ≡ false) × (length given < most_names)
name_refusal-None given w e = go (is_name w) (is_listed given w) (nat_le most_names (length given)) refl refl refl e
  where
    go : (a b c : Bool) → is_name w ≡ a → is_listed given w ≡ b → nat_le most_names (length given) ≡ c → cond (not a) (Some name_faults.Bad) (cond b (Some name_faults.Twice) (cond c (Some name_faults.TooMany) None)) ≡ None → (is_name w ≡ true) × (is_listed given w ≡ false) × (length given < most_names)
    go true false false f g k h = (f, g, leb-false most_names (length given) k)
    go true false true f g k h = cc
    go true true c f g k h = cc
    go false b c f g k h = cc

-- words none of which is refused make names with those given before
pub names_fault-AreNames : (number : ℕ) (given words : List (List ℕ)) → names_fault number given words ≡ None → AreNames given → AreNames (given ++ words)
names_fault-AreNames number given [] e h = rw (append-nil given) h
names_fault-AreNames number given (w ∷ words) e h =
    let parts = name_or_else-None number given w _ e in
    let new = name_refusal-None given w parts.0 in
    let more = AreNames-push given (given ++ w ∷ []) w h new.2 new.1 new.0 refl in
    rw (append_assoc given (w ∷ []) words) at (names_fault-AreNames number (given ++ w ∷ []) words parts.1 more)

list_all-parts : {A : Type 0} (p : A → Bool) (xs : List A) (y : A) (ys : List A) → list_all p (xs ++ y ∷ ys) ≡ true → p y ≡ true
list_all-parts p [] y ys e = go (p y) e
  where
    go : (b : Bool) → (b && list_all p ys) ≡ true → b ≡ true
    go true h = refl
    go false h = cc
list_all-parts p (x ∷ xs) y ys e = go (p x) e (list_all-parts p xs y ys)
  where
    go : (b : Bool) → (b && list_all p (xs ++ y ∷ ys)) ≡ true → (list_all p (xs ++ y ∷ ys) ≡ true → p y ≡ true) → p y ≡ true
    go true h k = k h
    go false h k = cc

-- a name among others isn't refused behind those before it
name_refusal-among : (given : List (List ℕ)) (w : List ℕ) (later : List (List ℕ)) → AreNames (given ++ w ∷ later) → name_refusal given w ≡ None
name_refusal-among given w later h =
    let named : is_name w ≡ true = list_all-parts is_name given w later (list_all-from_AllPass is_name (given ++ w ∷ later) h.valid) in
    let self : bytes_eq w w ≡ true = (bytes_eq-Decides w w).1 refl in
    let sum = count-append (bytes_eq w) given (w ∷ later) in
    let here : count_by (bytes_eq w) (w ∷ later) ≡ 1 + count_by (bytes_eq w) later = count-cons (bytes_eq w) w later ∙ rw self refl in
    let once = different-count (given ++ w ∷ later) w h.different in
    let new : is_listed given w ≡ false = count-none (bytes_eq w) given (omega arith) in
    let few = h.few in
    let room : nat_le most_names (length given) ≡ false = lt-leb most_names (length given) (omega (arith, length-append given (w ∷ later))) in
    rw (named, new, room) refl

-- names behind those given are not refused
pub names_fault-among : (number : ℕ) (given words later : List (List ℕ)) → AreNames ((given ++ words) ++ later) → names_fault number given words ≡ None
names_fault-among number given [] later h = refl
names_fault-among number given (w ∷ words) later h =
    let first = name_refusal-among given w (words ++ later) (rw (append_assoc given (w ∷ words) later) at h) in
    let rest = names_fault-among number (given ++ w ∷ []) words later (rw (append_assoc given (w ∷ []) words) h) in
    rw first rest

-- a name that is added, and those behind it
pub names_fault-step : (number : ℕ) (given more : List (List ℕ)) (w : List ℕ) (words rest : List (List ℕ)) → rest ≡ w ∷ words → name_refusal given w ≡ None → more ≡ given ++ w ∷ [] → names_fault number given rest ≡ names_fault number more words
names_fault-step number given more w words rest e none added =
    ap (names_fault number given) e
    ∙ ap (λ o. name_or_else number o (names_fault number (given ++ w ∷ []) words)) none
    ∙ ap (λ ns. names_fault number ns words) (sym added)

-- and the names after it
pub names-step : (given more : List (List ℕ)) (w : List ℕ) (words rest all : List (List ℕ)) → rest ≡ w ∷ words → more ≡ given ++ w ∷ [] → given ++ rest ≡ all → more ++ words ≡ all
names-step given more w words rest all e added before =
    ap (λ ns. ns ++ words) added ∙ append_assoc given (w ∷ []) words ∙ ap (λ ws. given ++ ws) (sym e) ∙ before
