-- Lines none of which has a fault, and what that says of all of them.
use Rattle.std.proofs.Common.{◌≡◌, ℕ, ◌+◌, ◌≤◌, ◌<◌, List, [], ◌∷◌, ◌++◌, map, Option, Some, None, Bool, true, false, cond, ◌&&◌, nat_lt, nat_eq, arith, refl, sym, ap, ◌∙◌, append_assoc, append-nil}
use Rattle.std.specs.Option.{is_some}
use Rattle.std.specs.List.{list_all, count_by}
use Rattle.std.proofs.lemmas.Bool.{ltb-true, lt-ltb}
use Rattle.std.proofs.lemmas.Bool.Decides.{nat_tests}
use Rattle.form_tokens.specs.Names.{AreNames}
use Rattle.spec_lines.specs.Lines.{TextLine}
use Rattle.spec_lines.specs.Keywords.{keyword_of, most_lines, count_of, is_of, lines_with, values_of}
use Rattle.spec_lines.specs.declared.keywords.Keyword.{Keyword}
use Rattle.spec_lines.specs.declared.keywords.Keyword.TheVariants as key
use Rattle.spec_lines.specs.declared.keywords.Heading.{Heading}
use Rattle.spec_lines.specs.Values.{dialect_of, mover_of, empty_of, limit_of, most_limit, words_of}
use Rattle.spec_lines.proofs.KeywordLemmas.{keyword_of-is, is_of-keyword}
use Rattle.spec_reader.specs.declared.spec.SpecFault.{SpecFault}
use Rattle.spec_reader.specs.declared.spec.SpecFault.TheVariants as fault
use Rattle.spec_reader.specs.Said.{is_read}
use Rattle.spec_reader.specs.Refusal.{or_else, count_fault, key_fault, unless_read, value_fault, names_fault, given_with, lines_fault, Blames}
use Rattle.spec_reader.proofs.NameCounts.{count-cons, count-append, names_fault-AreNames, names_fault-among}

-- of two faults there is none
pub or_else-None : (o p : Option SpecFault) → or_else o p ≡ None → (o ≡ None) × (p ≡ None)
or_else-None None p e = (refl, e)
or_else-None (Some x) p e = cc

-- and the other way round
pub None-or_else : (o p : Option SpecFault) → o ≡ None → p ≡ None → or_else o p ≡ None
None-or_else None p e f = f
None-or_else (Some x) p e f = cc

-- the first fault is the fault
pub or_else-Some : (o p : Option SpecFault) (e : SpecFault) → o ≡ Some e → or_else o p ≡ Some e
or_else-Some None p e h = cc
or_else-Some (Some x) p e h = h

-- where there is no first fault the later one is the fault
pub or_else-later : (o p q : Option SpecFault) → o ≡ None → p ≡ q → or_else o p ≡ q
or_else-later None p q h k = k
or_else-later (Some x) p q h k = cc

-- a key is good where fewer lines have it than may
count_fault-None : (number count most : ℕ) → count_fault number count most ≡ None → count < most
count_fault-None number count most e = go (nat_eq most 0) (nat_lt count most) (nat_eq most 1) refl e
  where
    go : (a b c : Bool) → nat_lt count most ≡ b → cond a (Some (fault.UnknownKey number)) (cond b None (cond c (Some (fault.Repeated number)) (Some (fault.TooManyLines number)))) ≡ None → count < most
    go true b c f h = cc
    go false true c f h = ltb-true count most f
    go false false true f h = cc
    go false false false f h = cc

None-count_fault : (number count most : ℕ) → count < most → count_fault number count most ≡ None
None-count_fault number count most h =
    let few : nat_lt count most ≡ true = lt-ltb count most h in
    let some : nat_eq most 0 ≡ false = grind (arith, nat_tests) in
    rw (some, few) refl

-- the faults of lines one of which stands first
record Firsts (h : Heading) (before : List TextLine) (given : List (List ℕ)) (l : TextLine) (ls : List TextLine) : Type 0 where
  key : key_fault h before l.number (keyword_of l.key) ≡ None
  value : value_fault h given l (keyword_of l.key) ≡ None
  later : lines_fault h (before ++ l ∷ []) (given_with given l (keyword_of l.key)) ls ≡ None

firsts : (h : Heading) (before : List TextLine) (given : List (List ℕ)) (l : TextLine) (ls : List TextLine) → lines_fault h before given (l ∷ ls) ≡ None → Firsts h before given l ls
firsts h before given l ls e =
    let parts = or_else-None (key_fault h before l.number (keyword_of l.key)) _ e in
    let rest = or_else-None (value_fault h given l (keyword_of l.key)) _ parts.1 in
    record { key = parts.0; value = rest.0; later = rest.1 }

-- one more line is counted where it has the key
count-snoc : (k : Keyword) (before : List TextLine) (l : TextLine) → count_of k (before ++ l ∷ []) ≡ count_of k before + cond (is_of k l) 1 0
count-snoc k before l = count-append (is_of k) before (l ∷ []) ∙ ap (λ n. count_of k before + n) (count-cons (is_of k) l [] ∙ omega arith)

-- no key stands on more lines than it may
pub lines_fault-counts : (h : Heading) (k : Keyword) (before : List TextLine) (given : List (List ℕ)) (ls : List TextLine) → lines_fault h before given ls ≡ None → count_of k before ≤ most_lines h k → count_of k (before ++ ls) ≤ most_lines h k
lines_fault-counts h k before given [] e few = rw (append-nil before) few
lines_fault-counts h k before given (l ∷ ls) e few =
    let f = firsts h before given l ls e in
    rw (append_assoc before (l ∷ []) ls) at (lines_fault-counts h k (before ++ l ∷ []) (given_with given l (keyword_of l.key)) ls f.later (go (is_of k l) refl f.key))
  where
    go : (b : Bool) → is_of k l ≡ b → key_fault h before l.number (keyword_of l.key) ≡ None → count_of k (before ++ l ∷ []) ≤ most_lines h k
    go true is d =
        let good = rw (keyword_of-is l k is) at d in
        let less = count_fault-None l.number (count_of k before) (most_lines h k) good in
        let sum : count_of k (before ++ l ∷ []) ≡ count_of k before + 1 = count-snoc k before l ∙ rw is refl in
        omega arith
    go false is d =
        let sum : count_of k (before ++ l ∷ []) ≡ count_of k before + 0 = count-snoc k before l ∙ rw is refl in
        omega arith

-- every key is known
pub lines_fault-known : (h : Heading) (before : List TextLine) (given : List (List ℕ)) (ls : List TextLine) → lines_fault h before given ls ≡ None → list_all (λ l. is_some (keyword_of l.key)) ls ≡ true
lines_fault-known h before given [] e = refl
lines_fault-known h before given (l ∷ ls) e =
    let f = firsts h before given l ls e in
    go (keyword_of l.key) f.key (lines_fault-known h (before ++ l ∷ []) (given_with given l (keyword_of l.key)) ls f.later)
  where
    go : (o : Option Keyword) → key_fault h before l.number o ≡ None → list_all (λ x. is_some (keyword_of x.key)) ls ≡ true → (is_some o && list_all (λ x. is_some (keyword_of x.key)) ls) ≡ true
    go None d k = cc
    go (Some x) d k = k

-- whether all values are read
abbrev pub all_read : {A : Type 0} → (List ℕ → Option A) → List (List ℕ) → Bool
all_read read values = list_all (λ value. is_some (read value)) values

unless_read-None : {A : Type 0} (number : ℕ) (o : Option A) → unless_read number o ≡ None → is_some o ≡ true
unless_read-None number None e = cc
unless_read-None number (Some x) e = refl

None-unless_read : {A : Type 0} (number : ℕ) (o : Option A) → is_some o ≡ true → unless_read number o ≡ None
None-unless_read number None e = cc
None-unless_read number (Some x) e = refl

-- the values of a key are read
pub lines_fault-read : {A : Type 0} (read : List ℕ → Option A) (h : Heading) (k : Keyword) → ((given : List (List ℕ)) (l : TextLine) → value_fault h given l (Some k) ≡ unless_read l.number (read l.value)) → (before : List TextLine) (given : List (List ℕ)) (ls : List TextLine) → lines_fault h before given ls ≡ None → all_read read (values_of k ls) ≡ true
lines_fault-read read h k is before given [] e = refl
lines_fault-read read h k is before given (l ∷ ls) e =
    let f = firsts h before given l ls e in
    go (is_of k l) refl f.value (lines_fault-read read h k is (before ++ l ∷ []) (given_with given l (keyword_of l.key)) ls f.later)
  where
    go : (b : Bool) → is_of k l ≡ b → value_fault h given l (keyword_of l.key) ≡ None → all_read read (values_of k ls) ≡ true → all_read read (map (λ x. x.value) (cond b (l ∷ lines_with k ls) (lines_with k ls))) ≡ true
    go true same d later =
        let good = rw (keyword_of-is l k same) at d in
        let here = unless_read-None l.number (read l.value) (sym (is given l) ∙ good) in
        rw here later
    go false same d later = later

-- the names that all lines give, after those given before
abbrev pub given_all : List (List ℕ) → List TextLine → List (List ℕ)
given_all given [] = given
given_all given (l ∷ ls) = given_all (given_with given l (keyword_of l.key)) ls

-- all names that lines give are names
pub lines_fault-AreNames : (h : Heading) (before : List TextLine) (given : List (List ℕ)) (ls : List TextLine) → lines_fault h before given ls ≡ None → AreNames given → AreNames (given_all given ls)
lines_fault-AreNames h before given [] e names = names
lines_fault-AreNames h before given (l ∷ ls) e names =
    let f = firsts h before given l ls e in
    lines_fault-AreNames h (before ++ l ∷ []) (given_with given l (keyword_of l.key)) ls f.later (go (keyword_of l.key) f.value)
  where
    go : (o : Option Keyword) → value_fault h given l o ≡ None → AreNames (given_with given l o)
    go (Some key.Inputs) d = names_fault-AreNames l.number given (words_of l.value) d names
    go (Some key.Outputs) d = names_fault-AreNames l.number given (words_of l.value) d names
    go o d = names

-- the words of values, one value after the other
abbrev pub words_all : List (List ℕ) → List (List ℕ)
words_all [] = []
words_all (value ∷ later) = words_of value ++ words_all later

-- names that lines give are counted as those of the two keys
pub given_all-count : (p : List ℕ → Bool) (given : List (List ℕ)) (ls : List TextLine) → count_by p (given_all given ls) ≡ count_by p given + (count_by p (words_all (values_of key.Inputs ls)) + count_by p (words_all (values_of key.Outputs ls)))
given_all-count p given [] = omega arith
given_all-count p given (l ∷ ls) =
    go (keyword_of l.key) refl (λ more. given_all-count p more ls)
  where
    c : List TextLine → Keyword → ℕ
    c xs k = count_by p (words_all (values_of k xs))

    other : (k : Keyword) → (is_of k l ≡ true → ⊥) → is_of k l ≡ false
    other k differs = pick (is_of k l) refl
      where
        pick : (b : Bool) → is_of k l ≡ b → is_of k l ≡ false
        pick true e = absurd (differs e)
        pick false e = e

    go : (o : Option Keyword) → keyword_of l.key ≡ o → ((more : List (List ℕ)) → count_by p (given_all more ls) ≡ count_by p more + (count_by p (words_all (values_of key.Inputs ls)) + count_by p (words_all (values_of key.Outputs ls))))
        → count_by p (given_all (given_with given l o) ls) ≡ count_by p given + (count_by p (words_all (values_of key.Inputs (l ∷ ls))) + count_by p (words_all (values_of key.Outputs (l ∷ ls))))
    go (Some key.Inputs) e later =
        let present : is_of key.Inputs l ≡ true = is_of-keyword l key.Inputs e in
        let absent : is_of key.Outputs l ≡ false = other key.Outputs (λ h. let f = keyword_of-is l key.Outputs h in cc) in
        rw (present, absent) (omega (arith, later (given ++ words_of l.value), count-append p given (words_of l.value), count-append p (words_of l.value) (words_all (values_of key.Inputs ls))))
    go (Some key.Outputs) e later =
        let present : is_of key.Outputs l ≡ true = is_of-keyword l key.Outputs e in
        let absent : is_of key.Inputs l ≡ false = other key.Inputs (λ h. let f = keyword_of-is l key.Inputs h in cc) in
        rw (absent, present) (omega (arith, later (given ++ words_of l.value), count-append p given (words_of l.value), count-append p (words_of l.value) (words_all (values_of key.Outputs ls))))
    go o e later =
        let absent : is_of key.Inputs l ≡ false = other key.Inputs (λ h. let f = keyword_of-is l key.Inputs h in cc) in
        let none : is_of key.Outputs l ≡ false = other key.Outputs (λ h. let f = keyword_of-is l key.Outputs h in cc) in
        rw (absent, none) (later given)

-- the names that lines give stand behind those given before
given_all-append : (given : List (List ℕ)) (ls : List TextLine) → (more : List (List ℕ)) × (given_all given ls ≡ given ++ more)
given_all-append given [] = ([], sym (append-nil given))
given_all-append given (l ∷ ls) = go (keyword_of l.key) (given_all-append (given_with given l (keyword_of l.key)) ls)
  where
    go : (o : Option Keyword) → (more : List (List ℕ)) × (given_all (given_with given l o) ls ≡ given_with given l o ++ more) → (more : List (List ℕ)) × (given_all (given_with given l o) ls ≡ given ++ more)
    go (Some key.Inputs) h = (words_of l.value ++ h.0, h.1 ∙ append_assoc given (words_of l.value) h.0)
    go (Some key.Outputs) h = (words_of l.value ++ h.0, h.1 ∙ append_assoc given (words_of l.value) h.0)
    go o h = h

-- the values of lines that stand for something are read
pub record AreRead (h : Heading) (ls : List TextLine) : Type 0 where
  pub dialect : all_read dialect_of (values_of key.Dialect ls) ≡ true
  pub first : all_read mover_of (values_of key.First ls) ≡ true
  pub limit : all_read (limit_of (most_limit h)) (values_of key.Limit ls) ≡ true
  pub empty : all_read empty_of (values_of key.Empty ls) ≡ true

read-first : {A : Type 0} (read : List ℕ → Option A) (k : Keyword) (l : TextLine) (ls : List TextLine) → all_read read (values_of k (l ∷ ls)) ≡ true → keyword_of l.key ≡ Some k → is_some (read l.value) ≡ true
read-first read k l ls e is = let present = is_of-keyword l k is in go (is_some (read l.value)) (rw present at e)
  where
    go : (b : Bool) → (b && all_read read (values_of k ls)) ≡ true → b ≡ true
    go true h = refl
    go false h = cc

read-later : {A : Type 0} (read : List ℕ → Option A) (k : Keyword) (l : TextLine) (ls : List TextLine) → all_read read (values_of k (l ∷ ls)) ≡ true → all_read read (values_of k ls) ≡ true
read-later read k l ls e = go (is_of k l) (is_some (read l.value)) refl e
  where
    go : (b c : Bool) → is_some (read l.value) ≡ c → all_read read (map (λ x. x.value) (cond b (l ∷ lines_with k ls) (lines_with k ls))) ≡ true → all_read read (values_of k ls) ≡ true
    go true true is h = let f = rw is at h in f
    go true false is h = let f = rw is at h in cc
    go false c is h = h

-- lines whose keys are known and not too many, whose values are read, and whose names are names, have no fault
pub None-lines_fault : (h : Heading) (before : List TextLine) (given : List (List ℕ)) (ls : List TextLine) → list_all (λ l. is_some (keyword_of l.key)) ls ≡ true → ((k : Keyword) → count_of k (before ++ ls) ≤ most_lines h k) → AreRead h ls → AreNames (given_all given ls) → lines_fault h before given ls ≡ None
None-lines_fault h before given [] known few read names = refl
None-lines_fault h before given (l ∷ ls) known few read names =
    None-or_else (key_fault h before l.number (keyword_of l.key)) _ (good_key (keyword_of l.key) refl known)
    (None-or_else (value_fault h given l (keyword_of l.key)) _ (good_value (keyword_of l.key) refl names)
    (None-lines_fault h (before ++ l ∷ []) (given_with given l (keyword_of l.key)) ls (rest (is_some (keyword_of l.key)) known)
    (λ k. rw (append_assoc before (l ∷ []) ls) (few k))
    (record {
      dialect = read-later dialect_of key.Dialect l ls read.dialect;
      first = read-later mover_of key.First l ls read.first;
      limit = read-later (limit_of (most_limit h)) key.Limit l ls read.limit;
      empty = read-later empty_of key.Empty l ls read.empty;
    })
    names))
  where
    rest : (b : Bool) → (b && list_all (λ x. is_some (keyword_of x.key)) ls) ≡ true → list_all (λ x. is_some (keyword_of x.key)) ls ≡ true
    rest true e = e
    rest false e = cc

    good_key : (o : Option Keyword) → keyword_of l.key ≡ o → (is_some o && list_all (λ x. is_some (keyword_of x.key)) ls) ≡ true → key_fault h before l.number o ≡ None
    good_key None e d = cc
    good_key (Some k) e d =
        let present = is_of-keyword l k e in
        let sum = count-append (is_of k) before (l ∷ ls) in
        let here : count_by (is_of k) (l ∷ ls) ≡ 1 + count_by (is_of k) ls = count-cons (is_of k) l ls ∙ rw present refl in
        let most = few k in
        None-count_fault l.number (count_of k before) (most_lines h k) (omega arith)

    among : (more : List (List ℕ)) → AreNames (given_all (given ++ more) ls) → names_fault l.number given more ≡ None
    among more k = let a = given_all-append (given ++ more) ls in names_fault-among l.number given more a.0 (let e = a.1 in rw e at k)

    good_value : (o : Option Keyword) → keyword_of l.key ≡ o → AreNames (given_all (given_with given l o) ls) → value_fault h given l o ≡ None
    good_value (Some key.Inputs) e k = among (words_of l.value) k
    good_value (Some key.Outputs) e k = among (words_of l.value) k
    good_value (Some key.Dialect) e k = None-unless_read l.number (dialect_of l.value) (read-first dialect_of key.Dialect l ls read.dialect e)
    good_value (Some key.First) e k = None-unless_read l.number (mover_of l.value) (read-first mover_of key.First l ls read.first e)
    good_value (Some key.Limit) e k = None-unless_read l.number (limit_of (most_limit h) l.value) (read-first (limit_of (most_limit h)) key.Limit l ls read.limit e)
    good_value (Some key.Empty) e k = None-unless_read l.number (empty_of l.value) (read-first empty_of key.Empty l ls read.empty e)
    good_value o e k = refl

-- a line without a fault, and those behind it
pub lines_fault-step : (h : Heading) (before before' : List TextLine) (given given' : List (List ℕ)) (l : TextLine) (ls rest : List TextLine) → rest ≡ l ∷ ls → key_fault h before l.number (keyword_of l.key) ≡ None → value_fault h given l (keyword_of l.key) ≡ None → given' ≡ given_with given l (keyword_of l.key) → before' ≡ before ++ l ∷ []
    → lines_fault h before given rest ≡ lines_fault h before' given' ls
lines_fault-step h before before' given given' l ls rest e good read names front =
    ap (lines_fault h before given) e
    ∙ or_else-later _ _ _ good (or_else-later _ _ _ read (λ i. lines_fault h (sym front i) (sym names i) ls))

-- the first fault at a line that stands first: that of its key
pub lines_fault-key : (h : Heading) (before : List TextLine) (given : List (List ℕ)) (l : TextLine) (ls rest : List TextLine) (e : SpecFault) → rest ≡ l ∷ ls → key_fault h before l.number (keyword_of l.key) ≡ Some e → lines_fault h before given rest ≡ Some e
lines_fault-key h before given l ls rest e same bad = ap (lines_fault h before given) same ∙ or_else-Some _ _ e bad

-- or that of its value
pub lines_fault-value : (h : Heading) (before : List TextLine) (given : List (List ℕ)) (l : TextLine) (ls rest : List TextLine) (e : SpecFault) → rest ≡ l ∷ ls → key_fault h before l.number (keyword_of l.key) ≡ None → value_fault h given l (keyword_of l.key) ≡ Some e → lines_fault h before given rest ≡ Some e
lines_fault-value h before given l ls rest e same good bad = ap (lines_fault h before given) same ∙ or_else-later _ _ _ good (or_else-Some _ _ e bad)

-- a cause that leads to another is blamed for it
pub Blames-map : (e : SpecFault) (P Q : Type 0) → (P → Q) → Blames e P → Blames e Q
Blames-map fault.Memory P Q f h = tt
Blames-map e P Q f h = f h

Some-unless_read : {A : Type 0} (number : ℕ) (o : Option A) → is_some o ≡ false → unless_read number o ≡ Some (fault.BadValue number)
Some-unless_read number None e = refl
Some-unless_read number (Some x) e = cc

-- a value that is read has no fault, where names are tried elsewhere
pub value_fault-read : (h : Heading) (given : List (List ℕ)) (l : TextLine) (k : Keyword) → (k ≡ key.Inputs → ⊥) → (k ≡ key.Outputs → ⊥) → is_read h l.value k ≡ true → value_fault h given l (Some k) ≡ None
value_fault-read h given l key.Inputs a b e = absurd (a refl)
value_fault-read h given l key.Outputs a b e = absurd (b refl)
value_fault-read h given l key.Dialect a b e = None-unless_read l.number (dialect_of l.value) e
value_fault-read h given l key.First a b e = None-unless_read l.number (mover_of l.value) e
value_fault-read h given l key.Limit a b e = None-unless_read l.number (limit_of (most_limit h) l.value) e
value_fault-read h given l key.Empty a b e = None-unless_read l.number (empty_of l.value) e
value_fault-read h given l k a b e = refl

-- and one that isn't read has it
pub value_fault-unread : (h : Heading) (given : List (List ℕ)) (l : TextLine) (k : Keyword) → (k ≡ key.Inputs → ⊥) → (k ≡ key.Outputs → ⊥) → is_read h l.value k ≡ false → value_fault h given l (Some k) ≡ Some (fault.BadValue l.number)
value_fault-unread h given l key.Inputs a b e = absurd (a refl)
value_fault-unread h given l key.Outputs a b e = absurd (b refl)
value_fault-unread h given l key.Dialect a b e = Some-unless_read l.number (dialect_of l.value) e
value_fault-unread h given l key.First a b e = Some-unless_read l.number (mover_of l.value) e
value_fault-unread h given l key.Limit a b e = Some-unless_read l.number (limit_of (most_limit h) l.value) e
value_fault-unread h given l key.Empty a b e = Some-unless_read l.number (empty_of l.value) e
value_fault-unread h given l k a b e = cc

-- a line that names nothing adds no name
pub given_with-other : (given : List (List ℕ)) (l : TextLine) (k : Keyword) → (k ≡ key.Inputs → ⊥) → (k ≡ key.Outputs → ⊥) → given_with given l (Some k) ≡ given
given_with-other given l key.Inputs a b = absurd (a refl)
given_with-other given l key.Outputs a b = absurd (b refl)
given_with-other given l k a b = refl
