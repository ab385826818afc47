-- The names of the table, lexeme by lexeme.
use Rattle.std.proofs.Common.{◌≡◌, ℕ, zero, suc, ◌+◌, ◌-◌, ◌≤◌, ◌<◌, List, [], ◌∷◌, Option, Some, None, Result, Ok, Err, refl, sym, ap, ◌∙◌, arith, Bool, true, false, ◌&&◌, cond, nat_lt, nat_le, length, take, drop, subst, add-one}
use Rattle.std.proofs.lemmas.Bool.{le-ltb, lt-ltb}
use Rattle.forms.specs.Tree.{Formula}
use Rattle.form_tokens.specs.declared.dialect.Dialect.{Dialect}
use Rattle.form_reader.specs.declared.fault.FormFault.{FormFault}
use Rattle.form_reader.specs.declared.fault.FormFault.TheVariants as faults
use Rattle.form_tokens.specs.Words.{is_blank, begins_word, goes_on}
use Rattle.form_tokens.specs.Names.{Table, is_listed, most_names}
use Rattle.form_tokens.specs.Spelling.{Lexeme, Sign, Word, Bad, pieces, piece_at, lexemes}
use Rattle.form_reader.specs.Faults.{token_of, names_with, names_after, is_bad, most_tokens, name_fault, before, before_fault, before_first}
use Rattle.form_reader.specs.Reading.{refusal, accepted, KeepsNames}
use Rattle.form_reader.specs.Waiting.{most_waiting}
use Rattle.form_reader.specs.Machine.{State, Due, step, finish, waits}
use Rattle.form_reader.specs.Outcome.{Stage, turn, stepped, unless, stage_of, ended, outcome, and_then}
use Rattle.forms.specs.declared.form.Form.{Form}
use Rattle.std.specs.Result.{OnOk, IfErr}
use Rattle.form_reader.specs.Blames.{Blames, Answers}
use Rattle.form_reader.proofs.Outcomes.{fault_of, outcome-first_fault}

-- the places rise from n on
abbrev pub IsFrom : ℕ → List (ℕ × Lexeme) → Type 0
IsFrom n [] = Unit {0}
IsFrom n (l ∷ ls) = (n ≤ l.0) × IsFrom (suc l.0) ls

IsFrom-less : (n m : ℕ) (ls : List (ℕ × Lexeme)) → n ≤ m → IsFrom m ls → IsFrom n ls
IsFrom-less n m [] h r = tt
IsFrom-less n m (l ∷ ls) h r = (omega (arith, r.0), r.1)

-- the places of the lexemes of a text rise, from that of its first byte on
pub pieces-IsFrom : (d : Dialect) (skip : ℕ) (w : Bool) (at : ℕ) (bs : List ℕ) → IsFrom at (pieces d skip w at bs)
pieces-IsFrom d skip w at [] = tt
pieces-IsFrom d (suc skip) w at (b ∷ bs) = IsFrom-less at (suc at) _ (omega arith) (pieces-IsFrom d skip w (suc at) bs)
pieces-IsFrom d zero w at (b ∷ bs) = go (w && goes_on b) (is_blank b) (λ n v. IsFrom-less at (suc at) _ (omega arith) (pieces-IsFrom d n v (suc at) bs)) (λ n v. pieces-IsFrom d n v (suc at) bs)
  where
    go : (c e : Bool) → ((n : ℕ) (v : Bool) → IsFrom at (pieces d n v (suc at) bs)) → ((n : ℕ) (v : Bool) → IsFrom (suc at) (pieces d n v (suc at) bs)) →
        IsFrom at (cond c ((at, Bad) ∷ pieces d zero true (suc at) bs) (cond e (pieces d zero false (suc at) bs) ((at, (piece_at d (b ∷ bs)).lexeme) ∷ pieces d ((piece_at d (b ∷ bs)).size - 1) (begins_word b) (suc at) bs)))
    go true e less further = (omega arith, further zero true)
    go false true less further = less zero false
    go false false less further = (omega arith, further ((piece_at d (b ∷ bs)).size - 1) (begins_word b))

drop-IsFrom : (n m : ℕ) (ls rest : List (ℕ × Lexeme)) (l : ℕ × Lexeme) → IsFrom m ls → drop n ls ≡ l ∷ rest → m ≤ l.0
drop-IsFrom zero m [] rest l h e = cc
drop-IsFrom zero m (x ∷ ls) rest l h e = let d : x ≡ l = cc in let k : x.0 ≡ l.0 = ap (λ (y : ℕ × Lexeme). y.0) d in omega (arith, h.0)
drop-IsFrom (suc n) m [] rest l h e = cc
drop-IsFrom (suc n) m (x ∷ ls) rest l h e = let k : suc x.0 ≤ l.0 = drop-IsFrom n (suc x.0) ls rest l h.1 e in omega (arith, h.0)

-- the lexemes before the place of one are those that come before it
pub before-take : (n m : ℕ) (ls rest : List (ℕ × Lexeme)) (l : ℕ × Lexeme) → IsFrom m ls → drop n ls ≡ l ∷ rest → before l.0 ls ≡ take n ls
before-take zero m [] rest l h e = refl
before-take zero m (x ∷ ls) rest l h e = let d : x ≡ l = cc in let k : l.0 ≤ x.0 = rw d (omega arith) in rw (le-ltb x.0 l.0 k)
before-take (suc n) m [] rest l h e = refl
before-take (suc n) m (x ∷ ls) rest l h e =
    let k : x.0 < l.0 = drop-IsFrom n (suc x.0) ls rest l h.1 e in
    rw (lt-ltb x.0 l.0 k) (ap (λ ks. x ∷ ks) (before-take n (suc x.0) ls rest l h.1 e))

-- so many at the front are before each place from there on
take-before : (n k m : ℕ) (ls rest : List (ℕ × Lexeme)) (l : ℕ × Lexeme) → IsFrom m ls → drop n ls ≡ l ∷ rest → l.0 ≤ k → take n (before k ls) ≡ take n ls
take-before zero k m ls rest l h e p = refl
take-before (suc n) k m [] rest l h e p = refl
take-before (suc n) k m (x ∷ ls) rest l h e p =
    let q : suc x.0 ≤ l.0 = drop-IsFrom n (suc x.0) ls rest l h.1 e in
    let lt : x.0 < k = omega arith in
    rw (lt-ltb x.0 k lt) (ap (λ ks. x ∷ ks) (take-before n k (suc x.0) ls rest l h.1 e p))

IsFrom-drop : (n m : ℕ) (ls : List (ℕ × Lexeme)) → IsFrom m ls → IsFrom m (drop n ls)
IsFrom-drop zero m ls h = h
IsFrom-drop (suc n) m [] h = tt
IsFrom-drop (suc n) m (x ∷ ls) h = IsFrom-less m (suc x.0) (drop n ls) (omega (arith, h.0)) (IsFrom-drop n (suc x.0) ls h.1)

-- one lexeme more
pub names_after-step : (n : ℕ) (ns : List (List ℕ)) (ls rest : List (ℕ × Lexeme)) (l : ℕ × Lexeme) → drop n ls ≡ l ∷ rest → names_after ns (take (n + 1) ls) ≡ names_with (names_after ns (take n ls)) l.1
names_after-step zero ns [] rest l e = cc
names_after-step zero ns (x ∷ ls) rest l e = let d : x ≡ l = cc in rw d
names_after-step (suc n) ns [] rest l e = cc
names_after-step (suc n) ns (x ∷ ls) rest l e = rw add-one (rw add-one at (names_after-step n (names_with ns x.1) ls rest l e))

-- behind one item more the rest is left
pub drop-step : {A : Type 0} (n : ℕ) (ls rest : List A) (l : A) → drop n ls ≡ l ∷ rest → drop (n + 1) ls ≡ rest
drop-step zero [] rest l e = cc
drop-step zero (x ∷ ls) rest l e = cc
drop-step (suc n) [] rest l e = cc
drop-step (suc n) (x ∷ ls) rest l e = rw add-one (rw add-one at (drop-step n ls rest l e))

-- where no item is left, all are taken
pub take-end : {A : Type 0} (n : ℕ) (ls : List A) → drop n ls ≡ [] → take n ls ≡ ls
take-end zero [] e = refl
take-end zero (x ∷ ls) e = cc
take-end (suc n) [] e = refl
take-end (suc n) (x ∷ ls) e = ap (λ ks. x ∷ ks) (take-end n ls e)

-- the fault is at the place, unless memory ran out
abbrev pub IsAt : FormFault → ℕ → Type 0
IsAt (faults.BadByte at) place = at ≡ place
IsAt (faults.Unexpected at) place = at ≡ place
IsAt (faults.TooDeep at) place = at ≡ place
IsAt (faults.TooManyTokens at) place = at ≡ place
IsAt (faults.TooManyNames at) place = at ≡ place
IsAt (faults.Undeclared at) place = at ≡ place
IsAt faults.Unfinished place = ⊥
IsAt faults.Memory place = Unit {0}

-- the fault is not before the place
abbrev pub IsNotBefore : FormFault → ℕ → Type 0
IsNotBefore (faults.BadByte at) place = place ≤ at
IsNotBefore (faults.Unexpected at) place = place ≤ at
IsNotBefore (faults.TooDeep at) place = place ≤ at
IsNotBefore (faults.TooManyTokens at) place = place ≤ at
IsNotBefore (faults.TooManyNames at) place = place ≤ at
IsNotBefore (faults.Undeclared at) place = place ≤ at
IsNotBefore _ place = Unit {0}

IsAt-IsNotBefore : (e : FormFault) (at place : ℕ) → place ≤ at → IsAt e at → IsNotBefore e place
IsAt-IsNotBefore (faults.BadByte k) at place h m = omega arith
IsAt-IsNotBefore (faults.Unexpected k) at place h m = omega arith
IsAt-IsNotBefore (faults.TooDeep k) at place h m = omega arith
IsAt-IsNotBefore (faults.TooManyTokens k) at place h m = omega arith
IsAt-IsNotBefore (faults.TooManyNames k) at place h m = omega arith
IsAt-IsNotBefore (faults.Undeclared k) at place h m = omega arith
IsAt-IsNotBefore faults.Unfinished at place h m = tt
IsAt-IsNotBefore faults.Memory at place h m = tt

abbrev IfErrAt : {A : Type 0} → Result A FormFault → ℕ → Type 0
IfErrAt (Ok x) place = Unit {0}
IfErrAt (Err e) place = IsAt e place

turn-IsAt : (closed : Bool) (g : Stage) (l : ℕ × Lexeme) → IfErrAt (turn closed g l) l.0
turn-IsAt closed g l = go (is_bad l.1) (nat_le most_tokens g.count) (step g.state (token_of g.names l.1))
  where
    name : (w : Lexeme) → (o : Option FormFault) → name_fault closed g.names l.0 w ≡ o → IfErrAt (unless o (stage_of (names_with g.names l.1) (g.count + 1) g.state)) l.0
    name w None e = tt
    name (Sign t) (Some x) e = cc
    name Bad (Some x) e = cc
    name (Word w) (Some x) e = word (is_listed g.names w) closed (nat_le most_names (length g.names)) e
      where
        word : (a b c : Bool) → cond a None (cond b (Some (faults.Undeclared l.0)) (cond c (Some (faults.TooManyNames l.0)) None)) ≡ Some x → IsAt x l.0
        word true b c h = cc
        word false true c h = let d : faults.Undeclared l.0 ≡ x = cc in subst (λ y. IsAt y l.0) d refl
        word false false true h = let d : faults.TooManyNames l.0 ≡ x = cc in subst (λ y. IsAt y l.0) d refl
        word false false false h = cc

    any : (next : State) (o : Option FormFault) → IfErrAt (unless o (stage_of (names_with g.names l.1) (g.count + 1) g.state)) l.0 → IfErrAt (unless o (stage_of (names_with g.names l.1) (g.count + 1) next)) l.0
    any next None h = tt
    any next (Some e) h = h

    deep : (next : State) (b : Bool) → IfErrAt (cond b (Err (faults.TooDeep l.0)) (unless (name_fault closed g.names l.0 l.1) (stage_of (names_with g.names l.1) (g.count + 1) next))) l.0
    deep next true = refl
    deep next false = any next (name_fault closed g.names l.0 l.1) (name l.1 (name_fault closed g.names l.0 l.1) refl)

    go : (b c : Bool) (o : Option State) → IfErrAt (cond b (Err (faults.BadByte l.0)) (cond c (Err (faults.TooManyTokens l.0)) (stepped closed g l o))) l.0
    go true c o = refl
    go false true o = refl
    go false false None = refl
    go false false (Some next) = deep next (nat_lt most_waiting (length (waits next)))

abbrev IfOkNames : Result Stage FormFault → List (List ℕ) → Type 0
IfOkNames (Ok g) ns = g.names ≡ ns
IfOkNames (Err e) ns = Unit {0}

turn-names : (closed : Bool) (g : Stage) (l : ℕ × Lexeme) → IfOkNames (turn closed g l) (names_with g.names l.1)
turn-names closed g l = go (is_bad l.1) (nat_le most_tokens g.count) (step g.state (token_of g.names l.1))
  where
    deep : (next : State) (b : Bool) (o : Option FormFault) → IfOkNames (cond b (Err (faults.TooDeep l.0)) (unless o (stage_of (names_with g.names l.1) (g.count + 1) next))) (names_with g.names l.1)
    deep next true o = tt
    deep next false None = refl
    deep next false (Some e) = tt

    go : (b c : Bool) (o : Option State) → IfOkNames (cond b (Err (faults.BadByte l.0)) (cond c (Err (faults.TooManyTokens l.0)) (stepped closed g l o))) (names_with g.names l.1)
    go true c o = tt
    go false true o = tt
    go false false None = tt
    go false false (Some next) = deep next (nat_lt most_waiting (length (waits next))) (name_fault closed g.names l.0 l.1)

-- the names after a turn
pub turn-Ok-names : (closed : Bool) (g next : Stage) (l : ℕ × Lexeme) → turn closed g l ≡ Ok next → next.names ≡ names_with g.names l.1
turn-Ok-names closed g next l e = subst (λ r. IfOkNames r (names_with g.names l.1)) e (turn-names closed g l)

turn-Err-IsAt : (closed : Bool) (g : Stage) (l : ℕ × Lexeme) (e : FormFault) → turn closed g l ≡ Err e → IsAt e l.0
turn-Err-IsAt closed g l e h = subst (λ r. IfErrAt r l.0) h (turn-IsAt closed g l)

Blames-IsAt : (closed : Bool) (g : Stage) (l : ℕ × Lexeme) (e : FormFault) → Blames e (turn closed g l ≡ Err e) → IsAt e l.0
Blames-IsAt closed g l faults.Memory h = tt
Blames-IsAt closed g l e h = turn-Err-IsAt closed g l e h

-- the fault of an outcome is at no place before its lexemes
outcome-IsNotBefore : (closed : Bool) (g : Stage) (n : ℕ) (ls : List (ℕ × Lexeme)) → IsFrom n ls → IfErr (outcome closed g ls) (λ e. IsNotBefore e n)
outcome-IsNotBefore closed g n [] h = go (finish g.state)
  where
    go : (o : Option Formula) → IfErr (ended o) (λ e. IsNotBefore e n)
    go None = tt
    go (Some f) = tt
outcome-IsNotBefore closed g n (l ∷ ls) h = go (turn closed g l) (turn-IsAt closed g l) (λ next. outcome-IsNotBefore closed next n ls (IsFrom-less n (suc l.0) ls (omega (arith, h.0)) h.1))
  where
    go : (r : Result Stage FormFault) → IfErrAt r l.0 → ((next : Stage) → IfErr (outcome closed next ls) (λ e. IsNotBefore e n)) → IfErr (and_then (λ next. outcome closed next ls) r) (λ e. IsNotBefore e n)
    go (Ok next) m k = k next
    go (Err e) m k = IsAt-IsNotBefore e l.0 n h.0 m

-- as many lexemes as stand before a fault are before it
take-before_fault : (n : ℕ) (ls rest : List (ℕ × Lexeme)) (l : ℕ × Lexeme) (e : FormFault) → IsFrom 1 ls → drop n ls ≡ l ∷ rest → IsNotBefore e l.0 → take n (before_fault e ls) ≡ take n ls
take-before_fault n ls rest l (faults.BadByte k) h d m = take-before n k 1 ls rest l h d m
take-before_fault n ls rest l (faults.Unexpected k) h d m = take-before n k 1 ls rest l h d m
take-before_fault n ls rest l (faults.TooDeep k) h d m = take-before n k 1 ls rest l h d m
take-before_fault n ls rest l (faults.TooManyTokens k) h d m = take-before n k 1 ls rest l h d m
take-before_fault n ls rest l (faults.TooManyNames k) h d m = take-before n k 1 ls rest l h d m
take-before_fault n ls rest l (faults.Undeclared k) h d m = take-before n k 1 ls rest l h d m
take-before_fault n ls rest l faults.Unfinished h d m = refl
take-before_fault n ls rest l faults.Memory h d m = refl

-- the refusal of a text is the fault of what comes of it
refusal-of : (d : Dialect) (names : Table) (text : List ℕ) (r : Result Formula FormFault) → outcome names.closed (stage_of names.names 0 (Due [])) (lexemes d text) ≡ r → refusal d names text ≡ fault_of r
refusal-of d names text r same = sym (outcome-first_fault names.closed (stage_of names.names 0 (Due [])) (lexemes d text) tt) ∙ ap fault_of same

-- the lexemes that were read are accepted, where more come
accepted-turn : (g : Stage) (d : Dialect) (names : Table) (text : List ℕ) (n : ℕ) (l : ℕ × Lexeme) (rest : List (ℕ × Lexeme)) →
    drop n (lexemes d text) ≡ l ∷ rest → outcome names.closed (stage_of names.names 0 (Due [])) (lexemes d text) ≡ outcome names.closed g (l ∷ rest) → take n (accepted d names text) ≡ take n (lexemes d text)
accepted-turn g d names text n l rest place same =
    ap (λ o. take n (before_first o (lexemes d text))) (refusal-of d names text _ same) ∙ go (outcome names.closed g (l ∷ rest)) (outcome-IsNotBefore names.closed g l.0 (l ∷ rest) (omega arith, further.1))
  where
    from : IsFrom 1 (lexemes d text)
    from = pieces-IsFrom d zero false 1 text

    further : IsFrom 1 (l ∷ rest)
    further = subst (λ ls. IsFrom 1 ls) place (IsFrom-drop n 1 (lexemes d text) from)

    go : (r : Result Formula FormFault) → IfErr r (λ e. IsNotBefore e l.0) → take n (before_first (fault_of r) (lexemes d text)) ≡ take n (lexemes d text)
    go (Ok f) m = refl
    go (Err e) m = take-before_fault n (lexemes d text) rest l e from place m

-- and where the text ends
accepted-ended : (o : Option Formula) (d : Dialect) (names : Table) (text : List ℕ) → outcome names.closed (stage_of names.names 0 (Due [])) (lexemes d text) ≡ ended o → accepted d names text ≡ lexemes d text
accepted-ended o d names text same = ap (λ p. before_first p (lexemes d text)) (refusal-of d names text _ same) ∙ go o
  where
    go : (o : Option Formula) → before_first (fault_of (ended o)) (lexemes d text) ≡ lexemes d text
    go None = refl
    go (Some f) = refl

-- which names a refused lexeme keeps
pub KeepsNames-turn : (closed : Bool) (g : Stage) (d : Dialect) (names : Table) (text : List ℕ) (n : ℕ) (l : ℕ × Lexeme) (rest : List (ℕ × Lexeme)) (after : List (List ℕ)) (e : FormFault) →
    drop n (lexemes d text) ≡ l ∷ rest → names_after names.names (take n (lexemes d text)) ≡ after → outcome names.closed (stage_of names.names 0 (Due [])) (lexemes d text) ≡ outcome names.closed g (l ∷ rest) → Blames e (turn closed g l ≡ Err e) → KeepsNames e d names text after
KeepsNames-turn closed g d names text n l rest after e place is same h = go e (Blames-IsAt closed g l e h)
  where
    at : (k : ℕ) → k ≡ l.0 → after ≡ names_after names.names (before k (lexemes d text))
    at k m = sym is ∙ ap (λ ks. names_after names.names ks) (sym (before-take n 1 (lexemes d text) rest l (pieces-IsFrom d zero false 1 text) place) ∙ ap (λ j. before j (lexemes d text)) (sym m))

    go : (e : FormFault) → IsAt e l.0 → KeepsNames e d names text after
    go (faults.BadByte k) m = at k m
    go (faults.Unexpected k) m = at k m
    go (faults.TooDeep k) m = at k m
    go (faults.TooManyTokens k) m = at k m
    go (faults.TooManyNames k) m = at k m
    go (faults.Undeclared k) m = at k m
    go faults.Unfinished m = absurd m
    go faults.Memory m = (n, sym is ∙ ap (λ ks. names_after names.names ks) (sym (accepted-turn g d names text n l rest place same)))

-- which names a text that ends keeps
pub KeepsNames-ended : (o : Option Formula) (d : Dialect) (names : Table) (text : List ℕ) (n : ℕ) (after : List (List ℕ)) (e : FormFault) →
    drop n (lexemes d text) ≡ [] → names_after names.names (take n (lexemes d text)) ≡ after → outcome names.closed (stage_of names.names 0 (Due [])) (lexemes d text) ≡ ended o → Blames e (ended o ≡ Err e) → KeepsNames e d names text after
KeepsNames-ended o d names text n after e end is same h = go e o h
  where
    whole : after ≡ names_after names.names (lexemes d text)
    whole = sym is ∙ ap (λ ks. names_after names.names ks) (take-end n (lexemes d text) end)

    go : (e : FormFault) (o : Option Formula) → Blames e (ended o ≡ Err e) → KeepsNames e d names text after
    go faults.Memory p h = (n, sym is ∙ ap (λ ks. names_after names.names (take n ks)) (sym (accepted-ended o d names text same)))
    go faults.Unfinished o h = whole
    go e None h = cc
    go e (Some f) h = cc

-- at the end of the lexemes, the names are those after the whole text
pub names_after-end : (d : Dialect) (ns : List (List ℕ)) (text : List ℕ) (n : ℕ) (after : List (List ℕ)) →
    drop n (lexemes d text) ≡ [] → names_after ns (take n (lexemes d text)) ≡ after → after ≡ names_after ns (lexemes d text)
names_after-end d ns text n after end is = sym is ∙ ap (λ ks. names_after ns ks) (take-end n (lexemes d text) end)

-- what holds anyway holds of an `Ok`
pub OnOk-always : {A E P : Type 0} (r : Result A E) → P → OnOk r P
OnOk-always (Ok x) h = h
OnOk-always (Err e) h = tt

-- the same of an answer at the end of the text
pub KeepsNames-Answers : (r : Result Form FormFault) (o : Option Formula) (d : Dialect) (names : Table) (text : List ℕ) (n : ℕ) (after : List (List ℕ)) →
    drop n (lexemes d text) ≡ [] → names_after names.names (take n (lexemes d text)) ≡ after → outcome names.closed (stage_of names.names 0 (Due [])) (lexemes d text) ≡ ended o → Answers r (ended o) → IfErr r (λ e. KeepsNames e d names text after)
KeepsNames-Answers (Ok f) o d names text n after end is same h = tt
KeepsNames-Answers (Err e) o d names text n after end is same h = KeepsNames-ended o d names text n after e end is same h

-- one lexeme of the outcome
pub outcome-step : (a b : Bool) (g next : Stage) (l : ℕ × Lexeme) (ls : List (ℕ × Lexeme)) → b ≡ a → turn b g l ≡ Ok next → outcome a g (l ∷ ls) ≡ outcome a next ls
outcome-step a b g next l ls e h = ap (λ r. and_then (λ m. outcome a m ls) r) (ap (λ c. turn c g l) (sym e) ∙ h)
