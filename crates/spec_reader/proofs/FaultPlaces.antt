-- Where a formula's fault stands in its text, and what a closed table keeps.
use Rattle.std.proofs.Common.{◌≡◌, ℕ, zero, suc, ◌+◌, ◌-◌, ◌≤◌, ◌<◌, List, [], ◌∷◌, Option, Some, None, refl, ◌∙◌, arith, Bool, true, false, ◌&&◌, cond, not, nat_lt, nat_le, length}
use Rattle.std.specs.Option.{IfSome}
use Rattle.form_tokens.specs.declared.dialect.Dialect.{Dialect}
use Rattle.form_tokens.specs.Words.{is_blank, begins_word, goes_on}
use Rattle.form_tokens.specs.Names.{Table, is_listed, most_names}
use Rattle.form_tokens.specs.Spelling.{Lexeme, Sign, Word, Bad, pieces, piece_at, lexemes}
use Rattle.form_reader.specs.declared.fault.FormFault.{FormFault}
use Rattle.form_reader.specs.declared.fault.FormFault.TheVariants as faults
use Rattle.form_reader.specs.Faults.{token_of, names_with, names_after, is_bad, most_tokens, name_fault, fault_at, first_fault, or_else}
use Rattle.form_reader.specs.Waiting.{most_waiting}
use Rattle.form_reader.specs.Admitted.{Scan, start, admits, after, may_end}
use Rattle.form_reader.specs.Reading.{refusal, names_of}
use Rattle.form_reader.specs.Blames.{Blames}
use Rattle.spec_reader.specs.Formulas.{place_of}

-- the places of the lexemes are below m
abbrev AreBelow : ℕ → List (ℕ × Lexeme) → Type 0
AreBelow m [] = Unit {0}
AreBelow m (l ∷ ls) = (l.0 < m) × AreBelow m ls

-- the places of a text's lexemes are those of its bytes
pieces-AreBelow : (d : Dialect) (skip : ℕ) (w : Bool) (at m : ℕ) (bs : List ℕ) → at + length bs ≤ m → AreBelow m (pieces d skip w at bs)
pieces-AreBelow d skip w at m [] h = tt
pieces-AreBelow d (suc skip) w at m (b ∷ bs) h = pieces-AreBelow d skip w (suc at) m bs (omega arith)
pieces-AreBelow d zero w at m (b ∷ bs) h = go (w && goes_on b) (is_blank b) (λ n v. pieces-AreBelow d n v (suc at) m bs (omega arith))
  where
    go : (c e : Bool) → ((n : ℕ) (v : Bool) → AreBelow m (pieces d n v (suc at) bs)) → AreBelow m (cond c ((at, Bad) ∷ pieces d zero true (suc at) bs) (cond e (pieces d zero false (suc at) bs) ((at, (piece_at d (b ∷ bs)).lexeme) ∷ pieces d ((piece_at d (b ∷ bs)).size - 1) (begins_word b) (suc at) bs)))
    go true e k = (omega arith, k zero true)
    go false true k = k zero false
    go false false k = (omega arith, k ((piece_at d (b ∷ bs)).size - 1) (begins_word b))

name_fault-place : (closed : Bool) (ns : List (List ℕ)) (at m : ℕ) (w : Lexeme) → at < m → IfSome (name_fault closed ns at w) (λ e. place_of e < m)
name_fault-place closed ns at m (Sign t) h = tt
name_fault-place closed ns at m Bad h = tt
name_fault-place closed ns at m (Word w) h = go (is_listed ns w) closed (nat_le most_names (length ns))
  where
    go : (a b c : Bool) → IfSome (cond a None (cond b (Some (faults.Undeclared at)) (cond c (Some (faults.TooManyNames at)) None))) (λ e. place_of e < m)
    go true b c = tt
    go false true c = h
    go false false true = h
    go false false false = tt

fault_at-place : (closed : Bool) (ns : List (List ℕ)) (count m : ℕ) (g : Scan) (l : ℕ × Lexeme) → l.0 < m → IfSome (fault_at closed ns count g l) (λ e. place_of e < m)
fault_at-place closed ns count m g l h = go (is_bad l.1) (nat_le most_tokens count) (not (admits g (token_of ns l.1))) (nat_lt most_waiting (length (after g (token_of ns l.1)).waits))
  where
    go : (a b c d : Bool) → IfSome (cond a (Some (faults.BadByte l.0)) (cond b (Some (faults.TooManyTokens l.0)) (cond c (Some (faults.Unexpected l.0)) (cond d (Some (faults.TooDeep l.0)) (name_fault closed ns l.0 l.1))))) (λ e. place_of e < m)
    go true b c d = h
    go false true c d = h
    go false false true d = h
    go false false false true = h
    go false false false false = name_fault-place closed ns l.0 m l.1 h

IfSome-or_else : (P : FormFault → Type 0) (o p : Option FormFault) → IfSome o P → IfSome p P → IfSome (or_else o p) P
IfSome-or_else P None p h k = k
IfSome-or_else P (Some e) p h k = h

first_fault-place : (closed : Bool) (ns : List (List ℕ)) (count m : ℕ) (g : Scan) (ls : List (ℕ × Lexeme)) → 0 < m → AreBelow m ls → IfSome (first_fault closed ns count g ls) (λ e. place_of e < m)
first_fault-place closed ns count m g [] pos h = go (may_end g)
  where
    go : (b : Bool) → IfSome (cond b None (Some faults.Unfinished)) (λ e. place_of e < m)
    go true = tt
    go false = pos
first_fault-place closed ns count m g (l ∷ ls) pos h =
    IfSome-or_else (λ e. place_of e < m) (fault_at closed ns count g l) _ (fault_at-place closed ns count m g l h.0)
    (first_fault-place closed (names_with ns l.1) (count + 1) m (after g (token_of ns l.1)) ls pos h.1)

-- a fault stands at a byte of the text
refusal-place : (d : Dialect) (names : Table) (text : List ℕ) (e : FormFault) → refusal d names text ≡ Some e → place_of e ≤ length text
refusal-place d names text e same =
    let below : IfSome (refusal d names text) (λ x. place_of x < 1 + length text) =
    first_fault-place names.closed names.names 0 (1 + length text) start (lexemes d text) (omega arith) (pieces-AreBelow d zero false 1 (1 + length text) text (omega arith)) in
    let here : place_of e < 1 + length text = go (refusal d names text) same below in
    omega arith
  where
    go : (o : Option FormFault) → o ≡ Some e → IfSome o (λ x. place_of x < 1 + length text) → place_of e < 1 + length text
    go None q h = cc
    go (Some x) q h = let s : x ≡ e = cc in rw s at h

name_fault-closed : (ns : List (List ℕ)) (at : ℕ) (w : Lexeme) → name_fault true ns at w ≡ None → names_with ns w ≡ ns
name_fault-closed ns at (Sign t) e = refl
name_fault-closed ns at Bad e = refl
name_fault-closed ns at (Word w) e = go (is_listed ns w) refl e
  where
    go : (b : Bool) → is_listed ns w ≡ b → cond b None (Some (faults.Undeclared at)) ≡ None → names_with ns (Word w) ≡ ns
    go true f h = rw f refl
    go false f h = cc

fault_at-closed : (ns : List (List ℕ)) (count : ℕ) (g : Scan) (l : ℕ × Lexeme) → fault_at true ns count g l ≡ None → names_with ns l.1 ≡ ns
fault_at-closed ns count g l e = go (is_bad l.1) (nat_le most_tokens count) (not (admits g (token_of ns l.1))) (nat_lt most_waiting (length (after g (token_of ns l.1)).waits)) e
  where
    go : (a b c d : Bool) → cond a (Some (faults.BadByte l.0)) (cond b (Some (faults.TooManyTokens l.0)) (cond c (Some (faults.Unexpected l.0)) (cond d (Some (faults.TooDeep l.0)) (name_fault true ns l.0 l.1)))) ≡ None → names_with ns l.1 ≡ ns
    go true b c d h = cc
    go false true c d h = cc
    go false false true d h = cc
    go false false false true h = cc
    go false false false false h = name_fault-closed ns l.0 l.1 h

or_else-first : (o p : Option FormFault) → or_else o p ≡ None → o ≡ None
or_else-first None p e = refl
or_else-first (Some x) p e = cc

or_else-second : (o p : Option FormFault) → or_else o p ≡ None → p ≡ None
or_else-second None p e = e
or_else-second (Some x) p e = cc

-- a text that is read with a closed table adds no name
closed-keeps : (ns : List (List ℕ)) (count : ℕ) (g : Scan) (ls : List (ℕ × Lexeme)) → first_fault true ns count g ls ≡ None → names_after ns ls ≡ ns
closed-keeps ns count g [] e = refl
closed-keeps ns count g (l ∷ ls) e =
    let same = fault_at-closed ns count g l (or_else-first _ _ e) in
    closed-keeps (names_with ns l.1) (count + 1) (after g (token_of ns l.1)) ls (or_else-second (fault_at true ns count g l) _ e) ∙ same

-- a table that is closed is the same after a text that isn't refused
pub closed-same : (d : Dialect) (names after : Table) (text : List ℕ) → names.closed ≡ true → refusal d names text ≡ None → after.names ≡ names_of d names text → after.closed ≡ names.closed → after ≡ names
closed-same d names after text closed none added kept =
    let same : after.names ≡ names.names = added ∙ closed-keeps names.names 0 start (lexemes d text) (rw closed at none) in
    λ i. record { names = same i; closed = kept i }

-- a fault that is told stands at a byte of the text
pub Blames-place : (e : FormFault) (d : Dialect) (names : Table) (text : List ℕ) → Blames e (refusal d names text ≡ Some e) → place_of e ≤ length text
Blames-place faults.Memory d names text h = omega arith
Blames-place e d names text h = refusal-place d names text e h

-- a closed table has the same names after a text that isn't refused
pub closed-names : (d : Dialect) (names : Table) (text : List ℕ) → names.closed ≡ true → refusal d names text ≡ None → names_of d names text ≡ names.names
closed-names d names text closed none = closed-keeps names.names 0 start (lexemes d text) (rw closed at none)
