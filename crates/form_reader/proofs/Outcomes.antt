-- The outcome, the first fault and the grammar agree.
use Rattle.std.proofs.Common.{◌≡◌, ℕ, suc, ◌+◌, List, [], ◌∷◌, Option, Some, None, Result, Ok, Err, refl, sym, ap, ◌∙◌, Bool, true, false, cond, not, ◌&&◌, nat_lt, nat_le, leb, length, inl, inr, ◌⊎◌, ◌≤◌, ◌<◌, arith, ◌↔◌}
use Rattle.std.proofs.lemmas.Bool.Decides.{leb_tells}
use Rattle.std.proofs.lemmas.Bool.{le-leb, lt-leb}
use Rattle.std.proofs.lemmas.Option.{IfSome_then}
use Rattle.std.specs.Option.{IfSome, is_some, option_and_then}
use Rattle.std.specs.Result.{result_ok}
use Rattle.forms.specs.Tree.{Formula}
use Rattle.form_reader.specs.declared.fault.FormFault.{FormFault}
use Rattle.form_reader.specs.declared.fault.FormFault.TheVariants as faults
use Rattle.forms.specs.declared.form.Form.{Form}
use Rattle.form_reader.specs.Blames.{Blames, Answers}
use Rattle.form_reader.proofs.Turns.{Blames-map}
use Rattle.form_tokens.specs.Spelling.{Lexeme}
use Rattle.form_reader.specs.Waiting.{most_waiting}
use Rattle.form_reader.specs.Admitted.{start, admits, after, waits_after, may_end}
use Rattle.form_reader.specs.Machine.{State, Due, step, finish, waits, run_within}
use Rattle.form_reader.specs.Faults.{or_else, first_fault, is_bad, most_tokens, token_of, names_with, name_fault}
use Rattle.form_reader.specs.Reading.{tokens, is_within, IsRead}
use Rattle.form_reader.specs.Outcome.{Stage, stage_of, stepped, unless, and_then, ended, outcome}
use Rattle.form_reader.proofs.Shapes.{Shaped, step-Shaped}
use Rattle.form_reader.proofs.Scans.{scan_of, step-scan, step-admits, finish-may_end}
use Rattle.form_reader.proofs.Laws.{step-waits, found, only}

-- the fault of an outcome
abbrev pub fault_of : {A : Type 0} → Result A FormFault → Option FormFault
fault_of (Ok f) = None
fault_of (Err e) = Some e

turned : (closed : Bool) (g : Stage) (l : ℕ × Lexeme) (k : Stage → Result Formula FormFault) (b c a d : Bool) (o : Option State) (rest : Option FormFault) →
    is_some o ≡ a → IfSome o (λ next. nat_lt most_waiting (length (waits next)) ≡ d) → IfSome o (λ next. fault_of (k (stage_of (names_with g.names l.1) (g.count + 1) next)) ≡ rest) →
    fault_of (and_then k (cond b (Err (faults.BadByte l.0)) (cond c (Err (faults.TooManyTokens l.0)) (stepped closed g l o))))
    ≡ or_else (cond b (Some (faults.BadByte l.0)) (cond c (Some (faults.TooManyTokens l.0)) (cond (not a) (Some (faults.Unexpected l.0)) (cond d (Some (faults.TooDeep l.0)) (name_fault closed g.names l.0 l.1))))) rest
turned closed g l k true c a d o rest s w r = refl
turned closed g l k false true a d o rest s w r = refl
turned closed g l k false false a d None rest s w r = rw (← s)
turned closed g l k false false a d (Some next) rest s w r = rw (← s, ← w) (go (nat_lt most_waiting (length (waits next))) (name_fault closed g.names l.0 l.1))
  where
    go : (deep : Bool) (n : Option FormFault) → fault_of (and_then k (cond deep (Err (faults.TooDeep l.0)) (unless n (stage_of (names_with g.names l.1) (g.count + 1) next)))) ≡ or_else (cond deep (Some (faults.TooDeep l.0)) n) rest
    go true n = refl
    go false None = r
    go false (Some e) = refl

ended-fault : (o : Option Formula) (b : Bool) → is_some o ≡ b → fault_of (ended o) ≡ cond b None (Some faults.Unfinished)
ended-fault None b h = rw (← h)
ended-fault (Some f) b h = rw (← h)

IfSome-both : {A : Type 0} (P Q R : A → Type 0) (o : Option A) → ((x : A) → P x → Q x → R x) → IfSome o P → IfSome o Q → IfSome o R
IfSome-both P Q R None f h k = tt
IfSome-both P Q R (Some x) f h k = f x h k

-- a text is refused exactly at its first fault
pub outcome-first_fault : (closed : Bool) (g : Stage) (ls : List (ℕ × Lexeme)) → Shaped g.state → fault_of (outcome closed g ls) ≡ first_fault closed g.names g.count (scan_of g.state) ls
outcome-first_fault closed g [] h = ended-fault (finish g.state) (may_end (scan_of g.state)) (finish-may_end g.state h)
outcome-first_fault closed g (l ∷ ls) h =
    let t = token_of g.names l.1 in
    let s = scan_of g.state in
    turned closed g l (λ next. outcome closed next ls) (is_bad l.1) (nat_le most_tokens g.count) (admits s t) (nat_lt most_waiting (length (waits_after s t))) (step g.state t) _
    (step-admits g.state t h)
    (IfSome_then (step g.state t) {P = λ next. length (waits next) ≡ length (waits_after s t)} (step-waits g.state t h) (λ next e. ap (λ n. nat_lt most_waiting n) e))
    (IfSome-both Shaped (λ next. scan_of next ≡ after s t) _ (step g.state t)
    (λ next k e. outcome-first_fault closed (stage_of (names_with g.names l.1) (g.count + 1) next) ls k ∙ ap (λ r. first_fault closed (names_with g.names l.1) (g.count + 1) r ls) e)
    (step-Shaped g.state t h) (step-scan g.state t h))

settled : (closed : Bool) (g : Stage) (l : ℕ × Lexeme) (k : Stage → Result Formula FormFault) (b c w : Bool) (o : Option State) (r : State → Option Formula) →
    IfSome o (λ next. result_ok (k (stage_of (names_with g.names l.1) (g.count + 1) next)) ≡ cond w (r next) None) →
    result_ok (and_then k (cond b (Err (faults.BadByte l.0)) (cond c (Err (faults.TooManyTokens l.0)) (stepped closed g l o))))
    ≡ cond (not b && not c && not (is_some (name_fault closed g.names l.0 l.1)) && w) (option_and_then r (option_and_then (λ next. cond (nat_le (length (waits next)) most_waiting) (Some next) None) o)) None
settled closed g l k true c w o r h = refl
settled closed g l k false true w o r h = refl
settled closed g l k false false w None r h = none (not (is_some (name_fault closed g.names l.0 l.1)) && w)
  where
    none : (b : Bool) → ◌≡◌ {A = Option Formula} None (cond b None None)
    none true = refl
    none false = refl
settled closed g l k false false w (Some next) r h = go (nat_lt most_waiting (length (waits next))) (nat_le (length (waits next)) most_waiting) (name_fault closed g.names l.0 l.1) w (opposite (length (waits next))) h
  where
    opposite : (n : ℕ) → nat_le n most_waiting ≡ not (nat_lt most_waiting n)
    opposite n = pick (leb_tells (suc most_waiting) n)
      where
        pick : ((leb (suc most_waiting) n ≡ true) × (suc most_waiting ≤ n)) ⊎ ((leb (suc most_waiting) n ≡ false) × (n < suc most_waiting)) → nat_le n most_waiting ≡ not (nat_lt most_waiting n)
        pick (inl p) = rw (p.0, lt-leb n most_waiting (omega (arith, p.1)))
        pick (inr p) = rw (p.0, le-leb n most_waiting (omega (arith, p.1)))

    go : (deep fits : Bool) (n : Option FormFault) (w : Bool) → fits ≡ not deep → result_ok (k (stage_of (names_with g.names l.1) (g.count + 1) next)) ≡ cond w (r next) None → result_ok (and_then k (cond deep (Err (faults.TooDeep l.0)) (unless n (stage_of (names_with g.names l.1) (g.count + 1) next)))) ≡ cond (not (is_some n) && w) (option_and_then r (cond fits (Some next) None)) None
    go true fits None true e h = rw e
    go true fits None false e h = refl
    go true fits (Some x) w e h = refl
    go false fits None w e h = rw e h
    go false fits (Some x) w e h = refl

-- within the other limits the outcome is what the machine reads of the tokens
pub outcome-run_within : (closed : Bool) (g : Stage) (ls : List (ℕ × Lexeme)) → result_ok (outcome closed g ls) ≡ cond (is_within closed g.names g.count ls) (run_within g.state (tokens g.names ls)) None
outcome-run_within closed g [] = go (finish g.state)
  where
    go : (o : Option Formula) → result_ok (ended o) ≡ o
    go None = refl
    go (Some f) = refl
outcome-run_within closed g (l ∷ ls) =
    settled closed g l (λ next. outcome closed next ls) (is_bad l.1) (nat_le most_tokens g.count) (is_within closed (names_with g.names l.1) (g.count + 1) ls) (step g.state (token_of g.names l.1)) (λ next. run_within next (tokens (names_with g.names l.1) ls))
    (each (step g.state (token_of g.names l.1)) (λ next. outcome-run_within closed (stage_of (names_with g.names l.1) (g.count + 1) next) ls))
  where
    each : (o : Option State) → ((next : State) → result_ok (outcome closed (stage_of (names_with g.names l.1) (g.count + 1) next) ls) ≡ cond (is_within closed (names_with g.names l.1) (g.count + 1) ls) (run_within next (tokens (names_with g.names l.1) ls)) None) → IfSome o (λ next. result_ok (outcome closed (stage_of (names_with g.names l.1) (g.count + 1) next) ls) ≡ cond (is_within closed (names_with g.names l.1) (g.count + 1) ls) (run_within next (tokens (names_with g.names l.1) ls)) None)
    each None h = tt
    each (Some next) h = h next

-- a text is a formula's where its tokens are and the limits hold
pub outcome-found : (closed : Bool) (ns : List (List ℕ)) (ls : List (ℕ × Lexeme)) (f : Formula) → outcome closed (stage_of ns 0 (Due [])) ls ≡ Ok f → IsRead closed ns ls f
outcome-found closed ns ls f e = go (is_within closed ns 0 ls) refl (sym (outcome-run_within closed (stage_of ns 0 (Due [])) ls) ∙ ap result_ok e)
  where
    go : (b : Bool) → is_within closed ns 0 ls ≡ b → cond b (run_within (Due []) (tokens ns ls)) None ≡ Some f → IsRead closed ns ls f
    go true d h = (d, found (tokens ns ls) f h)
    go false d h = cc

result_ok-Ok : {A : Type 0} (r : Result A FormFault) (x : A) → result_ok r ≡ Some x → r ≡ Ok x
result_ok-Ok (Ok y) x e = cc
result_ok-Ok (Err y) x e = cc

-- lexemes that are the text of a formula, within the limits, have that formula as their outcome
pub outcome-only : (closed : Bool) (ns : List (List ℕ)) (ls : List (ℕ × Lexeme)) (f : Formula) → IsRead closed ns ls f → outcome closed (stage_of ns 0 (Due [])) ls ≡ Ok f
outcome-only closed ns ls f h = result_ok-Ok _ f (outcome-run_within closed (stage_of ns 0 (Due [])) ls ∙ (let d = h.0 in rw d (only (tokens ns ls) f h.1)))

-- an answer that gives the outcome of such lexemes gives their formula
pub Answers-only : (r : Result Form FormFault) (closed : Bool) (ns : List (List ℕ)) (ls : List (ℕ × Lexeme)) (f : Formula) → Answers r (outcome closed (stage_of ns 0 (Due [])) ls) → IsRead closed ns ls f → Answers r (Ok f)
Answers-only r closed ns ls f h d = rw (outcome-only closed ns ls f d) at h

-- the fault of the outcome is the first fault of the text, unless memory ran out
pub Blames-first_fault : (closed : Bool) (ns : List (List ℕ)) (ls : List (ℕ × Lexeme)) (e : FormFault) → Blames e (outcome closed (stage_of ns 0 (Due [])) ls ≡ Err e) → Blames e (first_fault closed ns 0 start ls ≡ Some e)
Blames-first_fault closed ns ls e h = Blames-map e _ _ (λ d. sym (outcome-first_fault closed (stage_of ns 0 (Due [])) ls tt) ∙ ap fault_of d) h

-- a text that no rule refuses is that of a formula, and the other way round
pub first_fault-IsRead : (closed : Bool) (ns : List (List ℕ)) (ls : List (ℕ × Lexeme)) → (first_fault closed ns 0 start ls ≡ None) ↔ ((f : Formula) × IsRead closed ns ls f)
first_fault-IsRead closed ns ls = (λ e. to (outcome closed (stage_of ns 0 (Due [])) ls) refl (outcome-first_fault closed (stage_of ns 0 (Due [])) ls tt ∙ e), from)
  where
    to : (r : Result Formula FormFault) → outcome closed (stage_of ns 0 (Due [])) ls ≡ r → fault_of (outcome closed (stage_of ns 0 (Due [])) ls) ≡ None → (f : Formula) × IsRead closed ns ls f
    to (Ok f) e h = (f, outcome-found closed ns ls f e)
    to (Err x) e h = let d = rw e at h in cc

    from : (f : Formula) × IsRead closed ns ls f → first_fault closed ns 0 start ls ≡ None
    from h = sym (outcome-first_fault closed (stage_of ns 0 (Due [])) ls tt) ∙ ap fault_of (outcome-only closed ns ls h.0 h.1)
