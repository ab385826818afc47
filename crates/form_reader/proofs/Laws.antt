-- The machine, the grammar, the limit and the table agree.
use Rattle.std.proofs.Common.{◌≡◌, List, [], ◌∷◌, Option, Some, None, refl, sym, ap, ◌∙◌, Bool, true, false, cond, ◌&&◌, subst, nat_le, length, ◌↔◌}
use Rattle.std.specs.Option.{IfSome, option_and_then, is_some}
use Rattle.forms.specs.Tree.{Formula}
use Rattle.form_tokens.specs.declared.token.Token.{Token}
use Rattle.form_reader.specs.Grammar.{IsText}
use Rattle.form_reader.specs.Waiting.{most_waiting}
use Rattle.form_reader.specs.Admitted.{Scan, start, admits, after, waits_after, all_admitted, is_shallow, IsAdmitted}
use Rattle.form_reader.specs.Machine.{State, Due, step, run, waits, run_within}
use Rattle.form_reader.specs.Reading.{IsReadAs}
use Rattle.form_reader.proofs.Complete.{run-IsText}
use Rattle.form_reader.proofs.Sound.{IsText-run}
use Rattle.form_reader.proofs.Shapes.{Shaped, step-Shaped}
use Rattle.form_reader.proofs.Scans.{length-kinds, scan_of, step-scan, step-admits, finish-may_end}

-- what holds of the item of an option, if there is one, holds of the item that is there
pub IfSome-at : {A : Type 0} (P : A → Type 0) (o : Option A) (x : A) → o ≡ Some x → IfSome o P → P x
IfSome-at P o x e h = let Q : Option _ → Type 0 = λ v. IfSome v P in subst Q e h

-- after a token as many items wait as the table counts
pub step-waits : (s : State) (t : Token) → Shaped s → IfSome (step s t) (λ next. length (waits next) ≡ length (waits_after (scan_of s) t))
step-waits s t h = go (step s t) (step-scan s t h)
  where
    go : (o : Option State) → IfSome o (λ next. scan_of next ≡ after (scan_of s) t) → IfSome o (λ next. length (waits next) ≡ length (waits_after (scan_of s) t))
    go None e = tt
    go (Some next) e = sym (length-kinds (waits next)) ∙ ap (λ (g : Scan). length g.waits) e

-- the limit may be tested apart from the reading
pub run_within-run : (s : State) (ts : List Token) → Shaped s → run_within s ts ≡ cond (is_shallow (scan_of s) ts) (run s ts) None
run_within-run s [] h = refl
run_within-run s (t ∷ ts) h = go (step s t) (step-waits s t h) (step-scan s t h) (step-Shaped s t h) (λ next k. run_within-run next ts k)
  where
    none : (b : Bool) → ◌≡◌ {A = Option Formula} None (cond b None None)
    none true = refl
    none false = refl

    choose : (next : State) (b c : Bool) (x : Option Formula) → run_within next ts ≡ cond c x None → option_and_then (λ n. run_within n ts) (cond b (Some next) None) ≡ cond (b && c) x None
    choose next true c x h = h
    choose next false c x h = refl

    go : (o : Option State) → IfSome o (λ next. length (waits next) ≡ length (waits_after (scan_of s) t)) → IfSome o (λ next. scan_of next ≡ after (scan_of s) t) → IfSome o Shaped → ((next : State) → Shaped next → run_within next ts ≡ cond (is_shallow (scan_of next) ts) (run next ts) None) →
        option_and_then (λ next. run_within next ts) (option_and_then (λ next. cond (nat_le (length (waits next)) most_waiting) (Some next) None) o)
        ≡ cond (is_shallow (scan_of s) (t ∷ ts)) (option_and_then (λ next. run next ts) o) None
    go None w e k h = none (is_shallow (scan_of s) (t ∷ ts))
    go (Some next) w e k h = rw w (choose next (nat_le (length (waits_after (scan_of s) t)) most_waiting) (is_shallow (after (scan_of s) t) ts) (run next ts) (h next k ∙ ap (λ g. cond (is_shallow g ts) (run next ts) None) e))

-- what is read within the limit is the formula of the tokens, and at none do too many items wait
pub found : (ts : List Token) (f : Formula) → run_within (Due []) ts ≡ Some f → IsReadAs ts f
found ts f e = go (is_shallow start ts) refl (sym (run_within-run (Due []) ts tt) ∙ e)
  where
    go : (b : Bool) → is_shallow start ts ≡ b → cond b (run (Due []) ts) None ≡ Some f → IsReadAs ts f
    go true d h = (IfSome-at (λ w. IsText ts w) (run (Due []) ts) f h (IsText-run ts), d)
    go false d h = cc

-- such a formula is read within the limit
pub only : (ts : List Token) (f : Formula) → IsReadAs ts f → run_within (Due []) ts ≡ Some f
only ts f h = run_within-run (Due []) ts tt ∙ (let d = h.1 in rw d (run-IsText ts f h.0))

-- the tokens have a tree exactly where each is admitted and the text may end
pub run-admitted : (s : State) (ts : List Token) → Shaped s → is_some (run s ts) ≡ all_admitted (scan_of s) ts
run-admitted s [] h = finish-may_end s h
run-admitted s (t ∷ ts) h = go (step s t) (step-admits s t h) (step-scan s t h) (step-Shaped s t h) (λ next k. run-admitted next ts k)
  where
    go : (o : Option State) → is_some o ≡ admits (scan_of s) t → IfSome o (λ next. scan_of next ≡ after (scan_of s) t) → IfSome o Shaped → ((next : State) → Shaped next → is_some (run next ts) ≡ all_admitted (scan_of next) ts) →
        is_some (option_and_then (λ next. run next ts) o) ≡ (admits (scan_of s) t && all_admitted (after (scan_of s) t) ts)
    go None a e k h = rw (← a)
    go (Some next) a e k h = rw (← a) (h next k ∙ ap (λ g. all_admitted g ts) e)

-- the law of the grammar and the table
pub text-admitted : (ts : List Token) → ((f : Formula) × IsText ts f) ↔ IsAdmitted ts
text-admitted ts = (to, from)
  where
    to : (f : Formula) × IsText ts f → IsAdmitted ts
    to h = sym (run-admitted (Due []) ts tt) ∙ ap is_some (run-IsText ts h.0 h.1)

    some : (o : Option Formula) → is_some o ≡ true → IfSome o (λ f. IsText ts f) → (f : Formula) × IsText ts f
    some None e h = cc
    some (Some f) e h = (f, h)

    from : IsAdmitted ts → (f : Formula) × IsText ts f
    from h = some (run (Due []) ts) (run-admitted (Due []) ts tt ∙ h) (IsText-run ts)
