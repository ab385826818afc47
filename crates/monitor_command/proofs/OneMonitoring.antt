-- An input is monitored in one way.
use Rattle.std.proofs.Common.{◌≡◌, ◌≢◌, ◌<◌, ℕ, ◌∷◌, List, [], ◌++◌, length, false, refl, sym, ◌∙◌, ap, subst, lit≤, inl, inr, ◌⊎◌, Some, None}
use Rattle.bes_io.specs.Lines.{Stop, at_end}
use Rattle.bes_io.proofs.LinesLemmas.{one-reading}
use Rattle.forms.specs.Tree.{Formula}
use Rattle.forms.specs.Satisfaction.{meets}
use Rattle.forms.specs.Verdict.{Verdict, PermTrue, PermFalse, TempTrue, TempFalse}
use Rattle.forms.specs.Word.{Word, Claim}
use Rattle.form_tokens.specs.declared.dialect.Dialect.{Dialect}
use Rattle.translate.specs.Counting.{IsFirstOver}
use Rattle.translate.proofs.CountLemmas.{first_over_is_one}
use Rattle.class_limit.specs.Limits.{most_classes, AreFew, IsFormulaWithinLimit}
use Rattle.class_limit.proofs.LimitLemmas.{over-or-within}
use Rattle.command_endings.specs.declared.endings.Concern.TheVariants as concern
use Rattle.command_endings.specs.declared.endings.Ending.{Ending}
use Rattle.command_endings.specs.declared.endings.Refusal.{Refusal}
use Rattle.command_endings.specs.declared.endings.Refusal.TheVariants as refusal
use Rattle.command_endings.specs.Endings.{status_of}
use Rattle.command_endings.specs.Formulas.{names_of}
use Rattle.command_endings.specs.Replies.{Reply, refusing}
use Rattle.command_endings.proofs.FormulaLemmas.{one-formula, formula-or-fault}
use Rattle.input_letters.specs.Traces.{AreEvents, HasTrace, stop_refusal}
use Rattle.monitor_command.specs.Monitoring.{most_monitored, MonitorAnswers, formula_refused, too_many, monitored, MonitorsFrom, no_event, ended, stopped, refused, event, ending_of, IsMonitored}
use Rattle.monitor_command.proofs.MonitorLines.{one-monitored, push-some}

-- an input is monitored in one way
pub one-monitoring : {dialect : Dialect} {text rest : List ℕ} {c d : Reply} → MonitorAnswers dialect text rest c → MonitorAnswers dialect text rest d → c ≡ d
one-monitoring (formula_refused {fault = x} a) (formula_refused {fault = y} b) =
    let same : x ≡ y = cc in ap (λ z. refusing (refusal.Formula z)) same
one-monitoring {dialect = dialect} {text = text} (formula_refused a) (too_many b h) = absurd (formula-or-fault dialect text _ _ b a)
one-monitoring {dialect = dialect} {text = text} (formula_refused a) (monitored b h w) = absurd (formula-or-fault dialect text _ _ b a)
one-monitoring {dialect = dialect} {text = text} (too_many a h) (formula_refused b) = absurd (formula-or-fault dialect text _ _ a b)
one-monitoring {dialect = dialect} {text = text} (too_many {f = f} {part = i} {count = m} a h) (too_many {f = g} {part = j} {count = n} b k) =
    let p = length (names_of dialect text) in
    let moved = subst (λ x. IsFirstOver p x false most_classes i m) (one-formula dialect text f g a b) h in
    let same = first_over_is_one p g false most_classes i j m n moved k in
    ap (λ x. refusing (refusal.TooMany concern.Formula x m most_classes)) same.0 ∙ ap (λ x. refusing (refusal.TooMany concern.Formula j x most_classes)) same.1
one-monitoring {dialect = dialect} {text = text} (too_many {f = f} {part = i} {count = m} a h) (monitored {f = g} b k w) =
    absurd (over-or-within (names_of dialect text) g i m (subst (λ x. IsFirstOver (length (names_of dialect text)) x false most_classes i m) (one-formula dialect text f g a b) h) k)
one-monitoring {dialect = dialect} {text = text} (monitored a h w) (formula_refused b) = absurd (formula-or-fault dialect text _ _ a b)
one-monitoring {dialect = dialect} {text = text} (monitored {f = f} a h w) (too_many {f = g} {part = j} {count = n} b k) =
    absurd (over-or-within (names_of dialect text) g j n k (subst (λ x. AreFew (names_of dialect text) x) (one-formula dialect text f g a b) h))
one-monitoring {dialect = dialect} {text = text} {rest = rest} (monitored {f = f} {reply = c} a h w) (monitored {f = g} b k z) =
    one-monitored (names_of dialect text) (λ w. meets (length (names_of dialect text)) g w)
    (subst (λ x. IsMonitored (names_of dialect text) (λ w. meets (length (names_of dialect text)) x w) rest c) (one-formula dialect text f g a b) w) z

-- a verdict is an answer
verdict-few : (v : Verdict) → status_of (ending_of v) < 2
verdict-few PermTrue = lit≤ tt
verdict-few PermFalse = lit≤ tt
verdict-few TempTrue = lit≤ tt
verdict-few TempFalse = lit≤ tt

not-stopped-at_end : (n : ℕ) (stop : Stop) (A : Type 0) {r : Refusal} → stop_refusal n stop ≡ Some r → stop ≡ at_end → A
not-stopped-at_end n stop A e is = let none : stop_refusal n stop ≡ None = ap (stop_refusal n) is in cc

-- lines that are all events, of which there are some or were some, are answered
monitors-few : (names : List (List ℕ)) (claim : Claim) {w : Word} {n : ℕ} {lines : List (List ℕ)} {stop : Stop} {output : List ℕ} {ending : Ending} (word : Word)
    → AreEvents names lines word → stop ≡ at_end → (w ≢ []) ⊎ (word ≢ []) → MonitorsFrom names claim w n lines stop output ending → status_of ending < 2
monitors-few names claim [] events is (inl some) no_event = absurd (some refl)
monitors-few names claim [] events is (inr some) no_event = absurd (some refl)
monitors-few names claim (a ∷ word) events is some no_event = absurd events
monitors-few names claim word events is some (ended v more k) = verdict-few v
monitors-few names claim {n = n} {stop = stop} {ending = ending} word events is some (stopped e) = not-stopped-at_end n stop (status_of ending < 2) e is
monitors-few names claim [] events is some (refused e) = absurd events
monitors-few names claim (a ∷ word) events is some (refused e) = let admitted = events.0.admitted in cc
monitors-few names claim [] events is some (event v on k later) = absurd events
monitors-few names claim {w = w} (a ∷ word) events is some (event {letter = b} v on k later) =
    monitors-few names claim word events.1 is (inl (push-some w b)) later

-- a formula within the limit and a trace are answered
pub answered-input : {dialect : Dialect} {text rest : List ℕ} {reply : Reply} → IsFormulaWithinLimit dialect text × HasTrace most_monitored (names_of dialect text) rest
    → MonitorAnswers dialect text rest reply → status_of reply.ending < 2
answered-input {dialect} {text} (may, t) (formula_refused {fault = x} a) = absurd (formula-or-fault dialect text may.0 x may.1 a)
answered-input {dialect} {text} (may, t) (too_many {f = g} {part = i} {count = m} b over) =
    absurd (over-or-within (names_of dialect text) may.0 i m (subst (λ z. IsFirstOver (length (names_of dialect text)) z false most_classes i m) (one-formula dialect text g may.0 b may.1) over) may.2)
answered-input {dialect} {text} (may, t) (monitored {f = f} {reply = c} b within w) =
    let lines = one-reading w.has t.has in
    monitors-few (names_of dialect text) (λ u. meets (length (names_of dialect text)) f u) (t.letter ∷ t.word)
    (subst (λ l. AreEvents (names_of dialect text) l (t.letter ∷ t.word)) (sym lines.0) t.events) lines.1 (inr (λ e. cc)) w.gives
