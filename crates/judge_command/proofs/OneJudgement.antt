-- A formula judges an input in one way.
use Rattle.std.proofs.Common.{◌≡◌, ◌<◌, ℕ, ◌∷◌, inl, inr, List, [], length, Bool, true, false, sym, ◌∙◌, ap, subst, lit≤}
use Rattle.bes_io.specs.Lines.{at_end, HasLines}
use Rattle.bes_io.proofs.LinesLemmas.{one-reading}
use Rattle.forms.specs.Tree.{Formula}
use Rattle.forms.specs.Word.{Claim}
use Rattle.forms.specs.Satisfaction.{meets}
use Rattle.form_tokens.specs.declared.dialect.Dialect.{Dialect}
use Rattle.command_endings.specs.declared.endings.Refusal.{Refusal}
use Rattle.command_endings.specs.declared.endings.Refusal.TheVariants as refusal
use Rattle.command_endings.specs.Endings.{status_of}
use Rattle.command_endings.specs.Formulas.{IsFormula, names_of}
use Rattle.command_endings.specs.Replies.{Reply, refusing}
use Rattle.command_endings.proofs.FormulaLemmas.{one-formula, formula-or-fault}
use Rattle.input_letters.specs.Traces.{most_input, AreEvents, HasTrace}
use Rattle.input_letters.proofs.EventLines.{one-word, no-lines-events, one-refusal, refused-or-events}
use Rattle.judge_command.specs.Judge.{JudgeAnswers, formula_refused, input_refused, judged, answer_reply, IsJudged, IsInputRefused}

module _ (names : List (List ℕ)) {rest : List ℕ} where
  -- an input is refused in one way
  one-input-refusal : (q r : Refusal) → IsInputRefused names rest q → IsInputRefused names rest r → q ≡ r
  one-input-refusal q r (inl (lines, stop, h, e)) (inl (others, end, k, f)) = one-refusal names h k e f
  one-input-refusal q r (inl (lines, stop, h, e)) (inr (k, none)) = absurd (refused-or-events names [] h k e tt)
  one-input-refusal q r (inr (h, none)) (inl (others, end, k, f)) = absurd (refused-or-events names [] k h f tt)
  one-input-refusal q r (inr (h, none)) (inr (k, other)) = none ∙ sym other

  -- no input is refused that has a trace
  refused-or-trace : (r : Refusal) (lines : List (List ℕ)) (letter : ℕ) (word : List ℕ) → IsInputRefused names rest r → HasLines most_input rest lines at_end
      → AreEvents names lines (letter ∷ word) → ⊥
  refused-or-trace r lines letter word (inl (others, stop, h, e)) k events = refused-or-events names (letter ∷ word) h k e events
  refused-or-trace r lines letter word (inr (h, none)) k events = no-lines-events _ _ letter word (one-reading h k).0 events

  -- a claim has one answer on an input
  one-answer : (claim : Claim) (a b : Bool) → IsJudged names claim rest a → IsJudged names claim rest b → a ≡ b
  one-answer claim a b j k =
      let same : j.lines ≡ k.lines = (one-reading j.has k.has).0 in
      let words : j.letter ∷ j.word ≡ k.letter ∷ k.word = one-word names k.lines _ _ (subst (λ l. AreEvents names l (j.letter ∷ j.word)) same j.events) k.events in
      j.meets ∙ ap claim words ∙ sym k.meets

module _ {dialect : Dialect} {text rest : List ℕ} where
  -- a formula judges an input in one way
  pub one-judgement : {c d : Reply} → JudgeAnswers dialect text rest c → JudgeAnswers dialect text rest d → c ≡ d
  one-judgement (formula_refused {fault = x} a) (formula_refused {fault = y} b) =
      let same : x ≡ y = cc in ap (λ z. refusing (refusal.Formula z)) same
  one-judgement (formula_refused a) (input_refused b h) = absurd (formula-or-fault dialect text _ _ b a)
  one-judgement (formula_refused a) (judged b k) = absurd (formula-or-fault dialect text _ _ b a)
  one-judgement (input_refused a h) (formula_refused b) = absurd (formula-or-fault dialect text _ _ a b)
  one-judgement (input_refused {r = q} a h) (input_refused {r = r} b k) = ap refusing (one-input-refusal (names_of dialect text) q r h k)
  one-judgement (input_refused {r = r} a h) (judged b k) = absurd (refused-or-trace (names_of dialect text) r k.lines k.letter k.word h k.has k.events)
  one-judgement (judged a j) (formula_refused b) = absurd (formula-or-fault dialect text _ _ a b)
  one-judgement (judged a j) (input_refused {r = r} b h) = absurd (refused-or-trace (names_of dialect text) r j.lines j.letter j.word h j.has j.events)
  one-judgement (judged {f = f} {answer = x} a j) (judged {f = g} {answer = y} b k) =
      let forms : f ≡ g = one-formula dialect text f g a b in
      let alike = subst (λ h. IsJudged (names_of dialect text) (λ w. meets (length (names_of dialect text)) h w) rest x) forms j in
      ap answer_reply (one-answer (names_of dialect text) (λ w. meets (length (names_of dialect text)) g w) x y alike k)

-- an answer is one
answer-few : (answer : Bool) → status_of (answer_reply answer).ending < 2
answer-few true = lit≤ tt
answer-few false = lit≤ tt

-- a formula and a trace are answered
pub answered-trace : {dialect : Dialect} {text rest : List ℕ} {reply : Reply} → ((f : Formula) × IsFormula dialect text f) × HasTrace most_input (names_of dialect text) rest
    → JudgeAnswers dialect text rest reply → status_of reply.ending < 2
answered-trace {dialect} {text} ((f, is), t) (formula_refused {fault = x} a) = absurd (formula-or-fault dialect text f x is a)
answered-trace {dialect} {text} ((f, is), t) (input_refused {r = r} b h) = absurd (refused-or-trace (names_of dialect text) r t.lines t.letter t.word h t.has t.events)
answered-trace {dialect} {text} ((f, is), t) (judged {answer = answer} b j) = answer-few answer
