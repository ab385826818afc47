-- What `judge` says, by what its parts found.
use Rattle.std.proofs.Common.{◌≡◌, ◌≢◌, ℕ, ◌<◌, inl, inr, List, [], ◌∷◌, length, arith, sym, refl, subst, Option, Some, Bool, true, false, Ok, Err}
use Rattle.forms.specs.Tree.{Formula}
use Rattle.forms.specs.Word.{Claim}
use Rattle.forms.specs.Satisfaction.{meets}
use Rattle.form_tokens.specs.declared.dialect.Dialect.{Dialect}
use Rattle.command_endings.specs.declared.endings.Ending.{Ending}
use Rattle.command_endings.specs.declared.endings.Ending.TheVariants.{Positive, Negative, Refused, OutsideFault, NoMemory}
use Rattle.command_endings.specs.declared.endings.Refusal.{Refusal}
use Rattle.command_endings.specs.declared.endings.Refusal.TheVariants as refusal
use Rattle.command_endings.specs.Endings.{status_of, IsUnread}
use Rattle.command_endings.specs.Formulas.{IsFormula, names_of}
use Rattle.command_endings.specs.Replies.{refusing}
use Rattle.command_endings.specs.Tasks.{Tells, Performs, PutsAll}
use Rattle.command_endings.specs.Worlds.{Contents, World}
use Rattle.command_endings.specs.Writing.{Writes}
use Rattle.command_endings.proofs.CallLemmas.{refused-few}
use Rattle.command_endings.proofs.Performing.{refusal, no-memory, failed, output-put, far-all}
use Rattle.command_endings.proofs.ReadingLemmas.{late}
use Rattle.command_endings.proofs.WritingLemmas.{writes-reply, put-served}
use Rattle.input_letters.specs.Letters.{GivesTrace, HasTraceCause}
use Rattle.judge_command.specs.Judge.{JudgeAnswers, input_refused, judged, answer_reply, IsJudged, IsInputRefused, GivesAnswer, judge_task}

-- what ends reading the trace ends judging
pub gives-ending : (names : List (List ℕ)) (claim : Claim) (rest : List ℕ) (ending : Ending) (left : Option (List ℕ)) → GivesTrace names rest (Err ending) left
    → GivesAnswer names claim rest (Err ending) left
gives-ending names claim rest Positive left g = tt
gives-ending names claim rest Negative left g = tt
gives-ending names claim rest (Refused r) left g = inl g
gives-ending names claim rest OutsideFault left g = tt
gives-ending names claim rest NoMemory left g = tt

-- an input without letters has no event
pub no-letters : (names : List (List ℕ)) (rest word : List ℕ) (left : Option (List ℕ)) → length word ≡ 0 → GivesTrace names rest (Ok word) left → IsInputRefused names rest refusal.NoEvent
no-letters names rest [] left none (empty, ([], has, events)) = inr (has, refl)
no-letters names rest [] left none (empty, (text ∷ lines, has, events)) = absurd events
no-letters names rest (letter ∷ word) left none g = absurd (omega arith)

-- what ends reading the trace is no answer
pub no-answer-at-trace : (was now : ℕ) (ending : Ending) → HasTraceCause {T = Bool} was now (Err ending) → status_of ending < 2 → ⊥
no-answer-at-trace was now Positive cause few = cause
no-answer-at-trace was now Negative cause few = cause
no-answer-at-trace was now (Refused r) cause few = refused-few r few
no-answer-at-trace was now OutsideFault cause few = let small : 7 < 2 = few in omega arith
no-answer-at-trace was now NoMemory cause few = let small : 8 < 2 = few in omega arith

-- the line of an answer is not empty
answer-some : (answer : Bool) → (answer_reply answer).output ≢ []
answer-some true e = cc
answer-some false e = cc

-- an answer is no fault, nor want of memory
answer-sound : (answer : Bool) → (answer_reply answer).ending ≢ OutsideFault
answer-sound true e = cc
answer-sound false e = cc

answer-served : (answer : Bool) → status_of (answer_reply answer).ending ≢ 8
answer-served true e = let is : 0 ≡ 8 = e in omega (arith, is)
answer-served false e = let is : 1 ≡ 8 = e in omega (arith, is)

-- nor a status that comes before the input is asked
answer-early : (answer : Bool) → ¬ IsUnread (status_of (answer_reply answer).ending)
answer-early true u = late 0 (inl (omega arith)) u
answer-early false u = late 1 (inl (omega arith)) u

pub put-early : (answer : Bool) (before after : World) (result : Ending) → PutsAll (answer_reply answer).output (answer_reply answer).ending before.held before.output_faults after.held after.output_faults result
    → ¬ IsUnread (status_of result)
put-early answer before after result (inl p) = subst (λ e. ¬ IsUnread (status_of e)) (sym p.0) (answer-early answer)
put-early answer before after result (inr p) = subst (λ e. ¬ IsUnread (status_of e)) (sym p.0) (late 7 (inr (omega arith)))

module _ (dialect : Dialect) (text : List ℕ) (f : Formula) (is : IsFormula dialect text f) where
  -- the formula's traces
  abbrev pub traces : Claim
  traces = λ w. meets (length (names_of dialect text)) f w

  refused-reply : (rest : List ℕ) (r : Refusal) → IsInputRefused (names_of dialect text) rest r → JudgeAnswers dialect text rest (refusing r)
  refused-reply rest r refused = input_refused is refused

  -- the answer on an input is its reply
  judged-reply : (rest : List ℕ) (answer : Bool) → IsJudged (names_of dialect text) traces rest answer → JudgeAnswers dialect text rest (answer_reply answer)
  judged-reply rest answer j = judged is j

  module _ (before after : World) (same : after.failed ≡ before.failed) where
    -- the input gives no answer
    pub input-ends : (ending : Ending) → ((rest : List ℕ) → before.left ≡ Some rest → GivesAnswer (names_of dialect text) traces rest (Err ending) after.left)
        → HasTraceCause {T = Bool} before.input_faults after.input_faults (Err ending) → after.output_faults ≡ before.output_faults → after.held ≡ before.held → Performs (judge_task dialect text) before after ending
    input-ends Positive gives cause puts held = absurd cause
    input-ends Negative gives cause puts held = absurd cause
    input-ends NoMemory gives cause puts held = no-memory (judge_task dialect text) before after (record { input_faults = cause; output_faults = puts; failed = same })
    input-ends (Refused r) gives cause puts held =
        refusal (judge_task dialect text) before after r (λ files rest tells. refused-reply rest r (gives rest (tells.told_input (f, is)))) (record { input_faults = cause; output_faults = puts; failed = same }) held
    input-ends OutsideFault gives cause puts held = failed (judge_task dialect text) before after (λ files rest tells. inl held) (inl ((f, is), cause)) (inl same) tt

    module _ (answer : Bool) (gives : (rest : List ℕ) → before.left ≡ Some rest → GivesAnswer (names_of dialect text) traces rest (Ok answer) after.left)
        (reads : after.input_faults ≡ before.input_faults) (result : Ending) (put : PutsAll (answer_reply answer).output (answer_reply answer).ending before.held before.output_faults after.held after.output_faults result) where
      asked : (files : Contents) (rest : List ℕ) → Tells (judge_task dialect text) before files rest → JudgeAnswers dialect text rest (answer_reply answer)
      asked files rest tells = judged-reply rest answer (gives rest (tells.told_input (f, is))).1

      -- the answer was put, or the sink failed
      pub answer-put : Performs (judge_task dialect text) before after result
      answer-put = output-put (judge_task dialect text) before after (answer_reply answer).output (answer_reply answer).ending (answer-sound answer) refl asked reads same
          (far-all before after (status_of (answer_reply answer).ending) (λ rest told. (gives rest told).0)) (λ files rest tells known on off. cc) result put

      -- in one call
      pub answer-written : {O : Type 0} (call : O → List ℕ → O → Type 0) (old new : O) → call old (answer_reply answer).output new
          → Writes call (judge_task dialect text) before after old new (status_of result)
      answer-written call old new made = writes-reply call (judge_task dialect text) before after old new (answer_reply answer).output (answer_reply answer).ending (status_of result) refl
          asked (answer-some answer) (put-served (answer_reply answer).output (answer_reply answer).ending before after result (answer-served answer) put) reads made
