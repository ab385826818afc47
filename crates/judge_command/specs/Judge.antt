-- What `judge` says of a formula, or another claim on traces, and an input.
use Rattle.std.specs.Prelude.{◌≡◌, ℕ, List, [], ◌∷◌, length, codes, Bool, true, false, Option, Some, None, Result, Ok, Err, ◌⊎◌}
use Rattle.bes_io.specs.Lines.{Stop, at_end, HasLines}
use Rattle.forms.specs.Tree.{Formula}
use Rattle.forms.specs.Word.{Claim}
use Rattle.forms.specs.Satisfaction.{meets as meets_trace}
use Rattle.form_tokens.specs.declared.dialect.Dialect.{Dialect}
use Rattle.form_reader.specs.declared.fault.FormFault.{FormFault}
use Rattle.command_endings.specs.declared.endings.Ending.{Ending}
use Rattle.command_endings.specs.declared.endings.Ending.TheVariants.{Positive, Negative, Refused}
use Rattle.command_endings.specs.declared.endings.Refusal.{Refusal}
use Rattle.command_endings.specs.declared.endings.Refusal.TheVariants as refusal
use Rattle.command_endings.specs.Replies.{Reply, refusing}
use Rattle.command_endings.specs.Tasks.{Task}
use Rattle.command_endings.specs.Formulas.{IsFormula, IsRefused, names_of}
use Rattle.input_letters.specs.Traces.{most_input, AreEvents, trace_refusal, HasTrace}

-- the answer, and how the run ends with it
abbrev pub answer_reply : Bool → Reply
answer_reply true = record { output = codes "true\n"; ending = Positive }
answer_reply false = record { output = codes "false\n"; ending = Negative }

-- the lines of the input are events, and the claim's answer on their letters is this
pub record IsJudged (names : List (List ℕ)) (claim : Claim) (rest : List ℕ) (answer : Bool) : Type 0 where
  pub lines : List (List ℕ)
  pub letter : ℕ
  pub word : List ℕ
  pub has : HasLines most_input rest lines at_end
  pub events : AreEvents names lines (letter ∷ word)
  pub meets : answer ≡ claim (letter ∷ word)

-- the input is refused: a line, where its lines stop, or since it has no event
abbrev pub IsInputRefused : List (List ℕ) → List ℕ → Refusal → Type 0
IsInputRefused names rest r =
    ((lines : List (List ℕ)) × (stop : Stop) × HasLines most_input rest lines stop × (trace_refusal names 1 lines stop ≡ Some r))
    ⊎ (HasLines most_input rest [] at_end × (r ≡ refusal.NoEvent))

-- in the order of refusals: the formula, the input from its front, an input without an event
pub data JudgeAnswers : Dialect → List ℕ → List ℕ → Reply → Type 0 where
  formula_refused : {dialect : Dialect} {text rest : List ℕ} {fault : FormFault} →
      IsRefused dialect text fault → JudgeAnswers dialect text rest (refusing (refusal.Formula fault))
  input_refused : {dialect : Dialect} {text rest : List ℕ} {f : Formula} {r : Refusal} →
      IsFormula dialect text f → IsInputRefused (names_of dialect text) rest r → JudgeAnswers dialect text rest (refusing r)
  judged : {dialect : Dialect} {text rest : List ℕ} {f : Formula} {answer : Bool} →
      IsFormula dialect text f → IsJudged (names_of dialect text) (λ w. meets_trace (length (names_of dialect text)) f w) rest answer →
      JudgeAnswers dialect text rest (answer_reply answer)

-- what judging the input gives: the answer, or what is refused first
abbrev pub GivesAnswer : List (List ℕ) → Claim → List ℕ → Result Bool Ending → Option (List ℕ) → Type 0
GivesAnswer names claim rest (Ok answer) left = (left ≡ Some []) × IsJudged names claim rest answer
GivesAnswer names claim rest (Err (Refused r)) left = IsInputRefused names rest r
GivesAnswer names claim rest (Err ending) left = Unit {0}

-- The command as data: it reads the input to its end once the formula is read, and accepts each formula and each trace.
abbrev pub judge_task : Dialect → List ℕ → Task
judge_task dialect text = record {
  file = None;
  reads = true;
  to_end = true;
  streams = false;
  may_read = λ contents. (f : Formula) × IsFormula dialect text f;
  accepts = λ files rest. ((f : Formula) × IsFormula dialect text f) × HasTrace most_input (names_of dialect text) rest;
  answers = λ files rest. JudgeAnswers dialect text rest;
}
