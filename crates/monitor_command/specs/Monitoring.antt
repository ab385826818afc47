-- What `monitor` says of a formula, or another claim on traces, and an input.
use Rattle.std.specs.Prelude.{◌≡◌, ◌≢◌, ℕ, true, false, ◌+◌, List, [], ◌∷◌, ◌++◌, length, codes, Some, None}
use Rattle.bes_io.specs.Lines.{Stop, at_end, HasLines}
use Rattle.forms.specs.Word.{Word, Claim}
use Rattle.forms.specs.Tree.{Formula}
use Rattle.forms.specs.Satisfaction.{meets}
use Rattle.forms.specs.Verdict.{Verdict, PermTrue, PermFalse, TempTrue, TempFalse, IsVerdict}
use Rattle.form_tokens.specs.declared.dialect.Dialect.{Dialect}
use Rattle.form_reader.specs.declared.fault.FormFault.{FormFault}
use Rattle.spec_reader.specs.Event.{IsEventOf, event_fault}
use Rattle.spec_reader.specs.declared.events.EventFault.{EventFault}
use Rattle.spec_reader.specs.declared.events.Mode.TheVariants.{Ignore}
use Rattle.translate.specs.Counting.{IsFirstOver}
use Rattle.command_endings.specs.declared.endings.Concern.TheVariants as concern
use Rattle.command_endings.specs.declared.endings.Ending.{Ending}
use Rattle.command_endings.specs.declared.endings.Ending.TheVariants.{Positive, Negative, Refused}
use Rattle.command_endings.specs.declared.endings.Refusal.{Refusal}
use Rattle.command_endings.specs.declared.endings.Refusal.TheVariants as refusal
use Rattle.command_endings.specs.Replies.{Reply, refusing}
use Rattle.command_endings.specs.Tasks.{Task}
use Rattle.command_endings.specs.Formulas.{IsFormula, IsRefused, names_of}
use Rattle.class_limit.specs.Limits.{most_classes, AreFew, IsFormulaWithinLimit}
use Rattle.input_letters.specs.Traces.{stop_refusal, HasTrace}

-- the most bytes of an input that is monitored
abbrev pub most_monitored : ℕ
most_monitored = 1099511627776

-- the line of output that a verdict is
abbrev pub verdict_line : Verdict → List ℕ
verdict_line PermTrue = codes "perm_true\n"
verdict_line PermFalse = codes "perm_false\n"
verdict_line TempTrue = codes "temp_true\n"
verdict_line TempFalse = codes "temp_false\n"

-- how a run ends with the last verdict: positive where the letters so far meet the formula
abbrev pub ending_of : Verdict → Ending
ending_of PermTrue = Positive
ending_of PermFalse = Negative
ending_of TempTrue = Positive
ending_of TempFalse = Negative

-- After these letters, from line n on: the output that lines give, and how the run ends with them and their stop. Each
-- event gives the verdict of the letters so far, its own included. The first line that is no event ends the run.
pub data MonitorsFrom (names : List (List ℕ)) (claim : Claim) : Word → ℕ → List (List ℕ) → Stop → List ℕ → Ending → Type 0 where
  no_event : {n : ℕ} → MonitorsFrom names claim [] n [] at_end [] (Refused refusal.NoEvent)
  ended : {word : Word} {n : ℕ} (v : Verdict) → word ≢ [] → IsVerdict (length names) claim word v →
      MonitorsFrom names claim word n [] at_end [] (ending_of v)
  stopped : {word : Word} {n : ℕ} {stop : Stop} {r : Refusal} → stop_refusal n stop ≡ Some r → MonitorsFrom names claim word n [] stop [] (Refused r)
  refused : {word : Word} {n : ℕ} {text : List ℕ} {lines : List (List ℕ)} {stop : Stop} {fault : EventFault} →
      event_fault names Ignore text ≡ Some fault → MonitorsFrom names claim word n (text ∷ lines) stop [] (Refused (refusal.Event n fault))
  event : {word : Word} {n letter : ℕ} {text : List ℕ} {lines : List (List ℕ)} {stop : Stop} {output : List ℕ} {ending : Ending} (v : Verdict) →
      IsEventOf names Ignore text letter → IsVerdict (length names) claim (word ++ letter ∷ []) v →
      MonitorsFrom names claim (word ++ letter ∷ []) (n + 1) lines stop output ending →
      MonitorsFrom names claim word n (text ∷ lines) stop (verdict_line v ++ output) ending

-- the reply to an input with these bytes
pub record IsMonitored (names : List (List ℕ)) (claim : Claim) (bytes : List ℕ) (reply : Reply) : Type 0 where
  pub lines : List (List ℕ)
  pub stop : Stop
  pub has : HasLines most_monitored bytes lines stop
  pub gives : MonitorsFrom names claim [] 1 lines stop reply.output reply.ending

-- in the order of refusals: the formula, the limit, the input from its front, an input without an event
pub data MonitorAnswers : Dialect → List ℕ → List ℕ → Reply → Type 0 where
  formula_refused : {dialect : Dialect} {text bytes : List ℕ} {fault : FormFault} →
      IsRefused dialect text fault → MonitorAnswers dialect text bytes (refusing (refusal.Formula fault))
  too_many : {dialect : Dialect} {text bytes : List ℕ} {f : Formula} {part count : ℕ} →
      IsFormula dialect text f → IsFirstOver (length (names_of dialect text)) f false most_classes part count →
      MonitorAnswers dialect text bytes (refusing (refusal.TooMany concern.Formula part count most_classes))
  monitored : {dialect : Dialect} {text bytes : List ℕ} {f : Formula} {reply : Reply} →
      IsFormula dialect text f → AreFew (names_of dialect text) f → IsMonitored (names_of dialect text) (λ w. meets (length (names_of dialect text)) f w) bytes reply →
      MonitorAnswers dialect text bytes reply

-- The command as data: it reads the input to its end once the formula is found to be within the limit, and writes as it
-- reads. It accepts each formula within the limit, and each trace.
abbrev pub monitor_task : Dialect → List ℕ → Task
monitor_task dialect text = record {
  file = None;
  reads = true;
  to_end = true;
  streams = true;
  may_read = λ contents. IsFormulaWithinLimit dialect text;
  accepts = λ files rest. IsFormulaWithinLimit dialect text × HasTrace most_monitored (names_of dialect text) rest;
  answers = λ files rest. MonitorAnswers dialect text rest;
}

-- what is left to do once a claim is ready to be monitored
abbrev pub monitored_task : List (List ℕ) → Claim → Task
monitored_task names claim = record {
  file = None;
  reads = true;
  to_end = true;
  streams = true;
  may_read = λ contents. Unit {0};
  accepts = λ files rest. HasTrace most_monitored names rest;
  answers = λ files rest. IsMonitored names claim rest;
}
