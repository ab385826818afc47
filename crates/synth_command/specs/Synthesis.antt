-- What `synth` says of a specification file.
use Rattle.std.specs.Prelude.{◌≡◌, ℕ, false, List, [], ◌∷◌, ◌++◌, Option, Some, None, Result, Err}
use Rattle.game.specs.Board.{width}
use Rattle.game.specs.Histories.{Aims, IsKeepable}
use Rattle.legality.specs.Legal.{IsLeastViolation}
use Rattle.printed_strategy.specs.Strategy.{Strategy}
use Rattle.printed_strategy.specs.Printed.{IsPrintedFor}
use Rattle.printed_strategy.specs.StrategyText.{strategy_text}
use Rattle.spec_reader.specs.declared.spec.SpecFault.{SpecFault}
use Rattle.spec_reader.specs.declared.spec.SpecFault.TheVariants as fault
use Rattle.spec_reader.specs.declared.spec.Spec.{Spec}
use Rattle.spec_reader.specs.Specification.{Specification, IsSpecificationOf}
use Rattle.spec_reader.specs.Refusal.{first_refusal}
use Rattle.synthesis.specs.declared.fault.Role.{Role}
use Rattle.synthesis.specs.declared.fault.Role.TheVariants.{Assumption, Goal, Duty}
use Rattle.synthesis.specs.declared.fault.SynthesisFault.{SynthesisFault}
use Rattle.synthesis.specs.declared.fault.SynthesisFault.TheVariants as unsolved
use Rattle.synthesis.specs.Formulas.{Asked, aims_by, AreWithin, IsFirstOverIn, HasFewLocations}
use Rattle.command_endings.specs.declared.endings.Concern.{Concern}
use Rattle.command_endings.specs.declared.endings.Concern.TheVariants as concern
use Rattle.command_endings.specs.declared.endings.Ending.{Ending}
use Rattle.command_endings.specs.declared.endings.Ending.TheVariants.{Positive, Negative, Refused, OutsideFault, NoMemory}
use Rattle.command_endings.specs.declared.endings.Refusal.TheVariants as refusal
use Rattle.command_endings.specs.Replies.{Reply, refusing}
use Rattle.command_endings.specs.Tasks.{Task}
use Rattle.command_endings.specs.Worlds.{Contents}

-- the formulas of a specification
abbrev pub asked_of : Specification → Asked
asked_of spec = record { assume = spec.assume; goal = spec.goal; empty = spec.empty; duty = spec.duty }

-- what a specification asks for
abbrev pub aims_of : Specification → Aims
aims_of spec = aims_by spec.partition (asked_of spec)

-- each part and each whole of its formulas is within its limit
abbrev pub IsWithinLimit : Specification → Type 0
IsWithinLimit spec = AreWithin (width spec.partition) spec.limit (asked_of spec)

-- a formula, as messages name it
abbrev pub concern_of : Role → Concern
concern_of Assumption = concern.Assume
concern_of Goal = concern.Goal
concern_of Duty = concern.Duty

-- the run ends positively where the goal is forced
abbrev pub verdict_ending : Option ℕ → Ending
verdict_ending None = Negative
verdict_ending (Some n) = Positive

-- How a run ends on the bytes of a file, in the order of refusals: the specification; the limit, of what is assumed, the goal and
-- the duty in this order; that what is assumed can be kept. Else the text of the printed strategy is the output.
pub data SynthAnswers : List ℕ → Reply → Type 0 where
  refused : {bytes : List ℕ} {why : SpecFault} → first_refusal bytes ≡ Some why → SynthAnswers bytes (refusing (refusal.Specification why))
  too_many : {bytes : List ℕ} (spec : Specification) (role : Role) (part count : ℕ) → IsSpecificationOf bytes spec
      → IsFirstOverIn (width spec.partition) spec.limit (asked_of spec) role part count
      → SynthAnswers bytes (refusing (refusal.TooMany (concern_of role) part count spec.limit))
  breakable : {bytes : List ℕ} {rounds : ℕ} (spec : Specification) → IsSpecificationOf bytes spec → IsWithinLimit spec
      → IsLeastViolation (aims_of spec) rounds → SynthAnswers bytes (refusing (refusal.Breakable rounds))
  synthesised : {bytes : List ℕ} (spec : Specification) (t : Strategy) → IsSpecificationOf bytes spec → IsWithinLimit spec
      → IsKeepable (aims_of spec) [] → IsPrintedFor (aims_of spec) t
      → SynthAnswers bytes (record { output = strategy_text spec.names t; ending = verdict_ending t.verdict })

-- The command as data: it reads this file and no input, and accepts a specification within its limit that can be kept.
abbrev pub synth_task : List ℕ → Task
synth_task name = record {
  file = Some name;
  reads = false;
  to_end = false;
  streams = false;
  may_read = λ contents. ⊥;
  accepts = λ files rest. (bytes : List ℕ) × (files name ≡ Some bytes) × (spec : Specification) × IsSpecificationOf bytes spec × IsWithinLimit spec
      × IsKeepable (aims_of spec) [];
  answers = λ files rest reply. (bytes : List ℕ) × (files name ≡ Some bytes) × SynthAnswers bytes reply;
}

-- how a run ends where its specification is refused, or memory is out
abbrev pub specification_ending : SpecFault → Ending
specification_ending fault.Memory = NoMemory
specification_ending why = Refused (refusal.Specification why)

-- how a run ends where a specification with this limit has no strategy, or memory is out
abbrev pub fault_ending : ℕ → SynthesisFault → Ending
fault_ending limit (unsolved.TooMany role part count) = Refused (refusal.TooMany (concern_of role) part count limit)
fault_ending limit (unsolved.Unkeepable rounds) = Refused (refusal.Breakable rounds)
fault_ending limit unsolved.Memory = NoMemory

-- where the files tell what they hold, there is such a file, and P holds of its bytes
abbrev pub FileHolds : Option Contents → List ℕ → (List ℕ → Type 0) → Type 0
FileHolds told name P = (contents : Contents) → told ≡ Some contents → (bytes : List ℕ) × (contents name ≡ Some bytes) × P bytes

-- how a run ends that has no specification
abbrev pub ReadsTo : Option Contents → List ℕ → Ending → Type 0
ReadsTo told name (Refused r) = (why : SpecFault) × (r ≡ refusal.Specification why) × FileHolds told name (λ bytes. first_refusal bytes ≡ Some why)
ReadsTo told name NoMemory = Unit {0}
ReadsTo told name OutsideFault = Unit {0}
ReadsTo told name ending = ⊥

-- the file failed exactly where the run ends so
abbrev pub FailsSo : Result Spec Ending → List (List ℕ) → List ℕ → List (List ℕ) → Type 0
FailsSo (Err OutsideFault) before name after = after ≡ before ++ name ∷ []
FailsSo result before name after = after ≡ before

-- how a run ends without a strategy
abbrev pub EndsUnsolved : Specification → Ending → Type 0
EndsUnsolved spec (Refused (refusal.TooMany c part count limit)) =
    (role : Role) × (c ≡ concern_of role) × (limit ≡ spec.limit) × IsFirstOverIn (width spec.partition) spec.limit (asked_of spec) role part count
EndsUnsolved spec (Refused (refusal.Breakable rounds)) = IsWithinLimit spec × IsLeastViolation (aims_of spec) rounds
EndsUnsolved spec NoMemory = Unit {0}
EndsUnsolved spec ending = ⊥

-- the text is that of the specification's printed strategy, and the run ends by its verdict
pub record IsText (spec : Specification) (text : List ℕ) (ending : Ending) : Type 0 where
  pub strategy : Strategy
  pub printed : IsPrintedFor (aims_of spec) strategy
  pub within : IsWithinLimit spec
  pub kept : IsKeepable (aims_of spec) []
  pub few : HasFewLocations (width spec.partition) (asked_of spec) strategy.size
  pub whole : text ≡ strategy_text spec.names strategy
  pub ends : ending ≡ verdict_ending strategy.verdict
