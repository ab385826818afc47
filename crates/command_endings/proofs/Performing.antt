-- What a command does, put together from its parts.
use Rattle.std.proofs.Common.{◌≡◌, ◌≢◌, ℕ, ◌<◌, inl, inr, List, [], sym, refl, ◌∙◌, ap, subst, arith, Option, Some, None, Bool, true, false}
use Rattle.std.proofs.lemmas.List.{append-nil}
use Rattle.std.specs.Io.KnownBytes.{append_known}
use Rattle.form_tokens.specs.declared.dialect.Dialect.{Dialect}
use Rattle.form_reader.specs.declared.fault.FormFault.{FormFault}
use Rattle.command_endings.specs.declared.endings.Ending.{Ending}
use Rattle.command_endings.specs.declared.endings.Ending.TheVariants.{Positive, Negative, Refused, OutsideFault, NoMemory}
use Rattle.command_endings.specs.declared.endings.Refusal.{Refusal}
use Rattle.command_endings.specs.declared.endings.Refusal.TheVariants as refused
use Rattle.command_endings.specs.Endings.{status_of, refusal_status}
use Rattle.command_endings.specs.Far.{ReadsAll, ReadsFar, ReadsToGoal}
use Rattle.command_endings.specs.Formulas.{IsRefused, EndsAtFormula}
use Rattle.command_endings.specs.Replies.{Reply, refusing}
use Rattle.command_endings.specs.Streams.{Streams}
use Rattle.command_endings.specs.Tasks.{Task, Tells, Performs, Gives, Adds, AddsPrefix, HasFault, Counts, PutsAll}
use Rattle.command_endings.specs.Worlds.{Contents, World, IfNeeded, KeepsCounts, Gains}
use Rattle.command_endings.proofs.CallLemmas.{refused-few}

-- adding nothing
pub append-nothing : (held : Option (List ℕ)) → held ≡ append_known held []
append-nothing None = refl
append-nothing (Some xs) = ap Some (sym (append-nil xs))

if-needed : (b : Bool) (A : Type 0) → A → IfNeeded b A
if-needed true A a = a
if-needed false A a = tt

-- what isn't needed isn't asked for
pub not-needed : (b : Bool) (A : Type 0) → b ≡ false → IfNeeded b A
not-needed b A off = subst (λ c. IfNeeded c A) (sym off) tt

-- where no count rose, nothing is asked for of what streams
pub streams-kept : (replies : List ℕ → Reply → Type 0) (rest : List ℕ) (before after : World) → after.input_faults ≡ before.input_faults → after.output_faults ≡ before.output_faults → Streams replies rest before after
streams-kept replies rest before after reads puts = record { reads = λ rose. absurd (omega (arith, rose, reads)); puts = λ rose. absurd (omega (arith, rose, puts)) }

-- where there is no answer, nothing is asked for of how far the input was read
pub far-none : (reads to_end : Bool) (before after : World) (number : ℕ) → (number < 2 → ⊥) → ReadsFar reads to_end before after number
far-none reads to_end before after number none = record {
  whole = λ yes end few. absurd (none few);
  to_goal = λ yes end is. absurd (none (omega (arith, is)));
}

pub goal-none : (reads to_end : Bool) (replies : List ℕ → Reply → Type 0) (rest : List ℕ) (after : World) (number : ℕ) → (number < 2 → ⊥) → ReadsToGoal reads to_end replies rest after number
goal-none reads to_end replies rest after number none = λ yes end is. absurd (none (omega (arith, is)))

-- an input that was read to its end was read far enough for a command that reads it so
pub far-all : (before after : World) (number : ℕ) → ReadsAll before after → ReadsFar true true before after number
far-all before after number all = record { whole = λ yes end few. all; to_goal = λ yes end. cc }

adds-given : (replies : Reply → Type 0) (before after : World) (ending : Ending) → ending ≢ OutsideFault → Gives replies before after ending → Adds replies before after ending
adds-given replies before after Positive sound g = g
adds-given replies before after Negative sound g = g
adds-given replies before after (Refused r) sound g = g
adds-given replies before after OutsideFault sound g = absurd (sound refl)
adds-given replies before after NoMemory sound g = tt

counts-kept : (task : Task) (before after : World) (ending : Ending) → ending ≢ OutsideFault → KeepsCounts before after → Counts task before after ending
counts-kept task before after Positive sound k = k
counts-kept task before after Negative sound k = k
counts-kept task before after (Refused r) sound k = k
counts-kept task before after OutsideFault sound k = absurd (sound refl)
counts-kept task before after NoMemory sound k = k

no-answer-7 : 7 < 2 → ⊥
no-answer-7 few = omega (arith, few)

no-answer-8 : 8 < 2 → ⊥
no-answer-8 few = omega (arith, few)

module _ (task : Task) (before after : World) where
  -- a reply that holds was given, and no count rose
  pub replied : (ending : Ending) → ending ≢ OutsideFault
      → ((files : Contents) (rest : List ℕ) → Tells task before files rest → Gives (task.answers files rest) before after ending)
      → KeepsCounts before after → ReadsFar task.reads task.to_end before after (status_of ending)
      → ((files : Contents) (rest : List ℕ) → Tells task before files rest → before.left ≡ Some rest → ReadsToGoal task.reads task.to_end (task.answers files) rest after (status_of ending))
      → Performs task before after ending
  replied ending sound gives keeps far goal = record {
    adds = λ files rest tells. adds-given (task.answers files rest) before after ending sound (gives files rest tells);
    counts = counts-kept task before after ending sound keeps;
    gains = inl keeps.failed;
    far = far;
    at_goal = goal;
    streams = if-needed task.streams _ (λ files rest tells left. streams-kept (task.answers files) rest before after keeps.input_faults keeps.output_faults);
  }

  -- a refusal that adds nothing to the output, after which no count has risen
  pub refusal : (r : Refusal) → ((files : Contents) (rest : List ℕ) → Tells task before files rest → task.answers files rest (refusing r))
      → KeepsCounts before after → after.held ≡ before.held → Performs task before after (Refused r)
  refusal r asked keeps held = replied (Refused r) (λ e. cc)
      (λ files rest tells. record { reply = refusing r; asked = asked files rest tells; added = held ∙ append-nothing before.held; ends = refl })
      keeps (far-none task.reads task.to_end before after (refusal_status r) (refused-few r))
      (λ files rest tells left. goal-none task.reads task.to_end (task.answers files) rest after (refusal_status r) (refused-few r))

  -- want of memory, after which no count has risen
  pub no-memory : KeepsCounts before after → Performs task before after NoMemory
  no-memory keeps = record {
    adds = λ files rest tells. tt;
    counts = keeps;
    gains = inl keeps.failed;
    far = far-none task.reads task.to_end before after 8 no-answer-8;
    at_goal = λ files rest tells left. goal-none task.reads task.to_end (task.answers files) rest after 8 no-answer-8;
    streams = if-needed task.streams _ (λ files rest tells left. streams-kept (task.answers files) rest before after keeps.input_faults keeps.output_faults);
  }

  -- a fault of the outside, which has its cause
  pub failed : ((files : Contents) (rest : List ℕ) → Tells task before files rest → AddsPrefix (task.answers files rest) before after)
      → HasFault task before after → Gains task.file before.failed after.failed
      → IfNeeded task.streams ((files : Contents) (rest : List ℕ) → Tells task before files rest → before.left ≡ Some rest → Streams (task.answers files) rest before after)
      → Performs task before after OutsideFault
  failed adds cause gains streams = record {
    adds = adds;
    counts = cause;
    gains = gains;
    far = far-none task.reads task.to_end before after 7 no-answer-7;
    at_goal = λ files rest tells left. goal-none task.reads task.to_end (task.answers files) rest after 7 no-answer-7;
    streams = streams;
  }

  -- a formula that can't be read ends the run
  pub formula-ends : (dialect : Dialect) (text : List ℕ)
      → ((fault : FormFault) → IsRefused dialect text fault → (files : Contents) (rest : List ℕ) → task.answers files rest (refusing (refused.Formula fault)))
      → (ending : Ending) → EndsAtFormula dialect text ending → KeepsCounts before after → after.held ≡ before.held → Performs task before after ending
  formula-ends dialect text replying Positive e keeps held = absurd e
  formula-ends dialect text replying Negative e keeps held = absurd e
  formula-ends dialect text replying OutsideFault e keeps held = absurd e
  formula-ends dialect text replying NoMemory e keeps held = no-memory keeps
  formula-ends dialect text replying (Refused r) (fault, is, why) keeps held =
      refusal r (λ files rest tells. subst (λ q. task.answers files rest (refusing q)) (sym is) (replying fault why files rest)) keeps held

  -- the whole output of a command that doesn't write as it reads was put, or a part of it at a fault
  pub output-put : (text : List ℕ) (ending : Ending) → ending ≢ OutsideFault → task.streams ≡ false
      → ((files : Contents) (rest : List ℕ) → Tells task before files rest → task.answers files rest (record { output = text; ending = ending }))
      → after.input_faults ≡ before.input_faults → after.failed ≡ before.failed → ReadsFar task.reads task.to_end before after (status_of ending)
      → ((files : Contents) (rest : List ℕ) → Tells task before files rest → before.left ≡ Some rest → ReadsToGoal task.reads task.to_end (task.answers files) rest after (status_of ending))
      → (result : Ending) → PutsAll text ending before.held before.output_faults after.held after.output_faults result → Performs task before after result
  output-put text ending sound off asked reads same far goal result (inl (ended, added, puts)) =
      subst (Performs task before after) (sym ended) (replied ending sound
      (λ files rest tells. record { reply = record { output = text; ending = ending }; asked = asked files rest tells; added = added; ends = refl })
      (record { input_faults = reads; output_faults = puts; failed = same }) far goal)
  output-put text ending sound off asked reads same far goal result (inr (ended, part, rose)) =
      subst (Performs task before after) (sym ended) (failed
      (λ files rest tells. inr (record { output = text; ending = ending }, asked files rest tells, part.0, part.1))
      (inr (inl rose)) (inl same) (not-needed task.streams _ off))
