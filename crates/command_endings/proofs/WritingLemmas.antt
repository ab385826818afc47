-- What a command makes of its output, put together from its calls.
use Rattle.std.proofs.Common.{◌≡◌, ◌≢◌, ℕ, ◌<◌, inl, inr, List, [], sym, arith, false, ap, ◌∙◌}
use Rattle.command_endings.specs.declared.endings.Ending.{Ending}
use Rattle.command_endings.specs.Endings.{status_of}
use Rattle.command_endings.specs.Tasks.{Task, Tells, PutsAll}
use Rattle.command_endings.specs.Worlds.{Contents, World}
use Rattle.command_endings.specs.Writing.{Writes}
use Rattle.command_endings.proofs.CallLemmas.{PutsReply-put, PutsReply-none, PutsLines-none}

module _ {O : Type 0} (put : O → List ℕ → O → Type 0) (task : Task) (before after : World) (old new : O) where
  -- no call was made, and there is no answer
  pub writes-none : (number : ℕ) → new ≡ old → (number < 2 → ⊥) → Writes put task before after old new number
  writes-none number same none = record {
    silent = λ files rest tells due. same;
    nothing = λ is. same;
    unwritten = λ off rose. same;
    once = λ off. inl same;
    written = λ files rest tells off. PutsReply-none put (task.answers files rest) old new number same none;
    lines = λ on. PutsLines-none put old new same;
  }

  -- a whole output, which is not empty, was put in one call
  pub writes-reply : (text : List ℕ) (ending : Ending) (number : ℕ) → task.streams ≡ false
      → ((files : Contents) (rest : List ℕ) → Tells task before files rest → task.answers files rest (record { output = text; ending = ending }))
      → text ≢ [] → number ≢ 8 → after.input_faults ≡ before.input_faults → put old text new → Writes put task before after old new number
  writes-reply text ending number off asked some served reads call = record {
    silent = λ files rest tells due. absurd (some (due (record { output = text; ending = ending }) (asked files rest tells)));
    nothing = λ is. absurd (served is);
    unwritten = λ off rose. absurd (omega (arith, rose, reads));
    once = λ off. inr (text, call);
    written = λ files rest tells off. PutsReply-put put (task.answers files rest) old new number (record { output = text; ending = ending }, asked files rest tells, call);
    lines = λ on. cc;
  }

-- an output that was put is none that memory ran out at
pub put-served : (text : List ℕ) (ending : Ending) (before : World) (after : World) (result : Ending) → status_of ending ≢ 8
    → PutsAll text ending before.held before.output_faults after.held after.output_faults result → status_of result ≢ 8
put-served text ending before after result served (inl p) is = served (ap status_of (sym p.0) ∙ is)
put-served text ending before after result served (inr p) is = let e : status_of result ≡ 7 = ap status_of p.0 in omega (arith, e, is)
