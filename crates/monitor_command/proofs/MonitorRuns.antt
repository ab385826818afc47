-- What a run of `monitor` does, by what its last call answered.
use Rattle.std.proofs.Common.{◌≡◌, ◌≢◌, ℕ, inl, inr, List, [], length, take, true, arith, sym, refl, subst, Option, Some, None, Result, Ok, Err}
use Rattle.std.specs.Io.KnownBytes.{append_known}
use Rattle.bes_io.specs.Causes.{Rose}
use Rattle.bes_io.specs.Reader.{Reader, input}
use Rattle.forms.specs.Word.{Claim}
use Rattle.diagrams.specs.Eval.{Diagrams}
use Rattle.monitor.specs.declared.verdict.Verdict.{Verdict}
use Rattle.monitor.specs.declared.verdict.Verdict.TheVariants.{PermTrue, PermFalse, TempTrue, TempFalse}
use Rattle.monitor.specs.Verdicts.{verdict_of}
use Rattle.monitor.specs.Configuration.{Configuration, IsReady, IsVerdictAfter}
use Rattle.command_endings.specs.declared.endings.Ending.{Ending}
use Rattle.command_endings.specs.declared.endings.Ending.TheVariants.{Positive, Negative, Refused, OutsideFault, NoMemory}
use Rattle.command_endings.specs.Endings.{status_of, refusal_status, IsUnread}
use Rattle.command_endings.specs.Tasks.{Performs}
use Rattle.command_endings.specs.Worlds.{World}
use Rattle.command_endings.proofs.CallLemmas.{refusal-status, refused-few}
use Rattle.command_endings.proofs.Performing.{replied, failed, far-all, far-none}
use Rattle.command_endings.proofs.ReadingLemmas.{late}
use Rattle.input_letters.specs.Letters.{FoundLetter, NextLetter, HasTraceCause}
use Rattle.monitor_command.specs.Monitoring.{verdict_line, IsMonitored, monitored_task}
use Rattle.monitor_command.specs.OpenedMonitor.{ending_after}
use Rattle.monitor_command.proofs.MonitorLines.{Monitored}
use Rattle.monitor_command.proofs.MonitorEnds.{ends-well, ends-at, ends-refused, fails-reading, stops-reading, fails-writing, stops-writing}
use Rattle.monitor_command.proofs.MonitorLemmas.{streams-read, streams-put}

-- the last verdict's ending is that of an answer, or of an input with no event
pub late-after : (last : Option Verdict) → ¬ IsUnread (status_of (ending_after last))
late-after None u = not-4 u where
  not-4 : ¬ IsUnread 4
  not-4 (inl e) = omega (arith, e)
  not-4 (inr (inl e)) = omega (arith, e)
  not-4 (inr (inr (inl e))) = omega (arith, e)
  not-4 (inr (inr (inr e))) = omega (arith, e)
late-after (Some PermTrue) u = late 0 (inl (omega arith)) u
late-after (Some PermFalse) u = late 1 (inl (omega arith)) u
late-after (Some TempTrue) u = late 0 (inl (omega arith)) u
late-after (Some TempFalse) u = late 1 (inl (omega arith)) u

no-fault-after : (last : Option Verdict) → ending_after last ≢ OutsideFault
no-fault-after None e = cc
no-fault-after (Some PermTrue) e = cc
no-fault-after (Some PermFalse) e = cc
no-fault-after (Some TempTrue) e = cc
no-fault-after (Some TempFalse) e = cc

-- only want of memory has its status
pub served-status : (ending : Ending) → ending ≢ NoMemory → status_of ending ≢ 8
served-status Positive some e = let is : 0 ≡ 8 = e in omega (arith, is)
served-status Negative some e = let is : 1 ≡ 8 = e in omega (arith, is)
served-status (Refused r) some e = let s = refusal-status r in omega (arith, s.1, e)
served-status OutsideFault some e = let is : 7 ≡ 8 = e in omega (arith, is)
served-status NoMemory some e = some refl

module _ (s : Diagrams) (names : List (List ℕ)) (f : Claim) (before after : World) (reader new : Reader) (left : Option (List ℕ)) (m : Configuration) (n : ℕ)
    (last : Option Verdict) (held : Option (List ℕ)) (r : Result (Option ℕ) Ending)
    (told : (rest : List ℕ) → before.left ≡ Some rest → Monitored s names f rest before.held reader left m n last held)
    (tells : (bytes : List ℕ) → input reader left ≡ Some bytes → NextLetter names n reader bytes r new after.left)
    (same : after.failed ≡ before.failed) where
  -- what a run of `monitor` does that ends so
  abbrev pub Runs : Ending → Type 0
  Runs ending = Performs (monitored_task names f) before after ending

  answered : (q : Result (Option ℕ) Ending) → r ≡ q → (bytes : List ℕ) → input reader left ≡ Some bytes → NextLetter names n reader bytes q new after.left
  answered q e bytes is = subst (λ q. NextLetter names n reader bytes q new after.left) e (tells bytes is)

  -- the input ended
  pub run-ends : r ≡ Ok None → after.input_faults ≡ before.input_faults → after.output_faults ≡ before.output_faults → after.held ≡ held → (ending : Ending) → ending ≡ ending_after last → Runs ending
  run-ends e reads puts kept ending is = subst Runs (sym is) (replied (monitored_task names f) before after (ending_after last) (no-fault-after last)
      (λ files rest tells. let w = told rest (tells.told_input tt) in ends-well s names f rest before after reader new left m n last held w (answered (Ok None) e w.bytes w.input_left) kept)
      (record { input_faults = reads; output_faults = puts; failed = same })
      (far-all before after (status_of (ending_after last)) (λ rest t. let w = told rest t in ends-at s names f rest before after reader new left m n last held w (answered (Ok None) e w.bytes w.input_left)))
      (λ files rest tells left on off. cc))

  module _ (ready : IsReady s m) (props : s.props ≡ length names) (puts : after.output_faults ≡ before.output_faults) (kept : after.held ≡ held) where
    -- the next line was refused, or the source failed, and then what is due for its whole lines was put
    pub run-stops : (ending : Ending) → r ≡ Err ending → HasTraceCause {T = List ℕ} before.input_faults after.input_faults (Err ending) → ending ≢ NoMemory → Runs ending
    run-stops Positive e cause memory = absurd cause
    run-stops Negative e cause memory = absurd cause
    run-stops NoMemory e cause memory = absurd (memory refl)
    run-stops (Refused x) e cause memory =
        replied (monitored_task names f) before after (Refused x) (λ e. cc)
        (λ files rest tells. let w = told rest (tells.told_input tt) in ends-refused s names f rest before after reader new left m n last held w x (answered (Err (Refused x)) e w.bytes w.input_left) kept)
        (record { input_faults = cause; output_faults = puts; failed = same }) (far-none true true before after (refusal_status x) (refused-few x)) (λ files rest tells left on off. cc)
    run-stops OutsideFault e cause memory =
        failed (monitored_task names f) before after
        (λ files rest tells. fails-reading s names f rest before after reader new left m n last held (told rest (tells.told_input tt)) ready props kept) (inl (tt, cause)) (inl same)
        (λ files rest tells known. let w = told rest known in
        streams-read (IsMonitored names f) rest before after puts
        (stops-reading s names f rest before after reader new left m n last held w ready props (answered (Err OutsideFault) e w.bytes w.input_left) kept))

  module _ (ready : IsReady s m) (props : s.props ≡ length names) (letter : ℕ) (e : r ≡ Ok (Some letter)) (v : Verdict) (verdict : IsVerdictAfter s m letter (verdict_of v))
      (put : (k : ℕ) × (after.held ≡ append_known held (take k (verdict_line (verdict_of v))))) where
    found-letter : (rest : List ℕ) (t : before.left ≡ Some rest) → FoundLetter names reader (told rest t).bytes letter new after.left
    found-letter rest t = answered (Ok (Some letter)) e (told rest t).bytes (told rest t).input_left

    -- the sink failed at one line
    pub run-unheard : Rose before.output_faults after.output_faults → after.input_faults ≡ before.input_faults → Runs OutsideFault
    run-unheard rose reads =
        failed (monitored_task names f) before after
        (λ files rest tells. let t = tells.told_input tt in
        fails-writing s names f rest before after reader new left m n last held (told rest t) ready props letter (found-letter rest t) v verdict put.0 put.1)
        (inr (inl rose)) (inl same)
        (λ files rest tells t. streams-put (IsMonitored names f) rest before after reads
        (stops-writing s names f rest before after reader new left m n last held (told rest t) ready props letter (found-letter rest t) v verdict put.0 put.1))
