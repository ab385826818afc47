-- What the command does, put together from its parts.
use Rattle.std.proofs.Common.{◌≡◌, ◌≢◌, ◌<◌, ℕ, List, [], Option, Some, None, Err, Bool, true, false, inl, inr, refl, sym, ◌∙◌, ap, subst, arith, lit≤}
use Rattle.std.specs.Io.KnownBytes.{append_known}
use Rattle.game.specs.Board.{Partition}
use Rattle.game.specs.Marks.{Mark}
use Rattle.printed_strategy.specs.Strategy.{Strategy, Choice}
use Rattle.printed_strategy.specs.StrategyText.{strategy_text}
use Rattle.printed_strategy.proofs.HeadlineLemmas.{keeps_promises, following-promised}
use Rattle.printed_strategy.proofs.OnePrinted.{only_printed}
use Rattle.spec_reader.specs.Specification.{Specification, IsSpecificationOf}
use Rattle.synthesis.specs.declared.fault.SynthesisFault.{SynthesisFault}
use Rattle.synthesis.specs.declared.fault.SynthesisFault.TheVariants as unsolved
use Rattle.synthesis.specs.Formulas.{HasCause}
use Rattle.command_endings.specs.declared.endings.Ending.{Ending}
use Rattle.command_endings.specs.declared.endings.Ending.TheVariants.{Positive, Negative, Refused, OutsideFault, NoMemory}
use Rattle.command_endings.specs.declared.endings.Refusal.{Refusal}
use Rattle.command_endings.specs.declared.endings.Refusal.TheVariants as refusals
use Rattle.command_endings.specs.Endings.{status_of}
use Rattle.command_endings.specs.Replies.{refusing}
use Rattle.command_endings.specs.Tasks.{Tells, Performs, PutsAll}
use Rattle.command_endings.specs.Worlds.{Contents, world}
use Rattle.command_endings.proofs.CallLemmas.{refused-few}
use Rattle.command_endings.proofs.Performing.{refusal, no-memory, failed, output-put}
use Rattle.synth_command.specs.Synthesis.{aims_of, asked_of, fault_ending, concern_of, verdict_ending, SynthAnswers, refused, too_many, breakable, synthesised, synth_task, FileHolds, ReadsTo, FailsSo, EndsUnsolved, IsText}
use Rattle.synth_command.specs.Promised.{PrintsStrategy}

-- a verdict is an answer
pub verdict-few : (verdict : Option ℕ) → status_of (verdict_ending verdict) < 2
verdict-few None = lit≤ tt
verdict-few (Some n) = lit≤ tt

text-some-of : (names : List (List ℕ)) (parts : Partition) (duty : Bool) (verdict : Option ℕ) (size : ℕ) (mark : ℕ → Mark) (target : ℕ → ℕ → Option ℕ) (choice : ℕ → ℕ → Option Choice)
    (answers : ℕ → Option (ℕ → ℕ))
    → strategy_text names (record { parts = parts; has_duty = duty; verdict = verdict; size = size; mark = mark; target = target; choice = choice; answers = answers }) ≡ [] → ⊥
unfolding strategy_text
text-some-of names parts false verdict size mark target choice answers e = cc
text-some-of names parts true verdict size mark target choice answers e = cc

-- the text of a strategy is not empty
pub text-some : (names : List (List ℕ)) (t : Strategy) → strategy_text names t ≡ [] → ⊥
text-some names t e = text-some-of names t.parts t.has_duty t.verdict t.size t.mark t.target t.choice t.answers e

-- why formulas have no strategy is how the run ends
pub cause-ends : (spec : Specification) (fault : SynthesisFault) → HasCause spec.limit spec.partition (asked_of spec) fault → EndsUnsolved spec (fault_ending spec.limit fault)
cause-ends spec (unsolved.TooMany role part count) h = (role, refl, refl, h)
cause-ends spec (unsolved.Unkeepable rounds) h = h
cause-ends spec unsolved.Memory h = tt

-- an ending without an answer
pub unread-few : (told : Option Contents) (name : List ℕ) (ending : Ending) → ReadsTo told name ending → status_of ending < 2 → ⊥
unread-few told name Positive is few = is
unread-few told name Negative is few = is
unread-few told name (Refused r) is few = refused-few r few
unread-few told name OutsideFault is few = let l : 7 < 2 = few in omega (arith, l)
unread-few told name NoMemory is few = let l : 8 < 2 = few in omega (arith, l)

pub unsolved-few : (spec : Specification) (ending : Ending) → EndsUnsolved spec ending → status_of ending < 2 → ⊥
unsolved-few spec Positive is few = is
unsolved-few spec Negative is few = is
unsolved-few spec (Refused r) is few = refused-few r few
unsolved-few spec OutsideFault is few = let l : 7 < 2 = few in omega (arith, l)
unsolved-few spec NoMemory is few = let l : 8 < 2 = few in omega (arith, l)

verdict-sound : (verdict : Option ℕ) → verdict_ending verdict ≢ OutsideFault
verdict-sound None e = cc
verdict-sound (Some n) e = cc

verdict-served : (verdict : Option ℕ) → status_of (verdict_ending verdict) ≢ 8
verdict-served None e = let l : 1 ≡ 8 = e in omega (arith, l)
verdict-served (Some n) e = let l : 0 ≡ 8 = e in omega (arith, l)

pub text-sound : (spec : Specification) (text : List ℕ) (ending : Ending) → IsText spec text ending → ending ≢ OutsideFault
text-sound spec text ending is e = verdict-sound is.strategy.verdict (sym is.ends ∙ e)

-- the text is not empty
pub text-given : (spec : Specification) (text : List ℕ) (ending : Ending) → IsText spec text ending → text ≡ [] → ⊥
text-given spec text ending is e = text-some spec.names is.strategy (sym is.whole ∙ e)

pub text-served : (spec : Specification) (text : List ℕ) (ending : Ending) → IsText spec text ending → status_of ending ≢ 8
text-served spec text ending is e = verdict-served is.strategy.verdict (sym (ap status_of is.ends) ∙ e)

module _ (name : List ℕ) (told : Option Contents) (failed_before : List (List ℕ)) (left : Option (List ℕ)) (reads : ℕ) (held : Option (List ℕ)) (puts : ℕ) where
  -- a run that reads no specification
  pub unread-performs : (ending : Ending) → ReadsTo told name ending → (told_after : Option Contents) (failed_after : List (List ℕ)) → FailsSo (Err ending) failed_before name failed_after
      → Performs (synth_task name) (world told failed_before left reads held puts) (world told_after failed_after left reads held puts) ending
  unread-performs Positive is told_after failed_after so = absurd is
  unread-performs Negative is told_after failed_after so = absurd is
  unread-performs NoMemory is told_after failed_after so =
      no-memory (synth_task name) (world told failed_before left reads held puts) (world told_after failed_after left reads held puts)
      (record { input_faults = refl; output_faults = refl; failed = so })
  unread-performs OutsideFault is told_after failed_after so =
      failed (synth_task name) (world told failed_before left reads held puts) (world told_after failed_after left reads held puts)
      (λ files rest tells. inl refl) (inr (inr so)) (inr so) tt
  unread-performs (Refused r) (why, same, holds) told_after failed_after so =
      refusal (synth_task name) (world told failed_before left reads held puts) (world told_after failed_after left reads held puts) r
      (λ files rest tells.
      let f = holds files tells.told_files in
      (f.0, f.1, subst (λ q. SynthAnswers f.0 (refusing q)) (sym same) (refused f.2)))
      (record { input_faults = refl; output_faults = refl; failed = so }) refl

  module _ (spec : Specification) (found : FileHolds told name (λ bytes. IsSpecificationOf bytes spec)) (told_after : Option Contents) (failed_after : List (List ℕ)) (so : failed_after ≡ failed_before) where
    answered : (r : Refusal) → ((bytes : List ℕ) → IsSpecificationOf bytes spec → SynthAnswers bytes (refusing r)) → (files : Contents) (rest : List ℕ)
        → Tells (synth_task name) (world told failed_before left reads held puts) files rest → (synth_task name).answers files rest (refusing r)
    answered r asked files rest tells = let f = found files tells.told_files in (f.0, f.1, asked f.0 f.2)

    -- a specification without a strategy
    pub unsolved-performs : (ending : Ending) → EndsUnsolved spec ending
        → Performs (synth_task name) (world told failed_before left reads held puts) (world told_after failed_after left reads held puts) ending
    unsolved-performs Positive is = absurd is
    unsolved-performs Negative is = absurd is
    unsolved-performs OutsideFault is = absurd is
    unsolved-performs NoMemory is =
        no-memory (synth_task name) (world told failed_before left reads held puts) (world told_after failed_after left reads held puts)
        (record { input_faults = refl; output_faults = refl; failed = so })
    unsolved-performs (Refused (refusals.TooMany c part count limit)) (role, named, same, first) =
        refusal (synth_task name) (world told failed_before left reads held puts) (world told_after failed_after left reads held puts) (refusals.TooMany c part count limit)
        (answered (refusals.TooMany c part count limit)
        (λ bytes is. subst (λ z. SynthAnswers bytes (refusing (refusals.TooMany z part count limit))) (sym named)
        (subst (λ z. SynthAnswers bytes (refusing (refusals.TooMany (concern_of role) part count z))) (sym same) (too_many spec role part count is first))))
        (record { input_faults = refl; output_faults = refl; failed = so }) refl
    unsolved-performs (Refused (refusals.Breakable rounds)) (within, least) =
        refusal (synth_task name) (world told failed_before left reads held puts) (world told_after failed_after left reads held puts) (refusals.Breakable rounds)
        (answered (refusals.Breakable rounds) (λ bytes is. breakable spec is within least))
        (record { input_faults = refl; output_faults = refl; failed = so }) refl
    unsolved-performs (Refused refusals.Usage) is = absurd is
    unsolved-performs (Refused (refusals.Formula fault)) is = absurd is
    unsolved-performs (Refused (refusals.Specification fault)) is = absurd is
    unsolved-performs (Refused refusals.NoEvent) is = absurd is
    unsolved-performs (Refused (refusals.Event line fault)) is = absurd is
    unsolved-performs (Refused (refusals.NotLegal line)) is = absurd is
    unsolved-performs (Refused (refusals.LineTooLong line)) is = absurd is
    unsolved-performs (Refused (refusals.InputTooLong line)) is = absurd is

    -- the text of a strategy is what is asked for
    pub text-asked : (text : List ℕ) (ending : Ending) → IsText spec text ending → (files : Contents) (rest : List ℕ)
        → Tells (synth_task name) (world told failed_before left reads held puts) files rest → (synth_task name).answers files rest (record { output = text; ending = ending })
    text-asked text ending is files rest tells =
        let f = found files tells.told_files in (
          f.0,
          f.1,
          subst (λ z. SynthAnswers f.0 (record { output = z; ending = ending })) (sym is.whole)
              (subst (λ z. SynthAnswers f.0 (record { output = strategy_text spec.names is.strategy; ending = z })) (sym is.ends)
              (synthesised spec is.strategy f.2 is.within is.kept is.printed)),
        )

    -- and is put
    pub text-performs : (text : List ℕ) (ending : Ending) → IsText spec text ending → (held_after : Option (List ℕ)) (puts_after : ℕ) (result : Ending)
        → PutsAll text ending held puts held_after puts_after result
        → Performs (synth_task name) (world told failed_before left reads held puts) (world told_after failed_after left reads held_after puts_after) result
    text-performs text ending is held_after puts_after result put =
        output-put (synth_task name) (world told failed_before left reads held puts) (world told_after failed_after left reads held_after puts_after) text ending
        (text-sound spec text ending is) refl (text-asked text ending is) refl so
        (record { whole = λ on. cc; to_goal = λ on. cc }) (λ files rest tells known on. cc) result put

    -- the headline
    pub text-promised : (text : List ℕ) (ending : Ending) → IsText spec text ending → (held_after : Option (List ℕ)) (puts_after : ℕ) (result : Ending)
        → PutsAll text ending held puts held_after puts_after result → status_of result < 2
        → FileHolds told name (λ bytes. PrintsStrategy bytes held held_after (status_of result))
    text-promised text ending is held_after puts_after result (inl (ended, added, kept)) few contents tells =
        let f = found contents tells in
        let promised = keeps_promises (aims_of spec) is.strategy is.printed is.kept in (
          f.0,
          f.1,
          record {
            specification = spec;
            read = f.2;
            within = is.within;
            kept = is.kept;
            strategy = is.strategy;
            printed = is.printed;
            only = only_printed (aims_of spec) is.strategy is.printed;
            added = added ∙ ap (append_known held) is.whole;
            reached = following-promised (aims_of spec) is.strategy promised;
            keeps = promised;
            few = is.few;
            status = ap status_of (ended ∙ is.ends);
          },
        )
    text-promised text ending is held_after puts_after result (inr (ended, part, rose)) few contents tells =
        let l : status_of result ≡ 7 = ap status_of ended in absurd (omega (arith, l, few))
