-- What a run leaves, by what its command did and how it ended.
use Rattle.std.proofs.Common.{◌≡◌, ◌≢◌, ◌<◌, ◌⊎◌, arith, ℕ, inl, inr, List, [], length, sym, refl, ◌∙◌, ap, subst, Option}
use Rattle.std.proofs.Math.Seq.{take-length}
use Rattle.std.specs.Io.KnownBytes.{append_known}
use Rattle.command_endings.specs.declared.endings.Ending.{Ending}
use Rattle.command_endings.specs.declared.endings.Ending.TheVariants.{Positive, Negative, Refused, OutsideFault, NoMemory}
use Rattle.command_endings.specs.declared.endings.Refusal.{Refusal}
use Rattle.command_endings.specs.Calls.{Asks}
use Rattle.command_endings.specs.Endings.{status_of, message_of, refusal_status}
use Rattle.command_endings.specs.Far.{ReadsFar, ReadsToGoal}
use Rattle.command_endings.specs.Reading.{Reads}
use Rattle.command_endings.specs.Replies.{Reply}
use Rattle.command_endings.specs.Runs.{Told, Finishes}
use Rattle.command_endings.specs.Tasks.{Task, Performs, Gives, AddsPrefix}
use Rattle.command_endings.specs.Worlds.{World}
use Rattle.command_endings.specs.Writing.{Writes}
use Rattle.command_endings.proofs.CallLemmas.{refusal-status, refused-few}
use Rattle.command_endings.proofs.Performing.{far-none, goal-none}
use Rattle.command_endings.proofs.ReadingLemmas.{late}
use Rattle.bes_suite.specs.declared.commands.Command.{Command}
use Rattle.bes_suite.specs.Commands.{command_of}
use Rattle.bes_suite.specs.Asked.{task_as, task_of}
use Rattle.bes_suite.specs.Results.{Gave, IsAnswered, IsComplete, HasFaultCause, CountsStand, IsPartial, PutsMessage, PutsMessages, IsReadSoFar}
use Rattle.bes_suite.proofs.Unique.{AnswersAll}

-- what is said of a command's task is said of that of the words
pub as-asked : (Says : Task → Type 0) (words : List (List ℕ)) (command : Command) → command ≡ command_of words → Says (task_as command words) → Says (task_of words)
as-asked Says words command is = subst (λ c. Says (task_as command words) → Says (task_as c words)) is (λ s. s)

-- the status is the ending's, or that of a fault
pub number-is : (ending : Ending) (err told : Option (List ℕ)) (was now number : ℕ) → Finishes ending err was told now number → (number ≡ status_of ending) ⊎ (number ≡ 7)
number-is ending err told was now number (inl t) = inl t.status
number-is Positive err told was now number (inr u) = inr u.status
number-is Negative err told was now number (inr u) = inr u.status
number-is (Refused r) err told was now number (inr u) = inr u.status
number-is OutsideFault err told was now number (inr u) = inr u.status
number-is NoMemory err told was now number (inr u) = inl u.status

-- the status of an answer is the ending's
pub answer-is : (ending : Ending) (err told : Option (List ℕ)) (was now number : ℕ) → Finishes ending err was told now number → number < 2 → number ≡ status_of ending
answer-is ending err told was now number f few = elim (number-is ending err told was now number f) [ inl is ↦ is | inr is ↦ absurd (omega (arith, is, few)) ]

-- what a command makes of its output is what the run makes of it
pub writes-run : {O : Type 0} (put : O → List ℕ → O → Type 0) (task : Task) (before after : World) (old new : O) (number status : ℕ)
    → (number ≡ status) ⊎ (number ≡ 7) → Writes put task before after old new status → Writes put task before after old new number
writes-run put task before after old new number status (inl is) w = subst (Writes put task before after old new) (sym is) w
writes-run put task before after old new number status (inr is) w = record {
  silent = w.silent;
  nothing = λ e. absurd (omega (arith, is, e));
  unwritten = w.unwritten;
  once = w.once;
  written = λ files rest tells off. record { once = (w.written files rest tells off).once; answered = λ few. absurd (omega (arith, is, few)) };
  lines = w.lines;
}

-- and of its input
pub reads-run : {S : Type 0} (faults : S → ℕ) (taken : S → ℕ → List ℕ → S → Type 0) (task : Task) (before : World) (old new : S) (number status : ℕ)
    → (number ≡ status) ⊎ (number ≡ 7) → Reads faults taken task before old new status → Reads faults taken task before old new number
reads-run faults taken task before old new number status (inl is) r = subst (Reads faults taken task before old new) (sym is) r
reads-run faults taken task before old new number status (inr is) r = record {
  never = r.never;
  unread = r.unread;
  untouched = λ u. absurd (late number (inr (omega (arith, is))) u);
  early = λ files told u. absurd (late number (inr (omega (arith, is))) u);
  asked_in_turn = r.asked_in_turn;
  served = λ on e. absurd (omega (arith, is, e));
}

-- and how far it read
pub far-run : (task : Task) (before after : World) (ending : Ending) (number : ℕ) → (number ≡ status_of ending) ⊎ (number ≡ 7)
    → Performs task before after ending → IsReadSoFar task before after number
far-run task before after ending number (inl is) p = record {
  answered = subst (ReadsFar task.reads task.to_end before after) (sym is) p.far;
  at_goal = λ files rest tells left. subst (ReadsToGoal task.reads task.to_end (task.answers files) rest after) (sym is) (p.at_goal files rest tells left);
}
far-run task before after ending number (inr is) p = record {
  answered = far-none task.reads task.to_end before after number (λ few. omega (arith, is, few));
  at_goal = λ files rest tells left. goal-none task.reads task.to_end (task.answers files) rest after number (λ few. omega (arith, is, few));
}

module _ (task : Task) (before after : World) (err told : Option (List ℕ)) (was now number : ℕ) where
  gave : (replies : Reply → Type 0) (ending : Ending) → Gives replies before after ending → Told ending err was told now number → Gave replies before after err told number
  gave replies ending c t = record {
    reply = c.reply;
    asked = c.asked;
    status = t.status ∙ ap status_of c.ends;
    output = c.added;
    message = t.text ∙ ap (λ e. append_known err (message_of e)) c.ends;
  }

  refused-7 : (r : Refusal) → Told (Refused r) err was told now number → number ≡ 7 → ⊥
  refused-7 r t e = let s = refusal-status r in let u : number ≡ refusal_status r = t.status in omega (arith, s.1)

  refused-8 : (r : Refusal) → Told (Refused r) err was told now number → number ≡ 8 → ⊥
  refused-8 r t e = let s = refusal-status r in let u : number ≡ refusal_status r = t.status in omega (arith, s.1)

  -- each status but 7 and 8 is that of what was asked for
  pub answers : (ending : Ending) → Performs task before after ending → Finishes ending err was told now number → IsAnswered task before after err told number
  answers Positive p (inl t) files rest tells n7 n8 = gave _ Positive (p.adds files rest tells) t
  answers Positive p (inr u) files rest tells n7 n8 = absurd (u.some refl)
  answers Negative p (inl t) files rest tells n7 n8 = gave _ Negative (p.adds files rest tells) t
  answers Negative p (inr u) files rest tells n7 n8 = absurd (u.some refl)
  answers (Refused r) p (inl t) files rest tells n7 n8 = gave _ (Refused r) (p.adds files rest tells) t
  answers (Refused r) p (inr u) files rest tells n7 n8 = absurd (n7 u.status)
  answers OutsideFault p (inl t) files rest tells n7 n8 = absurd (n7 t.status)
  answers OutsideFault p (inr u) files rest tells n7 n8 = absurd (n7 u.status)
  answers NoMemory p (inl t) files rest tells n7 n8 = absurd (n8 t.status)
  answers NoMemory p (inr u) files rest tells n7 n8 = absurd (n8 u.status)

  few-0 : number ≡ 0 → number < 2
  few-0 is = omega (arith, is)

  few-1 : number ≡ 1 → number < 2
  few-1 is = omega (arith, is)

  -- what is accepted is answered
  pub complete : (ending : Ending) → AnswersAll task → Performs task before after ending → Finishes ending err was told now number → IsComplete task before after err told was now number
  complete Positive all p (inl t) files rest tells accepted sound heard = inr (few-0 t.status, gave _ Positive (p.adds files rest tells) t)
  complete Positive all p (inr u) files rest tells accepted sound heard = absurd (u.some refl)
  complete Negative all p (inl t) files rest tells accepted sound heard = inr (few-1 t.status, gave _ Negative (p.adds files rest tells) t)
  complete Negative all p (inr u) files rest tells accepted sound heard = absurd (u.some refl)
  complete (Refused r) all p f files rest tells accepted sound heard =
      let a = p.adds files rest tells in absurd (refused-few r (subst (λ e. status_of e < 2) (sym a.ends) (all files rest a.reply accepted a.asked)))
  complete OutsideFault all p f files rest tells accepted sound heard = absurd (sound p.counts)
  complete NoMemory all p (inl t) files rest tells accepted sound heard = inl t.status
  complete NoMemory all p (inr u) files rest tells accepted sound heard = inl u.status

  -- status 7 has its cause
  pub fault-cause : (ending : Ending) → Performs task before after ending → Finishes ending err was told now number → HasFaultCause task before after was now number
  fault-cause Positive p (inl t) = record { cause = λ e. absurd (omega (arith, e, t.status)); heard = λ files rest tells e. absurd (omega (arith, e, t.status)) }
  fault-cause Positive p (inr u) = absurd (u.some refl)
  fault-cause Negative p (inl t) = record { cause = λ e. absurd (omega (arith, e, t.status)); heard = λ files rest tells e. absurd (omega (arith, e, t.status)) }
  fault-cause Negative p (inr u) = absurd (u.some refl)
  fault-cause (Refused r) p (inl t) = record { cause = λ e. absurd (refused-7 r t e); heard = λ files rest tells e. absurd (refused-7 r t e) }
  fault-cause (Refused r) p (inr u) = record {
    cause = λ e. inr u.rose;
    heard = λ files rest tells e. let a = p.adds files rest tells in inr (u.rose, (a.reply, a.asked, subst (λ q. message_of q ≢ []) a.ends u.some));
  }
  fault-cause OutsideFault p f = record { cause = λ e. inl p.counts; heard = λ files rest tells e. inl p.counts }
  fault-cause NoMemory p (inl t) = record { cause = λ e. absurd (omega (arith, e, t.status)); heard = λ files rest tells e. absurd (omega (arith, e, t.status)) }
  fault-cause NoMemory p (inr u) = record { cause = λ e. absurd (omega (arith, e, u.status)); heard = λ files rest tells e. absurd (omega (arith, e, u.status)) }

  kept : (ending : Ending) → Finishes ending err was told now number → number ≢ 7 → number ≢ 8 → now ≡ was
  kept ending (inl t) n7 n8 = t.faults
  kept Positive (inr u) n7 n8 = absurd (n7 u.status)
  kept Negative (inr u) n7 n8 = absurd (n7 u.status)
  kept (Refused r) (inr u) n7 n8 = absurd (n7 u.status)
  kept OutsideFault (inr u) n7 n8 = absurd (n7 u.status)
  kept NoMemory (inr u) n7 n8 = absurd (n8 u.status)

  fault-told : Finishes OutsideFault err was told now number → number ≡ 7
  fault-told (inl t) = t.status
  fault-told (inr u) = u.status

  -- no count rose but at its status
  pub counts-stand : (ending : Ending) → Performs task before after ending → Finishes ending err was told now number → CountsStand before after was now number
  counts-stand Positive p f = record { outside = λ n7. p.counts; messages = kept Positive f }
  counts-stand Negative p f = record { outside = λ n7. p.counts; messages = kept Negative f }
  counts-stand (Refused r) p f = record { outside = λ n7. p.counts; messages = kept (Refused r) f }
  counts-stand OutsideFault p f = record { outside = λ n7. absurd (n7 (fault-told f)); messages = kept OutsideFault f }
  counts-stand NoMemory p f = record { outside = λ n7. p.counts; messages = kept NoMemory f }

  broken : (replies : Reply → Type 0) (ending : Ending) → Gives replies before after ending → AddsPrefix replies before after
  broken replies ending c = inr (c.reply, c.asked, length c.reply.output, c.added ∙ ap (append_known before.held) (sym (take-length c.reply.output)))

  -- at status 7 a prefix of an output was added
  pub partly : (ending : Ending) → Performs task before after ending → Finishes ending err was told now number → IsPartial task before after number
  partly Positive p f files rest tells e = broken _ Positive (p.adds files rest tells)
  partly Negative p f files rest tells e = broken _ Negative (p.adds files rest tells)
  partly (Refused r) p f files rest tells e = broken _ (Refused r) (p.adds files rest tells)
  partly OutsideFault p f files rest tells e = p.adds files rest tells
  partly NoMemory p (inl t) files rest tells e = absurd (omega (arith, e, t.status))
  partly NoMemory p (inr u) files rest tells e = absurd (omega (arith, e, u.status))

  message-7 : (ending : Ending) → Finishes ending err was told now number → number ≡ 7 → PutsMessage OutsideFault err told was now
  message-7 Positive (inl t) e = absurd (omega (arith, e, t.status))
  message-7 Positive (inr u) e = absurd (u.some refl)
  message-7 Negative (inl t) e = absurd (omega (arith, e, t.status))
  message-7 Negative (inr u) e = absurd (u.some refl)
  message-7 (Refused r) (inl t) e = absurd (refused-7 r t e)
  message-7 (Refused r) (inr u) e = inr (u.rose, (Refused r, u.part.0, u.part.1))
  message-7 OutsideFault (inl t) e = inl t.text
  message-7 OutsideFault (inr u) e = inr (u.rose, (OutsideFault, u.part.0, u.part.1))
  message-7 NoMemory (inl t) e = absurd (omega (arith, e, t.status))
  message-7 NoMemory (inr u) e = absurd (omega (arith, e, u.status))

  message-8 : (ending : Ending) → Finishes ending err was told now number → number ≡ 8 → PutsMessage NoMemory err told was now
  message-8 Positive (inl t) e = absurd (omega (arith, e, t.status))
  message-8 Positive (inr u) e = absurd (u.some refl)
  message-8 Negative (inl t) e = absurd (omega (arith, e, t.status))
  message-8 Negative (inr u) e = absurd (u.some refl)
  message-8 (Refused r) (inl t) e = absurd (refused-8 r t e)
  message-8 (Refused r) (inr u) e = absurd (omega (arith, e, u.status))
  message-8 OutsideFault (inl t) e = absurd (omega (arith, e, t.status))
  message-8 OutsideFault (inr u) e = absurd (omega (arith, e, u.status))
  message-8 NoMemory (inl t) e = inl t.text
  message-8 NoMemory (inr u) e = inr (u.rose, (NoMemory, u.part.0, u.part.1))

  silent : (ending : Ending) → Finishes ending err was told now number → number < 2 → message_of ending ≡ []
  silent Positive f few = refl
  silent Negative f few = refl
  silent (Refused r) (inl t) few = absurd (refused-few r (subst (λ n. n < 2) t.status few))
  silent (Refused r) (inr u) few = absurd (omega (arith, few, u.status))
  silent OutsideFault f few = let e = fault-told f in absurd (omega (arith, few, e))
  silent NoMemory (inl t) few = absurd (omega (arith, few, t.status))
  silent NoMemory (inr u) few = absurd (omega (arith, few, u.status))

  -- the message of the ending was put
  pub messages : {E : Type 0} (put : E → List ℕ → E → Type 0) (old new : E) (ending : Ending) → Finishes ending err was told now number
      → (message_of ending ≡ [] → new ≡ old) → Asks put (message_of ending) old new → PutsMessages put old new err told was now number
  messages put old new ending f quiet asks = record {
    ending = ending;
    finishes = f;
    asks = asks;
    fault = message-7 ending f;
    memory = message-8 ending f;
    quiet = λ few. quiet (silent ending f few);
  }
