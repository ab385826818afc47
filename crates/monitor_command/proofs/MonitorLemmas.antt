-- What a run of `monitor` does, by what its parts do.
use Rattle.std.proofs.Common.{◌≡◌, ◌≢◌, ℕ, inl, inr, List, ◌++◌, ◌⊎◌, length, arith, refl, Some}
use Rattle.form_tokens.specs.declared.dialect.Dialect.{Dialect}
use Rattle.forms.specs.Word.{Claim}
use Rattle.class_limit.specs.Limits.{IsFormulaWithinLimit}
use Rattle.command_endings.specs.declared.endings.Ending.{Ending}
use Rattle.command_endings.specs.declared.endings.Ending.TheVariants.{Positive, Negative, Refused, OutsideFault, NoMemory}
use Rattle.command_endings.specs.Replies.{Reply}
use Rattle.command_endings.specs.Streams.{Streams, StopsReading, StopsWriting, NeedsAtMost}
use Rattle.command_endings.specs.Tasks.{Tells, Performs, Gives, Adds, AddsPrefix, Counts}
use Rattle.command_endings.specs.Worlds.{Contents, World}
use Rattle.monitor_command.specs.Monitoring.{MonitorAnswers, IsMonitored, monitor_task, monitored_task}

module _ (some all : List ℕ → Reply → Type 0) (more : (bytes : List ℕ) (reply : Reply) → some bytes reply → all bytes reply) where
  needs-more : (earlier needed later front : List ℕ) → NeedsAtMost some earlier needed later front → NeedsAtMost all earlier needed later front
  needs-more earlier needed later front (inl none) = inl none
  needs-more earlier needed later front (inr x) = inr (record {
    whole = x.whole;
    one = x.one;
    reply = x.reply;
    due = more earlier x.reply x.due;
    admitted = x.admitted;
    between = x.between;
    in_front = x.in_front;
  })

  -- what streams in one way does in each that allows as much
  pub streams-more : (rest : List ℕ) (before after : World) → Streams some rest before after → Streams all rest before after
  streams-more rest before after s = record {
    reads = λ rose. let x = s.reads rose in record {
      lines = x.lines;
      part = x.part;
      later = x.later;
      split = x.split;
      left = x.left;
      whole = x.whole;
      no_more = x.no_more;
      reply = x.reply;
      due = more x.lines x.reply x.due;
      admitted = x.admitted;
      added = x.added;
    };
    puts = λ rose. let x = s.puts rose in record {
      earlier = x.earlier;
      needed = x.needed;
      further = x.further;
      later = x.later;
      split = x.split;
      left = x.left;
      few = x.few;
      next = x.next;
      due = more (x.earlier ++ x.needed) x.next x.due;
      front = x.front;
      line = x.line;
      back = x.back;
      one_line = x.one_line;
      holds_line = x.holds_line;
      needs = needs-more x.earlier x.needed (x.further ++ x.later) x.front x.needs;
      added = x.added;
    };
  }

-- the source alone failed
pub streams-read : (replies : List ℕ → Reply → Type 0) (rest : List ℕ) (before after : World) → after.output_faults ≡ before.output_faults → StopsReading replies rest before after → Streams replies rest before after
streams-read replies rest before after puts stops = record { reads = λ rose. stops; puts = λ rose. absurd (omega (arith, rose, puts)) }

-- the sink alone failed
pub streams-put : (replies : List ℕ → Reply → Type 0) (rest : List ℕ) (before after : World) → after.input_faults ≡ before.input_faults → StopsWriting replies rest before after → Streams replies rest before after
streams-put replies rest before after reads stops = record { reads = λ rose. absurd (omega (arith, rose, reads)); puts = λ rose. stops }

module _ (dialect : Dialect) (text : List ℕ) (names : List (List ℕ)) (claim : Claim) (within : IsFormulaWithinLimit dialect text)
    (more : (bytes : List ℕ) (reply : Reply) → IsMonitored names claim bytes reply → MonitorAnswers dialect text bytes reply) (before after : World) where
  gives-more : (rest : List ℕ) (ending : Ending) → Gives (IsMonitored names claim rest) before after ending → Gives (MonitorAnswers dialect text rest) before after ending
  gives-more rest ending g = record { reply = g.reply; asked = more rest g.reply g.asked; added = g.added; ends = g.ends }

  prefix-more : (rest : List ℕ) → AddsPrefix (IsMonitored names claim rest) before after → AddsPrefix (MonitorAnswers dialect text rest) before after
  prefix-more rest (inl same) = inl same
  prefix-more rest (inr a) = inr (a.0, more rest a.0 a.1, a.2, a.3)

  adds-more : (rest : List ℕ) (ending : Ending) → Adds (IsMonitored names claim rest) before after ending → Adds (MonitorAnswers dialect text rest) before after ending
  adds-more rest Positive a = gives-more rest Positive a
  adds-more rest Negative a = gives-more rest Negative a
  adds-more rest (Refused r) a = gives-more rest (Refused r) a
  adds-more rest OutsideFault a = prefix-more rest a
  adds-more rest NoMemory a = tt

  counts-more : (ending : Ending) → Counts (monitored_task names claim) before after ending → Counts (monitor_task dialect text) before after ending
  counts-more Positive c = c
  counts-more Negative c = c
  counts-more (Refused r) c = c
  counts-more OutsideFault c = elim c [ inl r ↦ inl (within, r.1) | inr r ↦ inr r ]
  counts-more NoMemory c = c

  tells-more : (files : Contents) (rest : List ℕ) → Tells (monitor_task dialect text) before files rest → Tells (monitored_task names claim) before files rest
  tells-more files rest t = record { told_files = tt; told_input = λ asked. t.told_input within }

  -- what is done with an opened monitor is what `monitor` is asked for
  pub performs-more : (ending : Ending) → Performs (monitored_task names claim) before after ending → Performs (monitor_task dialect text) before after ending
  performs-more ending p = record {
    adds = λ files rest tells. adds-more rest ending (p.adds files rest (tells-more files rest tells));
    counts = counts-more ending p.counts;
    gains = p.gains;
    far = p.far;
    at_goal = λ files rest tells left on off. cc;
    streams = λ files rest tells left. streams-more (IsMonitored names claim) (MonitorAnswers dialect text) more rest before after (p.streams files rest (tells-more files rest tells) left);
  }
