-- The verdicts so far, and all that an input gives.
use Rattle.std.proofs.Common.{◌≡◌, ◌≢◌, ℕ, ◌+◌, ◌<◌, ◌^◌, ◌∷◌, inl, inr, List, [], ◌++◌, length, sym, refl, ◌∙◌, ap, subst, Option, Some, None, append_assoc}
use Rattle.std.specs.Io.KnownBytes.{prepend_known, append_known}
use Rattle.std.specs.List.{after_first}
use Rattle.bes_io.specs.Bytes.{is_lf}
use Rattle.bes_io.specs.Reader.{Reader, input, fresh, allowed, first_line}
use Rattle.bes_io.specs.Lines.{Stop, at_end, at_fault, HasLines, Remains}
use Rattle.bes_io.specs.declared.lines.Phase.TheVariants.{Reading, Closed}
use Rattle.bes_io.specs.declared.lines.LineFault.TheVariants.{ReadFault, LineTooLong, InputTooLong}
use Rattle.bes_io.proofs.LinesLemmas.{one-reading, some-remain}
use Rattle.forms.specs.Word.{Word, Claim, IsOver}
use Rattle.forms.specs.Verdict as claims
use Rattle.forms.specs.Verdict.{IsVerdict}
use Rattle.diagrams.specs.Eval.{Diagrams}
use Rattle.automata.proofs.Words.{over-nil, over-push}
use Rattle.monitor.specs.declared.verdict.Verdict.{Verdict}
use Rattle.monitor.specs.declared.verdict.Verdict.TheVariants.{PermTrue, PermFalse, TempTrue, TempFalse}
use Rattle.monitor.specs.Verdicts.{verdict_of}
use Rattle.monitor.specs.Configuration.{Configuration, IsReady, LeadsTo, IsClaimOf, IsVerdictAfter, IsMovedBy}
use Rattle.spec_reader.specs.Event.{IsEventOf, event_fault}
use Rattle.spec_reader.specs.declared.events.EventFault.{EventFault}
use Rattle.spec_reader.specs.declared.events.Mode.TheVariants.{Ignore}
use Rattle.spec_reader.proofs.EventLemmas.{one_letter}
use Rattle.command_endings.specs.declared.endings.Ending.{Ending}
use Rattle.command_endings.specs.declared.endings.Ending.TheVariants.{Refused}
use Rattle.command_endings.specs.declared.endings.Refusal.{Refusal}
use Rattle.command_endings.specs.declared.endings.Refusal.TheVariants as refusal
use Rattle.command_endings.specs.Replies.{Reply}
use Rattle.input_letters.specs.Traces.{stop_refusal}
use Rattle.input_letters.specs.Letters.{FoundLetter}
use Rattle.monitor_command.specs.Monitoring.{most_monitored, verdict_line, ending_of, MonitorsFrom, no_event, ended, stopped, refused, event, IsMonitored}
use Rattle.monitor_command.specs.OpenedMonitor.{IsOpened}
use Rattle.command_endings.specs.Tasks.{NoOutputIsDue}
use Rattle.command_endings.specs.Streams.{AreWholeLines}
use Rattle.input_letters.proofs.StreamLemmas.{LineTaken, line-taken, going, not-at_fault}
use Rattle.monitor_command.proofs.VerdictLemmas.{one-verdict, some-verdict, event-or-fault}
use Rattle.command_endings.proofs.Performing.{append-nothing}

module _ (names : List (List ℕ)) (f : Claim) where
  not-refused : (text : List ℕ) (letter : ℕ) (fault : EventFault) → IsEventOf names Ignore text letter → event_fault names Ignore text ≡ Some fault → ⊥
  not-refused text letter fault e r = let a = e.admitted in cc

  not-stopped : (n : ℕ) (r : Refusal) → stop_refusal n at_end ≡ Some r → ⊥
  not-stopped n r e = cc

  one-line_verdict : (word : Word) (text : List ℕ) (a b : ℕ) (u v : claims.Verdict) → IsEventOf names Ignore text a → IsEventOf names Ignore text b
      → IsVerdict (length names) f (word ++ a ∷ []) u → IsVerdict (length names) f (word ++ b ∷ []) v → u ≡ v
  one-line_verdict word text a b u v ea eb iu iv =
      let same = one_letter names Ignore text a b ea eb in
      one-verdict (length names) f (word ++ b ∷ []) u v (subst (λ x. IsVerdict (length names) f (word ++ x ∷ []) u) same iu) iv

  -- lines give one output and one ending
  pub one-monitor : {word : Word} {n : ℕ} {lines : List (List ℕ)} {stop : Stop} {a b : List ℕ} {c d : Ending} → MonitorsFrom names f word n lines stop a c → MonitorsFrom names f word n lines stop b d
      → (a ≡ b) × (c ≡ d)
  one-monitor no_event no_event = (refl, refl)
  one-monitor no_event (ended v some k) = absurd (some refl)
  one-monitor {n = n} no_event (stopped {r = r} e) = absurd (not-stopped n r e)
  one-monitor (ended u some h) no_event = absurd (some refl)
  one-monitor {word = word} (ended u some h) (ended v other k) = (refl, ap ending_of (one-verdict (length names) f word u v h k))
  one-monitor {n = n} (ended u some h) (stopped {r = r} e) = absurd (not-stopped n r e)
  one-monitor {n = n} (stopped {r = r} e) no_event = absurd (not-stopped n r e)
  one-monitor {n = n} (stopped {r = r} e) (ended v some k) = absurd (not-stopped n r e)
  one-monitor (stopped {r = q} e) (stopped {r = r} g) = let same : q ≡ r = cc in (refl, ap Refused same)
  one-monitor {n = n} (refused {fault = x} e) (refused {fault = y} g) = let same : x ≡ y = cc in (refl, ap (λ z. Refused (refusal.Event n z)) same)
  one-monitor (refused {text = text} {fault = x} e) (event {letter = b} v is k w) = absurd (not-refused text b x is e)
  one-monitor (event {letter = a} {text = text} u is h w) (refused {fault = y} g) = absurd (not-refused text a y is g)
  one-monitor {word = word} {n = n} {stop = stop} (event {letter = a} {text = text} {lines = ls} {output = o} {ending = x} u is h w) (event {letter = b} {output = q} {ending = y} v si k z) =
      let letters : a ≡ b = one_letter names Ignore text a b is si in
      let verdicts : u ≡ v = one-line_verdict word text a b u v is si h k in
      let later = one-monitor (subst (λ l. MonitorsFrom names f (word ++ l ∷ []) (n + 1) ls stop o x) letters w) z in
      (ap (λ v. verdict_line v ++ o) verdicts ∙ ap (λ o. verdict_line v ++ o) later.0, later.1)

  -- an input gives one reply
  pub one-monitored : {bytes : List ℕ} {c d : Reply} → IsMonitored names f bytes c → IsMonitored names f bytes d → c ≡ d
  one-monitored {c = c} {d = d} a b =
      let lines = one-reading a.has b.has in
      let gives : MonitorsFrom names f [] 1 b.lines b.stop c.output c.ending = subst (λ s. MonitorsFrom names f [] 1 b.lines s c.output c.ending) lines.1
      (subst (λ l. MonitorsFrom names f [] 1 l a.stop c.output c.ending) lines.0 a.gives) in
      let same = one-monitor gives b.gives in
      ap (λ o. record { output = o; ending = c.ending }) same.0 ∙ ap (λ e. record { output = d.output; ending = e }) same.1

-- what lines give after the letters so far
pub record SomeMonitor (names : List (List ℕ)) (f : Claim) (word : Word) (n : ℕ) (lines : List (List ℕ)) (stop : Stop) : Type 0 where
  pub output : List ℕ
  pub ending : Ending
  pub monitors : MonitorsFrom names f word n lines stop output ending

module _ (s : Diagrams) (m : Configuration) (names : List (List ℕ)) (f : Claim) (ready : IsReady s m) (props : s.props ≡ length names) (claim : IsClaimOf s m.automaton f) where
  verdict-over : (w : Word) → IsOver s.props w → (v : claims.Verdict) × IsVerdict (length names) f w v
  verdict-over w over = let v = some-verdict s m ready f claim w over in (v.0, subst (λ p. IsVerdict p f w v.0) props v.1)

  some-end : (word : Word) (n : ℕ) → IsOver s.props word → SomeMonitor names f word n [] at_end
  some-end [] n over = record { output = []; ending = Refused refusal.NoEvent; monitors = no_event }
  some-end (a ∷ word) n over =
      let v = verdict-over (a ∷ word) over in
      record { output = []; ending = ending_of v.0; monitors = ended v.0 (λ e. cc) v.1 }

  -- lines give some output and some ending
  pub some-monitor : (lines : List (List ℕ)) (word : Word) (n : ℕ) (stop : Stop) → (stop ≡ at_fault ReadFault → ⊥) → IsOver s.props word → SomeMonitor names f word n lines stop
  some-monitor [] word n at_end sound over = some-end word n over
  some-monitor [] word n (at_fault LineTooLong) sound over = record { output = []; ending = Refused (refusal.LineTooLong n); monitors = stopped refl }
  some-monitor [] word n (at_fault InputTooLong) sound over = record { output = []; ending = Refused (refusal.InputTooLong n); monitors = stopped refl }
  some-monitor [] word n (at_fault ReadFault) sound over = absurd (sound refl)
  some-monitor (text ∷ lines) word n stop sound over =
      elim (event-or-fault names text) [
        | inl e ↦
            let small : e.0 < 2 ^ s.props = subst (λ p. e.0 < 2 ^ p) (sym props) e.1.below in
            let longer : IsOver s.props (word ++ e.0 ∷ []) = over-push s.props word e.0 over small in
            let v = verdict-over (word ++ e.0 ∷ []) longer in
            let later = some-monitor lines (word ++ e.0 ∷ []) (n + 1) stop sound longer in
            record { output = verdict_line v.0 ++ later.output; ending = later.ending; monitors = event v.0 e.1 v.1 later.monitors }
        | inr r ↦ record { output = []; ending = Refused (refusal.Event n r.0); monitors = refused r.1 }
      ]

-- the last verdict is that of the letters so far
abbrev pub IsLatest : List (List ℕ) → Claim → Word → Option Verdict → Type 0
IsLatest names f word None = word ≡ []
IsLatest names f word (Some v) = (word ≢ []) × IsVerdict (length names) f word (verdict_of v)

-- These letters came in these lines, the first bytes of the rest, and their verdicts were put; the lines to come are
-- those that the reader still finds.
pub record Monitored (s : Diagrams) (names : List (List ℕ)) (f : Claim) (rest : List ℕ) (start : Option (List ℕ)) (reader : Reader) (left : Option (List ℕ))
    (m : Configuration) (n : ℕ) (last : Option Verdict) (held : Option (List ℕ)) : Type 0 where
  pub front : List ℕ
  pub bytes : List ℕ
  pub word : Word
  pub lines : List (List ℕ)
  pub written : List ℕ
  pub input_left : input reader left ≡ Some bytes
  pub split : rest ≡ front ++ bytes
  pub over : IsOver s.props word
  pub leads : LeadsTo s m word
  pub claim : IsClaimOf s m.automaton f
  pub latest : IsLatest names f word last
  pub put : held ≡ append_known start written
  pub others : (later : List (List ℕ)) (stop : Stop) → Remains reader bytes later stop → HasLines most_monitored rest (lines ++ later) stop
  pub closed : reader.phase ≡ Closed → bytes ≡ []
  pub whole : reader.phase ≡ Reading → AreWholeLines front
  pub cut : reader.phase ≡ Reading → (more : List ℕ) (later : List (List ℕ)) (stop : Stop) → HasLines (allowed reader) more later stop
      → HasLines most_monitored (front ++ more) (lines ++ later) stop
  pub gives : (later : List (List ℕ)) (stop : Stop) (output : List ℕ) (ending : Ending) → MonitorsFrom names f word n later stop output ending
      → MonitorsFrom names f [] 1 (lines ++ later) stop (written ++ output) ending

-- nothing is monitored yet
pub monitored-start : (s : Diagrams) (names : List (List ℕ)) (f : Claim) (rest : List ℕ) (start : Option (List ℕ)) (reader : Reader) (left : Option (List ℕ)) (m : Configuration)
    → reader ≡ fresh most_monitored → IsOpened s m names f → left ≡ Some rest → Monitored s names f rest start reader left m 1 None start
monitored-start s names f rest start reader left m is opened told =
    subst (λ r. Monitored s names f rest start r left m 1 None start) (sym is) (record {
      front = [];
      bytes = rest;
      word = [];
      lines = [];
      written = [];
      input_left = ap (prepend_known []) told;
      split = refl;
      over = over-nil s.props;
      leads = opened.start;
      claim = opened.claim;
      latest = refl;
      put = append-nothing start;
      others = λ later stop r. r;
      closed = λ closed. cc;
      whole = λ reading. inl refl;
      cut = λ reading more later stop has. has;
      gives = λ later stop output ending w. w;
    })

-- two pieces put one after the other
pub append-append : (held : Option (List ℕ)) (xs ys : List ℕ) → append_known (append_known held xs) ys ≡ append_known held (xs ++ ys)
append-append None xs ys = refl
append-append (Some zs) xs ys = ap Some (append_assoc zs xs ys)

-- a word with one more letter is not empty
pub push-some : (word : Word) (a : ℕ) → word ++ a ∷ [] ≡ [] → ⊥
push-some [] a e = cc
push-some (b ∷ word) a e = cc

whole-more : (front : List ℕ) (needed : List ℕ) → (text : List ℕ) × (needed ≡ text ++ 10 ∷ []) → AreWholeLines (front ++ needed)
whole-more front needed (text, e) = inr (front ++ text, ap (λ n. front ++ n) e ∙ sym (append_assoc front text (10 ∷ [])))

-- the line of a verdict is not empty
pub verdict-some : (v : Verdict) → verdict_line (verdict_of v) ≢ []
verdict-some PermTrue e = cc
verdict-some PermFalse e = cc
verdict-some TempTrue e = cc
verdict-some TempFalse e = cc

-- nor is a list with something in it
within-some : (xs ys zs : List ℕ) → ys ≢ [] → xs ++ (ys ++ zs) ≢ []
within-some [] [] zs some e = some refl
within-some [] (y ∷ ys) zs some e = cc
within-some (x ∷ xs) ys zs some e = cc

-- all that an input gives, with this line behind what was written
pub record GivesLine (names : List (List ℕ)) (f : Claim) (rest written line : List ℕ) : Type 0 where
  pub more : List ℕ
  pub ending : Ending
  pub given : IsMonitored names f rest (record { output = written ++ (line ++ more); ending = ending })

module _ (s : Diagrams) (names : List (List ℕ)) (f : Claim) (rest : List ℕ) (start : Option (List ℕ)) (reader new : Reader) (left later : Option (List ℕ)) (m : Configuration) (n : ℕ)
    (last : Option Verdict) (held : Option (List ℕ)) (w : Monitored s names f rest start reader left m n last held)
    (letter : ℕ) (found : FoundLetter names reader w.bytes letter new later) (props : s.props ≡ length names) (v : Verdict) (verdict : IsVerdictAfter s m letter (verdict_of v)) where
  small : letter < 2 ^ s.props
  small = subst (λ p. letter < 2 ^ p) (sym props) found.event.below

  -- the verdict is that of the letters so far and this one
  pub verdict-now : IsVerdict (length names) f (w.word ++ letter ∷ []) (verdict_of v)
  verdict-now = subst (λ p. IsVerdict p f (w.word ++ letter ∷ []) (verdict_of v)) props (verdict f w.claim w.word w.over w.leads)

  -- one more letter came, and its verdict was put
  pub monitored-more : (next : Configuration) → next.automaton ≡ m.automaton → IsMovedBy s m next letter
      → (put : Option (List ℕ)) → put ≡ append_known held (verdict_line (verdict_of v)) → Monitored s names f rest start new later next (n + 1) (Some v) put
  monitored-more next same moved put is =
      let t : LineTaken reader new w.bytes = line-taken reader new w.bytes later found.taken in
      let reading : reader.phase ≡ Reading = going reader.phase (allowed reader) w.bytes found.taken.0 in
      let after : found.later ≡ after_first is_lf w.bytes = let x = found.taken.1 in cc (x.rest, found.rest) in
      let text : found.text ≡ first_line w.bytes = found.first in
      record {
        front = w.front ++ t.needed;
        bytes = found.later;
        word = w.word ++ letter ∷ [];
        lines = w.lines ++ found.text ∷ [];
        written = w.written ++ verdict_line (verdict_of v);
        input_left = found.rest;
        split = w.split ∙ ap (λ bs. w.front ++ bs) (t.split ∙ ap (λ bs. t.needed ++ bs) (sym after)) ∙ sym (append_assoc w.front t.needed found.later);
        over = over-push s.props w.word letter w.over small;
        leads = moved w.word w.over w.leads;
        claim = subst (λ a. IsClaimOf s a f) (sym same) w.claim;
        latest = (push-some w.word letter, verdict-now);
        put = is ∙ ap (λ h. append_known h (verdict_line (verdict_of v))) w.put ∙ append-append start w.written (verdict_line (verdict_of v));
        others = λ ls stop r. subst (λ l. HasLines most_monitored rest l stop) (sym (append_assoc w.lines (found.text ∷ []) ls)) (w.others (found.text ∷ ls) stop (found.others ls stop r));
        closed = found.last;
        whole = λ going. whole-more w.front t.needed (t.whole going);
        cut = λ going more ls stop has.
            subst (λ l. HasLines most_monitored ((w.front ++ t.needed) ++ more) l stop) (sym (append_assoc w.lines (found.text ∷ []) ls))
            (subst (λ bs. HasLines most_monitored bs (w.lines ++ found.text ∷ ls) stop) (sym (append_assoc w.front t.needed more))
            (w.cut reading (t.needed ++ more) (found.text ∷ ls) stop
            (subst (λ l. HasLines (allowed reader) (t.needed ++ more) (l ∷ ls) stop) (sym text) (t.cut going more ls stop has))));
        gives = λ ls stop output ending x.
            subst (λ l. MonitorsFrom names f [] 1 l stop ((w.written ++ verdict_line (verdict_of v)) ++ output) ending) (sym (append_assoc w.lines (found.text ∷ []) ls))
            (subst (λ o. MonitorsFrom names f [] 1 (w.lines ++ found.text ∷ ls) stop o ending) (sym (append_assoc w.written (verdict_line (verdict_of v)) output))
            (w.gives (found.text ∷ ls) stop (verdict_line (verdict_of v) ++ output) ending (event (verdict_of v) found.event verdict-now x)));
      }

  module _ (ready : IsReady s m) where
    -- the input gives the line of this verdict
    pub gives-line : GivesLine names f rest w.written (verdict_line (verdict_of v))
    gives-line =
        let r = some-remain new found.later in
        let has : HasLines most_monitored rest (w.lines ++ found.text ∷ r.lines) r.stop = w.others (found.text ∷ r.lines) r.stop (found.others r.lines r.stop r.remain) in
        let x = some-monitor s m names f ready props w.claim r.lines (w.word ++ letter ∷ []) (n + 1) r.stop (not-at_fault most_monitored rest (w.lines ++ found.text ∷ r.lines) r.stop has)
        (over-push s.props w.word letter w.over small) in
        record {
          more = x.output;
          ending = x.ending;
          given = record {
            lines = w.lines ++ found.text ∷ r.lines;
            stop = r.stop;
            has = has;
            gives = w.gives (found.text ∷ r.lines) r.stop (verdict_line (verdict_of v) ++ x.output) x.ending (event (verdict_of v) found.event verdict-now x.monitors);
          };
        }

    -- so an output is due
    pub line-due : NoOutputIsDue (IsMonitored names f rest) → ⊥
    line-due none = let x = gives-line in within-some w.written (verdict_line (verdict_of v)) x.more (verdict-some v) (none (record { output = w.written ++ (verdict_line (verdict_of v) ++ x.more); ending = x.ending }) x.given)
