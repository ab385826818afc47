-- What a run of `monitor` has read and written where it ends.
use Rattle.std.proofs.Common.{◌≡◌, ℕ, zero, suc, ◌∷◌, inl, inr, List, [], ◌++◌, length, take, sym, refl, ◌∙◌, ap, subst, Option, Some, None}
use Rattle.std.proofs.lemmas.List.{append-nil}
use Rattle.std.specs.Io.KnownBytes.{prepend_known, append_known}
use Rattle.std.specs.List.{after_first}
use Rattle.bes_io.specs.Bytes.{is_lf}
use Rattle.bes_io.specs.Reader.{Reader, allowed}
use Rattle.bes_io.specs.Lines.{Stop, at_end, HasLines, ended as no_bytes}
use Rattle.bes_io.specs.declared.lines.Phase.TheVariants.{Reading}
use Rattle.bes_io.proofs.LinesLemmas.{some-remain}
use Rattle.forms.specs.Word.{Word, Claim}
use Rattle.forms.specs.Verdict.{IsVerdict}
use Rattle.diagrams.specs.Eval.{Diagrams}
use Rattle.monitor.specs.declared.verdict.Verdict.{Verdict}
use Rattle.monitor.specs.declared.verdict.Verdict.TheVariants.{PermTrue, PermFalse, TempTrue, TempFalse}
use Rattle.monitor.specs.Verdicts.{verdict_of}
use Rattle.monitor.specs.Configuration.{Configuration, IsReady, IsVerdictAfter}
use Rattle.spec_reader.specs.Event.{event_fault}
use Rattle.spec_reader.specs.declared.events.EventFault.{EventFault}
use Rattle.spec_reader.specs.declared.events.Mode.TheVariants.{Ignore}
use Rattle.command_endings.specs.declared.endings.Ending.TheVariants.{Refused}
use Rattle.command_endings.specs.declared.endings.Refusal.{Refusal}
use Rattle.command_endings.specs.declared.endings.Refusal.TheVariants as refusal
use Rattle.input_letters.specs.Traces.{line_refusal}
use Rattle.input_letters.specs.Letters.{FoundLetter, FoundEnd, FailedAt, IsRefusedAt, next_refusal}
use Rattle.monitor_command.specs.Monitoring.{most_monitored, verdict_line, ending_of, MonitorsFrom, no_event, ended, stopped, refused, event, IsMonitored}
use Rattle.monitor_command.specs.OpenedMonitor.{ending_after}
use Rattle.command_endings.specs.Tasks.{Gives, AddsPrefix}
use Rattle.command_endings.specs.Worlds.{World}
use Rattle.command_endings.specs.Streams.{IsOneLine, StopsReading, StopsWriting}
use Rattle.command_endings.specs.Endings.{IsLineRefused}
use Rattle.input_letters.proofs.StreamLemmas.{LineTaken, line-taken, going, not-at_fault}
use Rattle.input_letters.proofs.TraceLemmas.{nothing-left}
use Rattle.monitor_command.proofs.MonitorLines.{some-monitor, IsLatest, Monitored, append-append, push-some, verdict-now, gives-line}
use Rattle.monitor_command.proofs.VerdictLines.{verdict-line}

-- the front of a list is one of each longer list
front-of : (n : ℕ) (xs ys : List ℕ) → (k : ℕ) × (take k (xs ++ ys) ≡ take n xs)
front-of zero xs ys = (0, refl)
front-of (suc n) [] ys = (0, refl)
front-of (suc n) (x ∷ xs) ys = let r = front-of n xs ys in (suc r.0, ap (λ l. x ∷ l) r.1)

-- and so is a list with the front of what follows it
front-after : (zs : List ℕ) (n : ℕ) (xs ys : List ℕ) → (k : ℕ) × (take k (zs ++ (xs ++ ys)) ≡ zs ++ take n xs)
front-after [] n xs ys = front-of n xs ys
front-after (z ∷ zs) n xs ys = let r = front-after zs n xs ys in (suc r.0, ap (λ l. z ∷ l) r.1)

-- what is held, and what is left behind it
known-split : (held : List ℕ) (left : Option (List ℕ)) (bytes : List ℕ) → prepend_known held left ≡ Some bytes → (later : List ℕ) × (left ≡ Some later) × (bytes ≡ held ++ later)
known-split held None bytes e = cc
known-split held (Some later) bytes e = (later, refl, cc)

-- the next refusal is that of a line that is no event, or where the lines stop
refused-line : (n : ℕ) (fault : Option EventFault) (r : Refusal) → line_refusal n fault None ≡ Some r → (x : EventFault) × (fault ≡ Some x) × (refusal.Event n x ≡ r)
refused-line n None r e = cc
refused-line n (Some x) r e = (x, refl, cc)

next-monitor : (names : List (List ℕ)) (f : Claim) (word : Word) (n : ℕ) (lines : List (List ℕ)) (stop : Stop) (r : Refusal) → next_refusal names n lines stop ≡ Some r
    → MonitorsFrom names f word n lines stop [] (Refused r)
next-monitor names f word n [] stop r e = stopped e
next-monitor names f word n (text ∷ lines) stop r e =
    let q = refused-line n (event_fault names Ignore text) r e in
    subst (λ r. MonitorsFrom names f word n (text ∷ lines) stop [] (Refused r)) q.2 (refused q.1)

-- no line is refused where the last verdict is the answer
admitted-after : (last : Option Verdict) → IsLineRefused (ending_after last) → ⊥
admitted-after None h = h
admitted-after (Some PermTrue) h = h
admitted-after (Some PermFalse) h = h
admitted-after (Some TempTrue) h = h
admitted-after (Some TempFalse) h = h

-- the end of the lines after these letters
end-monitor : (names : List (List ℕ)) (f : Claim) (word : Word) (n : ℕ) (last : Option Verdict) → IsLatest names f word last → MonitorsFrom names f word n [] at_end [] (ending_after last)
end-monitor names f word n None latest = subst (λ w. MonitorsFrom names f w n [] at_end [] (ending_after None)) (sym latest) no_event
end-monitor names f word n (Some v) latest = ended (verdict_of v) latest.0 latest.1

module _ (s : Diagrams) (names : List (List ℕ)) (f : Claim) (rest : List ℕ) (before after : World) (reader new : Reader) (left : Option (List ℕ)) (m : Configuration) (n : ℕ)
    (last : Option Verdict) (held : Option (List ℕ)) (w : Monitored s names f rest before.held reader left m n last held) where
  -- what is given with no further line, over these bytes
  with-no_more : (bytes : List ℕ) → HasLines most_monitored bytes (w.lines ++ []) at_end → IsMonitored names f bytes (record { output = w.written; ending = ending_after last })
  with-no_more bytes has = record {
    lines = w.lines ++ [];
    stop = at_end;
    has = has;
    gives = subst (λ o. MonitorsFrom names f [] 1 (w.lines ++ []) at_end o (ending_after last)) (append-nil w.written)
        (w.gives [] at_end [] (ending_after last) (end-monitor names f w.word n last w.latest));
  }

  -- the lines so far, as an input of their own
  so-far : reader.phase ≡ Reading → IsMonitored names f w.front (record { output = w.written; ending = ending_after last })
  so-far reading = with-no_more w.front (subst (λ bs. HasLines most_monitored bs (w.lines ++ []) at_end) (append-nil w.front) (w.cut reading [] [] at_end (no_bytes refl)))

  -- the input ends
  pub ends-well : FoundEnd reader w.bytes new after.left → after.held ≡ held → Gives (IsMonitored names f rest) before after (ending_after last)
  ends-well end same = record {
    reply = record { output = w.written; ending = ending_after last };
    asked = with-no_more rest (w.others [] at_end end.ended);
    added = same ∙ w.put;
    ends = refl;
  }

  -- and nothing of it is left
  pub ends-at : FoundEnd reader w.bytes new after.left → after.left ≡ Some []
  ends-at end =
      let nil : w.bytes ≡ [] = elim end.why [ inl closed ↦ w.closed closed | inr nil ↦ nil ] in
      nothing-left new.held after.left (end.rest ∙ ap Some nil)

  -- the next line is refused, or the lines stop
  pub ends-refused : (r : Refusal) → IsRefusedAt names n reader w.bytes r → after.held ≡ held → Gives (IsMonitored names f rest) before after (Refused r)
  ends-refused r at same = record {
    reply = record { output = w.written; ending = Refused r };
    asked = record {
      lines = w.lines ++ at.lines;
      stop = at.stop;
      has = w.others at.lines at.stop at.remain;
      gives = subst (λ o. MonitorsFrom names f [] 1 (w.lines ++ at.lines) at.stop o (Refused r)) (append-nil w.written)
          (w.gives at.lines at.stop [] (Refused r) (next-monitor names f w.word n at.lines at.stop r at.first));
    };
    added = same ∙ w.put;
    ends = refl;
  }

  module _ (ready : IsReady s m) (props : s.props ≡ length names) where
    -- the source fails
    pub fails-reading : after.held ≡ held → AddsPrefix (IsMonitored names f rest) before after
    fails-reading same =
        let r = some-remain reader w.bytes in
        let has : HasLines most_monitored rest (w.lines ++ r.lines) r.stop = w.others r.lines r.stop r.remain in
        let x = some-monitor s m names f ready props w.claim r.lines w.word n r.stop (not-at_fault most_monitored rest (w.lines ++ r.lines) r.stop has) w.over in
        let k = front-after w.written 0 [] x.output in
        inr (
          record { output = w.written ++ x.output; ending = x.ending },
          record { lines = w.lines ++ r.lines; stop = r.stop; has = has; gives = w.gives r.lines r.stop x.output x.ending x.monitors },
          k.0,
          same ∙ w.put ∙ ap (append_known before.held) (sym (k.1 ∙ append-nil w.written)),
        )

    -- and what is due for the whole lines that were taken was put
    pub stops-reading : FailedAt reader w.bytes new after.left → after.held ≡ held → StopsReading (IsMonitored names f) rest before after
    stops-reading failed same =
        let z = known-split new.held after.left w.bytes failed.stays.1.rest in
        let reading : reader.phase ≡ Reading = failed.stays.0 in
        record {
          lines = w.front;
          part = new.held;
          later = z.0;
          split = w.split ∙ ap (λ bs. w.front ++ bs) z.2;
          left = z.1;
          whole = w.whole reading;
          no_more = failed.no_line;
          reply = record { output = w.written; ending = ending_after last };
          due = so-far reading;
          admitted = admitted-after last;
          added = same ∙ w.put;
        }

    module _ (letter : ℕ) (found : FoundLetter names reader w.bytes letter new after.left) (v : Verdict) (verdict : IsVerdictAfter s m letter (verdict_of v)) (k : ℕ)
        (put : after.held ≡ append_known held (take k (verdict_line (verdict_of v)))) where
      here : IsVerdict (length names) f (w.word ++ letter ∷ []) (verdict_of v)
      here = verdict-now s names f rest before.held reader new left after.left m n last held w letter found props v verdict

      added-part : after.held ≡ append_known before.held (w.written ++ take k (verdict_line (verdict_of v)))
      added-part = put ∙ ap (λ h. append_known h (take k (verdict_line (verdict_of v)))) w.put ∙ append-append before.held w.written (take k (verdict_line (verdict_of v)))

      -- the sink fails at the line of the verdict
      pub fails-writing : AddsPrefix (IsMonitored names f rest) before after
      fails-writing =
          let line = verdict_line (verdict_of v) in
          let x = gives-line s names f rest before.held reader new left after.left m n last held w letter found props v verdict ready in
          let q = front-after w.written k line x.more in
          inr (record { output = w.written ++ (line ++ x.more); ending = x.ending }, x.given, q.0, added-part ∙ ap (append_known before.held) (sym q.1))

      -- and it failed at this one line
      pub stops-writing : StopsWriting (IsMonitored names f) rest before after
      stops-writing =
          let line = verdict_line (verdict_of v) in
          let t : LineTaken reader new w.bytes = line-taken reader new w.bytes after.left found.taken in
          let reading : reader.phase ≡ Reading = going reader.phase (allowed reader) w.bytes found.taken.0 in
          let after_line : found.later ≡ after_first is_lf w.bytes = let x = found.taken.1 in cc (x.rest, found.rest) in
          let z = known-split new.held after.left found.later found.rest in
          let tail : after_first is_lf w.bytes ≡ new.held ++ z.0 = sym after_line ∙ z.2 in
          record {
            earlier = w.front;
            needed = t.needed;
            further = new.held;
            later = z.0;
            split = w.split ∙ ap (λ bs. w.front ++ bs) (t.split ∙ ap (λ bs. t.needed ++ bs) tail);
            left = z.1;
            few = found.few;
            next = record { output = w.written ++ line; ending = ending_of (verdict_of v) };
            due = record {
              lines = w.lines ++ found.text ∷ [];
              stop = at_end;
              has = w.cut reading t.needed (found.text ∷ []) at_end
                  (subst (λ l. HasLines (allowed reader) t.needed (l ∷ []) at_end) (sym found.first) t.alone);
              gives = subst (λ o. MonitorsFrom names f [] 1 (w.lines ++ found.text ∷ []) at_end (w.written ++ o) (ending_of (verdict_of v))) (append-nil line)
                  (w.gives (found.text ∷ []) at_end (line ++ []) (ending_of (verdict_of v))
                  (event (verdict_of v) found.event here (ended (verdict_of v) (push-some w.word letter) here)));
            };
            front = w.written;
            line = line;
            back = [];
            one_line = verdict-line (verdict_of v);
            holds_line = ap (λ l. w.written ++ l) (sym (append-nil line));
            needs = inr (record {
              whole = w.whole reading;
              one = subst (λ bs. IsOneLine t.needed bs) tail t.one;
              reply = record { output = w.written; ending = ending_after last };
              due = so-far reading;
              admitted = admitted-after last;
              between = [];
              in_front = sym (append-nil w.written);
            });
            added = (k, added-part);
          }
