-- What a call of `next_letter` says, by what the reader of lines found.
use Rattle.std.proofs.Common.{◌≡◌, ℕ, ◌<◌, ◌∷◌, List, [], length, Contains, sym, refl, ◌∙◌, ap, subst, Option, Some, None, Result, Ok, Err}
use Rattle.bes_io.specs.Reader.{Reader, input, first_line, Finds}
use Rattle.bes_io.specs.Lines.{at_fault, FoundLine, NextLine}
use Rattle.bes_io.specs.declared.lines.Found.{Found}
use Rattle.bes_io.specs.declared.lines.Found.TheVariants.{Line, End}
use Rattle.bes_io.specs.declared.lines.LineFault.{LineFault}
use Rattle.bes_io.specs.declared.lines.LineFault.TheVariants.{ReadFault, LineTooLong, InputTooLong}
use Rattle.spec_reader.specs.Event.{IsEventOf, event_fault}
use Rattle.spec_reader.specs.declared.events.EventFault.{EventFault}
use Rattle.spec_reader.specs.declared.events.Mode.TheVariants.{Ignore}
use Rattle.command_endings.specs.declared.endings.Ending.{Ending}
use Rattle.command_endings.specs.declared.endings.Ending.TheVariants.{Refused}
use Rattle.command_endings.specs.declared.endings.Refusal.TheVariants.{Event}
use Rattle.input_letters.specs.Traces.{line_refusal}
use Rattle.input_letters.specs.Letters.{stopped, FoundLetter, IsRefusedAt, NextLetter}
use Rattle.bes_io.proofs.LinesLemmas.{some-remain}

module _ (names : List (List ℕ)) (n : ℕ) (old new : Reader) (bytes : List ℕ) (left : Option (List ℕ)) where
  found : (text : List ℕ) (letter : ℕ) → FoundLine old bytes new left → Finds old bytes (Ok Line) new left → length new.held < 4097
      → new.line ≡ Some text → IsEventOf names Ignore text letter → FoundLetter names old bytes letter new left
  found text letter f taken few is event =
      let same : text ≡ f.text = cc in
      let first : f.text ≡ first_line bytes = let t = taken.1 in cc (t.line, f.line) in
      record {
        later = f.later;
        text = f.text;
        rest = f.rest;
        event = subst (λ t. IsEventOf names Ignore t letter) same event;
        others = f.others;
        last = f.last;
        taken = taken;
        first = first;
        few = few;
      }

  refused : (text : List ℕ) (fault : EventFault) → FoundLine old bytes new left → new.line ≡ Some text → event_fault names Ignore text ≡ Some fault
      → IsRefusedAt names n old bytes (Event n fault)
  refused text fault f is event =
      let same : text ≡ f.text = cc in
      let r = some-remain new f.later in
      let e : event_fault names Ignore f.text ≡ Some fault = ap (event_fault names Ignore) (sym same) ∙ event in
      record {
        lines = f.text ∷ r.lines;
        stop = r.stop;
        remain = f.others r.lines r.stop r.remain;
        first = ap (λ o. line_refusal n o None) e;
      }

module _ (names : List (List ℕ)) (n : ℕ) (old new : Reader) (left later : Option (List ℕ)) (r : Result Found LineFault)
    (next : (bytes : List ℕ) → input old left ≡ Some bytes → NextLine old bytes r new later)
    (finds : (bytes : List ℕ) → input old left ≡ Some bytes → Finds old bytes r new later) where
  at : (bytes : List ℕ) → input old left ≡ Some bytes → (q : Result Found LineFault) → r ≡ q → NextLine old bytes q new later
  at bytes told q e = subst (λ q. NextLine old bytes q new later) e (next bytes told)

  taken_at : (bytes : List ℕ) → input old left ≡ Some bytes → (q : Result Found LineFault) → r ≡ q → Finds old bytes q new later
  taken_at bytes told q e = subst (λ q. Finds old bytes q new later) e (finds bytes told)

  -- a line that is an event gives its letter
  pub letter-found : r ≡ Ok Line → (r ≡ Ok Line → length new.held < 4097) → (text : List ℕ) (letter : ℕ) → new.line ≡ Some text → IsEventOf names Ignore text letter
      → (bytes : List ℕ) → input old left ≡ Some bytes → NextLetter names n old bytes (Ok (Some letter)) new later
  letter-found e few text letter is event bytes told =
      found names n old new bytes later text letter (at bytes told (Ok Line) e) (taken_at bytes told (Ok Line) e) (few e) is event

  -- a line that is no event is refused
  pub letter-refused : r ≡ Ok Line → (text : List ℕ) (fault : EventFault) → new.line ≡ Some text → event_fault names Ignore text ≡ Some fault
      → (bytes : List ℕ) → input old left ≡ Some bytes → NextLetter names n old bytes (Err (Refused (Event n fault))) new later
  letter-refused e text fault is event bytes told = refused names n old new bytes later text fault (at bytes told (Ok Line) e) is event

  -- no line remains
  pub end-found : r ≡ Ok End → (bytes : List ℕ) → input old left ≡ Some bytes → NextLetter names n old bytes (Ok None) new later
  end-found e bytes told = let f = at bytes told (Ok End) e in record { rest = f.1; ended = f.0; why = f.2 }

  stops : (r ≡ Err ReadFault → ¬ Contains new.held 10) → (fault : LineFault) → r ≡ Err fault → (bytes : List ℕ) → input old left ≡ Some bytes
      → NextLetter names n old bytes (Err (stopped n fault)) new later
  stops none ReadFault e bytes told = record { stays = taken_at bytes told (Err ReadFault) e; no_line = none e }
  stops none LineTooLong e bytes told = let f = at bytes told (Err LineTooLong) e in record { lines = []; stop = at_fault LineTooLong; remain = f.0; first = refl }
  stops none InputTooLong e bytes told = let f = at bytes told (Err InputTooLong) e in record { lines = []; stop = at_fault InputTooLong; remain = f.0; first = refl }

  -- where reading lines fails there is no letter
  pub letter-stopped : (r ≡ Err ReadFault → ¬ Contains new.held 10) → (fault : LineFault) → r ≡ Err fault → (ending : Ending) → ending ≡ stopped n fault
      → (bytes : List ℕ) → input old left ≡ Some bytes → NextLetter names n old bytes (Err ending) new later
  letter-stopped none fault e ending is bytes told = subst (λ q. NextLetter names n old bytes (Err q) new later) (sym is) (stops none fault e bytes told)
