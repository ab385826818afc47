-- The trace that the lines so far give.
use Rattle.std.proofs.Common.{◌≡◌, ℕ, ◌+◌, ◌<◌, ◌∷◌, inl, inr, List, [], ◌++◌, length, arith, sym, refl, ◌∙◌, ap, subst, Option, Some, None, Result, Ok, Err, append_assoc, IfOk, IsSome}
use Rattle.std.proofs.lemmas.List.{append-nil}
use Rattle.std.specs.Io.KnownBytes.{prepend_known}
use Rattle.bes_io.specs.Causes.{Rose}
use Rattle.bes_io.specs.Reader.{Reader, input, fresh}
use Rattle.bes_io.specs.Lines.{Stop, at_end, HasLines, Remains}
use Rattle.bes_io.specs.declared.lines.Phase.TheVariants.{Closed}
use Rattle.spec_reader.specs.Event.{IsEventOf, event_fault}
use Rattle.spec_reader.specs.declared.events.EventFault.{EventFault}
use Rattle.spec_reader.specs.declared.events.Mode.TheVariants.{Ignore}
use Rattle.command_endings.specs.declared.endings.Refusal.{Refusal}
use Rattle.command_endings.specs.declared.endings.Ending.{Ending}
use Rattle.command_endings.specs.declared.endings.Ending.TheVariants.{Positive, Negative, Refused, OutsideFault, NoMemory}
use Rattle.input_letters.specs.Traces.{most_input, AreEvents, trace_refusal, line_refusal}
use Rattle.input_letters.specs.Letters.{FoundLetter, FoundEnd, next_refusal, NextLetter, GivesTrace, HasTraceCause}

-- these letters came, and the lines to come are those that the reader still finds
pub record SoFar (names : List (List ℕ)) (rest : List ℕ) (reader : Reader) (left : Option (List ℕ)) (word : List ℕ) : Type 0 where
  pub bytes : List ℕ
  pub lines : List (List ℕ)
  pub whole : input reader left ≡ Some bytes
  pub events : AreEvents names lines word
  pub others : (later : List (List ℕ)) (stop : Stop) → Remains reader bytes later stop → HasLines most_input rest (lines ++ later) stop
  pub last : reader.phase ≡ Closed → bytes ≡ []

AreEvents-append : (names ls : List (List ℕ)) (w : List ℕ) (text : List ℕ) (letter : ℕ) → AreEvents names ls w → IsEventOf names Ignore text letter
    → AreEvents names (ls ++ text ∷ []) (w ++ letter ∷ [])
AreEvents-append names [] [] text letter h e = (e, tt)
AreEvents-append names [] (a ∷ w) text letter h e = absurd h
AreEvents-append names (l ∷ ls) [] text letter h e = absurd h
AreEvents-append names (l ∷ ls) (a ∷ w) text letter h e = (h.0, AreEvents-append names ls w text letter h.1 e)

-- lines that are events are not what is refused first
pub refusal-after : (names ls : List (List ℕ)) (w : List ℕ) (n : ℕ) (later : List (List ℕ)) (stop : Stop) → AreEvents names ls w
    → trace_refusal names n (ls ++ later) stop ≡ trace_refusal names (n + length w) later stop
refusal-after names [] [] n later stop h = ap (λ k. trace_refusal names k later stop) (omega arith)
refusal-after names [] (a ∷ w) n later stop h = absurd h
refusal-after names (l ∷ ls) [] n later stop h = absurd h
refusal-after names (l ∷ ls) (a ∷ w) n later stop h =
    ap (λ o. line_refusal n o (trace_refusal names (n + 1) (ls ++ later) stop)) h.0.admitted
    ∙ refusal-after names ls w (n + 1) later stop h.1
    ∙ ap (λ k. trace_refusal names k later stop) (omega arith)

-- the next refusal is the first one
line-first : (n : ℕ) (fault : Option EventFault) (later : Option Refusal) (r : Refusal) → line_refusal n fault None ≡ Some r → line_refusal n fault later ≡ Some r
line-first n None later r e = cc
line-first n (Some fault) later r e = e

first-refusal : (names lines : List (List ℕ)) (n : ℕ) (stop : Stop) (r : Refusal) → next_refusal names n lines stop ≡ Some r → trace_refusal names n lines stop ≡ Some r
first-refusal names [] n stop r e = e
first-refusal names (text ∷ lines) n stop r e = line-first n (event_fault names Ignore text) (trace_refusal names (n + 1) lines stop) r e

-- where no byte is held or left, none is left
pub nothing-left : (held : List ℕ) (left : Option (List ℕ)) → prepend_known held left ≡ Some [] → left ≡ Some []
nothing-left held None e = cc
nothing-left [] (Some xs) e = e
nothing-left (b ∷ held) (Some xs) e = cc

-- before the first call no letter has come
pub start : (names : List (List ℕ)) (rest : List ℕ) (reader : Reader) (left : Option (List ℕ)) (word : List ℕ) → reader ≡ fresh most_input → word ≡ [] → left ≡ Some rest
    → SoFar names rest reader left word
start names rest reader left word r w told =
    let fresh-one : SoFar names rest (fresh most_input) left [] = record {
      bytes = rest;
      lines = [];
      whole = ap (prepend_known []) told;
      events = tt;
      others = λ later stop r. r;
      last = λ closed. cc;
    } in
    subst (λ v. SoFar names rest reader left v) (sym w) (subst (λ r. SoFar names rest r left []) (sym r) fresh-one)

module _ (names : List (List ℕ)) (rest : List ℕ) (reader new : Reader) (left later : Option (List ℕ)) (word : List ℕ) where
  more : (letter : ℕ) → (s : SoFar names rest reader left word) → FoundLetter names reader s.bytes letter new later → SoFar names rest new later (word ++ letter ∷ [])
  more letter s f = record {
    bytes = f.later;
    lines = s.lines ++ f.text ∷ [];
    whole = f.rest;
    events = AreEvents-append names s.lines word f.text letter s.events f.event;
    others = λ ls stop r. subst (λ l. HasLines most_input rest l stop) (sym (append_assoc s.lines (f.text ∷ []) ls)) (s.others (f.text ∷ ls) stop (f.others ls stop r));
    last = f.last;
  }

  -- one more letter was found
  pub more-letters : (n letter : ℕ) (r : Result (Option ℕ) Ending) → ((bytes : List ℕ) → input reader left ≡ Some bytes → NextLetter names n reader bytes r new later)
      → r ≡ Ok (Some letter) → SoFar names rest reader left word → SoFar names rest new later (word ++ letter ∷ [])
  more-letters n letter r next e s = more letter s (subst (λ q. NextLetter names n reader s.bytes q new later) e (next s.bytes s.whole))

  ended : (s : SoFar names rest reader left word) → FoundEnd reader s.bytes new later → GivesTrace names rest (Ok word) later
  ended s f =
      let nil : s.bytes ≡ [] = elim f.why [ inl closed ↦ s.last closed | inr nil ↦ nil ] in (
        nothing-left new.held later (f.rest ∙ ap Some nil),
        (s.lines, subst (λ l. HasLines most_input rest l at_end) (append-nil s.lines) (s.others [] at_end f.ended), s.events),
      )

  -- the end was found, so these are all the letters
  pub all-letters : (n : ℕ) (r : Result (Option ℕ) Ending) → ((bytes : List ℕ) → input reader left ≡ Some bytes → NextLetter names n reader bytes r new later)
      → r ≡ Ok None → SoFar names rest reader left word → GivesTrace names rest (Ok word) later
  all-letters n r next e s = ended s (subst (λ q. NextLetter names n reader s.bytes q new later) e (next s.bytes s.whole))

  stops : (n : ℕ) (ending : Ending) → n ≡ length word + 1 → (s : SoFar names rest reader left word) → NextLetter names n reader s.bytes (Err ending) new later → GivesTrace names rest (Err ending) later
  stops n Positive is s f = tt
  stops n Negative is s f = tt
  stops n OutsideFault is s f = tt
  stops n NoMemory is s f = tt
  stops n (Refused r) is s f =
      let k : 1 + length word ≡ n = omega (arith, is) in (
        s.lines ++ f.lines,
        f.stop,
        s.others f.lines f.stop f.remain,
        refusal-after names s.lines word 1 f.lines f.stop s.events ∙ ap (λ k. trace_refusal names k f.lines f.stop) k
            ∙ first-refusal names f.lines n f.stop r f.first,
      )

  -- the next line was refused, or the lines stop
  pub letters-stopped : (n : ℕ) (ending : Ending) (r : Result (Option ℕ) Ending) → n ≡ length word + 1
      → ((bytes : List ℕ) → input reader left ≡ Some bytes → NextLetter names n reader bytes r new later)
      → r ≡ Err ending → SoFar names rest reader left word → GivesTrace names rest (Err ending) later
  letters-stopped n ending r is next e s = stops n ending is s (subst (λ q. NextLetter names n reader s.bytes q new later) e (next s.bytes s.whole))

-- the cause of an ending that a call hands on
pub same-cause : (first before now : ℕ) (r : Result (Option ℕ) Ending) (ending : Ending) → HasTraceCause before now r → before ≡ first → r ≡ Err ending
    → HasTraceCause {T = List ℕ} first now (Err ending)
same-cause first before now r ending h e is = of ending (subst (HasTraceCause before now) is h) e where
  of : (ending : Ending) → HasTraceCause {T = Option ℕ} before now (Err ending) → before ≡ first → HasTraceCause {T = List ℕ} first now (Err ending)
  of Positive h e = h
  of Negative h e = h
  of OutsideFault h e = subst (λ k. Rose k now) e h
  of (Refused r) h e = h ∙ e
  of NoMemory h e = h ∙ e

-- a letter was found, so the count stands
pub same-faults : (before now letter : ℕ) (r : Result (Option ℕ) Ending) → HasTraceCause before now r → r ≡ Ok (Some letter) → now ≡ before
same-faults before now letter r h e = subst (HasTraceCause before now) e h

-- a letter was found, so fewer bytes are allowed
pub falls : (before now letter : ℕ) (r : Result (Option ℕ) Ending) → IfOk r (λ found. IsSome found → now < before) → r ≡ Ok (Some letter) → now < before
falls before now letter r h e = subst (λ q. IfOk q (λ found. IsSome found → now < before)) e h refl

-- where all lines are events and the input ends, nothing is refused
pub not-refused : (names ls : List (List ℕ)) (w : List ℕ) (n : ℕ) → AreEvents names ls w → trace_refusal names n ls at_end ≡ None
not-refused names [] w n h = refl
not-refused names (l ∷ ls) [] n h = absurd h
not-refused names (l ∷ ls) (a ∷ w) n h =
    ap (λ o. line_refusal n o (trace_refusal names (n + 1) ls at_end)) h.0.admitted ∙ not-refused names ls w (n + 1) h.1
