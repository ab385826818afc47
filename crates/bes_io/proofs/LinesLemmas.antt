-- Each input has lines and a stop, and in one way.
use Rattle.std.proofs.Common.{◌≡◌, ℕ, zero, suc, ◌+◌, ◌-◌, ◌≤◌, ◌<◌, ◌∷◌, List, [], length, arith, refl, ap, Bool, Result, Ok, Err, length-drop}
use Rattle.std.specs.List.{after_first, position_or_len}
use Rattle.bes_io.specs.Bytes.{is_lf}
use Rattle.bes_io.specs.Reader.{Reader, next_of, first_line, line_len, allowed}
use Rattle.bes_io.specs.Lines.{Stop, at_end, at_fault, HasLines, ended, faulty, line, Remains, RemainsAt}
use Rattle.bes_io.specs.declared.lines.Found.{Found}
use Rattle.bes_io.specs.declared.lines.Found.TheVariants.{Line, End}
use Rattle.bes_io.specs.declared.lines.LineFault.{LineFault}
use Rattle.bes_io.specs.declared.lines.LineFault.TheVariants.{LineTooLong, InputTooLong}
use Rattle.bes_io.specs.declared.lines.Phase.{Phase}
use Rattle.bes_io.specs.declared.lines.Phase.TheVariants.{Reading, Closed, StoppedAtLine, StoppedAtInput}

-- what follows the first byte that passes is shorter than bytes that are not empty
after_first-falls : (p : ℕ → Bool) (x : ℕ) (xs : List ℕ) → length (after_first p (x ∷ xs)) ≤ length xs
after_first-falls p x xs = omega (arith, length-drop (position_or_len p (x ∷ xs) + 1) (x ∷ xs))

-- some lines and a stop of these bytes
pub record SomeLines (most : ℕ) (bytes : List ℕ) : Type 0 where
  pub lines : List (List ℕ)
  pub stop : Stop
  pub has : HasLines most bytes lines stop

-- one step of the next lemma
some-step : (most : ℕ) (bytes : List ℕ) → ((m : ℕ) (bs : List ℕ) → length bs < length bytes → SomeLines m bs)
    → (r : Result Found LineFault) → next_of most bytes ≡ r → SomeLines most bytes
some-step most bytes later (Err fault) e = record { lines = []; stop = at_fault fault; has = faulty e }
some-step most bytes later (Ok End) e = record { lines = []; stop = at_end; has = ended e }
some-step most [] later (Ok Line) e = cc
some-step most (b ∷ bytes) later (Ok Line) e =
    let h = after_first-falls is_lf b bytes in
    let rest : SomeLines (most - line_len (b ∷ bytes)) (after_first is_lf (b ∷ bytes)) = later _ (after_first is_lf (b ∷ bytes)) (omega arith) in
    record { lines = first_line (b ∷ bytes) ∷ rest.lines; stop = rest.stop; has = line e rest.has }

-- bytes have lines and a stop
pub some-lines : (n most : ℕ) (bytes : List ℕ) → length bytes ≤ n → SomeLines most bytes
some-lines zero most bytes small = some-step most bytes (λ m bs h. absurd (omega arith)) (next_of most bytes) refl
some-lines (suc n) most bytes small = some-step most bytes (λ m bs h. some-lines n m bs (omega arith)) (next_of most bytes) refl

-- the lines and the stop that remain at a reader
pub record SomeRemain (reader : Reader) (bytes : List ℕ) : Type 0 where
  pub lines : List (List ℕ)
  pub stop : Stop
  pub remain : Remains reader bytes lines stop

-- the same by the phase alone
remain-at : (phase : Phase) (most : ℕ) (bytes : List ℕ) → (lines : List (List ℕ)) × (stop : Stop) × RemainsAt phase most bytes lines stop
remain-at Reading most bytes = let s = some-lines (length bytes) most bytes (omega arith) in (s.lines, s.stop, s.has)
remain-at Closed most bytes = ([], at_end, (refl, refl))
remain-at StoppedAtLine most bytes = ([], at_fault LineTooLong, (refl, refl))
remain-at StoppedAtInput most bytes = ([], at_fault InputTooLong, (refl, refl))

-- some lines and a stop remain at a reader
pub some-remain : (reader : Reader) (bytes : List ℕ) → SomeRemain reader bytes
some-remain reader bytes = let r = remain-at reader.phase (allowed reader) bytes in record { lines = r.0; stop = r.1; remain = r.2 }

-- bytes have their lines in one way
pub one-reading : {most : ℕ} {bytes : List ℕ} {ls ks : List (List ℕ)} {s t : Stop} → HasLines most bytes ls s → HasLines most bytes ks t → (ls ≡ ks) × (s ≡ t)
one-reading (ended e) (ended f) = (refl, refl)
one-reading (ended e) (faulty f) = cc
one-reading (ended e) (line f h) = cc
one-reading (faulty e) (ended f) = cc
one-reading (faulty e) (faulty f) = (refl, cc)
one-reading (faulty e) (line f h) = cc
one-reading (line e h) (ended f) = cc
one-reading (line e h) (faulty f) = cc
one-reading {bytes = bytes} (line e h) (line f k) = let r = one-reading h k in (ap (λ l. first_line bytes ∷ l) r.0, r.1)
