-- A printed text is read back within the limits.
use Rattle.std.proofs.Common.{◌≡◌, ℕ, ◌+◌, ◌≤◌, List, [], ◌∷◌, refl, sym, arith, Bool, true, false, subst, length, nat_le, append-nil}
use Rattle.std.proofs.lemmas.Bool.{lt-leb}
use Rattle.form_tokens.specs.Spelling.{Lexeme, Sign, Word, Bad, lexemes}
use Rattle.form_reader.specs.Grammar.{IsText}
use Rattle.form_reader.specs.Faults.{most_tokens}
use Rattle.form_reader.specs.Reading.{tokens, is_within}
use Rattle.form_printer.specs.Printed.{printed}
use Rattle.form_printer.specs.ReadBack.{AreNumberedIn, ReadsBack, PrintedReadsBack}
use Rattle.form_tokens.specs.Names.{Table, AreNames}
use Rattle.forms.specs.Tree.{Formula}
use Rattle.forms.specs.Proper.{IsProper}
use Rattle.form_printer.proofs.Numbered.{AreNumberedIn-itself}
use Rattle.form_printer.proofs.Cuts.{AreKnown, Gives, Gives-same, Gives-nothing}
use Rattle.form_printer.proofs.Spelled.{Prints-printed}
use Rattle.form_printer.proofs.Written.{written, IsText-written}

-- known lexemes, and not too many, are within the limits
is_within-known : (closed : Bool) (ns : List (List ℕ)) (count : ℕ) (ls : List (ℕ × Lexeme)) → AreKnown ns ls → count + length ls ≤ most_tokens → is_within closed ns count ls ≡ true
is_within-known closed ns count [] known few = refl
is_within-known closed ns count ((at, Sign t) ∷ ls) known few =
    let room : nat_le most_tokens count ≡ false = lt-leb most_tokens count (omega arith) in
    rw room (is_within-known closed ns (count + 1) ls known.1 (omega arith))
is_within-known closed ns count ((at, Word w) ∷ ls) known few =
    let room : nat_le most_tokens count ≡ false = lt-leb most_tokens count (omega arith) in
    let listed = known.0 in
    rw (listed, room) (is_within-known closed ns (count + 1) ls known.1 (omega arith))
is_within-known closed ns count ((at, Bad) ∷ ls) known few = absurd known.0

-- a printed formula is read back as itself, in each dialect that has its operators, within the limits
pub printed-reads_back : PrintedReadsBack
printed-reads_back ns names f valid numbered proper d operators within =
    let p = Prints-printed d ns names.names f valid numbered proper operators in
    let g : Gives d names.names (printed ns f) (written f []) = Gives-same (sym (append-nil (printed ns f))) (p.gives [] [] tt (Gives-nothing d names.names)) in
    let e : tokens names.names (lexemes d (printed ns f)) ≡ written f [] = g.tokens 1 in
    (is_within-known names.closed names.names 0 (lexemes d (printed ns f)) (g.known 1) (omega (arith, within.few)), (subst (λ ts. IsText ts f) (sym e) (IsText-written (length ns) f proper), within.shallow))

-- the text is read back by its names
pub text-reads_back : (text : List ℕ) (names : Table) (f : Formula) → AreNames names.names → IsProper (length names.names) f → text ≡ printed names.names f → ReadsBack names text f
text-reads_back text names f valid proper e = subst (λ bs. ReadsBack names bs f) (sym e) (printed-reads_back names.names names f valid (AreNumberedIn-itself names.names valid) proper)

-- and by others with the same numbers
pub text-reads_elsewhere : (text : List ℕ) (ns : List (List ℕ)) (f : Formula) → AreNames ns → IsProper (length ns) f → text ≡ printed ns f → (others : Table) → AreNumberedIn ns others.names → ReadsBack others text f
text-reads_elsewhere text ns f valid proper e others numbered = subst (λ bs. ReadsBack others bs f) (sym e) (printed-reads_back ns others f valid numbered proper)
