-- A file that is read up to one byte more than a specification may have.
use Rattle.std.proofs.Common.{◌≡◌, ◌<◌, ◌≤◌, ◌+◌, ℕ, List, Option, Some, None, Err, inl, inr, refl, sym, ◌∙◌, ap, subst, arith, length, length-append, true, cond, nat_lt}
use Rattle.std.specs.Prelude.{take}
use Rattle.std.specs.Option.{option_map}
use Rattle.std.proofs.lemmas.Bool.{cases_lt, lt-ltb}
use Rattle.std.proofs.lemmas.List.{take_all, length-take-le}
use Rattle.forms.specs.declared.partition.Mover.{Mover}
use Rattle.forms.specs.declared.partition.Mover.TheVariants.{Agent, Environment}
use Rattle.game.specs.Board.{width}
use Rattle.spec_lines.specs.Lines.{counted_lines}
use Rattle.spec_lines.specs.Keywords.{heading_of}
use Rattle.spec_reader.specs.declared.spec.SpecFault.{SpecFault}
use Rattle.spec_reader.specs.declared.spec.SpecFault.TheVariants as fault
use Rattle.spec_reader.specs.Shared.{first_names, longest_text}
use Rattle.spec_reader.specs.Specification.{Specification, IsSpecificationOf}
use Rattle.spec_reader.specs.Refusal.{first_refusal, after_heading, Blames}
use Rattle.command_endings.specs.Worlds.{Contents}
use Rattle.synth_command.specs.Synthesis.{specification_ending, FileHolds, ReadsTo, FailsSo}

-- a text that may have so many bytes, and its front with more
module _ (most more : ℕ) (few : most < more) (text : List ℕ) where
  -- the front is refused as the text is
  front-refused : (later : List ℕ → Option SpecFault)
      → cond (nat_lt most (length (take more text))) (Some fault.TooLong) (later (take more text)) ≡ cond (nat_lt most (length text)) (Some fault.TooLong) (later text)
  front-refused later = elim (cases_lt more (length text)) [
    | inl l ↦
        let e = length-take-le more text (omega (arith, l)) in
        let front : nat_lt most (length (take more text)) ≡ true = lt-ltb most (length (take more text)) (omega (arith, e, few)) in
        let whole : nat_lt most (length text) ≡ true = lt-ltb most (length text) (omega (arith, l, few)) in
        rw (front, whole) refl
    | inr h ↦ ap (λ z. cond (nat_lt most (length z)) (Some fault.TooLong) (later z)) (take_all more text h)
  ]

  -- a front that is short enough is the whole
  front-whole : length (take more text) ≤ most → take more text ≡ text
  front-whole short = elim (cases_lt more (length text)) [
    | inl l ↦ let e = length-take-le more text (omega (arith, l)) in absurd (omega (arith, e, few, short))
    | inr h ↦ take_all more text h
  ]

module _ (more : ℕ) (few : longest_text < more) where
  refusal-front : (text : List ℕ) → first_refusal (take more text) ≡ first_refusal text
  refusal-front text = front-refused longest_text more few text (λ z. after_heading (heading_of (counted_lines z)) (counted_lines z))

  specification-front : (text : List ℕ) (spec : Specification) → IsSpecificationOf (take more text) spec → IsSpecificationOf text spec
  specification-front text spec is = subst (λ z. IsSpecificationOf z spec) (front-whole longest_text more few text is.short) is

  module _ (told : Option Contents) (name text : List ℕ) (read : (files : Contents) → told ≡ Some files → option_map (take more) (files name) ≡ Some text) where
    -- the file whose front was read
    file-read : FileHolds told name (λ bytes. take more bytes ≡ text)
    file-read contents e = front-of (contents name) (read contents e)
      where
        front-of : (o : Option (List ℕ)) → option_map (take more) o ≡ Some text → (bytes : List ℕ) × (o ≡ Some bytes) × (take more bytes ≡ text)
        front-of None same = absurd (cc)
        front-of (Some bytes) same = (bytes, refl, (let front : take more bytes ≡ text = cc in front))

    pub file-specification : (spec : Specification) → IsSpecificationOf text spec → FileHolds told name (λ bytes. IsSpecificationOf bytes spec)
    file-specification spec is contents e =
        let f = file-read contents e in
        (f.0, f.1, specification-front f.0 spec (subst (λ z. IsSpecificationOf z spec) (sym f.2) is))

    file-refusal : (why : SpecFault) → first_refusal text ≡ Some why → FileHolds told name (λ bytes. first_refusal bytes ≡ Some why)
    file-refusal why is contents e =
        let f = file-read contents e in
        (f.0, f.1, sym (refusal-front f.0) ∙ ap first_refusal f.2 ∙ is)

    -- how a run ends whose specification is refused
    pub reads-to : (why : SpecFault) → Blames why (first_refusal text ≡ Some why) → ReadsTo told name (specification_ending why)
    reads-to fault.Memory is = tt
    reads-to fault.TooLong is = (fault.TooLong, refl, file-refusal fault.TooLong is)
    reads-to (fault.UnknownKey line) is = (fault.UnknownKey line, refl, file-refusal (fault.UnknownKey line) is)
    reads-to (fault.Repeated line) is = (fault.Repeated line, refl, file-refusal (fault.Repeated line) is)
    reads-to (fault.BadName line) is = (fault.BadName line, refl, file-refusal (fault.BadName line) is)
    reads-to (fault.NameTwice line) is = (fault.NameTwice line, refl, file-refusal (fault.NameTwice line) is)
    reads-to (fault.TooManyNames line) is = (fault.TooManyNames line, refl, file-refusal (fault.TooManyNames line) is)
    reads-to (fault.BadValue line) is = (fault.BadValue line, refl, file-refusal (fault.BadValue line) is)
    reads-to (fault.Missing key) is = (fault.Missing key, refl, file-refusal (fault.Missing key) is)
    reads-to (fault.Form line form) is = (fault.Form line form, refl, file-refusal (fault.Form line form) is)
    reads-to (fault.TooManyLines line) is = (fault.TooManyLines line, refl, file-refusal (fault.TooManyLines line) is)

names-of : (first : Mover) (inputs outputs : List (List ℕ)) → length (first_names first inputs outputs) ≡ length inputs + length outputs
names-of Agent inputs outputs = let e = length-append outputs inputs in omega (arith, e)
names-of Environment inputs outputs = length-append inputs outputs

-- a specification has as many names as propositions
pub specification-named : (text : List ℕ) (spec : Specification) → IsSpecificationOf text spec → width spec.partition ≡ length spec.names
specification-named text spec is =
    let lines = is.lines in
    let e = ap length lines.numbered ∙ names-of spec.partition.first lines.inputs lines.outputs in
    let i = lines.input_count in
    let o = lines.output_count in
    omega (arith, e, i, o)

-- a file whose specification is refused did not fail
pub refused-sound : (why : SpecFault) (before : List (List ℕ)) (name : List ℕ) (after : List (List ℕ)) → after ≡ before → FailsSo (Err (specification_ending why)) before name after
refused-sound fault.Memory before name after same = same
refused-sound fault.TooLong before name after same = same
refused-sound (fault.UnknownKey line) before name after same = same
refused-sound (fault.Repeated line) before name after same = same
refused-sound (fault.BadName line) before name after same = same
refused-sound (fault.NameTwice line) before name after same = same
refused-sound (fault.TooManyNames line) before name after same = same
refused-sound (fault.BadValue line) before name after same = same
refused-sound (fault.Missing key) before name after same = same
refused-sound (fault.Form line form) before name after same = same
refused-sound (fault.TooManyLines line) before name after same = same
