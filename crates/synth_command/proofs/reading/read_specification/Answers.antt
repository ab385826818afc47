use Rattle.std.proofs.Common.{◌≡◌, ◌<◌, lit≤, sym, subst, Some}
use Rattle.spec_reader.specs.Shared.{longest_text}
use Rattle.spec_reader.specs.Specification.{plain, IsSpecificationOf}
use Rattle.spec_reader.specs.Refusal.{first_refusal, Blames}
use Rattle.synth_command.specs.Synthesis.{ReadsTo}
use Rattle.synth_command.proofs.FileLemmas.{file-specification, specification-named, reads-to}
use Rattle.synth_command.proofs.reading.read_specification.Goals as goal

-- one byte more is read than a specification may have
more : longest_text < 65537
more = lit≤ tt

pub returns-in-Ok-read_spec-clause-found : goal.returns-in-Ok-read_spec-clause-found
returns-in-Ok-read_spec-clause-found g c =
    file-specification 65537 more (g.F.Files.contents c.args.files.now) c.args.name.now c.in-Ok.text.items c.in-Ok.ensures.bytes (plain c.in-Ok-read_spec.spec)
    (subst (λ text. IsSpecificationOf text (plain c.in-Ok-read_spec.spec)) c.deref.ensures.value c.in-Ok-read_spec.ensures.found)

pub returns-in-Ok-read_spec-clause-named : goal.returns-in-Ok-read_spec-clause-named
returns-in-Ok-read_spec-clause-named g c = specification-named c.deref.result.now (plain c.in-Ok-read_spec.spec) c.in-Ok-read_spec.ensures.found

pub returns-in-Ok-clause-ending : goal.returns-in-Ok-clause-ending
returns-in-Ok-clause-ending g c =
    subst (ReadsTo (g.F.Files.contents c.args.files.now) c.args.name.now) (sym c.specification_ending.ensures)
    (reads-to 65537 more (g.F.Files.contents c.args.files.now) c.args.name.now c.in-Ok.text.items c.in-Ok.ensures.bytes c.in-Err.fault
    (subst (λ text. Blames c.in-Err.fault (first_refusal text ≡ Some c.in-Err.fault)) c.deref.ensures.value c.in-Err.ensures.told))
