-- What an answer says of a text.
use Rattle.std.specs.Prelude.{◌≡◌, Result, Ok, Err}
use Rattle.forms.specs.declared.form.Form.{Form}
use Rattle.forms.specs.Tree.{Formula, tree}
use Rattle.form_reader.specs.declared.fault.FormFault.{FormFault}
use Rattle.form_reader.specs.declared.fault.FormFault.TheVariants as faults

-- the fault has the cause, unless memory ran out
abbrev pub Blames : FormFault → Type 0 → Type 0
Blames faults.Memory cause = Unit {0}
Blames _ cause = cause

-- the form or the fault is the outcome, unless memory ran out
abbrev pub Answers : Result Form FormFault → Result Formula FormFault → Type 0
Answers (Ok f) outcome = outcome ≡ Ok (tree f)
Answers (Err e) outcome = Blames e (outcome ≡ Err e)
