-- What an answer says of a text.
use Rattle.std.specs.Prelude.{◌≡◌, length, Result, Ok, Err}
use Rattle.std.specs.Option.{IfSome}
use Rattle.forms.specs.Proper.{IsProper}
use Rattle.form_reader.specs.declared.fault.FormFault.{FormFault}
use Rattle.form_reader.specs.declared.fault.FormFault.TheVariants as form_faults
use Rattle.spec_reader.specs.declared.spec.Spec.{Spec}
use Rattle.spec_reader.specs.declared.spec.SpecFault.{SpecFault}
use Rattle.spec_reader.specs.declared.spec.SpecFault.TheVariants as fault
use Rattle.spec_reader.specs.Specification.{Specification, plain}

-- the answer is this specification, or memory ran out
abbrev pub Gives : Result Spec SpecFault → Specification → Type 0
Gives (Ok spec) specification = plain spec ≡ specification
Gives (Err fault.Memory) specification = Unit {0}
Gives (Err e) specification = ⊥

-- each formula of a specification has just names of it
pub record AreProper (spec : Specification) : Type 0 where
  pub assume : IfSome spec.assume (IsProper (length spec.names))
  pub goal : IsProper (length spec.names) spec.goal
  pub duty : IfSome spec.duty (IsProper (length spec.names))

-- the fault of a formula may come where every name has to be declared: it isn't a name too many, nor want of memory
abbrev pub IsOfDeclared : FormFault → Type 0
IsOfDeclared (form_faults.TooManyNames at) = ⊥
IsOfDeclared form_faults.Memory = ⊥
IsOfDeclared e = Unit {0}

-- a fault of a formula is one of these
abbrev pub CanBeTold : SpecFault → Type 0
CanBeTold (fault.Form line e) = IsOfDeclared e
CanBeTold e = Unit {0}
