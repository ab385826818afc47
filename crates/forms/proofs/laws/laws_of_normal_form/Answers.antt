use Rattle.forms.proofs.NormalLemmas.{normal_holds, negated_holds, normal_goes, normal_is_normal}
use Rattle.forms.proofs.laws.laws_of_normal_form.Goals as goal

pub returns : goal.returns
returns c = record {
  holds = normal_holds;
  negated = negated_holds;
  goes = normal_goes;
  shape = normal_is_normal;
}
