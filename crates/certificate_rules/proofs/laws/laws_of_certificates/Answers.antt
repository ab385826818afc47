use Rattle.certificate_rules.proofs.RightLemmas.{right_of_valid}
use Rattle.certificate_rules.proofs.Valid.{valid_of_true}
use Rattle.certificate_rules.proofs.FailureLemmas.{failing, first_is_one}
use Rattle.certificate_rules.proofs.laws.laws_of_certificates.Goals as goal

pub returns : goal.returns
returns c = record {
  right = right_of_valid;
  valid = valid_of_true;
  not_valid = failing;
  one = first_is_one;
}
