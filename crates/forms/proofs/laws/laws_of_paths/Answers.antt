use Rattle.forms.proofs.PathRelation.{step_goes, test_goes, seq_goes, star_goes, star_is_closure, goes_to_suffixes}
use Rattle.forms.proofs.laws.laws_of_paths.Goals as goal

pub returns-clause-step : goal.returns-clause-step
returns-clause-step c = step_goes

pub returns-clause-test : goal.returns-clause-test
returns-clause-test c = test_goes

pub returns-clause-seq : goal.returns-clause-seq
returns-clause-seq c = seq_goes

pub returns-clause-star : goal.returns-clause-star
returns-clause-star c = star_goes

pub returns-clause-star_is_closure : goal.returns-clause-star_is_closure
returns-clause-star_is_closure c = star_is_closure

pub returns-clause-suffixes_alone : goal.returns-clause-suffixes_alone
returns-clause-suffixes_alone c = goes_to_suffixes
