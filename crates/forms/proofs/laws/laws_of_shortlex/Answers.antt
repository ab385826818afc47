use Rattle.forms.proofs.ShortlexLemmas.{before-shorter, before-letter, before-not_itself, before-trans, before-total}
use Rattle.forms.proofs.laws.laws_of_shortlex.Goals as goal

pub returns : goal.returns
returns c = record {
  shorter = before-shorter;
  lesser_letter = before-letter;
  never_itself = before-not_itself;
  transitive = before-trans;
  total = before-total;
}
