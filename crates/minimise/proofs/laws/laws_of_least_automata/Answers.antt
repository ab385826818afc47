use Rattle.minimise.proofs.Counts.{size_is_class_count}
use Rattle.minimise.proofs.Once.{class_count_is_one}
use Rattle.minimise.proofs.Unique.{least_is_unique}
use Rattle.minimise.proofs.Smallest.{least_is_smallest}
use Rattle.minimise.proofs.laws.laws_of_least_automata.Goals as goal

pub returns : goal.returns
returns c = record {
  count = size_is_class_count;
  one = class_count_is_one;
  unique = least_is_unique;
  smallest = least_is_smallest;
}
