use Rattle.distinguish.proofs.Few.{telling_words_are_few}
use Rattle.distinguish.proofs.Unique.{telling_list_is_unique}
use Rattle.distinguish.proofs.laws.laws_of_telling_words.Goals as goal

pub returns : goal.returns
returns c = record { few = telling_words_are_few; unique = telling_list_is_unique }
