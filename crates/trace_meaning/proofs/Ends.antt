-- At the end of the word a path leads to the end alone.
use Rattle.std.proofs.Common.{◌≡◌, [], refl}
use Rattle.std.specs.Prelude.{◌&&◌}
use Rattle.forms.specs.Word.{Claim}
use Rattle.forms.specs.Paths.{WordRelation, reaches}
use Rattle.forms.proofs.Further.{reaches_further-empty}

-- at the end of the word a claim is reached where the relation stays and the claim holds
pub reaches-end : (q : WordRelation) (k : Claim) → reaches q k [] ≡ (q [] [] && k [])
unfolding reaches
reaches-end q k = refl

-- what is reached at the end of the word
pub ruleset ends = (reaches-end, reaches_further-empty)
