-- Where paths lead from each position of a block: further to a good position, and to the position itself.
use Rattle.std.specs.Prelude.{List, Bool, false}
use Rattle.trace_meaning.specs.declared.operator.Unary.TheVariants as unary
use Rattle.trace_meaning.specs.declared.operator.Binary.TheVariants as binary
use Rattle.trace_meaning.specs.declared.node.Lead.{Lead}
use Rattle.trace_meaning.specs.Column.{handed, changed, column}

-- both at each position
abbrev pub both : List Bool → List Bool → List Bool
both xs ys = column binary.And false xs ys

-- one or both at each position
abbrev pub one_of : List Bool → List Bool → List Bool
one_of xs ys = column binary.Or false xs ys

-- whether a path leads to a good position, `good` saying which positions are
abbrev pub through : List Bool → List Bool → List Bool → List Bool
through further stays good = one_of (both good stays) further

-- whether the path that leads so from the next position leads to a good one from there
abbrev pub rest_of : Lead → List Bool → List Bool → List Bool → List Bool
rest_of next further stays later =
    one_of (both (changed unary.Next next.stays stays) later) (changed unary.Next next.further further)

-- where the path leads from the first position, `next` being where it leads from the one after the block
abbrev pub first_lead : Lead → List Bool → List Bool → Lead
first_lead next further stays =
    record { further = handed unary.Next next.further further; stays = handed unary.Next next.stays stays }
