-- The operators of formulas by how many operands they have: the formulas that they make, and what they say of words.
use Rattle.std.specs.Prelude.{Bool, true, false, not, ◌&&◌, ◌||◌}
use Rattle.forms.specs.Word.{Claim, every_suffix}
use Rattle.forms.specs.Operators as claims
use Rattle.forms.specs.Paths.{WordRelation, reaches}
use Rattle.forms.specs.Tree.{Formula, Program}
use Rattle.forms.specs.Tree as form
use Rattle.translate.specs.declared.operation.Unary.{Unary}
use Rattle.translate.specs.declared.operation.Binary.{Binary}
use Rattle.translate.specs.declared.operation.Modal.{Modal}
use Rattle.translate.specs.declared.operation.Unary.TheVariants.{Not, Next, WeakNext, Eventually, Always}
use Rattle.translate.specs.declared.operation.Binary.TheVariants.{And, Or, Implies, Iff, Until, Release}
use Rattle.translate.specs.declared.operation.Modal.TheVariants.{Diamond, BoxAll}

-- true or false
abbrev pub constant_form : Bool → Formula
constant_form true = form.True
constant_form false = form.False

-- the formula of an operator of one formula
abbrev pub unary_form : Unary → Formula → Formula
unary_form Not f = form.Not f
unary_form Next f = form.Next f
unary_form WeakNext f = form.WeakNext f
unary_form Eventually f = form.Eventually f
unary_form Always f = form.Always f

-- what it says of words, by what its operand says
abbrev pub unary_claim : Unary → Claim → Claim
unary_claim Not f = λ w. not (f w)
unary_claim Next f = claims.next f
unary_claim WeakNext f = claims.weak_next f
unary_claim Eventually f = claims.eventually f
unary_claim Always f = claims.always f

-- the formula of an operator of two formulas
abbrev pub binary_form : Binary → Formula → Formula → Formula
binary_form And f g = form.And f g
binary_form Or f g = form.Or f g
binary_form Implies f g = form.Implies f g
binary_form Iff f g = form.Iff f g
binary_form Until f g = form.Until f g
binary_form Release f g = form.Release f g

-- what it says of words, by what its operands say
abbrev pub binary_claim : Binary → Claim → Claim → Claim
binary_claim And f g = λ w. f w && g w
binary_claim Or f g = λ w. f w || g w
binary_claim Implies f g = λ w. not (f w) || g w
binary_claim Iff f g = λ w. claims.agree (f w) (g w)
binary_claim Until f g = claims.until f g
binary_claim Release f g = claims.release f g

-- the formula of an operator of a path and a formula
abbrev pub modal_form : Modal → Program → Formula → Formula
modal_form Diamond p f = form.Diamond p f
modal_form BoxAll p f = form.BoxAll p f

-- every suffix to which the relation leads has f
abbrev pub box_claim : WordRelation → Claim → Claim
box_claim q f = λ u. every_suffix (λ v. not (q u v) || f v) u

-- what it says of words, by where the path leads and what the formula says
abbrev pub modal_claim : Modal → WordRelation → Claim → Claim
modal_claim Diamond q f = reaches q f
modal_claim BoxAll q f = box_claim q f
