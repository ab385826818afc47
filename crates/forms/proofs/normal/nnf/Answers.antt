use Rattle.std.proofs.Common.{◌≡◌, ℕ, sym, subst}
use Rattle.std.proofs.lemmas.Result.{IfOk-weaker}
use Rattle.forms.specs.Tree.{tree, Formula}
use Rattle.forms.specs.Satisfaction.{sat}
use Rattle.forms.specs.Word.{Word}
use Rattle.forms.specs.Proper.{IsProper}
use Rattle.forms.specs.Normal.{normal, IsNegationNormal}
use Rattle.forms.proofs.NormalLemmas.{normal_holds, normal_is_normal, normal_proper}
use Rattle.forms.proofs.normal.nnf.Goals as goal

has_shape : (f g : Formula) → g ≡ normal f → IsNegationNormal g
has_shape f g e = subst IsNegationNormal (sym e) (normal_is_normal f)

is_proper : (f g : Formula) → g ≡ normal f → (p : ℕ) → IsProper p f → IsProper p g
is_proper f g e p h = subst (IsProper p) (sym e) (normal_proper p f h)

keeps : (f g : Formula) → g ≡ normal f → (p : ℕ) (w : Word) → sat p g w ≡ sat p f w
keeps f g e p w = rw e (normal_holds p f w)

pub returns-clause-shape : goal.returns-clause-shape
returns-clause-shape c = IfOk-weaker c.normal_form.result (λ made. tree made ≡ normal (tree c.args.form.now)) (λ made. IsNegationNormal (tree made)) (λ made e. has_shape (tree c.args.form.now) (tree made) e) c.normal_form.ensures

pub returns-clause-same : goal.returns-clause-same
returns-clause-same c = IfOk-weaker c.normal_form.result (λ made. tree made ≡ normal (tree c.args.form.now)) (λ made. (p : ℕ) (w : Word) → sat p (tree made) w ≡ sat p (tree c.args.form.now) w) (λ made e. keeps (tree c.args.form.now) (tree made) e) c.normal_form.ensures

pub returns-clause-proper : goal.returns-clause-proper
returns-clause-proper c = IfOk-weaker c.normal_form.result (λ made. tree made ≡ normal (tree c.args.form.now)) (λ made. (p : ℕ) → IsProper p (tree c.args.form.now) → IsProper p (tree made)) (λ made e. is_proper (tree c.args.form.now) (tree made) e) c.normal_form.ensures
