use Rattle.std.proofs.Common.{sym, ap, ◌∙◌, position}
use Rattle.std.specs.Str.{bytes_eq}
use Rattle.form_tokens.specs.Names.{Table}
use Rattle.form_tokens.proofs.NamesLemmas.{position-map}
use Rattle.form_tokens.proofs.names.Names.find.Goals as goal

pub returns-in-Some : goal.returns-in-Some
returns-in-Some c =
    c.in-Some.ensures.index ∙ sym (position-map (bytes_eq c.args.name.now) (λ v. v.items) c.self.inside.list.keys) ∙ ap (λ (t : Table). position (bytes_eq c.args.name.now) t.names) c.self.view_is

pub returns-in-None : goal.returns-in-None
returns-in-None c =
    c.in-None.ensures.index ∙ sym (position-map (bytes_eq c.args.name.now) (λ v. v.items) c.self.inside.list.keys) ∙ ap (λ (t : Table). position (bytes_eq c.args.name.now) t.names) c.self.view_is
