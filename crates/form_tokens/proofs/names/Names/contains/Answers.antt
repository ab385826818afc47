use Rattle.std.proofs.Common.{ap, ◌∙◌}
use Rattle.std.specs.Option.{is_some}
use Rattle.std.specs.Str.{bytes_eq}
use Rattle.form_tokens.proofs.NamesLemmas.{is_some-position}
use Rattle.form_tokens.proofs.names.Names.contains.Goals as goal

pub returns : goal.returns
returns c = c.is_some.ensures ∙ ap is_some c.find.ensures ∙ is_some-position (bytes_eq c.args.name.now) c.args.self.now.names
