use Rattle.std.proofs.Common.{◌∙◌, ap}
use Rattle.forms.specs.Tree.{tree}
use Rattle.translate_command.specs.AutomatonText.{automaton_text}
use Rattle.translate_command.proofs.TranslationLemmas.{translation_of}
use Rattle.translate_command.proofs.translation.translation_text.Goals as goal

pub returns : goal.returns
returns c =
    let names = c.args.names.now.names in
    let f = tree c.args.form.now in
    let made = c.in_ok-made.made in
    translation_of c.in_ok-store.store.props names f c.translate.new.store made.whole made.counts c.in_ok-words.words c.in_ok-table.table c.in_ok-text.text
    (c.in_ok-store.ensures.props ∙ c.len.ensures.value) c.in_ok-made.ensures.keeps.extends.props
    c.in_ok-made.ensures.counts c.in_ok-made.ensures.within c.in_ok-made.ensures.whole c.in_ok-made.ensures.whole_within
    c.in_ok-table.ensures c.in_ok-words.ensures.telling
    (c.in_ok-text.ensures ∙ ap (λ size. automaton_text names f made.counts size c.in_ok-table.table c.in_ok-words.words) c.size.ensures.size)
