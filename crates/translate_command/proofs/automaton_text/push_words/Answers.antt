use Rattle.std.proofs.Common.{◌++◌, sym, ◌∙◌, ap, append_assoc, add-one, refl}
use Rattle.translate_command.specs.AutomatonText.{word_line, word_lines}
use Rattle.translate_command.proofs.TextLemmas.{got_item}
use Rattle.translate_command.proofs.automaton_text.push_words.Goals as goal

pub loop-i-preserved : goal.loop-i-preserved
loop-i-preserved c =
    let words = c.args.words.now in
    let before = word_lines c.args.props words c.loop-i.i in
    c.in_ok-push_word.ensures
    ∙ ap (λ z. z ++ word_line c.args.props c.item.result.now) c.loop-i.invariant
    ∙ append_assoc c.args.text.now before (word_line c.args.props c.item.result.now)
    ∙ ap (λ z. c.args.text.now ++ (before ++ word_line c.args.props z)) (sym (got_item words c.loop-i.i c.item.result.now c.item.ensures))
    ∙ rw add-one refl
