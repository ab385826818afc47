use Rattle.std.proofs.Common.{◌+◌, ◌≤◌, length, arith}
use Rattle.std.proofs.lemmas.List.{length-drop}
use Rattle.form_tokens.proofs.Pieces.{IsNamed-at}
use Rattle.form_tokens.proofs.spelling.piece_at.Goals as goal

pub returns-then-begins_word-clause-within : goal.returns-then-begins_word-clause-within
returns-then-begins_word-clause-within c =
    let to : c.args.at + c.word_at-lexeme.result.1 ≤ length c.args.text.now = grind (arith, length-drop) in
    (omega arith, to, IsNamed-at c.args.text.now c.args.at c.word_at-lexeme.result.1 c.word_at-lexeme.result.0 c.word_at-lexeme.ensures.named)
