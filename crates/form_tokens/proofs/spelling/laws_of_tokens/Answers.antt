use Rattle.form_tokens.proofs.Signs.{piece_at-longest}
use Rattle.form_tokens.proofs.spelling.laws_of_tokens.Goals as goal

pub returns : goal.returns
returns c = piece_at-longest
