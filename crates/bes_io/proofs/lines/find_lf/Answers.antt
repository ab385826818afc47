use Rattle.std.proofs.Common.{subst, drop}
use Rattle.memchr.specs.Find.{IsFirstByte, is_byte}
use Rattle.bes_io.proofs.Deciding.{position-past, position-nowhere, take-drop_rest}
use Rattle.bes_io.proofs.lines.find_lf.Goals as goal

pub returns-in-Some : goal.returns-in-Some
returns-in-Some c =
    let s = c.args.searched in let bytes = c.args.bytes.now in
    position-past s c.in-Some.place bytes c.requires.within c.requires.none
    (subst (IsFirstByte (is_byte 10) (drop s bytes)) c.in-Some.is (subst (λ xs. IsFirstByte (is_byte 10) xs c.memchr.result) (take-drop_rest s bytes) c.memchr.ensures))

pub returns-in-None : goal.returns-in-None
returns-in-None c =
    let s = c.args.searched in let bytes = c.args.bytes.now in
    position-nowhere s bytes c.requires.within c.requires.none
    (subst (IsFirstByte (is_byte 10) (drop s bytes)) c.in-None.is (subst (λ xs. IsFirstByte (is_byte 10) xs c.memchr.result) (take-drop_rest s bytes) c.memchr.ensures))
