use Rattle.std.proofs.Common.{◌≡◌, [], drop, get_or, arith, sym, ◌∙◌, ap, cond, Some, false, ◌+◌}
use Rattle.std.specs.Str.{bytes_eq}
use Rattle.bes_io.specs.Forms.{file_at}
use Rattle.bes_io.proofs.FileLemmas.{file_at-drop, same-item}
use Rattle.bes_io.proofs.memory_files.find_text.Goals as goal

pub loop-i-preserved : goal.loop-i-preserved
loop-i-preserved c =
    let item : get_or c.args.names.now c.loop-i.i [] ≡ c.index-names-i.result = same-item c.args.names.now c.loop-i.i c.index-names-i.result (omega arith) c.index-names-i.is in
    let no-match : bytes_eq (get_or c.args.names.now c.loop-i.i []) c.args.name.now ≡ false =
    ap (λ x. bytes_eq x c.args.name.now) (item ∙ sym c.bytes.ensures) ∙ ap (bytes_eq c.bytes.result.now) (sym c.bytes-in-loop-i.ensures) ∙ sym c.eq.ensures ∙ c.if-eq.false in
    c.loop-i.invariant ∙ file_at-drop c.args.names.now c.args.contents.now c.args.name.now c.loop-i.i (omega arith) c.requires
    ∙ ap (λ b. cond b (Some (get_or c.args.contents.now c.loop-i.i [])) (file_at (drop (c.loop-i.i + 1) c.args.names.now) (drop (c.loop-i.i + 1) c.args.contents.now) c.args.name.now)) no-match
