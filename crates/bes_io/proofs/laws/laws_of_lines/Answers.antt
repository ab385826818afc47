use Rattle.std.proofs.Common.{refl, arith, length}
use Rattle.bes_io.specs.Lines.{at_end, at_fault}
use Rattle.bes_io.specs.declared.lines.LineFault.TheVariants.{InputTooLong}
use Rattle.bes_io.proofs.LinesLemmas.{one-reading, some-lines}
use Rattle.bes_io.proofs.LineFacts.{HasLines-lines}
use Rattle.bes_io.proofs.TooLong.{line-too-long, input-too-long, ends-within, stops-past}
use Rattle.bes_io.proofs.laws.laws_of_lines.Goals as goal

pub returns : goal.returns
returns c = record {
  one_way = λ most bytes some others stop other h k. one-reading h k;
  some = λ most bytes. let s = some-lines (length bytes) most bytes (omega arith) in (s.lines, s.stop, s.has);
  str_lines = λ most bytes found h. HasLines-lines most bytes found at_end h refl;
  line_too_long = line-too-long;
  input_too_long = input-too-long;
  within = λ most bytes found h. ends-within most bytes found at_end h refl;
  past = λ most bytes found h. stops-past most bytes found (at_fault InputTooLong) h refl;
}
