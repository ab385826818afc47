use Rattle.std.proofs.Common.{◌≡◌, ◌-◌, length, None}
use Rattle.std.specs.Io.{StartsWith}
use Rattle.bes_io.specs.Asking.{IsAsked}
use Rattle.bes_io.specs.Reader.{input, allowed}
use Rattle.bes_io.specs.Steps.{holding, decided}
use Rattle.bes_io.proofs.lines.LineReader.gather.Given as goal

abbrev pub invariant-loop-self : goal.invariant-loop-self
invariant-loop-self g l =
    (l.self ≡ holding l.fn.self l.self.held) × (decided (allowed l.fn.self) l.self.held ≡ None)
    × StartsWith l.self.held l.fn.self.held
    × (input l.self (g.S.Source.left l.source) ≡ input l.fn.self (g.S.Source.left l.fn.source))
    × (g.S.Source.faults l.source ≡ g.S.Source.faults l.fn.source)
    × IsAsked g.S.Source.faults g.S.Source.IsTaken l.fn.source l.source

abbrev pub decreases-loop-self : goal.decreases-loop-self
decreases-loop-self g l = 4097 - length l.self.held
