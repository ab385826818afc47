-- The mark of a strategy text that a mark of the program stands for, and what tests ask for in the rules' words.
use Rattle.std.specs.Prelude.{◌≡◌, ◌<◌, ℕ, Option, Some, None}
use Rattle.game.specs.Marks.{Mark, Goal, Win, Pending, Lost, Held, LostIn}
use Rattle.certificate_rules.specs.Rules as rules
use Rattle.certificate_text.specs.declared.marks.CertMark.{CertMark}
use Rattle.certificate_text.specs.declared.marks.CertMark.TheVariants as kept
use Rattle.certificate_text.specs.declared.marks.Test.{Test}
use Rattle.certificate_text.specs.declared.marks.Test.TheVariants as tests

abbrev pub mark_of : CertMark → Mark
mark_of kept.Goal = Goal
mark_of (kept.Win n) = Win n
mark_of (kept.Pending n) = Pending n
mark_of kept.Held = Held
mark_of (kept.LostIn n) = LostIn n
mark_of kept.Lost = Lost

-- the value, if there is one, is below n
abbrev pub IsBelow : ℕ → Option ℕ → Type 0
IsBelow n None = ⊥
IsBelow n (Some v) = v < n

-- a location with this mark and this value is as the test asks
abbrev pub IsMetBy : Test → Mark → Option ℕ → Type 0
IsMetBy tests.Legal m v = Unit {0}
IsMetBy tests.Illegal m v = ⊥
IsMetBy (tests.RankBelow n) m v = rules.IsRankBelow n m
IsMetBy (tests.NotRankBelow n) m v = ¬ rules.IsRankBelow n m
IsMetBy tests.IsWon m v = rules.IsWon m
IsMetBy tests.IsNotWon m v = ¬ rules.IsWon m
IsMetBy (tests.ValueBelow n) m v = IsBelow n v
IsMetBy (tests.NotValueBelow n) m v = ¬ IsBelow n v
IsMetBy tests.IsOut m v = rules.IsOutMark m
IsMetBy tests.IsHeld m v = m ≡ Held
IsMetBy (tests.LossBelow n) m v = rules.IsLossBelow n m
IsMetBy (tests.LossFrom n) m v = rules.IsLossFrom n m
