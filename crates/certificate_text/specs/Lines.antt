-- The lines of a list as the program keeps them: the cubes one after another, beside what stands behind them.
use Rattle.std.specs.Prelude.{◌≡◌, ◌<◌, ◌-◌, ◌+◌, ◌*◌, ◌++◌, ◌==◌, ℕ, zero, suc, List, [], ◌∷◌, map, take, drop, length, nat_lt, not, Bool, true, false, Option, Some, None, slice_get}
use Rattle.std.specs.Int.{bit_at}
use Rattle.certificate_rules.specs.Cubes.{Entry, field_at, IsWhole}
use Rattle.certificate_rules.specs.Certificate.{joined}
use Rattle.certificate_text.specs.Asked as kinds
use Rattle.certificate_text.specs.declared.marks.CertMark.{CertMark}
use Rattle.certificate_text.specs.declared.marks.CertMark.TheVariants.{Goal, Win, Held, LostIn, Lost}
use Rattle.certificate_text.specs.declared.marks.Test.{Test}
use Rattle.certificate_text.specs.declared.marks.Test.TheVariants.{Legal, Illegal, RankBelow, NotRankBelow, IsWon, IsNotWon, ValueBelow, NotValueBelow, IsOut, IsHeld, LossBelow, LossFrom}
use Rattle.certificate_text.specs.declared.marks.Level.{Level}
use Rattle.certificate_text.specs.declared.marks.Level.TheVariants as levels
use Rattle.certificate_text.specs.declared.marks.Way.{Way}
use Rattle.certificate_text.specs.declared.marks.Way.TheVariants as ways
use Rattle.certificate_text.specs.declared.marks.Levels.{Levels}
use Rattle.certificate_text.specs.declared.marks.Question.{Question}

-- So many lines from one place on, without the first d of the w characters of each cube; the cubes stand one after another.
-- Behind each stands its number.
abbrev pub rows : ℕ → ℕ → List ℕ → ℕ → ℕ → List (Entry ℕ)
rows w d cubes from zero = []
rows w d cubes from (suc n) = record { cube = drop d (take w (drop (from * w) cubes)); value = from } ∷ rows w d cubes (suc from) n

-- every line begins with `-` behind its first d characters, and asking them is asking the rests
pub record IsFreeAt (w d : ℕ) (cubes : List ℕ) (from to : ℕ) : Type 0 where
  pub rest : IsWhole (w - suc d) (rows w (suc d) cubes from (to - from))
  pub asks : (leaf : Option ℕ → Bool) (l : kinds.Level) (ls : List kinds.Level) → length ls ≡ w - suc d
      → kinds.asked (l ∷ ls) (λ a. leaf (field_at (rows w d cubes from (to - from)) a)) ≡ kinds.asked ls (λ a. leaf (field_at (rows w (suc d) cubes from (to - from)) a))

-- the lines up to m begin with `0` behind their first d characters and those from m on with `1`, and asking them is asking both
pub record SplitsAt (w d : ℕ) (cubes : List ℕ) (from to m : ℕ) : Type 0 where
  pub above : from < m
  pub below : m < to
  pub low : IsWhole (w - suc d) (rows w (suc d) cubes from (m - from))
  pub high : IsWhole (w - suc d) (rows w (suc d) cubes m (to - m))
  pub asks : (leaf : Option ℕ → Bool) (l : kinds.Level) (ls : List kinds.Level) → length ls ≡ w - suc d
      → kinds.asked (l ∷ ls) (λ a. leaf (field_at (rows w d cubes from (to - from)) a))
      ≡ kinds.joined_by l (kinds.asked ls (λ a. leaf (field_at (rows w (suc d) cubes from (m - from)) a))) (kinds.asked ls (λ a. leaf (field_at (rows w (suc d) cubes m (to - m)) a)))

abbrev pub level_as : Level → kinds.Level
level_as levels.Each = kinds.Each
level_as levels.Any = kinds.Any
level_as levels.False = kinds.False
level_as levels.True = kinds.True

-- the levels of so many propositions that are asked in one way
abbrev pub way_levels : Way → ℕ → List kinds.Level
way_levels ways.Each n = kinds.levels kinds.Each n
way_levels ways.Any n = kinds.levels kinds.Any n
way_levels (ways.At b) n = kinds.levels_at n b

-- how one of several propositions is asked, that with so many behind it
abbrev pub way_level : Way → ℕ → kinds.Level
way_level ways.Each behind = kinds.Each
way_level ways.Any behind = kinds.Any
way_level (ways.At b) behind = kinds.level_of (bit_at b behind == 1)

-- the levels of a letter
abbrev pub levels_of : Levels → List kinds.Level
levels_of l = kinds.cube_levels l.cube.now ++ (way_levels l.middle l.middle_count ++ way_levels l.back l.back_count)

abbrev pub won : CertMark → Bool
won Goal = true
won (Win k) = true
won m = false

abbrev pub rank_below : ℕ → CertMark → Bool
rank_below n Goal = nat_lt 0 n
rank_below n (Win k) = nat_lt k n
rank_below n m = false

abbrev pub out : CertMark → Bool
out Held = true
out (LostIn k) = true
out Lost = true
out m = false

abbrev pub held : CertMark → Bool
held Held = true
held m = false

abbrev pub loss_below : ℕ → CertMark → Bool
loss_below n (LostIn k) = nat_lt k n
loss_below n m = false

abbrev pub loss_from : ℕ → CertMark → Bool
loss_from n Held = true
loss_from n (LostIn k) = not (nat_lt (k + 1) n)
loss_from n m = false

abbrev pub mark_in : Option CertMark → CertMark
mark_in None = Goal
mark_in (Some m) = m

-- the value, if there is one, is below n
abbrev pub value_below : ℕ → Option ℕ → Bool
value_below n None = false
value_below n (Some v) = nat_lt v n

abbrev pub meets : Test → CertMark → Option ℕ → Bool
meets Legal m v = true
meets Illegal m v = false
meets (RankBelow n) m v = rank_below n m
meets (NotRankBelow n) m v = not (rank_below n m)
meets IsWon m v = won m
meets IsNotWon m v = not (won m)
meets (ValueBelow n) m v = value_below n v
meets (NotValueBelow n) m v = not (value_below n v)
meets IsOut m v = out m
meets IsHeld m v = held m
meets (LossBelow n) m v = loss_below n m
meets (LossFrom n) m v = loss_from n m

-- whether a target meets the test of a question, and what it counts an illegal letter as
abbrev pub passes_of : Question → Option ℕ → Bool
passes_of q None = q.illegal
passes_of q (Some t) = meets q.test (mark_in (slice_get q.marks.now t)) (joined (slice_get q.values.now t))

-- the target behind the line with this number
abbrev pub aimed : List (Option ℕ) → Option ℕ → Option ℕ
aimed targets None = None
aimed targets (Some i) = joined (slice_get targets i)

-- the test of letters, by the lines
abbrev pub targeted : Question → List (Option ℕ) → List (Entry ℕ) → ℕ → Bool
targeted q targets es a = passes_of q (aimed targets (field_at es a))

abbrev pub is_true_level : Level → Bool
is_true_level levels.True = true
is_true_level l = false

-- the first half's answer is that of both
abbrev pub settles : Level → Bool → Bool
settles levels.Each low = not low
settles levels.Any low = low
settles levels.False low = true
settles levels.True low = false
