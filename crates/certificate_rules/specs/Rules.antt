-- The rules of the checker. Each speaks of one location: that of the verdict of location 0, each other of one that is not `goal`.
use Rattle.std.specs.Prelude.{◌≡◌, ◌≢◌, ◌<◌, ◌≤◌, ◌^◌, ◌-◌, ◌↔◌, ◌⊎◌, ℕ, suc, length, Option, Some, None, IsSome, MatchOption}
use Rattle.game.specs.Board.{Mover, Agent, Environment, width, input_of, output_of, shown, IsLetter, EachLeads, SomeLeads, IsOutput, IsLeastNumber}
use Rattle.game.specs.Marks.{Mark, Goal, Win, Pending, Lost, Held, LostIn}
use Rattle.certificate_rules.specs.Certificate.{Certificate, board, mark_at, choice_at, answers_at, HasDuty, Decides}

-- won by rank
abbrev pub IsWon : Mark → Type 0
IsWon Goal = Unit {0}
IsWon (Win k) = Unit {0}
IsWon m = ⊥

-- its rank, which is 0 for `goal`, is below n
abbrev pub IsRankBelow : ℕ → Mark → Type 0
IsRankBelow n Goal = 0 < n
IsRankBelow n (Win k) = k < n
IsRankBelow n m = ⊥

abbrev pub IsWinMark : Mark → Type 0
IsWinMark (Win k) = Unit {0}
IsWinMark m = ⊥

-- the goal is out of reach
abbrev pub IsOutMark : Mark → Type 0
IsOutMark Lost = Unit {0}
IsOutMark Held = Unit {0}
IsOutMark (LostIn k) = Unit {0}
IsOutMark m = ⊥

-- `lost m` with m below n
abbrev pub IsLossBelow : ℕ → Mark → Type 0
IsLossBelow n (LostIn k) = k < n
IsLossBelow n m = ⊥

-- `held`, or `lost m` with m at least n - 1
abbrev pub IsLossFrom : ℕ → Mark → Type 0
IsLossFrom n Held = Unit {0}
IsLossFrom n (LostIn k) = n ≤ suc k
IsLossFrom n m = ⊥

-- the number of a decision that is `win` or `open`
abbrev pub IsNumber : Mark → ℕ → Type 0
IsNumber (Win n) k = n ≡ k
IsNumber (Pending n) k = n ≡ k
IsNumber m k = ⊥

-- each decision of the location, with its mark and its move
abbrev pub EachDecision : Certificate → ℕ → (ℕ → Mark → ℕ → Type 0) → Type 0
EachDecision c q P = (x : ℕ) (m : Mark) (y : ℕ) → Decides c q x m y → P x m y

-- some decision of the location
abbrev pub SomeDecision : Certificate → ℕ → (Mark → Type 0) → Type 0
SomeDecision c q P = (x : ℕ) × (m : Mark) × (y : ℕ) × Decides c q x m y × P m

-- some decision is `win` or `open` with this number
abbrev pub HasNumber : Certificate → ℕ → ℕ → Type 0
HasNumber c q k = SomeDecision c q (λ m. IsNumber m k)

-- its value, which is 0 for `goal` and else the least number of its decisions, is below n
abbrev pub HasValueBelow : Certificate → ℕ → ℕ → Type 0
HasValueBelow c n q = ((mark_at c q ≡ Goal) × (0 < n)) ⊎ ((k : ℕ) × HasNumber c q k × (k < n))

-- each legal letter with the decision, whatever the output, leads into P
abbrev pub EachLetterLeads : Certificate → (ℕ → Type 0) → ℕ → ℕ → Type 0
EachLetterLeads c P q x = (y : ℕ) → IsOutput c.parts y → EachLeads (board c) P q x y

-- each letter with this input is legal
abbrev pub AllLegal : Certificate → ℕ → ℕ → Type 0
AllLegal c q x = (a : ℕ) → a < 2 ^ width c.parts → input_of c.parts a ≡ x → (board c).IsLegal q a

-- no letter with this input is legal
abbrev pub NoneLegal : Certificate → ℕ → ℕ → Type 0
NoneLegal c q x = (a : ℕ) → a < 2 ^ width c.parts → input_of c.parts a ≡ x → ¬ (board c).IsLegal q a

-- agent first: the move is not `illegal`, and for each output some letter with it is legal
pub record AgentCanPlay (c : Certificate) (q : ℕ) : Type 0 where
  pub chosen : IsSome (choice_at c q 0)
  pub legal : (y : ℕ) → IsOutput c.parts y → (a : ℕ) × (a < 2 ^ width c.parts) × (output_of c.parts a ≡ y) × (board c).IsLegal q a

-- environment first: of the letters with one input all or none are legal, its move is `illegal` exactly where none is, and
-- some input has legal letters
pub record EnvironmentCanPlay (c : Certificate) (q : ℕ) : Type 0 where
  pub alike : (x : ℕ) → x < 2 ^ c.parts.inputs → AllLegal c q x ⊎ NoneLegal c q x
  pub chosen : (x : ℕ) → x < 2 ^ c.parts.inputs → (choice_at c q x ≡ None) ↔ NoneLegal c q x
  pub some : (x : ℕ) × (x < 2 ^ c.parts.inputs) × (¬ NoneLegal c q x)

abbrev pub CanPlay : Mover → Certificate → ℕ → Type 0
CanPlay Agent c q = AgentCanPlay c q
CanPlay Environment c q = EnvironmentCanPlay c q

-- a decision `win n` has n > 0, and each legal letter with it and its move leads to a rank below n
abbrev pub IsWinningMove : Certificate → ℕ → ℕ → Mark → ℕ → Type 0
IsWinningMove c q x (Win n) y = (0 < n) × EachLeads (board c) (λ g. IsRankBelow n (mark_at c g)) q x y
IsWinningMove c q x m y = Unit {0}

-- no output wins sooner than the mark says: for `win n` none leads to ranks below n - 1 alone, for the others none to won locations alone
abbrev pub WinsNoSooner : Certificate → ℕ → ℕ → Mark → ℕ → Type 0
WinsNoSooner c q x (Win n) y = (z : ℕ) → IsOutput c.parts z → ¬ EachLeads (board c) (λ g. IsRankBelow (n - 1) (mark_at c g)) q x z
WinsNoSooner c q x m y = (z : ℕ) → IsOutput c.parts z → ¬ EachLeads (board c) (λ g. IsWon (mark_at c g)) q x z

-- a location is `win` exactly where all its decisions are, and its number is the greatest of theirs
pub record IsRanked (c : Certificate) (q : ℕ) : Type 0 where
  pub won : IsWinMark (mark_at c q) ↔ EachDecision c q (λ x m y. IsWinMark m)
  pub reached : (n : ℕ) → mark_at c q ≡ Win n → SomeDecision c q (λ m. m ≡ Win n)
  pub greatest : (n : ℕ) → mark_at c q ≡ Win n → EachDecision c q (λ x m y. (k : ℕ) → m ≡ Win k → k ≤ n)

-- at a location that is not won, each output has an answer that makes a legal letter and leads to where it is not won
abbrev pub IsAnswered : Certificate → ℕ → Type 0
IsAnswered c q = ¬ IsWon (mark_at c q) → MatchOption (answers_at c q) ⊥ (λ input. (y : ℕ) → IsOutput c.parts y
    → (a : ℕ) × IsLetter c.parts (input (shown c.parts y)) y a × (board c).IsLegal q a × (¬ IsWon (mark_at c ((board c).after q a))))

-- a decision `open n` has n > 0, and some legal letter with it and its move leads to a value below n
abbrev pub IsHopefulMove : Certificate → ℕ → ℕ → Mark → ℕ → Type 0
IsHopefulMove c q x (Pending n) y = (0 < n) × SomeLeads (board c) (HasValueBelow c n) q x y
IsHopefulMove c q x m y = Unit {0}

-- no legal letter with a decision `open n` leads to a value below n - 1, and each with one out of reach leads out of reach
abbrev pub ReachesNoSooner : Certificate → ℕ → ℕ → Mark → ℕ → Type 0
ReachesNoSooner c q x (Pending n) y = EachLetterLeads c (λ g. ¬ HasValueBelow c (n - 1) g) q x
ReachesNoSooner c q x (Win n) y = Unit {0}
ReachesNoSooner c q x Goal y = Unit {0}
ReachesNoSooner c q x m y = EachLetterLeads c (λ g. IsOutMark (mark_at c g)) q x

-- a location that is not won is `open n`, n being its value, or out of reach where no decision is `win` or `open`
abbrev pub IsValued : Certificate → ℕ → Mark → Type 0
IsValued c q Goal = Unit {0}
IsValued c q (Win n) = Unit {0}
IsValued c q (Pending n) = IsLeastNumber (HasNumber c q) n
IsValued c q m = (k : ℕ) → ¬ HasNumber c q k

-- the verdict is the rank of location 0
abbrev pub IsRankVerdict : Option ℕ → Mark → Type 0
IsRankVerdict (Some n) Goal = n ≡ 0
IsRankVerdict (Some n) (Win k) = n ≡ k
IsRankVerdict (Some n) m = ⊥
IsRankVerdict None m = ¬ IsWon m

-- where the duty was broken it stays so; the move of a decision `held` leads to `held` alone; a location is `held` exactly
-- where its decisions are
pub record IsKept (c : Certificate) (q : ℕ) : Type 0 where
  pub broken : mark_at c q ≡ LostIn 0 → (a : ℕ) → a < 2 ^ width c.parts → (board c).IsLegal q a → mark_at c ((board c).after q a) ≡ LostIn 0
  pub move : EachDecision c q (λ x m y. m ≡ Held → EachLeads (board c) (λ g. mark_at c g ≡ Held) q x y)
  pub held : (mark_at c q ≡ Held) ↔ EachDecision c q (λ x m y. m ≡ Held)

-- a decision `lost n` has n > 0; whatever the output, some legal letter leads to `lost m` with m below n; and with some
-- output each leads to `held` or to `lost m` with m at least n - 1
abbrev pub IsLossOf : Certificate → ℕ → ℕ → Mark → ℕ → Type 0
IsLossOf c q x (LostIn n) y = (0 < n)
    × ((z : ℕ) → IsOutput c.parts z → SomeLeads (board c) (λ g. IsLossBelow n (mark_at c g)) q x z)
    × ((z : ℕ) × IsOutput c.parts z × EachLeads (board c) (λ g. IsLossFrom n (mark_at c g)) q x z)
IsLossOf c q x m y = Unit {0}

-- n > 0 of a location `lost n` is the least number of its decisions that are `lost`
abbrev pub IsLeastLoss : Certificate → ℕ → Mark → Type 0
IsLeastLoss c q (LostIn n) = 0 < n → IsLeastNumber (λ k. SomeDecision c q (λ m. m ≡ LostIn k)) n
IsLeastLoss c q m = Unit {0}

-- the rules in their order
pub data Rule : Type 0 where
  Rounds WinningMoves Sooner Ranks Answers HopefulMoves Nearer Values Verdict Duties Losses LossNumbers : Rule

abbrev pub number_of : Rule → ℕ
number_of Rounds = 1
number_of WinningMoves = 2
number_of Sooner = 3
number_of Ranks = 4
number_of Answers = 5
number_of HopefulMoves = 6
number_of Nearer = 7
number_of Values = 8
number_of Verdict = 9
number_of Duties = 10
number_of Losses = 11
number_of LossNumbers = 12

-- what a rule says of a location that is not `goal`, the verdict of location 0, `goal` or not
abbrev pub Says : Rule → Certificate → ℕ → Type 0
Says Rounds c q = mark_at c q ≢ Goal → CanPlay c.parts.first c q
Says WinningMoves c q = mark_at c q ≢ Goal → EachDecision c q (IsWinningMove c q)
Says Sooner c q = mark_at c q ≢ Goal → EachDecision c q (WinsNoSooner c q)
Says Ranks c q = mark_at c q ≢ Goal → IsRanked c q
Says Answers c q = mark_at c q ≢ Goal → IsAnswered c q
Says HopefulMoves c q = mark_at c q ≢ Goal → EachDecision c q (IsHopefulMove c q)
Says Nearer c q = mark_at c q ≢ Goal → EachDecision c q (ReachesNoSooner c q)
Says Values c q = mark_at c q ≢ Goal → IsValued c q (mark_at c q)
Says Verdict c q = q ≡ 0 → IsRankVerdict c.verdict (mark_at c q)
Says Duties c q = HasDuty c → mark_at c q ≢ Goal → IsKept c q
Says Losses c q = HasDuty c → mark_at c q ≢ Goal → EachDecision c q (IsLossOf c q)
Says LossNumbers c q = HasDuty c → mark_at c q ≢ Goal → IsLeastLoss c q (mark_at c q)

-- each rule holds at each location
abbrev pub IsValid : Certificate → Type 0
IsValid c = (r : Rule) (q : ℕ) → q < length c.locations → Says r c q

-- the rule fails at the location, each earlier rule holds everywhere, and this one at each earlier location
pub record IsFirstFailure (c : Certificate) (r : Rule) (q : ℕ) : Type 0 where
  pub within : q < length c.locations
  pub fails : ¬ Says r c q
  pub rules : (s : Rule) (p : ℕ) → number_of s < number_of r → p < length c.locations → Says s c p
  pub locations : (p : ℕ) → p < q → Says r c p
