-- Texts worked out by hand, so that a wrong rule in the definitions does not check.
use Rattle.std.proofs.Common.{◌≡◌, ℕ, zero, suc, refl, [], ◌∷◌, List, false, true, Option, Some, None}
use Rattle.std.specs.Prelude.{codes, slice_get, slice_index_or}
use Rattle.std.specs.Fmt.{digits}
use Rattle.game.specs.Board.{Agent, Environment}
use Rattle.game.specs.Marks.{Mark, Goal, Win, Pending, Lost, Held, LostIn}
use Rattle.printed_strategy.specs.Strategy.{Strategy, Choice}
use Rattle.printed_strategy.specs.CubeLines.{lines_of}
use Rattle.printed_strategy.specs.StrategyText.{strategy_text}

abbrev read : List (List ℕ) → ℕ → ℕ → Option ℕ
read rows at a = slice_get (slice_index_or rows at []) a

abbrev chosen : List (List Choice) → ℕ → ℕ → Option Choice
chosen rows at x = slice_get (slice_index_or rows at []) x

abbrev choose : Mark → ℕ → Choice
choose mark output = record { mark = mark; output = output }

-- goal F(g <-> r), agent first: outputs come first, so the letter 1 has r alone
abbrev copying : Strategy
copying = record {
  parts = record { first = Agent; inputs = 1; outputs = 1 };
  has_duty = false;
  verdict = None;
  size = 2;
  mark = λ at. slice_index_or (Pending 1 ∷ Goal ∷ []) at Goal;
  target = read ((1 ∷ 0 ∷ 0 ∷ 1 ∷ []) ∷ []);
  choice = chosen ((choose (Pending 1) 0 ∷ []) ∷ []);
  answers = λ at. Some (λ y. slice_index_or (1 ∷ 0 ∷ []) y 0);
}

unrealisable_with_answers : strategy_text (codes "g" ∷ codes "r" ∷ []) copying
    ≡ codes "strategy 1\nverdict unrealisable\nfirst agent\ninputs r\noutputs g\nlocations 2\nlocation 0 open 1\nround 00 1\nround 01 0\nround 10 0\nround 11 1\nmove . open 1 0\nanswer 0 1\nanswer 1 0\nlocation 1 goal\nend\n"
unfolding strategy_text lines_of digits
unrealisable_with_answers = refl

-- assume r, goal g, environment first: inputs come first, and the input 0 is illegal
abbrev legal_target : ℕ → ℕ → Option ℕ
legal_target zero zero = None
legal_target zero (suc zero) = None
legal_target zero (suc (suc zero)) = Some 1
legal_target zero (suc (suc (suc a))) = Some 2
legal_target (suc at) a = Some 1

abbrev legal_choice : ℕ → ℕ → Option Choice
legal_choice zero zero = None
legal_choice zero (suc x) = Some (choose (Win 1) 1)
legal_choice (suc at) x = Some (choose Lost 0)

abbrev granting : Strategy
granting = record {
  parts = record { first = Environment; inputs = 1; outputs = 1 };
  has_duty = false;
  verdict = Some 1;
  size = 3;
  mark = λ at. slice_index_or (Win 1 ∷ Lost ∷ Goal ∷ []) at Goal;
  target = legal_target;
  choice = legal_choice;
  answers = λ at. Some (λ y. 0);
}

an_illegal_input : strategy_text (codes "r" ∷ codes "g" ∷ []) granting
    ≡ codes "strategy 1\nverdict realisable 1\nfirst environment\ninputs r\noutputs g\nlocations 3\nlocation 0 win 1\nround 0- illegal\nround 10 1\nround 11 2\nmove 0 illegal\nmove 1 win 1 1\nlocation 1 lost\nround -- 1\nmove - lost 0\nanswer . 0\nlocation 2 goal\nend\n"
unfolding strategy_text lines_of digits
an_illegal_input = refl

-- goal false, duty G g, agent first
abbrev keeping : Strategy
keeping = record {
  parts = record { first = Agent; inputs = 1; outputs = 1 };
  has_duty = true;
  verdict = None;
  size = 2;
  mark = λ at. slice_index_or (Held ∷ LostIn 0 ∷ []) at Goal;
  target = read ((1 ∷ 1 ∷ 0 ∷ 0 ∷ []) ∷ (1 ∷ 1 ∷ 1 ∷ 1 ∷ []) ∷ []);
  choice = chosen ((choose Held 1 ∷ []) ∷ (choose (LostIn 1) 0 ∷ []) ∷ []);
  answers = λ at. Some (λ y. 0);
}

a_duty_that_is_held : strategy_text (codes "g" ∷ codes "r" ∷ []) keeping
    ≡ codes "strategy 2\nverdict unrealisable\nfirst agent\ninputs r\noutputs g\nlocations 2\nlocation 0 held\nround 0- 1\nround 1- 0\nmove . held 1\nanswer - 0\nlocation 1 lost 0\nround -- 1\nmove . lost 1 0\nanswer - 0\nend\n"
unfolding strategy_text lines_of digits
a_duty_that_is_held = refl

-- no inputs: a round is an output, and the answer has no bits
abbrev no_inputs : Strategy
no_inputs = record {
  parts = record { first = Agent; inputs = 0; outputs = 1 };
  has_duty = false;
  verdict = Some 2;
  size = 4;
  mark = λ at. slice_index_or (Win 2 ∷ Win 1 ∷ Lost ∷ Goal ∷ []) at Goal;
  target = read ((1 ∷ 1 ∷ []) ∷ (2 ∷ 3 ∷ []) ∷ (2 ∷ 2 ∷ []) ∷ []);
  choice = chosen ((choose (Win 2) 0 ∷ []) ∷ (choose (Win 1) 1 ∷ []) ∷ (choose Lost 0 ∷ []) ∷ []);
  answers = λ at. Some (λ y. 0);
}

no_bits : strategy_text (codes "g" ∷ []) no_inputs
    ≡ codes "strategy 1\nverdict realisable 2\nfirst agent\ninputs\noutputs g\nlocations 4\nlocation 0 win 2\nround - 1\nmove . win 2 0\nlocation 1 win 1\nround 0 2\nround 1 3\nmove . win 1 1\nlocation 2 lost\nround - 2\nmove . lost 0\nanswer - .\nlocation 3 goal\nend\n"
unfolding strategy_text lines_of digits
no_bits = refl
