-- Strategies that say the same have one text.
use Rattle.std.proofs.Common.{◌≡◌, ◌<◌, ◌≤◌, ◌^◌, ◌++◌, ℕ, zero, suc, List, [], refl, sym, ◌∙◌, ap, arith, Bool, true, false, Option}
use Rattle.std.specs.Prelude.{codes, decimal, if◌then◌else◌}
use Rattle.game.specs.Board.{IsShown, Mover, Agent, Environment, Partition, width, IsChoice}
use Rattle.printed_strategy.specs.Strategy.{Strategy, is_goal}
use Rattle.printed_strategy.specs.Printed.{answer_in, AreTheSame}
use Rattle.printed_strategy.specs.CubeLines.{function_lines}
use Rattle.printed_strategy.specs.StrategyText.{mark_text, target_text, choice_text, answer_text, decision_width, shown_width, has_answers, round_lines, move_lines, answer_lines, lines_below, location_text, location_texts, version_line, verdict_line, first_line, spaced, input_names, output_names, head_text, strategy_text}
use Rattle.printed_strategy.proofs.CubeFacts.{function_lines-same}

-- a number of so many bits as a decision has is a decision
choice-below-by : (m : Mover) (i o x : ℕ) → x < 2 ^ decision_width m (record { first = m; inputs = i; outputs = o }) → IsChoice (record { first = m; inputs = i; outputs = o }) x
choice-below-by Agent i o x l = omega (arith, l)
choice-below-by Environment i o x l = l

pub choice-below : (d : Partition) (x : ℕ) → x < 2 ^ decision_width d.first d → IsChoice d x
choice-below d x l = choice-below-by d.first d.inputs d.outputs x l

shown-below-by : (m : Mover) (i o y : ℕ) → y < 2 ^ shown_width m (record { first = m; inputs = i; outputs = o }) → IsShown (record { first = m; inputs = i; outputs = o }) y
shown-below-by Agent i o y l = l
shown-below-by Environment i o y l = omega (arith, l)

pub shown-below : (d : Partition) (y : ℕ) → y < 2 ^ shown_width d.first d → IsShown d y
shown-below d y l = shown-below-by d.first d.inputs d.outputs y l

module _ (t u : Strategy) (e : AreTheSame t u) where
  same_rounds : (at : ℕ) → at < t.size → is_goal (t.mark at) ≡ false → round_lines t at ≡ round_lines u at
  same_rounds at l o =
      function_lines-same (codes "round") (width t.parts) (λ a. target_text (t.target at a)) (λ a. target_text (u.target at a)) (λ a k. ap target_text (e.target at a l o k))
      ∙ ap (λ d. function_lines (codes "round") (width d) (λ a. target_text (u.target at a))) e.parts

  same_moves : (at : ℕ) → at < t.size → is_goal (t.mark at) ≡ false → move_lines t at ≡ move_lines u at
  same_moves at l o =
      function_lines-same (codes "move") (decision_width t.parts.first t.parts) (λ x. choice_text t.parts.outputs (t.choice at x)) (λ x. choice_text t.parts.outputs (u.choice at x))
      (λ x k. ap (choice_text t.parts.outputs) (e.choice at x l o (choice-below t.parts x k)))
      ∙ ap (λ d. function_lines (codes "move") (decision_width d.first d) (λ x. choice_text d.outputs (u.choice at x))) e.parts

  same_answers : (at : ℕ) → at < t.size → is_goal (t.mark at) ≡ false → answer_lines t at ≡ answer_lines u at
  same_answers at l o =
      function_lines-same (codes "answer") (shown_width t.parts.first t.parts) (λ y. answer_text t.parts.inputs (answer_in (t.answers at) y)) (λ y. answer_text t.parts.inputs (answer_in (u.answers at) y))
      (λ y k. ap (answer_text t.parts.inputs) (e.answer at y l o (shown-below t.parts y k)))
      ∙ ap (λ d. function_lines (codes "answer") (shown_width d.first d) (λ y. answer_text d.inputs (answer_in (u.answers at) y))) e.parts

  below-by : (at : ℕ) → at < t.size → (b : Bool) → is_goal (t.mark at) ≡ b → lines_below t at ≡ lines_below u at
  below-by at l true o =
      let p : is_goal (u.mark at) ≡ true = ap is_goal (sym (e.mark at l)) ∙ o in
      ap (λ z. if z then [] else round_lines t at ++ move_lines t at ++ (if has_answers (t.mark at) then answer_lines t at else [])) o
      ∙ sym (ap (λ z. if z then [] else round_lines u at ++ move_lines u at ++ (if has_answers (u.mark at) then answer_lines u at else [])) p)
  below-by at l false o =
      let p : is_goal (u.mark at) ≡ false = ap is_goal (sym (e.mark at l)) ∙ o in
      ap (λ z. if z then [] else round_lines t at ++ move_lines t at ++ (if has_answers (t.mark at) then answer_lines t at else [])) o
      ∙ ap (λ z. z ++ move_lines t at ++ (if has_answers (t.mark at) then answer_lines t at else [])) (same_rounds at l o)
      ∙ ap (λ z. round_lines u at ++ z ++ (if has_answers (t.mark at) then answer_lines t at else [])) (same_moves at l o)
      ∙ ap (λ z. round_lines u at ++ move_lines u at ++ (if has_answers (t.mark at) then z else [])) (same_answers at l o)
      ∙ ap (λ z. round_lines u at ++ move_lines u at ++ (if has_answers z then answer_lines u at else [])) (e.mark at l)
      ∙ sym (ap (λ z. if z then [] else round_lines u at ++ move_lines u at ++ (if has_answers (u.mark at) then answer_lines u at else [])) p)

  same_location : (at : ℕ) → at < t.size → location_text t at ≡ location_text u at
  same_location at l =
      ap (λ z. codes "location " ++ decimal at ++ codes " " ++ mark_text z ++ codes "\n" ++ lines_below t at) (e.mark at l)
      ∙ ap (λ z. codes "location " ++ decimal at ++ codes " " ++ mark_text (u.mark at) ++ codes "\n" ++ z) (below-by at l (is_goal (t.mark at)) refl)

  same_locations : (n : ℕ) → n ≤ t.size → location_texts t n ≡ location_texts u n
  same_locations zero l = refl
  same_locations (suc n) l =
      ap (λ z. z ++ location_text t n) (same_locations n (omega (arith, l))) ∙ ap (λ z. location_texts u n ++ z) (same_location n (omega (arith, l)))

  head_of : List (List ℕ) → Bool → Option ℕ → Partition → ℕ → List ℕ
  head_of names duty verdict d size = version_line duty ++ verdict_line verdict ++ first_line d.first
      ++ codes "inputs" ++ spaced (input_names d.first d names) ++ codes "\n"
      ++ codes "outputs" ++ spaced (output_names d.first d names) ++ codes "\n"
      ++ codes "locations " ++ decimal size ++ codes "\n"

  same_head : (names : List (List ℕ)) → head_text names t ≡ head_text names u
  unfolding head_of
  same_head names =
      ap (λ z. head_of names z t.verdict t.parts t.size) e.duty
      ∙ ap (λ z. head_of names u.has_duty z t.parts t.size) e.verdict
      ∙ ap (λ z. head_of names u.has_duty u.verdict z t.size) e.parts
      ∙ ap (λ z. head_of names u.has_duty u.verdict u.parts z) e.size

  -- strategies that say the same have one text
  pub same_text : (names : List (List ℕ)) → strategy_text names t ≡ strategy_text names u
  unfolding strategy_text
  same_text names =
      ap (λ z. z ++ location_texts t t.size ++ codes "end\n") (same_head names)
      ∙ ap (λ z. head_text names u ++ z ++ codes "end\n") (same_locations t.size (omega arith) ∙ ap (location_texts u) e.size)
