-- What is printed below a location's line, and the lines before those of locations, piece by piece.
use Rattle.std.proofs.Common.{◌≡◌, ◌<◌, ◌++◌, ℕ, List, [], true, false, Some, None, refl, sym, ◌∙◌, ap, arith, append_assoc, append-nil, if◌then◌else◌}
use Rattle.std.specs.Prelude.{codes, decimal, is_some}
use Rattle.diagrams.specs.declared.top.Id.{Id}
use Rattle.diagrams.specs.Eval.{Diagrams, eval, id_at, letter_truth}
use Rattle.game.specs.Board.{Mover, Agent, Environment}
use Rattle.printed_strategy.specs.Printed.{answer_in}
use Rattle.printed_strategy.specs.Strategy.{is_goal}
use Rattle.printed_strategy.specs.StrategyText.{has_answers, bits_text, answer_text, choice_text, decision_width, shown_width, round_lines, move_lines, answer_lines, lines_below, version_line, verdict_line, first_line, spaced, input_names, output_names, head_text}
use Rattle.printed_strategy.specs.CubeLines.{function_lines}
use Rattle.printed_strategy.proofs.CubeFacts.{function_lines-same}
use Rattle.choosing.specs.MarkOf.{mark_of}
use Rattle.choosing.specs.Rounds.{from_of}
use Rattle.strategy.specs.declared.strategy.Strategy.{Strategy as Kept}
use Rattle.strategy.specs.Fits.{IsAnswerTable, FitsAt}
use Rattle.strategy.specs.Listing.{propositions_text}
use Rattle.strategy.specs.Plan.{size_of, mark_at, answer_at, choice_at, choice_of, decision_end, table_of, plan_of}

-- a text in front of two pieces, and of more
two : (x a b : List ℕ) → (x ++ a) ++ b ≡ x ++ (a ++ b)
two x a b = append_assoc x a b

three : (x a b c : List ℕ) → ((x ++ a) ++ b) ++ c ≡ x ++ ((a ++ b) ++ c)
three x a b c = ap (λ z. z ++ c) (two x a b) ∙ append_assoc x (a ++ b) c

four : (x a b c d : List ℕ) → (((x ++ a) ++ b) ++ c) ++ d ≡ x ++ (((a ++ b) ++ c) ++ d)
four x a b c d = ap (λ z. z ++ d) (three x a b c) ∙ append_assoc x ((a ++ b) ++ c) d

five : (x a b c d e : List ℕ) → ((((x ++ a) ++ b) ++ c) ++ d) ++ e ≡ x ++ ((((a ++ b) ++ c) ++ d) ++ e)
five x a b c d e = ap (λ z. z ++ e) (four x a b c d) ∙ append_assoc x (((a ++ b) ++ c) ++ d) e

pub six : (x a b c d e f : List ℕ) → (((((x ++ a) ++ b) ++ c) ++ d) ++ e) ++ f ≡ x ++ (((((a ++ b) ++ c) ++ d) ++ e) ++ f)
six x a b c d e f = ap (λ z. z ++ f) (five x a b c d e) ∙ append_assoc x ((((a ++ b) ++ c) ++ d) ++ e) f

pub seven : (x a b c d e f g : List ℕ) → ((((((x ++ a) ++ b) ++ c) ++ d) ++ e) ++ f) ++ g ≡ x ++ ((((((a ++ b) ++ c) ++ d) ++ e) ++ f) ++ g)
seven x a b c d e f g = ap (λ z. z ++ g) (six x a b c d e f) ∙ append_assoc x (((((a ++ b) ++ c) ++ d) ++ e) ++ f) g

ends-same : (d : Mover) (i o : ℕ) → decision_width d (record { first = d; inputs = i; outputs = o }) ≡ from_of d i
ends-same Agent i o = refl
ends-same Environment i o = refl

-- the lines of moves
move-piece : (s : Diagrams) (k : Kept) (at count : ℕ) → count ≡ decision_width k.partition.first k.partition
    → function_lines (codes "move") count (λ n. choice_text k.partition.outputs (choice_of (choice_at k (eval s (id_at k.moves.items at) (letter_truth count n))))) ≡ move_lines (plan_of s k) at
move-piece s k at count e =
    let end : decision_width k.partition.first k.partition ≡ decision_end k.partition = ends-same k.partition.first k.partition.inputs k.partition.outputs in
    let lines : ℕ → ℕ → List ℕ = λ w c. function_lines (codes "move") w (λ n. choice_text k.partition.outputs (choice_of (choice_at k (eval s (id_at k.moves.items at) (letter_truth c n))))) in
    ap (λ w. lines w w) (e ∙ end) ∙ ap (λ w. lines w (decision_end k.partition)) (sym end)

shown-same : (d : Mover) (i o n v : ℕ) → v < shown_width d (record { first = d; inputs = i; outputs = o })
    → letter_truth (shown_width d (record { first = d; inputs = i; outputs = o })) n v ≡ letter_truth o n v
shown-same Agent i o n v l = refl
shown-same Environment i o n v l = absurd (omega (arith, l))

-- the lines of answers
answer-piece : (s : Diagrams) (k : Kept) (at count : ℕ) (id : Id) → count ≡ shown_width k.partition.first k.partition → answer_at k at ≡ Some id → IsAnswerTable s k.partition id
    → function_lines (codes "answer") count (λ n. bits_text k.partition.inputs (eval s id (letter_truth count n))) ≡ answer_lines (plan_of s k) at
answer-piece s k at count id e there is =
    let shown = shown_width k.partition.first k.partition in
    let lines : ℕ → List ℕ = λ w. function_lines (codes "answer") w (λ n. bits_text k.partition.inputs (eval s id (letter_truth w n))) in
    ap lines e
    ∙ function_lines-same (codes "answer") shown (λ n. bits_text k.partition.inputs (eval s id (letter_truth shown n))) (λ n. bits_text k.partition.inputs (eval s id (letter_truth k.partition.outputs n)))
    (λ n l. ap (bits_text k.partition.inputs)
    (is.over (letter_truth shown n) (letter_truth k.partition.outputs n) (λ v h. shown-same k.partition.first k.partition.inputs k.partition.outputs n v h)))
    ∙ ap (λ o. function_lines (codes "answer") shown (λ y. answer_text k.partition.inputs (answer_in (table_of s k.partition.outputs o) y))) (sym there)

-- the lines below, where there are no answers
pub below-none : (s : Diagrams) (k : Kept) (at count : ℕ) (text : List ℕ) → is_goal (mark_of (mark_at k at)) ≡ false → FitsAt s k at → answer_at k at ≡ None
    → count ≡ decision_width k.partition.first k.partition
    → (text ++ round_lines (plan_of s k) at) ++ function_lines (codes "move") count (λ n. choice_text k.partition.outputs (choice_of (choice_at k (eval s (id_at k.moves.items at) (letter_truth count n)))))
    ≡ text ++ lines_below (plan_of s k) at
below-none s k at count text goal fits none e =
    let rounds = round_lines (plan_of s k) at in
    let moves = move_lines (plan_of s k) at in
    let answers = answer_lines (plan_of s k) at in
    let without : has_answers (mark_of (mark_at k at)) ≡ false = fits.answered goal ∙ ap is_some none in
    ap (λ z. (text ++ rounds) ++ z) (move-piece s k at count e) ∙ two text rounds moves ∙ ap (λ z. text ++ z) (sym (append-nil (rounds ++ moves)))
    ∙ ap (λ b. text ++ ((rounds ++ moves) ++ (if b then answers else []))) (sym without)
    ∙ ap (λ b. text ++ (if b then [] else (rounds ++ moves) ++ (if has_answers (mark_of (mark_at k at)) then answers else []))) (sym goal)

-- and where there are
pub below-some : (s : Diagrams) (k : Kept) (at count shown : ℕ) (id : Id) (text : List ℕ) → is_goal (mark_of (mark_at k at)) ≡ false → FitsAt s k at → answer_at k at ≡ Some id
    → count ≡ decision_width k.partition.first k.partition → shown ≡ shown_width k.partition.first k.partition
    → ((text ++ round_lines (plan_of s k) at) ++ function_lines (codes "move") count (λ n. choice_text k.partition.outputs (choice_of (choice_at k (eval s (id_at k.moves.items at) (letter_truth count n))))))
    ++ function_lines (codes "answer") shown (λ n. bits_text k.partition.inputs (eval s id (letter_truth shown n)))
    ≡ text ++ lines_below (plan_of s k) at
below-some s k at count shown id text goal fits some e f =
    let rounds = round_lines (plan_of s k) at in
    let moves = move_lines (plan_of s k) at in
    let answers = answer_lines (plan_of s k) at in
    let has : has_answers (mark_of (mark_at k at)) ≡ true = fits.answered goal ∙ ap is_some some in
    ap (λ z. ((text ++ rounds) ++ z) ++ function_lines (codes "answer") shown (λ n. bits_text k.partition.inputs (eval s id (letter_truth shown n)))) (move-piece s k at count e)
    ∙ ap (λ z. ((text ++ rounds) ++ moves) ++ z) (answer-piece s k at shown id f some (fits.table id some)) ∙ three text rounds moves answers
    ∙ ap (λ b. text ++ ((rounds ++ moves) ++ (if b then answers else []))) (sym has)
    ∙ ap (λ b. text ++ (if b then [] else (rounds ++ moves) ++ (if has_answers (mark_of (mark_at k at)) then answers else []))) (sym goal)

-- the lines before those of locations
pub head-joined : (names : List (List ℕ)) (s : Diagrams) (k : Kept) (text x y z w : List ℕ) → x ≡ text ++ version_line k.duty → y ≡ x ++ verdict_line k.verdict
    → z ≡ y ++ propositions_text names k.partition → w ≡ (z ++ codes "locations ") ++ decimal (size_of k) → w ++ codes "\n" ≡ text ++ head_text names (plan_of s k)
head-joined names s k text x y z w a b c d =
    let version = version_line k.duty in
    let verdict = verdict_line k.verdict in
    let first = first_line k.partition.first in
    let inputs = spaced (input_names k.partition.first k.partition names) in
    let outputs = spaced (output_names k.partition.first k.partition names) in
    let propositions = propositions_text names k.partition in
    let words = codes "locations " in
    let size = decimal (size_of k) in
    let end = codes "\n" in
    let whole : z ≡ ((text ++ version) ++ verdict) ++ propositions = c ∙ ap (λ v. v ++ propositions) (b ∙ ap (λ v. v ++ verdict) a) in
    ap (λ v. v ++ end) (d ∙ ap (λ v. (v ++ words) ++ size) whole) ∙ six text version verdict propositions words size end
    ∙ ap (λ v. text ++ (((v ++ words) ++ size) ++ end)) (sym (seven (version ++ verdict) first (codes "inputs") inputs end (codes "outputs") outputs end))
