-- Numbers over rows in which decisions that can be won lead to their numbers are the distances.
use Rattle.std.proofs.Common.{◌≡◌, ℕ, zero, suc, ◌<◌, ◌≤◌, ◌^◌, ◌+◌, ◌/◌, ◌⊎◌, inl, inr, refl, sym, ◌∙◌, ap, subst, arith, Bool, true, false, if◌then◌else◌, List, length, Option, Some, None}
use Rattle.std.specs.Prelude.{slice_index}
use Rattle.std.proofs.lemmas.Nat.{pow_pos}
use Rattle.std.proofs.lemmas.Bool.{cases_lt}
use Rattle.diagrams.specs.declared.top.Id.{Id}
use Rattle.diagrams.specs.declared.work.Op.TheVariants.{Least}
use Rattle.diagrams.specs.Tree.{Tree, Assignment, value_at}
use Rattle.diagrams.specs.Eval.{Diagrams, tree, eval, id_at, letter_truth}
use Rattle.diagrams.specs.Live.{IsCanonical, Keeps}
use Rattle.diagrams.specs.Folded.{IsExtreme}
use Rattle.diagrams.specs.Transformed.{item_value}
use Rattle.diagrams.proofs.Meaning.{tree-reduced}
use Rattle.diagrams.proofs.Expansion.{vars_below}
use Rattle.automata.proofs.Letters.{spelt, spelt-less, spelt-truth}
use Rattle.attractor.specs.Graph.{number_at}
use Rattle.attractor.specs.Minimax.{later, minimax, IsSolved}
use Rattle.attractor.specs.Rows.{is_first_at, IsAttraction}
use Rattle.attractor.proofs.SettlingLemmas.{option_cases}
use Rattle.game.specs.Board.{width, decision_of}
use Rattle.forms.specs.declared.partition.Partition.{Partition}
use Rattle.forms.specs.declared.partition.Mover.{Mover}
use Rattle.forms.specs.declared.partition.Mover.TheVariants.{Agent, Environment}
use Rattle.game.specs.Arena.{Locations, locations}
use Rattle.layers.specs.Ranked.{AreRanks, AreDistances}
use Rattle.layers.specs.Decisions.{everywhere}
use Rattle.layers.specs.Distances.{AreWon, IsReplaced, decoded, code_of, before}
use Rattle.layers.specs.ArenaRows.{locations_of, AreArenaRows, agent_sides}
use Rattle.layers.proofs.Bounds.{rank_most}
use Rattle.layers.proofs.LetterParts.{spelt-first, spelt-same, spelt-letter, first_part}
use Rattle.layers.proofs.Rounds.{agent_first, environment_first, letter_with, letter_first, letter_less, first_less}
use Rattle.layers.proofs.FoldedWins.{folded_won, folded_same, ranked_won}
use Rattle.layers.proofs.ReplacedLemmas.{replaced_hoped}
use Rattle.layers.proofs.DistanceLemmas.{hoped_distances}
use Rattle.cooperative.specs.Replaced.{placed, AreAllCodes, IsRowMade, AreRowsMade, AreNumberRows, AreFirsts}
use Rattle.cooperative.proofs.RowLemmas.{decoded_some}
use Rattle.cooperative.proofs.MadeLemmas.{made_lasts}
use Rattle.cooperative.proofs.NumberLemmas.{lesser_sides, solved_everywhere, end_none, numbers_are}

eval-tree : (s : Diagrams) (i : Id) (a : Assignment) → eval s i a ≡ value_at (tree s i) a
unfolding eval
eval-tree s i a = refl

-- agent first
module _ (i o : ℕ) (s e : Diagrams) (can : IsCanonical e) (rows : List Id) (goals : List Bool) (a : AreArenaRows s (agent_first i o) rows goals goals)
    (loops : (at c : ℕ) → at < length rows → is_first_at goals at ≡ true → c < 2 ^ (i + o) → eval s (id_at rows at) (letter_truth s.props c) ≡ at)
    (ranks : List (Option ℕ)) (r : AreRanks (agent_first i o) false (locations_of s rows goals goals) (number_at ranks)) (inputs bound : ℕ) (codes : List ℕ) (all : List Id)
    (made : (at : ℕ) → at < length rows → IsRowMade s e true inputs (length rows) bound codes (id_at rows at) (number_at ranks at) (id_at all at)) where
  rank_won : ℕ → ℕ → Option ℕ
  rank_won at x = before (number_at ranks at)

  agent_are_won : AreWon (agent_first i o) false (locations_of s rows goals goals) (λ at x. before (number_at ranks at))
  agent_are_won = ranked_won i o false (locations_of s rows goals goals) (number_at ranks) r (λ at c h g l. loops at c h g l)

  agent_replaced : (at : ℕ) → at < length rows → IsReplaced (agent_first i o) (locations_of s rows goals goals) (λ k x. before (number_at ranks k)) at (tree e (id_at all at))
  agent_replaced at h =
      let m = made at h in
      let value : (c : ℕ) → value_at (tree e (id_at all at)) (letter_truth (i + o) c) ≡ placed (length rows) (before (number_at ranks at)) (eval s (id_at rows at) (letter_truth (i + o) c)) = λ c.
      sym (eval-tree e (id_at all at) (letter_truth (i + o) c)) ∙ m.value (letter_truth (i + o) c)
      ∙ ap (λ v. placed (length rows) v (eval s (id_at rows at) (letter_truth (i + o) c))) (m.right (letter_truth (i + o) c)) in
      record {
        reduced = tree-reduced e can (id_at all at) m.live;
        vars = rw (← a.props) (vars_below e can s.props (id_at all at) m.live m.letters);
        number = λ c k l w. value c ∙ ap (λ v. placed (length rows) v (eval s (id_at rows at) (letter_truth (i + o) c))) w;
        other = λ c l w. value c ∙ ap (λ v. placed (length rows) v (eval s (id_at rows at) (letter_truth (i + o) c))) w ∙ ap (λ p. eval s (id_at rows at) (letter_truth p c)) (sym a.props);
        targets = λ c l. (a.rows_are at h).1 (letter_truth s.props c);
        decides = λ c k l w. refl;
      }

-- environment first
module _ (i o : ℕ) (s e : Diagrams) (can : IsCanonical e) (rows : List Id) (goals : List Bool) (a : AreArenaRows s (environment_first i o) rows goals goals)
    (ranks : List (Option ℕ)) (same : length ranks ≡ length rows) (r : AreRanks (environment_first i o) false (locations_of s rows goals goals) (number_at ranks)) (bound : ℕ)
    (few : (z k : ℕ) → z < length rows → number_at ranks z ≡ Some k → k < bound) (codes : List ℕ) (c : AreAllCodes ranks bound codes) (all : List Id)
    (made : (at : ℕ) → at < length rows → IsRowMade s e false i (length rows) bound codes (id_at rows at) (number_at ranks at) (id_at all at)) where
  -- the least code over the outputs
  abbrev least_of : (at : ℕ) → (at < length rows) ⊎ (length rows ≤ at) → Assignment → ℕ
  least_of at (inl h) = (made at h).right.0
  least_of at (inr h) = λ b. 0

  abbrev least_at : ℕ → Assignment → ℕ
  least_at at = least_of at (cases_lt at (length rows))

  least_extreme : (at : ℕ) (d : (at < length rows) ⊎ (length rows ≤ at)) → at < length rows → (b : Assignment) → IsExtreme Least i (i + o) (item_value s codes (id_at rows at)) b (least_of at d b)
  least_extreme at (inl k) h b = subst (λ p. IsExtreme Least i p (item_value s codes (id_at rows at)) b ((made at k).right.0 b)) a.props ((made at k).right.1 b)
  least_extreme at (inr k) h b = absurd (omega arith)

  least_value : (at : ℕ) (d : (at < length rows) ⊎ (length rows ≤ at)) → at < length rows → (b : Assignment)
      → eval e (id_at all at) b ≡ placed (length rows) (decoded bound (least_of at d b)) (eval s (id_at rows at) b)
  least_value at (inl k) h b = (made at k).value b ∙ ap (λ v. placed (length rows) v (eval s (id_at rows at) b)) ((made at k).right.2 b)
  least_value at (inr k) h b = absurd (omega arith)

  codes_are : (at b : ℕ) → at < length rows → b < 2 ^ (i + o)
      → (eval s (id_at rows at) (letter_truth s.props b) < length rows
      → item_value s codes (id_at rows at) (letter_truth s.props b) ≡ code_of bound (number_at ranks (eval s (id_at rows at) (letter_truth s.props b))))
      × (item_value s codes (id_at rows at) (letter_truth s.props b) < bound → eval s (id_at rows at) (letter_truth s.props b) < length rows)
  codes_are at b h l = (
    λ k. c.each (eval s (id_at rows at) (letter_truth s.props b)) (omega arith),
    λ k. elim (cases_lt (eval s (id_at rows at) (letter_truth s.props b)) (length rows)) [
      | inl z ↦ z
      | inr z ↦
          let most = (a.rows_are at h).1 (letter_truth s.props b) in
          let q : eval s (id_at rows at) (letter_truth s.props b) ≡ length ranks = omega arith in
          let w : slice_index codes (eval s (id_at rows at) (letter_truth s.props b)) ≡ bound = ap (slice_index codes) q ∙ c.end in
          absurd (omega arith)
    ],
  )

  codes_here : (at b : ℕ) → at < length rows → b < 2 ^ (i + o)
      → (eval s (id_at rows at) (letter_truth s.props b) < length rows
      → item_value s codes (id_at rows at) (letter_truth (i + o) b) ≡ code_of bound (number_at ranks (eval s (id_at rows at) (letter_truth s.props b))))
      × (item_value s codes (id_at rows at) (letter_truth (i + o) b) < bound → eval s (id_at rows at) (letter_truth s.props b) < length rows)
  codes_here at b h l =
      subst (λ p. (eval s (id_at rows at) (letter_truth s.props b) < length rows
      → item_value s codes (id_at rows at) (letter_truth p b) ≡ code_of bound (number_at ranks (eval s (id_at rows at) (letter_truth s.props b))))
      × (item_value s codes (id_at rows at) (letter_truth p b) < bound → eval s (id_at rows at) (letter_truth s.props b) < length rows)) a.props (codes_are at b h l)

  code_letters : (at : ℕ) (b : Assignment) → at < length rows → item_value s codes (id_at rows at) b ≡ item_value s codes (id_at rows at) (letter_truth (i + o) (spelt b (i + o)))
  code_letters at b h =
      subst (λ p. item_value s codes (id_at rows at) b ≡ item_value s codes (id_at rows at) (letter_truth p (spelt b p))) a.props
      (ap (slice_index codes) (a.letters at h b (letter_truth s.props (spelt b s.props)) (λ v l. sym (spelt-truth b s.props v l))))

  inputs_won : AreWon (environment_first i o) false (locations_of s rows goals goals) (λ at x. decoded bound (least_at at (letter_truth (i + o) (letter_with o x 0))))
  inputs_won =
      folded_won i o false (locations_of s rows goals goals) (number_at ranks) r bound few (λ at. item_value s codes (id_at rows at)) least_at codes_here code_letters
      (λ at b h. least_extreme at (cases_lt at (length rows)) h b)

  least_same : (at b d : ℕ) → at < length rows → b / 2 ^ o ≡ d / 2 ^ o → least_at at (letter_truth (i + o) b) ≡ least_at at (letter_truth (i + o) d)
  least_same =
      folded_same i o false (locations_of s rows goals goals) (number_at ranks) r bound few (λ at. item_value s codes (id_at rows at)) least_at codes_here code_letters
      (λ at b h. least_extreme at (cases_lt at (length rows)) h b)

  -- an input whose least is a rank is legal
  input_legal : (at b : ℕ) → at < length rows → b < 2 ^ (i + o) → least_at at (letter_truth (i + o) b) < bound → (d : ℕ) → d < 2 ^ (i + o) → d / 2 ^ o ≡ b / 2 ^ o → eval s (id_at rows at) (letter_truth s.props d) < length rows
  input_legal at b h l few d k same =
      let t = (least_extreme at (cases_lt at (length rows)) h (letter_truth (i + o) b)).taken in
      let z = spelt t.0 (i + o) in
      let less = spelt-less t.0 (i + o) in
      let first : spelt t.0 (i + o) / 2 ^ o ≡ b / 2 ^ o =
      spelt-first t.0 i o ∙ spelt-same t.0 (letter_truth i (b / 2 ^ o)) i (λ v m. t.1 v (inl m) ∙ first_part i o b v m) ∙ spelt-letter i (b / 2 ^ o) (first_less i o b l) in
      let is : item_value s codes (id_at rows at) (letter_truth (i + o) (spelt t.0 (i + o))) ≡ least_at at (letter_truth (i + o) b) = sym (code_letters at t.0 h) ∙ t.2 in
      let low : item_value s codes (id_at rows at) (letter_truth (i + o) (spelt t.0 (i + o))) < bound = subst (λ w. w < bound) (sym is) few in
      let there = (codes_here at z h less).1 low in
      a.even at (spelt t.0 (i + o)) d h less k (first ∙ sym same) there

  environment_replaced : (at : ℕ) → at < length rows
      → IsReplaced (environment_first i o) (locations_of s rows goals goals) (λ k x. decoded bound (least_at k (letter_truth (i + o) (letter_with o x 0)))) at (tree e (id_at all at))
  environment_replaced at h =
      let m = made at h in
      let value : (b : ℕ) → b < 2 ^ (i + o) → value_at (tree e (id_at all at)) (letter_truth (i + o) b)
      ≡ placed (length rows) (decoded bound (least_at at (letter_truth (i + o) (letter_with o (b / 2 ^ o) 0)))) (eval s (id_at rows at) (letter_truth (i + o) b)) = λ b l.
      sym (eval-tree e (id_at all at) (letter_truth (i + o) b)) ∙ least_value at (cases_lt at (length rows)) h (letter_truth (i + o) b)
      ∙ ap (λ v. placed (length rows) (decoded bound v) (eval s (id_at rows at) (letter_truth (i + o) b)))
      (least_same at b (letter_with o (b / 2 ^ o) 0) h (sym (letter_first o (b / 2 ^ o) 0 (pow_pos o)))) in
      record {
        reduced = tree-reduced e can (id_at all at) m.live;
        vars = rw (← a.props) (vars_below e can s.props (id_at all at) m.live m.letters);
        number = λ b k l w. value b l ∙ ap (λ v. placed (length rows) v (eval s (id_at rows at) (letter_truth (i + o) b))) w;
        other = λ b l w. value b l ∙ ap (λ v. placed (length rows) v (eval s (id_at rows at) (letter_truth (i + o) b))) w ∙ ap (λ p. eval s (id_at rows at) (letter_truth p b)) (sym a.props);
        targets = λ b l. (a.rows_are at h).1 (letter_truth s.props b);
        decides = λ b k l w.
            let z = decoded_some bound (least_at at (letter_truth (i + o) (letter_with o (b / 2 ^ o) 0))) k w in
            let x = first_less i o b l in
            let f = letter_first o (b / 2 ^ o) 0 (pow_pos o) in
            (x, λ d n q. input_legal at (letter_with o (b / 2 ^ o) 0) h (letter_less i o (b / 2 ^ o) 0 x (pow_pos o)) z.1 d n (q ∙ sym f));
      }

decoded_less : (bound code k : ℕ) → decoded bound code ≡ Some k → k < bound
decoded_less bound code k e = let z = decoded_some bound code k e in subst (λ w. w < bound) z.0 z.1

-- the locations' rows, after those of numbers were appended
pub made_all : (s n e : Diagrams) (parts : Partition) (first : Bool) (inputs : ℕ) → first ≡ (agent_sides parts).lesser_before → inputs ≡ (agent_sides parts).before → (rows : List Id) (ranks : List (Option ℕ)) (size bound : ℕ)
    (codes : List ℕ) (made all : List Id) → AreRowsMade s n first inputs size bound codes rows ranks made size → Keeps n e → AreNumberRows e size made all (suc size)
    → (at : ℕ) → at < size → IsRowMade s e (agent_sides parts).lesser_before (agent_sides parts).before size bound codes (id_at rows at) (number_at ranks at) (id_at all at)
made_all s n e parts first inputs x y rows ranks size bound codes made all m keeps nr at h =
    subst (λ b. IsRowMade s e b (agent_sides parts).before size bound codes (id_at rows at) (number_at ranks at) (id_at all at)) x
    (subst (λ k. IsRowMade s e first k size bound codes (id_at rows at) (number_at ranks at) (id_at all at)) y
    (subst (λ i. IsRowMade s e first inputs size bound codes (id_at rows at) (number_at ranks at) i) (sym (nr.old at h))
    (made_lasts s n e keeps first inputs size bound codes (id_at rows at) (number_at ranks at) (id_at made at) (m.each at h))))

is_goal_same : (value : Option ℕ) (b g : Bool) (u : Option ℕ) → b ≡ g → value ≡ (if b then Some 0 else later u) → value ≡ (if g then Some 0 else later u)
is_goal_same value b g u e f = subst (λ z. value ≡ (if z then Some 0 else later u)) e f

far_by_mover : (f : Mover) (i o : ℕ) (s e : Diagrams) → IsCanonical e → (rows : List Id) (goals : List Bool) → AreArenaRows s (record { first = f; inputs = i; outputs = o }) rows goals goals
    → ((at c : ℕ) → at < length rows → is_first_at goals at ≡ true → c < 2 ^ (i + o) → eval s (id_at rows at) (letter_truth s.props c) ≡ at)
    → (ranks : List (Option ℕ)) → length ranks ≡ length rows → AreRanks (record { first = f; inputs = i; outputs = o }) false (locations_of s rows goals goals) (number_at ranks)
    → (codes : List ℕ) → AreAllCodes ranks (suc (length rows)) codes → (mades all : List Id)
    → ((at : ℕ) → at < length rows → IsRowMade s e (agent_sides (record { first = f; inputs = i; outputs = o })).lesser_before (agent_sides (record { first = f; inputs = i; outputs = o })).before (length rows)
    (suc (length rows)) codes (id_at rows at) (number_at ranks at) (id_at all at))
    → AreNumberRows e (length rows) mades all (suc (length rows)) → (first : List Bool) → AreFirsts goals (length rows) first (length rows) → (numbers : List (Option ℕ))
    → IsAttraction e lesser_sides all first false numbers → AreDistances (record { first = f; inputs = i; outputs = o }) false (locations_of s rows goals goals) (number_at numbers)
far_by_mover Agent i o s e can rows goals a loops ranks same r codes c mades all made nr first fi numbers t =
    let p : Partition = record { first = Agent; inputs = i; outputs = o } in
    let won : ℕ → ℕ → Option ℕ = λ k x. before (number_at ranks k) in
    let none : Assignment = λ v. false in
    hoped_distances p false (locations_of s rows goals goals) (λ k x. before (number_at ranks k)) (agent_are_won i o s e can rows goals a loops ranks r o (suc (length rows)) codes all made) (number_at numbers)
    (replaced_hoped p false (locations_of s rows goals goals) a.even (λ k x. before (number_at ranks k)) (λ k. tree e (id_at all k)) (agent_replaced i o s e can rows goals a loops ranks r o (suc (length rows)) codes all made)
    (number_at numbers) (end_none e can (length rows) mades all nr goals first fi numbers t)
    (λ at x k h w. numbers_are e can (length rows) mades all nr goals first fi numbers t k ((made at h).few (λ v. false) k ((made at h).right (λ v. false) ∙ w)))
    (λ at h.
    let count = nr.size_is in
    is_goal_same (number_at numbers at) (is_first_at first at) (is_first_at goals at) (minimax everywhere (number_at numbers) (tree e (id_at all at))) (fi.goals_are at h)
    (solved_everywhere e can (length rows) mades all nr goals first fi numbers t at (omega arith))))
far_by_mover Environment i o s e can rows goals a loops ranks same r codes c mades all made nr first fi numbers t =
    let p : Partition = record { first = Environment; inputs = i; outputs = o } in
    let few : (z k : ℕ) → z < length rows → number_at ranks z ≡ Some k → k < suc (length rows) = λ z k h w.
    let l = rank_most p false (locations_of s rows goals goals) (number_at ranks) r z k h w in omega arith in
    let won = inputs_won i o s e can rows goals a ranks same r (suc (length rows)) few codes c all made in
    hoped_distances p false (locations_of s rows goals goals) _ won (number_at numbers)
    (replaced_hoped p false (locations_of s rows goals goals) a.even _ (λ k. tree e (id_at all k)) (environment_replaced i o s e can rows goals a ranks same r (suc (length rows)) few codes c all made)
    (number_at numbers) (end_none e can (length rows) mades all nr goals first fi numbers t)
    (λ at x k h w. numbers_are e can (length rows) mades all nr goals first fi numbers t k (decoded_less (suc (length rows)) _ k w))
    (λ at h.
    let count = nr.size_is in
    is_goal_same (number_at numbers at) (is_first_at first at) (is_first_at goals at) (minimax everywhere (number_at numbers) (tree e (id_at all at))) (fi.goals_are at h)
    (solved_everywhere e can (length rows) mades all nr goals first fi numbers t at (omega arith))))

-- the numbers over all rows are the distances
pub far_distances : (s e : Diagrams) → IsCanonical e → (parts : Partition) (rows : List Id) (goals : List Bool) → AreArenaRows s parts rows goals goals
    → ((at c : ℕ) → at < length rows → is_first_at goals at ≡ true → c < 2 ^ width parts → eval s (id_at rows at) (letter_truth s.props c) ≡ at)
    → (ranks : List (Option ℕ)) → length ranks ≡ length rows → AreRanks parts false (locations_of s rows goals goals) (number_at ranks)
    → (codes : List ℕ) → AreAllCodes ranks (suc (length rows)) codes → (mades all : List Id)
    → ((at : ℕ) → at < length rows → IsRowMade s e (agent_sides parts).lesser_before (agent_sides parts).before (length rows) (suc (length rows)) codes (id_at rows at) (number_at ranks at) (id_at all at))
    → AreNumberRows e (length rows) mades all (suc (length rows)) → (first : List Bool) → AreFirsts goals (length rows) first (length rows) → (numbers : List (Option ℕ))
    → IsAttraction e lesser_sides all first false numbers → AreDistances parts false (locations_of s rows goals goals) (number_at numbers)
far_distances s e can parts rows goals a loops ranks same r codes c mades all made nr first fi numbers t =
    far_by_mover parts.first parts.inputs parts.outputs s e can rows goals a loops ranks same r codes c mades all made nr first fi numbers t
