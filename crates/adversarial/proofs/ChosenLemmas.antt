-- Tables of answers in a store that grows, and what they say.
use Rattle.std.proofs.Common.{◌≡◌, ℕ, suc, ◌<◌, ◌≤◌, ◌^◌, ◌+◌, ◌⊎◌, inl, inr, refl, sym, ◌∙◌, ap, subst, arith, Bool, true, false, List, [], ◌∷◌, ◌++◌, length, length-append, Option, Some, None}
use Rattle.std.specs.Prelude.{slice_index, ◌↔◌}
use Rattle.std.proofs.lemmas.Bool.{cases_lt, cases_eq}
use Rattle.std.proofs.lemmas.List.{get_or_append_left, get_or_at}
use Rattle.diagrams.specs.declared.top.Id.{Id}
use Rattle.diagrams.specs.Tree.{Tree, Assignment}
use Rattle.diagrams.specs.Eval.{Diagrams, tree, eval, id_at, letter_truth, DependsOn}
use Rattle.diagrams.specs.Live.{IsLive, Keeps}
use Rattle.diagrams.specs.Transformed.{item_value}
use Rattle.diagrams.proofs.Meaning.{eval-lasts, live_lasts}
use Rattle.diagrams.proofs.DependsLemmas.{DependsOn-lasts}
use Rattle.automata.proofs.Letters.{spelt, spelt-truth}
use Rattle.attractor.specs.Graph.{number_at}
use Rattle.attractor.specs.Minimax.{minimax}
use Rattle.attractor.proofs.SettlingLemmas.{option_cases}
use Rattle.game.specs.Board.{IsOutput, width}
use Rattle.forms.specs.declared.partition.Partition.{Partition}
use Rattle.forms.specs.declared.partition.Mover.{Mover}
use Rattle.forms.specs.declared.partition.Mover.TheVariants.{Agent, Environment}
use Rattle.game.specs.Winning.{WinsWithin}
use Rattle.game.specs.Marks.{IsAnswer}
use Rattle.game.specs.Arena.{Locations, locations}
use Rattle.game.specs.Numbers.{IsLeastOrNone}
use Rattle.layers.specs.Ranked.{AreRanks, GoesByInput}
use Rattle.layers.specs.Layers.{is_output, IsRowTree}
use Rattle.layers.specs.ArenaRows.{locations_of, AreArenaRows, agent_sides}
use Rattle.layers.proofs.ArenaLemmas.{row_tree}
use Rattle.layers.proofs.AnswerLemmas.{ended, ended_there, ended_end, ended_ranks, unranked_row, agent_evaded, environment_evades}
use Rattle.adversarial.specs.Answered.{unranked_code, AreCodes, AreUnranked, IsAnswerValue, HasValues, IsChosen, AreChosen, AreAnswers, table_at}
use Rattle.adversarial.proofs.AnswerTables.{IsFree, agent_answer, environment_answer}

-- a table of values lasts
pub values_last : (n e : Diagrams) → Keeps n e → (id : Id) (P : Assignment → ℕ → Type 0) → HasValues n id P → HasValues e id P
values_last n e k id P h = record {
  live = live_lasts n e k.extends id h.live;
  value = λ a. subst (P a) (sym (eval-lasts n e k.was k.now k.extends id h.live a)) (h.value a);
}

pub chosen_lasts : (s n e : Diagrams) → Keeps n e → (first : Bool) (before : ℕ) (table : List ℕ) (row : Id) (rank : Option ℕ) (o : Option Id) → IsChosen s n first before table row rank o
    → IsChosen s e first before table row rank o
chosen_lasts s n e k first before table row (Some j) o h = h
chosen_lasts s n e k first before table row None o (id, f, h) = (id, f, values_last n e k id (IsAnswerValue first before s.props (item_value s table row)) h)

-- what is made of a row in a later store is made of it in the first
pub chosen_from : (s n e : Diagrams) → Keeps s n → (first : Bool) (before : ℕ) (table : List ℕ) (row : Id) (rank : Option ℕ) (o : Option Id) → IsLive s row → IsChosen n e first before table row rank o
    → IsChosen s e first before table row rank o
chosen_from s n e k first before table row (Some j) o l h = h
chosen_from s n e k first before table row None o l (id, f, h) =
    let same : item_value n table row ≡ item_value s table row = λ j a. ap (slice_index table) (eval-lasts s n k.was k.now k.extends row l a) j in (
      id,
      f,
      record {
        live = h.live;
        value = λ a. subst (λ p. IsAnswerValue first before p (item_value s table row) a (eval e id a)) k.extends.props
            (subst (λ g. IsAnswerValue first before n.props g a (eval e id a)) same (h.value a));
      },
    )

below_or_last : (i n : ℕ) → i < n + 1 → (i < n) ⊎ (i ≡ n)
below_or_last i n h = elim (cases_lt i n) [ inl l ↦ inl l | inr l ↦ inr (omega arith) ]

-- one location more
pub chosen_more : (s n e : Diagrams) → Keeps n e → (first : Bool) (before : ℕ) (table : List ℕ) (rows : List Id) (ranks : List (Option ℕ)) (made : List (Option Id)) (at : ℕ) (o : Option Id)
    → AreChosen s n first before table rows ranks made at → IsChosen s e first before table (id_at rows at) (number_at ranks at) o
    → AreChosen s e first before table rows ranks (made ++ o ∷ []) (at + 1)
chosen_more s n e k first before table rows ranks made at o c h =
    let size = c.size in
    record {
      size = let l : length (made ++ o ∷ []) ≡ length made + 1 = length-append made (o ∷ []) in omega arith;
      each = λ i l. elim (below_or_last i at l) [
        | inl j ↦ subst (λ z. IsChosen s e first before table (id_at rows i) (number_at ranks i) z) (sym (get_or_append_left made (o ∷ []) None i (omega arith)))
            (chosen_lasts s n e k first before table (id_at rows i) (number_at ranks i) (table_at made i) (c.each i j))
        | inr j ↦
            let z : table_at (made ++ o ∷ []) i ≡ o = get_or_at made o [] None i (size ∙ sym j) in
            subst (λ w. IsChosen s e first before table (id_at rows w) (number_at ranks w) (table_at (made ++ o ∷ []) i)) (sym j)
            (subst (λ y. IsChosen s e first before table (id_at rows at) (number_at ranks at) y) (sym z) h)
      ];
    }

code_small : (v : Option ℕ) → unranked_code v < 2
code_small None = omega arith
code_small (Some k) = omega arith

pub table_small : (ranks : List (Option ℕ)) (table : List ℕ) → AreUnranked ranks table → (k : ℕ) → k < length table → slice_index table k < 2
table_small ranks table u k h =
    let size = u.size in
    elim (cases_lt k (length ranks)) [
      | inl l ↦ subst (λ z. z < 2) (sym (u.each k l)) (code_small (number_at ranks k))
      | inr l ↦ let e : k ≡ length ranks = omega arith in subst (λ z. z < 2) (sym (ap (slice_index table) e ∙ u.end)) (omega arith)
    ]

-- what a call for a row needs
pub record IsRowNow (n : Diagrams) (parts : Partition) (row : Id) (table : List ℕ) : Type 0 where
  pub live : IsLive n row
  pub fit : (a : Assignment) → eval n row a < length table
  pub letters : DependsOn n row (λ v. v < n.props)
  pub before : (agent_sides parts).before ≤ n.props

sides_small : (f : Mover) (i o : ℕ) → (agent_sides (record { first = f; inputs = i; outputs = o })).before ≤ i + o
sides_small Agent i o = omega arith
sides_small Environment i o = omega arith

pub row_now : (s n : Diagrams) (parts : Partition) (rows : List Id) (goals : List Bool) (ranks : List (Option ℕ)) (table : List ℕ) → AreArenaRows s parts rows goals goals → Keeps s n → AreUnranked ranks table
    → length ranks ≡ length rows → (at : ℕ) → at < length rows → IsRowNow n parts (id_at rows at) table
row_now s n parts rows goals ranks table a k u same at h =
    let r = a.rows_are at h in
    let size = u.size in
    record {
      live = live_lasts s n k.extends (id_at rows at) r.0;
      fit = λ c.
          let e = eval-lasts s n k.was k.now k.extends (id_at rows at) r.0 c in
          let l = r.1 c in
          omega arith;
      letters = DependsOn-lasts s n k (id_at rows at) (λ p v. v < p) r.0 (a.letters at h);
      before = subst (λ p. (agent_sides parts).before ≤ p) (sym (k.extends.props ∙ a.props)) (sides_small parts.first parts.inputs parts.outputs);
    }

unranked_one : (v : Option ℕ) → unranked_code v ≡ 1 → v ≡ None
unranked_one None e = refl
unranked_one (Some k) e = absurd (omega arith)

module _ (s : Diagrams) (parts : Partition) (rows : List Id) (goals : List Bool) (a : AreArenaRows s parts rows goals goals) (ranks : List (Option ℕ)) (same : length ranks ≡ length rows)
    (r : AreRanks parts false (locations_of s rows goals goals) (number_at ranks)) (table : List ℕ) (u : AreUnranked ranks table) where
  -- a letter has the code 1 exactly where it is free
  free_code : (at : ℕ) → at < length rows → (c : ℕ) → c < 2 ^ width parts → (item_value s table (id_at rows at) (letter_truth s.props c) ≡ 1) ↔ IsFree parts false (locations_of s rows goals goals) at c
  free_code at h c l =
      let next = eval s (id_at rows at) (letter_truth s.props c) in
      let most = (a.rows_are at h).1 (letter_truth s.props c) in (
        λ e. elim (cases_lt (eval s (id_at rows at) (letter_truth s.props c)) (length rows)) [
          | inl k ↦
              let code = u.each (eval s (id_at rows at) (letter_truth s.props c)) (omega arith) in
              let none = unranked_one (number_at ranks (eval s (id_at rows at) (letter_truth s.props c))) (sym code ∙ e) in (
                k,
                subst (λ v. IsLeastOrNone (λ n. WinsWithin (locations parts false (locations_of s rows goals goals)) n (eval s (id_at rows at) (letter_truth s.props c))) v) none
                    (r (eval s (id_at rows at) (letter_truth s.props c)) k),
              )
          | inr k ↦
              let z : eval s (id_at rows at) (letter_truth s.props c) ≡ length ranks = omega arith in
              let q = ap (slice_index table) z ∙ u.end in
              absurd (omega arith)
        ],
        λ p. u.each (eval s (id_at rows at) (letter_truth s.props c)) (let w = p.0 in omega arith) ∙ (elim (option_cases (number_at ranks (eval s (id_at rows at) (letter_truth s.props c)))) [
          | inl e ↦ ap unranked_code e
          | inr e ↦ absurd (p.1 e.0
              (subst (λ v. IsLeastOrNone (λ n. WinsWithin (locations parts false (locations_of s rows goals goals)) n (eval s (id_at rows at) (letter_truth s.props c))) v) e.1
              (r (eval s (id_at rows at) (letter_truth s.props c)) p.0)).holds)
        ]),
      )

  code_letters : (at : ℕ) → at < length rows → (b : Assignment) → item_value s table (id_at rows at) b ≡ item_value s table (id_at rows at) (letter_truth s.props (spelt b s.props))
  code_letters at h b = ap (slice_index table) (a.letters at h b (letter_truth s.props (spelt b s.props)) (λ v l. sym (spelt-truth b s.props v l)))

  code_small_at : (at : ℕ) → at < length rows → (b : Assignment) → item_value s table (id_at rows at) b < 2
  code_small_at at h b = let size = u.size in let most = (a.rows_are at h).1 b in table_small ranks table u (eval s (id_at rows at) b) (omega arith)

  ended_none : (at : ℕ) → at < length rows → number_at ranks at ≡ None → ended (length rows) (number_at ranks) at ≡ None
  ended_none at h e = ended_there (length rows) (number_at ranks) at h ∙ e

-- the table made of the row of a location that isn't won has the answers
answers_by_mover : (f : Mover) (i o : ℕ) (s n : Diagrams) (rows : List Id) (goals : List Bool) → AreArenaRows s (record { first = f; inputs = i; outputs = o }) rows goals goals
    → (ranks : List (Option ℕ)) → length ranks ≡ length rows → AreRanks (record { first = f; inputs = i; outputs = o }) false (locations_of s rows goals goals) (number_at ranks)
    → (table : List ℕ) → AreUnranked ranks table → (at : ℕ) → at < length rows → number_at ranks at ≡ None → (id : Id)
    → HasValues n id (IsAnswerValue (agent_sides (record { first = f; inputs = i; outputs = o })).lesser_before (agent_sides (record { first = f; inputs = i; outputs = o })).before s.props (item_value s table (id_at rows at)))
    → (y : ℕ) → y < 2 ^ o → IsAnswer (locations (record { first = f; inputs = i; outputs = o }) false (locations_of s rows goals goals)) at y (eval n id (letter_truth o y))
answers_by_mover Agent i o s n rows goals a ranks same r table u at h e id w y l =
    let p : Partition = record { first = Agent; inputs = i; outputs = o } in
    let m = locations_of s rows goals goals in
    let g = item_value s table (id_at rows at) in
    let tree_rows = row_tree s p false rows goals goals a in
    let fine = ended_ranks p false m (number_at ranks) r in
    let unranked = unranked_row p false m (λ k. tree s (id_at rows k)) tree_rows a.even (ended (length rows) (number_at ranks)) fine in
    let ev = agent_evaded i o false m (λ k. tree s (id_at rows k)) tree_rows (ended (length rows) (number_at ranks)) fine (ended_end (length rows) (number_at ranks)) unranked at h
    (ended_none s p rows goals a ranks same r table u at h e) y l in
    agent_answer i o false m at g
    (subst (λ q. (c : ℕ) → c < 2 ^ (i + o) → (item_value s table (id_at rows at) (letter_truth q c) ≡ 1) ↔ IsFree (record { first = Agent; inputs = i; outputs = o }) false (locations_of s rows goals goals) at c) a.props
    (free_code s p rows goals a ranks same r table u at h))
    (subst (λ q. (b : Assignment) → item_value s table (id_at rows at) b ≡ item_value s table (id_at rows at) (letter_truth q (spelt b q))) a.props (code_letters s p rows goals a ranks same r table u at h))
    y (eval n id (letter_truth o y)) l ev
    (subst (λ q. IsAnswerValue true o q (item_value s table (id_at rows at)) (letter_truth o y) (eval n id (letter_truth o y))) a.props (w.value (letter_truth o y)))
answers_by_mover Environment i o s n rows goals a ranks same r table u at h e id w y l =
    let p : Partition = record { first = Environment; inputs = i; outputs = o } in
    let m = locations_of s rows goals goals in
    let g = item_value s table (id_at rows at) in
    let tree_rows = row_tree s p false rows goals goals a in
    let fine = ended_ranks p false m (number_at ranks) r in
    let unranked = unranked_row p false m (λ k. tree s (id_at rows k)) tree_rows a.even (ended (length rows) (number_at ranks)) fine in
    let ev = environment_evades i o false m (λ k. tree s (id_at rows k)) tree_rows (ended (length rows) (number_at ranks)) fine (ended_end (length rows) (number_at ranks)) unranked at h
    (ended_none s p rows goals a ranks same r table u at h e) in
    let v = subst (λ q. IsAnswerValue false i q (item_value s table (id_at rows at)) (letter_truth o y) (eval n id (letter_truth o y))) a.props (w.value (letter_truth o y)) in
    environment_answer i o false m at g
    (subst (λ q. (c : ℕ) → c < 2 ^ (i + o) → (item_value s table (id_at rows at) (letter_truth q c) ≡ 1) ↔ IsFree (record { first = Environment; inputs = i; outputs = o }) false (locations_of s rows goals goals) at c) a.props
    (free_code s p rows goals a ranks same r table u at h))
    (subst (λ q. (b : Assignment) → item_value s table (id_at rows at) b ≡ item_value s table (id_at rows at) (letter_truth q (spelt b q))) a.props (code_letters s p rows goals a ranks same r table u at h))
    (code_small_at s p rows goals a ranks same r table u at h)
    v.0 v.1 y (eval n id (letter_truth o y)) (ev.0, ev.2) v.2

chosen_won : (s n : Diagrams) (first : Bool) (before : ℕ) (table : List ℕ) (row : Id) (rank : Option ℕ) (o : Option Id) (k : ℕ) → rank ≡ Some k → IsChosen s n first before table row rank o → o ≡ None
chosen_won s n first before table row (Some j) o k e h = h
chosen_won s n first before table row None o k e h = absurd (cc)

chosen_not : (s n : Diagrams) (first : Bool) (before : ℕ) (table : List ℕ) (row : Id) (rank : Option ℕ) (o : Option Id) → rank ≡ None → IsChosen s n first before table row rank o
    → (id : Id) × (o ≡ Some id) × HasValues n id (IsAnswerValue first before s.props (item_value s table row))
chosen_not s n first before table row (Some j) o e h = absurd (cc)
chosen_not s n first before table row None o e h = h

-- the tables that were made are those of answers
pub chosen_answers : (s n : Diagrams) (parts : Partition) (rows : List Id) (goals : List Bool) → AreArenaRows s parts rows goals goals → (ranks : List (Option ℕ)) → length ranks ≡ length rows
    → AreRanks parts false (locations_of s rows goals goals) (number_at ranks) → (table : List ℕ) → AreUnranked ranks table → (made : List (Option Id)) (first : Bool) (before : ℕ)
    → first ≡ (agent_sides parts).lesser_before → before ≡ (agent_sides parts).before
    → AreChosen s n first before table rows ranks made (length rows) → AreAnswers n parts false (locations_of s rows goals goals) (number_at ranks) made
chosen_answers s n parts rows goals a ranks same r table u made first before e f c = record {
  size = c.size;
  won = λ at k h q. chosen_won s n first before table (id_at rows at) (number_at ranks at) (table_at made at) k q (c.each at h);
  answers = λ at h q.
      let z = chosen_not s n first before table (id_at rows at) (number_at ranks at) (table_at made at) q (c.each at h) in
      let w = subst (λ b. HasValues n z.0 (IsAnswerValue b (agent_sides parts).before s.props (item_value s table (id_at rows at)))) e
      (subst (λ k. HasValues n z.0 (IsAnswerValue first k s.props (item_value s table (id_at rows at)))) f z.2) in
      (z.0, z.1, z.2.live, λ y l. answers_by_mover parts.first parts.inputs parts.outputs s n rows goals a ranks same r table u at h q z.0 w y l);
}
