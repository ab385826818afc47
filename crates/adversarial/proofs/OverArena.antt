-- What is said of an arena's rows is said of the arena, whether there is a duty or not.
use Rattle.std.proofs.Common.{◌≡◌, ℕ, sym, subst, Bool, false, List, length, Option}
use Rattle.diagrams.specs.declared.top.Id.{Id}
use Rattle.diagrams.specs.Eval.{Diagrams}
use Rattle.attractor.specs.Graph.{number_at}
use Rattle.forms.specs.declared.partition.Partition.{Partition}
use Rattle.game.specs.Histories.{Aims, is_given}
use Rattle.game.specs.Arena.{Locations, IsArenaOf}
use Rattle.layers.specs.Ranked.{AreRanks}
use Rattle.layers.specs.ArenaRows.{AreArenaRows}
use Rattle.layers.specs.ArenaRows as table
use Rattle.layers.specs.HistoryNumbers.{AreHistoryRanks}
use Rattle.layers.proofs.HistoryLemmas.{history_ranks}
use Rattle.arena.specs.Left.{ArenaTable, locations_of, is_broken_at}
use Rattle.adversarial.specs.Answered.{AreAnswers, AnswerHistories}
use Rattle.adversarial.proofs.Evading.{answers_with, tables_of_histories}

-- rows are an arena's whatever goals and broken duties there are
pub rows_again : (s : Diagrams) (p : Partition) (rows : List Id) (goals broken more others : List Bool) → AreArenaRows s p rows goals broken → AreArenaRows s p rows more others
rows_again s p rows goals broken more others a = record { canonical = a.canonical; props = a.props; rows_are = a.rows_are; letters = a.letters; even = a.even }

-- the ranks of the rows are those of the arena
pub ranks_over : (s : Diagrams) (t : ArenaTable) (p : Partition) (rows : List Id) (goals : List Bool) (made : List (Option ℕ)) → p ≡ t.partition → rows ≡ t.rows → goals ≡ t.goals
    → AreRanks p false (table.locations_of s rows goals goals) (number_at made) → AreRanks t.partition t.has_duty (locations_of s t) (number_at made)
ranks_over s t p rows goals made e f g r =
    subst (λ z. AreRanks z false (table.locations_of s t.rows t.goals t.goals) (number_at made)) e
    (subst (λ z. AreRanks p false (table.locations_of s z t.goals t.goals) (number_at made)) f
    (subst (λ z. AreRanks p false (table.locations_of s rows z z) (number_at made)) g r))

-- and those of the arena are the rows'
pub ranks_under : (s : Diagrams) (t : ArenaTable) (p : Partition) (rows : List Id) (made ranks : List (Option ℕ)) → p ≡ t.partition → rows ≡ t.rows → made ≡ ranks
    → AreRanks t.partition t.has_duty (locations_of s t) (number_at ranks) → AreRanks p false (table.locations_of s rows t.goals t.goals) (number_at made)
ranks_under s t p rows made ranks e f g r =
    subst (λ z. AreRanks p false (table.locations_of s rows t.goals t.goals) (number_at z)) (sym g)
    (subst (λ z. AreRanks p false (table.locations_of s z t.goals t.goals) (number_at ranks)) (sym f)
    (subst (λ z. AreRanks z false (table.locations_of s t.rows t.goals t.goals) (number_at ranks)) (sym e) r))

-- ranks of an arena are those of the histories of a specification whose arena it is
pub ranks_of_histories : (s : Aims) (p : Partition) (duty : Bool) (m : Locations) (rank : ℕ → Option ℕ) → s.parts ≡ p → IsArenaOf s m → AreRanks p duty m rank → AreHistoryRanks s m rank
ranks_of_histories s p duty m rank e arena r = history_ranks s m arena rank (subst (λ q. AreRanks q duty m rank) (sym e) r)

-- the answers by the rows are those of the arena
pub answers_over : (s n : Diagrams) (t : ArenaTable) (p : Partition) (rows : List Id) (made ranks : List (Option ℕ)) (tables : List (Option Id)) → p ≡ t.partition → rows ≡ t.rows → made ≡ ranks
    → AreAnswers n p false (table.locations_of s rows t.goals t.goals) (number_at made) tables → AreAnswers n t.partition t.has_duty (locations_of s t) (number_at ranks) tables
answers_over s n t p rows made ranks tables e f g a =
    answers_with n t.partition false t.has_duty (table.locations_of s t.rows t.goals t.goals) (is_broken_at t) (number_at ranks) tables
    (subst (λ z. AreAnswers n z false (table.locations_of s t.rows t.goals t.goals) (number_at ranks) tables) e
    (subst (λ z. AreAnswers n p false (table.locations_of s z t.goals t.goals) (number_at ranks) tables) f
    (subst (λ z. AreAnswers n p false (table.locations_of s rows t.goals t.goals) (number_at z) tables) g a)))

-- and those of the histories of a specification whose arena it is
pub answers_of_histories : (n : Diagrams) (s : Aims) (p : Partition) (duty : Bool) (m : Locations) (rank : ℕ → Option ℕ) (tables : List (Option Id)) → s.parts ≡ p → IsArenaOf s m → AreRanks p duty m rank
    → AreAnswers n p duty m rank tables → AnswerHistories n s m rank tables
answers_of_histories n s p duty m rank tables e arena r a =
    tables_of_histories n s m arena rank (subst (λ q. AreRanks q duty m rank) (sym e) r) tables
    (answers_with n s.parts duty (is_given s.duty) m m.is_broken rank tables (subst (λ q. AreAnswers n q duty m rank tables) (sym e) a))
