-- What a look at one location finds.
use Rattle.std.proofs.Common.{◌≡◌, ◌<◌, ℕ, true, List, sym, ◌∙◌, ap, length}
use Rattle.std.specs.Prelude.{slice_index}
use Rattle.diagrams.specs.declared.top.Id.{Id}
use Rattle.diagrams.specs.Eval.{Diagrams, eval}
use Rattle.diagrams.specs.Live.{Keeps, Means}
use Rattle.diagrams.specs.Transformed.{Transforms, IsTableItem, item_value}
use Rattle.diagrams.proofs.Meaning.{eval-lasts}
use Rattle.automata.specs.Table.{Table, size_of, row_of, Fits}
use Rattle.linked_blocks.specs.Lists.{HoldEach}

-- lists that hold each location below two numbers have no location below the one alone
pub within_both : (n m : ℕ) (lists : List (List ℕ)) → HoldEach n lists → HoldEach m lists → (x : ℕ) → x < n → x < m
within_both n m lists e f x h = let t = e.there x h in (f.within _ x t.0 t.1).0

-- what is made of a row now is what was to be made of it at first
pub looked_means : (s m n : Diagrams) (t : Table) (numbers : List ℕ) (at : ℕ) (row id : Id) → Keeps s m → Fits s t → at < size_of t → row ≡ row_of t at
    → Transforms m n (IsTableItem numbers) row id → Means n id (item_value s numbers (row_of t at))
looked_means s m n t numbers at row id k f h e r = record {
  live = r.live;
  value = λ a.
      r.value a
      ∙ ap (λ z. slice_index numbers (eval m z a)) e
      ∙ ap (slice_index numbers) (eval-lasts s m k.was k.now k.extends (row_of t at) (f at h).live a);
}
