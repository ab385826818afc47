-- Columns of claims: the operators on columns give the columns of the operators on claims.
use Rattle.std.proofs.Common.{◌≡◌, ℕ, [], ◌∷◌, ◌++◌, length, append_assoc, refl, sym, ◌∙◌, ap, Bool}
use Rattle.std.specs.Prelude.{◌&&◌, ◌||◌, replicate}
use Rattle.forms.specs.Word.{Word, Claim}
use Rattle.trace_meaning.specs.declared.operator.Unary.{Unary}
use Rattle.trace_meaning.specs.declared.operator.Unary.TheVariants as unary
use Rattle.trace_meaning.specs.declared.operator.Binary.{Binary}
use Rattle.trace_meaning.specs.Operator.{unary_now, unary_handed_on, binary_now}
use Rattle.trace_meaning.specs.Column.{handed, changed, first, column, last, without_last}
use Rattle.trace_meaning.specs.Star.{first_or}
use Rattle.trace_meaning.specs.Leads.{both, one_of}
use Rattle.trace_meaning.specs.Kept.{column_of, next_column_of}
use Rattle.trace_meaning.proofs.Columns.{last-push, without_last-push}

-- claims that agree have one column
pub column_of-agree : (f g : Claim) → ((v : Word) → f v ≡ g v) → (w u : Word) → column_of f w u ≡ column_of g w u
column_of-agree f g h [] u = refl
column_of-agree f g h (a ∷ w) u = rw (h (a ∷ (w ++ u)), column_of-agree f g h w u) refl

-- claims that agree have one column at the next positions
pub next_column_of-agree : (f g : Claim) → ((v : Word) → f v ≡ g v) → (w u : Word) → next_column_of f w u ≡ next_column_of g w u
next_column_of-agree f g h [] u = refl
next_column_of-agree f g h (a ∷ w) u = rw (h (w ++ u), next_column_of-agree f g h w u) refl

-- the column of a constant claim has its value at each letter
pub column_of-constant : (b : Bool) (w u : Word) → replicate (length w) b ≡ column_of (λ v. b) w u
column_of-constant b [] u = refl
column_of-constant b (a ∷ w) u = ap (λ t. b ∷ t) (column_of-constant b w u)

-- two claims' columns joined by `and` are the column of both claims together
pub both-column_of : (f g : Claim) (w u : Word) → both (column_of f w u) (column_of g w u) ≡ column_of (λ v. f v && g v) w u
both-column_of f g [] u = refl
both-column_of f g (a ∷ w) u = ap (λ t. (f (a ∷ (w ++ u)) && g (a ∷ (w ++ u))) ∷ t) (both-column_of f g w u)

-- two claims' columns joined by `or` are the column of either claim
pub one_of-column_of : (f g : Claim) (w u : Word) → one_of (column_of f w u) (column_of g w u) ≡ column_of (λ v. f v || g v) w u
one_of-column_of f g [] u = refl
one_of-column_of f g (a ∷ w) u = ap (λ t. (f (a ∷ (w ++ u)) || g (a ∷ (w ++ u))) ∷ t) (one_of-column_of f g w u)

-- two claims' columns at the next positions joined by `and` are that of both claims together
pub both-next_column_of : (f g : Claim) (w u : Word) → both (next_column_of f w u) (next_column_of g w u) ≡ next_column_of (λ v. f v && g v) w u
both-next_column_of f g [] u = refl
both-next_column_of f g (a ∷ w) u = ap (λ t. (f (w ++ u) && g (w ++ u)) ∷ t) (both-next_column_of f g w u)

-- two claims' columns at the next positions joined by `or` are that of either claim
pub one_of-next_column_of : (f g : Claim) (w u : Word) → one_of (next_column_of f w u) (next_column_of g w u) ≡ next_column_of (λ v. f v || g v) w u
one_of-next_column_of f g [] u = refl
one_of-next_column_of f g (a ∷ w) u = ap (λ t. (f (w ++ u) || g (w ++ u)) ∷ t) (one_of-next_column_of f g w u)

-- before a block a claim has its column's first value, or its value after the block if that is empty
pub first_or-column_of : (f : Claim) (w u : Word) → first_or (f u) (column_of f w u) ≡ f (w ++ u)
first_or-column_of f [] u = refl
first_or-column_of f (a ∷ w) u = refl

-- the claim c is that of the operator, and d is what it hands on
module _ (op : Unary) (c d f : Claim)
    (hc : (a : ℕ) (v : Word) → c (a ∷ v) ≡ unary_now op (f (a ∷ v)) (d v))
    (hd : (a : ℕ) (v : Word) → d (a ∷ v) ≡ unary_handed_on op (f (a ∷ v)) (d v)) where
  -- what the operator hands on from the front of the block is d there
  pub handed-column_of : (w u : Word) → handed op (d u) (column_of f w u) ≡ d (w ++ u)
  handed-column_of [] u = refl
  handed-column_of (a ∷ w) u = ap (unary_handed_on op (f (a ∷ (w ++ u)))) (handed-column_of w u) ∙ sym (hd a (w ++ u))

  -- the column that the operator makes of its operand's is that of c
  pub changed-column_of : (w u : Word) → changed op (d u) (column_of f w u) ≡ column_of c w u
  changed-column_of [] u = refl
  changed-column_of (a ∷ w) u = rw (handed-column_of w u, changed-column_of w u, hc a (w ++ u)) refl

-- the claim c is that of the operator
module _ (op : Binary) (c f g : Claim)
    (hc : (a : ℕ) (v : Word) → c (a ∷ v) ≡ binary_now op (f (a ∷ v)) (g (a ∷ v)) (c v)) where
  -- the value that the operator gives at the front of the block is that of c
  pub first-column_of : (w u : Word) → first op (c u) (column_of f w u) (column_of g w u) ≡ c (w ++ u)
  first-column_of [] u = refl
  first-column_of (a ∷ w) u = ap (binary_now op (f (a ∷ (w ++ u))) (g (a ∷ (w ++ u)))) (first-column_of w u) ∙ sym (hc a (w ++ u))

  -- the column that the operator makes of its operands' is that of c
  pub column-column_of : (w u : Word) → column op (c u) (column_of f w u) (column_of g w u) ≡ column_of c w u
  column-column_of [] u = refl
  column-column_of (a ∷ w) u = rw (first-column_of w u, column-column_of w u, hc a (w ++ u)) refl

-- the values at the next positions
pub handed-next : (f : Claim) (w u : Word) → handed unary.Next (f u) (column_of f w u) ≡ f (w ++ u)
handed-next f [] u = refl
handed-next f (a ∷ w) u = refl

-- the column of the operator next is the operand's at the next positions
pub changed-next : (f : Claim) (w u : Word) → changed unary.Next (f u) (column_of f w u) ≡ next_column_of f w u
changed-next f [] u = refl
changed-next f (a ∷ w) u = rw (handed-next f w u, changed-next f w u) refl

-- the last letter of a block
pub column_of-push : (f : Claim) (b : Word) (a : ℕ) (u : Word) → column_of f (b ++ a ∷ []) u ≡ column_of f b (a ∷ u) ++ f (a ∷ u) ∷ []
column_of-push f [] a u = refl
column_of-push f (c ∷ b) a u = rw (append_assoc b (a ∷ []) u, column_of-push f b a u) refl

-- the last value of a claim's column is its value at the last letter of the block
pub last-column_of : (f : Claim) (b : Word) (a : ℕ) (u : Word) → last (column_of f (b ++ a ∷ []) u) ≡ f (a ∷ u)
last-column_of f b a u = ap last (column_of-push f b a u) ∙ last-push (column_of f b (a ∷ u)) (f (a ∷ u))

-- a claim's column without its last value is that of the block without its last letter
pub without_last-column_of : (f : Claim) (b : Word) (a : ℕ) (u : Word) → without_last (column_of f (b ++ a ∷ []) u) ≡ column_of f b (a ∷ u)
without_last-column_of f b a u = ap without_last (column_of-push f b a u) ∙ without_last-push (column_of f b (a ∷ u)) (f (a ∷ u))
