-- What a leaf makes of a row, and which row a line names there.
use Rattle.std.specs.Prelude.{ℕ, suc, ◌-◌, Bool, true, false, ◌&&◌, List, [], ◌∷◌, ◌++◌, map, take, replicate, filter, ◌==◌}
use Rattle.store.specs.declared.row.Row.{Row}
use Rattle.plan.specs.declared.node.Field.{Field}
use Rattle.plan.specs.declared.node.Field.TheVariants.{Open, Fixed}

-- the fields that count: those up to the arity; a further column has to be zero
abbrev pub fields_of : ℕ → List Field → List Field
fields_of arity fields = take arity fields ++ replicate (4 - arity) (Fixed 0)

-- how many fields are open
abbrev pub opens : List Field → ℕ
opens [] = 0
opens (Open ∷ fields) = suc (opens fields)
opens (Fixed n ∷ fields) = opens fields

-- the columns have the constant wherever a field is fixed
abbrev pub matches : List Field → List ℕ → Bool
matches [] [] = true
matches [] (x ∷ columns) = false
matches (f ∷ fields) [] = false
matches (Open ∷ fields) (x ∷ columns) = matches fields columns
matches (Fixed n ∷ fields) (x ∷ columns) = n == x && matches fields columns

-- the columns at the open fields, in order
abbrev pub opened : List Field → List ℕ → List ℕ
opened [] columns = []
opened (f ∷ fields) [] = []
opened (Open ∷ fields) (x ∷ columns) = x ∷ opened fields columns
opened (Fixed n ∷ fields) (x ∷ columns) = opened fields columns

-- a leaf's lines: the open columns of the relation's rows that have the constants
abbrev pub leaf_lines : ℕ → List Field → List Row → List (List ℕ)
leaf_lines relation fields rows =
    map (λ row. opened fields row.columns) (filter (λ row. (relation == row.relation) && matches fields row.columns) rows)

-- the constants, and the line's numbers at the open fields
abbrev pub filled : List Field → List ℕ → List ℕ
filled [] line = []
filled (Fixed n ∷ fields) line = n ∷ filled fields line
filled (Open ∷ fields) [] = 0 ∷ filled fields []
filled (Open ∷ fields) (x ∷ line) = x ∷ filled fields line

-- the one row that can give the line at a leaf
abbrev pub named : ℕ → List Field → List ℕ → Row
named relation fields line = record { relation = relation; columns = filled fields line }
