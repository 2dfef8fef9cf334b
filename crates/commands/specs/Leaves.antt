-- Leaves of a plan as a line writes them, as 3:_,_,7.
use Rattle.std.specs.Prelude.{ℕ, ◌-◌, cond, List, [], ◌∷◌, ◌++◌, length, replicate, Some, codes, Option}
use Rattle.std.specs.Option.{option_map, option_flatten, option_zip}
use Rattle.words.specs.Language.{among, spelled, number_of, texts, parts_of, halves_of}
use Rattle.words.specs.declared.separators.Separator.TheVariants.{Colon, Comma}
use Rattle.plan.specs.declared.node.Field.{Field}
use Rattle.plan.specs.declared.node.Field.TheVariants.{Open, Fixed}
use Rattle.plan.specs.declared.node.Node.{Node}
use Rattle.plan.specs.declared.node.Node.TheVariants.{Leaf}
use Rattle.commands.specs.Numbers.{values_from, relation_of}

-- a column: open, or a number
abbrev pub field_of : List ℕ → Option Field
field_of text = cond (spelled (among (codes "_") ∷ []) text) (Some Open) (option_map Fixed (number_of text))

-- at most four columns
abbrev pub fields_from : List (List ℕ) → Option (List Field)
fields_from texts = values_from 4 field_of texts

-- a leaf with these columns; those from its arity on are fixed at zero
abbrev pub leaf_with : ℕ → List Field → Node
leaf_with relation fields = Leaf relation (length fields) (fields ++ replicate (4 - length fields) (Fixed 0))

-- a relation before the colon, and its columns behind it, parted by one comma each
abbrev pub leaf_of : List ℕ → Option Node
leaf_of w = option_flatten (option_map (λ h. option_map (λ l. leaf_with l.0 l.1) (option_zip (relation_of h.0) (fields_from (texts (parts_of Comma h.1))))) (halves_of Colon w))
