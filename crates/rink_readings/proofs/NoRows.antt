-- Over no rows no plan has a line.
use Rattle.std.proofs.Common.{◌≡◌, ℕ, zero, suc, ◌-◌, false, List, [], ◌∷◌, ◌++◌, map, length, get_or, filter, refl, ap, ◌∙◌, ap₂}
use Rattle.plan.specs.Answers.{has, chosen, lines_by, lines_of, padded, is_answer}
use Rattle.plan.specs.Nodes.{grown}
use Rattle.plan.specs.declared.node.Node.{Node}
use Rattle.plan.specs.declared.node.Node.TheVariants.{Leaf, Choice, Pair}
use Rattle.plan.specs.declared.node.Op.{Op}
use Rattle.plan.specs.declared.node.Op.TheVariants.{Product, Union, Difference}

-- none of these nodes has a line
abbrev pub Lineless : List (List (List ℕ)) → Type 0
Lineless done = (k : ℕ) → get_or done k [] ≡ []

one_more : (done : List (List (List ℕ))) → Lineless done → Lineless (done ++ [] ∷ [])
one_more [] h zero = refl
one_more [] h (suc k) = refl
one_more (x ∷ done) h zero = h zero
one_more (x ∷ done) h (suc k) = one_more done (λ j. h (suc j)) k

of_nothing : (op : Op) → lines_by op [] [] ≡ []
of_nothing Product = refl
of_nothing Union = refl
of_nothing Difference = refl

next : (done : List (List (List ℕ))) → Lineless done → (n : Node) → lines_of [] done n ≡ []
next done h (Leaf relation arity fields) = refl
next done h (Choice node comparison) = ap (filter (chosen comparison)) (h node)
next done h (Pair op left right) = ap₂ (lines_by op) (h left) (h right) ∙ of_nothing op

lineless : (nodes : List Node) (done : List (List (List ℕ))) → Lineless done → Lineless (grown (lines_of []) done nodes)
lineless [] done h = h
lineless (n ∷ nodes) done h = lineless nodes (done ++ lines_of [] done n ∷ []) (rw (next done h n) (one_more done h))

pub no_answer : (nodes : List Node) (columns : List ℕ) → is_answer nodes [] columns ≡ false
no_answer nodes columns = ap (λ lines. has (map padded lines) columns) (lineless nodes [] (λ k. refl) (length nodes - 1))
