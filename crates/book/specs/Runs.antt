-- What a book was asked and told since its opening, and when that is lawful.
use Rattle.std.specs.Prelude.{◌≡◌, List, []}
use Rattle.store.specs.Store.{Store}
use Rattle.store.specs.declared.row.Row.{Row}
use Rattle.store.specs.Held.{rows_of, empties}
use Rattle.rules.specs.Rules.{Denial}
use Rattle.rules.specs.Sets.{among}
use Rattle.book.specs.Plain.{Plain, Asked, Told, Steps}

-- the plain book that a source is opened as: its arities, its rows, its empty places, and no rules
abbrev pub opened : Store → Plain
opened s = record { arity = s.arity; rows = rows_of s.places; empty = empties s.places; rules = [] }

-- calls and what was told of each, from the opening on
pub data History : Type 0 where
  opening : Plain → History
  more : History → Asked → Told → History

-- asked all this in order, the plain book tells just that, and is then p
abbrev pub Leads : History → Plain → Type 0
Leads (opening start) p = p ≡ start
Leads (more h asked told) p = (q : Plain) × Leads h q × Steps q asked told p

-- the plain book holds what a source and some rules hold: the same arities, rows, number of empty places and rules
pub record Agrees (p : Plain) (s : Store) (rules : List Denial) : Type 0 where
  pub arity : p.arity ≡ s.arity
  pub rows : (row : Row) → among p.rows row ≡ among (rows_of s.places) row
  pub empty : p.empty ≡ empties s.places
  pub taken : p.rules ≡ rules

-- a lawful life: the plain book tells the same of all calls, and both hold the same now
pub record Life (h : History) (s : Store) (rules : List Denial) : Type 0 where
  pub plain : Plain
  pub leads : Leads h plain
  pub agrees : Agrees plain s rules

-- every lawful life so far, with this call and what was told of it, is a lawful life
abbrev pub LivesOn : Store → List Denial → Store → List Denial → Asked → Told → Type 0
LivesOn s rules s' rules' asked told = (h : History) → Life h s rules → Life (more h asked told) s' rules'
