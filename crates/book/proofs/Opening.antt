-- With no rules there are no conflicts.
use Rattle.std.proofs.Common.{◌≡◌, true, false, ◌&&◌, List, [], get_or, None, Option, sym, refl, subst}
use Rattle.std.proofs.lemmas.Bool.{both_ways, and_parts}
use Rattle.store.specs.Store.{Store}
use Rattle.store.specs.declared.row.Row.{Row}
use Rattle.rules.specs.Entries.{listing}
use Rattle.store.specs.Lists.{all}
use Rattle.rules.specs.Listing.{Listed, Lists, is_conflict, is_held, ascending}
use Rattle.rules.specs.Rules.{Denial}
use Rattle.book.specs.Books.{rules_of, Exact}
use Rattle.book.specs.declared.log.Log.{Log}

-- no rule is the first of none
never : (table : List (Option Row)) (c : Listed) → is_conflict table [] c ≡ true → ⊥
never table c h = let held = all (λ p. is_held (get_or table p None)) c.places in both_ways false refl (and_parts held false (and_parts (ascending c.places) (held && false) h).1).1

none : (table : List (Option Row)) → Lists (is_conflict table []) []
none table = record { right = λ c m. elim m [ ]; full = λ c h. absurd (never table c h); once = refl }

pub nothing_yet : (s : Store) (log : Log) → rules_of log ≡ [] → listing log.conflicts ≡ [] → Exact s log
nothing_yet s log r l = subst (λ (rs : List Denial). Lists (is_conflict s.places rs) (listing log.conflicts)) (sym r) (subst (Lists (is_conflict s.places [])) (sym l) (none s.places))
