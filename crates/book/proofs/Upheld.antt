-- The list is exact again after a call.
use Rattle.std.proofs.Common.{◌≡◌, ℕ, ◌≤◌, List, ◌∷◌, length, get_or, set, is_some, Some, None, Ok, Err, Option, Result, sym, ap, ◌∙◌, subst, arith}
use Rattle.std.proofs.lemmas.List.{set-set, set-get_or, get_or-set_same, length-map, length-take}
use Rattle.std.proofs.lemmas.Bool.{le-leb}
use Rattle.store.specs.Places.{OnceIn}
use Rattle.store.specs.Store.{Store, Put, Struck, StrikeSays, strike_refusal}
use Rattle.store.specs.declared.refusal.Refusal.{Refusal}
use Rattle.store.specs.declared.row.Row.{Row}
use Rattle.store.proofs.Places.{held_at}
use Rattle.rules.specs.Entries.{listing}
use Rattle.store.specs.Held.{rows_of}
use Rattle.rules.specs.Listing.{Listed, Lists, is_conflict}
use Rattle.rules.specs.Rules.{Denial, denial, AtMost}
use Rattle.rules.specs.Sets.{among}
use Rattle.rules.specs.Views.{listed_as}
use Rattle.rules.specs.declared.list.Conflicts.{Conflicts}
use Rattle.rules.proofs.Counting.{counted}
use Rattle.rules.proofs.Holding.{put_rows}
use Rattle.rules.proofs.SameHeld.{same_members}
use Rattle.ordered.specs.Lists.{items_in}
use Rattle.ordered.specs.declared.entry.Full.{Full as TooFull}
use Rattle.book.specs.Books.{rules_of, Exact, RuledSays}
use Rattle.book.specs.declared.log.Log.{Log}

-- a place that was empty and had a row put is as it was once it is emptied
emptied : (places : List (Option Row)) (p : ℕ) (row : Row) → get_or places p None ≡ None → set (set places p (Some row)) p None ≡ places
emptied places p row e = set-set places p (Some row) None ∙ ap (set places p) (sym e) ∙ set-get_or places p None

module _ (rules : List Denial) (listed : List Listed) where
  -- before the conflicts of a row that was put are added, the list is exact for the places without it
  pub before_put : (s s' : Store) (row : Row) (p : ℕ) → Put s s' row p → Lists (is_conflict s.places rules) listed → Lists (is_conflict (set s'.places p None) rules) listed
  before_put s s' row p put exact = subst (λ (places : List (Option Row)). Lists (is_conflict places rules) listed) (sym (ap (λ places. set places p None) put.stands ∙ emptied s.places p row put.empty)) exact

  pub same_store : (s s' : Store) → s' ≡ s → Lists (is_conflict s.places rules) listed → Lists (is_conflict s'.places rules) listed
  same_store s s' e exact = subst (λ (x : Store). Lists (is_conflict x.places rules) listed) (sym e) exact

-- a row that was put and then struck leaves the source as it was
pub put_back : (s s' s'' : Store) (row : Row) (p q : ℕ) → Put s s' row p → OnceIn s'.places → Struck s' s'' row q → s'' ≡ s
put_back s s' s'' row p q put once struck =
    let here : get_or s'.places p None ≡ Some row = ap (λ places. get_or places p None) put.stands ∙ get_or-set_same s.places p (Some row) None put.inside in
    let e : q ≡ p = once q p (ap is_some struck.stood, struck.stood ∙ sym here) in
    let back : s''.places ≡ s.places = struck.gone ∙ ap (λ k. set s'.places k None) e ∙ ap (λ places. set places p None) put.stands ∙ emptied s.places p row put.empty in
    let same = struck.arities ∙ put.arities in
    λ i. record { arity = same i; places = back i }

-- a list of conflicts in its array has at most 1,024
pub within : (l : Conflicts) → length (listing l) ≤ 1024
within l = omega (arith, length-map (items_in l.items) listed_as, length-take l.items.count l.items.items, l.items.within)

-- so there are at most that many
pub few_listed : (s : Store) → OnceIn s.places → (rules : List Denial) (l : Conflicts) → Lists (is_conflict s.places rules) (listing l) → AtMost 1024 (rows_of s.places) rules
few_listed s once rules l exact = (counted s.places once rules (listing l) exact 1024).0 (le-leb (length (listing l)) 1024 (within l))

module _ (s s' s'' : Store) (row : Row) (p : ℕ) (put : Put s s' row p) where
  -- the striking that undoes an entry is not refused
  pub undone : OnceIn s'.places → (r : Result ℕ Refusal) → StrikeSays s' s'' row r → s'' ≡ s
  undone once (Ok q) struck = put_back s s' s'' row p q put once struck
  undone once (Err e) (same, refused) =
      let here : get_or s'.places p None ≡ Some row = ap (λ places. get_or places p None) put.stands ∙ get_or-set_same s.places p (Some row) None put.inside in
      let held : strike_refusal s' row ≡ None = rw (held_at s'.places p row here) in
      let z : ◌≡◌ {A = ℕ} 0 1 = cc in absurd (omega arith)

  -- what the conflicts would be with the row
  pub many_with : (rules : List Denial) → (AtMost 1024 (rows_of s'.places) rules → ⊥) → AtMost 1024 (row ∷ rows_of s.places) rules → ⊥
  many_with rules many few = many ((same_members (row ∷ rows_of s.places) (rows_of s'.places)
      (λ r. sym (ap (λ places. among (rows_of places) r) put.stands ∙ put_rows s.places p row put.inside put.empty r)) rules).0 1024 few)

-- the rules of a log are as many as it counts
pub how_many : (log : Log) → length (rules_of log) ≡ length (items_in log.rules)
how_many log = length-map (items_in log.rules) denial

-- the list is exact after a rule is asked for, whether it was taken or not
pub still_exact : (s : Store) (before after : Log) (rule : Denial) (r : Result Unit TooFull) → RuledSays s before after rule r → Exact s before → Exact s after
still_exact s before after rule (Ok _) says exact = says.1
still_exact s before after rule (Err _) says exact =
    subst (λ (rs : List Denial). Lists (is_conflict s.places rs) (listing after.conflicts)) (sym says.0) (subst (λ (l : List Listed). Lists (is_conflict s.places (rules_of before)) l) (sym says.1) exact)
