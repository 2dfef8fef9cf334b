-- Why a rule is refused, and what is told of it.
use Rattle.std.specs.Prelude.{◌≡◌, ℕ, suc, Bool, true, false, cond, ◌&&◌, List, [], ◌∷◌, length, Some, None, Ok, Err, Option, Result, nat_le, nat_lt, slice_index}
use Rattle.fault.specs.Notices.{notice}
use Rattle.fault.specs.Questions.{ask}
use Rattle.fault.specs.declared.notice.Notice.{Notice}
use Rattle.store.specs.Lists.{all}
use Rattle.store.specs.Sides.{all_columns}
use Rattle.store.specs.declared.comparison.Comparison.{Comparison}
use Rattle.rules.specs.Rules.{denial}
use Rattle.rules.specs.declared.refusal.Refusal.{Refusal}
use Rattle.rules.specs.declared.refusal.Refusal.TheVariants.{Malformed, UndeclaredAtom, NoSuchColumn}
use Rattle.rules.specs.declared.rule.AtomColumn.{AtomColumn}
use Rattle.rules.specs.declared.rule.Rule.{Rule}

-- the position is that of the atom or the comparison that fails
abbrev pub notice_of : Refusal → Notice
notice_of Malformed = notice 22 0
notice_of (UndeclaredAtom atom) = notice 23 atom
notice_of (NoSuchColumn comparison) = notice 24 comparison

-- one to three atoms, and at most six comparisons
abbrev pub well_formed : List ℕ → List (Comparison AtomColumn) → Bool
well_formed atoms comparisons = nat_lt 0 (length atoms) && (nat_le (length atoms) 3 && nat_le (length comparisons) 6)

-- the relation has an arity
abbrev pub is_declared : (ℕ → ℕ) → ℕ → Bool
is_declared arity relation = nat_lt 0 (arity relation)

-- a column is one of an atom of the rule, below the arity of that atom's relation
abbrev pub column_named : (ℕ → ℕ) → List ℕ → AtomColumn → Bool
column_named arity atoms c = nat_lt c.atom (length atoms) && nat_lt c.column (arity (slice_index atoms c.atom))

-- each column of the comparison is so
abbrev pub names : (ℕ → ℕ) → List ℕ → Comparison AtomColumn → Bool
names arity atoms c = all_columns (column_named arity atoms) c

-- the index of the first element that fails the test
abbrev pub first_failing : {A : Type 0} → (A → Bool) → List A → ℕ
first_failing test [] = 0
first_failing test (x ∷ xs) = cond (test x) (suc (first_failing test xs)) 0

-- the questions, in order: is it well formed, is each atom's relation declared, does each comparison name atoms of the rule and columns below their arity?
abbrev pub rule_refusal : (ℕ → ℕ) → List ℕ → List (Comparison AtomColumn) → Option Refusal
rule_refusal arity atoms comparisons =
    ask (well_formed atoms comparisons) Malformed
    (ask (all (is_declared arity) atoms) (UndeclaredAtom (first_failing (is_declared arity) atoms))
    (ask (all (names arity atoms) comparisons) (NoSuchColumn (first_failing (names arity atoms) comparisons)) None))

-- the rule that is meant by these atoms and comparisons, or else the refusal of the first question that is answered No
abbrev pub CheckSays : (ℕ → ℕ) → List ℕ → List (Comparison AtomColumn) → Result Rule Refusal → Type 0
CheckSays arity atoms comparisons (Ok rule) = (rule_refusal arity atoms comparisons ≡ None) × (denial rule ≡ record { atoms = atoms; comparisons = comparisons })
CheckSays arity atoms comparisons (Err e) = rule_refusal arity atoms comparisons ≡ Some e

-- the index of the first element that fails the test, or nothing when each passes
abbrev pub FailSays : {A : Type 0} → (A → Bool) → List A → Option ℕ → Type 0
FailSays test xs (Some i) = (all test xs ≡ false) × (i ≡ first_failing test xs)
FailSays test xs None = all test xs ≡ true
