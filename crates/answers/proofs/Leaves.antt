-- The first leaf whose arity is not the one that is told.
use Rattle.std.proofs.Common.{◌≡◌, ℕ, zero, suc, ◌<◌, true, false, eqb, List, [], ◌∷◌, length, Some, None, Ok, Err, Option, Result, MatchOption, sym, refl, subst, arith}
use Rattle.std.specs.List.{AllWithin, HoldsAt}
use Rattle.plan.specs.declared.leaf.PlanLeaf.{PlanLeaf}
use Rattle.answers.specs.Asking.{leaves_fail, Unless}
use Rattle.answers.specs.declared.refusal.Refusal.{Refusal}
use Rattle.answers.specs.declared.refusal.Refusal.TheVariants.{Arity}

module _ (arity : ℕ → ℕ) where
  -- the leaf has the arity
  abbrev pub Alike : PlanLeaf → Type 0
  Alike leaf = eqb leaf.arity (arity leaf.relation) ≡ true

  none_fails : (leaves : List PlanLeaf) → AllWithin Alike leaves 0 (length leaves) → leaves_fail arity leaves ≡ None
  none_fails [] all = refl
  none_fails (x ∷ leaves) all = rw (all 0 x (omega arith) (omega arith)) (none_fails leaves (λ k d a b. all (suc k) d (omega arith) (omega arith)))

  one_fails : (leaves : List PlanLeaf) (leaf : PlanLeaf) (i : ℕ) → i < length leaves → HoldsAt (λ x. x ≡ leaf) leaves i → AllWithin Alike leaves 0 i → eqb leaf.arity (arity leaf.relation) ≡ false → leaves_fail arity leaves ≡ Some (Arity leaf.node)
  one_fails [] leaf i inside here all fails = absurd (omega arith)
  one_fails (x ∷ leaves) leaf zero inside here all fails = rw (here x, fails) refl
  one_fails (x ∷ leaves) leaf (suc i) inside here all fails = rw (all 0 x (omega arith) (omega arith)) (one_fails leaves leaf i (omega arith) here (λ k d a b. all (suc k) d (omega arith) (omega arith)) fails)

  -- what is told, if the node of a leaf that is found is the error
  pub leaves_say : {u : Unit {0}} {A : Type 0} {P : A → Type 0} (v : A → PlanLeaf) (leaves : List PlanLeaf) (found : Option A)
      → MatchOption found (AllWithin Alike leaves 0 (length leaves)) (λ x. (eqb (v x).arity (arity (v x).relation) ≡ false) × (i : ℕ) × (i < length leaves) × HoldsAt (λ y. y ≡ v x) leaves i × AllWithin Alike leaves 0 i)
      → (r : Result (Unit {0}) Refusal) → MatchOption found (r ≡ Ok u) P → ((x : A) → P x → r ≡ Err (Arity (v x).node)) → Unless (leaves_fail arity leaves) r
  leaves_say v leaves None all r is post = subst (Unless (leaves_fail arity leaves)) (sym is) (none_fails leaves all)
  leaves_say v leaves (Some x) (fails, i, inside, here, all) r is post = subst (Unless (leaves_fail arity leaves)) (sym (post x is)) (one_fails leaves (v x) i inside here all fails)
