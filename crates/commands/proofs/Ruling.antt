-- How a rule is read, word by word.
use Rattle.std.proofs.Common.{◌≡◌, ℕ, ◌+◌, ◌*◌, ◌≤◌, List, [], ◌∷◌, ◌++◌, length, Some, None, Option, sym, refl, ap, ◌∙◌, subst, arith}
use Rattle.std.specs.Option.{option_map, option_zip}
use Rattle.std.proofs.lemmas.List.{append_assoc, append-nil, length_push}
use Rattle.rules.specs.Rules.{Denial}
use Rattle.store.specs.declared.comparison.Comparison.{Comparison}
use Rattle.rules.specs.declared.rule.AtomColumn.{AtomColumn}
use Rattle.words.specs.Language.{texts, Placed}
use Rattle.commands.specs.Comparisons.{comparison_of}
use Rattle.commands.specs.Numbers.{each, prefixed, as_relation}
use Rattle.commands.specs.Rooms.{room}
use Rattle.commands.specs.Rules.{atomless, led, atom_behind, rule_from}
use Rattle.commands.proofs.Rooms.{number_long, comparison_long}

-- a rule with more atoms in front
abbrev behind : List ℕ → Denial → Denial
behind atoms rule = record { atoms = atoms ++ rule.atoms; comparisons = rule.comparisons }

-- a rule to whose comparisons more are added
abbrev closing : List ℕ → List (Comparison AtomColumn) → List (Comparison AtomColumn) → Denial
closing atoms comparisons more = record { atoms = atoms; comparisons = comparisons ++ more }

-- what a rule so far and the words to come make: while it has no comparison, atoms may follow
abbrev pub followed : List ℕ → List (Comparison AtomColumn) → List (List ℕ) → Option Denial
followed atoms [] ws = option_map (behind atoms) (rule_from ws)
followed atoms (c ∷ cs) ws = option_map (closing atoms (c ∷ cs)) (each comparison_of ws)

-- of all words, some were read into the rule, and the others are to come
pub record Sofar (all : List (List ℕ)) (rule : Denial) (others : List Placed) : Type 0 where
  pub same : rule_from all ≡ followed rule.atoms rule.comparisons (texts others)
  pub fits : 2 * length rule.atoms + 4 * length rule.comparisons + room (texts others) ≤ 200

module _ (atoms : List ℕ) (w : List ℕ) (ws : List (List ℕ)) where
  -- an atom, before the first comparison
  atom_next : (cs : List (Comparison AtomColumn)) (x a : ℕ) → Some x ≡ atom_behind cs w → Some a ≡ as_relation x → followed atoms cs (w ∷ ws) ≡ followed (atoms ++ (a ∷ [])) cs ws
  atom_next [] x a is can = rw (← is, ← can) (regroup (rule_from ws))
    where
      regroup : (o : Option Denial) → option_map (behind atoms) (option_map (λ p. led p.0 p.1) (option_zip (Some a) o)) ≡ option_map (behind (atoms ++ (a ∷ []))) o
      regroup None = refl
      regroup (Some d) = ap (λ all. Some (record { atoms = all; comparisons = d.comparisons })) (sym (append_assoc atoms (a ∷ []) d.atoms))
  atom_next (c ∷ cs) x a is can = cc

  -- a comparison, which is the first or not
  comparison_next : (cs : List (Comparison AtomColumn)) (c : Comparison AtomColumn) → None ≡ atom_behind cs w → Some c ≡ comparison_of w → followed atoms cs (w ∷ ws) ≡ followed atoms (cs ++ (c ∷ [])) ws
  comparison_next [] c none is = rw (← none, ← is) (regroup (each comparison_of ws))
    where
      regroup : (o : Option (List (Comparison AtomColumn))) → option_map (behind atoms) (option_map atomless (prefixed (Some c) o)) ≡ option_map (closing atoms (c ∷ [])) o
      regroup None = refl
      regroup (Some more) = ap (λ all. Some (record { atoms = all; comparisons = c ∷ more })) (append-nil atoms)
  comparison_next (d ∷ ds) c none is = rw (← is) (regroup (each comparison_of ws))
    where
      regroup : (o : Option (List (Comparison AtomColumn))) → option_map (closing atoms (d ∷ ds)) (prefixed (Some c) o) ≡ option_map (closing atoms ((d ∷ ds) ++ (c ∷ []))) o
      regroup None = refl
      regroup (Some more) = ap (λ all. Some (record { atoms = atoms; comparisons = all })) (sym (append_assoc (d ∷ ds) (c ∷ []) more))

number_behind : (cs : List (Comparison AtomColumn)) (w : List ℕ) (x : ℕ) → Some x ≡ atom_behind cs w → 1 ≤ length w
number_behind [] w x is = number_long w x is
number_behind (c ∷ cs) w x is = cc

module _ {all : List (List ℕ)} {rule : Denial} {others rest : List Placed} {p : Placed} (so : Sofar all rule others) (next : others ≡ p ∷ rest) where
  here : Sofar all rule (p ∷ rest)
  here = subst (Sofar all rule) next so

  pub atom_more : {wider : Denial} (x a : ℕ) → Some x ≡ atom_behind rule.comparisons p.text → Some a ≡ as_relation x → wider ≡ record { atoms = rule.atoms ++ (a ∷ []); comparisons = rule.comparisons } → Sofar all wider rest
  atom_more x a is can e =
      rw e
      (record {
        same = here.same ∙ atom_next rule.atoms p.text (texts rest) rule.comparisons x a is can;
        fits = omega (arith, here.fits, number_behind rule.comparisons p.text x is, length_push rule.atoms a);
      })

  pub comparison_more : {wider : Denial} (c : Comparison AtomColumn) → None ≡ atom_behind rule.comparisons p.text → Some c ≡ comparison_of p.text → wider ≡ record { atoms = rule.atoms; comparisons = rule.comparisons ++ (c ∷ []) } → Sofar all wider rest
  comparison_more c none is e =
      rw e
      (record {
        same = here.same ∙ comparison_next rule.atoms p.text (texts rest) rule.comparisons c none is;
        fits = omega (arith, here.fits, comparison_long p.text c is, length_push rule.comparisons c);
      })
