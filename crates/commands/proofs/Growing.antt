-- How the stack grows by a word, and that its nodes stay in order.
use Rattle.std.proofs.Common.{◌≡◌, ℕ, ◌+◌, ◌-◌, ◌<◌, ◌≤◌, false, cond, eqb, ltb, List, [], ◌∷◌, ◌++◌, length, get_or, Some, None, Option, sum_by, sym, refl, ap, ◌∙◌, subst, arith, inl, inr, ◌⊎◌}
use Rattle.std.specs.Option.{option_map, option_flatten, option_zip}
use Rattle.std.proofs.lemmas.Bool.{eq-eqb, cases_lt}
use Rattle.std.proofs.lemmas.Bool.Decides.{nat_tests}
use Rattle.std.proofs.lemmas.List.{length_push, get_or_push, get_or_append_left}
use Rattle.std.proofs.lemmas.List.Sums.{sum_by_push}
use Rattle.store.specs.declared.comparison.Comparison.{Comparison}
use Rattle.words.specs.Language.{Form, number, leaf, comparison, sign, slash, form_of, halves_of, texts, parts_of}
use Rattle.words.specs.declared.separators.Separator.TheVariants.{Colon, Comma}
use Rattle.plan.specs.Filling.{Earlier, stray_at}
use Rattle.plan.specs.Nodes.{blank, late, namings}
use Rattle.plan.specs.declared.node.Field.{Field}
use Rattle.plan.specs.declared.node.Node.{Node}
use Rattle.plan.specs.declared.node.Node.TheVariants.{Leaf, Choice, Pair}
use Rattle.plan.specs.declared.node.Op.{Op}
use Rattle.commands.specs.Choices.{choice_of}
use Rattle.commands.specs.Laws.{InOrder}
use Rattle.commands.specs.Leaves.{leaf_of, leaf_with, fields_from}
use Rattle.commands.specs.Numbers.{relation_of}
use Rattle.commands.specs.Plans.{Stacked, bare, topped, over, chosen, chosen_by, paired, paired_by, op_of, with_form, with_word, with_words, left_by, whole}

-- how often a position stands on the stack
abbrev pub times : ℕ → List ℕ → ℕ
times c [] = 0
times c (k ∷ ks) = cond (eqb k c) 1 0 + times c ks

-- a node was put on top of what was left when the nodes that it names were taken
pub record Grown (s t : Stacked) : Type 0 where
  pub node : Node
  pub rest : List ℕ
  pub is : t ≡ topped node (over rest s)
  pub takes : (c : ℕ) → namings c node + times c rest ≡ times c s.stack

-- a leaf names no node
names_none : (w : List ℕ) (n : Node) → Some n ≡ leaf_of w → (c : ℕ) → namings c n ≡ 0
names_none w n e c = halved (halves_of Colon w) e
  where
    made : (o : Option (ℕ × List Field)) → Some n ≡ option_map (λ l. leaf_with l.0 l.1) o → namings c n ≡ 0
    made None e = cc
    made (Some l) e = let is : n ≡ leaf_with l.0 l.1 = cc in ap (namings c) is

    halved : (o : Option (List ℕ × List ℕ)) → Some n ≡ option_flatten (option_map (λ h. option_map (λ l. leaf_with l.0 l.1) (option_zip (relation_of h.0) (fields_from (texts (parts_of Comma h.1))))) o) → namings c n ≡ 0
    halved None e = cc
    halved (Some h) e = made (option_zip (relation_of h.0) (fields_from (texts (parts_of Comma h.1)))) e

module _ (s t : Stacked) where
  by_node : (node : Node) (rest : List ℕ) → ((c : ℕ) → namings c node + times c rest ≡ times c s.stack) → Some t ≡ Some (topped node (over rest s)) → Grown s t
  by_node node rest takes e = record { node = node; rest = rest; is = (let same : t ≡ topped node (over rest s) = cc in same); takes = takes }

  by_choice : (stack : List ℕ) (c : Comparison ℕ) → s.stack ≡ stack → Some t ≡ chosen_by stack c s → Grown s t
  by_choice [] c is e = cc
  by_choice (k ∷ ks) c is e = by_node (Choice k c) ks (λ j. ap (times j) (sym is)) e

  by_pair : (stack : List ℕ) (op : Op) → s.stack ≡ stack → Some t ≡ paired_by stack op s → Grown s t
  by_pair [] op is e = cc
  by_pair (r ∷ []) op is e = cc
  by_pair (r ∷ l ∷ ks) op is e = by_node (Pair op l r) ks (λ j. omega (arith, ap (times j) is)) e

  by_form : (f : Form) → Some t ≡ with_form s f → Grown s t
  by_form (number w) e = cc
  by_form (leaf w) e = go (leaf_of w) (names_none w) e
    where
      go : (o : Option Node) → ((n : Node) → Some n ≡ o → (c : ℕ) → namings c n ≡ 0) → Some t ≡ option_map (λ node. topped node s) o → Grown s t
      go None none e = cc
      go (Some node) none e = by_node node s.stack (λ c. omega (arith, none node refl c)) e
  by_form (comparison w) e = go (choice_of w) e
    where
      go : (o : Option (Comparison ℕ)) → Some t ≡ option_flatten (option_map (chosen s) o) → Grown s t
      go None e = cc
      go (Some c) e = by_choice s.stack c refl e
  by_form (sign w) e = go (op_of w) e
    where
      go : (o : Option Op) → Some t ≡ option_flatten (option_map (paired s) o) → Grown s t
      go None e = cc
      go (Some op) e = by_pair s.stack op refl e
  by_form slash e = cc

  pub by_word : (w : List ℕ) → Some t ≡ with_word s w → Grown s t
  by_word w e = go (form_of w) e
    where
      go : (o : Option Form) → Some t ≡ option_flatten (option_map (with_form s) o) → Grown s t
      go None e = cc
      go (Some f) e = by_form f e

-- below a bound, the next number, and any other
step : (c m : ℕ) → cond (ltb c m) 1 0 + cond (eqb m c) 1 0 ≡ cond (ltb c (m + 1)) 1 0
step c m = grind (arith, nat_tests)

inside : (c m : ℕ) → 0 < cond (ltb c m) 1 0 → c < m
inside c m h = grind (arith, nat_tests)

-- a node that names only numbers below k is not late there
in_time : (k : ℕ) (n : Node) → ((c : ℕ) → 0 < namings c n → c < k) → late k n ≡ false
in_time k (Leaf relation arity fields) h = refl
in_time k (Choice node d) h = let l = h node (rw (eq-eqb node node refl) (omega arith)) in grind (arith, nat_tests)
in_time k (Pair op left right) h =
    let l = h left (rw (eq-eqb left left refl) (omega arith)) in
    let r = h right (rw (eq-eqb right right refl) (omega arith)) in
    grind (arith, nat_tests)

-- the last node is on top
abbrev Topmost : List ℕ → ℕ → Type 0
Topmost [] n = Unit {0}
Topmost (k ∷ ks) n = k + 1 ≡ n

-- each node names earlier ones, and each is named once or stands on the stack once
pub record Standing (s : Stacked) : Type 0 where
  pub early : Earlier s.nodes
  pub once : (c : ℕ) → sum_by (namings c) s.nodes + times c s.stack ≡ cond (ltb c (length s.nodes)) 1 0
  pub last : Topmost s.stack (length s.nodes)

early_more : (nodes : List Node) (n : Node) → Earlier nodes → late (length nodes) n ≡ false → Earlier (nodes ++ (n ∷ []))
early_more nodes n early fits k h = by (cases_lt k (length nodes))
  where
    by : (k < length nodes) ⊎ (length nodes ≤ k) → late k (get_or (nodes ++ (n ∷ [])) k blank) ≡ false
    by (inl before) = rw (get_or_append_left nodes (n ∷ []) blank k before) (early k before)
    by (inr behind) =
        let here : length nodes ≡ k = omega (arith, h, length_push nodes n) in
        rw (get_or_push nodes n blank k here, ← here) fits

stand_more : {s t : Stacked} → Standing s → Grown s t → Standing t
stand_more {s} {t} so more =
    let nodes = s.nodes in
    subst Standing (sym more.is) (record {
      early = early_more nodes more.node so.early (in_time (length nodes) more.node (λ c h. inside c (length nodes) (omega (arith, so.once c, more.takes c))));
      once = λ c. rw (length_push nodes more.node) (omega (arith, so.once c, more.takes c, sum_by_push (namings c) nodes more.node, step c (length nodes)));
      last = sym (length_push nodes more.node);
    })

stand_all : (ws : List (List ℕ)) (s t : Stacked) → Standing s → Some t ≡ with_words (Some s) ws → Standing t
stand_all [] s t so e = let same : s ≡ t = cc in subst Standing same so
stand_all (w ∷ ws) s t so e = go (with_word s w) refl (λ u more. stand_all ws u t (stand_more so more)) e
  where
    go : (o : Option Stacked) → o ≡ with_word s w → ((u : Stacked) → Grown s u → Some t ≡ with_words (Some u) ws → Standing t) → Some t ≡ with_words o ws → Standing t
    go None is others e = cc
    go (Some u) is others e = others u (by_word s u w is) e

stand_bare : Standing bare
stand_bare = record { early = λ k h. absurd (omega arith); once = λ c. grind (arith, nat_tests); last = tt }

alone : (n c k m : ℕ) → n + (cond (eqb k c) 1 0 + 0) ≡ cond (ltb c m) 1 0 → k + 1 ≡ m → c < m - 1 → n ≡ 1
alone n c k m once last h = grind (arith, nat_tests)

-- one node is left, which is the last: each other one was named
left_alone : (t : Stacked) (nodes : List Node) → Standing t → left_by t.stack t.nodes ≡ Some nodes → Earlier nodes × ((c : ℕ) → c < length nodes - 1 → stray_at nodes c ≡ false)
left_alone t nodes so e = by t.stack refl e
  where
    by : (stack : List ℕ) → t.stack ≡ stack → left_by stack t.nodes ≡ Some nodes → Earlier nodes × ((c : ℕ) → c < length nodes - 1 → stray_at nodes c ≡ false)
    by [] is e = cc
    by (k ∷ []) is e =
        let same : t.nodes ≡ nodes = cc in
        let once = λ (c : ℕ). (ap (λ stack. sum_by (namings c) t.nodes + times c stack) (sym is) ∙ so.once c) in
        let last = subst (λ stack. Topmost stack (length t.nodes)) is so.last in
        subst (λ ns. Earlier ns × ((c : ℕ) → c < length ns - 1 → stray_at ns c ≡ false)) same (so.early, λ c h. rw (alone _ c k (length t.nodes) (once c) last h) refl)
    by (k ∷ j ∷ rest) is e = cc

pub in_order : InOrder
in_order ws nodes e = go (with_words (Some bare) ws) (λ t. stand_all ws bare t stand_bare) e
  where
    go : (o : Option Stacked) → ((t : Stacked) → Some t ≡ o → Standing t) → option_flatten (option_map whole o) ≡ Some nodes → Earlier nodes × ((c : ℕ) → c < length nodes - 1 → stray_at nodes c ≡ false)
    go None stand e = cc
    go (Some t) stand e = left_alone t nodes (stand t refl) e
