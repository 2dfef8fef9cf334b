-- How much of a line its words take: not more than there is, and each at least so much.
use Rattle.std.proofs.Common.{◌≡◌, ℕ, suc, ◌+◌, ◌≤◌, Bool, true, false, cond, List, [], ◌∷◌, length, get_or, drop, Some, None, Option, sym, refl, ap, ◌∙◌, arith}
use Rattle.std.specs.Option.{option_map, option_flatten, option_zip}
use Rattle.store.specs.declared.comparison.Side.{Side}
use Rattle.store.specs.declared.comparison.Comparison.{Comparison}
use Rattle.store.specs.declared.sign.Sign.{Sign}
use Rattle.rules.specs.declared.rule.AtomColumn.{AtomColumn}
use Rattle.words.specs.Language.{cut, longer, separates, parts_of, pair_of, halves_of, number_of}
use Rattle.words.specs.declared.separators.Separator.{Separator}
use Rattle.words.specs.declared.separators.Separator.TheVariants.{Space, Sign as AtSign}
use Rattle.words.proofs.Cuts.{cut_parts}
use Rattle.commands.specs.Comparisons.{atom_side, compared, sign_of, comparison_of}
use Rattle.commands.specs.Lines.{words_of}
use Rattle.commands.specs.Rooms.{room}

module _ (sep : ℕ → Bool) where
  room_more : (b n : ℕ) (ps : List (List ℕ)) (t : Bool) → room ps ≡ 1 + n → room (cond t ([] ∷ ps) (longer b ps)) ≡ 1 + suc n
  room_more b n ps true e = omega arith
  room_more b n [] false e = omega arith
  room_more b n (p ∷ ps) false e = omega arith

  -- the parts of a text, each with a separator before it, take one byte more than the text
  pub cut_room : (text : List ℕ) → room (cut sep text) ≡ 1 + length text
  unfolding cut
  cut_room [] = refl
  cut_room (b ∷ bs) = room_more b (length bs) (cut sep bs) (sep b) (cut_room bs)

less_room : (ws : List (List ℕ)) (n : ℕ) → room ws ≡ 1 + n → room (drop 1 ws) ≤ n
less_room [] n e = omega arith
less_room (w ∷ ws) n e = omega arith

-- the words behind the first take no more than the line
pub further_room : (line : List ℕ) → room (drop 1 (words_of line)) ≤ length line
further_room line = less_room (words_of line) (length line) (ap room (sym (cut_parts Space line (parts_of Space line) refl)) ∙ cut_room (separates Space) line)

-- two halves are the text without its separator
pub halves_room : (s : Separator) (text : List ℕ) {a b : List ℕ} → Some (a, b) ≡ halves_of s text → length text ≡ length a + 1 + length b
halves_room s text {a} {b} e = let whole = cut_room (separates s) text in omega (arith, two (cut (separates s) text) e)
  where
    two : (ps : List (List ℕ)) → Some (a, b) ≡ pair_of ps → room ps ≡ 2 + length a + length b
    two [] e = cc
    two (p ∷ []) e = cc
    two (p ∷ q ∷ []) e = let same : ◌≡◌ {A = List ℕ × List ℕ} (a, b) (p, q) = cc in omega (arith, ap (λ (h : List ℕ × List ℕ). length h.0) same, ap (λ (h : List ℕ × List ℕ). length h.1) same)
    two (p ∷ q ∷ r ∷ ps) e = cc

-- a number has a byte
pub number_long : (w : List ℕ) (x : ℕ) → Some x ≡ number_of w → 1 ≤ length w
unfolding number_of
number_long [] x e = cc
number_long (b ∷ bs) x e = omega arith

-- so has a side of a comparison
side_long : (w : List ℕ) (s : Side AtomColumn) → Some s ≡ atom_side w → 1 ≤ length w
unfolding number_of
side_long [] s e = cc
side_long (b ∷ bs) s e = omega arith

both_some : {X Y : Type 0} (a : Option X) (b : Option Y) (c : X × Y) → Some c ≡ option_zip a b → (Some c.0 ≡ a) × (Some c.1 ≡ b)
both_some None b c e = cc
both_some (Some x) None c e = cc
both_some (Some x) (Some y) c e = (ap (option_map (λ p. p.0)) e, ap (option_map (λ p. p.1)) e)

-- a comparison has three bytes
pub comparison_long : (w : List ℕ) (c : Comparison AtomColumn) → Some c ≡ comparison_of w → 3 ≤ length w
comparison_long w c = made (compared atom_side w) (λ p. parted p (halves_of AtSign w) refl)
  where
    parted : (p : Side AtomColumn × (Sign × Side AtomColumn)) (o : Option (List ℕ × List ℕ)) → halves_of AtSign w ≡ o → Some p ≡ option_flatten (option_map (λ h. option_zip (atom_side h.0) (option_zip (sign_of (get_or w (length h.0) 0)) (atom_side h.1))) o) → 3 ≤ length w
    parted p None e is = cc
    parted p (Some (a, b)) e is =
        let (left, others) = both_some (atom_side a) _ p is in
        let (sign, right) = both_some _ (atom_side b) p.1 others in
        omega (arith, halves_room AtSign w (sym e), side_long a p.0 left, side_long b p.1.1 right)

    made : (o : Option (Side AtomColumn × (Sign × Side AtomColumn))) → ((p : Side AtomColumn × (Sign × Side AtomColumn)) → Some p ≡ o → 3 ≤ length w) → Some c ≡ option_map (λ p. record { left = p.0; sign = p.1.0; right = p.1.1 }) o → 3 ≤ length w
    made None long is = cc
    made (Some p) long is = long p refl
