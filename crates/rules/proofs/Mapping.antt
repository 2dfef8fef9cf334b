-- Lists in order, seen through a map.
use Rattle.std.specs.Prelude.{◌≡◌, Bool, true, false, cond, ◌&&◌, ◌||◌, List, [], ◌∷◌, map, filter, refl}
use Rattle.std.specs.declared.cmp.Ordering.TheVariants.{Less, Equal, Greater}
use Rattle.std.specs.declared.cmp.Ordering.{Ordering}
use Rattle.std.proofs.Common.{sym, ap, ap₂, ◌∙◌}
use Rattle.std.proofs.lemmas.List.Folds.{list_all-map}
use Rattle.std.specs.Ordering.{is_lt, is_eq}
use Rattle.ordered.specs.Order.{rises, listed, pick, entered}

module _ {X Y : Type 0} (f : X → Y) where
  pub map_kept : (test : Y → Bool) (xs : List X) → map f (filter (λ x. test (f x)) xs) ≡ filter test (map f xs)
  map_kept test [] = refl
  map_kept test (x ∷ xs) = elim (test (f x)) as (λ b. map f (cond b (x ∷ filter (λ x. test (f x)) xs) (filter (λ x. test (f x)) xs)) ≡ cond b (f x ∷ filter test (map f xs)) (filter test (map f xs))) [
    | true ↦ ap (λ l. f x ∷ l) (map_kept test xs)
    | false ↦ map_kept test xs
  ]

  module _ (order : Y → Y → Ordering) where
    abbrev through : X → X → Ordering
    through a b = order (f a) (f b)

    pub rises_map : (xs : List X) → rises through xs ≡ rises order (map f xs)
    rises_map [] = refl
    rises_map (x ∷ xs) = ap₂ ◌&&◌ (sym (list_all-map (λ y. is_lt (order (f x) y)) f xs)) (rises_map xs)

    pub listed_map : (x : X) (xs : List X) → listed through x xs ≡ listed order (f x) (map f xs)
    listed_map x [] = refl
    listed_map x (y ∷ ys) = ap (λ b. is_eq (order (f y) (f x)) || b) (listed_map x ys)

    pick_map : (o : Ordering) (a b c : List X) → map f (pick o a b c) ≡ pick o (map f a) (map f b) (map f c)
    pick_map Less a b c = refl
    pick_map Equal a b c = refl
    pick_map Greater a b c = refl

    pub entered_map : (x : X) (xs : List X) → map f (entered through x xs) ≡ entered order (f x) (map f xs)
    entered_map x [] = refl
    entered_map x (y ∷ ys) = pick_map (order (f y) (f x)) _ _ _ ∙ ap (λ l. pick (order (f y) (f x)) (f y ∷ l) (f y ∷ map f ys) (f x ∷ f y ∷ map f ys)) (entered_map x ys)
