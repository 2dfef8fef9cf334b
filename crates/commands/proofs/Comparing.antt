-- How a comparison is read, from its halves.
use Rattle.std.proofs.Common.{◌≡◌, ℕ, get_or, List, length, Some, None, Option, refl}
use Rattle.std.specs.Option.{option_map}
use Rattle.store.specs.declared.comparison.Side.{Side}
use Rattle.store.specs.declared.sign.Sign.{Sign}
use Rattle.words.specs.Language.{halves_of}
use Rattle.words.specs.declared.separators.Separator.TheVariants.{Sign as AtSign}
use Rattle.commands.specs.Comparisons.{between, compared, sign_of}

module _ {C : Type 0} (side : List ℕ → Option (Side C)) (text a b : List ℕ) (halves : Some (a, b) ≡ halves_of AtSign text) where
  pub no_left : None ≡ side a → None ≡ option_map between (compared side text)
  no_left left = rw (← halves, ← left) refl

  pub no_right : (l : Side C) (s : Sign) → Some l ≡ side a → Some s ≡ sign_of (get_or text (length a) 0) → None ≡ side b → None ≡ option_map between (compared side text)
  no_right l s left sign right = rw (← halves, ← left, ← sign, ← right) refl

  pub both_read : (l r : Side C) (s : Sign) → Some l ≡ side a → Some s ≡ sign_of (get_or text (length a) 0) → Some r ≡ side b → Some (between (l, (s, r))) ≡ option_map between (compared side text)
  both_read l r s left sign right = rw (← halves, ← left, ← sign, ← right) refl
