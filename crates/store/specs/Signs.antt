-- How two columns are compared.
use Rattle.std.specs.Prelude.{ℕ, Bool, not, ◌==◌, nat_lt}
use Rattle.store.specs.declared.sign.Sign.{Sign}
use Rattle.store.specs.declared.sign.Sign.TheVariants.{Equal, Unequal, Less, Greater}

-- the comparison with this sign holds of two numbers
abbrev pub compares : Sign → ℕ → ℕ → Bool
compares Equal a b = a == b
compares Unequal a b = not (a == b)
compares Less a b = nat_lt a b
compares Greater a b = nat_lt b a
