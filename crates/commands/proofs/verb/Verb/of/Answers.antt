-- A word of so many bytes is the list of them: `fill_by_all` says so, and `cc` puts the bytes in.
use Rattle.std.proofs.Common.{◌≡◌, get_or, codes, refl, arith}
use Rattle.std.proofs.lemmas.List.FromFn.{fill_by_all}
use Rattle.commands.proofs.verb.Verb.of.Goals as goal

pub returns-in-strike : goal.returns-in-strike
returns-in-strike c =
    let word = c.args.word.now in
    let whole = fill_by_all (λ k. get_or word k 0) word 6 0 (omega arith) (λ k h. refl) in
    let is : word ≡ codes "strike" = cc in
    rw is refl

pub returns-in-verdict : goal.returns-in-verdict
returns-in-verdict c =
    let word = c.args.word.now in
    let whole = fill_by_all (λ k. get_or word k 0) word 7 0 (omega arith) (λ k h. refl) in
    let is : word ≡ codes "verdict" = cc in
    rw is refl

pub returns-in-conflicts : goal.returns-in-conflicts
returns-in-conflicts c =
    let word = c.args.word.now in
    let whole = fill_by_all (λ k. get_or word k 0) word 9 0 (omega arith) (λ k h. refl) in
    let is : word ≡ codes "conflicts" = cc in
    rw is refl
