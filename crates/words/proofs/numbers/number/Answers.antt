-- A number has 1 to 10 bytes, each of them a digit, and a value below the limit.
use Rattle.std.proofs.Common.{sym, rules}
use Rattle.words.specs.Language.{number_of}
use Rattle.words.proofs.Digits.{one_more, spoilt, small_enough, too_large}
use Rattle.words.proofs.numbers.number.Goals as goal

pub returns-then-is_empty : goal.returns-then-is_empty
unfolding number_of
returns-then-is_empty c = search rules

pub returns-then-not-is_ascii_digit : goal.returns-then-not-is_ascii_digit
returns-then-not-is_ascii_digit c = spoilt _ _ _ c.loop-byte.invariant c.loop-byte-test.true (sym c.if-not-is_ascii_digit.ensures.value)

pub loop-byte-preserved : goal.loop-byte-preserved
loop-byte-preserved c = one_more _ _ _ c.loop-byte.invariant c.loop-byte-test.true (sym c.if-not-is_ascii_digit.ensures.value)

pub returns-then-value-lt-LIMIT : goal.returns-then-value-lt-LIMIT
returns-then-value-lt-LIMIT c =
    small_enough _ _ _ c.loop-byte.invariant c.loop-byte-test.false c.if-is_empty.ensures c.if-text-gt-MOST_DIGITS.false c.if-value-lt-LIMIT.true

pub returns-else-value-lt-LIMIT : goal.returns-else-value-lt-LIMIT
returns-else-value-lt-LIMIT c =
    too_large _ _ _ c.loop-byte.invariant c.loop-byte-test.false c.if-is_empty.ensures c.if-text-gt-MOST_DIGITS.false c.if-value-lt-LIMIT.false
