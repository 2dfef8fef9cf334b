-- The bytes so far are digits that write the value.
use Rattle.words.proofs.Digits.{Sofar}
use Rattle.words.proofs.numbers.number.Given as goal

abbrev pub invariant-loop-byte : goal.invariant-loop-byte
invariant-loop-byte l = Sofar l.text l.byte-index l.value
