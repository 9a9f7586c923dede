-- `number::read_short` meets its contract: what is left, after what was read, says what the whole says.
use Rattle.number.proofs.ReadLaws.{Short}
use Rattle.number.proofs.read_short.Given as goal

abbrev pub invariant-loop-b : goal.invariant-loop-b
invariant-loop-b l = Short l.most l.s l.n l.b-index
