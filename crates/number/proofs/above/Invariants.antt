-- `number::above` meets its contract: the bytes that are left are digits exactly if all are.
use Rattle.number.proofs.ReadLaws.{Scanning}
use Rattle.number.proofs.above.Given as goal

abbrev pub invariant-loop-b : goal.invariant-loop-b
invariant-loop-b l = Scanning l.rest 0 l.b-index
