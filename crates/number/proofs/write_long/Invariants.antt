-- `number::write_long` meets its contract: the digits that are left, put before those that were put, make all of them.
use Rattle.number.proofs.PrintLaws.{Printing}
use Rattle.number.proofs.write_long.Given as goal

abbrev pub invariant-loop-v : goal.invariant-loop-v
invariant-loop-v l = Printing l.initial.out l.at l.value l.out l.end l.v

abbrev pub decreases-loop-v : goal.decreases-loop-v
decreases-loop-v l = l.v
