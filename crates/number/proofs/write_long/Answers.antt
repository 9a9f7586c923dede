-- `number::write_long` meets its contract: the digits that are left, put before those that were put, make all of them.
use native.Mathlib.Omega.{arith}
use Rattle.number.proofs.PrintLaws.{four-room, print_four}
use Rattle.number.proofs.write_long.Goals as goal

pub write_four-requires : goal.write_four-requires
write_four-requires c = let r = c.loop-v.invariant in (omega arith, four-room r (omega arith), omega (arith, r.within, r.size))

pub overflow_sub-end : goal.overflow_sub-end
overflow_sub-end c = four-room c.loop-v.invariant (omega arith)

pub loop-v-preserved : goal.loop-v-preserved
loop-v-preserved c = print_four c.loop-v.invariant (omega arith) c.write_four.ensures
