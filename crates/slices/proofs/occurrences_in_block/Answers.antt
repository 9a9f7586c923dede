use Rattle.std.proofs.Common.{arith}
use borrow.Author.Tests.{eq-eqb, ne_eqb}
use Rattle.slices.proofs.CountLaws.{occurrences_more, occurrences-few}
use Rattle.slices.proofs.occurrences_in_block.Goals.{then-b-c, else-b-c}
use Rattle.slices.proofs.occurrences_in_block.Goals as goal

pub overflow_add-n : goal.overflow_add-n
overflow_add-n c = omega (arith, occurrences-few c.args.c c.args.block.now c.loop-b.b-index (omega arith))

pub loop-b-preserved : goal.loop-b-preserved
loop-b-preserved c =
    rw (occurrences_more c.args.c c.args.block.now c.loop-b.b-index (omega arith))
    (elim c.if-b-c.branch [
      | then-b-c w ↦ rw (w.n-is, eq-eqb _ _ w.if-b-c.true, c.loop-b.invariant)
      | else-b-c w ↦ rw (w.n-is, ne_eqb _ _ w.if-b-c.false) c.loop-b.invariant
    ])
