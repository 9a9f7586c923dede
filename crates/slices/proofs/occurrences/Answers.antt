use Rattle.std.proofs.Common.{◌≡◌, ◌+◌, arith}
use Rattle.slices.specs.Cut.{occurrences}
use Rattle.slices.proofs.CountLaws.{occurrences-most, occurrences_split}
use Rattle.slices.proofs.occurrences.Goals.{After-from-n}
use Rattle.slices.proofs.occurrences.Goals as goal

-- the block's and those behind it
on : (c : After-from-n) → c.loop-block.n + c.from-n.result + occurrences c.args.c c.in-Some.tail.now ≡ occurrences c.args.c c.args.s.now
on c =
    let part = c.in-Some.ensures.cases in
    let block : occurrences c.args.c c.in-Some.block.now + occurrences c.args.c c.in-Some.tail.now ≡ occurrences c.args.c c.loop-block.rest.now =
    rw (part.0, part.1) (occurrences_split c.args.c 192 c.loop-block.rest.now) in
    omega (arith, c.loop-block.invariant, c.from-n.ensures, c.occurrences_in_block.ensures)

pub overflow_add-n : goal.overflow_add-n
overflow_add-n c = omega (arith, on (goal.at.overflow_add-n c).After-from-n, occurrences-most c.args.c c.args.s.now)

pub loop-block-preserved : goal.loop-block-preserved
loop-block-preserved c = on (goal.at.loop-block-preserved c).After-from-n

pub overflow_add-result : goal.overflow_add-result
overflow_add-result c = omega (arith, c.loop-block.invariant, c.occurrences_in_block-2.ensures, occurrences-most c.args.c c.args.s.now)
