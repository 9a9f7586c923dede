use Rattle.std.proofs.Common.{arith}
use Rattle.slices.proofs.CutLaws.{before_le}
use Rattle.slices.proofs.next.Goals as goal

pub overflow_add-result-2 : goal.overflow_add-result-2
overflow_add-result-2 c = let h = c.in-Some.ensures.lookup in omega (arith, before_le c.args.c c.behind_strides-rest.result.now)
