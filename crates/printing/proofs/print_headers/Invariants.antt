-- `printing::print_headers` ends: each header takes four numbers.
use Rattle.std.proofs.Common.{length}
use Rattle.printing.proofs.print_headers.Given as goal

abbrev pub decreases-loop-rest : goal.decreases-loop-rest
decreases-loop-rest l = length l.rest
