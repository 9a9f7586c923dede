-- `crc::crc32` meets its contract: from what was made of the bytes passed, those left make what all of them make.
use Rattle.std.proofs.Common.{◌≡◌, length}
use Rattle.crc.specs.Crc.{ones, on_bytes}
use Rattle.crc.proofs.crc32.Given as goal

abbrev pub invariant-loop-eight : goal.invariant-loop-eight
invariant-loop-eight l = on_bytes l.c l.rest ≡ on_bytes ones l.bytes

abbrev pub decreases-loop-eight : goal.decreases-loop-eight
decreases-loop-eight l = length l.rest
