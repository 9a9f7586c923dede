-- `crc::on_rest` meets its contract: from what was made of the bytes passed, those left make what all of them make.
use mathlib.Core.Path.{◌≡◌}
use lib.ListN.{drop}
use Rattle.crc.specs.Crc.{on_bytes}
use Rattle.crc.proofs.on_rest.Given as goal

abbrev pub invariant-loop-b : goal.invariant-loop-b
invariant-loop-b l = on_bytes l.c (drop l.b-index l.rest) ≡ on_bytes l.before l.rest
