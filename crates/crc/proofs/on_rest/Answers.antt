-- `crc::on_rest` meets its contract: from what was made of the bytes passed, those left make what all of them make.
use Prim.Native.Nat.{◌+◌}
use mathlib.Core.Path.{refl, sym, ◌∙◌}
use native.Mathlib.Omega.{arith}
use Rattle.crc.proofs.CrcLaws.{passed, all_passed}
use Rattle.crc.proofs.on_rest.Goals as goal

pub loop-b-preserved : goal.loop-b-preserved
loop-b-preserved c =
    let l = c.loop-b in
    passed l.c c.on_byte-c.result c.args.rest.now l.b-index (l.b-index + 1) refl (omega arith) c.on_byte-c.ensures ∙ l.invariant

pub returns : goal.returns
returns c =
    let l = c.loop-b in
    sym (all_passed l.c c.args.rest.now l.b-index (omega arith)) ∙ l.invariant
