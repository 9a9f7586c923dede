-- `crc::crc32` meets its contract: eights of bytes, the rest, and the complement.
use Prim.Native.Nat.{ℕ}
use mathlib.Core.Path.{ap, ◌∙◌}
use lib.Bits.{bit_xor}
use Rattle.crc.specs.Crc.{ones, crc32}
use Rattle.crc.proofs.CrcLaws.{in_parts}
use Rattle.crc.proofs.crc32.Goals as goal

pub loop-eight-preserved : goal.loop-eight-preserved
loop-eight-preserved c =
    let part = c.in-Some.ensures.cases in
    rw (c.on_eight-c.ensures, part.0, part.1) (in_parts 8 c.loop-eight.c c.loop-eight.rest.now) ∙ c.loop-eight.invariant

pub returns : goal.returns
unfolding crc32
returns c = ap (λ (x : ℕ). bit_xor x ones) (c.on_rest.ensures ∙ c.loop-eight.invariant)
