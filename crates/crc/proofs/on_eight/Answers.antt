-- `crc::on_eight` meets its contract: eight bytes are two words.
use Prim.Native.Nat.{ℕ, ◌<◌}
use mathlib.Core.Path.{ap, sym, ◌∙◌}
use native.Mathlib.Omega.{arith}
use lib.Bits.{bit_xor, xor_lt}
use lib.ListN.{get_or}
use Rattle.crc.specs.Words.{pair, four}
use Rattle.crc.proofs.CrcLaws.{four_lt, eight_passed, all_passed}
use Rattle.crc.proofs.PairLaws.{words}
use Rattle.crc.proofs.on_eight.Goals as goal

pub returns : goal.returns
returns c =
    let bs = c.args.eight.now in
    let bytes : (k : ℕ) → get_or bs k 0 < 256 = c.fits-eight in
    let x : ℕ = bit_xor c.args.c (four bs 0) in
    sym (all_passed _ bs 8 (omega (arith, c.told-eight)))
    ∙ eight_passed bs bytes c.args.c 0 (omega (arith, c.told-eight))
    (words x (four bs 4) (xor_lt 32 c.args.c (four bs 0) (omega arith) (four_lt bs bytes 0)) (four_lt bs bytes 4)
    (c.word-first.ensures ∙ ap (λ (w : ℕ). pair 32 (bit_xor c.args.c w)) c.load.ensures)
    (c.word-last.ensures ∙ ap (pair 32) c.load-2.ensures))
