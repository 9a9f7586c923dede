-- `crc::on_byte` meets its contract: the bits that stay, and what those that leave make.
use Prim.Native.Nat.{ℕ, ◌/◌, ◌%◌}
use mathlib.Core.Path.{sym, ap, ap₂, ◌∙◌}
use native.Mathlib.Omega.{arith}
use lib.Bits.{bit_xor}
use Rattle.crc.specs.Crc.{on_byte}
use Rattle.crc.proofs.CrcLaws.{by_entry}
use Rattle.crc.proofs.PairLaws.{pair_apart, pair-low}
use Rattle.crc.proofs.on_byte.Goals as goal

pub returns : goal.returns
returns c =
    let s : ℕ = c.args.c in
    let b : ℕ = c.from.result in
    let left : ℕ = bit_xor s b % 256 in
    ap (λ (x : ℕ). bit_xor (s / 256) (x % 4294967296))
    (ap₂ bit_xor c.nibble.ensures c.nibble-2.ensures ∙ sym (pair_apart 4 4 left (omega arith) (omega arith)))
    ∙ ap (bit_xor (s / 256)) (pair-low 8 left (omega arith))
    ∙ sym (by_entry s b (omega (arith, c.from.ensures)))
    ∙ ap (on_byte s) c.from.ensures
