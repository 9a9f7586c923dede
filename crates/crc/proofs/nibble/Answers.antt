-- `crc::nibble` meets its contract: the table's rule is one computed test.
use Rattle.std.proofs.Common.{◌≡◌, ℕ, ◌+◌, ◌-◌, ◌*◌, ◌/◌, ◌%◌, ◌<◌, arith, ◌∙◌}
use mathlib.Core.Path.{ap₂}
use Rattle.crc.specs.Words.{pair}
use Rattle.crc.proofs.TableLaws.{table, table_right}
use Rattle.crc.proofs.nibble.Goals as goal

pub returns : goal.returns
unfolding table
returns g c =
    let i : ℕ = 4 * g.row.SHIFTS - 16 + c.args.n in
    let h : i < 128 = omega arith in
    let k : 4 * (i / 16 + 1) ≡ g.row.SHIFTS = omega arith in
    let n : i % 16 ≡ c.args.n = omega arith in
    table_right i h ∙ ap₂ pair k n
