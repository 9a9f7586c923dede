-- `feed::write_field` meets its contract.
use native.Mathlib.Omega.{arith}
use mathlib.Core.List.{◌∷◌, []}
use lib.ListN.{length}
use Prim.Native.Nat.{◌+◌, ◌≤◌}
use Rattle.number.specs.Decimal.{decimal}
use Rattle.escape.specs.Answers.{Written}
use Rattle.feed.proofs.WriteLaws.{placed_end, placed-some, written_byte, first-room, second-room, written_both}
use Rattle.feed.proofs.write_field.Goals.{After-unwrap-k}
use Rattle.feed.proofs.write_field.Goals as goal

pub unwrap-k-requires : goal.unwrap-k-requires
unwrap-k-requires c =
    let a = c.args in
    placed-some a.out.now a.at (decimal a.number) c.print_decimal.ensures (first-room a.at (length a.out.now) (decimal a.number) (a.end ∷ []) c.requires)

-- the digits are there, and the byte fits behind them
digits : (c : After-unwrap-k) → let a = c.args in Written a.out.now a.at (decimal a.number) c.unwrap-k.result c.print_decimal.new.out
digits c =
    let a = c.args in
    placed_end a.out.now a.at (decimal a.number) c.print_decimal.ensures c.unwrap-k.ensures

room : (c : After-unwrap-k) → c.unwrap-k.result + 1 ≤ length c.print_decimal.new.out
room c =
    let a = c.args in
    second-room (decimal a.number) (a.end ∷ []) c.requires (digits c)

pub bounds-out-k : goal.bounds-out-k
bounds-out-k c = omega (arith, room (goal.at.bounds-out-k c).After-unwrap-k)

pub overflow_add-result : goal.overflow_add-result
overflow_add-result c = omega (arith, room (goal.at.overflow_add-result c).After-unwrap-k)

pub returns : goal.returns
returns c =
    let a = c.args in
    written_both (decimal a.number) (a.end ∷ []) c.requires (digits (goal.at.returns c).After-unwrap-k) (written_byte (room (goal.at.returns c).After-unwrap-k))
