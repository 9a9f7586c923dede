-- `number::read_long` meets its contract: what is left, after what was read, says what the whole says.
use Prim.Native.Nat.{◌≤◌}
use Rattle.number.proofs.ReadLaws.{Reading}
use Rattle.number.proofs.read_long.Given as goal

abbrev pub invariant-loop-i : goal.invariant-loop-i
invariant-loop-i l = Reading l.most l.s l.n l.i × (l.n ≤ l.most)
