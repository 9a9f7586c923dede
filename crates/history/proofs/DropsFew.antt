-- A write drops at most 31 records: each of them frees 32 bytes or more, and no record costs more than 992.
use Prim.Native.Nat.{ℕ, ◌+◌, ◌≤◌}
use mathlib.Core.Path.{◌≡◌, refl}
use mathlib.Core.Bool.{Bool, true, false}
use native.Mathlib.Omega.{arith}
use lib.Dec.{ltb}
use lib.ListN.{length, drop}
use Rattle.record.specs.Limits.{capacity_least, payload_most}
use Rattle.record.specs.Record.{Record, cost}
use Rattle.eventlog.specs.Answer.{Ruling, allowed, refused}
use Rattle.eventlog.proofs.ExcessLaws.{excess-few}
use Rattle.store.proofs.HoldsLaws.{goes}
use Rattle.writes.specs.Write.{outside_record, box_record, outside_ruling, box_ruling}
use Rattle.writes.specs.FineLog.{dropped_most}
use Rattle.writes.proofs.StorableLaws.{outside-payload, box-payload}
use Rattle.history.specs.Calls.{outside, box, make, place, read, seek, command, save, minimum, check, console, if_there}
use Rattle.history.specs.Past.{Past, first_held, held, Told, next_number, past_write, past_step}
use Rattle.history.specs.Readers.{FewDropped, DropsFew}
use Rattle.history.proofs.HeldLaws.{held-longest, first_grown}

few-there : (t : Bool) (x y : Told) → FewDropped x.reply → FewDropped y.reply → FewDropped (if_there {A = Told} t x y).reply
few-there true x y a b = a
few-there false x y a b = b

module _ (p : Past) (large : capacity_least ≤ p.capacity) where
  module _ (r : Record) (small : length r.text + length r.dictionary ≤ payload_most) where
    cost_in : cost r ≤ p.capacity
    unfolding cost
    cost_in = omega arith

    goes_few : goes (held p) r ≤ dropped_most
    unfolding held cost
    goes_few = omega (arith, excess-few p.capacity (cost r) (cost r) (drop (first_held p) p.all) (omega (arith, (held-longest p).fits)))

  few-written : (r : Record) (bytes : ℕ) (q : Ruling) → (q ≡ allowed → length r.text + length r.dictionary ≤ payload_most)
      → FewDropped (past_write p r bytes q).reply
  unfolding past_write
  few-written r bytes allowed h = omega (arith, first_grown p r (cost_in r (h refl)), goes_few r (h refl))
  few-written r bytes (refused why) h = omega arith

pub drops_few : DropsFew
unfolding past_step
drops_few p l (outside time bytes caller) =
    few-written p l (outside_record (next_number p) time bytes caller) (length bytes) (outside_ruling (held p) bytes)
    (outside-payload (held p) (next_number p) time bytes caller)
drops_few p l (box facility level time text dictionary fragment caller) =
    few-written p l (box_record (next_number p) time facility level text dictionary fragment caller) (length text + length dictionary)
    (box_ruling (held p) facility level text dictionary) (box-payload (held p) (next_number p) facility level time text dictionary fragment caller)
drops_few p l make = tt
drops_few p l (place i n) = tt
drops_few p l (read i lent) = few-there (ltb i (length p.readers)) _ _ tt tt
drops_few p l (seek i offset whence) = few-there (ltb i (length p.readers)) _ _ tt tt
drops_few p l (command a lent) = tt
drops_few p l (save number lent) = tt
drops_few p l (minimum wanted) = tt
drops_few p l check = tt
drops_few p l (console level setting) = tt
