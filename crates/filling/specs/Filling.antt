-- A fresh log that is written to until the oldest record is dropped.
use Rattle.std.specs.Prelude.{ℕ, zero, suc, ◌*◌, false, cond, List, [], ltb}
use Rattle.eventlog.specs.Check.{fresh_log}
use Rattle.eventlog.specs.declared.Log.{Log}
use Rattle.writes.specs.Write.{AfterWrite, box_write}
use Rattle.filling.specs.declared.TheConstants.{RECORDS, FACILITY, LEVEL, CALLER, APART}

-- what is left: the log's numbers, and its buffer
pub record Left : Type 0 where
  pub log : Log
  pub buffer : List ℕ

abbrev pub left : Log → List ℕ → Left
left log buffer = record { log = log; buffer = buffer }

-- the record of a number, with this text
abbrev pub write : List ℕ → ℕ → Left → AfterWrite
write text n at = box_write at.log at.buffer FACILITY LEVEL (n * APART) text [] false CALLER

-- at most so many records more, from this number on: none after one for which the oldest is dropped
unfoldable pub filled_from : List ℕ → ℕ → ℕ → Left → Left
filled_from text zero n at = at
filled_from text (suc more) n at =
    cond (ltb 0 (write text n at).dropped)
    (left (write text n at).log (write text n at).buffer)
    (filled_from text more (suc n) (left (write text n at).log (write text n at).buffer))

abbrev pub filled : List ℕ → List ℕ → Left
filled buffer text = filled_from text RECORDS 0 (left fresh_log buffer)
