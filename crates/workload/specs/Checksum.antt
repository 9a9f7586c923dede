-- A checksum of bytes and their order.
use Rattle.std.specs.Prelude.{ℕ, ◌+◌, ◌%◌, ◌^◌, List, fold}
use Rattle.workload.specs.declared.checksum.Sum.{Sum}

abbrev pub empty : Sum
empty = record { bytes = 0; plain = 0; weighed = 0 }

-- one byte more: the sums wrap
abbrev pub with_byte : Sum → ℕ → Sum
with_byte s b =
    record {
      bytes = (s.bytes + 1) % 2 ^ 64;
      plain = (s.plain + b) % 2 ^ 64;
      weighed = (s.weighed + (s.plain + b) % 2 ^ 64) % 2 ^ 64;
    }

-- the weighed sum of bytes alone
abbrev pub checksum : List ℕ → ℕ
checksum bytes = (fold with_byte empty bytes).weighed
