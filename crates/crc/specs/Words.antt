-- What the quick way goes by: two words in one number, and four bytes as a word.
use Rattle.std.specs.Prelude.{ℕ, ◌+◌, ◌*◌, ◌^◌, List, get_or}
use Rattle.crc.specs.Crc.{shifts}

-- what k shifts make of n, and above it what 32 more make
unfoldable pub pair : ℕ → ℕ → ℕ
pair k n = shifts (k + 32) n * 2 ^ 32 + shifts k n

-- the four bytes at a place as a number, the first low
abbrev pub four : List ℕ → ℕ → ℕ
four bs at = ((get_or bs (at + 3) 0 * 256 + get_or bs (at + 2) 0) * 256 + get_or bs (at + 1) 0) * 256 + get_or bs at 0
