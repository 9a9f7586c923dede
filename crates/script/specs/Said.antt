-- What a line's words say.
use Rattle.std.specs.Prelude.{ℕ, cond, leb, ℤ, pos, negsuc, List, [], take, drop, Option, Some}
use Rattle.script.specs.declared.words.Value.{Value}
use Rattle.script.specs.declared.words.Value.TheVariants.{Number, Bytes}

-- the bytes from one place to another, as far as they lie inside
abbrev pub between : List ℕ → ℕ → ℕ → List ℕ
between bs from to = drop from (take to bs)

-- the bytes of a word: none, where it has or is none
abbrev pub said_bytes : List ℕ → Option Value → List ℕ
said_bytes bs (Some (Bytes from to)) = between bs from to
said_bytes bs v = []

-- the number of a word: one that no u64 holds is the largest, and no number is 0
abbrev pub said_number : Option Value → ℕ
said_number (Some (Number (pos n))) = cond (leb n 18446744073709551615) n 18446744073709551615
said_number (Some (Number (negsuc n))) = 18446744073709551615
said_number v = 0

-- the same with a sign: one that no i64 holds is the largest
abbrev pub said_signed : Option Value → ℤ
said_signed (Some (Number (pos n))) = cond (leb n 9223372036854775807) (pos n) (pos 9223372036854775807)
said_signed (Some (Number (negsuc n))) = cond (leb n 9223372036854775807) (negsuc n) (pos 9223372036854775807)
said_signed v = pos 0
