-- Numbers as bytes, the lowest first, at any width.
use Rattle.std.specs.Prelude.{ℕ, zero, suc, ◌+◌, ◌*◌, ◌/◌, ◌%◌, cond, List, [], ◌∷◌, leb, length, drop, Option, Some, None}

-- a number as so many bytes
abbrev pub little_endian : ℕ → ℕ → List ℕ
little_endian zero n = []
little_endian (suc width) n = n % 256 ∷ little_endian width (n / 256)

-- the number that the first so many bytes say
abbrev pub little : ℕ → List ℕ → ℕ
little zero bs = 0
little (suc width) [] = 0
little (suc width) (b ∷ bs) = b + 256 * little width bs

-- the number that lies at a place, if it lies inside
unfoldable pub loaded : ℕ → List ℕ → ℕ → Option ℕ
loaded width bs at = cond (leb (at + width) (length bs)) (Some (little width (drop at bs))) None
