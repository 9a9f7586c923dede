-- The text of the records that a log is filled with.
use Rattle.std.specs.Prelude.{ℕ, ◌+◌, ◌-◌, ◌%◌, ◌&&◌, cond, eqb, ltb}

-- letters in turn, and each last of `every` bytes is a newline (0: none is)
abbrev pub text_byte : ℕ → ℕ → ℕ
text_byte every i = cond (ltb 0 every && eqb (i % every) (every - 1)) 10 (97 + i % 26)
