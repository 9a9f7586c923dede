-- Bytes put into a buffer at a place, where there is room for them.
use Rattle.std.specs.Prelude.{ℕ, ◌+◌, cond, List, ◌++◌, leb, length, take, drop, Option, Some, None}

-- all bytes before and behind them stay
abbrev pub put : List ℕ → ℕ → List ℕ → List ℕ
put buffer at bytes = take at buffer ++ (bytes ++ drop (at + length bytes) buffer)

-- what a call that puts bytes leaves: its answer, and the buffer
pub record Left : Type 0 where
  pub answer : Option ℕ
  pub buffer : List ℕ

abbrev pub left : Option ℕ → List ℕ → Left
left answer buffer = record { answer = answer; buffer = buffer }

-- the bytes at their place, and the place behind them; or no room, and nothing changed
unfoldable pub placed : List ℕ → ℕ → List ℕ → Left
placed buffer at bytes =
    cond (leb (at + length bytes) (length buffer))
    (left (Some (at + length bytes)) (put buffer at bytes))
    (left None buffer)
