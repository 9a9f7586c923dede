-- What the receiver program writes and leaves, by the length of its input and the room for its output.
use Prim.Native.Nat.{ℕ, ◌≤◌, ◌<◌}
use mathlib.Core.Path.{◌≡◌, refl}
use mathlib.Core.Bool.{Bool, true, false, cond, not}
use mathlib.Core.List.{List}
use lib.Dec.{leb}
use lib.ListN.{length}
use borrow.Author.Tests.{lt-ltb, le-ltb}
use Rattle.slices.specs.Quoted.{quoted}
use Rattle.board.specs.Board.{fresh}
use Rattle.feed.specs.Feed.{input_most, messages, Fed, feed_all, report, output, buffer_after}
use Rattle.feed.specs.Kept.{restored, settled}

pub record Leaves (buffer input : List ℕ) (room : ℕ) (written buffer' : List ℕ) : Type 0 where
  pub writes : written ≡ output buffer input
  pub keeps : buffer' ≡ buffer_after buffer input room

module _ (buffer input : List ℕ) (room : ℕ) where
  pub too_long : input_most < length input → Leaves buffer input room (quoted "input too long\n") buffer
  unfolding output buffer_after
  too_long h = let t = lt-ltb input_most (length input) h in record { writes = rw t; keeps = rw t }

  pub taken : length input ≤ input_most → (kept : List ℕ) {f : Fed} → f ≡ feed_all (fresh buffer) 0 (messages input)
      → restored kept f.board.buffer ≡ buffer
      → Leaves buffer input room (report f) (settled kept f room)
  unfolding output buffer_after
  taken h kept {f} e k =
      let t = le-ltb input_most (length input) h in
      record { writes = rw (t, e); keeps = rw (t, ← e) (go (leb (length (report f)) room)) }
    where
      go : (t : Bool) → cond t f.board.buffer (restored kept f.board.buffer) ≡ cond (not t) buffer f.board.buffer
      go true = refl
      go false = k
