-- The receiver program's worked case of document 01: T14 to T16 in turn.
use Rattle.std.specs.Prelude.{◌≡◌, replicate}
use Rattle.slices.specs.Quoted.{quoted}
use Rattle.board.specs.Board.{buffer_size}
use Rattle.feed.specs.Feed.{output}

abbrev pub WorkedCase : Type 0
WorkedCase = output (replicate buffer_size 0) (quoted "134,7,1,-;1-0\n134,9,3,-;0-0\n134,8,2,-;1-0\n") ≡ quoted "16 9 0-0\nrefused 1\n"
