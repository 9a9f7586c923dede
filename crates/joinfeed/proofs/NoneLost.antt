-- The joiner's own statement, at the calls of the program.
use mathlib.Core.Path.{refl}
use lib.ListN.{replicate}
use Rattle.feed.specs.Feed.{messages}
use Rattle.channel.specs.Channel.{channels}
use Rattle.joiner.specs.Joiner.{fresh}
use Rattle.joiner.specs.Whole.{AtEnd}
use Rattle.joiner.proofs.WholeProof.{no_piece-lost}
use Rattle.joinfeed.specs.Lines.{result, joinings, report}
use Rattle.joinfeed.specs.NoneLost.{NoneLost}
use Rattle.joinfeed.proofs.RunLaws.{report-is}

pub none-lost : NoneLost
unfolding report
none-lost buffer input e h =
    let r : AtEnd (fresh buffer) (joinings (messages input)) (replicate channels result) =
    (no_piece-lost buffer e (joinings (messages input))).1 (replicate channels result) refl refl in
    record { written = report-is buffer input h; each = r.bytes; nothing_open = r.nothing_open }
