-- `feed::write_refused` meets its contract.
use lib.ListN.{length}
use Rattle.slices.specs.Quoted.{quoted}
use Rattle.escape.specs.Answers.{Written}
use Rattle.feed.specs.Printing.{field, refused_line}
use Rattle.feed.proofs.WriteLaws.{placed_end, placed-some, first-room, second-room, written_both}
use Rattle.feed.proofs.write_refused.Goals.{After-unwrap-k}
use Rattle.feed.proofs.write_refused.Goals as goal

pub unwrap-k-requires : goal.unwrap-k-requires
unfolding refused_line
unwrap-k-requires c =
    let a = c.args in
    placed-some a.out.now a.at (quoted "refused ") c.copy.ensures (first-room a.at (length a.out.now) (quoted "refused ") (field a.refused 10) c.requires)

-- the word is there
word : (c : After-unwrap-k) → let a = c.args in Written a.out.now a.at (quoted "refused ") c.unwrap-k.result c.copy.new.out
word c =
    let a = c.args in
    placed_end a.out.now a.at (quoted "refused ") c.copy.ensures c.unwrap-k.ensures

pub write_field-requires : goal.write_field-requires
unfolding refused_line
write_field-requires c = let a = c.args in second-room (quoted "refused ") (field a.refused 10) c.requires (word (goal.at.write_field-requires c).After-unwrap-k)

pub returns : goal.returns
unfolding refused_line
returns c =
    let a = c.args in
    written_both (quoted "refused ") (field a.refused 10) c.requires (word (goal.at.returns c).After-unwrap-k) c.write_field.ensures
