use Rattle.slices.proofs.CutLaws.{place_or}
use Rattle.slices.proofs.until.Goals as goal

pub returns : goal.returns
returns c = rw (c.unwrap_or.ensures, c.find.ensures) (place_or c.args.c c.args.s.now)
