-- `joinfeed::write_texts` meets its contract: the second line fits behind the first.
use Prim.Native.Nat.{◌+◌, ◌≤◌}
use Rattle.std.specs.Prelude.{Ok}
use mathlib.Core.Path.{refl, ap}
use mathlib.Core.List.{◌++◌}
use lib.ListN.{length, take}
use Rattle.feed.proofs.WriteLaws.{written_both}
use Rattle.joinfeed.specs.Lines.{text_line}
use Rattle.joinfeed.proofs.LineLaws.{two-lines}
use Rattle.joinfeed.proofs.write_texts.Goals.{After-front-in-Two}
use Rattle.joinfeed.proofs.write_texts.Goals as goal

-- both lines fit
room : (c : After-front-in-Two) → let a = c.args in let t = c.in-Two.t in let u = c.in-Two.u in
    a.at + length (text_line t.facility c.front-in-Two.result.now ++ text_line u.facility (take u.size a.second.now)) ≤ length a.out.now
room c =
    let a = c.args in
    rw (two-lines a.first.now a.second.now (ap Ok c.in-Two.is) c.front-in-Two.ensures refl) c.requires

pub returns-in-Two : goal.returns-in-Two
returns-in-Two c =
    let a = c.args in
    let t = c.in-Two.t in
    let u = c.in-Two.u in
    let w = rw c.front-in-Two-2.ensures at c.write_text-in-Two.ensures in
    rw (← two-lines a.first.now a.second.now (ap Ok c.in-Two.is) c.front-in-Two.ensures refl)
    (written_both (text_line t.facility c.front-in-Two.result.now) (text_line u.facility (take u.size a.second.now)) (room (goal.at.returns-in-Two c).After-front-in-Two) c.write_text-next.ensures w)
