-- `joinfeed::run` meets its contract: there is room for all of it, and what stands in front is what was put there.
use native.Mathlib.Omega.{arith}
use Rattle.slices.specs.Quoted.{quoted}
use Rattle.feed.proofs.WriteLaws.{placed_end, placed-some}
use Rattle.joinfeed.proofs.RunLaws.{in_front, too_long, untouched, given-fits, closed-fits, last_fits, all-written, texts-left}
use Rattle.joinfeed.proofs.run.Goals as goal

pub unwrap-requires : goal.unwrap-requires
unwrap-requires c = placed-some c.args.out.now 0 (quoted "input too long\n") c.copy.ensures (omega arith)

pub returns-then-input-gt-INPUT : goal.returns-then-input-gt-INPUT
returns-then-input-gt-INPUT c =
    let a = c.args in
    let w = placed_end a.out.now 0 (quoted "input too long\n") c.copy.ensures c.unwrap.ensures in
    let h = c.if-input-gt-INPUT.true in
    record {
      fact = rw (too_long a.texts.now a.input.now h) (in_front a.out.now (quoted "input too long\n") (omega arith) w);
      texts_after = untouched a.texts.now a.input.now h;
    }

pub take_all-taken-requires : goal.take_all-taken-requires
take_all-taken-requires c = let a = c.args in given-fits a.texts.now a.input.now c.if-input-gt-INPUT.false a.out.now (omega arith)

pub close_all-end-requires : goal.close_all-end-requires
close_all-end-requires c =
    let a = c.args in
    closed-fits a.texts.now a.input.now c.if-input-gt-INPUT.false a.out.now (omega arith) c.take_all-taken.ensures

pub write_refused-requires : goal.write_refused-requires
write_refused-requires c =
    let a = c.args in
    last_fits a.texts.now a.input.now c.if-input-gt-INPUT.false a.out.now (omega arith) c.take_all-taken.ensures c.close_all-end.ensures

pub returns : goal.returns
returns c =
    let a = c.args in
    let r = c.take_all-taken.ensures in
    let h = c.if-input-gt-INPUT.false in
    record {
      fact = all-written a.texts.now a.input.now h a.out.now (omega arith) r c.close_all-end.ensures c.write_refused.ensures;
      texts_after = texts-left a.texts.now a.input.now h a.out.now (omega arith) r;
    }
