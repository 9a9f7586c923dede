use Rattle.std.proofs.Common.{rules, ◌≡◌, min}
use Rattle.std.proofs.lemmas.Iterator.{YieldsList-from_slice}
use Rattle.std.proofs.lemmas.Iterator.Consumers.{fold_from_yields_List}
use Rattle.std.specs.Prelude.{fold}
use borrow.Author.Tests.{tests}
use Rattle.slices.proofs.ZeroLaws.{least-zero}
use Rattle.slices.proofs.has_zero.Goals as goal

pub returns : goal.returns
returns c =
    let least : c.fold.result ≡ fold min 255 c.args.s.now =
    fold_from_yields_List _ min 255 _ c.fold.ensures.ran (YieldsList-from_slice c.args.s.now cc) (λ a x b q k. search (rules, tests)) in
    rw least (least-zero c.args.s.now 255)
