use Rattle.std.proofs.Common.{rules, ◌∙◌}
use Rattle.std.proofs.lemmas.Iterator.{YieldsList-from_slice}
use Rattle.std.proofs.lemmas.Iterator.Search.{position_from_yields_List}
use borrow.Author.Tests.{tests}
use lib.Dec.{eqb}
use Rattle.slices.proofs.CutLaws.{position_is}
use Rattle.slices.proofs.find.Goals as goal

pub returns : goal.returns
returns c =
    position_from_yields_List (λ b. eqb b c.args.c) _ _ _ c.position.ensures.ran (YieldsList-from_slice c.args.s.now cc) (λ x b q k. search (rules, tests))
    ∙ position_is c.args.c c.args.s.now
