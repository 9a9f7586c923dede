-- `number::write_pair` meets its contract by the table's rule.
use Rattle.number.proofs.PairLaws.{pairs, put-pair}
use Rattle.number.proofs.write_pair.Goals as goal

pub returns : goal.returns
unfolding pairs
returns c = put-pair c.args.n c.args.out.now c.args.at c.requires.0 c.requires.1
