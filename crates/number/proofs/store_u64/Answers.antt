-- `number::store_u64` meets its contract: the library's bytes are the number's.
use mathlib.Core.Path.{ap, ◌∙◌}
use Rattle.slices.specs.Put.{placed}
use Rattle.number.proofs.WidthLaws.{to_little}
use Rattle.number.proofs.store_u64.Goals as goal

pub returns : goal.returns
returns c = c.copy.ensures ∙ ap (placed c.args.out.now c.args.at) (c.to_le_bytes.ensures ∙ to_little c.args.value)
