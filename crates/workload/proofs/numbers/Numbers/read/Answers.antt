-- `workload::numbers::Numbers::read`: the place of the stop tells the number, and what stands past it.
use Rattle.std.proofs.Common.{sym, ◌∙◌}
use Rattle.workload.proofs.NumberLaws.{number-at, past-at, read-most}
use Rattle.workload.proofs.numbers.Numbers.read.Goals as goal

pub returns-in_err-number-clause-number : goal.returns-in_err-number-clause-number
returns-in_err-number-clause-number c =
    number-at c.args.stop c.args.self.now.rest.now c.in_ok-end.end (sym c.find.ensures ∙ c.in_ok-end.was)
    c.args.most c.front.result.now c.read_decimal.result c.from_residual-in_err-number.result
    c.front.ensures c.read_decimal.ensures (c.from_residual-in_err-number.ensures ∙ sym c.in_err-number.was ∙ c.ok.ensures.value)

pub returns-clause-number : goal.returns-clause-number
returns-clause-number c =
    number-at c.args.stop c.args.self.now.rest.now c.in_ok-end.end (sym c.find.ensures ∙ c.in_ok-end.was)
    c.args.most c.front.result.now c.read_decimal.result _
    c.front.ensures c.read_decimal.ensures (sym c.in_ok-number.was ∙ c.ok.ensures.value)

pub returns-clause-within : goal.returns-clause-within
returns-clause-within c =
    read-most c.args.most c.in_ok-number.number c.front.result.now c.read_decimal.result c.read_decimal.ensures
    (sym c.ok.ensures.value ∙ c.in_ok-number.was)

pub returns-clause-past : goal.returns-clause-past
returns-clause-past c = c.past-self.ensures ∙ past-at c.args.stop c.args.self.now.rest.now c.in_ok-end.end (sym c.find.ensures ∙ c.in_ok-end.was)
