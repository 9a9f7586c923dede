-- `feed::line_length` meets its contract: the numbers are counted first, then the text in the room that they leave.
use native.Mathlib.Omega.{arith}
use Prim.Native.Nat.{◌+◌}
use mathlib.Core.Path.{◌≡◌, sym, ◌∙◌}
use Rattle.feed.proofs.MeasureLaws.{none-length, numbers-over, text-over, text-said, line-length}
use Rattle.feed.proofs.line_length.Goals as goal

pub returns-in_default : goal.returns-in_default
returns-in_default c = let a = c.args in none-length a.channel a.most a.text.now a.shown c.in_default.is

pub returns-in_err-checked_sub : goal.returns-in_err-checked_sub
returns-in_err-checked_sub c =
    let a = c.args in
    c.from_residual.ensures
    ∙ numbers-over a.channel a.most a.text.now a.shown c.in-Some.is c.decimal_length.ensures.0 c.decimal_length-2.ensures.0 (omega (arith, c.in_err-checked_sub.ensures))

pub returns-in_err-escaped : goal.returns-in_err-escaped
returns-in_err-escaped c =
    let a = c.args in
    let r : c.in_ok-checked_sub.field-0 + (c.decimal_length.result + c.decimal_length-2.result + 3) ≡ a.most = omega (arith, c.in_ok-checked_sub.ensures) in
    c.from_residual-in_err-escaped.ensures
    ∙ text-over a.channel a.most a.text.now a.shown c.in-Some.is c.decimal_length.ensures.0 c.decimal_length-2.ensures.0 c.in_ok-checked_sub.field-0 r (sym c.kmsg_length.ensures ∙ c.in_err-escaped.was)

pub overflow_add-result : goal.overflow_add-result
overflow_add-result c =
    let a = c.args in
    let r : c.in_ok-checked_sub.field-0 + (c.decimal_length.result + c.decimal_length-2.result + 3) ≡ a.most = omega (arith, c.in_ok-checked_sub.ensures) in
    omega (
      arith,
      text-said a.channel a.most a.text.now a.shown c.in-Some.is c.decimal_length.ensures.0 c.decimal_length-2.ensures.0 c.in_ok-checked_sub.field-0 r (sym c.kmsg_length.ensures ∙ c.in_ok-escaped.was),
    )

pub returns : goal.returns
returns c =
    let a = c.args in
    let r : c.in_ok-checked_sub.field-0 + (c.decimal_length.result + c.decimal_length-2.result + 3) ≡ a.most = omega (arith, c.in_ok-checked_sub.ensures) in
    line-length a.channel a.most a.text.now a.shown c.in-Some.is c.decimal_length.ensures.0 c.decimal_length-2.ensures.0 c.in_ok-checked_sub.field-0 r (sym c.kmsg_length.ensures ∙ c.in_ok-escaped.was)
