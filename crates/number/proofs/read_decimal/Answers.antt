-- `number::read_decimal` meets its contract: a first zero is decided at once, and behind any other byte no zero leads.
use native.Mathlib.Omega.{arith}
use Rattle.number.proofs.ReadLaws.{read-empty, read-zero, read-leading}
use Rattle.number.proofs.read_decimal.Goals.{Else-s-eq48}
use Rattle.number.proofs.read_decimal.Goals as goal

pub returns-then-s-eq0 : goal.returns-then-s-eq0
returns-then-s-eq0 c = let a = c.args in read-empty a.most a.s.now (omega arith)

pub returns-then-s-eq1 : goal.returns-then-s-eq1
returns-then-s-eq1 c =
    let a = c.args in
    read-zero a.most a.s.now (omega arith) c.if-s-eq48.true

pub returns-then-s-eq48 : goal.returns-then-s-eq48
returns-then-s-eq48 c =
    let a = c.args in
    read-leading a.most a.s.now (omega arith) c.if-s-eq48.true
