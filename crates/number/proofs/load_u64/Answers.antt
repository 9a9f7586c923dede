-- `number::load_u64` meets its contract: the library reads the number that the bytes say.
use Prim.Native.Nat.{◌-◌}
use mathlib.Core.Path.{◌≡◌, ap, ◌∙◌}
use mathlib.Core.Logic.{inl, inr}
use native.Mathlib.Omega.{arith}
use lib.ListN.{length, take, drop, length-drop}
use lib.Seq.{take_all}
use Rattle.std.specs.Int.{w64, from_le_bytes}
use Rattle.number.proofs.WidthLaws.{loaded-inside, loaded-outside}
use Rattle.number.proofs.load_u64.Goals as goal

pub returns-in_err-get : goal.returns-in_err-get
returns-in_err-get c =
    let none = c.in_err-get.ensures.lookup in
    rw c.from_residual.ensures (loaded-outside 8 c.args.s.now c.args.at (elim none.0 [ inl h ↦ omega arith | inr h ↦ omega arith ]))

pub returns-in_err-bytes : goal.returns-in_err-bytes
returns-in_err-bytes c =
    let got = c.in_ok-get.ensures.lookup in
    let short = c.in_err-bytes.ensures.cases in
    rw c.from_residual-in_err-bytes.ensures (loaded-outside 8 c.args.s.now c.args.at (omega (arith, got.0.3, short)))

pub returns : goal.returns
returns c =
    let s = c.args.s.now in
    let at = c.args.at in
    let got = c.in_ok-get.ensures.lookup in
    let whole : c.in_ok-get.field-0.now ≡ drop at s = got.0.2 ∙ take_all (length s - at) (drop at s) (rw length-drop (omega arith)) in
    let first = c.in_ok-bytes.ensures.cases in
    let bytes : c.in_ok-bytes.bytes.now ≡ take 8 (drop at s) = first.same ∙ ap (take 8) whole in
    let read : c.from_le_bytes.result ≡ from_le_bytes w64 (take 8 (drop at s)) = c.from_le_bytes.ensures ∙ ap (from_le_bytes w64) bytes in
    rw read (loaded-inside 7 s at (omega (arith, got.0.3, first.enough)))
