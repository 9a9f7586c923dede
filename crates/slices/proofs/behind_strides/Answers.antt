use Rattle.std.proofs.Common.{◌≡◌, ℕ, ◌<◌, ◌≤◌, ◌+◌, ◌-◌, true, not, get_or, arith, length, take, drop}
use mathlib.Core.Path.{refl, ap, ◌∙◌}
use lib.Dec.{eqb}
use lib.ListN.{length-drop}
use Rattle.std.proofs.lemmas.List.{take_all, drop-drop}
use borrow.Author.Rules.{rules}
use borrow.Author.Tests.{tests}
use Rattle.slices.specs.Cut.{before}
use Rattle.slices.proofs.CountLaws.{stride_passed}
use Rattle.slices.proofs.behind_strides.Goals as goal

pub loop-stride-preserved : goal.loop-stride-preserved
loop-stride-preserved c =
    let s = c.args.s.now in
    let at = c.loop-stride.at in
    let each : (i : ℕ) → i < 16 → not (eqb (get_or c.in-Some.stride.now i 0) c.args.c) ≡ true =
    λ i h. (let p = c.all_in_stride.ensures.yes c.if-not-all_in_stride.false i h in search (rules, tests)) in
    let chunk = c.in-Some.ensures.cases in
    let rest : take (length s - at) (drop at s) ≡ drop at s = take_all (length s - at) (drop at s) (rw length-drop (omega arith)) in
    let room : at + 16 ≤ length s = omega (arith, chunk.enough, ap length rest, length-drop at s) in
    let same : c.in-Some.stride.now ≡ take 16 (drop at s) = chunk.same ∙ ap (take 16) rest in
    let passed : length (before c.args.c (drop at s)) ≡ 16 + length (before c.args.c (drop 16 (drop at s))) =
    stride_passed c.args.c (drop at s) c.in-Some.stride.now (drop 16 (drop at s)) same refl (omega (arith, length-drop at s, length-drop 16 (drop at s))) each in
    let on : drop 16 (drop at s) ≡ drop (at + 16) s = drop-drop 16 at s in
    record { size = room; left = omega (arith, c.loop-stride.invariant.left, rw on at passed) }
