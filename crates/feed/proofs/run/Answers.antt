-- `feed::run` meets its contract.
use mathlib.Core.Path.{ap, ◌∙◌}
use Prim.Native.Nat.{ℕ}
use lib.ListN.{length, replicate, length-replicate}
use Rattle.slices.specs.Put.{placed}
use Rattle.board.specs.Board.{state, buffer_size}
use Rattle.feed.specs.Feed.{fed, messages}
use Rattle.feed.proofs.KeptLaws.{kept_restores}
use Rattle.feed.proofs.RunLaws.{too_long, taken}
use Rattle.feed.proofs.run.Goals as goal

pub returns-then-input-gt-INPUT-clause-out_after : goal.returns-then-input-gt-INPUT-clause-out_after
returns-then-input-gt-INPUT-clause-out_after c =
    let a = c.args in
    let l = too_long a.buffer.now a.input.now (length a.out.now) c.if-input-gt-INPUT.true in
    c.copy.ensures ∙ ap (placed a.out.now 0) l.writes

pub returns-then-input-gt-INPUT-clause-buffer_after : goal.returns-then-input-gt-INPUT-clause-buffer_after
returns-then-input-gt-INPUT-clause-buffer_after c =
    let a = c.args in
    (too_long a.buffer.now a.input.now (length a.out.now) c.if-input-gt-INPUT.true).keeps

pub returns-clause-out_after : goal.returns-clause-out_after
returns-clause-out_after c =
    let a = c.args in
    let k = c.copy-2 in
    let r = c.receive-r in
    let f = fed (state r.result.board.slots r.new.buffer) r.result.refused in
    let s = kept_restores (replicate buffer_size 0) a.buffer.now (messages a.input.now) f (length-replicate {A = ℕ} buffer_size 0) k.auto.out k.ensures r.ensures r.auto.buffer in
    let l = taken a.buffer.now a.input.now (length a.out.now) c.if-input-gt-INPUT.false k.new.out r.ensures s in
    c.print_or_restore.ensures.out_after ∙ ap (placed a.out.now 0) l.writes

pub returns-clause-buffer_after : goal.returns-clause-buffer_after
returns-clause-buffer_after c =
    let a = c.args in
    let k = c.copy-2 in
    let r = c.receive-r in
    let f = fed (state r.result.board.slots r.new.buffer) r.result.refused in
    let s = kept_restores (replicate buffer_size 0) a.buffer.now (messages a.input.now) f (length-replicate {A = ℕ} buffer_size 0) k.auto.out k.ensures r.ensures r.auto.buffer in
    let l = taken a.buffer.now a.input.now (length a.out.now) c.if-input-gt-INPUT.false k.new.out r.ensures s in
    c.print_or_restore.ensures.buffer_after ∙ l.keeps
