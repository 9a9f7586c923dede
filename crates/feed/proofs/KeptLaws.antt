-- The board's buffer, kept before a feed and put back behind it, is as it was.
use Rattle.std.specs.Prelude.{Option, Some, None, is_some}
use Prim.Native.Nat.{ℕ, ◌+◌, ◌≤◌, ◌<◌}
use mathlib.Core.Path.{◌≡◌, refl, ap, sym, ◌∙◌}
use mathlib.Core.Bool.{Bool, true, false}
use mathlib.Core.List.{List, append-nil}
use native.Mathlib.Omega.{arith}
use lib.Dec.{eqb}
use lib.ListN.{length, drop_of_length-le}
use borrow.Author.Tests.{eq-eqb, ne_eqb, eqb-true, eqb-false, le-leb, lt-leb}
use Rattle.slices.specs.Put.{put, Left, left, placed}
use Rattle.slices.proofs.PutLaws.{placed-room}
use Rattle.board.specs.Board.{State, buffer_size, fresh, lacks_room}
use Rattle.feed.specs.Feed.{Fed, feed_all, report}
use Rattle.feed.specs.Kept.{restored, settled}
use Rattle.feed.proofs.FeedLaws.{feed_lacking}
use Rattle.feed.proofs.WriteLaws.{placed-full, placed-fits}

-- bytes put over all of a buffer are all of it
module _ (out bytes : List ℕ) (e : length out ≡ length bytes) where
  put_whole : put out 0 bytes ≡ bytes
  put_whole = rw (drop_of_length-le out {i = 0 + length bytes} (omega arith), append-nil)

  copied-whole : {r : Option ℕ} {out' : List ℕ} → left r out' ≡ placed out 0 bytes → out' ≡ bytes
  copied-whole f = ap (λ (x : Left). x.buffer) (f ∙ placed-room out 0 bytes (omega arith)) ∙ put_whole

-- ---- put back

module _ (kept buffer : List ℕ) where
  pub restored_same : length buffer ≡ length kept → {r : Option ℕ} {buffer' : List ℕ} → left r buffer' ≡ placed buffer 0 kept → buffer' ≡ restored kept buffer
  restored_same e f = rw (eq-eqb (length buffer) (length kept) e) (copied-whole buffer kept e f)

  pub restored-other : (length buffer ≡ length kept → ⊥) → buffer ≡ restored kept buffer
  restored-other n = rw (ne_eqb (length buffer) (length kept) n)

-- only where there is no room for the report
module _ (kept out : List ℕ) (f : Fed) {r : Option ℕ} {out' : List ℕ} (e : left r out' ≡ placed out 0 (report f)) where
  pub settled-room : is_some r ≡ true → f.board.buffer ≡ settled kept f (length out)
  settled-room q = rw (le-leb (length (report f)) (length out) (omega (arith, fits r e q)))
    where
      fits : (r : Option ℕ) → left r out' ≡ placed out 0 (report f) → is_some r ≡ true → length (report f) ≤ length out
      fits None e q = cc
      fits (Some k) e q = omega (arith, placed-fits out 0 (report f) e refl)

  pub settled-full : is_some r ≡ false → restored kept f.board.buffer ≡ settled kept f (length out)
  settled-full q = rw (lt-leb (length (report f)) (length out) (full r e q))
    where
      full : (r : Option ℕ) → left r out' ≡ placed out 0 (report f) → is_some r ≡ false → length out < length (report f)
      full None e q = omega (arith, placed-full out 0 (report f) e refl)
      full (Some k) e q = cc

-- ---- kept

-- a buffer of another length than a board's has no room for any message
other-lacks : (buffer : List ℕ) → eqb (length buffer) buffer_size ≡ false → lacks_room (fresh buffer) ≡ true
unfolding lacks_room fresh
other-lacks buffer e = rw e

fresh-buffer : (buffer : List ℕ) → (fresh buffer).buffer ≡ buffer
unfolding fresh
fresh-buffer buffer = refl

-- what was copied from the buffer before a feed restores it
pub kept_restores : (blank buffer : List ℕ) (ms : List (List ℕ)) (f : Fed) {r : Option ℕ} {kept : List ℕ}
    → length blank ≡ buffer_size → length kept ≡ buffer_size → left r kept ≡ placed blank 0 buffer
    → f ≡ feed_all (fresh buffer) 0 ms → length f.board.buffer ≡ length buffer
    → restored kept f.board.buffer ≡ buffer
kept_restores blank buffer ms f {r} {kept} b k c e l = go (eqb (length buffer) buffer_size) refl
  where
    go : (t : Bool) → eqb (length buffer) buffer_size ≡ t → restored kept f.board.buffer ≡ buffer
    go true q =
        let p : length buffer ≡ buffer_size = eqb-true (length buffer) buffer_size q in
        rw (eq-eqb (length f.board.buffer) (length kept) (l ∙ p ∙ sym k))
        (copied-whole blank buffer (b ∙ sym p) c)
    go false q =
        let s : f.board.buffer ≡ buffer = ap (λ (x : Fed). x.board.buffer) e ∙ ap (λ (x : State). x.buffer) (feed_lacking (fresh buffer) 0 ms (other-lacks buffer q)) ∙ fresh-buffer buffer in
        let n : length buffer ≡ length kept → ⊥ = λ h. eqb-false (length buffer) buffer_size q (h ∙ k) in
        rw s (sym (restored-other kept buffer n))
