-- Two boards with the same slots over buffers of one length, where every slot that shows a record shows the same text: each
-- delivery leaves two such boards, and their reports are one.
use Rattle.std.specs.Prelude.{Option, Some, None}
use Prim.Native.Nat.{ℕ, zero, suc, ◌+◌, ◌*◌}
use mathlib.Core.Path.{◌≡◌, refl, ap, sym, ◌∙◌}
use mathlib.Core.Bool.{Bool, true, false, cond}
use mathlib.Core.List.{List, [], ◌∷◌, ◌++◌}
use native.Mathlib.Omega.{arith}
use lib.Dec.{ltb, eqb}
use lib.ListN.{length, get_or, set, replicate, length-set}
use lib.Seq.{get_or-set_same, get_or-set_other}
use borrow.Author.Tests.{eqb-true, eqb-false}
use Rattle.slices.specs.Put.{put}
use Rattle.slices.specs.Quoted.{quoted}
use Rattle.slices.proofs.PutLaws.{length-put}
use Rattle.slices.proofs.PutReads.{put-there}
use Rattle.number.specs.Decimal.{decimal}
use Rattle.escape.specs.Escape.{kmsg_bytes}
use Rattle.record.specs.declared.Seq.{Seq}
use Rattle.message.specs.Message.{Reading, reading}
use Rattle.channel.proofs.ChannelLaws.{channel-below}
use Rattle.channel.proofs.TextLaws.{other_text}
use Rattle.board.specs.Board.{state, fresh, channels, slot_size, facility_first, empty_slot, lacks_room, channel, board_refusal, show, deliver}
use Rattle.board.specs.declared.Slot.{Slot}
use Rattle.board.proofs.SlotLaws.{slot-fits}
use Rattle.board.proofs.TakenLaws.{Taken, taken, taken-fit, taken-text, taken-room}
use Rattle.feed.specs.Feed.{input_most, messages, fed, feed_all, shown_text, line_of, channel_line, channel_lines, report, output}
use Rattle.feed.specs.AnyBuffer.{AnyBuffer}
use Rattle.feed.proofs.FeedLaws.{after, deliver-taken, deliver-refused}

record Alike (slots : List Slot) (a b : List ℕ) : Type 0 where
  size : length a ≡ length b
  eight : length slots ≡ channels
  texts : (i : ℕ) (s : Seq) → (get_or slots i empty_slot).shown ≡ Some s → shown_text (state slots a) i ≡ shown_text (state slots b) i

-- ---- a delivery

-- a refusal looks at the slots and the buffer's length alone
same-refusal : (slots : List Slot) (a b m : List ℕ) → length a ≡ length b → board_refusal (state slots a) m ≡ board_refusal (state slots b) m
unfolding board_refusal lacks_room
same-refusal slots a b m e = rw e

-- the slot of a message's channel, once it shows it
abbrev new_slot : Reading → Slot
new_slot r = record { shown = Some (record { 0 = r.sequence }); size = length r.text }

module _ (slots : List Slot) (a b m : List ℕ) (k : Alike slots a b) (e : board_refusal (state slots a) m ≡ 0) where
  abbrev here : ℕ
  here = channel (reading m).prefix

  abbrev new : List ℕ
  new = (reading m).text

  t : Taken (state slots a) m
  t = taken (state slots a) m e

  u : Taken (state slots b) m
  u = taken (state slots b) m (sym (same-refusal slots a b m k.size) ∙ e)

  abbrev slots' : List Slot
  slots' = set slots here (new_slot (reading m))

  abbrev text' : List ℕ → ℕ → List ℕ
  text' buffer i = shown_text (state slots' (put buffer (here * slot_size) new)) i

  -- its own slot shows the message's text
  new-text : (buffer : List ℕ) → Taken (state slots buffer) m → text' buffer here ≡ new
  new-text buffer w =
      rw (get_or-set_same slots here (new_slot (reading m)) empty_slot (omega (arith, k.eight, channel-below (reading m).prefix w.channel)))
      (put-there buffer (here * slot_size) new (taken-room w))

  -- the others show what they showed
  old_text : (buffer : List ℕ) → Taken (state slots buffer) m → (i : ℕ) → (i ≡ here → ⊥) → text' buffer i ≡ shown_text (state slots buffer) i
  old_text buffer w i n =
      rw (get_or-set_other slots here i (new_slot (reading m)) empty_slot n)
      (other_text buffer here new (taken-room w) (taken-text w) i n (get_or slots i empty_slot).size (slot-fits slots (taken-fit w) i))

  same_text : (i : ℕ) (s : Seq) → (get_or slots' i empty_slot).shown ≡ Some s → text' a i ≡ text' b i
  same_text i s p = go (eqb i here) refl
    where
      go : (z : Bool) → eqb i here ≡ z → text' a i ≡ text' b i
      go true q = rw (eqb-true i here q) (new-text a t ∙ sym (new-text b u))
      go false q =
          let n : i ≡ here → ⊥ = eqb-false i here q in
          let o : get_or slots' i empty_slot ≡ get_or slots i empty_slot = get_or-set_other slots here i (new_slot (reading m)) empty_slot n in
          old_text a t i n ∙ k.texts i s (sym (ap (λ (x : Slot). x.shown) o) ∙ p) ∙ sym (old_text b u i n)

  shown_alike : Alike slots' (put a (here * slot_size) new) (put b (here * slot_size) new)
  shown_alike =
      record {
        size = length-put a (here * slot_size) new (taken-room t) ∙ k.size ∙ sym (length-put b (here * slot_size) new (taken-room u));
        eight = rw length-set k.eight;
        texts = same_text;
      }

-- ---- the report

line_same : (slots : List Slot) (a b : List ℕ) → Alike slots a b → (i : ℕ) → channel_line (state slots a) i ≡ channel_line (state slots b) i
unfolding channel_line
line_same slots a b k i = go (get_or slots i empty_slot).shown refl
  where
    go : (o : Option Seq) → (get_or slots i empty_slot).shown ≡ o → line_of (state slots a) i o ≡ line_of (state slots b) i o
    go None e = refl
    go (Some s) e =
        ap (λ (x : List ℕ). decimal (facility_first + i) ++ (32 ∷ (decimal s.0 ++ (32 ∷ (kmsg_bytes x ++ (10 ∷ [])))))) (k.texts i s e)

lines_same : (slots : List Slot) (a b : List ℕ) → Alike slots a b → (i n : ℕ) → channel_lines (state slots a) i n ≡ channel_lines (state slots b) i n
unfolding channel_lines
lines_same slots a b k i zero = refl
lines_same slots a b k i (suc n) = rw (line_same slots a b k i, lines_same slots a b k (suc i) n)

report-same : (slots : List Slot) (a b : List ℕ) (n : ℕ) → Alike slots a b → report (fed (state slots a) n) ≡ report (fed (state slots b) n)
unfolding report
report-same slots a b n k = rw (lines_same slots a b k 0 channels)

-- ---- a feed

feed_same : (slots : List Slot) (a b : List ℕ) (n : ℕ) (ms : List (List ℕ)) → Alike slots a b
    → report (feed_all (state slots a) n ms) ≡ report (feed_all (state slots b) n ms)
unfolding feed_all show
feed_same slots a b n [] k = report-same slots a b n k
feed_same slots a b n (m ∷ ms) k =
    go (eqb (board_refusal (state slots a) m) 0) refl (λ (s : List Slot) (x y : List ℕ) (j : ℕ). feed_same s x y j ms)
  where
    same : board_refusal (state slots a) m ≡ board_refusal (state slots b) m
    same = same-refusal slots a b m k.size

    go : (z : Bool) → eqb (board_refusal (state slots a) m) 0 ≡ z
        → ((s : List Slot) (x y : List ℕ) (j : ℕ) → Alike s x y → report (feed_all (state s x) j ms) ≡ report (feed_all (state s y) j ms))
        → report (after n ms (deliver (state slots a) m)) ≡ report (after n ms (deliver (state slots b) m))
    go true q ih =
        let e : board_refusal (state slots a) m ≡ 0 = eqb-true (board_refusal (state slots a) m) 0 q in
        rw (deliver-taken (state slots a) m e, deliver-taken (state slots b) m (sym same ∙ e))
        (ih (slots' slots a b m k e) _ _ (n + 0) (shown_alike slots a b m k e))
    go false q ih =
        rw (deliver-refused (state slots a) m q, deliver-refused (state slots b) m (ap (λ (x : ℕ). eqb x 0) (sym same) ∙ q), ← same)
        (ih slots a b _ k)

-- no slot of a fresh board shows anything
none-shown : (n i : ℕ) → (get_or (replicate n empty_slot) i empty_slot).shown ≡ None
none-shown zero i = refl
none-shown (suc n) zero = refl
none-shown (suc n) (suc i) = none-shown n i

never : {s : Seq} → Some s ≡ None → ⊥
never e = let z : ◌≡◌ {A = ℕ} 0 1 = cc in omega arith

pub any_buffer_lem : AnyBuffer
unfolding output fresh
any_buffer_lem a b input e =
    ap (cond (ltb input_most (length input)) (quoted "input too long\n"))
    (feed_same (replicate channels empty_slot) a b 0 (messages input) (record { size = e; eight = refl; texts = λ i s p. absurd (never (sym p ∙ none-shown channels i)) }))
