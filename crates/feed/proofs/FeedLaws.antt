-- A feed delivered message by message: what is left to deliver, on the board as it stands, leaves what the whole feed leaves.
use Rattle.std.specs.Prelude.{Result, Ok, Err, ⊤}
use Rattle.std.specs.Result.{is_err}
use mir.Val.{bool_byte}
use Prim.Native.Nat.{ℕ, suc, ◌+◌, ◌≤◌}
use mathlib.Core.Path.{◌≡◌, refl, ap, ◌∙◌}
use mathlib.Core.Bool.{Bool, true, false, cond}
use mathlib.Core.List.{List, [], ◌∷◌}
use native.Mathlib.Omega.{arith}
use lib.Dec.{eqb}
use lib.ListN.{length, replicate}
use Rattle.slices.specs.Cut.{on_first}
use Rattle.refusal.specs.Numbers.{numbered}
use Rattle.refusal.specs.declared.Refusal.{Refusal}
use Rattle.refusal.specs.declared.Refusal.TheVariants.{Room, Long, Unended, Header, Number, Byte, Entry, Bulk, Channel, Late}
use Rattle.message.specs.Message.{reading}
use Rattle.board.specs.Board.{State, channels, empty_slot, fresh, lacks_room, board_refusal, show, Delivered, deliver, answer_number, left, state}
use Rattle.board.specs.declared.Slot.{Slot}
use Rattle.board.specs.declared.Told.{Told}
use Rattle.feed.specs.Feed.{messages, Fed, fed, count_refused, feed_all}
use Rattle.feed.proofs.GroupLaws.{splits}

-- ---- a delivery

module _ (b : State) (m : List ℕ) where
  pub deliver-taken : board_refusal b m ≡ 0 → deliver b m ≡ record { answer = 0; board = show b (reading m) }
  unfolding deliver
  deliver-taken e = rw e

  pub deliver-refused : eqb (board_refusal b m) 0 ≡ false → deliver b m ≡ record { answer = board_refusal b m; board = b }
  unfolding deliver
  deliver-refused e = rw e

  room-refused : lacks_room b ≡ true → eqb (board_refusal b m) 0 ≡ false
  unfolding board_refusal
  room-refused e = rw e

-- what is left of a feed, behind a delivery
abbrev pub after : ℕ → List (List ℕ) → Delivered → Fed
after refused ms d = feed_all d.board (refused + count_refused d.answer) ms

-- a board that lacks room refuses every message, and stays as it was
pub feed_lacking : (b : State) (n : ℕ) (ms : List (List ℕ)) → lacks_room b ≡ true → (feed_all b n ms).board ≡ b
unfolding feed_all
feed_lacking b n [] e = refl
feed_lacking b n (m ∷ ms) e =
    ap (λ (d : Delivered). (after n ms d).board) (deliver-refused b m (room-refused b m e)) ∙ feed_lacking b (n + count_refused (board_refusal b m)) ms e

-- ---- the loop

-- no more messages than bytes: their count can't wrap
longer-most : (x : ℕ) (ms : List (List ℕ)) → length (on_first x ms) ≤ suc (length ms)
longer-most x [] = omega arith
longer-most x (m ∷ ms) = omega arith

pub messages-most : (s : List ℕ) → length (messages s) ≤ length s
messages-most [] = omega arith
messages-most (x ∷ []) = omega arith
messages-most (x ∷ y ∷ ys) = go (splits x y) (messages-most (y ∷ ys))
  where
    go : (t : Bool) → length (messages (y ∷ ys)) ≤ suc (length ys)
        → length (cond t ((x ∷ []) ∷ messages (y ∷ ys)) (on_first x (messages (y ∷ ys)))) ≤ suc (suc (length ys))
    go true h = omega arith
    go false h = omega (arith, longer-most x (messages (y ∷ ys)))

pub counts_one : (answer : ℕ) → count_refused answer ≤ 1
counts_one answer = go (eqb answer 0)
  where
    go : (t : Bool) → cond t 0 1 ≤ 1
    go true = omega arith
    go false = omega arith

-- a delivery counts as its number says: no refusal's number is 0
counted : (answer : Result ⊤ Refusal) → bool_byte (is_err answer) ≡ count_refused (answer_number (numbered answer))
counted (Ok x) = refl
counted (Err Room) = refl
counted (Err Long) = refl
counted (Err Unended) = refl
counted (Err Header) = refl
counted (Err Number) = refl
counted (Err Byte) = refl
counted (Err Entry) = refl
counted (Err Bulk) = refl
counted (Err Channel) = refl
counted (Err Late) = refl

pub record Feeding (input buffer₀ : List ℕ) (slots : List Slot) (buffer : List ℕ) (refused : ℕ) (rest : List (List ℕ)) : Type 0 where
  pub count : refused + length rest ≤ length input
  pub size : length buffer ≡ length buffer₀
  pub feeds : feed_all (state slots buffer) refused rest ≡ feed_all (fresh buffer₀) 0 (messages input)

pub feed_begin : {input buffer : List ℕ} {slots : List Slot} → slots ≡ replicate channels empty_slot → Feeding input buffer slots buffer 0 (messages input)
unfolding fresh
feed_begin {input} e = record { count = omega (arith, messages-most input); size = refl; feeds = rw e }

module _ {input buffer₀ : List ℕ} {slots : List Slot} {buffer : List ℕ} {refused : ℕ} {rest : List (List ℕ)} (r : Feeding input buffer₀ slots buffer refused rest) where
  pub feed_end : rest ≡ [] → fed (state slots buffer) refused ≡ feed_all (fresh buffer₀) 0 (messages input)
  unfolding feed_all
  feed_end e = rw e at r.feeds

  pub feed_on : (told : Told) {m buffer' : List ℕ} {ms : List (List ℕ)} {k : ℕ} → rest ≡ m ∷ ms → left told buffer' ≡ deliver (state slots buffer) m
      → k ≡ bool_byte (is_err told.answer) → length buffer' ≡ length buffer
      → Feeding input buffer₀ told.board.slots buffer' (refused + k) ms
  unfolding feed_all
  feed_on told {m} {buffer'} {ms} {k} e l q b =
      record {
        count = omega (arith, r.count, ap length e, q, counted told.answer, counts_one (answer_number (numbered told.answer)));
        size = b ∙ r.size;
        feeds = rw (q, counted told.answer) (ap (after refused ms) l ∙ rw e at r.feeds);
      }
