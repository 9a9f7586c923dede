-- What a call writes is paid for by what was open and by the message that came.
use Rattle.std.specs.Prelude.{Option, Some, None}
use Prim.Native.Nat.{ℕ, zero, suc, ◌+◌, ◌*◌, ◌≤◌, ◌<◌}
use mathlib.Core.Path.{◌≡◌, refl}
use mathlib.Core.Bool.{Bool, true, false, ◌||◌, not, cond}
use mathlib.Core.List.{List, [], ◌∷◌, ◌++◌}
use native.Mathlib.Omega.{arith}
use lib.Dec.{leb, eqb}
use lib.ListN.{length, get_or, set, take, drop, length-append, length-take, length-set}
use borrow.Author.Tests.{eqb-true, eqb-false}
use Rattle.slices.specs.Put.{put}
use Rattle.number.proofs.DecimalLaws.{decimal-most}
use Rattle.escape.proofs.EscapeLaws.{kmsg_most}
use Rattle.message.specs.Message.{Reading, reading, refusal}
use Rattle.channel.specs.Channel.{channels, slot_size, facility_first, has_channel, channel, is_late}
use Rattle.channel.proofs.ChannelLaws.{channel-below}
use Rattle.joiner.specs.Joiner.{State, empty_slot, lacks_room, is_short, join_refusal, Turn, turn, opens, adds, turned, held_text, open_text, length_of, hold, after, give, taking, join, closed, is_open, lowest, give_back, close_lowest, close, refused}
use Rattle.joiner.specs.Whole.{joining, closing, Called, joined_by, closed_by, called}
use Rattle.joiner.specs.declared.Slot.{Slot}
use Rattle.joinfeed.specs.Lines.{text_line, text_lines}
use Rattle.record.specs.declared.Seq.{Seq}

-- ---- what a text costs as a line: four bytes for each of its own, two digits, a space and a newline

abbrev pub cost : List ℕ → ℕ
cost text = 4 * length text + 4

abbrev costs : List (List ℕ) → ℕ
costs [] = 0
costs (t ∷ ts) = cost t + costs ts

line-most : (facility : ℕ) (text : List ℕ) → facility < 100 → length (text_line facility text) ≤ cost text
unfolding text_line
line-most facility text h = simp length-append (omega (arith, decimal-most 1 facility (omega arith), kmsg_most text))

-- ---- what is open

abbrev pub owed : Option ℕ → ℕ
owed None = 0
owed (Some n) = 4 * n + 4

abbrev pub owes : List Slot → ℕ
owes [] = 0
owes (s ∷ ss) = owed s.text + owes ss

owes_set : (ss : List Slot) (i : ℕ) (s : Slot) → owes (set ss i s) + owed (get_or ss i empty_slot).text ≤ owes ss + owed s.text
owes_set [] i s = omega arith
owes_set (t ∷ ss) zero s = omega arith
owes_set (t ∷ ss) (suc i) s = omega (arith, owes_set ss i s)

abbrev keeps : Option (List ℕ) → ℕ
keeps None = 0
keeps (Some t) = cost t

owed_kept : (o : Option (List ℕ)) → owed (length_of o) ≡ keeps o
owed_kept None = refl
owed_kept (Some t) = refl

held-most : (buffer : List ℕ) (i : ℕ) (l : Option ℕ) → keeps (held_text buffer i l) ≤ owed l
held-most buffer i None = omega arith
held-most buffer i (Some n) = omega (arith, length-take n (drop (i * slot_size) buffer))

-- a place written or closed
hold_owes : (j : State) (i : ℕ) (o : Option (List ℕ)) (last : Option Seq) → owes (hold j i o last).slots + keeps (open_text j i) ≤ owes j.slots + keeps o
unfolding hold
hold_owes j i o last =
    omega (arith, owes_set j.slots i (record { text = length_of o }), owed_kept o, held-most j.buffer i (get_or j.slots i empty_slot).text)

hold_many : (j : State) (i : ℕ) (o : Option (List ℕ)) (last : Option Seq) → length (hold j i o last).slots ≡ length j.slots
unfolding hold
hold_many j i o last = length-set j.slots i (record { text = length_of o })

-- a piece pays for what it opens or adds to, and for its own line
turn-costs : (o : Option (List ℕ)) (flag : ℕ) (piece : List ℕ) → costs (turned o flag piece).given + keeps (turned o flag piece).kept ≤ keeps o + cost piece
unfolding turned
turn-costs None flag piece = go (opens flag)
  where
    go : (a : Bool) → let t = cond a (turn [] (Some piece)) (turn (piece ∷ []) None) in costs t.given + keeps t.kept ≤ keeps None + cost piece
    go true = omega arith
    go false = omega arith
turn-costs (Some t) flag piece = go (adds flag) (leb (length t + length piece) slot_size)
  where
    go : (a b : Bool)
        → let u = cond a (cond b (turn [] (Some (t ++ piece))) (turn (t ∷ []) (Some piece))) (turn (t ∷ piece ∷ []) None) in
        costs u.given + keeps u.kept ≤ keeps (Some t) + cost piece
    go true true = omega (arith, length-append t piece)
    go true false = omega arith
    go false b = omega arith

-- ---- what is given

module _ (j : State) (i : ℕ) (first second : List ℕ) (h : facility_first + i < 100) where
  seen_most : (t out : List ℕ) → length (text_line (facility_first + i) (take (length t) out)) ≤ cost t
  seen_most t out = omega (arith, line-most (facility_first + i) (take (length t) out) h, length-take (length t) out)

  give-most : (gs : List (List ℕ)) → length (text_lines (joined_by (give j i gs first second)).shown) ≤ costs gs
  unfolding give
  give-most [] = omega arith
  give-most (a ∷ []) = rw length-append (omega (arith, seen_most a (put first 0 a)))
  give-most (a ∷ b ∷ more) = simp length-append (omega (arith, seen_most a (put first 0 a), seen_most b (put second 0 b)))

give-joiner : (j : State) (i : ℕ) (gs : List (List ℕ)) (first second : List ℕ) → (give j i gs first second).joiner ≡ j
unfolding give
give-joiner j i [] first second = refl
give-joiner j i (a ∷ []) first second = refl
give-joiner j i (a ∷ b ∷ more) first second = refl

-- ---- one call: its lines and what is open then, and so many places as before

pub record Pays (j : State) (a : Called) (n : ℕ) : Type 0 where
  pub enough : length (text_lines a.shown) + owes a.joiner.slots ≤ owes j.slots + n
  pub many : length a.joiner.slots ≡ length j.slots

on-channel : (j : State) (m first second : List ℕ) → join_refusal j m first second ≡ 0 → has_channel (reading m).prefix ≡ true
unfolding join_refusal
on-channel j m first second z =
    go (lacks_room j || is_short first || is_short second) (refusal m) (has_channel (reading m).prefix) refl (is_late (reading m).sequence j.last) z
  where
    go : (a : Bool) (k : ℕ) (c : Bool) → has_channel (reading m).prefix ≡ c → (d : Bool)
        → cond a 1 (cond (not (eqb k 0)) k (cond (not c) 9 (cond d 10 0))) ≡ 0 → has_channel (reading m).prefix ≡ true
    go true k c p d e = absurd (omega arith)
    go false k c p d e = by (eqb k 0) refl c p e
      where
        by : (b : Bool) → eqb k 0 ≡ b → (c : Bool) → has_channel (reading m).prefix ≡ c → cond (not b) k (cond (not c) 9 (cond d 10 0)) ≡ 0
            → has_channel (reading m).prefix ≡ true
        by false q c p e = absurd (eqb-false k 0 q e)
        by true q false p e = absurd (omega arith)
        by true q true p e = p

taking_pays : (j : State) (r : Reading) (first second : List ℕ) → has_channel r.prefix ≡ true → Pays j (joined_by (taking j r first second)) (cost r.text)
unfolding taking
taking_pays j r first second on =
    let i : ℕ = channel r.prefix in
    let t : Turn = turned (open_text j i) r.flag r.text in
    let last : Option Seq = Some (record { 0 = r.sequence }) in
    let k : State = hold j i t.kept last in
    let same : (give k i t.given first second).joiner ≡ k = give-joiner k i t.given first second in
    let lines : length (text_lines (joined_by (give k i t.given first second)).shown) ≤ costs t.given =
    give-most k i first second (omega (arith, channel-below r.prefix on)) t.given in
    record {
      enough = rw same (omega (arith, lines, turn-costs (open_text j i) r.flag r.text, hold_owes j i t.kept last));
      many = rw same (hold_many j i t.kept last);
    }

pub join_pays : (j : State) (m first second : List ℕ) → Pays j (called j (joining m first second)) (cost (reading m).text)
unfolding called join
join_pays j m first second = go (eqb (join_refusal j m first second) 0) refl
  where
    go : (t : Bool) → eqb (join_refusal j m first second) 0 ≡ t
        → Pays j (joined_by (cond t (taking j (reading m) first second) (after (refused (join_refusal j m first second)) j first second))) (cost (reading m).text)
    go true q = taking_pays j (reading m) first second (on-channel j m first second (eqb-true (join_refusal j m first second) 0 q))
    go false q = record { enough = omega arith; many = refl }

-- ---- a close

lowest-most : (ss : List Slot) → lowest ss ≤ length ss
unfolding lowest
lowest-most [] = omega arith
lowest-most (s ∷ ss) = go (is_open s.text) (lowest-most ss)
  where
    go : (t : Bool) → lowest ss ≤ length ss → cond t 0 (suc (lowest ss)) ≤ length (s ∷ ss)
    go true h = omega arith
    go false h = omega arith

given_back : (k : State) (i : ℕ) (o : Option (List ℕ)) (result : List ℕ) → facility_first + i < 100
    → (length (text_lines (closed_by (give_back k i o result)).shown) ≤ keeps o) × ((give_back k i o result).joiner ≡ k)
unfolding give_back
given_back k i None result h = (omega arith, refl)
given_back k i (Some t) result h = (rw length-append (omega (arith, seen_most k i result result h t (put result 0 t))), refl)

pub close_pays : (j : State) (result : List ℕ) → length j.slots ≡ channels → Pays j (called j (closing result)) 0
unfolding called close close_lowest
close_pays j result many = go (lacks_room j || is_short result)
  where
    i : ℕ
    i = lowest j.slots

    k : State
    k = hold j i None j.last

    back : (length (text_lines (closed_by (give_back k i (open_text j i) result)).shown) ≤ keeps (open_text j i)) × ((give_back k i (open_text j i) result).joiner ≡ k)
    back = given_back k i (open_text j i) result (omega (arith, lowest-most j.slots, many))

    go : (t : Bool) → Pays j (closed_by (cond t (closed (refused 1) j result) (give_back k i (open_text j i) result))) 0
    go true = record { enough = omega arith; many = refl }
    go false =
        record {
          enough = rw back.1 (omega (arith, back.0, hold_owes j i None j.last));
          many = rw back.1 (hold_many j i None j.last);
        }
