-- No report is longer than the longest: texts and numbers on a board that was fed fit their slots and their words.
use Rattle.std.specs.Prelude.{Option, Some, None}
use Prim.Native.Nat.{ℕ, zero, suc, ◌+◌, ◌*◌, ◌≤◌, ◌<◌}
use mathlib.Core.Path.{◌≡◌, refl}
use mathlib.Core.Bool.{Bool, true, false, ◌&&◌, not, cond}
use mathlib.Core.List.{List, [], ◌∷◌}
use native.Mathlib.Omega.{arith}
use lib.Dec.{leb, ltb, eqb}
use lib.ListN.{length, get_or, set, length-append, length-take}
use borrow.Author.Tests.{eqb-true, le-leb, leb-true, ltb-false, not-false}
use Rattle.slices.specs.Cut.{on_first}
use Rattle.slices.specs.Quoted.{quoted}
use Rattle.slices.specs.Tests.{every}
use Rattle.slices.proofs.Bools.{and_left, and_right, every_first, every-other}
use Rattle.number.specs.Decimal.{plain_decimal, value}
use Rattle.number.proofs.DecimalLaws.{decimal-most}
use Rattle.escape.specs.Escape.{kmsg_bytes}
use Rattle.escape.proofs.EscapeLaws.{kmsg_most}
use Rattle.record.specs.Limits.{word_most, prefix_most}
use Rattle.header.specs.Header.{field, is_number, lacks_number}
use Rattle.message.specs.Message.{text, dictionary, is_bulky, reading}
use Rattle.message.proofs.AcceptLaws.{Clear, clear}
use Rattle.board.specs.Board.{State, channels, empty_slot, fresh, slot, slot_size, facility_first, slot_fits, channel, board_refusal, show, Delivered, deliver}
use Rattle.board.specs.declared.Slot.{Slot}
use Rattle.board.proofs.TakenLaws.{taken}
use Rattle.feed.specs.Feed.{input_most, messages, Fed, count_refused, feed_all, shown_text, line_of, channel_line, channel_lines, report, output}
use Rattle.feed.proofs.FeedLaws.{counts_one}
use Rattle.feed.specs.Longest.{line_most, report_most, LongestReport}
use Rattle.record.specs.declared.Seq.{Seq}

-- ---- a test of every slot

module _ (p : Slot → Bool) where
  every_at : (ss : List Slot) → p empty_slot ≡ true → every p ss ≡ true → (i : ℕ) → p (get_or ss i empty_slot) ≡ true
  every_at [] o e i = o
  every_at (s ∷ ss) o e zero = every_first p s ss e
  every_at (s ∷ ss) o e (suc i) = every_at ss o (every-other p s ss e) i

  every_set : (ss : List Slot) → every p ss ≡ true → (i : ℕ) (s : Slot) → p s ≡ true → every p (set ss i s) ≡ true
  every_set [] e i s h = refl
  every_set (t ∷ ss) e zero s h = rw h (every-other p t ss e)
  every_set (t ∷ ss) e (suc i) s h = rw (every_first p t ss e) (every_set ss (every-other p t ss e) i s h)

-- a text that fits its slot, and a number that fits a word
abbrev number_fits : Option Seq → Bool
number_fits None = true
number_fits (Some n) = leb n.0 word_most

abbrev small : Slot → Bool
small s = slot_fits s && number_fits s.shown

-- ---- what an accepted message has

number_fits_lem : (m : List ℕ) → lacks_number m ≡ false → leb (reading m).sequence word_most ≡ true
unfolding lacks_number reading
number_fits_lem m e =
    let all : is_number prefix_most (field m 0) && is_number word_most (field m 1) && is_number word_most (field m 2) ≡ true = not-false _ e in
    and_right (plain_decimal (field m 1)) (leb (value (field m 1)) word_most)
    (and_right (is_number prefix_most (field m 0)) (is_number word_most (field m 1))
    (and_left (is_number prefix_most (field m 0) && is_number word_most (field m 1)) (is_number word_most (field m 2)) all))

text-fits : (m : List ℕ) → is_bulky m ≡ false → leb (length (reading m).text) slot_size ≡ true
unfolding is_bulky reading
text-fits m e = le-leb (length (text m)) slot_size (omega (arith, ltb-false slot_size (length (text m) + length (dictionary m)) e))

-- ---- the board and the count after a feed

deliver_small : (b : State) (m : List ℕ) → every small b.slots ≡ true → every small (deliver b m).board.slots ≡ true
unfolding deliver show
deliver_small b m e = go (eqb (board_refusal b m) 0) refl
  where
    go : (t : Bool) → eqb (board_refusal b m) 0 ≡ t
        → every small (cond {A = Delivered} t (record { answer = 0; board = show b (reading m) }) (record { answer = board_refusal b m; board = b })).board.slots ≡ true
    go true q =
        let f : Clear m = clear m (taken b m (eqb-true (board_refusal b m) 0 q)).none in
        every_set small b.slots e (channel (reading m).prefix) _ (rw (text-fits m f.bulk, number_fits_lem m f.number))
    go false q = e

feed_small : (b : State) (n : ℕ) (ms : List (List ℕ)) → every small b.slots ≡ true → every small (feed_all b n ms).board.slots ≡ true
unfolding feed_all
feed_small b n [] e = e
feed_small b n (m ∷ ms) e =
    feed_small (deliver b m).board (n + count_refused (deliver b m).answer) ms (deliver_small b m e)

feed_count : (b : State) (n : ℕ) (ms : List (List ℕ)) → (feed_all b n ms).refused ≤ n + length ms
unfolding feed_all
feed_count b n [] = omega arith
feed_count b n (m ∷ ms) =
    omega (arith, feed_count (deliver b m).board (n + count_refused (deliver b m).answer) ms, counts_one (deliver b m).answer)

-- no more messages than bytes
messages-count : (s : List ℕ) → length (messages s) ≤ length s
messages-count [] = omega arith
messages-count (x ∷ []) = omega arith
messages-count (x ∷ y ∷ ys) = go (eqb x 10 && not (eqb y 32)) (messages (y ∷ ys)) (messages-count (y ∷ ys))
  where
    go : (t : Bool) (ms : List (List ℕ)) → length ms ≤ length (y ∷ ys) → length (cond t ((x ∷ []) ∷ ms) (on_first x ms)) ≤ length (x ∷ y ∷ ys)
    go true ms h = omega arith
    go false [] h = omega arith
    go false (m ∷ ms) h = omega arith

-- ---- lines

line-most : (b : State) (i : ℕ) → i < channels → every small b.slots ≡ true → length (channel_line b i) ≤ line_most
unfolding channel_line
line-most b i h e = go (slot b i).shown (and_right (slot_fits (slot b i)) (number_fits (slot b i).shown) s)
  where
    s : small (slot b i) ≡ true
    s = every_at small b.slots refl e i

    t : length (kmsg_bytes (shown_text b i)) ≤ 4 * slot_size
    t =
        let l : length (shown_text b i) ≤ (slot b i).size = rw length-take (omega arith) in
        omega (arith, kmsg_most (shown_text b i), leb-true (slot b i).size slot_size (and_left (slot_fits (slot b i)) (number_fits (slot b i).shown) s))

    go : (o : Option Seq) → number_fits o ≡ true → length (line_of b i o) ≤ line_most
    go None q = omega arith
    go (Some n) q =
        simp length-append
        (omega (arith, decimal-most 1 (facility_first + i) (omega arith), decimal-most 19 n.0 (omega (arith, leb-true n.0 word_most q)), t))

lines-most : (b : State) (i n : ℕ) → i + n ≤ channels → every small b.slots ≡ true → length (channel_lines b i n) ≤ n * line_most
unfolding channel_lines
lines-most b i zero h e = omega arith
lines-most b i (suc n) h e =
    rw length-append (omega (arith, line-most b i (omega arith) e, lines-most b (suc i) n (omega arith) e))

report-most : (f : Fed) → every small f.board.slots ≡ true → f.refused ≤ word_most → length (report f) ≤ report_most
unfolding report
report-most f e h =
    simp length-append (omega (arith, lines-most f.board 0 channels (omega arith) e, decimal-most 19 f.refused (omega arith)))

pub longest-report : LongestReport
unfolding output fresh
longest-report buffer input = go (ltb input_most (length input)) refl
  where
    f : Fed
    f = feed_all (fresh buffer) 0 (messages input)

    go : (t : Bool) → ltb input_most (length input) ≡ t → length (cond t (quoted "input too long\n") (report f)) ≤ report_most
    go true q = omega arith
    go false q =
        report-most f (feed_small (fresh buffer) 0 (messages input) refl)
        (omega (arith, feed_count (fresh buffer) 0 (messages input), messages-count input, ltb-false input_most (length input) q))
