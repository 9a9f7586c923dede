-- A report's lines measured before a byte is written: one line, then all of them from the room that is left.
use Rattle.std.specs.Prelude.{Option, Some, None}
use Prim.Native.Nat.{ℕ, suc, ◌+◌, ◌-◌, ◌≤◌, ◌<◌}
use mathlib.Core.Path.{◌≡◌, refl, ap, sym, ◌∙◌}
use mathlib.Core.Bool.{Bool, true, false, cond}
use mathlib.Core.List.{List, [], ◌++◌, append_assoc}
use native.Mathlib.Omega.{arith}
use native.Mathlib.Numerals.{add-one}
use lib.Dec.{leb}
use lib.ListN.{length, length-append}
use borrow.Author.Tests.{le-leb, lt-leb, leb-true, leb-false}
use Rattle.number.specs.Decimal.{decimal}
use Rattle.escape.specs.Escape.{kmsg_bytes}
use Rattle.escape.specs.Answers.{kmsg_length}
use Rattle.board.specs.Board.{State, channels, facility_first, slot}
use Rattle.record.specs.declared.Seq.{Seq}
use Rattle.feed.specs.Feed.{shown_text, line_of, channel_line, channel_lines}
use Rattle.feed.specs.Printing.{measured, field, number_end, shown_line}

-- ---- a length, and a bound on it

module _ (most : ℕ) (bytes : List ℕ) where
  pub measured-fits : length bytes ≤ most → measured most bytes ≡ Some (length bytes)
  unfolding measured
  measured-fits h = rw (le-leb (length bytes) most h)

  pub measured-over : most < length bytes → measured most bytes ≡ None
  unfolding measured
  measured-over h = rw (lt-leb (length bytes) most h)

  -- what the answer says
  pub length-said : {n : ℕ} → measured most bytes ≡ Some n → (n ≡ length bytes) × (length bytes ≤ most)
  unfolding measured
  length-said {n} e = go (leb (length bytes) most) refl e
    where
      go : (t : Bool) → leb (length bytes) most ≡ t → cond t (Some (length bytes)) None ≡ Some n
          → (n ≡ length bytes) × (length bytes ≤ most)
      go true q e = (cc, leb-true (length bytes) most q)
      go false q e = let z : ◌≡◌ {A = ℕ} 0 1 = cc in absurd (omega arith)

  pub over-said : measured most bytes ≡ None → most < length bytes
  unfolding measured
  over-said e = go (leb (length bytes) most) refl e
    where
      go : (t : Bool) → leb (length bytes) most ≡ t → cond t (Some (length bytes)) None ≡ None → most < length bytes
      go true q e = let z : ◌≡◌ {A = ℕ} 0 1 = cc in absurd (omega arith)
      go false q e = leb-false (length bytes) most q

kmsg_measured : (most : ℕ) (text : List ℕ) → kmsg_length most text ≡ measured most (kmsg_bytes text)
unfolding kmsg_length measured
kmsg_measured most text = refl

-- ---- one line

pub line-shown : (channel : ℕ) (text : List ℕ) (s : Option Seq) {n : Seq} → s ≡ Some n
    → shown_line channel s text ≡ field channel 32 ++ number_end n.0 text
unfolding shown_line
line-shown channel text s e = rw e

pub line-none : (channel : ℕ) (text : List ℕ) (s : Option Seq) → s ≡ None → shown_line channel s text ≡ []
unfolding shown_line
line-none channel text s e = rw e

module _ (channel most : ℕ) (text : List ℕ) (s : Option Seq) where
  pub none-length : s ≡ None → Some 0 ≡ measured most (shown_line channel s text)
  none-length e = rw (line-none channel text s e) (sym (measured-fits most [] (omega arith)))

  module _ {n : Seq} (e : s ≡ Some n) where
    -- the line's length: its numbers, its text, two spaces and the newline
    line_counts : length (shown_line channel s text) ≡ length (decimal channel) + length (decimal n.0) + 3 + length (kmsg_bytes text)
    line_counts = rw (line-shown channel text s e) (simp length-append (omega arith))

    module _ {a b : ℕ} (p : a ≡ length (decimal channel)) (q : b ≡ length (decimal n.0)) where
      pub numbers-over : most < a + b + 3 → None ≡ measured most (shown_line channel s text)
      numbers-over h = sym (measured-over most (shown_line channel s text) (omega (arith, line_counts)))

      -- what is left of the room behind the numbers
      module _ (room : ℕ) (fits : room + (a + b + 3) ≡ most) where
        pub text-over : kmsg_length room text ≡ None → None ≡ measured most (shown_line channel s text)
        text-over k =
            let l : room < length (kmsg_bytes text) = over-said room (kmsg_bytes text) (sym (kmsg_measured room text) ∙ k) in
            sym (measured-over most (shown_line channel s text) (omega (arith, line_counts)))

        pub text-said : {l : ℕ} → kmsg_length room text ≡ Some l → (l ≡ length (kmsg_bytes text)) × (length (kmsg_bytes text) ≤ room)
        text-said k = length-said room (kmsg_bytes text) (sym (kmsg_measured room text) ∙ k)

        pub line-length : {l : ℕ} → kmsg_length room text ≡ Some l → Some (a + b + 3 + l) ≡ measured most (shown_line channel s text)
        line-length {l} k =
            let same : l ≡ length (kmsg_bytes text) = (text-said k).0 in
            let m : length (kmsg_bytes text) ≤ room = (text-said k).1 in
            let c : a + b + 3 + l ≡ length (shown_line channel s text) = omega (arith, line_counts) in
            ap Some c ∙ sym (measured-fits most (shown_line channel s text) (omega (arith, line_counts)))

-- a channel's line is what its slot shows
pub channel-line : (b : State) (i : ℕ) {text : List ℕ} → text ≡ shown_text b i
    → shown_line (facility_first + i) (slot b i).shown text ≡ channel_line b i
unfolding shown_line channel_line
channel-line b i e = rw e (go (slot b i).shown)
  where
    go : (s : Option Seq) → shown_line (facility_first + i) s (shown_text b i) ≡ line_of b i s
    go None = refl
    go (Some n) = simp append_assoc

-- ---- the lines of all channels

pub lines_step : (b : State) (i : ℕ) → i < channels → channel_lines b i (channels - i) ≡ channel_line b i ++ channel_lines b (i + 1) (channels - (i + 1))
unfolding channel_lines
lines_step b i h =
    let e : channels - i ≡ suc (channels - (i + 1)) = omega arith in
    rw (e, add-one)

pub lines_end : (b : State) (i : ℕ) → channels ≤ i → channel_lines b i (channels - i) ≡ []
unfolding channel_lines
lines_end b i h = let e : channels - i ≡ 0 = omega arith in rw e

-- the loop: what the lines so far have taken of the room
pub record Measuring (b : State) (most room i : ℕ) : Type 0 where
  pub bound : i ≤ channels
  pub within : room ≤ most
  pub counts : length (channel_lines b 0 channels) + room ≡ most + length (channel_lines b i (channels - i))

pub measure_begin : {b : State} {most : ℕ} → Measuring b most most 0
measure_begin = record { bound = omega arith; within = omega arith; counts = omega arith }

module _ {b : State} {most room i : ℕ} (r : Measuring b most room i) where
  step_counts : i < channels → length (channel_lines b i (channels - i)) ≡ length (channel_line b i) + length (channel_lines b (i + 1) (channels - (i + 1)))
  step_counts h = rw (lines_step b i h) (length-append (channel_line b i) (channel_lines b (i + 1) (channels - (i + 1))))

  pub measure_on : {n : ℕ} → i < channels → measured room (channel_line b i) ≡ Some n → Measuring b most (room - n) (i + 1)
  measure_on {n} h e =
      let l : n ≡ length (channel_line b i) = (length-said room (channel_line b i) e).0 in
      let m : length (channel_line b i) ≤ room = (length-said room (channel_line b i) e).1 in
      record { bound = omega arith; within = omega (arith, r.within); counts = omega (arith, r.counts, step_counts h) }

  pub measure_over : i < channels → measured room (channel_line b i) ≡ None → None ≡ measured most (channel_lines b 0 channels)
  measure_over h e =
      let l : room < length (channel_line b i) = over-said room (channel_line b i) e in
      sym (measured-over most (channel_lines b 0 channels) (omega (arith, r.counts, step_counts h)))

  pub measure_end : channels ≤ i → Some (most - room) ≡ measured most (channel_lines b 0 channels)
  measure_end h =
      let l : length (channel_lines b i (channels - i)) ≡ 0 = ap length (lines_end b i h) in
      let c : most - room ≡ length (channel_lines b 0 channels) = omega (arith, r.counts, r.within) in
      ap Some c ∙ sym (measured-fits most (channel_lines b 0 channels) (omega (arith, r.counts, r.within)))
