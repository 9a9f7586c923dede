-- A report: its lines and its last line, measured whole, then written whole or not at all.
use Rattle.std.specs.Prelude.{Some, None}
use Prim.Native.Nat.{ℕ, ◌+◌, ◌≤◌, ◌<◌}
use mathlib.Core.Path.{◌≡◌, refl, sym}
use mathlib.Core.List.{List, ◌++◌}
use native.Mathlib.Omega.{arith}
use lib.ListN.{length, length-append}
use Rattle.slices.specs.Put.{left, placed}
use Rattle.slices.proofs.PutLaws.{placed-none}
use Rattle.number.specs.Decimal.{decimal}
use Rattle.escape.specs.Answers.{Written}
use Rattle.escape.proofs.AnswerLaws.{written-placed}
use Rattle.board.specs.Board.{State, channels}
use Rattle.feed.specs.Feed.{fed, channel_lines, report}
use Rattle.feed.specs.Printing.{measured, refused_line}
use Rattle.feed.proofs.MeasureLaws.{length-said, over-said}
use Rattle.feed.proofs.WriteLaws.{written_both}

module _ (b : State) (n : ℕ) where
  abbrev lines : List ℕ
  lines = channel_lines b 0 channels

  report-parts : report (fed b n) ≡ lines ++ refused_line n
  unfolding report refused_line
  report-parts = refl

  -- the last line's length: eight bytes, the digits and the newline
  refused_counts : length (refused_line n) ≡ length (decimal n) + 9
  unfolding refused_line
  refused_counts = simp length-append (omega arith)

  report_counts : length (report (fed b n)) ≡ length lines + (length (decimal n) + 9)
  report_counts = rw (report-parts, length-append, refused_counts)

  module _ (out : List ℕ) {d : ℕ} (e : d ≡ length (decimal n)) where
    pub last-over : length out < d + 9 → left None out ≡ placed out 0 (report (fed b n))
    last-over h = sym (placed-none out 0 (report (fed b n)) (omega (arith, report_counts)))

    -- what is left of the room before the last line
    module _ (room : ℕ) (fits : room + (d + 9) ≡ length out) where
      pub lines-over : measured room lines ≡ None → left None out ≡ placed out 0 (report (fed b n))
      lines-over m = sym (placed-none out 0 (report (fed b n)) (omega (arith, report_counts, over-said room lines m)))

      pub report-room : {l : ℕ} → measured room lines ≡ Some l → 0 + length (lines ++ refused_line n) ≤ length out
      report-room m = rw (length-append, refused_counts) (omega (arith, length-said room lines m))

  pub report-written : {out out₁ out₂ : List ℕ} {k k₂ : ℕ} → 0 + length (lines ++ refused_line n) ≤ length out → Written out 0 lines k out₁
      → Written out₁ k (refused_line n) k₂ out₂ → left (Some k₂) out₂ ≡ placed out 0 (report (fed b n))
  report-written {out} h w v = rw report-parts (written-placed out 0 (lines ++ refused_line n) h (written_both lines (refused_line n) h w v))
