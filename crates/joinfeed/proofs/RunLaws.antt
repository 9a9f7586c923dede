-- The whole program: the lines of the messages, those of the closings, and the last line, one behind the other.
use Prim.Native.Nat.{ℕ, ◌+◌, ◌≤◌, ◌<◌}
use mathlib.Core.Path.{◌≡◌, refl, ap, sym, ◌∙◌}
use mathlib.Core.List.{List, [], ◌∷◌, ◌++◌, append_assoc}
use native.Mathlib.Omega.{arith}
use lib.ListN.{length, take, drop}
use borrow.Author.Tests.{lt-ltb, le-ltb}
use Rattle.slices.specs.Quoted.{quoted}
use Rattle.slices.proofs.PutReads.{put-behind}
use Rattle.escape.specs.Answers.{Written}
use Rattle.feed.specs.Feed.{input_most, messages}
use Rattle.feed.specs.Printing.{refused_line}
use Rattle.feed.proofs.WriteLaws.{first-room, second-room, written_both, written_front}
use Rattle.joiner.specs.Joiner.{State, state, fresh}
use Rattle.joiner.specs.Whole.{Call, called, all_shown, after_all}
use Rattle.joinfeed.specs.Lines.{joinings, closings, text_lines, all_refused, report, output, buffer_after}
use Rattle.joinfeed.specs.Steps.{Runs}
use Rattle.joinfeed.specs.Longest.{output_most}
use Rattle.joinfeed.specs.declared.Progress.{Progress}
use Rattle.joinfeed.proofs.LineLaws.{lines-append}
use Rattle.joinfeed.proofs.LongestLaws.{longest-output}

shown-append : (cs ds : List Call) (j : State) → all_shown j (cs ++ ds) ≡ all_shown j cs ++ all_shown (after_all j cs) ds
unfolding all_shown after_all
shown-append [] ds j = refl
shown-append (c ∷ cs) ds j =
    ap (λ (l : List (ℕ × List ℕ)). (called j c).shown ++ l) (shown-append cs ds (called j c).joiner)
    ∙ sym (append_assoc (called j c).shown (all_shown (called j c).joiner cs) (all_shown (after_all (called j c).joiner cs) ds))

-- what was written in front stands there, and all other bytes stay
pub in_front : (out bytes : List ℕ) {k : ℕ} {out' : List ℕ} → length bytes ≤ length out → Written out 0 bytes k out'
    → (take k out' ≡ bytes) × (drop k out' ≡ drop k out)
in_front out bytes {k} h w = (written_front out bytes h w, rw w.buffer (put-behind out 0 bytes (omega arith) k (omega (arith, w.place))))

module _ (buffer input : List ℕ) where
  module _ (h : input_most < length input) where
    pub too_long : output buffer input ≡ quoted "input too long\n"
    unfolding output
    too_long = rw (lt-ltb input_most (length input) h)

    pub untouched : buffer ≡ buffer_after buffer input
    unfolding buffer_after
    untouched = rw (lt-ltb input_most (length input) h)

  module _ (h : length input ≤ input_most) where
    abbrev cs : List Call
    cs = joinings (messages input)

    abbrev given : List ℕ
    given = text_lines (all_shown (fresh buffer) cs)

    abbrev closed : List ℕ
    closed = text_lines (all_shown (after_all (fresh buffer) cs) closings)

    abbrev last : List ℕ
    last = refused_line (all_refused (fresh buffer) cs)

    pub report-is : output buffer input ≡ report buffer (messages input)
    unfolding output
    report-is = rw (le-ltb input_most (length input) h)

    parts : output buffer input ≡ given ++ (closed ++ last)
    unfolding report
    parts =
        report-is
        ∙ ap (λ (l : List (ℕ × List ℕ)). text_lines l ++ last) (shown-append cs closings (fresh buffer))
        ∙ ap (λ (l : List ℕ). l ++ last) (lines-append (all_shown (fresh buffer) cs) (all_shown (after_all (fresh buffer) cs) closings))
        ∙ append_assoc given closed last

    module _ (out : List ℕ) (long : output_most ≤ length out) where
      room : 0 + length (given ++ (closed ++ last)) ≤ length out
      room = omega (arith, ap length parts, longest-output buffer input)

      pub given-fits : length given ≤ length out
      given-fits = omega (arith, first-room 0 (length out) given (closed ++ last) room)

      module _ {p : Progress} {buffer' out₁ : List ℕ} (r : Runs (fresh buffer) cs out 0 p buffer' out₁) where
        abbrev left : State
        left = state p.joiner.slots p.joiner.last buffer'

        closed_is : text_lines (all_shown left closings) ≡ closed
        closed_is = ap (λ (j : State). text_lines (all_shown j closings)) r.joiner

        pub texts-left : buffer' ≡ buffer_after buffer input
        unfolding buffer_after
        texts-left = rw (le-ltb input_most (length input) h) (ap (λ (j : State). j.buffer) r.joiner)

        room_2 : p.end + length (closed ++ last) ≤ length out₁
        room_2 = second-room given (closed ++ last) room r.lines

        pub closed-fits : p.end + length (text_lines (all_shown left closings)) ≤ length out₁
        closed-fits = rw closed_is (first-room p.end (length out₁) closed last room_2)

        module _ {end : ℕ} {out₂ : List ℕ} (w : Written out₁ p.end (text_lines (all_shown left closings)) end out₂) where
          closes : Written out₁ p.end closed end out₂
          closes = rw closed_is at w

          pub last_fits : end + length (refused_line p.refused) ≤ length out₂
          last_fits = rw r.refused (second-room closed last room_2 closes)

          pub all-written : {end₂ : ℕ} {out₃ : List ℕ} → Written out₂ end (refused_line p.refused) end₂ out₃
              → (take end₂ out₃ ≡ output buffer input) × (drop end₂ out₃ ≡ drop end₂ out)
          all-written {end₂} {out₃} v =
              let u : Written out₂ end last end₂ out₃ = rw r.refused at v in
              rw parts
              (in_front out (given ++ (closed ++ last)) (omega (arith, room))
              (written_both given (closed ++ last) room r.lines (written_both closed last room_2 closes u)))
