-- Texts given and answers are the ledger's, which has no buffer.
use Prim.Native.Nat.{ℕ, ◌+◌}
use mathlib.Core.Path.{◌≡◌, refl, sym, ◌∙◌}
use mathlib.Core.List.{List, [], ◌∷◌}
use lib.ListN.{length}
use Rattle.feed.specs.Feed.{messages}
use Rattle.channel.specs.Channel.{buffer_size}
use Rattle.joiner.specs.Joiner.{State, fresh}
use Rattle.joiner.specs.Ledger.{Ledger, blank}
use Rattle.joiner.specs.Whole.{Call, called, entered, all_shown, Answered}
use Rattle.joiner.proofs.WholeProof.{no_piece-lost}
use Rattle.joinfeed.specs.Lines.{joinings, calls, count_refused, all_refused, report, output}
use Rattle.joinfeed.specs.AnyBuffer.{AnyBuffer}

unfoldable count_entered : Ledger → List Call → ℕ
count_entered l [] = 0
count_entered l (c ∷ cs) = count_refused (entered l c).answer + count_entered (entered l c).ledger cs

counted : (cs : List Call) (j : State) (l : Ledger) → Answered j l cs → all_refused j cs ≡ count_entered l cs
unfolding all_refused count_entered
counted [] j l h = refl
counted (c ∷ cs) j l h = rw (h.0, counted cs (called j c).joiner (entered l c).ledger h.2)

module _ (a b : List ℕ) (p : length a ≡ buffer_size) (q : length b ≡ buffer_size) (cs : List Call) where
  same-shown : all_shown (fresh a) cs ≡ all_shown (fresh b) cs
  same-shown = (no_piece-lost a p cs).0.shows ∙ sym (no_piece-lost b q cs).0.shows

  same-refused : all_refused (fresh a) cs ≡ all_refused (fresh b) cs
  same-refused =
      counted cs (fresh a) blank (no_piece-lost a p cs).0.answers ∙ sym (counted cs (fresh b) blank (no_piece-lost b q cs).0.answers)

pub any_buffer_lem : AnyBuffer
unfolding output report
any_buffer_lem a b input p q = rw (same-shown a b p q (calls (messages input)), same-refused a b p q (joinings (messages input)))
