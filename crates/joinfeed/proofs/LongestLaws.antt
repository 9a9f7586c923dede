-- The most that is written: every message pays for its own line, four bytes for each of its own.
use Prim.Native.Nat.{ℕ, zero, suc, ◌+◌, ◌*◌, ◌≤◌, ◌<◌}
use mathlib.Core.Path.{◌≡◌, refl, ◌∙◌}
use mathlib.Core.Bool.{Bool, true, false, ◌&&◌, not, cond}
use mathlib.Core.List.{List, [], ◌∷◌, ◌++◌, map}
use native.Mathlib.Omega.{arith}
use lib.Dec.{ltb, eqb}
use lib.ListN.{length, get_or, replicate, length-append, length-drop}
use borrow.Author.Tests.{ltb-false}
use Rattle.slices.specs.Cut.{after, pieces, on_first}
use Rattle.slices.specs.Quoted.{quoted}
use Rattle.slices.proofs.CutLaws.{before_le, after-drop, pieces-cons}
use Rattle.number.proofs.DecimalLaws.{decimal-most}
use Rattle.escape.proofs.EscapeLaws.{unescape-most}
use Rattle.message.specs.Message.{body, lines, text, reading}
use Rattle.channel.specs.Channel.{channels}
use Rattle.feed.specs.Feed.{input_most, messages}
use Rattle.feed.specs.Printing.{refused_line}
use Rattle.joiner.specs.Joiner.{State, fresh}
use Rattle.joiner.specs.Whole.{joining, closing, called, all_shown}
use Rattle.joinfeed.specs.Lines.{result, joinings, closings, text_lines, all_refused, report, output}
use Rattle.joinfeed.specs.Longest.{output_most, LongestOutput}
use Rattle.joinfeed.proofs.LineLaws.{lines-append}
use Rattle.joinfeed.proofs.StepLaws.{counts_one}
use Rattle.joinfeed.proofs.CostLaws.{cost, owes, Pays, join_pays, close_pays}

-- ---- a text is shorter than its message

after_less : (c x : ℕ) (xs : List ℕ) → length (after c (x ∷ xs)) ≤ length xs
after_less c x xs = rw (← after-drop c (x ∷ xs), length-drop) (omega arith)

first_less : (c : ℕ) (xs : List ℕ) → length (get_or (pieces c xs) 0 []) ≤ length xs
first_less c [] = omega arith
first_less c (x ∷ xs) = rw (pieces-cons c x xs) (before_le c (x ∷ xs))

text_less : (m : List ℕ) → 0 < length m → cost (reading m).text ≤ 4 * length m
unfolding reading text lines body
text_less [] h = absurd (omega arith)
text_less (x ∷ xs) h =
    omega (arith, unescape-most (get_or (pieces 10 (after 59 (x ∷ xs))) 0 []), first_less 10 (after 59 (x ∷ xs)), after_less 59 x xs)

-- ---- the messages of an input: each has a byte, and together they are as long as it

abbrev total : List (List ℕ) → ℕ
total [] = 0
total (m ∷ ms) = length m + total ms

abbrev Some : List (List ℕ) → Type 0
Some [] = Unit {0}
Some (m ∷ ms) = (0 < length m) × Some ms

messages-some : (s : List ℕ) → (total (messages s) ≡ length s) × Some (messages s)
messages-some [] = (refl, tt)
messages-some (x ∷ []) = (refl, (omega arith, tt))
messages-some (x ∷ y ∷ ys) = go (eqb x 10 && not (eqb y 32)) (messages (y ∷ ys)) (messages-some (y ∷ ys))
  where
    go : (t : Bool) (ms : List (List ℕ)) → (total ms ≡ length (y ∷ ys)) × Some ms
        → (total (cond t ((x ∷ []) ∷ ms) (on_first x ms)) ≡ length (x ∷ y ∷ ys)) × Some (cond t ((x ∷ []) ∷ ms) (on_first x ms))
    go true ms e = (omega (arith, e.0), (omega arith, e.1))
    go false [] e = absurd (omega (arith, e.0))
    go false (m ∷ ms) e = (omega (arith, e.0), (omega arith, e.1.1))

count_most : (ms : List (List ℕ)) → Some ms → length ms ≤ total ms
count_most [] h = omega arith
count_most (m ∷ ms) h = omega (arith, h.0, count_most ms h.1)

-- ---- the calls

refused-most : (ms : List (List ℕ)) (j : State) → all_refused j (joinings ms) ≤ length ms
unfolding all_refused
refused-most [] j = omega arith
refused-most (m ∷ ms) j =
    let c = called j (joining m result result) in
    omega (arith, counts_one c.answer, refused-most ms c.joiner)

close-most : (n : ℕ) (j : State) → length j.slots ≡ channels → length (text_lines (all_shown j (map closing (replicate n result)))) ≤ owes j.slots
unfolding all_shown
close-most zero j many = omega arith
close-most (suc n) j many =
    let c = called j (closing result) in
    let p : Pays j c 0 = close_pays j result many in
    rw (lines-append c.shown (all_shown c.joiner (map closing (replicate n result))), length-append)
    (omega (arith, p.enough, close-most n c.joiner (p.many ∙ many)))

calls-most : (ms : List (List ℕ)) (j : State) → Some ms → length j.slots ≡ channels
    → length (text_lines (all_shown j (joinings ms ++ closings))) ≤ owes j.slots + 4 * total ms
unfolding all_shown
calls-most [] j h many = omega (arith, close-most channels j many)
calls-most (m ∷ ms) j h many =
    let c = called j (joining m result result) in
    let p : Pays j c (cost (reading m).text) = join_pays j m result result in
    rw (lines-append c.shown (all_shown c.joiner (joinings ms ++ closings)), length-append)
    (omega (arith, p.enough, text_less m h.0, calls-most ms c.joiner h.1 (p.many ∙ many)))

report-most : (buffer input : List ℕ) → length input ≤ input_most → length (report buffer (messages input)) ≤ output_most
unfolding report refused_line fresh
report-most buffer input h =
    let s = messages-some input in
    let n = all_refused (fresh buffer) (joinings (messages input)) in
    simp length-append
    (omega (
      arith,
      calls-most (messages input) (fresh buffer) s.1 refl,
      decimal-most 19 n (omega (arith, refused-most (messages input) (fresh buffer), count_most (messages input) s.1, s.0)),
      s.0,
    ))

pub longest-output : LongestOutput
unfolding output
longest-output buffer input = go (ltb input_most (length input)) refl
  where
    go : (t : Bool) → ltb input_most (length input) ≡ t → length (cond t (quoted "input too long\n") (report buffer (messages input))) ≤ output_most
    go true q = omega arith
    go false q = report-most buffer input (ltb-false input_most (length input) q)
