-- One call of the program, and a list of them: what is left to write stands behind what was written.
use Rattle.std.specs.Prelude.{Option, None, Ok, Err}
use Prim.Native.Nat.{ℕ, suc, ◌+◌, ◌-◌, ◌≤◌, ◌<◌}
use mathlib.Core.Path.{◌≡◌, refl, ap, sym, ◌∙◌}
use mathlib.Core.List.{List, [], ◌∷◌, ◌++◌, map}
use native.Mathlib.Omega.{arith}
use lib.ListN.{length, replicate}
use Rattle.slices.proofs.FillLaws.{Filling, fill_begin, fill_fits-run}
use Rattle.escape.specs.Answers.{Written}
use Rattle.feed.specs.Feed.{messages}
use Rattle.feed.proofs.FeedLaws.{messages-most}
use Rattle.feed.proofs.WriteLaws.{fill_written, fill_done}
use Rattle.joiner.specs.declared.Texts.TheVariants.{Nothing, One, Two}
use Rattle.joiner.specs.Joiner.{State, state, empty_slot, fresh, join, close, left, left_closed, Answer}
use Rattle.joiner.specs.Whole.{Call, joining, closing, shown_by, Called, joined_by, closed_by, called, all_shown, after_all}
use Rattle.refusal.specs.Numbers.{numbered}
use Rattle.joiner.specs.declared.Told.{Told}
use Rattle.joiner.specs.declared.Joiner.{Joiner}
use Rattle.joiner.specs.declared.Slot.{Slot}
use Rattle.joinfeed.specs.Lines.{result, joinings, text_lines, count_refused, all_refused}
use Rattle.joinfeed.specs.Steps.{Steps, Runs}
use Rattle.joinfeed.specs.declared.Progress.{Progress}
use Rattle.joinfeed.proofs.LineLaws.{lines-append}
use Rattle.record.specs.declared.Seq.{Seq}

-- ---- one call

-- a call's answer and joiner, and the texts that it shows
abbrev pub called_by : Told → List ℕ → List ℕ → List ℕ → Called
called_by t buffer first second =
    record { answer = numbered t.answer; joiner = state t.joiner.slots t.joiner.last buffer; shown = shown_by (numbered t.answer) first second }

pub joined_is : (j : State) (m first₀ second₀ : List ℕ) (t : Told) {buffer' first second : List ℕ} → left t buffer' first second ≡ join j m first₀ second₀
    → called_by t buffer' first second ≡ called j (joining m first₀ second₀)
unfolding called
joined_is j m first₀ second₀ t e = ap joined_by e

pub closed_is : (j : State) (given₀ : List ℕ) (t : Told) {buffer' given : List ℕ} → left_closed t buffer' given ≡ close j given₀
    → called_by t buffer' given [] ≡ called j (closing given₀)
unfolding called
closed_is j given₀ t e = ap closed_by e

pub step_room : (j : State) (c : Call) (at size : ℕ) (t : Told) (first second : List ℕ) {buffer' : List ℕ} → called_by t buffer' first second ≡ called j c
    → at + length (text_lines (called j c).shown) ≤ size → at + length (text_lines (shown_by (numbered t.answer) first second)) ≤ size
step_room j c at size t first second e h = rw (ap (λ (a : Called). text_lines a.shown) e) h

pub stepped : {j : State} {c : Call} (t : Told) (first second : List ℕ) {buffer' out : List ℕ} {at n end : ℕ} {out' : List ℕ}
    → called_by t buffer' first second ≡ called j c → Written out at (text_lines (shown_by (numbered t.answer) first second)) end out'
    → n ≡ count_refused (numbered t.answer) → Steps j c out at (record { joiner = t.joiner; refused = n; end = end }) buffer' out'
stepped t first second e w k =
    record {
      lines = rw (ap (λ (a : Called). text_lines a.shown) e) at w;
      joiner = ap (λ (a : Called). a.joiner) e;
      refused = k ∙ ap (λ (a : Called). count_refused a.answer) e;
    }

pub counts_one : (answer : Answer) → count_refused answer ≤ 1
counts_one (Ok Nothing) = omega arith
counts_one (Ok (One t)) = omega arith
counts_one (Ok (Two t u)) = omega arith
counts_one (Err n) = omega arith

pub step-one : {j : State} {c : Call} {out : List ℕ} {at : ℕ} {p : Progress} {buffer' out' : List ℕ} → Steps j c out at p buffer' out' → p.refused ≤ 1
step-one {j} {c} s = rw s.refused (counts_one (called j c).answer)

-- ---- a list of calls

module _ (j : State) (c : Call) (cs : List Call) where
  lines-first : text_lines (all_shown j (c ∷ cs)) ≡ text_lines (called j c).shown ++ text_lines (all_shown (called j c).joiner cs)
  unfolding all_shown
  lines-first = lines-append (called j c).shown (all_shown (called j c).joiner cs)

  after_first : after_all j (c ∷ cs) ≡ after_all (called j c).joiner cs
  unfolding after_all
  after_first = refl

  refused-first : all_refused j (c ∷ cs) ≡ count_refused (called j c).answer + all_refused (called j c).joiner cs
  unfolding all_refused
  refused-first = refl

-- what these calls leave, reached by those that are left
pub record Running (j₀ : State) (cs₀ : List Call) (out₀ : List ℕ) (at : ℕ) (j : State) (cs : List Call) (out : List ℕ) (end : ℕ) : Type 0 where
  pub filling : Filling out₀ at (text_lines (all_shown j₀ cs₀)) out end (text_lines (all_shown j cs))
  pub joiner : after_all j cs ≡ after_all j₀ cs₀

pub run_begin : {j : State} {cs : List Call} {out : List ℕ} {at : ℕ} → at + length (text_lines (all_shown j cs)) ≤ length out → Running j cs out at j cs out at
run_begin h = record { filling = fill_begin h; joiner = refl }

module _ {j₀ : State} {cs₀ : List Call} {out₀ : List ℕ} {at : ℕ} {j : State} {out : List ℕ} {end : ℕ} where
  module _ {c : Call} {cs : List Call} (r : Running j₀ cs₀ out₀ at j (c ∷ cs) out end) where
    next : Filling out₀ at (text_lines (all_shown j₀ cs₀)) out end (text_lines (called j c).shown ++ text_lines (all_shown (called j c).joiner cs))
    next = rw (lines-first j c cs) at r.filling

    pub run_fits : end + length (text_lines (called j c).shown) ≤ length out
    run_fits = fill_fits-run (text_lines (called j c).shown) (text_lines (all_shown (called j c).joiner cs)) next

    pub run_on : {p : Progress} {buffer' out' : List ℕ} → Steps j c out end p buffer' out'
        → Running j₀ cs₀ out₀ at (state p.joiner.slots p.joiner.last buffer') cs out' p.end
    run_on s =
        rw s.joiner
        (record {
          filling = fill_written (text_lines (called j c).shown) (text_lines (all_shown (called j c).joiner cs)) next s.lines;
          joiner = sym (after_first j c cs) ∙ r.joiner;
        })

  module _ (r : Running j₀ cs₀ out₀ at j [] out end) where
    pub run-written : Written out₀ at (text_lines (all_shown j₀ cs₀)) end out
    unfolding all_shown
    run-written = fill_done r.filling

    pub run-joiner : j ≡ after_all j₀ cs₀
    unfolding after_all
    run-joiner = r.joiner

-- ---- the messages of an input

pub record Taking (input buffer₀ out₀ : List ℕ) (k : Joiner) (buffer : List ℕ) (refused : ℕ) (out : List ℕ) (end : ℕ) (rest : List (List ℕ)) : Type 0 where
  -- no more messages than bytes: the count can't wrap
  pub count : refused + length rest ≤ length input
  pub size : length buffer ≡ length buffer₀
  pub runs : Running (fresh buffer₀) (joinings (messages input)) out₀ 0 (state k.slots k.last buffer) (joinings rest) out end
  pub counts : refused + all_refused (state k.slots k.last buffer) (joinings rest) ≡ all_refused (fresh buffer₀) (joinings (messages input))

new_is : {slots : List Slot} {last : Option Seq} (buffer : List ℕ) → (slots ≡ replicate 8 empty_slot) × (last ≡ None) → state slots last buffer ≡ fresh buffer
unfolding fresh
new_is buffer e = rw (e.0, e.1)

pub take_begin : {input buffer out : List ℕ} {k : Joiner} → (k.slots ≡ replicate 8 empty_slot) × (k.last ≡ None)
    → length (text_lines (all_shown (fresh buffer) (joinings (messages input)))) ≤ length out → Taking input buffer out k buffer 0 out 0 (messages input)
take_begin {input = input} {buffer = buffer} e h =
    record { count = omega (arith, messages-most input); size = refl; runs = rw (new_is buffer e) (run_begin (omega arith)); counts = rw (new_is buffer e) (omega arith) }

module _ {input buffer₀ out₀ : List ℕ} {k : Joiner} {buffer : List ℕ} {refused : ℕ} {out : List ℕ} {end : ℕ} {rest : List (List ℕ)}
    (r : Taking input buffer₀ out₀ k buffer refused out end rest) where
  abbrev now : State
  now = state k.slots k.last buffer

  pub take-end : rest ≡ [] → Runs (fresh buffer₀) (joinings (messages input)) out₀ 0 (record { joiner = k; refused = refused; end = end }) buffer out
  unfolding all_refused
  take-end e =
      let s : Running (fresh buffer₀) (joinings (messages input)) out₀ 0 now [] out end = rw e at r.runs in
      let q : refused + 0 ≡ all_refused (fresh buffer₀) (joinings (messages input)) = rw e at r.counts in
      record { lines = run-written s; joiner = run-joiner s; refused = omega arith }

  module _ {m : List ℕ} {ms : List (List ℕ)} (e : rest ≡ m ∷ ms) where
    runs_first : Running (fresh buffer₀) (joinings (messages input)) out₀ 0 now (joining m result result ∷ joinings ms) out end
    runs_first = rw e at r.runs

    pub take-fits : end + length (text_lines (called now (joining m result result)).shown) ≤ length out
    take-fits = run_fits runs_first

    pub take_on : (p : Progress) {buffer' out' : List ℕ} → Steps now (joining m result result) out end p buffer' out'
        → length buffer' ≡ length buffer
        → Taking input buffer₀ out₀ p.joiner buffer' (refused + p.refused) out' p.end ms
    take_on p {buffer'} {out'} s b =
        let f : all_refused now (joinings rest) ≡ p.refused + all_refused (state p.joiner.slots p.joiner.last buffer') (joinings ms) =
        rw (e, s.refused, s.joiner) (refused-first now (joining m result result) (joinings ms)) in
        record {
          count = omega (arith, r.count, ap length e, step-one s);
          size = b ∙ r.size;
          runs = run_on runs_first s;
          counts = omega (arith, r.counts, f);
        }

-- ---- the closings

pub closings-first : (i : ℕ) → i < 8 → map closing (replicate (8 - i) result) ≡ closing result ∷ map closing (replicate (8 - (i + 1)) result)
closings-first i h = let e : 8 - i ≡ suc (8 - (i + 1)) = omega arith in rw e

pub closings-none : (i : ℕ) → 8 ≤ i → map closing (replicate (8 - i) result) ≡ []
closings-none i h = let e : 8 - i ≡ 0 = omega arith in rw e
