-- A case on a fresh log, by computing the history, with which the log agrees; what calls leave over any bytes, by computing over bytes that are named.
use Prim.Native.Nat.{ℕ, zero, suc, ◌+◌, ◌≤◌}
use mathlib.Core.Path.{◌≡◌, refl, ap, ◌∙◌}
use mathlib.Core.Bool.{Bool, true, ◌&&◌}
use mathlib.Core.List.{List, [], ◌∷◌, map}
use native.Mathlib.Nat.{add-zero, zero-add}
use native.Mathlib.Omega.{arith}
use borrow.Author.Tests.{leb-true}
use lib.Dec.{leb}
use lib.ListN.{length, get_or}
use Rattle.slices.specs.Tests.{every}
use Rattle.slices.proofs.Bools.{and_left, and_right, every_first, every-other}
use Rattle.console.specs.declared.Console.{Console}
use Rattle.record.specs.Limits.{word_most, caller_most}
use Rattle.eventlog.specs.View.{Marks, View}
use Rattle.eventlog.specs.Check.{fresh_log, marks_of, view_of}
use Rattle.eventlog.specs.Excess.{total}
use Rattle.store.proofs.HoldsLaws.{used-is}
use Rattle.history.specs.Calls.{Call, outside, box, make, place, read, seek, command, save, minimum, check, console, Reply, State, step, state_after}
use Rattle.history.specs.Past.{Past, first_held, held, past_step, past_after, fresh_past}
use Rattle.history.specs.Demand2.{fresh, Timed, AllTimed}
use Rattle.history.proofs.SoundLaws.{Sound, sound-step, sound-after, sound-fresh}
use Rattle.history.proofs.Demand2.{Agrees, first-is, next-is, setting-is, agree_step, agree_after, agree_fresh}
use Rattle.moments.specs.Case.{Outcome, outcome_of, call_of, sight_of, Calls, outcome, GivesFrom, Numbers, numbers_of, Left, left_by, Leaves, LeavesFrom, Change, step_of, seen_of, changes_by, Changes}
use Rattle.moments.proofs.LyingLaws.{Lying, lying_in, lying_after, lies_after}

-- ---- times of 64 bits and callers of 32, by a test

unfoldable pub is_timed : Call → Bool
is_timed (outside time bytes caller) = leb time word_most && leb caller caller_most
is_timed (box facility level time text dictionary fragment caller) = leb time word_most && leb caller caller_most
is_timed make = true
is_timed (place i n) = true
is_timed (read i lent) = true
is_timed (seek i offset whence) = true
is_timed (command a lent) = true
is_timed (save number lent) = true
is_timed (minimum wanted) = true
is_timed check = true
is_timed (console level setting) = true

in_width : (time caller : ℕ) → leb time word_most && leb caller caller_most ≡ true → (time ≤ word_most) × (caller ≤ caller_most)
in_width time caller e = (leb-true time word_most (and_left _ _ e), leb-true caller caller_most (and_right (leb time word_most) _ e))

timed : (c : Call) → is_timed c ≡ true → Timed c
unfolding is_timed
timed (outside time bytes caller) e = in_width time caller e
timed (box facility level time text dictionary fragment caller) e = in_width time caller e
timed make e = tt
timed (place i n) e = tt
timed (read i lent) e = tt
timed (seek i offset whence) e = tt
timed (command a lent) e = tt
timed (save number lent) e = tt
timed (minimum wanted) e = tt
timed check e = tt
timed (console level setting) e = tt

all_timed : (cs : List Call) → every is_timed cs ≡ true → AllTimed cs
all_timed [] e = tt
all_timed (c ∷ cs) e = (timed c (every_first is_timed c cs e), all_timed cs (every-other is_timed c cs e))

-- ---- what the history says is to be seen

unfoldable pub past_outcome : Past → List Call → Outcome
past_outcome p [] =
    record {
      seen = [];
      after = record { used = total (held p).records; first = first_held p; next = length p.all; level = p.marks.setting.level };
    }
past_outcome p (c ∷ cs) =
    let x = past_step p c in let o = past_outcome x.past cs in record { seen = x.reply ∷ o.seen; after = o.after }

agree_outcome : (cs : List Call) (s : State) (p : Past) → Agrees s p → Sound p → AllTimed cs → outcome_of s cs ≡ past_outcome p cs
unfolding past_outcome
agree_outcome [] s p a ok t = rw (used-is s.log s.buffer (held p).records a.holds, first-is s p a ok, next-is s p a ok, setting-is s p a ok)
agree_outcome (c ∷ cs) s p a ok t =
    let n = agree_step s p c a ok t.0 in
    rw (n.0, agree_outcome cs (step s c).state (past_step p c).past n.1 (sound-step p c ok t.0) t.1)

-- whether a case's times are of 64 bits, and what the history says is to be seen
unfoldable pub sight : Calls → Bool × Outcome
sight c = (
  every is_timed c.earlier && every is_timed (map call_of c.steps),
  past_outcome (past_after (fresh_past 1024) c.earlier) (map call_of c.steps),
)

pub on-fresh : (c : Calls) → sight c ≡ (true, outcome c) → (buffer : List ℕ) → length buffer ≡ 1024 → GivesFrom (fresh buffer) c
unfolding sight
on-fresh c h buffer l =
    let a : Agrees (fresh buffer) (fresh_past 1024) = rw l at (agree_fresh buffer (omega arith) (omega arith)) in
    let ok = sound-fresh 1024 (omega arith) in
    let before = c.earlier in
    let now = map call_of c.steps in
    let times : every is_timed before && every is_timed now ≡ true = ap (λ (x : Bool × Outcome). x.0) h in
    let t = all_timed before (and_left _ _ times) in
    let then = all_timed now (and_right (every is_timed before) _ times) in
    agree_outcome now _ _ (agree_after before (fresh buffer) (fresh_past 1024) a ok t) (sound-after before (fresh_past 1024) ok t) then
    ∙ ap (λ (x : Bool × Outcome). x.1) h

-- ---- the console setting after each call

unfoldable pub past_changes : Past → List Call → List (Reply × Console)
past_changes p [] = []
past_changes p (c ∷ cs) = let x = past_step p c in (x.reply, x.past.marks.setting) ∷ past_changes x.past cs

agree_changes : (cs : List Call) (s : State) (p : Past) → Agrees s p → Sound p → AllTimed cs → changes_by s cs ≡ past_changes p cs
unfolding past_changes
agree_changes [] s p a ok t = refl
agree_changes (c ∷ cs) s p a ok t =
    let n = agree_step s p c a ok t.0 in
    let ok = sound-step p c ok t.0 in
    rw (n.0, setting-is _ _ n.1 ok, agree_changes cs (step s c).state (past_step p c).past n.1 ok t.1)

abbrev called : List Change → List Call
called cs = map (λ (c : Change). call_of (step_of c)) cs

-- whether the times are of 64 bits, and what the history says
unfoldable pub changed : List Change → Bool × List (Reply × Console)
changed cs = (every is_timed (called cs), past_changes (fresh_past 1024) (called cs))

pub on-changes : (cs : List Change) → changed cs ≡ (true, map seen_of cs) → Changes cs
unfolding changed
on-changes cs h held l =
    let a : Agrees (fresh held) (fresh_past 1024) = rw l at (agree_fresh held (omega arith) (omega arith)) in
    let times : every is_timed (called cs) ≡ true = ap (λ (x : Bool × List (Reply × Console)). x.0) h in
    agree_changes (called cs) _ _ a (sound-fresh 1024 (omega arith)) (all_timed (called cs) times) ∙ ap (λ (x : Bool × List (Reply × Console)). x.1) h

-- ---- a fresh log over any 1,024 bytes, by computing over bytes that are named

unfoldable pub listed : ℕ → ℕ → (ℕ → ℕ) → List ℕ
listed zero k f = []
listed (suc n) k f = f k ∷ listed n (k + 1) f

listed_is : (xs : List ℕ) (k : ℕ) (f : ℕ → ℕ) → ((i : ℕ) → f (k + i) ≡ get_or xs i 0) → listed (length xs) k f ≡ xs
unfolding listed
listed_is [] k f h = refl
listed_is (x ∷ xs) k f h =
    let first : f k ≡ x = rw add-zero at (h 0) in
    let rest = listed_is xs (k + 1) f (λ i.
    let e : k + 1 + i ≡ k + suc i = omega arith in
    rw e (h (suc i))) in
    rw (first, rest)

-- ---- what the history says that calls leave

unfoldable pub past_numbers : Past → ℕ → Numbers
past_numbers p start =
    record {
      start = start;
      used = total (held p).records;
      first = first_held p;
      next = length p.all;
      clear = p.marks.clear;
      position = p.marks.position;
      offset = p.marks.offset;
      level = p.marks.setting.level;
      minimum = p.marks.setting.minimum;
      saved = p.marks.setting.saved;
    }

module _ (s : State) (p : Past) (a : Agrees s p) (ok : Sound p) where
  marks_are : marks_of s.log ≡ p.marks
  unfolding view_of held
  marks_are = ap (λ (v : View). v.marks) a.same

  agree_numbers : numbers_of s.log ≡ past_numbers p s.log.start.0
  unfolding past_numbers marks_of
  agree_numbers =
      let c : s.log.clear.0 ≡ p.marks.clear = ap (λ (m : Marks). m.clear) marks_are in
      let n : s.log.position.0 ≡ p.marks.position = ap (λ (m : Marks). m.position) marks_are in
      let o : s.log.offset ≡ p.marks.offset = ap (λ (m : Marks). m.offset) marks_are in
      rw (used-is s.log s.buffer (held p).records a.holds, first-is s p a ok, next-is s p a ok, c, n, o, setting-is s p a ok)

same_left : {r q : List Reply} {m n : Numbers} {b c : List ℕ} → r ≡ q → m ≡ n → b ≡ c
    → ◌≡◌ {A = Left} (record { seen = r; numbers = m; buffer = b }) (record { seen = q; numbers = n; buffer = c })
same_left er em eb = rw (er, em, eb)

unfoldable pub past_left : Past → Lying → List Call → Left
past_left p y cs =
    let end = lying_after p y cs in
    record { seen = (past_outcome p cs).seen; numbers = past_numbers (past_after p cs) end.start; buffer = end.buffer }

agree_left : (cs : List Call) (s : State) (p : Past) → Agrees s p → Sound p → AllTimed cs → left_by s cs ≡ past_left p (lying_in s) cs
unfolding past_left
agree_left cs s p a ok t =
    let seen = ap (λ (o : Outcome). o.seen) (agree_outcome cs s p a ok t) in
    let numbers = agree_numbers (state_after s cs) (past_after p cs) (agree_after cs s p a ok t) (sound-after cs p ok t) in
    let lies = lies_after cs s p a ok t in
    let start = ap (λ (y : Lying). y.start) lies in
    let buffer = ap (λ (y : Lying). y.buffer) lies in
    rw (seen, numbers, start, buffer)

-- a case's calls, whether their times are of 64 bits, what the callers see, and the numbers that are left: of this no byte of
-- the buffer is asked
abbrev leaves_called : Leaves → List Call
leaves_called l = map call_of l.steps

unfoldable pub sight_left : Leaves → Bool × (List Reply × Numbers)
sight_left l =
    let cs = leaves_called l in
    (every is_timed cs, ((past_outcome (fresh_past 1024) cs).seen, past_numbers (past_after (fresh_past 1024) cs) l.numbers.start))

-- and where the log starts then, and what lies in the buffer
unfoldable pub lying_left : Leaves → List ℕ → ℕ × List ℕ
lying_left l held =
    let end = lying_after (fresh_past 1024) (record { start = 0; buffer = held }) (leaves_called l) in
    (end.start, end.buffer)

pub on_any : (l : Leaves) → sight_left l ≡ (true, (map sight_of l.steps, l.numbers))
    → ((f : ℕ → ℕ) → lying_left l (listed 1024 0 f) ≡ (l.numbers.start, l.buffer (listed 1024 0 f)))
    → (held : List ℕ) → length held ≡ 1024 → LeavesFrom held l
unfolding sight_left lying_left past_left fresh fresh_log
on_any l told h held e =
    let named : listed 1024 0 (λ (i : ℕ). get_or held i 0) ≡ held = rw e at (listed_is held 0 (λ (i : ℕ). get_or held i 0) (λ i. rw zero-add)) in
    let g : lying_left l held ≡ (l.numbers.start, l.buffer held) = rw named at (h (λ (i : ℕ). get_or held i 0)) in
    let a : Agrees (fresh held) (fresh_past 1024) = rw e at (agree_fresh held (omega arith) (omega arith)) in
    let t = all_timed (leaves_called l) (ap (λ (x : Bool × (List Reply × Numbers)). x.0) told) in
    let start = ap (λ (x : ℕ × List ℕ). x.0) g in
    let seen = ap (λ (x : Bool × (List Reply × Numbers)). x.1.0) told in
    let numbers = ap (past_numbers (past_after (fresh_past 1024) (leaves_called l))) start ∙ ap (λ (x : Bool × (List Reply × Numbers)). x.1.1) told in
    agree_left (leaves_called l) (fresh held) (fresh_past 1024) a (sound-fresh 1024 (omega arith)) t
    ∙ same_left seen numbers (ap (λ (x : ℕ × List ℕ). x.1) g)
