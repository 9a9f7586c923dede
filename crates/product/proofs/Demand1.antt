-- Demand 1 over every call of the product: the log's part is the history's, and the rest is a case on what each definition tests.
use Rattle.std.specs.Prelude.{Some, None, Ok, Err}
use Prim.Native.Nat.{ℕ, ◌≤◌}
use mathlib.Core.Path.{◌≡◌, refl, ap, ap₂, sym, ◌∙◌}
use mathlib.Core.Logic.{inl, inr}
use mathlib.Core.Bool.{Bool, true, false, cond}
use mathlib.Core.List.{List, [], ◌∷◌, ◌++◌}
use native.Mathlib.Omega.{arith}
use native.Mathlib.Nat.{zero-add}
use borrow.Author.Tests.{le-leb}
use lib.Dec.{leb, ltb, eqb}
use lib.IntN.{ℤ, pos, negsuc}
use lib.ListN.{length}
use Rattle.slices.specs.Put.{Left, placed, put}
use Rattle.slices.specs.Put.{left as putLeft}
use Rattle.slices.proofs.Bools.{or-true}
use Rattle.record.specs.Limits.{payload_most}
use Rattle.record.specs.Record.{Record}
use Rattle.console.specs.Console.{is_level, level_set, set_to, minimum_set, with_minimum, set_number}
use Rattle.console.specs.declared.Console.{Console}
use Rattle.image.specs.Read.{Turn, taken, over}
use Rattle.image.specs.Editions.{coded}
use Rattle.savedtrail.specs.Reader.{AfterNext, edition_for, turn_at, next_by, next_with, as_record, next_of}
use Rattle.savedtrail.specs.declared.Reader.{Reader}
use Rattle.savedtrail.specs.declared.Told.TheVariants.{Room}
use Rattle.message.specs.Message.{ROOM, BULK, text, dictionary, refusal, reading}
use Rattle.message.specs.Line.{Line, lacks_room, line_refusal, read_line, block}
use Rattle.message.specs.Line.{line as lineLeft}
use Rattle.message.proofs.RefusedLaws.{first-most, refusal-most}
use Rattle.board.specs.Board.{State, LATE, board_refusal, show, Delivered, deliver}
use Rattle.board.specs.Board.{refusals as boardRefusals}
use Rattle.joiner.specs.Joiner.{After, join, Closed, closed, close, Given}
use Rattle.joiner.specs.Joiner.{State as JoinerState, after as joinAfter}
use Rattle.joiner.specs.Joiner.{Answer as Joined}
use Rattle.joiner.specs.declared.Texts.TheVariants as joined_is
use Rattle.joiner.proofs.AnswerLaws.{answer-known, refused-unchanged, close-known, close-unchanged}
use Rattle.feed.specs.Feed.{input_most, output, buffer_after}
use Rattle.feed.specs.Longest.{report_most}
use Rattle.feed.proofs.LongestLaws.{longest-report}
use Rattle.history.specs.Calls.{Reply, wrote, made, set, gave, sought, told, verdict, shown, nobody, step}
use Rattle.history.specs.Demand1.{Answers}
use Rattle.history.specs.Demand1.{Known as InTable}
use Rattle.history.proofs.Demand1.{demand_1}
use Rattle.product.specs.Calls.{Box, Call, on_log, turn_off, turn_on, set_level, set_minimum, line, delivery, joining, closing, receiver, join_lines, trail_next, number, by_reader, by_board, printed, no_room, other, replied, placed_at, join_told, trail_told, with_log, with_console, with_board, with_joiner, with_trail, called, handed}
use Rattle.product.specs.Demand1.{Known, Refuses, left, Demand1}

-- ---- the log

log-known : (r : Reply) → ((n : ℤ) → Answers r n → InTable n) → Known (replied r)
log-known (wrote a dropped) h = h a refl
log-known (made n) h = tt
log-known set h = tt
log-known (gave a lost n lent) h = h a refl
log-known (sought a n) h = h a refl
log-known (told a lent) h = h a refl
log-known (verdict x) h = tt
log-known (shown b) h = tt
log-known nobody h = tt

below : {X : Type 0} (n : ℤ) → Refuses (number n) → ((k : ℕ) → n ≡ negsuc k → X) → X
below (pos n) f h = absurd f
below (negsuc n) f h = h n refl

-- a reply that refuses answers a number below 0
refuses : {X : Type 0} (r : Reply) → Refuses (replied r) → ((n : ℤ) (k : ℕ) → Answers r n → n ≡ negsuc k → replied r ≡ number n → X) → X
refuses (wrote a dropped) f h = below a f (λ k e. h a k refl e refl)
refuses (made n) f h = absurd f
refuses set f h = absurd f
refuses (gave a lost n lent) f h = below a f (λ k e. h a k refl e refl)
refuses (sought a n) f h = below a f (λ k e. h a k refl e refl)
refuses (told a lent) f h = below a f (λ k e. h a k refl e refl)
refuses (verdict x) f h = absurd f
refuses (shown b) f h = absurd f
refuses nobody f h = absurd f

-- ---- the console setting

level-known : (t : Bool) → InTable (cond t (pos 0) (negsuc 21))
level-known true = tt
level-known false = inr (inr (inr (inl refl)))

no_level : (level : ℕ) → Refuses (number (set_number level)) → is_level level ≡ false
unfolding set_number
no_level level = go (is_level level)
  where
    go : (t : Bool) → Refuses (number (cond t (pos 0) (negsuc 21))) → t ≡ false
    go true f = absurd f
    go false f = refl

set-left : (setting : Console) (level : ℕ) → Refuses (number (set_number level)) → set_to setting level ≡ setting
unfolding set_to level_set
set-left setting level f = rw (no_level level f)

minimum-left : (setting : Console) (level : ℕ) → Refuses (number (set_number level)) → with_minimum setting level ≡ setting
unfolding with_minimum minimum_set
minimum-left setting level f = rw (no_level level f)

-- ---- the receiving end

line-most : (m result numbers : List ℕ) → line_refusal m result numbers ≤ BULK
unfolding line_refusal
line-most m result numbers = go (lacks_room result numbers)
  where
    go : (t : Bool) → cond t ROOM (refusal m) ≤ BULK
    go true = omega arith
    go false = refusal-most m

module _ (m result numbers : List ℕ) where
  abbrev by : Bool → Line
  by t = cond t (lineLeft 0 (put result 0 (text m ++ dictionary m)) (block (reading m))) (lineLeft (line_refusal m result numbers) result numbers)

  line_known : (read_line m result numbers).answer ≤ BULK
  unfolding read_line
  line_known = go (eqb (line_refusal m result numbers) 0)
    where
      go : (t : Bool) → (by t).answer ≤ BULK
      go true = omega arith
      go false = line-most m result numbers

  line-left : Refuses (by_reader (read_line m result numbers).answer)
      → ((read_line m result numbers).result ≡ result) × ((read_line m result numbers).numbers ≡ numbers)
  unfolding read_line
  line-left = go (eqb (line_refusal m result numbers) 0)
    where
      go : (t : Bool) → Refuses (by_reader (by t).answer) → ((by t).result ≡ result) × ((by t).numbers ≡ numbers)
      go true f = absurd f
      go false f = (refl, refl)

board-most : (b : State) (m : List ℕ) → board_refusal b m ≤ LATE
unfolding board_refusal
board-most b m = first-most LATE (boardRefusals b m) (rw (le-leb (refusal m) LATE (omega (arith, refusal-most m))))

board-known : (b : State) (m : List ℕ) → (deliver b m).answer ≤ LATE
unfolding deliver
board-known b m = go (eqb (board_refusal b m) 0)
  where
    go : (t : Bool) → (cond {A = Delivered} t (record { answer = 0; board = show b (reading m) }) (record { answer = board_refusal b m; board = b })).answer ≤ LATE
    go true = omega arith
    go false = board-most b m

board-left : (b : State) (m : List ℕ) → Refuses (by_board (deliver b m).answer) → (deliver b m).board ≡ b
unfolding deliver
board-left b m = go (eqb (board_refusal b m) 0)
  where
    go : (t : Bool) → let d = cond {A = Delivered} t (record { answer = 0; board = show b (reading m) }) (record { answer = board_refusal b m; board = b }) in
        Refuses (by_board d.answer) → d.board ≡ b
    go true f = absurd f
    go false f = refl

told-known : (a : Joined) → Given a → Known (join_told a)
told-known (Ok joined_is.Nothing) g = tt
told-known (Ok (joined_is.One t)) g = tt
told-known (Ok (joined_is.Two t u)) g = tt
told-known (Err n) g = g

-- an answer that refuses has its number
told-refused : (a : Joined) → Refuses (join_told a) → (n : ℕ) × (a ≡ Err n)
told-refused (Ok joined_is.Nothing) f = absurd f
told-refused (Ok (joined_is.One t)) f = absurd f
told-refused (Ok (joined_is.Two t u)) f = absurd f
told-refused (Err n) f = (n, refl)

join-left : (j : JoinerState) (m first second : List ℕ) → Refuses (join_told (join j m first second).answer)
    → (n : ℕ) × (join j m first second ≡ joinAfter (Err n) j first second)
join-left j m first second f =
    let t = told-refused (join j m first second).answer f in
    (t.0, refused-unchanged j m first second t.0 t.1)

close-left : (j : JoinerState) (result : List ℕ) → Refuses (join_told (close j result).answer)
    → (n : ℕ) × (close j result ≡ closed (Err n) j result)
close-left j result f =
    let t = told-refused (close j result).answer f in
    (t.0, (close-unchanged j result t.0 t.1).1)

module _ (input buffer out : List ℕ) where
  abbrev bytes : List ℕ
  bytes = output buffer input

  abbrev put_by : Bool → Left
  put_by t = cond t (putLeft (Some (length bytes)) (put out 0 bytes)) (putLeft None out)

  put_is : placed out 0 bytes ≡ put_by (leb (length bytes) (length out))
  unfolding placed
  put_is = rw zero-add

  out_known : Known (placed_at (placed out 0 bytes).answer)
  out_known = rw put_is (go (leb (length bytes) (length out)))
    where
      go : (t : Bool) → Known (placed_at (put_by t).answer)
      go true = tt
      go false = tt

  buffer-kept : leb (length bytes) (length out) ≡ false → buffer_after buffer input (length out) ≡ buffer
  unfolding buffer_after
  buffer-kept e = rw (e, or-true (ltb input_most (length input)))

  out_left : Refuses (placed_at (placed out 0 bytes).answer) → (buffer_after buffer input (length out) ≡ buffer) × ((placed out 0 bytes).buffer ≡ out)
  out_left = rw put_is (go (leb (length bytes) (length out)) refl)
    where
      go : (t : Bool) → leb (length bytes) (length out) ≡ t → Refuses (placed_at (put_by t).answer)
          → (buffer_after buffer input (length out) ≡ buffer) × ((put_by t).buffer ≡ out)
      go true e f = absurd f
      go false e f = (buffer-kept e, refl)

  out_room : report_most ≤ length out → placed_at (placed out 0 bytes).answer ≡ printed (length bytes)
  out_room h =
      let e : leb (length bytes) (length out) ≡ true = le-leb (length bytes) (length out) (omega (arith, longest-report buffer input)) in
      rw (put_is, e)

-- ---- the trail reader

module _ (q : Reader) (file result : List ℕ) where
  abbrev edition : ℕ
  edition = edition_for q.blocks file

  -- a result buffer that is too short is told before the turn is looked at
  abbrev turned_by : Bool → Turn Record → AfterNext
  turned_by t x = cond t (record { told = Room; reader = q; result = result }) (next_by as_record edition q file result x)

  trail-known : Known (trail_told (next_of q file result).told)
  unfolding next_with next_by
  trail-known = go (ltb (length result) payload_most) (turn_at (coded edition) edition q file)
    where
      go : (t : Bool) (x : Turn Record) → Known (trail_told (turned_by t x).told)
      go true x = tt
      go false (over e) = tt
      go false (taken r n) = tt

  trail-left : Refuses (trail_told (next_of q file result).told)
      → ((next_of q file result).reader ≡ q) × ((next_of q file result).result ≡ result)
  unfolding next_with next_by
  trail-left = go (ltb (length result) payload_most) (turn_at (coded edition) edition q file)
    where
      go : (t : Bool) (x : Turn Record) → Refuses (trail_told (turned_by t x).told) → ((turned_by t x).reader ≡ q) × ((turned_by t x).result ≡ result)
      go true x f = (refl, refl)
      go false (over e) f = absurd f
      go false (taken r n) f = absurd f

  trail-short : trail_told (next_of q file result).told ≡ cond (ltb (length result) 960) no_room other
  unfolding next_with next_by
  trail-short = go (ltb (length result) payload_most) (turn_at (coded edition) edition q file)
    where
      go : (t : Bool) (x : Turn Record) → trail_told (turned_by t x).told ≡ cond t no_room other
      go true x = refl
      go false (over e) = refl
      go false (taken r n) = refl

-- ---- every call

known : (b : Box) (c : Call) → Known (called b c).answer
unfolding called set_number
known b (on_log c) = log-known (step b.log c).reply (λ n e. (demand_1 b.log c n e).known)
known b turn_off = tt
known b turn_on = tt
known b (set_level level) = level-known (is_level level)
known b (set_minimum level) = level-known (is_level level)
known b (line m result numbers) = line_known m result numbers
known b (delivery m) = board-known b.board m
known b (joining m first second) = told-known (join b.joiner m first second).answer (answer-known b.joiner m first second)
known b (closing result) = told-known (close b.joiner result).answer (close-known b.joiner result)
known b (receiver input buffer out) = out_known input buffer out
known b (join_lines input texts out) = tt
known b (trail_next file result) = trail-known b.trail file result

box : (b : Box) (c : Call) → Refuses (called b c).answer → (called b c).box ≡ left b c (called b c).answer
unfolding called
box b (on_log c) f =
    refuses (step b.log c).reply f (λ n k a e q.
    ap (with_log b) ((demand_1 b.log c n a).state k e) ∙ ap (left b (on_log c)) (sym q))
box b turn_off f = absurd f
box b turn_on f = absurd f
box b (set_level level) f = ap (with_console b) (set-left b.console level f)
box b (set_minimum level) f = ap (with_console b) (minimum-left b.console level f)
box b (line m result numbers) f = refl
box b (delivery m) f = ap (with_board b) (board-left b.board m f)
box b (joining m first second) f = let l = join-left b.joiner m first second f in ap (λ (a : After). with_joiner b a.joiner) l.1
box b (closing result) f = let l = close-left b.joiner result f in ap (λ (c : Closed). with_joiner b c.joiner) l.1
box b (receiver input buffer out) f = refl
box b (join_lines input texts out) f = refl
box b (trail_next file result) f = ap (with_trail b) (trail-left b.trail file result f).0

lent : (b : Box) (c : Call) → Refuses (called b c).answer → (called b c).lent ≡ handed c
unfolding called
lent b (on_log c) f =
    refuses (step b.log c).reply f (λ n k a e q. ap (λ (l : List ℕ). l ∷ []) ((demand_1 b.log c n a).lent k e))
lent b turn_off f = absurd f
lent b turn_on f = absurd f
lent b (set_level level) f = refl
lent b (set_minimum level) f = refl
lent b (line m result numbers) f = let l = line-left m result numbers f in ap₂ (λ (x y : List ℕ). x ∷ y ∷ []) l.0 l.1
lent b (delivery m) f = refl
lent b (joining m first second) f = let l = join-left b.joiner m first second f in ap (λ (a : After). a.first ∷ a.second ∷ []) l.1
lent b (closing result) f = let l = close-left b.joiner result f in ap (λ (c : Closed). c.result ∷ []) l.1
lent b (receiver input buffer out) f = let l = out_left input buffer out f in ap₂ (λ (x y : List ℕ). x ∷ y ∷ []) l.0 l.1
lent b (join_lines input texts out) f = absurd f
lent b (trail_next file result) f = ap (λ (x : List ℕ). x ∷ []) (trail-left b.trail file result f).1

pub product_demand_1 : Demand1
unfolding called
product_demand_1 = record { known = known; box = box; lent = lent; room = λ b input buffer out h. out_room input buffer out h; short = λ b file result. trail-short b.trail file result }
