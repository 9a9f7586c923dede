-- What a reader gets, on the history alone. A read is one of three things: the line of its record, "overtaken", or a refusal
-- that leaves the reader; what it hears is then in order by induction on the calls.
use Prim.Native.Nat.{ℕ, ◌+◌, ◌-◌, ◌<◌, ◌≤◌}
use mathlib.Core.Path.{◌≡◌, refl, ap, sym, ◌∙◌}
use mathlib.Core.Bool.{Bool, true, false, cond}
use mathlib.Core.List.{List, [], ◌∷◌, ◌++◌}
use native.Mathlib.Omega.{arith}
use borrow.Author.Tests.{lt-ltb, ltb-true, ltb-false, eqb-true, eqb-false}
use lib.Dec.{ltb, eqb}
use lib.IntN.{pos}
use lib.ListN
use lib.ListN.{length, get_or, take, drop, length-append, length-set, get_or-append}
use lib.Seq.{take-append_seam, get_or-set_same, get_or-set_other}
use Rattle.record.specs.Record.{Record}
use Rattle.record.specs.Forms.{kmsg_line}
use Rattle.eventlog.specs.Answer.{refusal_number, Ruling, allowed, refused, ruling_of}
use Rattle.eventlog.specs.View.{next_of, record_at, no_record}
use Rattle.eventlog.specs.declared.Refusal.{Refusal}
use Rattle.eventlog.specs.declared.Refusal.TheVariants.{EBADFD, EINVAL, EPIPE, EAGAIN}
use Rattle.writes.specs.Write.{outside_record, box_record, outside_ruling, box_ruling}
use Rattle.kmsg.specs.Read.{reader_at, AfterRead, line_at, read_ruling, stay, read_refused, read_done, read_by, seek_ruling, seek_by}
use Rattle.history.specs.Calls.{Call, outside, box, make, place, read, seek, command, save, minimum, check, console, Reply, nobody, reply_read, reply_seek, if_there}
use Rattle.history.specs.Past.{Past, first_held, held, Told, telling, readers_at, next_number, past_write, past_read, past_step, past_run, past_after}
use Rattle.history.specs.Readers.{Overtaken, OvertakenExactly, Heard, lost, answer_heard, reply_heard, call_heard, heard, Leaves, AllLeave, InOrder, ReadsInOrder, OnlyReads, Unmoved}
use Rattle.history.proofs.HeldLaws.{first_in, next-held, record_held}

-- ---- one read

-- what a read by a reader of this number is
data Read (p : Past) (n : ℕ) (r : AfterRead) : Type 0 where
  line : first_held p ≤ n → n < length p.all → r.answer ≡ pos (length (kmsg_line (get_or p.all n no_record))) → r.lost ≡ 0
      → r.reader ≡ reader_at (n + 1)
      → take (length (kmsg_line (get_or p.all n no_record))) r.lent ≡ kmsg_line (get_or p.all n no_record) → Read p n r
  gone : n < first_held p → r.answer ≡ refusal_number EPIPE → r.lost ≡ first_held p - n → r.reader ≡ reader_at (first_held p) → Read p n r
  stayed : first_held p ≤ n → (why : Refusal) → answer_heard r.lost r.lent (refusal_number why) ≡ [] → r.answer ≡ refusal_number why
      → r.lost ≡ 0 → r.reader ≡ reader_at n → Read p n r

module _ (p : Past) (n : ℕ) (lent : List ℕ) where
  abbrev by : Ruling → AfterRead
  by q = read_by (held p) n lent q

  read-line : first_held p ≤ n → n < length p.all → Read p n (by allowed)
  unfolding read_by read_done line_at
  read-line l h =
      let e : record_at (held p) n ≡ get_or p.all n no_record = record_held p n l in
      line l h (rw e) refl refl
      (rw e (take-append_seam (kmsg_line (get_or p.all n no_record)) (drop (length (kmsg_line (get_or p.all n no_record))) lent)))

  read-gone : n < first_held p → Read p n (by (refused EPIPE))
  unfolding read_by read_refused held
  read-gone h = gone h refl refl refl

  -- any refusal but "overtaken"
  read_stayed : first_held p ≤ n → (why : Refusal) → read_refused (held p) n lent why ≡ stay why n lent → answer_heard 0 lent (refusal_number why) ≡ []
      → Read p n (by (refused why))
  unfolding read_by
  read_stayed h why e s = stayed h why (rw e s) (rw e) (rw e) (rw e)

  first-is : (held p).first ≡ first_held p
  unfolding held
  first-is = refl

  read_is : Read p n (by (read_ruling (held p) n lent))
  unfolding read_ruling read_refused
  read_is = go _ _ _ (ltb (length lent) (length (line_at (held p) n))) refl refl refl
    where
      held_still : ltb n (held p).first ≡ false → first_held p ≤ n
      held_still e = omega (arith, ltb-false n (held p).first e, first-is)

      go : (a b c d : Bool) → ltb (next_of (held p)) n ≡ a → ltb n (held p).first ≡ b → eqb n (next_of (held p)) ≡ c
          → Read p n (by (ruling_of ((a, EBADFD) ∷ (b, EPIPE) ∷ (c, EAGAIN) ∷ (d, EINVAL) ∷ [])))
      go true b c d ea eb ec = read_stayed (omega (arith, ltb-true (next_of (held p)) n ea, next-held p, first_in p)) EBADFD refl refl
      go false true c d ea eb ec = read-gone (omega (arith, ltb-true n (held p).first eb, first-is))
      go false false true d ea eb ec = read_stayed (held_still eb) EAGAIN refl refl
      go false false false true ea eb ec = read_stayed (held_still eb) EINVAL refl refl
      go false false false false ea eb ec =
          read-line (held_still eb) (omega (arith, ltb-false (next_of (held p)) n ea, next-held p, eqb-false n (next_of (held p)) ec))

-- a read by a reader whose record is held
not-gone : (p : Past) (n : ℕ) (r : AfterRead) → first_held p ≤ n → (r.answer ≡ refusal_number EPIPE → ⊥) → r.lost ≡ 0 → Overtaken p n r
not-gone p n r h w z =
    record {
      only = λ e. absurd (w e);
      always = λ g. absurd (omega arith);
      gap = λ g. absurd (omega arith);
      moved = λ g. absurd (omega arith);
      none = λ g. z;
    }

overtaken_of : (p : Past) (n : ℕ) (r : AfterRead) → Read p n r → Overtaken p n r
overtaken_of p n r (line l h a z m t) =
    not-gone p n r l
    (λ e.
    let k : ◌≡◌ {A = ℕ} 0 1 = cc in
    omega arith)
    z
overtaken_of p n r (gone h a l m) =
    record { only = λ e. h; always = λ g. a; gap = λ g. l; moved = λ g. m; none = λ g. absurd (omega arith) }
overtaken_of p n r (stayed l why s a z m) =
    not-gone p n r l
    (λ e.
    let same : refusal_number why ≡ refusal_number EPIPE = sym a ∙ e in
    let told : lost r.lost ∷ [] ≡ [] = rw same at s in
    let k : ◌≡◌ {A = ℕ} 0 1 = cc in
    omega arith)
    z

pub overtaken_exactly : OvertakenExactly
overtaken_exactly p n lent = overtaken_of p n _ (read_is p n lent)

-- ---- the records ever accepted only grow

record Extends (old new : List Record) : Type 0 where
  long : length old ≤ length new
  same : (n : ℕ) → n < length old → get_or new n no_record ≡ get_or old n no_record

extends_self : (l : List Record) → Extends l l
extends_self l = record { long = omega arith; same = λ n h. refl }

extends_on : (a b c : List Record) → Extends a b → Extends b c → Extends a c
extends_on a b c p q = record { long = omega (arith, p.long, q.long); same = λ n h. q.same n (omega (arith, p.long)) ∙ p.same n h }

extends_write : (p : Past) (r : Record) (bytes : ℕ) (q : Ruling) → Extends p.all (past_write p r bytes q).past.all
unfolding past_write
extends_write p r bytes allowed = record { long = simp length-append (omega arith); same = λ n h. get_or-append p.all (r ∷ []) no_record n h }
extends_write p r bytes (refused why) = extends_self p.all

extends_there : (p : Past) (t : Bool) (r : Reply) (readers : List ℕ)
    → Extends p.all (if_there {A = Told} t (telling r (readers_at p readers)) (telling nobody p)).past.all
extends_there p true r readers = extends_self p.all
extends_there p false r readers = extends_self p.all

extends_step : (p : Past) (c : Call) → Extends p.all (past_step p c).past.all
unfolding past_step
extends_step p (outside time bytes caller) = extends_write p _ _ (outside_ruling (held p) bytes)
extends_step p (box facility level time text dictionary fragment caller) = extends_write p _ _ (box_ruling (held p) facility level text dictionary)
extends_step p make = extends_self p.all
extends_step p (place i n) = extends_self p.all
extends_step p (read i lent) = extends_there p (ltb i (length p.readers)) _ _
extends_step p (seek i offset whence) = extends_there p (ltb i (length p.readers)) _ _
extends_step p (command a lent) = extends_self p.all
extends_step p (save number lent) = extends_self p.all
extends_step p (minimum wanted) = extends_self p.all
extends_step p check = extends_self p.all
extends_step p (console level setting) = extends_self p.all

extends_after : (cs : List Call) (p : Past) → Extends p.all (past_after p cs).all
unfolding past_after
extends_after [] p = extends_self p.all
extends_after (c ∷ cs) p = extends_on _ _ _ (extends_step p c) (extends_after cs (past_step p c).past)

-- ---- calls that don't move a reader

record Keeps (p : Past) (i : ℕ) (q : Past) : Type 0 where
  there : i < length q.readers
  number : get_or q.readers i 0 ≡ get_or p.readers i 0

module _ (p : Past) (i : ℕ) (h : i < length p.readers) where
  keeps_self : Keeps p i p
  keeps_self = record { there = h; number = refl }

  keeps_write : (r : Record) (bytes : ℕ) (q : Ruling) → Keeps p i (past_write p r bytes q).past
  unfolding past_write
  keeps_write r bytes allowed = record { there = h; number = refl }
  keeps_write r bytes (refused why) = keeps_self

  keeps_set : (j n : ℕ) → (i ≡ j → ⊥) → Keeps p i (readers_at p (lib.ListN.set p.readers j n))
  keeps_set j n w = record { there = simp length-set h; number = get_or-set_other p.readers j i n 0 w }

  keeps_there : (j n : ℕ) (t : Bool) (r : Reply) → (i ≡ j → ⊥)
      → Keeps p i (if_there {A = Told} t (telling r (readers_at p (lib.ListN.set p.readers j n))) (telling nobody p)).past
  keeps_there j n true r w = keeps_set j n w
  keeps_there j n false r w = keeps_self

  -- every call but its own reads, its own seeks and setting it by hand
  keeps_step : (c : Call) → OnlyReads i c → Keeps p i (past_step p c).past
  unfolding past_step
  keeps_step (outside time bytes caller) l = keeps_write (outside_record (next_number p) time bytes caller) (length bytes) (outside_ruling (held p) bytes)
  keeps_step (box facility level time text dictionary fragment caller) l =
      keeps_write (box_record (next_number p) time facility level text dictionary fragment caller) (length text + length dictionary)
      (box_ruling (held p) facility level text dictionary)
  keeps_step make l = record { there = simp length-append (omega arith); number = get_or-append p.readers (first_held p ∷ []) 0 i h }
  keeps_step (place j n) l = keeps_set j n l
  keeps_step (read j lent) l =
      let g = read_by (held p) (get_or p.readers j 0) lent (read_ruling (held p) (get_or p.readers j 0) lent) in
      keeps_there j g.reader.next.0 (ltb j (length p.readers)) (reply_read g) l
  keeps_step (seek j offset whence) l =
      let g = seek_by (held p) (reader_at (get_or p.readers j 0)) whence (seek_ruling offset whence) in
      keeps_there j g.reader.next.0 (ltb j (length p.readers)) (reply_seek g) l
  keeps_step (command a lent) l = record { there = h; number = refl }
  keeps_step (save number lent) l = keeps_self
  keeps_step (minimum wanted) l = record { there = h; number = refl }
  keeps_step check l = keeps_self
  keeps_step (console level setting) l = keeps_self

pub unmoved : Unmoved
unmoved p i h c l = (keeps_step p i h c l).number

-- ---- what a reader hears

-- heard of one call, before what is heard from there on
Adds : List Record → ℕ → Past → ℕ → List Heard → Type 0
Adds all n q i new = (i < length q.readers) × ((hs : List Heard) → InOrder all (get_or q.readers i 0) hs → InOrder all n (new ++ hs))

keeps_adds : (all : List Record) (p : Past) (i : ℕ) (q : Past) → Keeps p i q → Adds all (get_or p.readers i 0) q i []
unfolding Adds
keeps_adds all p i q k = (k.there, λ hs o. rw k.number at o)

heard_of : (all : List Record) (p : Past) (n : ℕ) (r : AfterRead) → Extends p.all all → Read p n r
    → (hs : List Heard) → InOrder all r.reader.next.0 hs → InOrder all n (answer_heard r.lost r.lent r.answer ++ hs)
heard_of all p n r x (line l h a z m t) hs o = rw a (omega (arith, x.long), t ∙ ap kmsg_line (sym (x.same n h)), rw m at o)
heard_of all p n r x (gone h a l m) hs o =
    let e : n + r.lost ≡ first_held p = omega arith in
    rw a (omega arith, rw e (rw m at o))
heard_of all p n r x (stayed l why s a z m) hs o = rw (a, s) (rw m at o)

read-adds : (all : List Record) (p : Past) (i j : ℕ) (lent : List ℕ) → i < length p.readers → Extends p.all all
    → Adds all (get_or p.readers i 0) (past_step p (read j lent)).past i (call_heard i (read j lent) (past_step p (read j lent)).reply)
unfolding past_step Adds
read-adds all p i j lent h x = go _ refl
  where
    r : AfterRead
    r = read_by (held p) (get_or p.readers j 0) lent (read_ruling (held p) (get_or p.readers j 0) lent)

    go : (t : Bool) → eqb j i ≡ t → let q = past_read p j r in
        (i < length q.past.readers)
        × ((hs : List Heard) → InOrder all (get_or q.past.readers i 0) hs → InOrder all (get_or p.readers i 0) (cond t (reply_heard q.reply) [] ++ hs))
    go true e =
        let k : i ≡ j = sym (eqb-true _ _ e) in
        let hj : j < length p.readers = rw (← k) h in
        rw (lt-ltb j (length p.readers) hj, k) (
          simp length-set hj,
          λ hs o.
              heard_of all p (get_or p.readers j 0) r x (read_is p (get_or p.readers j 0) lent) hs (rw (get_or-set_same p.readers j r.reader.next.0 0 hj) at o),
        )
    go false e =
        let k = keeps_there p i h j r.reader.next.0 (ltb j (length p.readers)) (reply_read r) (λ f. eqb-false j i e (sym f)) in
        (k.there, λ hs o. rw k.number at o)

step-adds : (all : List Record) (p : Past) (i : ℕ) (c : Call) → i < length p.readers → Leaves i c → Extends p.all all
    → Adds all (get_or p.readers i 0) (past_step p c).past i (call_heard i c (past_step p c).reply)
step-adds all p i (outside time bytes caller) h l x = keeps_adds all p i _ (keeps_step p i h (outside time bytes caller) tt)
step-adds all p i (box facility level time text dictionary fragment caller) h l x =
    keeps_adds all p i _ (keeps_step p i h (box facility level time text dictionary fragment caller) tt)
step-adds all p i make h l x = keeps_adds all p i _ (keeps_step p i h make tt)
step-adds all p i (place j n) h l x = keeps_adds all p i _ (keeps_step p i h (place j n) l)
step-adds all p i (read j lent) h l x = read-adds all p i j lent h x
step-adds all p i (seek j offset whence) h l x = keeps_adds all p i _ (keeps_step p i h (seek j offset whence) l)
step-adds all p i (command a lent) h l x = keeps_adds all p i _ (keeps_step p i h (command a lent) tt)
step-adds all p i (save number lent) h l x = keeps_adds all p i _ (keeps_step p i h (save number lent) tt)
step-adds all p i (minimum wanted) h l x = keeps_adds all p i _ (keeps_step p i h (minimum wanted) tt)
step-adds all p i check h l x = keeps_adds all p i _ (keeps_step p i h check tt)
step-adds all p i (console level setting) h l x = keeps_adds all p i _ (keeps_step p i h (console level setting) tt)

in_order : (cs : List Call) (p : Past) (i : ℕ) → i < length p.readers → AllLeave i cs
    → InOrder (past_after p cs).all (get_or p.readers i 0) (heard i cs (past_run p cs))
unfolding past_after past_run Adds
in_order [] p i h l = tt
in_order (c ∷ cs) p i h l =
    let q = (past_step p c).past in
    let x = extends_on p.all q.all (past_after q cs).all (extends_step p c) (extends_after cs q) in
    let a = step-adds (past_after q cs).all p i c h l.0 x in
    a.1 (heard i cs (past_run q cs)) (in_order cs q i a.0 l.1)

pub reads_in_order : ReadsInOrder
reads_in_order p i h cs l = in_order cs p i h l
