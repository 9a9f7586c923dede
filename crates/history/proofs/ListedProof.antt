-- The log answers as document 01's table lists: each call's ruling is the first of its rows that applies.
use Rattle.std.specs.Prelude.{Result, Ok, Err, ⊤}
use Prim.Native.Nat.{ℕ, ◌+◌, ◌*◌, ◌<◌}
use mathlib.Core.Path.{◌≡◌, refl, ap, sym, ◌∙◌, subst}
use mathlib.Core.Logic.{◌⊎◌, inl, inr}
use mathlib.Core.Bool.{Bool, true, false, not, ◌&&◌, ◌||◌, true≢false, false≢true}
use mathlib.Core.List.{List, [], ◌∷◌, map}
use native.Mathlib.Omega.{arith}
use borrow.Author.Tests.{ltb-true, lt-ltb, eqb-true, eq-eqb}
use lib.Dec.{ltb, eqb}
use lib.IntN.{ℤ, pos, negsuc}
use lib.ListN.{length, get_or}
use Rattle.slices.specs.Cut.{has}
use Rattle.slices.specs.Tests.{first_of}
use Rattle.slices.specs.Listed.{Exactly}
use Rattle.slices.proofs.Bools.{and_assoc}
use Rattle.slices.proofs.ListedLaws.{Numbered, numbered, exactly}
use Rattle.slices.proofs.ReflectLaws.{Reflects, not_says, or_says, ltb_says}
use Rattle.record.specs.Limits.{payload_most, word_most, facility_most, level_most}
use Rattle.record.specs.Dictionary.{is_dictionary}
use Rattle.record.specs.Record.{Record}
use Rattle.eventlog.specs.Answer.{refusal_number, Ruling, allowed, refused, ruling_of, is, one_of, is_negative, natural}
use Rattle.record.specs.Forms.{kmsg_line}
use Rattle.eventlog.specs.View.{View, next_of, record_at}
use Rattle.eventlog.specs.Check.{checked, view_of, if_fine, ruled}
use Rattle.eventlog.specs.Excess.{total}
use Rattle.eventlog.specs.declared.Log.{Log}
use Rattle.eventlog.specs.declared.Refusal.{Refusal}
use Rattle.eventlog.specs.declared.Refusal.TheVariants.{EBADFD, EPERM, ESPIPE, EINVAL, EFAULT, EOVERFLOW, EPIPE, EAGAIN}
use Rattle.store.proofs.MarkLaws.{Marked}
use Rattle.image.specs.Image.{blocks_for}
use Rattle.savedtrail.specs.Save.{image_for, save_ruling, save_by, saving}
use Rattle.writes.specs.Write.{outside_ruling, box_ruling, write_by, outside_write, box_write}
use Rattle.kmsg.specs.Read.{line_at, read_ruling, read_refused, read_done, read_by, reading, seek_ruling, seek_by, seeking}
use Rattle.kmsg.specs.declared.Reader.{Reader}
use Rattle.syslog.specs.Command.{copies, is_known, is_permitted, wants_level, unread, command_ruling, count, command_by, commanding}
use Rattle.syslog.specs.Minimum.{minimum_ruling, minimum_by, setting_minimum}
use Rattle.syslog.proofs.UnreadLaws.{nothing-unread as nothing-unread-law}
use Rattle.syslog.specs.declared.Asked.{Asked}
use Rattle.history.specs.Calls.{Call, outside, box, make, place, read, seek, command, save, minimum, check, console, State, Stepped, reader_of, if_there, step}
use Rattle.history.specs.Demand1.{Answers, table, table_number}
use Rattle.history.specs.Listed.{Applies, check_fails, above-next, without_privilege, offset-not_0, other_whence, unknown_type, len-below_0, level-outside, minimum-outside, over_960, over_960_together, zero-byte, bad_facility, bad_level, bad_dictionary, line_longer, above-lent, short_of_image, outside_at_last, box_at_last, below-first, at_next, nothing-unread, read_table, order, Asking, IsCount, Listed, answered}
use Rattle.history.proofs.ListedTests.{is_says, barred_says, level_says, outside_says, box_says, command_says, nothing, unread_says, lent_says, whence_says, length-image}
use Rattle.eventlog.specs.declared.Misfit.TheVariants.{Numbers, Heading}
use Rattle.eventlog.specs.declared.Misfit.{Misfit}

-- ---- a test for each row

abbrev row : (a b c d e f g h : Bool) → Refusal → Bool
row a b c d e f g h EBADFD = a
row a b c d e f g h EPERM = b
row a b c d e f g h ESPIPE = c
row a b c d e f g h EINVAL = d
row a b c d e f g h EFAULT = e
row a b c d e f g h EOVERFLOW = f
row a b c d e f g h EPIPE = g
row a b c d e f g h EAGAIN = h

-- what each test tells
by_row : (P : Refusal → Type 0) {a b c d e f g h : Bool}
    → (a ≡ true → P EBADFD) → (b ≡ true → P EPERM) → (c ≡ true → P ESPIPE) → (d ≡ true → P EINVAL) → (e ≡ true → P EFAULT)
    → (f ≡ true → P EOVERFLOW) → (g ≡ true → P EPIPE) → (h ≡ true → P EAGAIN) → (r : Refusal) → row a b c d e f g h r ≡ true → P r
by_row P pa pb pc pd pe pf pg ph EBADFD q = pa q
by_row P pa pb pc pd pe pf pg ph EPERM q = pb q
by_row P pa pb pc pd pe pf pg ph ESPIPE q = pc q
by_row P pa pb pc pd pe pf pg ph EINVAL q = pd q
by_row P pa pb pc pd pe pf pg ph EFAULT q = pe q
by_row P pa pb pc pd pe pf pg ph EOVERFLOW q = pf q
by_row P pa pb pc pd pe pf pg ph EPIPE q = pg q
by_row P pa pb pc pd pe pf pg ph EAGAIN q = ph q

-- a row that is not for this call
never : {X : Type 0} → false ≡ true → X
never e = absurd (false≢true e)

abbrev reader : List ℕ → ℕ → ℕ
reader readers i = get_or readers i 0

abbrev test : Bool → View → List ℕ → Call → Refusal → Bool
test bad v readers (outside time bytes caller) =
    row bad false false (ltb payload_most (length bytes) || has 0 bytes) false (eqb (next_of v) word_most) false false
test bad v readers (box facility level time text dictionary fragment caller) =
    row bad false false
    (ltb facility_most facility || (ltb level_most level || (ltb payload_most (length text + length dictionary) || not (is_dictionary dictionary))))
    false (eqb (next_of v) word_most) false false
test bad v readers make = row bad false false false false false false false
test bad v readers (place i n) = row bad false false false false false false false
test bad v readers (read i lent) =
    row (bad || ltb (next_of v) (reader readers i)) false false (ltb (length lent) (length (line_at v (reader readers i)))) false false
    (ltb (reader readers i) v.first) (eqb (reader readers i) (next_of v))
test bad v readers (seek i offset whence) =
    row bad false (not (is offset 0)) (not (one_of whence (0 ∷ 2 ∷ 3 ∷ []))) false false false false
test bad v readers (command a lent) =
    row bad (not (is_permitted a)) false
    (not (is_known a.command) || ((copies a.command && is_negative a.len) || (is a.command 8 && not (wants_level a.len))))
    (copies a.command && ltb (length lent) (natural a.len)) false false
    (is a.command 2 && (ltb 0 (natural a.len) && nothing v))
test bad v readers (save number lent) = row bad false false false (ltb (length lent) (length (image_for v number))) false false false
test bad v readers (minimum wanted) = row bad false false (not (wants_level wanted)) false false false false
test bad v readers check = row bad false false false false false false false
test bad v readers (console level setting) = row bad false false false false false false false

-- ---- the tests and the rows

module _ (failing : Type 0) (bad : Bool) (bs : bad ≡ true → failing) (bc : failing → bad ≡ true) (v : View) (readers : List ℕ) where
  abbrev Row : Call → Refusal → Type 0
  Row c r = Applies failing v readers c r

  above-read : (i : ℕ) → Reflects (bad || ltb (next_of v) (reader readers i)) (failing ⊎ (next_of v < reader readers i))
  above-read i = or_says (record { says = bs; told = bc }) (ltb_says (next_of v) (reader readers i))

  line-sound : (i : ℕ) (lent : List ℕ) → ltb (length lent) (length (line_at v (reader readers i))) ≡ true → Row (read i lent) EINVAL
  unfolding line_at
  line-sound i lent e = line_longer (ltb-true _ _ e)

  line_complete : (i : ℕ) (lent : List ℕ) → length lent < length (kmsg_line (record_at v (reader readers i)))
      → ltb (length lent) (length (line_at v (reader readers i))) ≡ true
  unfolding line_at
  line_complete i lent h = lt-ltb _ _ h

  short-sound : (number : ℕ) (lent : List ℕ) → ltb (length lent) (length (image_for v number)) ≡ true → Row (save number lent) EFAULT
  short-sound number lent e =
      let h : length lent < length (image_for v number) = ltb-true _ _ e in
      short_of_image {lent = lent} (λ blocks some fits. omega (arith, length-image v number))

  short_complete : (number : ℕ) (lent : List ℕ) → length lent < 512 * blocks_for (total v.records)
      → ltb (length lent) (length (image_for v number)) ≡ true
  short_complete number lent h = lt-ltb (length lent) (length (image_for v number)) (omega (arith, length-image v number))

  sound : (c : Call) (r : Refusal) → test bad v readers c r ≡ true → Row c r
  sound (outside time bytes caller) r q =
      by_row (Row (outside time bytes caller)) (λ e. check_fails (bs e)) never never
      (λ e. elim ((outside_says bytes).says e) [ inl h ↦ over_960 h | inr h ↦ zero-byte h ]) never
      (λ e. outside_at_last (eqb-true (next_of v) word_most e)) never never r q
  sound (box facility level time text dictionary fragment caller) r q =
      by_row (Row (box facility level time text dictionary fragment caller)) (λ e. check_fails (bs e)) never never
      (λ e. elim ((box_says facility level text dictionary).says e) [
        | inl h ↦ bad_facility h
        | inr h ↦ elim h [ inl k ↦ bad_level k | inr k ↦ elim k [ inl l ↦ over_960_together l | inr d ↦ bad_dictionary d ] ]
      ])
      never (λ e. box_at_last (eqb-true (next_of v) word_most e)) never never r q
  sound make r q = by_row (Row make) (λ e. check_fails (bs e)) never never never never never never never r q
  sound (place i n) r q = by_row (Row (place i n)) (λ e. check_fails (bs e)) never never never never never never never r q
  sound (read i lent) r q =
      by_row (Row (read i lent))
      (λ e. elim ((above-read i).says e) [ inl f ↦ check_fails f | inr h ↦ above-next h ])
      never never (line-sound i lent) never never (λ e. below-first (ltb-true (reader readers i) v.first e))
      (λ e. at_next (eqb-true (reader readers i) (next_of v) e)) r q
  sound (seek i offset whence) r q =
      by_row (Row (seek i offset whence)) (λ e. check_fails (bs e)) never (λ e. offset-not_0 ((not_says (is_says offset 0)).says e))
      (λ e.
      let n = (whence_says whence).says e in
      other_whence (λ h. n (inl h)) (λ h. n (inr (inl h))) (λ h. n (inr (inr (inl h)))))
      never never never never r q
  sound (command a lent) r q =
      by_row (Row (command a lent)) (λ e. check_fails (bs e))
      (λ e. let b = (barred_says a).says e in without_privilege b.privilege b.closed) never
      (λ e. elim ((command_says a).says e) [
        | inl h ↦ unknown_type h
        | inr h ↦ elim h [ inl k ↦ len-below_0 k.0 k.1.is | inr k ↦ level-outside k.0 k.1 ]
      ])
      (λ e. let k = (lent_says a (length lent)).says e in above-lent k.0 k.1.is k.1.more)
      never never
      (λ e. let k = (unread_says v a).says e in nothing-unread k.0 k.1.0.is k.1.0.more k.1.1) r q
  sound (save number lent) r q =
      by_row (Row (save number lent)) (λ e. check_fails (bs e)) never never never (short-sound number lent) never never never r q
  sound (minimum wanted) r q =
      by_row (Row (minimum wanted)) (λ e. check_fails (bs e)) never never (λ e. minimum-outside ((level_says wanted).says e)) never never never never r q
  sound check r q = by_row (Row check) (λ e. check_fails (bs e)) never never never never never never never r q
  sound (console level setting) r q = by_row (Row (console level setting)) (λ e. check_fails (bs e)) never never never never never never never r q

  -- any call whose log check fails
  bad_first : (c : Call) → bad ≡ true → test bad v readers c EBADFD ≡ true
  bad_first (outside time bytes caller) e = e
  bad_first (box facility level time text dictionary fragment caller) e = e
  bad_first make e = e
  bad_first (place i n) e = e
  bad_first (read i lent) e = (above-read i).told (inl (bs e))
  bad_first (seek i offset whence) e = e
  bad_first (command a lent) e = e
  bad_first (save number lent) e = e
  bad_first (minimum wanted) e = e
  bad_first check e = e
  bad_first (console level setting) e = e

  complete : (c : Call) (r : Refusal) → Row c r → test bad v readers c r ≡ true
  complete c r (check_fails f) = bad_first c (bc f)
  complete c r (above-next {i} {lent} h) = (above-read i).told (inr h)
  complete c r (without_privilege {a} {lent} p o) = (barred_says a).told (record { privilege = p; closed = o })
  complete c r (offset-not_0 {i} {offset} {whence} h) = (not_says (is_says offset 0)).told h
  complete c r (other_whence {i} {offset} {whence} h₀ h₂ h₃) =
      (whence_says whence).told (λ h. elim h [ inl e ↦ h₀ e | inr h ↦ elim h [ inl e ↦ h₂ e | inr h ↦ elim h [ inl e ↦ h₃ e | inr n ↦ n ] ] ])
  complete c r (unknown_type {a} {lent} h) = (command_says a).told (inl h)
  complete c r (len-below_0 {a} {lent} {n} k z) = (command_says a).told (inr (inl (k, record { size = n; is = z })))
  complete c r (level-outside {a} {lent} t h) = (command_says a).told (inr (inr (t, h)))
  complete c r (minimum-outside {wanted} h) = (level_says wanted).told h
  complete c r (over_960 {time} {bytes} h) = (outside_says bytes).told (inl h)
  complete c r (zero-byte {time} {bytes} h) = (outside_says bytes).told (inr h)
  complete c r (over_960_together {facility} {level} {time} {text} {dictionary} h) = (box_says facility level text dictionary).told (inr (inr (inl h)))
  complete c r (bad_facility {facility} {level} {time} {text} {dictionary} h) = (box_says facility level text dictionary).told (inl h)
  complete c r (bad_level {facility} {level} {time} {text} {dictionary} h) = (box_says facility level text dictionary).told (inr (inl h))
  complete c r (bad_dictionary {facility} {level} {time} {text} {dictionary} h) = (box_says facility level text dictionary).told (inr (inr (inr h)))
  complete c r (line_longer {i} {lent} h) = line_complete i lent h
  complete c r (above-lent {a} {lent} {n} k z h) = (lent_says a (length lent)).told (k, record { size = n; is = z; more = h })
  complete c r (short_of_image {number} {lent} h) =
      short_complete number lent (h (blocks_for (total v.records)) (omega arith) (omega arith))
  complete c r (outside_at_last e) = eq-eqb _ _ e
  complete c r (box_at_last e) = eq-eqb _ _ e
  complete c r (below-first h) = lt-ltb _ _ h
  complete c r (at_next e) = eq-eqb _ _ e
  complete c r (nothing-unread {a} {lent} {n} t z h u) = (unread_says v a).told (t, (record { size = n; is = z; more = h }, u))

-- ---- the ruling is the first row whose test holds

abbrev pub number_by : ℤ → Ruling → ℤ
number_by done allowed = done
number_by done (refused why) = refusal_number why

-- the log check comes first
abbrev pub checked_first : Bool → Ruling → Ruling
checked_first true q = refused EBADFD
checked_first false q = q

abbrev first_row : List Refusal → (Refusal → Bool) → ℤ → ℤ
first_row rows t done = first_of (map (λ (r : Refusal). (t r, table_number r)) rows) done

first-outside : (bad a b u : Bool) (done : ℤ)
    → number_by done (checked_first bad (ruling_of ((a, EINVAL) ∷ (b, EINVAL) ∷ (u, EOVERFLOW) ∷ [])))
    ≡ first_row table (row bad false false (a || b) false u false false) done
first-outside true a b u done = refl
first-outside false true b u done = refl
first-outside false false true u done = refl
first-outside false false false true done = refl
first-outside false false false false done = refl

first-box : (bad a b c d u : Bool) (done : ℤ)
    → number_by done (checked_first bad (ruling_of ((a, EINVAL) ∷ (b, EINVAL) ∷ (c, EINVAL) ∷ (d, EINVAL) ∷ (u, EOVERFLOW) ∷ [])))
    ≡ first_row table (row bad false false (a || (b || (c || d))) false u false false) done
first-box true a b c d u done = refl
first-box false true b c d u done = refl
first-box false false true c d u done = refl
first-box false false false true d u done = refl
first-box false false false false true u done = refl
first-box false false false false false true done = refl
first-box false false false false false false done = refl

first_read : (bad a b c d : Bool) (done : ℤ)
    → number_by done (checked_first bad (ruling_of ((a, EBADFD) ∷ (b, EPIPE) ∷ (c, EAGAIN) ∷ (d, EINVAL) ∷ [])))
    ≡ first_row read_table (row (bad || a) false false d false false b c) done
first_read true a b c d done = refl
first_read false true b c d done = refl
first_read false false true c d done = refl
first_read false false false true d done = refl
first_read false false false false true done = refl
first_read false false false false false done = refl

first-seek : (bad a b : Bool) (done : ℤ)
    → number_by done (checked_first bad (ruling_of ((a, ESPIPE) ∷ (b, EINVAL) ∷ []))) ≡ first_row table (row bad false a b false false false false) done
first-seek true a b done = refl
first-seek false true b done = refl
first-seek false false true done = refl
first-seek false false false done = refl

first-command : (bad p k l m f u : Bool) (done : ℤ)
    → number_by done (checked_first bad (ruling_of ((p, EPERM) ∷ (k, EINVAL) ∷ (l, EINVAL) ∷ (m, EINVAL) ∷ (f, EFAULT) ∷ (u, EAGAIN) ∷ [])))
    ≡ first_row table (row bad p false (k || (l || m)) f false false u) done
first-command true p k l m f u done = refl
first-command false true k l m f u done = refl
first-command false false true l m f u done = refl
first-command false false false true m f u done = refl
first-command false false false false true f u done = refl
first-command false false false false false true u done = refl
first-command false false false false false false true done = refl
first-command false false false false false false false done = refl

first-save : (bad f : Bool) (done : ℤ)
    → number_by done (checked_first bad (ruling_of ((f, EFAULT) ∷ []))) ≡ first_row table (row bad false false false f false false false) done
first-save true f done = refl
first-save false true done = refl
first-save false false done = refl

-- ---- what each call answers

-- a count's code is 0, so that it is no row's
abbrev code : ℤ → ℕ
code (pos n) = 0
code (negsuc n) = n + 1

pub rows_apart : (c : Call) (k : ℕ) → Numbered (order c) table_number (pos k)
rows_apart (outside time bytes caller) k = numbered code table table_number (pos k) refl
rows_apart (box facility level time text dictionary fragment caller) k = numbered code table table_number (pos k) refl
rows_apart make k = numbered code table table_number (pos k) refl
rows_apart (place i n) k = numbered code table table_number (pos k) refl
rows_apart (read i lent) k = numbered code read_table table_number (pos k) refl
rows_apart (seek i offset whence) k = numbered code table table_number (pos k) refl
rows_apart (command a lent) k = numbered code table table_number (pos k) refl
rows_apart (save number lent) k = numbered code table table_number (pos k) refl
rows_apart (minimum wanted) k = numbered code table table_number (pos k) refl
rows_apart check k = numbered code table table_number (pos k) refl
rows_apart (console level setting) k = numbered code table table_number (pos k) refl

abbrev pub is_bad : Result ⊤ Misfit → Bool
is_bad (Ok tt) = false
is_bad (Err Numbers) = true
is_bad (Err (Heading i)) = true

pub bad_not-fine : (x : Result ⊤ Misfit) → is_bad x ≡ true → x ≡ Ok tt → ⊥
bad_not-fine x e f = false≢true (sym (ap is_bad f) ∙ e)

pub not-fine_bad : (x : Result ⊤ Misfit) → (x ≡ Ok tt → ⊥) → is_bad x ≡ true
not-fine_bad (Ok tt) h = absurd (h refl)
not-fine_bad (Err Numbers) h = refl
not-fine_bad (Err (Heading i)) h = refl

pub fine_of : (x : Result ⊤ Misfit) → is_bad x ≡ false → x ≡ Ok tt
fine_of (Ok tt) e = refl
fine_of (Err Numbers) e = absurd (true≢false e)
fine_of (Err (Heading i)) e = absurd (true≢false e)

pub by_check : (log : Log) (buffer : List ℕ) (ruling : View → Ruling)
    → ruled log buffer ruling ≡ checked_first (is_bad (checked log buffer)) (ruling (view_of log buffer))
unfolding ruled
by_check log buffer ruling = go (checked log buffer)
  where
    go : (x : Result ⊤ Misfit) → if_fine x (ruling (view_of log buffer)) ≡ checked_first (is_bad x) (ruling (view_of log buffer))
    go (Ok tt) = refl
    go (Err Numbers) = refl
    go (Err (Heading i)) = refl

pub write_number : (log : Log) (buffer : List ℕ) (r : Record) (bytes : ℕ) (q : Ruling) → (write_by log buffer r bytes q).answer ≡ number_by (pos bytes) q
unfolding write_by
write_number log buffer r bytes allowed = refl
write_number log buffer r bytes (refused why) = refl

read-refused : (v : View) (n : ℕ) (lent : List ℕ) (why : Refusal) → (read_refused v n lent why).answer ≡ refusal_number why
unfolding read_refused
read-refused v n lent EBADFD = refl
read-refused v n lent EPERM = refl
read-refused v n lent ESPIPE = refl
read-refused v n lent EINVAL = refl
read-refused v n lent EFAULT = refl
read-refused v n lent EOVERFLOW = refl
read-refused v n lent EPIPE = refl
read-refused v n lent EAGAIN = refl

read_number : (v : View) (n : ℕ) (lent : List ℕ) (q : Ruling) → (read_by v n lent q).answer ≡ number_by (pos (length (line_at v n))) q
unfolding read_by read_done
read_number v n lent allowed = refl
read_number v n lent (refused why) = read-refused v n lent why

seek-number : (v : View) (r : Reader) (whence : ℤ) (q : Ruling) → (seek_by v r whence q).answer ≡ number_by (pos 0) q
unfolding seek_by
seek-number v r whence allowed = refl
seek-number v r whence (refused why) = refl

pub command-number : (v : View) (a : Asked) (lent : List ℕ) (q : Ruling)
    → (command_by v a lent q).answer ≡ number_by (pos (count v a.command (natural a.len))) q
unfolding command_by
command-number v a lent allowed = refl
command-number v a lent (refused why) = refl

pub save-number : (v : View) (number : ℕ) (lent : List ℕ) (q : Ruling)
    → (save_by v number lent q).answer ≡ number_by (pos (length (image_for v number))) q
unfolding save_by
save-number v number lent allowed = refl
save-number v number lent (refused why) = refl

pub minimum-number : (v : View) (wanted : ℤ) (q : Ruling) → (minimum_by v wanted q).answer ≡ number_by (pos 0) q
unfolding minimum_by
minimum-number v wanted allowed = refl
minimum-number v wanted (refused why) = refl

command-first : (v : View) (readers : List ℕ) (a : Asked) (lent : List ℕ) (bad : Bool) (done : ℤ) → (bad ≡ false → eqb (length (unread v)) 0 ≡ nothing v)
    → number_by done (checked_first bad (command_ruling v a lent)) ≡ first_row table (test bad v readers (command a lent)) done
unfolding command_ruling
command-first v readers a lent true done h = refl
command-first v readers a lent false done h =
    rw (h refl, and_assoc (is a.command 2) (ltb 0 (natural a.len)) (nothing v))
    (first-command false (not (is_permitted a)) (not (is_known a.command)) (copies a.command && is_negative a.len)
    (is a.command 8 && not (wants_level a.len)) (copies a.command && ltb (length lent) (natural a.len))
    (is a.command 2 && (ltb 0 (natural a.len) && nothing v)) done)

-- ---- one call on a log

module _ (s : State) (failing : Type 0) (bs : is_bad (checked s.log s.buffer) ≡ true → failing)
    (bc : failing → is_bad (checked s.log s.buffer) ≡ true)
    (marked : is_bad (checked s.log s.buffer) ≡ false
    → let v = view_of s.log s.buffer in Marked v.first v.records v.marks) where
  abbrev view : View
  view = view_of s.log s.buffer

  abbrev wrong : Bool
  wrong = is_bad (checked s.log s.buffer)

  exact : (c : Call) (k : ℕ) (n : ℤ) → n ≡ first_row (order c) (test wrong view s.readers c) (pos k)
      → Exactly (order c) table_number (Applies failing view s.readers c) (IsCount n) n
  exact c k n e =
      exactly (order c) table_number (Applies failing view s.readers c) (IsCount n) (test wrong view s.readers c) (pos k) n
      (λ r i. sound failing wrong bs bc view s.readers c r) (λ r i. complete failing wrong bs bc view s.readers c r) (rows_apart c k) e
      (λ q. subst IsCount (sym q) tt)

  -- by the ruling on what the log holds
  ruled-number : (ruling : View → Ruling) (done : ℤ)
      → number_by done (ruled s.log s.buffer ruling) ≡ number_by done (checked_first wrong (ruling view))
  ruled-number ruling done = ap (number_by done) (by_check s.log s.buffer ruling)

  -- a reader that there is gets its answer
  there : (t : Bool) (x y : Stepped) (n : ℤ) → t ≡ true → Answers x.reply n → Answers (if_there t x y).reply n
  there true x y n e f = f
  there false x y n e f = absurd (false≢true e)

  pub listed : (c : Call) → Asking s.readers c → Listed failing view s.readers c (answered s c)
  unfolding step outside_write box_write reading seeking commanding saving setting_minimum outside_ruling box_ruling read_ruling seek_ruling save_ruling minimum_ruling
  listed (outside time bytes caller) h =
      record {
        answer = (outside_write s.log s.buffer time bytes caller).answer;
        answers = refl;
        exactly =
            exact (outside time bytes caller) (length bytes) _
            (write_number s.log s.buffer _ (length bytes) _
            ∙ ruled-number (λ v. outside_ruling v bytes) (pos (length bytes))
            ∙ first-outside wrong (ltb payload_most (length bytes)) (has 0 bytes) (eqb (next_of view) word_most) (pos (length bytes)));
      }
  listed (box facility level time text dictionary fragment caller) h =
      let k = length text + length dictionary in
      record {
        answer = (box_write s.log s.buffer facility level time text dictionary fragment caller).answer;
        answers = refl;
        exactly =
            exact (box facility level time text dictionary fragment caller) k _
            (write_number s.log s.buffer _ k _
            ∙ ruled-number (λ v. box_ruling v facility level text dictionary) (pos k)
            ∙ first-box wrong (ltb facility_most facility) (ltb level_most level) (ltb payload_most k) (not (is_dictionary dictionary)) (eqb (next_of view) word_most) (pos k));
      }
  listed make h = absurd h
  listed (place i n) h = absurd h
  listed (read i lent) h =
      let n = get_or s.readers i 0 in
      let k = length (line_at view n) in
      record {
        answer = (reading s.log s.buffer (reader_of s i) lent).answer;
        answers = there (ltb i (length s.readers)) _ _ _ (lt-ltb i (length s.readers) h) refl;
        exactly =
            exact (read i lent) k _
            (read_number view n lent _
            ∙ ruled-number (λ v. read_ruling v n lent) (pos k)
            ∙ first_read wrong (ltb (next_of view) n) (ltb n view.first) (eqb n (next_of view)) (ltb (length lent) k) (pos k));
      }
  listed (seek i offset whence) h =
      record {
        answer = (seeking s.log s.buffer (reader_of s i) offset whence).answer;
        answers = there (ltb i (length s.readers)) _ _ _ (lt-ltb i (length s.readers) h) refl;
        exactly =
            exact (seek i offset whence) 0 _
            (seek-number view _ whence _
            ∙ ruled-number (λ v. seek_ruling offset whence) (pos 0)
            ∙ first-seek wrong (not (is offset 0)) (not (one_of whence (0 ∷ 2 ∷ 3 ∷ []))) (pos 0));
      }
  listed (command a lent) h =
      let k = count view a.command (natural a.len) in
      record {
        answer = (commanding s.log s.buffer a lent).answer;
        answers = refl;
        exactly =
            exact (command a lent) k _
            (command-number view a lent _
            ∙ ruled-number (λ v. command_ruling v a lent) (pos k)
            ∙ command-first view s.readers a lent wrong (pos k) (λ e. nothing-unread-law view (marked e)));
      }
  listed (save number lent) h =
      let k = length (image_for view number) in
      record {
        answer = (saving s.log s.buffer number lent).answer;
        answers = refl;
        exactly =
            exact (save number lent) k _
            (save-number view number lent _
            ∙ ruled-number (λ v. save_ruling v number lent) (pos k)
            ∙ first-save wrong (ltb (length lent) k) (pos k));
      }
  listed (minimum wanted) h =
      record {
        answer = (setting_minimum s.log s.buffer wanted).answer;
        answers = refl;
        exactly =
            exact (minimum wanted) 0 _
            (minimum-number view wanted _
            ∙ ruled-number (λ v. minimum_ruling wanted) (pos 0)
            ∙ first-seek wrong false (not (wants_level wanted)) (pos 0));
      }
  listed check h = absurd h
  listed (console level setting) h = absurd h
