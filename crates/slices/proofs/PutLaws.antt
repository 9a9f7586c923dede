-- Bytes put into a buffer: one store after another, or all at once.
use Rattle.std.specs.Prelude.{Some, None}
use Prim.Native.Nat.{ℕ, suc, ◌+◌, ◌-◌, ◌≤◌, ◌<◌}
use mathlib.Core.Path.{◌≡◌, refl, sym, ◌∙◌}
use mathlib.Core.List.{List, [], ◌∷◌, ◌++◌, append_assoc}
use native.Mathlib.Omega.{arith}
use native.Mathlib.Nat.{add_assoc, add-zero}
use native.Mathlib.Numerals.{add-one}
use lib.ListN.{length, get_or, take, drop, set, length-append, length-set, drop_of_length-le}
use lib.Seq.{sets, sets-eq, length-sets, length-take-le, drop-cons, drop_at, drop-drop, take-append-le, take-take}
use mathlib.Core.Bool.{Bool, true, false}
use lib.Dec.{leb}
use native.Mathlib.Decide.{dec_le}
use borrow.Author.Tests.{le-leb, lt-leb, leb-true, leb-false}
use Rattle.slices.specs.Put.{put, left, placed}

-- one store after another is all at once
pub sets-put : (out : List ℕ) (at : ℕ) (bytes : List ℕ) → at + length bytes ≤ length out → sets out at bytes ≡ put out at bytes
sets-put out at bytes h = sets-eq bytes out at h ∙ append_assoc (take at out) bytes (drop (at + length bytes) out)

pub length-put : (out : List ℕ) (at : ℕ) (bytes : List ℕ) → at + length bytes ≤ length out → length (put out at bytes) ≡ length out
length-put out at bytes h = rw (← sets-put out at bytes h) (length-sets out at bytes)

pub sets-append : (xs ys out : List ℕ) (at : ℕ) → sets out at (xs ++ ys) ≡ sets (sets out at xs) (at + length xs) ys
sets-append [] ys out at = rw add-zero
sets-append (x ∷ xs) ys out at =
    let e : at + suc (length xs) ≡ suc at + length xs = omega arith in
    rw e (sets-append xs ys (set out at x) (suc at))

-- two runs, one behind the other
pub put-append : (out : List ℕ) (at : ℕ) (xs ys : List ℕ) → at + (length xs + length ys) ≤ length out
    → put (put out at xs) (at + length xs) ys ≡ put out at (xs ++ ys)
put-append out at xs ys h =
    let a : at + length xs ≤ length out = omega arith in
    let b : at + length xs + length ys ≤ length (sets out at xs) = rw length-sets (omega arith) in
    let c : at + length (xs ++ ys) ≤ length out = rw length-append (omega arith) in
    rw (← sets-put out at xs a, ← sets-put (sets out at xs) (at + length xs) ys b, ← sets-put out at (xs ++ ys) c)
    (sym (sets-append xs ys out at))

-- a run put behind where another is to be put: the two as one
pub put-behind : (out : List ℕ) (at : ℕ) (xs ys : List ℕ) → at + (length xs + length ys) ≤ length out
    → put (put out (at + length xs) ys) at xs ≡ put out at (xs ++ ys)
put-behind out at xs ys h =
    let l : length (take (at + length xs) out) ≡ at + length xs = length-take-le (at + length xs) out (omega arith) in
    let rest : List ℕ = ys ++ drop (at + length xs + length ys) out in
    let t : take at (take (at + length xs) out ++ rest) ≡ take at out =
    take-append-le at (take (at + length xs) out) rest (rw l (omega arith)) ∙ take-take at (at + length xs) out (omega arith) in
    let d : drop (at + length xs) (take (at + length xs) out ++ rest) ≡ rest = drop_at (take (at + length xs) out) rest (at + length xs) l in
    rw (t, d, length-append, append_assoc, add_assoc)

pub put-none : (out : List ℕ) (at : ℕ) → at ≤ length out → put out at [] ≡ out
put-none out at h = sym (sets-put out at [] (omega arith))

-- what is left behind a place
pub room-behind : (size at bytes : ℕ) → at ≤ size → leb bytes (size - at) ≡ leb (at + bytes) size
room-behind size at bytes h = elim (dec_le (at + bytes) size) [
  | yes k ↦ rw (le-leb (at + bytes) size k) (le-leb bytes (size - at) (omega arith))
  | no k ↦ rw (lt-leb (at + bytes) size (omega arith)) (lt-leb bytes (size - at) (omega arith))
]

-- with room, and without
pub placed-room : (out : List ℕ) (at : ℕ) (bytes : List ℕ) → at + length bytes ≤ length out
    → placed out at bytes ≡ left (Some (at + length bytes)) (put out at bytes)
unfolding placed
placed-room out at bytes h = rw (le-leb (at + length bytes) (length out) h)

pub placed-none : (out : List ℕ) (at : ℕ) (bytes : List ℕ) → length out < at + length bytes → placed out at bytes ≡ left None out
unfolding placed
placed-none out at bytes h = rw (lt-leb (at + length bytes) (length out) h)

-- as the library says it: a part of the buffer that is another list afterwards
pub placed-part : (out : List ℕ) (at : ℕ) (bytes : List ℕ) → at + length bytes ≤ length out
    → left (Some (at + length bytes)) (take at out ++ (bytes ++ drop (length bytes) (drop at out))) ≡ placed out at bytes
placed-part out at bytes h = rw drop-drop (sym (placed-room out at bytes h))

-- the same from the answer to the question for room
pub no_room : (out : List ℕ) (at : ℕ) (bytes : List ℕ) {t : Bool} → t ≡ leb (at + length bytes) (length out) → t ≡ false → left None out ≡ placed out at bytes
no_room out at bytes e f = sym (placed-none out at bytes (leb-false (at + length bytes) (length out) (sym e ∙ f)))

-- and where the bytes were counted before
pub no_room-counted : (out : List ℕ) (at : ℕ) (bytes : List ℕ) {count : ℕ} {t : Bool} → count ≡ length bytes → t ≡ leb (at + count) (length out) → t ≡ false
    → left None out ≡ placed out at bytes
no_room-counted out at bytes l e f = no_room out at bytes (rw (← l) e) f

pub some-room : {n m : ℕ} {t : Bool} → t ≡ leb n m → t ≡ true → n ≤ m
some-room {n} {m} e f = leb-true n m (sym e ∙ f)

-- ---- a loop that puts bytes from the front: what is left to put, after what was put, is all of it

pub record Putting (out₀ : List ℕ) (at : ℕ) (all out : List ℕ) (k : ℕ) (rest : List ℕ) : Type 0 where
  pub size : length out ≡ length out₀
  pub stores : sets out k rest ≡ sets out₀ at all

module _ {out₀ : List ℕ} {at : ℕ} {all : List ℕ} where
  pub put_begin : Putting out₀ at all out₀ at all
  put_begin = record { size = refl; stores = refl }

  module _ {out : List ℕ} {k : ℕ} where
    pub put_more : {x : ℕ} {rest : List ℕ} → Putting out₀ at all out k (x ∷ rest) → Putting out₀ at all (set out k x) (k + 1) rest
    put_more {x} {rest} p = record { size = length-set out k x ∙ p.size; stores = rw add-one p.stores }

    pub put-end : (rest : List ℕ) → rest ≡ [] → at + length all ≤ length out₀ → Putting out₀ at all out k rest → out ≡ put out₀ at all
    put-end rest e h p = (rw e at p.stores) ∙ sets-put out₀ at all h

-- a list from a place on
pub drop-step : (l : List ℕ) (i : ℕ) → i < length l → drop i l ≡ get_or l i 0 ∷ drop (i + 1) l
drop-step l i h = rw (add-one, drop-cons l i 0)

-- a loop that copies one slice, between two bytes of it
pub record Copying (bytes out₀ : List ℕ) (at : ℕ) (out : List ℕ) (i : ℕ) : Type 0 where
  pub room : at + length bytes ≤ length out₀
  pub bound : i ≤ length bytes
  pub size : length out ≡ length out₀
  pub putting : Putting out₀ at bytes out (at + i) (drop i bytes)

pub copy_begin : {bytes out : List ℕ} {at : ℕ} → at + length bytes ≤ length out → Copying bytes out at out 0
copy_begin h = record { room = h; bound = omega arith; size = refl; putting = rw add-zero put_begin }

module _ {bytes out₀ : List ℕ} {at : ℕ} {out : List ℕ} {i : ℕ} (r : Copying bytes out₀ at out i) where
  pub copy_on : i < length bytes → Copying bytes out₀ at (set out (at + i) (get_or bytes i 0)) (i + 1)
  copy_on h =
      record {
        room = r.room;
        bound = omega arith;
        size = length-set out (at + i) (get_or bytes i 0) ∙ r.size;
        putting = rw (← add_assoc) (put_more (rw (drop-step bytes i h) at r.putting));
      }

  pub copy_end : length bytes ≤ i → left (Some (at + i)) out ≡ placed out₀ at bytes
  copy_end h =
      let e : i ≡ length bytes = omega (arith, r.bound) in
      rw (placed-room out₀ at bytes r.room, e, put-end (drop i bytes) (drop_of_length-le bytes h) r.room r.putting)
