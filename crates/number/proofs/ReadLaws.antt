-- Reading decimal byte by byte: what is left, after the number that was read, says what the whole says.
use Rattle.std.specs.Prelude.{Result, Ok, Err}
use Prim.Native.Nat.{ℕ, ◌+◌, ◌*◌, ◌-◌, ◌^◌, ◌≤◌, ◌<◌}
use mathlib.Core.Path.{◌≡◌, refl, sym, ap, ◌∙◌}
use mathlib.Core.Bool.{Bool, true, false, not, cond}
use mathlib.Core.List.{List, [], ◌∷◌}
use native.Mathlib.Omega.{arith}
use native.Mathlib.Nat.{pow-succ', pow-le-pow_right}
use native.Mathlib.Numerals.{add-one}
use lib.Dec.{leb}
use lib.ListN.{length, get_or, take, drop, length-drop, drop_of_length-le}
use lib.Seq.{take_all}
use borrow.Author.Tests.{le-leb, lt-leb, eq-eqb, ne_eqb, not-true, not-false}
use Rattle.slices.proofs.Bools.{and-true, and-false}
use Rattle.slices.proofs.PutLaws.{drop-step}
use Rattle.number.specs.Decimal.{is_digit, all_digits, no_leading_zero, plain_decimal, value_from, value, decimal_up_to}
use Rattle.number.proofs.DecimalLaws.{digit_low, digit-high}
use Rattle.number.specs.declared.DecimalError.TheVariants.{NotPlain, Above}
use Rattle.number.specs.declared.DecimalError.{DecimalError}

-- the answer for a number above the bound, by the bytes that are left
abbrev pub answer_above : List ℕ → Result ℕ DecimalError
answer_above bs = cond (all_digits bs) (Err Above) (Err NotPlain)

-- the answer after n was read, by the bytes that are left
abbrev pub answer_after : ℕ → ℕ → List ℕ → Result ℕ DecimalError
answer_after most n bs = cond (all_digits bs) (cond (leb (value_from n bs) most) (Ok (value_from n bs)) (Err Above)) (Err NotPlain)

-- the bytes behind a place, as a part of the slice
pub above-part : (s : List ℕ) (i : ℕ) → answer_above (take (length s - (i + 1)) (drop (i + 1) s)) ≡ answer_above (drop (i + 1) s)
above-part s i = ap answer_above (take_all (length s - (i + 1)) (drop (i + 1) s) (rw length-drop (omega arith)))

value_grows : (bs : List ℕ) (n : ℕ) → n ≤ value_from n bs
value_grows [] n = omega arith
value_grows (b ∷ bs) n = omega (arith, value_grows bs (n * 10 + (b - 48)))

-- ---- one byte

-- what the code's test of a byte tells
pub record Digit (b : ℕ) : Type 0 where
  pub is : is_digit b ≡ true
  pub low : 48 ≤ b
  pub high : b ≤ 57

pub digit-told : {b : ℕ} {t : Bool} → t ≡ is_digit b → not t ≡ false → Digit b
digit-told {b} {t} e f =
    let d : is_digit b ≡ true = sym e ∙ not-false t f in
    record { is = d; low = digit_low b d; high = digit-high b d }

module _ (b : ℕ) (bs : List ℕ) where
  digits_on : is_digit b ≡ true → all_digits (b ∷ bs) ≡ all_digits bs
  digits_on e = rw e

  after-digit : (most n : ℕ) → is_digit b ≡ true → answer_after most n (b ∷ bs) ≡ answer_after most (n * 10 + (b - 48)) bs
  after-digit most n e = rw e

  after-other : (most n : ℕ) → is_digit b ≡ false → answer_after most n (b ∷ bs) ≡ Err NotPlain
  after-other most n e = rw e

after-above : (bs : List ℕ) (most n : ℕ) → most < n → answer_after most n bs ≡ answer_above bs
after-above bs most n h = rw (lt-leb (value_from n bs) most (omega (arith, value_grows bs n)))

-- ---- the loop that scans for a byte that is no digit

pub record Scanning (s : List ℕ) (from i : ℕ) : Type 0 where
  pub whole : all_digits (drop i s) ≡ all_digits (drop from s)

pub scan_begin : {s : List ℕ} {from : ℕ} → Scanning s from from
scan_begin = record { whole = refl }

module _ {s : List ℕ} {from i : ℕ} (r : Scanning s from i) where
  pub scan_end : length s ≤ i → (Err Above) ≡ answer_above (drop from s)
  scan_end h =
      let e : true ≡ all_digits (drop from s) = rw (drop_of_length-le s h) at r.whole in
      rw (← e)

  pub scan_off : {t : Bool} → i < length s → t ≡ is_digit (get_or s i 0) → not t ≡ true → (Err NotPlain) ≡ answer_above (drop from s)
  scan_off {t} h e f = rw (← r.whole, drop-step s i h, ← e, not-true t f)

  pub scan_on : i < length s → Digit (get_or s i 0) → Scanning s from (i + 1)
  scan_on h d = record { whole = sym (rw (drop-step s i h) (digits_on (get_or s i 0) (drop (i + 1) s) d.is)) ∙ r.whole }

-- ---- the loops that read digits

pub record Reading (most : ℕ) (s : List ℕ) (n i : ℕ) : Type 0 where
  pub bound : i ≤ length s
  pub whole : answer_after most n (drop i s) ≡ decimal_up_to most s

pub read_begin : {most : ℕ} {s : List ℕ} → no_leading_zero s ≡ true → Reading most s 0 0
unfolding decimal_up_to plain_decimal value
read_begin {most} {s} e = record { bound = omega arith; whole = rw (e, and-true) }

module _ {most : ℕ} {s : List ℕ} {n i : ℕ} (r : Reading most s n i) where
  -- what is answered behind the last byte
  at_end : length s ≤ i → cond (leb n most) (Ok n) (Err Above) ≡ decimal_up_to most s
  at_end h = sym (rw (drop_of_length-le s h)) ∙ r.whole

  pub read-value : length s ≤ i → n ≤ most → Ok n ≡ decimal_up_to most s
  read-value h k = rw (le-leb n most k) at (at_end h)

  pub read_above : length s ≤ i → most < n → (Err Above) ≡ decimal_up_to most s
  read_above h k = rw (lt-leb n most k) at (at_end h)

  module _ (inside : i < length s) where
    pub read_off : {t : Bool} → t ≡ is_digit (get_or s i 0) → not t ≡ true → (Err NotPlain) ≡ decimal_up_to most s
    read_off {t} e f = sym (rw (drop-step s i inside) (after-other (get_or s i 0) (drop (i + 1) s) most n (sym e ∙ not-true t f))) ∙ r.whole

    pub read-on : Digit (get_or s i 0) → Reading most s (n * 10 + (get_or s i 0 - 48)) (i + 1)
    read-on d =
        record {
          bound = omega arith;
          whole = sym (rw (drop-step s i inside) (after-digit (get_or s i 0) (drop (i + 1) s) most n d.is)) ∙ r.whole;
        }

    pub read-over : Digit (get_or s i 0) → most < n * 10 + (get_or s i 0 - 48) → answer_above (drop (i + 1) s) ≡ decimal_up_to most s
    read-over d h = sym (after-above (drop (i + 1) s) most (n * 10 + (get_or s i 0 - 48)) h) ∙ (read-on d).whole

-- ---- few digits: n has no more of them than were read

pub record Short (most : ℕ) (s : List ℕ) (n i : ℕ) : Type 0 where
  pub few : length s ≤ 19
  pub small : n < 10 ^ i
  pub reading : Reading most s n i

pub short_begin : {most : ℕ} {s : List ℕ} → no_leading_zero s ≡ true → length s ≤ 19 → Short most s 0 0
short_begin z h = record { few = h; small = omega arith; reading = read_begin z }

module _ {most : ℕ} {s : List ℕ} {n i : ℕ} (r : Short most s n i) (inside : i < length s) where
  pub short-room : n < 10 ^ 18
  short-room =
      let h : i ≤ 18 = omega (arith, r.few) in
      let p : 10 ^ i ≤ 10 ^ 18 = pow-le-pow_right (omega arith) h in
      omega (arith, r.small)

  pub short_on : Digit (get_or s i 0) → Short most s (n * 10 + (get_or s i 0 - 48)) (i + 1)
  short_on d =
      record {
        few = r.few;
        small = rw (add-one, pow-succ') (omega (arith, r.small, d.high));
        reading = read-on r.reading inside d;
      }

-- ---- the first byte

pub read-empty : (most : ℕ) (s : List ℕ) → length s ≡ 0 → (Err NotPlain) ≡ decimal_up_to most s
unfolding decimal_up_to plain_decimal
read-empty most [] h = refl
read-empty most (b ∷ bs) h = absurd (omega arith)

pub read-zero : (most : ℕ) (s : List ℕ) → length s ≡ 1 → get_or s 0 0 ≡ 48 → Ok 0 ≡ decimal_up_to most s
unfolding decimal_up_to plain_decimal value
read-zero most [] h e = absurd (omega arith)
read-zero most (b ∷ []) h e = rw (e, le-leb 0 most (omega arith))
read-zero most (b ∷ c ∷ bs) h e = absurd (omega arith)

pub read-leading : (most : ℕ) (s : List ℕ) → 1 < length s → get_or s 0 0 ≡ 48 → (Err NotPlain) ≡ decimal_up_to most s
unfolding decimal_up_to plain_decimal
read-leading most [] h e = absurd (omega arith)
read-leading most (b ∷ []) h e = absurd (omega arith)
read-leading most (b ∷ c ∷ bs) h e = rw (eq-eqb b 48 e, and-false)

pub no_leading : (s : List ℕ) → 0 < length s → (get_or s 0 0 ≡ 48 → ⊥) → no_leading_zero s ≡ true
no_leading [] h e = absurd (omega arith)
no_leading (b ∷ []) h e = refl
no_leading (b ∷ c ∷ bs) h e = rw (ne_eqb b 48 e)
