-- Printing decimal: how many digits, by the powers of ten; and the digits put two at a time, from the last to the first.
use Prim.Native.Nat.{ℕ, zero, suc, ◌+◌, ◌*◌, ◌-◌, ◌/◌, ◌%◌, ◌^◌, ◌≤◌, ◌<◌}
use mathlib.Core.Path.{◌≡◌, refl, ap, ◌∙◌}
use mathlib.Core.Logic.{◌⊎◌, inl, inr}
use mathlib.Core.Bool.{cond}
use mathlib.Core.List.{List, ◌++◌, append_assoc}
use native.Mathlib.Omega.{arith}
use native.Mathlib.Decide.{dec_le}
use native.Mathlib.Nat.{pow-succ'}
use lib.Dec.{ltb}
use lib.ListN.{length, length-append}
use borrow.Author.Tests.{lt-ltb, le-ltb}
use Rattle.slices.specs.Put.{put}
use Rattle.slices.proofs.PutLaws.{length-put, put-behind}
use Rattle.number.specs.Decimal.{decimal, two_digits}
use Rattle.number.proofs.DecimalLaws.{decimal_digit, decimal-last, decimal-some, decimal-least, decimal-most}

-- ---- how many digits

-- a word's number has at most twenty
pub word_digits : (n : ℕ) → n < 2 ^ 64 → length (decimal n) ≤ 20
word_digits n h = decimal-most 19 n (omega arith)

most_digits : (k n : ℕ) → 0 < k → n < 10 ^ k → length (decimal n) ≤ k
most_digits zero n h l = absurd (omega arith)
most_digits (suc k) n h l = decimal-most k n l

-- one from the power on, and none below it
abbrev more : ℕ → ℕ → ℕ
more n power = cond (ltb n power) 0 1

-- a number has more than k digits from the least number on that has
digit_more : (k n power : ℕ) → 0 < k → power ≡ 10 ^ k
    → ((more n power ≡ 0) × (length (decimal n) ≤ k)) ⊎ ((more n power ≡ 1) × (k < length (decimal n)))
digit_more k n power h e = elim (dec_le power n) [
  | yes l ↦ inr (rw (le-ltb n power l), decimal-least k n (rw (← e) l))
  | no l ↦ inl (rw (lt-ltb n power (omega arith)), most_digits k n h (rw (← e) (omega arith)))
]

-- where a number has k digits or one more
pub count-one : (k n power : ℕ) → 0 < k → power ≡ 10 ^ k → k ≤ length (decimal n) → length (decimal n) ≤ k + 1
    → k + more n power ≡ length (decimal n)
count-one k n power h e l u = elim (digit_more k n power h e) [
  | inl p ↦ omega (arith, p.0, p.1)
  | inr p ↦ omega (arith, p.0, p.1)
]

-- where it has k digits or up to three more
pub count_three : (k n power : ℕ) → 0 < k → power ≡ 10 ^ k → k ≤ length (decimal n) → length (decimal n) ≤ k + 3
    → k + more n power + more n (power * 10) + more n (power * 100) ≡ length (decimal n)
count_three k n power h e l u =
    let p : power * 10 ≡ 10 ^ suc k = omega (arith, e, pow-succ' 10 k) in
    let q : power * 100 ≡ 10 ^ suc (suc k) = omega (arith, p, pow-succ' 10 (suc k)) in
    elim (digit_more k n power h e) [
      | inl a ↦ elim (digit_more (suc k) n (power * 10) (omega arith) p) [
        | inl b ↦ elim (digit_more (suc (suc k)) n (power * 100) (omega arith) q) [
          | inl c ↦ omega (arith, a.0, a.1, b.0, c.0)
          | inr c ↦ absurd (omega (arith, a.1, c.1))
        ]
        | inr b ↦ absurd (omega (arith, a.1, b.1))
      ]
      | inr a ↦ elim (digit_more (suc k) n (power * 10) (omega arith) p) [
        | inl b ↦ elim (digit_more (suc (suc k)) n (power * 100) (omega arith) q) [
          | inl c ↦ omega (arith, a.0, a.1, b.0, b.1, c.0)
          | inr c ↦ absurd (omega (arith, b.1, c.1))
        ]
        | inr b ↦ elim (digit_more (suc (suc k)) n (power * 100) (omega arith) q) [
          | inl c ↦ omega (arith, a.0, b.0, b.1, c.0, c.1)
          | inr c ↦ omega (arith, a.0, b.0, c.0, c.1)
        ]
      ]
    ]

-- so many digits at least and at most, by the range
pub digits_between : (k n : ℕ) → 10 ^ k ≤ n → n < 10 ^ suc (k + 3) → (k < length (decimal n)) × (length (decimal n) ≤ suc (k + 3))
digits_between k n h l = (decimal-least k n h, decimal-most (k + 3) n l)

-- ---- two digits at a time

pub decimal-two : (n : ℕ) → 10 ≤ n → n < 100 → decimal n ≡ two_digits n
decimal-two n h l = rw (decimal-last n h, decimal_digit (n / 10) (omega arith))

pub decimal-pair : (n : ℕ) → 100 ≤ n → decimal n ≡ decimal (n / 100) ++ two_digits (n % 100)
decimal-pair n h =
    let a : n / 10 / 10 ≡ n / 100 = omega arith in
    let b : n % 100 / 10 ≡ n / 10 % 10 = omega arith in
    let c : n % 100 % 10 ≡ n % 10 = omega arith in
    rw (decimal-last n (omega arith), decimal-last (n / 10) (omega arith), a, b, c, append_assoc)

-- ---- bytes put where there is room

pub put_keeps : (out : List ℕ) (at : ℕ) (bytes : List ℕ) {out' : List ℕ} → out' ≡ put out at bytes → at + length bytes ≤ length out → length out' ≡ length out
put_keeps out at bytes e h = ap length e ∙ length-put out at bytes h

-- ---- digits put from the last to the first: those of v, put before the ones that were put, make those of value

pub record Printing (out₀ : List ℕ) (at value : ℕ) (out : List ℕ) (end v : ℕ) : Type 0 where
  pub room : at + length (decimal value) ≤ length out₀
  pub size : length out ≡ length out₀
  pub here : end ≡ at + length (decimal v)
  pub within : end ≤ length out₀
  pub puts : put out at (decimal v) ≡ put out₀ at (decimal value)

pub print_begin : {out : List ℕ} {at value end : ℕ} → end ≡ at + length (decimal value) → end ≤ length out → Printing out at value out end value
print_begin {out} {at} {value} e h = record { room = rw (← e) h; size = refl; here = e; within = h; puts = refl }

module _ {out₀ : List ℕ} {at value : ℕ} {out : List ℕ} {end v : ℕ} (r : Printing out₀ at value out end v) where
  -- how many digits go with the last two
  two_less : 100 ≤ v → length (decimal v) ≡ length (decimal (v / 100)) + 2
  two_less h = ap length (decimal-pair v h) ∙ length-append (decimal (v / 100)) (two_digits (v % 100))

  pub pair-room : 100 ≤ v → at + 2 < end
  pair-room h = omega (arith, r.here, two_less h, decimal-some (v / 100))

  pub print_pair : 100 ≤ v → {out' : List ℕ} → out' ≡ put out (end - 2) (two_digits (v % 100)) → Printing out₀ at value out' (end - 2) (v / 100)
  print_pair h {out'} e =
      let p : end - 2 ≡ at + length (decimal (v / 100)) = omega (arith, r.here, two_less h) in
      let k : at + (length (decimal (v / 100)) + 2) ≤ length out = omega (arith, r.here, r.within, r.size, two_less h) in
      let j : end - 2 + 2 ≤ length out = omega (arith, r.within, r.size, pair-room h) in
      record {
        room = r.room;
        size = put_keeps out (end - 2) (two_digits (v % 100)) e j ∙ r.size;
        here = p;
        within = omega (arith, r.within);
        puts = rw (e, p, put-behind out at (decimal (v / 100)) (two_digits (v % 100)) k, ← decimal-pair v h) r.puts;
      }

  -- the first digits, put last
  pub print_end : {out' : List ℕ} → out' ≡ put out at (decimal v) → out' ≡ put out₀ at (decimal value)
  print_end e = e ∙ r.puts

  pub front_room : at + length (decimal v) ≤ length out
  front_room = omega (arith, r.here, r.within, r.size)

-- four digits, the last two first
module _ {out₀ : List ℕ} {at value : ℕ} {out : List ℕ} {end v : ℕ} (r : Printing out₀ at value out end v) (h : 10000 ≤ v) where
  last-two : Printing out₀ at value (put out (end - 2) (two_digits (v % 10000 % 100))) (end - 2) (v / 100)
  last-two =
      let m : v % 10000 % 100 ≡ v % 100 = omega arith in
      print_pair r (omega arith) (rw m)

  pub four-room : 4 ≤ end
  four-room = omega (arith, pair-room last-two (omega arith))

  pub print_four : {out' : List ℕ} → out' ≡ put (put out (end - 2) (two_digits (v % 10000 % 100))) (end - 4) (two_digits (v % 10000 / 100))
      → Printing out₀ at value out' (end - 4) (v / 10000)
  print_four e =
      let m : v % 10000 / 100 ≡ v / 100 % 100 = omega arith in
      let p : end - 4 ≡ end - 2 - 2 = omega arith in
      let q : v / 10000 ≡ v / 100 / 100 = omega arith in
      rw (p, q) (print_pair last-two (omega arith) (rw (m, p) at e))
