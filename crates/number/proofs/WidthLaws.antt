-- The library's bytes of a number are ours, both ways, over any width; those of eight bytes are a case.
use Rattle.std.specs.Prelude.{Some, None}
use Prim.Native.Nat.{ℕ, zero, suc, ◌+◌, ◌*◌, ◌/◌, ◌%◌, ◌^◌, ◌<◌, ◌≤◌}
use mathlib.Core.Path.{◌≡◌, refl, sym, ap, ap₂, ◌∙◌}
use mathlib.Core.List.{List, ◌∷◌}
use native.Mathlib.Omega.{arith}
use native.Mathlib.Nat.{pow-succ', mul_comm}
use native.Mathlib.Numerals.{add-one}
use lib.ListN.{length, get_or, take, drop, length-drop, take-append-drop}
use lib.Seq.{length-take-le}
use borrow.Author.Tests.{le-leb, lt-leb}
use Rattle.std.specs.Int.{w64, to_le_bytes, from_le_bytes, bytes_low_first, byte_at, byte_worth, sum_through}
use Rattle.std.proofs.Math.Nat.{div-div-eq-div-mul}
use Rattle.number.specs.LittleEndian.{little_endian, little, loaded}
use Rattle.number.proofs.LittleEndianLaws.{little-add, little-append, little-one}

-- ---- storing

byte_is : (i n : ℕ) → byte_at i n ≡ n / 256 ^ i % 256
byte_is zero n = omega arith
byte_is (suc i) n = refl

low_first : (k i n : ℕ) → bytes_low_first i k n ≡ little_endian k (n / 256 ^ i)
low_first zero i n = refl
low_first (suc k) i n =
    let e : n / 256 ^ suc i ≡ n / 256 ^ i / 256 = rw (pow-succ', mul_comm 256) (sym (div-div-eq-div-mul n (256 ^ i) 256)) in
    ap₂ (λ (x : ℕ) (xs : List ℕ). x ∷ xs) (byte_is i n) (low_first k (suc i) n ∙ ap (little_endian k) e)

pub bytes_of : (k n : ℕ) → bytes_low_first 0 k n ≡ little_endian k n
bytes_of k n =
    let e : n / 256 ^ 0 ≡ n = omega arith in
    low_first k 0 n ∙ ap (little_endian k) e

pub to_little : (n : ℕ) → to_le_bytes w64 n ≡ little_endian 8 n
to_little n = bytes_of 8 n

-- ---- loading

worth_is : (i b : ℕ) → byte_worth i b ≡ 256 ^ i * b
worth_is zero b = omega arith
worth_is (suc i) b = mul_comm b (256 ^ suc i)

pub sum_is : (k : ℕ) (bs : List ℕ) → sum_through (λ i. byte_worth i (get_or bs i 0)) k ≡ little (k + 1) bs
sum_is zero bs = sym (little-one 0 bs)
sum_is (suc k) bs =
    rw (little-add (suc k) 1 bs, little-one (suc k) bs)
    (ap₂ (λ (x y : ℕ). x + y) (sum_is k bs ∙ rw (add-one k)) (worth_is (suc k) (get_or bs (suc k) 0)))

pub from_little : (bs : List ℕ) → from_le_bytes w64 bs ≡ little 8 bs
from_little bs = sum_is 7 bs

-- k and one more bytes
pub loaded-inside : (k : ℕ) (s : List ℕ) (at : ℕ) → at + (k + 1) ≤ length s
    → Some (sum_through (λ i. byte_worth i (get_or (take (k + 1) (drop at s)) i 0)) k) ≡ loaded (k + 1) s at
unfolding loaded
loaded-inside k s at h =
    let l : k + 1 ≤ length (drop at s) = rw length-drop (omega arith) in
    let t : k + 1 ≤ length (take (k + 1) (drop at s)) = rw (length-take-le (k + 1) (drop at s) l) (omega arith) in
    let e : little (k + 1) (take (k + 1) (drop at s)) ≡ little (k + 1) (drop at s) =
    sym (little-append (k + 1) (take (k + 1) (drop at s)) (drop (k + 1) (drop at s)) t) ∙ ap (little (k + 1)) (take-append-drop (k + 1) (drop at s)) in
    rw (le-leb (at + (k + 1)) (length s) h) (ap (λ (n : ℕ). Some n) (sum_is k (take (k + 1) (drop at s)) ∙ e))

pub loaded-outside : (k : ℕ) (s : List ℕ) (at : ℕ) → length s < at + k → None ≡ loaded k s at
unfolding loaded
loaded-outside k s at h = rw (lt-leb (at + k) (length s) h)
