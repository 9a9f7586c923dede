-- Little-endian numbers, over any width.
use Prim.Native.Nat.{ℕ, zero, suc, ◌+◌, ◌*◌, ◌/◌, ◌%◌, ◌^◌, ◌<◌, ◌≤◌}
use mathlib.Core.Path.{◌≡◌, refl, ap}
use mathlib.Core.Bool.{true}
use mathlib.Core.List.{List, [], ◌∷◌, ◌++◌}
use native.Mathlib.Omega.{arith}
use native.Mathlib.Nat.{zero-add, suc-add, pow-succ', mul_assoc}
use lib.ListN.{length, get_or, take, drop, length-drop}
use lib.Seq.{drop-append-le, drop-append-add, drop-drop}
use borrow.Author.Tests.{ltb-true, lt-ltb}
use Rattle.slices.specs.Tests.{is_byte, all_bytes}
use Rattle.slices.proofs.Bools.{every_first, every-other}
use Rattle.number.specs.LittleEndian.{little_endian, little}

pub length-little_endian : (n x : ℕ) → length (little_endian n x) ≡ n
length-little_endian zero x = refl
length-little_endian (suc n) x = ap suc (length-little_endian n (x / 256))

-- a number that fits is read back
pub little-back : (n x : ℕ) (t : List ℕ) → x < 256 ^ n → little n (little_endian n x ++ t) ≡ x
little-back zero x t h = omega arith
little-back (suc n) x t h =
    let p : 256 ^ suc n ≡ 256 * 256 ^ n = pow-succ' 256 n in
    omega (arith, little-back n (x / 256) t (omega arith))

-- bytes are written back
pub little_forth : (n : ℕ) (s : List ℕ) → n ≤ length s → all_bytes s ≡ true → little_endian n (little n s) ≡ take n s
little_forth zero s h b = refl
little_forth (suc n) [] h b = absurd (omega arith)
little_forth (suc n) (x ∷ s) h b =
    let k : x < 256 = ltb-true x 256 (every_first is_byte x s b) in
    let m : (x + 256 * little n s) % 256 ≡ x = omega arith in
    let d : (x + 256 * little n s) / 256 ≡ little n s = omega arith in
    rw (m, d, little_forth n s (omega arith) (every-other is_byte x s b))

-- a number is written as bytes
pub little_endian-bytes : (n x : ℕ) → all_bytes (little_endian n x) ≡ true
little_endian-bytes zero x = refl
little_endian-bytes (suc n) x = rw (lt-ltb (x % 256) 256 (omega arith)) (little_endian-bytes n (x / 256))

-- bytes give a number that fits
pub little-fits : (n : ℕ) (s : List ℕ) → all_bytes s ≡ true → little n s < 256 ^ n
little-fits zero s b = omega arith
little-fits (suc n) [] b =
    let p : 256 ^ suc n ≡ 256 * 256 ^ n = pow-succ' 256 n in
    omega (arith, little-fits n [] b)
little-fits (suc n) (x ∷ s) b =
    let k : x < 256 = ltb-true x 256 (every_first is_byte x s b) in
    let p : 256 ^ suc n ≡ 256 * 256 ^ n = pow-succ' 256 n in
    omega (arith, little-fits n s (every-other is_byte x s b))

-- bytes that follow change nothing
pub little-append : (n : ℕ) (s t : List ℕ) → n ≤ length s → little n (s ++ t) ≡ little n s
little-append zero s t h = refl
little-append (suc n) [] t h = absurd (omega arith)
little-append (suc n) (b ∷ s) t h = ap (λ (k : ℕ). b + 256 * k) (little-append n s t (omega arith))

pub little_at : (n a : ℕ) (s t : List ℕ) → a + n ≤ length s → little n (drop a (s ++ t)) ≡ little n (drop a s)
little_at n a s t h =
    let l : n ≤ length (drop a s) = simp length-drop (omega arith) in
    rw (drop-append-le a s t (omega arith)) (little-append n (drop a s) t l)

-- past a number
pub past-number : (n x a : ℕ) (t : List ℕ) → drop (n + a) (little_endian n x ++ t) ≡ drop a t
past-number n x a t = rw (length-little_endian n x) at (drop-append-add (little_endian n x) t a)

little-nil : (n : ℕ) → little n [] ≡ 0
little-nil zero = refl
little-nil (suc n) = refl

-- a number of m + n bytes is its low m bytes and its high n bytes
pub little-add : (m n : ℕ) (s : List ℕ) → little (m + n) s ≡ little m s + 256 ^ m * little n (drop m s)
little-add zero n s = rw (zero-add n) (omega arith)
little-add (suc m) n [] = rw (little-nil (suc m + n), little-nil n) (omega arith)
little-add (suc m) n (b ∷ s) =
    let e : 256 ^ suc m * little n (drop m s) ≡ 256 * (256 ^ m * little n (drop m s)) = rw (pow-succ', mul_assoc) in
    rw suc-add (omega (arith, e, little-add m n s))

-- one byte
pub little-one : (a : ℕ) (s : List ℕ) → little 1 (drop a s) ≡ get_or s a 0
little-one zero [] = refl
little-one zero (b ∷ s) = omega arith
little-one (suc a) [] = refl
little-one (suc a) (b ∷ s) = little-one a s

-- a number at a place is the two halves of its width
pub halves : (k a : ℕ) (s : List ℕ) → little (k + k) (drop a s) ≡ little k (drop a s) + 256 ^ k * little k (drop (a + k) s)
halves k a s = rw (little-add, drop-drop)
