-- Two words in one number go apart over exclusive or as each of them does: the rule of the tables, for any number of shifts.
use Prim.Native.Nat.{ℕ, ◌+◌, ◌*◌, ◌/◌, ◌%◌, ◌^◌, ◌<◌}
use native.Mathlib.Nat.{add_assoc}
use native.Mathlib.Omega.{arith}
use mathlib.Core.Path.{◌≡◌, sym, ap, ap₂, ◌∙◌}
use lib.Bits.{bit_xor, xor_block}
use Rattle.crc.specs.Crc.{shifts}
use Rattle.crc.specs.Words.{pair}
use Rattle.crc.proofs.XorLaws.{xor_assoc}
use Rattle.crc.proofs.CrcLaws.{apart, shifts_lt}

pub pair-low : (k n : ℕ) → n < 2 ^ 32 → pair k n % 2 ^ 32 ≡ shifts k n
unfolding pair
pair-low k n h =
    let l : shifts k n < 2 ^ 32 = shifts_lt k n h in
    omega arith

pair-high : (k n : ℕ) → n < 2 ^ 32 → pair k n / 2 ^ 32 ≡ shifts (k + 32) n
unfolding pair
pair-high k n h =
    let l : shifts k n < 2 ^ 32 = shifts_lt k n h in
    omega arith

-- the upper word of one and the lower of another
pub words : (x y : ℕ) {f l : ℕ} → x < 2 ^ 32 → y < 2 ^ 32 → f ≡ pair 32 x → l ≡ pair 32 y → bit_xor (f / 2 ^ 32) (l % 2 ^ 32) ≡ bit_xor (shifts 64 x) (shifts 32 y)
words x y hx hy ef el =
    ap₂ bit_xor (ap (λ (n : ℕ). n / 2 ^ 32) ef ∙ pair-high 32 x hx) (ap (λ (n : ℕ). n % 2 ^ 32) el ∙ pair-low 32 y hy)

-- the j lowest bits, and the others
pub pair_apart : (j k n : ℕ) → n % 2 ^ j < 2 ^ 32 → n / 2 ^ j < 2 ^ 32 → pair (j + k) n ≡ bit_xor (pair (j + k) (n % 2 ^ j)) (pair k (n / 2 ^ j))
unfolding pair
pair_apart j k n hl hh =
    let low : ℕ = n % 2 ^ j in
    let high : ℕ = n / 2 ^ j in
    ap₂ (λ (x y : ℕ). x * 2 ^ 32 + y)
    (rw (add_assoc j k 32) (apart j (k + 32) n))
    (apart j k n)
    ∙ sym (xor_block 32 (shifts (j + k + 32) low) (shifts (k + 32) high) (shifts (j + k) low) (shifts k high) (shifts_lt (j + k) low hl) (shifts_lt k high hh))

-- sixteen bits by four tables
pub pair-four : (k n a b c d : ℕ) → n < 65536 → a ≡ pair (4 + (4 + (4 + (4 + k)))) (n % 16) → b ≡ pair (4 + (4 + (4 + k))) (n / 16 % 16) → c ≡ pair (4 + (4 + k)) (n / 16 / 16 % 16)
    → d ≡ pair (4 + k) (n / 16 / 16 / 16) → bit_xor (bit_xor (bit_xor a b) c) d ≡ pair (4 + (4 + (4 + (4 + k)))) n
pair-four k n a b c d h ea eb ec ed =
    xor_assoc (bit_xor a b) c d
    ∙ ap (bit_xor (bit_xor a b)) (ap₂ bit_xor ec ed ∙ sym (pair_apart 4 (4 + k) (n / 16 / 16) (omega arith) (omega arith)))
    ∙ xor_assoc a b (pair (4 + (4 + k)) (n / 16 / 16))
    ∙ ap₂ bit_xor ea
    (ap (λ (x : ℕ). bit_xor x (pair (4 + (4 + k)) (n / 16 / 16))) eb
    ∙ sym (pair_apart 4 (4 + (4 + k)) (n / 16) (omega arith) (omega arith)))
    ∙ sym (pair_apart 4 (4 + (4 + (4 + k))) n (omega arith) (omega arith))
