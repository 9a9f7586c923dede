-- Shifting goes apart over exclusive or: what makes tables possible, and four bytes at a time.
use Prim.Native.Nat.{ℕ, zero, suc, ◌+◌, ◌*◌, ◌/◌, ◌%◌, ◌^◌, ◌<◌, ◌≤◌}
use native.Mathlib.Numerals.{add-one}
use native.Mathlib.Nat.{mod-lt, zero-add, suc-add}
use native.Mathlib.Omega.{arith}
use mathlib.Core.Path.{◌≡◌, refl, sym, ap, ap₂, ◌∙◌}
use mathlib.Core.Bool.{true}
use mathlib.Core.List.{List, [], ◌∷◌, ◌++◌}
use lib.ListN.{length, get_or, take, drop, take-append-drop, drop_of_length-le}
use lib.Seq.{drop-cons}
use lib.Pow.{split, pow_pos}
use lib.Bits.{bit_xor, differ, xor_zero_r, xor_comm, xor_self, xor_lt, xor_shr, xor_shifted, shifted_half, shifted_even}
use borrow.Author.Tests.{ltb-true}
use Rattle.slices.specs.Tests.{all_bytes, is_byte}
use Rattle.slices.proofs.Bools.{every_first, every-other}
use Rattle.crc.specs.Crc.{polynomial, ones, taken, shifted, shifts, on_byte, on_bytes, crc32}
use Rattle.crc.specs.Words.{four}
use Rattle.crc.proofs.XorLaws.{odd, xor_half, xor_odd, xor_assoc, xor_swap}

taken_xor : (x y : ℕ) → x < 2 → y < 2 → taken (differ x y) ≡ bit_xor (taken x) (taken y)
taken_xor zero y hx hy = refl
taken_xor (suc zero) zero hx hy = sym (xor_zero_r polynomial)
taken_xor (suc zero) (suc zero) hx hy = sym (xor_self polynomial)
taken_xor (suc zero) (suc (suc y)) hx hy = absurd (omega arith)
taken_xor (suc (suc x)) y hx hy = absurd (omega arith)

shifted_xor : (a b : ℕ) → shifted (bit_xor a b) ≡ bit_xor (shifted a) (shifted b)
unfolding shifted
shifted_xor a b =
    ap₂ (λ (x y : ℕ). bit_xor x (taken y)) (xor_half a b) (xor_odd a b)
    ∙ ap (bit_xor (bit_xor (a / 2) (b / 2))) (taken_xor (a % 2) (b % 2) (odd a) (odd b))
    ∙ xor_swap (a / 2) (b / 2) (taken (a % 2)) (taken (b % 2))

pub shifts_xor : (k a b : ℕ) → shifts k (bit_xor a b) ≡ bit_xor (shifts k a) (shifts k b)
unfolding shifts
shifts_xor zero a b = refl
shifts_xor (suc k) a b = ap (shifts k) (shifted_xor a b) ∙ shifts_xor k (shifted a) (shifted b)

-- zeros leave, and nothing is taken
pub shifts_zeros : (k a : ℕ) → shifts k (a * 2 ^ k) ≡ a
unfolding shifts shifted
shifts_zeros zero a = omega arith
shifts_zeros (suc k) a =
    ap (shifts k)
    (ap₂ (λ (x y : ℕ). bit_xor x (taken y)) (shifted_half a k) (shifted_even a k) ∙ xor_zero_r (a * 2 ^ k))
    ∙ shifts_zeros k a

pub shifts-add : (j k n : ℕ) → shifts (j + k) n ≡ shifts k (shifts j n)
unfolding shifts
shifts-add zero k n = rw zero-add
shifts-add (suc j) k n = rw suc-add (shifts-add j k (shifted n))

-- the j lowest bits, and the others, which come to their places in j shifts
pub apart : (j k n : ℕ) → shifts (j + k) n ≡ bit_xor (shifts (j + k) (n % 2 ^ j)) (shifts k (n / 2 ^ j))
apart j k n =
    let high : ℕ = n / 2 ^ j * 2 ^ j in
    let low : ℕ = n % 2 ^ j in
    ap (shifts (j + k)) (sym (xor_shifted (n / 2 ^ j) j low (mod-lt n (pow_pos j)) ∙ split n j))
    ∙ shifts_xor (j + k) high low
    ∙ xor_comm (shifts (j + k) high) (shifts (j + k) low)
    ∙ ap (bit_xor (shifts (j + k) low)) (shifts-add j k high ∙ ap (shifts k) (shifts_zeros j (n / 2 ^ j)))

-- ---- 32 bits stay 32 bits

taken_lt : (d : ℕ) → taken d < 2 ^ 32
taken_lt zero = omega arith
taken_lt (suc d) = omega arith

shifted_lt : (n : ℕ) → n < 2 ^ 32 → shifted n < 2 ^ 32
unfolding shifted
shifted_lt n h = xor_lt 32 (n / 2) (taken (n % 2)) (omega arith) (taken_lt (n % 2))

pub shifts_lt : (k n : ℕ) → n < 2 ^ 32 → shifts k n < 2 ^ 32
unfolding shifts
shifts_lt zero n h = h
shifts_lt (suc k) n h = shifts_lt k (shifted n) (shifted_lt n h)

on_byte_lt : (c b : ℕ) → c < 2 ^ 32 → b < 256 → on_byte c b < 2 ^ 32
unfolding on_byte
on_byte_lt c b hc hb = shifts_lt 8 (bit_xor c b) (xor_lt 32 c b hc (omega arith))

pub on_bytes_lt : (bs : List ℕ) (c : ℕ) → c < 2 ^ 32 → all_bytes bs ≡ true → on_bytes c bs < 2 ^ 32
unfolding on_bytes
on_bytes_lt [] c hc hb = hc
on_bytes_lt (b ∷ bs) c hc hb =
    on_bytes_lt bs (on_byte c b) (on_byte_lt c b hc (ltb-true b 256 (every_first is_byte b bs hb))) (every-other is_byte b bs hb)

pub crc32_lt : (bs : List ℕ) → all_bytes bs ≡ true → crc32 bs < 2 ^ 32
unfolding crc32
crc32_lt bs hb = xor_lt 32 (on_bytes ones bs) ones (on_bytes_lt bs ones (omega arith) hb) (omega arith)

-- ---- one byte, and four

byte-gone : (b : ℕ) → b < 256 → b / 256 ≡ 0
byte-gone b h = omega arith

-- a byte, by the entry of a table at what leaves
pub by_entry : (c b : ℕ) → b < 256 → on_byte c b ≡ bit_xor (c / 256) (shifts 8 (bit_xor c b % 256))
unfolding on_byte shifts
by_entry c b h =
    apart 8 0 (bit_xor c b)
    ∙ xor_comm (shifts 8 (bit_xor c b % 256)) (bit_xor c b / 256)
    ∙ ap (λ (x : ℕ). bit_xor x (shifts 8 (bit_xor c b % 256)))
    (xor_shr c b 8 ∙ ap (bit_xor (c / 256)) (byte-gone b h) ∙ xor_zero_r (c / 256))

-- a byte, and then a word behind it: both at once, the word eight bits up
onto : (k c b w : ℕ) → b < 256 → shifts k (bit_xor (on_byte c b) w) ≡ shifts (8 + k) (bit_xor c (w * 256 + b))
unfolding on_byte
onto k c b w h =
    ap (shifts k)
    (ap (bit_xor (shifts 8 (bit_xor c b))) (sym (shifts_zeros 8 w))
    ∙ sym (shifts_xor 8 (bit_xor c b) (w * 256))
    ∙ ap (shifts 8)
    (xor_assoc c b (w * 256) ∙ ap (bit_xor c) (xor_comm b (w * 256) ∙ xor_shifted w 8 b h)))
    ∙ sym (shifts-add 8 k (bit_xor c (w * 256 + b)))

as_shifts : (c b : ℕ) → on_byte c b ≡ shifts 8 (bit_xor c b)
unfolding on_byte
as_shifts c b = refl

on-four : (c b₀ b₁ b₂ b₃ : ℕ) → b₀ < 256 → b₁ < 256 → b₂ < 256
    → shifts 32 (bit_xor c (((b₃ * 256 + b₂) * 256 + b₁) * 256 + b₀)) ≡ on_byte (on_byte (on_byte (on_byte c b₀) b₁) b₂) b₃
on-four c b₀ b₁ b₂ b₃ h₀ h₁ h₂ =
    sym
    (as_shifts (on_byte (on_byte (on_byte c b₀) b₁) b₂) b₃
    ∙ onto 8 (on_byte (on_byte c b₀) b₁) b₂ b₃ h₂
    ∙ onto 16 (on_byte c b₀) b₁ (b₃ * 256 + b₂) h₁
    ∙ onto 24 c b₀ ((b₃ * 256 + b₂) * 256 + b₁) h₀)

-- ---- through a list

parts_on : (xs ys : List ℕ) (c : ℕ) → on_bytes (on_bytes c xs) ys ≡ on_bytes c (xs ++ ys)
unfolding on_bytes
parts_on [] ys c = refl
parts_on (x ∷ xs) ys c = parts_on xs ys (on_byte c x)

-- a part in front, and the rest behind it
pub in_parts : (n c : ℕ) (bs : List ℕ) → on_bytes (on_bytes c (take n bs)) (drop n bs) ≡ on_bytes c bs
in_parts n c bs = parts_on (take n bs) (drop n bs) c ∙ ap (on_bytes c) (take-append-drop n bs)

pub passed : (c d : ℕ) (bs : List ℕ) (i j : ℕ) → j ≡ i + 1 → i < length bs → d ≡ on_byte c (get_or bs i 0) → on_bytes d (drop j bs) ≡ on_bytes c (drop i bs)
unfolding on_bytes
passed c d bs i j on h e = rw (e, on, add-one, drop-cons bs i 0 h)

pub all_passed : (c : ℕ) (bs : List ℕ) (i : ℕ) → length bs ≤ i → on_bytes c (drop i bs) ≡ c
unfolding on_bytes
all_passed c bs i h = rw (drop_of_length-le bs h)

module _ (bs : List ℕ) (bytes : (k : ℕ) → get_or bs k 0 < 256) where
  pub four_lt : (i : ℕ) → four bs i < 2 ^ 32
  four_lt i = omega (arith, bytes i, bytes (i + 1), bytes (i + 2), bytes (i + 3))

  -- four bytes, by the word that they are
  four_passed : (c i j : ℕ) → j ≡ i + 4 → i + 4 ≤ length bs → on_bytes (shifts 32 (bit_xor c (four bs i))) (drop j bs) ≡ on_bytes c (drop i bs)
  four_passed c i j on h =
      let b : ℕ → ℕ = λ k. get_or bs k 0 in
      let c₁ : ℕ = on_byte c (b i) in
      let c₂ : ℕ = on_byte c₁ (b (i + 1)) in
      let c₃ : ℕ = on_byte c₂ (b (i + 2)) in
      passed c₃ (shifts 32 (bit_xor c (four bs i))) bs (i + 3) j (omega arith) (omega arith)
      (on-four c (b i) (b (i + 1)) (b (i + 2)) (b (i + 3)) (bytes i) (bytes (i + 1)) (bytes (i + 2)))
      ∙ passed c₂ c₃ bs (i + 2) (i + 3) (omega arith) (omega arith) refl
      ∙ passed c₁ c₂ bs (i + 1) (i + 2) (omega arith) (omega arith) refl
      ∙ passed c c₁ bs i (i + 1) refl (omega arith) refl

  -- eight bytes, by the two words that they are
  pub eight_passed : (c i : ℕ) {d : ℕ} → i + 8 ≤ length bs → d ≡ bit_xor (shifts 64 (bit_xor c (four bs i))) (shifts 32 (four bs (i + 4)))
      → on_bytes d (drop (i + 8) bs) ≡ on_bytes c (drop i bs)
  eight_passed c i h e =
      let c₄ : ℕ = shifts 32 (bit_xor c (four bs i)) in
      ap (λ (x : ℕ). on_bytes x (drop (i + 8) bs))
      (e
      ∙ ap (λ (x : ℕ). bit_xor x (shifts 32 (four bs (i + 4)))) (shifts-add 32 32 (bit_xor c (four bs i)))
      ∙ sym (shifts_xor 32 c₄ (four bs (i + 4))))
      ∙ four_passed c₄ (i + 4) (i + 8) (omega arith) (omega arith)
      ∙ four_passed c i (i + 4) refl (omega arith)
