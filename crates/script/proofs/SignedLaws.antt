-- Signed numbers after tests: their opposites, and those that another type holds.
use Rattle.std.proofs.Common.{◌≡◌, ℕ, zero, suc, ◌<◌, ◌≤◌, true, false, T, ℤ, pos, negsuc, ◌-ℤ◌, neg_ℤ, nat_abs, true≢false, arith, w32, w64, Fits, SFits, to_z, of_z, ltb-false, ltb-true, lt-ltb}
use lib.IntN.{+ℤ_idl}
use lib.Signed.{mag, lt_z, non_neg}
use mir.ValLaws.{to_z-of_z}

-- a number that is a u64 too
abbrev pub Unsigned : ℤ → Type 0
Unsigned z = T (non_neg z) × Fits w64 (nat_abs z)

-- what a local holds is read back from its bits
pub read_back : (z : ℤ) → SFits w64 z → Unsigned z → Unsigned (to_z w64 (of_z w64 z))
read_back z f u = rw (to_z-of_z w64 z f) u

-- the opposite of a number below 0, but for the smallest
pub opposite_fits : (z : ℤ) → lt_z z (negsuc 9223372036854775806) ≡ false → lt_z z (pos 0) ≡ true → SFits w64 (pos 0 -ℤ z)
opposite_fits (pos a) k h = absurd (omega (arith, ltb-true a 0 h))
opposite_fits (negsuc a) k h = record { sfits = omega (arith, ltb-false 9223372036854775806 a k) }

pub opposite_unsigned : (z : ℤ) → lt_z z (negsuc 9223372036854775806) ≡ false → lt_z z (pos 0) ≡ true → Unsigned (pos 0 -ℤ z)
opposite_unsigned (pos a) k h = absurd (omega (arith, ltb-true a 0 h))
opposite_unsigned (negsuc a) k h = (tt, record { fits = omega (arith, ltb-false 9223372036854775806 a k) })

-- a number that is not below 0
pub unsigned : (z : ℤ) → SFits w64 z → lt_z z (pos 0) ≡ false → Unsigned z
unsigned (pos a) f h = (tt, record { fits = omega arith })
unsigned (negsuc a) f h = absurd (true≢false h)

-- a number between an i32's ends
pub narrowed : (z : ℤ) → lt_z z (negsuc 2147483647) ≡ false → lt_z (pos 2147483647) z ≡ false → SFits w32 z
narrowed (pos a) h k = record { sfits = omega (arith, ltb-false 2147483647 a k) }
narrowed (negsuc a) h k = record { sfits = omega (arith, ltb-false 2147483647 a h) }

mag_opposite : (n : ℕ) → n ≤ 9223372036854775807 → mag (neg_ℤ (pos n)) < 9223372036854775808
mag_opposite zero h = omega arith
mag_opposite (suc n) h = omega arith

-- the opposite of a number that an i64 holds
pub negated : (n : ℕ) → n ≤ 9223372036854775807 → SFits w64 (pos 0 -ℤ to_z w64 n)
negated n h =
    rw (lt-ltb n 9223372036854775808 (omega arith), +ℤ_idl (neg_ℤ (pos n)))
    (record { sfits = mag_opposite n h })
