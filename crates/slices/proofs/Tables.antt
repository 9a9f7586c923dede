-- A rule on small numbers by one computed test: antt computes the test at each number below a bound, and `below` turns
-- that into the rule.
use Prim.Native.Nat.{ℕ, zero, suc, ◌<◌}
use mathlib.Core.Path.{◌≡◌, refl, sym, subst}
use mathlib.Core.Bool.{Bool, true, false, ◌&&◌}
use native.Mathlib.Omega.{arith}
use lib.Dec.{eqb}
use borrow.Author.Tests.{eqb-true, eqb-false}
use Rattle.slices.proofs.Bools.{and_left, and_right}

abbrev pub all_below : (ℕ → Bool) → ℕ → Bool
all_below p zero = true
all_below p (suc k) = p k && all_below p k

pub below : (p : ℕ → Bool) (k : ℕ) → all_below p k ≡ true → (n : ℕ) → n < k → p n ≡ true
below p zero e n h = absurd (omega arith)
below p (suc k) e n h = go (eqb n k) refl (below p k (and_right (p k) (all_below p k) e) n)
  where
    go : (t : Bool) → eqb n k ≡ t → (n < k → p n ≡ true) → p n ≡ true
    go true q ih = subst (λ (m : ℕ). p m ≡ true) (sym (eqb-true n k q)) (and_left (p k) (all_below p k) e)
    go false q ih =
        ih
        (let f : n ≡ k → ⊥ = eqb-false n k q in
        omega arith)
