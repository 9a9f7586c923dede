-- The least of some bytes, looked for along them, is zero exactly when one of them is.
use Prim.Native.Nat.{ℕ, min}
use mathlib.Core.Path.{◌≡◌, refl, sym, ◌∙◌}
use mathlib.Core.Bool.{Bool, true, false, ◌||◌}
use mathlib.Core.List.{List, [], ◌∷◌}
use native.Mathlib.Omega.{arith}
use lib.Dec.{eqb}
use borrow.Author.Tests.{eq-eqb, ne_eqb, eqb-true, eqb-false}
use Rattle.std.specs.List.{fold}
use Rattle.slices.specs.Cut.{has}
use Rattle.slices.proofs.Bools.{or_assoc, or-false}

min_zero : (a b : ℕ) → eqb (min a b) 0 ≡ eqb a 0 || eqb b 0
min_zero a b = go (eqb a 0) refl (eqb b 0) refl
  where
    go : (s : Bool) → eqb a 0 ≡ s → (t : Bool) → eqb b 0 ≡ t → eqb (min a b) 0 ≡ s || t
    go true e t f =
        let h : a ≡ 0 = eqb-true a 0 e in
        eq-eqb (min a b) 0 (omega arith)
    go false e true f =
        let h : b ≡ 0 = eqb-true b 0 f in
        eq-eqb (min a b) 0 (omega arith)
    go false e false f =
        let h : a ≡ 0 → ⊥ = eqb-false a 0 e in
        let k : b ≡ 0 → ⊥ = eqb-false b 0 f in
        ne_eqb (min a b) 0 (λ q. omega arith)

pub least-zero : (s : List ℕ) (least : ℕ) → eqb (fold min least s) 0 ≡ eqb least 0 || has 0 s
least-zero [] least = sym (or-false (eqb least 0))
least-zero (x ∷ xs) least = least-zero xs (min least x) ∙ rw (min_zero least x) (or_assoc (eqb least 0) (eqb x 0) (has 0 xs))
