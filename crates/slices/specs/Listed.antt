-- A table of refusals in its order: which one a call gets, and when it gets none.
use Rattle.std.specs.Prelude.{◌≡◌, ◌⊎◌, List, [], ◌∷◌}

-- x is in the list
abbrev pub In : {A : Type 0} → A → List A → Type 0
In x [] = ⊥
In x (y ∷ ys) = (x ≡ y) ⊎ In x ys

-- P holds of one of them
abbrev pub Some : {A : Type 0} → (A → Type 0) → List A → Type 0
Some P [] = ⊥
Some P (y ∷ ys) = P y ⊎ Some P ys

-- x stands before y
abbrev pub Earlier : {A : Type 0} → A → A → List A → Type 0
Earlier x y [] = ⊥
Earlier x y (z ∷ zs) = ((x ≡ z) × In y zs) ⊎ Earlier x y zs

-- rows in their order, each with its number and with when it applies: a call answers a row's number if and only if the row
-- applies and no earlier one does; where none applies, it is done
pub record Exactly {R A : Type 0} (rows : List R) (number : R → A) (Applies : R → Type 0) (Done : Type 0) (answer : A) : Type 0 where
  pub only : (r : R) → In r rows → answer ≡ number r → Applies r × ((e : R) → Earlier e r rows → Applies e → ⊥)
  pub always : (r : R) → In r rows → Applies r → ((e : R) → Earlier e r rows → Applies e → ⊥) → answer ≡ number r
  pub otherwise : ((r : R) → In r rows → Applies r → ⊥) → Done
