-- A test of every element holds in each part of a list, and follows from the test at each place.
use Prim.Native.Nat.{ℕ, zero, suc, ◌<◌}
use mathlib.Core.Path.{◌≡◌, refl, sym, ◌∙◌}
use mathlib.Core.Bool.{Bool, true, false, not, ◌&&◌, ◌||◌}
use mathlib.Core.List.{List, [], ◌∷◌, ◌++◌}
use native.Mathlib.Omega.{arith}
use borrow.Author.Tests.{lt-ltb, not-true}
use lib.Dec.{eqb}
use lib.ListN.{length, get_or, take, drop}
use Rattle.slices.specs.Cut.{has}
use Rattle.slices.specs.Tests.{every, is_byte, all_bytes}
use Rattle.slices.proofs.Bools.{every_first, every-other, every_append}

module _ {A : Type 0} (p : A → Bool) where
  pub every_take : (n : ℕ) (xs : List A) → every p xs ≡ true → every p (take n xs) ≡ true
  every_take zero xs e = refl
  every_take (suc n) [] e = refl
  every_take (suc n) (x ∷ xs) e = rw (every_first p x xs e, every_take n xs (every-other p x xs e))

  pub every_drop : (n : ℕ) (xs : List A) → every p xs ≡ true → every p (drop n xs) ≡ true
  every_drop zero xs e = e
  every_drop (suc n) [] e = refl
  every_drop (suc n) (x ∷ xs) e = every_drop n xs (every-other p x xs e)

  pub every-both : (xs ys : List A) → every p xs ≡ true → every p ys ≡ true → every p (xs ++ ys) ≡ true
  every-both xs ys e f = rw (every_append p xs ys, e, f)

  pub every_at : (d : A) (xs : List A) → ((i : ℕ) → i < length xs → p (get_or xs i d) ≡ true) → every p xs ≡ true
  every_at d [] h = refl
  every_at d (x ∷ xs) h = rw (h 0 (omega arith), every_at d xs (λ i l. h (suc i) (omega arith)))

-- what a slice of bytes tells of its elements
pub all-bytes : (xs : List ℕ) → ((i : ℕ) → get_or xs i 0 < 256) → all_bytes xs ≡ true
all-bytes xs h = every_at is_byte 0 xs (λ i l. lt-ltb (get_or xs i 0) 256 (h i))

-- c is not among them: every one is another byte
lacks-is : (c : ℕ) (xs : List ℕ) → every (λ x. not (eqb x c)) xs ≡ not (has c xs)
lacks-is c [] = refl
lacks-is c (x ∷ xs) = go (eqb x c) (lacks-is c xs)
  where
    go : (t : Bool) → every (λ x. not (eqb x c)) xs ≡ not (has c xs) → not t && every (λ x. not (eqb x c)) xs ≡ not (t || has c xs)
    go true h = refl
    go false h = h

pub lacks-every : (c : ℕ) (xs : List ℕ) → has c xs ≡ false → every (λ x. not (eqb x c)) xs ≡ true
lacks-every c xs e = lacks-is c xs ∙ rw e

pub every-lacks : (c : ℕ) (xs : List ℕ) → every (λ x. not (eqb x c)) xs ≡ true → has c xs ≡ false
every-lacks c xs e = not-true (has c xs) (sym (lacks-is c xs) ∙ e)
