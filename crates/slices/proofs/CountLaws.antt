-- How many of some bytes are c, and the place of the next c: of bytes one behind the other, and in loops that go along them.
use Prim.Native.Nat.{ℕ, zero, suc, ◌+◌, ◌≤◌, ◌<◌}
use mathlib.Core.Path.{◌≡◌, refl, ap, sym, ◌∙◌}
use mathlib.Core.Bool.{Bool, true, false, cond, not}
use mathlib.Core.List.{List, [], ◌∷◌, ◌++◌}
use native.Mathlib.Omega.{arith}
use native.Mathlib.Numerals.{add-one}
use native.Mathlib.Nat.{zero-add, add-zero}
use lib.Dec.{eqb}
use lib.ListN.{length, get_or, take, drop, replicate, take-append-drop, length-append}
use lib.Seq.{take-suc, length-take-le}
use borrow.Author.Tests.{eq-eqb, eqb-true}
use Rattle.slices.specs.Cut.{has, before, occurrences}
use Rattle.slices.proofs.EveryLaws.{every_at, every-lacks}
use Rattle.slices.proofs.CutLaws.{before-past}

-- ---- counting

module _ (c : ℕ) where
  pub occurrences-append : (xs ys : List ℕ) → occurrences c (xs ++ ys) ≡ occurrences c xs + occurrences c ys
  occurrences-append [] ys = rw zero-add
  occurrences-append (x ∷ xs) ys = go (eqb x c) (occurrences-append xs ys)
    where
      go : (t : Bool) → occurrences c (xs ++ ys) ≡ occurrences c xs + occurrences c ys
          → cond t (suc (occurrences c (xs ++ ys))) (occurrences c (xs ++ ys)) ≡ cond t (suc (occurrences c xs)) (occurrences c xs) + occurrences c ys
      go true h = omega arith
      go false h = h

  pub occurrences-most : (xs : List ℕ) → occurrences c xs ≤ length xs
  occurrences-most [] = omega arith
  occurrences-most (x ∷ xs) = go (eqb x c) (occurrences-most xs)
    where
      go : (t : Bool) → occurrences c xs ≤ length xs → cond t (suc (occurrences c xs)) (occurrences c xs) ≤ suc (length xs)
      go true h = omega arith
      go false h = omega arith

  -- c alone
  pub occurrences-all : (n : ℕ) → occurrences c (replicate n c) ≡ n
  occurrences-all zero = refl
  occurrences-all (suc n) = rw (eq-eqb c c refl) (ap suc (occurrences-all n))

  -- so many, and the rest
  pub occurrences_split : (n : ℕ) (xs : List ℕ) → occurrences c (take n xs) + occurrences c (drop n xs) ≡ occurrences c xs
  occurrences_split n xs = sym (occurrences-append (take n xs) (drop n xs)) ∙ ap (occurrences c) (take-append-drop n xs)

  -- one byte more from the front
  pub occurrences_more : (s : List ℕ) (i : ℕ) → i < length s
      → occurrences c (take (i + 1) s) ≡ cond (eqb (get_or s i 0) c) (occurrences c (take i s) + 1) (occurrences c (take i s))
  occurrences_more s i h =
      rw (add-one, take-suc s i 0 h) (occurrences-append (take i s) (get_or s i 0 ∷ []) ∙ go (eqb (get_or s i 0) c))
    where
      go : (t : Bool) → occurrences c (take i s) + cond t (suc 0) 0 ≡ cond t (occurrences c (take i s) + 1) (occurrences c (take i s))
      go true = refl
      go false = add-zero _

  pub occurrences-few : (s : List ℕ) (i : ℕ) → i ≤ length s → occurrences c (take i s) ≤ i
  occurrences-few s i h = omega (arith, occurrences-most (take i s), length-take-le i s h)

-- ---- the next c

module _ (c : ℕ) where
  -- there is none before the first
  pub before-lacks : (s : List ℕ) → has c (before c s) ≡ false
  before-lacks [] = refl
  before-lacks (x ∷ xs) = go (eqb x c) refl (before-lacks xs)
    where
      go : (t : Bool) → eqb x c ≡ t → has c (before c xs) ≡ false → has c (cond t [] (x ∷ before c xs)) ≡ false
      go true e h = refl
      go false e h = rw (e, h)

  -- what a c ends
  pub before_it : (s : List ℕ) → length (before c s) < length s → take (length (before c s) + 1) s ≡ before c s ++ (c ∷ [])
  before_it [] h = absurd (omega arith)
  before_it (x ∷ xs) h = rw add-one (go (eqb x c) refl h (before_it xs))
    where
      go : (t : Bool) → eqb x c ≡ t → length (cond t [] (x ∷ before c xs)) < suc (length xs)
          → (length (before c xs) < length xs → take (length (before c xs) + 1) xs ≡ before c xs ++ (c ∷ []))
          → x ∷ take (length (cond t [] (x ∷ before c xs))) xs ≡ cond t [] (x ∷ before c xs) ++ (c ∷ [])
      go true e h ih = rw (eqb-true x c e)
      go false e h ih = ap (λ (l : List ℕ). x ∷ l) (rw add-one at (ih (omega arith)))

  -- a stride without c is passed
  pub stride_passed : (s stride rest : List ℕ) → stride ≡ take 16 s → rest ≡ drop 16 s → length rest + 16 ≡ length s
      → ((i : ℕ) → i < 16 → not (eqb (get_or stride i 0) c) ≡ true) → length (before c s) ≡ 16 + length (before c rest)
  stride_passed s stride rest e f l each =
      let k : length stride ≡ 16 = rw e (length-take-le 16 s (omega arith)) in
      let lacks : has c stride ≡ false = every-lacks c stride (every_at (λ x. not (eqb x c)) 0 stride (λ i h. each i (omega (arith, k)))) in
      let parts : s ≡ stride ++ rest = rw (e, f) (sym (take-append-drop 16 s)) in
      ap (λ (xs : List ℕ). length (before c xs)) parts ∙ rw (before-past c stride rest lacks) (simp length-append (omega (arith, k)))
