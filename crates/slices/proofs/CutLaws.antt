-- Cutting what was put together, and the place of the first cut.
use Rattle.std.specs.Prelude.{Some, None}
use Prim.Native.Nat.{ℕ, suc, ◌+◌, ◌-◌, ◌≤◌}
use mathlib.Core.Path.{◌≡◌, refl, ap, sym, ◌∙◌}
use mathlib.Core.Bool.{Bool, true, false, ◌||◌, cond, false≢true}
use mathlib.Core.List.{List, [], ◌∷◌, ◌++◌}
use native.Mathlib.Omega.{arith}
use lib.Dec.{eqb, ltb}
use native.Mathlib.Numerals.{add-one}
use lib.ListN.{length, take, drop, drop_of_length-le, length-drop}
use lib.Seq.{take_all, take-take, take-nil, drop-length}
use borrow.Author.Tests.{eq-eqb, le-ltb, lt-ltb, ltb-true, ltb-false}
use Rattle.std.specs.Prelude.{position, unwrap_or}
use Rattle.std.specs.List.{position_or_len}
use Rattle.std.proofs.lemmas.List.Recursion.{is_position_or_len}
use Rattle.slices.specs.Cut.{has, before, after, on_first, pieces, place}
use Rattle.slices.proofs.Bools.{or_left, or_right}

ltb-suc : (a b : ℕ) → ltb (suc a) (suc b) ≡ ltb a b
ltb-suc a b = go (ltb a b) refl
  where
    go : (t : Bool) → ltb a b ≡ t → ltb (suc a) (suc b) ≡ t
    go true e = lt-ltb (suc a) (suc b) (omega (arith, ltb-true a b e))
    go false e = le-ltb (suc a) (suc b) (omega (arith, ltb-false a b e))

module _ (c : ℕ) where
  pub before_at : (p q : List ℕ) → has c p ≡ false → before c (p ++ (c ∷ q)) ≡ p
  before_at [] q e = rw (eq-eqb c c refl)
  before_at (x ∷ p) q e = rw (or_left (eqb x c) (has c p) e, before_at p q (or_right (eqb x c) (has c p) e))

  pub after_at : (p q : List ℕ) → has c p ≡ false → after c (p ++ (c ∷ q)) ≡ q
  after_at [] q e = rw (eq-eqb c c refl)
  after_at (x ∷ p) q e = rw (or_left (eqb x c) (has c p) e) (after_at p q (or_right (eqb x c) (has c p) e))

  pub before-past : (p q : List ℕ) → has c p ≡ false → before c (p ++ q) ≡ p ++ before c q
  before-past [] q e = refl
  before-past (x ∷ p) q e = rw (or_left (eqb x c) (has c p) e, before-past p q (or_right (eqb x c) (has c p) e))

  pub pieces_at : (p q : List ℕ) → has c p ≡ false → pieces c (p ++ (c ∷ q)) ≡ p ∷ pieces c q
  pieces_at [] q e = rw (eq-eqb c c refl)
  pieces_at (x ∷ p) q e = rw (or_left (eqb x c) (has c p) e, pieces_at p q (or_right (eqb x c) (has c p) e))

  pub has_at : (p q : List ℕ) → has c (p ++ (c ∷ q)) ≡ true
  has_at [] q = rw (eq-eqb c c refl)
  has_at (x ∷ p) q = go (eqb x c) (has_at p q)
    where
      go : (t : Bool) → has c (p ++ (c ∷ q)) ≡ true → t || has c (p ++ (c ∷ q)) ≡ true
      go true e = refl
      go false e = e

  -- ---- the place of the first c

  pub before_le : (s : List ℕ) → length (before c s) ≤ length s
  before_le [] = omega arith
  before_le (x ∷ xs) = go (eqb x c) (before_le xs)
    where
      go : (t : Bool) → length (before c xs) ≤ length xs → length (cond t [] (x ∷ before c xs)) ≤ suc (length xs)
      go true h = omega arith
      go false h = omega arith

  pub before-take : (s : List ℕ) → take (length (before c s)) s ≡ before c s
  before-take [] = refl
  before-take (x ∷ xs) = go (eqb x c) (before-take xs)
    where
      go : (t : Bool) → take (length (before c xs)) xs ≡ before c xs → take (length (cond t [] (x ∷ before c xs))) (x ∷ xs) ≡ cond t [] (x ∷ before c xs)
      go true h = refl
      go false h = ap (λ (l : List ℕ). x ∷ l) h

  pub after-drop : (s : List ℕ) → drop (suc (length (before c s))) s ≡ after c s
  after-drop [] = refl
  after-drop (x ∷ xs) = go (eqb x c) (after-drop xs)
    where
      go : (t : Bool) → drop (suc (length (before c xs))) xs ≡ after c xs → drop (suc (length (cond t [] (x ∷ before c xs)))) (x ∷ xs) ≡ cond t xs (after c xs)
      go true h = refl
      go false h = h

  pub has-place : (s : List ℕ) → has c s ≡ ltb (length (before c s)) (length s)
  has-place [] = refl
  has-place (x ∷ xs) = go (eqb x c) (has-place xs)
    where
      go : (t : Bool) → has c xs ≡ ltb (length (before c xs)) (length xs) → t || has c xs ≡ ltb (length (cond t [] (x ∷ before c xs))) (suc (length xs))
      go true h = sym (lt-ltb 0 (suc (length xs)) (omega arith))
      go false h = h ∙ sym (ltb-suc (length (before c xs)) (length xs))

  pub pieces-cons : (x : ℕ) (xs : List ℕ) → pieces c (x ∷ xs) ≡ before c (x ∷ xs) ∷ pieces c (after c (x ∷ xs))
  pieces-cons x [] = go (eqb x c)
    where
      go : (t : Bool) → cond t ([] ∷ []) (on_first x []) ≡ cond t [] (x ∷ []) ∷ pieces c (cond t [] [])
      go true = refl
      go false = refl
  pieces-cons x (y ∷ ys) = go (eqb x c) (pieces-cons y ys)
    where
      go : (t : Bool) → pieces c (y ∷ ys) ≡ before c (y ∷ ys) ∷ pieces c (after c (y ∷ ys)) → cond t ([] ∷ pieces c (y ∷ ys)) (on_first x (pieces c (y ∷ ys))) ≡ cond t [] (x ∷ before c (y ∷ ys)) ∷ pieces c (cond t (y ∷ ys) (after c (y ∷ ys)))
      go true h = refl
      go false h = ap (on_first x) h

-- the library's words for them
position-place : (c : ℕ) (s : List ℕ) → position_or_len (λ b. eqb b c) s ≡ length (before c s)
position-place c s = sym (is_position_or_len (λ xs. length (before c xs)) (λ b. eqb b c) refl on s)
  where
    on : (x : ℕ) (xs : List ℕ) → length (before c (x ∷ xs)) ≡ cond (eqb x c) 0 (1 + length (before c xs))
    on x xs = go (eqb x c)
      where
        go : (t : Bool) → length (cond t [] (x ∷ before c xs)) ≡ cond t 0 (1 + length (before c xs))
        go true = refl
        go false = omega arith

pub position_is : (c : ℕ) (s : List ℕ) → position (λ b. eqb b c) s ≡ place c s
position_is c s = rw (position-place c s, has-place c s)

pub place_or : (c : ℕ) (s : List ℕ) → unwrap_or (place c s) (length s) ≡ length (before c s)
place_or c s = go (has c s) refl
  where
    go : (t : Bool) → has c s ≡ t → unwrap_or (cond t (Some (length (before c s))) None) (length s) ≡ length (before c s)
    go true e = refl
    go false e =
        let h : length s ≤ length (before c s) = ltb-false (length (before c s)) (length s) (sym (has-place c s) ∙ e) in
        omega (arith, before_le c s)

-- ---- parts of a slice

pub part_past : (s : List ℕ) (n : ℕ) → take (length s - (n + 1)) (drop (n + 1) s) ≡ drop (suc n) s
part_past s n = rw add-one (take_all (length s - suc n) (drop (suc n) s) (rw length-drop (omega arith)))

pub part_none : (s : List ℕ) (n : ℕ) → length s ≤ n → take (length s - length s) (drop (length s) s) ≡ drop (suc n) s
part_none s n h = rw (drop_of_length-le s (le_step h), drop-length, take-nil)
  where
    le_step : length s ≤ n → length s ≤ suc n
    le_step h = omega arith

pub has-append : (c : ℕ) (xs ys : List ℕ) → has c (xs ++ ys) ≡ has c xs || has c ys
has-append c [] ys = refl
has-append c (x ∷ xs) ys = go (eqb x c) (has-append c xs ys)
  where
    go : (t : Bool) → has c (xs ++ ys) ≡ has c xs || has c ys → t || has c (xs ++ ys) ≡ (t || has c xs) || has c ys
    go true e = refl
    go false e = e

-- ---- two cuts, one inside the other

-- the first c lies before the first k
pub record Inner (c k : ℕ) (s : List ℕ) : Type 0 where
  pub front : before c (before k s) ≡ before c s
  pub rest : after c (before k s) ≡ before k (after c s)
  pub there : has c s ≡ true
  pub behind : has k (after c s) ≡ has k s

pub inner : (c k : ℕ) (s : List ℕ) → has c (before k s) ≡ true → Inner c k s
inner c k [] h = absurd (false≢true h)
inner c k (x ∷ xs) h = go (eqb x k) refl (eqb x c) refl h (inner c k xs)
  where
    go : (q : Bool) → eqb x k ≡ q → (p : Bool) → eqb x c ≡ p → has c (cond q [] (x ∷ before k xs)) ≡ true
        → (has c (before k xs) ≡ true → Inner c k xs) → Inner c k (x ∷ xs)
    go true f p e h ih = absurd (false≢true h)
    go false f true e h ih = record { front = rw (f, e); rest = rw (f, e); there = rw e; behind = rw (f, e) }
    go false f false e h ih =
        let i : Inner c k xs = ih (rw e at h) in
        record {
          front = rw (f, e) (ap (λ (l : List ℕ). x ∷ l) i.front);
          rest = rw (f, e) i.rest;
          there = rw e i.there;
          behind = rw (f, e) i.behind;
        }

-- what is in front of c in a front of s is a front of s
pub front_before : (c : ℕ) (s u : List ℕ) → take (length u) s ≡ u → take (length (before c u)) s ≡ before c u
front_before c s u e =
    let k : take (length (before c u)) (take (length u) s) ≡ take (length (before c u)) s = take-take (length (before c u)) (length u) s (before_le c u) in
    sym k ∙ ap (take (length (before c u))) e ∙ before-take c u
