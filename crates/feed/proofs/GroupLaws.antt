-- The first message of a feed: where it ends, and that a feed's messages are that one and those of what follows it.
use Prim.Native.Nat.{ℕ, suc, ◌+◌, ◌-◌, ◌≤◌, ◌<◌}
use mathlib.Core.Path.{◌≡◌, refl, ap, ◌∙◌}
use mathlib.Core.Bool.{Bool, true, false, ◌&&◌, not, cond}
use mathlib.Core.List.{List, [], ◌∷◌}
use native.Mathlib.Omega.{arith}
use lib.Dec.{eqb}
use lib.ListN.{length, take, drop, get_or, drop_of_length-le}
use lib.Seq.{drop-cons}
use Rattle.slices.specs.Cut.{on_first}
use Rattle.feed.specs.Feed.{messages, first_length, message_length}

-- a message ends between these two bytes
abbrev pub splits : ℕ → ℕ → Bool
splits x y = eqb x 10 && not (eqb y 32)

one_longer : (x : ℕ) (ms : List (List ℕ)) → first_length (on_first x ms) ≡ suc (first_length ms)
one_longer x [] = refl
one_longer x (m ∷ ms) = refl

-- the feed's messages are the first and those of what follows
pub messages-first : (x : ℕ) (xs : List ℕ)
    → messages (x ∷ xs) ≡ take (message_length (x ∷ xs)) (x ∷ xs) ∷ messages (drop (message_length (x ∷ xs)) (x ∷ xs))
unfolding message_length
messages-first x [] = refl
messages-first x (y ∷ ys) = go (splits x y) (messages (y ∷ ys)) (messages-first y ys)
  where
    go : (t : Bool) (ms : List (List ℕ)) → ms ≡ take (first_length ms) (y ∷ ys) ∷ messages (drop (first_length ms) (y ∷ ys))
        → cond t ((x ∷ []) ∷ messages (y ∷ ys)) (on_first x ms)
        ≡ take (first_length (cond t ((x ∷ []) ∷ messages (y ∷ ys)) (on_first x ms))) (x ∷ y ∷ ys)
        ∷ messages (drop (first_length (cond t ((x ∷ []) ∷ messages (y ∷ ys)) (on_first x ms))) (x ∷ y ∷ ys))
    go true ms e = refl
    go false ms e = rw (one_longer x ms) (ap (on_first x) e)

pub messages-cut : (s : List ℕ) → 0 < length s → messages s ≡ take (message_length s) s ∷ messages (drop (message_length s) s)
messages-cut [] h = absurd (omega arith)
messages-cut (x ∷ xs) h = messages-first x xs

-- the same, of a cut that a call made
pub messages-step : (s : List ℕ) {first others : List ℕ} {n : ℕ} → 0 < length s → n ≡ message_length s → first ≡ take n s → others ≡ drop n s
    → messages s ≡ first ∷ messages others
messages-step s h e f o = rw (f, o, e) (messages-cut s h)

-- its length, by its first two bytes
length_splits : (x y : ℕ) (ys : List ℕ) → splits x y ≡ true → message_length (x ∷ y ∷ ys) ≡ 1
unfolding message_length
length_splits x y ys e = rw e

length_goes_on : (x y : ℕ) (ys : List ℕ) → splits x y ≡ false → message_length (x ∷ y ∷ ys) ≡ suc (message_length (y ∷ ys))
unfolding message_length
length_goes_on x y ys e = rw e (one_longer x (messages (y ∷ ys)))

length_last : (x : ℕ) → message_length (x ∷ []) ≡ 1
unfolding message_length
length_last x = refl

-- it has a byte, and lies inside
pub record Inside (s : List ℕ) : Type 0 where
  pub some : 0 < message_length s
  pub within : message_length s ≤ length s

inside-cons : (x : ℕ) (xs : List ℕ) → Inside (x ∷ xs)
inside-cons x [] = record { some = omega (arith, length_last x); within = omega (arith, length_last x) }
inside-cons x (y ∷ ys) = go (splits x y) refl (inside-cons y ys)
  where
    go : (t : Bool) → splits x y ≡ t → Inside (y ∷ ys) → Inside (x ∷ y ∷ ys)
    go true e r = record { some = omega (arith, length_splits x y ys e); within = omega (arith, length_splits x y ys e) }
    go false e r = record { some = omega (arith, length_goes_on x y ys e); within = omega (arith, length_goes_on x y ys e, r.within) }

pub message-inside : (s : List ℕ) → 0 < length s → Inside s
message-inside [] h = absurd (omega arith)
message-inside (x ∷ xs) h = inside-cons x xs

length_none : (s : List ℕ) → length s ≡ 0 → 0 ≡ message_length s
unfolding message_length
length_none [] e = refl
length_none (x ∷ xs) e = absurd (omega arith)

-- ---- the loop: no message ends before place i

pub record Grouping (s : List ℕ) (i : ℕ) : Type 0 where
  pub some : 0 < i
  pub bound : i ≤ length s
  pub passed : message_length s + 1 ≡ i + message_length (drop (i - 1) s)

pub group_begin : {s : List ℕ} → 0 < length s → Grouping s 1
group_begin {s} h = record { some = omega arith; bound = omega arith; passed = omega arith }

module _ {s : List ℕ} {i : ℕ} (r : Grouping s i) where
  from-before : drop (i - 1) s ≡ get_or s (i - 1) 0 ∷ drop i s
  from-before =
      let e : suc (i - 1) ≡ i = omega (arith, r.some) in
      drop-cons s (i - 1) 0 (omega (arith, r.some, r.bound)) ∙ ap (λ (n : ℕ). get_or s (i - 1) 0 ∷ drop n s) e

  from-here : i < length s → drop i s ≡ get_or s i 0 ∷ drop (suc i) s
  from-here h = drop-cons s i 0 h

  pub group_on : i < length s → splits (get_or s (i - 1) 0) (get_or s i 0) ≡ false → Grouping s (i + 1)
  group_on h e =
      let l : message_length (drop (i - 1) s) ≡ suc (message_length (drop i s)) =
      rw (from-before, from-here h) (length_goes_on (get_or s (i - 1) 0) (get_or s i 0) (drop (suc i) s) e) in
      let j : i + 1 - 1 ≡ i = omega arith in
      record { some = omega arith; bound = omega arith; passed = rw j (omega (arith, r.passed)) }

  pub group_splits : i < length s → splits (get_or s (i - 1) 0) (get_or s i 0) ≡ true → i ≡ message_length s
  group_splits h e =
      let l : message_length (drop (i - 1) s) ≡ 1 =
      rw (from-before, from-here h) (length_splits (get_or s (i - 1) 0) (get_or s i 0) (drop (suc i) s) e) in
      omega (arith, r.passed)

  group_last : length s ≤ i → length s ≡ message_length s
  group_last h =
      let l : message_length (drop (i - 1) s) ≡ 1 =
      rw (from-before, drop_of_length-le s h) (length_last (get_or s (i - 1) 0)) in
      omega (arith, r.passed, r.bound)

-- behind the loop, also where there is no byte
pub group_end : (s : List ℕ) {i : ℕ} → (0 < length s → Grouping s i) → length s ≤ i → length s ≡ message_length s
group_end [] r h = length_none [] refl
group_end (x ∷ xs) r h = group_last (r (omega arith)) h
