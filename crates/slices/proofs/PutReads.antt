-- What is read after bytes were put into a buffer: those bytes at their place, and what stood there before everywhere else.
use Prim.Native.Nat.{ℕ, ◌+◌, ◌-◌, ◌≤◌}
use mathlib.Core.Path.{◌≡◌, ap, sym, ◌∙◌}
use mathlib.Core.List.{List, ◌++◌, append_assoc}
use native.Mathlib.Omega.{arith}
use lib.ListN.{length, take, drop, length-append, length-drop, take-append-drop}
use lib.Seq.{drop_at, take-append_seam, length-take-le, drop-append-le, take-append-le, drop-append-add, drop-drop}
use Rattle.slices.specs.Put.{put}

-- a part that lies in front doesn't see what is behind
pub in_front : (k n : ℕ) (xs ys zs : List ℕ) → k + n ≤ length xs → take n (drop k (xs ++ ys)) ≡ take n (drop k (xs ++ zs))
in_front k n xs ys zs h =
    rw (
      drop-append-le k xs ys (omega arith),
      drop-append-le k xs zs (omega arith),
      take-append-le n (drop k xs) ys (simp length-drop (omega arith)),
      take-append-le n (drop k xs) zs (simp length-drop (omega arith)),
    )

module _ (buffer : List ℕ) (at : ℕ) (bytes : List ℕ) (room : at + length bytes ≤ length buffer) where
  front_length : length (take at buffer) ≡ at
  front_length = length-take-le at buffer (omega arith)

  pub put-there : take (length bytes) (drop at (put buffer at bytes)) ≡ bytes
  put-there =
      rw (drop_at (take at buffer) (bytes ++ drop (at + length bytes) buffer) at front_length)
      (take-append_seam bytes (drop (at + length bytes) buffer))

  pub put-before : (k n : ℕ) → k + n ≤ at → take n (drop k (put buffer at bytes)) ≡ take n (drop k buffer)
  put-before k n h =
      in_front k n (take at buffer) (bytes ++ drop (at + length bytes) buffer) (drop at buffer) (omega (arith, front_length))
      ∙ ap (λ (l : List ℕ). take n (drop k l)) (take-append-drop at buffer)

  pub put-behind : (k : ℕ) → at + length bytes ≤ k → drop k (put buffer at bytes) ≡ drop k buffer
  put-behind k h =
      let j : ℕ = k - (at + length bytes) in
      let xs : List ℕ = take at buffer ++ bytes in
      let ys : List ℕ = drop (at + length bytes) buffer in
      let e : k ≡ at + length bytes + j = omega arith in
      let l : length xs ≡ at + length bytes = simp (length-append, front_length) in
      ap (drop k) (sym (append_assoc (take at buffer) bytes ys))
      ∙ ap (λ (n : ℕ). drop n (xs ++ ys)) (e ∙ ap (λ (n : ℕ). n + j) (sym l))
      ∙ drop-append-add xs ys j
      ∙ drop-drop j (at + length bytes) buffer
      ∙ ap (λ (n : ℕ). drop n buffer) (sym e)
