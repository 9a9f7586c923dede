-- Tests of every element of a list, and tests in an order.
use Rattle.std.specs.Prelude.{ℕ, Bool, true, cond, ◌&&◌, List, [], ◌∷◌, ltb}

abbrev pub every : {A : Type 0} → (A → Bool) → List A → Bool
every p [] = true
every p (x ∷ xs) = p x && every p xs

abbrev pub is_byte : ℕ → Bool
is_byte b = ltb b 256

abbrev pub all_bytes : List ℕ → Bool
all_bytes bs = every is_byte bs

-- the first whose test holds, or the other
abbrev pub first_of : {A : Type 0} → List (Bool × A) → A → A
first_of [] other = other
first_of ((test, x) ∷ rest) other = cond test x (first_of rest other)
