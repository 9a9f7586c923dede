-- Bytes cut at a byte: fields at commas, lines at newlines, a dictionary's entries at zero bytes.
use Rattle.std.specs.Prelude.{ℕ, suc, Bool, false, ◌||◌, cond, List, [], ◌∷◌, ◌++◌, eqb, length, Option, Some, None}

-- c is among the bytes
abbrev pub has : ℕ → List ℕ → Bool
has c [] = false
has c (x ∷ xs) = eqb x c || has c xs

-- how many of the bytes are c
abbrev pub occurrences : ℕ → List ℕ → ℕ
occurrences c [] = 0
occurrences c (x ∷ xs) = cond (eqb x c) (suc (occurrences c xs)) (occurrences c xs)

-- c is the first byte
abbrev pub starts_with : ℕ → List ℕ → Bool
starts_with c [] = false
starts_with c (x ∷ xs) = eqb x c

-- what stands before the first c: all, where there is none
abbrev pub before : ℕ → List ℕ → List ℕ
before c [] = []
before c (x ∷ xs) = cond (eqb x c) [] (x ∷ before c xs)

-- what stands after the first c: nothing, where there is none
abbrev pub after : ℕ → List ℕ → List ℕ
after c [] = []
after c (x ∷ xs) = cond (eqb x c) xs (after c xs)

-- x put in front of the first of some lists
abbrev pub on_first : ℕ → List (List ℕ) → List (List ℕ)
on_first x [] = (x ∷ []) ∷ []
on_first x (l ∷ ls) = (x ∷ l) ∷ ls

-- the pieces that a c ends each; a rest that no c ends is one more
abbrev pub pieces : ℕ → List ℕ → List (List ℕ)
pieces c [] = []
pieces c (x ∷ xs) = cond (eqb x c) ([] ∷ pieces c xs) (on_first x (pieces c xs))

-- the parts between single c's: always one more than there are c's
abbrev pub parts : ℕ → List ℕ → List (List ℕ)
parts c xs = pieces c (xs ++ (c ∷ []))

-- lists joined by single c's
abbrev pub join : ℕ → List (List ℕ) → List ℕ
join c [] = []
join c (l ∷ []) = l
join c (l ∷ k ∷ ls) = l ++ (c ∷ join c (k ∷ ls))

-- the place of the first c
abbrev pub place : ℕ → List ℕ → Option ℕ
place c xs = cond (has c xs) (Some (length (before c xs))) None
