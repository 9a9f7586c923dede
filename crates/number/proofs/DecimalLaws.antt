-- Plain decimal: what was printed is read back, printed decimal is plain, and plain decimal is unique; for every number.
use Rattle.std.specs.Prelude.{Ok}
use Prim.Native.Nat.{ℕ, zero, suc, ◌+◌, ◌*◌, ◌-◌, ◌/◌, ◌%◌, ◌^◌, ◌≤◌, ◌<◌}
use mathlib.Core.Path.{◌≡◌, refl, ap, sym, ◌∙◌}
use mathlib.Core.Bool.{Bool, true, false, true≢false, false≢true, ◌&&◌, ◌||◌, not}
use mathlib.Core.List.{List, [], ◌∷◌, ◌++◌, append-nil, append_assoc}
use native.Mathlib.Omega.{arith}
use native.Mathlib.Decide.{dec_le}
use native.Mathlib.Nat.{pow-succ', one-le-pow}
use lib.Dec.{leb, ltb, eqb}
use lib.ListN.{length, length-append}
use borrow.Author.Tests.{ltb-true, ltb-false, le-leb, ne_eqb, eqb-true, eqb-false, lt-ltb, le-ltb, leb-true, not-true}
use Rattle.slices.specs.Cut.{has}
use Rattle.slices.proofs.Bools.{every_first, every-other, and_left, and_right}
use Rattle.number.specs.Decimal.{is_digit, all_digits, no_leading_zero, plain_decimal, value_from, value, digits_of, decimal, decimal_up_to}

-- the digits of n, by the test on its last digit
abbrev pub pick : Bool → ℕ → ℕ → List ℕ
pick t fuel n = elim t [ true ↦ (48 + n) ∷ [] | false ↦ digits_of fuel (n / 10) ++ ((48 + n % 10) ∷ []) ]

value_from_snoc : (ds : List ℕ) (n d : ℕ) → value_from n (ds ++ (d ∷ [])) ≡ value_from n ds * 10 + (d - 48)
value_from_snoc [] n d = refl
value_from_snoc (b ∷ bs) n d = value_from_snoc bs (n * 10 + (b - 48)) d

value-digits_of : (fuel n : ℕ) → n ≤ fuel → value_from 0 (digits_of fuel n) ≡ n
value-digits_of zero n h = omega arith
value-digits_of (suc fuel) n h = go (ltb n 10) refl (value-digits_of fuel (n / 10))
  where
    go : (t : Bool) → ltb n 10 ≡ t → (n / 10 ≤ fuel → value_from 0 (digits_of fuel (n / 10)) ≡ n / 10)
        → value_from 0 (pick t fuel n) ≡ n
    go true e ih = omega arith
    go false e ih =
        rw value_from_snoc (omega (arith, ih (omega (arith, ltb-false)), ltb-false))

pub value-decimal : (n : ℕ) → value (decimal n) ≡ n
unfolding value decimal
value-decimal n = value-digits_of n n (omega arith)

-- a digit's byte
pub digit-is : (d : ℕ) → d < 10 → is_digit (48 + d) ≡ true
digit-is d h = rw (le-leb 48 (48 + d) (omega arith), le-leb (48 + d) 57 (omega arith))

all_digits_snoc : (ds : List ℕ) (d : ℕ) → all_digits ds ≡ true → d < 10 → all_digits (ds ++ ((48 + d) ∷ [])) ≡ true
all_digits_snoc [] d e h = rw digit-is
all_digits_snoc (b ∷ bs) d e h = go (is_digit b) e (all_digits_snoc bs d)
  where
    go : (t : Bool) → t && all_digits bs ≡ true → (all_digits bs ≡ true → d < 10 → all_digits (bs ++ ((48 + d) ∷ [])) ≡ true) → t && all_digits (bs ++ ((48 + d) ∷ [])) ≡ true
    go true e ih = ih e h
    go false e ih = e

digits_of_digits : (fuel n : ℕ) → n ≤ fuel → all_digits (digits_of fuel n) ≡ true
digits_of_digits zero n h = rw (digit-is n (omega arith))
digits_of_digits (suc fuel) n h = go (ltb n 10) refl (digits_of_digits fuel (n / 10))
  where
    go : (t : Bool) → ltb n 10 ≡ t → (n / 10 ≤ fuel → all_digits (digits_of fuel (n / 10)) ≡ true)
        → all_digits (pick t fuel n) ≡ true
    go true e ih = rw (digit-is n (omega (arith, ltb-true)))
    go false e ih = all_digits_snoc (digits_of fuel (n / 10)) (n % 10) (ih (omega (arith, ltb-false))) (omega arith)

first : List ℕ → ℕ
first [] = 48
first (b ∷ bs) = b

first-append : (ds es : List ℕ) → eqb (first ds) 48 ≡ false → eqb (first (ds ++ es)) 48 ≡ false
unfolding first
first-append [] es e = absurd (true≢false e)
first-append (d ∷ ds) es e = e

first-digits_of : (fuel n : ℕ) → n ≤ fuel → 0 < n → eqb (first (digits_of fuel n)) 48 ≡ false
unfolding first
first-digits_of zero n h p = absurd (omega arith)
first-digits_of (suc fuel) n h p = go (ltb n 10) refl (first-digits_of fuel (n / 10))
  where
    go : (t : Bool) → ltb n 10 ≡ t → (n / 10 ≤ fuel → 0 < n / 10 → eqb (first (digits_of fuel (n / 10))) 48 ≡ false)
        → eqb (first (pick t fuel n)) 48 ≡ false
    go true e ih = ne_eqb (48 + n) 48 (λ q. omega arith)
    go false e ih = first-append (digits_of fuel (n / 10)) ((48 + n % 10) ∷ []) (ih (omega (arith, ltb-false)) (omega (arith, ltb-false)))

lead : (ds : List ℕ) → eqb (first ds) 48 ≡ false → no_leading_zero ds ≡ true
unfolding first
lead [] e = absurd (true≢false e)
lead (d ∷ []) e = refl
lead (d ∷ c ∷ ds) e = rw e

lead_decimal : (n : ℕ) → no_leading_zero (decimal n) ≡ true
unfolding decimal
lead_decimal zero = refl
lead_decimal (suc n) = lead (decimal (suc n)) (first-digits_of (suc n) (suc n) (omega arith) (omega arith))

pub decimal_digits : (n : ℕ) → all_digits (decimal n) ≡ true
unfolding decimal
decimal_digits n = digits_of_digits n n (omega arith)

pub plain-decimal : (n : ℕ) → plain_decimal (decimal n) ≡ true
unfolding plain_decimal
plain-decimal n = rw (decimal_digits n, lead_decimal n)

-- no other byte is in it: no comma, no semicolon, no newline
digits_lack : (c : ℕ) → is_digit c ≡ false → (ds : List ℕ) → all_digits ds ≡ true → has c ds ≡ false
digits_lack c n [] e = refl
digits_lack c n (d ∷ ds) e = go (eqb d c) refl (digits_lack c n ds (every-other is_digit d ds e))
  where
    go : (t : Bool) → eqb d c ≡ t → has c ds ≡ false → t || has c ds ≡ false
    go true q ih = absurd (true≢false (sym (every_first is_digit d ds e) ∙ ap is_digit (eqb-true d c q) ∙ n))
    go false q ih = ih

pub decimal-lacks : (c : ℕ) → is_digit c ≡ false → (n : ℕ) → has c (decimal n) ≡ false
decimal-lacks c h n = digits_lack c h (decimal n) (decimal_digits n)

-- a number below 10 ^ k has at most k digits
digits_most_lem : (k fuel n : ℕ) → n < 10 ^ suc k → length (digits_of fuel n) ≤ suc k
digits_most_lem k zero n h = omega arith
digits_most_lem zero (suc fuel) n h = go _ refl
  where
    go : (t : Bool) → ltb n 10 ≡ t → length (pick t fuel n) ≤ 1
    go true e = omega arith
    go false e = absurd (omega (arith, ltb-false n 10 e))
digits_most_lem (suc k) (suc fuel) n h = go (digits_most_lem k fuel (n / 10)) _ refl
  where
    go : (n / 10 < 10 ^ suc k → length (digits_of fuel (n / 10)) ≤ suc k) → (t : Bool) → ltb n 10 ≡ t
        → length (pick t fuel n) ≤ suc (suc k)
    go ih true e = omega arith
    go ih false e =
        let p : 10 ^ suc (suc k) ≡ 10 * 10 ^ suc k = pow-succ' 10 (suc k) in
        let l : length (digits_of fuel (n / 10)) ≤ suc k = ih (omega arith) in
        simp length-append (omega arith)

pub decimal-most : (k n : ℕ) → n < 10 ^ suc k → length (decimal n) ≤ suc k
unfolding decimal
decimal-most k n h = digits_most_lem k n n h

-- ---- the last digit, and those before it

digits_small : (fuel n : ℕ) → n < 10 → digits_of fuel n ≡ (48 + n) ∷ []
digits_small zero n h = refl
digits_small (suc fuel) n h = ap (λ (t : Bool). pick t fuel n) (lt-ltb n 10 h)

digits_large : (fuel n : ℕ) → 10 ≤ n → digits_of (suc fuel) n ≡ digits_of fuel (n / 10) ++ ((48 + n % 10) ∷ [])
digits_large fuel n h = ap (λ (t : Bool). pick t fuel n) (le-ltb n 10 h)

-- more fuel than enough changes nothing
digits_fuel : (f g n : ℕ) → n ≤ f → n ≤ g → digits_of f n ≡ digits_of g n
digits_fuel zero g n h k = sym (digits_small g n (omega arith))
digits_fuel (suc f) zero n h k = digits_small (suc f) n (omega arith)
digits_fuel (suc f) (suc g) n h k = go (ltb n 10) refl (digits_fuel f g (n / 10))
  where
    go : (t : Bool) → ltb n 10 ≡ t → (n / 10 ≤ f → n / 10 ≤ g → digits_of f (n / 10) ≡ digits_of g (n / 10)) → pick t f n ≡ pick t g n
    go true e ih = refl
    go false e ih = rw (ih (omega (arith, ltb-false)) (omega (arith, ltb-false)))

pub decimal_digit : (n : ℕ) → n < 10 → decimal n ≡ (48 + n) ∷ []
unfolding decimal
decimal_digit n h = digits_small n n h

pub decimal-last : (n : ℕ) → 10 ≤ n → decimal n ≡ decimal (n / 10) ++ ((48 + n % 10) ∷ [])
unfolding decimal
decimal-last zero h = absurd (omega arith)
decimal-last (suc n) h =
    digits_large n (suc n) h
    ∙ ap (λ (l : List ℕ). l ++ ((48 + suc n % 10) ∷ [])) (digits_fuel n (suc n / 10) (suc n / 10) (omega arith) (omega arith))

-- ---- how many digits

pub decimal-some : (n : ℕ) → 0 < length (decimal n)
decimal-some n = elim (dec_le 10 n) [
  | yes h ↦ rw (decimal-last n h, length-append) (omega arith)
  | no h ↦ rw (decimal_digit n (omega arith)) (omega arith)
]

-- a number from 10 ^ k on has more than k digits
pub decimal-least : (k n : ℕ) → 10 ^ k ≤ n → k < length (decimal n)
decimal-least zero n h = decimal-some n
decimal-least (suc k) n h =
    let p : 10 ^ suc k ≡ 10 * 10 ^ k = pow-succ' 10 k in
    let q : 1 ≤ 10 ^ k = one-le-pow k 10 (omega arith) in
    let l : k < length (decimal (n / 10)) = decimal-least k (n / 10) (omega arith) in
    rw (decimal-last n (omega arith), length-append) (omega arith)

-- so that a number's range says how many digits it has
pub decimal-length : (k n : ℕ) → 10 ^ k ≤ n → n < 10 ^ suc k → length (decimal n) ≡ suc k
decimal-length k n h l = omega (arith, decimal-least k n h, decimal-most k n l)

pub decimal-short : (n : ℕ) → n < 10 → length (decimal n) ≡ 1
decimal-short n l = rw (decimal_digit n l)

-- ---- plain decimal is unique

-- a digit lies between '0' and '9'
pub digit_low : (b : ℕ) → is_digit b ≡ true → 48 ≤ b
digit_low b e = leb-true 48 b (and_left (leb 48 b) (leb b 57) e)

pub digit-high : (b : ℕ) → is_digit b ≡ true → b ≤ 57
digit-high b e = leb-true b 57 (and_right (leb 48 b) (leb b 57) e)

-- digits read after a number stand behind its own
decimal-behind : (bs : List ℕ) (n : ℕ) → 0 < n → all_digits bs ≡ true → decimal (value_from n bs) ≡ decimal n ++ bs
decimal-behind [] n h e = sym (append-nil (decimal n))
decimal-behind (b ∷ bs) n h e =
    let l : 48 ≤ b = digit_low b (every_first is_digit b bs e) in
    let u : b ≤ 57 = digit-high b (every_first is_digit b bs e) in
    let p : (n * 10 + (b - 48)) / 10 ≡ n = omega arith in
    let q : 48 + (n * 10 + (b - 48)) % 10 ≡ b = omega arith in
    let r : decimal (n * 10 + (b - 48)) ≡ decimal n ++ (b ∷ []) = rw (decimal-last (n * 10 + (b - 48)) (omega arith), p, q) in
    rw (decimal-behind bs (n * 10 + (b - 48)) (omega arith) (every-other is_digit b bs e), r, append_assoc)

-- one digit is what its own value is printed as
digit_again : (b : ℕ) → is_digit b ≡ true → decimal (0 * 10 + (b - 48)) ≡ b ∷ []
digit_again b e =
    let l : 48 ≤ b = digit_low b e in
    let u : b ≤ 57 = digit-high b e in
    let q : 48 + (0 * 10 + (b - 48)) ≡ b = omega arith in
    rw (decimal_digit (0 * 10 + (b - 48)) (omega arith), q)

-- plain decimal is what its number is printed as
pub plain_unique : (s : List ℕ) → plain_decimal s ≡ true → decimal (value s) ≡ s
unfolding plain_decimal value
plain_unique [] e = absurd (false≢true e)
plain_unique (b ∷ []) e = digit_again b (every_first is_digit b [] (and_left (all_digits (b ∷ [])) true e))
plain_unique (b ∷ c ∷ bs) e =
    let ds : all_digits (b ∷ c ∷ bs) ≡ true = and_left (all_digits (b ∷ c ∷ bs)) (not (eqb b 48)) e in
    let d : is_digit b ≡ true = every_first is_digit b (c ∷ bs) ds in
    let l : 48 ≤ b = digit_low b d in
    let z : b ≡ 48 → ⊥ = eqb-false b 48 (not-true (eqb b 48) (and_right (all_digits (b ∷ c ∷ bs)) (not (eqb b 48)) e)) in
    rw (decimal-behind (c ∷ bs) (0 * 10 + (b - 48)) (omega arith) (every-other is_digit b (c ∷ bs) ds), digit_again b d)

-- no two numbers are printed alike
pub decimal-one : (m n : ℕ) → decimal m ≡ decimal n → m ≡ n
decimal-one m n e = sym (value-decimal m) ∙ ap value e ∙ value-decimal n

-- what was printed is read back, up to any bound that it keeps
pub decimal-read : (most n : ℕ) → n ≤ most → decimal_up_to most (decimal n) ≡ Ok n
unfolding decimal_up_to
decimal-read most n h = rw (plain-decimal n, value-decimal n, le-leb n most h)
