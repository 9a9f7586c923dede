-- What a test says, as a proposition: the test holds if and only if the proposition does.
use Prim.Native.Nat.{ℕ, ◌≤◌, ◌<◌}
use mathlib.Core.Path.{◌≡◌, refl, sym}
use mathlib.Core.Logic.{◌⊎◌, inl, inr}
use mathlib.Core.Bool.{Bool, true, false, ◌&&◌, ◌||◌, not, false≢true}
use mathlib.Core.List.{List, [], ◌∷◌}
use lib.Dec.{leb, ltb, eqb}
use borrow.Author.Tests.{ltb-true, lt-ltb, leb-true, le-leb, leb-false, lt-leb, eqb-true, eq-eqb, not-true}
use Rattle.slices.specs.Cut.{has}
use Rattle.slices.specs.Tests.{every}
use Rattle.slices.specs.Listed.{In, Some}

pub record Reflects (t : Bool) (P : Type 0) : Type 0 where
  pub says : t ≡ true → P
  pub told : P → t ≡ true

-- ---- tests put together

pub not_says : {t : Bool} {P : Type 0} → Reflects t P → Reflects (not t) (P → ⊥)
not_says {t} {P} r = record { says = λ e p. says t e (r.told p); told = λ n. told t n r.says }
  where
    says : (t : Bool) → not t ≡ true → t ≡ true → ⊥
    says true e q = false≢true e
    says false e q = false≢true q

    told : (t : Bool) → (P → ⊥) → (t ≡ true → P) → not t ≡ true
    told true n h = absurd (n (h refl))
    told false n h = refl

pub twice_says : (t : Bool) {P : Type 0} → Reflects t P → Reflects (not (not t)) P
twice_says true r = r
twice_says false r = r

pub and_says : {a b : Bool} {P Q : Type 0} → Reflects a P → Reflects b Q → Reflects (a && b) (P × Q)
and_says {a} {b} {P} {Q} r s = record { says = says a r.says; told = λ h. told a (r.told h.0) (s.told h.1) }
  where
    says : (t : Bool) → (t ≡ true → P) → t && b ≡ true → P × Q
    says true h e = (h refl, s.says e)
    says false h e = absurd (false≢true e)

    told : (t : Bool) → t ≡ true → b ≡ true → t && b ≡ true
    told true e f = f
    told false e f = e

pub or_says : {a b : Bool} {P Q : Type 0} → Reflects a P → Reflects b Q → Reflects (a || b) (P ⊎ Q)
or_says {a} {b} {P} {Q} r s = record { says = says a r.says; told = λ h. elim h [ inl p ↦ left a (r.told p) | inr q ↦ right a (s.told q) ] }
  where
    says : (t : Bool) → (t ≡ true → P) → t || b ≡ true → P ⊎ Q
    says true h e = inl (h refl)
    says false h e = inr (s.says e)

    left : (t : Bool) → t ≡ true → t || b ≡ true
    left true e = refl
    left false e = absurd (false≢true e)

    right : (t : Bool) → b ≡ true → t || b ≡ true
    right true e = refl
    right false e = e

-- not both hold: one of them fails
pub nand_says : (a b : Bool) {P Q : Type 0} → Reflects (not a) P → Reflects (not b) Q → Reflects (not (a && b)) (P ⊎ Q)
nand_says true b {P} r s =
    record { says = λ e. inr (s.says e); told = λ h. elim h [ inl p ↦ absurd (false≢true (r.told p)) | inr q ↦ s.told q ] }
nand_says false b r s = record { says = λ e. inl (r.says refl); told = λ h. refl }

-- ---- tests on numbers and lists

pub ltb_says : (a b : ℕ) → Reflects (ltb a b) (a < b)
ltb_says a b = record { says = ltb-true a b; told = lt-ltb a b }

pub leb_says : (a b : ℕ) → Reflects (leb a b) (a ≤ b)
leb_says a b = record { says = leb-true a b; told = le-leb a b }

pub above_says : (a b : ℕ) → Reflects (not (leb a b)) (b < a)
above_says a b = record { says = λ e. leb-false a b (not-true (leb a b) e); told = λ h. rw (lt-leb a b h) }

pub eqb_says : (a b : ℕ) → Reflects (eqb a b) (a ≡ b)
eqb_says a b = record { says = eqb-true a b; told = eq-eqb a b }

pub has_says : (c : ℕ) (xs : List ℕ) → Reflects (has c xs) (In c xs)
has_says c [] = record { says = λ e. false≢true e; told = λ h. absurd h }
has_says c (x ∷ xs) = or_says (record { says = λ e. sym (eqb-true x c e); told = λ e. eq-eqb x c (sym e) }) (has_says c xs)

-- not every one passes: one of them fails
pub not-every_says : {A : Type 0} (p : A → Bool) (P : A → Type 0) → ((x : A) → Reflects (not (p x)) (P x)) → (xs : List A)
    → Reflects (not (every p xs)) (Some P xs)
not-every_says p P r [] = record { says = λ e. false≢true e; told = λ h. absurd h }
not-every_says p P r (x ∷ xs) = nand_says (p x) (every p xs) (r x) (not-every_says p P r xs)
