-- A call that answers by the first test that holds gets exactly the refusals that its table lists.
use Prim.Native.Nat.{ℕ}
use mathlib.Core.Path.{◌≡◌, refl, ap, sym, ◌∙◌, subst}
use mathlib.Core.Logic.{◌⊎◌, inl, inr}
use mathlib.Core.Bool.{Bool, true, false, ◌&&◌, ◌||◌, not, cond, true≢false, false≢true}
use mathlib.Core.List.{List, [], ◌∷◌, map}
use lib.Dec.{eqb}
use borrow.Author.Tests.{eq-eqb}
use Rattle.slices.specs.Cut.{has}
use Rattle.slices.specs.Tests.{first_of}
use Rattle.slices.specs.Listed.{In, Earlier, Exactly}
use Rattle.slices.proofs.Bools.{and_left, and_right}

-- ---- rows that are told apart by their numbers

-- no two rows of one number, no row twice, and what is answered when done is no row's number
pub record Numbered {R A : Type 0} (rows : List R) (number : R → A) (done : A) : Type 0 where
  pub one : (r s : R) → In r rows → In s rows → number r ≡ number s → r ≡ s
  pub once : (r : R) → Earlier r r rows → ⊥
  pub none : (r : R) → In r rows → done ≡ number r → ⊥

-- no number stands twice
abbrev pub apart : List ℕ → Bool
apart [] = true
apart (n ∷ ns) = not (has n ns) && apart ns

true-not : (t : Bool) → not t ≡ true → t ≡ true → ⊥
true-not t a b = true≢false (sym a ∙ ap not b)

module _ {R : Type 0} (x y : R) where
  pub earlier_in : (zs : List R) → Earlier x y zs → In x zs
  earlier_in [] h = h
  earlier_in (z ∷ zs) h = elim h [ inl p ↦ inl p.0 | inr k ↦ inr (earlier_in zs k) ]

  pub later_in : (zs : List R) → Earlier x y zs → In y zs
  later_in [] h = h
  later_in (z ∷ zs) h = elim h [ inl p ↦ inr p.1 | inr k ↦ inr (later_in zs k) ]

module _ {R : Type 0} (code : R → ℕ) where
  has_code : (r : R) (rows : List R) → In r rows → has (code r) (map code rows) ≡ true
  has_code r [] h = absurd h
  has_code r (s ∷ rows) h = go (eqb (code s) (code r)) refl h (has_code r rows)
    where
      go : (t : Bool) → eqb (code s) (code r) ≡ t → (r ≡ s) ⊎ In r rows → (In r rows → has (code r) (map code rows) ≡ true)
          → t || has (code r) (map code rows) ≡ true
      go true q h ih = refl
      go false q (inl e) ih = absurd (false≢true (sym q ∙ eq-eqb (code s) (code r) (ap code (sym e))))
      go false q (inr k) ih = ih k

  -- a number that stands in front of a list without it is no row's
  fresh : (n : ℕ) (rows : List R) → not (has n (map code rows)) ≡ true → (r : R) → In r rows → n ≡ code r → ⊥
  fresh n rows h r i e =
      true-not (has n (map code rows)) h (ap (λ (k : ℕ). has k (map code rows)) e ∙ has_code r rows i)

  one_code : (rows : List R) → apart (map code rows) ≡ true → (r s : R) → In r rows → In s rows → code r ≡ code s → r ≡ s
  one_code [] h r s i j e = absurd i
  one_code (z ∷ zs) h r s i j e =
      let a : not (has (code z) (map code zs)) ≡ true = and_left (not (has (code z) (map code zs))) (apart (map code zs)) h in
      let b : apart (map code zs) ≡ true = and_right (not (has (code z) (map code zs))) (apart (map code zs)) h in
      elim i [
        | inl p ↦ elim j [
          | inl q ↦ p ∙ sym q
          | inr l ↦ absurd (fresh (code z) zs a s l (ap code (sym p) ∙ e))
        ]
        | inr k ↦ elim j [
          | inl q ↦ absurd (fresh (code z) zs a r k (ap code (sym q) ∙ sym e))
          | inr l ↦ one_code zs b r s k l e
        ]
      ]

  once_code : (rows : List R) → apart (map code rows) ≡ true → (r : R) → Earlier r r rows → ⊥
  once_code [] h r k = k
  once_code (z ∷ zs) h r k =
      elim k [
        | inl p ↦ fresh (code z) zs (and_left (not (has (code z) (map code zs))) (apart (map code zs)) h) r p.1 (ap code (sym p.0))
        | inr l ↦ once_code zs (and_right (not (has (code z) (map code zs))) (apart (map code zs)) h) r l
      ]

-- by one computed test, where answers have codes
pub numbered : {R A : Type 0} (code : A → ℕ) (rows : List R) (number : R → A) (done : A)
    → apart (code done ∷ map (λ (r : R). code (number r)) rows) ≡ true
    → Numbered rows number done
numbered {R} {A} code rows number done h =
    let f : R → ℕ = λ (r : R). code (number r) in
    let a : not (has (code done) (map f rows)) ≡ true = and_left (not (has (code done) (map f rows))) (apart (map f rows)) h in
    let b : apart (map f rows) ≡ true = and_right (not (has (code done) (map f rows))) (apart (map f rows)) h in
    record {
      one = λ r s i j e. one_code f rows b r s i j (ap code e);
      once = once_code f rows b;
      none = λ r i e. fresh f (code done) rows a r i (ap code e);
    }

-- ---- the first test that holds

module _ {R A : Type 0} (number : R → A) (test : R → Bool) (done : A) where
  abbrev answered : List R → A
  answered rows = first_of (map (λ (r : R). (test r, number r)) rows) done

  -- a row whose test holds, and no earlier one's
  record First (rows : List R) (r : R) : Type 0 where
    row : In r rows
    holds : test r ≡ true
    before : (e : R) → Earlier e r rows → test e ≡ true → ⊥
    is : answered rows ≡ number r

  data Answer (rows : List R) : Type 0 where
    first : (r : R) → First rows r → Answer rows
    none : answered rows ≡ done → Answer rows

  abbrev Once : List R → Type 0
  Once rows = (r : R) → Earlier r r rows → ⊥

  answer_of_lem : (rows : List R) → Once rows → Answer rows
  answer_of_lem [] u = none refl
  answer_of_lem (z ∷ zs) u = go (test z) refl (answer_of_lem zs (λ r k. u r (inr k)))
    where
      go : (t : Bool) → test z ≡ t → Answer zs → Answer (z ∷ zs)
      go true q a =
          first z
          (record {
            row = inl refl;
            holds = q;
            before = λ e k t. elim k [ inl p ↦ u z (inl (refl, p.1)) | inr l ↦ u z (inl (refl, later_in e z zs l)) ];
            is = rw q;
          })
      go false q (none e) = none (rw q e)
      go false q (first r f) =
          first r
          (record {
            row = inr f.row;
            holds = f.holds;
            before = λ e k t. elim k [ inl p ↦ false≢true (sym q ∙ ap test (sym p.0) ∙ t) | inr l ↦ f.before e l t ];
            is = rw q f.is;
          })

  always-first : (rows : List R) (r : R) → In r rows → test r ≡ true → ((e : R) → Earlier e r rows → test e ≡ true → ⊥)
      → answered rows ≡ number r
  always-first [] r i t b = absurd i
  always-first (z ∷ zs) r i t b = go (test z) refl i (λ k. always-first zs r k t (λ e l. b e (inr l)))
    where
      go : (x : Bool) → test z ≡ x → (r ≡ z) ⊎ In r zs → (In r zs → answered zs ≡ number r) → cond x (number z) (answered zs) ≡ number r
      go true q (inl p) ih = ap number (sym p)
      go false q (inl p) ih = absurd (false≢true (sym q ∙ ap test (sym p) ∙ t))
      go true q (inr k) ih = absurd (b z (inl (refl, k)) q)
      go false q (inr k) ih = ih k

  none_first : (rows : List R) → ((r : R) → In r rows → test r ≡ true → ⊥) → answered rows ≡ done
  none_first [] n = refl
  none_first (z ∷ zs) n = go (test z) refl (none_first zs (λ r k. n r (inr k)))
    where
      go : (x : Bool) → test z ≡ x → answered zs ≡ done → cond x (number z) (answered zs) ≡ done
      go true q e = absurd (n z (inl refl) q)
      go false q e = e

-- ---- the law

pub exactly : {R A : Type 0} (rows : List R) (number : R → A) (Applies : R → Type 0) (Done : Type 0) (test : R → Bool) (done answer : A)
    → ((r : R) → In r rows → test r ≡ true → Applies r)
    → ((r : R) → In r rows → Applies r → test r ≡ true)
    → Numbered rows number done
    → answer ≡ first_of (map (λ (r : R). (test r, number r)) rows) done
    → (answer ≡ done → Done)
    → Exactly rows number Applies Done answer
exactly {R} {A} rows number Applies Done test done answer sound complete n is finish =
    record {
      only = λ r i e. from r i e (answer_of_lem number test done rows n.once);
      always = λ r i a b. is ∙ always-first number test done rows r i (complete r i a) (λ e k t. b e k (sound e (earlier_in e r rows k) t));
      otherwise = λ b. finish (is ∙ none_first number test done rows (λ r i t. b r i (sound r i t)));
    }
  where
    from : (r : R) → In r rows → answer ≡ number r → Answer number test done rows
        → Applies r × ((e : R) → Earlier e r rows → Applies e → ⊥)
    from r i e (none d) = absurd (n.none r i (sym d ∙ sym is ∙ e))
    from r i e (first s f) =
        let q : s ≡ r = n.one s r f.row i (sym f.is ∙ sym is ∙ e) in
        (sound r i (ap test (sym q) ∙ f.holds), λ x k a. f.before x (subst (λ (y : R). Earlier x y rows) (sym q) k) (complete x (earlier_in x r rows k) a))
