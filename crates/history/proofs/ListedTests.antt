-- The tests that the calls make, and the phrases of "When the log says no" that they stand for.
use Prim.Native.Nat.{ℕ, ◌+◌, ◌*◌, ◌<◌, ◌≤◌}
use mathlib.Core.Path.{◌≡◌, refl, ap, sym, ◌∙◌}
use mathlib.Core.Logic.{◌⊎◌, inl, inr}
use mathlib.Core.Bool.{Bool, true, false, cond, not, ◌&&◌, ◌||◌, true≢false, false≢true}
use mathlib.Core.List.{List, [], ◌∷◌}
use native.Mathlib.Decide.{dec_lt}
use native.Mathlib.Omega.{arith}
use borrow.Author.Tests.{ltb-true, lt-ltb, le-leb, lt-leb, eqb-true, eq-eqb, not-true}
use lib.Dec.{ltb, eqb}
use lib.IntN.{ℤ, pos, negsuc}
use lib.ListN.{length}
use Rattle.slices.specs.Cut.{has}
use Rattle.slices.specs.Listed.{In}
use Rattle.slices.proofs.ReflectLaws.{Reflects, not_says, and_says, or_says, ltb_says, leb_says, eqb_says, has_says}
use Rattle.record.specs.Limits.{payload_most, facility_most, level_most}
use Rattle.record.specs.Dictionary.{is_dictionary, Dictionary}
use Rattle.record.proofs.DictionaryLaws.{dictionary_says}
use Rattle.eventlog.specs.Answer.{is, one_of, is_negative, natural}
use Rattle.eventlog.specs.View.{View, next_of}
use Rattle.eventlog.specs.Excess.{total}
use Rattle.store.proofs.StoredLaws.{length-bytes}
use Rattle.image.specs.Block.{block_size}
use Rattle.image.specs.Coding.{joined}
use Rattle.image.specs.Image.{blocks_for, image}
use Rattle.image.specs.Editions.{coded, saved_edition}
use Rattle.image.proofs.StreamLaws.{length-blocks}
use Rattle.image.proofs.EditionLaws.{joined_is}
use Rattle.savedtrail.specs.Save.{image_for}
use Rattle.syslog.specs.Command.{copies, is_known, is_permitted, wants_level}
use Rattle.syslog.specs.declared.Asked.{Asked}
use Rattle.syslog.proofs.RefusalLaws.{known_is}
use Rattle.history.specs.Listed.{Copying, Open}
use Rattle.history.proofs.Demand1.{never}

-- said in other words
pub same_says : {t : Bool} {P Q : Type 0} → Reflects t P → (P → Q) → (Q → P) → Reflects t Q
same_says r f g = record { says = λ e. f (r.says e); told = λ q. r.told (g q) }

-- a flag that is on, and one that is off
off_says : (t : Bool) → Reflects (not t) (t ≡ false)
off_says true = record { says = λ e. absurd (false≢true e); told = λ e. absurd (true≢false e) }
off_says false = record { says = λ e. refl; told = λ e. refl }

pub holds_says : (t : Bool) → Reflects t (t ≡ true)
holds_says t = record { says = λ e. e; told = λ e. e }

-- ---- signed numbers

pub is_says : (z : ℤ) (k : ℕ) → Reflects (is z k) (z ≡ pos k)
is_says (pos n) k = record { says = λ e. ap pos (eqb-true n k e); told = λ e. same n k e }
  where
    same : (n k : ℕ) → pos n ≡ pos k → eqb n k ≡ true
    same n k e =
        let f : n ≡ k = cc in
        eq-eqb n k f
is_says (negsuc n) k = record { says = λ e. absurd (false≢true e); told = λ e. never k n (sym e) }

-- one of some
abbrev pub OneOf : ℤ → List ℕ → Type 0
OneOf z [] = ⊥
OneOf z (k ∷ ks) = (z ≡ pos k) ⊎ OneOf z ks

pub one_says : (z : ℤ) (ks : List ℕ) → Reflects (one_of z ks) (OneOf z ks)
one_says z [] = record { says = λ e. false≢true e; told = λ h. absurd h }
one_says z (k ∷ ks) = go (is z k) (is_says z k) (one_says z ks)
  where
    go : (t : Bool) → Reflects t (z ≡ pos k) → Reflects (one_of z ks) (OneOf z ks) → Reflects (cond t true (one_of z ks)) ((z ≡ pos k) ⊎ OneOf z ks)
    go true r s = record { says = λ e. inl (r.says refl); told = λ h. refl }
    go false r s =
        record { says = λ e. inr (s.says e); told = λ h. elim h [ inl e ↦ absurd (false≢true (r.told e)) | inr o ↦ s.told o ] }

-- below 0
pub record Below (z : ℤ) : Type 0 where
  pub size : ℕ
  pub is : z ≡ negsuc size

pub below_says : (z : ℤ) → Reflects (is_negative z) (Below z)
below_says (pos n) = record { says = λ e. absurd (false≢true e); told = λ b. never n b.size b.is }
below_says (negsuc n) = record { says = λ e. record { size = n; is = refl }; told = λ b. refl }

-- above a number
pub record Above (m : ℕ) (z : ℤ) : Type 0 where
  pub size : ℕ
  pub is : z ≡ pos size
  pub more : m < size

pub above_says : (m : ℕ) (z : ℤ) → Reflects (ltb m (natural z)) (Above m z)
above_says m z = record { says = says z; told = λ a. rw a.is (lt-ltb m a.size a.more) }
  where
    says : (z : ℤ) → ltb m (natural z) ≡ true → Above m z
    says (pos n) e = record { size = n; is = refl; more = ltb-true m n e }
    says (negsuc n) e = absurd (omega (arith, ltb-true m 0 e))

-- ---- commands

pub copying_says : (z : ℤ) → Reflects (copies z) (Copying z)
copying_says z =
    same_says (one_says z (2 ∷ 3 ∷ 4 ∷ []))
    (λ h. elim h [ inl a ↦ inl a | inr h ↦ elim h [ inl b ↦ inr (inl b) | inr h ↦ elim h [ inl c ↦ inr (inr c) | inr n ↦ absurd n ] ] ])
    (λ h. elim h [ inl a ↦ inl a | inr h ↦ elim h [ inl b ↦ inr (inl b) | inr c ↦ inr (inr (inl c)) ] ])

abbrev pub Unknown : ℤ → Type 0
Unknown z = (n : ℕ) → n ≤ 10 → z ≡ pos n → ⊥

pub unknown_says : (z : ℤ) → Reflects (not (is_known z)) (Unknown z)
unknown_says z = record { says = says; told = told z }
  where
    says : not (is_known z) ≡ true → Unknown z
    says e n h q =
        let k : is_known z ≡ true = ap is_known q ∙ sym (known_is (pos n)) ∙ le-leb n 10 h in
        true≢false (sym k ∙ not-true (is_known z) e)

    told : (z : ℤ) → Unknown z → not (is_known z) ≡ true
    told (pos n) h = elim (dec_lt 10 n) [
      | yes g ↦
          let k : is_known (pos n) ≡ false = sym (known_is (pos n)) ∙ lt-leb n 10 g in
          rw k
      | no g ↦ absurd (h n (omega arith) refl)
    ]
    told (negsuc n) h = refl

open_says : (a : Asked) → Reflects (one_of a.command (3 ∷ 10 ∷ []) && not a.restriction) (Open a)
open_says a =
    same_says (and_says (one_says a.command (3 ∷ 10 ∷ [])) (off_says a.restriction))
    (λ h. record {
      type = elim h.0 [ inl e ↦ inl e | inr k ↦ elim k [ inl e ↦ inr e | inr n ↦ absurd n ] ];
      restriction = h.1;
    })
    (λ o. (elim o.type [ inl e ↦ inl e | inr e ↦ inr (inl e) ], o.restriction))

-- neither privilege nor an open command
pub record Barred (a : Asked) : Type 0 where
  pub privilege : a.privilege ≡ false
  pub closed : Open a → ⊥

pub barred_says : (a : Asked) → Reflects (not (is_permitted a)) (Barred a)
barred_says a =
    same_says (not_says (or_says (holds_says a.privilege) (open_says a)))
    (λ n. record { privilege = (off_says a.privilege).says ((not_says (holds_says a.privilege)).told (λ e. n (inl e))); closed = λ o. n (inr o) })
    (λ b h. elim h [ inl e ↦ true≢false (sym e ∙ b.privilege) | inr o ↦ b.closed o ])

abbrev pub NoLevel : ℤ → Type 0
NoLevel z = (n : ℕ) → 1 ≤ n → n ≤ 8 → z ≡ pos n → ⊥

pub level_says : (z : ℤ) → Reflects (not (wants_level z)) (NoLevel z)
level_says z = record { says = says; told = told z }
  where
    says : not (wants_level z) ≡ true → NoLevel z
    says e n l h q =
        let k : wants_level (pos n) ≡ true = rw (le-leb 1 n l, le-leb n 8 h) in
        true≢false (sym (ap wants_level q ∙ k) ∙ not-true (wants_level z) e)

    told : (z : ℤ) → NoLevel z → not (wants_level z) ≡ true
    told (pos n) h =
        (not_says (and_says (leb_says 1 n) (leb_says n 8))).told (λ p. h n p.0 p.1 refl)
    told (negsuc n) h = refl

-- ---- the rows that have more than one phrase, or more than one part

pub outside_says : (bytes : List ℕ) → Reflects (ltb payload_most (length bytes) || has 0 bytes) ((payload_most < length bytes) ⊎ In 0 bytes)
outside_says bytes = or_says (ltb_says payload_most (length bytes)) (has_says 0 bytes)

abbrev pub WrongBox : ℕ → ℕ → List ℕ → List ℕ → Type 0
WrongBox facility level text dictionary =
    (facility_most < facility)
    ⊎ ((level_most < level) ⊎ ((payload_most < length text + length dictionary) ⊎ (Dictionary dictionary → ⊥)))

pub box_says : (facility level : ℕ) (text dictionary : List ℕ)
    → Reflects (ltb facility_most facility || (ltb level_most level || (ltb payload_most (length text + length dictionary) || not (is_dictionary dictionary))))
    (WrongBox facility level text dictionary)
box_says facility level text dictionary =
    or_says (ltb_says facility_most facility)
    (or_says (ltb_says level_most level)
    (or_says (ltb_says payload_most (length text + length dictionary)) (not_says (dictionary_says dictionary))))

abbrev pub WrongCommand : Asked → Type 0
WrongCommand a =
    Unknown a.command ⊎ ((Copying a.command × Below a.len) ⊎ ((a.command ≡ pos 8) × NoLevel a.len))

pub command_says : (a : Asked)
    → Reflects
    (not (is_known a.command) || ((copies a.command && is_negative a.len) || (is a.command 8 && not (wants_level a.len))))
    (WrongCommand a)
command_says a =
    or_says (unknown_says a.command)
    (or_says (and_says (copying_says a.command) (below_says a.len)) (and_says (is_says a.command 8) (level_says a.len)))

-- command 2's position is at next, or no record is held
abbrev pub nothing : View → Bool
nothing v = eqb v.marks.position (next_of v) || eqb (length v.records) 0

abbrev pub Nothing : View → Type 0
Nothing v = (v.marks.position ≡ next_of v) ⊎ (length v.records ≡ 0)

pub nothing_says : (v : View) → Reflects (nothing v) (Nothing v)
nothing_says v = or_says (eqb_says v.marks.position (next_of v)) (eqb_says (length v.records) 0)

pub unread_says : (v : View) (a : Asked)
    → Reflects (is a.command 2 && (ltb 0 (natural a.len) && nothing v)) ((a.command ≡ pos 2) × (Above 0 a.len × Nothing v))
unread_says v a = and_says (is_says a.command 2) (and_says (above_says 0 a.len) (nothing_says v))

pub lent_says : (a : Asked) (room : ℕ) → Reflects (copies a.command && ltb room (natural a.len)) (Copying a.command × Above room a.len)
lent_says a room = and_says (copying_says a.command) (above_says room a.len)

pub whence_says : (z : ℤ) → Reflects (not (one_of z (0 ∷ 2 ∷ 3 ∷ []))) (OneOf z (0 ∷ 2 ∷ 3 ∷ []) → ⊥)
whence_says z = not_says (one_says z (0 ∷ 2 ∷ 3 ∷ []))

-- ---- saving

-- 512 bytes for each begun 496 bytes of the records, and one block where there are none
pub length-image : (v : View) (number : ℕ) → length (image_for v number) ≡ block_size * blocks_for (total v.records)
unfolding image_for image
length-image v number =
    let s = joined (coded saved_edition) v.records in
    length-blocks (blocks_for (length s)) saved_edition 0 number s
    ∙ ap (λ (n : ℕ). block_size * blocks_for n) (ap length (joined_is v.records) ∙ length-bytes v.records)
