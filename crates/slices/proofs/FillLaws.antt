-- A loop that puts bytes into a buffer where there is room for all of them: the place moves on with what is put, and what is
-- left to put fits behind it.
use Prim.Native.Nat.{ℕ, ◌+◌, ◌≤◌, ◌<◌}
use mathlib.Core.Path.{◌≡◌, refl, ◌∙◌}
use mathlib.Core.List.{List, [], ◌∷◌, ◌++◌}
use native.Mathlib.Omega.{arith}
use lib.ListN.{length, set, length-append}
use lib.Seq.{sets, length-sets}
use Rattle.slices.specs.Put.{put}
use Rattle.slices.proofs.PutLaws.{Putting, put_begin, put-end, sets-append}

pub record Filling (out₀ : List ℕ) (at : ℕ) (all out : List ℕ) (k : ℕ) (rest : List ℕ) : Type 0 where
  pub room : at + length all ≤ length out₀
  pub place : k + length rest ≡ at + length all
  pub size : length out ≡ length out₀
  pub putting : Putting out₀ at all out k rest

module _ {out₀ : List ℕ} {at : ℕ} {all : List ℕ} where
  pub fill_begin : at + length all ≤ length out₀ → Filling out₀ at all out₀ at all
  fill_begin h = record { room = h; place = refl; size = refl; putting = put_begin }

  module _ {out : List ℕ} {k : ℕ} where
    -- a run of bytes
    pub fill_fits-run : (xs rest : List ℕ) → Filling out₀ at all out k (xs ++ rest) → k + length xs ≤ length out
    fill_fits-run xs rest f = omega (arith, f.place, f.room, f.size, length-append xs rest)

    pub fill_on-run : (xs rest : List ℕ) → Filling out₀ at all out k (xs ++ rest)
        → Filling out₀ at all (sets out k xs) (k + length xs) rest
    fill_on-run xs rest f =
        record {
          room = f.room;
          place = omega (arith, f.place, length-append xs rest);
          size = length-sets out k xs ∙ f.size;
          putting = record { size = length-sets out k xs ∙ f.size; stores = rw (← sets-append xs rest out k) f.putting.stores };
        }

    -- one byte
    pub fill_fits : {x : ℕ} {rest : List ℕ} → Filling out₀ at all out k (x ∷ rest) → k < length out
    fill_fits {x} {rest} f = omega (arith, fill_fits-run (x ∷ []) rest f)

    pub fill_on : {x : ℕ} {rest : List ℕ} → Filling out₀ at all out k (x ∷ rest) → Filling out₀ at all (set out k x) (k + 1) rest
    fill_on {x} {rest} f = fill_on-run (x ∷ []) rest f

    pub fill_end : Filling out₀ at all out k [] → out ≡ put out₀ at all
    fill_end f = put-end [] refl f.room f.putting
