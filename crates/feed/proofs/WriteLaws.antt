-- A report written where there is room for all of it: each part moves the place on, and what is left to write fits behind it.
use Rattle.std.specs.Prelude.{Option, Some, None, IsSome}
use Prim.Native.Nat.{ℕ, ◌+◌, ◌-◌, ◌≤◌, ◌<◌}
use mathlib.Core.Path.{◌≡◌, refl, ap, sym, ◌∙◌}
use mathlib.Core.Bool.{Bool, true, false, cond}
use mathlib.Core.List.{List, [], ◌∷◌, ◌++◌}
use native.Mathlib.Omega.{arith}
use lib.Dec.{leb}
use lib.ListN.{length, take, set, length-append}
use borrow.Author.Tests.{leb-true, leb-false}
use Rattle.slices.specs.Put.{put, Left, left, placed}
use Rattle.slices.proofs.PutLaws.{placed-room, sets-put, length-put, put-append, put-none}
use Rattle.slices.proofs.PutReads.{put-there}
use Rattle.slices.proofs.FillLaws.{Filling, fill_begin, fill_fits-run, fill_on-run, fill_end}
use Rattle.escape.specs.Answers.{Written}
use Rattle.board.specs.Board.{State, channels}
use Rattle.feed.specs.Feed.{channel_line, channel_lines}
use Rattle.feed.proofs.MeasureLaws.{lines_step, lines_end}

-- ---- what a call that puts bytes says by its answer

module _ (out : List ℕ) (at : ℕ) (bytes : List ℕ) {r : Option ℕ} {out' : List ℕ} (e : left r out' ≡ placed out at bytes) where
  pub placed_end : {k : ℕ} → r ≡ Some k → Written out at bytes k out'
  unfolding placed
  placed_end {k} q = go (leb (at + length bytes) (length out)) e
    where
      go : (t : Bool) → left r out' ≡ cond t (left (Some (at + length bytes)) (put out at bytes)) (left None out) → Written out at bytes k out'
      go true e =
          let a : r ≡ Some (at + length bytes) = ap (λ (l : Left). l.answer) e in
          record { place = cc; buffer = ap (λ (l : Left). l.buffer) e }
      go false e =
          let a : r ≡ None = ap (λ (l : Left). l.answer) e in
          let z : ◌≡◌ {A = ℕ} 0 1 = cc in
          absurd (omega arith)

  pub placed-some : at + length bytes ≤ length out → IsSome r
  placed-some h = rw (ap (λ (l : Left). l.answer) (e ∙ placed-room out at bytes h)) refl

  pub placed-full : r ≡ None → length out < at + length bytes
  unfolding placed
  placed-full q = go (leb (at + length bytes) (length out)) refl e
    where
      go : (t : Bool) → leb (at + length bytes) (length out) ≡ t → left r out' ≡ cond t (left (Some (at + length bytes)) (put out at bytes)) (left None out)
          → length out < at + length bytes
      go true p e =
          let a : r ≡ Some (at + length bytes) = ap (λ (l : Left). l.answer) e in
          let z : ◌≡◌ {A = ℕ} 0 1 = cc in
          absurd (omega arith)
      go false p e = leb-false (at + length bytes) (length out) p

  pub placed-fits : {k : ℕ} → r ≡ Some k → at + length bytes ≤ length out
  unfolding placed
  placed-fits {k} q = go (leb (at + length bytes) (length out)) refl e
    where
      go : (t : Bool) → leb (at + length bytes) (length out) ≡ t → left r out' ≡ cond t (left (Some (at + length bytes)) (put out at bytes)) (left None out)
          → at + length bytes ≤ length out
      go true p e = leb-true (at + length bytes) (length out) p
      go false p e =
          let a : r ≡ None = ap (λ (l : Left). l.answer) e in
          let z : ◌≡◌ {A = ℕ} 0 1 = cc in
          absurd (omega arith)

-- ---- parts written one behind the other

-- what was written in front stands there
pub written_front : (out bytes : List ℕ) {k : ℕ} {out' : List ℕ} → length bytes ≤ length out → Written out 0 bytes k out'
    → take k out' ≡ bytes
written_front out bytes {k} h w =
    let p : k ≡ length bytes = omega (arith, w.place) in
    rw (p, w.buffer) (put-there out 0 bytes (omega arith))

pub first-room : (at size : ℕ) (xs ys : List ℕ) → at + length (xs ++ ys) ≤ size → at + length xs ≤ size
first-room at size xs ys h = omega (arith, length-append xs ys)

module _ {out : List ℕ} {at : ℕ} where
  pub written-size : {bytes : List ℕ} {k : ℕ} {out' : List ℕ} → at + length bytes ≤ length out → Written out at bytes k out'
      → length out' ≡ length out
  written-size {bytes} h w = rw w.buffer (length-put out at bytes h)

  pub written_none : at ≤ length out → Written out at [] at out
  written_none h = record { place = omega arith; buffer = sym (put-none out at h) }

  pub written_byte : {x : ℕ} → at + length (x ∷ []) ≤ length out → Written out at (x ∷ []) (at + 1) (set out at x)
  written_byte {x} h = record { place = refl; buffer = sets-put out at (x ∷ []) h }

  module _ (xs ys : List ℕ) (h : at + length (xs ++ ys) ≤ length out) where
    module _ {k : ℕ} {out₁ : List ℕ} (w : Written out at xs k out₁) where
      pub second-room : k + length ys ≤ length out₁
      second-room = omega (arith, length-append xs ys, w.place, written-size (first-room at (length out) xs ys h) w)

      pub written_both : {k₂ : ℕ} {out₂ : List ℕ} → Written out₁ k ys k₂ out₂ → Written out at (xs ++ ys) k₂ out₂
      written_both v =
          let r : at + (length xs + length ys) ≤ length out = omega (arith, length-append xs ys) in
          record {
            place = rw length-append (omega (arith, v.place, w.place));
            buffer = rw (v.buffer, w.buffer, w.place) (put-append out at xs ys r);
          }

-- ---- a buffer that is filled by what is written

module _ {out₀ : List ℕ} {at : ℕ} {all out : List ℕ} {k : ℕ} where
  pub fill_written : (xs rest : List ℕ) {k' : ℕ} {out' : List ℕ} → Filling out₀ at all out k (xs ++ rest) → Written out k xs k' out'
      → Filling out₀ at all out' k' rest
  fill_written xs rest f w =
      rw (w.place, w.buffer, ← sets-put out k xs (fill_fits-run xs rest f)) (fill_on-run xs rest f)

  pub fill_done : Filling out₀ at all out k [] → Written out₀ at all k out
  fill_done f = record { place = omega (arith, f.place); buffer = fill_end f }

-- ---- the lines of all channels

pub record Writing (b : State) (out₀ out : List ℕ) (at i : ℕ) : Type 0 where
  pub bound : i ≤ channels
  pub filling : Filling out₀ 0 (channel_lines b 0 channels) out at (channel_lines b i (channels - i))

pub write_begin : {b : State} {out : List ℕ} → length (channel_lines b 0 channels) ≤ length out → Writing b out out 0 0
write_begin h = record { bound = omega arith; filling = fill_begin (omega arith) }

module _ {b : State} {out₀ out : List ℕ} {at i : ℕ} (r : Writing b out₀ out at i) where
  line-next : i < channels → Filling out₀ 0 (channel_lines b 0 channels) out at (channel_line b i ++ channel_lines b (i + 1) (channels - (i + 1)))
  line-next h = rw (lines_step b i h) at r.filling

  pub write_fits : i < channels → at + length (channel_line b i) ≤ length out
  write_fits h = fill_fits-run (channel_line b i) (channel_lines b (i + 1) (channels - (i + 1))) (line-next h)

  pub write_on : {at' : ℕ} {out' : List ℕ} → i < channels → Written out at (channel_line b i) at' out' → Writing b out₀ out' at' (i + 1)
  write_on h w =
      record {
        bound = omega arith;
        filling = fill_written (channel_line b i) (channel_lines b (i + 1) (channels - (i + 1))) (line-next h) w;
      }

  pub write_end : channels ≤ i → Written out₀ 0 (channel_lines b 0 channels) at out
  write_end h = fill_done (rw (lines_end b i h) at r.filling)
