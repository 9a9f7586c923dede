-- A filling, write by write.
use Rattle.std.proofs.Common.{◌≡◌, ℕ, suc, ◌+◌, ◌-◌, ◌<◌, ◌≤◌, cond, List, refl, ◌∙◌, add-one, arith}
use Rattle.std.specs.Prelude.{ltb}
use Rattle.std.proofs.lemmas.Bool.{lt-ltb, le-ltb}
use Rattle.writes.specs.Write.{AfterWrite}
use Rattle.filling.specs.Filling.{Left, left, write, filled_from}

module _ (text : List ℕ) (n : ℕ) (at : Left) (w : AfterWrite) (wrote : w ≡ write text n at) (most : ℕ) (below : n < most) where
  begun : filled_from text (most - n) n at
      ≡ cond (ltb 0 w.dropped) (left w.log w.buffer) (filled_from text (most - (n + 1)) (n + 1) (left w.log w.buffer))
  unfolding filled_from
  begun =
      let e : most - n ≡ suc (most - (n + 1)) = omega arith in
      rw (e, add-one, wrote) refl

  -- the oldest is dropped: nothing more is written
  pub over : 0 < w.dropped → filled_from text (most - n) n at ≡ left w.log w.buffer
  over d = begun ∙ rw (lt-ltb 0 w.dropped d) refl

  -- none is dropped: it goes on
  pub onward : w.dropped ≤ 0 → filled_from text (most - n) n at ≡ filled_from text (most - (n + 1)) (n + 1) (left w.log w.buffer)
  onward d = begun ∙ rw (le-ltb 0 w.dropped d) refl

-- there is no record more
pub full : (text : List ℕ) (most n : ℕ) (at : Left) → most ≤ n → filled_from text (most - n) n at ≡ at
unfolding filled_from
full text most n at h = let e : most - n ≡ 0 = omega arith in rw e refl
