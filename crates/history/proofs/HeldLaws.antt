-- What the history holds: the longest run of newest records that fits, and how it grows by an accepted one.
use Prim.Native.Nat.{ℕ, ◌+◌, ◌-◌, ◌≤◌}
use mathlib.Core.Path.{◌≡◌, ◌∙◌}
use mathlib.Core.List.{[], ◌∷◌}
use native.Mathlib.Omega.{arith}
use lib.ListN.{length, get_or, length-drop}
use lib.Seq.{drop-drop, drop-append-le, get_or-drop}
use Rattle.record.specs.Record.{Record, cost}
use Rattle.eventlog.specs.View.{next_of, record_at, no_record}
use Rattle.eventlog.proofs.ExcessLaws.{excess-some, excess-fits, excess-least, excess-twice, excess-append}
use Rattle.store.proofs.HoldsLaws.{goes, grown}
use Rattle.history.specs.Past.{Past, first_held, held, accept}
use Rattle.history.specs.Demand2.{HeldLongest}

pub held-longest : HeldLongest
unfolding first_held
held-longest p =
    record {
      some = excess-some p.capacity 0 p.all;
      fits = omega (arith, excess-fits p.capacity 0 p.all (omega arith));
      longest = λ k h. excess-least p.capacity 0 p.all k (omega arith);
    }

module _ (p : Past) where
  pub first_in : first_held p ≤ length p.all
  first_in = (held-longest p).some

  pub next-held : next_of (held p) ≡ length p.all
  unfolding next_of held
  next-held = simp length-drop (omega (arith, first_in))

  -- the record of a number that is held
  pub record_held : (n : ℕ) → first_held p ≤ n → record_at (held p) n ≡ get_or p.all n no_record
  unfolding record_at held
  record_held n h =
      let e : first_held p + (n - first_held p) ≡ n = omega arith in
      rw (get_or-drop (first_held p) p.all (n - first_held p) no_record, e)

  -- one accepted record more
  module _ (r : Record) (fits : cost r ≤ p.capacity) where
    pub first_grown : first_held (accept p r) ≡ first_held p + goes (held p) r
    unfolding first_held held
    first_grown = excess-append p.capacity p.all r fits ∙ excess-twice p.capacity (cost r) p.all

    gone_in : first_held p + goes (held p) r ≤ length p.all
    unfolding first_held
    gone_in = omega (arith, first_grown, excess-append p.capacity p.all r fits, excess-some p.capacity (cost r) p.all)

    pub held_grown : held (accept p r) ≡ grown (held p) r
    unfolding held
    held_grown =
        let e : first_held (accept p r) ≡ first_held p + goes (held p) r = first_grown in
        rw (e, drop-append-le (first_held p + goes (held p) r) p.all (r ∷ []) gone_in, drop-drop)
