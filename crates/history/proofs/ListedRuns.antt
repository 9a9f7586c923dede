-- Every call on any log over bytes is refused as the table lists; and every call in every run from a fresh log, in the words of the history.
use Rattle.std.specs.Prelude.{Ok}
use mathlib.Core.Path.{◌≡◌, ap, sym, ◌∙◌, subst}
use mathlib.Core.Bool.{false, false≢true}
use mathlib.Core.List.{List}
use Prim.Native.Nat.{ℕ}
use lib.ListN.{length}
use Rattle.eventlog.specs.View.{View}
use Rattle.eventlog.specs.Check.{checked, view_of}
use Rattle.store.proofs.FineHolds.{fine_marked}
use Rattle.history.specs.Calls.{Call, State}
use Rattle.history.specs.Past.{Past, held, fresh_past}
use Rattle.history.specs.Demand2.{fresh}
use Rattle.history.specs.Listed.{Asking, Listed, answered, RefusedAsListed, RunsAsListed}
use Rattle.history.proofs.SoundLaws.{Sound, sound-after, sound-fresh}
use Rattle.history.proofs.Demand2.{Agrees, is-fine, agree_after, agree_fresh}
use Rattle.history.proofs.ListedProof.{is_bad, bad_not-fine, not-fine_bad, fine_of, listed}

module _ (s : State) (p : Past) (a : Agrees s p) (ok : Sound p) where
  not_bad : is_bad (checked s.log s.buffer) ≡ false
  not_bad = ap is_bad (is-fine s p a ok)

  listed_now : (c : Call) → Asking p.readers c → Listed ⊥ (held p) p.readers c (answered s c)
  listed_now c h =
      let x = listed s ⊥ (λ e. false≢true (sym not_bad ∙ e)) (λ x. absurd x) (λ e. rw a.same ok.marked) c (rw a.readers h) in
      let y = subst (λ (v : View). Listed ⊥ v s.readers c (answered s c)) a.same x in
      subst (λ (readers : List ℕ). Listed ⊥ (held p) readers c (answered s c)) a.readers y

-- any log: a fine one over bytes has marks that fit
pub refused_as_listed : RefusedAsListed
unfolding view_of
refused_as_listed s bytes c h =
    let x = checked s.log s.buffer in
    listed s (x ≡ Ok tt → ⊥) (bad_not-fine x) (not-fine_bad x) (λ e. fine_marked s.log s.buffer (fine_of x e) bytes) c h

pub runs_as_listed : RunsAsListed
runs_as_listed buffer l h before t =
    let f = sound-fresh (length buffer) l in
    let a = agree_after before (fresh buffer) (fresh_past (length buffer)) (agree_fresh buffer l h) f t in
    let ok = sound-after before (fresh_past (length buffer)) f t in
    (is-fine _ _ a ok, λ c q. listed_now _ _ a ok c q)
