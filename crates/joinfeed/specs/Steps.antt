-- What one call of the joiner, and what a list of them, leaves behind the lines that were written before.
use Rattle.std.specs.Prelude.{ℕ, ◌≡◌, List}
use Rattle.escape.specs.Answers.{Written}
use Rattle.joiner.specs.Joiner.{State, state}
use Rattle.joiner.specs.Whole.{Call, called, all_shown, after_all}
use Rattle.joinfeed.specs.Lines.{text_lines, count_refused, all_refused}
use Rattle.joinfeed.specs.declared.Progress.{Progress}

pub record Steps (j : State) (c : Call) (out : List ℕ) (at : ℕ) (r : Progress) (buffer' out' : List ℕ) : Type 0 where
  pub lines : Written out at (text_lines (called j c).shown) r.end out'
  pub joiner : state r.joiner.slots r.joiner.last buffer' ≡ (called j c).joiner
  pub refused : r.refused ≡ count_refused (called j c).answer

pub record Runs (j : State) (cs : List Call) (out : List ℕ) (at : ℕ) (r : Progress) (buffer' out' : List ℕ) : Type 0 where
  pub lines : Written out at (text_lines (all_shown j cs)) r.end out'
  pub joiner : state r.joiner.slots r.joiner.last buffer' ≡ after_all j cs
  pub refused : r.refused ≡ all_refused j cs
