-- The lines that an answer gives, and those of more than one call.
use Prim.Native.Nat.{ℕ, ◌+◌, ◌≤◌}
use mathlib.Core.Path.{◌≡◌, refl, ap, sym, ◌∙◌}
use mathlib.Core.List.{List, [], ◌∷◌, ◌++◌, append-nil, append_assoc}
use native.Mathlib.Omega.{arith}
use lib.ListN.{length, take}
use Rattle.escape.specs.Answers.{Written}
use Rattle.feed.proofs.WriteLaws.{written_none}
use Rattle.joiner.specs.Joiner.{Answer, nothing, one, two, refused}
use Rattle.joiner.specs.Whole.{shown_by}
use Rattle.joiner.specs.declared.Text.{Text}
use Rattle.joinfeed.specs.Lines.{text_line, text_lines}

pub lines-append : (xs ys : List (ℕ × List ℕ)) → text_lines (xs ++ ys) ≡ text_lines xs ++ text_lines ys
lines-append [] ys = refl
lines-append ((f, text) ∷ xs) ys =
    ap (λ (l : List ℕ). text_line f text ++ l) (lines-append xs ys) ∙ sym (append_assoc (text_line f text) (text_lines xs) (text_lines ys))

-- ---- the lines of one answer

abbrev lines_by : Answer → List ℕ → List ℕ → List ℕ
lines_by answer first second = text_lines (shown_by answer first second)

module _ (first second : List ℕ) {answer : Answer} where
  module _ {out : List ℕ} {at : ℕ} (h : at + length (lines_by answer first second) ≤ length out) where
    pub none_written : answer ≡ nothing → Written out at (lines_by answer first second) at out
    none_written e = rw e (written_none (omega arith))

    pub refused-written : {n : ℕ} → answer ≡ refused n → Written out at (lines_by answer first second) at out
    refused-written e = rw e (written_none (omega arith))

  pub one_line : {t : Text} {text : List ℕ} → answer ≡ one t → text ≡ take t.size first → text_line t.facility text ≡ lines_by answer first second
  one_line {t} e p = rw (e, p) (sym (append-nil (text_line t.facility (take t.size first))))

  pub two-lines : {t u : Text} {text next : List ℕ} → answer ≡ two t u → text ≡ take t.size first → next ≡ take u.size second
      → text_line t.facility text ++ text_line u.facility next ≡ lines_by answer first second
  two-lines {t} {u} e p q =
      rw (e, p, q) (ap (λ (l : List ℕ). text_line t.facility (take t.size first) ++ l) (sym (append-nil (text_line u.facility (take u.size second)))))
