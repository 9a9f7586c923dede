-- `number::write_few` meets its contract: the last two digits of more than two, and then the first.
use Prim.Native.Nat.{ℕ, ◌-◌, ◌<◌}
use mathlib.Core.Path.{◌∙◌}
use mathlib.Core.List.{List}
use native.Mathlib.Omega.{arith}
use Rattle.number.proofs.PrintLaws.{Printing, print_begin, print_pair, print_end, pair-room, front_room}
use Rattle.number.proofs.write_few.Goals.{After-write_front-arg-1, then-value-ge100, else-value-ge100}
use Rattle.number.proofs.write_few.Goals as goal

-- what is left behind the last two digits, where there are more
record Front (out₀ : List ℕ) (at value first : ℕ) (out : List ℕ) : Type 0 where
  end : ℕ
  small : first < 100
  printing : Printing out₀ at value out end first

front : (c : After-write_front-arg-1) → Front c.args.out.now c.args.at c.args.value c.if-value-ge100.first c.if-value-ge100.out
front c =
    let begin : Printing c.args.out.now c.args.at c.args.value c.args.out.now c.args.end c.args.value = print_begin c.requires.fact_2.0 c.requires.fact_2.1 in
    elim c.if-value-ge100.branch [
      | then-value-ge100 w ↦ record {
        end = c.args.end - 2;
        small = rw w.first-is (omega (arith, c.requires.fact_1));
        printing = rw w.first-is (print_pair begin w.if-value-ge100.true (w.out-is ∙ w.write_pair.ensures));
      }
      | else-value-ge100 w ↦ record {
        end = c.args.end;
        small = rw w.first-is (omega arith);
        printing = rw (w.out-is, w.first-is) begin;
      }
    ]

pub overflow_sub-end : goal.overflow_sub-end
overflow_sub-end c =
    omega (arith, pair-room (print_begin {out = c.args.out.now} c.requires.fact_2.0 c.requires.fact_2.1) c.if-value-ge100.true)

pub write_pair-requires : goal.write_pair-requires
write_pair-requires c =
    let r : Printing c.args.out.now c.args.at c.args.value c.args.out.now c.args.end c.args.value = print_begin c.requires.fact_2.0 c.requires.fact_2.1 in
    (omega arith, omega (arith, pair-room r c.if-value-ge100.true, c.requires.fact_2.1))

pub write_front-requires : goal.write_front-requires
write_front-requires c = let f = front (goal.at.write_front-requires c).After-write_front-arg-1 in (f.small, front_room f.printing)

pub returns : goal.returns
returns c = let f = front (goal.at.returns c).After-write_front-arg-1 in print_end f.printing c.write_front.ensures
