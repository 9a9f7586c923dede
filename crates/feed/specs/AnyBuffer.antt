-- The receiver program writes the same, whatever its board's buffer held at first.
use Rattle.std.specs.Prelude.{ℕ, ◌≡◌, List, length}
use Rattle.feed.specs.Feed.{output}

abbrev pub AnyBuffer : Type 0
AnyBuffer = (a b input : List ℕ) → length a ≡ length b → output a input ≡ output b input
