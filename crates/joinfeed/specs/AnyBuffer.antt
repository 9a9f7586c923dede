-- The program writes the same, whatever its texts' buffer held at first.
use Rattle.std.specs.Prelude.{ℕ, ◌≡◌, List, length}
use Rattle.channel.specs.Channel.{buffer_size}
use Rattle.joinfeed.specs.Lines.{output}

abbrev pub AnyBuffer : Type 0
AnyBuffer = (a b input : List ℕ) → length a ≡ buffer_size → length b ≡ buffer_size → output a input ≡ output b input
