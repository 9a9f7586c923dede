-- A quoted text as bytes, for cases that papers give in letters.
use Rattle.std.specs.Prelude.{ℕ, List, [], ◌∷◌}
use Prim.Native.Char.{code}
use Prim.Native.String.{String, [] as none, ◌∷◌ as ◌and◌}

-- the codes of its letters: bytes, where the text is ASCII
abbrev pub quoted : String → List ℕ
quoted none = []
quoted (c and s) = code c ∷ quoted s
