-- Known values of IEEE 802.3's CRC-32, computed from the definition.
use mathlib.Core.Path.{◌≡◌, refl}
use mathlib.Core.List.{[]}
use lib.ListN.{replicate}
use Rattle.slices.specs.Quoted.{quoted}
use Rattle.crc.specs.Crc.{crc32, on_bytes, on_byte, shifts, shifted}

pub nothing : crc32 [] ≡ 0
unfolding crc32 on_bytes
nothing = refl

-- 0xCBF43926
pub nine_digits : crc32 (quoted "123456789") ≡ 3421780262
unfolding crc32 on_bytes on_byte shifts shifted
nine_digits = refl

-- 0x190A55AD
pub zeros : crc32 (replicate 32 0) ≡ 420107693
unfolding crc32 on_bytes on_byte shifts shifted
zeros = refl

-- 0xFF6CAB0B
pub all_ones : crc32 (replicate 32 255) ≡ 4285311755
unfolding crc32 on_bytes on_byte shifts shifted
all_ones = refl

-- 0x414FA339
pub fox : crc32 (quoted "The quick brown fox jumps over the lazy dog") ≡ 1095738169
unfolding crc32 on_bytes on_byte shifts shifted
fox = refl
