-- Bytes that are zero.
use Rattle.std.specs.Prelude.{ℕ, List, replicate}

-- n zero bytes. A proof unfolds it where it needs to, since a region's zeros are too many to write out
unfoldable pub zeros : ℕ → List ℕ
zeros n = replicate n 0
