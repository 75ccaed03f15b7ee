-- A word of a memory after a raster operation.
use Rattle.std.specs.Prelude.{List, ℕ}
use Rattle.words.specs.Words.{word}
use Rattle.rop3.specs.Rop3.{applied}

-- table t on pattern, the source word for word i, and the word there
abbrev pub ropped : ℕ → ℕ → (ℕ → ℕ) → List ℕ → ℕ → ℕ
ropped t pat src m i = applied t pat (src i) (word m i)
