-- The words that a worker picks by. The generator is the `Pcg32` that the contracts of `rand_pcg` define.
use Rattle.std.specs.Prelude.{ℕ, ◌+◌, ◌%◌, ◌^◌}
use Rattle.rand_core.specs.Pcg32Seed.{pcg32_seed}
use Rattle.rand_pcg.specs.Lcg.{Lcg}
use Rattle.rand_pcg.specs.Pcg.{pcg32, pcg32_of_seed}

-- the state of the generator of that worker: it is seeded by the sum of the seed and the number of the worker, which wraps at 64
-- bits
unfoldable pub seeded : ℕ → ℕ → Lcg
seeded seed worker = pcg32_of_seed (pcg32_seed 16 ((seed + worker) % 2 ^ 64))

-- the word that a state gives
unfoldable pub word_of : Lcg → ℕ
word_of state = (pcg32 state).0

-- the state behind that word
unfoldable pub next_state : Lcg → Lcg
next_state state = (pcg32 state).1

-- the place that a state picks among so many
abbrev pub picked : Lcg → ℕ → ℕ
picked state count = word_of state % count
