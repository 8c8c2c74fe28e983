-- Values of the reference implementation, so that a wrong definition does not check.
use Rattle.std.proofs.Common.{◌≡◌, ◌+◌, ◌*◌, ◌^◌, refl}
use Rattle.rand_core.specs.Pcg32Seed.{pcg32_seed}
use Rattle.rand_core.specs.Steps.{u32_at, word_bytes}
use Rattle.bg_cond.specs.Picks.{seeded, word_of, next_state}

pub first_words_of_zero : word_of (seeded 0 0) + word_of (next_state (seeded 0 0)) * 2 ^ 32 ≡ 18195738587432868099
unfolding seeded word_of next_state u32_at pcg32_seed word_bytes
first_words_of_zero = refl

pub sum_wraps : seeded 18446744073709551615 1 ≡ seeded 0 0
unfolding seeded
sum_wraps = refl
