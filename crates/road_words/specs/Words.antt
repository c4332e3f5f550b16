-- The random words of a plan: one for each stream and place.
use Rattle.std.specs.Prelude.{ℕ, ◌+◌, ◌*◌, ◌%◌, List, ◌++◌, replicate}
use Rattle.std.specs.Int.{w64, to_be_bytes}
use Rattle.rand_chacha.specs.ChaCha.{word_at, key_of}
use Rattle.road_plan.specs.declared.parts.WordKind.{WordKind}
use Rattle.road_plan.specs.declared.parts.WordKind.TheVariants.{Seeded, Steady}

-- the word of ChaCha8 (Bernstein 2008, four double rounds) for a key of 32 bytes: number `place % 16` of block
-- `place / 16` of the stream
abbrev pub chacha_word : List ℕ → ℕ → ℕ → ℕ
chacha_word key stream place = word_at 4 (key_of key) stream place

-- the key of a seed: its eight big-endian bytes, then 24 zeros
abbrev pub key_bytes : ℕ → List ℕ
key_bytes seed = to_be_bytes w64 seed ++ replicate 24 0

-- the word of a seed: the ChaCha8 word under the seed's key
abbrev pub seeded_word : ℕ → ℕ → ℕ → ℕ
seeded_word seed stream place = chacha_word (key_bytes seed) stream place

-- a word that is not random: its upper 16 bits are a linear function of stream and place, its lower 16 bits are 0
abbrev pub steady_word : ℕ → ℕ → ℕ
steady_word stream place = (stream * 40503 + place * 30011) % 65536 * 65536

-- the word that a plan selects
abbrev pub word : WordKind → ℕ → ℕ → ℕ
word (Seeded seed) stream place = seeded_word seed stream place
word Steady stream place = steady_word stream place
