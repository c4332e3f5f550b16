-- Each word is a number of 32 bits.
use Rattle.std.specs.Prelude.{ℕ, ◌+◌, ◌*◌, ◌/◌, ◌%◌, ◌^◌, ◌<◌, List}
use Rattle.std.proofs.Common.{arith}
use Rattle.rand_chacha.specs.Block.{block_word, add32}
use Rattle.road_plan.specs.declared.parts.WordKind.{WordKind}
use Rattle.road_plan.specs.declared.parts.WordKind.TheVariants as kinds
use Rattle.road_words.specs.Words.{steady_word, word}
use Rattle.road_words.specs.PlanWords.{source_word}
use Rattle.road_words.specs.declared.plan_words.PlanWords.{PlanWords}
use Rattle.road_words.specs.declared.plan_words.PlanWords.TheVariants.{Seeded, Steady}

add32-small : (x y : ℕ) → add32 x y < 2 ^ 32
add32-small x y = omega arith

block_word-small : (n : ℕ) (key : List ℕ) (counter nonce k : ℕ) → block_word n key counter nonce k < 2 ^ 32
unfolding block_word
block_word-small n key counter nonce k = add32-small _ _

steady_word-small : (stream place : ℕ) → steady_word stream place < 2 ^ 32
steady_word-small stream place = let x = stream * 40503 + place * 30011 in small x
  where
    small : (x : ℕ) → x % 65536 * 65536 < 2 ^ 32
    small x = omega arith

-- no word has more than 32 bits
pub source_word-small : (words : PlanWords) (stream place : ℕ) → source_word words stream place < 2 ^ 32
source_word-small (Seeded words) stream place = block_word-small 4 _ (place / 16) stream (place % 16)
source_word-small (Steady words) stream place = steady_word-small stream place

pub word-small : (kind : WordKind) (stream place : ℕ) → word kind stream place < 2 ^ 32
word-small (kinds.Seeded seed) stream place = block_word-small 4 _ (place / 16) stream (place % 16)
word-small kinds.Steady stream place = steady_word-small stream place
