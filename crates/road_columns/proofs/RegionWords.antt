-- The words that the motion of the regions needs are in the rows or beside them.
use Rattle.std.specs.Prelude.{◌≢◌, ℕ, ◌+◌, ◌-◌, ◌*◌, ◌/◌, ◌%◌, ◌<◌, ◌≤◌, List, min, slice_index, slice_range}
use Rattle.std.proofs.Common.{ap, ◌∙◌, arith, inl, inr}
use Rattle.std.proofs.lemmas.Bool.{cases_lt}
use Rattle.road_plan.specs.declared.parts.WordKind.{WordKind}
use Rattle.road_words.specs.Words.{word}
use Rattle.road_columns.specs.Private.EnteredList.{entered_in, high16_in}
use Rattle.road_columns.specs.Private.LooseWords.{AreFalling, HaveLooseWords}
use Rattle.road_columns.specs.Private.Pieces.{IsHigh16At}
use Rattle.road_columns.specs.Private.Regions.{wish_at}
use Rattle.road_columns.proofs.ColumnPlaces.{range_at}
use Rattle.road_columns.proofs.EnteredLists.{all_of}
use Rattle.road_columns.proofs.PieceWords.{count_before}
use Rattle.road_columns.proofs.WordsNeeded.{word_beside, word_needed}

-- the words of a car that wants to move
pub high16_at : (kind : WordKind) (first width k : ℕ) (rows : List ℕ) (n : ℕ) (beside : List ℕ) (batches : List (List ℕ)) (head tail : ℕ) (cells speeds : List ℕ) (number : ℕ → ℕ) (q limit block : ℕ)
    → k < 64 → AreFalling cells head tail → head ≤ q → q < tail → tail ≤ width → ((i : ℕ) → i < n → i ≤ slice_index beside i)
    → HaveLooseWords kind first width k rows (entered_in n beside batches) head tail cells number
    → 0 < wish_at limit block cells speeds q
    → IsHigh16At (slice_range rows (k * width) (k * width + width)) (4 * (k % 16) + k / 16) n beside batches q (word kind (number q) (first + k) / 65536)
high16_at kind first width k rows n beside batches head tail cells speeds number q limit block early falling low high wide few have moves = record {
  in_row = λ m bound before after.
      let count = count_before n m q (slice_index beside) (high16_in batches) bound before (λ i a b. let more = after i a b in omega arith) in
      let small : m ≤ q = fits m bound before in
      range_at rows (k * width) (k * width + width) (q - m) (omega arith)
      ∙ word_needed kind first width k rows (entered_in n beside batches) head tail cells number q (q - m) (slice_index speeds q) limit (min (slice_index cells (q - 1)) block) early falling low high
      (all_of (λ car. car.place ≢ q) n (slice_index beside) (high16_in batches) (λ i below same. elim (cases_lt i m) as (λ _. ⊥) [
        | inl less ↦ let one = before i less in absurd (omega arith)
        | inr more ↦ let one = after i more below in absurd (omega arith)
      ]))
      (omega arith) (λ _. omega arith) have moves;
  own = λ i below same. word_beside kind first width k rows n beside batches head tail cells number i early below have ∙ ap (λ place. word kind (number place) (first + k) / 65536) same;
}
  where
    fits : (m : ℕ) → m ≤ n → ((i : ℕ) → i < m → slice_index beside i < q) → m ≤ q
    fits m bound before = elim (cases_lt 0 m) as (λ _. m ≤ q) [
      | inl some ↦
          let last = before (m - 1) (omega arith) in
          let at = few (m - 1) (omega arith) in omega arith
      | inr none ↦ omega arith
    ]
