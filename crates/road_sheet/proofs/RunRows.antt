-- The rows of a run, one after another.
use Rattle.std.proofs.Common.{◌≡◌, ◌≤◌, ◌+◌, ◌-◌, ◌∙◌, String, Global, string_bytes, ℕ, suc, List, [], ◌∷◌, ◌++◌, map, ap, sym, arith}
use Rattle.std.specs.List.{range_with_len}
use Rattle.std.proofs.lemmas.List.{map-append}
use Rattle.road_plan.specs.Plan.{Plan}
use Rattle.road_scenario.specs.Edits.{Edits}
use Rattle.road_sheet.specs.Shown.{row_at, rows_at}
use Rattle.road_sheet.proofs.Ranges.{range-to}

rows_more : (p : Plan) (edits : Edits) (a b : ℕ) → a ≤ b → rows_at p edits a b ++ row_at p edits (b + 1) ∷ [] ≡ rows_at p edits a (b + 1)
rows_more p edits a b before =
    let rest = range-to a (b + 1) (omega arith) in
    let one : b + 1 + 1 - a ≡ suc (b + 1) - a = omega arith in
    let same : b + 1 - a ≡ suc b - a = omega arith in
    sym (map-append (row_at p edits) (range_with_len a (suc b - a)) ((b + 1) ∷ []))
    ∙ ap (λ (n : ℕ). map (row_at p edits) (range_with_len a n ++ (b + 1) ∷ [])) (sym same)
    ∙ ap (map (row_at p edits)) (sym rest) ∙ ap (λ (n : ℕ). map (row_at p edits) (range_with_len a n)) one

pub one_row_more : (p : Plan) (edits : Edits) (a b : ℕ) (rows : List (String Global)) (row : String Global) → a ≤ b → map string_bytes rows ≡ rows_at p edits a b → string_bytes row ≡ row_at p edits (b + 1)
    → map string_bytes (rows ++ row ∷ []) ≡ rows_at p edits a (b + 1)
one_row_more p edits a b rows row before are is =
    map-append string_bytes rows (row ∷ []) ∙ ap (λ (xs : List (List ℕ)). xs ++ string_bytes row ∷ []) are ∙ ap (λ (x : List ℕ). rows_at p edits a b ++ x ∷ []) is ∙ rows_more p edits a b before
