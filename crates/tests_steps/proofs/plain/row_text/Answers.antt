use Rattle.std.proofs.Common.{ℕ, zero, suc, ◌≡◌, ◌+◌, ◌<◌, ◌++◌, ◌∙◌, [], ◌∷◌, sym, ap, arith, map}
use Rattle.std.specs.List.{range_with_len}
use Rattle.road_cells.specs.Array.{vehicle_at}
use Rattle.road_cells.specs.Gap.{is_blocked}
use Rattle.road_ends.specs.Row.{letter}
use Rattle.tests_steps.proofs.plain.row_text.Goals as goal

-- one more cell adds one more letter
one_more : (f : ℕ → ℕ) (n a : ℕ) → map f (range_with_len a (suc n)) ≡ map f (range_with_len a n) ++ f (a + n) ∷ []
one_more f zero a = let here : a ≡ a + 0 = omega arith in ap (λ k. f k ∷ []) here
one_more f (suc n) a = let next : (a + 1) + n ≡ a + suc n = omega arith in ap (λ rest. f a ∷ rest) (one_more f n (a + 1) ∙ ap (λ k. map f (range_with_len (a + 1) n) ++ f k ∷ []) next)

pub loop-cell-preserved : goal.loop-cell-preserved
loop-cell-preserved c =
    let f = λ (k : ℕ). letter (is_blocked c.args.blocks.now k) (vehicle_at c.args.road.now k) in
    let cell = c.loop-cell.cell in
    let low : c.from.result < 128 = let is = c.from.ensures in let ascii = c.letter.ensures.ascii in omega arith in
    let here : c.letter.result ≡ f (0 + cell) = let zero_on : cell ≡ 0 + cell = omega arith in c.letter.ensures.letter ∙ ap f zero_on in
    let next : suc cell ≡ cell + 1 = omega arith in
    c.in_ok-push.ensures.bytes
    ∙ (λ i. c.loop-cell.invariant i ++ (c.in_ok-push.ensures.ascii low ∙ ap (λ k. k ∷ []) (c.from.ensures ∙ here)) i)
    ∙ sym (one_more f cell 0) ∙ ap (λ n. map f (range_with_len 0 n)) next
