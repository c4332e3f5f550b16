-- Steady words worked out by hand, as equations that the checker computes.
use Rattle.std.specs.Prelude.{◌≡◌, ◌+◌, ◌*◌, ◌^◌, refl}
use Rattle.road_words.specs.Words.{steady_word}

first : steady_word 0 0 ≡ 0
first = refl

second_stream : steady_word 1 0 ≡ 40503 * 65536
second_stream = refl

car_48_at_step_5 : steady_word 48 5 ≡ 62583 * 65536
car_48_at_step_5 = refl

inlet_3_at_step_1 : steady_word (2 ^ 63 + 3) 1 ≡ 20448 * 65536
inlet_3_at_step_1 = refl
