-- The places of sites and the order of the columns after the motion, even if the first car has left.
use Rattle.std.specs.Prelude.{◌≡◌, ℕ, ◌+◌, ◌-◌, ◌<◌, ◌≤◌, ◌&&◌, List, length, nat_le, nat_lt, slice_index, if◌then◌else◌}
use Rattle.std.proofs.Common.{ap, arith, inl, inr}
use Rattle.std.proofs.lemmas.Bool.{cases_lt, cases_eq}
use Rattle.std.proofs.lemmas.Bool.Decides.{nat_tests}
use Rattle.road_columns.specs.Private.CarsAt.{IsPlaceAt, from_place}
use Rattle.road_columns.specs.Private.Entering.{ArePlacesFrom, place_on}
use Rattle.road_columns.specs.Private.LooseWords.{AreFalling}

module _ (cells speeds new : List ℕ) (head head' tail : ℕ) (order : head' ≤ tail) (from : head ≤ head') (one : head' ≤ head + 1)
    (moved : (k : ℕ) → head ≤ k → k < tail → slice_index new k ≡ slice_index cells k + slice_index speeds k)
    (apart : (k : ℕ) → head ≤ k → k + 1 < tail → slice_index new (k + 1) < slice_index cells k)
    (behind : slice_index new tail ≡ 0) where
  -- the cells still fall
  pub falling_moved : AreFalling new head' tail
  falling_moved i low below = let step = apart i (omega arith) below in let move = moved i (omega arith) (omega arith) in omega arith

  -- the place of a site stays right: a car that has left is past the site
  pub place_moved_on : (site place place' : ℕ) → head ≤ place → IsPlaceAt (tail - head) (from_place cells head) site (place - head)
      → (head' ≡ head + 1 → site ≤ slice_index new head) → place' ≡ place_on new site place
      → (head' ≤ place') × IsPlaceAt (tail - head') (from_place new head') site (place' - head')
  place_moved_on site place place' low at left is = elim (cases_lt 0 site) as (λ _. (head' ≤ place') × IsPlaceAt (tail - head') (from_place new head') site (place' - head')) [
    | inr first ↦
        let within = at.within in
        let stays = at_first site place place' (slice_index new place) is (omega arith) in
        let last : place ≡ tail = elim (cases_lt place tail) as (λ _. place ≡ tail) [
          | inl inside ↦ let under = at.before (place - head) (omega arith) (omega arith) in absurd (omega arith)
          | inr end ↦ omega arith
        ] in
        ((omega arith), record { within = omega arith; past = λ k before. omega arith; before = λ k after inside. absurd (omega arith) })
    | inl some ↦ elim (cases_lt (slice_index new place) site) as (λ _. (head' ≤ place') × IsPlaceAt (tail - head') (from_place new head') site (place' - head')) [
      | inl short ↦
          let within = at.within in
          let stays = not_past site place place' (slice_index new place) is short in
          let above : head' ≤ place = elim (cases_lt place head') as (λ _. head' ≤ place) [
            | inl less ↦ let same : place ≡ head = omega arith in let there = ap (slice_index new) same in let over = left (omega arith) in absurd (omega arith)
            | inr more ↦ more
          ] in (
            (omega arith),
            record {
              within = omega arith;
              past = λ k before. past_old (head' + k) (omega arith) (omega arith) at low;
              before = λ k after inside. elim (cases_eq (head' + k) place) as (λ _. slice_index new (head' + k) < site) [
                | inl same ↦ let there = ap (slice_index new) same in omega arith
                | inr other ↦ under_new (head' + k) (omega arith) (omega arith) at low
              ];
            },
          )
      | inr over ↦
          let within = at.within in
          let inside_tail : place < tail = elim (cases_lt place tail) as (λ _. place < tail) [
            | inl less ↦ less
            | inr end ↦ let same : place ≡ tail = omega arith in let there = ap (slice_index new) same in absurd (omega arith)
          ] in
          let goes = is_past_one site place place' (slice_index new place) is over some in (
            (omega arith),
            record {
              within = omega arith;
              past = λ k before. elim (cases_lt (head' + k) place) as (λ _. site ≤ slice_index new (head' + k)) [
                | inl less ↦ past_old (head' + k) (omega arith) less at low
                | inr here ↦ let same : head' + k ≡ place = omega arith in let there = ap (slice_index new) same in omega arith
              ];
              before = λ k after inside. under_new (head' + k) (omega arith) (omega arith) at low;
            },
          )
    ]
  ]
    where
      at_first : (site place place' c : ℕ) → place' ≡ (if nat_le site c && nat_lt 0 site then place + 1 else place) → site ≡ 0 → place' ≡ place
      at_first site place place' c is first = grind (arith, nat_tests)

      not_past : (site place place' c : ℕ) → place' ≡ (if nat_le site c && nat_lt 0 site then place + 1 else place) → c < site → place' ≡ place
      not_past site place place' c is short = grind (arith, nat_tests)

      is_past_one : (site place place' c : ℕ) → place' ≡ (if nat_le site c && nat_lt 0 site then place + 1 else place) → site ≤ c → 0 < site → place' ≡ place + 1
      is_past_one site place place' c is over some = grind (arith, nat_tests)

      past_old : (j : ℕ) → head ≤ j → j < place → IsPlaceAt (tail - head) (from_place cells head) site (place - head) → head ≤ place → site ≤ slice_index new j
      past_old j high less at low =
          let within = at.within in
          let here : head + (j - head) ≡ j = omega arith in
          let there = ap (slice_index cells) here in
          let past = at.past (j - head) (omega arith) in
          let move = moved j high (omega arith) in omega arith

      under_new : (j : ℕ) → place < j → j < tail → IsPlaceAt (tail - head) (from_place cells head) site (place - head) → head ≤ place → slice_index new j < site
      under_new j more below at low =
          let back : (j - 1) + 1 ≡ j = omega arith in
          let here : head + (j - 1 - head) ≡ j - 1 = omega arith in
          let there = ap (slice_index cells) here in
          let next = ap (slice_index new) back in
          let before = at.before (j - 1 - head) (omega arith) (omega arith) in
          let step = apart (j - 1) (omega arith) (omega arith) in omega arith

  pub places_moved_on : (sites places places' : List ℕ) → ArePlacesFrom cells head tail sites places → length places' ≡ length sites
      → ((d : ℕ) → d < length sites → head' ≡ head + 1 → slice_index sites d ≤ slice_index new head)
      → ((d : ℕ) → d < length sites → slice_index places' d ≡ place_on new (slice_index sites d) (slice_index places d))
      → ArePlacesFrom new head' tail sites places'
  places_moved_on sites places places' are long left is = record {
    as_many = long;
    from = λ d below. (place_moved_on (slice_index sites d) (slice_index places d) (slice_index places' d) (are.from d below) (are.each d below) (left d below) (is d below)).0;
    each = λ d below. (place_moved_on (slice_index sites d) (slice_index places d) (slice_index places' d) (are.from d below) (are.each d below) (left d below) (is d below)).1;
  }
