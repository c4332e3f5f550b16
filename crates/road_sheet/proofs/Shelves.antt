-- Full shelves and the intervals after them: where an interval is, which are the first ones, and one more interval.
use Rattle.std.proofs.Common.{◌≡◌, ◌≤◌, ◌<◌, ◌+◌, ◌*◌, ◌/◌, ◌%◌, ◌∙◌, ℕ, zero, suc, List, [], ◌∷◌, ◌++◌, length, map, take, Some, ap, sym, arith, append_assoc, refl}
use Rattle.std.proofs.lemmas.List.{length-append, take-append-le}
use Rattle.std.proofs.lemmas.Option.{get_or_from_slice_get, slice_get-map, slice_get_read, slice_get_within}
use Rattle.std.proofs.Math.Seq.{take-append-add}
use Rattle.std.specs.List.{slice_get, slice_index_or}
use Rattle.std.specs.Option.{option_map}
use Rattle.road_sheet.specs.Private.Shelves.{AreFull, intervals_on}
use Rattle.road_sheet.specs.declared.interval.Interval.{Interval}

slice_get-append-add : (xs ys : List Interval) (n : ℕ) → slice_get (xs ++ ys) (length xs + n) ≡ slice_get ys n
slice_get-append-add [] ys n = ap (slice_get ys) (omega arith)
slice_get-append-add (x ∷ xs) ys n =
    let one_more : suc (length xs) + n ≡ suc (length xs + n) = omega arith in
    rw one_more (slice_get-append-add xs ys n)

slice_get-append-left : (xs ys : List Interval) (n : ℕ) → n < length xs → slice_get (xs ++ ys) n ≡ slice_get xs n
slice_get-append-left [] ys n below = absurd (omega (arith, below))
slice_get-append-left (x ∷ xs) ys zero below = refl
slice_get-append-left (x ∷ xs) ys (suc n) below = slice_get-append-left xs ys n (omega (arith, below))

full_first : (shelf : List Interval) (shelves : List (List Interval)) → AreFull (shelf ∷ shelves) → length shelf ≡ 64
full_first shelf shelves full = full zero shelf (omega arith)

full_rest : (shelf : List Interval) (shelves : List (List Interval)) → AreFull (shelf ∷ shelves) → AreFull shelves
full_rest shelf shelves full = λ k d below. full (suc k) d (omega (arith, below))

length-intervals_on : (shelves : List (List Interval)) → AreFull shelves → length (intervals_on shelves) ≡ 64 * length shelves
length-intervals_on [] full = omega arith
length-intervals_on (shelf ∷ shelves) full =
    omega (arith, length-append shelf (intervals_on shelves), full_first shelf shelves full, length-intervals_on shelves (full_rest shelf shelves full))

the_one : {a b : List Interval} → Some a ≡ Some b → a ≡ b
the_one h = cc

behind_first : (shelf : List Interval) (shelves : List (List Interval)) (q r : ℕ) → AreFull (shelf ∷ shelves) → 64 * suc q + r ≡ length shelf + (64 * q + r)
behind_first shelf shelves q r full = omega (arith, full_first shelf shelves full)

get_on_shelf : (shelves : List (List Interval)) (last shelf : List Interval) (q r : ℕ) → AreFull shelves → slice_get shelves q ≡ Some shelf → r < 64
    → slice_get (intervals_on shelves ++ last) (64 * q + r) ≡ slice_get shelf r
get_on_shelf [] last shelf q r full is below = absurd (cc)
get_on_shelf (first ∷ shelves) last shelf zero r full is below =
    let many = full_first first shelves full in
    rw (append_assoc first (intervals_on shelves) last)
    (ap (slice_get (first ++ (intervals_on shelves ++ last))) (omega arith) ∙ slice_get-append-left first (intervals_on shelves ++ last) r (omega (arith, many, below)) ∙ ap (λ (xs : List Interval). slice_get xs r) (the_one is))
get_on_shelf (first ∷ shelves) last shelf (suc q) r full is below =
    rw (append_assoc first (intervals_on shelves) last, behind_first first shelves q r full, slice_get-append-add first (intervals_on shelves ++ last) (64 * q + r))
    (get_on_shelf shelves last shelf q r (full_rest first shelves full) is below)

take_on_shelf : (shelves : List (List Interval)) (last shelf : List Interval) (q r : ℕ) → AreFull shelves → slice_get shelves q ≡ Some shelf → r ≤ 64
    → take (64 * q + r) (intervals_on shelves ++ last) ≡ intervals_on (take q shelves) ++ take r shelf
take_on_shelf [] last shelf q r full is below = absurd (cc)
take_on_shelf (first ∷ shelves) last shelf zero r full is below =
    let many = full_first first shelves full in
    rw (append_assoc first (intervals_on shelves) last)
    (ap (λ (n : ℕ). take n (first ++ (intervals_on shelves ++ last))) (omega arith) ∙ take-append-le r first (intervals_on shelves ++ last) (omega (arith, many, below)) ∙ ap (take r) (the_one is))
take_on_shelf (first ∷ shelves) last shelf (suc q) r full is below =
    rw (append_assoc first (intervals_on shelves) last, behind_first first shelves q r full, take-append-add first (intervals_on shelves ++ last) (64 * q + r), append_assoc first (intervals_on (take q shelves)) (take r shelf))
    (ap (λ xs. first ++ xs) (take_on_shelf shelves last shelf q r (full_rest first shelves full) is below))

get_behind : (shelves : List (List Interval)) (last : List Interval) (r : ℕ) → AreFull shelves → slice_get (intervals_on shelves ++ last) (64 * length shelves + r) ≡ slice_get last r
get_behind shelves last r full = rw (← length-intervals_on shelves full) (slice_get-append-add (intervals_on shelves) last r)

take_behind : (shelves : List (List Interval)) (last : List Interval) (r : ℕ) → AreFull shelves → take (64 * length shelves + r) (intervals_on shelves ++ last) ≡ intervals_on shelves ++ take r last
take_behind shelves last r full = rw (← length-intervals_on shelves full) (take-append-add (intervals_on shelves) last r)

-- ---- for the list that contracts see

pub many_intervals : (shelves : List (List Interval)) (last now : List Interval) → AreFull shelves → intervals_on shelves ++ last ≡ now → length now ≡ 64 * length shelves + length last
many_intervals shelves last now full is = rw (← is) (omega (arith, length-append (intervals_on shelves) last, length-intervals_on shelves full))

pub full_at : (shelves : List (List Interval)) (shelf : List Interval) (q : ℕ) → AreFull shelves → slice_get shelves q ≡ Some shelf → length shelf ≡ 64
full_at shelves shelf q full is =
    let below = slice_get_within shelves q shelf is in
    let here = get_or_from_slice_get shelves q shelf shelf is in
    ap (λ (xs : List Interval). length xs) (sym here) ∙ full q shelf below

pub on_shelf : (shelves : List (List Interval)) (last now shelf : List Interval) (k : ℕ) (x : Interval) → AreFull shelves → intervals_on shelves ++ last ≡ now → slice_get shelves (k / 64) ≡ Some shelf → slice_get shelf (k % 64) ≡ Some x
    → slice_get now k ≡ Some x
on_shelf shelves last now shelf k x full is at read =
    ap (λ (xs : List Interval). slice_get xs k) (sym is) ∙ ap (slice_get (intervals_on shelves ++ last)) (omega arith) ∙ get_on_shelf shelves last shelf (k / 64) (k % 64) full at (omega arith) ∙ read

pub behind : (shelves : List (List Interval)) (last now : List Interval) (k : ℕ) (x : Interval) → AreFull shelves → intervals_on shelves ++ last ≡ now → k / 64 ≡ length shelves → slice_get last (k % 64) ≡ Some x → slice_get now k ≡ Some x
behind shelves last now k x full is at read =
    ap (λ (xs : List Interval). slice_get xs k) (sym is) ∙ ap (slice_get (intervals_on shelves ++ last)) (omega (arith, at)) ∙ get_behind shelves last (k % 64) full ∙ read

pub first_on_shelf : (shelves some : List (List Interval)) (last now shelf part : List Interval) (k : ℕ) → AreFull shelves → intervals_on shelves ++ last ≡ now → slice_get shelves (k / 64) ≡ Some shelf
    → some ≡ take (k / 64) shelves → part ≡ take (k % 64) shelf → intervals_on some ++ part ≡ take k now
first_on_shelf shelves some last now shelf part k full is at first rest =
    rw (first, rest)
    (sym (ap (take k) (sym is) ∙ ap (λ (n : ℕ). take n (intervals_on shelves ++ last)) (omega arith) ∙ take_on_shelf shelves last shelf (k / 64) (k % 64) full at (omega arith)))

pub first_behind : (shelves same : List (List Interval)) (last now part : List Interval) (k : ℕ) → AreFull shelves → intervals_on shelves ++ last ≡ now → k / 64 ≡ length shelves
    → same ≡ shelves → part ≡ take (k % 64) last → intervals_on same ++ part ≡ take k now
first_behind shelves same last now part k full is at all rest =
    rw (all, rest) (sym (ap (take k) (sym is) ∙ ap (λ (n : ℕ). take n (intervals_on shelves ++ last)) (omega (arith, at)) ∙ take_behind shelves last (k % 64) full))

-- an element of a list, and the same element of the mapped list
pub read_at : {X Y : Type 0} (f : X → Y) (xs : List X) (k : ℕ) (x : X) (y : Y) → k < length xs → x ≡ slice_index_or xs k x → y ≡ f x → slice_get (map f xs) k ≡ Some y
read_at f xs k x y below is read = slice_get-map f xs k ∙ ap (option_map f) (slice_get_read xs (length xs) k x refl below is) ∙ ap Some (sym read)
