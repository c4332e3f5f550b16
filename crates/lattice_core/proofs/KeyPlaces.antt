-- The place of a key among pairs by rising key, what a look-up finds there, and where a value is put.
use Rattle.std.specs.Prelude.{◌≡◌, ℕ, zero, suc, ◌<◌, ◌≤◌, Bool, true, false, not, cond, ◌&&◌, T, List, [], ◌∷◌, ◌++◌, length, take}
use Rattle.std.proofs.Common.{arith, refl, sym, ap, subst, drop, ◌∙◌, take-append-drop}
use Rattle.std.proofs.lemmas.Bool.{not-false, not-true, true≢false}
use Rattle.std.specs.List.{AllByRecursion, insert, slice_index_or, slice_set}
use Rattle.std.specs.List.Sorted.{IsPartitionedBy, IsPartitionPoint}
use Rattle.std.specs.declared.cmp.Ordering.{Ordering}
use Rattle.std.specs.declared.cmp.Ordering.TheVariants.{Less, Equal, Greater}
use Rattle.std.specs.declared.option.Option.TheVariants.{None, Some}
use Rattle.std.specs.Cmp.{IsTotalOrder}
use Rattle.std.specs.FinMap.Entries.{find, is_sorted, put, by_order, below_all}
use Rattle.std.specs.Ordering.{is_eq, is_lt, ordering_reverse}
use Rattle.lattice_core.specs.Exact.{IsExact}
use Rattle.lattice_core.specs.Instances.TestAnswers.{less, less_by_T, first_of_both, second_of_both}
use Rattle.lattice_core.specs.Instances.JoinedMaps.{find-below}
use Rattle.lattice_core.specs.Map.{join_option}
use Rattle.lattice_core.specs.Private.Entries.{count_up_to, put_joined}
use Rattle.lattice_core.proofs.PlacesInLists.{parted, parted-set}

pub both-hold : (a b : Bool) → T a → T b → T (a && b)
both-hold true b p q = q
both-hold false b p q = absurd p

less-holds : (r : Ordering) → r ≡ Less → T (is_lt r)
less-holds r e = subst (λ r. T (is_lt r)) (sym e) tt

equal-if-neither-less : (r s : Ordering) → r ≡ ordering_reverse s → is_lt r ≡ false → is_lt s ≡ false → r ≡ Equal
equal-if-neither-less Less s e p q = absurd (true≢false p)
equal-if-neither-less Equal s e p q = refl
equal-if-neither-less Greater Less e p q = absurd (true≢false q)
equal-if-neither-less Greater Equal e p q = e
equal-if-neither-less Greater Greater e p q = sym (absurd (true≢false (ap is_lt (sym e))))

module _ {K : Type 0} (cmp : K → K → Ordering) (total : IsTotalOrder cmp) where
  greater : (k q : K) → is_lt (cmp q k) ≡ true → cmp k q ≡ Greater
  greater k q l = total.antisymm k q ∙ ap ordering_reverse (less _ l)

  above-lower : IsExact cmp → (k q x : K) → is_lt (cmp k q) ≡ false → T (is_lt (cmp x q)) → cmp k x ≡ Greater
  above-lower exact k q x h l = total.antisymm k x ∙ ap ordering_reverse (elim (cmp k q) as (λ r. cmp k q ≡ r → is_lt r ≡ false → cmp x k ≡ Less) [
    | Less ↦ λ e p. absurd (true≢false p)
    | Equal ↦ λ e p. subst (λ y. cmp x y ≡ Less) (sym (exact k q e)) (less_by_T _ l)
    | Greater ↦ λ e p. total.trans x q k (less_by_T _ l) (total.antisymm q k ∙ ap ordering_reverse e)
  ] refl h)

module _ {K X : Type 0} (cmp : K → K → Ordering) where
  -- ---- what the tests of a list mean for its first pair and for the others
  pub less-first : (q : K) (e : K × X) (es : List (K × X)) → T (below_all cmp q (e ∷ es)) → cmp q e.0 ≡ Less
  less-first q e es b = less_by_T _ (first_of_both _ (below_all cmp q es) b)

  pub below-others : (q : K) (e : K × X) (es : List (K × X)) → T (below_all cmp q (e ∷ es)) → T (below_all cmp q es)
  below-others q e es b = second_of_both (is_lt (cmp q e.0)) _ b

  pub first-below : (e : K × X) (es : List (K × X)) → T (is_sorted cmp (e ∷ es)) → T (below_all cmp e.0 es)
  first-below e es s = first_of_both _ (is_sorted cmp es) s

  pub others-sorted : (e : K × X) (es : List (K × X)) → T (is_sorted cmp (e ∷ es)) → T (is_sorted cmp es)
  others-sorted e es s = second_of_both (below_all cmp e.0 es) _ s

  below-middle : (q : K) (es : List (K × X)) (e : K × X) (fs : List (K × X)) → T (below_all cmp q (es ++ e ∷ fs)) → T (is_lt (cmp q e.0))
  below-middle q [] e fs b = first_of_both _ (below_all cmp q fs) b
  below-middle q (x ∷ es) e fs b = below-middle q es e fs (below-others q x (es ++ e ∷ fs) b)

  pub below-back : (q : K) (es fs : List (K × X)) → T (below_all cmp q (es ++ fs)) → T (below_all cmp q fs)
  below-back q [] fs b = b
  below-back q (x ∷ es) fs b = below-back q es fs (below-others q x (es ++ fs) b)

  pub sorted-back : (es fs : List (K × X)) → T (is_sorted cmp (es ++ fs)) → T (is_sorted cmp fs)
  sorted-back [] fs s = s
  sorted-back (x ∷ es) fs s = sorted-back es fs (others-sorted x (es ++ fs) s)

  below-front : (q : K) (es fs : List (K × X)) → T (below_all cmp q (es ++ fs)) → T (below_all cmp q es)
  below-front q [] fs b = tt
  below-front q (x ∷ es) fs b = both-hold _ _ (first_of_both _ (below_all cmp q (es ++ fs)) b) (below-front q es fs (below-others q x (es ++ fs) b))

  pub sorted-front : (es fs : List (K × X)) → T (is_sorted cmp (es ++ fs)) → T (is_sorted cmp es)
  sorted-front [] fs s = tt
  sorted-front (x ∷ es) fs s = both-hold _ _ (below-front x.0 es fs (first-below x (es ++ fs) s)) (sorted-front es fs (others-sorted x (es ++ fs) s))

  -- k is above each of the keys
  abbrev pub IsAbove : K → List (K × X) → Type 0
  IsAbove k es = AllByRecursion (λ e. cmp k e.0 ≡ Greater) es

  -- ---- a key above all keys before it and below all keys after it
  find-front : (k : K) (mid ys : List (K × X)) → T (below_all cmp k ys) → find cmp k (mid ++ ys) ≡ find cmp k mid
  find-front k [] ys b = find-below cmp k ys b
  find-front k (e ∷ mid) ys b = ap (cond (is_eq (cmp k e.0)) (Some e.1)) (find-front k mid ys b)

  pub find-between : (k : K) (xs mid ys : List (K × X)) → IsAbove k xs → T (below_all cmp k ys) → find cmp k (xs ++ (mid ++ ys)) ≡ find cmp k mid
  find-between k [] mid ys a b = find-front k mid ys b
  find-between k (x ∷ xs) mid ys a b = ap (λ r. cond (is_eq r) (Some x.1) (find cmp k (xs ++ (mid ++ ys)))) a.0 ∙ find-between k xs mid ys a.1 b

  put-first : (k : K) (v : X) (ys : List (K × X)) → T (below_all cmp k ys) → put cmp k v ys ≡ (k, v) ∷ ys
  put-first k v [] b = refl
  put-first k v (y ∷ ys) b = ap (λ r. by_order r ((k, v) ∷ y ∷ ys) ((y.0, v) ∷ ys) (y ∷ put cmp k v ys)) (less-first k y ys b)

  put-front : (k : K) (v : X) (mid ys : List (K × X)) → T (below_all cmp k ys) → put cmp k v (mid ++ ys) ≡ put cmp k v mid ++ ys
  put-front k v [] ys b = put-first k v ys b
  put-front k v (e ∷ mid) ys b =
      elim (cmp k e.0) as (λ r. by_order r ((k, v) ∷ e ∷ mid ++ ys) ((e.0, v) ∷ mid ++ ys) (e ∷ put cmp k v (mid ++ ys)) ≡ by_order r ((k, v) ∷ e ∷ mid) ((e.0, v) ∷ mid) (e ∷ put cmp k v mid) ++ ys) [
        | Less ↦ refl
        | Equal ↦ refl
        | Greater ↦ ap (λ es. e ∷ es) (put-front k v mid ys b)
      ]

  put-between : (k : K) (v : X) (xs mid ys : List (K × X)) → IsAbove k xs → T (below_all cmp k ys) → put cmp k v (xs ++ (mid ++ ys)) ≡ xs ++ (put cmp k v mid ++ ys)
  put-between k v [] mid ys a b = put-front k v mid ys b
  put-between k v (x ∷ xs) mid ys a b =
      ap (λ r. by_order r ((k, v) ∷ x ∷ xs ++ (mid ++ ys)) ((x.0, v) ∷ xs ++ (mid ++ ys)) (x ∷ put cmp k v (xs ++ (mid ++ ys)))) a.0
      ∙ ap (λ es. x ∷ es) (put-between k v xs mid ys a.1 b)

  pub joined-between : (join : X → X → X) (k : K) (v : X) (xs mid ys : List (K × X)) → IsAbove k xs → T (below_all cmp k ys)
      → put_joined cmp join (xs ++ (mid ++ ys)) k v ≡ xs ++ (put_joined cmp join mid k v ++ ys)
  joined-between join k v xs mid ys a b =
      ap (λ found. put cmp k (join_option join found v) (xs ++ (mid ++ ys))) (find-between k xs mid ys a b)
      ∙ put-between k (join_option join (find cmp k mid) v) xs mid ys a b

  insert-between : (join : X → X → X) (k : K) (v : X) (es : List (K × X)) (i : ℕ) → IsAbove k (take i es) → T (below_all cmp k (drop i es)) → insert es i (k, v) ≡ put_joined cmp join es k v
  insert-between join k v es i a b =
      let here : put_joined cmp join (take i es ++ drop i es) k v ≡ take i es ++ (k, v) ∷ drop i es = joined-between join k v (take i es) [] (drop i es) a b in
      sym here ∙ ap (λ es. put_joined cmp join es k v) (take-append-drop i es)

  -- ---- the pairs up to a key, by their number
  pub count-of-partition : (k : K) (es : List (K × X)) (n : ℕ) → n ≤ length es
      → IsPartitionPoint (λ e. not (is_lt (cmp k e.0)) ≡ true) (λ e. not (is_lt (cmp k e.0)) ≡ false) es n → n ≡ count_up_to cmp k es
  count-of-partition k [] zero h p = refl
  count-of-partition k [] (suc n) h p = absurd (omega (arith, h))
  count-of-partition k (e ∷ es) zero h p = ap (λ b. cond b 0 (suc (count_up_to cmp k es))) (sym (not-false _ (p.1 zero e (omega arith) (omega arith))))
  count-of-partition k (e ∷ es) (suc n) h p =
      ap suc (count-of-partition k es n (omega (arith, h)) (
        λ i d from below. p.0 (suc i) d (omega arith) (omega (arith, below)),
        λ i d from below. p.1 (suc i) d (omega (arith, from)) (omega (arith, below)),
      ))
      ∙ ap (λ b. cond b 0 (suc (count_up_to cmp k es))) (sym (not-true _ (p.0 zero e (omega arith) (omega arith))))

  count-within : (k : K) (es : List (K × X)) → count_up_to cmp k es ≤ length es
  count-within k [] = omega arith
  count-within k (e ∷ es) = let others = count-within k es in elim (is_lt (cmp k e.0)) as (λ b. cond b 0 (suc (count_up_to cmp k es)) ≤ suc (length es)) [
    | true ↦ omega arith
    | false ↦ omega (arith, others)
  ]

  last-up_to : (k : K) (es : List (K × X)) (i : ℕ) (d : K × X) → count_up_to cmp k es ≡ suc i → is_lt (cmp k (slice_index_or es i d).0) ≡ false
  last-up_to k [] i d h = absurd (omega (arith, h))
  last-up_to k (e ∷ es) i d h = elim (is_lt (cmp k e.0)) as (λ b. is_lt (cmp k e.0) ≡ b → cond b 0 (suc (count_up_to cmp k es)) ≡ suc i → is_lt (cmp k (slice_index_or (e ∷ es) i d).0) ≡ false) [
    | true ↦ λ l g. absurd (omega (arith, g))
    | false ↦ λ l g. at i (λ j. last-up_to k es j d) l g
  ] refl h
    where
      at : (i : ℕ) → ((j : ℕ) → count_up_to cmp k es ≡ suc j → is_lt (cmp k (slice_index_or es j d).0) ≡ false) → is_lt (cmp k e.0) ≡ false → suc (count_up_to cmp k es) ≡ suc i
          → is_lt (cmp k (slice_index_or (e ∷ es) i d).0) ≡ false
      at zero f l g = l
      at (suc j) f l g = f j (omega (arith, g))

  module _ (total : IsTotalOrder cmp) where
    -- a key below q is below all keys that q is below
    pub below-lower : (k q : K) → cmp k q ≡ Less → (es : List (K × X)) → T (below_all cmp q es) → T (below_all cmp k es)
    below-lower k q l [] b = tt
    below-lower k q l (e ∷ es) b = both-hold _ _ (less-holds _ (total.trans k q e.0 l (less-first q e es b))) (below-lower k q l es (below-others q e es b))

    pub below-behind : (k : K) (es : List (K × X)) → T (is_sorted cmp es) → T (below_all cmp k (drop (count_up_to cmp k es) es))
    below-behind k [] s = tt
    below-behind k (e ∷ es) s = elim (is_lt (cmp k e.0)) as (λ b. is_lt (cmp k e.0) ≡ b → T (below_all cmp k (drop (cond b 0 (suc (count_up_to cmp k es))) (e ∷ es)))) [
      | true ↦ λ l. both-hold _ _ (less-holds _ (less _ l)) (below-lower k e.0 (less _ l) es (first-below e es s))
      | false ↦ λ l. below-behind k es (others-sorted e es s)
    ] refl

    -- a binary search may ask which pairs are up to a key
    below-at : (q : K) (es : List (K × X)) (i : ℕ) (d : K × X) → T (below_all cmp q es) → i < length es → cmp q (slice_index_or es i d).0 ≡ Less
    below-at q [] i d b within = absurd (omega (arith, within))
    below-at q (e ∷ es) zero d b within = less-first q e es b
    below-at q (e ∷ es) (suc i) d b within = below-at q es i d (below-others q e es b) (omega (arith, within))

    pub partitioned : (k : K) (es : List (K × X)) → T (is_sorted cmp es) → IsPartitionedBy (λ e. not (is_lt (cmp k e.0))) es
    partitioned k [] s i j d before within p = absurd (omega (arith, within))
    partitioned k (e ∷ es) s zero zero d before within p = p
    partitioned k (e ∷ es) s zero (suc j) d before within p =
        let later = below-at e.0 es j d (first-below e es s) (omega (arith, within)) in
        elim (is_lt (cmp k e.0)) as (λ b. is_lt (cmp k e.0) ≡ b → not b ≡ true) [
          | true ↦ λ l. sym (ap (λ r. not (is_lt r)) (total.trans k e.0 (slice_index_or es j d).0 (less _ l) later)) ∙ p
          | false ↦ λ l. refl
        ] refl
    partitioned k (e ∷ es) s (suc i) zero d before within p = absurd (omega (arith, before))
    partitioned k (e ∷ es) s (suc i) (suc j) d before within p = partitioned k es (others-sorted e es s) i j d (omega (arith, before)) (omega (arith, within)) p

    pub none-up_to : (k : K) (es : List (K × X)) → T (is_sorted cmp es) → count_up_to cmp k es ≡ 0 → T (below_all cmp k es)
    none-up_to k es s h = subst (λ n. T (below_all cmp k (drop n es))) h (below-behind k es s)

    pub find-before-all : (k : K) (es : List (K × X)) → T (is_sorted cmp es) → count_up_to cmp k es ≡ 0 → None ≡ find cmp k es
    find-before-all k es s h = sym (find-below cmp k es (none-up_to k es s h))

    pub insert-before-all : (join : X → X → X) (k : K) (v : X) (es : List (K × X)) → T (is_sorted cmp es) → count_up_to cmp k es ≡ 0 → insert es 0 (k, v) ≡ put_joined cmp join es k v
    insert-before-all join k v es s h = insert-between join k v es 0 tt (none-up_to k es s h)

    module _ (exact : IsExact cmp) where
      -- if a pair's key is at most k, then k is above the pairs before it
      pub above-before : (k : K) (es : List (K × X)) (e : K × X) (fs : List (K × X)) → is_lt (cmp k e.0) ≡ false → T (is_sorted cmp (es ++ e ∷ fs)) → IsAbove k es
      above-before k [] e fs h s = tt
      above-before k (x ∷ es) e fs h s = (
        above-lower cmp total exact k e.0 x.0 h (below-middle x.0 es e fs (first-below x (es ++ e ∷ fs) s)),
        above-before k es e fs h (others-sorted x (es ++ e ∷ fs) s),
      )

      -- the pairs before and after the last pair up to a key
      pub record IsLastUpTo (k : K) (es : List (K × X)) (i : ℕ) (d : K × X) : Type 0 where
        pub within : i < length es
        pub whole : es ≡ take i es ++ slice_index_or es i d ∷ drop (suc i) es
        pub up_to : is_lt (cmp k (slice_index_or es i d).0) ≡ false
        pub before : IsAbove k (take i es)
        pub behind : T (below_all cmp k (drop (suc i) es))

      pub last-of-count : (k : K) (es : List (K × X)) (i : ℕ) (d : K × X) → T (is_sorted cmp es) → count_up_to cmp k es ≡ suc i → IsLastUpTo k es i d
      last-of-count k es i d s h =
          let bound = count-within k es in
          let inside : i < length es = omega (arith, bound, h) in
          let whole = parted es i d inside in
          let up_to = last-up_to k es i d h in
          record {
            within = inside;
            whole = whole;
            up_to = up_to;
            before = above-before k (take i es) (slice_index_or es i d) (drop (suc i) es) up_to (subst (λ x. T (is_sorted cmp x)) whole s);
            behind = subst (λ n. T (below_all cmp k (drop n es))) h (below-behind k es s);
          }

      find-last : (k : K) (es : List (K × X)) (i : ℕ) (d : K × X) (r : Ordering) → IsLastUpTo k es i d → cmp k (slice_index_or es i d).0 ≡ r
          → find cmp k es ≡ cond (is_eq r) (Some (slice_index_or es i d).1) None
      find-last k es i d r last e =
          ap (find cmp k) last.whole ∙ find-between k (take i es) (slice_index_or es i d ∷ []) (drop (suc i) es) last.before last.behind
          ∙ ap (λ r. cond (is_eq r) (Some (slice_index_or es i d).1) None) e

      -- the last pair up to a key is at the key if its key is not below it
      pub find-there : (k : K) (es : List (K × X)) (i : ℕ) (d : K × X) → T (is_sorted cmp es) → count_up_to cmp k es ≡ suc i → is_lt (cmp (slice_index_or es i d).0 k) ≡ false
          → Some (slice_index_or es i d).1 ≡ find cmp k es
      find-there k es i d s h l =
          let last = last-of-count k es i d s h in
          sym (find-last k es i d Equal last (equal-if-neither-less _ _ (total.antisymm k (slice_index_or es i d).0) last.up_to l))

      pub set-there : (join : X → X → X) (k : K) (v w : X) (es : List (K × X)) (i : ℕ) (d : K × X) → T (is_sorted cmp es) → count_up_to cmp k es ≡ suc i → is_lt (cmp (slice_index_or es i d).0 k) ≡ false
          → w ≡ join (slice_index_or es i d).1 v → slice_set es i (k, w) ≡ put_joined cmp join es k v
      set-there join k v w es i d s h l made =
          let last = last-of-count k es i d s h in
          let e : K × X = slice_index_or es i d in
          let tie = equal-if-neither-less _ _ (total.antisymm k e.0) last.up_to l in
          let one : put_joined cmp join (e ∷ []) k v ≡ (k, w) ∷ [] =
          ap (λ r. by_order r ((k, join_option join (cond (is_eq r) (Some e.1) None) v) ∷ e ∷ []) ((e.0, join_option join (cond (is_eq r) (Some e.1) None) v) ∷ []) (e ∷ (k, join_option join (cond (is_eq r) (Some e.1) None) v) ∷ [])) tie
          ∙ ap (λ q. (q, join e.1 v) ∷ []) (sym (exact k e.0 tie)) ∙ ap (λ x. (k, x) ∷ []) (sym made) in
          parted-set es i (k, w) last.within
          ∙ ap (λ x. take i es ++ (x ++ drop (suc i) es)) (sym one)
          ∙ sym (joined-between join k v (take i es) (e ∷ []) (drop (suc i) es) last.before last.behind)
          ∙ ap (λ x. put_joined cmp join x k v) (sym last.whole)

      -- if the last pair's key is below k, nothing is at k, and a value put at k goes after that pair
      above-last : (k : K) (es : List (K × X)) (i : ℕ) (d : K × X) → IsAbove k (take i es) → i < length es → cmp k (slice_index_or es i d).0 ≡ Greater → IsAbove k (take (suc i) es)
      above-last k [] i d a within g = tt
      above-last k (e ∷ es) zero d a within g = (g, tt)
      above-last k (e ∷ es) (suc i) d a within g = (a.0, above-last k es i d a.1 (omega (arith, within)) g)

      pub find-behind-last : (k : K) (es : List (K × X)) (i : ℕ) (d : K × X) → T (is_sorted cmp es) → count_up_to cmp k es ≡ suc i → is_lt (cmp (slice_index_or es i d).0 k) ≡ true → None ≡ find cmp k es
      find-behind-last k es i d s h l = sym (find-last k es i d Greater (last-of-count k es i d s h) (greater cmp total k (slice_index_or es i d).0 l))

      pub insert-behind-last : (join : X → X → X) (k : K) (v : X) (es : List (K × X)) (i : ℕ) (d : K × X) → T (is_sorted cmp es) → count_up_to cmp k es ≡ suc i → is_lt (cmp (slice_index_or es i d).0 k) ≡ true
          → insert es (suc i) (k, v) ≡ put_joined cmp join es k v
      insert-behind-last join k v es i d s h l =
          let last = last-of-count k es i d s h in
          let inside = last.within in
          insert-between join k v es (suc i) (above-last k es i d last.before inside (greater cmp total k (slice_index_or es i d).0 l)) last.behind
