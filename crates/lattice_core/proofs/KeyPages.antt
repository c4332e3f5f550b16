-- The page of a key among pages by rising key: look-up in it, joining in at it, and splitting it.
use Rattle.std.specs.Prelude.{◌≡◌, ℕ, zero, suc, ◌<◌, ◌-◌, false, T, List, [], ◌∷◌, ◌++◌, length, take}
use Rattle.std.proofs.Common.{arith, refl, sym, ap, subst, drop, ◌∙◌, append_assoc, append-nil}
use Rattle.std.specs.List.{insert, slice_index_or, slice_set}
use Rattle.std.specs.declared.cmp.Ordering.{Ordering}
use Rattle.std.specs.Cmp.{IsTotalOrder}
use Rattle.std.specs.FinMap.Entries.{find, is_sorted, below_all}
use Rattle.std.specs.Ordering.{is_lt}
use Rattle.lattice_core.specs.Exact.{IsExact}
use Rattle.lattice_core.specs.Instances.TestAnswers.{less_by_T, first_of_both}
use Rattle.std.specs.Bool.{◌==◌}
use Rattle.std.proofs.lemmas.Bool.Decides.{nat_tests}
use Rattle.lattice_core.specs.Map.{is_empty}
use Rattle.lattice_core.specs.Private.Entries.{ArePages, BeginsWith, all_entries, count_up_to, put_joined}
use Rattle.lattice_core.proofs.KeyPlaces.{IsAbove, above-before, below-back, below-lower, both-hold, find-between, first-below, joined-between, last-of-count, none-up_to, sorted-back}
use Rattle.lattice_core.proofs.PlacesInLists.{all-at, all-drop, parted, parted-set}

module _ {K V : Type 0} where
  pub all_entries-append : (ps qs : List (K × List (K × V))) → all_entries (ps ++ qs) ≡ all_entries ps ++ all_entries qs
  all_entries-append [] qs = refl
  all_entries-append (p ∷ ps) qs = ap (λ es. p.1 ++ es) (all_entries-append ps qs) ∙ sym (append_assoc p.1 (all_entries ps) (all_entries qs))

  -- the entries of the pages before a place, of the page there, and of the pages after it
  pub all_entries-parted : (ps : List (K × List (K × V))) (i : ℕ) (d : K × List (K × V)) → i < length ps
      → all_entries ps ≡ all_entries (take i ps) ++ ((slice_index_or ps i d).1 ++ all_entries (drop (suc i) ps))
  all_entries-parted ps i d within = ap all_entries (parted ps i d within) ∙ all_entries-append (take i ps) (slice_index_or ps i d ∷ drop (suc i) ps)

  -- a page is split in two
  pub all_entries-split : (ps : List (K × List (K × V))) (i : ℕ) (d lower upper : K × List (K × V)) → i < length ps → lower.1 ++ upper.1 ≡ (slice_index_or ps i d).1
      → all_entries (insert (slice_set ps i lower) (suc i) upper) ≡ all_entries ps
  all_entries-split [] i d lower upper within h = absurd (omega (arith, within))
  all_entries-split (p ∷ ps) zero d lower upper within h = sym (append_assoc lower.1 upper.1 (all_entries ps)) ∙ ap (λ es. es ++ all_entries ps) h
  all_entries-split (p ∷ ps) (suc i) d lower upper within h = ap (λ es. p.1 ++ es) (all_entries-split ps i d lower upper (omega (arith, within)) h)

  -- a walk from the back goes to the last unread page once it has finished the page that it was reading
  pub all_entries-last : (front : List (K × V)) (ps others : List (K × List (K × V))) (p : K × List (K × V)) (back es whole : List (K × V)) → ps ≡ others ++ p ∷ [] → back ≡ [] → es ≡ p.1
      → front ++ (all_entries ps ++ back) ≡ whole → front ++ (all_entries others ++ es) ≡ whole
  all_entries-last front ps others p back es whole last none is was =
      let pages : all_entries ps ≡ all_entries others ++ es =
      ap all_entries last ∙ all_entries-append others (p ∷ []) ∙ ap (λ x. all_entries others ++ x) (append-nil p.1 ∙ sym is) in
      ap (λ x. front ++ x) (sym pages ∙ sym (append-nil (all_entries ps)) ∙ ap (λ x. all_entries ps ++ x) (sym none)) ∙ was

  -- there is no entry if there is no page
  pub no_page-no_entry : (ps : List (K × List (K × V))) → ArePages ps → (length ps == 0) ≡ is_empty (all_entries ps)
  no_page-no_entry [] h = refl
  no_page-no_entry ((k, []) ∷ ps) h = absurd h.0
  no_page-no_entry ((k, e ∷ es) ∷ ps) h = some (length ps)
    where
      some : (n : ℕ) → (suc n == 0) ≡ false
      some n = grind (arith, nat_tests)

module _ {K V : Type 0} (cmp : K → K → Ordering) (total : IsTotalOrder cmp) where
  below-firsts : (q : K) (ps : List (K × List (K × V))) → ArePages ps → T (below_all cmp q (all_entries ps)) → T (below_all cmp q ps)
  below-firsts q [] h b = tt
  below-firsts q ((k, []) ∷ ps) h b = absurd h.0
  below-firsts q ((k, e ∷ es) ∷ ps) h b =
      both-hold _ _ (subst (λ x. T (is_lt (cmp q x))) h.0 (first_of_both _ (below_all cmp q (es ++ all_entries ps)) b)) (below-firsts q ps h.1 (below-back cmp q (e ∷ es) (all_entries ps) b))

  -- if the keys of the entries rise, so do the first keys of the pages
  pub firsts-rise : (ps : List (K × List (K × V))) → ArePages ps → T (is_sorted cmp (all_entries ps)) → T (is_sorted cmp ps)
  firsts-rise [] h s = tt
  firsts-rise ((k, []) ∷ ps) h s = absurd h.0
  firsts-rise ((k, e ∷ es) ∷ ps) h s =
      both-hold _ _ (subst (λ x. T (below_all cmp x ps)) h.0 (below-firsts e.0 ps h.1 (below-back cmp e.0 es (all_entries ps) (first-below cmp e (es ++ all_entries ps) s))))
      (firsts-rise ps h.1 (sorted-back cmp (e ∷ es) (all_entries ps) s))

  -- a key below the first keys of the pages is below all entries
  pub below-entries : (q : K) (ps : List (K × List (K × V))) → ArePages ps → T (is_sorted cmp (all_entries ps)) → T (below_all cmp q ps) → T (below_all cmp q (all_entries ps))
  below-entries q [] h s b = tt
  below-entries q ((k, []) ∷ ps) h s b = absurd h.0
  below-entries q ((k, e ∷ es) ∷ ps) h s b =
      let first = subst (λ x. T (is_lt (cmp q x))) (sym h.0) (first_of_both _ (below_all cmp q ps) b) in
      both-hold _ _ first (below-lower cmp total q e.0 (less_by_T _ first) (es ++ all_entries ps) (first-below cmp e (es ++ all_entries ps) s))

  -- if no page begins up to a key, the key is below all entries
  pub key-before-all : (k : K) (ps : List (K × List (K × V))) → ArePages ps → T (is_sorted cmp (all_entries ps)) → count_up_to cmp k ps ≡ 0 → T (below_all cmp k (all_entries ps))
  key-before-all k ps h s count = below-entries k ps h s (none-up_to cmp total k ps (firsts-rise ps h s) count)

  pub find-no_page : (k : K) (ps : List (K × List (K × V))) → ArePages ps → T (is_sorted cmp (all_entries ps)) → count_up_to cmp k ps ≡ 0 → find cmp k [] ≡ find cmp k (all_entries ps)
  find-no_page k ps h s count = sym (find-between cmp k [] [] (all_entries ps) tt (key-before-all k ps h s count))

  -- the page where a key belongs: the key is above all entries before the page, and below all entries after it
  pub record IsPageOf (k : K) (ps : List (K × List (K × V))) (i : ℕ) (d : K × List (K × V)) : Type 0 where
    pub within : i < length ps
    pub first : BeginsWith (slice_index_or ps i d).0 (slice_index_or ps i d).1
    pub before : IsAbove cmp k (all_entries (take i ps))
    pub behind : T (below_all cmp k (all_entries (drop (suc i) ps)))

  pub find-page : (k : K) (ps : List (K × List (K × V))) (i : ℕ) (d : K × List (K × V)) → IsPageOf k ps i d → find cmp k (slice_index_or ps i d).1 ≡ find cmp k (all_entries ps)
  find-page k ps i d page =
      sym (ap (find cmp k) (all_entries-parted ps i d page.within) ∙ find-between cmp k (all_entries (take i ps)) (slice_index_or ps i d).1 (all_entries (drop (suc i) ps)) page.before page.behind)

  -- joining in at the page where a key belongs joins in at the key
  pub join-page : (join : V → V → V) (k : K) (v : V) (ps : List (K × List (K × V))) (i : ℕ) (d new : K × List (K × V)) → IsPageOf k ps i d → new.1 ≡ put_joined cmp join (slice_index_or ps i d).1 k v
      → all_entries (slice_set ps i new) ≡ put_joined cmp join (all_entries ps) k v
  join-page join k v ps i d new page made =
      let before : List (K × V) = all_entries (take i ps) in
      let behind : List (K × V) = all_entries (drop (suc i) ps) in
      ap all_entries (parted-set ps i new page.within)
      ∙ all_entries-append (take i ps) (new ∷ drop (suc i) ps)
      ∙ ap (λ es. before ++ (es ++ behind)) made
      ∙ sym (joined-between cmp join k v before (slice_index_or ps i d).1 behind page.before page.behind)
      ∙ ap (λ es. put_joined cmp join es k v) (sym (all_entries-parted ps i d page.within))

  module _ (exact : IsExact cmp) where
    above-earlier-pages : (k : K) (before : List (K × V)) (q : K) (es behind : List (K × V)) → BeginsWith q es → is_lt (cmp k q) ≡ false → T (is_sorted cmp (before ++ (es ++ behind))) → IsAbove cmp k before
    above-earlier-pages k before q [] behind h l s = absurd h
    above-earlier-pages k before q (e ∷ es) behind h l s = above-before cmp total exact k before e (es ++ behind) (subst (λ x. is_lt (cmp k x) ≡ false) (sym h) l) s

    -- the last page that begins up to a key is where the key belongs
    pub page-of-count : (k : K) (ps : List (K × List (K × V))) (i : ℕ) (d : K × List (K × V)) → ArePages ps → T (is_sorted cmp (all_entries ps)) → count_up_to cmp k ps ≡ suc i → IsPageOf k ps i d
    page-of-count k ps i d h s count =
        let last = last-of-count cmp total exact k ps i d (firsts-rise ps h s) count in
        let p : K × List (K × V) = slice_index_or ps i d in
        let first = all-at (λ p. BeginsWith p.0 p.1) ps i d last.within h in
        let whole = subst (λ es. T (is_sorted cmp es)) (all_entries-parted ps i d last.within) s in
        record {
          within = last.within;
          first = first;
          before = above-earlier-pages k (all_entries (take i ps)) p.0 p.1 (all_entries (drop (suc i) ps)) first last.up_to whole;
          behind =
              below-entries k (drop (suc i) ps) (all-drop (λ p. BeginsWith p.0 p.1) (suc i) ps h)
              (sorted-back cmp p.1 (all_entries (drop (suc i) ps)) (sorted-back cmp (all_entries (take i ps)) (p.1 ++ all_entries (drop (suc i) ps)) whole))
              last.behind;
        }

    -- the page at which a key is joined in: the first page if no page begins up to the key
    pub page-to-join : (k : K) (ps : List (K × List (K × V))) (n i : ℕ) (d : K × List (K × V)) → ArePages ps → T (is_sorted cmp (all_entries ps)) → 0 < length ps → n ≡ count_up_to cmp k ps → i ≡ n - 1
        → IsPageOf k ps i d
    page-to-join k [] n i d h s some count at = absurd (omega (arith, some))
    page-to-join k (p ∷ ps) zero i d h s some count at =
        let here : i ≡ 0 = omega (arith, at) in
        subst (λ j. IsPageOf k (p ∷ ps) j d) (sym here) (record {
          within = some;
          first = h.0;
          before = tt;
          behind = below-back cmp k p.1 (all_entries ps) (key-before-all k (p ∷ ps) h s (sym count));
        })
    page-to-join k (p ∷ ps) (suc n) i d h s some count at =
        let here : n ≡ i = omega (arith, at) in
        subst (λ j. IsPageOf k (p ∷ ps) j d) here (page-of-count k (p ∷ ps) n d h s (sym count))
