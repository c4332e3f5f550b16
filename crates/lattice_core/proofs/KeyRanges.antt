-- Entries split at a key: those up to it, and those after it.
use Rattle.std.specs.Prelude.{◌≡◌, ℕ, suc, Bool, true, false, not, cond, T, List, [], ◌∷◌, ◌++◌, take}
use Rattle.std.proofs.Common.{refl, sym, ap, subst, drop, ◌∙◌, append-nil}
use Rattle.std.proofs.lemmas.List.Elements.{filter-append}
use Rattle.std.specs.List.{slice_index_or}
use Rattle.std.specs.declared.cmp.Ordering.{Ordering}
use Rattle.std.specs.Cmp.{IsTotalOrder}
use Rattle.std.specs.FinMap.Entries.{is_sorted, below_all}
use Rattle.std.specs.Ordering.{is_lt}
use Rattle.lattice_core.specs.Instances.TestAnswers.{less}
use Rattle.lattice_core.specs.Map.{entries_after, entries_up_to}
use Rattle.lattice_core.specs.Private.Entries.{ArePages, all_entries, count_up_to}
use Rattle.lattice_core.proofs.KeyPages.{IsPageOf, all_entries-parted, key-before-all}
use Rattle.lattice_core.proofs.KeyPlaces.{IsAbove, below-lower, below-others, first-below, less-first, others-sorted}

module _ {K V : Type 0} (cmp : K → K → Ordering) where
  abbrev pub AreParted : K → (es up_to after : List (K × V)) → Type 0
  AreParted k es up_to after = (entries_up_to cmp k es ≡ up_to) × (entries_after cmp k es ≡ after)

  one-up_to : (k : K) (e : K × V) (es up_to after : List (K × V)) → is_lt (cmp k e.0) ≡ false → AreParted k es up_to after → AreParted k (e ∷ es) (e ∷ up_to) after
  one-up_to k e es up_to after l h = (
    ap (λ b. cond (not b) (e ∷ entries_up_to cmp k es) (entries_up_to cmp k es)) l ∙ ap (λ x. e ∷ x) h.0,
    ap (λ b. cond b (e ∷ entries_after cmp k es) (entries_after cmp k es)) l ∙ h.1,
  )

  one-after : (k : K) (e : K × V) (es up_to after : List (K × V)) → is_lt (cmp k e.0) ≡ true → AreParted k es up_to after → AreParted k (e ∷ es) up_to (e ∷ after)
  one-after k e es up_to after l h = (
    ap (λ b. cond (not b) (e ∷ entries_up_to cmp k es) (entries_up_to cmp k es)) l ∙ h.0,
    ap (λ b. cond b (e ∷ entries_after cmp k es) (entries_after cmp k es)) l ∙ ap (λ x. e ∷ x) h.1,
  )

  all-up_to : (k : K) (es : List (K × V)) → IsAbove cmp k es → AreParted k es es []
  all-up_to k [] a = (refl, refl)
  all-up_to k (e ∷ es) a = one-up_to k e es es [] (ap is_lt a.0) (all-up_to k es a.1)

  all-after : (k : K) (es : List (K × V)) → T (below_all cmp k es) → AreParted k es [] es
  all-after k [] b = (refl, refl)
  all-after k (e ∷ es) b = one-after k e es [] es (ap is_lt (less-first cmp k e es b)) (all-after k es (below-others cmp k e es b))

  module _ (total : IsTotalOrder cmp) where
    parted-at-count : (k : K) (es : List (K × V)) → T (is_sorted cmp es) → AreParted k es (take (count_up_to cmp k es) es) (drop (count_up_to cmp k es) es)
    parted-at-count k [] s = (refl, refl)
    parted-at-count k (e ∷ es) s =
        elim (is_lt (cmp k e.0)) as (λ b. is_lt (cmp k e.0) ≡ b → AreParted k (e ∷ es) (take (cond b 0 (suc (count_up_to cmp k es))) (e ∷ es)) (drop (cond b 0 (suc (count_up_to cmp k es))) (e ∷ es))) [
          | true ↦ λ l. one-after k e es [] es l (all-after k es (below-lower cmp total k e.0 (less _ l) es (first-below cmp e es s)))
          | false ↦ λ l. one-up_to k e es (take (count_up_to cmp k es) es) (drop (count_up_to cmp k es) es) l (parted-at-count k es (others-sorted cmp e es s))
        ] refl

    -- pages split at the page of the key
    pub parted-at-page : (k : K) (ps : List (K × List (K × V))) (i : ℕ) (d : K × List (K × V)) → IsPageOf cmp total k ps i d → T (is_sorted cmp (slice_index_or ps i d).1)
        → AreParted k (all_entries ps) (all_entries (take i ps) ++ take (count_up_to cmp k (slice_index_or ps i d).1) (slice_index_or ps i d).1)
        (drop (count_up_to cmp k (slice_index_or ps i d).1) (slice_index_or ps i d).1 ++ all_entries (drop (suc i) ps))
    parted-at-page k ps i d page s =
        let before : List (K × V) = all_entries (take i ps) in
        let behind : List (K × V) = all_entries (drop (suc i) ps) in
        let es : List (K × V) = (slice_index_or ps i d).1 in
        let is_up_to : K × V → Bool = λ e. not (is_lt (cmp k e.0)) in
        let is_after : K × V → Bool = λ e. is_lt (cmp k e.0) in
        let first = all-up_to k before page.before in
        let here = parted-at-count k es s in
        let last = all-after k behind page.behind in
        subst (λ x. AreParted k x (before ++ take (count_up_to cmp k es) es) (drop (count_up_to cmp k es) es ++ behind)) (sym (all_entries-parted ps i d page.within)) (
          filter-append is_up_to before (es ++ behind) ∙ ap (λ x. x ++ entries_up_to cmp k (es ++ behind)) first.0
              ∙ ap (λ x. before ++ x) (filter-append is_up_to es behind ∙ ap (λ x. entries_up_to cmp k es ++ x) last.0 ∙ append-nil (entries_up_to cmp k es) ∙ here.0),
          filter-append is_after before (es ++ behind) ∙ ap (λ x. x ++ entries_after cmp k (es ++ behind)) first.1
              ∙ filter-append is_after es behind ∙ ap (λ x. x ++ entries_after cmp k behind) here.1 ∙ ap (λ x. drop (count_up_to cmp k es) es ++ x) last.1,
        )

    -- the same if no page begins up to the key
    pub parted-before-all : (k : K) (ps : List (K × List (K × V))) → ArePages ps → T (is_sorted cmp (all_entries ps)) → count_up_to cmp k ps ≡ 0 → AreParted k (all_entries ps) [] (all_entries ps)
    parted-before-all k ps h s count = all-after k (all_entries ps) (key-before-all cmp total k ps h s count)
