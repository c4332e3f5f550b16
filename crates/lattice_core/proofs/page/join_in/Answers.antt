-- The joined value is at its key.
use Rattle.std.proofs.Common.{arith, ◌≤◌, T, ◌-◌, ◌≡◌, ◌<◌, length, ap, sym, subst, ◌∙◌}
use Rattle.std.specs.List.{insert, slice_set}
use Rattle.std.specs.Ordering.{is_lt}
use Rattle.std.specs.FinMap.Entries.{find, is_sorted, is_sorted-put}
use Rattle.lattice_core.specs.Map.{join_option}
use Rattle.lattice_core.specs.Private.Entries.{count_up_to, put_joined}
use Rattle.lattice_core.proofs.KeyPlaces.{insert-before-all, insert-behind-last, set-there}
use Rattle.lattice_core.proofs.PlacesInLists.{last-place, same-default, zero-if-not-some}
use Rattle.lattice_core.proofs.page.join_in.Given as given
use Rattle.lattice_core.proofs.page.join_in.Goals.{else-count-gt0-via-then-count-gt0+else-not-is_before, else-count-gt0-via-else-count-gt0}
use Rattle.lattice_core.proofs.page.join_in.Goals as goal

set : (g : given.Over) (c : goal.After-drop-index_mut g)
    → slice_set c.args.entries.now.items (c.count_up_to-count.result - 1) (c.args.key, c.in_ok-joined.joined)
    ≡ put_joined g.K.Ord.cmp g.V.Lattice.join c.args.entries.now.items c.args.key c.args.value.now
set g c =
    let cmp = g.K.Ord.cmp in
    let es = c.args.entries.now.items in
    let count = c.count_up_to-count.ensures.count ∙ ap (count_up_to cmp c.args.key) c.deref.ensures.value in
    let last = last-place c.count_up_to-count.result (count_up_to cmp c.args.key es) count c.if-count-gt0.true in
    let bound = subst (λ x. c.count_up_to-count.result ≤ length x) c.deref.ensures.value c.count_up_to-count.ensures.bound in
    let some = c.if-count-gt0.true in
    let within : c.count_up_to-count.result - 1 < length es = omega (arith, some, bound) in
    set-there cmp g.met.K.Ord.total g.met.K.Exact.exact g.V.Lattice.join c.args.key c.args.value.now c.in_ok-joined.joined es (c.count_up_to-count.result - 1) c.index.result.now c.requires last
    (ap (λ e. is_lt (cmp e.0 c.args.key)) (sym c.index.ensures) ∙ sym c.is_before.ensures ∙ c.if-not-is_before.true)
    (c.in_ok-joined.ensures ∙ ap (λ e. g.V.Lattice.join e.1 c.args.value.now) (c.index-then-not-is_before.ensures ∙ same-default es _ c.index-then-not-is_before.result.now c.index.result.now within))

pub returns-then-not-is_before-clause-joined : goal.returns-then-not-is_before-clause-joined
returns-then-not-is_before-clause-joined g c = set g c

pub returns-then-not-is_before-clause-rising : goal.returns-then-not-is_before-clause-rising
returns-then-not-is_before-clause-rising g c =
    subst (λ es. T (is_sorted g.K.Ord.cmp es)) (sym (set g c))
    (is_sorted-put g.K.Ord.cmp g.met.K.Ord.total c.args.key (join_option g.V.Lattice.join (find g.K.Ord.cmp c.args.key c.args.entries.now.items) c.args.value.now) c.args.entries.now.items c.requires)

new : (g : given.Over) (c : goal.In_ok-insert g) → c.insert.new.self.items ≡ put_joined g.K.Ord.cmp g.V.Lattice.join c.args.entries.now.items c.args.key c.args.value.now
new g c =
    let cmp = g.K.Ord.cmp in
    let es = c.args.entries.now.items in
    let count = c.count_up_to-count.ensures.count ∙ ap (count_up_to cmp c.args.key) c.deref.ensures.value in
    let here : c.insert.new.self.items ≡ insert es c.count_up_to-count.result (c.args.key, c.args.value.now) =
    c.in_ok-insert.ensures.items ∙ ap (λ v. insert es c.count_up_to-count.result (c.args.key, v)) c.in_ok-copied.ensures in
    here ∙ elim c.else-count-gt0.branch [
      | else-count-gt0-via-then-count-gt0+else-not-is_before w ↦
          let last = last-place c.count_up_to-count.result (count_up_to cmp c.args.key es) count w.if-count-gt0.true in
          ap (λ n. insert es n (c.args.key, c.args.value.now)) (count ∙ last)
          ∙ insert-behind-last cmp g.met.K.Ord.total g.met.K.Exact.exact g.V.Lattice.join c.args.key c.args.value.now es (c.count_up_to-count.result - 1) w.index.result.now c.requires last
          (ap (λ e. is_lt (cmp e.0 c.args.key)) (sym w.index.ensures) ∙ sym w.is_before.ensures ∙ w.if-not-is_before.false)
      | else-count-gt0-via-else-count-gt0 w ↦
          let none : c.count_up_to-count.result ≡ 0 = zero-if-not-some c.count_up_to-count.result w.if-count-gt0.false in
          ap (λ n. insert es n (c.args.key, c.args.value.now)) none
          ∙ insert-before-all cmp g.met.K.Ord.total g.V.Lattice.join c.args.key c.args.value.now es c.requires (sym count ∙ none)
    ]

pub returns-clause-joined : goal.returns-clause-joined
returns-clause-joined g c = new g c

pub returns-clause-rising : goal.returns-clause-rising
returns-clause-rising g c =
    subst (λ es. T (is_sorted g.K.Ord.cmp es)) (sym (new g c))
    (is_sorted-put g.K.Ord.cmp g.met.K.Ord.total c.args.key (join_option g.V.Lattice.join (find g.K.Ord.cmp c.args.key c.args.entries.now.items) c.args.value.now) c.args.entries.now.items c.requires)
