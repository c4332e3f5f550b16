-- Each kind of step keeps the rule of the store, and only the last pending operation matters.
use Rattle.std.proofs.Common.{◌≡◌, ◌∙◌, ℕ, ◌≢◌, ◌+◌, List, [], ◌∷◌, ◌++◌, set, refl, ap, subst, ⊎_elim}
use Rattle.std.specs.Prelude.{fold}
use Rattle.std.proofs.lemmas.List.Sums.{fold-append}
use mathlib.Core.Option.{some}
use mathlib.Core.List.{IsPrefix}
use lib.ListN.{get_elem?}
use Rattle.crossbeam_utils.specs.Register.{Admits, TurnsAt, Turns}
use Rattle.atomic_table.proofs.Lists.{at_set, at_snoc}
use Rattle.road_sessions.specs.Private.Stores.{EndWith, EntersAfterWrite, EntersToLook, FoundArePrefixes, last_write_from}
use Rattle.road_sessions.specs.Sessions.{new_view, view_of}
use Rattle.road_sessions.specs.declared.entry.Entry.{Entry}
use Rattle.road_sessions.specs.declared.reader_view.View.{View}
use Rattle.road_sessions.proofs.Prefixes.{prefix_of_itself, prefix_of_longer}

-- one view changes, and the published history grows
one_changes : (before after : List Entry) (views : List View) (reader : ℕ) (w : View) → IsPrefix before after → IsPrefix w.found after → FoundArePrefixes before views → FoundArePrefixes after (set views reader w)
one_changes before after views reader w grows found rule other u at = ⊎_elim
    (λ (here : (other ≡ reader) × (w ≡ u)). subst (λ (v : View). IsPrefix v.found after) here.1 found)
    (λ (there : (other ≢ reader) × (get_elem? views other ≡ some u)). prefix_of_longer u.found before after (rule other u there.1) grows)
    (at_set views reader other w u at)

pub admits_new_view : Admits FoundArePrefixes new_view
admits_new_view published views rule reader v at = ⊎_elim (rule reader v)
    (λ (new : new_view ≡ v). subst (λ (u : View). IsPrefix u.found published) new (published, refl))
    (at_snoc views new_view v reader at)

pub may_look : (reader : ℕ) (v : View) → Turns FoundArePrefixes reader v (λ published. published) (λ v before after w. EntersToLook v after w)
may_look reader v published views rule at =
    let w = view_of published v.own (v.entered + 1) in
    let all = prefix_of_itself published in
    (w, one_changes published published views reader w all all rule, (rule reader v at, refl))

pub may_enter_after_write : (reader : ℕ) (v : View) → Turns FoundArePrefixes reader v (λ published. published) (λ v before after w. EntersAfterWrite v after w)
may_enter_after_write reader v published views rule at =
    let w = view_of published (v.own ++ last_write_from 0 published) v.entered in
    let all = prefix_of_itself published in
    (w, one_changes published published views reader w all all rule, (rule reader v at, refl))

pub may_publish : (reader : ℕ) (v : View) (before after : List Entry) → IsPrefix before after → TurnsAt FoundArePrefixes reader v before after (λ v before after w. w ≡ v)
may_publish reader v before after grows views rule at =
    (v, one_changes before after views reader v grows (prefix_of_longer v.found before after (rule reader v at) grows) rule, refl)

-- pending operations have the same effect as the last of them
pub ends_so : (history start state : List Entry) (operations : List (List Entry)) → EndWith history operations → state ≡ fold (λ (published next : List Entry). next) start operations → state ≡ history
ends_so history start state operations ends is =
    is ∙ ap (λ (l : List (List Entry)). fold (λ (published next : List Entry). next) start l) ends.1
    ∙ fold-append (λ (published next : List Entry). next) start ends.0 (history ∷ [])
