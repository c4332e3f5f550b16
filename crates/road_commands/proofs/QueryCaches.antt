-- The caches of a laboratory's queries, and the effect of an event on them.
use Rattle.std.proofs.Common.{◌≡◌, ◌≢◌, ◌<◌, ◌≤◌, ℕ, zero, suc, List, [], ◌∷◌, length, Some, true, refl, ap, sym, subst, ◌∙◌, arith}
use Rattle.std.specs.Prelude.{slice_set}
use Rattle.std.specs.List.{All, slice_get, slice_index_or}
use Rattle.std.proofs.lemmas.List.{get_or-set_other, length-map, length-replicate, length-set}
use Rattle.std.proofs.lemmas.List.Elements.{All-head, All-tail}
use Rattle.std.proofs.lemmas.Option.{slice_get_read}
use Rattle.road_plan.specs.Plan.{Plan}
use Rattle.road_plan.specs.declared.limits.TheConstants.{MOST_REPLICAS}
use Rattle.road_scenario.specs.Winners.{winners}
use Rattle.road_sheet.specs.Sheets.{Sheet}
use Rattle.road_world.proofs.EventLists.{plan-after_events, replicas-after_event}
use Rattle.road_world.proofs.MadeMessages.{none_is_no_item}
use Rattle.road_world.proofs.WinnersSuffice.{opening_world-of_winners, replica-of_winners, world-again}
use Rattle.road_world.specs.Answers.{replica_number, sheet_at}
use Rattle.road_world.specs.Events.{World, WorldReplica, message_of_event, opening_replica, opening_world, replica_at, replica_of_winners, world_after_event, world_of_winners}
use Rattle.road_world.specs.declared.event.Event.{Event}
use Rattle.road_world.specs.declared.event.Event.TheVariants.{Edit, Withdraw, Import, Send, Heads, Beyond, Take, Advance}
use Rattle.road_world.specs.declared.message.Message.{Message}
use Rattle.road_sheet.specs.QueryCaches.{IsCacheOf}
use Rattle.road_sheet.specs.declared.query_cache.QueryCache.{QueryCache}
use Rattle.road_sheet.proofs.CachedRuns as cache_runs
use Rattle.road_commands.specs.Private.Caching.{IsCached}
use Rattle.road_commands.specs.Laboratory.{Laboratory}
use Rattle.road_commands.specs.Private.Changes.{keeps_edits}

-- ---- lists with one element set

-- a fact about the element that is set, and about each other element, each at its place, is a fact about all
set_each : {A : Type 0} (P : ℕ → A → Type 0) (xs : List A) (r : ℕ) (new : A) → P r new → ((q : ℕ) (x : A) → q ≢ r → slice_get xs q ≡ Some x → P q x)
    → (q : ℕ) (x : A) → slice_get (slice_set xs r new) q ≡ Some x → P q x
set_each P [] r new here others q x is = cc
set_each P (y ∷ ys) zero new here others zero x is = let same : new ≡ x = cc in subst (P 0) same here
set_each P (y ∷ ys) zero new here others (suc q) x is = others (suc q) x (λ e. cc) is
set_each P (y ∷ ys) (suc r) new here others zero x is = others zero x (λ e. cc) is
set_each P (y ∷ ys) (suc r) new here others (suc q) x is =
    set_each (λ n z. P (suc n) z) ys r new here (λ n z other at. others (suc n) z (λ e. other (cc)) at) q x is

-- a fact about all elements is a fact about the element at a place
all_at : {A : Type 0} (P : A → Type 0) (xs : List A) (q : ℕ) (x : A) → All P xs → slice_get xs q ≡ Some x → P x
all_at P [] q x all is = cc
all_at P (y ∷ ys) zero x all is = let same : y ≡ x = cc in subst P same (All-head P y ys all)
all_at P (y ∷ ys) (suc q) x all is = all_at P ys q x (All-tail P y ys all) is

-- ---- the edits of replicas after an event

-- if a replica is replaced by one with the same edits, the edits of all replicas stay the same
set_horizon : (xs : List WorldReplica) (r q : ℕ) (x : WorldReplica) → x.edits ≡ (slice_index_or xs r opening_replica).edits
    → (slice_index_or (slice_set xs r x) q opening_replica).edits ≡ (slice_index_or xs q opening_replica).edits
set_horizon [] r q x e = refl
set_horizon (y ∷ ys) zero zero x e = e
set_horizon (y ∷ ys) zero (suc q) x e = refl
set_horizon (y ∷ ys) (suc r) zero x e = refl
set_horizon (y ∷ ys) (suc r) (suc q) x e = set_horizon ys r q x e

-- replica q has the same edits in both worlds
abbrev SameEdits : World → World → ℕ → Type 0
SameEdits v w q = (replica_at v q).edits ≡ (replica_at w q).edits

-- the edits of all replicas stay the same if the event keeps edits
edits_kept : (e : Event) (w : World) (q : ℕ) → keeps_edits e ≡ true → SameEdits (world_after_event e w) w q
edits_kept (Edit r o step n) w q h = cc
edits_kept (Withdraw r o step) w q h = cc
edits_kept (Import r es) w q h = cc
edits_kept (Send r) w q h = refl
edits_kept (Heads r) w q h = refl
edits_kept (Beyond r m) w q h = refl
edits_kept (Take r m) w q h = cc
edits_kept (Advance r to) w q h = set_horizon w.replicas r q _ refl

-- if a replica is replaced, the edits of every other replica stay the same
other_set : (w : World) (r q : ℕ) (x : WorldReplica) → q ≢ r → (slice_index_or (slice_set w.replicas r x) q opening_replica).edits ≡ (replica_at w q).edits
other_set w r q x other = ap (λ (y : WorldReplica). y.edits) (get_or-set_other w.replicas r q x opening_replica other)

others_kept : (e : Event) (w : World) (q : ℕ) → q ≢ replica_number e → SameEdits (world_after_event e w) w q
others_kept (Edit r o step n) w q other = other_set w r q _ other
others_kept (Withdraw r o step) w q other = other_set w r q _ other
others_kept (Import r es) w q other = other_set w r q _ other
others_kept (Send r) w q other = refl
others_kept (Heads r) w q other = refl
others_kept (Beyond r m) w q other = refl
others_kept (Take r m) w q other = other_set w r q _ other
others_kept (Advance r to) w q other = other_set w r q _ other

-- if edits stay the same and all are winners, the winners stay the same
won_edits : (v w : World) (q : ℕ) → world_of_winners w ≡ w → SameEdits v w q → SameEdits (world_of_winners v) w q
won_edits v w q won same =
    ap (λ (x : WorldReplica). x.edits) (replica-of_winners v q) ∙ ap winners same
    ∙ sym (ap (λ (x : WorldReplica). x.edits) (replica-of_winners w q)) ∙ ap (λ (u : World). (replica_at u q).edits) won

-- ---- one cache

-- a cache of a run is a cache of every run of the same plan and edits
same_run : (v w : World) (q : ℕ) (kept : QueryCache) → v.plan ≡ w.plan → SameEdits v w q → IsCacheOf (sheet_at w q) kept → IsCacheOf (sheet_at v q) kept
same_run v w q kept plan same is = cache_runs.same_run (sheet_at w q) (sheet_at v q) kept (sym plan) (sym same) is

-- an event keeps the plan
plan_kept : (e : Event) (w : World) → (world_after_event e w).plan ≡ w.plan
plan_kept e w = plan-after_events (e ∷ []) w

-- there are as many replicas as before an event
as_many : (e : Event) (w : World) → length (world_of_winners (world_after_event e w)).replicas ≡ length w.replicas
as_many e w = length-map (world_after_event e w).replicas replica_of_winners ∙ replicas-after_event e w

-- ---- all caches

-- the cache at a replica's number is a cache of the replica's run
pub cached_read : (names : List (List ℕ)) (w : World) (runs : List QueryCache) (r : ℕ) (run : QueryCache) (sheet : Sheet) → IsCached names w runs → r < length runs → run ≡ slice_index_or runs r run → sheet ≡ sheet_at w r → IsCacheOf sheet run
cached_read names w runs r run sheet kept below is same =
    subst (λ (s : Sheet). IsCacheOf s run) (sym same) (kept.cached r run (slice_get_read runs (length runs) r run refl below is))

-- the caches stay valid after an event that keeps edits,
pub cached_on : (names : List (List ℕ)) (w v : World) (runs : List QueryCache) (e : Event) → IsCached names w runs → v ≡ world_of_winners (world_after_event e w) → keeps_edits e ≡ true → IsCached names v runs
cached_on names w v runs e kept is keeps =
    let after : IsCached names (world_of_winners (world_after_event e w)) runs = record {
      few = kept.few;
      replicas = as_many e w ∙ kept.replicas;
      winners = world-again (world_after_event e w);
      each = kept.each;
      cached = λ q run at. same_run (world_of_winners (world_after_event e w)) w q run (plan_kept e w)
          (won_edits (world_after_event e w) w q kept.winners (edits_kept e w q keeps)) (kept.cached q run at);
    } in
    subst (λ (u : World). IsCached names u runs) (sym is) after

-- after any event, if the cache of its replica is replaced by one that suits every run of the plan,
pub cached_but_one : (names : List (List ℕ)) (w v : World) (runs : List QueryCache) (e : Event) (r : ℕ) (old new : QueryCache) → IsCached names w runs → v ≡ world_of_winners (world_after_event e w) → r ≡ replica_number e
    → r < length runs → old ≡ slice_index_or runs r old → ((before after : Sheet) → before.plan ≡ after.plan → IsCacheOf before old → IsCacheOf after new) → IsCached names v (slice_set runs r new)
cached_but_one names w v runs e r old new kept is here below was restarts =
    let u : World = world_of_winners (world_after_event e w) in
    let at_first : IsCacheOf (sheet_at w r) old = cached_read names w runs r old (sheet_at w r) kept below was refl in
    let after : IsCached names u (slice_set runs r new) = record {
      few = kept.few;
      replicas = as_many e w ∙ kept.replicas;
      winners = world-again (world_after_event e w);
      each = length-set runs r new ∙ kept.each;
      cached = set_each (λ q run. IsCacheOf (sheet_at u q) run) runs r new (restarts (sheet_at w r) (sheet_at u r) (sym (plan_kept e w)) at_first)
          (λ q run other at. same_run u w q run (plan_kept e w) (won_edits (world_after_event e w) w q kept.winners (others_kept e w q (λ h. other (h ∙ sym here)))) (kept.cached q run at));
    } in
    subst (λ (x : World). IsCached names x (slice_set runs r new)) (sym is) after

-- after a query, which replaces the cache by another cache of the same run,
pub cached_shown : (names : List (List ℕ)) (w : World) (runs : List QueryCache) (r : ℕ) (new : QueryCache) (sheet : Sheet) → IsCached names w runs → sheet ≡ sheet_at w r → IsCacheOf sheet new → IsCached names w (slice_set runs r new)
cached_shown names w runs r new sheet kept same is = record {
  few = kept.few;
  replicas = kept.replicas;
  winners = kept.winners;
  each = length-set runs r new ∙ kept.each;
  cached = set_each (λ q run. IsCacheOf (sheet_at w q) run) runs r new (subst (λ (s : Sheet). IsCacheOf s new) same is) (λ q run other at. kept.cached q run at);
}

-- and they are valid before any command
pub cached_opening : (names : List (List ℕ)) (plan : Plan) (w : World) (runs : List QueryCache) (count : ℕ) → w ≡ opening_world plan count → count ≡ length names → length runs ≡ count
    → length names ≤ MOST_REPLICAS → ((sheet : Sheet) → All (IsCacheOf sheet) runs) → IsCached names w runs
cached_opening names plan w runs count is named each few opening =
    let first : IsCached names (opening_world plan count) runs = record {
      few = few;
      replicas = length-replicate count opening_replica ∙ named;
      winners = opening_world-of_winners plan count;
      each = each ∙ named;
      cached = λ q run at. all_at (IsCacheOf (sheet_at (opening_world plan count) q)) runs q run (opening (sheet_at (opening_world plan count) q)) at;
    } in
    subst (λ (u : World). IsCached names u runs) (sym is) first

-- ---- the laboratory's view

-- a laboratory, given its parts
abbrev pub laboratory_with : List (List ℕ) → List (List ℕ) → World → Laboratory
laboratory_with names messages w = record { replica_names = names; message_names = messages; world = w }

module _ (names messages : List (List ℕ)) (w : World) (runs : List QueryCache) (lab : Laboratory) (view_is : laboratory_with names messages w ≡ lab) (kept : IsCached names w runs) where
  -- each number below the number of names is the number of a cache
  pub run_below : (r : ℕ) → r < length lab.replica_names → r < length runs
  run_below r below =
      let same : length names ≡ length lab.replica_names = ap (λ (l : Laboratory). length l.replica_names) view_is in omega (arith, same, kept.each, below)

-- an event that makes a message keeps the edits of its replica
pub made_keeps : (e : Event) (w : World) (m : Message) → message_of_event w e ≡ Some m → keeps_edits e ≡ true
made_keeps (Edit r o step n) w m made = absurd (none_is_no_item m made)
made_keeps (Withdraw r o step) w m made = absurd (none_is_no_item m made)
made_keeps (Import r es) w m made = absurd (none_is_no_item m made)
made_keeps (Send r) w m made = refl
made_keeps (Heads r) w m made = refl
made_keeps (Beyond r n) w m made = refl
made_keeps (Take r n) w m made = absurd (none_is_no_item m made)
made_keeps (Advance r to) w m made = absurd (none_is_no_item m made)
