-- The stored parts of a world, and the world that contracts see: one replica read or changed, one more message.
use Rattle.std.proofs.Common.{◌≡◌, ◌<◌, ◌≤◌, ◌+◌, ◌∙◌, ℕ, zero, suc, max, List, [], ◌∷◌, ◌++◌, length, map, Option, Some, None, refl, ap, sym, subst, arith}
use Rattle.std.specs.Prelude.{slice_set, replicate, IfOk, IfSome, MatchOption, Result}
use Rattle.std.specs.declared.result.Result.TheVariants.{Ok, Err}
use Rattle.std.specs.List.{All, slice_index_or, slice_get}
use Rattle.std.proofs.lemmas.List.{get_or-map, get_or_default, map-set, map-append, length-set, length-map, length-replicate, replicate_more}
use Rattle.std.proofs.lemmas.List.Elements.{All-nil, All-push}
use Rattle.std.proofs.lemmas.Option.{slice_get_read, slice_get_within, get_or_from_slice_get}
use Rattle.lattice_core.specs.Sets.{contains, items, union}
use Rattle.road_plan.specs.Plan.{Plan, IsWithinLimits}
use Rattle.road_plan.specs.declared.limits.TheConstants.{MOST_REPLICAS}
use Rattle.road_scenario.specs.Edits.{Edits}
use Rattle.road_scenario.specs.Faults.{AreInRange, FitsSomePlan}
use Rattle.road_scenario.specs.Touched.{first_touched_step, first_touched_step_in}
use Rattle.road_scenario.specs.Winners.{winners, AreWinners}
use Rattle.road_scenario.specs.Instances.EditOrder.{winners_laws}
use Rattle.road_scenario.proofs.NoEdits.{winners-empty}
use Rattle.road_scenario.proofs.EditRanges.{in_range-empty}
use Rattle.road_delta.specs.Deltas.{heads, beyond}
use Rattle.road_delta.specs.declared.heads.Head.{Head}
use Rattle.road_delta.proofs.DeltaEdits.{from_set, winners-beyond}
use Rattle.road_sheet.specs.Commands.{SheetCommand, Advance, Take, sheet_after}
use Rattle.road_sheet.specs.Sheets.{Sheet, IsSheet, opening_sheet}
use Rattle.road_rewind.specs.Growth.{touched_step}
use Rattle.road_replica.specs.Replicas.{Replica, replica_after}
use Rattle.road_world.specs.Answers.{edits_wanted_fault, fault_of_event, replica_number, replica_with_sheet, sheet_at}
use Rattle.road_world.specs.Applied.{IsMade}
use Rattle.road_world.specs.Events.{World, WorldReplica, opening_replica, replica_at, asked_heads, carried_edits, message_of_event, replica_of_winners, message_of_winners, world_after_event, world_of_winners}
use Rattle.road_world.specs.Events.{world_with_advance, world_with_edits}
use Rattle.road_world.specs.Private.Worlds.{AreSendable, IsSendable, world_replica, IsReplicaOf, IsWorldKept}
use Rattle.road_world.specs.declared.event.Event.{Event}
use Rattle.road_world.specs.declared.event.Event.TheVariants.{Edit, Withdraw, Import, Send, Heads, Beyond}
use Rattle.road_world.specs.declared.event.Event.TheVariants as events
use Rattle.road_world.specs.declared.faults.WorldFault.{WorldFault}
use Rattle.road_world.specs.declared.message.Message.{Message}
use Rattle.road_world.specs.declared.message.Message.TheVariants.{Whole, Answer, Asked}
use Rattle.road_world.proofs.EventAnswers.{none_refuses}
use Rattle.road_world.proofs.MadeMessages.{after_made, none_is_no_item, same_some}
use Rattle.road_world.proofs.WinnersSuffice.{winners_again, world_with_message}

-- the stored parts, as contracts see them
abbrev pub viewed : Plan → List Replica → List Message → World
viewed plan xs ms = record { plan = plan; replicas = map world_replica xs; messages = ms }

-- ---- lists

-- two facts about an existing item, together
pub if_both : {X : Type 0} (A : Type 0) (P Q R : X → Type 0) (o : Option X) → IfSome o P → MatchOption o A Q → ((x : X) → P x → Q x → R x) → IfSome o R
if_both A P Q R None p q both = tt
if_both A P Q R (Some x) p q both = both x p q

some_fault_is_no_none : (fault : WorldFault) → Some fault ≡ None → ⊥
some_fault_is_no_none fault h = cc

-- a fact about each item at its place stays true if one is replaced by one for which it is true
set_each : (P : ℕ → Replica → Type 0) (xs : List Replica) (r : ℕ) (y : Replica) → ((n : ℕ) (x : Replica) → slice_get xs n ≡ Some x → P n x) → P r y → (n : ℕ) (x : Replica) → slice_get (slice_set xs r y) n ≡ Some x → P n x
set_each P [] r y each new n x h = each n x h
set_each P (z ∷ xs) zero y each new zero x h = subst (P 0) (same_some y x h) new
set_each P (z ∷ xs) zero y each new (suc n) x h = each (suc n) x h
set_each P (z ∷ xs) (suc r) y each new zero x h = each zero x h
set_each P (z ∷ xs) (suc r) y each new (suc n) x h = set_each (λ k. P (suc k)) xs r y (λ k w. each (suc k) w) new n x h

-- a fact about each item at its place stays true if an item is added for which it is true
add_each : (P : ℕ → Replica → Type 0) (xs : List Replica) (y : Replica) → ((n : ℕ) (x : Replica) → slice_get xs n ≡ Some x → P n x) → P (length xs) y → (n : ℕ) (x : Replica) → slice_get (xs ++ y ∷ []) n ≡ Some x → P n x
add_each P [] y each new zero x h = subst (P 0) (same_some y x h) new
add_each P [] y each new (suc n) x h = absurd (none_is_no_item x h)
add_each P (z ∷ xs) y each new zero x h = each zero x h
add_each P (z ∷ xs) y each new (suc n) x h = add_each (λ k. P (suc k)) xs y (λ k w. each (suc k) w) new n x h

replicas_win : (xs : List Replica) → ((n : ℕ) (x : Replica) → slice_get xs n ≡ Some x → AreWinners x.sheet.edits) → map replica_of_winners (map world_replica xs) ≡ map world_replica xs
replicas_win [] win = refl
replicas_win (x ∷ xs) win =
    ap (λ (s : Edits). let q : WorldReplica = record { edits = s; horizon = x.sheet.horizon } in q ∷ map replica_of_winners (map world_replica xs)) (win 0 x refl)
    ∙ ap (λ (ys : List WorldReplica). world_replica x ∷ ys) (replicas_win xs (λ n. win (suc n)))

pub message_wins : (plan : Plan) (m : Message) → IsSendable plan m → message_of_winners m ≡ m
message_wins plan (Whole edits) is = ap Whole is.winners
message_wins plan (Answer edits) is = ap Answer is.winners
message_wins plan (Asked hs) is = refl

messages_win : (plan : Plan) (ms : List Message) → All (IsSendable plan) ms → map message_of_winners ms ≡ ms
messages_win plan [] all = refl
messages_win plan (m ∷ ms) all =
    ap (λ (n : Message). n ∷ map message_of_winners ms) (message_wins plan m (all 0 m (omega arith)))
    ∙ ap (λ (ns : List Message). m ∷ ns) (messages_win plan ms (λ k d below. all (suc k) d (omega (arith, below))))

plan_after : (command : SheetCommand) (s : Sheet) → (sheet_after command s).plan ≡ s.plan
plan_after (Take edits) s = refl
plan_after (Advance to) s = refl

carried_by : (plan : Plan) (o : Option Message) → ((m : Message) → o ≡ Some m → IsSendable plan m) → edits_wanted_fault o ≡ None → AreSendable plan (carried_edits o)
carried_by plan None sendable wanted = absurd (some_fault_is_no_none _ wanted)
carried_by plan (Some (Whole edits)) sendable wanted = sendable (Whole edits) refl
carried_by plan (Some (Answer edits)) sendable wanted = sendable (Answer edits) refl
carried_by plan (Some (Asked hs)) sendable wanted = absurd (some_fault_is_no_none _ wanted)

-- a message without edits carries winners, too
carried_of_any : (plan : Plan) (o : Option Message) → ((m : Message) → o ≡ Some m → IsSendable plan m) → AreSendable plan (carried_edits o)
carried_of_any plan None sendable = record { winners = winners-empty; in_range = in_range-empty plan }
carried_of_any plan (Some (Whole edits)) sendable = sendable (Whole edits) refl
carried_of_any plan (Some (Answer edits)) sendable = sendable (Answer edits) refl
carried_of_any plan (Some (Asked hs)) sendable = record { winners = winners-empty; in_range = in_range-empty plan }

-- ---- a stored world

module _ (plan : Plan) (xs : List Replica) (ms : List Message) (kept : IsWorldKept plan xs ms) where
  -- each replica and each message holds the winners already
  viewed_wins : world_of_winners (viewed plan xs ms) ≡ viewed plan xs ms
  viewed_wins =
      ap (λ (ys : List WorldReplica). let w : World = record { plan = plan; replicas = ys; messages = map message_of_winners ms } in w) (replicas_win xs (λ n x h. (kept.each n x h).sheet.winners))
      ∙ ap (λ (ns : List Message). let w : World = record { plan = plan; replicas = map world_replica xs; messages = ns } in w) (messages_win plan ms kept.sendable)

  -- one replica is replaced
  pub still_kept : (r : ℕ) (y : Replica) → IsReplicaOf plan r y → IsWorldKept plan (slice_set xs r y) ms
  still_kept r y is = record {
    few = let same = length-set xs r y in omega (arith, same, kept.few);
    each = set_each (IsReplicaOf plan) xs r y kept.each is;
    sendable = kept.sendable;
  }

  -- one replica is read
  pub is_replica : (r : ℕ) (x : Replica) → x ≡ slice_index_or xs r x → r < length xs → IsReplicaOf plan r x
  is_replica r x is below = kept.each r x (slice_get_read xs (length xs) r x refl below is)

  module _ (k : World) (v : viewed plan xs ms ≡ k) where
    pub plan_same : plan ≡ k.plan
    plan_same = ap (λ (w : World). w.plan) v

    pub world_wins : world_of_winners k ≡ k
    world_wins = subst (λ (w : World). world_of_winners w ≡ w) v viewed_wins

    pub below_kept : (r : ℕ) → r < length k.replicas → r < length xs
    below_kept r below =
        let same : length xs ≡ length k.replicas = sym (length-map xs world_replica) ∙ ap (λ (w : World). length w.replicas) v in
        omega (arith, same, below)

    -- a replica that is read is the replica of the world
    pub read : (r : ℕ) (x : Replica) → x ≡ slice_index_or xs r x → r < length xs → replica_at k r ≡ world_replica x
    read r x is below =
        ap (λ (w : World). slice_index_or w.replicas r opening_replica) (sym v) ∙ get_or-map world_replica xs r x opening_replica below ∙ ap world_replica (sym is)

    pub with_sheet : (r : ℕ) (x : Replica) → x ≡ slice_index_or xs r x → r < length xs → x ≡ replica_with_sheet k r
    with_sheet r x is below =
        let of = is_replica r x is below in
        ap (λ (n : ℕ). let y : Replica = record { number = n; sheet = x.sheet } in y) of.number_is
        ∙ ap (λ (p : Plan). let y : Replica = record { number = r; sheet = record { plan = p; edits = x.sheet.edits; horizon = x.sheet.horizon } } in y) (of.plan_is ∙ plan_same)
        ∙ ap (λ (q : WorldReplica). let y : Replica = record { number = r; sheet = record { plan = k.plan; edits = q.edits; horizon = q.horizon } } in y) (sym (read r x is below))

    -- the sheet of a replica of the world is valid
    pub is_sheet : (r : ℕ) → r < length k.replicas → IsSheet (sheet_at k r)
    is_sheet r below =
        let x : Replica = slice_index_or xs r (record { number = r; sheet = opening_sheet plan }) in
        let there = below_kept r below in
        let same : x ≡ slice_index_or xs r x = get_or_default xs r _ x there in
        subst IsSheet (ap (λ (y : Replica). y.sheet) (with_sheet r x same there)) (is_replica r x same there).sheet

    pub few_replicas : length k.replicas ≤ MOST_REPLICAS
    few_replicas =
        let same : length xs ≡ length k.replicas = sym (length-map xs world_replica) ∙ ap (λ (w : World). length w.replicas) v in
        omega (arith, same, kept.few)

    -- a message that is read may be sent
    pub is_sendable : (m : ℕ) (x : Message) → slice_get ms m ≡ Some x → IsSendable plan x
    is_sendable m x h = subst (IsSendable plan) (get_or_from_slice_get ms m x x h) (kept.sendable m x (slice_get_within ms m x h))

    -- the edits of a message that carries edits may be sent
    pub carried : (m : ℕ) → edits_wanted_fault (slice_get ms m) ≡ None → AreSendable plan (carried_edits (slice_get ms m))
    carried m wanted = carried_by plan (slice_get ms m) (λ x. is_sendable m x) wanted

    -- the edits of a message fit the plan of each replica
    pub carried_in_range : (r : ℕ) (x : Replica) (m : ℕ) (edits : Edits) (ns : List Message) → x ≡ slice_index_or xs r x → r < length xs → ns ≡ ms → edits ≡ carried_edits (slice_get ns m) → edits_wanted_fault (slice_get ns m) ≡ None → AreInRange x.sheet.plan edits
    carried_in_range r x m edits ns is below same carries wanted =
        let sendable = carried m (subst (λ (l : List Message). edits_wanted_fault (slice_get l m) ≡ None) same wanted) in
        let here : edits ≡ carried_edits (slice_get ms m) = carries ∙ ap (λ (l : List Message). carried_edits (slice_get l m)) same in
        subst (λ (p : Plan). AreInRange p edits) (sym (is_replica r x is below).plan_is) (subst (λ (s : Edits). AreInRange plan s) (sym here) sendable.in_range)

    -- the edits of any message of the world may be sent
    pub carried_there : (m : ℕ) → AreSendable k.plan (carried_edits (slice_get k.messages m))
    carried_there m = subst (λ (w : World). AreSendable w.plan (carried_edits (slice_get w.messages m))) v (carried_of_any plan (slice_get ms m) (λ x. is_sendable m x))

    -- the first step that edits touch is the same for the world's replica
    pub same_touched : (r : ℕ) (x : Replica) (edits : Edits) → x ≡ slice_index_or xs r x → r < length xs → touched_step x.sheet edits ≡ first_touched_step (replica_at k r).edits (union (replica_at k r).edits edits)
    same_touched r x edits is below =
        ap (λ (s : Edits). first_touched_step_in (items (winners x.sheet.edits)) (items s)) (winners_laws.of_tops (union x.sheet.edits edits))
        ∙ ap (λ (q : WorldReplica). first_touched_step q.edits (union q.edits edits)) (sym (read r x is below))

    -- ---- a write

    -- a replica after a command has the same number and plan, and a valid sheet
    pub written : (r : ℕ) (x y : Replica) (command : SheetCommand) → x ≡ slice_index_or xs r x → r < length xs → y ≡ replica_after command x → IsSheet y.sheet → IsReplicaOf plan r y
    written r x y command is below after sheet =
        let of = is_replica r x is below in record {
          number_is = ap (λ (z : Replica). z.number) after ∙ of.number_is;
          plan_is = ap (λ (z : Replica). z.sheet.plan) after ∙ plan_after command x.sheet ∙ of.plan_is;
          sheet = sheet;
        }

    -- one replica has changed
    pub changed : (r : ℕ) (y : Replica) (z : WorldReplica) → world_replica y ≡ replica_of_winners z → viewed plan (slice_set xs r y) ms ≡ world_of_winners (record k { replicas = slice_set k.replicas r z })
    changed r y z same =
        let put : WorldReplica → World → World = λ q w. record w { replicas = slice_set w.replicas r q } in
        ap (λ (ys : List WorldReplica). let w : World = record { plan = plan; replicas = ys; messages = ms } in w) (map-set world_replica xs r y)
        ∙ ap (λ (q : WorldReplica). put q (viewed plan xs ms)) same
        ∙ ap (put (replica_of_winners z)) (sym viewed_wins)
        ∙ ap (λ (ys : List WorldReplica). let w : World = record { plan = plan; replicas = ys; messages = map message_of_winners ms } in w) (sym (map-set replica_of_winners (map world_replica xs) r z))
        ∙ ap (λ (w : World). world_of_winners (put z w)) v

    pub taken : (r : ℕ) (x y : Replica) (edits : Edits) → x ≡ slice_index_or xs r x → r < length xs → y ≡ replica_after (Take edits) x → viewed plan (slice_set xs r y) ms ≡ world_of_winners (world_with_edits r edits k)
    taken r x y edits is below after =
        changed r y (record (replica_at k r) { edits = union (replica_at k r).edits edits })
        (ap world_replica after ∙ ap (λ (q : WorldReplica). let p : WorldReplica = record { edits = winners (union q.edits edits); horizon = q.horizon } in p) (sym (read r x is below)))

    pub advanced : (r to : ℕ) (x y : Replica) → x ≡ slice_index_or xs r x → r < length xs → y ≡ replica_after (Advance to) x → viewed plan (slice_set xs r y) ms ≡ world_of_winners (world_with_advance r to k)
    advanced r to x y is below after =
        let of = is_replica r x is below in
        changed r y (record (replica_at k r) { horizon = max (replica_at k r).horizon to })
        (ap world_replica after
        ∙ ap (λ (s : Edits). let p : WorldReplica = record { edits = s; horizon = max x.sheet.horizon to } in p) (sym of.sheet.winners)
        ∙ ap (λ (q : WorldReplica). let p : WorldReplica = record { edits = winners q.edits; horizon = max q.horizon to } in p) (sym (read r x is below)))

    -- ---- a message

    -- one more message of winners
    pub sent : (m n : Message) → m ≡ message_of_winners n → world_with_message m k ≡ world_of_winners (world_with_message n k)
    sent m n is =
        ap (λ (q : Message). world_with_message q k) is
        ∙ sym (ap (λ (w : World). world_with_message (message_of_winners n) w) world_wins)
        ∙ ap (λ (ns : List Message). let w : World = record { plan = k.plan; replicas = map replica_of_winners k.replicas; messages = ns } in w) (sym (map-append message_of_winners k.messages (n ∷ [])))

    -- all edits that a replica holds, as the event's message
    pub whole_made : (r : ℕ) (x : Replica) (edits : Edits) → x ≡ slice_index_or xs r x → r < length xs → edits ≡ x.sheet.edits → message_of_event k (Send r) ≡ Some (Whole edits)
    whole_made r x edits is below all =
        ap (λ (q : WorldReplica). Some (Whole q.edits)) (read r x is below) ∙ ap (λ (s : Edits). Some (Whole s)) (sym all)

    -- the heads of all edits that a replica holds, as the event's message
    pub heads_made : (r : ℕ) (x : Replica) (hs : List Head) → x ≡ slice_index_or xs r x → r < length xs → hs ≡ heads x.sheet.edits → message_of_event k (Heads r) ≡ Some (Asked hs)
    heads_made r x hs is below all =
        ap (λ (q : WorldReplica). Some (Asked (heads (winners q.edits)))) (read r x is below)
        ∙ ap (λ (s : Edits). Some (Asked (heads s))) (is_replica r x is below).sheet.winners ∙ ap (λ (ts : List Head). Some (Asked ts)) (sym all)

    -- the edits that a replica holds beyond heads, as the event's message
    pub answer_made : (r : ℕ) (x : Replica) (m : ℕ) (delta : Edits) → x ≡ slice_index_or xs r x → r < length xs → delta ≡ beyond x.sheet.edits (asked_heads (slice_get k.messages m)) → message_of_event k (Beyond r m) ≡ Some (Answer delta)
    answer_made r x m delta is below all =
        let asked : List Head = asked_heads (slice_get k.messages m) in
        ap (λ (q : WorldReplica). Some (Answer (beyond (winners q.edits) asked))) (read r x is below)
        ∙ ap (λ (s : Edits). Some (Answer (beyond s asked))) (is_replica r x is below).sheet.winners ∙ ap (λ (s : Edits). Some (Answer s)) (sym all)

    -- the message of an event that is not refused may be sent
    made_sendable : (e : Event) (m : Message) → fault_of_event k e ≡ None → message_of_event k e ≡ Some m → IsSendable k.plan m
    made_sendable (Edit r o step n) m accepted made = absurd (none_is_no_item m made)
    made_sendable (Withdraw r o step) m accepted made = absurd (none_is_no_item m made)
    made_sendable (Import r es) m accepted made = absurd (none_is_no_item m made)
    made_sendable (Send r) m accepted made =
        let sheet = is_sheet r (none_refuses (Send r) k accepted).0 in
        let held : AreSendable k.plan (replica_at k r).edits = record { winners = sheet.winners; in_range = sheet.in_range } in
        subst (IsSendable k.plan) (same_some (Whole (replica_at k r).edits) m made) held
    made_sendable (Heads r) m accepted made = subst (IsSendable k.plan) (same_some _ m made) tt
    made_sendable (Beyond r n) m accepted made =
        let sheet = is_sheet r (none_refuses (Beyond r n) k accepted).0 in
        let held : Edits = (replica_at k r).edits in
        let asked : List Head = asked_heads (slice_get k.messages n) in
        let wins : winners held ≡ held = sheet.winners in
        let delta : AreSendable k.plan (beyond (winners held) asked) = record {
          winners = winners-beyond (winners held) asked (winners_again held);
          in_range = λ e i. sheet.in_range e (from_set held asked e (ap (λ (s : Edits). contains (beyond s asked) e) (sym wins) ∙ i));
        } in
        subst (IsSendable k.plan) (same_some (Answer (beyond (winners held) asked)) m made) delta
    made_sendable (events.Take r n) m accepted made = absurd (none_is_no_item m made)
    made_sendable (events.Advance r to) m accepted made = absurd (none_is_no_item m made)

    -- the edits of the message fit the plan
    pub made_fits : (e : Event) (result : Result Message WorldFault) → IsMade k e result → IfOk result (λ m. FitsSomePlan (carried_edits (Some m)))
    made_fits e (Ok m) made =
        let sheet = is_sheet (replica_number e) (none_refuses e k made.0).0 in
        let sendable = made_sendable e m made.0 made.1 in record {
          plan = k.plan;
          within = sheet.plan_within;
          in_range = (carried_of_any k.plan (Some m) (λ x is. subst (IsSendable k.plan) (same_some m x is) sendable)).in_range;
        }
    made_fits e (Err fault) made = tt

    -- with the message added, the world is still valid
    pub posted_kept : (e : Event) (m : Message) → fault_of_event k e ≡ None → message_of_event k e ≡ Some m → IsWorldKept plan xs (ms ++ m ∷ [])
    posted_kept e m accepted made =
        let sendable = subst (λ (p : Plan). IsSendable p m) (sym plan_same) (made_sendable e m accepted made) in
        record { few = kept.few; each = kept.each; sendable = All-push (IsSendable plan) ms m kept.sendable sendable }

    -- with the message added, the world is the world after the event
    pub posted : (e : Event) (m : Message) → fault_of_event k e ≡ None → message_of_event k e ≡ Some m → viewed plan xs (ms ++ m ∷ []) ≡ world_of_winners (world_after_event e k)
    posted e m accepted made =
        ap (world_with_message m) v ∙ sent m m (sym (message_wins k.plan m (made_sendable e m accepted made)))
        ∙ ap world_of_winners (sym (after_made e k m made))

-- ---- before any event

-- a replica before any event, by its place
pub opening_of : (plan : Plan) (number : ℕ) (x : Replica) → IsWithinLimits plan → x ≡ record { number = number; sheet = opening_sheet plan } → IsReplicaOf plan number x
opening_of plan number x within is =
    let opened : IsReplicaOf plan number (record { number = number; sheet = opening_sheet plan }) = record {
      number_is = refl;
      plan_is = refl;
      sheet = record { plan_within = within; winners = winners-empty; in_range = in_range-empty plan; within_limit = omega arith };
    } in
    subst (IsReplicaOf plan number) (sym is) opened

-- `count` replicas before any event
pub record AreOpened (plan : Plan) (count : ℕ) (xs : List Replica) : Type 0 where
  pub seen : map world_replica xs ≡ replicate count opening_replica
  pub each : (number : ℕ) (x : Replica) → slice_get xs number ≡ Some x → IsReplicaOf plan number x

length_opened : (plan : Plan) (count : ℕ) (xs : List Replica) → AreOpened plan count xs → length xs ≡ count
length_opened plan count xs are = sym (length-map xs world_replica) ∙ ap (λ (ys : List WorldReplica). length ys) are.seen ∙ length-replicate count opening_replica

pub one_more_opened : (plan : Plan) (count : ℕ) (xs : List Replica) (x : Replica) → AreOpened plan count xs → IsWithinLimits plan → x ≡ record { number = count; sheet = opening_sheet plan } → AreOpened plan (count + 1) (xs ++ x ∷ [])
one_more_opened plan count xs x are within is = record {
  seen = map-append world_replica xs (x ∷ []) ∙ ap (λ (ys : List WorldReplica). ys ++ world_replica x ∷ []) are.seen ∙ ap (λ (y : Replica). replicate count opening_replica ++ world_replica y ∷ []) is
      ∙ replicate_more count opening_replica;
  each = add_each (IsReplicaOf plan) xs x are.each (subst (λ n. IsReplicaOf plan n x) (sym (length_opened plan count xs are)) (opening_of plan count x within is));
}

pub opened_kept : (plan : Plan) (count : ℕ) (xs : List Replica) → AreOpened plan count xs → count ≤ MOST_REPLICAS → IsWorldKept plan xs []
opened_kept plan count xs are few = record {
  few = let same = length_opened plan count xs are in omega (arith, same, few);
  each = are.each;
  sendable = All-nil (IsSendable plan);
}
