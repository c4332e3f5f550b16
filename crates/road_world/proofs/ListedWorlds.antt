-- Worlds whose replicas and messages list their edits in the order in which they came. The effects of events in them
-- can be computed, and are those in the worlds of the sets of these lists.
use Rattle.std.proofs.Common.{◌≡◌, ℕ, suc, zero, max, Bool, List, [], ◌∷◌, ◌++◌, length, map, Option, Some, None, refl, ap, sym, subst, ◌∙◌}
use Rattle.std.specs.Prelude.{◌&&◌, ◌||◌, nat_lt, replicate, slice_set, Result, if◌then◌else◌}
use Rattle.std.specs.FinMap as maps
use Rattle.std.specs.FinMap.Entries.{put}
use Rattle.std.specs.List.{slice_index_or, slice_get, filter}
use Rattle.std.specs.Option.{option_map}
use Rattle.std.specs.Ordering.{eq_by_cmp}
use Rattle.std.specs.declared.result.Result.TheVariants.{Ok, Err}
use Rattle.std.proofs.lemmas.List.{map-set, map-append, length-map}
use Rattle.std.proofs.lemmas.List.Folds.{list_any-append}
use Rattle.std.proofs.lemmas.Option.{slice_get-map}
use Rattle.lattice_core.specs.Sets.{insert, items, from_list, retain, union}
use Rattle.lattice_core.proofs.SetElements.{contains-from_list, contains-retain, contains-union, from_list-empty, items-empty, same_items, same_set}
use Rattle.road_plan.specs.Plan.{Plan}
use Rattle.road_plan.specs.declared.object.Object.{Object}
use Rattle.road_scenario.specs.Counts.{greatest_count_in}
use Rattle.road_scenario.specs.Edits.{Edits, edit_cmp}
use Rattle.road_scenario.specs.Faults.{fault_of_edit}
use Rattle.road_scenario.specs.Instances.EditOrder.{edit_total, edit_exact}
use Rattle.road_scenario.specs.Touched.{first_touched_step, first_touched_step_in}
use Rattle.road_scenario.specs.Winners.{winners, winners_in}
use Rattle.road_scenario.specs.declared.edit.Edit as edits
use Rattle.road_scenario.specs.declared.edit.Value.{Value}
use Rattle.road_scenario.specs.declared.edit.Value.TheVariants.{Withdrawn, Put}
use Rattle.road_scenario.proofs.EditMembers.{any-filter}
use Rattle.road_scenario.proofs.WinnersOfLists.{from_list-winners_in}
use Rattle.road_delta.specs.Deltas.{beyond, head_of, heads, is_beyond}
use Rattle.road_delta.specs.declared.heads.Head.{Head}
use Rattle.road_replica.specs.Refusals.{import_fault, advance_fault, own_edit_fault}
use Rattle.road_replica.specs.Replicas.{local_edit, single_edit}
use Rattle.road_replica.specs.declared.reply.Reply.{Reply}
use Rattle.road_replica.specs.declared.reply.Reply.TheVariants as replies
use Rattle.road_world.specs.Answers.{touched_reply, reply_to_event, replica_number, edits_wanted_fault, heads_wanted_fault, fault_at_replica, fault_of_event, IsRefusal, IsAnswer, world_after_answer, AreAnswers}
use Rattle.road_world.specs.Events.{World, WorldReplica, opening_replica, opening_world, replica_at, world_with_edits, world_with_local_edit, carried_edits, asked_heads, world_after_event, world_after_events, accepted_events, replica_after_events}
use Rattle.road_world.specs.declared.event.Event.{Event}
use Rattle.road_world.specs.declared.event.Event.TheVariants.{Edit, Withdraw, Import, Send, Heads, Beyond, Take, Advance}
use Rattle.road_world.specs.declared.faults.WorldFault.{WorldFault}
use Rattle.road_world.specs.declared.faults.WorldFault.TheVariants.{NoReplica}
use Rattle.road_world.specs.declared.faults.WorldFault.TheVariants as faults
use Rattle.road_world.specs.declared.message.Message.{Message}
use Rattle.road_world.specs.declared.message.Message.TheVariants as messages
use Rattle.road_world.proofs.WinnersSuffice.{replica_with, same_world, world_with_message}

-- ---- sets of lists

-- the entries of the set of a list
abbrev sorted_entries : List edits.Edit → List (edits.Edit × Unit {0})
sorted_entries [] = []
sorted_entries (e ∷ es) = put edit_cmp e tt (sorted_entries es)

-- the edits of a list in their order, each once
abbrev pub sorted : List edits.Edit → List edits.Edit
sorted es = map (λ x. x.0) (sorted_entries es)

-- a list of entries without keys is empty
no_entry : (xs : List (edits.Edit × Unit {0})) → map (λ x. x.0) xs ≡ [] → xs ≡ []
no_entry [] h = refl
no_entry (x ∷ xs) h = cc

-- the entries of the set of a list are these sorted entries
entries_of_list : (es : List edits.Edit) → maps.entries (from_list {R = edit_cmp} es) ≡ sorted_entries es
unfolding from_list insert items
entries_of_list [] = no_entry _ (items-empty edit_cmp)
entries_of_list (e ∷ es) = maps.entries-insert edit_total (from_list es) e tt ∙ ap (put edit_cmp e tt) (entries_of_list es)

-- the items of the set of a list are the sorted edits
pub items_of_list : (es : List edits.Edit) → items (from_list {R = edit_cmp} es) ≡ sorted es
unfolding items
items_of_list es = ap (map (λ x. x.0)) (entries_of_list es)

-- lists that are the same when sorted have the same set: order and repetition do not matter
pub same_set_of_lists : (es fs : List edits.Edit) → sorted es ≡ sorted fs → from_list {R = edit_cmp} es ≡ from_list fs
same_set_of_lists es fs same = same_items _ _ (items_of_list es ∙ same ∙ sym (items_of_list fs))

-- the union of the sets of two lists is the set of both lists together
pub union_of_lists : (es fs : List edits.Edit) → union (from_list {R = edit_cmp} es) (from_list fs) ≡ from_list (es ++ fs)
union_of_lists es fs = same_set edit_total edit_exact _ _ (λ q.
    contains-union edit_total (from_list es) (from_list fs) q
    ∙ (λ i. contains-from_list edit_total es q i || contains-from_list edit_total fs q i)
    ∙ sym (contains-from_list edit_total (es ++ fs) q ∙ list_any-append (eq_by_cmp edit_cmp q) es fs))

-- the elements of the set of a list that pass a test
pub retained_of_list : (p : edits.Edit → Bool) (es : List edits.Edit) → retain (from_list {R = edit_cmp} es) p ≡ from_list (filter p es)
retained_of_list p es = same_set edit_total edit_exact _ _ (λ q.
    contains-retain (from_list es) p q (λ x h. ap p (sym (edit_exact q x h)))
    ∙ ap (λ b. b && p q) (contains-from_list edit_total es q)
    ∙ sym (contains-from_list edit_total (filter p es) q ∙ any-filter p es q))

-- the winners of the set of a list
winners_of_list : (es : List edits.Edit) → winners (from_list es) ≡ from_list (winners_in es)
winners_of_list es = sym (from_list-winners_in es)

-- the items of the winners of the set of a list
winner_items_of_list : (es : List edits.Edit) → items (winners (from_list es)) ≡ sorted (winners_in es)
winner_items_of_list es = ap items (winners_of_list es) ∙ items_of_list (winners_in es)

-- ---- worlds of lists

-- a replica that lists its edits
pub record ListReplica : Type 0 where
  pub edits : List edits.Edit
  pub horizon : ℕ

-- a message that lists its edits, or has heads
pub data ListMessage : Type 0 where
  Whole : List edits.Edit → ListMessage
  Answer : List edits.Edit → ListMessage
  Asked : List Head → ListMessage

-- replicas and messages that list their edits
pub record ListWorld : Type 0 where
  pub replicas : List ListReplica
  pub messages : List ListMessage

-- the replica of the set of a list
abbrev pub replica_of_list : ListReplica → WorldReplica
replica_of_list x = record { edits = from_list x.edits; horizon = x.horizon }

-- the message of the set of a list
abbrev pub message_of_list : ListMessage → Message
message_of_list (Whole es) = messages.Whole (from_list es)
message_of_list (Answer es) = messages.Answer (from_list es)
message_of_list (Asked hs) = messages.Asked hs

-- the world of the sets of the lists
abbrev pub world_of_lists : Plan → ListWorld → World
world_of_lists plan w = record {
  plan = plan;
  replicas = map replica_of_list w.replicas;
  messages = map message_of_list w.messages;
}

-- a replica without edits
abbrev pub unedited : ListReplica
unedited = record { edits = []; horizon = 0 }

-- `count` replicas before any event
abbrev pub opening_lists : ℕ → ListWorld
opening_lists count = record { replicas = replicate count unedited; messages = [] }

-- replica r
abbrev pub at : ListWorld → ℕ → ListReplica
at w r = slice_index_or w.replicas r unedited

-- ---- events in worlds of lists

-- the edit that a replica makes
abbrev pub made : ListWorld → ℕ → Object → ℕ → Value → edits.Edit
made w r o step v = record {
  object = o;
  step = step;
  stamp = record { count = suc (greatest_count_in (sorted (at w r).edits)); number = r };
  value = v;
}

-- edits reach a replica
abbrev pub with_edits : ℕ → List edits.Edit → ListWorld → ListWorld
with_edits r es w =
    let reached = record (at w r) { edits = (at w r).edits ++ es } in
    record w { replicas = slice_set w.replicas r reached }

-- one more message
abbrev pub with_message : ListMessage → ListWorld → ListWorld
with_message m w = record w { messages = w.messages ++ m ∷ [] }

-- the edits that a message carries
abbrev pub carried : Option ListMessage → List edits.Edit
carried (Some (Whole es)) = es
carried (Some (Answer es)) = es
carried (Some (Asked hs)) = []
carried None = []

-- the heads of a message
abbrev pub asked : Option ListMessage → List Head
asked (Some (Whole es)) = []
asked (Some (Answer es)) = []
asked (Some (Asked hs)) = hs
asked None = []

-- the world after an accepted event
abbrev pub after : Event → ListWorld → ListWorld
after (Edit r o step n) w = with_edits r (made w r o step (Put n) ∷ []) w
after (Withdraw r o step) w = with_edits r (made w r o step Withdrawn ∷ []) w
after (Import r es) w = with_edits r es.items w
after (Send r) w = with_message (Whole (at w r).edits) w
after (Heads r) w = with_message (Asked (map head_of (sorted (winners_in (at w r).edits)))) w
after (Beyond r m) w =
    with_message (Answer (filter (is_beyond (asked (slice_get w.messages m))) (winners_in (at w r).edits))) w
after (Take r m) w = with_edits r (carried (slice_get w.messages m)) w
after (Advance r to) w =
    let advanced = record (at w r) { horizon = max (at w r).horizon to } in
    record w { replicas = slice_set w.replicas r advanced }

-- the reply if edits reach a replica: the first step that they touch
abbrev pub touched_there : ListWorld → ℕ → List edits.Edit → Reply
touched_there w r es =
    replies.Touched (first_touched_step_in (sorted (winners_in (at w r).edits)) (sorted (winners_in ((at w r).edits ++ es))))

-- the reply to an accepted event
abbrev pub reply_to : ListWorld → Event → Reply
reply_to w (Edit r o step n) = replies.Stamped (made w r o step (Put n)).stamp
reply_to w (Withdraw r o step) = replies.Stamped (made w r o step Withdrawn).stamp
reply_to w (Import r es) = touched_there w r es.items
reply_to w (Send r) = replies.Message (length w.messages)
reply_to w (Heads r) = replies.Message (length w.messages)
reply_to w (Beyond r m) = replies.Message (length w.messages)
reply_to w (Take r m) = touched_there w r (carried (slice_get w.messages m))
reply_to w (Advance r to) = replies.Horizon (max (at w r).horizon to)

-- the cause if the replica exists
abbrev pub fault_there : Plan → ListWorld → Event → Option WorldFault
fault_there plan w (Edit r o step n) =
    option_map faults.Replica (option_map own_edit_fault (fault_of_edit plan (made w r o step (Put n))))
fault_there plan w (Withdraw r o step) =
    option_map faults.Replica (option_map own_edit_fault (fault_of_edit plan (made w r o step Withdrawn)))
fault_there plan w (Import r es) = option_map faults.Replica (import_fault plan es.items)
fault_there plan w (Send r) = None
fault_there plan w (Heads r) = None
fault_there plan w (Beyond r m) = heads_wanted_fault (option_map message_of_list (slice_get w.messages m))
fault_there plan w (Take r m) = edits_wanted_fault (option_map message_of_list (slice_get w.messages m))
fault_there plan w (Advance r to) = option_map faults.Replica (advance_fault to)

-- the cause for which an event is refused
abbrev pub fault_to : Plan → ListWorld → Event → Option WorldFault
fault_to plan w e = if nat_lt (replica_number e) (length w.replicas) then fault_there plan w e else Some NoReplica

-- the cause, or else the reply
abbrev pub cause_or : Option WorldFault → Reply → Result Reply WorldFault
cause_or None reply = Ok reply
cause_or (Some cause) reply = Err cause

-- the answer to an event, if there is memory and no worker is lost
abbrev pub answer_to : Plan → ListWorld → Event → Result Reply WorldFault
answer_to plan w e = cause_or (fault_to plan w e) (reply_to w e)

-- the world after an event and its answer
abbrev pub after_answer : Event → Result Reply WorldFault → ListWorld → ListWorld
after_answer e (Ok reply) w = after e w
after_answer e (Err fault) w = w

-- the answers to some events
abbrev pub answers_to : Plan → ListWorld → List Event → List (Result Reply WorldFault)
answers_to plan w [] = []
answers_to plan w (e ∷ es) = answer_to plan w e ∷ answers_to plan (after_answer e (answer_to plan w e) w) es

-- the world after some events
abbrev pub after_all : Plan → ListWorld → List Event → ListWorld
after_all plan w [] = w
after_all plan w (e ∷ es) = after_all plan (after_answer e (answer_to plan w e) w) es

-- ---- worlds of lists agree with the worlds of their sets

-- a replica before any event
opening_of_list : opening_replica ≡ replica_of_list unedited
opening_of_list = ap (λ (s : Edits). replica_with s 0) (sym from_list-empty)

-- replica r of several
at_of_lists : (xs : List ListReplica) (r : ℕ) → slice_index_or (map replica_of_list xs) r opening_replica ≡ replica_of_list (slice_index_or xs r unedited)
at_of_lists [] r = opening_of_list
at_of_lists (x ∷ xs) zero = refl
at_of_lists (x ∷ xs) (suc r) = at_of_lists xs r

-- several replicas before any event
opening_replicas_of_lists : (count : ℕ) → map replica_of_list (replicate count unedited) ≡ replicate count opening_replica
opening_replicas_of_lists zero = refl
opening_replicas_of_lists (suc count) =
    ap (λ (x : WorldReplica). x ∷ map replica_of_list (replicate count unedited)) (sym opening_of_list)
    ∙ ap (λ (xs : List WorldReplica). opening_replica ∷ xs) (opening_replicas_of_lists count)

-- the opening world
pub opening_of_lists : (plan : Plan) (count : ℕ) → world_of_lists plan (opening_lists count) ≡ opening_world plan count
opening_of_lists plan count = same_world plan _ _ _ _ (opening_replicas_of_lists count) refl

-- the edits that a message carries, if there is one
carried_of_list : (o : Option ListMessage) → carried_edits (option_map message_of_list o) ≡ from_list (carried o)
carried_of_list None = sym from_list-empty
carried_of_list (Some (Whole es)) = refl
carried_of_list (Some (Answer es)) = refl
carried_of_list (Some (Asked hs)) = sym from_list-empty

-- the heads of the message
asked_of_list : (o : Option ListMessage) → asked_heads (option_map message_of_list o) ≡ asked o
asked_of_list None = refl
asked_of_list (Some (Whole es)) = refl
asked_of_list (Some (Answer es)) = refl
asked_of_list (Some (Asked hs)) = refl

module _ (plan : Plan) (w : ListWorld) where
  -- the world of the sets
  abbrev sets : World
  sets = world_of_lists plan w

  -- replica r
  replica_of_lists : (r : ℕ) → replica_at sets r ≡ replica_of_list (at w r)
  replica_of_lists r = at_of_lists w.replicas r

  -- the edits that a message carries
  carried_of_lists : (m : ℕ) → carried_edits (slice_get sets.messages m) ≡ from_list (carried (slice_get w.messages m))
  carried_of_lists m = ap carried_edits (slice_get-map message_of_list w.messages m) ∙ carried_of_list (slice_get w.messages m)

  -- the heads of the message
  asked_of_lists : (m : ℕ) → asked_heads (slice_get sets.messages m) ≡ asked (slice_get w.messages m)
  asked_of_lists m = ap asked_heads (slice_get-map message_of_list w.messages m) ∙ asked_of_list (slice_get w.messages m)

  -- the edit that a replica makes
  made_of_lists : (r : ℕ) (o : Object) (step : ℕ) (v : Value) → local_edit r (replica_at sets r).edits o step v ≡ made w r o step v
  made_of_lists r o step v =
      ap (λ (x : WorldReplica). local_edit r x.edits o step v) (replica_of_lists r)
      ∙ ap (λ (es : List edits.Edit). let e : edits.Edit = record { object = o; step = step; stamp = record { count = suc (greatest_count_in es); number = r }; value = v } in e) (items_of_list (at w r).edits)

  -- edits reach a replica
  edits_of_lists : (r : ℕ) (s : Edits) (es : List edits.Edit) → s ≡ from_list es → world_with_edits r s sets ≡ world_of_lists plan (with_edits r es w)
  edits_of_lists r s es is =
      let held : List edits.Edit = (at w r).edits in
      let h : ℕ = (at w r).horizon in
      let set : WorldReplica → List WorldReplica = λ x. slice_set (map replica_of_list w.replicas) r x in
      same_world plan _ _ _ _
      (ap (λ (x : WorldReplica). set (record x { edits = union x.edits s })) (replica_of_lists r)
      ∙ ap (λ (u : Edits). set (replica_with (union (from_list held) u) h)) is
      ∙ ap (λ (u : Edits). set (replica_with u h)) (union_of_lists held es)
      ∙ sym (map-set replica_of_list w.replicas r (record (at w r) { edits = held ++ es })))
      refl

  -- a replica makes an edit
  local_edit_of_lists : (r : ℕ) (o : Object) (step : ℕ) (v : Value) → world_with_local_edit r o step v sets ≡ world_of_lists plan (with_edits r (made w r o step v ∷ []) w)
  local_edit_of_lists r o step v = edits_of_lists r _ (made w r o step v ∷ []) (ap single_edit (made_of_lists r o step v))

  -- one more message
  message_of_lists : (m : Message) (n : ListMessage) → m ≡ message_of_list n → world_with_message m sets ≡ world_of_lists plan (with_message n w)
  message_of_lists m n is =
      same_world plan _ _ _ _ refl
      (ap (λ (k : Message). map message_of_list w.messages ++ k ∷ []) is ∙ sym (map-append message_of_list w.messages (n ∷ [])))

  -- the effect of an event
  pub after_of_lists : (e : Event) → world_after_event e sets ≡ world_of_lists plan (after e w)
  after_of_lists (Edit r o step n) = local_edit_of_lists r o step (Put n)
  after_of_lists (Withdraw r o step) = local_edit_of_lists r o step Withdrawn
  after_of_lists (Import r es) = edits_of_lists r (from_list es.items) es.items refl
  after_of_lists (Send r) =
      message_of_lists (messages.Whole (replica_at sets r).edits) (Whole (at w r).edits)
      (ap (λ (x : WorldReplica). messages.Whole x.edits) (replica_of_lists r))
  after_of_lists (Heads r) =
      message_of_lists (messages.Asked (heads (winners (replica_at sets r).edits))) (Asked (map head_of (sorted (winners_in (at w r).edits))))
      (ap (λ (x : WorldReplica). messages.Asked (heads (winners x.edits))) (replica_of_lists r)
      ∙ ap (λ (es : List edits.Edit). messages.Asked (map head_of es)) (winner_items_of_list (at w r).edits))
  after_of_lists (Beyond r m) =
      let hs : List Head = asked (slice_get w.messages m) in
      message_of_lists (messages.Answer (beyond (winners (replica_at sets r).edits) (asked_heads (slice_get sets.messages m)))) (Answer (filter (is_beyond hs) (winners_in (at w r).edits)))
      (ap (λ (gs : List Head). messages.Answer (beyond (winners (replica_at sets r).edits) gs)) (asked_of_lists m)
      ∙ ap (λ (x : WorldReplica). messages.Answer (beyond (winners x.edits) hs)) (replica_of_lists r)
      ∙ ap (λ (s : Edits). messages.Answer (beyond s hs)) (winners_of_list (at w r).edits)
      ∙ ap messages.Answer (retained_of_list (is_beyond hs) (winners_in (at w r).edits)))
  after_of_lists (Take r m) = edits_of_lists r _ (carried (slice_get w.messages m)) (carried_of_lists m)
  after_of_lists (Advance r to) =
      same_world plan _ _ _ _
      (ap (λ (x : WorldReplica). slice_set (map replica_of_list w.replicas) r (record x { horizon = max x.horizon to })) (replica_of_lists r)
      ∙ sym (map-set replica_of_list w.replicas r (record (at w r) { horizon = max (at w r).horizon to })))
      refl

  -- the first step that edits touch
  touched_of_lists : (r : ℕ) (s : Edits) (es : List edits.Edit) → s ≡ from_list es → touched_reply sets r s ≡ touched_there w r es
  touched_of_lists r s es is =
      let held : List edits.Edit = (at w r).edits in
      ap (λ (x : WorldReplica). replies.Touched (first_touched_step x.edits (union x.edits s))) (replica_of_lists r)
      ∙ ap (λ (u : Edits). replies.Touched (first_touched_step (from_list held) (union (from_list held) u))) is
      ∙ ap (λ (u : Edits). replies.Touched (first_touched_step (from_list held) u)) (union_of_lists held es)
      ∙ (λ i. replies.Touched (first_touched_step_in (winner_items_of_list held i) (winner_items_of_list (held ++ es) i)))

  -- the stamp of the edit that a replica makes
  stamp_of_lists : (r : ℕ) (o : Object) (step : ℕ) (v : Value) → replies.Stamped (local_edit r (replica_at sets r).edits o step v).stamp ≡ replies.Stamped (made w r o step v).stamp
  stamp_of_lists r o step v = ap (λ (e : edits.Edit). replies.Stamped e.stamp) (made_of_lists r o step v)

  -- the number of the message that is made
  number_of_lists : replies.Message (length sets.messages) ≡ replies.Message (length w.messages)
  number_of_lists = ap replies.Message (length-map w.messages message_of_list)

  -- the reply to an event
  pub reply_of_lists : (e : Event) → reply_to_event sets e ≡ reply_to w e
  reply_of_lists (Edit r o step n) = stamp_of_lists r o step (Put n)
  reply_of_lists (Withdraw r o step) = stamp_of_lists r o step Withdrawn
  reply_of_lists (Import r es) = touched_of_lists r (from_list es.items) es.items refl
  reply_of_lists (Send r) = number_of_lists
  reply_of_lists (Heads r) = number_of_lists
  reply_of_lists (Beyond r m) = number_of_lists
  reply_of_lists (Take r m) = touched_of_lists r _ (carried (slice_get w.messages m)) (carried_of_lists m)
  reply_of_lists (Advance r to) = ap (λ (x : WorldReplica). replies.Horizon (max x.horizon to)) (replica_of_lists r)

  -- the fault of the edit that a replica would make
  own_edit_fault_of_lists : (r : ℕ) (o : Object) (step : ℕ) (v : Value) → option_map faults.Replica (option_map own_edit_fault (fault_of_edit plan (local_edit r (replica_at sets r).edits o step v))) ≡ option_map faults.Replica (option_map own_edit_fault (fault_of_edit plan (made w r o step v)))
  own_edit_fault_of_lists r o step v =
      ap (λ (e : edits.Edit). option_map faults.Replica (option_map own_edit_fault (fault_of_edit plan e))) (made_of_lists r o step v)

  -- the cause for which an event at an existing replica is refused
  fault_there_of_lists : (e : Event) → fault_at_replica sets e ≡ fault_there plan w e
  fault_there_of_lists (Edit r o step n) = own_edit_fault_of_lists r o step (Put n)
  fault_there_of_lists (Withdraw r o step) = own_edit_fault_of_lists r o step Withdrawn
  fault_there_of_lists (Import r es) = refl
  fault_there_of_lists (Send r) = refl
  fault_there_of_lists (Heads r) = refl
  fault_there_of_lists (Beyond r m) = ap heads_wanted_fault (slice_get-map message_of_list w.messages m)
  fault_there_of_lists (Take r m) = ap edits_wanted_fault (slice_get-map message_of_list w.messages m)
  fault_there_of_lists (Advance r to) = refl

  -- the cause for which any event is refused
  pub fault_of_lists : (e : Event) → fault_of_event sets e ≡ fault_to plan w e
  fault_of_lists e =
      ap (λ (n : ℕ). if nat_lt (replica_number e) n then fault_at_replica sets e else Some NoReplica) (length-map w.replicas replica_of_list)
      ∙ ap (λ (f : Option WorldFault). if nat_lt (replica_number e) (length w.replicas) then f else Some NoReplica) (fault_there_of_lists e)

  -- the world after an event and its answer
  after_answer_of_lists : (e : Event) (a : Result Reply WorldFault) → world_after_answer e a sets ≡ world_of_lists plan (after_answer e a w)
  after_answer_of_lists e (Ok reply) = after_of_lists e
  after_answer_of_lists e (Err fault) = refl

  -- an answer
  answer_of_lists : (e : Event) → IsAnswer sets e (answer_to plan w e)
  answer_of_lists e = by_cause (fault_to plan w e) (fault_of_lists e)
    where
      by_cause : (f : Option WorldFault) → fault_of_event sets e ≡ f → IsAnswer sets e (cause_or f (reply_to w e))
      by_cause None h = (h, sym (reply_of_lists e))
      by_cause (Some cause) h =
          let Refused : Option WorldFault → Type 0 = λ o. IsRefusal e o cause in
          subst Refused (sym h) refl

-- the computed answers to some events are answers to them in the world of the sets
answers_of_lists : (plan : Plan) (w : ListWorld) (events : List Event) → AreAnswers (world_of_lists plan w) events (answers_to plan w events)
answers_of_lists plan w [] = tt
answers_of_lists plan w (e ∷ events) =
    let next : ListWorld = after_answer e (answer_to plan w e) w in
    let Answered : World → Type 0 = λ v. AreAnswers v events (answers_to plan next events) in
    (answer_of_lists plan w e, subst Answered (sym (after_answer_of_lists plan w e (answer_to plan w e))) (answers_of_lists plan next events))

-- of some events with their answers, the first takes effect if it is accepted
first_done : (e : Event) (a : Result Reply WorldFault) (events : List Event) (rest : List (Result Reply WorldFault)) (v : World)
    → world_after_events (accepted_events (e ∷ events) (a ∷ rest)) v ≡ world_after_events (accepted_events events rest) (world_after_answer e a v)
first_done e (Ok reply) events rest v = refl
first_done e (Err fault) events rest v = refl

-- the world after some events
after_all_of_lists : (plan : Plan) (w : ListWorld) (events : List Event) → world_after_events (accepted_events events (answers_to plan w events)) (world_of_lists plan w) ≡ world_of_lists plan (after_all plan w events)
after_all_of_lists plan w [] = refl
after_all_of_lists plan w (e ∷ events) =
    let a : Result Reply WorldFault = answer_to plan w e in
    let next : ListWorld = after_answer e a w in
    first_done e a events (answers_to plan next events) (world_of_lists plan w)
    ∙ ap (world_after_events (accepted_events events (answers_to plan next events))) (after_answer_of_lists plan w e a)
    ∙ after_all_of_lists plan next events

-- ---- from the opening world on

module _ (plan : Plan) (count : ℕ) (events : List Event) (given : List (Result Reply WorldFault)) (computed : answers_to plan (opening_lists count) events ≡ given) where
  -- the computed answers are answers to the events
  pub computed_answers : AreAnswers (opening_world plan count) events given
  computed_answers =
      let Given : List (Result Reply WorldFault) → Type 0 = λ rs. AreAnswers (opening_world plan count) events rs in
      let From : World → Type 0 = λ v. AreAnswers v events (answers_to plan (opening_lists count) events) in
      subst Given computed (subst From (opening_of_lists plan count) (answers_of_lists plan (opening_lists count) events))

  -- the effect of these events on a replica
  computed_replica : (r : ℕ) → replica_after_events plan count events given r ≡ replica_of_list (at (after_all plan (opening_lists count) events) r)
  computed_replica r =
      ap (λ (rs : List (Result Reply WorldFault)). replica_at (world_after_events (accepted_events events rs) (opening_world plan count)) r) (sym computed)
      ∙ ap (λ (v : World). replica_at (world_after_events (accepted_events events (answers_to plan (opening_lists count) events)) v) r) (sym (opening_of_lists plan count))
      ∙ ap (λ (v : World). replica_at v r) (after_all_of_lists plan (opening_lists count) events)
      ∙ replica_of_lists plan (after_all plan (opening_lists count) events) r

  -- the edits that reached it
  pub computed_edits : (r : ℕ) (es : List edits.Edit) → (at (after_all plan (opening_lists count) events) r).edits ≡ es → (replica_after_events plan count events given r).edits ≡ from_list es
  computed_edits r es is =
      ap (λ (x : WorldReplica). x.edits) (computed_replica r) ∙ ap (λ (fs : List edits.Edit). from_list {R = edit_cmp} fs) is

  -- the winners of the edits that reached it
  pub computed_winners : (r : ℕ) (es : List edits.Edit) → winners_in (at (after_all plan (opening_lists count) events) r).edits ≡ es → winners (replica_after_events plan count events given r).edits ≡ from_list es
  computed_winners r es is =
      ap (λ (x : WorldReplica). winners x.edits) (computed_replica r)
      ∙ winners_of_list (at (after_all plan (opening_lists count) events) r).edits
      ∙ ap (λ (fs : List edits.Edit). from_list {R = edit_cmp} fs) is
