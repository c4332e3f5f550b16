-- The winners suffice: the laboratory whose replicas and messages have only the winners answers every command as the
-- whole laboratory does. Afterwards it is again the whole laboratory's laboratory of winners.
use Rattle.std.proofs.Common.{◌≡◌, ℕ, List, ◌∷◌, [], ◌++◌, length, map, Option, Some, None, refl, ap, ◌∙◌}
use Rattle.std.specs.Prelude.{suc, ◌-◌}
use Rattle.std.specs.List.{range_with_len, slice_get}
use Rattle.std.specs.Option.{option_and_then, option_map_or, option_or}
use Rattle.lattice_core.specs.Sets.{from_list, items}
use Rattle.road_detector.specs.Passes.{total}
use Rattle.road_ends.specs.Row.{row}
use Rattle.road_ends.specs.Run.{Course, run}
use Rattle.road_scenario.specs.Edits.{Edits}
use Rattle.road_scenario.specs.Settings.{settings_in, settings_of}
use Rattle.road_scenario.specs.Winners.{winners}
use Rattle.road_scenario.specs.declared.edit.Edit as edit
use Rattle.road_delta.specs.Deltas.{beyond, heads}
use Rattle.road_delta.specs.declared.heads.Head.{Head}
use Rattle.road_replica.specs.declared.faults.ReplicaFault.{ReplicaFault}
use Rattle.road_replica.specs.declared.reply.Reply.{Reply}
use Rattle.road_replica.specs.declared.reply.Reply.TheVariants as world_replies
use Rattle.road_sheet.specs.Sheets.{Sheet}
use Rattle.road_sheet.specs.Shown.{row_at}
use Rattle.road_world.proofs.WinnersSuffice.{asked-of_winners, edits-of_winners, event-of_winners, fault_at-of_winners, held-of_winners, replica-of_winners, reply-of_winners, touched_reply-of_winners, winners_again, winners_of_one_part, world-again}
use Rattle.road_world.specs.Answers.{reply_to_event, sheet_at}
use Rattle.road_world.specs.Events.{World, WorldReplica, asked_heads, replica_at, world_of_winners}
use Rattle.road_world.specs.declared.event.Event.{Event}
use Rattle.road_world.specs.declared.event.Event.TheVariants as events
use Rattle.road_world.specs.declared.faults.WorldFault.{WorldFault}
use Rattle.road_format.specs.CommandGrammar as commands
use Rattle.road_format.specs.CommandGrammar.{Command, Query, replica_name}
use Rattle.road_format.specs.Replies as replies
use Rattle.road_format.specs.Replies.{Answer, Delta, Sent}
use Rattle.road_format.specs.declared.refusal.Refusal.{Refusal}
use Rattle.road_format.specs.declared.refusal.Refusal.TheVariants as refusals
use Rattle.road_commands.specs.Laboratory.{Laboratory, Outcome, answer_to, answer_unless, cars_of_state, change_outcome, crowd_of, crowd_outcome, edits_held, import_outcome, laboratory_after, laboratory_of_winners, message_outcome, name_refusal, number_of, outcome, outcome_at, outcome_by_name, outcome_by_number, outcome_unless, query_answer, query_fault, query_outcome, replica_refusal, sheet_answer, totals_answer, world_refusal}

-- ---- outcomes, as far as winners are concerned

-- the same answer, and the laboratory of winners after it
abbrev pub outcome_of_winners : Outcome → Outcome
outcome_of_winners o = record { answer = o.answer; after = laboratory_of_winners o.after }

-- two outcomes are alike
abbrev Alike : Outcome → Outcome → Type 0
Alike o p = outcome_of_winners o ≡ outcome_of_winners p

-- a laboratory, given its parts
abbrev laboratory_with : List (List ℕ) → List (List ℕ) → World → Laboratory
laboratory_with names messages w = record { replica_names = names; message_names = messages; world = w }

-- an outcome, given its parts
abbrev outcome_with : Answer → List (List ℕ) → List (List ℕ) → World → Outcome
outcome_with answer names messages w = record { answer = answer; after = laboratory_with names messages w }

-- outcomes are alike if they have the same answer, the same names, and worlds of the same winners
alike : (a b : Answer) (names messages : List (List ℕ)) (v w : World) → a ≡ b → world_of_winners v ≡ world_of_winners w → Alike (outcome_with a names messages v) (outcome_with b names messages w)
alike a b names messages v w e f =
    ap (λ (x : Answer). outcome_with x names messages (world_of_winners v)) e
    ∙ ap (outcome_with b names messages) f

-- outcomes of queries are alike if they have the same answer
shown_alike : (lab : Laboratory) (a b : Answer) → a ≡ b → Alike (query_outcome (laboratory_of_winners lab) a) (query_outcome lab b)
shown_alike lab a b e = alike a b lab.replica_names lab.message_names _ _ e (world-again lab.world)

-- alike outcomes stay alike under the same refusal
unless_alike : (lab : Laboratory) (r : Option Refusal) (o p : Outcome) → Alike o p → Alike (outcome_unless (laboratory_of_winners lab) r o) (outcome_unless lab r p)
unless_alike lab (Some refusal) o p e = shown_alike lab (replies.Refused refusal) (replies.Refused refusal) refl
unless_alike lab None o p e = e

-- and under two refusals that are equal
under_alike : (lab : Laboratory) (r s : Option Refusal) (o p : Outcome) → r ≡ s → Alike o p → Alike (outcome_unless (laboratory_of_winners lab) r o) (outcome_unless lab s p)
under_alike lab r s o p e f =
    ap (λ (q : Option Refusal). outcome_of_winners (outcome_unless (laboratory_of_winners lab) q o)) e ∙ unless_alike lab s o p f

-- outcomes for the same number are alike if they are alike for each number
with_alike : (lab : Laboratory) (refusal : Refusal) (o : Option ℕ) (f g : ℕ → Outcome) → ((n : ℕ) → Alike (f n) (g n))
    → Alike (outcome_by_number (laboratory_of_winners lab) refusal o f) (outcome_by_number lab refusal o g)
with_alike lab refusal None f g e = shown_alike lab (replies.Refused refusal) (replies.Refused refusal) refl
with_alike lab refusal (Some n) f g e = e n

-- ---- changes

-- the outcomes of an event are alike if their answers are the same
changed_alike : (lab : Laboratory) (e : Event) (a b : Answer) → a ≡ b → Alike (change_outcome (laboratory_of_winners lab) e a) (change_outcome lab e b)
changed_alike lab e a b same =
    under_alike lab _ _ _ _ (ap (option_and_then world_refusal) (fault_at-of_winners e lab.world))
    (alike a b lab.replica_names lab.message_names _ _ same (event-of_winners e lab.world))

-- the outcomes of an event that makes a message are alike if their answers are the same
sent_alike : (lab : Laboratory) (e : Event) (name : List ℕ) (a b : Answer) → a ≡ b → Alike (message_outcome (laboratory_of_winners lab) e name a) (message_outcome lab e name b)
sent_alike lab e name a b same =
    under_alike lab _ _ _ _ (ap (λ (f : Option WorldFault). option_or (option_and_then world_refusal f) (name_refusal lab name)) (fault_at-of_winners e lab.world))
    (alike a b lab.replica_names (lab.message_names ++ name ∷ []) _ _ same (event-of_winners e lab.world))

-- the answer to a change, from the world's reply
abbrev reply_answer : Reply → Answer
reply_answer (world_replies.Stamped stamp) = replies.Stamped stamp
reply_answer (world_replies.Touched step) = replies.Touched step
reply_answer (world_replies.Message number) = Sent [] number
reply_answer (world_replies.Horizon to) = replies.Horizon to

-- the world of winners gives the same answer to a change
reply_alike : (e : Event) (w : World) → reply_answer (reply_to_event (world_of_winners w) e) ≡ reply_answer (reply_to_event w e)
reply_alike e w = ap reply_answer (reply-of_winners e w)

-- the outcomes of edits from outside are alike
imported_alike : (lab : Laboratory) (r : ℕ) (es : List edit.Edit) → Alike (import_outcome (laboratory_of_winners lab) r es) (import_outcome lab r es)
imported_alike lab r es =
    let one = winners_of_one_part (replica_at lab.world r).edits (from_list es) in
    under_alike lab _ _ _ _ refl
    (alike _ _ lab.replica_names lab.message_names _ _
    (ap reply_answer (touched_reply-of_winners lab.world r (from_list es) (from_list es) one))
    (edits-of_winners lab.world r (from_list es) (from_list es) one))

-- ---- queries

-- the sheet that has only the winners of a sheet's edits
abbrev sheet_of_winners : Sheet → Sheet
sheet_of_winners s = record s { edits = winners s.edits }

-- a replica of the world of winners has the sheet of winners
sheet_is : (w : World) (r : ℕ) → sheet_at (world_of_winners w) r ≡ sheet_of_winners (sheet_at w r)
sheet_is w r =
    ap (λ (x : WorldReplica). let s : Sheet = record { plan = w.plan; edits = x.edits; horizon = x.horizon } in s) (replica-of_winners w r)

-- the winners give the same settings
same_course : (s : Sheet) → settings_of s.plan (winners s.edits) ≡ settings_of s.plan s.edits
same_course s = ap (λ (es : Edits). λ (step : ℕ). settings_in s.plan (items es) step) (winners_again s.edits)

-- so a sheet answers a query in the same way,
answer_alike : (s : Sheet) (query : Query) → sheet_answer (sheet_of_winners s) query ≡ sheet_answer s query
unfolding row_at
answer_alike s (commands.Cells step) = ap (λ (c : Course). replies.Cells (row s.plan c step)) (same_course s)
answer_alike s (commands.Cars step) = ap (λ (c : Course). replies.Cars (cars_of_state (run s.plan c step))) (same_course s)
answer_alike s (commands.Count detector from to) = ap (λ (c : Course). totals_answer (total s.plan c detector from to)) (same_course s)
answer_alike s (commands.Diagram from to) =
    ap (λ (c : Course). replies.Rows (map (λ step. row s.plan c step) (range_with_len from (suc to - from)))) (same_course s)
answer_alike s commands.Scenario = ap (λ (es : Edits). replies.Edits (items es)) (winners_again s.edits)

-- and refuses it for the same cause
fault_alike : (s : Sheet) (query : Query) → query_fault (sheet_of_winners s) query ≡ query_fault s query
fault_alike s commands.Scenario = refl
fault_alike s query = refl

query_alike : (s : Sheet) (query : Query) → query_answer (sheet_of_winners s) query ≡ query_answer s query
query_alike s query =
    ap (λ (cause : Option ReplicaFault). answer_unless (option_and_then replica_refusal cause) (sheet_answer (sheet_of_winners s) query)) (fault_alike s query)
    ∙ ap (answer_unless (option_and_then replica_refusal (query_fault s query))) (answer_alike s query)

-- answers that are functions of a replica's sheet are alike, if the winners suffice for the function
read_alike : (lab : Laboratory) (r : ℕ) (read : Sheet → Answer) → ((s : Sheet) → read (sheet_of_winners s) ≡ read s)
    → Alike (query_outcome (laboratory_of_winners lab) (read (sheet_at (laboratory_of_winners lab).world r))) (query_outcome lab (read (sheet_at lab.world r)))
read_alike lab r read same = shown_alike lab _ _ (ap read (sheet_is lab.world r) ∙ same (sheet_at lab.world r))

-- ---- crowds

-- the outcomes of a crowd are alike, since they depend only on the plan
crowd_alike : (lab : Laboratory) (shares : List (List edit.Edit)) (to : ℕ) → Alike (crowd_outcome (laboratory_of_winners lab) shares to) (crowd_outcome lab shares to)
crowd_alike lab shares to = shown_alike lab _ _ refl

-- the outcomes of the crowd if there is one, and otherwise of another command, are alike
by_crowd_alike : (lab : Laboratory) (crowd : Option (List (List edit.Edit) × ℕ)) (o p : Outcome) → Alike o p
    → Alike (option_map_or (λ c. crowd_outcome (laboratory_of_winners lab) c.0 c.1) crowd o) (option_map_or (λ c. crowd_outcome lab c.0 c.1) crowd p)
by_crowd_alike lab None o p e = e
by_crowd_alike lab (Some crowd) o p e = crowd_alike lab crowd.0 crowd.1

-- ---- commands

-- the outcomes of a command to a replica are alike,
outcome_at_alike : (lab : Laboratory) (r : ℕ) (command : Command) → Alike (outcome_at (laboratory_of_winners lab) r command) (outcome_at lab r command)
outcome_at_alike lab r (commands.Edit at object step number) = changed_alike lab (events.Edit r object step number) _ _ (reply_alike (events.Edit r object step number) lab.world)
outcome_at_alike lab r (commands.Withdraw at object step) = changed_alike lab (events.Withdraw r object step) _ _ (reply_alike (events.Withdraw r object step) lab.world)
outcome_at_alike lab r (commands.Import at es) = imported_alike lab r es
outcome_at_alike lab r (commands.Send at name) =
    sent_alike lab (events.Send r) name _ _ (ap (λ (es : Edits). Sent name (length (items es))) (held-of_winners lab.world r))
outcome_at_alike lab r (commands.Heads at name) =
    sent_alike lab (events.Heads r) name _ _ (ap (λ (es : Edits). replies.Heads name (heads es)) (held-of_winners lab.world r))
outcome_at_alike lab r (commands.Beyond at asked name) =
    with_alike lab refusals.NoMessage (number_of lab.message_names asked) _ _ (λ message.
    let wanted : List Head = asked_heads (slice_get (world_of_winners lab.world).messages message) in
    sent_alike lab (events.Beyond r message) name _ _
    (ap (λ (es : Edits). Delta name (items (beyond es wanted))) (held-of_winners lab.world r)
    ∙ ap (λ (hs : List Head). Delta name (items (beyond (edits_held lab.world r) hs))) (asked-of_winners lab.world message)))
outcome_at_alike lab r (commands.Take at name) =
    with_alike lab refusals.NoMessage (number_of lab.message_names name) _ _ (λ message.
    changed_alike lab (events.Take r message) _ _ (reply_alike (events.Take r message) lab.world))
outcome_at_alike lab r (commands.Advance at to) = changed_alike lab (events.Advance r to) _ _ (reply_alike (events.Advance r to) lab.world)
outcome_at_alike lab r (commands.Ask at query) = read_alike lab r (λ s. query_answer s query) (λ s. query_alike s query)
outcome_at_alike lab r (commands.Crowd shares to) = crowd_alike lab shares to

-- of a command whose replica is looked up first,
by_name_alike : (lab : Laboratory) (command : Command) → Alike (outcome_by_name (laboratory_of_winners lab) command) (outcome_by_name lab command)
by_name_alike lab command =
    with_alike lab refusals.NoReplica (option_and_then (number_of lab.replica_names) (replica_name command)) _ _ (λ r. outcome_at_alike lab r command)

-- and of every command
pub winners_suffice : (lab : Laboratory) (command : Command) → outcome_of_winners (outcome (laboratory_of_winners lab) command) ≡ outcome_of_winners (outcome lab command)
winners_suffice lab command = by_crowd_alike lab (crowd_of command) _ _ (by_name_alike lab command)

-- the answer is that of the whole laboratory,
pub answer-of_winners : (lab : Laboratory) (command : Command) → answer_to (laboratory_of_winners lab) command ≡ answer_to lab command
answer-of_winners lab command = ap (λ (o : Outcome). o.answer) (winners_suffice lab command)

-- and the laboratory after it is that of the whole one, as far as winners are concerned
pub after-of_winners : (lab : Laboratory) (command : Command) → laboratory_of_winners (laboratory_after (laboratory_of_winners lab) command) ≡ laboratory_of_winners (laboratory_after lab command)
after-of_winners lab command = ap (λ (o : Outcome). o.after) (winners_suffice lab command)
