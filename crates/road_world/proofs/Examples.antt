-- Worked lists of events: their answers, and the edits that reach a replica by them. Each is computed in the world of
-- lists.
use Rattle.std.specs.Prelude.{◌≡◌, ℕ, List, [], ◌∷◌, Result, refl}
use Rattle.std.specs.Global.{Vec}
use Rattle.std.specs.declared.option.Option.TheVariants.{None, Some}
use Rattle.std.specs.declared.result.Result.TheVariants.{Ok, Err}
use Rattle.std.proofs.Common.{sym, ◌∙◌}
use Rattle.lattice_core.specs.Sets.{from_list}
use Rattle.road_plan.specs.Plan.{Plan}
use Rattle.road_plan.specs.declared.object.Object.{Object}
use Rattle.road_plan.specs.declared.object.Object.TheVariants.{Limit, Block}
use Rattle.road_plan.specs.declared.parts.WordKind.TheVariants.{Steady}
use Rattle.road_scenario.specs.Edits.{Edits}
use Rattle.road_scenario.specs.Winners.{winners}
use Rattle.road_scenario.specs.declared.edit.Edit as edits
use Rattle.road_scenario.specs.declared.edit.Stamp.{Stamp}
use Rattle.road_scenario.specs.declared.edit.Value.{Value}
use Rattle.road_scenario.specs.declared.edit.Value.TheVariants.{Withdrawn, Put}
use Rattle.road_replica.specs.declared.faults.ReplicaFault.TheVariants as replica_faults
use Rattle.road_replica.specs.declared.reply.Reply.{Reply}
use Rattle.road_replica.specs.declared.reply.Reply.TheVariants.{Stamped, Touched, Message, Horizon}
use Rattle.road_world.specs.Answers.{AreAnswers}
use Rattle.road_world.specs.Events.{opening_world, replica_after_events}
use Rattle.road_world.specs.Steps.{most_wasted_steps, most_wasted_steps_of_events, steps_of_events}
use Rattle.road_world.specs.declared.event.Event.{Event}
use Rattle.road_world.specs.declared.event.Event.TheVariants.{Edit, Withdraw, Import, Send, Heads, Beyond, Take, Advance}
use Rattle.road_world.specs.declared.faults.WorldFault.{WorldFault}
use Rattle.road_world.specs.declared.faults.WorldFault.TheVariants.{NoReplica, NoMessage, Replica}
use Rattle.road_world.proofs.ListedWorlds.{answers_to, computed_answers, computed_edits, computed_winners, opening_lists, same_set_of_lists}

-- twelve cells, the last one deleted, with one zone, one inlet at the first cell and one detector
abbrev small : Plan
small = record { cells = 12; exit = 1; width = 12; zones = (2, 0) ∷ []; inlets = (0, 65536) ∷ []; detectors = 5 ∷ []; words = Steady }

-- answers to events
abbrev EventAnswers : Type 0
EventAnswers = List (Result Reply WorldFault)

-- whether these are answers to events at three replicas of that plan
abbrev AnswersOfThree : List Event → EventAnswers → Type 0
AnswersOfThree events answers = AreAnswers (opening_world small 3) events answers

-- the edits that reach a replica by these events
abbrev reached : List Event → EventAnswers → ℕ → Edits
reached events answers r = (replica_after_events small 3 events answers r).edits

-- a stamp of a count and a number
abbrev stamp : ℕ → ℕ → Stamp
stamp count number = record { count = count; number = number }

-- an edit of an object and step with a count, a number and a value
abbrev edit : Object → ℕ → ℕ → ℕ → Value → edits.Edit
edit o step count number v = record { object = o; step = step; stamp = stamp count number; value = v }

-- ---- a withdrawal stays

-- a block is set, sent and withdrawn, and comes back
abbrev withdrawal : List Event
withdrawal = Edit 0 (Block 8) 4 1 ∷ Send 0 ∷ Withdraw 0 (Block 8) 4 ∷ Take 0 0 ∷ []

-- the block that comes back touches nothing
abbrev withdrawal_answers : EventAnswers
withdrawal_answers = Ok (Stamped (stamp 1 0)) ∷ Ok (Message 0) ∷ Ok (Stamped (stamp 2 0)) ∷ Ok (Touched None) ∷ []

-- these are its answers
older_block_touches_nothing : AnswersOfThree withdrawal withdrawal_answers
older_block_touches_nothing = computed_answers small 3 withdrawal withdrawal_answers refl

-- the withdrawal stays
withdrawal_stays : winners (reached withdrawal withdrawal_answers 0) ≡ from_list (edit (Block 8) 4 2 0 Withdrawn ∷ [])
withdrawal_stays = computed_winners small 3 withdrawal withdrawal_answers refl 0 _ refl

-- ---- the later edit wins

-- a limit at one replica, then a later one at another; the third takes the later one first
abbrev two_limits : List Event
two_limits = Edit 0 (Limit 0) 3 1 ∷ Send 0 ∷ Take 1 0 ∷ Edit 1 (Limit 0) 3 2 ∷ Send 1 ∷ Take 2 1 ∷ Take 2 0 ∷ []

-- the later one's count is one more, and the earlier one touches nothing after it
abbrev two_limits_answers : EventAnswers
two_limits_answers =
    Ok (Stamped (stamp 1 0)) ∷ Ok (Message 0) ∷ Ok (Touched (Some 3)) ∷ Ok (Stamped (stamp 2 1))
    ∷ Ok (Message 1) ∷ Ok (Touched (Some 3)) ∷ Ok (Touched None) ∷ []

-- these are its answers
later_count_is_more : AnswersOfThree two_limits two_limits_answers
later_count_is_more = computed_answers small 3 two_limits two_limits_answers refl

-- the later one stays
later_limit_wins : winners (reached two_limits two_limits_answers 2) ≡ from_list (edit (Limit 0) 3 2 1 (Put 2) ∷ [])
later_limit_wins = computed_winners small 3 two_limits two_limits_answers refl 2 _ refl

-- two replicas set limits before either has the other's: their counts are the same, and then each replica takes the
-- other's limit
abbrev made_apart : List Event
made_apart = Edit 0 (Limit 0) 3 2 ∷ Edit 1 (Limit 0) 3 1 ∷ Send 0 ∷ Send 1 ∷ Take 0 1 ∷ Take 1 0 ∷ []

-- the limit with the greater number touches the first replica, the other one touches nothing at the second
abbrev made_apart_answers : EventAnswers
made_apart_answers =
    Ok (Stamped (stamp 1 0)) ∷ Ok (Stamped (stamp 1 1)) ∷ Ok (Message 0) ∷ Ok (Message 1)
    ∷ Ok (Touched (Some 3)) ∷ Ok (Touched None) ∷ []

-- these are its answers
greater_number_touches : AnswersOfThree made_apart made_apart_answers
greater_number_touches = computed_answers small 3 made_apart made_apart_answers refl

-- the greater number wins at the first replica
greater_number_wins : winners (reached made_apart made_apart_answers 0) ≡ from_list (edit (Limit 0) 3 1 1 (Put 1) ∷ [])
greater_number_wins = computed_winners small 3 made_apart made_apart_answers refl 0 _ refl

-- it also wins at the second replica, which the edits reached in the other order
greater_number_wins_there : winners (reached made_apart made_apart_answers 1) ≡ from_list (edit (Limit 0) 3 1 1 (Put 1) ∷ [])
greater_number_wins_there = computed_winners small 3 made_apart made_apart_answers refl 1 _ refl

-- ---- order, grouping and repetition do not matter

-- one replica takes a block and a limit one after the other, another takes both at once, and the block again
abbrev regrouped : List Event
regrouped = Edit 0 (Block 8) 4 1 ∷ Send 0 ∷ Edit 0 (Limit 0) 3 1 ∷ Send 0 ∷ Take 1 0 ∷ Take 1 1 ∷ Take 2 1 ∷ Take 2 0 ∷ []

-- the limit touches an earlier step than the block
abbrev regrouped_answers : EventAnswers
regrouped_answers =
    Ok (Stamped (stamp 1 0)) ∷ Ok (Message 0) ∷ Ok (Stamped (stamp 2 0)) ∷ Ok (Message 1)
    ∷ Ok (Touched (Some 4)) ∷ Ok (Touched (Some 3)) ∷ Ok (Touched (Some 3)) ∷ Ok (Touched None) ∷ []

-- these are its answers
repeated_block_touches_nothing : AnswersOfThree regrouped regrouped_answers
repeated_block_touches_nothing = computed_answers small 3 regrouped regrouped_answers refl

-- the same edits have reached both replicas
same_edits_reached_both : reached regrouped regrouped_answers 1 ≡ reached regrouped regrouped_answers 2
same_edits_reached_both =
    computed_edits small 3 regrouped regrouped_answers refl 1 _ refl
    ∙ same_set_of_lists _ _ refl
    ∙ sym (computed_edits small 3 regrouped regrouped_answers refl 2 _ refl)

-- ---- heads, and the edits beyond them

-- one replica asks another with its heads; the reply is taken at the third, and twice at the asking one
abbrev asking : List Event
asking =
    Edit 0 (Limit 0) 3 1 ∷ Edit 0 (Block 8) 4 1 ∷ Send 0 ∷ Take 1 0 ∷ Edit 1 (Limit 0) 3 0 ∷ Edit 0 (Limit 0) 5 0
    ∷ Heads 1 ∷ Beyond 0 1 ∷ Take 2 2 ∷ Take 1 2 ∷ Take 1 2 ∷ []

-- taking it again touches nothing
abbrev asking_answers : EventAnswers
asking_answers =
    Ok (Stamped (stamp 1 0)) ∷ Ok (Stamped (stamp 2 0)) ∷ Ok (Message 0) ∷ Ok (Touched (Some 3))
    ∷ Ok (Stamped (stamp 3 1)) ∷ Ok (Stamped (stamp 3 0)) ∷ Ok (Message 1) ∷ Ok (Message 2)
    ∷ Ok (Touched (Some 4)) ∷ Ok (Touched (Some 5)) ∷ Ok (Touched None) ∷ []

-- these are its answers
again_touches_nothing : AnswersOfThree asking asking_answers
again_touches_nothing = computed_answers small 3 asking asking_answers refl

-- the third replica has the edits that the reply lists, and no more: not the limit that the asker has exceeded
only_the_answer : reached asking asking_answers 2
    ≡ from_list (edit (Block 8) 4 2 0 (Put 1) ∷ edit (Limit 0) 5 3 0 (Put 0) ∷ [])
only_the_answer = computed_edits small 3 asking asking_answers refl 2 _ refl

-- ---- horizons

-- a replica is advanced, and then advanced to an earlier step
abbrev advances : List Event
advances = Advance 0 100 ∷ Advance 0 40 ∷ Advance 1 40 ∷ Advance 2 1048577 ∷ []

-- its horizon is the latest step to which it was advanced
abbrev advances_answers : EventAnswers
advances_answers =
    Ok (Horizon 100) ∷ Ok (Horizon 100) ∷ Ok (Horizon 40) ∷ Err (Replica replica_faults.Horizon) ∷ []

-- these are its answers
latest_step_counts : AnswersOfThree advances advances_answers
latest_step_counts = computed_answers small 3 advances advances_answers refl

-- ---- refused events do nothing

-- no such replica, no such message, a message of the wrong kind, no such zone; then a limit
abbrev refusals : List Event
refusals =
    Edit 3 (Limit 0) 3 1 ∷ Take 0 0 ∷ Heads 0 ∷ Take 1 0 ∷ Send 1 ∷ Beyond 0 1 ∷ Edit 0 (Limit 1) 3 1 ∷ Edit 0 (Limit 0) 3 1 ∷ []

-- only accepted events get a message's number, or a count
abbrev refusals_answers : EventAnswers
refusals_answers =
    Err NoReplica ∷ Err NoMessage ∷ Ok (Message 0) ∷ Err NoMessage ∷ Ok (Message 1) ∷ Err NoMessage
    ∷ Err (Replica replica_faults.NoObject) ∷ Ok (Stamped (stamp 1 0)) ∷ []

-- these are its answers
refused_by_name : AnswersOfThree refusals refusals_answers
refused_by_name = computed_answers small 3 refusals refusals_answers refl

-- only the limit has reached the first replica
refused_is_not_done : reached refusals refusals_answers 0 ≡ from_list (edit (Limit 0) 3 1 0 (Put 1) ∷ [])
refused_is_not_done = computed_edits small 3 refusals refusals_answers refl 0 _ refl

-- ---- imports

-- two limits of one stamp come from outside, and then one with a replica's number; then the replica makes one
abbrev imports : Vec edits.Edit → Vec edits.Edit → List Event
imports outside inside = Import 0 outside ∷ Import 0 inside ∷ Edit 0 (Limit 0) 5 1 ∷ []

-- the second import is refused; the replica's limit has a count that is one more than that of the first import
abbrev imports_answers : EventAnswers
imports_answers = Ok (Touched (Some 3)) ∷ Err (Replica replica_faults.Insider) ∷ Ok (Stamped (stamp 8 0)) ∷ []

-- the edits of the two imports
abbrev FromOutside : Vec edits.Edit → Type 0
FromOutside es = es.items ≡ edit (Limit 0) 3 7 64 (Put 2) ∷ edit (Limit 0) 3 7 64 (Put 3) ∷ []

abbrev FromInside : Vec edits.Edit → Type 0
FromInside es = es.items ≡ edit (Limit 0) 3 7 63 (Put 2) ∷ []

-- its answers, computed
imports_computed : (outside inside : Vec edits.Edit) → FromOutside outside → FromInside inside → answers_to small (opening_lists 3) (imports outside inside) ≡ imports_answers
imports_computed outside inside is also = simp (is, also) refl

-- these are its answers
next_count_is_above_imports : (outside inside : Vec edits.Edit) → FromOutside outside → FromInside inside → AnswersOfThree (imports outside inside) imports_answers
next_count_is_above_imports outside inside is also =
    computed_answers small 3 (imports outside inside) imports_answers (imports_computed outside inside is also)

-- the greater number wins if stamps are equal; the refused edit is not among the winners
greater_number_of_one_stamp_wins : (outside inside : Vec edits.Edit) → FromOutside outside → FromInside inside
    → winners (reached (imports outside inside) imports_answers 0) ≡ from_list (edit (Limit 0) 3 7 64 (Put 3) ∷ edit (Limit 0) 5 8 0 (Put 1) ∷ [])
greater_number_of_one_stamp_wins outside inside is also =
    computed_winners small 3 (imports outside inside) imports_answers (imports_computed outside inside is also) 0 _ (simp (is, also) refl)

-- ---- steps

-- a replica is advanced twice, the second time to a step that it has simulated, and then another replica
abbrev counted_advances : List Event
counted_advances = Advance 0 6 ∷ Advance 0 3 ∷ Advance 1 2 ∷ []

-- all are accepted, or the last is refused for lost workers
abbrev all_advance : EventAnswers
all_advance = Ok (Horizon 6) ∷ Ok (Horizon 6) ∷ Ok (Horizon 2) ∷ []

abbrev last_refused : EventAnswers
last_refused = Ok (Horizon 6) ∷ Ok (Horizon 6) ∷ Err (Replica replica_faults.WorkersGone) ∷ []

-- if accepted, they compute eight steps, and none is wasted
advances_compute_eight : steps_of_events (opening_world small 3) counted_advances all_advance ≡ 8
advances_compute_eight = refl

advances_waste_none : most_wasted_steps_of_events (opening_world small 3) counted_advances all_advance ≡ 0
advances_waste_none = refl

-- if the last is refused, they compute six, and up to two more before the refusal
refused_advance_leaves_six : steps_of_events (opening_world small 3) counted_advances last_refused ≡ 6
refused_advance_leaves_six = refl

refused_advance_wastes_two : most_wasted_steps_of_events (opening_world small 3) counted_advances last_refused ≡ 2
refused_advance_wastes_two = refl

-- at a missing replica nothing is computed
no_replica_wastes_none : most_wasted_steps (opening_world small 3) (Advance 7 1) (Err NoReplica) ≡ 0
no_replica_wastes_none = refl
