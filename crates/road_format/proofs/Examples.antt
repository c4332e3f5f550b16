-- Worked examples: the definitions, computed.
use Rattle.std.proofs.Common.{◌≡◌, [], ◌∷◌, true, false, codes, refl, Ok, Err, Some, None, replicate}
use Rattle.road_plan.specs.declared.parts.WordKind.TheVariants.{Seeded, Steady}
use Rattle.road_plan.specs.declared.object.Object.TheVariants.{Limit, Block, Start}
use Rattle.road_scenario.specs.declared.edit.Value.TheVariants.{Withdrawn, Put}
use Rattle.road_format.specs.Cut.{lines_of}
use Rattle.road_format.specs.Fields.{is_name}
use Rattle.road_format.specs.CommandGrammar.{Cells, Cars, Count, Diagram, Scenario, Edit, Withdraw, Advance, Ask, Import, Send, Heads, Beyond, Take, Crowd, command_of}
use Rattle.road_format.specs.PlanGrammar.{plan_line_of}
use Rattle.road_format.specs.Replies as replies
use Rattle.road_format.specs.Replies.{reply}
use Rattle.road_format.specs.declared.refusal.Refusal.TheVariants as refusals
use Rattle.road_format.proofs.OnLiterals.{road_format_on_literals}

-- ---- cutting

an_empty_line_and_a_last_piece : lines_of (codes "a\n\nb") true ≡ codes "a" ∷ [] ∷ codes "b" ∷ []
an_empty_line_and_a_last_piece = refl

the_input_goes_on : lines_of (codes "a\n\nb") false ≡ codes "a" ∷ [] ∷ []
the_input_goes_on = refl

no_line_behind_the_last_newline : lines_of (codes "a\n") true ≡ codes "a" ∷ []
no_line_behind_the_last_newline = refl

-- ---- names

the_longest_name : is_name (replicate 64 97) ≡ true
the_longest_name = refl

a_name_too_long : is_name (replicate 65 97) ≡ false
a_name_too_long = refl

no_name : is_name [] ≡ false
no_name = refl

-- ---- commands

an_edit : command_of (codes "{\"edit\":{\"at\":\"A\",\"object\":[\"block\",8],\"step\":4,\"value\":1}}") ≡ Ok (Edit (codes "A") (Block 8) 4 1)
unfolding road_format_on_literals
an_edit = refl

a_withdrawal : command_of (codes "{\"withdraw\":{\"at\":\"A\",\"object\":[\"block\",8],\"step\":4}}") ≡ Ok (Withdraw (codes "A") (Block 8) 4)
unfolding road_format_on_literals
a_withdrawal = refl

an_advance : command_of (codes "{\"advance\":{\"to\":6,\"at\":\"A\"}}") ≡ Ok (Advance (codes "A") 6)
unfolding road_format_on_literals
an_advance = refl

some_cells : command_of (codes " {\"cells\" : {\"at\":\"\\u0041\",\"step\":0}}\r") ≡ Ok (Ask (codes "A") (Cells 0))
unfolding road_format_on_literals
some_cells = refl

some_cars : command_of (codes "{\"cars\":{\"at\":\"A\",\"step\":6}}") ≡ Ok (Ask (codes "A") (Cars 6))
unfolding road_format_on_literals
some_cars = refl

a_count : command_of (codes "{\"count\":{\"at\":\"A\",\"detector\":2,\"from\":0,\"to\":6}}") ≡ Ok (Ask (codes "A") (Count 2 0 6))
unfolding road_format_on_literals
a_count = refl

a_diagram : command_of (codes "{\"diagram\":{\"at\":\"B\",\"from\":4,\"to\":6}}") ≡ Ok (Ask (codes "B") (Diagram 4 6))
unfolding road_format_on_literals
a_diagram = refl

a_scenario : command_of (codes "{\"scenario\":{\"at\":\"A\"}}") ≡ Ok (Ask (codes "A") Scenario)
unfolding road_format_on_literals
a_scenario = refl

the_last_of_two_counts : command_of (codes "{\"cells\":{\"at\":\"A\",\"step\":7,\"step\":0}}") ≡ Ok (Ask (codes "A") (Cells 0))
unfolding road_format_on_literals
the_last_of_two_counts = refl

an_unknown_field : command_of (codes "{\"cells\":{\"at\":\"A\",\"step\":0,\"to\":1}}") ≡ Err refusals.NotACommand
unfolding road_format_on_literals
an_unknown_field = refl

a_second_command : command_of (codes "{\"advance\":{\"at\":\"A\",\"to\":6},\"cells\":{\"at\":\"A\",\"step\":6}}") ≡ Err refusals.NotACommand
unfolding road_format_on_literals
a_second_command = refl

a_point : command_of (codes "{\"cells\":{\"at\":\"A\",\"step\":1.0}}") ≡ Err refusals.NotACommand
unfolding road_format_on_literals
a_point = refl

the_greatest_number : command_of (codes "{\"advance\":{\"at\":\"A\",\"to\":4294967295}}") ≡ Ok (Advance (codes "A") 4294967295)
unfolding road_format_on_literals
the_greatest_number = refl

a_number_too_great : command_of (codes "{\"advance\":{\"at\":\"A\",\"to\":4294967296}}") ≡ Err refusals.NotACommand
unfolding road_format_on_literals
a_number_too_great = refl

no_json : command_of [] ≡ Err refusals.NotJson
unfolding road_format_on_literals
no_json = refl

-- ---- edits from outside, and messages

an_import : command_of (codes "{\"import\":{\"at\":\"A\",\"edits\":[[\"limit\",0,0,7,64,2]],\"form\":1}}")
    ≡ Ok (Import (codes "A") (record { object = Limit 0; step = 0; stamp = record { count = 7; number = 64 }; value = Put 2 } ∷ []))
unfolding road_format_on_literals
an_import = refl

-- null is a withdrawal; the count is the largest number of 64 bits, and the number the largest of 16
an_import_of_a_withdrawal : command_of (codes "{\"import\":{\"form\":1,\"edits\":[[\"block\",8,4,18446744073709551615,65535,null]],\"at\":\"A\"}}")
    ≡ Ok (Import (codes "A") (record { object = Block 8; step = 4; stamp = record { count = 18446744073709551615; number = 65535 }; value = Withdrawn } ∷ []))
unfolding road_format_on_literals
an_import_of_a_withdrawal = refl

an_import_of_nothing : command_of (codes "{\"import\":{\"at\":\"A\",\"edits\":[],\"form\":1}}") ≡ Ok (Import (codes "A") [])
unfolding road_format_on_literals
an_import_of_nothing = refl

another_form : command_of (codes "{\"import\":{\"at\":\"A\",\"edits\":[],\"form\":3}}") ≡ Err refusals.UnknownForm
unfolding road_format_on_literals
another_form = refl

no_form : command_of (codes "{\"import\":{\"at\":\"A\",\"edits\":[],\"form\":0}}") ≡ Err refusals.UnknownForm
unfolding road_format_on_literals
no_form = refl

-- only the second form has edits of kind `start`
a_start : command_of (codes "{\"import\":{\"at\":\"A\",\"edits\":[[\"start\",0,0,1,64,5]],\"form\":2}}")
    ≡ Ok (Import (codes "A") (record { object = Start 0; step = 0; stamp = record { count = 1; number = 64 }; value = Put 5 } ∷ []))
unfolding road_format_on_literals
a_start = refl

a_start_in_the_first_form : command_of (codes "{\"import\":{\"at\":\"A\",\"edits\":[[\"start\",0,0,1,64,5]],\"form\":1}}") ≡ Err refusals.NotACommand
unfolding road_format_on_literals
a_start_in_the_first_form = refl

a_start_in_the_third_form : command_of (codes "{\"import\":{\"at\":\"A\",\"edits\":[[\"start\",0,0,1,64,5]],\"form\":3}}") ≡ Err refusals.UnknownForm
unfolding road_format_on_literals
a_start_in_the_third_form = refl

an_edit_of_a_start : command_of (codes "{\"edit\":{\"at\":\"A\",\"object\":[\"start\",0],\"step\":0,\"value\":65536}}") ≡ Ok (Edit (codes "A") (Start 0) 0 65536)
unfolding road_format_on_literals
an_edit_of_a_start = refl

-- the edits are checked before the form
no_edits_in_another_form : command_of (codes "{\"import\":{\"at\":\"A\",\"edits\":[[\"limit\",0,0,7,64]],\"form\":3}}") ≡ Err refusals.NotACommand
unfolding road_format_on_literals
no_edits_in_another_form = refl

a_form_that_is_no_number : command_of (codes "{\"import\":{\"at\":\"A\",\"edits\":[],\"form\":\"1\"}}") ≡ Err refusals.NotACommand
unfolding road_format_on_literals
a_form_that_is_no_number = refl

a_form_where_there_is_none : command_of (codes "{\"send\":{\"at\":\"A\",\"form\":1,\"name\":\"m1\"}}") ≡ Err refusals.NotACommand
unfolding road_format_on_literals
a_form_where_there_is_none = refl

an_edit_of_seven_items : command_of (codes "{\"import\":{\"at\":\"A\",\"edits\":[[\"limit\",0,0,7,64,2,0]],\"form\":1}}") ≡ Err refusals.NotACommand
unfolding road_format_on_literals
an_edit_of_seven_items = refl

a_number_of_17_bits : command_of (codes "{\"import\":{\"at\":\"A\",\"edits\":[[\"limit\",0,0,7,65536,2]],\"form\":1}}") ≡ Err refusals.NotACommand
unfolding road_format_on_literals
a_number_of_17_bits = refl

a_send : command_of (codes "{\"send\":{\"at\":\"A\",\"name\":\"m1\"}}") ≡ Ok (Send (codes "A") (codes "m1"))
unfolding road_format_on_literals
a_send = refl

some_heads : command_of (codes "{\"heads\":{\"name\":\"h\",\"at\":\"A\"}}") ≡ Ok (Heads (codes "A") (codes "h"))
unfolding road_format_on_literals
some_heads = refl

a_delta : command_of (codes "{\"beyond\":{\"at\":\"B\",\"heads\":\"h\",\"name\":\"d\"}}") ≡ Ok (Beyond (codes "B") (codes "h") (codes "d"))
unfolding road_format_on_literals
a_delta = refl

a_take : command_of (codes "{\"take\":{\"at\":\"B\",\"message\":\"m1\"}}") ≡ Ok (Take (codes "B") (codes "m1"))
unfolding road_format_on_literals
a_take = refl

a_message_without_a_name : command_of (codes "{\"send\":{\"at\":\"A\",\"name\":\"\"}}") ≡ Err refusals.NotACommand
unfolding road_format_on_literals
a_message_without_a_name = refl

-- ---- crowds

an_edit_and_a_withdrawal_in_two_shares : command_of (codes "{\"crowd\":{\"form\":2,\"shares\":[[[\"start\",0,0,1,64,5]],[[\"block\",8,4,2,65,null]]],\"to\":6}}")
    ≡ Ok (Crowd (
    (record { object = Start 0; step = 0; stamp = record { count = 1; number = 64 }; value = Put 5 } ∷ [])
    ∷ (record { object = Block 8; step = 4; stamp = record { count = 2; number = 65 }; value = Withdrawn } ∷ [])
    ∷ []) 6)
unfolding road_format_on_literals
an_edit_and_a_withdrawal_in_two_shares = refl

an_empty_share : command_of (codes "{\"crowd\":{\"to\":0,\"shares\":[[]],\"form\":1}}") ≡ Ok (Crowd ([] ∷ []) 0)
unfolding road_format_on_literals
an_empty_share = refl

no_share : command_of (codes "{\"crowd\":{\"form\":1,\"shares\":[],\"to\":6}}") ≡ Err refusals.NotACommand
unfolding road_format_on_literals
no_share = refl

eight_shares : command_of (codes "{\"crowd\":{\"form\":1,\"shares\":[[],[],[],[],[],[],[],[]],\"to\":6}}") ≡ Ok (Crowd (replicate 8 []) 6)
unfolding road_format_on_literals
eight_shares = refl

nine_shares : command_of (codes "{\"crowd\":{\"form\":1,\"shares\":[[],[],[],[],[],[],[],[],[]],\"to\":6}}") ≡ Err refusals.NotACommand
unfolding road_format_on_literals
nine_shares = refl

-- nine shares are refused before the form is checked
nine_shares_in_the_third_form : command_of (codes "{\"crowd\":{\"form\":3,\"shares\":[[],[],[],[],[],[],[],[],[]],\"to\":6}}") ≡ Err refusals.NotACommand
unfolding road_format_on_literals
nine_shares_in_the_third_form = refl

a_share_that_is_no_list : command_of (codes "{\"crowd\":{\"form\":1,\"shares\":[[],{}],\"to\":6}}") ≡ Err refusals.NotACommand
unfolding road_format_on_literals
a_share_that_is_no_list = refl

a_start_in_the_second_share : command_of (codes "{\"crowd\":{\"form\":1,\"shares\":[[],[[\"start\",0,0,1,64,5]]],\"to\":6}}") ≡ Err refusals.NotACommand
unfolding road_format_on_literals
a_start_in_the_second_share = refl

a_start_in_a_share_of_the_third_form : command_of (codes "{\"crowd\":{\"form\":3,\"shares\":[[[\"start\",0,0,1,64,5]]],\"to\":6}}") ≡ Err refusals.UnknownForm
unfolding road_format_on_literals
a_start_in_a_share_of_the_third_form = refl

a_crowd_without_a_form : command_of (codes "{\"crowd\":{\"shares\":[[]],\"to\":6}}") ≡ Err refusals.NotACommand
unfolding road_format_on_literals
a_crowd_without_a_form = refl

a_further_field_of_a_crowd : command_of (codes "{\"crowd\":{\"by\":1,\"form\":1,\"shares\":[[]],\"to\":6}}") ≡ Err refusals.NotACommand
unfolding road_format_on_literals
a_further_field_of_a_crowd = refl

a_crowd_at_a_replica : command_of (codes "{\"crowd\":{\"at\":\"A\",\"form\":1,\"shares\":[[]],\"to\":6}}") ≡ Err refusals.NotACommand
unfolding road_format_on_literals
a_crowd_at_a_replica = refl

a_step_of_33_bits : command_of (codes "{\"crowd\":{\"form\":1,\"shares\":[[]],\"to\":4294967296}}") ≡ Err refusals.NotACommand
unfolding road_format_on_literals
a_step_of_33_bits = refl

-- ---- plan lines

a_plan : plan_line_of (codes "{\"detectors\":[5],\"exit\":1,\"inlets\":[[0,65536]],\"length\":12,\"replicas\":[\"A\",\"B\",\"C\"],\"words\":7,\"zone\":12,\"zones\":[[2,0]]}") ≡ Ok (record {
  names = codes "A" ∷ codes "B" ∷ codes "C" ∷ [];
  plan = record {
    cells = 12;
    exit = 1;
    width = 12;
    zones = (2, 0) ∷ [];
    inlets = (0, 65536) ∷ [];
    detectors = 5 ∷ [];
    words = Seeded 7;
  };
})
unfolding road_format_on_literals
a_plan = refl

a_plan_of_steady_words : plan_line_of (codes "{\"detectors\":[],\"exit\":1,\"inlets\":[[0,65536],[3,65536]],\"length\":32,\"replicas\":[\"A\"],\"words\":\"steady\",\"zone\":32,\"zones\":[[2,32768]]}") ≡ Ok (record {
  names = codes "A" ∷ [];
  plan = record {
    cells = 32;
    exit = 1;
    width = 32;
    zones = (2, 32768) ∷ [];
    inlets = (0, 65536) ∷ (3, 65536) ∷ [];
    detectors = [];
    words = Steady;
  };
})
unfolding road_format_on_literals
a_plan_of_steady_words = refl

-- names are checked before the length of the road
two_alike : plan_line_of (codes "{\"detectors\":[],\"exit\":1,\"inlets\":[[0,65536]],\"length\":7,\"replicas\":[\"A\",\"A\"],\"words\":\"steady\",\"zone\":12,\"zones\":[[2,0]]}") ≡ Err refusals.Names
unfolding road_format_on_literals
two_alike = refl

too_short : plan_line_of (codes "{\"detectors\":[],\"exit\":1,\"inlets\":[[0,65536]],\"length\":7,\"replicas\":[\"A\"],\"words\":\"steady\",\"zone\":12,\"zones\":[[2,0]]}") ≡ Err refusals.Length
unfolding road_format_on_literals
too_short = refl

no_plan_line : plan_line_of (codes "{}") ≡ Err refusals.NotAPlan
unfolding road_format_on_literals
no_plan_line = refl

-- ---- replies

opened : reply (replies.Open 3) ≡ codes "{\"open\":3}\n"
unfolding road_format_on_literals
opened = refl

refused : reply (replies.Refused refusals.LineTooLong) ≡ codes "{\"refused\":\"line too long\"}\n"
unfolding road_format_on_literals
refused = refl

stamped : reply (replies.Stamped (record { count = 1; number = 0 })) ≡ codes "{\"stamp\":[1,0]}\n"
unfolding road_format_on_literals
stamped = refl

advanced : reply (replies.Horizon 65536) ≡ codes "{\"horizon\":65536}\n"
unfolding road_format_on_literals
advanced = refl

a_row : reply (replies.Cells (codes "0..2...2....")) ≡ codes "{\"cells\":\"0..2...2....\"}\n"
unfolding road_format_on_literals
a_row = refl

three_cars : reply (replies.Cars ((80, 0, 0) ∷ (48, 3, 2) ∷ (16, 7, 2) ∷ [])) ≡ codes "{\"cars\":[[80,0,0],[48,3,2],[16,7,2]]}\n"
unfolding road_format_on_literals
three_cars = refl

the_greatest_car_number : reply (replies.Cars ((18446744073709551615, 11, 9) ∷ [])) ≡ codes "{\"cars\":[[18446744073709551615,11,9]]}\n"
unfolding road_format_on_literals
the_greatest_car_number = refl

two_counted : reply (replies.Counted 2 4) ≡ codes "{\"cars\":2,\"speeds\":4}\n"
unfolding road_format_on_literals
two_counted = refl

three_rows : reply (replies.Rows (codes "0..2...2#..." ∷ codes ".1...2.0#..." ∷ codes "0..2..10#..." ∷ [])) ≡ codes "{\"rows\":[\"0..2...2#...\",\".1...2.0#...\",\"0..2..10#...\"]}\n"
unfolding road_format_on_literals
three_rows = refl

an_edit_and_a_withdrawal : reply (replies.Edits (
    record { object = Limit 1; step = 10; stamp = record { count = 1; number = 0 }; value = Put 0 }
    ∷ record { object = Block 8; step = 4; stamp = record { count = 2; number = 0 }; value = Withdrawn }
    ∷ []))
    ≡ codes "{\"edits\":[[\"limit\",1,10,1,0,0],[\"block\",8,4,2,0,null]],\"form\":2}\n"
unfolding road_format_on_literals
an_edit_and_a_withdrawal = refl

touched_at_a_step : reply (replies.Touched (Some 4)) ≡ codes "{\"touched\":4}\n"
unfolding road_format_on_literals
touched_at_a_step = refl

touched_nowhere : reply (replies.Touched None) ≡ codes "{\"touched\":null}\n"
unfolding road_format_on_literals
touched_nowhere = refl

sent : reply (replies.Sent (codes "m1") 1) ≡ codes "{\"message\":\"m1\",\"size\":1}\n"
unfolding road_format_on_literals
sent = refl

two_heads : reply (replies.Heads (codes "h") (
    record { object = Limit 1; step = 10; stamp = record { count = 1; number = 0 } }
    ∷ record { object = Block 8; step = 4; stamp = record { count = 2; number = 64 } }
    ∷ []))
    ≡ codes "{\"form\":2,\"heads\":[[\"limit\",1,10,1,0],[\"block\",8,4,2,64]],\"message\":\"h\"}\n"
unfolding road_format_on_literals
two_heads = refl

a_withdrawal_beyond_heads : reply (replies.Delta (codes "d") (
    record { object = Block 8; step = 4; stamp = record { count = 2; number = 0 }; value = Withdrawn } ∷ []))
    ≡ codes "{\"edits\":[[\"block\",8,4,2,0,null]],\"form\":2,\"message\":\"d\"}\n"
unfolding road_format_on_literals
a_withdrawal_beyond_heads = refl

what_a_crowd_left : reply (replies.Crowd (
    record { object = Block 8; step = 4; stamp = record { count = 2; number = 65 }; value = Withdrawn } ∷ [])
    3 (codes "0..2..10#..."))
    ≡ codes "{\"edits\":[[\"block\",8,4,2,65,null]],\"form\":2,\"journal\":3,\"row\":\"0..2..10#...\"}\n"
unfolding road_format_on_literals
what_a_crowd_left = refl
