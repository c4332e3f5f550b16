-- From the bytes of a plan line to the bytes of its refusal, one for each part of a plan that can be wrong: the free road
-- of 12 cells with that part changed.
use Rattle.std.proofs.Common.{◌≡◌, ◌^◌, true, codes, refl}
use Rattle.road_format.proofs.OnLiterals.{road_format_on_literals}
use Rattle.road_serve.specs.Answers.{later_replies, answers, answers_within}

-- the deleted zone is as long as the road
no_road_is_left : answers_within 1000000 (2 ^ 32) (codes "{\"detectors\":[5],\"exit\":12,\"inlets\":[[0,65536]],\"length\":12,\"replicas\":[\"A\"],\"words\":7,\"zone\":12,\"zones\":[[2,0]]}\n") true ≡ codes "{\"refused\":\"Exit\"}\n"
unfolding road_format_on_literals later_replies answers answers_within
no_road_is_left = refl

-- one zone of 11 cells
a_cell_without_a_zone : answers_within 1000000 (2 ^ 32) (codes "{\"detectors\":[5],\"exit\":1,\"inlets\":[[0,65536]],\"length\":12,\"replicas\":[\"A\"],\"words\":7,\"zone\":11,\"zones\":[[2,0]]}\n") true ≡ codes "{\"refused\":\"Zones\"}\n"
unfolding road_format_on_literals later_replies answers answers_within
a_cell_without_a_zone = refl

-- an inlet in the deleted zone
an_inlet_too_far : answers_within 1000000 (2 ^ 32) (codes "{\"detectors\":[5],\"exit\":1,\"inlets\":[[11,65536]],\"length\":12,\"replicas\":[\"A\"],\"words\":7,\"zone\":12,\"zones\":[[2,0]]}\n") true ≡ codes "{\"refused\":\"Inlets\"}\n"
unfolding road_format_on_literals later_replies answers answers_within
an_inlet_too_far = refl

-- a detector at the first cell, which no car drives into
a_detector_at_the_first_cell : answers_within 1000000 (2 ^ 32) (codes "{\"detectors\":[0],\"exit\":1,\"inlets\":[[0,65536]],\"length\":12,\"replicas\":[\"A\"],\"words\":7,\"zone\":12,\"zones\":[[2,0]]}\n") true ≡ codes "{\"refused\":\"Detectors\"}\n"
unfolding road_format_on_literals later_replies answers answers_within
a_detector_at_the_first_cell = refl

-- a limit of 10
a_limit_of_ten : answers_within 1000000 (2 ^ 32) (codes "{\"detectors\":[5],\"exit\":1,\"inlets\":[[0,65536]],\"length\":12,\"replicas\":[\"A\"],\"words\":7,\"zone\":12,\"zones\":[[10,0]]}\n") true ≡ codes "{\"refused\":\"Default\"}\n"
unfolding road_format_on_literals later_replies answers answers_within
a_limit_of_ten = refl
