-- The invariant of the loop that checks each share against a form.
use Rattle.std.proofs.Common.{◌≡◌, drop}
use Rattle.std.specs.List.{list_all}
use Rattle.road_format.specs.Forms.{are_of_form}
use Rattle.road_format.specs.Views.{shares_view}
use Rattle.road_format.proofs.crowd.are_shares_of_form.Given as goal

-- the answer for the shares that are left is the answer for all
abbrev pub invariant-loop-share : goal.invariant-loop-share
invariant-loop-share l = list_all (are_of_form l.form) (shares_view (drop l.share-index l.shares)) ≡ list_all (are_of_form l.form) (shares_view l.shares)
