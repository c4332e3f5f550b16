-- A session that hears of a longer history has seen it.
use Rattle.std.proofs.Common.{◌∙◌, [], sym}
use Rattle.std.proofs.lemmas.List.{append-nil}
use Rattle.road_sessions.proofs.session.Session.hear.Goals as goal

pub returns-then-is_prefix_of-clause-told : goal.returns-then-is_prefix_of-clause-told
returns-then-is_prefix_of-clause-told g c = ([], append-nil _ ∙ sym (c.again.ensures.same ∙ c.receipt.view_is))
