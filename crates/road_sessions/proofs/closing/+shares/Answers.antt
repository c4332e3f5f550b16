-- Each session adds its share.
use Rattle.std.proofs.Common.{arith}
use Rattle.road_sessions.proofs.ClosedSessions.{shares_of_none, shares_with_last}
use Rattle.road_sessions.proofs.closing.+shares.Goals as goal

pub returns-in-None : goal.returns-in-None
returns-in-None g n c =
    let whole = c.args.sessions.ok.0 in
    let none = c.in-None.ensures.cases.0 in
    shares_of_none c.args.all.parts c.args.all.amount c.args.sessions.items (omega arith)

pub returns-in-Some : goal.returns-in-Some
returns-in-Some g n c =
    shares_with_last c.args.all.parts c.args.all.amount c.into_share.result.parts c.into_share.result.amount c.merge.new.self.parts c.merge.new.self.amount
    c.shares.result.parts c.shares.result.amount c.args.sessions.items c.pop.new.self.items c.in-Some.session
    c.in-Some.ensures.items c.into_share.ensures.0 c.into_share.ensures.1 c.merge.ensures.parts c.merge.ensures.amount c.shares.ensures.0 c.shares.ensures.1
