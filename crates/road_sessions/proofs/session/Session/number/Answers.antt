-- Contracts see a session with its stored number.
use Rattle.std.proofs.Common.{◌<◌, ℕ, ap, subst}
use Rattle.road_sessions.specs.Sessions.{Session}
use Rattle.road_sessions.proofs.session.Session.number.Goals as goal

pub returns-clause-number : goal.returns-clause-number
returns-clause-number g c = ap (λ (s : Session). s.number) c.self.view_is

pub returns-clause-below : goal.returns-clause-below
returns-clause-below g c = subst (λ (n : ℕ). n < g.J.Ledger.parts) (ap (λ (s : Session). s.number) c.self.view_is) c.self.invariant.3
