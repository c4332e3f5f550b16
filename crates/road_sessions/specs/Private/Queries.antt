-- Queries of the published sheet.
use Rattle.std.specs.declared.option.Option.{Option}
use Rattle.std.specs.declared.option.Option.TheVariants.{None}
use Rattle.road_sheet.specs.Sheets.{Sheet, state_fault, totals_fault}
use Rattle.road_sheet.specs.declared.faults.SheetFault.{SheetFault}
use Rattle.road_sessions.specs.declared.query.Query.{Query}
use Rattle.road_sessions.specs.declared.query.Query.TheVariants.{Look, State, Totals}

-- the first named cause for which a sheet refuses a query
abbrev pub query_fault : Query → Sheet → Option SheetFault
query_fault Look s = None
query_fault (State step) s = state_fault s step
query_fault (Totals detector from to) s = totals_fault s detector from to
