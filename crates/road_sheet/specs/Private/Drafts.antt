-- Drafts that grow by spans.
use Rattle.std.specs.Arc.{arc_value}
use Rattle.road_sheet.specs.SettingsCaches.{AreCached}
use Rattle.road_sheet.specs.Sheets.{Sheet, state_of}
use Rattle.road_sheet.specs.Private.Intervals.{IsRunOf}
use Rattle.road_sheet.specs.declared.span_draft.SpanDraft.TheInside.{Inside}

-- the sheet of a draft so far
abbrev pub sheet_so_far : Inside → Sheet
sheet_so_far d = record { plan = arc_value d.plan; edits = d.scenario; horizon = d.horizon }

-- a draft has the intervals of its run, while its caller holds the road at the horizon; the cached settings are right
pub record IsDraft (d : Inside) : Type 0 where
  pub run : IsRunOf (sheet_so_far d) d.intervals d.open_interval (state_of (sheet_so_far d) d.horizon)
  pub cached : AreCached (arc_value d.plan) d.scenario d.settings
