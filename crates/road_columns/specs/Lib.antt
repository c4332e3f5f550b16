-- The road in columns.
pub mod Columns
pub mod Private
-- A road, or a run that has reached it.
pub mod RoadOrRun
-- A run under way.
pub mod UnderWay
