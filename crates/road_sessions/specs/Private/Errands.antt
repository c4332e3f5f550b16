-- The parts of a write: the replica's answer to a command, the reply to the session, and the replica afterwards.
use Rattle.std.specs.Prelude.{◌≡◌, max}
use Rattle.std.specs.declared.option.Option.{Option}
use Rattle.std.specs.declared.option.Option.TheVariants.{None, Some}
use Rattle.road_rewind.specs.Growth.{touched_step}
use Rattle.road_replica.specs.Replicas.{Replica, replica_after}
use Rattle.road_replica.specs.declared.reply.Reply.{Reply}
use Rattle.road_replica.specs.declared.reply.Reply.TheVariants.{Stamped, Touched, Horizon}
use Rattle.road_scenario.specs.declared.edit.Stamp.{Stamp}
use Rattle.road_sheet.specs.Commands.{IsAllowed}
use Rattle.road_sessions.specs.Journals.{entry_command}
use Rattle.road_sessions.specs.declared.entry.Entry.{Entry}
use Rattle.road_sessions.specs.declared.entry.SheetCommand.{SheetCommand}
use Rattle.road_sessions.specs.declared.entry.SheetCommand.TheVariants.{Take, Advance}

-- the answer of a replica to a command: the touched step, or the horizon
abbrev pub reply_to_command : SheetCommand → Replica → Reply
reply_to_command (Take edits) r = Touched (touched_step r.sheet edits)
reply_to_command (Advance to) r = Horizon (max r.sheet.horizon to)

-- the reply to a session: the stamp of the edit, if the replica made one, else the replica's answer
abbrev pub reply_with : Option Stamp → Reply → Reply
reply_with (Some stamp) answer = Stamped stamp
reply_with None answer = answer

-- `next` is the replica after an entry whose command its plan allows
abbrev pub IsNext : Replica → Entry → Replica → Type 0
IsNext r e next = IsAllowed r.sheet.plan (entry_command e.command) × (next ≡ replica_after (entry_command e.command) r)
