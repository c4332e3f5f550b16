-- The readings of the code, compared with those of the definitions.
use Rattle.std.specs.Prelude.{◌≡◌, ℕ, List, Option, Some, None, Result, Ok, Err}
use Rattle.road_format.specs.declared.refusal.Refusal.{Refusal}
use Rattle.road_format.specs.declared.refusal.Refusal.TheVariants as refusals
use Rattle.road_serve.specs.declared.dialogue.LineRead.{LineRead}
use Rattle.road_serve.specs.declared.dialogue.LineRead.TheVariants.{Accepted, Refused}

-- the reading of a held line: a line that is too long is refused unread
abbrev pub read_held : {A : Type 0} → (List ℕ → Result A Refusal) → Option (List ℕ) → Result A Refusal
read_held reading None = Err refusals.LineTooLong
read_held reading (Some line) = reading line

-- a line was read as the definition reads it
abbrev pub IsRead : {X Y : Type 0} → (X → Y) → LineRead X → Result Y Refusal → Type 0
IsRead view (Accepted x) reading = reading ≡ Ok (view x)
IsRead view (Refused refusal) reading = reading ≡ Err refusal

-- a fact about the content of an accepted line
abbrev pub IfAccepted : {X : Type 0} → LineRead X → (X → Type 0) → Type 0
IfAccepted (Accepted x) P = P x
IfAccepted (Refused refusal) P = Unit {0}
