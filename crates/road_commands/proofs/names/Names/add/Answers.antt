-- A new name is added at the end.
use Rattle.std.proofs.Common.{◌≡◌, ◌++◌, ◌∷◌, [], ◌∙◌, ℕ, List, None, ap, string_bytes}
use Rattle.road_format.specs.Views.{texts}
use Rattle.road_commands.specs.Laboratory.{number_of}
use Rattle.road_commands.proofs.NameNumbers.{put_last}
use Rattle.road_commands.proofs.names.Names.add.Goals as goal

pub returns-clause-after : goal.returns-clause-after
returns-clause-after g c =
    let name = string_bytes c.args.name in
    let free : number_of (texts c.self.inside.numbered.keys) name ≡ None = ap (λ (names : List (List ℕ)). number_of names name) c.self.view_is ∙ c.requires in
    put_last c.args.name c.self.inside.numbered.keys c.insert.new.self.keys free c.in_ok-insert.ensures.keys ∙ ap (λ (names : List (List ℕ)). names ++ name ∷ []) c.self.view_is
