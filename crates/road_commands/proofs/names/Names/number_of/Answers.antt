-- A name's number is its place in the set.
use Rattle.std.proofs.Common.{◌∙◌, ℕ, List, ap}
use Rattle.road_commands.specs.Laboratory.{number_of}
use Rattle.road_commands.proofs.NameNumbers.{number_by_place}
use Rattle.road_commands.proofs.names.Names.number_of.Goals as goal

pub returns-clause-number : goal.returns-clause-number
returns-clause-number g c =
    let name = c.args.name.now in
    c.get_index_of.ensures.index ∙ number_by_place name c.self.inside.numbered.keys ∙ ap (λ (names : List (List ℕ)). number_of names name) c.self.view_is
