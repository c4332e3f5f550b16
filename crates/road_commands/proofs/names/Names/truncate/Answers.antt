-- The first names are those of the first keys.
use Rattle.std.proofs.Common.{◌∙◌, ap, string_bytes, sym, take}
use Rattle.std.proofs.lemmas.List.{take-map}
use Rattle.road_format.specs.Views.{texts}
use Rattle.road_commands.proofs.names.Names.truncate.Goals as goal

pub returns : goal.returns
returns g c =
    ap texts c.truncate.ensures.keys ∙ sym (take-map string_bytes c.args.count c.self.inside.numbered.keys) ∙ ap (take c.args.count) c.self.view_is
