-- The bottom has no page.
use Rattle.std.proofs.Common.{◌∙◌, ap}
use Rattle.lattice_core.specs.Map.{is_empty}
use Rattle.lattice_core.proofs.KeyPages.{no_page-no_entry}
use Rattle.lattice_core.proofs.map.LatMapLattice.is_bottom.Goals as goal

pub returns-clause-least : goal.returns-clause-least
returns-clause-least g c = c.is_empty.ensures ∙ no_page-no_entry c.pages.result.now c.pages.ensures.paged.pages ∙ ap is_empty c.pages.ensures.all
