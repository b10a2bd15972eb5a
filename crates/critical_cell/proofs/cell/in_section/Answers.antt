use Rattle.critical_cell.proofs.Sections.{section_parts}
use Rattle.critical_cell.proofs.cell.in_section.Goals as goal

pub returns : goal.returns
returns c = section_parts _ c.shape-shape.ensures.valid c.requires.section _ c.requires.object
