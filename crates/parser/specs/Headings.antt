-- How a heading looks, and whether `forward` may stand behind it.
-- This doesn't say how a heading is read: see Declarations in reading.
use Rattle.syntax_tree.specs.declared.Heading.{Heading}
use Rattle.reading.specs.Declarations.{Headed}
use Rattle.reading.specs.Trees.{heading_outline, takes_directive}

abbrev pub headed : Heading → Headed
headed heading = (heading_outline heading, takes_directive heading)
