-- Ways, and what is stored to aliases, as the definitions see them. It does not say what is known of them.
use Rattle.checker_state.specs.View.{said_form}
use Rattle.checker_loops.specs.Aliases.{Stored}
use Rattle.checker_loops.specs.Ways.{End, Way}
use Rattle.checker_ways.specs.declared.aliases.Stored.{Stored as KeptStored}
use Rattle.checker_ways.specs.declared.ways.End.{End as KeptEnd}
use Rattle.checker_ways.specs.declared.ways.Way.{Way as KeptWay}

-- the way of a control variable, as the definitions see it
abbrev pub said_end : KeptEnd → End
said_end end = record { form = said_form end.form; fits = end.fits; values = end.values }

abbrev pub said_way : KeptWay → Way
said_way way = record {
  control = way.control;
  direction = way.direction;
  first = said_end way.first;
  last = said_end way.last;
}

-- an ordinal or a set that is stored
abbrev pub said_stored : KeptStored → Stored
said_stored stored = record { type_id = stored.type_id; range = stored.range }
