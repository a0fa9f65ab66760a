-- Values that are assigned, with what was noted of them, as the program keeps them. It does not say which are steps.
use Rattle.checker_expressions.specs.Walk.{Valued}
use Rattle.cert_checker.specs.declared.increments.Valued.{Valued as KeptValued}

abbrev pub said_valued : KeptValued → Valued
said_valued valued = record { known = valued.known; noted = valued.notes.items }
