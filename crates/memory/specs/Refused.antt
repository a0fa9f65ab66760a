use Rattle.memory.specs.declared.Refused.{Refused}

-- That memory was refused. There is no second such value: it tells nothing else.
pub the_refusal : Refused
the_refusal = record { by = record {} }
