use Rattle.scopes.proofs.Inserts.{defines_more}
use Rattle.scopes.proofs.regions.defined_region.Goals as goal

-- one definition more
pub loop-definition-preserved : goal.loop-definition-preserved
loop-definition-preserved c =
    defines_more (λ d. (d.0.now, d.1)) c.args.definitions.now c.loop-definition.definition-index _ c.in_ok-key.field-0 c.loop-definition.region
    c.insert.new.self c.loop-definition-test.true
    c.in_ok-key.ensures c.in_ok-insert.ensures.entries c.loop-definition.invariant
