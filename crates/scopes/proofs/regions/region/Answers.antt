use Rattle.std.proofs.lemmas.List.Elements.{same_from_all_zip}
use Rattle.scopes.proofs.Inserts.{opens_more}
use Rattle.scopes.proofs.regions.region.Goals as goal

-- one name more is listed
pub loop-name-preserved : goal.loop-name-preserved
loop-name-preserved c =
    let key = c.in_ok-clone.field-0 in
    opens_more c.args.names.now c.loop-name.name-index c.name-item.result key c.loop-name.region c.insert.new.self c.loop-name-test.true c.name-item.is
    (same_from_all_zip _ c.name-item.result.items key.items c.in_ok-clone.ensures.cases.0 (λ x y h. h)) c.in_ok-insert.ensures.entries c.loop-name.invariant
