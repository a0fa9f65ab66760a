use Rattle.std.proofs.Common.{arith, ◌<◌, ap, length, Option}
use Rattle.types.specs.declared.form.TypeId.{TypeId}
use Rattle.checker_loops.specs.Aliases.{Stored}
use Rattle.cert_checker.specs.StoresView.{said_stores}
use Rattle.cert_checker.proofs.StoresMade.{stored-more}
use Rattle.cert_checker.proofs.stores.Stores.in_rows.Goals as goal

pub loop-place-preserved : goal.loop-place-preserved
loop-place-preserved c =
    let stores = said_stores c.args.self.now in
    let place = c.loop-place.place in
    let one = c.at-row.result in
    let inside : place < length stores = omega arith in
    stored-more c.args.rows.now stores place one c.loop-place.stored.items c.push.new.self.items _ inside c.at-row.ensures c.in_ok-push.ensures.items
    (ap (λ (id : Option TypeId). let stored : Stored = record { type_id = id; range = one.1 } in stored) c.type_id.ensures) c.loop-place.invariant
