use Rattle.std.proofs.Common.{rules, ◌≡◌, length, min, sym}
use Rattle.std.proofs.lemmas.Slice.Zip.{zip_end}
use Rattle.declarations.specs.Parts.{texts}
use Rattle.declarations.proofs.Defined.{groups_end}
use Rattle.declarations.proofs.names.+denoters.Goals as goal

-- all groups are met
pub fold_fields-returns : goal.fold_fields-returns
fold_fields-returns t c =
    let rows = c.args.rows.now in
    let denoters = c.args.denoters.now in
    let here = c.loop-denoter in
    let begins = c.into_iter-denoter-iterator.result in
    let first : begins.a.rest.now ≡ rows = search rules in
    let second : begins.b.rest.now ≡ denoters = search rules in
    let all : length here.yielded ≡ min (length rows) (length denoters) =
    zip_end rows denoters here.yielded begins here.denoter-iterator c.next.new.self c.next.result first second here.yielded_by c.in-None.is
    c.next.ensures.steps in
    sym (groups_end rows denoters (texts c.args.keys.now.items) (length here.yielded) (texts here.keys.items) all here.invariant)
