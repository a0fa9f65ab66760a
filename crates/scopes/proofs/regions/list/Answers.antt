use Rattle.std.proofs.Common.{◌∙◌, ◌≡◌, ap, sym, is_some, false, true}
use Rattle.std.specs.HashMap.{get_by}
use Rattle.std.proofs.lemmas.List.Elements.{same_from_all_zip}
use Rattle.scopes.proofs.Inserts.{is_key, lists_already, lists_new}
use Rattle.scopes.proofs.regions.list.Goals as goal

-- the name is listed behind the others
pub returns-in_ok-insert : goal.returns-in_ok-insert
returns-in_ok-insert c =
    let name = c.args.name.now in
    let key = c.in_ok-clone.field-0 in
    let new : is_some (get_by (is_key name.items) c.args.region.now) ≡ false =
    ap (λ n. is_some (get_by (is_key n) c.args.region.now)) (sym c.as_slice.ensures.value) ∙ sym c.contains_key.ensures ∙ c.if-not-contains_key.true in
    lists_new c.args.region.now name.items key c.insert.new.self new
    (same_from_all_zip _ name.items key.items c.in_ok-clone.ensures.cases.0 (λ x y h. h)) c.in_ok-insert.ensures.entries

-- it is listed already
pub returns-else-not-contains_key : goal.returns-else-not-contains_key
returns-else-not-contains_key c =
    let name = c.args.name.now in
    let there : is_some (get_by (is_key name.items) c.args.region.now) ≡ true =
    ap (λ n. is_some (get_by (is_key n) c.args.region.now)) (sym c.as_slice.ensures.value) ∙ sym c.contains_key.ensures ∙ c.if-not-contains_key.false in
    lists_already c.args.region.now name.items there
