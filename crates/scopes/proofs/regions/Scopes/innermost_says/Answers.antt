use Rattle.std.proofs.Common.{◌∙◌, ◌<◌, length, sym, ap, refl, map, reverse}
use Rattle.scopes.specs.Scopes.{innermost, region_of, said}
use Rattle.scopes.proofs.Inserts.{says_last}
use Rattle.scopes.proofs.regions.Scopes.innermost_says.Goals as goal

-- it is the last table's
pub returns : goal.returns
returns c =
    let tables = c.deref.result.now in
    let region = c.in_ok-region.region.now in
    let name = c.args.name.now in
    let some : 0 < length tables = c.in_ok-region.ensures.item.3.0 in
    let last = says_last tables (length tables) region name refl some c.in_ok-region.ensures.item.1 in
    let viewed = ap (λ bs. reverse (map region_of bs)) c.deref.ensures.value ∙ c.self.view_is in
    c.copied.ensures ∙ c.get.ensures.value ∙ sym last ∙ ap (λ rs. said (innermost rs) name) viewed
