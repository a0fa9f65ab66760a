use Rattle.std.proofs.lemmas.List.Elements.{same_from_all_zip}
use Rattle.scopes.proofs.Inserts.{same_entries, same_option}
use Rattle.scopes.proofs.regions.copied.Goals as goal

-- its entries are alike
pub returns : goal.returns
returns c =
    same_entries _ _ (λ a b h. same_from_all_zip _ a.items b.items h.0 (λ x y h. h))
    (same_option _ (λ y h. elim h [ ]) (λ x h. elim h [ ]) (λ x y h. h))
    c.args.names.now.entries c.in_ok-clone.field-0.entries c.in_ok-clone.ensures.cases
