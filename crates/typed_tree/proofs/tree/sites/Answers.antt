use Rattle.typed_tree.proofs.tree.sites.Goals as goal

pub returns : goal.returns
returns c = c.as_slice.ensures.value
