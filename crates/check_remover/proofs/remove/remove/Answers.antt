use Rattle.std.proofs.Common.{subst, sym, ◌∙◌}
use Rattle.pcode_assembler.specs.Writable.{EndsInNoCheck}
use Rattle.check_remover.specs.Strip.{KeepsInstructions, is_among}
use Rattle.check_remover.proofs.Kept.{strip-keeps}
use Rattle.check_remover.proofs.Written.{ends_still, still_said, still_writable}
use Rattle.check_remover.proofs.remove.remove.Goals as goal

pub returns-clause-kept : goal.returns-clause-kept
returns-clause-kept c =
    let whole = c.args.code.now.instructions.items in
    subst (KeepsInstructions c.args.open_sites.now whole) (sym c.in_ok-stripped.ensures) (strip-keeps c.args.open_sites.now whole)

pub returns-clause-sites : goal.returns-clause-sites
returns-clause-sites c = c.in_ok-from_slice.ensures.items ∙ c.as_slice.ensures.value

pub returns-clause-points : goal.returns-clause-points
returns-clause-points c = c.in_ok-from_slice-2.ensures.items ∙ c.as_slice-2.ensures.value

pub returns-clause-last : goal.returns-clause-last
returns-clause-last c ends =
    subst EndsInNoCheck (sym c.in_ok-stripped.ensures) (ends_still (is_among c.args.open_sites.now) c.args.code.now.instructions.items ends)

pub returns-clause-writable : goal.returns-clause-writable
returns-clause-writable c =
    still_writable c.args.open_sites.now c.args.code.now _ c.in_ok-stripped.ensures (returns-clause-sites c) (returns-clause-points c)

pub returns-clause-text : goal.returns-clause-text
returns-clause-text c =
    still_said c.args.open_sites.now c.args.code.now _ c.in_ok-stripped.ensures (returns-clause-sites c) (returns-clause-points c)
