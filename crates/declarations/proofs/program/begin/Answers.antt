use Rattle.std.proofs.Common.{◌++◌, ◌∙◌, ap, sym, subst}
use Rattle.typing.specs.Routines.{typed_block}
use Rattle.typing.specs.Passing.{each}
use Rattle.typing.specs.Typing.{parameter_of_program}
use Rattle.declarations.specs.Parts.{texts}
use Rattle.declarations.specs.Known.{AreKnown}
use Rattle.declarations.proofs.Kept.{each_keeps, parameter_keeps, known_behind}
use Rattle.declarations.proofs.Opened.{opened_known}
use Rattle.declarations.proofs.Parts.{first_known, others_known}
use Rattle.declarations.proofs.program.begin.Goals as goal

-- the region of the block knows its parameters
pub declare_parameters-requires : goal.declare_parameters-requires
declare_parameters-requires c =
    let new = c.open_block.new.self in
    let parameters = c.args.program.now.parameters.items in
    let names = (typed_block c.args.program.now.block).names in
    let are = ap texts c.deref.ensures.value ∙ c.in_ok-names.ensures in
    let known = opened_known c.deref.result.now (parameters ++ names) are c.open_required.new.self new c.in_ok-open_block.ensures in
    record {
      known =
          subst (λ l. AreKnown l new.regions) (sym c.deref-2.ensures.value) (first_known new.regions parameters names known);
    }

-- and the names of the block
pub returns-clause-known : goal.returns-clause-known
returns-clause-known c =
    let old = c.open_block.new.self in
    let parameters = c.args.program.now.parameters.items in
    let names = (typed_block c.args.program.now.block).names in
    let are = ap texts c.deref.ensures.value ∙ c.in_ok-names.ensures in
    let known = opened_known c.deref.result.now (parameters ++ names) are c.open_required.new.self old c.in_ok-open_block.ensures in
    known_behind (each parameter_of_program c.deref-2.result.now) (each_keeps parameter_of_program c.deref-2.result.now parameter_keeps) old
    c.declare_parameters.new.typer c.declare_parameters.result c.declare_parameters.ensures names (others_known old.regions parameters names known)
