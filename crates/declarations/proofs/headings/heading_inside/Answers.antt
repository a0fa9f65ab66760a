use Rattle.std.proofs.Common.{rules, ◌≡◌, ◌∙◌, [], Ok, ap, sym, subst, flat_map}
use Rattle.typing.specs.Blocks.{heading_ends}
use Rattle.typing.specs.Names.{formal_names}
use Rattle.typing.specs.Outcomes.{IsFault, TypingTakes}
use Rattle.typing.specs.Passing.{after}
use Rattle.typing.specs.Steps.{open_block}
use Rattle.declarations.specs.Parts.{texts}
use Rattle.declarations.proofs.HeadingForms.{end_is_left, region_stops, result_stops, roots_stop}
use Rattle.declarations.proofs.Opened.{opened_known}
use Rattle.declarations.proofs.headings.heading_inside.Goals as goal

-- the result stops
pub returns-in_err-root : goal.returns-in_err-root
returns-in_err-root c =
    let stops = result_stops c.args.number c.args.place c.args.groups.now c.args.types.now c.args.result_id c.args.typer.now c.begin_heading-cells.new.self
    c.begin_heading-cells.ensures.passed c.in_err-root.field-0.0 c.in_err-root.ensures in
    search (rules, stops)

-- the region stops
pub returns-in_err-open_block : goal.returns-in_err-open_block
returns-in_err-open_block c =
    let why = c.in_err-open_block.field-0.0 in
    let names = ap texts c.deref.ensures.value ∙ c.in_ok-names.ensures in
    let refused = subst (λ l. IsFault (open_block l c.result.new.self) why) names c.in_err-open_block.ensures in
    let stops = region_stops c.args.number c.args.place c.args.groups.now c.args.types.now c.args.result_id c.args.typer.now c.begin_heading-cells.new.self
    c.begin_heading-cells.ensures.passed c.in_ok-root.root c.result.new.self c.in_ok-root.ensures why refused in
    search (rules, stops)

-- the region of the parameters knows their names
pub parameters-requires : goal.parameters-requires
parameters-requires c =
    record {
      known =
          opened_known c.deref.result.now (flat_map formal_names c.args.groups.now) (ap texts c.deref.ensures.value ∙ c.in_ok-names.ensures) c.result.new.self
          c.open_block.new.self c.in_ok-open_block.ensures;
    }

-- the parameters stop
pub returns-in_err-roots : goal.returns-in_err-roots
returns-in_err-roots c =
    let names = ap texts c.deref.ensures.value ∙ c.in_ok-names.ensures in
    let opens = subst (λ l. open_block l c.result.new.self ≡ Ok (after tt [] c.open_block.new.self)) names c.in_ok-open_block.ensures in
    let stops = roots_stop c.args.number c.args.place c.args.groups.now c.args.types.now c.args.result_id c.args.typer.now c.begin_heading-cells.new.self
    c.begin_heading-cells.ensures.passed c.in_ok-root.root c.result.new.self c.in_ok-root.ensures c.open_block.new.self opens c.in_err-roots.field-0.0
    c.in_err-roots.ensures in
    search (rules, stops)

-- the heading ends
pub returns : goal.returns
returns c =
    let names = ap texts c.deref.ensures.value ∙ c.in_ok-names.ensures in
    let opens = subst (λ l. open_block l c.result.new.self ≡ Ok (after tt [] c.open_block.new.self)) names c.in_ok-open_block.ensures in
    let last = c.parameters.new.typer in
    let roots = c.in_ok-roots.roots.items in
    let root = c.in_ok-root.root in
    let left = end_is_left c.args.number c.args.place c.args.groups.now c.args.types.now c.args.result_id c.args.typer.now c.begin_heading-cells.new.self
    c.begin_heading-cells.ensures.passed root c.result.new.self c.in_ok-root.ensures c.open_block.new.self opens roots last c.in_ok-roots.ensures in
    subst (λ o. TypingTakes o c.end_heading.result c.end_heading.new.self)
    (ap (λ n. heading_ends (record (last.enclosing) { cells = n }) roots root last) c.begin_heading-cells.ensures.cells ∙ sym left) c.end_heading.ensures
