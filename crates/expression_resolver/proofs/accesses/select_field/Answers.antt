use Rattle.std.proofs.Common.{refl, sym, ap, ◌∙◌}
use Rattle.typed_tree.specs.Accesses.{index_count}
use Rattle.typing.specs.Expressions.{selected}
use Rattle.typing.proofs.Selectors.{field_passes}
use Rattle.expression_resolver.proofs.Selecting.{fields_take_none}
use Rattle.expression_resolver.proofs.accesses.select_field.Goals as goal

-- the field is selected
pub returns : goal.returns
returns c =
    let made = c.args.selection.now in
    let f = c.in_ok-field.field in record {
      goes = λ more left.
          field_passes made.selectors.items made.type_id more c.args.typer.now c.pass.new.self c.args.name.now left f c.field_named.new.self
          c.pass.ensures c.in_ok-field.ensures
          ∙ ap (λ ones. selected ones f.type_id more left c.field_named.new.self) (sym c.in_ok-push.ensures.items);
      indexes = refl;
      counted = ap index_count c.in_ok-push.ensures.items ∙ fields_take_none made.selectors.items f.position f.offset;
    }
