use Rattle.std.proofs.Common.{rules, ◌≡◌, true, subst, sym}
use Rattle.typed_tree.specs.Kinds.{held_by, is_held}
use Rattle.typing_rules.specs.Targets.{whole_copy}
use Rattle.expression_resolver.specs.Values.{scalar_of, value_of}
use Rattle.expression_resolver.proofs.Operands.{relates_scalars, relation_held, relation_looks}
use Rattle.expression_resolver.proofs.operators.linked.Goals as goal

-- the operands are as they are taken
pub truth-requires : goal.truth-requires
truth-requires c =
    let l = value_of c.args.left.value in
    let r = value_of c.args.right.operand.value in
    let so = relates_scalars l r c.args.right.operation c.requires.related c.requires.scalar in
    record {
      held = relation_held (record { number = c.args.right.number; operation = c.args.right.operation; operand = c.into_scalar.result }) c.in_ok-new.field-0
          c.in_ok-vec.field-0 c.in_ok-vec.ensures.items l r so
          (subst (λ e. is_held (scalar_of l) (held_by e) ≡ true) (sym c.in_ok-new.ensures.ok) c.into_scalar-2.ensures.held) c.into_scalar.ensures.held;
    }

pub returns : goal.returns
returns c =
    let l = value_of c.args.left.value in
    let r = value_of c.args.right.operand.value in
    let so = relates_scalars l r c.args.right.operation c.requires.related c.requires.scalar in
    let looks = relation_looks (record { number = c.args.right.number; operation = c.args.right.operation; operand = c.into_scalar.result }) c.in_ok-new.field-0
    c.in_ok-vec.field-0 c.in_ok-vec.ensures.items (whole_copy l) (whole_copy r) so.none in
    search (rules, looks)
