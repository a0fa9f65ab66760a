use Rattle.types.proofs.Fields.{field_ends, field_rows}
use Rattle.types.proofs.laws.fields_lie_in_order.Goals as goal

pub returns : goal.returns
returns c = λ types id position field is. record {
  ends = field_ends types id position field is;
  components = field_rows types id position field is;
}
