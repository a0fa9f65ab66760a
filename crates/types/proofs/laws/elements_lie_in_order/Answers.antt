use Rattle.types.proofs.Elements.{element_at, element_cells}
use Rattle.types.proofs.laws.elements_lie_in_order.Goals as goal

pub returns : goal.returns
returns c = λ types id element is. record {
  cells = element_cells types id element is;
  components = λ index before k low high counts inside. element_at types id element is index low high before k counts inside;
}
