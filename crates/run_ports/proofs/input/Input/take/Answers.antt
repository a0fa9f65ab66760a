use Rattle.std.proofs.Common.{◌<◌, ◌++◌, length, take, get_or, ap, refl, arith}
use Rattle.std.proofs.lemmas.List.{length-take}
use Rattle.run_ports.specs.Feeding.{coming}
use Rattle.run_ports.proofs.Filled.{window-cons}
use Rattle.run_ports.proofs.input.Input.take.Goals as goal

pub returns-clause-takes : goal.returns-clause-takes
returns-clause-takes c =
    let s = c.args.self.now in
    let most = length-take s.held s.bytes.items in
    let within : s.next < length (take s.held s.bytes.items) = omega (arith, most, c.requires) in
    record {
      byte = get_or (take s.held s.bytes.items) s.next 0;
      rest = λ source. ap (λ l. l ++ coming s source) (window-cons s within);
      at_end = refl;
    }
