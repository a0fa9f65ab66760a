use Rattle.std.proofs.Common.{◌≡◌, ◌<◌, ◌≤◌, ap, arith, inl, of_z, pos, to_z, w32, ◌∙◌}
use Rattle.std.proofs.lemmas.Int.{ints}
use Rattle.text_input.specs.Input.{Reads}
use Rattle.run_ports.specs.Wanted.{read_with}
use Rattle.run_ports.proofs.Taken.{character_above, character_at_end, character_is}
use Rattle.run_ports.proofs.ports.character_of.Goals as goal

pub returns-in-10-clause-value : goal.returns-in-10-clause-value
returns-in-10-clause-value c = λ fails rest.
    let is : pos 32 ≡ to_z w32 (of_z w32 c.from.result) = omega (arith, ints) in
    ap (read_with pos) (character_at_end c.args.byte rest c.in-10.is) ∙ ap (λ n. Reads n rest) is

pub returns-in-0-to-127-clause-value : goal.returns-in-0-to-127-clause-value
returns-in-0-to-127-clause-value c = λ fails rest.
    let other : c.args.byte ≡ 10 → ⊥ = omega arith in
    let within : c.args.byte ≤ 127 = omega arith in
    let is : pos c.args.byte ≡ to_z w32 (of_z w32 c.from-in-0-to-127.result) = omega (arith, ints) in
    ap (read_with pos) (character_is c.args.byte rest other within) ∙ ap (λ n. Reads n rest) is

pub returns-in_default-clause-value : goal.returns-in_default-clause-value
returns-in_default-clause-value c = λ fails rest.
    let above : 127 < c.args.byte = omega arith in
    inl (ap (read_with pos) (character_above c.args.byte rest above))
