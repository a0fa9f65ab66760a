use Rattle.std.proofs.Common.{[], ◌∷◌, ◌∙◌, ◌≡◌, IfOk, List, Some, ap, arith, codes, refl, rules}
use Rattle.std.specs.Prelude.{pos}
use Rattle.clap.specs.declared.builder.value_parser.ValueParser.TheVariants.{Signed}
use Rattle.clap.specs.Words.{Rule}
use Rattle.clap.specs.declared.builder.arg.Arg.{Arg}
use Rattle.command_line.specs.Pint.{arguments}
use Rattle.command_line.proofs.ArgumentLemmas.{IsMadeOf, is_command, on_ok, wants_value}
use Rattle.command_line.proofs.OptionLemmas.{reads_value}
use Rattle.command_line.proofs.PintLemmas.{spelled}
use Rattle.command_line.proofs.pint.command.Goals as goal

abbrev given : goal.After-arg-2 → List Arg
given c = c.cells_option.result ∷ c.required.result ∷ []

made : (c : goal.After-arg-2) → IfOk c.arg-2.result (IsMadeOf (codes "pint") arguments (given c))
made c = on_ok c.arg-2.result c.arg-2.ensures (λ command added. record {
  start = c.named.result;
  named = c.named.ensures;
  added = (c.in_ok-arg.field-0, c.in_ok-arg.ensures, (command, added, refl));
  rules_are = search rules;
})

pub returns-clause-app : goal.returns-clause-app
returns-clause-app c = on_ok c.arg-2.result (made c) (λ command chain. is_command (codes "pint") arguments (given c) command chain refl)

pub returns-clause-cells : goal.returns-clause-cells
returns-clause-cells c = on_ok c.arg-2.result (made c) (λ command chain m parsed text first.
    let option_is = c.cells_option.ensures in
    let id : c.cells_option.result.id.now ≡ codes "cells" = ap (λ (r : Rule). r.id) option_is in
    let parser : c.cells_option.result.value_parser ≡ Some (Signed (pos 1) (pos 16777216)) = ap (λ (r : Rule). r.parser) option_is in
    let read = reads_value (codes "pint") arguments (given c) command chain refl 0 c.cells_option.result (Signed (pos 1) (pos 16777216))
    (omega arith) refl parser m parsed text (rw id first) in
    let number = spelled 1 16777216 text (omega arith) read.0 in
    (number.0, number.1, number.2, number.3, rw (← id) (read.1 ∙ ap Some number.4)))

pub returns-clause-code : goal.returns-clause-code
returns-clause-code c = on_ok c.arg-2.result (made c)
    (λ command chain. wants_value (codes "pint") arguments (given c) command chain refl 1 c.required.result (codes "code") (omega arith) refl (search rules))
