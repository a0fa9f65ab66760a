use Rattle.std.proofs.Common.{[], ◌∷◌, IfOk, List, arith, codes, refl, rules}
use Rattle.clap.specs.declared.builder.arg.Arg.{Arg}
use Rattle.command_line.specs.Pcom.{arguments}
use Rattle.command_line.proofs.ArgumentLemmas.{IsMadeOf, is_command, on_ok, wants_value}
use Rattle.command_line.proofs.pcom.command.Goals as goal

abbrev given : goal.After-arg-6 → List Arg
given c = c.option.result ∷ c.option-2.result ∷ c.flag.result ∷ c.flag-2.result ∷ c.required.result ∷ c.value-2.result ∷ []

made : (c : goal.After-arg-6) → IfOk c.arg-6.result (IsMadeOf (codes "pcom") arguments (given c))
made c = on_ok c.arg-6.result c.arg-6.ensures (λ command added. record {
  start = c.named.result;
  named = c.named.ensures;
  added = (
    c.in_ok-arg.field-0,
    c.in_ok-arg.ensures,
    (
      c.in_ok-arg-2.field-0,
      c.in_ok-arg-2.ensures,
      (
        c.in_ok-arg-3.field-0,
        c.in_ok-arg-3.ensures,
        (
          c.in_ok-arg-4.field-0,
          c.in_ok-arg-4.ensures,
          (c.in_ok-arg-5.field-0, c.in_ok-arg-5.ensures, (command, added, refl)),
        ),
      ),
    ),
  );
  rules_are = search rules;
})

pub returns-clause-app : goal.returns-clause-app
returns-clause-app c = on_ok c.arg-6.result (made c) (λ command chain. is_command (codes "pcom") arguments (given c) command chain refl)

pub returns-clause-source : goal.returns-clause-source
returns-clause-source c = on_ok c.arg-6.result (made c)
    (λ command chain. wants_value (codes "pcom") arguments (given c) command chain refl 4 c.required.result (codes "source") (omega arith) refl (search rules))
