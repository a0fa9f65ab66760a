use Rattle.std.proofs.Common.{rules, ◌≡◌, ◌∙◌, [], Ok, ap, sym, to_z, of_z, w32}
use Rattle.std.proofs.lemmas.Int.{to_z-of_z}
use Rattle.std.proofs.lemmas.List.{get_or_default}
use Rattle.declarations.proofs.Kept.{declare_keeps, names_stay}
use Rattle.declarations.proofs.Parts.{constant_next}
use Rattle.declarations.proofs.denoters.declare_constants.Goals as goal

-- one constant more is declared
pub loop-number-preserved : goal.loop-number-preserved
loop-number-preserved c =
    let names = c.args.names.now in
    let i = c.loop-number.number in
    let now = c.loop-number.typer in
    let new = c.declare.new.self in
    let passes = c.in_ok-declare.ensures in
    let value = to_z w32 (of_z w32 c.in_ok-value.value) in
    let held : value ≡ c.in_ok-value.value = search (rules, to_z-of_z) in
    record {
      left =
          constant_next c.args.type_id names c.args.typer.now i _ now new c.loop-number-test.true (get_or_default names i _ _ c.loop-number-test.true)
          c.loop-number.invariant.left value (sym c.in_ok-value.ensures ∙ ap Ok (sym held)) passes;
      known = names_stay _ (declare_keeps _ _) tt [] now new passes names c.loop-number.invariant.known;
    }
