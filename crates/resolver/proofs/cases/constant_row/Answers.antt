use Rattle.std.proofs.Common.{rules, ◌≡◌, ◌+◌, [], ◌∷◌, ◌++◌, None, get_or, w32, to_z, of_z, sym, ap, subst, ◌∙◌, append_assoc, arith}
use Rattle.std.proofs.lemmas.Int.{to_z-of_z}
use Rattle.syntax_tree.specs.declared.Constant.{Constant}
use Rattle.syntax_tree.specs.declared.ConstantValue.TheVariants.{Number}
use Rattle.typing.specs.Outcomes.{IsFault}
use Rattle.typing.specs.Statements.{case_constant, constant_row}
use Rattle.resolver.proofs.CaseArms.{IsRowFrom, row_next, row_stops}
use Rattle.resolver.proofs.cases.constant_row.Goals as goal

-- the one that stands outside of rows
abbrev other : Constant
other = record { sign = None; value = Number 0 (record { line = 0; column = 0 }) }

-- the next constant is met
pub loop-next-preserved : goal.loop-next-preserved
loop-next-preserved c =
    let type_id = c.args.type_id in
    let written = c.args.written.now in
    let old = c.args.typer.now in
    let before = c.args.seen.now.keys in
    let i = c.loop-next.next-index in
    let row = c.loop-next.row.items in
    let now = c.loop-next.typer in
    let new = c.case_constant.new.typer in
    let value = c.in_ok-case_constant.field-0 in
    let same : to_z w32 (of_z w32 value) ≡ value = search (rules, to_z-of_z) in
    let pushed : c.push_reserved.new.self.items ≡ row ++ value ∷ [] = c.push_reserved.ensures.items ∙ ap (λ v. row ++ v ∷ []) same in
    let met = c.loop-next.invariant.met in
    let passes = ap (λ keys. case_constant type_id keys (get_or written i other) now) (sym met) ∙ c.in_ok-case_constant.ensures.typed in
    record {
      from =
          subst (λ r. IsRowFrom type_id before written old (i + 1) r new) (sym pushed)
          (row_next type_id before written old i row now c.loop-next-test.true other c.loop-next.invariant.from value new passes);
      met =
          c.in_ok-case_constant.ensures.seen ∙ ap (λ keys. keys ++ value ∷ []) met ∙ append_assoc before row (value ∷ [])
          ∙ ap (λ l. before ++ l) (sym pushed);
      count = omega (arith, c.push_reserved.ensures.len);
      room = omega (arith, c.push_reserved.ensures.capacity);
    }

-- it is refused
pub returns-in_err-case_constant : goal.returns-in_err-case_constant
returns-in_err-case_constant c =
    let why = c.in_err-case_constant.field-0.0 in
    let type_id = c.args.type_id in
    let written = c.args.written.now in
    let old = c.args.typer.now in
    let before = c.args.seen.now.keys in
    let i = c.loop-next.next-index in
    let now = c.loop-next.typer in
    let refused : IsFault (case_constant type_id (before ++ c.loop-next.row.items) (get_or written i other) now) why =
    subst (λ keys. IsFault (case_constant type_id keys (get_or written i other) now) why) c.loop-next.invariant.met c.in_err-case_constant.ensures.typed in
    let stops : IsFault (constant_row type_id before [] written old) why =
    row_stops type_id before written old i c.loop-next.row.items now c.loop-next-test.true other c.loop-next.invariant.from why refused in
    search rules
