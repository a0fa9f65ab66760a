use Rattle.std.proofs.Common.{◌∙◌, sym, subst, List}
use Rattle.checker_expressions.specs.declared.noting.Noted.{Noted}
use Rattle.checker_expressions.specs.Walk.{Valued, noting_walk}
use Rattle.cert_checker.specs.Steps.{noted_where}
use Rattle.cert_checker.specs.View.{WalkGoes}
use Rattle.cert_checker.proofs.Assigned.{noting-goes, unnoted-goes}
use Rattle.cert_checker.proofs.Steps.{lifted}
use Rattle.cert_checker.proofs.walk.Walk.noted_where.Goals as goal

pub returns-then-has-clause-goes : goal.returns-then-has-clause-goes
returns-then-has-clause-goes g c =
    let old = c.args.self.now in
    let value = c.args.value.now in
    let told : Valued = record { known = c.noting-known.result; noted = c.noting-known.new.noted.items } in
    noting-goes c.args.extension value told (sym c.has.ensures ∙ c.if-has.true)
    (subst (λ (before : List Noted). WalkGoes (noting_walk before value) old (record old { flow = c.noting-known.new.self }) told) c.new-notes.ensures.items
    (lifted c.noting-known.ensures.goes))

pub returns-else-has-clause-goes : goal.returns-else-has-clause-goes
returns-else-has-clause-goes g c =
    let old = c.args.self.now in
    let value = c.args.value.now in
    let known = c.expression-known.result in
    subst
    (λ (notes : List Noted). WalkGoes (noted_where c.args.extension value) old (record old { flow = c.expression-known.new.self })
    (record { known = known; noted = notes }))
    (sym c.new-notes.ensures.items)
    (unnoted-goes c.args.extension value known (sym c.has.ensures ∙ c.if-has.false) (lifted c.expression-known.ensures.goes))
