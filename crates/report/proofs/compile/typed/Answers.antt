use Rattle.std.proofs.Common.{Err, map, sym, subst}
use Rattle.std.proofs.lemmas.Result.{err_from_is_err_and}
use Rattle.place.specs.Place.{ArePlacesInOrder}
use Rattle.parser.specs.Syntax.{IsTreeOf, IsFaultOf, IsReadAs}
use Rattle.report.proofs.RefusalLemmas.{untyped_by, lexing-refusal, parsing-refusal, typing-refusal}
use Rattle.report.proofs.compile.typed.Goals as goal

pub returns : goal.returns
returns c =
    let program = c.in_ok-program.program in
    record {
      well_formed = c.in_ok-tree.ensures.well_formed;
      in_order = c.in_ok-tree.ensures.in_order;
      points_in_order = c.in_ok-tree.ensures.points_in_order;
      numbered = c.in_ok-tree.ensures.numbered;
      by_place =
          c.in_ok-tree.ensures.by_place
          (c.in_ok-program.ensures.in_order (subst (λ l. ArePlacesInOrder (map (λ token. token.place) l)) (sym c.deref.ensures.value)
          c.in_ok-tokens.ensures.in_order));
      typed = (
        program,
        (
          c.in_ok-tokens.tokens.items,
          c.in_ok-tokens.ensures.list,
          subst (IsTreeOf program) c.deref.ensures.value
              c.in_ok-program.ensures.exact,
        ),
        c.in_ok-tree.ensures.typed,
      );
    }

pub returns-in_err-tokens : goal.returns-in_err-tokens
returns-in_err-tokens c =
    let source = c.args.source.now in
    let told = err_from_is_err_and c.from_residual.result c.from_residual.ensures.1 in
    untyped_by source c.from_residual.result told.0 _ told.1 told.2
    (λ text. lexing-refusal source text c.in_err-tokens.field-0.0 c.in_err-tokens.ensures.fault)

pub returns-in_err-program : goal.returns-in_err-program
returns-in_err-program c =
    let source = c.args.source.now in
    let fault = c.in_err-program.field-0.0 in
    let told = err_from_is_err_and c.from_residual-in_err-program.result c.from_residual-in_err-program.ensures.1 in
    untyped_by source c.from_residual-in_err-program.result told.0 _ told.1 told.2
    (λ text. parsing-refusal source text fault c.in_ok-tokens.tokens.items c.in_ok-tokens.ensures.list
    (subst (IsFaultOf fault) c.deref.ensures.value c.in_err-program.ensures.exact)
    (subst (IsReadAs (Err fault)) c.deref.ensures.value c.in_err-program.ensures.read))

pub returns-in_err-tree : goal.returns-in_err-tree
returns-in_err-tree c =
    let source = c.args.source.now in
    let program = c.in_ok-program.program in
    let told = err_from_is_err_and c.from_residual-in_err-tree.result c.from_residual-in_err-tree.ensures.1 in
    untyped_by source c.from_residual-in_err-tree.result told.0 _ told.1 told.2
    (λ text. typing-refusal source text c.in_err-tree.field-0.0 program
    (c.in_ok-tokens.tokens.items, c.in_ok-tokens.ensures.list, subst (IsTreeOf program) c.deref.ensures.value c.in_ok-program.ensures.exact)
    c.in_err-tree.ensures.refused)
