use Rattle.std.proofs.Common.{true, false, [], ◌∷◌, codes, sym, ◌∙◌, ap, arith}
use Rattle.lexer.specs.Piece.{string_piece}
use Rattle.lexer.proofs.Rest.{begins_rest}
use Rattle.lexer.proofs.Strings.{string_at, string_pairs, string_passes, string_closes, string_breaks, string_stops}
use Rattle.lexer.proofs.piece.string_length.Goals as goal

pub loop-at-preserved-then-starts_with : goal.loop-at-preserved-then-starts_with
loop-at-preserved-then-starts_with c =
    let text = c.args.text.now in
    let at = c.loop-at.at in
    (omega arith, string_pairs text at (begins_rest (codes "''") text at true c.if-starts_with.ensures.value) ∙ c.loop-at.invariant.1)

pub returns-then-starts_with-2-clause-exact : goal.returns-then-starts_with-2-clause-exact
returns-then-starts_with-2-clause-exact c =
    let text = c.args.text.now in
    let at = c.loop-at.at in
    ap (string_piece text) (string_closes text at (begins_rest (codes "''") text at false c.if-starts_with.ensures.value)
    (begins_rest (codes "'") text at true c.if-starts_with-2.ensures.value)
    ∙ c.loop-at.invariant.1) ∙ sym (string_at text c.requires)

pub returns-then-starts_with-3-clause-exact : goal.returns-then-starts_with-3-clause-exact
returns-then-starts_with-3-clause-exact c =
    let text = c.args.text.now in
    let at = c.loop-at.at in
    ap (string_piece text) (string_breaks text at (begins_rest (codes "'") text at false c.if-starts_with-2.ensures.value)
    (begins_rest (10 ∷ []) text at true c.if-starts_with-3.ensures.value)
    ∙ c.loop-at.invariant.1) ∙ sym (string_at text c.requires)

pub loop-at-preserved : goal.loop-at-preserved
loop-at-preserved c =
    let text = c.args.text.now in
    let at = c.loop-at.at in (
      omega arith,
      string_passes text at (begins_rest (codes "'") text at false c.if-starts_with-2.ensures.value)
          (begins_rest (10 ∷ []) text at false c.if-starts_with-3.ensures.value)
          ∙ c.loop-at.invariant.1,
    )

pub returns-clause-exact : goal.returns-clause-exact
returns-clause-exact c =
    let text = c.args.text.now in
    ap (string_piece text) (string_stops text c.loop-at.at c.loop-at-test.false ∙ c.loop-at.invariant.1) ∙ sym (string_at text c.requires)
