use Rattle.std.proofs.Common.{true, false, codes, sym, ◌∙◌, ap}
use Rattle.std.proofs.Math.ListN.{drop_of_length-le}
use Rattle.lexer.proofs.Rest.{begins_rest}
use Rattle.lexer.proofs.Ends.{shifted}
use Rattle.lexer.proofs.Comments.{comment_end, comment_piece, comment_at, comment_passes, comment_closes_one, comment_closes_two}
use Rattle.lexer.proofs.piece.comment.Goals as goal

pub loop-at-preserved : goal.loop-at-preserved
loop-at-preserved c =
    comment_passes c.args.text.now c.loop-at.at c.loop-at-test.true (begins_rest (codes "}") c.args.text.now c.loop-at.at false c.if-starts_with.ensures.value)
    (begins_rest (codes "*)") c.args.text.now c.loop-at.at false c.if-starts_with-2.ensures.value)
    ∙ c.loop-at.invariant

pub returns-then-starts_with : goal.returns-then-starts_with
returns-then-starts_with c =
    let close = comment_closes_one c.args.text.now c.loop-at.at c.loop-at-test.true
    (begins_rest (codes "}") c.args.text.now c.loop-at.at true c.if-starts_with.ensures.value) in
    ap (λ o. comment_piece (shifted c.loop-at.at o)) (sym close) ∙ ap comment_piece c.loop-at.invariant ∙ sym
    (comment_at c.args.text.now c.args.opening c.requires)

pub returns-then-starts_with-2 : goal.returns-then-starts_with-2
returns-then-starts_with-2 c =
    let close = comment_closes_two c.args.text.now c.loop-at.at c.loop-at-test.true
    (begins_rest (codes "}") c.args.text.now c.loop-at.at false c.if-starts_with.ensures.value)
    (begins_rest (codes "*)") c.args.text.now c.loop-at.at true c.if-starts_with-2.ensures.value) in
    ap (λ o. comment_piece (shifted c.loop-at.at o)) (sym close) ∙ ap comment_piece c.loop-at.invariant ∙ sym
    (comment_at c.args.text.now c.args.opening c.requires)

pub returns : goal.returns
returns c =
    let none = drop_of_length-le c.args.text.now c.loop-at-test.false in
    ap (λ bs. comment_piece (shifted c.loop-at.at (comment_end bs))) (sym none) ∙ ap comment_piece c.loop-at.invariant ∙ sym
    (comment_at c.args.text.now c.args.opening c.requires)
