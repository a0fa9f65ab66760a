use Rattle.std.proofs.Common.{Ok, sym, ◌∙◌, ap}
use Rattle.lexer.specs.declared.piece.Piece.TheVariants as piece
use Rattle.lexer.proofs.Runs.{letters_at}
use Rattle.lexer.proofs.piece.name.Goals as goal

pub returns : goal.returns
returns c =
    letters_at c.args.text.now c.name_length-length.result c.requires c.name_length-length.ensures ∙ ap
    (λ k. Ok (piece.Token k, c.name_length-length.result)) (sym c.kind_of.ensures)
