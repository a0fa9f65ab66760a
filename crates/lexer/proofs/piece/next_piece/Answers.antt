use Rattle.std.proofs.Common.{◌≡◌, sym, ◌∙◌, ap, length, rules, Some}
use Rattle.lexer.specs.Spelling.{symbol_at}
use Rattle.lexer.proofs.Symbols.{symbol_piece}
use Rattle.lexer.proofs.Next.{nothing_here, blank_here, symbol_here}
use Rattle.lexer.proofs.piece.next_piece.Goals as goal

pub returns-then-is_empty : goal.returns-then-is_empty
returns-then-is_empty c = let none : length c.args.text.now ≡ 0 = search rules in sym (nothing_here c.args.text.now none)

pub returns-then-is_blank : goal.returns-then-is_blank
returns-then-is_blank c =
    let some : length c.args.text.now ≡ 0 → ⊥ = search rules in
    sym (blank_here c.args.text.now some (sym c.if-is_blank.ensures))

pub returns-in-Some : goal.returns-in-Some
returns-in-Some c =
    let some : length c.args.text.now ≡ 0 → ⊥ = search rules in
    let at = symbol_here c.args.text.now some (sym c.if-is_blank.ensures) (sym c.if-starts_with.ensures.value)
    (sym c.if-starts_with-2.ensures.value) c.if-first-eq39.false
    (sym c.if-is_ascii_digit.ensures.value) (sym c.if-is_ascii_alphabetic.ensures.value) in
    let found : Some (c.in-Some.symbol, c.in-Some.length) ≡ symbol_at c.args.text.now = cc in
    ap symbol_piece found ∙ sym at

pub returns-in-None : goal.returns-in-None
returns-in-None c =
    let some : length c.args.text.now ≡ 0 → ⊥ = search rules in
    let at = symbol_here c.args.text.now some (sym c.if-is_blank.ensures) (sym c.if-starts_with.ensures.value)
    (sym c.if-starts_with-2.ensures.value) c.if-first-eq39.false
    (sym c.if-is_ascii_digit.ensures.value) (sym c.if-is_ascii_alphabetic.ensures.value) in
    ap symbol_piece c.in-None.ensures ∙ sym at
