use Rattle.std.proofs.Common.{◌≡◌, ℕ, List, [], ◌∷◌, ◌++◌, Option, Some, None, option_map, append-nil, append_assoc, refl, sym, ap, ◌∙◌}
use Rattle.typing.specs.Strings.{characters_behind}
use Rattle.typing.proofs.strings.undoubled_behind.Goals as goal

none_read : (made : List ℕ) (rest : Option (List ℕ)) → made ≡ [] → rest ≡ option_map (λ cs. made ++ cs) rest
none_read made None none = refl
none_read made (Some cs) none = ap (λ xs. Some (xs ++ cs)) (sym none)

one_read : (made : List ℕ) (c : ℕ) (rest : Option (List ℕ))
    → option_map (λ cs. made ++ cs) (option_map (λ cs. c ∷ cs) rest) ≡ option_map (λ cs. (made ++ c ∷ []) ++ cs) rest
one_read made c None = refl
one_read made c (Some cs) = ap Some (sym (append_assoc made (c ∷ []) cs))

pub loop-character-init : goal.loop-character-init
loop-character-init c = none_read c.new-made.result.items (characters_behind c.args.text.now) c.new-made.ensures.items

pub loop-character-smaller : goal.loop-character-smaller
loop-character-smaller c = c.in-Some.ensures.fewer

pub loop-character-preserved : goal.loop-character-preserved
loop-character-preserved c =
    let made = c.loop-character.made.items in
    let rest = characters_behind c.in-Some.more.now in
    c.loop-character.invariant
    ∙ ap (option_map (λ cs. made ++ cs)) c.in-Some.ensures.is
    ∙ one_read made c.in-Some.character rest
    ∙ ap (λ xs. option_map (λ cs. xs ++ cs) rest) (sym c.in_ok-push.ensures.items)

pub returns-then-closes : goal.returns-then-closes
returns-then-closes c =
    let made = c.loop-character.made.items in
    sym (c.loop-character.invariant
    ∙ ap (option_map (λ cs. made ++ cs)) (c.in_default.ensures ∙ c.if-closes.ensures)
    ∙ ap Some (append-nil made))

pub returns-else-closes : goal.returns-else-closes
returns-else-closes c =
    sym (c.loop-character.invariant
    ∙ ap (option_map (λ cs. c.loop-character.made.items ++ cs)) (c.in_default.ensures ∙ c.if-closes.ensures))
