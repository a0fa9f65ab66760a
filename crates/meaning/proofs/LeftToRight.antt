-- A chain of operators is calculated from left to right.
use Rattle.std.proofs.Common.{◌≡◌, List, [], ◌∷◌, ◌++◌, Box, Vec, Global, map, sym, ◌∙◌, ap, refl}
use Rattle.typed_tree.specs.declared.tree.Expr.{Expr}
use Rattle.typed_tree.specs.declared.tree.Link.{Link}
use Rattle.typed_tree.specs.declared.tree.Expr.TheVariants.{Chain}
use Rattle.meaning.specs.declared.outcome.Ending.{Ending}
use Rattle.meaning.specs.declared.value.Value.{Value}
use Rattle.meaning.specs.Effect.{State, Reply, Stops, and_then}
use Rattle.meaning.specs.Meaning.{Surroundings, in_turn, value_of, link_of}
use Rattle.meaning.proofs.Expressions.{value-Chain}
use Rattle.meaning.proofs.Replies.{and_then-and_then, and_then-same}

-- some operators, and then more of them
in_turn-more : (links more : List Link) (env : Surroundings) (v : Value) (s : State) →
    in_turn (map link_of (links ++ more)) env v s ≡ and_then (in_turn (map link_of links) env v s) (λ w. in_turn (map link_of more) env w)
in_turn-more [] more env v s = refl
in_turn-more (link ∷ links) more env v s =
    and_then-same (link_of link env v s) _ _ (λ w t. in_turn-more links more env w t)
    ∙ sym (and_then-and_then (link_of link env v s) (λ w. in_turn (map link_of links) env w) (λ w. in_turn (map link_of more) env w))

-- a longer chain begins as the shorter one
longer_chain : (first : Box Expr Global) (rest longer : Vec Link Global) (more : List Link) (env : Surroundings) (s : State) →
    longer.items ≡ rest.items ++ more →
    value_of (Chain first longer) env s ≡ and_then (value_of (Chain first rest) env s) (λ w. in_turn (map link_of more) env w)
longer_chain first rest longer more env s is =
    ap (λ f. f s) (value-Chain first longer env)
    ∙ ap (λ (l : List Link). and_then (value_of first.value env s) (λ v. in_turn (map link_of l) env v)) is
    ∙ and_then-same (value_of first.value env s) _ _ (λ v t. in_turn-more rest.items more env v t)
    ∙ sym (and_then-and_then (value_of first.value env s) (λ v. in_turn (map link_of rest.items) env v) (λ w. in_turn (map link_of more) env w))
    ∙ ap (λ f. and_then (f s) (λ w. in_turn (map link_of more) env w)) (sym (value-Chain first rest env))

pub stops_on_the_left : (first : Box Expr Global) (rest longer : Vec Link Global) (more : List Link) (env : Surroundings) (s t : State) (end : Ending) →
    longer.items ≡ rest.items ++ more → value_of (Chain first rest) env s ≡ Stops end t → value_of (Chain first longer) env s ≡ Stops end t
stops_on_the_left first rest longer more env s t end is stopped =
    longer_chain first rest longer more env s is ∙ ap (λ (r : Reply Value). and_then r (λ w. in_turn (map link_of more) env w)) stopped
