-- The walk over an expression and its entries, form by form.
use Rattle.std.proofs.Common.{rules, ◌≡◌, ◌∙◌, ap, ap₂, refl, Bool, ◌&&◌, ◌||◌, ℕ, ℤ, List, [], ◌∷◌, ◌++◌, map}
use Rattle.std.specs.List.{list_all}
use Rattle.std.specs.declared.alloc.Global.{Global}
use Rattle.std.specs.declared.boxed.Box.{Box}
use Rattle.std.specs.declared.vec.Vec.{Vec}
use Rattle.types.specs.declared.form.TypeId.{TypeId}
use Rattle.typed_tree.specs.declared.tree.Access.{Access}
use Rattle.typed_tree.specs.declared.tree.Call.{Call}
use Rattle.typed_tree.specs.declared.tree.Designator.{Designator}
use Rattle.typed_tree.specs.declared.tree.Expr.{Expr}
use Rattle.typed_tree.specs.declared.tree.Expr.TheVariants as expr
use Rattle.typed_tree.specs.declared.tree.Expr.TheFolds.{fold-Link, the_lemmas}
use Rattle.typed_tree.specs.declared.tree.InputTest.{InputTest}
use Rattle.typed_tree.specs.declared.tree.Link.{Link}
use Rattle.typed_tree.specs.declared.tree.Monadic.{Monadic}
use Rattle.typed_tree.specs.declared.tree.Passed.{Passed}
use Rattle.typed_tree.specs.declared.tree.Passed.TheVariants as passed
use Rattle.typed_tree.specs.declared.tree.RangeTest.{RangeTest}
use Rattle.typed_tree.specs.declared.tree.Relation.{Relation}
use Rattle.typed_tree.specs.declared.tree.Scalar.{Scalar}
use Rattle.typed_tree.specs.declared.tree.Whole.{Whole}
use Rattle.typed_tree.specs.Calls as calls
use Rattle.typed_tree.specs.Entries.{entries_of_expression, expression_entries, index_entries, joined}
use Rattle.typed_tree.specs.Entries.{link_entries}
use Rattle.typed_tree.specs.Entries.{passed_entries, whole_entries}
use Rattle.checker_state.specs.declared.value.Known.{Known}
use Rattle.checker_expressions.specs.View.{entries_of_link}
use Rattle.checker_expressions.specs.Walk as walk
use Rattle.checker_expressions.specs.Walk.{chain_noted, joins}
use Rattle.checker_expressions.specs.Walk.{◌>>=◌, combined, enter, function_walk, in_turn, index_pieces, joint_of, link_walk, operated, ordinal}
use Rattle.checker_expressions.specs.Walk.{passed_piece_of}
use Rattle.checker_expressions.specs.Walk.{piece_of, related_walk, set_walk, value_passed, value_walk, variable_passed, variable_walk, whole_passed, whole_walk}
use Rattle.checker_expressions.proofs.Forms.{passed-holds}

-- ---- the walk

pub value-Variable : (access : Access) (indexes : Vec Expr Global) (holds : Scalar) (defined : ℕ)
    → value_walk (expr.Variable access indexes holds defined) ≡ variable_walk holds access (index_pieces indexes.items) defined
value-Variable access indexes holds defined = search (rules, the_lemmas)

pub value-Set : (number : ℕ) (designators : Vec Designator Global) (members : Vec Expr Global)
    → value_walk (expr.Set number designators members) ≡ set_walk number designators.items (index_pieces members.items)
value-Set number designators members = search (rules, the_lemmas)

pub value-Monadic : (number : ℕ) (operation : Monadic) (operand : Box Expr Global)
    → value_walk (expr.Monadic number operation operand) ≡ (enter number >>= λ _. (value_walk operand.value >>= operated operation))
value-Monadic number operation operand = search (rules, the_lemmas)

combinations : (links : List Link) → map (λ joint. joint.combination) (map joint_of links) ≡ map link_walk links
combinations [] = refl
combinations (link ∷ links) = ap (λ walks. link_walk link ∷ walks) (combinations links)

chain-rolls : (first : Box Expr Global) (rest : Vec Link Global)
    → value_walk (expr.Chain first rest)
    ≡ (value_walk first.value >>= in_turn (map (λ joint. joint.combination) (map joint_of rest.items)))
chain-rolls first rest = search (rules, the_lemmas)

pub value-Chain : (first : Box Expr Global) (rest : Vec Link Global)
    → value_walk (expr.Chain first rest) ≡ (value_walk first.value >>= in_turn (map link_walk rest.items))
value-Chain first rest = chain-rolls first rest ∙ ap (λ links. value_walk first.value >>= in_turn links) (combinations rest.items)

pub link-walks : (link : Link) → link_walk link ≡ (λ (left : Known). enter link.number >>= λ _. (value_walk link.operand >>= combined link.operation left))
link-walks link = search (rules, the_lemmas)

pub value-Compare : (number : ℕ) (relation : Relation) (left : Whole) (left_indexes : Vec Expr Global) (right : Whole) (right_indexes : Vec Expr Global)
    → value_walk (expr.Compare number relation left left_indexes right right_indexes)
    ≡ (whole_walk left (index_pieces left_indexes.items) >>= λ _. related_walk number right (index_pieces right_indexes.items))
value-Compare number relation left left_indexes right right_indexes = search (rules, the_lemmas)

pub value-Call : (call : Call) (actuals : Vec Passed Global)
    → value_walk (expr.Call call actuals) ≡ function_walk call (map passed_piece_of actuals.items)
value-Call call actuals = search (rules, the_lemmas)

pub passed-Value : (value : Expr) (fits : RangeTest)
    → (passed_piece_of (passed.Value value fits)).walk ≡ value_passed (piece_of value) fits
passed-Value value fits = search (rules, the_lemmas)

pub passed-Whole : (type_id : TypeId) (value : Whole) (indexes : Vec Expr Global)
    → (passed_piece_of (passed.Whole type_id value indexes)).walk ≡ whole_passed value (index_pieces indexes.items)
passed-Whole type_id value indexes = search (rules, the_lemmas)

pub passed-Reference : (type_id : TypeId) (access : Access) (indexes : Vec Expr Global)
    → (passed_piece_of (passed.Reference type_id access indexes)).walk ≡ variable_passed access (index_pieces indexes.items)
passed-Reference type_id access indexes = search (rules, the_lemmas)

-- whether one of the actual parameters of a call holds a call
pub actuals-hold : (actuals : List Passed) → walk.actuals_hold_call (map passed_piece_of actuals) ≡ calls.actuals_hold_call actuals
actuals-hold [] = refl
actuals-hold (one ∷ more) = ap₂ (λ a b. a || b) (passed-holds one) (actuals-hold more)

-- ---- what is noted

pub link-right : (link : Link) → (joint_of link).right ≡ piece_of link.operand
link-right link = search (rules, the_lemmas)

link-operation : (link : Link) → (joint_of link).operation ≡ link.operation
link-operation link = search (rules, the_lemmas)

links-join : (links : List Link) → list_all (λ joint. joins joint.operation) (map joint_of links) ≡ list_all (λ link. joins link.operation) links
links-join [] = refl
links-join (link ∷ links) = ap₂ (λ (one more : Bool). one && more) (ap joins (link-operation link)) (links-join links)

pub noted-Monadic : (number : ℕ) (operation : Monadic) (operand : Box Expr Global)
    → (piece_of (expr.Monadic number operation operand)).noted ≡ (piece_of operand.value).noted
noted-Monadic number operation operand = search (rules, the_lemmas)

noted-chain : (first : Box Expr Global) (rest : Vec Link Global)
    → (piece_of (expr.Chain first rest)).noted
    ≡ chain_noted (list_all (λ joint. joins joint.operation) (map joint_of rest.items)) (piece_of first.value) (map joint_of rest.items)
noted-chain first rest = search (rules, the_lemmas)

pub noted-Chain : (first : Box Expr Global) (rest : Vec Link Global)
    → (piece_of (expr.Chain first rest)).noted
    ≡ chain_noted (list_all (λ link. joins link.operation) rest.items) (piece_of first.value) (map joint_of rest.items)
noted-Chain first rest =
    noted-chain first rest ∙ ap (λ (inside : Bool). chain_noted inside (piece_of first.value) (map joint_of rest.items)) (links-join rest.items)

pub noted-Constant : (number : ℕ) (value : ℤ) → (piece_of (expr.Constant number value)).noted ≡ (λ context state. [])
noted-Constant number value = search (rules, the_lemmas)

pub noted-Variable : (access : Access) (indexes : Vec Expr Global) (holds : Scalar) (defined : ℕ)
    → (piece_of (expr.Variable access indexes holds defined)).noted ≡ (λ context state. [])
noted-Variable access indexes holds defined = search (rules, the_lemmas)

pub noted-Set : (number : ℕ) (designators : Vec Designator Global) (members : Vec Expr Global)
    → (piece_of (expr.Set number designators members)).noted ≡ (λ context state. [])
noted-Set number designators members = search (rules, the_lemmas)

pub noted-Compare : (number : ℕ) (relation : Relation) (left : Whole) (left_indexes : Vec Expr Global) (right : Whole) (right_indexes : Vec Expr Global)
    → (piece_of (expr.Compare number relation left left_indexes right right_indexes)).noted ≡ (λ context state. [])
noted-Compare number relation left left_indexes right right_indexes = search (rules, the_lemmas)

pub noted-Call : (call : Call) (actuals : Vec Passed Global) → (piece_of (expr.Call call actuals)).noted ≡ (λ context state. [])
noted-Call call actuals = search (rules, the_lemmas)

pub noted-Input : (number : ℕ) (asks : InputTest) → (piece_of (expr.Input number asks)).noted ≡ (λ context state. [])
noted-Input number asks = search (rules, the_lemmas)

-- ---- the entries

abbrev folded : Link → List ℕ
folded = fold-Link (List ℕ) (List ℕ) (List ℕ) expression_entries passed_entries link_entries

link-rolls : (link : Link) → folded link ≡ entries_of_link link
link-rolls link = search (rules, the_lemmas)

links-roll : (links : List Link) → joined (map folded links) ≡ joined (map entries_of_link links)
links-roll [] = refl
links-roll (link ∷ links) = ap₂ (λ (one more : List ℕ). one ++ more) (link-rolls link) (links-roll links)

entries-chain : (first : Box Expr Global) (rest : Vec Link Global)
    → entries_of_expression (expr.Chain first rest) ≡ entries_of_expression first.value ++ joined (map folded rest.items)
entries-chain first rest = search (rules, the_lemmas)

pub entries-Chain : (first : Box Expr Global) (rest : Vec Link Global)
    → entries_of_expression (expr.Chain first rest) ≡ entries_of_expression first.value ++ joined (map entries_of_link rest.items)
entries-Chain first rest =
    entries-chain first rest ∙ ap (λ (more : List ℕ). entries_of_expression first.value ++ more) (links-roll rest.items)

pub entries-Compare : (number : ℕ) (relation : Relation) (left : Whole) (left_indexes : Vec Expr Global) (right : Whole) (right_indexes : Vec Expr Global)
    → entries_of_expression (expr.Compare number relation left left_indexes right right_indexes)
    ≡ whole_entries left (index_entries left_indexes.items) ++ (number ∷ whole_entries right (index_entries right_indexes.items))
entries-Compare number relation left left_indexes right right_indexes = search (rules, the_lemmas)
