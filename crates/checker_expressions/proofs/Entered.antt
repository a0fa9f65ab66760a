-- The walk over an expression links a state to each of its entries, once and in their order.
use Rattle.std.proofs.Common.{◌≡◌, ◌∙◌, sym, ap, ap₂, refl, ℕ, List, [], ◌∷◌, ◌++◌, Option, Some, None, map, append-nil}
use Rattle.std.proofs.lemmas.List.{map-append}
use Rattle.typed_tree.specs.declared.tree.Monadic.{Monadic}
use Rattle.typed_tree.specs.declared.tree.Monadic.TheVariants as monadic
use Rattle.typed_tree.specs.declared.tree.Dyadic.{Dyadic}
use Rattle.typed_tree.specs.declared.tree.Dyadic.TheVariants as dyadic
use Rattle.typed_tree.specs.declared.tree.Designator.{Designator}
use Rattle.typed_tree.specs.declared.tree.Designator.TheVariants.{Single, Range}
use Rattle.typed_tree.specs.declared.tree.Width.{Width}
use Rattle.typed_tree.specs.declared.tree.WriteParameter.{WriteParameter}
use Rattle.typed_tree.specs.declared.tree.Written.{Written}
use Rattle.typed_tree.specs.declared.tree.Written.TheVariants as written
use Rattle.typed_tree.specs.declared.tree.Whole.{Whole}
use Rattle.typed_tree.specs.declared.tree.Whole.TheVariants.{Text, Variable as VariableOf}
use Rattle.typed_tree.specs.declared.tree.Access.{Access}
use Rattle.typed_tree.specs.declared.tree.RangeTest.{RangeTest}
use Rattle.typed_tree.specs.declared.tree.Selector.{Selector}
use Rattle.typed_tree.specs.declared.tree.Expr.{Expr}
use Rattle.typed_tree.specs.declared.tree.Link.{Link}
use Rattle.typed_tree.specs.declared.tree.Expr.TheOpen.{Expr-F, Link-F, Passed-F}
use Rattle.typed_tree.specs.declared.tree.Expr.TheOpen.Expr-F.{Constant, Variable, Monadic as MonadicOf, Chain, Compare, Call as CallOf, Set, Input}
use Rattle.typed_tree.specs.declared.tree.Expr.TheOpen.Passed-F.{Value as PassedValue, Whole as PassedWhole, Reference}
use Rattle.typed_tree.specs.declared.tree.Expr.TheViews.{roll-Expr, roll-Link, roll-Passed}
use Rattle.typed_tree.specs.declared.tree.Call.{Call}
use Rattle.typed_tree.specs.declared.tree.FunctionResult.{FunctionResult}
use Rattle.typed_tree.specs.declared.tree.Passed.{Passed}
use Rattle.typed_tree.specs.declared.tree.Expr.TheFolds.{fold-Link, map-Expr, map-Link, map-Passed, fold-roll-Expr, fold-roll-Link, fold-roll-Passed, ind-Expr}
use Rattle.typed_tree.specs.declared.tree.Expr.TheFolds.{ind-Passed}
use Rattle.typed_tree.specs.Accesses.{origin_of}
use Rattle.typed_tree.specs.Entries.{joined, expression_entries, link_entries, entries_of_expression, entries_of_width, entries_of_parameter, access_entries}
use Rattle.typed_tree.specs.Entries.{call_entries, entries_of_passed, passed_entries, whole_entries}
use Rattle.typed_tree.specs.Entries.{entries_of_written, index_entries}
use Rattle.domain.specs.Interval.{Interval}
use Rattle.meaning.specs.Meaning.{overflow_of, overflow_of_both}
use Rattle.checker_state.specs.declared.value.Known.{Known}
use Rattle.checker_state.specs.Values.{known_range}
use Rattle.checker_state.specs.Stores.{Reach}
use Rattle.checker_state.specs.State.{State}
use Rattle.checker_expressions.specs.Walk.{Context, Joint, Linked, Piece, Walking, Combination, numbers_of, calculated, calculated_both, combined, divides}
use Rattle.checker_expressions.specs.Walk.{Gathering, gathered, gathered_by, members_walk, none_gathered, of_both, operated, reach_at, unless_overflow}
use Rattle.checker_expressions.specs.Walk.{width_test}
use Rattle.checker_expressions.specs.Walk.{PassedPiece, actuals_walk, call_walk, called_block, fitting, form_before, passed_piece_of, passed_step, result_of}
use Rattle.checker_expressions.specs.Walk.{result_walk}
use Rattle.checker_expressions.specs.Walk.{piece_step, link_step, piece_of, joint_of, value_walk}
use Rattle.checker_expressions.specs.Walk.{access_walk, behind_next, deeper, index_test, index_pieces, indexes_walk, is_kept, link_walk, next_test, value_use}
use Rattle.checker_expressions.specs.Walk.{whole_walk, width_walk}
use Rattle.checker_expressions.specs.Walk.{written_walk, parameter_walk, in_turn}

-- a walk links states to these, in whatever context and from whatever state
abbrev pub Enters : {A : Type 0} → Walking A → List ℕ → Type 0
Enters walk numbers = (context : Context) (state : State) → numbers_of (walk context state).linked ≡ numbers

abbrev EntersFrom : Combination → List ℕ → Type 0
EntersFrom walk numbers = (left : Known) → Enters (walk left) numbers

abbrev entries_of_link : Link → List ℕ
entries_of_link = fold-Link (List ℕ) (List ℕ) (List ℕ) expression_entries passed_entries link_entries

abbrev EnteredExpr : Type 0
EnteredExpr = (e : Expr) × Enters (value_walk e) (entries_of_expression e)

abbrev EnteredPassed : Type 0
EnteredPassed = (p : Passed) × Enters (passed_piece_of p).walk (entries_of_passed p)

abbrev EnteredLink : Type 0
EnteredLink = (l : Link) × EntersFrom (link_walk l) (entries_of_link l)

pub and_then : (first second : List Linked) (xs ys : List ℕ) → numbers_of first ≡ xs → numbers_of second ≡ ys → numbers_of (first ++ second) ≡ xs ++ ys
and_then first second xs ys a b = map-append (λ (one : Linked). one.number) first second ∙ ap₂ (λ x y. x ++ y) a b

pub and_no_more : (first second : List Linked) (xs : List ℕ) → numbers_of first ≡ xs → numbers_of second ≡ [] → numbers_of (first ++ second) ≡ xs
and_no_more first second xs a b = and_then first second xs [] a b ∙ append-nil xs

-- an operation itself enters nothing, nor does what it is made of
unless-silent : (overflow : Option ℕ) (range : Interval) → Enters (unless_overflow overflow range) []
unless-silent None range context state = refl
unless-silent (Some site) range context state = refl

operated-silent : (operation : Monadic) (known : Known) → Enters (operated operation known) []
operated-silent (monadic.Plain does) known context state = unless-silent (overflow_of does) (calculated does (known_range known)) context state
operated-silent (monadic.Tested fits does) known context state = refl

divides-silent : (operation : Dyadic) (range : Interval) → Enters (divides operation range) []
divides-silent (dyadic.Plus overflow) range context state = refl
divides-silent (dyadic.Minus overflow) range context state = refl
divides-silent (dyadic.Times overflow) range context state = refl
divides-silent (dyadic.Div by_zero) range context state = refl
divides-silent (dyadic.Mod by_zero_or_less) range context state = refl
divides-silent dyadic.And range context state = refl
divides-silent dyadic.Or range context state = refl
divides-silent (dyadic.Relation relation) range context state = refl
divides-silent dyadic.Union range context state = refl
divides-silent dyadic.Difference range context state = refl
divides-silent dyadic.Intersection range context state = refl
divides-silent (dyadic.SetRelation relation) range context state = refl
divides-silent dyadic.In range context state = refl

both-silent : (operation : Dyadic) (left right : Interval) → Enters (calculated_both operation left right) []
both-silent operation left right context state =
    let first = divides operation right context state in
    let second = unless_overflow (overflow_of_both operation) (of_both operation left first.value) context first.after in
    and_no_more first.linked second.linked [] (divides-silent operation right context state)
    (unless-silent (overflow_of_both operation) (of_both operation left first.value) context first.after)

combined-silent : (operation : Dyadic) (left right : Known) → Enters (combined operation left right) []
combined-silent (dyadic.Plus overflow) left right = both-silent (dyadic.Plus overflow) (known_range left) (known_range right)
combined-silent (dyadic.Minus overflow) left right = both-silent (dyadic.Minus overflow) (known_range left) (known_range right)
combined-silent (dyadic.Times overflow) left right = both-silent (dyadic.Times overflow) (known_range left) (known_range right)
combined-silent (dyadic.Div by_zero) left right = both-silent (dyadic.Div by_zero) (known_range left) (known_range right)
combined-silent (dyadic.Mod by_zero_or_less) left right = both-silent (dyadic.Mod by_zero_or_less) (known_range left) (known_range right)
combined-silent dyadic.And left right = both-silent dyadic.And (known_range left) (known_range right)
combined-silent dyadic.Or left right = both-silent dyadic.Or (known_range left) (known_range right)
combined-silent (dyadic.Relation relation) left right = both-silent (dyadic.Relation relation) (known_range left) (known_range right)
combined-silent dyadic.Union left right = λ context state. refl
combined-silent dyadic.Difference left right = λ context state. refl
combined-silent dyadic.Intersection left right = λ context state. refl
combined-silent (dyadic.SetRelation relation) left right = λ context state. refl
combined-silent dyadic.In left right = λ context state. refl

-- the walks of operators with their operands
abbrev combinations : List EnteredLink → List Combination
combinations links = map (λ joint. joint.combination) (map joint_of (map (λ l. l.0) links))

turns-entered : (links : List EnteredLink) → EntersFrom (in_turn (combinations links)) (joined (map entries_of_link (map (λ l. l.0) links)))
turns-entered [] left context state = refl
turns-entered (link ∷ links) left context state =
    let first = link_walk link.0 left context state in
    let rest = in_turn (combinations links) first.value context first.after in
    and_then first.linked rest.linked _ _ (link.1 left context state) (turns-entered links first.value context first.after)

-- ---- accesses and whole values

-- index expressions link states to these
abbrev AllEnter : List Piece → List (List ℕ) → Type 0
AllEnter [] [] = Unit {0}
AllEnter (piece ∷ pieces) (numbers ∷ rows) = Enters piece.walk numbers × AllEnter pieces rows
AllEnter pieces rows = ⊥

tested-silent : (fits : Option RangeTest) (known : Known) → Enters (index_test fits known) []
tested-silent None known context state = refl
tested-silent (Some fits) known context state = refl

indexes-entered : (selectors : List Selector) (pieces : List Piece) (reach : Reach) (rows : List (List ℕ)) → AllEnter pieces rows
    → Enters (indexes_walk selectors pieces reach) (joined rows)
indexes-entered selectors [] reach [] all context state = refl
indexes-entered selectors (piece ∷ pieces) reach (numbers ∷ rows) all context state =
    let first = piece.walk context state in
    let test = index_test (next_test selectors) first.value context first.after in
    let next = deeper (is_kept context.version selectors) (record { form = form_before context piece pieces; range = test.value }) reach in
    let rest = indexes_walk (behind_next selectors) pieces next context test.after in
    and_then first.linked (test.linked ++ rest.linked) numbers (joined rows) (all.0 context state)
    (and_then test.linked rest.linked [] (joined rows) (tested-silent (next_test selectors) first.value context first.after)
    (indexes-entered (behind_next selectors) pieces next rows all.1 context test.after))
indexes-entered selectors [] reach (numbers ∷ rows) all context state = absurd all
indexes-entered selectors (piece ∷ pieces) reach [] all context state = absurd all

access-of : (access : Access) (pieces : List Piece) (rows : List (List ℕ)) → AllEnter pieces rows
    → Enters (access_walk access pieces) (access_entries access rows)
access-of access pieces rows all context state =
    ap (λ (numbers : List ℕ). access.number ∷ numbers)
    (indexes-entered access.selectors.items pieces (reach_at (origin_of access)) rows all context state)

-- member expressions link states to these, and what becomes of their values enters nothing
gathered-silent : (left : List Designator) (first : Option Interval) (range hull : Interval) → Enters (gathered_by left first range hull) []
gathered-silent [] first range hull context state = refl
gathered-silent (Single site ∷ left) first range hull context state = refl
gathered-silent (Range site ∷ left) None range hull context state = refl
gathered-silent (Range site ∷ left) (Some first) range hull context state = refl

members-entered : (pieces : List Piece) (gathering : Gathering) (rows : List (List ℕ)) → AllEnter pieces rows
    → Enters (members_walk pieces gathering) (joined rows)
members-entered [] gathering [] all context state = refl
members-entered [] gathering (numbers ∷ rows) all context state = absurd all
members-entered (piece ∷ pieces) gathering [] all context state = absurd all
members-entered (piece ∷ pieces) gathering (numbers ∷ rows) all context state =
    let first = piece.walk context state in
    let range = known_range first.value in
    let more = gathered gathering range context first.after in
    let rest = members_walk pieces more.value context more.after in
    and_then first.linked (more.linked ++ rest.linked) numbers (joined rows) (all.0 context state)
    (and_then more.linked rest.linked [] (joined rows) (gathered-silent gathering.left gathering.first range gathering.hull context first.after)
    (members-entered pieces more.value rows all.1 context more.after))

whole-of : (value : Whole) (pieces : List Piece) (rows : List (List ℕ)) → AllEnter pieces rows
    → Enters (whole_walk value pieces) (whole_entries value rows)
whole-of (Text number text) pieces rows all context state = refl
whole-of (VariableOf access type_id cells defined) pieces rows all context state =
    and_no_more (access_walk access pieces context state).linked [] (access_entries access rows) (access-of access pieces rows all context state) refl

all-entered : (parts : List EnteredExpr) → AllEnter (index_pieces (map (λ e. e.0) parts)) (map entries_of_expression (map (λ e. e.0) parts))
all-entered [] = tt
all-entered (one ∷ parts) = (one.1, all-entered parts)

-- ---- calls

abbrev AllPass : List PassedPiece → List (List ℕ) → Type 0
AllPass [] [] = Unit {0}
AllPass (piece ∷ pieces) (numbers ∷ rows) = Enters piece.walk numbers × AllPass pieces rows
AllPass pieces rows = ⊥

passed-entered : (parts : List EnteredPassed) → AllPass (map passed_piece_of (map (λ p. p.0) parts)) (map entries_of_passed (map (λ p. p.0) parts))
passed-entered [] = tt
passed-entered (one ∷ parts) = (one.1, passed-entered parts)

actuals-entered : (pieces : List PassedPiece) (rows : List (List ℕ)) → AllPass pieces rows → Enters (actuals_walk pieces) (joined rows)
actuals-entered [] [] all context state = refl
actuals-entered [] (numbers ∷ rows) all context state = absurd all
actuals-entered (piece ∷ pieces) [] all context state = absurd all
actuals-entered (piece ∷ pieces) (numbers ∷ rows) all context state =
    let first = piece.walk context state in
    let rest = actuals_walk pieces context first.after in
    and_then first.linked (rest.linked ++ []) numbers (joined rows) (all.0 context state)
    (and_no_more rest.linked [] (joined rows) (actuals-entered pieces rows all.1 context first.after) refl)

-- the call itself enters nothing more, nor does its value
called-entered : (call : Call) (pieces : List PassedPiece) (rows : List (List ℕ)) → AllPass pieces rows
    → Enters (call_walk call pieces) (call_entries call rows)
called-entered call pieces rows all context state =
    ap (λ (numbers : List ℕ). call.number ∷ numbers)
    (and_no_more (actuals_walk pieces context state).linked [] (joined rows) (actuals-entered pieces rows all context state) refl)

result-silent : (call : Call) (context : Context) (state : State) (result : Option FunctionResult)
    → numbers_of (result_walk call result context state).linked ≡ []
result-silent call context state None = refl
result-silent call context state (Some result) = refl

fitting-silent : (fits : RangeTest) (known : Known) → Enters (fitting fits known) []
fitting-silent fits known context state = refl

value-parts : (y : Expr-F EnteredExpr EnteredPassed EnteredLink)
    → Enters (piece_step
    (map-Expr Expr Passed Link Piece PassedPiece Joint piece_of passed_piece_of joint_of
    (map-Expr EnteredExpr EnteredPassed EnteredLink Expr Passed Link (λ e. e.0) (λ p. p.0) (λ l. l.0) y))).walk
    (expression_entries
    (map-Expr Expr Passed Link (List ℕ) (List ℕ) (List ℕ) entries_of_expression entries_of_passed entries_of_link
    (map-Expr EnteredExpr EnteredPassed EnteredLink Expr Passed Link (λ e. e.0) (λ p. p.0) (λ l. l.0) y)))
value-parts (Constant number value) context state = refl
value-parts (Input number asks) context state = refl
value-parts (Variable access indexes holds defined) context state =
    let pieces = index_pieces (map (λ (e : EnteredExpr). e.0) indexes.items) in
    let rows = map entries_of_expression (map (λ (e : EnteredExpr). e.0) indexes.items) in
    let begun = access_walk access pieces context state in
    let used = value_use holds (origin_of access) access.selectors.items begun.value defined context begun.after in
    and_no_more begun.linked used.linked (access_entries access rows) (access-of access pieces rows (all-entered indexes.items) context state) refl
value-parts (Set number designators members) context state =
    let pieces = index_pieces (map (λ (e : EnteredExpr). e.0) members.items) in
    let rows = map entries_of_expression (map (λ (e : EnteredExpr). e.0) members.items) in
    let gathering = none_gathered designators.items in
    ap (λ (numbers : List ℕ). number ∷ numbers)
    (and_no_more (members_walk pieces gathering context state).linked [] (joined rows)
    (members-entered pieces gathering rows (all-entered members.items) context state) refl)
value-parts (MonadicOf number operation operand) context state =
    let begun = value_walk operand.value.0 context state in
    let after = operated operation begun.value context begun.after in
    ap (λ numbers. number ∷ numbers) (and_no_more begun.linked after.linked _ (operand.value.1 context state)
    (operated-silent operation begun.value context begun.after))
value-parts (Chain first rest) context state =
    let begun = value_walk first.value.0 context state in
    let after = in_turn (combinations rest.items) begun.value context begun.after in
    and_then begun.linked after.linked _ _ (first.value.1 context state) (turns-entered rest.items begun.value context begun.after)
value-parts (Compare number relation left left_indexes right right_indexes) context state =
    let pieces = index_pieces (map (λ (e : EnteredExpr). e.0) left_indexes.items) in
    let rows = map entries_of_expression (map (λ (e : EnteredExpr). e.0) left_indexes.items) in
    let right_pieces = index_pieces (map (λ (e : EnteredExpr). e.0) right_indexes.items) in
    let right_rows = map entries_of_expression (map (λ (e : EnteredExpr). e.0) right_indexes.items) in
    let begun = whole_walk left pieces context state in
    let end = whole_walk right right_pieces context begun.after in
    and_then begun.linked (record { number = number; state = begun.after } ∷ (end.linked ++ [])) (whole_entries left rows)
    (number ∷ whole_entries right right_rows) (whole-of left pieces rows (all-entered left_indexes.items) context state)
    (ap (λ (numbers : List ℕ). number ∷ numbers) (and_no_more end.linked [] (whole_entries right right_rows)
    (whole-of right right_pieces right_rows (all-entered right_indexes.items) context begun.after) refl))
value-parts (CallOf call actuals) context state =
    let passed = map (λ (p : EnteredPassed). p.0) actuals.items in
    let begun = call_walk call (map passed_piece_of passed) context state in
    let result = result_of (called_block context call) in
    and_no_more begun.linked (result_walk call result context begun.after).linked (call_entries call (map entries_of_passed passed))
    (called-entered call (map passed_piece_of passed) (map entries_of_passed passed) (passed-entered actuals.items) context state)
    (result-silent call context begun.after result)

passed-parts : (y : Passed-F EnteredExpr EnteredPassed EnteredLink)
    → Enters (passed_step
    (map-Passed Expr Passed Link Piece PassedPiece Joint piece_of passed_piece_of joint_of
    (map-Passed EnteredExpr EnteredPassed EnteredLink Expr Passed Link (λ e. e.0) (λ p. p.0) (λ l. l.0) y))).walk
    (passed_entries
    (map-Passed Expr Passed Link (List ℕ) (List ℕ) (List ℕ) entries_of_expression entries_of_passed entries_of_link
    (map-Passed EnteredExpr EnteredPassed EnteredLink Expr Passed Link (λ e. e.0) (λ p. p.0) (λ l. l.0) y)))
passed-parts (PassedValue value fits) context state =
    let begun = value_walk value.0 context state in
    let tested = fitting fits begun.value context begun.after in
    and_no_more begun.linked (tested.linked ++ []) (entries_of_expression value.0) (value.1 context state)
    (and_no_more tested.linked [] [] (fitting-silent fits begun.value context begun.after) refl)
passed-parts (PassedWhole type_id value indexes) context state =
    let pieces = index_pieces (map (λ (e : EnteredExpr). e.0) indexes.items) in
    let rows = map entries_of_expression (map (λ (e : EnteredExpr). e.0) indexes.items) in
    and_no_more (whole_walk value pieces context state).linked [] (whole_entries value rows)
    (whole-of value pieces rows (all-entered indexes.items) context state) refl
passed-parts (Reference type_id access indexes) context state =
    let pieces = index_pieces (map (λ (e : EnteredExpr). e.0) indexes.items) in
    let rows = map entries_of_expression (map (λ (e : EnteredExpr). e.0) indexes.items) in
    and_no_more (access_walk access pieces context state).linked [] (access_entries access rows)
    (access-of access pieces rows (all-entered indexes.items) context state) refl

link-parts : (y : Link-F EnteredExpr EnteredPassed EnteredLink)
    → EntersFrom
    (link_step (map-Link Expr Passed Link Piece PassedPiece Joint piece_of passed_piece_of joint_of
    (map-Link EnteredExpr EnteredPassed EnteredLink Expr Passed Link (λ e. e.0) (λ p. p.0) (λ l. l.0) y))).combination
    (link_entries
    (map-Link Expr Passed Link (List ℕ) (List ℕ) (List ℕ) entries_of_expression entries_of_passed entries_of_link
    (map-Link EnteredExpr EnteredPassed EnteredLink Expr Passed Link (λ e. e.0) (λ p. p.0) (λ l. l.0) y)))
link-parts y left context state =
    let begun = value_walk y.operand.0 context state in
    let after = combined y.operation left begun.value context begun.after in
    ap (λ numbers. y.number ∷ numbers) (and_no_more begun.linked after.linked _ (y.operand.1 context state)
    (combined-silent y.operation left begun.value context begun.after))

-- the layers of the three, from their folds
value-layer : (x : Expr-F Expr Passed Link) (y : Expr-F EnteredExpr EnteredPassed EnteredLink)
    → map-Expr EnteredExpr EnteredPassed EnteredLink Expr Passed Link (λ e. e.0) (λ p. p.0) (λ l. l.0) y ≡ x
    → Enters (value_walk (roll-Expr x)) (entries_of_expression (roll-Expr x))
value-layer x y is context state =
    ap (λ (piece : Piece). numbers_of (piece.walk context state).linked)
    (fold-roll-Expr Piece PassedPiece Joint piece_step passed_step link_step x
    ∙ ap (λ z. piece_step (map-Expr Expr Passed Link Piece PassedPiece Joint piece_of passed_piece_of joint_of z)) (sym is))
    ∙ value-parts y context state
    ∙ ap (λ z. expression_entries (map-Expr Expr Passed Link (List ℕ) (List ℕ) (List ℕ) entries_of_expression entries_of_passed entries_of_link z)) is
    ∙ sym (fold-roll-Expr (List ℕ) (List ℕ) (List ℕ) expression_entries passed_entries link_entries x)

passed-layer : (x : Passed-F Expr Passed Link) (y : Passed-F EnteredExpr EnteredPassed EnteredLink)
    → map-Passed EnteredExpr EnteredPassed EnteredLink Expr Passed Link (λ e. e.0) (λ p. p.0) (λ l. l.0) y ≡ x
    → Enters (passed_piece_of (roll-Passed x)).walk (entries_of_passed (roll-Passed x))
passed-layer x y is context state =
    ap (λ (piece : PassedPiece). numbers_of (piece.walk context state).linked)
    (fold-roll-Passed Piece PassedPiece Joint piece_step passed_step link_step x
    ∙ ap (λ z. passed_step (map-Passed Expr Passed Link Piece PassedPiece Joint piece_of passed_piece_of joint_of z)) (sym is))
    ∙ passed-parts y context state
    ∙ ap (λ z. passed_entries (map-Passed Expr Passed Link (List ℕ) (List ℕ) (List ℕ) entries_of_expression entries_of_passed entries_of_link z)) is
    ∙ sym (fold-roll-Passed (List ℕ) (List ℕ) (List ℕ) expression_entries passed_entries link_entries x)

link-layer : (x : Link-F Expr Passed Link) (y : Link-F EnteredExpr EnteredPassed EnteredLink)
    → map-Link EnteredExpr EnteredPassed EnteredLink Expr Passed Link (λ e. e.0) (λ p. p.0) (λ l. l.0) y ≡ x
    → EntersFrom (link_walk (roll-Link x)) (entries_of_link (roll-Link x))
link-layer x y is left context state =
    ap (λ (joint : Joint). numbers_of (joint.combination left context state).linked)
    (fold-roll-Link Piece PassedPiece Joint piece_step passed_step link_step x
    ∙ ap (λ z. link_step (map-Link Expr Passed Link Piece PassedPiece Joint piece_of passed_piece_of joint_of z)) (sym is))
    ∙ link-parts y left context state
    ∙ ap (λ z. link_entries (map-Link Expr Passed Link (List ℕ) (List ℕ) (List ℕ) entries_of_expression entries_of_passed entries_of_link z)) is
    ∙ sym (fold-roll-Link (List ℕ) (List ℕ) (List ℕ) expression_entries passed_entries link_entries x)

-- the walk over an expression enters its entries
pub value-entered : (e : Expr) → Enters (value_walk e) (entries_of_expression e)
value-entered =
    ind-Expr (λ e. Enters (value_walk e) (entries_of_expression e)) (λ p. Enters (passed_piece_of p).walk (entries_of_passed p))
    (λ l. EntersFrom (link_walk l) (entries_of_link l)) value-layer passed-layer link-layer

pub actual-entered : (p : Passed) → Enters (passed_piece_of p).walk (entries_of_passed p)
actual-entered =
    ind-Passed (λ e. Enters (value_walk e) (entries_of_expression e)) (λ p. Enters (passed_piece_of p).walk (entries_of_passed p))
    (λ l. EntersFrom (link_walk l) (entries_of_link l)) value-layer passed-layer link-layer

all-actual : (actuals : List Passed) → AllPass (map passed_piece_of actuals) (map entries_of_passed actuals)
all-actual [] = tt
all-actual (actual ∷ actuals) = (actual-entered actual, all-actual actuals)

-- the walk over a call enters it and its actual parameters
pub call-entered : (call : Call) (actuals : List Passed)
    → Enters (call_walk call (map passed_piece_of actuals)) (call_entries call (map entries_of_passed actuals))
call-entered call actuals = called-entered call (map passed_piece_of actuals) (map entries_of_passed actuals) (all-actual actuals)

test-silent : (site : ℕ) (known : Known) → Enters (width_test site known) []
test-silent site known context state = refl

width-entered : (width : Option Width) → Enters (width_walk width) (entries_of_width width)
width-entered None context state = refl
width-entered (Some width) context state =
    let first = value_walk width.value context state in
    let test = width_test width.site first.value context first.after in
    and_no_more first.linked test.linked _ (value-entered width.value context state) (test-silent width.site first.value context first.after)

all-entered_of : (indexes : List Expr) → AllEnter (index_pieces indexes) (index_entries indexes)
all-entered_of [] = tt
all-entered_of (index ∷ indexes) = (value-entered index, all-entered_of indexes)

-- an access, and a whole value
pub access-entered : (access : Access) (indexes : List Expr)
    → Enters (access_walk access (index_pieces indexes)) (access_entries access (index_entries indexes))
access-entered access indexes = access-of access (index_pieces indexes) (index_entries indexes) (all-entered_of indexes)

pub whole-entered : (value : Whole) (indexes : List Expr) → Enters (whole_walk value (index_pieces indexes)) (whole_entries value (index_entries indexes))
whole-entered value indexes = whole-of value (index_pieces indexes) (index_entries indexes) (all-entered_of indexes)

-- a value that is written, and its width
written-entered : (value : Written) → Enters (written_walk value) (entries_of_written value)
written-entered (written.Ordinal value representation) context state =
    and_no_more (value_walk value context state).linked [] _ (value-entered value context state) refl
written-entered (written.String value indexes) context state =
    and_no_more (whole_walk value (index_pieces indexes.items) context state).linked [] _ (whole-entered value indexes.items context state) refl

pub parameter-entered : (parameter : WriteParameter) → Enters (parameter_walk parameter) (entries_of_parameter parameter)
parameter-entered parameter context state =
    let first = written_walk parameter.value context state in
    let width = width_walk parameter.width context first.after in
    and_then first.linked width.linked _ _ (written-entered parameter.value context state) (width-entered parameter.width context first.after)
