use Rattle.std.proofs.Common.{rules, ◌≡◌, ℕ, ◌+◌, false, List, [], ◌∷◌, ◌++◌, map, max, ap, ◌∙◌, sym, refl, drop, arith}
use Rattle.std.proofs.lemmas.List.{drop_all, take_all}
use Rattle.std.specs.Prelude.{fold, pos}
use Rattle.std.specs.List.{flat_map}
use Rattle.pcode_assembler.specs.declared.instr.Instr.{Instr}
use Rattle.pcode_assembler.specs.declared.instr.Instr.TheVariants as instr
use Rattle.typed_tree.specs.declared.tree.Relation.{Relation}
use Rattle.typed_tree.specs.declared.tree.Selector.{Selector}
use Rattle.typed_tree.specs.declared.tree.Selector.TheVariants.{Element, Field}
use Rattle.code_scheme.specs.declared.routine.Routine.{Routine}
use Rattle.code_scheme.specs.Scopes.{called_routine, links_to, row_length, selectors_from}
use Rattle.code_scheme.specs.Code.{expr_code, index_codes, link_code, monadic_code, passed_code, relation_instr, selectors_code, whole_code}
use Rattle.code_scheme.specs.Depth.{access_depth, actuals_depth, expr_depth, index_depths, link_depth, passed_depth}
use Rattle.code_scheme.specs.Sizes.{capped}
use Rattle.code_scheme.proofs.Depths.{address_takes_one}
use Rattle.code_scheme.proofs.Pieces.{depth_alike, expr_code-Chain, expr_code-Compare, expr_code-Monadic, expr_depth-Chain, joined-map}
use Rattle.code_emitter.proofs.Emitted.{gets_is, gets_then, left_all, left_each, left_first, left_none, next_of}
use Rattle.code_emitter.proofs.Walking.{at_place, walked_as, walked_element, walked_field, walked_without}
use Rattle.code_emitter.proofs.Reaching.{from_needs}
use Rattle.code_emitter.proofs.expression.+emit_expr.Goals.{emit_selectors-in-Field, emit_selectors-in-Element+in-Some, emit_selectors-in-Element+in_default}
use Rattle.code_emitter.proofs.expression.+emit_expr.Goals.{emit_designators-in-Single, emit_designators-in-Range+in-Some-get}
use Rattle.typed_tree.specs.declared.tree.Designator.{Designator}
use Rattle.typed_tree.specs.declared.tree.Designator.TheVariants as designator
use Rattle.code_scheme.specs.Code.{designators_code}
use Rattle.code_scheme.specs.Depth.{designators_depth}
use Rattle.code_scheme.proofs.Depths.{set_takes_one}
use Rattle.code_emitter.specs.Pieces.{held_sets}
use Rattle.code_emitter.proofs.Gathering.{gathered_as, gathered_left, gathered_single, gathered_span, no_member_depths, no_members}
use Rattle.code_emitter.proofs.expression.+emit_expr.Goals as goal

-- behind two values of so many components
abbrev order_code : Relation → ℕ → List Instr
order_code r n = instr.Compare n ∷ instr.LoadConstant (pos 0) ∷ relation_instr r ∷ []

pub emit_address-returns-clause-needs : goal.emit_address-returns-clause-needs
emit_address-returns-clause-needs t c =
    let refers = c.begun-refers.result.refers in
    let depths = index_depths c.args.indexes.now in
    c.emit_selectors.ensures.needs
    ∙ ap (λ selectors. capped (access_depth selectors depths)) (c.selectors_from-selectors.ensures ∙ ap (selectors_from refers) c.as_slice.ensures.value)
    ∙ ap capped (from_needs refers c.args.access.now.selectors.items depths)

pub emit_call-loop-actual-preserved : goal.emit_call-loop-actual-preserved
emit_call-loop-actual-preserved t c =
    let actuals = c.args.actuals.now in
    let i = c.loop-actual.actual-index in
    let actual = c.actual-item.result in
    let held = c.loop-actual.held in
    let rest = map passed_depth (drop (i + 1) actuals) in
    let here : actuals_depth held (map passed_depth (drop i actuals)) ≡ max (held + (passed_depth actual).depth)
    (actuals_depth (held + (passed_depth actual).cells) rest) =
    ap (λ ps. actuals_depth held (map passed_depth ps)) (next_of actuals i actual c.loop-actual-test.true c.actual-item.is) in
    let one = c.emit_passed.ensures.needs in
    let cells = c.cells_of_passed.ensures in
    let more = depth_alike c.saturating_add-held.result (held + (passed_depth actual).cells) rest (omega (arith, cells, c.saturating_add-held.ensures)) in
    record {
      emits = left_each (passed_code c.args.scope.now) actuals i actual c.loop-actual.invariant.emits c.loop-actual-test.true c.actual-item.is
          c.emit_passed.ensures.emits;
      deep = omega (arith, c.max-depth.ensures, c.saturating_add.ensures);
      held = omega (arith, c.saturating_add-held.ensures);
      needs = grind (
        arith,
        c.loop-actual.invariant.needs,
        c.loop-actual.invariant.deep,
        c.loop-actual.invariant.held,
        here,
        one,
        more,
        c.max-depth.ensures,
        c.saturating_add.ensures,
      );
    }

pub emit_call-returns-clause-emits : goal.emit_call-returns-clause-emits
emit_call-returns-clause-emits t c =
    let scope = c.args.scope.now in
    let actuals = c.args.actuals.now in
    let pieces = flat_map (passed_code scope) actuals in
    let all = left_all (passed_code scope) actuals c.loop-actual.actual-index c.loop-actual.invariant.emits c.loop-actual-test.false in
    let level = c.links_to-level.ensures ∙ ap (λ (r : Routine). links_to scope r.level) c.routine-routine.ensures in
    let leads = c.call_of.ensures ∙ ap (λ (r : Routine). instr.CallProcedure (row_length r.cells) r.place) c.routine-routine.ensures in
    let there = called_routine scope c.args.call.block in
    gets_is (gets_then c.put.ensures (gets_then all c.put-2.ensures))
    (ap (λ n. instr.MarkStack n ∷ (pieces ++ (c.call_of.result ∷ []))) level
    ∙ ap (λ i. instr.MarkStack (links_to scope there.level) ∷ (pieces ++ (i ∷ []))) leads
    ∙ sym (ap (λ p. instr.MarkStack (links_to scope there.level) ∷ (p ++ (instr.CallProcedure (row_length there.cells) there.place ∷ [])))
    (joined-map (passed_code scope) actuals)))

pub emit_expr-returns-in-Monadic-clause-emits : goal.emit_expr-returns-in-Monadic-clause-emits
emit_expr-returns-in-Monadic-clause-emits t c =
    let scope = c.args.scope.now in
    let operation = c.in-Monadic.operation in
    gets_is (gets_then c.emit_expr-depth.ensures.emits c.emit_monadic.ensures.emits)
    (ap (λ e. expr_code scope e ++ monadic_code operation) c.deref.ensures
    ∙ sym (ap (expr_code scope) c.in-Monadic.is ∙ expr_code-Monadic scope c.in-Monadic.number operation c.in-Monadic.operand))

pub emit_expr-returns-after-loop-link-clause-emits : goal.emit_expr-returns-after-loop-link-clause-emits
emit_expr-returns-after-loop-link-clause-emits t c =
    let scope = c.args.scope.now in
    let links = c.deref-link-items.result.now in
    let all = left_all (link_code scope) links c.loop-link.link-index c.loop-link.invariant.emits c.loop-link-test.false in
    gets_is (gets_then c.emit_expr-depth-in-Chain.ensures.emits all)
    (ap (λ e. expr_code scope e ++ flat_map (link_code scope) links) c.deref-in-Chain.ensures
    ∙ ap (λ ls. expr_code scope c.in-Chain.first.value ++ flat_map (link_code scope) ls) c.deref-link-items.ensures.value
    ∙ sym (ap (expr_code scope) c.in-Chain.is ∙ expr_code-Chain scope c.in-Chain.first c.in-Chain.rest))

pub emit_expr-returns-after-loop-link-clause-needs : goal.emit_expr-returns-after-loop-link-clause-needs
emit_expr-returns-after-loop-link-clause-needs t c =
    let first = expr_depth c.in-Chain.first.value in
    c.loop-link.invariant.needs first (c.emit_expr-depth-in-Chain.ensures.needs ∙ ap (λ e. capped (expr_depth e)) c.deref-in-Chain.ensures)
    ∙ ap (λ ls. capped (fold max first (map link_depth ls)))
    (take_all c.loop-link.link-index c.deref-link-items.result.now c.loop-link-test.false ∙ c.deref-link-items.ensures.value)
    ∙ ap capped (sym (ap expr_depth c.in-Chain.is ∙ expr_depth-Chain c.in-Chain.first c.in-Chain.rest))

pub emit_expr-returns-in-Compare-clause-emits : goal.emit_expr-returns-in-Compare-clause-emits
emit_expr-returns-in-Compare-clause-emits t c =
    let scope = c.args.scope.now in
    let r = c.in-Compare.relation in
    let left = c.in-Compare.left in
    let right = c.in-Compare.right in
    let first = index_codes scope c.in-Compare.left_indexes.items in
    gets_is (gets_then c.emit_whole-first.ensures.emits (gets_then c.emit_whole-second.ensures.emits c.emit_order.ensures))
    (ap (λ es. whole_code scope left (index_codes scope es)
    ++ (whole_code scope right (index_codes scope c.as_slice-in-Compare-2.result.now) ++ order_code r c.row_length.result)) c.as_slice-in-Compare.ensures.value
    ∙ ap (λ es. whole_code scope left first ++ (whole_code scope right (index_codes scope es) ++ order_code r c.row_length.result))
    c.as_slice-in-Compare-2.ensures.value
    ∙ ap (λ n. whole_code scope left first
    ++ (whole_code scope right (index_codes scope c.in-Compare.right_indexes.items) ++ order_code r n)) c.row_length.ensures
    ∙ sym (ap (expr_code scope) c.in-Compare.is
    ∙ expr_code-Compare scope c.in-Compare.number r left c.in-Compare.left_indexes right c.in-Compare.right_indexes))

pub emit_designators-loop-designator-init : goal.emit_designators-loop-designator-init
emit_designators-loop-designator-init t c =
    let designators = c.args.designators.now in
    let members = c.args.members.now in
    record {
      in_range = omega arith;
      emits = left_first c.args.code.now (designators_code false designators (index_codes c.args.scope.now members));
      least = omega arith;
      most = omega arith;
      needs = omega (arith, set_takes_one 0 designators (index_depths members));
    }

pub emit_designators-loop-designator-preserved : goal.emit_designators-loop-designator-preserved
emit_designators-loop-designator-preserved t c =
    let scope = c.args.scope.now in
    let before = c.args.code.now in
    let designators = c.args.designators.now in
    let members = c.args.members.now in
    let i = c.loop-designator.designator-index in
    let next = c.loop-designator.next in
    let some = c.loop-designator.some in
    let depth = c.loop-designator.depth in
    let left = drop (i + 1) designators in
    let now = c.loop-designator.code in
    let inside = c.loop-designator-test.true in
    let first = c.in-Some.first.now in
    let lookup = c.in-Some.ensures.lookup in
    let there = at_place members next first first lookup.3.0 (sym lookup.1) in
    let at = λ (one : Designator) (here : drop i designators ≡ one ∷ left).
    gathered_left scope before designators members now (drop i designators) (one ∷ left) next some depth here c.loop-designator.invariant in
    let held : c.from-held.result ≡ held_sets some = search rules in
    elim c.match-designator.branch [
      | emit_designators-in-Single w ↦
          let more : w.max-depth.result ≡ max depth (capped (w.emit_expr-value.result + held_sets some)) =
          omega (arith, w.max-depth.ensures, w.saturating_add.ensures, held) in
          gathered_as scope before designators members _ _ left _ _ _ _ _ _ w.code-is w.next-is w.some-is w.depth-is
          (gathered_single scope before designators members now w.emit_expr-value.new.code w.emit_single.new.code left w.in-Single.site next some depth
          w.emit_expr-value.result w.max-depth.result first (at (designator.Single w.in-Single.site) (at_place designators i _ _ inside w.in-Single.is))
          lookup.3.0 there w.emit_expr-value.ensures.emits w.emit_single.ensures w.emit_expr-value.ensures.needs more)
      | emit_designators-in-Range+in-Some-get w ↦
          let last = w.in-Some-get.last.now in
          let lookup' = w.in-Some-get.ensures.lookup in
          let two : drop (next + 1) members ≡ last ∷ drop (next + 1 + 1) members = at_place members (next + 1) last last lookup'.3.0 (sym lookup'.1) in
          let behind : next + 1 + 1 ≡ next + 2 = omega arith in
          let all = there ∙ ap (λ es. first ∷ es) (two ∙ ap (λ n. last ∷ drop n members) behind) in
          let more : w.max-depth-in-Range.result
          ≡ max depth (capped (max w.emit_expr-begin.result (capped (w.emit_expr-end.result + 1)) + held_sets some)) =
          w.max-depth-in-Range.ensures ∙ ap (max depth) (w.saturating_add-in-Range-2.ensures
          ∙ omega (arith, w.max.ensures, w.saturating_add-in-Range.ensures, held)) in
          gathered_as scope before designators members _ _ left _ _ _ _ _ _ w.code-is w.next-is w.some-is w.depth-is
          (gathered_span scope before designators members now w.emit_expr-begin.new.code w.emit_expr-end.new.code w.emit_span.new.code left
          w.in-Range.site next some depth w.emit_expr-begin.result w.emit_expr-end.result w.max-depth-in-Range.result first last
          (at (designator.Range w.in-Range.site) (at_place designators i _ _ inside w.in-Range.is)) lookup'.3.0 all w.emit_expr-begin.ensures.emits
          w.emit_expr-end.ensures.emits w.emit_span.ensures w.emit_expr-begin.ensures.needs w.emit_expr-end.ensures.needs more)
    ]

pub emit_designators-returns-in_default-clause-emits : goal.emit_designators-returns-in_default-clause-emits
emit_designators-returns-in_default-clause-emits t c =
    let some = c.loop-designator.some in
    let left = drop c.loop-designator.designator-index c.args.designators.now in
    left_none c.loop-designator.invariant.emits
    (ap (λ es. designators_code some left (index_codes c.args.scope.now es))
    (drop_all c.loop-designator.next c.args.members.now c.in_default.ensures.lookup.3)
    ∙ no_members some left)

pub emit_designators-returns-in_default-clause-needs : goal.emit_designators-returns-in_default-clause-needs
emit_designators-returns-in_default-clause-needs t c =
    let held = held_sets c.loop-designator.some in
    let left = drop c.loop-designator.designator-index c.args.designators.now in
    let none = ap (λ es. designators_depth held left (index_depths es))
    (drop_all c.loop-designator.next c.args.members.now c.in_default.ensures.lookup.3)
    ∙ no_member_depths held left in
    omega (arith, none, c.loop-designator.invariant.needs, c.loop-designator.invariant.least, c.loop-designator.invariant.most)

pub emit_selectors-loop-selector-init : goal.emit_selectors-loop-selector-init
emit_selectors-loop-selector-init t c =
    let selectors = c.args.selectors.now in
    let scope = c.args.scope.now in
    let indexes = c.args.indexes.now in
    let least = address_takes_one selectors (index_depths indexes) in
    record {
      in_range = omega arith;
      emits = left_first c.args.code.now (selectors_code selectors (index_codes scope indexes));
      least = omega arith;
      most = omega arith;
      needs = omega (arith, least);
    }

pub emit_selectors-loop-selector-preserved : goal.emit_selectors-loop-selector-preserved
emit_selectors-loop-selector-preserved t c =
    let scope = c.args.scope.now in
    let before = c.args.code.now in
    let selectors = c.args.selectors.now in
    let indexes = c.args.indexes.now in
    let i = c.loop-selector.selector-index in
    let next = c.loop-selector.next in
    let depth = c.loop-selector.depth in
    let left = drop (i + 1) selectors in
    let now = c.loop-selector.code in
    let inside = c.loop-selector-test.true in
    let at = λ (selector : Selector) (here : drop i selectors ≡ selector ∷ left).
    walked_as scope before selectors indexes now now (drop i selectors) (selector ∷ left) next next depth depth refl (sym here) refl refl
    c.loop-selector.invariant in
    elim c.match-selector.branch [
      | emit_selectors-in-Field w ↦
          walked_as scope before selectors indexes _ _ left left _ _ _ _ w.code-is refl w.next-is w.depth-is
          (walked_field scope before selectors indexes now w.emit_field.new.code left w.in-Field.position w.in-Field.offset next depth
          (at (Field w.in-Field.position w.in-Field.offset) (at_place selectors i _ _ inside w.in-Field.is)) w.emit_field.ensures)
      | emit_selectors-in-Element+in-Some w ↦
          let index = w.in-Some.index.now in
          let deeper : w.max-depth.result ≡ max depth (capped (w.emit_expr.result + 1)) = omega (arith, w.max-depth.ensures, w.saturating_add.ensures) in
          walked_as scope before selectors indexes _ _ left left _ _ _ _ w.code-is refl w.next-is w.depth-is
          (walked_element scope before selectors indexes now w.emit_expr.new.code w.emit_element.new.code left w.in-Element.fits w.in-Element.cells next depth
          w.emit_expr.result w.max-depth.result index (at (Element w.in-Element.fits w.in-Element.cells) (at_place selectors i _ _ inside w.in-Element.is))
          w.in-Some.ensures.lookup.3.0 (at_place indexes next index index w.in-Some.ensures.lookup.3.0 (sym w.in-Some.ensures.lookup.1))
          w.emit_expr.ensures.emits w.emit_element.ensures w.emit_expr.ensures.needs deeper)
      | emit_selectors-in-Element+in_default w ↦
          walked_as scope before selectors indexes _ _ left left _ _ _ _ w.code-is refl w.next-is w.depth-is
          (walked_without scope before selectors indexes now left w.in-Element.fits w.in-Element.cells next depth
          (at (Element w.in-Element.fits w.in-Element.cells) (at_place selectors i _ _ inside w.in-Element.is)) w.in_default.ensures.lookup.3)
    ]

pub emit_selectors-returns-clause-emits : goal.emit_selectors-returns-clause-emits
emit_selectors-returns-clause-emits t c =
    let selectors = c.args.selectors.now in
    let codes = index_codes c.args.scope.now (drop c.loop-selector.next c.args.indexes.now) in
    left_none c.loop-selector.invariant.emits
    (ap (λ ss. selectors_code ss codes) (drop_all c.loop-selector.selector-index selectors c.loop-selector-test.false))

pub emit_selectors-returns-clause-needs : goal.emit_selectors-returns-clause-needs
emit_selectors-returns-clause-needs t c =
    let depths = index_depths (drop c.loop-selector.next c.args.indexes.now) in
    let none = ap (λ ss. access_depth ss depths) (drop_all c.loop-selector.selector-index c.args.selectors.now c.loop-selector-test.false) in
    omega (arith, none, c.loop-selector.invariant.needs, c.loop-selector.invariant.least, c.loop-selector.invariant.most)
