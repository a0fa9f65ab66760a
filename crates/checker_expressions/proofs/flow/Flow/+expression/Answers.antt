use Rattle.std.proofs.Common.{rules, ◌≡◌, ◌∙◌, ap, ap₂, sym, refl, Bool, ℕ, ◌+◌, List, [], ◌∷◌, ◌++◌, Option, drop, map}
use Rattle.std.proofs.lemmas.List.{take_rest}
use Rattle.domain.specs.Interval.{truth_values}
use Rattle.typed_tree.specs.declared.tree.Expr.{Expr, the_lemmas}
use Rattle.typed_tree.specs.declared.tree.Link.{Link}
use Rattle.typed_tree.specs.declared.tree.Passed.{Passed}
use Rattle.typed_tree.specs.declared.tree.RangeTest.{RangeTest}
use Rattle.typed_tree.specs.declared.tree.Selector.{Selector}
use Rattle.typed_tree.specs.declared.tree.Whole.{Whole}
use Rattle.typed_tree.specs.Accesses.{origin_of}
use Rattle.typed_tree.specs.Entries.{entries_of_expression, entries_of_passed, index_entries, joined, whole_entries}
use Rattle.typed_tree.specs.declared.tree.Designator.{Designator}
use Rattle.typed_tree.specs.declared.tree.Tree.{Tree}
use Rattle.checker_rows.specs.Rows.{is_ordinal_variable}
use Rattle.checker_state.specs.Bounds.{Bound}
use Rattle.checker_state.specs.Stores.{Reach}
use Rattle.checker_state.specs.View.{said_reach}
use Rattle.checker_state.specs.declared.value.Known.{Known}
use Rattle.checker_state.specs.declared.value.Known.TheVariants.{Ordinal, Set}
use Rattle.checker_state.specs.Values.{known_range}
use Rattle.checker_calls.specs.declared.actuals.Actual.{Actual as KeptActual}
use Rattle.checker_calls.specs.Actuals.{OfRows, OfValue, OfVariable}
use Rattle.checker_calls.specs.View.{said_actual}
use Rattle.checker_expressions.specs.View.{entries_of_link, said_gathering}
use Rattle.checker_expressions.specs.Walk.{Context, Gathering, Walking, ◌>>=◌, access_walk, actuals_hold_call, actuals_walk, call_walk, called}
use Rattle.checker_expressions.specs.Walk.{called_block, combined}
use Rattle.checker_expressions.specs.Walk.{deeper, form_by, form_in, gathered, members_walk, none_gathered, reach_at, set, set_walk}
use Rattle.checker_expressions.specs.Walk.{enter, fitting, function_walk, give, in_turn, index_pieces, index_test, indexes_walk, is_kept, link_walk}
use Rattle.checker_expressions.specs.Walk.{operated, ordinal}
use Rattle.checker_expressions.specs.Walk.{passed_piece_of, piece_of, related_walk, result_of, result_walk, text_range, value_use}
use Rattle.checker_expressions.specs.Walk.{value_walk}
use Rattle.checker_expressions.specs.Walk.{variable_passed, variable_walk, whole_passed, whole_use, whole_walk}
use Rattle.checker_expressions.proofs.Counted.{counts-then}
use Rattle.checker_expressions.proofs.Flows.{goes-alike, goes-as, goes-behind, goes-give, goes-mapped, goes-then}
use Rattle.checker_expressions.proofs.Forms.{bound-same}
use Rattle.checker_expressions.proofs.InTurn.{entries-cut, index-end, index-step, index_at, member-end, member-step, ordinal_in, passed-begun, passed-end}
use Rattle.checker_expressions.proofs.InTurn.{passed-pushed, passed-step, prefixed, turn-end, turn-step}
use Rattle.checker_expressions.proofs.Unrolled.{actuals-hold, entries-Chain, entries-Compare, link-walks, passed-Reference, passed-Value, passed-Whole}
use Rattle.checker_expressions.proofs.Unrolled.{value-Call, value-Chain, value-Compare, value-Monadic, value-Set, value-Variable}
use Rattle.checker_expressions.proofs.flow.Flow.+expression.Goals as goal

-- ---- an expression

-- the sizes of what a form holds are less than its own
pub expression-variable-requires : goal.expression-variable-requires
expression-variable-requires g t c κs within = (search (rules, the_lemmas), within)

pub expression-whole_value-requires : goal.expression-whole_value-requires
expression-whole_value-requires g t c κs within = (search (rules, the_lemmas), within)

pub expression-related-requires : goal.expression-related-requires
expression-related-requires g t c κs within = (search (rules, the_lemmas), within)

pub expression-returns-in-Variable-clause-goes : goal.expression-returns-in-Variable-clause-goes
expression-returns-in-Variable-clause-goes g t c =
    let it = c.in-Variable in
    goes-as
    (sym (ap value_walk it.is ∙ value-Variable it.access it.indexes it.holds it.defined
    ∙ ap (λ (items : List Expr). variable_walk it.holds it.access (index_pieces items) it.defined) (sym c.deref.ensures.value))) c.variable.ensures.goes

pub expression-returns-in-Set-clause-goes : goal.expression-returns-in-Set-clause-goes
expression-returns-in-Set-clause-goes g t c =
    let it = c.in-Set in
    let designators = c.deref-in-Set.result.now in
    let members = c.deref-in-Set-2.result.now in
    let inner = members_walk (index_pieces members) (none_gathered designators) in
    goes-as
    (sym (ap value_walk it.is ∙ value-Set it.number it.designators it.members
    ∙ ap₂ (λ (d : List Designator) (m : List Expr). set_walk it.number d (index_pieces m)) (sym c.deref-in-Set.ensures.value)
    (sym c.deref-in-Set-2.ensures.value)))
    (goes-behind it.number (inner >>= set) (goes-mapped inner Set c.members.ensures.goes refl))

pub expression-returns-in-Monadic-clause-goes : goal.expression-returns-in-Monadic-clause-goes
expression-returns-in-Monadic-clause-goes g t c =
    let it = c.in-Monadic in
    let inner = c.deref-in-Monadic.result.now in
    goes-as
    (sym (ap value_walk it.is ∙ value-Monadic it.number it.operation it.operand
    ∙ ap (λ (e : Expr). enter it.number >>= λ _. (value_walk e >>= operated it.operation)) (sym c.deref-in-Monadic.ensures)))
    (goes-behind it.number (value_walk inner >>= operated it.operation)
    (goes-then (value_walk inner) (operated it.operation) c.expression-known.ensures.goes c.operated.ensures))

pub expression-returns-in-Chain-clause-goes : goal.expression-returns-in-Chain-clause-goes
expression-returns-in-Chain-clause-goes g t c =
    let it = c.in-Chain in
    let inner = c.deref-in-Chain.result.now in
    goes-as
    (sym (ap value_walk it.is ∙ value-Chain it.first it.rest
    ∙ ap (λ (e : Expr). value_walk e >>= in_turn (map link_walk it.rest.items)) (sym c.deref-in-Chain.ensures)
    ∙ ap (λ (links : List Link). value_walk inner >>= in_turn (map link_walk links)) (sym c.deref-in-Chain-2.ensures.value)))
    (goes-then (value_walk inner) (in_turn (map link_walk c.deref-in-Chain-2.result.now)) c.expression-known-in-Chain.ensures.goes c.in_turn.ensures.goes)

pub expression-returns-in-Chain-clause-counts : goal.expression-returns-in-Chain-clause-counts
expression-returns-in-Chain-clause-counts g t c =
    let it = c.in-Chain in
    counts-then g.C.Count.counted c.args.visits.now (entries_of_expression c.deref-in-Chain.result.now)
    (joined (map entries_of_link c.deref-in-Chain-2.result.now))
    (ap entries_of_expression it.is ∙ entries-Chain it.first it.rest
    ∙ ap₂ (λ (e : Expr) (links : List Link). entries_of_expression e ++ joined (map entries_of_link links)) (sym c.deref-in-Chain.ensures)
    (sym c.deref-in-Chain-2.ensures.value)) c.expression-known-in-Chain.ensures.counts c.in_turn.ensures.counts

pub expression-returns-in-Compare-clause-goes : goal.expression-returns-in-Compare-clause-goes
expression-returns-in-Compare-clause-goes g t c =
    let it = c.in-Compare in
    let left = whole_walk it.left (index_pieces c.deref-in-Compare.result.now) in
    let right = related_walk it.number it.right (index_pieces c.deref-in-Compare-2.result.now) in
    goes-as
    (sym (ap value_walk it.is ∙ value-Compare it.number it.relation it.left it.left_indexes it.right it.right_indexes
    ∙ ap₂ (λ (one two : List Expr). whole_walk it.left (index_pieces one) >>= λ _. related_walk it.number it.right (index_pieces two))
    (sym c.deref-in-Compare.ensures.value) (sym c.deref-in-Compare-2.ensures.value)))
    (goes-then left (λ _. right) c.whole_value.ensures.goes c.related.ensures.goes)

pub expression-returns-in-Compare-clause-counts : goal.expression-returns-in-Compare-clause-counts
expression-returns-in-Compare-clause-counts g t c =
    let it = c.in-Compare in
    counts-then g.C.Count.counted c.args.visits.now (whole_entries it.left (index_entries c.deref-in-Compare.result.now))
    (it.number ∷ whole_entries it.right (index_entries c.deref-in-Compare-2.result.now))
    (ap entries_of_expression it.is ∙ entries-Compare it.number it.relation it.left it.left_indexes it.right it.right_indexes
    ∙ ap₂ (λ (one two : List Expr). whole_entries it.left (index_entries one) ++ (it.number ∷ whole_entries it.right (index_entries two)))
    (sym c.deref-in-Compare.ensures.value) (sym c.deref-in-Compare-2.ensures.value)) c.whole_value.ensures.counts c.related.ensures.counts

pub expression-returns-in-Call-clause-goes : goal.expression-returns-in-Call-clause-goes
expression-returns-in-Call-clause-goes g t c =
    let it = c.in-Call in
    goes-as
    (sym (ap value_walk it.is ∙ value-Call it.call it.actuals
    ∙ ap (λ (items : List Passed). function_walk it.call (map passed_piece_of items)) (sym c.deref-in-Call.ensures.value))) c.function.ensures.goes

pub function-returns-clause-goes : goal.function-returns-clause-goes
function-returns-clause-goes g t c =
    let call = c.args.call in
    goes-then (call_walk call (map passed_piece_of c.args.actuals.now)) (λ _ context. result_walk call (result_of (called_block context call)) context)
    c.call.ensures.goes c.result.ensures

-- ---- operators

pub in_turn-loop-link-preserved : goal.in_turn-loop-link-preserved
in_turn-loop-link-preserved g t c =
    let here = c.loop-link in
    let items = c.args.links.now in
    let link = c.link-item.result in
    record {
      goes = λ result new goes.
          here.invariant.goes result new
          (turn-step items here.link-index link here.known c.loop-link-test.true c.link-item.is c.link-known.ensures.goes goes);
      counts =
          entries-cut g.C.Count.counted entries_of_link items here.link-index link here.visits c.loop-link-test.true c.link-item.is c.link-known.ensures.counts
          ∙ here.invariant.counts;
    }

pub in_turn-returns-clause-goes : goal.in_turn-returns-clause-goes
in_turn-returns-clause-goes g t c =
    let here = c.loop-link in
    here.invariant.goes here.known here.self (turn-end c.args.links.now here.link-index here.known here.self c.loop-link-test.false)

pub link-returns-clause-goes : goal.link-returns-clause-goes
link-returns-clause-goes g t c =
    let link = c.args.link.now in
    let left = c.args.left in
    goes-as (sym (ap (λ (walk : Known → Walking Known). walk left) (link-walks link)))
    (goes-behind link.number (value_walk link.operand >>= combined link.operation left)
    (goes-then (value_walk link.operand) (combined link.operation left) c.expression-right.ensures.goes c.combined.ensures))

-- ---- accesses and whole values

pub variable-returns-clause-goes : goal.variable-returns-clause-goes
variable-returns-clause-goes g t c =
    let access = c.args.access.now in
    goes-then (access_walk access (index_pieces c.args.indexes.now))
    (λ reach. value_use c.args.holds (origin_of access) access.selectors.items reach c.args.defined) c.access-reach.ensures.goes c.used.ensures

pub members-loop-member-preserved : goal.members-loop-member-preserved
members-loop-member-preserved g t c =
    let here = c.loop-member in
    let items = c.args.members.now in
    let member = c.member-item.result in
    record {
      goes = λ result new goes.
          here.invariant.goes result new
          (member-step items here.member-index member (said_gathering here.gathering) c.loop-member-test.true c.member-item.is
          c.expression-known.ensures.goes
          (goes-as (ap (gathered (said_gathering here.gathering)) c.range.ensures) c.gathered-gathering.ensures) goes);
      counts =
          entries-cut g.C.Count.counted entries_of_expression items here.member-index member here.visits c.loop-member-test.true c.member-item.is
          c.expression-known.ensures.counts ∙ here.invariant.counts;
    }

pub members-loop-member-init : goal.members-loop-member-init
members-loop-member-init g t c =
    let walk = λ (gathering : Gathering). members_walk (index_pieces c.args.members.now) gathering in
    record { goes = λ result new goes. goes-as (ap walk c.of-gathering.ensures) goes; counts = refl }

pub members-returns-clause-goes : goal.members-returns-clause-goes
members-returns-clause-goes g t c =
    let here = c.loop-member in
    here.invariant.goes here.gathering.hull here.self
    (member-end c.args.members.now here.member-index (said_gathering here.gathering) here.self c.loop-member-test.false)

pub related-returns-clause-goes : goal.related-returns-clause-goes
related-returns-clause-goes g t c =
    let whole = whole_walk c.args.right.now (index_pieces c.args.indexes.now) in
    goes-behind c.args.number (whole >>= λ _. ordinal truth_values) (goes-mapped whole (λ _. Ordinal truth_values) c.whole_value.ensures.goes refl)

pub whole_value-returns-in-Text-clause-goes : goal.whole_value-returns-in-Text-clause-goes
whole_value-returns-in-Text-clause-goes g t c =
    let it = c.in-Text in
    goes-as
    (sym (ap (λ (value : Whole). whole_walk value (index_pieces c.args.indexes.now)) it.is
    ∙ ap (λ (text : List ℕ). enter it.number >>= λ _. give (text_range text ∷ [])) (sym c.deref.ensures.value)))
    (goes-behind it.number (give (text_range c.deref.result.now ∷ [])) c.text.ensures)

pub whole_value-returns-in-Variable-clause-goes : goal.whole_value-returns-in-Variable-clause-goes
whole_value-returns-in-Variable-clause-goes g t c =
    let it = c.in-Variable in
    let pieces = index_pieces c.args.indexes.now in
    goes-as (sym (ap (λ (value : Whole). whole_walk value pieces) it.is))
    (goes-then (access_walk it.access pieces) (λ reach. whole_use it.type_id (origin_of it.access) it.access.selectors.items reach it.defined)
    c.access-reach.ensures.goes c.used_whole.ensures)

pub access-returns-clause-goes : goal.access-returns-clause-goes
access-returns-clause-goes g t c =
    let access = c.args.access.now in
    let pieces = index_pieces c.args.indexes.now in
    goes-behind access.number (indexes_walk access.selectors.items pieces (reach_at (origin_of access)))
    (goes-as (ap₂ (λ (selectors : List Selector) (reach : Reach). indexes_walk selectors pieces reach) c.deref.ensures.value
    (c.begun-reach.ensures access.root)) c.indexes.ensures.goes)

pub indexes-loop-i-preserved : goal.indexes-loop-i-preserved
indexes-loop-i-preserved g t c =
    let here = c.loop-i in
    let items = c.args.indexes.now in
    let index = c.index-indexes-i.result in
    let more = drop (here.i + 1) items in
    let reach = said_reach here.reach in
    let range = c.index-range.result in
    let ordinal = ordinal_in c.index-range.new.self in
    let version = c.index-range.new.self.grounds.version in
    let kept = is_kept version here.left.now in
    let reach_is : said_reach c.deeper-reach.result ≡ deeper kept (index_at ordinal version index more range) reach =
    c.deeper-reach.ensures ∙ ap₂ (λ (keeps : Bool) (form : Option Bound). deeper keeps (record { form = form; range = range }) reach) c.is_kept-keeps.ensures
    c.form_before-form.ensures
    ∙ ap (λ (later : List Expr). deeper kept (index_at (is_ordinal_variable c.table.result.now) version index later range) reach) (take_rest items (here.i + 1))
    ∙ ap (λ (t : Tree). deeper kept (index_at (is_ordinal_variable t) version index more range) reach) c.table.ensures in
    record {
      goes = λ result new goes.
          here.invariant.goes result new
          (index-step here.left.now items here.i index reach c.loop-i-test.true c.index-indexes-i.is c.expression-known.ensures.goes
          (goes-as (ap (λ (test : Option RangeTest). index_test test c.expression-known.result) c.next_test.ensures) c.index-range.ensures)
          (goes-as (ap₂ (λ (selectors : List Selector) (reached : Reach). indexes_walk selectors (index_pieces more) reached) c.behind_next-left.ensures
          reach_is) goes));
      counts =
          entries-cut g.C.Count.counted entries_of_expression items here.i index here.visits c.loop-i-test.true c.index-indexes-i.is
          c.expression-known.ensures.counts
          ∙ here.invariant.counts;
    }

pub indexes-returns-clause-goes : goal.indexes-returns-clause-goes
indexes-returns-clause-goes g t c =
    let here = c.loop-i in
    let reach = said_reach here.reach in
    here.invariant.goes reach here.self (index-end here.left.now c.args.indexes.now here.i reach here.self c.loop-i-test.false)

-- ---- calls

pub call-returns-clause-goes : goal.call-returns-clause-goes
call-returns-clause-goes g t c =
    let call = c.args.call in
    let pieces = map passed_piece_of c.args.actuals.now in
    let held : c.actuals_hold_call.result ≡ actuals_hold_call pieces = c.actuals_hold_call.ensures ∙ sym (actuals-hold c.args.actuals.now) in
    goes-behind call.number (actuals_walk pieces >>= called call (actuals_hold_call pieces))
    (goes-then (actuals_walk pieces) (called call (actuals_hold_call pieces)) c.actuals-passed.ensures.goes
    (goes-as (ap (λ (holds : Bool). called call holds (map said_actual c.actuals-passed.result.items)) held) c.called.ensures))

pub actuals-loop-actual-init : goal.actuals-loop-actual-init
actuals-loop-actual-init g t c =
    let walk = actuals_walk (map passed_piece_of c.args.actuals.now) in
    record {
      goes = λ result new goes.
          passed-begun (goes-as (ap (λ (items : List KeptActual). prefixed (map said_actual items) walk) c.new-passed.ensures.items) goes);
      counts = refl;
    }

pub actuals-loop-actual-preserved : goal.actuals-loop-actual-preserved
actuals-loop-actual-preserved g t c =
    let here = c.loop-actual in
    let items = c.args.actuals.now in
    let i = here.actual-index in
    let one = c.actual-item.result in
    let before = map said_actual here.passed.items in
    let rest = actuals_walk (map passed_piece_of (drop (i + 1) items)) in
    record {
      goes = λ result new goes.
          here.invariant.goes result new
          (passed-step items i one before c.loop-actual-test.true c.actual-item.is c.actual-one.ensures.goes
          (passed-pushed rest (before ++ said_actual c.actual-one.result ∷ []) (map said_actual c.pass.new.passed.items) c.pass.ensures goes));
      counts =
          entries-cut g.C.Count.counted entries_of_passed items i one here.visits c.loop-actual-test.true c.actual-item.is c.actual-one.ensures.counts
          ∙ here.invariant.counts;
    }

pub actuals-returns-clause-goes : goal.actuals-returns-clause-goes
actuals-returns-clause-goes g t c =
    let here = c.loop-actual in
    let passed = map said_actual here.passed.items in
    here.invariant.goes passed here.self (passed-end c.args.actuals.now here.actual-index passed here.self c.loop-actual-test.false)

pub actual-returns-in-Value-clause-goes : goal.actual-returns-in-Value-clause-goes
actual-returns-in-Value-clause-goes g t c =
    let it = c.in-Value in
    let mid = c.fitting.new.self in
    let form = form_by (ordinal_in mid) mid.grounds.version (piece_of it.value) in
    let last = λ (passed : Known) (context : Context). give (OfValue (known_range passed) (form_in context (piece_of it.value))) context in
    let behind = λ (known : Known). fitting it.fits known >>= last in
    goes-as (sym (ap (λ (actual : Passed). (passed_piece_of actual).walk) it.is ∙ passed-Value it.value it.fits))
    (goes-then (value_walk it.value) behind c.expression-known.ensures.goes
    (goes-then (fitting it.fits c.expression-known.result) last c.fitting.ensures
    (goes-alike (give (OfValue (known_range c.fitting.result) form)) (last c.fitting.result) (λ claims. refl)
    (goes-as (ap give (ap₂ OfValue c.range-range.ensures
    (c.bound_form.ensures ∙ sym (bound-same (is_ordinal_variable c.table.result.now) mid.grounds.version it.value)
    ∙ ap (λ (t : Tree). form_by (is_ordinal_variable t) mid.grounds.version (piece_of it.value)) c.table.ensures)))
    (goes-give _ mid)))))

pub actual-returns-in-Whole-clause-goes : goal.actual-returns-in-Whole-clause-goes
actual-returns-in-Whole-clause-goes g t c =
    let it = c.in-Whole in
    goes-as
    (sym (ap (λ (actual : Passed). (passed_piece_of actual).walk) it.is ∙ passed-Whole it.type_id it.value it.indexes
    ∙ ap (λ (items : List Expr). whole_passed it.value (index_pieces items)) (sym c.deref.ensures.value)))
    (goes-mapped (whole_walk it.value (index_pieces c.deref.result.now)) OfRows c.whole_value.ensures.goes refl)

pub actual-returns-in-Reference-clause-goes : goal.actual-returns-in-Reference-clause-goes
actual-returns-in-Reference-clause-goes g t c =
    let it = c.in-Reference in
    goes-as
    (sym (ap (λ (actual : Passed). (passed_piece_of actual).walk) it.is ∙ passed-Reference it.type_id it.access it.indexes
    ∙ ap (λ (items : List Expr). variable_passed it.access (index_pieces items)) (sym c.deref-in-Reference.ensures.value)))
    (goes-mapped (access_walk it.access (index_pieces c.deref-in-Reference.result.now))
    (λ reached. OfVariable (origin_of it.access) it.access.selectors.items reached) c.access.ensures.goes refl)
