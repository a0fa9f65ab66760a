use Rattle.std.proofs.Common.{◌≡◌, ◌∙◌, sym, ap, ap₂, map, ◌&&◌, ◌||◌, true, false, []}
use Rattle.std.specs.Prelude.{slice_get}
use Rattle.std.specs.List.{list_all}
use Rattle.std.proofs.lemmas.List.Folds.{list_all-map}
use Rattle.typed_tree.specs.WellFormed.{of_one}
use Rattle.checker_state.specs.Loops.{is_among}
use Rattle.checker_loops.specs.declared.rounds.Round.{Round as KeptRound}
use Rattle.checker_loops.specs.Loops.{Round, all_list}
use Rattle.checker_loops.specs.View.{loop_of_round}
use Rattle.checker_loops.specs.Starts.{is_own}
use Rattle.checker_expressions.specs.View.{context_of}
use Rattle.checker_expressions.specs.Walk.{block_lists}
use Rattle.checker_expressions.proofs.flow.Flow.may_change.Goals as goal

pub returns-then-is_own : goal.returns-then-is_own
returns-then-is_own c =
    let root = c.args.root in
    let rounds = c.args.self.now.grounds.rounds.items in
    let all : all_list root (map loop_of_round rounds) ≡ true =
    list_all-map (λ (round : Round). is_among root round.changes) loop_of_round rounds
    ∙ sym (c.all_list.ensures ∙ ap (list_all (λ (round : KeptRound). is_among root (loop_of_round round).changes)) c.deref.ensures.value)
    ∙ c.if-all_list.true in
    let lists = block_lists (context_of c.args.self.now []) root in
    c.if-is_own.true ∙ sym (ap₂ (λ a b. a && (b || lists)) all (sym c.is_own.ensures ∙ c.if-is_own.true))

pub returns-else-is_own : goal.returns-else-is_own
returns-else-is_own c =
    let root = c.args.root in
    let rounds = c.args.self.now.grounds.rounds.items in
    let all : all_list root (map loop_of_round rounds) ≡ true =
    list_all-map (λ (round : Round). is_among root round.changes) loop_of_round rounds
    ∙ sym (c.all_list.ensures ∙ ap (list_all (λ (round : KeptRound). is_among root (loop_of_round round).changes)) c.deref.ensures.value)
    ∙ c.if-all_list.true in
    let lists = block_lists (context_of c.args.self.now []) root in
    c.lists.ensures ∙ sym (ap₂ (λ a b. a && (b || lists)) all (sym c.is_own.ensures ∙ c.if-is_own.false))

pub returns-else-all_list : goal.returns-else-all_list
returns-else-all_list c =
    let root = c.args.root in
    let flow = c.args.self.now in
    let rounds = flow.grounds.rounds.items in
    let none : all_list root (map loop_of_round rounds) ≡ false =
    list_all-map (λ (round : Round). is_among root round.changes) loop_of_round rounds
    ∙ sym (c.all_list.ensures ∙ ap (list_all (λ (round : KeptRound). is_among root (loop_of_round round).changes)) c.deref.ensures.value)
    ∙ c.if-all_list.false in
    let lists = block_lists (context_of flow []) root in
    let own = of_one (is_own flow.grounds.block) (slice_get flow.state.table.now.variables.items root) in
    c.if-all_list.false ∙ sym (ap (λ a. a && (own || lists)) none)
