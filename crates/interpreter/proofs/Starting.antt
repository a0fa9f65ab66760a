-- How a run begins.
use Rattle.std.proofs.Common.{◌≡◌, ℕ, suc, List, [], ◌∷◌, ◌++◌, Option, Some, None, Result, IfOk, Bor, reverse, slice_get}
use Rattle.std.proofs.Common.{arith, filter, map, sym, ◌∙◌, ap, subst, refl}
use Rattle.std.specs.BTreeMap.{BTreeMap, is_at}
use Rattle.std.specs.Map.{lookup}
use Rattle.std.specs.declared.alloc.AllocError.{AllocError}
use Rattle.typed_tree.specs.declared.tree.Tree.{Tree}
use Rattle.typed_tree.specs.declared.tree.Block.{Block}
use Rattle.typed_tree.specs.declared.tree.Heading.{Heading}
use Rattle.typed_tree.specs.declared.tree.Stmt.{Stmt}
use Rattle.typed_tree.specs.WellFormed.{is_one_of}
use Rattle.meaning.specs.declared.outcome.Ending.{Ending}
use Rattle.meaning.specs.declared.outcome.Ending.TheVariants.{Finished}
use Rattle.meaning.specs.declared.value.Value.{Value}
use Rattle.meaning.specs.Effect.{State, Reply, Gives, Stops, and_then, give}
use Rattle.meaning.specs.Meaning.{Argument, calls_of, effect_of, program_activation, program_surroundings, run_of, meaning, first_state}
use Rattle.interpreter_state.specs.declared.store.Place.{Place as KeptPlace}
use Rattle.interpreter_state.specs.declared.work.Caller.{Caller}
use Rattle.interpreter_state.specs.declared.work.Work.{Work}
use Rattle.interpreter_state.specs.declared.work.Work.TheVariants as work
use Rattle.interpreter_state.specs.contracts.store.PlaceOrd.TheImpl.{ghosts}
use Rattle.interpreter_state.specs.Views.{Visible, place_of, records_in, seen_as, visible_in}
use Rattle.interpreter_state.proofs.Sees.{nowhere, own_of, sees_inner}
use Rattle.interpreter.specs.declared.interpreter.Run.{Run}
use Rattle.interpreter.specs.Pending.{Agrees, EndsAs, IsFresh, Resumption, StoreAgrees, Waits, pending_of}

-- nothing follows
and_then-nothing : (r : Reply (Unit {0})) → and_then r (λ _. give tt) ≡ r
and_then-nothing (Gives a s) = refl
and_then-nothing (Stops e s) = refl

-- a map with no entries holds what an empty store does
pub holds_nothing : (kept : BTreeMap KeptPlace Value) → kept.entries ≡ [] → StoreAgrees kept []
holds_nothing kept none p = ap (λ (l : List (KeptPlace × Value)). lookup (is_at (ghosts.cmp p)) l) none

-- a run that did the program's block from the first state ends as the program does
pub ends_as_meant : (tree : Tree) (input : List ℕ) (turns : ℕ) (done : Run) (ending : Ending) →
    EndsAs (run_of tree (suc turns) (slice_get tree.blocks.items 0) (first_state input turns)) done ending →
    (done.output.items ≡ (meaning tree input turns).output) × (ending ≡ (meaning tree input turns).ending)
ends_as_meant tree input turns done ending ends = (ends.output, sym ends.ending)

-- a run whose program's activation begins
pub agrees_first : (old begun : Run) (heading : Heading) (s : State) → IsFresh old s →
    visible_in begun.activation ≡ own_of (program_activation old.tree.now heading)
    ∷ filter (λ (seen : Visible). is_one_of heading.around.items seen.block) (visible_in old.activation) →
    begun ≡ record old { activation = begun.activation; pending = begun.pending } → begun.activation.depth ≡ old.turns → records_in begun.activation ≡ [] →
    Agrees (program_surroundings old.tree.now (suc old.turns) heading) (λ operands. give tt) begun s
agrees_first old begun heading s fresh sees same depth no_records =
    let tree = old.tree.now in
    let env = program_surroundings tree (suc old.turns) heading in
    let outer : Resumption = λ operands. give tt in
    let none : visible_in old.activation ≡ [] = ap (map seen_as) fresh.visible in
    let called = fresh.called in
    let few_left = fresh.few in
    let fields : Agrees env outer (record old { activation = begun.activation; pending = begun.pending }) s = record {
      visible = record {
        variables = sees_inner tree (program_activation tree heading) (visible_in old.activation) (visible_in begun.activation)
            (λ root. nowhere root (slice_get tree.variables.items root)
            ∙ ap (λ (l : List Visible). place_of l root (slice_get tree.variables.items root)) (sym none)) sees;
        types = refl;
      };
      calls = ap (λ n. calls_of tree (suc n)) (sym depth);
      waits = subst (λ (l : List Caller). Waits tree env begun.activation outer (reverse l)) (sym fresh.callers) (λ operands t. refl);
      deep = omega (arith, depth);
      few = omega (arith, called, few_left);
      store = fresh.store;
      input = fresh.input;
      output = fresh.output;
      turns = fresh.turns;
      activations = let one = fresh.activations in omega (arith, one, called);
      records = no_records;
    } in
    subst (λ (r : Run). Agrees env outer r s) (sym same) fields

-- the statement of the program's block is all that is pending
pub begins_with_block : (inner : Bor Stmt) (block : Block) (tree : Tree) (turns : ℕ) (operands : List Argument) (s : State) (pending before : List Work) →
    pending ≡ before ++ work.Statement inner ∷ [] → before ≡ [] → inner.now ≡ block.body → slice_get tree.blocks.items 0 ≡ Some block →
    run_of tree turns (slice_get tree.blocks.items 0) s ≡
    pending_of (program_surroundings tree turns block.heading) (λ operands. give tt) (reverse pending) operands s
begins_with_block inner block tree turns operands s pending before pushed none body is =
    let env = program_surroundings tree turns block.heading in
    let alone : pending ≡ work.Statement inner ∷ [] = pushed ∙ ap (λ l. l ++ work.Statement inner ∷ []) none in
    ap (λ (o : Option Block). run_of tree turns o s) is
    ∙ ap (λ (b : Stmt). effect_of b env s) (sym body)
    ∙ sym (and_then-nothing (effect_of inner.now env s))
    ∙ ap (λ (l : List Work). pending_of env (λ operands. give tt) (reverse l) operands s) (sym alone)

-- a run that does the same ends the same
pub ends_alike : (new : Run) (whole rest : Reply (Unit {0})) (result : Result Ending AllocError) → whole ≡ rest →
    IfOk result (λ ending. EndsAs rest new ending) → IfOk result (λ ending. EndsAs whole new ending)
ends_alike new whole rest result is ended = subst (λ (r : Reply (Unit {0})). IfOk result (λ ending. EndsAs r new ending)) (sym is) ended

-- a program without a block does nothing
pub ends_without_block : (run : Run) (tree : Tree) (turns : ℕ) (s : State) → run.output.items ≡ s.output → slice_get tree.blocks.items 0 ≡ None →
    EndsAs (run_of tree turns (slice_get tree.blocks.items 0) s) run Finished
ends_without_block run tree turns s same is =
    subst (λ (o : Option Block). EndsAs (run_of tree turns o s) run Finished) (sym is) (record { output = same; ending = refl })
