-- How an activation begins and ends, as the work that is pending then.
use Rattle.std.proofs.Common.{◌≡◌, ◌+◌, ◌-◌, ◌<◌, ℕ, suc, List, [], ◌∷◌, ◌++◌, Option, Some, None, Result, Ok, Err, Vec, Global}
use Rattle.std.proofs.Common.{OnOk, pos, reverse, filter, slice_get}
use Rattle.std.proofs.Common.{arith, sym, ◌∙◌, ap, subst, refl}
use Rattle.std.specs.declared.alloc.AllocError.{AllocError}
use Rattle.typed_tree.specs.declared.tree.Tree.{Tree}
use Rattle.typed_tree.specs.declared.tree.Block.{Block}
use Rattle.typed_tree.specs.declared.tree.FunctionResult.{FunctionResult}
use Rattle.typed_tree.specs.WellFormed.{is_one_of}
use Rattle.meaning.specs.declared.outcome.Ending.TheVariants as ending
use Rattle.meaning.specs.declared.value.Value.{Value}
use Rattle.meaning.specs.declared.value.Value.TheVariants.{Number}
use Rattle.typed_tree.specs.Accesses.{Origin, AtVariable, AtRecord}
use Rattle.meaning.specs.Store.{Environment, Place, Store}
use Rattle.meaning.specs.Effect.{State, Reply, Gives, Stops, Action, ◌>>=◌, and_then, begin_with, end_with, give}
use Rattle.meaning.specs.Meaning.{Activation, Argument, OfValue, Calls, Surroundings, activated, assign_all, calls_of, effect_of, environment_of}
use Rattle.meaning.specs.Meaning.{begun, executed, place_at, result_of, with_record, within_for}
use Rattle.interpreter_state.specs.declared.activation.Activation.{Activation as KeptActivation}
use Rattle.interpreter_state.specs.declared.work.Caller.{Caller}
use Rattle.interpreter_state.specs.declared.work.Caller.TheVariants as caller
use Rattle.interpreter_state.specs.declared.work.Work.{Work}
use Rattle.interpreter_state.specs.Views.{Visible, records_in, start_of, visible_in}
use Rattle.interpreter_state.proofs.Sees.{own_of, sees_inner}
use Rattle.interpreter.specs.declared.interpreter.Run.{Run}
use Rattle.interpreter.specs.Pending.{Agrees, Continues, Resumption, Sees, Waits, StoreAgrees}
use Rattle.interpreter.specs.Pending.{activating, beginning, left_below, operands_of, pending_of, returning}
use Rattle.interpreter.specs.Pending.{taken_from}
use Rattle.meaning.proofs.Replies.{and_then-and_then}
use Rattle.interpreter.proofs.Resuming.{reverse_push}

-- an activation of a block that begins with these arguments
abbrev pub begun_activation : ℕ → ℕ → Block → List Argument → Environment → Activation
begun_activation activation number block arguments caller =
    record { number = activation; block = number; heading = block.heading; arguments = arguments; caller = caller }

-- where its statement stands
abbrev pub inside : Tree → ℕ → Activation → Surroundings
inside tree depth activation = record { visible = environment_of tree activation; records = []; calls = calls_of tree depth }

-- the state when its statement begins
abbrev pub after_begin : ℕ → ℕ → Store → State → State
after_begin left number after s =
    record s { turns = left; activations = suc s.activations; living = number ∷ s.living; store = after }

-- where a turn is left an activation begins, and what is done in it comes before what goes on behind it
pub begins : (tree : Tree) (depth number : ℕ) (block : Block) (arguments : List Argument) (env : Surroundings) (next : Resumption)
    (operands : List Argument) (s : State) (left : ℕ) (after : Store) (result : Option FunctionResult) → s.turns ≡ suc left →
    result ≡ block.heading.result →
    assign_all tree (environment_of tree (begun_activation s.activations number block arguments env.visible)) block.heading.parameters.items arguments
    (after_begin left number s.store s) ≡ Gives tt (after_begin left number after s) →
    beginning tree depth number block arguments env next operands s ≡
    and_then (effect_of block.body (inside tree depth (begun_activation s.activations number block arguments env.visible)) (after_begin left number after s))
    (λ _. result_of result (environment_of tree (begun_activation s.activations number block arguments env.visible)) >>= λ v. end_with s.living >>= λ _.
    next (OfValue v ∷ operands))
begins tree depth number block arguments env next operands s left after result some told stores =
    let activation = begun_activation s.activations number block arguments env.visible in
    let there = inside tree depth activation in
    let visible = environment_of tree activation in
    let calls = calls_of tree depth in
    let then_rest : Value → Action (Unit {0}) = λ v. next (OfValue v ∷ operands) in
    let ending_it : Value → Action Value = λ v. end_with s.living >>= λ _. give v in
    let resulting : Option FunctionResult → Unit {0} → Action Value = λ o _. result_of o visible in
    let doing : Unit {0} → Action Value = λ _. effect_of block.body there >>= resulting block.heading.result in
    let body : Reply (Unit {0}) = effect_of block.body there (after_begin left number after s) in
    ap (λ n. and_then (and_then (begin_with n number s)
    (λ activation. executed tree calls block (begun_activation activation number block arguments env.visible) >>= ending_it)) then_rest) some
    ∙ ap (λ (r : Reply (Unit {0})). and_then (and_then (and_then r doing) ending_it) then_rest) stores
    ∙ and_then-and_then (and_then body (resulting block.heading.result)) ending_it then_rest
    ∙ and_then-and_then body (resulting block.heading.result) (λ v. ending_it v >>= then_rest)
    ∙ ap (λ (o : Option FunctionResult). and_then body (λ _. result_of o visible >>= λ v. ending_it v >>= then_rest)) (sym told)

-- where none is left the run ends
pub starves : (tree : Tree) (depth number : ℕ) (block : Block) (arguments : List Argument) (env : Surroundings) (next : Resumption)
    (operands : List Argument) (s : State) → s.turns ≡ 0 →
    beginning tree depth number block arguments env next operands s ≡ Stops ending.More (record s { starved = number ∷ s.living })
starves tree depth number block arguments env next operands s none =
    ap (λ n. and_then (and_then (begin_with n number s)
    (λ activation. executed tree (calls_of tree depth) block (begun_activation activation number block arguments env.visible)
    >>= λ v. end_with s.living >>= λ _. give v)) (λ v. next (OfValue v ∷ operands))) none

-- what a call is, as what calls do
called : (env : Surroundings) (number count : ℕ) (next : Resumption) (operands : List Argument) (s : State) (calls : Calls) → env.calls ≡ calls →
    activating env number count next operands s ≡
    and_then (calls number (taken_from count operands) env.visible s) (λ v. next (OfValue v ∷ left_below count operands))
called env number count next operands s calls is =
    ap (λ (c : Calls). and_then (c number (taken_from count operands) env.visible s) (λ v. next (OfValue v ∷ left_below count operands))) is

-- a call of a routine, and of none
pub calls_block : (tree : Tree) (env : Surroundings) (number count depth : ℕ) (block : Block) (next : Resumption) (operands : List Argument) (s : State) →
    env.calls ≡ calls_of tree (suc depth) → slice_get tree.blocks.items number ≡ Some block →
    activating env number count next operands s ≡
    beginning tree depth number block (taken_from count operands) env next (left_below count operands) s
calls_block tree env number count depth block next operands s calls found =
    called env number count next operands s (calls_of tree (suc depth)) calls
    ∙ ap (λ (o : Option Block). and_then (activated tree (calls_of tree depth) number o (taken_from count operands) env.visible s)
    (λ v. next (OfValue v ∷ left_below count operands))) found

pub calls_none : (tree : Tree) (env : Surroundings) (number count depth : ℕ) (next : Resumption) (operands : List Argument) (s : State) →
    env.calls ≡ calls_of tree (suc depth) → slice_get tree.blocks.items number ≡ None →
    activating env number count next operands s ≡ next (OfValue (Number (pos 0)) ∷ left_below count operands) s
calls_none tree env number count depth next operands s calls missing =
    called env number count next operands s (calls_of tree (suc depth)) calls
    ∙ ap (λ (o : Option Block). and_then (activated tree (calls_of tree depth) number o (taken_from count operands) env.visible s)
    (λ v. next (OfValue v ∷ left_below count operands))) missing

-- a call of a routine where no turn is left
pub calls_starved : (tree : Tree) (env : Surroundings) (number count depth : ℕ) (block : Block) (next : Resumption) (operands : List Argument) (s : State) →
    env.calls ≡ calls_of tree (suc depth) → slice_get tree.blocks.items number ≡ Some block → s.turns ≡ 0 →
    activating env number count next operands s ≡ Stops ending.More (record s { starved = number ∷ s.living })
calls_starved tree env number count depth block next operands s calls found none =
    calls_block tree env number count depth block next operands s calls found
    ∙ starves tree depth number block (taken_from count operands) env next (left_below count operands) s none

-- what goes on behind an activation that begins now
abbrev pub behind : Surroundings → Resumption → Run → State → Surroundings → KeptActivation → Resumption
behind env outer old s there activation = returning there activation s.living (pending_of env outer (reverse old.pending.items))

-- a run whose caller waits for an activation that began
pub agrees_begun : (old begun : Run) (waiting : KeptActivation) (work : Vec Work Global) (env : Surroundings) (outer : Resumption) (s : State)
    (left number : ℕ) (block : Block)
    (arguments : List Argument) (after : Store) → Agrees env outer old s → old.turns ≡ suc left → 0 < old.activation.depth →
    visible_in begun.activation ≡ own_of (begun_activation s.activations number block arguments env.visible)
    ∷ filter (λ (seen : Visible). is_one_of block.heading.around.items seen.block) (visible_in old.activation) →
    begun.activation.depth ≡ old.activation.depth - 1 → begun.callers.items ≡ old.callers.items ++ caller.Call waiting work ∷ [] →
    waiting ≡ old.activation → work.items ≡ old.pending.items → records_in begun.activation ≡ [] → StoreAgrees begun.store after →
    begun ≡ record old {
      turns = left;
      called = old.called + 1;
      activation = begun.activation;
      callers = begun.callers;
      pending = begun.pending;
      store = begun.store;
    } →
    Agrees (inside old.tree.now old.activation.depth (begun_activation s.activations number block arguments env.visible))
    (behind env outer old s (inside old.tree.now old.activation.depth (begun_activation s.activations number block arguments env.visible))
    begun.activation) begun (after_begin left number after s)
agrees_begun old begun waiting work env outer s left number block arguments after agrees some deep sees depth pushed waits_as pending none store same =
    let tree = old.tree.now in
    let activation = begun_activation s.activations number block arguments env.visible in
    let there = inside tree old.activation.depth activation in
    let outer_there = behind env outer old s there begun.activation in
    let from_caller : KeptActivation → List Work → Type 0 = λ a works.
    Sees env.visible tree a × (env.calls ≡ calls_of tree (suc a.depth)) × (a.depth ≡ suc begun.activation.depth)
    × Waits tree env a outer (reverse old.callers.items)
    × ((operands : List Argument) (t : State) → outer_there operands t ≡
    returning there begun.activation s.living (pending_of env outer (reverse works)) operands t)
    × (records_in a ≡ env.records) in
    let waits : from_caller old.activation old.pending.items =
    (agrees.visible, agrees.calls, omega (arith, deep, depth), agrees.waits, λ operands t. refl, agrees.records) in
    let moved : from_caller waiting work.items =
    subst (λ a. from_caller a work.items) (sym waits_as) (subst (λ l. from_caller old.activation l) (sym pending) waits) in
    let few_left = agrees.few in
    let deep_left = agrees.deep in
    let one_more : old.activation.depth ≡ suc begun.activation.depth = omega (arith, deep, depth) in
    let fields : Agrees there outer_there (record old {
      turns = left;
      called = old.called + 1;
      activation = begun.activation;
      callers = begun.callers;
      pending = begun.pending;
      store = begun.store;
    }) (after_begin left number after s) = record {
      visible = record {
        variables = sees_inner tree activation (visible_in old.activation) (visible_in begun.activation) agrees.visible.variables sees;
        types = refl;
      };
      calls = ap (calls_of tree) one_more;
      waits = subst (λ (l : List Caller). Waits tree there begun.activation outer_there l)
          (sym (ap reverse pushed ∙ reverse_push old.callers.items (caller.Call waiting work)))
          (env, outer, s.living, moved.0, moved.1, moved.2, moved.3, moved.4, moved.5);
      deep = omega (arith, deep_left, some, depth, deep);
      few = omega (arith, few_left, some);
      store = store;
      input = agrees.input;
      output = agrees.output;
      turns = refl;
      activations = let one = agrees.activations in omega (arith, one);
      records = none;
    } in
    subst (λ (r : Run). Agrees there outer_there r (after_begin left number after s)) (sym same) fields

-- what waits, waits for whatever has the same depth and the same result
waits_alike : (tree : Tree) (env : Surroundings) (one other : KeptActivation) (outer : Resumption) (callers : List Caller) → one.depth ≡ other.depth →
    one.result ≡ other.result → Waits tree env one outer callers → Waits tree env other outer callers
waits_alike tree env one other outer [] deep told waits = waits
waits_alike tree env one other outer (caller.Call waiting work ∷ callers) deep told waits = (
  waits.0,
  waits.1,
  waits.2,
  waits.3,
  waits.4,
  let deeper = waits.5 in omega (arith, deeper, deep),
  waits.6,
  λ operands s. waits.7 operands s
      ∙ ap (λ (o : Option FunctionResult). and_then (result_of o env.visible s) (λ v. end_with waits.2 >>= λ _.
      pending_of waits.0 waits.1 (reverse work.items) (OfValue v ∷ operands))) told,
  waits.8,
)
waits_alike tree env one other outer (caller.With work ∷ callers) deep told waits =
    (waits.0, waits.1, waits.2, waits.3, waits_alike tree waits.0 one other waits.1 callers deep told waits.4, waits.5)
waits_alike tree env one other outer (caller.For work ∷ callers) deep told waits =
    (waits.0, waits.1, waits.2, waits.3, waits_alike tree waits.0 one other waits.1 callers deep told waits.4, waits.5)

-- what the latest caller waits with, where it is an activation
caller_waits : (old : Run) (waiting : KeptActivation) (work : Vec Work Global) (left : List Caller) (env : Surroundings) (outer : Resumption) (s : State) →
    Agrees env outer old s → old.callers.items ≡ left ++ caller.Call waiting work ∷ [] →
    Waits old.tree.now env old.activation outer (caller.Call waiting work ∷ reverse left)
caller_waits old waiting work left env outer s agrees popped =
    subst (λ (l : List Caller). Waits old.tree.now env old.activation outer l) (ap reverse popped ∙ reverse_push left (caller.Call waiting work)) agrees.waits

-- it goes on as its own activation
agrees_back : (old back : Run) (waiting : KeptActivation) (work : Vec Work Global) (left : List Caller) (env : Surroundings) (outer : Resumption)
    (s : State) (living : List ℕ) → Agrees env outer old s → (waits : Waits old.tree.now env old.activation outer (caller.Call waiting work ∷ reverse left)) →
    back ≡ record old { callers = back.callers; activation = waiting; pending = work } → back.callers.items ≡ left →
    Agrees waits.0 waits.1 back (record s { living = living })
agrees_back old back waiting work left env outer s living agrees waits same rest =
    let tree = old.tree.now in
    let there = waits.0 in
    let next = waits.1 in
    let t : State = record s { living = living } in
    let deeper = waits.5 in
    let deep_left = agrees.deep in
    let fields : Agrees there next (record old { callers = back.callers; activation = waiting; pending = work }) t = record {
      visible = waits.3;
      calls = waits.4;
      waits = subst (λ (l : List Caller). Waits tree there waiting next (reverse l)) (sym rest) waits.6;
      deep = omega (arith, deeper, deep_left);
      few = agrees.few;
      store = agrees.store;
      input = agrees.input;
      output = agrees.output;
      turns = agrees.turns;
      activations = agrees.activations;
      records = waits.8;
    } in
    subst (λ (r : Run). Agrees there next r t) (sym same) fields

-- a caller goes on behind an activation that gave its result
pub goes_back : (old back : Run) (waiting : KeptActivation) (work : Vec Work Global) (left : List Caller) (env : Surroundings) (outer : Resumption)
    (s : State) (v : Value) → Agrees env outer old s → old.callers.items ≡ left ++ caller.Call waiting work ∷ [] →
    result_of old.activation.result env.visible s ≡ Gives v s →
    back ≡ record old { callers = back.callers; activation = waiting; pending = work } → back.callers.items ≡ left →
    (there : Surroundings) × (next : Resumption) × (t : State) × Agrees there next back t
    × (outer (operands_of old) s ≡ pending_of there next (reverse work.items) (OfValue v ∷ operands_of old) t)
goes_back old back waiting work left env outer s v agrees popped gives same rest =
    let waits = caller_waits old waiting work left env outer s agrees popped in
    let living = waits.2 in (
      waits.0,
      waits.1,
      record s { living = living },
      agrees_back old back waiting work left env outer s living agrees waits same rest,
      waits.7 (operands_of old) s
          ∙ ap (λ (r : Reply Value). and_then r (λ w. end_with living >>= λ _.
          pending_of waits.0 waits.1 (reverse work.items) (OfValue w ∷ operands_of old))) gives,
    )

-- a run that stops for want of the result of its activation
pub stops_back : (old back : Run) (waiting : KeptActivation) (work : Vec Work Global) (left : List Caller) (env : Surroundings) (outer : Resumption)
    (s : State) (site : ℕ) → Agrees env outer old s → old.callers.items ≡ left ++ caller.Call waiting work ∷ [] →
    result_of old.activation.result env.visible s ≡ Stops (ending.Error site) s →
    back ≡ record old { callers = back.callers; activation = waiting; pending = work } → back.callers.items ≡ left →
    Continues (outer (operands_of old) s) (Ok (Some (ending.Error site))) back
stops_back old back waiting work left env outer s site agrees popped gives same rest =
    let waits = caller_waits old waiting work left env outer s agrees popped in (
      waits.0,
      waits.1,
      s,
      agrees_back old back waiting work left env outer s s.living agrees waits same rest,
      waits.7 (operands_of old) s
          ∙ ap (λ (r : Reply Value). and_then r (λ w. end_with waits.2 >>= λ _.
          pending_of waits.0 waits.1 (reverse work.items) (OfValue w ∷ operands_of old))) gives,
    )

-- what stands behind the statement of a with goes on, where there is a record less
pub closes : (old new : Run) (closed : KeptActivation) (work : Vec Work Global) (left : List Caller) (env : Surroundings) (outer : Resumption) (s : State) →
    Agrees env outer old s → old.callers.items ≡ left ++ caller.With work ∷ [] → closed ≡ record old.activation { records = closed.records } →
    ((others : List (Option Place)) (place : Option Place) → records_in old.activation ≡ others ++ place ∷ [] → records_in closed ≡ others) →
    new ≡ record old { callers = new.callers; activation = closed; pending = work } → new.callers.items ≡ left →
    Continues (outer (operands_of old) s) (Ok None) new
closes old new closed work left env outer s agrees popped alike records same rest =
    let tree = old.tree.now in
    let waits : Waits tree env old.activation outer (caller.With work ∷ reverse left) =
    subst (λ (l : List Caller). Waits tree env old.activation outer l) (ap reverse popped ∙ reverse_push left (caller.With work)) agrees.waits in
    let there = waits.0 in
    let next = waits.1 in
    let is = waits.3 in
    let shut : KeptActivation = record old.activation { records = closed.records } in
    let behind_it : Waits tree there shut next (reverse left) = waits_alike tree there old.activation shut next (reverse left) refl refl waits.4 in
    let seen : Sees there.visible tree shut = subst (λ (v : Environment). Sees v tree shut) (ap (λ (e : Surroundings). e.visible) is) agrees.visible in
    let fields : Agrees there next (record old { callers = new.callers; activation = shut; pending = work }) s = record {
      visible = seen;
      calls = sym (ap (λ (e : Surroundings). e.calls) is) ∙ agrees.calls;
      waits = subst (λ (l : List Caller). Waits tree there shut next (reverse l)) (sym rest) behind_it;
      deep = agrees.deep;
      few = agrees.few;
      store = agrees.store;
      input = agrees.input;
      output = agrees.output;
      turns = agrees.turns;
      activations = agrees.activations;
      records = sym (ap records_in alike) ∙ records there.records waits.2 (agrees.records ∙ ap (λ (e : Surroundings). e.records) is);
    } in
    let shut_is : new ≡ record old { callers = new.callers; activation = shut; pending = work } =
    same ∙ ap (λ (a : KeptActivation). record old { callers = new.callers; activation = a; pending = work }) alike in (
      there,
      next,
      s,
      subst (λ (r : Run). Agrees there next r s) (sym shut_is) fields,
      waits.5 (operands_of old) s ∙ ap (λ (r : Run). pending_of there next (reverse r.pending.items) (operands_of r) s) (sym same),
    )

-- a record more, while what was pending waits
pub agrees_opened : (old new : Run) (wider : KeptActivation) (work : Vec Work Global) (place : Option Place) (env : Surroundings)
    (outer : Resumption) (s : State) →
    Agrees env outer old s → wider ≡ record old.activation { records = wider.records } → records_in wider ≡ records_in old.activation ++ place ∷ [] →
    work.items ≡ old.pending.items → new.callers.items ≡ old.callers.items ++ caller.With work ∷ [] →
    new ≡ record old { callers = new.callers; activation = wider; pending = new.pending } →
    Agrees (with_record env place) (pending_of env outer (reverse old.pending.items)) new s
agrees_opened old new wider work place env outer s agrees alike records kept pushed same =
    let tree = old.tree.now in
    let there = with_record env place in
    let next = pending_of env outer (reverse old.pending.items) in
    let now : KeptActivation = record old.activation { records = wider.records } in
    let under : Waits tree env now outer (reverse old.callers.items) =
    waits_alike tree env old.activation now outer (reverse old.callers.items) refl refl agrees.waits in
    let fields : Agrees there next (record old { callers = new.callers; activation = now; pending = new.pending }) s = record {
      visible = agrees.visible;
      calls = agrees.calls;
      waits = subst (λ (l : List Caller). Waits tree there now next l) (sym (ap reverse pushed ∙ reverse_push old.callers.items (caller.With work)))
          (env, outer, place, refl, under, λ operands t. ap (λ (l : List Work). pending_of env outer (reverse l) operands t) (sym kept));
      deep = agrees.deep;
      few = agrees.few;
      store = agrees.store;
      input = agrees.input;
      output = agrees.output;
      turns = agrees.turns;
      activations = agrees.activations;
      records = sym (ap records_in alike) ∙ records ∙ ap (λ (l : List (Option Place)). l ++ place ∷ []) agrees.records;
    } in
    subst (λ (r : Run). Agrees there next r s)
    (sym (same ∙ ap (λ (a : KeptActivation). record old { callers = new.callers; activation = a; pending = new.pending }) alike)) fields

-- what stands behind a turn of a for goes on, where there is a for less
pub ends_turn : (old new : Run) (work : Vec Work Global) (left : List Caller) (env : Surroundings) (outer : Resumption) (s : State) →
    Agrees env outer old s → old.callers.items ≡ left ++ caller.For work ∷ [] → new ≡ record old { callers = new.callers; pending = work } →
    new.callers.items ≡ left → Continues (outer (operands_of old) s) (Ok None) new
ends_turn old new work left env outer s agrees popped same rest =
    let tree = old.tree.now in
    let waits : Waits tree env old.activation outer (caller.For work ∷ reverse left) =
    subst (λ (l : List Caller). Waits tree env old.activation outer l) (ap reverse popped ∙ reverse_push left (caller.For work)) agrees.waits in
    let there = waits.0 in
    let next = waits.1 in
    let inner = within_for there waits.2 in
    let is : env ≡ inner = waits.3 in
    let seen : Sees inner.visible tree old.activation =
    subst (λ (v : Environment). Sees v tree old.activation) (ap (λ (e : Surroundings). e.visible) is) agrees.visible in
    let fields : Agrees there next (record old { callers = new.callers; pending = work }) s = record {
      visible = record { variables = seen.variables; types = seen.types };
      calls = sym (ap (λ (e : Surroundings). e.calls) is) ∙ agrees.calls;
      waits = subst (λ (l : List Caller). Waits tree there old.activation next (reverse l)) (sym rest) waits.4;
      deep = agrees.deep;
      few = agrees.few;
      store = agrees.store;
      input = agrees.input;
      output = agrees.output;
      turns = agrees.turns;
      activations = agrees.activations;
      records = agrees.records ∙ ap (λ (e : Surroundings). e.records) is;
    } in (
      there,
      next,
      s,
      subst (λ (r : Run). Agrees there next r s) (sym same) fields,
      waits.5 (operands_of old) s ∙ ap (λ (r : Run). pending_of there next (reverse r.pending.items) (operands_of r) s) (sym same),
    )

-- a turn of a for begins, while what was pending waits
pub agrees_within : (old new : Run) (work : Vec Work Global) (finished : ℕ) (env : Surroundings) (outer : Resumption) (s : State) →
    Agrees env outer old s → work.items ≡ old.pending.items → new.callers.items ≡ old.callers.items ++ caller.For work ∷ [] →
    new ≡ record old { callers = new.callers; pending = new.pending } →
    Agrees (within_for env finished) (pending_of env outer (reverse old.pending.items)) new s
agrees_within old new work finished env outer s agrees kept pushed same =
    let tree = old.tree.now in
    let there = within_for env finished in
    let next = pending_of env outer (reverse old.pending.items) in
    let fields : Agrees there next (record old { callers = new.callers; pending = new.pending }) s = record {
      visible = record { variables = agrees.visible.variables; types = agrees.visible.types };
      calls = agrees.calls;
      waits = subst (λ (l : List Caller). Waits tree there old.activation next l)
          (sym (ap reverse pushed ∙ reverse_push old.callers.items (caller.For work)))
          (env, outer, finished, refl, agrees.waits, λ operands t. ap (λ (l : List Work). pending_of env outer (reverse l) operands t) (sym kept));
      deep = agrees.deep;
      few = agrees.few;
      store = agrees.store;
      input = agrees.input;
      output = agrees.output;
      turns = agrees.turns;
      activations = agrees.activations;
      records = agrees.records;
    } in
    subst (λ (r : Run). Agrees there next r s) (sym same) fields

-- an access begins where the meaning has it
pub starts_there : (env : Surroundings) (outer : Resumption) (run : Run) (s : State) (origin : Origin) → Agrees env outer run s →
    begun origin env ≡ start_of run.activation run.tree.now.variables.items origin
starts_there env outer run s (AtVariable root) agrees = agrees.visible.variables root
starts_there env outer run s (AtRecord root slot path) agrees = ap (λ (l : List (Option Place)). place_at (slice_get l slot)) (sym agrees.records)

-- what is said of a result that isn't an error follows from what is
pub then_ok : {A B C : Type 0} (result : Result C AllocError) → OnOk result A → (A → B) → OnOk result B
then_ok (Ok c) a next = next a
then_ok (Err e) a next = tt

pub always_ok : {B C : Type 0} (result : Result C AllocError) → B → OnOk result B
always_ok (Ok c) b = b
always_ok (Err e) b = tt
