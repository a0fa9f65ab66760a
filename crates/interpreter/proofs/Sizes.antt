-- How large some pieces of work are.
use Rattle.std.proofs.Common.{◌≡◌, ℕ, ◌+◌, ◌≤◌, inl, inr, List, [], ◌∷◌, ◌++◌, Option, Result, Ok, Err, Vec, Global, map, sum_by, arith, sym, ◌∙◌, ap}
use Rattle.std.specs.declared.alloc.AllocError.{AllocError}
use Rattle.std.proofs.lemmas.List.Sums.{sum_by-cons, sum_by_push}
use Rattle.types.specs.declared.form.TypeId.{TypeId}
use Rattle.typed_tree.specs.declared.tree.Access.{Access}
use Rattle.typed_tree.specs.declared.tree.Whole.{Whole}
use Rattle.typed_tree.specs.declared.tree.Expr.{Expr}
use Rattle.typed_tree.specs.declared.tree.Passed.{Passed}
use Rattle.typed_tree.specs.declared.tree.Passed.TheVariants as passed
use Rattle.typed_tree.specs.declared.tree.Expr.TheOpen.Passed-F.{Whole as PassedWhole, Reference}
use Rattle.typed_tree.specs.declared.tree.Expr.TheFolds.{fold-roll-Passed}
use Rattle.meaning.specs.declared.outcome.Ending.{Ending}
use Rattle.interpreter.specs.declared.interpreter.Run.{Run}
use Rattle.interpreter_state.specs.declared.work.Caller.TheVariants as caller
use Rattle.interpreter_state.specs.declared.work.Work.{Work}
use Rattle.interpreter.specs.Size.{caller_size, pending_size, works_size}
use Rattle.interpreter.specs.Size.{Adds, expression_size, link_size, passed_size, row_size, size_of_passed, size_of_selectors, size_of_whole}

-- what makes no more than so much makes no more than any more
pub adds_within : (old new : Run) (result : Result (Option Ending) AllocError) (less more : ℕ) → Adds less old result new → less ≤ more →
    Adds more old result new
adds_within old new (Ok ending) less more (inl used) few = inl used
adds_within old new (Ok ending) less more (inr none) few = let size = none.1 in inr (none.0, omega (arith, few, size))
adds_within old new (Err refused) less more adds few = tt

-- what makes so much behind a run, makes so much more than that had than the run before it, where no turn was used
pub adds_after : (old mid new : Run) (result : Result (Option Ending) AllocError) (less more : ℕ) → mid.turns ≡ old.turns →
    pending_size mid + less ≤ pending_size old + more → Adds less mid result new → Adds more old result new
adds_after old mid new (Ok ending) less more same few (inl used) = inl (omega (arith, same, used))
adds_after old mid new (Ok ending) less more same few (inr none) = let size = none.1 in inr (none.0 ∙ same, omega (arith, few, size))
adds_after old mid new (Err refused) less more same few adds = tt

-- where all that is pending waits, there is one more to do
pub waits-size : (old mid : Run) (work : Vec Work Global) → mid.pending.items ≡ [] → work.items ≡ old.pending.items →
    mid.callers.items ≡ old.callers.items ++ caller.With work ∷ [] → pending_size mid ≡ pending_size old + 1
waits-size old mid work none kept pushed =
    let alone : works_size mid.pending.items ≡ 0 = ap works_size none in
    let inside : works_size work.items ≡ works_size old.pending.items = ap works_size kept in
    let waiting : sum_by caller_size mid.callers.items ≡ sum_by caller_size old.callers.items + (1 + works_size work.items) =
    ap (sum_by caller_size) pushed ∙ sum_by_push caller_size old.callers.items (caller.With work) in
    omega (arith, alone, inside, waiting)

-- a row, the first one and then the others
pub row-first : {A : Type 0} (each : ℕ) (size : A → ℕ) (first : A) (rest all : List A) → all ≡ first ∷ rest →
    row_size each (map size all) ≡ each + size first + row_size each (map size rest)
row-first each size first rest all is =
    ap (λ l. row_size each (map size l)) is ∙ sum_by-cons (λ size. each + size) (size first) (map size rest)

-- actual parameters
pub whole-size : (type_id : TypeId) (value : Whole) (indexes : Vec Expr Global) (given : Passed) → given ≡ passed.Whole type_id value indexes →
    (all : List Expr) → all ≡ indexes.items → size_of_passed given ≡ 1 + size_of_whole value all
whole-size type_id value indexes given is all same =
    ap size_of_passed (is ∙ sym (passed.rolls-Whole type_id value indexes))
    ∙ fold-roll-Passed ℕ ℕ ℕ expression_size passed_size link_size (PassedWhole type_id value indexes)
    ∙ ap (λ l. 1 + size_of_whole value l) (sym same)

pub reference-size : (type_id : TypeId) (access : Access) (indexes : Vec Expr Global) (given : Passed) →
    given ≡ passed.Reference type_id access indexes → (all : List Expr) → all ≡ indexes.items →
    size_of_passed given ≡ 1 + size_of_selectors access.selectors.items all
reference-size type_id access indexes given is all same =
    ap size_of_passed (is ∙ sym (passed.rolls-Reference type_id access indexes))
    ∙ fold-roll-Passed ℕ ℕ ℕ expression_size passed_size link_size (Reference type_id access indexes)
    ∙ ap (λ l. 1 + size_of_selectors access.selectors.items l) (sym same)
