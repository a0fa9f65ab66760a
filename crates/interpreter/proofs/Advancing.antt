-- How steps follow one another, until the run ends.
use Rattle.std.proofs.Common.{◌≡◌, List, [], Option, Some, None, Result, Ok, Err, reverse, sym, ◌∙◌, ap, refl, subst}
use Rattle.std.specs.declared.alloc.AllocError.{AllocError}
use Rattle.meaning.specs.declared.outcome.Ending.{Ending}
use Rattle.meaning.specs.declared.outcome.Ending.TheVariants.{Finished}
use Rattle.meaning.specs.Effect.{State, Reply, Gives}
use Rattle.meaning.specs.Meaning.{Surroundings}
use Rattle.interpreter_state.specs.declared.work.Caller.{Caller}
use Rattle.interpreter_state.specs.declared.work.Work.{Work}
use Rattle.interpreter.specs.declared.interpreter.Run.{Run}
use Rattle.interpreter.specs.Pending.{Advances, Agrees, Continues, EndsAs, Proceeds, Resumption, Waits, operands_of, pending_of, rest_of}

-- a step
pub proceeds : (run : Run) (reply other : Reply (Unit {0})) (result : Result (Option Ending) AllocError) → reply ≡ other → Continues other result run →
    Proceeds reply result run
proceeds run reply other (Err refused) is continues = tt
proceeds run reply other (Ok None) is continues = (continues.0, continues.1, continues.2, continues.3, is ∙ continues.4)
proceeds run reply other (Ok (Some ending)) is continues =
    let agrees = continues.3 in
    subst (λ (r : Reply (Unit {0})). EndsAs r run ending) (sym (is ∙ continues.4)) (record { output = agrees.output; ending = refl })

-- steps behind others
pub advances_on : (old run new : Run) (result other : Result (Option Ending) AllocError) → result ≡ other → Advances old (Ok None) run →
    Advances run result new → Advances old other new
advances_on old run new result other is before behind = λ env outer s agrees.
    let there = before env outer s agrees in
    subst (λ (r : Result (Option Ending) AllocError). Proceeds (rest_of env outer old s) r new) is
    (subst (λ (r : Reply (Unit {0})). Proceeds r result new) (sym there.4) (behind there.0 there.1 there.2 there.3))

-- a run that has nothing left to do
pub finishes : (run : Run) (env : Surroundings) (outer : Resumption) (s : State) → run.pending.items ≡ [] → run.callers.items ≡ [] →
    Agrees env outer run s → EndsAs (rest_of env outer run s) run Finished
finishes run env outer s none alone agrees =
    let waits : Waits run.tree.now env run.activation outer [] =
    subst (λ (l : List Caller). Waits run.tree.now env run.activation outer (reverse l)) alone agrees.waits in
    let done : rest_of env outer run s ≡ Gives tt s =
    ap (λ (l : List Work). pending_of env outer (reverse l) (operands_of run) s) none ∙ waits (operands_of run) s in
    subst (λ (r : Reply (Unit {0})). EndsAs r run Finished) (sym done) (record { output = agrees.output; ending = refl })
