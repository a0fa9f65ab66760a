-- What code that follows a program has, whoever made it.
use Rattle.code_generator.proofs.Words.{◌≡◌, ℕ, ◌+◌, ◌<◌, ◌≤◌, ◌⊎◌, List, [], ◌∷◌, ◌++◌, length, Some, None, inl, inr, ap, ◌∙◌, subst, ⊎_elim, arith, slice_get}
use Rattle.code_generator.proofs.Words.{if◌then◌else◌, cases_lt, Tree, Ending, Undefined, living_need}
use Rattle.std.specs.Prelude.{replicate}
use Rattle.std.proofs.lemmas.Bool.{le-ltb, lt-leb}
use Rattle.pcode_assembler.specs.declared.code.Code.{Code}
use Rattle.pcode_assembler.specs.declared.instr.Instr.TheVariants.{Enter}
use Rattle.meaning.specs.declared.outcome.Ending.TheVariants as ending
use Rattle.meaning.specs.Meaning.{meaning}
use Rattle.stack_machine.specs.declared.stop.Stop.{Stop}
use Rattle.stack_machine.specs.declared.stop.Stop.TheVariants as stop
use Rattle.stack_machine.specs.Frames.{first_frames}
use Rattle.stack_machine.specs.Machine.{tables_of, taken, with_frame}
use Rattle.stack_machine.specs.Run.{Outcome, machine, steps, first_state, outcome_of, whole}
use Rattle.code_generator.specs.Follows.{DoesAll, DoesAsMuch, IsExplained, Follows, IsFullAtStart, IsFullAtCall, most_cells}
use Rattle.code_generator.specs.Laws.{FramesFit, ErrorsCome, starved_in}
use Rattle.code_scheme.specs.Need.{block_need}

-- a run that finds its store full has fewer cells than its first frame or the activations that last may need
full_has_fewer : (tree : Tree) (code : Code) (input : List ℕ) (cells budget : ℕ) → Follows code tree → cells ≤ most_cells
    → (machine code input cells budget).stop ≡ stop.StoreFull
    → (cells < block_need tree 0) ⊎ ((turns : ℕ) × (cells < living_need tree (starved_in tree input turns)))
full_has_fewer tree code input cells budget follows small full =
    ⊎_elim
    (λ (first : IsFullAtStart tree cells (machine code input cells budget)). inl first.1)
    (λ (call : (turns : ℕ) × IsFullAtCall tree input cells turns (machine code input cells budget)). inr (call.0, call.1.needs))
    (subst (IsExplained tree input cells (machine code input cells budget)) full (follows.sound input cells budget small))

-- on a machine with just the need, a larger frame doesn't fit
pub frames_fit : FramesFit
frames_fit tree code variables evaluation rest follows small none is =
    let cells = block_need tree 0 in
    let m = first_state (whole []) cells in
    let tables = tables_of code in
    let enter = Enter variables evaluation in
    let begins : machine code [] cells 1 ≡ steps tables code.instructions.items 1 m =
    ap (λ b. if b then record { output = []; stop = stop.StoreFull } else steps tables code.instructions.items 1 m) (le-ltb cells 4 (omega arith)) in
    let entered = ap (λ is. outcome_of (taken tables (length is) (slice_get is 0) m) [] (steps tables is 0)) is in
    ⊎_elim
    (λ (large : cells < 4 + variables + evaluation).
    let refused = ap (λ b. outcome_of (with_frame (record m { place = 1 }) (if b then Some (record (first_frames cells) {
      cells = (first_frames cells).cells ++ replicate variables Undefined;
      limit = 4 + variables + evaluation;
    }) else None)) [] (steps tables (enter ∷ rest) 0)) (lt-leb (4 + variables + evaluation) cells large) in
    let full = ap (λ (o : Outcome). o.stop) (begins ∙ entered ∙ refused) in
    ⊎_elim
    (λ (first : cells < block_need tree 0). absurd (omega (arith, first)))
    (λ (call : (turns : ℕ) × (cells < living_need tree (starved_in tree [] turns))).
    let nothing = ap (living_need tree) (none call.0) in
    absurd (omega (arith, call.1, nothing)))
    (full_has_fewer tree code [] cells 1 follows small full))
    (λ fits. fits)
    (cases_lt cells (4 + variables + evaluation))

does_all : (tree : Tree) (output : List ℕ) (e : Ending) (id : ℕ) (run : Outcome) → e ≡ ending.Error id
    → DoesAsMuch tree (record { output = output; ending = e }) run → DoesAll tree (record { output = output; ending = ending.Error id }) run
does_all tree output ending.Finished id run is does = cc
does_all tree output (ending.Error at) id run is does = subst (λ e. DoesAll tree (record { output = output; ending = e }) run) is does
does_all tree output (ending.Input point fault) id run is does = cc
does_all tree output ending.More id run is does = cc

outcome_is : (run : Outcome) (output : List ℕ) (s : Stop) → run.output ≡ output → run.stop ≡ s → run ≡ record { output = output; stop = s }
outcome_is run output s p q = ap (λ o. record { output = o; stop = run.stop }) p ∙ ap (λ t. record { output = output; stop = t }) q

-- a store that is large enough is never full
pub errors_come : ErrorsCome
errors_come tree code input turns id cells follows errs small enough =
    elim (follows.complete input cells turns small) [
      | inl does ↦
          let run = machine code input cells does.0 in
          let all = does_all tree (meaning tree input turns).output (meaning tree input turns).ending id run errs does.1 in
          (does.0, all.1.0, all.1.1, outcome_is run (meaning tree input turns).output _ all.0 all.1.2)
      | inr full ↦
          let at_start = enough.at_start in
          ⊎_elim
          (λ (first : cells < block_need tree 0). absurd (omega (arith, first, at_start)))
          (λ (call : (turns : ℕ) × (cells < living_need tree (starved_in tree input turns))).
          let at_call = enough.at_calls call.0 in
          absurd (omega (arith, call.1, at_call)))
          (full_has_fewer tree code input cells full.0 follows small full.1)
    ]
