-- What is known of a run of the machine, where one knows how a longer one ends.
use Rattle.code_generator.proofs.Words.{◌≡◌, ℕ, ◌<◌, ◌≤◌, ◌⊎◌, ⊎_elim, List, ◌++◌, append_assoc, sym, ap, ◌∙◌, subst, arith, cases_lt, Instr, Tree, Ending}
use Rattle.code_generator.proofs.Words.{Bool, true, false}
use Rattle.code_generator.proofs.Words.{State}
use Rattle.meaning.specs.declared.outcome.Ending.TheVariants as ending
use Rattle.meaning.specs.Meaning.{meaning}
use Rattle.stack_machine.specs.declared.stop.Stop.{Stop}
use Rattle.stack_machine.specs.declared.stop.Stop.TheVariants as stop
use Rattle.stack_machine.specs.Laws.{IsCut}
use Rattle.stack_machine.specs.Machine.{Tables}
use Rattle.stack_machine.specs.Run.{Outcome, steps}
use Rattle.code_generator.specs.Follows.{BeginsMeaning, BeginsWith, StopsAs, DoesAll, DoesAsMuch, IsExplained, IsExplainedAs, IsFullAtStart, IsFullAtCall}
use Rattle.code_generator.proofs.Reach.{IsOver, WritesOn, begins_itself, longer, one_end, grows_to}

-- a stop that is an end of the program
abbrev pub IsEnd : Stop → Type 0
IsEnd stop.Finished = Unit {0}
IsEnd (stop.Error site) = Unit {0}
IsEnd (stop.Input point fault) = Unit {0}
IsEnd _ = ⊥

pub stops_end : (tree : Tree) (e : Ending) (s : Stop) → StopsAs tree e s → IsEnd s
stops_end tree ending.Finished s h = subst IsEnd (sym h) tt
stops_end tree (ending.Error id) s h = subst IsEnd (sym h.2) tt
stops_end tree (ending.Input id fault) s h = subst IsEnd (sym h.2) tt
stops_end tree ending.More s h = absurd h

pub end_over : (s : Stop) → IsEnd s → IsOver s
end_over stop.Finished h = tt
end_over (stop.Error site) h = tt
end_over (stop.Input point fault) h = tt
end_over stop.More h = absurd h
end_over stop.StoreFull h = tt
end_over (stop.Fault fault) h = tt
end_over stop.ReadFailed h = tt
end_over stop.WriteFailed h = tt

pub as_much : (tree : Tree) (output : List ℕ) (e : Ending) (run : Outcome) → DoesAll tree (record { output = output; ending = e }) run
    → DoesAsMuch tree (record { output = output; ending = e }) run
as_much tree output ending.Finished run h = h
as_much tree output (ending.Error id) run h = h
as_much tree output (ending.Input id fault) run h = h
as_much tree output ending.More run h = absurd h.1

pub as_much_more : (tree : Tree) (output : List ℕ) (e : Ending) (run : Outcome) → e ≡ ending.More → BeginsWith run.output output
    → DoesAsMuch tree (record { output = output; ending = e }) run
as_much_more tree output ending.Finished run is begins = cc
as_much_more tree output (ending.Error id) run is begins = cc
as_much_more tree output (ending.Input id fault) run is begins = cc
as_much_more tree output ending.More run is begins = begins

begins_further : (whole middle part : List ℕ) → BeginsWith whole middle → BeginsWith middle part → BeginsWith whole part
begins_further whole middle part a b = (b.0 ++ a.0, a.1 ∙ ap (λ l. l ++ a.0) b.1 ∙ append_assoc part b.0 a.0)

-- what is known of a run and of the end that a longer one comes to
pub record Leads (run last : Outcome) : Type 0 where
  pub over : IsOver run.stop → run ≡ last
  pub begins : BeginsWith last.output run.output

module _ (tree : Tree) (input : List ℕ) (cells : ℕ) where
  -- a run that is over
  over_there : (run last : Outcome) (s : Stop) → run.stop ≡ s → Leads run last → IsOver s → run ≡ last
  over_there run last s e l over = l.over (subst IsOver (sym e) over)

  last_stop : (run last : Outcome) (s : Stop) → run.stop ≡ s → Leads run last → IsOver s → last.stop ≡ s
  last_stop run last s e l over = sym (ap (λ (o : Outcome). o.stop) (over_there run last s e l over)) ∙ e

  began : (run last : Outcome) → Leads run last → BeginsMeaning tree input last → BeginsMeaning tree input run
  began run last l whole = (whole.0, begins_further (meaning tree input whole.0).output last.output run.output whole.1 l.begins)

  -- where a longer run does all that the program does
  module _ (turns : ℕ) (run last : Outcome) (l : Leads run last) (d : DoesAll tree (meaning tree input turns) last) where
    done_there : (s : Stop) → run.stop ≡ s → IsOver s → DoesAll tree (meaning tree input turns) run
    done_there s e over = subst (DoesAll tree (meaning tree input turns)) (sym (over_there run last s e l over)) d

    end_there : (s : Stop) → run.stop ≡ s → IsOver s → IsEnd s
    end_there s e over = subst IsEnd (last_stop run last s e l over) (stops_end tree (meaning tree input turns).ending last.stop d.1)

    pub explained_done : (s : Stop) → run.stop ≡ s → IsExplained tree input cells run s
    explained_done stop.Finished e = (turns, done_there stop.Finished e tt)
    explained_done (stop.Error site) e = (turns, done_there (stop.Error site) e tt)
    explained_done (stop.Input point fault) e = (turns, done_there (stop.Input point fault) e tt)
    explained_done stop.More e = (turns, subst (λ o. BeginsWith o run.output) d.0 l.begins)
    explained_done stop.StoreFull e = absurd (end_there stop.StoreFull e tt)
    explained_done (stop.Fault fault) e = end_there (stop.Fault fault) e tt
    explained_done stop.ReadFailed e = end_there stop.ReadFailed e tt
    explained_done stop.WriteFailed e = end_there stop.WriteFailed e tt

  abbrev IsFull : Stop → Type 0
  IsFull stop.StoreFull = Unit {0}
  IsFull _ = ⊥

  abbrev IsFullOf : Outcome → Type 0
  IsFullOf run = IsFullAtStart tree cells run ⊎ ((turns : ℕ) × IsFullAtCall tree input cells turns run)

  -- where a longer run finds its store full
  module _ (run last : Outcome) (l : Leads run last) (full : last.stop ≡ stop.StoreFull) (why : IsFullOf last) (whole : BeginsMeaning tree input last) where
    full_there : (s : Stop) → run.stop ≡ s → IsOver s → IsFull s
    full_there s e over = subst IsFull (sym full ∙ last_stop run last s e l over) tt

    pub explained_full : (s : Stop) → run.stop ≡ s → IsExplained tree input cells run s
    explained_full stop.Finished e = absurd (full_there stop.Finished e tt)
    explained_full (stop.Error site) e = absurd (full_there (stop.Error site) e tt)
    explained_full (stop.Input point fault) e = absurd (full_there (stop.Input point fault) e tt)
    explained_full stop.More e = began run last l whole
    explained_full stop.StoreFull e = subst IsFullOf (sym (over_there run last stop.StoreFull e l tt)) why
    explained_full (stop.Fault fault) e = full_there (stop.Fault fault) e tt
    explained_full stop.ReadFailed e = full_there stop.ReadFailed e tt
    explained_full stop.WriteFailed e = full_there stop.WriteFailed e tt

  -- where a longer run goes on
  module _ (run last : Outcome) (l : Leads run last) (more : last.stop ≡ stop.More) (whole : BeginsMeaning tree input last) where
    goes_on : (s : Stop) → run.stop ≡ s → IsOver s → ⊥
    goes_on s e over = subst IsOver (sym (last_stop run last s e l over) ∙ more) over

    pub explained_more : (s : Stop) → run.stop ≡ s → IsExplained tree input cells run s
    explained_more stop.Finished e = absurd (goes_on stop.Finished e tt)
    explained_more (stop.Error site) e = absurd (goes_on (stop.Error site) e tt)
    explained_more (stop.Input point fault) e = absurd (goes_on (stop.Input point fault) e tt)
    explained_more stop.More e = began run last l whole
    explained_more stop.StoreFull e = absurd (goes_on stop.StoreFull e tt)
    explained_more (stop.Fault fault) e = goes_on (stop.Fault fault) e tt
    explained_more stop.ReadFailed e = goes_on stop.ReadFailed e tt
    explained_more stop.WriteFailed e = goes_on stop.WriteFailed e tt

pub leads_to : (tables : Tables) (code : List Instr) (b j : ℕ) (m : State) → WritesOn tables code m → IsOver (steps tables code j m).stop
    → Leads (steps tables code b m) (steps tables code j m)
leads_to tables code b j m on over = record {
  over = λ over'. one_end tables code b j m over' over;
  begins = ⊎_elim
      (λ (lt : b < j). grows_to tables code b j (omega (arith, lt)) m on)
      (λ (le : j ≤ b).
      subst (λ r. BeginsWith (steps tables code j m).output r.output) (longer tables code j b le m over) (begins_itself (steps tables code j m).output))
      (cases_lt b j);
}

pub leads_before : (tables : Tables) (code : List Instr) (b j : ℕ) (m : State) → WritesOn tables code m → b ≤ j
    → Leads (steps tables code b m) (steps tables code j m)
leads_before tables code b j m on le =
    record { over = longer tables code b j le m; begins = grows_to tables code b j le m on }

-- a run whose reader may fail, beside those of the same code that go on, each of which is explained
pub explained_cut : (is_cut : Bool) (tree : Tree) (input : List ℕ) (cells : ℕ) (run : Outcome) (longer : ℕ → Outcome) (budget : ℕ)
    → IsCut is_cut run longer budget → ((n : ℕ) → IsExplained tree input cells (longer n) (longer n).stop) → IsExplainedAs is_cut tree input cells run
explained_cut true tree input cells run longer budget h sound =
    let wrote : BeginsMeaning tree input (record { output = run.output; stop = stop.More }) =
    subst (λ (o : Outcome). IsExplained tree input cells o o.stop) h.1 (sound h.0) in
    wrote
explained_cut false tree input cells run longer budget h sound = subst (λ (o : Outcome). IsExplained tree input cells o o.stop) h (sound budget)
