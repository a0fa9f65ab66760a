-- The code of a well formed tree follows its program, in full and without the checks of sites at which it never errs.
use Rattle.code_generator.proofs.Words.{◌≡◌, ℕ, suc, ◌+◌, ◌-◌, ◌*◌, ◌<◌, ◌≤◌, ◌⊎◌, inl, inr, ⊎_elim, List, [], ◌∷◌, ◌++◌, length, Option, Some, None, refl, sym}
use Rattle.code_generator.proofs.Words.{ap, ◌∙◌, subst, arith, length-append, append_assoc, append-nil, Bool, true, false, replicate, nat_lt, slice_get}
use Rattle.code_generator.proofs.Words.{if◌then◌else◌, pos, slice_get_within, cases_lt, lt-ltb, Instr, Block, Tree, IsWellFormed, Ending, Action, Reply, Gives}
use Rattle.code_generator.proofs.Words.{Cell, Undefined, Number, State, moved, routines_of, block_depth, living_need, Scope, block_scope, count, other_cells}
use Rattle.code_generator.proofs.Words.{parameter_cells}
use Rattle.std.specs.Prelude.{take}
use Rattle.std.specs.Option.{option_map_or}
use Rattle.std.proofs.Math.Nat.{mul-add}
use Rattle.std.proofs.Math.Seq.{get_or-append_seam}
use Rattle.std.proofs.lemmas.List.Sums.{count_by_more_yes, count_by_more_no, count_by-le-length}
use Rattle.std.proofs.lemmas.Option.{slice_get-get_or, get_or_from_slice_get}
use Rattle.std.proofs.lemmas.Bool.{or_parts, ltb-false, le-ltb}
use Rattle.pcode_assembler.specs.declared.code.Code.{Code}
use Rattle.pcode_assembler.specs.declared.code.Point.{Point as PlainPoint}
use Rattle.pcode_assembler.specs.declared.code.Site.{Site as Plain}
use Rattle.pcode_assembler.specs.declared.instr.Instr.TheVariants as instr
use Rattle.meaning.specs.declared.outcome.Ending.TheVariants as ending
use Rattle.meaning.specs.Effect as effect
use Rattle.meaning.specs.Laws.{state_after}
use Rattle.meaning.specs.Meaning as meant
use Rattle.meaning.specs.Meaning.{Meaning, effect_of, ended, meaning}
use Rattle.stack_machine.specs.declared.stop.Stop.TheVariants as stop
use Rattle.run_ports.specs.Feeding.{failing}
use Rattle.stack_machine.specs.Failures.{is_read_failed}
use Rattle.stack_machine.specs.Frames.{entered}
use Rattle.stack_machine.specs.Machine.{Tables, tables_of, with_frame}
use Rattle.stack_machine.specs.Run as runs
use Rattle.stack_machine.specs.Run.{Outcome, machine, machine_on, steps}
use Rattle.check_remover.specs.Strip.{check_site, is_among, stays, moved_place, KeepsInstructions}
use Rattle.code_scheme.specs.Code.{block_code, blocks_code, program_code, stmt_code}
use Rattle.code_scheme.specs.Need.{block_need}
use Rattle.code_scheme.proofs.Depths.{block_within}
use Rattle.code_generator.specs.Follows.{BeginsWith, StopsAs, DoesAll, DoesAsMuch, IsExplained, IsFullAtCall, Follows, most_cells}
use Rattle.code_generator.specs.Known.{Known}
use Rattle.code_scheme.specs.Large.{is_too_large}
use Rattle.code_generator.specs.Laws.{StrippedFollows}
use Rattle.code_generator.specs.Tables.{point_table, site_table}
use Rattle.code_generator.proofs.Acts.{framed}
use Rattle.code_generator.proofs.Calling.{enters, full}
use Rattle.code_generator.proofs.Calls.{calls_run}
use Rattle.code_generator.proofs.Cells.{others_few}
use Rattle.code_generator.proofs.Closing.{Closes, closing, count_grows, first_block, more_behind, most_repeats, repeats_within, take_short}
use Rattle.code_generator.proofs.Explained.{as_much, as_much_more, end_over, explained_cut, explained_done, explained_full}
use Rattle.code_generator.proofs.Explained.{explained_more, leads_before, leads_to, stops_end}
use Rattle.code_generator.proofs.Withs.{block_good}
use Rattle.code_generator.proofs.ProgramStart as started
use Rattle.code_generator.proofs.Reach.{Target, StandsAt, Stands, stands_front, stands_back, Comes, IsOver, Stops, comes_by, comes_on, comes_less, WritesOn}
use Rattle.code_generator.proofs.Reach.{begins_itself, stops_on, stops_by}
use Rattle.code_generator.proofs.Repeats.{repeats}
use Rattle.code_generator.proofs.Running as running
use Rattle.code_generator.proofs.Setting.{Setting, on, around, Halts, Ends, Starves}
use Rattle.code_generator.proofs.Stmts.{stmt_runs}
use Rattle.code_generator.proofs.Running.{Executes, kept_on}

-- the tables of some code
same_tables : (code : Code) (tables : Tables) → code.sites.items ≡ tables.sites → code.points.items ≡ tables.points → tables_of code ≡ tables
same_tables code tables sites points = ap (λ s. tables_with s code.points.items) sites ∙ ap (tables_with tables.sites) points
  where
    tables_with : List Plain → List PlainPoint → Tables
    tables_with s p = record { sites = s; points = p }

-- a program whose code stands in the machine's code, with the checks of some sites left out at which it never errs
module _ (known : Known) (tree : Tree) (well : IsWellFormed tree) (short : is_too_large tree ≡ false) (target : Target)
    (grown : (input : List ℕ) (cells budget more : ℕ)
    → BeginsWith (runs.run_of target.tables target.code (runs.whole input) cells (budget + more)).output
    (runs.run_of target.tables target.code (runs.whole input) cells budget).output)
    (sites_are : target.tables.sites ≡ site_table tree.sites.items)
    (points_are : target.tables.points ≡ point_table tree.points.items) (stands : Stands target 0 (program_code tree)) (starts : target.to 0 ≡ 0)
    (comes_back : (place n routine : ℕ) → slice_get target.whole place ≡ Some (instr.CallProcedure n routine)
    → (target.to place + 1 < length target.code) × (target.to place + 1 ≤ 1000000))
    (repeats_are_few : (number : ℕ) (block : Block) → slice_get tree.blocks.items number ≡ Some block → suc (repeats block.body) ≤ target.rate)
    (never : (input : List ℕ) (turns site : ℕ) → (meaning tree input turns).ending ≡ ending.Error site → target.is_open site ≡ false → ⊥) where
  module _ (block : Block) (blocks : List Block) (blocks_are : tree.blocks.items ≡ block ∷ blocks) where
    block_is : slice_get tree.blocks.items 0 ≡ Some block
    block_is = ap (λ bs. slice_get bs 0) blocks_are

    abbrev scope : Scope
    scope = block_scope tree (routines_of tree) 0

    abbrev body : List Instr
    body = stmt_code block.body scope 1

    abbrev variables : ℕ
    variables = other_cells tree 0

    abbrev depth : ℕ
    depth = block_depth block

    abbrev needed_cells : ℕ
    needed_cells = 4 + parameter_cells tree 0 + variables + depth

    abbrev behind : List Instr
    behind = blocks_code tree (routines_of tree) 1 blocks (0 + length (block_code tree 0 block scope 0))

    own_stands : Stands target 0 (instr.Enter (count variables) (count depth) ∷ (body ++ instr.Stop ∷ []))
    own_stands =
        stands_front target 0 (block_code tree 0 block scope 0) behind
        (subst (Stands target 0) (ap (λ bs. blocks_code tree (routines_of tree) 0 bs 0) blocks_are) stands)

    -- all variables are counted
    variables_counted : count variables ≡ variables
    variables_counted = omega (arith, others_few tree well short 0 block block_is)

    none : parameter_cells tree 0 ≡ 0
    none = started.none_here tree well block block_is

    -- so many turns have no instruction yet behind which they were used
    abbrev slack : ℕ
    slack = repeats block.body

    module _ (input : List ℕ) (cells : ℕ) (small : cells ≤ most_cells) where
      abbrev start : State
      start = runs.first_state (runs.whole input) cells

      -- a run of so many instructions
      abbrev made : ℕ → Outcome
      made budget = steps target.tables target.code budget start

      abbrev links : List Cell
      links = Number (pos 0) ∷ Number (pos 0) ∷ Undefined ∷ Undefined ∷ []

      -- The frame doesn't fit: what is counted of the evaluations is all that they need, or as much as a machine has.
      refuses : cells < needed_cells → Stops target start (record { output = []; stop = stop.StoreFull })
      refuses h =
          stops_by target (instr.Enter (count variables) (count depth)) start stop.StoreFull
          (ap (slice_get target.code) (sym starts) ∙ own_stands.0.0)
          (ap (with_frame (record start { place = 1 }))
          (full 0 4 cells links (count variables) (count depth) (omega (arith, h, none, variables_counted, small))))

      needed : cells < needed_cells → cells < block_need tree 0
      needed h = omega (arith, h, block_within tree 0 block block_is)

      -- what a run of the machine comes to for so many turns: it stops as the program ends; or the turns were used up, and
      -- it goes on by as many instructions at least, but for the slack; or its store is full at a call
      abbrev Arrives : ℕ → Meaning → Type 0
      Arrives turns m =
          ((j : ℕ) × DoesAll tree m (made j))
          ⊎ (((m.ending ≡ ending.More) × (there : State) × Comes target (turns - slack) start there × (there.output ≡ m.output))
          ⊎ ((j : ℕ) × ((made j).stop ≡ stop.StoreFull) × (used : ℕ) × IsFullAtCall tree input cells used (made j)))

      module _ (fits : needed_cells ≤ cells) (turns : ℕ) where
        abbrev setting : Setting
        setting =
            started.setting known tree well short target sites_are points_are stands comes_back repeats_are_few input cells small block block_is fits turns

        abbrev first_cells : List Cell
        first_cells =
            started.cells known tree well short target sites_are points_are stands comes_back repeats_are_few input cells small block block_is fits turns

        abbrev first : effect.State
        first = meant.first_state input turns

        abbrev inside : State
        inside = on setting (first_cells ++ []) 1 first

        comes_in : Comes target 1 start inside
        comes_in =
            let there : State = record start { frames = framed 0 needed_cells cells first_cells; place = 1 } in
            let limit : 4 + count variables + count depth ≡ needed_cells = omega (arith, none, variables_counted, small, fits) in
            let does : entered (count variables) (count depth) (framed 0 4 cells links) ≡ Some (framed 0 needed_cells cells first_cells) =
            enters 0 4 cells links (count variables) (count depth) (omega (arith, limit, fits))
            ∙ ap (λ n. Some (framed 0 n cells (links ++ replicate (count variables) Undefined))) limit
            ∙ ap (λ n. Some (framed 0 needed_cells cells (links ++ replicate n Undefined))) variables_counted in
            let came = comes_by target (instr.Enter (count variables) (count depth)) start there
            (ap (slice_get target.code) (sym starts) ∙ own_stands.0.0) (ap (with_frame (record start { place = 1 })) does) in
            let second : target.to 1 ≡ 1 = own_stands.0.1 ∙ ap (λ n. n + 1) starts in
            subst (λ cs. Comes target 1 start (on setting cs 1 first)) (sym (append-nil first_cells))
            (subst (λ index. Comes target 1 start (record there { place = index })) (sym second) came)

        abbrev does : Action (Unit {0})
        does = effect_of block.body (around setting)

        body_runs : Executes setting inside [] (1 + length body) does first
        body_runs =
            stmt_runs block.body setting (calls_run (suc turns)) (omega arith) 1 first_cells [] first
            (stands_front target 1 body (instr.Stop ∷ []) own_stands.1) (block_good tree well 0 block block_is)
            (started.first_based known tree well short target sites_are points_are stands comes_back repeats_are_few input cells small block block_is fits
            turns) (omega (arith, none, others_few tree well short 0 block block_is)) (omega arith)

        means : meaning tree input turns ≡ ended (does first)
        means = ap (λ o. ended (meant.run_of tree (suc turns) o first)) block_is

        halted : (m : State) (end : Ending) (output : List ℕ) → Comes target 1 start m → Halts setting m end output
            → Arrives turns (record { output = output; ending = end })
        halted m end output l h =
            let u = stops_on target 1 start m _ l h.stops in
            inl (u.budget, (ap (λ o. o.output) u.so, subst (StopsAs tree end) (sym (ap (λ o. o.stop) u.so)) h.so))

        arrives_at : (m : State) (end : Ending) (output : List ℕ) → Comes target 1 start m → Ends setting turns m end output
            → ((site : ℕ) → end ≡ ending.Error site → target.is_open site ≡ false → ⊥) → Arrives turns (record { output = output; ending = end })
        arrives_at m ending.Finished output l e open_alone = halted m ending.Finished output l e
        arrives_at m (ending.Error site) output l (inl e) open_alone = halted m (ending.Error site) output l e
        arrives_at m (ending.Error site) output l (inr closed) open_alone = absurd (open_alone site refl closed)
        arrives_at m (ending.Input point fault) output l e open_alone = halted m (ending.Input point fault) output l e
        arrives_at m ending.More output l e open_alone =
            inr (inl (
              refl,
              e.0,
              comes_less target (turns - slack) (1 + (turns - slack)) start e.0 (omega arith)
                  (comes_on target 1 (turns - slack) start m e.0 l e.1),
              e.2,
            ))

        -- the end of the body is the end of the run
        finishes : (r : Reply (Unit {0})) → running.Arrives setting (kept_on setting [] (1 + length body)) turns inside r
            → ((site : ℕ) → (ended r).ending ≡ ending.Error site → target.is_open site ≡ false → ⊥) → Arrives turns (ended r)
        finishes (Gives tt s) e open_alone =
            let last = on setting (e.0.0 ++ []) (1 + length body) s in
            let at_end = stands_back target 1 body (instr.Stop ∷ []) own_stands.1 in
            let t = stops_by target instr.Stop last stop.Finished at_end.0.0 refl in
            let u = stops_on target 1 start inside _ comes_in (stops_on target (turns - s.turns + 0) inside last _ e.1 t) in
            inl (u.budget, (ap (λ o. o.output) u.so, ap (λ o. o.stop) u.so))
        finishes (effect.Stops end s) e open_alone = arrives_at inside end s.output comes_in e open_alone

        -- the store was full at a call
        starves : Starves setting inside does first → Arrives turns (meaning tree input turns)
        starves x =
            let used = x.0 in
            let there = x.1 in
            let s : effect.State = meant.first_state input used in
            let le = x.5 in
            let deeper : suc used + (turns - used) ≡ suc turns = omega (arith, le) in
            let shorter : meant.run tree input used ≡ effect.Stops ending.More there =
            ap (λ o. meant.run_of tree (suc used) o s) block_is
            ∙ known.deeper tree (suc used) (turns - used) (around setting).visible [] block.body s (omega arith)
            ∙ ap (λ d. effect_of block.body (record { visible = (around setting).visible; records = []; calls = meant.calls_of tree d }) s) deeper
            ∙ x.2 in
            let u = stops_on target 1 start inside _ comes_in x.3 in
            let needs : cells < living_need tree there.starved = x.4 in
            inr (inr (
              u.budget,
              ap (λ o. o.stop) u.so,
              used,
              record {
                writes = ap (λ o. o.output) u.so ∙ sym (ap (λ r. (ended r).output) shorter);
                starves = ap (λ r. (ended r).ending) shorter;
                needs = subst (λ (r : Reply (Unit {0})). cells < living_need tree (state_after r).starved) (sym shorter) needs;
              },
            ))

        arrives : Arrives turns (meaning tree input turns)
        arrives =
            ⊎_elim starves
            (λ e. subst (Arrives turns) (sym means)
            (finishes (does first) e (λ site errs closed. never input turns site (ap (λ (m : Meaning). m.ending) means ∙ errs) closed)))
            body_runs

      -- the run of so many instructions, by the number of cells
      abbrev run : ℕ → Outcome
      run budget = runs.run_of target.tables target.code (runs.whole input) cells budget

      run_small : (budget : ℕ) → cells < 4 → run budget ≡ record { output = []; stop = stop.StoreFull }
      run_small budget h = ap (λ b. if b then record { output = []; stop = stop.StoreFull } else made budget) (lt-ltb cells 4 h)

      run_large : (budget : ℕ) → 4 ≤ cells → run budget ≡ made budget
      run_large budget h = ap (λ b. if b then record { output = []; stop = stop.StoreFull } else made budget) (le-ltb cells 4 h)

      writes_on : 4 ≤ cells → WritesOn target.tables target.code start
      writes_on h first more =
          subst (λ (o : Outcome). BeginsWith o.output (made first).output) (run_large (first + more) h)
          (subst (λ (o : Outcome). BeginsWith (run (first + more)).output o.output) (run_large first h) (grown input cells first more))

      -- more turns than it can use up
      abbrev enough : ℕ → ℕ
      enough budget = suc (target.rate * budget) + slack

      more_steps : (budget n : ℕ) → enough budget - slack ≤ target.rate * n → budget < n
      more_steps budget n le =
          ⊎_elim (λ (less : budget < n). less)
          (λ (more : n ≤ budget).
          let both : n + (budget - n) ≡ budget = omega (arith, more) in
          let whole = ap (λ k. target.rate * k) both in
          absurd (omega (arith, le, whole, mul-add target.rate n (budget - n))))
          (cases_lt budget n)

      explained_large : (budget : ℕ) → WritesOn target.tables target.code start → Arrives (enough budget) (meaning tree input (enough budget))
          → IsExplained tree input cells (made budget) (made budget).stop
      explained_large budget on (inl d) =
          explained_done tree input cells (enough budget) (made budget) (made d.0)
          (leads_to target.tables target.code budget d.0 start on
          (end_over _ (stops_end tree (meaning tree input (enough budget)).ending (made d.0).stop d.1.1)))
          d.1 (made budget).stop refl
      explained_large budget on (inr (inl more)) =
          let x = more.2.by 0 in
          let less = more_steps budget x.0 x.1 in
          let at_end : x.0 + 0 ≡ x.0 = omega arith in
          let there = ap made (sym at_end) ∙ x.2 in
          explained_more tree input cells (made budget) (made x.0) (leads_before target.tables target.code budget x.0 start on (omega (arith, less)))
          (ap (λ (o : Outcome). o.stop) there) (
            enough budget,
            subst (BeginsWith (meaning tree input (enough budget)).output) (sym (ap (λ (o : Outcome). o.output) there ∙ more.3))
                (begins_itself (meaning tree input (enough budget)).output),
          ) (made budget).stop refl
      explained_large budget on (inr (inr f)) =
          explained_full tree input cells (made budget) (made f.0)
          (leads_to target.tables target.code budget f.0 start on (subst IsOver (sym f.1) tt)) f.1 (inr (f.2, f.3))
          (f.2, subst (BeginsWith (meaning tree input f.2).output) (sym f.3.writes) (begins_itself (meaning tree input f.2).output)) (made budget).stop refl

      explained : (budget : ℕ) → WritesOn target.tables target.code start → IsExplained tree input cells (made budget) (made budget).stop
      explained budget on =
          ⊎_elim
          (λ (less : cells < needed_cells).
          let f = refuses less in
          let none_out = ap (λ (o : Outcome). o.output) f.so in
          let is_full = ap (λ (o : Outcome). o.stop) f.so in
          explained_full tree input cells (made budget) (made f.budget)
          (leads_to target.tables target.code budget f.budget start on (subst IsOver (sym is_full) tt)) is_full (inl (none_out, needed less))
          (0, ((meaning tree input 0).output, ap (λ o. o ++ (meaning tree input 0).output) (sym none_out))) (made budget).stop refl)
          (λ large. explained_large budget on (arrives large (enough budget)))
          (cases_lt cells needed_cells)

      sound : (budget : ℕ) → IsExplained tree input cells (run budget) (run budget).stop
      sound budget =
          ⊎_elim
          (λ (less : cells < 4). subst (λ r. IsExplained tree input cells r r.stop) (sym (run_small budget less))
          (inl (refl, needed (omega (arith, less)))))
          (λ (large : 4 ≤ cells). subst (λ r. IsExplained tree input cells r r.stop) (sym (run_large budget large)) (explained budget (writes_on large)))
          (cases_lt cells 4)

      abbrev Completes : ℕ → Type 0
      Completes turns = ((budget : ℕ) × DoesAsMuch tree (meaning tree input turns) (run budget)) ⊎ ((budget : ℕ) × ((run budget).stop ≡ stop.StoreFull))

      completed_by : (turns : ℕ) → 4 ≤ cells → Arrives turns (meaning tree input turns) → Completes turns
      completed_by turns h (inl d) =
          inl (
            d.0,
            subst (DoesAsMuch tree (meaning tree input turns)) (sym (run_large d.0 h))
                (as_much tree (meaning tree input turns).output (meaning tree input turns).ending (made d.0) d.1),
          )
      completed_by turns h (inr (inl more)) =
          let x = more.2.by 0 in
          let at_end : x.0 + 0 ≡ x.0 = omega arith in
          let there = ap made (sym at_end) ∙ x.2 in
          let wrote : (made x.0).output ≡ (meaning tree input turns).output = ap (λ (o : Outcome). o.output) there ∙ more.3 in
          inl (
            x.0,
            subst (DoesAsMuch tree (meaning tree input turns)) (sym (run_large x.0 h))
                (as_much_more tree (meaning tree input turns).output (meaning tree input turns).ending (made x.0) more.0
                (subst (λ o. BeginsWith o (meaning tree input turns).output) (sym wrote) (begins_itself (meaning tree input turns).output))),
          )
      completed_by turns h (inr (inr f)) = inr (f.0, ap (λ (o : Outcome). o.stop) (run_large f.0 h) ∙ f.1)

      complete_large : (turns : ℕ) → 4 ≤ cells → Completes turns
      complete_large turns h =
          ⊎_elim
          (λ (less : cells < needed_cells).
          let f = refuses less in inr (f.budget, ap (λ (o : Outcome). o.stop) (run_large f.budget h ∙ f.so)))
          (λ large. completed_by turns h (arrives large turns))
          (cases_lt cells needed_cells)

      complete : (turns : ℕ) → Completes turns
      complete turns =
          ⊎_elim (λ (less : cells < 4). inr (0, ap (λ (o : Outcome). o.stop) (run_small 0 less))) (complete_large turns) (cases_lt cells 4)

  -- code with these instructions and sites follows the program
  pub follows_there : (code : Code) → code.instructions.items ≡ target.code → code.sites.items ≡ site_table tree.sites.items
      → code.points.items ≡ point_table tree.points.items → Follows code tree
  follows_there code is sites points =
      let f = first_block tree.blocks.items well.a_block in
      let tables = same_tables code target.tables (sites ∙ sym sites_are) (points ∙ sym points_are) in
      let same : (input : List ℕ) (cells budget : ℕ)
      → machine code input cells budget ≡ runs.run_of target.tables target.code (runs.whole input) cells budget =
      λ input cells budget. ap (λ t. runs.run_of t code.instructions.items (runs.whole input) cells budget) tables
      ∙ ap (λ i. runs.run_of target.tables i (runs.whole input) cells budget) is in
      let sound_there : (input : List ℕ) (cells budget : ℕ) → cells ≤ most_cells
      → IsExplained tree input cells (machine code input cells budget) (machine code input cells budget).stop =
      λ input cells budget small. subst (λ r. IsExplained tree input cells r r.stop) (sym (same input cells budget))
      (sound f.0 f.1 f.2 input cells small budget) in
      record {
        sound = sound_there;
        failing = λ given rest cells budget small.
            let run = machine_on code (failing given) cells budget in
            explained_cut (is_read_failed run.stop) tree (given ++ rest) cells run (machine code (given ++ rest) cells) budget
            (known.failures code given rest cells budget) (λ n. sound_there (given ++ rest) cells n small);
        complete = λ input cells turns small. subst (λ (g : ℕ → Outcome). ((budget : ℕ) × DoesAsMuch tree (meaning tree input turns) (g budget))
            ⊎ ((budget : ℕ) × ((g budget).stop ≡ stop.StoreFull))) (sym (λ i budget. same input cells budget i)) (complete f.0 f.1 f.2 input cells small turns);
      }

-- ---- the full code, and the code without the checks of some sites

-- where no place moves, each instruction stays as it is
unmoved : (i : Instr) → moved (λ place. place) i ≡ i
unmoved (instr.Jump target) = refl
unmoved (instr.JumpIfFalse target) = refl
unmoved (instr.CallProcedure n target) = refl
unmoved i = refl

all_open : (site : Option ℕ) → option_map_or (λ (_ : ℕ). true) site true ≡ true
all_open None = refl
all_open (Some site) = refl

-- a turn of each repeat of a block, and one for its call
abbrev rate_of : Tree → ℕ
rate_of tree = suc (most_repeats tree.blocks.items)

-- the full code as it stands
abbrev as_it_is : ℕ → Tables → List Instr → Target
as_it_is most tables code =
    record { tables = tables; code = code; whole = code; to = λ place. place; is_open = λ _. true; rate = suc most; one_at_least = omega arith }

stands_itself : (most : ℕ) (tables : Tables) (is before : List Instr) → Stands (as_it_is most tables (before ++ is)) (length before) is
stands_itself most tables [] before = tt
stands_itself most tables (i ∷ is) before =
    let t = as_it_is most tables (before ++ i ∷ is) in
    let within : length before < length (before ++ i ∷ is) = omega (arith, length-append before (i ∷ is)) in
    let here = slice_get-get_or (before ++ i ∷ is) (length before) i within ∙ ap Some (get_or-append_seam before i is i) in
    let n : length (before ++ i ∷ []) ≡ length before + 1 = omega (arith, length-append before (i ∷ [])) in
    let rest = stands_itself most tables is (before ++ i ∷ []) in
    let rest' = subst (λ l. Stands (as_it_is most tables l) (length (before ++ i ∷ [])) is) (append_assoc before (i ∷ []) is) rest in (
      subst (StandsAt t (length before) i) (sym (all_open (check_site i))) (here ∙ ap Some (sym (unmoved i)), refl),
      subst (λ m. Stands t m is) n rest',
      here,
    )

module _ (tree : Tree) (well : IsWellFormed tree) (short : is_too_large tree ≡ false) where
  whole_short : length (program_code tree) ≤ 1000000
  whole_short = ltb-false 1000000 (length (program_code tree)) (or_parts (nat_lt 1000000 (length (program_code tree))) _ short).0

  few_repeats : (number : ℕ) (block : Block) → slice_get tree.blocks.items number ≡ Some block → suc (repeats block.body) ≤ rate_of tree
  few_repeats number block at = omega (arith, repeats_within tree.blocks.items number block at)

  -- behind a call another instruction follows
  call_within : (place n routine : ℕ) → slice_get (program_code tree) place ≡ Some (instr.CallProcedure n routine)
      → (place + 1 < length (program_code tree)) × (place + 1 ≤ 1000000)
  call_within place n routine at =
      let m = more_behind (program_code tree) place n routine (closing tree well.a_block) at in
      let long = ap length m.2 ∙ length-append m.0 (m.1 ∷ []) in
      (omega (arith, m.4, long), omega (arith, m.4, long, whole_short))

-- with more instructions code writes on
grown_by : Known → (code : Code) (tables : Tables) (is : List Instr) → tables_of code ≡ tables → code.instructions.items ≡ is
    → (input : List ℕ) (cells budget more : ℕ)
    → BeginsWith (runs.run_of tables is (runs.whole input) cells (budget + more)).output (runs.run_of tables is (runs.whole input) cells budget).output
grown_by known code tables is same_tables same input cells budget more =
    let source = runs.whole input in
    subst (λ i. BeginsWith (runs.run_of tables i source cells (budget + more)).output (runs.run_of tables i source cells budget).output) same
    (subst (λ t. BeginsWith (runs.run_of t code.instructions.items source cells (budget + more)).output
    (runs.run_of t code.instructions.items source cells budget).output) same_tables (known.output code source cells budget more))

-- the tables of a tree
abbrev tables_for : Tree → Tables
tables_for tree = record { sites = site_table tree.sites.items; points = point_table tree.points.items }

-- the code of a well formed tree follows its program
pub follows : Known → (code : Code) (tree : Tree) → code.instructions.items ≡ program_code tree → code.sites.items ≡ site_table tree.sites.items
    → code.points.items ≡ point_table tree.points.items → is_too_large tree ≡ false → IsWellFormed tree → Follows code tree
follows known code tree is sites_are points_are short well =
    let most = most_repeats tree.blocks.items in
    let tables = tables_for tree in
    let same = same_tables code tables sites_are points_are in
    follows_there known tree well short (as_it_is most tables (program_code tree)) (grown_by known code tables (program_code tree) same is) refl refl
    (stands_itself most tables (program_code tree) []) refl
    (call_within tree well short) (few_repeats tree well short) (λ input turns site errs closed. cc) code is sites_are points_are

-- the code as a remover of checks leaves it
abbrev without : ℕ → Tables → List Plain → List Instr → List Instr → Target
without most tables open_sites whole code =
    record {
      tables = tables;
      code = code;
      whole = whole;
      to = moved_place (is_among open_sites) whole;
      is_open = is_among open_sites;
      rate = suc most;
      one_at_least = omega arith;
    }

module _ (most : ℕ) (tables : Tables) (open_sites : List Plain) (whole code : List Instr) (keeps : KeepsInstructions open_sites whole code) where
  abbrev stays_there : Instr → Bool
  stays_there = stays (is_among open_sites)

  abbrev goes_to : ℕ → ℕ
  goes_to = moved_place (is_among open_sites) whole

  one_further : (place : ℕ) (i : Instr) → stays_there i ≡ true → slice_get whole place ≡ Some i → goes_to (place + 1) ≡ goes_to place + 1
  one_further place i stayed here =
      let same = get_or_from_slice_get whole place i i here in
      count_by_more_yes stays_there whole place i (slice_get_within whole place i here) (ap stays_there same ∙ stayed)

  stood_by : (place : ℕ) (i : Instr) (stayed : Bool) → stays_there i ≡ stayed → slice_get whole place ≡ Some i
      → StandsAt (without most tables open_sites whole code) place i stayed
  stood_by place i true stayed here = (keeps place i here stayed, one_further place i stayed here)
  stood_by place i false stayed here =
      let same = get_or_from_slice_get whole place i i here in
      count_by_more_no stays_there whole place i (slice_get_within whole place i here) (ap stays_there same ∙ stayed)

  stands_without : (is before : List Instr) → before ++ is ≡ whole → Stands (without most tables open_sites whole code) (length before) is
  stands_without [] before split = tt
  stands_without (i ∷ is) before split =
      let within : length before < length (before ++ i ∷ is) = omega (arith, length-append before (i ∷ is)) in
      let here = slice_get-get_or (before ++ i ∷ is) (length before) i within ∙ ap Some (get_or-append_seam before i is i) in
      let there = subst (λ l. slice_get l (length before) ≡ Some i) split here in
      let n : length (before ++ i ∷ []) ≡ length before + 1 = omega (arith, length-append before (i ∷ [])) in
      let rest = stands_without is (before ++ i ∷ []) (append_assoc before (i ∷ []) is ∙ split) in (
        stood_by (length before) i (stays_there i) refl there,
        subst (λ m. Stands (without most tables open_sites whole code) m is) n rest,
        there,
      )

  -- what closes the code stays
  closing_stays : (i : Instr) → Closes i → stays_there i ≡ true
  closing_stays instr.Stop closes = refl
  closing_stays (instr.Return results) closes = refl
  closing_stays i closes = absurd closes

  -- behind a call an instruction follows there too
  kept_within : (place n routine : ℕ) → slice_get whole place ≡ Some (instr.CallProcedure n routine) → (front : List Instr) (last : Instr)
      → whole ≡ front ++ last ∷ [] → Closes last → place < length front → length whole ≤ 1000000
      → (goes_to place + 1 < length code) × (goes_to place + 1 ≤ 1000000)
  kept_within place n routine at front last split closes low few =
      let further = one_further place (instr.CallProcedure n routine) refl at in
      let grows = count_grows stays_there whole (place + 1) (length front) (omega (arith, low)) in
      let within : length front < length (front ++ last ∷ []) = omega (arith, length-append front (last ∷ [])) in
      let here = ap (λ l. slice_get l (length front)) split
      ∙ slice_get-get_or (front ++ last ∷ []) (length front) last within ∙ ap Some (get_or-append_seam front last [] last) in
      let kept = keeps (length front) last here (closing_stays last closes) in
      let inside = slice_get_within code (goes_to (length front)) _ kept in
      let fewer = count_by-le-length stays_there (take (place + 1) whole) in
      (omega (arith, further, grows, inside), omega (arith, further, fewer, few, take_short (place + 1) whole))

is_false : (b : Bool) → b ≡ true → b ≡ false → ⊥
is_false b is isnt = cc

-- the code without the checks of sites at which the program never errs follows it too
pub stripped_follows : Known → StrippedFollows
stripped_follows known tree open_sites code well short sites_are points_are keeps never =
    let whole = program_code tree in
    let tables = tables_for tree in
    let same = same_tables code tables sites_are points_are in
    let most = most_repeats tree.blocks.items in
    follows_there known tree well short (without most tables open_sites whole code.instructions.items)
    (grown_by known code tables code.instructions.items same refl) refl refl
    (stands_without most tables open_sites whole code.instructions.items keeps whole [] refl) refl
    (λ place n routine at.
    let m = more_behind whole place n routine (closing tree well.a_block) at in
    kept_within most tables open_sites whole code.instructions.items keeps place n routine at m.0 m.1 m.2 m.3 m.4 (whole_short tree well short))
    (few_repeats tree well short)
    (λ input turns site errs closed. is_false (is_among open_sites site) (never input turns site errs) closed) code refl sites_are points_are
