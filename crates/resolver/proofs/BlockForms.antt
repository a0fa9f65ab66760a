-- Blocks and routines, as they are made: how their typing goes on behind their parts.
use Rattle.std.proofs.Common.{◌≡◌, ℕ, ◌+◌, ◌<◌, ◌≤◌, List, [], ◌∷◌, ◌++◌, length, drop, get_or, map, Option, Some, None, Result, Ok, Err, inl, inr, refl, sym}
use Rattle.std.proofs.Common.{ap, ap₂, subst, ◌∙◌, append-nil}
use Rattle.std.proofs.Common.{append_assoc}
use Rattle.std.specs.Prelude.{option_map}
use Rattle.std.proofs.lemmas.Grind.{flat_map-append}
use Rattle.std.proofs.lemmas.List.{drop_more, at_drop_all}
use Rattle.syntax_tree.specs.declared.Block.{Block as SyntaxBlock}
use Rattle.syntax_tree.specs.declared.Block.TheFolds.{map-Routine}
use Rattle.syntax_tree.specs.declared.Block.TheViews.{out-Block, out-Routine}
use Rattle.syntax_tree.specs.declared.Heading.{Heading as SyntaxHeading}
use Rattle.syntax_tree.specs.declared.Name.{Name}
use Rattle.syntax_tree.specs.declared.Program.{Program}
use Rattle.syntax_tree.specs.declared.Routine.{Routine}
use Rattle.typed_tree.specs.declared.fault.TypeFault.{TypeFault}
use Rattle.typed_tree.specs.declared.tree.FunctionResult.{FunctionResult}
use Rattle.typed_tree.specs.declared.tree.Heading.{Heading}
use Rattle.typed_tree.specs.declared.tree.Stmt.{Stmt}
use Rattle.typed_tree.specs.Look.{Look, BlockEnds, look_block, look_stmt}
use Rattle.typing.specs.Blocks.{IsBegun, block_begins, block_ends}
use Rattle.typing.specs.View.{enclosing_of}
use Rattle.typing.specs.declared.blocks.BegunBlock.{BegunBlock}
use Rattle.typing.specs.Names.{all_folded}
use Rattle.typing.specs.Outcomes.{IsFault}
use Rattle.typing.specs.Passing.{Headed, Enclosing, Passed, After, Passing, after, behind_marks, each, mark, ◌>>◌}
use Rattle.typing_rules.specs.Checked.{Checked, and_then}
use Rattle.typing.specs.Routines.{Begun, TypedBlock, TypedRoutine, all_came, block_end, definition, group, headed, heading_name, result_at_end, routine_block}
use Rattle.typing.specs.Routines.{routine_step}
use Rattle.typing.specs.Routines.{routine_body, type_definition, typed_block, typed_routine}
use Rattle.typing.specs.Statements.{compound, statement}
use Rattle.typing.specs.Steps.{enclosing_now, heading_at, open_beside, program_heading, with_enclosing}
use Rattle.typing.specs.Typing.{program_typing, typing}
use Rattle.typing.proofs.Rows.{behind_nothing, behind_both, then_assoc}
use Rattle.typing.proofs.Written.{typing_block, typing_routine}
use Rattle.declarations.specs.Parts.{block_declarations, declared}
use Rattle.resolver.specs.Made.{EndsRoutine, MakesBlocks, MakesBody, MakesStmt, look_made, statement_part}
use Rattle.resolver.specs.declared.typed.MadeBlock.{MadeBlock}

-- blocks and others behind them
pub look_both : (own more : List MadeBlock) → look_made (own ++ more) ≡ look_made own ++ look_made more
look_both own more = flat_map-append (λ (made : MadeBlock). look_block made.number made.block) own more

-- ---- a block, behind its declarations

-- three steps, and what comes behind them
behind_three : (first second third rest : Passing (Unit {0})) (s : Passed)
    → (first >> (second >> (third >> rest))) s ≡ ((first >> (second >> third)) >> rest) s
behind_three first second third rest s = sym (then_assoc first (λ _. second >> third) (λ _. rest) s ∙ by (first s))
  where
    by : (outcome : Checked (After (Unit {0})))
        → and_then outcome (λ a. behind_marks a.look (((second >> third) >> rest) a.passed))
        ≡ and_then outcome (λ a. behind_marks a.look ((second >> (third >> rest)) a.passed))
    by (Ok a) = ap (behind_marks a.look) (then_assoc second (λ _. third) (λ _. rest) a.passed)
    by (Err why) = refl

module _ (b : SyntaxBlock) (old : Passed) where
  abbrev rest : Passing (Unit {0})
  rest =
      each (λ (r : TypedRoutine). r.typing) (map typed_routine (out-Block b).routines.items)
      >> (all_came >> compound (map statement (out-Block b).statements.items))

  body_is : (typed_block b).typing old ≡ (block_declarations b >> rest) old
  body_is =
      ap (λ (t : TypedBlock). t.typing old) (typing_block b)
      ∙ behind_three (each definition (out-Block b).constants.items) (each type_definition (out-Block b).types.items)
      (each group (out-Block b).variables.items) rest old

  -- its declarations stop
  pub declarations_stop : (why : TypeFault) → IsFault (block_declarations b old) why → IsFault ((typed_block b).typing old) why
  declarations_stop why (inl memory) = inl memory
  declarations_stop why (inr stops) = inr (body_is ∙ ap (λ o. and_then o (λ a. behind_marks a.look (rest a.passed))) stops)

  module _ (now : Passed) (declares : block_declarations b old ≡ Ok (after tt [] now)) where
    abbrev behind_routines : Checked (After (Unit {0})) → Checked (After (Unit {0}))
    behind_routines outcome =
        and_then outcome (λ a. behind_marks a.look ((all_came >> compound (map statement (out-Block b).statements.items)) a.passed))

    routines_go : (typed_block b).typing old
        ≡ behind_routines (each (λ (r : TypedRoutine). r.typing) (map typed_routine (out-Block b).routines.items) now)
    routines_go =
        body_is ∙ ap (λ o. and_then o (λ a. behind_marks a.look (rest a.passed))) declares
        ∙ behind_nothing (behind_routines (each (λ (r : TypedRoutine). r.typing) (map typed_routine (out-Block b).routines.items) now))

    -- its routines stop
    pub routines_stop : (why : TypeFault) → IsFault (each (λ (r : TypedRoutine). r.typing) (map typed_routine (out-Block b).routines.items) now) why
        → IsFault ((typed_block b).typing old) why
    routines_stop why (inl memory) = inl memory
    routines_stop why (inr stops) = inr (routines_go ∙ ap behind_routines stops)

    module _ (look : Look) (there : Passed)
        (routines : each (λ (r : TypedRoutine). r.typing) (map typed_routine (out-Block b).routines.items) now ≡ Ok (after tt look there)) where
      statements_go : (typed_block b).typing old ≡ behind_marks look (statement_part (out-Block b).statements.items there)
      statements_go = routines_go ∙ ap behind_routines routines

      -- its statements stop
      pub statements_stop : (why : TypeFault) → IsFault (statement_part (out-Block b).statements.items there) why
          → IsFault ((typed_block b).typing old) why
      statements_stop why (inl memory) = inl memory
      statements_stop why (inr stops) = inr (statements_go ∙ ap (behind_marks look) stops)

      -- the block is typed
      pub body_ends : (own : Look) (last : Passed) → statement_part (out-Block b).statements.items there ≡ Ok (after tt own last)
          → (typed_block b).typing old ≡ Ok (after tt (look ++ own) last)
      body_ends own last ends = statements_go ∙ ap (behind_marks look) ends

-- ---- routines, one after another

-- what is left, once some are made
pub record RoutinesFrom (written : List Routine) (old : Passed) (before : List MadeBlock) (i : ℕ) (made : List MadeBlock) (now : Passed) : Type 0 where
  pub own : List MadeBlock
  pub are : made ≡ before ++ own
  pub left : each (λ (r : TypedRoutine). r.typing) (map typed_routine written) old
      ≡ behind_marks (look_made own) (each (λ (r : TypedRoutine). r.typing) (map typed_routine (drop i written)) now)

pub routines_begin : (written : List Routine) (old : Passed) (before : List MadeBlock) → RoutinesFrom written old before 0 before old
routines_begin written old before = record {
  own = [];
  are = sym (append-nil before);
  left = sym (behind_nothing (each (λ (r : TypedRoutine). r.typing) (map typed_routine written) old));
}

module _ (written : List Routine) (old : Passed) (before : List MadeBlock) (i : ℕ) (made : List MadeBlock) (now : Passed)
    (from : RoutinesFrom written old before i made now) (r : Routine) (within : i < length written) (is : r ≡ get_or written i r) where
  abbrev all : Passing (Unit {0})
  all = each (λ (r : TypedRoutine). r.typing) (map typed_routine written)

  abbrev others : Passing (Unit {0})
  others = each (λ (r : TypedRoutine). r.typing) (map typed_routine (drop (i + 1) written))

  abbrev behind_one : Checked (After (Unit {0})) → Checked (After (Unit {0}))
  behind_one outcome = behind_marks (look_made from.own) (and_then outcome (λ a. behind_marks a.look (others a.passed)))

  one_goes : all old ≡ behind_one ((typed_routine r).typing now)
  one_goes =
      from.left
      ∙ ap (λ l. behind_marks (look_made from.own) (each (λ (r : TypedRoutine). r.typing) (map typed_routine l) now)) (drop_more written i r within)
      ∙ ap (λ q. behind_marks (look_made from.own) (each (λ (r : TypedRoutine). r.typing) (map typed_routine (q ∷ drop (i + 1) written)) now)) (sym is)

  -- the next one is made
  pub routine_next : (more new_made : List MadeBlock) (new : Passed) → new_made ≡ made ++ more
      → (typed_routine r).typing now ≡ Ok (after tt (look_made more) new) → RoutinesFrom written old before (i + 1) new_made new
  routine_next more new_made new are passes = record {
    own = from.own ++ more;
    are = are ∙ ap (λ l. l ++ more) from.are ∙ append_assoc before from.own more;
    left =
        one_goes ∙ ap behind_one passes ∙ behind_both (look_made from.own) (look_made more) (others new)
        ∙ ap (λ l. behind_marks l (others new)) (sym (look_both from.own more));
  }

  -- it stops
  pub routine_stops : (why : TypeFault) → IsFault ((typed_routine r).typing now) why → IsFault (all old) why
  routine_stops why (inl memory) = inl memory
  routine_stops why (inr stops) = inr (one_goes ∙ ap behind_one stops)

-- all are made
pub routines_end : (written : List Routine) (old : Passed) (before : List MadeBlock) (i : ℕ) (made : List MadeBlock) (now : Passed)
    (from : RoutinesFrom written old before i made now) → length written ≤ i
    → each (λ (r : TypedRoutine). r.typing) (map typed_routine written) old ≡ Ok (after tt (look_made from.own) now)
routines_end written old before i made now from past =
    from.left
    ∙ at_drop_all (λ l. behind_marks (look_made from.own) (each (λ (r : TypedRoutine). r.typing) (map typed_routine l) now)) written i past
    ∙ ap (λ l. Ok (after tt l now)) (append-nil (look_made from.own))

-- ---- a routine

module _ (r : Routine) (old : Passed) where
  abbrev behind_heading : Checked (After Begun) → Checked (After (Unit {0}))
  behind_heading outcome =
      and_then outcome (λ a. behind_marks a.look (routine_body a.answer (heading_name (out-Routine r).heading)
      (option_map typed_block (out-Routine r).block) a.passed))

  routine_is : (typed_routine r).typing old ≡ behind_heading (headed (out-Routine r).heading old)
  routine_is =
      ap (λ (t : TypedRoutine). t.typing old) (typing_routine r) ∙ by (out-Routine r).heading (out-Routine r).block
    where
      by : (h : SyntaxHeading) (b : Option SyntaxBlock)
          → (routine_step (map-Routine SyntaxBlock Routine TypedBlock TypedRoutine typed_block typed_routine (record { heading = h; block = b }))).typing old
          ≡ and_then (headed h old) (λ a. behind_marks a.look (routine_body a.answer (heading_name h) (option_map typed_block b) a.passed))
      by h None = refl
      by h (Some b) = refl

  -- its heading stops
  pub heading_stops : (why : TypeFault) → IsFault (headed (out-Routine r).heading old) why → IsFault ((typed_routine r).typing old) why
  heading_stops why (inl memory) = inl memory
  heading_stops why (inr stops) = inr (routine_is ∙ ap behind_heading stops)

  -- it goes on behind its heading
  pub heading_passes : (begun : Begun) (now : Passed) → headed (out-Routine r).heading old ≡ Ok (after begun [] now)
      → (typed_routine r).typing old ≡ routine_body begun (heading_name (out-Routine r).heading) (option_map typed_block (out-Routine r).block) now
  heading_passes begun now passes =
      routine_is ∙ ap behind_heading passes
      ∙ behind_nothing (routine_body begun (heading_name (out-Routine r).heading) (option_map typed_block (out-Routine r).block) now)

-- ---- the block of a routine

module _ (number : ℕ) (name : Name) (b : TypedBlock) (old now : Passed) (round : Enclosing) (heading : Headed)
    (begins : block_begins number (all_folded b.names) old ≡ Ok (after (round, heading) [] now)) where
  abbrev behind_body : Checked (After (Unit {0})) → Checked (After (Unit {0}))
  behind_body outcome =
      and_then outcome
      (λ a. behind_marks a.look ((block_end number name.place b.end heading >> block_ends round) a.passed))

  abbrev behind_begun : Checked (After (Enclosing × Headed)) → Checked (After (Unit {0}))
  behind_begun outcome =
      and_then outcome (λ p. and_then (b.typing p.passed)
      (λ a. behind_marks a.look ((block_end number name.place b.end p.answer.1 >> block_ends p.answer.0) a.passed)))

  block_goes : routine_block number name b old ≡ behind_body (b.typing now)
  unfolding routine_block block_begins block_ends enclosing_now heading_at with_enclosing open_beside
  block_goes =
      behind_nothing _ ∙ behind_nothing _ ∙ behind_nothing _ ∙ behind_nothing _ ∙ ap behind_begun begins

  -- its statements or its declarations stop
  pub block_stops : (why : TypeFault) → IsFault (b.typing now) why → IsFault (routine_block number name b old) why
  block_stops why (inl memory) = inl memory
  block_stops why (inr stops) = inr (block_goes ∙ ap behind_body stops)

  module _ (look : Look) (there : Passed) (body : b.typing now ≡ Ok (after tt look there)) where
    abbrev behind_result : Checked (After (Option FunctionResult)) → Checked (After (Unit {0}))
    behind_result outcome =
        behind_marks look (and_then (and_then outcome
        (λ a. behind_marks a.look (mark (BlockEnds number heading.around heading.parameters a.answer b.end) a.passed)))
        (λ a. behind_marks a.look (block_ends round a.passed)))

    result_goes : routine_block number name b old ≡ behind_result (result_at_end name.place b.end heading.result there)
    unfolding block_end
    result_goes = block_goes ∙ ap behind_body body

    -- the result is never assigned, or has no site
    pub result_stops : (why : TypeFault) → IsFault (result_at_end name.place b.end heading.result there) why
        → IsFault (routine_block number name b old) why
    result_stops why (inl memory) = inl memory
    result_stops why (inr stops) = inr (result_goes ∙ ap behind_result stops)

    -- the block ends
    pub block_is_made : (result : Option FunctionResult) (later last : Passed)
        → result_at_end name.place b.end heading.result there ≡ Ok (after result [] later) → block_ends round later ≡ Ok (after tt [] last)
        → routine_block number name b old ≡ Ok (after tt (look ++ (BlockEnds number heading.around heading.parameters result b.end ∷ [])) last)
    block_is_made result later last tests ends =
        result_goes ∙ ap behind_result tests
        ∙ ap (λ o. behind_marks look (behind_marks (BlockEnds number heading.around heading.parameters result b.end ∷ []) o)) ends

-- ---- the program

module _ (program : Program) where
  abbrev own_end : Passing (Unit {0})
  own_end = block_end 0 program.name.place (typed_block program.block).end program_heading

  abbrev behind_program : Checked (After (Unit {0})) → Checked (After (Unit {0}))
  behind_program outcome = and_then outcome (λ a. behind_marks a.look (((typed_block program.block).typing >> own_end) a.passed))

  program_is : typing program ≡ behind_program (declared program)
  unfolding typing program_typing
  program_is = refl

  -- its parameters stop
  pub parameters_stop : (why : TypeFault) → IsFault (declared program) why → IsFault (typing program) why
  parameters_stop why (inl memory) = inl memory
  parameters_stop why (inr stops) = inr (program_is ∙ ap behind_program stops)

  module _ (now : Passed) (declares : declared program ≡ Ok (after tt [] now)) where
    abbrev behind_block : Checked (After (Unit {0})) → Checked (After (Unit {0}))
    behind_block outcome = and_then outcome (λ a. behind_marks a.look (own_end a.passed))

    program_goes : typing program ≡ behind_block ((typed_block program.block).typing now)
    program_goes = program_is ∙ ap behind_program declares ∙ behind_nothing (behind_block ((typed_block program.block).typing now))

    -- its block stops
    pub program_stops : (why : TypeFault) → IsFault ((typed_block program.block).typing now) why → IsFault (typing program) why
    program_stops why (inl memory) = inl memory
    program_stops why (inr stops) = inr (program_goes ∙ ap behind_block stops)

    -- it is typed
    pub program_ends : (look : Look) (last : Passed) → (typed_block program.block).typing now ≡ Ok (after tt look last)
        → typing program ≡ Ok (after tt (look ++ (BlockEnds 0 [] [] None (out-Block program.block).end ∷ [])) last)
    unfolding block_end result_at_end
    program_ends look last ends =
        program_goes ∙ ap behind_block ends
        ∙ ap (λ end. Ok (after tt (look ++ (BlockEnds 0 [] [] None end ∷ [])) last)) (ap (λ (t : TypedBlock). t.end) (typing_block program.block))

-- the last `end` of a block
pub end_is : (b : SyntaxBlock) → (typed_block b).end ≡ (out-Block b).end
end_is b = ap (λ (t : TypedBlock). t.end) (typing_block b)

-- ---- as they are made

-- the statements of a block
pub body_answers : (b : SyntaxBlock) (old now there last : Passed) (before behind own : List MadeBlock) → behind ≡ before ++ own
    → block_declarations b old ≡ Ok (after tt [] now)
    → each (λ (r : TypedRoutine). r.typing) (map typed_routine (out-Block b).routines.items) now ≡ Ok (after tt (look_made own) there)
    → (answer : Result Stmt TypeFault) → MakesStmt (statement_part (out-Block b).statements.items there) answer last
    → MakesBody before behind ((typed_block b).typing old) answer last
body_answers b old now there last before behind own are declares routines (Ok made) ends =
    (own, are, body_ends b old now declares (look_made own) there routines (look_stmt made) last ends)
body_answers b old now there last before behind own are declares routines (Err why) stops =
    statements_stop b old now declares (look_made own) there routines why stops

-- a block never stops where it begins
pub begun_stops : (number : ℕ) (name : Name) (b : TypedBlock) (old : Passed) (why : TypeFault)
    → IsFault (block_begins number (all_folded b.names) old) why → IsFault (routine_block number name b old) why
unfolding block_begins enclosing_now heading_at with_enclosing open_beside
begun_stops number name b old why (inl memory) = inl memory
begun_stops number name b old why (inr stops) = absurd cc

-- the block of a routine
pub block_ended : (number : ℕ) (name : Name) (b : SyntaxBlock) (old now there later last : Passed) (round : Enclosing) (heading : Headed)
    → block_begins number (all_folded (typed_block b).names) old ≡ Ok (after (round, heading) [] now) → (own : List MadeBlock) (body : Stmt)
    → (typed_block b).typing now ≡ Ok (after tt (look_made own ++ look_stmt body) there) → (made : Heading)
    → result_at_end name.place (out-Block b).end heading.result there ≡ Ok (after made.result [] later) → block_ends round later ≡ Ok (after tt [] last)
    → heading.around ≡ made.around.items → heading.parameters ≡ made.parameters.items
    → routine_block number name (typed_block b) old
    ≡ Ok (after tt (look_made (own ++ record { number = number; block = record { heading = made; body = body; end = (out-Block b).end } } ∷ [])) last)
block_ended number name b old now there later last round heading begins own body typed made tests ends around parameters =
    block_is_made number name (typed_block b) old now round heading begins (look_made own ++ look_stmt body) there typed made.result later last
    (ap (λ end. result_at_end name.place end heading.result there) (end_is b) ∙ tests) ends
    ∙ ap (λ l. Ok (after tt l last))
    (append_assoc (look_made own) (look_stmt body) (BlockEnds number heading.around heading.parameters made.result (typed_block b).end ∷ [])
    ∙ ap (λ end. look_made own ++ (look_stmt body ++ (BlockEnds number heading.around heading.parameters made.result end ∷ []))) (end_is b)
    ∙ ap₂ (λ one two. look_made own ++ (look_stmt body ++ (BlockEnds number one two made.result (out-Block b).end ∷ []))) around parameters
    ∙ ap (λ l. look_made own ++ l) (sym (append-nil (look_block number (record { heading = made; body = body; end = (out-Block b).end }))))
    ∙ sym (look_both own (record { number = number; block = record { heading = made; body = body; end = (out-Block b).end } } ∷ [])))

-- the block of a routine, as its end answers
module _ (number : ℕ) (name : Name) (b : SyntaxBlock) (old now there last : Passed) (begun : BegunBlock) (heading : Headed)
    (begins : block_begins number (all_folded (typed_block b).names) old ≡ Ok (after (enclosing_of begun.round, heading) [] now))
    (is : IsBegun begun heading) (own : List MadeBlock) (body : Stmt)
    (typed : (typed_block b).typing now ≡ Ok (after tt (look_made own ++ look_stmt body) there)) (before so_far behind : List MadeBlock)
    (are : so_far ≡ before ++ own) where
  pub routine_answers : (answer : Result (Unit {0}) TypeFault)
      → EndsRoutine number begun body name.place (out-Block b).end so_far behind there answer last
      → MakesBlocks before behind (routine_block number name (typed_block b) old) answer last
  routine_answers (Ok _) ended =
      let made : Heading = record { around = begun.around; parameters = begun.parameters; result = ended.result } in
      let one : MadeBlock = record { number = number; block = record { heading = made; body = body; end = (out-Block b).end } } in (
        own ++ one ∷ [],
        ended.are ∙ ap (λ l. l ++ one ∷ []) are ∙ append_assoc before own (one ∷ []),
        block_ended number name b old now there ended.later last (enclosing_of begun.round) heading begins own body typed made
            (subst (λ root. result_at_end name.place (out-Block b).end root there ≡ Ok (after ended.result [] ended.later)) (sym is.result) ended.tests)
            ended.ends is.around is.parameters,
      )
  routine_answers (Err why) stops =
      result_stops number name (typed_block b) old now (enclosing_of begun.round) heading begins (look_made own ++ look_stmt body) there typed why
      (subst (λ end. IsFault (result_at_end name.place end heading.result there) why) (sym (end_is b))
      (subst (λ root. IsFault (result_at_end name.place (out-Block b).end root there) why) (sym is.result) stops))

-- the program
pub program_made : (program : Program) (now last : Passed) → declared program ≡ Ok (after tt [] now) → (own : List MadeBlock) (body : Stmt)
    → (typed_block program.block).typing now ≡ Ok (after tt (look_made own ++ look_stmt body) last) → (made : Heading)
    → made.around.items ≡ [] → made.parameters.items ≡ [] → made.result ≡ None
    → typing program
    ≡ Ok (after tt (look_made (own ++ record { number = 0; block = record { heading = made; body = body; end = (out-Block program.block).end } } ∷ [])) last)
program_made program now last declares own body typed made around parameters result =
    let end = (out-Block program.block).end in
    program_ends program now declares (look_made own ++ look_stmt body) last typed
    ∙ ap (λ l. Ok (after tt l last))
    (append_assoc (look_made own) (look_stmt body) (BlockEnds 0 [] [] None end ∷ [])
    ∙ ap₂ (λ one two. look_made own ++ (look_stmt body ++ (BlockEnds 0 one two None end ∷ []))) (sym around) (sym parameters)
    ∙ ap (λ r. look_made own ++ (look_stmt body ++ (BlockEnds 0 made.around.items made.parameters.items r end ∷ []))) (sym result)
    ∙ ap (λ l. look_made own ++ l) (sym (append-nil (look_block 0 (record { heading = made; body = body; end = end }))))
    ∙ sym (look_both own (record { number = 0; block = record { heading = made; body = body; end = end } } ∷ [])))
