-- What the look of a tree tells of its loops: their numbers.
use Rattle.std.specs.declared.alloc.Global.{Global}
use Rattle.std.proofs.Common.{Vec, ℤ, ◌≡◌, ℕ, false, List, [], ◌∷◌, ◌++◌, length, map, slice_get, Option, Some, None, refl, sym, ap, ap₂, ◌∙◌, append-nil}
use Rattle.std.specs.Prelude.{flat_map}
use Rattle.std.proofs.lemmas.List.{map-append}
use Rattle.std.proofs.lemmas.List.Concat.{flat_map-append}
use Rattle.typed_tree.specs.declared.tree.Tree.{Tree}
use Rattle.typed_tree.specs.declared.tree.Block.{Block}
use Rattle.typed_tree.specs.declared.tree.Expr.{Expr}
use Rattle.typed_tree.specs.declared.tree.Stmt.{Stmt}
use Rattle.typed_tree.specs.declared.tree.Stmt.TheOpen.{Stmt-F}
use Rattle.typed_tree.specs.declared.tree.Stmt.TheOpen.Stmt-F.{Empty, Assign, Write, Compound, If, While, Repeat, For, Case, Copy, Call as Calling, With, Read}
use Rattle.typed_tree.specs.declared.tree.Stmt.TheFolds.{map-Stmt, fold-roll-Stmt, ind-Stmt}
use Rattle.typed_tree.specs.Accesses.{AtVariable, origin_of}
use Rattle.typed_tree.specs.Entries.{joined, of_block}
use Rattle.typed_tree.specs.WellFormed.{length_of, source_of}
use Rattle.typed_tree.specs.Loops.{Inside, LoopControls, statement_inside, inside_of, loops_of, loops_of_block}
use Rattle.typed_tree.proofs.Quiet.{quiet_expr, quiet_accessed, quiet_value, quiet_parameters, quiet_called, quiet_reads, quiet_records}
use Rattle.typed_tree.specs.Look.{Mark, Look, look_expr, look_record, look_parameter, arms_look, statement_look}
use Rattle.typed_tree.specs.Look.{look_stmt, look_block, look_access, look_whole, Target, WholeTarget}
use Rattle.typed_tree.specs.Look.{tree_look, mark_loops, loops_of_look, Ends, Then, Else, Do, Until, Controls, ForEnds, Fits as FitsMark, heading_look}
use Rattle.typed_tree.specs.Look.{WithEnds}
use Rattle.typed_tree.specs.Look.{Copied}
use Rattle.typed_tree.specs.Look.{look_read}

-- a form, and then one that is no loop
ended : (look : Look) (end : Mark) → mark_loops end ≡ [] → loops_of_look (look ++ (end ∷ [])) ≡ loops_of_look look
ended look end silent =
    flat_map-append mark_loops look (end ∷ []) ∙ ap (λ numbers. loops_of_look look ++ (numbers ++ [])) silent ∙ append-nil (loops_of_look look)

-- a form without loops, and then others
behind : (look rest : Look) → loops_of_look look ≡ [] → loops_of_look (look ++ rest) ≡ loops_of_look rest
behind look rest silent = flat_map-append mark_loops look rest ∙ ap (λ numbers. numbers ++ loops_of_look rest) silent

-- ---- statements

-- the numbers of loops
abbrev numbers : Inside → List ℕ
numbers inside = map (λ l. l.0) inside.loops

abbrev Numbered : Type 0
Numbered = (s : Stmt) × (loops_of_look (look_stmt s) ≡ numbers (inside_of s))

abbrev bare_stmt : Stmt-F Numbered → Stmt-F Stmt
bare_stmt = map-Stmt Numbered Stmt (λ s. s.0)

numbers_joined : (ys : List Numbered)
    → loops_of_look (joined (map look_stmt (map (λ s. s.0) ys))) ≡ map (λ l. l.0) (flat_map (λ part. part.loops) (map inside_of (map (λ s. s.0) ys)))
numbers_joined [] = refl
numbers_joined (y ∷ ys) =
    let more = map (λ s. s.0) ys in
    flat_map-append mark_loops (look_stmt y.0) (joined (map look_stmt more)) ∙ ap₂ (λ a b. a ++ b) y.1 (numbers_joined ys)
    ∙ sym (map-append (λ l. l.0) (inside_of y.0).loops (flat_map (λ part. part.loops) (map inside_of more)))

-- of the arms of a case
numbers_arms : (rows : List (Vec ℤ Global)) (ys : List Numbered)
    → loops_of_look (arms_look rows (map look_stmt (map (λ s. s.0) ys)))
    ≡ map (λ l. l.0) (flat_map (λ part. part.loops) (map inside_of (map (λ s. s.0) ys)))
numbers_arms [] [] = refl
numbers_arms (row ∷ rows) [] = numbers_arms rows []
numbers_arms [] (y ∷ ys) =
    let more = map (λ s. s.0) ys in
    flat_map-append mark_loops (look_stmt y.0) (arms_look [] (map look_stmt more)) ∙ ap₂ (λ a b. a ++ b) y.1 (numbers_arms [] ys)
    ∙ sym (map-append (λ l. l.0) (inside_of y.0).loops (flat_map (λ part. part.loops) (map inside_of more)))
numbers_arms (row ∷ rows) (y ∷ ys) =
    let more = map (λ s. s.0) ys in
    flat_map-append mark_loops (look_stmt y.0) (arms_look rows (map look_stmt more)) ∙ ap₂ (λ a b. a ++ b) y.1 (numbers_arms rows ys)
    ∙ sym (map-append (λ l. l.0) (inside_of y.0).loops (flat_map (λ part. part.loops) (map inside_of more)))

-- of an if, by what its two statements have
numbers_chosen : (condition : Expr) (look rest : Look) (first second : Inside) → loops_of_look look ≡ numbers first → loops_of_look rest ≡ numbers second
    → loops_of_look (look_expr condition ++ (Then ∷ (look ++ (rest ++ (Ends ∷ []))))) ≡ map (λ l. l.0) (first.loops ++ second.loops)
numbers_chosen condition look rest first second one two =
    behind (look_expr condition) (Then ∷ (look ++ (rest ++ (Ends ∷ [])))) ((quiet_expr condition).0)
    ∙ flat_map-append mark_loops look (rest ++ (Ends ∷ []))
    ∙ ap₂ (λ a b. a ++ b) one (ended rest Ends refl ∙ two)
    ∙ sym (map-append (λ l. l.0) first.loops second.loops)

numbers_layer : (y : Stmt-F Numbered)
    → loops_of_look (statement_look (map-Stmt Stmt Look look_stmt (bare_stmt y))) ≡ numbers (statement_inside (map-Stmt Stmt Inside inside_of (bare_stmt y)))
numbers_layer (Empty number) = refl
numbers_layer (Assign assignment) =
    let does = Target (origin_of assignment.target) assignment.target.selectors.items (length assignment.indexes.items) in
    let end = FitsMark (origin_of assignment.target) assignment.target.selectors.items assignment.fits in
    behind (look_access assignment.target assignment.indexes.items does) (look_expr assignment.value ++ (end ∷ []))
    (quiet_accessed assignment.target assignment.indexes.items does (refl, refl)).0
    ∙ ended (look_expr assignment.value) end refl ∙ (quiet_expr assignment.value).0
numbers_layer (Copy copying) =
    let does = WholeTarget (origin_of copying.target) copying.target.selectors.items (length copying.indexes.items) copying.type_id in
    let end = Copied copying.type_id (source_of copying.value) (length_of copying.value) in
    behind (look_access copying.target copying.indexes.items does) (look_whole copying.value copying.value_indexes.items ++ (end ∷ []))
    (quiet_accessed copying.target copying.indexes.items does (refl, refl)).0
    ∙ ended (look_whole copying.value copying.value_indexes.items) end refl
    ∙ (quiet_value copying.value copying.value_indexes.items).0
numbers_layer (Write writing) = ended (flat_map look_parameter writing.parameters.items) Ends refl ∙ (quiet_parameters writing.parameters.items).0
numbers_layer (Read reading) = ended (flat_map look_read reading.variables.items) Ends refl ∙ (quiet_reads reading.variables.items).0
numbers_layer (Calling calling) = (quiet_called false calling.call calling.actuals.items).0
numbers_layer (Compound number statements) = ended (joined (map look_stmt (map (λ s. s.0) statements.items))) Ends refl ∙ numbers_joined statements.items
numbers_layer (If number condition consequence None) =
    numbers_chosen condition (look_stmt consequence.value.0) [] (inside_of consequence.value.0) (record { loops = []; controls = [] }) consequence.value.1 refl
numbers_layer (If number condition consequence (Some other)) =
    numbers_chosen condition (look_stmt consequence.value.0) (Else ∷ look_stmt other.value.0) (inside_of consequence.value.0) (inside_of other.value.0)
    consequence.value.1 other.value.1
numbers_layer (While head body) =
    ap (λ more. head.loop_number ∷ more)
    (behind (look_expr head.condition) (Do ∷ (look_stmt body.value.0 ++ (Ends ∷ []))) ((quiet_expr head.condition).0) ∙ ended (look_stmt body.value.0) Ends refl
    ∙ body.value.1)
numbers_layer (Repeat head statements) =
    let rows = joined (map look_stmt (map (λ s. s.0) statements.items)) in
    ap (λ more. head.loop_number ∷ more)
    (flat_map-append mark_loops rows (Until ∷ (look_expr head.condition ++ (Ends ∷ [])))
    ∙ ap₂ (λ a b. a ++ b) (numbers_joined statements.items) (ended (look_expr head.condition) Ends refl ∙ (quiet_expr head.condition).0)
    ∙ append-nil _)
numbers_layer (For head body) =
    let inside = FitsMark (AtVariable head.control) [] head.last.fits ∷ Controls head.control ∷ (look_stmt body.value.0 ++ (ForEnds ∷ [])) in
    ap (λ more. head.loop_number ∷ more)
    (behind (look_expr head.first.value) (FitsMark (AtVariable head.control) [] head.first.fits ∷ (look_expr head.last.value ++ inside))
    ((quiet_expr head.first.value).0)
    ∙ behind (look_expr head.last.value) inside ((quiet_expr head.last.value).0)
    ∙ ended (look_stmt body.value.0) ForEnds refl ∙ body.value.1)
numbers_layer (Case head arms) =
    let inside = arms_look head.constants.items (map look_stmt (map (λ s. s.0) arms.items)) in
    behind (look_expr head.index) (inside ++ (Ends ∷ [])) ((quiet_expr head.index).0) ∙ ended inside Ends refl ∙ numbers_arms head.constants.items arms.items
numbers_layer (With head body) =
    behind (flat_map look_record head.records.items) (Do ∷ (look_stmt body.value.0 ++ (WithEnds head.first_slot ∷ []))) ((quiet_records head.records.items).0)
    ∙ ended (look_stmt body.value.0) (WithEnds head.first_slot) refl ∙ body.value.1

numbers_stmt : (s : Stmt) → loops_of_look (look_stmt s) ≡ numbers (inside_of s)
numbers_stmt =
    ind-Stmt (λ s. loops_of_look (look_stmt s) ≡ numbers (inside_of s))
    (λ x y is.
    ap loops_of_look (fold-roll-Stmt Look statement_look x)
    ∙ ap (λ z. loops_of_look (statement_look (map-Stmt Stmt Look look_stmt z))) (sym is)
    ∙ numbers_layer y
    ∙ ap (λ z. numbers (statement_inside (map-Stmt Stmt Inside inside_of z))) is
    ∙ ap numbers (sym (fold-roll-Stmt Inside statement_inside x)))

numbers_block : (number : ℕ) (block : Option Block)
    → loops_of_look (of_block look_block number block) ≡ map (λ l. l.0) (of_block (λ number. loops_of_block) number block)
numbers_block number None = refl
numbers_block number (Some block) = ended (look_stmt block.body) (heading_look number block.heading block.end) refl ∙ numbers_stmt block.body

-- the look of a tree tells the numbers of its loops
pub loop_numbers_are : (tree : Tree) → loops_of_look (tree_look tree) ≡ map (λ l. l.0) (loops_of tree)
loop_numbers_are tree = by tree.bodies.items
  where
    look : ℕ → Look
    look number = of_block look_block number (slice_get tree.blocks.items number)

    loops : ℕ → List (ℕ × LoopControls)
    loops number = of_block (λ number. loops_of_block) number (slice_get tree.blocks.items number)

    by : (bodies : List ℕ) → loops_of_look (flat_map look bodies) ≡ map (λ l. l.0) (flat_map loops bodies)
    by [] = refl
    by (number ∷ bodies) =
        flat_map-append mark_loops (look number) (flat_map look bodies)
        ∙ ap₂ (λ a b. a ++ b) (numbers_block number (slice_get tree.blocks.items number)) (by bodies)
        ∙ sym (map-append (λ l. l.0) (loops number) (flat_map loops bodies))
