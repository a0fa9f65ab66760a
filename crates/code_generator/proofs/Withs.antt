-- The code of a with statement: it opens its records one after another, executes its statement where they are open, and gives
-- them up; or it stops as the statement does.
use Rattle.code_generator.proofs.Words.{◌≡◌, ℕ, zero, suc, ◌+◌, ◌<◌, ◌≤◌, max, Option, Some, List, [], ◌∷◌, ◌++◌, length, map, refl, sym, ap, ◌∙◌, subst}
use Rattle.code_generator.proofs.Words.{arith, length-append, append_assoc, append-nil, Bool, true, ◌&&◌, and_parts, ℤ, pos, nat_eq, Instr, TypeId, Expr, Place}
use Rattle.code_generator.proofs.Words.{Action, ◌>>=◌, value_of, Cell, Number, all_hold, expr_code, expr_depth, Block, IsWellFormed, Tree, slice_get}
use Rattle.pcode_assembler.specs.declared.instr.Instr.TheVariants as instr
use Rattle.typed_tree.specs.declared.tree.Access.{Access}
use Rattle.typed_tree.specs.declared.tree.Base.{Base}
use Rattle.typed_tree.specs.declared.tree.Base.TheVariants as base_at
use Rattle.typed_tree.specs.declared.tree.Stmt.{Stmt}
use Rattle.typed_tree.specs.declared.tree.WithHead.{WithHead}
use Rattle.typed_tree.specs.declared.tree.WithRecord.{WithRecord}
use Rattle.typed_tree.specs.Accesses.{origin_by, origin_of, root_of}
use Rattle.typed_tree.specs.Kinds.{is_held_record, is_held_stmt}
use Rattle.typed_tree.specs.Records.{accesses_begin, all_begin, begins as all_begins, begins_in, is_there, opened_by, with_begins}
use Rattle.code_generator.proofs.Texts.{compares_in, record_compares}
use Rattle.typed_tree.specs.WellFormed.{are_well_formed, is_record, is_well_formed_record, is_well_formed_stmt, leads_to_record, outline_of}
use Rattle.meaning.proofs.KindsTypes.{accessed-type}
use Rattle.meaning.proofs.Replies.{and_then-and_then}
use Rattle.meaning.specs.Effect as effect
use Rattle.meaning.specs.Kinds.{type_on}
use Rattle.meaning.specs.Meaning.{Surroundings, accessed, effect_of, opened, with_record as with_one}
use Rattle.code_scheme.specs.Code.{address_code, records_code, release_code, stmt_code, with_code}
use Rattle.code_scheme.specs.Depth.{access_depth, records_depth, stmt_depth}
use Rattle.code_scheme.specs.Scopes.{with_record, with_records}
use Rattle.code_generator.proofs.Accesses.{AreOrdinals, Indexes, PartAt, address_runs, address_then, begins, codes, exact_found, expressions}
use Rattle.code_generator.proofs.Accesses.{found as place_found, leads}
use Rattle.code_generator.proofs.Assigns.{told, told_back}
use Rattle.code_generator.proofs.Evaluating.{ExecutesAs, Good, Shape}
use Rattle.code_generator.proofs.Lists.{all_at}
use Rattle.code_generator.proofs.Nesting.{well_block}
use Rattle.code_generator.proofs.Opening.{above, all_held, executes_from_open, opened_based, opening}
use Rattle.code_generator.proofs.Passing.{CallsRun}
use Rattle.code_generator.proofs.Reach.{Comes, Stands, StandsAt, comes_less, stands_back, stands_front}
use Rattle.code_generator.proofs.Repeats.{repeats}
use Rattle.code_generator.proofs.Running.{Executes, kept_on, runs_same}
use Rattle.code_generator.proofs.Textual.{told_statement}
use Rattle.code_generator.proofs.Setting.{AllHeld, Based, Setting, around, branched, entered, linked, on, outline}

-- what is known of a statement
abbrev pub stmt_shape : Setting → Stmt → Shape Bool Bool
stmt_shape g s = record {
  well = is_well_formed_stmt (outline g) g.number s;
  held = is_held_stmt s;
  there = begins_in s g.opened;
  strings = compares_in g.tree.types s;
}

-- the statement of a block of a well formed tree is in order where no record is open
pub block_good : (tree : Tree) → IsWellFormed tree → (number : ℕ) (block : Block) → slice_get tree.blocks.items number ≡ Some block
    → Good (record {
      well = is_well_formed_stmt (outline_of tree) number block.body;
      held = is_held_stmt block.body;
      there = begins_in block.body [];
      strings = compares_in tree.types block.body;
    })
block_good tree well number block is = (
  (well_block tree well number block is).body,
  all_at (λ (b : Block). is_held_stmt b.body) tree.blocks.items number block well.held is,
  all_at (λ (b : Block). begins_in b.body []) tree.blocks.items number block well.there is,
  told_statement (outline_of tree) number block.body (well_block tree well number block is).body,
)

-- what is shown of a statement, in each setting
abbrev pub StmtRuns : Stmt → Type 0
StmtRuns s =
    (g : Setting) → CallsRun g.depth → repeats s ≤ g.slack → ExecutesAs g (stmt_code s) (stmt_depth s) (stmt_shape g s) (effect_of s)

-- a conditional jump to the next instruction takes a number away
pub popped_there : (g : Setting) (below : List Cell) (n : ℤ) (place : ℕ) (s : effect.State)
    → StandsAt g.target place (instr.JumpIfFalse (place + 1)) true
    → g.frame + 4 ≤ length below → Comes g.target 0 (on g (below ++ Number n ∷ []) place s) (on g below (place + 1) s)
popped_there g below n place s stands in_frame =
    comes_less g.target 0 1 _ _ (omega arith)
    (branched g (λ _. Comes g.target 1 (on g (below ++ Number n ∷ []) place s) (on g below (place + 1) s)) (place + 1) below n place s stands
    in_frame (λ came. came) (λ came. came))

-- the last address is given up last
release_last : (n place : ℕ) → release_code (suc n) place ≡ release_code n place ++ (instr.JumpIfFalse (place + n + 1) ∷ [])
release_last zero place =
    let e : place + 1 ≡ place + 0 + 1 = omega arith in
    ap (λ q. instr.JumpIfFalse q ∷ []) e
release_last (suc n) place =
    let e : place + 1 + n + 1 ≡ place + suc n + 1 = omega arith in
    ap (λ code. instr.JumpIfFalse (place + 1) ∷ code) (release_last n (place + 1))
    ∙ ap (λ q. instr.JumpIfFalse (place + 1) ∷ (release_code n (place + 1) ++ (instr.JumpIfFalse q ∷ []))) e

length-release : (n place : ℕ) → length (release_code n place) ≡ n
length-release zero place = refl
length-release (suc n) place = ap suc (length-release n (place + 1))

root_is : (root : ℕ) (base : Base) → root_of (origin_by root base) ≡ root
root_is root base_at.Variable = refl
root_is root (base_at.Record slot path) = refl

-- ---- one record

module _ (g : Setting) (known : CallsRun g.depth) (access : Access) where
  -- with these index expressions, its address comes on top, and then comes the code behind it
  abbrev RecordRuns : List Expr → Type 0
  RecordRuns es =
      (end : ℕ) (rest : List Instr) (place : ℕ) (base held : List Cell) (next : Option Place → Action (Unit {0})) (s : effect.State)
      → Stands g.target place (address_code g.scope access (map (expr_code g.scope) es) ++ rest) → AreOrdinals g es
      → leads_to_record (outline g) g.number (origin_of access) access.selectors.items (length es) ≡ true → is_there g.opened (origin_of access) ≡ true
      → Based g s base → g.below + length held + access_depth access.selectors.items (map expr_depth es) ≤ g.limit
      → ((base2 : List Cell) (d : ℕ) (p : Place) (id : TypeId) (u : effect.State)
      → Stands g.target (place + length (address_code g.scope access (map (expr_code g.scope) es))) rest
      → type_on (outline g) access.root (opened_by access).steps ≡ Some id → Based g u base2 → PartAt g p id d → g.below + length held < g.limit
      → Executes g (on g ((base2 ++ held) ++ Number (pos d) ∷ []) (place + length (address_code g.scope access (map (expr_code g.scope) es))) u) held end
      (next (Some p)) u)
      → Executes g (on g (base ++ held) place s) held end (accessed access (map value_of es) (around g) >>= next) s

  record_runs : (indexes : Indexes g) → RecordRuns (expressions g indexes)
  record_runs indexes end rest place base held next s stands ordinals leading there based deep h =
      let es = expressions g indexes in
      let c = address_code g.scope access (codes g indexes) in
      let wanted = is_record g.tree.types in
      let led_to = leads g wanted (origin_of access) access.selectors.items (length es) leading in
      let start = begins g access wanted (length es) (codes g indexes) led_to there in
      let s2 = entered g access.number s in
      let type_is = ap (λ n. type_on (outline g) n (opened_by access).steps) (sym (root_is access.root access.base))
      ∙ accessed-type (outline g) (origin_of access) access.selectors.items led_to.last led_to.last_is in
      subst (λ action. Executes g (on g (base ++ held) place s) held end (action >>= next) s) (sym (start.meant (map value_of es)))
      (address_then g (λ _. kept_on g held end) c rest place _ held led_to.last (place_found g access indexes led_to.last start ordinals led_to.counts) next s2
      (exact_found g access indexes led_to.last start ordinals led_to.counts) stands
      (λ front. address_runs g access indexes led_to.last start ordinals led_to.counts place base held s2 front based deep)
      (λ base2 d p u behind based2 part room. h base2 d p led_to.last u behind type_is based2 part room))

  record_then : (es : List Expr) → RecordRuns es
  record_then es = subst RecordRuns (told_back g (known g refl) es) (record_runs (told g (known g refl) es))

-- ---- all records, and the statement where they are open

-- records with a statement are in order, where these are open
abbrev AllGood : Setting → List WithRecord → Stmt → Type 0
AllGood g records body =
    (all_hold (map (is_well_formed_record (outline g) g.number) records) ≡ true) × (all_hold (map is_held_record records) ≡ true)
    × (with_begins records (begins_in body) g.opened ≡ true) × (all_hold (map (record_compares g.tree.types) records) ≡ true)
    × (is_well_formed_stmt (outline g) g.number body ≡ true) × (is_held_stmt body ≡ true) × (compares_in g.tree.types body ≡ true)

module _ (body : Stmt) (runs : StmtRuns body) where
  -- what is done where the records are open
  abbrev inner : Surroundings → List (Option Place) → Action (Unit {0})
  inner env records = effect_of body (record env { records = records })

  abbrev body_code : Setting → List WithRecord → ℕ → List Instr
  body_code g records inside = stmt_code body (with_records (length records) g.scope) inside

  -- the code of the statement and of what gives the records up, from this place on
  abbrev behind_records : Setting → List WithRecord → ℕ → List Instr
  behind_records g records inside = body_code g records inside ++ release_code (length records) (inside + length (body_code g records inside))

  abbrev WithRuns : List WithRecord → Type 0
  WithRuns records =
      (g : Setting) → CallsRun g.depth → repeats body ≤ g.slack → (place inside : ℕ) (base held : List Cell) (s : effect.State)
      → inside ≡ place + length (records_code g.scope records)
      → Stands g.target place (records_code g.scope records ++ behind_records g records inside) → AllGood g records body → Based g s base
      → AllHeld g held → g.below + length held + max (records_depth records) (stmt_depth body + length records) ≤ g.limit
      → Executes g (on g (base ++ held) place s) held (inside + length (behind_records g records inside))
      (opened records (around g) >>= inner (around g)) s

  with_runs_all : (records : List WithRecord) → WithRuns records
  with_runs_all [] g known few place inside base held s at stands good based high deep =
      let here : inside ≡ place = omega (arith, at) in
      let code = stmt_code body g.scope inside in
      let e : inside + length code ≡ inside + length (code ++ []) = ap (λ l. inside + length l) (sym (append-nil code)) in
      subst (λ end. Executes g (on g (base ++ held) place s) held end (effect_of body (around g)) s) e
      (subst (λ q. Executes g (on g (base ++ held) q s) held (inside + length code) (effect_of body (around g)) s) here
      (runs g known few inside base held s
      (stands_front g.target inside code [] (subst (λ q. Stands g.target q (code ++ [])) (sym here) stands))
      (good.4, good.5, good.2, good.6) based high (omega arith)))
  with_runs_all (one ∷ others) g known few place inside base held s at stands good based high deep =
      let access = one.access in
      let es = one.indexes.items in
      let c = address_code g.scope access (map (expr_code g.scope) es) in
      let later = records_code (with_record g.scope) others in
      let code = body_code g (one ∷ others) inside in
      let n = length others in
      let q = inside + length code in
      let released = release_code n q in
      let last = instr.JumpIfFalse (q + n + 1) ∷ [] in
      let all_but = later ++ (code ++ released) in
      let there = place + length c in
      let shape : (c ++ later) ++ (code ++ release_code (suc n) q) ≡ c ++ (all_but ++ last) =
      append_assoc c later (code ++ release_code (suc n) q)
      ∙ ap (λ l. c ++ (later ++ (code ++ l))) (release_last n q)
      ∙ ap (λ l. c ++ (later ++ l)) (sym (append_assoc code released last))
      ∙ ap (λ l. c ++ l) (sym (append_assoc later (code ++ released) last)) in
      let long = length-append c later in
      let whole = length-append code released in
      let total = length-append code (release_code (suc n) q) in
      let end = inside + length (code ++ release_code (suc n) q) in
      let well = and_parts _ _ good.0 in
      let own = and_parts (are_well_formed (outline g) g.number es)
      (leads_to_record (outline g) g.number (origin_of access) access.selectors.items (length es)) well.0 in
      let held_good = and_parts _ _ good.1 in
      let begun = and_parts (accesses_begin access es g.opened) (with_begins others (begins_in body) (g.opened ++ opened_by access ∷ [])) good.2 in
      let begun_there = and_parts (all_begin (map all_begins es) g.opened) (is_there g.opened (origin_of access)) begun.0 in
      let strings = and_parts _ _ good.3 in
      let ordinals : AreOrdinals g es = (own.0, held_good.0, begun_there.0, strings.0) in
      let next : Option Place → Action (Unit {0}) = λ o. opened others (with_one (around g) o) >>= inner (around g) in
      let action = accessed access (map value_of es) (around g) in
      runs_same g (kept_on g held end) _ (opened (one ∷ others) (around g) >>= inner (around g)) (action >>= next) s
      (λ t. and_then-and_then (action t) (λ o. opened others (with_one (around g) o)) (inner (around g)))
      (record_then g known access es end (all_but ++ last) place base held next s
      (subst (Stands g.target place) shape stands) ordinals own.1 begun_there.1 based (omega arith)
      (λ base2 d p id u rest type_is based2 part room.
      let up = above g held high (omega arith) p id d part (opened_by access) type_is in
      let h = opening g held high (omega arith) p id d part (opened_by access) type_is in
      let tall = length-append held (Number (pos d) ∷ []) in
      let cells : (base2 ++ held) ++ Number (pos d) ∷ [] ≡ (base2 ++ up) ++ [] =
      append_assoc base2 held (Number (pos d) ∷ []) ∙ sym (append-nil (base2 ++ up)) in
      let from = with_runs_all others h known few there inside (base2 ++ up) [] u (omega (arith, at, long))
      (stands_front g.target there all_but last rest)
      (well.1, held_good.1, begun.1, strings.1, good.4, good.5, good.6)
      (opened_based g held high (omega arith) p id d part (opened_by access) type_is u base2 based2)
      (all_held g held high (omega arith) p id d part (opened_by access) type_is) (omega (arith, tall)) in
      let jump = stands_back g.target there all_but last rest in
      let at_jump : there + length all_but ≡ q + n =
      omega (arith, at, long, length-append later (code ++ released), whole, length-release n q) in
      let popping = subst (λ m. StandsAt g.target m (instr.JumpIfFalse (q + n + 1)) true) at_jump jump.0 in
      let e : q + n + 1 ≡ end = omega (arith, total, length-release (suc n) q) in
      let e' : inside + length (code ++ released) ≡ q + n = omega (arith, whole, length-release n q) in
      executes_from_open g held high (omega arith) p id d part (opened_by access) type_is
      (on g ((base2 ++ held) ++ Number (pos d) ∷ []) there u) (q + n) end (next (Some p)) u
      (subst (λ stack. Executes h (on g stack there u) [] (q + n) (next (Some p)) u) (sym cells)
      (subst (λ m. Executes h (on g ((base2 ++ up) ++ []) there u) [] m (next (Some p)) u) e' from))
      (λ base3 t based3.
      subst (λ m. Comes g.target 0 (on g (base3 ++ up) (q + n) t) (on g (base3 ++ held) m t)) e
      (subst (λ stack. Comes g.target 0 (on g stack (q + n) t) (on g (base3 ++ held) (q + n + 1) t)) (append_assoc base3 held (Number (pos d) ∷ []))
      (popped_there g (base3 ++ held) (pos d) (q + n) t popping (linked g t base3 held based3))))))

-- a with statement
pub with_runs : (g : Setting) (known : CallsRun g.depth) (head : WithHead) (body : (s : Stmt) × StmtRuns s) → repeats body.0 ≤ g.slack
    → ExecutesAs g (with_code head.records.items (stmt_code body.0))
    (max (records_depth head.records.items) (stmt_depth body.0 + length head.records.items))
    (record {
      well = all_hold (map (is_well_formed_record (outline g) g.number) head.records.items) && is_well_formed_stmt (outline g) g.number body.0;
      held = all_hold (map is_held_record head.records.items) && is_held_stmt body.0;
      there = nat_eq head.first_slot (length g.opened) && with_begins head.records.items (begins_in body.0) g.opened;
      strings = all_hold (map (record_compares g.tree.types) head.records.items) && compares_in g.tree.types body.0;
    })
    (λ e. effect.enter head.number e.visible >>= λ _. opened head.records.items e >>= λ records. effect_of body.0 (record e { records = records }))
with_runs g known head body few place base held s stands good based high deep =
    let records = head.records.items in
    let addresses = records_code g.scope records in
    let inside = place + length addresses in
    let rest = behind_records body.0 body.1 g records inside in
    let well = and_parts (all_hold (map (is_well_formed_record (outline g) g.number) records)) (is_well_formed_stmt (outline g) g.number body.0) good.0 in
    let helds = and_parts (all_hold (map is_held_record records)) (is_held_stmt body.0) good.1 in
    let begun = and_parts (nat_eq head.first_slot (length g.opened)) (with_begins records (begins_in body.0) g.opened) good.2 in
    let strings = and_parts (all_hold (map (record_compares g.tree.types) records)) (compares_in g.tree.types body.0) good.3 in
    let e : inside + length rest ≡ place + length (addresses ++ rest) = omega (arith, length-append addresses rest) in
    subst (λ end. Executes g (on g (base ++ held) place s) held end (opened records (around g) >>= inner body.0 body.1 (around g)) (entered g head.number s)) e
    (with_runs_all body.0 body.1 records g known few place inside base held (entered g head.number s) refl stands
    (well.0, helds.0, begun.1, strings.0, well.1, helds.1, strings.1) based high deep)
