-- The code of an assignment, to an ordinal or of a whole value: the target is accessed first, then comes the value, and the
-- components of the target get it; or it stops as the assignment does.
use Rattle.code_generator.proofs.Words.{◌≡◌, ℕ, ◌+◌, ◌<◌, ◌≤◌, max, List, [], ◌∷◌, ◌++◌, length, map, Option, Some, Ok, inr, refl, sym, ap, ◌∙◌, subst, arith}
use Rattle.code_generator.proofs.Words.{length-append, append_assoc, slice_set, pos, nat_lt, ◌&&◌, and_parts, ltb-true, Instr, Form, TypeId}
use Rattle.code_generator.proofs.Words.{components_of, cells_of, Expr, all_hold, is_well_formed_expr, Value, Place, Action, ◌>>=◌}
use Rattle.code_generator.proofs.Words.{require, value_of, Cell, Number, expr_code, expr_depth, row_length}
use Rattle.pcode_assembler.specs.declared.instr.Instr.TheVariants as instr
use Rattle.typed_tree.specs.declared.tree.Access.{Access}
use Rattle.typed_tree.specs.declared.tree.Assignment.{Assignment}
use Rattle.typed_tree.specs.declared.tree.Copying.{Copying}
use Rattle.types.specs.Types.{is_scalar}
use Rattle.typed_tree.specs.declared.tree.Scalar.{Scalar}
use Rattle.typed_tree.specs.Accesses.{index_count, is_type, origin_of}
use Rattle.typed_tree.specs.Kinds.{are_ordinal_indexes, held_by, is_held, is_held_value}
use Rattle.typed_tree.specs.Records.{accesses_begin, all_begin, begins as all_begins, is_there, value_begins}
use Rattle.code_generator.proofs.Texts.{all_compare, compares_strings, value_compares}
use Rattle.typed_tree.specs.WellFormed.{fits_target, is_well_formed_test, is_well_formed_whole, is_whole, leads_to_scalar, leads_to_whole, length_of, may_copy}
use Rattle.typed_tree.specs.WellFormed.{source_of, tests_type, whole_indexes}
use Rattle.meaning.specs.Store.{kept}
use Rattle.meaning.specs.Effect as effect
use Rattle.meaning.specs.Effect.{store_all}
use Rattle.meaning.specs.Meaning.{accessed, selected, whole_of}
use Rattle.code_scheme.specs.Code.{Reached, At, By, address_code, address_of, reached, selectors_code, store_code, value_check, whole_code}
use Rattle.code_scheme.specs.Depth.{access_depth, store_depth, whole_depth}
use Rattle.code_scheme.proofs.Depths.{address_takes_one}
use Rattle.code_generator.proofs.Accesses.{AreOrdinals, Indexes, Addresses, Begins, IsReached, expressions, codes, depths, PartAt}
use Rattle.code_generator.proofs.Accesses.{address_is, address_runs, begins, exact_found, frame_found, found as place_found, leads, pushed_runs, scalar_there}
use Rattle.code_generator.proofs.Accesses.{kind_there, part_there, scalar_lies_there}
use Rattle.code_generator.proofs.Accesses.{address_then}
use Rattle.code_generator.proofs.Acts.{stores}
use Rattle.code_generator.proofs.Addressing.{stores_indirect}
use Rattle.code_generator.proofs.Alike.{Leads, LiesIn, cell_within}
use Rattle.code_generator.proofs.Passing.{CallsAt}
use Rattle.code_generator.proofs.Evaluating.{Gives, shape_of, sites, ExecutesAs, frames_of, one_held, value_tested}
use Rattle.code_generator.proofs.Scalars.{AllFit, HasFit, HasKind, fit_length, is_kind, scalar_at, scalar_of, scalar_tested, scalars_of, value_cell}
use Rattle.code_generator.proofs.Exprs.{expr_runs}
use Rattle.code_generator.proofs.Held.{scalar_kept}
use Rattle.code_generator.proofs.Reach.{Comes, Stands}
use Rattle.code_generator.proofs.Rows.{cells_of as value_cells, length-cells_of}
use Rattle.code_generator.proofs.Setting.{Setting, outline, around, exact_around, on, Based, linked, Here, acts, entered}
use Rattle.code_generator.proofs.Wholes.{IsInOrder, copied_fit, part_kinds, row_kinds, row_long, set_row, set_row_front, stores_many, stored_all, store_all_is}
use Rattle.code_generator.proofs.Wholes.{row_kept, whole_runs, copied_cells}
use Rattle.code_generator.proofs.Wholes.{few_components, is_whole_type, wanted_type}
use Rattle.code_generator.proofs.Running.{beside, scalar_then, Arrives, Executes, Runs, done, kept_on}
use Rattle.code_generator.proofs.Lists.{set_front, length_one}

module _ (g : Setting) (known : CallsAt g) where
  -- index expressions with what is shown of them
  abbrev pub told : List Expr → Indexes g
  told es = map (λ e. (e, expr_runs g known e)) es

  pub told_back : (es : List Expr) → expressions g (told es) ≡ es
  told_back [] = refl
  told_back (e ∷ es) = ap (λ rest. e ∷ rest) (told_back es)

  -- code that pushes a value of a kind, behind which something is done with it
  abbrev pub Pushes : List Instr → ℕ → Scalar → ((Value → Action (Unit {0})) → Action (Unit {0})) → Type 0
  Pushes value_code depth kind valued =
      (left : List Cell) (c : List Instr) (place : ℕ) (base held : List Cell) (s : effect.State) (next : Value → Action (Unit {0}))
      → Stands g.target place (value_code ++ c) → Based g s base → g.below + length held + depth ≤ g.limit
      → ((base2 : List Cell) (w : Value) (t : effect.State) → Stands g.target (place + length value_code) c → Based g t base2 → HasKind kind w
      → Executes g (on g ((base2 ++ held) ++ value_cell w ∷ []) (place + length value_code) t) left (place + length value_code + length c) (next w) t)
      → Executes g (on g (base ++ held) place s) left (place + length (value_code ++ c)) (valued next) s

  -- a cell on top is stored into a scalar in a frame
  stores_there : (level start owner : ℕ) (p : Place) (place : ℕ) (base held : List Cell) (cell : Cell) (s : effect.State)
      → Leads g.fixed level g.frame owner → LiesIn g.world p (owner + start) → Here g place (instr.Store level start) → Based g s base
      → Comes g.target 1 (on g ((base ++ held) ++ cell ∷ []) place s)
      (on g (slice_set base (owner + start) cell ++ held) (place + 1) s)
  stores_there level start owner p place base held cell s l lies here based =
      let below = base ++ held in
      let low = cell_within (outline g) g.world s.store base p (owner + start) based.alike lies in
      let at = length-append base held in
      let does = stores g.frame g.limit g.size below (linked g s base held based) cell level start owner
      (frame_found g level owner base held s based l) (omega arith)
      ∙ ap (λ cs. Ok (frames_of g cs)) (set_front base held (owner + start) cell low) in
      acts g (instr.Store level start) (below ++ cell ∷ []) (slice_set base (owner + start) cell ++ held) place s
      _ here refl does

  -- the code that stores such a value into an ordinal or a set that is accessed
  module _ (value_code : List Instr) (depth : ℕ) (kind : Scalar) (valued : (Value → Action (Unit {0})) → Action (Unit {0}))
      (pushed : Pushes value_code depth kind valued) (target : Access) (indexes : Indexes g) (last : TypeId)
      (start : Begins g target last (codes g indexes)) (wells_good : AreOrdinals g (expressions g indexes))
      (counts : length (expressions g indexes) ≡ index_count target.selectors.items) (scalar : scalar_of g.tree.types last ≡ Some kind) where
    -- it fits what is accessed
    stored_fit : (p : Place) (d : ℕ) (w : Value) → PartAt g p last d → HasKind kind w → HasFit (scalar_at (outline g) p) (Some w)
    stored_fit p d w part has =
        subst (λ k. HasFit k (Some w)) (sym (kind_there g target indexes last start wells_good counts kind scalar p d part)) has

    abbrev pub target_found : Action (Option Place)
    target_found = place_found g target indexes last start wells_good counts

    abbrev pub next : Option Place → Action (Unit {0})
    next q = valued (effect.store q)

    store_by : (way : Reached) → IsReached g way start.cell start.first start.rest (codes g indexes)
        → (address_of way ≡ start.first ∷ selectors_code start.rest (codes g indexes)) → (place : ℕ) (base held : List Cell)
        (s : effect.State) → Stands g.target place (store_code value_code way) → Based g s base
        → g.below + length held + store_depth target.selectors.items (depths g indexes) depth ≤ g.limit
        → Executes g (on g (base ++ held) place s) held (place + length (store_code value_code way)) (target_found >>= next) s
    store_by (At level first) r address place base held s stands based deep =
        let lies = subst (LiesIn g.world start.there) r.2 (scalar_there g target indexes last start wells_good counts kind scalar r.3) in
        let part = part_there g target indexes last start wells_good counts kind scalar r.3 in
        let store = instr.Store level first ∷ [] in
        subst (λ rest. Executes g (on g (base ++ held) place s) held (place + length (value_code ++ store))
        (selected rest (map value_of (expressions g indexes)) (around g) (Some start.there) >>= next) s) (sym r.3)
        (pushed held store place base held s (effect.store (Some start.there)) stands based (omega arith)
        (λ base2 w t here based2 has.
        inr (done g 1 _ (slice_set base2 (r.0 + first) (value_cell w)) held (place + length value_code + 1)
        (record t { store = kept t.store (Some start.there) w })
        (scalar_kept g start.there (r.0 + first) t base2 w lies based2 (stored_fit start.there start.cell w part has))
        (stores_there level first r.0 start.there (place + length value_code) base2 held (value_cell w) t r.1 lies here.0 based2))))
    store_by (By c) r address place base held s stands based deep =
        let store = instr.StoreIndirect ∷ [] in
        let from = place + length c in
        address_then g (kept_on g held) c (value_code ++ store) place _ held last target_found next s
        (exact_found g target indexes last start wells_good counts) stands
        (λ front. subst (λ code. Addresses g (on g (base ++ held) place s) held (place + length code) last target_found s) (sym address)
        (pushed_runs g target indexes last start wells_good counts place base held s (subst (Stands g.target place) address front) based
        (omega arith)))
        (λ base1 d p s1 rest based1 part1 room1.
        let lies = scalar_lies_there g target indexes last start wells_good counts kind scalar p d part1 in
        let above = held ++ Number (pos d) ∷ [] in
        let high = length_one held (Number (pos d)) in
        let end = from + length value_code + 1 in
        subst (λ cells. Executes g (on g cells from s1) held (from + length (value_code ++ store)) (next (Some p)) s1)
        (one_held g base1 held (Number (pos d)))
        (pushed held store from base1 above s1 (effect.store (Some p)) rest based1 (omega arith)
        (λ base2 w t here based2 has.
        let cells = base2 ++ held in
        let cell = value_cell w in
        let inside = cell_within (outline g) g.world t.store base2 p d based2.alike lies in
        let long = length-append base2 held in
        let stored = acts g instr.StoreIndirect ((cells ++ Number (pos d) ∷ []) ++ cell ∷ []) (slice_set base2 d cell ++ held)
        (from + length value_code)
        t _ here.0 refl
        (stores_indirect g.frame g.limit g.size cells (linked g t base2 held based2) d cell (omega arith)
        ∙ ap (λ cs. Ok (frames_of g cs)) (set_front base2 held d cell inside)) in
        subst (λ cs. Executes g (on g (cs ++ cell ∷ []) (from + length value_code) t) held end (effect.store (Some p) w) t)
        (sym (one_held g base2 held (Number (pos d))))
        (inr (done g 1 _ (slice_set base2 d cell) held end (record t { store = kept t.store (Some p) w })
        (scalar_kept g p d t base2 w lies based2 (stored_fit p d w part1 has)) stored)))))

    pub store_runs : (place : ℕ) (base held : List Cell) (s : effect.State)
        → Stands g.target place (store_code value_code (reached g.scope target (codes g indexes))) → Based g s base
        → g.below + length held + store_depth target.selectors.items (depths g indexes) depth ≤ g.limit
        → Executes g (on g (base ++ held) place s) held (place + length (store_code value_code (reached g.scope target (codes g indexes))))
        (target_found >>= next) s
    store_runs place base held s stands based deep =
        subst (λ way. Executes g (on g (base ++ held) place s) held (place + length (store_code value_code way)) (target_found >>= next) s)
        (sym start.way_is)
        (store_by start.way start.reaches
        (ap address_of (sym start.way_is) ∙ address_is g target indexes last start wells_good counts) place base held s
        (subst (λ way. Stands g.target place (store_code value_code way)) start.way_is stands) based deep)

  module _ (assignment : Assignment) (good : Gives assignment.fits.tests (shape_of g assignment.value)) (site_within : assignment.fits.site < sites g) where
    abbrev value_code : List Instr
    value_code = expr_code g.scope assignment.value ++ (value_check assignment.fits ∷ [])

    -- what is done with a value that was tested
    abbrev tested : (Value → Action (Unit {0})) → Value → Action (Unit {0})
    tested next w = require (effect.is_in assignment.fits.range w) assignment.fits.site >>= λ _. next w

    -- a value, its test, and the code behind them
    value_pushed : Pushes value_code (expr_depth assignment.value) assignment.fits.tests (λ next. value_of assignment.value (around g) >>= tested next)
    value_pushed left c place base held s next stands based deep stored =
        let value = expr_code g.scope assignment.value in
        let check = value_check assignment.fits ∷ [] in
        let split = append_assoc value check c in
        let e : place + length value_code ≡ place + length value + 1 = omega (arith, length-append value check) in
        let kind = assignment.fits.tests in
        subst (λ code. Runs g (kept_on g left (place + length code)) (on g (base ++ held) place s) (value_of assignment.value (around g) >>= (tested next)) s)
        (sym split)
        (scalar_then g kind (kept_on g left) value (check ++ c) place _ held (value_of assignment.value (around g)) (tested next) s
        ((exact_around g).values assignment.value) (subst (Stands g.target place) split stands)
        (λ front. expr_runs g known assignment.value kind place base held s front good based deep)
        (λ base2 w t rest based2 has room le.
        let from = place + length value in
        let e' : from + 1 + length c ≡ from + length (check ++ c) = omega arith in
        subst (λ end. Runs g (kept_on g left end) (on g ((base2 ++ held) ++ value_cell w ∷ []) from t) (tested next w) t) e'
        (value_tested g (kept_on g left (from + 1 + length c)) kind assignment.fits w (base2 ++ held) from t (next w) rest.0 site_within
        (linked g t base2 held based2) has
        (λ _.
        subst (λ p. Runs g (kept_on g left (p + length c)) (on g ((base2 ++ held) ++ value_cell w ∷ []) p t) (next w) t) e
        (stored base2 w t (subst (λ p. Stands g.target p c) (sym e) rest.1) based2 has)))))

  -- an assignment to an ordinal or a set
  module _ (assignment : Assignment) where
    abbrev AssignRuns : List Expr → Type 0
    AssignRuns es =
        ExecutesAs g (λ scope place. store_code (expr_code scope assignment.value ++ (value_check assignment.fits ∷ []))
        (reached scope assignment.target (map (expr_code scope) es)))
        (store_depth assignment.target.selectors.items (map expr_depth es) (expr_depth assignment.value))
        (record {
          well = all_hold (map (is_well_formed_expr (outline g) g.number) es)
              && (leads_to_scalar (outline g) g.number (origin_of assignment.target) assignment.target.selectors.items (length es)
              && (is_well_formed_expr (outline g) g.number assignment.value
              && fits_target (outline g) g.number assignment.fits (origin_of assignment.target) assignment.target.selectors.items));
          held = are_ordinal_indexes es && is_held assignment.fits.tests (held_by assignment.value);
          there = accesses_begin assignment.target es g.opened && all_begins assignment.value g.opened;
          strings = all_compare g.tree.types es && compares_strings g.tree.types assignment.value;
        })
        (λ env. effect.enter assignment.number env.visible >>= λ _. accessed assignment.target (map value_of es) env >>= λ q.
        value_of assignment.value env >>= λ w. require (effect.is_in assignment.fits.range w) assignment.fits.site >>= λ _. effect.store q w)

    assigned : (indexes : Indexes g) → AssignRuns (expressions g indexes)
    assigned indexes place base held s stands good based high deep =
        let target = assignment.target in
        let fits = assignment.fits in
        let es = expressions g indexes in
        let count = length es in
        let leads_there = leads_to_scalar (outline g) g.number (origin_of target) target.selectors.items count in
        let well_valued = is_well_formed_expr (outline g) g.number assignment.value in
        let fitting = fits_target (outline g) g.number fits (origin_of target) target.selectors.items in
        let one = and_parts (all_hold (map (is_well_formed_expr (outline g) g.number) es)) (leads_there && (well_valued && fitting)) good.0 in
        let two = and_parts leads_there (well_valued && fitting) one.1 in
        let three = and_parts well_valued fitting two.1 in
        let four = and_parts (is_well_formed_test (outline g) g.number fits) _ three.1 in
        let helds = and_parts (are_ordinal_indexes es) (is_held fits.tests (held_by assignment.value)) good.1 in
        let begun = and_parts (accesses_begin target es g.opened) (all_begins assignment.value g.opened) good.2 in
        let begun_there = and_parts (all_begin (map all_begins es) g.opened) (is_there g.opened (origin_of target)) begun.0 in
        let strings = and_parts (all_compare g.tree.types es) (compares_strings g.tree.types assignment.value) good.3 in
        let ordinals : AreOrdinals g es = (one.0, helds.0, begun_there.0, strings.0) in
        let value_good : Gives fits.tests (shape_of g assignment.value) = (
          three.0,
          is_kind fits.tests (held_by assignment.value) helds.1,
          begun.1,
          strings.1,
        ) in
        let site_within = ltb-true fits.site (sites g) (and_parts (nat_lt fits.site (sites g)) (is_whole fits.range.first
        && is_whole fits.range.last) four.0).0 in
        let wanted = is_scalar g.tree.types in
        let led_to = leads g wanted (origin_of target) target.selectors.items count two.0 in
        let tested_type = ap (is_type (tests_type g.tree.types fits)) (sym led_to.last_is) ∙ four.1 in
        let kind_is = scalar_tested g.tree.types led_to.last fits.tests fits.range tested_type in
        let start = begins g target wanted count (codes g indexes) led_to begun_there.1 in
        let s2 = entered g target.number (entered g assignment.number s) in
        let code = expr_code g.scope assignment.value ++ (value_check fits ∷ []) in
        let c = store_code code (reached g.scope target (codes g indexes)) in
        let valued : (Value → Action (Unit {0})) → Action (Unit {0}) = λ then. value_of assignment.value (around g) >>= λ w. require
        (effect.is_in fits.range w) fits.site >>= λ _. then w
        in
        let next : Option Place → Action (Unit {0}) = λ q. valued (effect.store q) in
        subst (λ action. Executes g (on g (base ++ held) place s) held (place + length c) (action >>= next) (entered g assignment.number s))
        (sym (start.meant (map value_of es)))
        (store_runs code (expr_depth assignment.value) fits.tests valued (value_pushed assignment value_good site_within) target indexes led_to.last start
        ordinals led_to.counts kind_is place base held s2 stands based deep)

    pub assign_runs : AssignRuns assignment.indexes.items
    assign_runs = subst AssignRuns (told_back assignment.indexes.items) (assigned (told assignment.indexes.items))

  -- ---- whole values

  -- a row gives way to the components that got it
  row_stored : (p : Place) (type_id : TypeId) (d count place : ℕ) (base held : List Cell) (vs : List Value) (s : effect.State) → PartAt g p type_id d
      → cells_of g.tree.types type_id ≡ count → length vs ≡ count → AllFit (scalars_of g.tree.types type_id) vs
      → Stands g.target place (instr.StoreMany count ∷ []) → Based g s base
      → Executes g (on g (((base ++ held) ++ Number (pos d) ∷ []) ++ value_cells vs) place s) held (place + 1)
      (store_all (Some p) (components_of g.tree.types type_id) vs) s
  row_stored p type_id d count place base held vs s part cells long fit stands based =
      let below = base ++ held in
      let components = components_of g.tree.types type_id in
      let row = value_cells vs in
      let wide = length-cells_of vs in
      let high = length-append base held in
      let inside = part.within in
      let full = based.full in
      let many = g.known.cells g.tree.types type_id in
      let kept_base = row_kept g p components d vs s base part.from.each (subst (λ kinds. AllFit kinds vs) (sym (part_kinds g p type_id part.typed)) fit)
      based in
      let stored = acts g (instr.StoreMany count) ((below ++ Number (pos d) ∷ []) ++ row) (set_row base d row ++ held) place s _ stands.0 refl
      (stores_many g.frame g.limit g.size below (linked g s base held based) row count d (omega arith) (omega arith)
      ∙ ap (λ cs. Ok (frames_of g cs)) (set_row_front base held d row (omega arith))) in
      inr (subst (Arrives g (kept_on g held (place + 1)) s.turns (on g ((below ++ Number (pos d) ∷ []) ++ row) place s))
      (sym (store_all_is p components vs s))
      (done g 1 _ (set_row base d row) held (place + 1) (record s { store = stored_all s.store p components vs }) kept_base stored))

  -- an assignment of a whole value
  module _ (copying : Copying) where
    abbrev CopyRuns : List Expr → List Expr → Type 0
    CopyRuns es vs =
        ExecutesAs g (λ scope place. address_code scope copying.target (map (expr_code scope) es)
        ++ (whole_code scope copying.value (map (expr_code scope) vs) ++ (instr.StoreMany (row_length (length_of copying.value)) ∷ [])))
        (max (access_depth copying.target.selectors.items (map expr_depth es)) (whole_depth copying.value (map expr_depth vs) + 1))
        (record {
          well = all_hold (map (is_well_formed_expr (outline g) g.number) es)
              && (leads_to_whole (outline g) g.number copying.type_id (origin_of copying.target) copying.target.selectors.items (length es)
              && ((all_hold (whole_indexes copying.value (map (is_well_formed_expr (outline g) g.number) vs))
              && is_well_formed_whole (outline g) g.number copying.value (length vs))
              && may_copy (outline g) g.number copying.type_id (source_of copying.value) (length_of copying.value)));
          held = are_ordinal_indexes es && is_held_value copying.value vs;
          there = accesses_begin copying.target es g.opened && value_begins copying.value vs g.opened;
          strings = all_compare g.tree.types es && value_compares g.tree.types copying.value vs;
        })
        (λ env. effect.enter copying.number env.visible >>= λ _. accessed copying.target (map value_of es) env >>= λ q.
        whole_of copying.value (map value_of vs) env >>= λ values. store_all q (components_of env.visible.types copying.type_id) values)

    copied : (indexes value_indexes : Indexes g) → CopyRuns (expressions g indexes) (expressions g value_indexes)
    copied indexes value_indexes place base held s stands good based high deep =
        let target = copying.target in
        let type_id = copying.type_id in
        let v = copying.value in
        let es = expressions g indexes in
        let vs = expressions g value_indexes in
        let count = length es in
        let n = length_of v in
        let leads_there = leads_to_whole (outline g) g.number type_id (origin_of target) target.selectors.items count in
        let well_indexed = all_hold (whole_indexes v (map (is_well_formed_expr (outline g) g.number) vs)) in
        let well_made = is_well_formed_whole (outline g) g.number v (length (expressions g value_indexes)) in
        let may = may_copy (outline g) g.number type_id (source_of v) n in
        let one = and_parts (all_hold (map (is_well_formed_expr (outline g) g.number) es)) (leads_there && ((well_indexed && well_made) && may)) good.0 in
        let two = and_parts leads_there ((well_indexed && well_made) && may) one.1 in
        let three = and_parts (well_indexed && well_made) may two.1 in
        let four = and_parts well_indexed well_made three.0 in
        let helds = and_parts (are_ordinal_indexes es) (is_held_value v vs) good.1 in
        let begun = and_parts (accesses_begin target es g.opened) (value_begins v vs g.opened) good.2 in
        let begun_there = and_parts (all_begin (map all_begins es) g.opened) (is_there g.opened (origin_of target)) begun.0 in
        let strings = and_parts (all_compare g.tree.types es) (value_compares g.tree.types v vs) good.3 in
        let ordinals : AreOrdinals g es = (one.0, helds.0, begun_there.0, strings.0) in
        let order : IsInOrder g v vs = (four.0, four.1, helds.1, begun.1, strings.1) in
        let long = row_long g v (length vs) four.1 in
        let cells = copied_cells g type_id (source_of v) n three.1 in
        let same : n ≡ row_length n = few_components g v (length (expressions g value_indexes)) four.1 in
        let more = address_takes_one target.selectors.items (depths g indexes) in
        let led_to = leads g (is_whole_type g type_id) (origin_of target) target.selectors.items count two.0 in
        let its = wanted_type g led_to.last type_id led_to.is_wanted in
        let start = begins g target (is_whole_type g type_id) count (codes g indexes) led_to begun_there.1 in
        let c = address_code g.scope target (codes g indexes) in
        let d = whole_code g.scope v (codes g value_indexes) in
        let store = instr.StoreMany (row_length n) ∷ [] in
        let from = place + length c in
        let there = from + length d in
        let s2 = entered g target.number (entered g copying.number s) in
        let from_there = place_found g target indexes led_to.last start ordinals led_to.counts in
        let next : List Form → Option Place → Action (Unit {0}) = λ types q.
        whole_of v (map value_of (expressions g value_indexes)) (around g) >>= λ values. store_all q (components_of types type_id) values in
        subst (λ action. Executes g (on g (base ++ held) place s) held (place + length (c ++ (d ++ store))) (action >>= next g.environment.types)
        (entered g copying.number s)) (sym (start.meant (map value_of (expressions g indexes))))
        (subst (λ types. Executes g (on g (base ++ held) place s) held (place + length (c ++ (d ++ store))) (from_there >>= next types) s2)
        (sym g.types_are)
        (address_then g (kept_on g held) c (d ++ store) place _ held led_to.last from_there (next g.tree.types) s2
        (exact_found g target indexes led_to.last start ordinals led_to.counts) stands
        (λ front. address_runs g target indexes led_to.last start ordinals led_to.counts place base held s2 front based (omega arith))
        (λ base1 a p s1 rest based1 part1 room1.
        let taller = length_one held (Number (pos a)) in
        let part = subst (λ t. PartAt g p t a) its part1 in
        beside g (AllFit (row_kinds g v)) value_cells (kept_on g held) d store from base1 held (Number (pos a) ∷ []) (whole_of v (map value_of
        (expressions g value_indexes)) (around g)) (λ values. store_all (Some p) (components_of g.tree.types type_id) values) s1
        ((exact_around g).wholes v (expressions g value_indexes)) rest
        (λ front. whole_runs g v value_indexes from base1 (held ++ Number (pos a) ∷ []) s1 front order based1 (omega arith))
        (λ base2 values t storing based2 so.
        row_stored p type_id a n there base2 held values t part cells (fit_length (row_kinds g v) values so ∙ long)
        (copied_fit g type_id v (length vs) values four.1 three.1 so)
        (subst (λ k. Stands g.target there (instr.StoreMany k ∷ [])) (sym same) storing) based2))))

    pub copy_runs : CopyRuns copying.indexes.items copying.value_indexes.items
    copy_runs =
        subst (λ xs. CopyRuns xs copying.value_indexes.items) (told_back copying.indexes.items)
        (subst (CopyRuns (expressions g (told copying.indexes.items))) (told_back copying.value_indexes.items)
        (copied (told copying.indexes.items) (told copying.value_indexes.items)))
