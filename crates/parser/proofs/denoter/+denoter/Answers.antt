use Rattle.std.proofs.Common.{◌≡◌, rules, Some, Ok, Err, sym, ap, subst, ◌∙◌}
use Rattle.memory.specs.Refused.{the_refusal}
use Rattle.lexer.specs.declared.token.Kind.TheVariants as kind
use Rattle.lexer.specs.declared.token.Symbol.TheVariants as symbol
use Rattle.lexer.specs.declared.token.Word.{Word}
use Rattle.reading.specs.declared.refusal.Refusal.TheVariants.{Memory}
use Rattle.reading.specs.Declarations as spec
use Rattle.reading.specs.Outline as form
use Rattle.reading.specs.Reading.{next_kind, separated}
use Rattle.reading.specs.Statements.{parts_to_end}
use Rattle.reading.specs.Trees.{denoter_outline}
use Rattle.reading.proofs.Uses.{denoter_no_more, fields_no_more}
use Rattle.token_cursor.specs.Cursor.{Makes}
use Rattle.parser.specs.Fields.{fields_look}
use Rattle.parser.proofs.Denoters.{denoter_at, denoter_else}
use Rattle.parser.proofs.Fields.{names_look, fields_push}
use Rattle.parser.proofs.Listed.{listed_goes, listed_fewer, listed_ends, listed_stops}
use Rattle.parser.proofs.Pairs.{pairs_go, pairs_fewer, pairs_end, head_stops, inner_stops, behind_stops}
use Rattle.parser.proofs.denoter.+denoter.Goals as goal
use Rattle.parser.proofs.denoter.+denoter.Goals.{denoter-in_default-via-in-Some+in-Symbol+in_default, denoter-in_default-via-in-Some+in_default}
use Rattle.parser.proofs.denoter.+denoter.Goals.{denoter-in_default-via-in_default}

-- ---- a denoter by what comes next

pub denoter-returns-in-Some-Symbol-OpenParenthesis : goal.denoter-returns-in-Some-Symbol-OpenParenthesis
denoter-returns-in-Some-Symbol-OpenParenthesis t c =
    let here = c.args.cursor.now.rest.now in
    let next : next_kind here ≡ Some (kind.Symbol symbol.OpenParenthesis) = search rules in
    let is : spec.denoter c.args.levels here ≡ spec.enumerated here =
    denoter_at c.args.levels c.in_ok-levels.levels c.in_ok-levels.ensures.left here
    ∙ ap (λ k. spec.denoter_by (spec.denoter c.in_ok-levels.levels) k here) next in
    subst (λ o. Makes denoter_outline o c.enumerated.result c.enumerated.new.cursor) (sym is) c.enumerated.ensures

pub denoter-returns-in-Some-Word : goal.denoter-returns-in-Some-Word
denoter-returns-in-Some-Word t c =
    let here = c.args.cursor.now.rest.now in
    let next : next_kind here ≡ Some (kind.Word c.in-Some-Word.field-0-0) = search rules in
    let is : spec.denoter c.args.levels here ≡ spec.structured (spec.denoter c.in_ok-levels.levels) here =
    denoter_at c.args.levels c.in_ok-levels.levels c.in_ok-levels.ensures.left here
    ∙ ap (λ k. spec.denoter_by (spec.denoter c.in_ok-levels.levels) k here) next in
    subst (λ o. Makes denoter_outline o c.structured.result c.structured.new.cursor) (sym is) c.structured.ensures

pub denoter-returns-in_default : goal.denoter-returns-in_default
denoter-returns-in_default t c =
    let here = c.args.cursor.now.rest.now in
    let none : (¬ (next_kind here ≡ Some (kind.Symbol symbol.OpenParenthesis))) =
    elim c.in_default.branch [
      | denoter-in_default-via-in-Some+in-Symbol+in_default w ↦ λ e. search rules
      | denoter-in_default-via-in-Some+in_default w ↦ λ e. search rules
      | denoter-in_default-via-in_default w ↦ λ e. search rules
    ] in
    let no_word : (w : Word) → ¬ (next_kind here ≡ Some (kind.Word w)) =
    elim c.in_default.branch [
      | denoter-in_default-via-in-Some+in-Symbol+in_default w ↦ λ v e. search rules
      | denoter-in_default-via-in-Some+in_default w ↦ λ v e. search rules
      | denoter-in_default-via-in_default w ↦ λ v e. search rules
    ] in
    let is : spec.denoter c.args.levels here ≡ spec.name_or_subrange here =
    denoter_at c.args.levels c.in_ok-levels.levels c.in_ok-levels.ensures.left here
    ∙ ap (λ r. r here) (denoter_else (spec.denoter c.in_ok-levels.levels) (next_kind here) none no_word) in
    subst (λ o. Makes denoter_outline o c.name_or_subrange.result c.name_or_subrange.new.cursor) (sym is) c.name_or_subrange.ensures

-- ---- the index types of an array

pub indexes-returns-in_err-put : goal.indexes-returns-in_err-put
indexes-returns-in_err-put t c =
    let why = c.in_err-put.field-0.0 in
    let left = c.denoter.new.cursor in
    let stops : (¬ (why ≡ Memory the_refusal)) → separated symbol.Comma (spec.denoter c.args.levels) c.args.cursor.now.rest.now ≡ Err (why, left.rest.now) =
    listed_stops denoter_outline symbol.Comma (spec.denoter c.args.levels) c.loop-indexes.cursor.rest.now c.denoter.result left c.loop-indexes.indexes.items
    c.put.new.list.items c.denoter.ensures c.loop-indexes.invariant why c.in_err-put.ensures in
    search rules

pub indexes-loop-indexes-smaller : goal.indexes-loop-indexes-smaller
indexes-loop-indexes-smaller t c =
    listed_fewer denoter_outline symbol.Comma (spec.denoter c.args.levels) c.loop-indexes.cursor.rest.now c.denoter.result c.denoter.new.cursor
    c.loop-indexes.indexes.items c.put.new.list.items c.denoter.ensures (denoter_no_more c.args.levels) c.in_ok-put.ensures c.in-Some.field-0
    c.take_symbol.new.self.rest.now c.in-Some.ensures

pub indexes-loop-indexes-preserved : goal.indexes-loop-indexes-preserved
indexes-loop-indexes-preserved t c =
    listed_goes denoter_outline symbol.Comma (spec.denoter c.args.levels) c.loop-indexes.cursor.rest.now c.denoter.result c.denoter.new.cursor
    c.loop-indexes.indexes.items c.put.new.list.items c.denoter.ensures (denoter_no_more c.args.levels) c.loop-indexes.invariant c.in_ok-put.ensures
    c.in-Some.field-0 c.take_symbol.new.self.rest.now c.in-Some.ensures

pub indexes-returns-in_default : goal.indexes-returns-in_default
indexes-returns-in_default t c =
    listed_ends denoter_outline symbol.Comma (spec.denoter c.args.levels) c.loop-indexes.cursor.rest.now c.denoter.result c.denoter.new.cursor
    c.loop-indexes.indexes.items c.put.new.list.items c.denoter.ensures c.loop-indexes.invariant c.in_ok-put.ensures c.take_symbol.new.self.rest.now
    c.in_default.ensures

-- ---- the fields of a record

pub fields-returns-in_err-put : goal.fields-returns-in_err-put
unfolding spec.fields
fields-returns-in_err-put t c =
    let why = c.in_err-put.field-0.0 in
    let left = c.field_names.new.cursor in
    let stops : (¬ (why ≡ Memory the_refusal)) → parts_to_end (spec.fields (spec.denoter c.args.levels)) c.args.cursor.now.rest.now ≡ Err (why, left.rest.now) =
    head_stops names_look denoter_outline form.fields spec.field_names (spec.denoter c.args.levels) fields_look c.loop-denoters.cursor.rest.now
    c.loop-denoters.names.items c.loop-denoters.denoters.items c.loop-denoters.invariant c.field_names.result left c.put.new.list.items
    c.field_names.ensures why c.in_err-put.ensures in
    search rules

pub fields-returns-in_err-put-2 : goal.fields-returns-in_err-put-2
unfolding spec.fields
fields-returns-in_err-put-2 t c =
    let why = c.in_err-put-2.field-0.0 in
    let left = c.denoter.new.cursor in
    let stops : (¬ (why ≡ Memory the_refusal)) → parts_to_end (spec.fields (spec.denoter c.args.levels)) c.args.cursor.now.rest.now ≡ Err (why, left.rest.now) =
    inner_stops names_look denoter_outline form.fields spec.field_names (spec.denoter c.args.levels) fields_look c.loop-denoters.cursor.rest.now
    c.loop-denoters.names.items c.loop-denoters.denoters.items c.loop-denoters.invariant c.field_names.result c.field_names.new.cursor c.put.new.list.items
    c.field_names.ensures c.in_ok-put.ensures c.denoter.result left c.put-in-loop-denoters.new.list.items c.denoter.ensures why c.in_err-put-2.ensures in
    search rules

pub fields-returns-in_err-semicolon : goal.fields-returns-in_err-semicolon
unfolding spec.fields
fields-returns-in_err-semicolon t c =
    let why = c.in_err-semicolon.field-0.0 in
    let left = c.behind_arm.new.cursor in
    let stops : (¬ (why ≡ Memory the_refusal)) → parts_to_end (spec.fields (spec.denoter c.args.levels)) c.args.cursor.now.rest.now ≡ Err (why, left.rest.now) =
    λ m. behind_stops names_look denoter_outline form.fields spec.field_names (spec.denoter c.args.levels) fields_look c.loop-denoters.cursor.rest.now
    c.loop-denoters.names.items c.loop-denoters.denoters.items c.loop-denoters.invariant c.field_names.result c.field_names.new.cursor c.put.new.list.items
    c.field_names.ensures c.in_ok-put.ensures c.denoter.result c.denoter.new.cursor c.put-in-loop-denoters.new.list.items c.denoter.ensures
    c.in_ok-put-2.ensures why left.rest.now (c.in_err-semicolon.ensures m) in
    search rules

pub fields-returns-in-Some : goal.fields-returns-in-Some
unfolding spec.fields
fields-returns-in-Some t c =
    pairs_end names_look denoter_outline form.fields spec.field_names (spec.denoter c.args.levels) fields_look c.loop-denoters.cursor.rest.now
    c.loop-denoters.names.items c.loop-denoters.denoters.items c.loop-denoters.invariant c.field_names.result c.field_names.new.cursor c.put.new.list.items
    c.field_names.ensures c.in_ok-put.ensures c.denoter.result c.denoter.new.cursor c.put-in-loop-denoters.new.list.items c.denoter.ensures
    c.in_ok-put-2.ensures (fields_push (spec.denoter c.args.levels)) c.behind_arm.new.cursor.rest.now c.in-Some.semicolon
    (c.in_ok-semicolon.ensures ∙ ap (λ found. Ok (found, c.behind_arm.new.cursor.rest.now)) c.in-Some.is)

pub fields-loop-denoters-smaller : goal.fields-loop-denoters-smaller
unfolding spec.fields
fields-loop-denoters-smaller t c =
    pairs_fewer names_look denoter_outline form.fields spec.field_names (spec.denoter c.args.levels) fields_look c.loop-denoters.cursor.rest.now
    c.loop-denoters.names.items c.loop-denoters.denoters.items c.loop-denoters.invariant c.field_names.result c.field_names.new.cursor c.put.new.list.items
    c.field_names.ensures c.in_ok-put.ensures c.denoter.result c.denoter.new.cursor c.put-in-loop-denoters.new.list.items c.denoter.ensures
    c.in_ok-put-2.ensures (fields_no_more c.args.levels) c.behind_arm.new.cursor.rest.now
    (c.in_ok-semicolon.ensures ∙ ap (λ found. Ok (found, c.behind_arm.new.cursor.rest.now)) c.in_default.is)

pub fields-loop-denoters-preserved : goal.fields-loop-denoters-preserved
unfolding spec.fields
fields-loop-denoters-preserved t c =
    pairs_go names_look denoter_outline form.fields spec.field_names (spec.denoter c.args.levels) fields_look c.loop-denoters.cursor.rest.now
    c.loop-denoters.names.items c.loop-denoters.denoters.items c.loop-denoters.invariant c.field_names.result c.field_names.new.cursor c.put.new.list.items
    c.field_names.ensures c.in_ok-put.ensures c.denoter.result c.denoter.new.cursor c.put-in-loop-denoters.new.list.items c.denoter.ensures
    c.in_ok-put-2.ensures (fields_no_more c.args.levels) (fields_push (spec.denoter c.args.levels)) c.behind_arm.new.cursor.rest.now
    (c.in_ok-semicolon.ensures ∙ ap (λ found. Ok (found, c.behind_arm.new.cursor.rest.now)) c.in_default.is)
