use Rattle.std.proofs.Common.{rules, Err, ◌⊎◌, ◌≡◌, ◌+◌, ◌≤◌, [], ◌∷◌, ◌++◌, drop, length, map, min, ap, ap₂, subst, sym, ◌∙◌, length-append, arith}
use Rattle.std.proofs.lemmas.Slice.Zip.{zip_turn, zip_end}
use Rattle.memory.specs.Refused.{the_refusal}
use denote.Param.Weighed.{most, at_most}
use Rattle.syntax_tree.specs.declared.TypeDenoter.{size-TypeDenoter, the_lemmas}
use Rattle.types.specs.Forms.{field_form}
use Rattle.typed_tree.specs.declared.fault.TypeFault.TheVariants.{Memory}
use Rattle.typing.specs.Denoters.{arrays, denoted_type, index_type, index_types, named_fields}
use Rattle.typing.specs.Names.{denoter_names}
use Rattle.typing.specs.Outcomes.{TypingTakes}
use Rattle.typing.specs.Steps.{pass}
use Rattle.typing.proofs.DenoterRows.{AreTypesFrom, AreGroupsFrom, types_next, group_stops, group_next, group_names_stop, groups_end}
use Rattle.typing.proofs.DenoterRows.{indexes_stop, element_stops, array_goes_on, fields_stop, record_goes_on}
use Rattle.typing.proofs.Written.{names_of_array, names_of_record}
use Rattle.declarations.specs.Known.{AreKnown, names_in, names_in_groups}
use Rattle.declarations.proofs.Defined.{groups_from, next_names, next_group}
use Rattle.declarations.proofs.Kept.{pass_keeps, index_keeps, types_keep, denoted_type_keeps, names_stay}
use Rattle.declarations.proofs.Parts.{first_known, others_known}
use Rattle.declarations.proofs.denoters.+denoters.Goals as goal

-- ---- an array

-- the names of its parts are those of the denoter, and stay known while its word is passed
pub denoted_type-index_types-requires : goal.denoted_type-index_types-requires
denoted_type-index_types-requires t c =
    let it = c.in-Array in
    let old = c.args.typer.now in
    let new = c.pass.new.self in
    let indexes = names_in it.indexes.items in
    let element = denoter_names it.element.value in
    let parts = ap denoter_names it.is ∙ names_of_array it.packed it.place it.indexes it.element in
    let known = first_known old.regions indexes element (subst (λ names. AreKnown names old.regions) parts c.requires.known) in
    let still = names_stay (pass it.place) (pass_keeps it.place) tt [] old new c.pass.ensures indexes known in
    (search (rules, the_lemmas), subst (λ ds. AreKnown (names_in ds) new.regions) (sym c.deref-in-Array.ensures.value) still)

-- and while its index types are
pub denoted_type-denoted_type-requires : goal.denoted_type-denoted_type-requires
denoted_type-denoted_type-requires t c =
    let it = c.in-Array in
    let old = c.args.typer.now in
    let between = c.pass.new.self in
    let new = c.index_types.new.typer in
    let indexes = c.deref-in-Array.result.now in
    let element = denoter_names it.element.value in
    let parts = ap denoter_names it.is ∙ names_of_array it.packed it.place it.indexes it.element in
    let known = others_known old.regions (names_in it.indexes.items) element (subst (λ names. AreKnown names old.regions) parts c.requires.known) in
    let still = names_stay (pass it.place) (pass_keeps it.place) tt [] old between c.pass.ensures element known in
    let last = names_stay (index_types (map denoted_type indexes)) (types_keep indexes)
    c.in_ok-indexes-in-Array.indexes.items [] between new c.in_ok-indexes-in-Array.ensures element still in
    (search (rules, the_lemmas), subst (λ d. AreKnown (denoter_names d) new.regions) (sym c.deref-in-Array-2.ensures) last)

-- its index types stop
pub denoted_type-returns-in_err-indexes-in-Array : goal.denoted_type-returns-in_err-indexes-in-Array
denoted_type-returns-in_err-indexes-in-Array t c =
    let it = c.in-Array in
    let stops = indexes_stop c.args.denoter.now it.packed it.place it.indexes it.element it.is c.deref-in-Array.result.now
    c.deref-in-Array.ensures.value c.args.typer.now c.pass.new.self c.pass.ensures c.in_err-indexes-in-Array.field-0.0 c.in_err-indexes-in-Array.ensures in
    search (rules, stops)

-- the type of its elements stops
pub denoted_type-returns-in_err-element-in-Array : goal.denoted_type-returns-in_err-element-in-Array
denoted_type-returns-in_err-element-in-Array t c =
    let it = c.in-Array in
    let stops = element_stops c.args.denoter.now it.packed it.place it.indexes it.element it.is c.deref-in-Array.result.now
    c.deref-in-Array.ensures.value c.args.typer.now c.pass.new.self c.pass.ensures c.in_ok-indexes-in-Array.indexes.items c.index_types.new.typer
    c.in_ok-indexes-in-Array.ensures c.deref-in-Array-2.result.now c.deref-in-Array-2.ensures c.in_err-element-in-Array.field-0.0
    c.in_err-element-in-Array.ensures in
    search (rules, stops)

-- the array itself
pub denoted_type-returns-in_ok-element-in-Array : goal.denoted_type-returns-in_ok-element-in-Array
denoted_type-returns-in_ok-element-in-Array t c =
    let it = c.in-Array in
    let ids = c.in_ok-indexes-in-Array.indexes.items in
    let id = c.in_ok-element-in-Array.element in
    let goes = array_goes_on c.args.denoter.now it.packed it.place it.indexes it.element it.is c.deref-in-Array.result.now
    c.deref-in-Array.ensures.value c.args.typer.now c.pass.new.self c.pass.ensures ids c.index_types.new.typer
    c.in_ok-indexes-in-Array.ensures c.deref-in-Array-2.result.now c.deref-in-Array-2.ensures id c.denoted_type.new.typer c.in_ok-element-in-Array.ensures in
    subst (λ o. TypingTakes o c.arrays.result c.arrays.new.self)
    (sym (goes ∙ ap (λ l. arrays it.packed it.place l id c.denoted_type.new.typer) (sym c.deref-in-Array-3.ensures.value))) c.arrays.ensures

-- ---- its index types

pub index_types-index_type-requires : goal.index_types-index_type-requires
index_types-index_type-requires t c =
    let here = c.loop-denoter in
    let denoters = c.args.denoters.now in
    let i = here.denoter-index in
    let denoter = c.denoter-item.result in
    let rest = names_in (drop (i + 1) denoters) in
    let known = subst (λ names. AreKnown names here.typer.regions) (next_names denoters i denoter c.loop-denoter-test.true c.denoter-item.is)
    here.invariant.known in
    (search (rules, the_lemmas), first_known here.typer.regions (denoter_names denoter) rest known)

pub index_types-loop-denoter-preserved : goal.index_types-loop-denoter-preserved
index_types-loop-denoter-preserved t c =
    let here = c.loop-denoter in
    let denoters = c.args.denoters.now in
    let i = here.denoter-index in
    let denoter = c.denoter-item.result in
    let old = c.args.typer.now in
    let new = c.index_type.new.typer in
    let rest = names_in (drop (i + 1) denoters) in
    let known = subst (λ names. AreKnown names here.typer.regions) (next_names denoters i denoter c.loop-denoter-test.true c.denoter-item.is)
    here.invariant.known in
    let passes = c.in_ok-index_type.ensures in
    let next = types_next denoted_type denoters old i denoter here.ids.items here.typer c.loop-denoter-test.true c.denoter-item.is
    here.invariant.left c.in_ok-index_type.field-0 new passes in
    let ids : here.ids.items ++ c.in_ok-index_type.field-0 ∷ [] ≡ c.push_reserved.new.self.items = search (rules, c.push_reserved.ensures.items) in
    record {
      left = subst (λ ids. AreTypesFrom denoted_type denoters old (i + 1) ids new) ids next;
      known = names_stay (index_type (denoted_type denoter)) (index_keeps denoter) c.in_ok-index_type.field-0 [] here.typer new
          passes rest (others_known here.typer.regions (denoter_names denoter) rest known);
      count = omega (arith, c.push_reserved.ensures.len);
      room = omega (arith, c.push_reserved.ensures.capacity);
    }

-- ---- a record

-- the names of its groups are those of the denoter, and stay known while its word is passed
pub denoted_type-grouped_fields-requires : goal.denoted_type-grouped_fields-requires
denoted_type-grouped_fields-requires t c =
    let it = c.in-Record in
    let old = c.args.typer.now in
    let new = c.pass-in-Record.new.self in
    let groups = names_in_groups it.rows.items it.denoters.items in
    let parts = ap denoter_names it.is ∙ names_of_record it.packed it.place it.rows it.denoters it.semicolon in
    let still = names_stay (pass it.place) (pass_keeps it.place) tt [] old new c.pass-in-Record.ensures groups
    (subst (λ names. AreKnown names old.regions) parts c.requires.known) in
    let derefs = ap₂ names_in_groups (sym c.deref-in-Record.ensures.value) (sym c.deref-in-Record-2.ensures.value) in
    (search (rules, the_lemmas), subst (λ names. AreKnown names new.regions) derefs still)

-- its fields stop
pub denoted_type-returns-in_err-fields-in-Record : goal.denoted_type-returns-in_err-fields-in-Record
denoted_type-returns-in_err-fields-in-Record t c =
    let it = c.in-Record in
    let stops = fields_stop c.args.denoter.now it.packed it.place it.rows it.denoters it.semicolon it.is c.deref-in-Record.result.now
    c.deref-in-Record.ensures.value c.deref-in-Record-2.result.now c.deref-in-Record-2.ensures.value c.args.typer.now c.pass-in-Record.new.self
    c.pass-in-Record.ensures c.in_err-fields-in-Record.field-0.0 c.in_err-fields-in-Record.ensures in
    search (rules, stops)

-- the record itself
pub denoted_type-returns-in_ok-fields-in-Record : goal.denoted_type-returns-in_ok-fields-in-Record
denoted_type-returns-in_ok-fields-in-Record t c =
    let it = c.in-Record in
    let fields = c.in_ok-fields-in-Record.fields.items in
    let goes = record_goes_on c.args.denoter.now it.packed it.place it.rows it.denoters it.semicolon it.is c.deref-in-Record.result.now
    c.deref-in-Record.ensures.value c.deref-in-Record-2.result.now c.deref-in-Record-2.ensures.value c.args.typer.now c.pass-in-Record.new.self
    c.pass-in-Record.ensures (map field_form fields) c.grouped_fields.new.typer c.in_ok-fields-in-Record.ensures in
    subst (λ o. TypingTakes o c.add_type.result c.add_type.new.self) (sym goes) c.add_type.ensures.taken

-- ---- its fields

pub grouped_fields-denoted_type-requires : goal.grouped_fields-denoted_type-requires
grouped_fields-denoted_type-requires t c =
    let rows = c.args.rows.now in
    let denoters = c.args.denoters.now in
    let here = c.loop-row in
    let i = length here.yielded in
    let begins = c.into_iter-row-iterator.result in
    let first : begins.a.rest.now ≡ rows = search rules in
    let second : begins.b.rest.now ≡ denoters = search rules in
    let turn = zip_turn rows denoters here.yielded begins here.row-iterator c.next.new.self c.next.result first second here.yielded_by
    (c.in-Some.row, c.in-Some.denoter) c.in-Some.is c.next.ensures.steps in
    let row = c.in-Some.row.now in
    let denoter = c.in-Some.denoter.now in
    let known = subst (λ names. AreKnown names here.typer.regions) (next_group rows denoters i row denoter turn.0 (turn.2 row) turn.1 (turn.3 denoter))
    here.invariant.known in
    let small : size-TypeDenoter denoter ≤ most size-TypeDenoter denoters =
    subst (λ d. size-TypeDenoter d ≤ most size-TypeDenoter denoters) (sym (turn.3 denoter)) (at_most size-TypeDenoter denoters i denoter turn.1) in
    (search (rules, the_lemmas, small), first_known here.typer.regions (denoter_names denoter) (groups_from rows denoters (i + 1)) known)

-- the type of a group is refused
pub grouped_fields-returns-in_err-type_id : goal.grouped_fields-returns-in_err-type_id
grouped_fields-returns-in_err-type_id t c =
    let rows = c.args.rows.now in
    let denoters = c.args.denoters.now in
    let here = c.loop-row in
    let begins = c.into_iter-row-iterator.result in
    let first : begins.a.rest.now ≡ rows = search rules in
    let second : begins.b.rest.now ≡ denoters = search rules in
    let turn = zip_turn rows denoters here.yielded begins here.row-iterator c.next.new.self c.next.result first second here.yielded_by
    (c.in-Some.row, c.in-Some.denoter) c.in-Some.is c.next.ensures.steps in
    let stops = group_stops denoted_type rows denoters c.args.typer.now (length here.yielded) c.in-Some.row.now c.in-Some.denoter.now
    (map field_form here.fields.items) here.typer turn.0 (turn.2 c.in-Some.row.now) turn.1 (turn.3 c.in-Some.denoter.now) here.invariant.left
    c.in_err-type_id.field-0.0 c.in_err-type_id.ensures in
    search (rules, stops)

-- its names are
pub grouped_fields-returns-in_err-add_fields : goal.grouped_fields-returns-in_err-add_fields
grouped_fields-returns-in_err-add_fields t c =
    let rows = c.args.rows.now in
    let denoters = c.args.denoters.now in
    let here = c.loop-row in
    let i = length here.yielded in
    let begins = c.into_iter-row-iterator.result in
    let first : begins.a.rest.now ≡ rows = search rules in
    let second : begins.b.rest.now ≡ denoters = search rules in
    let turn = zip_turn rows denoters here.yielded begins here.row-iterator c.next.new.self c.next.result first second here.yielded_by
    (c.in-Some.row, c.in-Some.denoter) c.in-Some.is c.next.ensures.steps in
    let row = c.in-Some.row.now in
    let denoter = c.in-Some.denoter.now in
    let fields = map field_form here.fields.items in
    let why = c.in_err-add_fields.field-0.0 in
    let id = c.in_ok-type_id.type_id in
    let twice = subst (λ l. (why ≡ Memory the_refusal) ⊎ (named_fields fields id l ≡ Err why)) c.deref.ensures.value c.in_err-add_fields.ensures in
    let stops = group_names_stop denoted_type rows denoters c.args.typer.now i row denoter fields here.typer turn.0 (turn.2 row) turn.1
    (turn.3 denoter) here.invariant.left id c.denoted_type.new.typer c.in_ok-type_id.ensures why twice in
    search (rules, stops)

-- one group more
pub grouped_fields-loop-row-preserved : goal.grouped_fields-loop-row-preserved
grouped_fields-loop-row-preserved t c =
    let rows = c.args.rows.now in
    let denoters = c.args.denoters.now in
    let here = c.loop-row in
    let i = length here.yielded in
    let begins = c.into_iter-row-iterator.result in
    let first : begins.a.rest.now ≡ rows = search rules in
    let second : begins.b.rest.now ≡ denoters = search rules in
    let turn = zip_turn rows denoters here.yielded begins here.row-iterator c.next.new.self c.next.result first second here.yielded_by
    (c.in-Some.row, c.in-Some.denoter) c.in-Some.is c.next.ensures.steps in
    let row = c.in-Some.row.now in
    let denoter = c.in-Some.denoter.now in
    let fields = map field_form here.fields.items in
    let old = c.args.typer.now in
    let new = c.denoted_type.new.typer in
    let id = c.in_ok-type_id.type_id in
    let rest = groups_from rows denoters (i + 1) in
    let more = map field_form c.add_fields.new.fields.items in
    let known = subst (λ l. AreKnown l here.typer.regions) (next_group rows denoters i row denoter turn.0 (turn.2 row) turn.1 (turn.3 denoter))
    here.invariant.known in
    let named = ap (named_fields fields id) (sym c.deref.ensures.value) ∙ c.in_ok-add_fields.ensures in
    let next = group_next denoted_type rows denoters old i row denoter fields here.typer turn.0 (turn.2 row) turn.1 (turn.3 denoter)
    here.invariant.left id new c.in_ok-type_id.ensures more named in
    let stay = names_stay (denoted_type denoter) (denoted_type_keeps denoter) id [] here.typer new c.in_ok-type_id.ensures rest
    (others_known here.typer.regions (denoter_names denoter) rest known) in
    let one : i + 1 ≡ length (here.yielded ++ (c.in-Some.row, c.in-Some.denoter) ∷ []) =
    omega (arith, length-append here.yielded ((c.in-Some.row, c.in-Some.denoter) ∷ [])) in
    record {
      left = subst (λ n. AreGroupsFrom denoted_type rows denoters old n more new) one next;
      known = subst (λ n. AreKnown (groups_from rows denoters n) new.regions) one stay;
    }

-- all groups are passed
pub grouped_fields-returns : goal.grouped_fields-returns
grouped_fields-returns t c =
    let rows = c.args.rows.now in
    let denoters = c.args.denoters.now in
    let here = c.loop-row in
    let begins = c.into_iter-row-iterator.result in
    let first : begins.a.rest.now ≡ rows = search rules in
    let second : begins.b.rest.now ≡ denoters = search rules in
    let all : length here.yielded ≡ min (length rows) (length denoters) =
    zip_end rows denoters here.yielded begins here.row-iterator c.next.new.self c.next.result first second here.yielded_by c.in-None.is
    c.next.ensures.steps in
    groups_end denoted_type rows denoters c.args.typer.now (length here.yielded) (map field_form here.fields.items) here.typer all
    here.invariant.left

-- ---- a set

-- the names of its base stay known while its word is passed
pub set_type-index_type-requires : goal.set_type-index_type-requires
set_type-index_type-requires t c =
    let base = denoter_names c.args.base.now in
    let known = names_stay (pass c.args.place) (pass_keeps c.args.place) tt [] c.args.typer.now c.pass.new.self c.pass.ensures base c.requires.known in
    (search (rules, the_lemmas), known)
