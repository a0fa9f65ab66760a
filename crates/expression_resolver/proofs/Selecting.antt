-- Accesses: how their typing goes on from that of a variable, of its selectors and of its value.
use Rattle.std.proofs.Common.{◌≡◌, ℕ, suc, ◌+◌, ◌<◌, ◌≤◌, Bool, List, [], ◌∷◌, ◌++◌, map, length, drop, get_or, Option, Some, None, Ok, Err, Result}
use Rattle.std.proofs.Common.{slice_get, inl, inr, refl, sym, ap, ap₂, subst, ◌∙◌, Vec, append-nil, length-append, arith}
use Rattle.std.specs.Prelude.{flat_map}
use Rattle.std.specs.declared.alloc.Global.{Global}
use Rattle.std.proofs.lemmas.List.{drop_more, at_drop_all}
use Rattle.std.proofs.lemmas.List.Folds.{flat_map-map}
use Rattle.std.proofs.lemmas.Grind.{flat_map-append}
use Rattle.place.specs.declared.Place.{Place}
use Rattle.syntax_tree.specs.declared.Name.{Name}
use Rattle.syntax_tree.specs.declared.Expr.{Expr as SyntaxExpr}
use Rattle.syntax_tree.specs.declared.Selector.{Selector}
use Rattle.syntax_tree.specs.declared.Selector.TheVariants as select
use Rattle.types.specs.declared.form.TypeId.{TypeId}
use Rattle.scopes.specs.declared.denotation.Denotation.{Denotation}
use Rattle.scopes.specs.declared.denotation.Denotation.TheVariants as denotes
use Rattle.typed_tree.specs.declared.fault.TypeFault.{TypeFault}
use Rattle.typed_tree.specs.declared.fault.TypeFault.TheVariants as fault
use Rattle.typed_tree.specs.declared.site.SiteKind.{SiteKind}
use Rattle.typed_tree.specs.declared.site.SiteKind.TheVariants as kind
use Rattle.typed_tree.specs.declared.tree.Access.{Access as VariableAccess}
use Rattle.typed_tree.specs.declared.tree.Expr.{Expr}
use Rattle.typed_tree.specs.declared.tree.RangeTest.{RangeTest}
use Rattle.typed_tree.specs.declared.tree.Selector.{Selector as TreeSelector}
use Rattle.typed_tree.specs.declared.tree.Selector.TheVariants as tree
use Rattle.typed_tree.specs.Accesses.{Origin, index_count, origin_by, root_of}
use Rattle.typed_tree.specs.Entries.{joined}
use Rattle.typed_tree.specs.Look.{Look, Mark, Access, look_expr, look_access}
use Rattle.typing_rules.specs.declared.typed.Typed.{Typed}
use Rattle.typing.specs.Passing.{OpenRecord, Passed, Passing, After, after, behind_marks, pure, ◌>>=◌, ◌>>◌}
use Rattle.typing_rules.specs.Checked.{Checked, and_then}
use Rattle.typing.specs.Steps.{enter_as, find, may_change, record_at, site}
use Rattle.typing.specs.Expressions.{Denoted, component, entire, field_or_none, field_variable, variable_of}
use Rattle.typing.specs.Expressions.{Written, behind, selected, accessed, expression}
use Rattle.typing.specs.Outcomes.{IsFault}
use Rattle.typing.proofs.Rows.{behind_nothing, then_assoc}
use Rattle.typing.proofs.Selectors.{IsSelectedFrom, selectors_begin, selector_next, selector_stops, selectors_end}
use Rattle.expression_resolver.specs.declared.typed.Entered.{Entered}
use Rattle.expression_resolver.specs.declared.typed.Selection.{Selection}
use Rattle.expression_resolver.specs.Accesses.{begun, component_of, left_behind, look_selection, named_variable, on, reached, value, valued, IsCounted}
use Rattle.expression_resolver.specs.Accesses.{IsBegunBy, IsElementBehind, IsFieldBehind, IsOneBehind, SelectsField, SelectsElement, SelectsOne}

-- ---- forms that are passed one after another

module _ {A B : Type 0} (f g : A → Passing B) (same : (a : A) → (s : Passed) → f a s ≡ g a s) where
  same_at : (outcome : Checked (After A))
      → and_then outcome (λ a. behind_marks a.look (f a.answer a.passed)) ≡ and_then outcome (λ a. behind_marks a.look (g a.answer a.passed))
  same_at (Ok a) = ap (behind_marks a.look) (same a.answer a.passed)
  same_at (Err why) = refl

  -- the same behind the first one
  pub same_behind : (p : Passing A) (s : Passed) → (p >>= f) s ≡ (p >>= g) s
  same_behind p s = same_at (p s)

-- ---- a variable

-- what a name denotes has no index expressions yet
pub plain_variable : (place : Place) (d : Denotation) (s new : Passed) (found : Denoted) → variable_of place d s ≡ Ok (after found [] new)
    → index_count found.selectors ≡ 0
unfolding record_at
plain_variable place (denotes.Variable root type_id) s new found is =
    let same : after (entire root type_id) [] s ≡ after found [] new = cc in ap (λ (a : After Denoted). index_count a.answer.selectors) (sym same)
plain_variable place (denotes.Field slot position offset type_id) s new found is = by (slice_get s.records slot) is
  where
    by : (opened : Option OpenRecord)
        → and_then (field_or_none place slot (tree.Field position offset) type_id opened) (λ b. Ok (after b [] s)) ≡ Ok (after found [] new)
        → index_count found.selectors ≡ 0
    by None h = absurd cc
    by (Some one) h =
        let same : after (field_variable slot (tree.Field position offset) type_id one) [] s ≡ after found [] new = cc in
        ap (λ (a : After Denoted). index_count a.answer.selectors) (sym same)
plain_variable place other s new found is = absurd cc

abbrev pub behind_variable : Denoted → List Selector → List Written → ℕ × Option ℕ → Passing Typed
behind_variable variable selectors indexes sites = selected variable.selectors variable.type_id selectors indexes >>= value variable.origin sites

module _ (variable : Denoted) (selectors : List Selector) (indexes : List Written) (place : Place) (lead : Option SiteKind) (old : Passed) where
  abbrev rest : ℕ × Option ℕ → Passing Typed
  rest = behind_variable variable selectors indexes

  pub entered_first : accessed variable selectors indexes place lead old ≡ (begun place lead >>= rest) old
  unfolding accessed begun value
  entered_first = sym (
      then_assoc (site kind.UndefinedVariable place) (λ defined. behind lead place >>= (λ id. enter_as Access >> pure (defined, id))) rest old
      ∙ same_behind (λ defined. (behind lead place >>= (λ id. enter_as Access >> pure (defined, id))) >>= rest)
      (λ defined. behind lead place >>= (λ id. enter_as Access >> rest (defined, id)))
      (λ defined s. then_assoc (behind lead place) (λ id. enter_as Access >> pure (defined, id)) rest s
      ∙ same_behind (λ id. (enter_as Access >> pure (defined, id)) >>= rest) (λ id. enter_as Access >> rest (defined, id))
      (λ id t. then_assoc (enter_as Access) (λ _. pure (defined, id)) rest t
      ∙ same_behind (λ _. pure (defined, id) >>= rest) (λ _. rest (defined, id)) (λ _ u. behind_nothing (rest (defined, id) u)) (enter_as Access) t)
      (behind lead place) s)
      (site kind.UndefinedVariable place) old)

-- what stands behind a variable that is found
pub variable_then : {B : Type 0} (name : Name) (more : Denoted → Passing B) (old first : Passed) (variable : Denoted)
    → named_variable name old ≡ Ok (after variable [] first)
    → (find name >>= (λ d. variable_of name.place d >>= more)) old ≡ more variable first
variable_then name more old first variable finds =
    sym (then_assoc (find name) (variable_of name.place) more old)
    ∙ ap (λ r. and_then r (λ a. behind_marks a.look (more a.answer a.passed))) finds
    ∙ behind_nothing (more variable first)

pub variable_stops : {B : Type 0} (name : Name) (more : Denoted → Passing B) (old : Passed) (why : TypeFault) → IsFault (named_variable name old) why
    → IsFault ((find name >>= (λ d. variable_of name.place d >>= more)) old) why
variable_stops name more old why (inl memory) = inl memory
variable_stops name more old why (inr stops) = inr (
    sym (then_assoc (find name) (variable_of name.place) more old)
    ∙ ap (λ r. and_then r (λ a. behind_marks a.look (more a.answer a.passed))) stops)

-- a component of a variable, by what its name denotes
pub component_begins : (name : Name) (selectors : List Selector) (indexes : List Written) (lead : Option SiteKind) (old first : Passed) (variable : Denoted)
    → named_variable name old ≡ Ok (after variable [] first)
    → component name selectors indexes lead old ≡ (begun name.place lead >>= behind_variable variable selectors indexes) first
unfolding component
component_begins name selectors indexes lead old first variable finds =
    variable_then name (λ v. accessed v selectors indexes name.place lead) old first variable finds
    ∙ entered_first variable selectors indexes name.place lead first

pub component_stops : (name : Name) (selectors : List Selector) (indexes : List Written) (lead : Option SiteKind) (old : Passed) (why : TypeFault)
    → IsFault (named_variable name old) why → IsFault (component name selectors indexes lead old) why
unfolding component
component_stops name selectors indexes lead old why stops =
    variable_stops name (λ v. accessed v selectors indexes name.place lead) old why stops

-- what stands behind a variable that is reached
pub reached_then : {B : Type 0} (place : Place) (variable : Denoted) (selectors : List Selector) (indexes : List Written)
    (more : List TreeSelector × TypeId → Passing B) (s : Passed)
    → (may_change place (root_of variable.origin) >> (enter_as Access >> (selected variable.selectors variable.type_id selectors indexes >>= more))) s
    ≡ (reached place variable selectors indexes >>= more) s
unfolding reached component_of
reached_then place variable selectors indexes more s = sym (
    then_assoc (may_change place (root_of variable.origin)) (λ _. enter_as Access >> selected variable.selectors variable.type_id selectors indexes) more s
    ∙ same_behind (λ _. (enter_as Access >> selected variable.selectors variable.type_id selectors indexes) >>= more)
    (λ _. enter_as Access >> (selected variable.selectors variable.type_id selectors indexes >>= more))
    (λ _ t. then_assoc (enter_as Access) (λ _. selected variable.selectors variable.type_id selectors indexes) more t)
    (may_change place (root_of variable.origin)) s)

-- the same of a variable that is accessed
pub component_then : {B : Type 0} (variable : Denoted) (selectors : List Selector) (indexes : List Written) (more : List TreeSelector × TypeId → Passing B)
    (s : Passed)
    → (enter_as Access >> (selected variable.selectors variable.type_id selectors indexes >>= more)) s ≡ (component_of variable selectors indexes >>= more) s
unfolding component_of
component_then variable selectors indexes more s =
    sym (then_assoc (enter_as Access) (λ _. selected variable.selectors variable.type_id selectors indexes) more s)

-- ---- values

-- an access, as it is made
pub look_made : (access : VariableAccess) (indexes : Vec Expr Global) (does : Mark)
    → look_access access indexes.items does ≡ Access access.number ∷ (flat_map look_expr indexes.items ++ (does ∷ []))
look_made access indexes does =
    ap (λ rows. Access access.number ∷ (rows ++ (does ∷ []))) (flat_map-map (λ (row : Look). row) look_expr indexes.items)

-- nothing more was selected
pub begun_valued : (entered : Entered) (made : Selection) (origin : Origin) (selectors : List TreeSelector) (type_id : TypeId) (s : Passed)
    → origin_by entered.root entered.base ≡ origin → IsBegunBy selectors type_id made
    → behind_marks (Access entered.number ∷ []) (value origin (entered.defined, entered.site) (selectors, type_id) s) ≡ valued entered made s
begun_valued entered made origin selectors type_id s is begins =
    ap (λ o. behind_marks (Access entered.number ∷ []) (value o (entered.defined, entered.site) (selectors, type_id) s)) (sym is)
    ∙ ap (λ indexes. behind_marks (Access entered.number ∷ flat_map look_expr indexes)
    (value (origin_by entered.root entered.base) (entered.defined, entered.site) (selectors, type_id) s)) (sym begins.indexes)
    ∙ ap₂ (λ ones id. behind_marks (Access entered.number ∷ look_selection made)
    (value (origin_by entered.root entered.base) (entered.defined, entered.site) (ones, id) s)) (sym begins.selectors) (sym begins.is_of)

-- ---- selectors

pub fields_take_none : (made : List TreeSelector) (position offset : ℕ) → index_count (made ++ tree.Field position offset ∷ []) ≡ index_count made
fields_take_none [] position offset = refl
fields_take_none (tree.Element fits cells ∷ made) position offset = ap suc (fields_take_none made position offset)
fields_take_none (tree.Field at before ∷ made) position offset = fields_take_none made position offset

pub elements_take_one : (made : List TreeSelector) (fits : RangeTest) (cells : ℕ)
    → index_count (made ++ tree.Element fits cells ∷ []) ≡ suc (index_count made)
elements_take_one [] fits cells = refl
elements_take_one (tree.Element other before ∷ made) fits cells = ap suc (elements_take_one made fits cells)
elements_take_one (tree.Field at before ∷ made) fits cells = elements_take_one made fits cells

-- one selector more
module _ (indexes : List SyntaxExpr) (s : Passed) (old new : Selection) (now : Passed) where
  field_behind : (name : Name) → IsFieldBehind name s old new now → IsOneBehind (select.Field name) indexes s old new now
  field_behind name one = record {
    own = [];
    looks = ap (flat_map look_expr) one.indexes ∙ sym (append-nil (look_selection old));
    goes = λ more.
        one.goes more (left_behind old indexes)
        ∙ ap (λ taken. on new more (map expression (drop (length taken) indexes)) now) (sym one.indexes)
        ∙ sym (behind_nothing (on new more (left_behind new indexes) now));
    counted = λ so_far. one.counted ∙ so_far ∙ ap length (sym one.indexes);
  }

  pub field_selects : (name : Name) (result : Result (Unit {0}) TypeFault)
      → SelectsField name s old result new now → SelectsOne (select.Field name) indexes s old result new now
  field_selects name (Ok _) one = field_behind name one
  field_selects name (Err why) stops = λ more. stops more (left_behind old indexes)

  -- there is no index expression more
  pub none_left : (place : Place) (joined : Bool) → length indexes ≤ length old.indexes.items
      → (more : List Selector) → IsFault (on old (select.Index place joined ∷ more) (left_behind old indexes) s) (fault.Mismatch place)
  none_left place joined all more =
      inr (at_drop_all (λ left. on old (select.Index place joined ∷ more) (map expression left) s) indexes (length old.indexes.items) all)

  -- the next index expression, which stands at n
  module _ (place : Place) (joined : Bool) (n : ℕ) (at : n ≡ length old.indexes.items) (index other : SyntaxExpr) (within : n < length indexes)
      (is : index ≡ get_or indexes n other) where
    abbrev behind_it : List Written
    behind_it = map expression (drop (n + 1) indexes)

    next_left : left_behind old indexes ≡ expression index ∷ behind_it
    next_left =
        ap (λ k. map expression (drop k indexes)) (sym at) ∙ ap (map expression) (drop_more indexes n other within)
        ∙ ap (λ e. expression e ∷ behind_it) (sym is)

    element_behind : IsElementBehind place (expression index) s old new now → IsOneBehind (select.Index place joined) indexes s old new now
    element_behind one =
        let longer : length new.indexes.items ≡ n + 1 =
        ap length one.indexes ∙ length-append old.indexes.items (one.index ∷ []) ∙ ap (λ k. k + 1) (sym at) in
        record {
          own = look_expr one.index;
          looks =
              ap (flat_map look_expr) one.indexes ∙ flat_map-append look_expr old.indexes.items (one.index ∷ [])
              ∙ ap (λ look. look_selection old ++ look) (append-nil (look_expr one.index));
          goes = λ more.
              ap (λ left. on old (select.Index place joined ∷ more) left s) next_left
              ∙ one.goes joined more behind_it
              ∙ ap (λ k. behind_marks (look_expr one.index) (on new more (map expression (drop k indexes)) now)) (sym longer);
          counted = λ so_far. one.counted ∙ ap suc so_far ∙ omega (arith, longer, at);
        }

    pub element_selects : (result : Result (Unit {0}) TypeFault) → SelectsElement place (expression index) s old result new now
        → SelectsOne (select.Index place joined) indexes s old result new now
    element_selects (Ok _) one = element_behind one
    element_selects (Err why) stops = λ more.
        subst (λ left. IsFault (on old (select.Index place joined ∷ more) left s) why) (sym next_left) (stops joined more behind_it)

-- selectors of which the first ones are made
module _ (before : List TreeSelector) (type_id : TypeId) (selectors : List Selector) (indexes : List SyntaxExpr) (old : Passed) where
  abbrev pub AreSelectedFrom : ℕ → Selection → Passed → Type 0
  AreSelectedFrom i made now =
      IsSelectedFrom expression before type_id selectors indexes old i (drop (length made.indexes.items) indexes) made.selectors.items made.type_id
      (look_selection made) now
      × IsCounted made

  -- none is made yet
  pub none_selected : (made : Selection) → IsBegunBy before type_id made → index_count before ≡ 0 → AreSelectedFrom 0 made old
  none_selected made none plain = (
    selectors_begin expression before type_id selectors indexes old
        ∙ ap (λ taken. behind_marks (flat_map look_expr taken)
        (selected before type_id selectors (map expression (drop (length taken) indexes)) old)) (sym none.indexes)
        ∙ ap₂ (λ ones id. behind_marks (look_selection made) (selected ones id selectors (left_behind made indexes) old))
        (sym none.selectors) (sym none.is_of),
    ap index_count none.selectors ∙ plain ∙ ap length (sym none.indexes),
  )

  module _ (i : ℕ) (made : Selection) (now : Passed) (so_far : AreSelectedFrom i made now)
      (selector : Selector) (within : i < length selectors) (is : selector ≡ get_or selectors i selector) where
    -- the next one is made
    pub one_selected : (new : Selection) (there : Passed) → IsOneBehind selector indexes now made new there → AreSelectedFrom (i + 1) new there
    one_selected new there one = (
      selector_next expression before type_id selectors indexes old i (drop (length made.indexes.items) indexes) made.selectors.items made.type_id
          (look_selection made) now so_far.0 selector within is (drop (length new.indexes.items) indexes) new.selectors.items new.type_id one.own there
          (one.goes (drop (i + 1) selectors))
          ∙ ap (λ look. behind_marks look (selected new.selectors.items new.type_id (drop (i + 1) selectors) (left_behind new indexes) there))
          (sym one.looks),
      one.counted so_far.1,
    )

    -- it is refused
    pub one_refused : (why : TypeFault) → ((more : List Selector) → IsFault (on made (selector ∷ more) (left_behind made indexes) now) why)
        → IsFault (selected before type_id selectors (map expression indexes) old) why
    one_refused why stops =
        selector_stops expression before type_id selectors indexes old i (drop (length made.indexes.items) indexes) made.selectors.items made.type_id
        (look_selection made) now so_far.0 selector within is why (stops (drop (i + 1) selectors))

  -- all are made
  pub all_selected : (i : ℕ) (made : Selection) (now : Passed) → AreSelectedFrom i made now → length selectors ≤ i
      → selected before type_id selectors (map expression indexes) old ≡ Ok (after (made.selectors.items, made.type_id) (look_selection made) now)
  all_selected i made now so_far all =
      selectors_end expression before type_id selectors indexes old i (drop (length made.indexes.items) indexes) made.selectors.items made.type_id
      (look_selection made) now so_far.0 all
