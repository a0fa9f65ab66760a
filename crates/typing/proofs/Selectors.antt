-- Selectors of an access: how their typing goes on from one to the next.
use Rattle.std.proofs.Common.{◌≡◌, ℕ, ◌+◌, ◌<◌, ◌≤◌, Bool, List, [], ◌∷◌, ◌++◌, map, length, drop, get_or, Ok, Err, sym, ap, subst, ◌∙◌, append-nil}
use Rattle.std.proofs.lemmas.List.{drop_more, at_drop_all}
use Rattle.place.specs.declared.Place.{Place}
use Rattle.syntax_tree.specs.declared.Name.{Name}
use Rattle.syntax_tree.specs.declared.Selector.{Selector}
use Rattle.syntax_tree.specs.declared.Selector.TheVariants as select
use Rattle.types.specs.declared.form.ArrayElement.{ArrayElement}
use Rattle.types.specs.declared.form.RecordField.{RecordField}
use Rattle.types.specs.declared.form.TypeId.{TypeId}
use Rattle.types.specs.Types.{element_of}
use Rattle.typed_tree.specs.declared.fault.TypeFault.{TypeFault}
use Rattle.typed_tree.specs.declared.tree.Selector.{Selector as TreeSelector}
use Rattle.typed_tree.specs.declared.tree.Selector.TheVariants as tree
use Rattle.typed_tree.specs.Look.{Look}
use Rattle.typing.specs.Expressions.{Written, field_named, index, selected}
use Rattle.typing.specs.Outcomes.{IsFault}
use Rattle.typing.specs.Passing.{Passed, After, after, behind_marks, by_types, ◌>>=◌}
use Rattle.typing_rules.specs.Checked.{Checked, and_then}
use Rattle.typed_tree.specs.declared.tree.Scalar.TheVariants as scalar
use Rattle.typing.specs.Steps.{pass}
use Rattle.typing_rules.specs.Checked.{or_mismatch}
use Rattle.typing.proofs.Rows.{behind_nothing, behind_both, behind_fault}

-- the next selector, and then others
module _ (made : List TreeSelector) (id : TypeId) (selectors : List Selector) (now there : Passed) where
  -- it is a field
  pub field_passes : (name : Name) (indexes : List Written) (f : RecordField) (new : Passed)
      → pass name.place now ≡ Ok (after tt [] there)
      → by_types (λ types. field_named types id name) there ≡ Ok (after f [] new)
      → selected made id (select.Field name ∷ selectors) indexes now
      ≡ selected (made ++ tree.Field f.position f.offset ∷ []) f.type_id selectors indexes new
  field_passes name indexes f new passes named =
      ap (λ r. and_then r (λ a. behind_marks a.look ((by_types (λ types. field_named types id name)
      >>= (λ field. selected (made ++ tree.Field field.position field.offset ∷ []) field.type_id selectors indexes)) a.passed))) passes
      ∙ behind_nothing (and_then (by_types (λ types. field_named types id name) there)
      (λ a. behind_marks a.look (selected (made ++ tree.Field a.answer.position a.answer.offset ∷ []) a.answer.type_id selectors indexes a.passed)))
      ∙ ap (λ r. and_then r
      (λ a. behind_marks a.look (selected (made ++ tree.Field a.answer.position a.answer.offset ∷ []) a.answer.type_id selectors indexes a.passed))) named
      ∙ behind_nothing (selected (made ++ tree.Field f.position f.offset ∷ []) f.type_id selectors indexes new)

  -- it is none
  pub field_stops : (name : Name) (indexes : List Written) (why : TypeFault)
      → pass name.place now ≡ Ok (after tt [] there)
      → by_types (λ types. field_named types id name) there ≡ Err why
      → selected made id (select.Field name ∷ selectors) indexes now ≡ Err why
  field_stops name indexes why passes stops =
      ap (λ r. and_then r (λ a. behind_marks a.look ((by_types (λ types. field_named types id name)
      >>= (λ field. selected (made ++ tree.Field field.position field.offset ∷ []) field.type_id selectors indexes)) a.passed))) passes
      ∙ behind_nothing (and_then (by_types (λ types. field_named types id name) there)
      (λ a. behind_marks a.look (selected (made ++ tree.Field a.answer.position a.answer.offset ∷ []) a.answer.type_id selectors indexes a.passed)))
      ∙ ap (λ r. and_then r
      (λ a. behind_marks a.look (selected (made ++ tree.Field a.answer.position a.answer.offset ∷ []) a.answer.type_id selectors indexes a.passed))) stops

  -- it is an index
  module _ (place : Place) (joined : Bool) (w : Written) (indexes : List Written) (passes : pass place now ≡ Ok (after tt [] there)) where
    abbrev element : Checked ArrayElement
    element = or_mismatch place (element_of there.types id)

    abbrev behind_index : ArrayElement → Checked (After ℕ) → Checked (After (List TreeSelector × TypeId))
    behind_index e outcome =
        and_then outcome (λ a. behind_marks a.look
        (selected (made ++ tree.Element (record { site = a.answer; tests = scalar.Ordinal; range = e.range }) e.cells ∷ []) e.type_id selectors indexes
        a.passed))

    index_goes : selected made id (select.Index place joined ∷ selectors) (w ∷ indexes) now
        ≡ and_then (and_then element (λ e. Ok (after e [] there))) (λ a. behind_marks a.look (behind_index a.answer (index a.answer w a.passed)))
    index_goes =
        ap (λ r. and_then r (λ a. behind_marks a.look (and_then (by_types (λ types. or_mismatch place (element_of types id)) a.passed)
        (λ b. behind_marks b.look (behind_index b.answer (index b.answer w b.passed)))))) passes
        ∙ behind_nothing (and_then (and_then element (λ e. Ok (after e [] there)))
        (λ a. behind_marks a.look (behind_index a.answer (index a.answer w a.passed))))

    -- of no array
    pub element_stops : (why : TypeFault) → element ≡ Err why
        → selected made id (select.Index place joined ∷ selectors) (w ∷ indexes) now ≡ Err why
    element_stops why stops =
        index_goes
        ∙ ap (λ r. and_then (and_then r (λ e. Ok (after e [] there))) (λ a. behind_marks a.look (behind_index a.answer (index a.answer w a.passed)))) stops

    module _ (e : ArrayElement) (is : element ≡ Ok e) where
      behind_element : selected made id (select.Index place joined ∷ selectors) (w ∷ indexes) now ≡ behind_index e (index e w there)
      behind_element =
          index_goes
          ∙ ap (λ r. and_then (and_then r (λ e. Ok (after e [] there))) (λ a. behind_marks a.look (behind_index a.answer (index a.answer w a.passed)))) is
          ∙ behind_nothing (behind_index e (index e w there))

      pub index_passes : (site : ℕ) (look : Look) (new : Passed) → index e w there ≡ Ok (after site look new)
          → selected made id (select.Index place joined ∷ selectors) (w ∷ indexes) now
          ≡ behind_marks look
          (selected (made ++ tree.Element (record { site = site; tests = scalar.Ordinal; range = e.range }) e.cells ∷ []) e.type_id selectors indexes new)
      index_passes site look new goes = behind_element ∙ ap (behind_index e) goes

      pub index_stops : (why : TypeFault) → index e w there ≡ Err why
          → selected made id (select.Index place joined ∷ selectors) (w ∷ indexes) now ≡ Err why
      index_stops why stops = behind_element ∙ ap (behind_index e) stops

-- selectors of which the first ones are passed, and the indexes that are left
module _ {A : Type 0} (written : A → Written) (before : List TreeSelector) (type_id : TypeId) (selectors : List Selector) (indexes : List A)
    (old : Passed) where
  -- what is left, once some are passed
  abbrev pub IsSelectedFrom : ℕ → List A → List TreeSelector → TypeId → Look → Passed → Type 0
  IsSelectedFrom i rest made id look now =
      selected before type_id selectors (map written indexes) old ≡ behind_marks look (selected made id (drop i selectors) (map written rest) now)

  -- none is passed yet
  pub selectors_begin : IsSelectedFrom 0 indexes before type_id [] old
  selectors_begin = sym (behind_nothing (selected before type_id selectors (map written indexes) old))

  module _ (i : ℕ) (rest : List A) (made : List TreeSelector) (id : TypeId) (look : Look) (now : Passed)
      (left : IsSelectedFrom i rest made id look now) where
    module _ (selector : Selector) (within : i < length selectors) (is : selector ≡ get_or selectors i selector) where
      next_selector : selected before type_id selectors (map written indexes) old
          ≡ behind_marks look (selected made id (selector ∷ drop (i + 1) selectors) (map written rest) now)
      next_selector =
          left
          ∙ ap (λ ss. behind_marks look (selected made id ss (map written rest) now)) (drop_more selectors i selector within)
          ∙ ap (λ s. behind_marks look (selected made id (s ∷ drop (i + 1) selectors) (map written rest) now)) (sym is)

      -- the next one is passed
      pub selector_next : (more : List A) (next : List TreeSelector) (there : TypeId) (own : Look) (new : Passed)
          → selected made id (selector ∷ drop (i + 1) selectors) (map written rest) now
          ≡ behind_marks own (selected next there (drop (i + 1) selectors) (map written more) new)
          → IsSelectedFrom (i + 1) more next there (look ++ own) new
      selector_next more next there own new passes =
          next_selector ∙ ap (behind_marks look) passes
          ∙ behind_both look own (selected next there (drop (i + 1) selectors) (map written more) new)

      -- it stops
      pub selector_stops : (why : TypeFault) → IsFault (selected made id (selector ∷ drop (i + 1) selectors) (map written rest) now) why
          → IsFault (selected before type_id selectors (map written indexes) old) why
      selector_stops why stops =
          subst (λ o. IsFault o why) (sym next_selector)
          (behind_fault look (selected made id (selector ∷ drop (i + 1) selectors) (map written rest) now) why stops)

    -- all are passed
    pub selectors_end : length selectors ≤ i → selected before type_id selectors (map written indexes) old ≡ Ok (after (made, id) look now)
    selectors_end all =
        left ∙ at_drop_all (λ ss. behind_marks look (selected made id ss (map written rest) now)) selectors i all
        ∙ ap (λ l. Ok (after (made, id) l now)) (append-nil look)
