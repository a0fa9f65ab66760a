-- Type denoters: how their typing goes on from that of their parts.
use Rattle.std.proofs.Common.{◌≡◌, ℕ, ◌+◌, ◌<◌, ◌≤◌, Bool, List, [], ◌∷◌, ◌++◌, map, length, drop, get_or, Ok, Err, Vec, inl, inr, refl, sym}
use Rattle.std.proofs.Common.{ap, ap₂, subst, ◌∙◌, append_assoc, append-nil, min, Box, ◌⊎◌, arith}
use Rattle.std.proofs.lemmas.Bool.{cases_lt}
use Rattle.std.specs.declared.alloc.Global.{Global}
use Rattle.std.proofs.lemmas.List.{drop_more, at_drop_all}
use Rattle.memory.specs.Refused.{the_refusal}
use Rattle.place.specs.declared.Place.{Place}
use Rattle.syntax_tree.specs.declared.Name.{Name}
use Rattle.syntax_tree.specs.Places.{fields_of}
use Rattle.syntax_tree.specs.declared.TypeDenoter.{TypeDenoter}
use Rattle.syntax_tree.specs.declared.TypeDenoter.TheVariants as denoter
use Rattle.types.specs.Forms.{FieldForm, Array, Record}
use Rattle.types.specs.declared.form.TypeId.{TypeId}
use Rattle.typed_tree.specs.declared.fault.TypeFault.{TypeFault}
use Rattle.typed_tree.specs.declared.fault.TypeFault.TheVariants.{Memory}
use Rattle.typing.specs.Denoters.{WrittenDenoter, denoted_type, array, arrays, index_type, index_types, named_fields, grouped_fields}
use Rattle.typing.specs.Denoters.{record_type}
use Rattle.typing.specs.Outcomes.{IsFault}
use Rattle.typing.specs.Passing.{Passed, After, after, behind_marks, given, ◌>>=◌}
use Rattle.typing_rules.specs.Checked.{Checked, and_then}
use Rattle.typing.specs.Steps.{add_type, pass}
use Rattle.typing.proofs.Written.{typing_array, typing_record}
use Rattle.typing.proofs.Rows.{behind_nothing}

-- ---- arrays, from the last index on

module _ (packed : Bool) (place : Place) (index element : TypeId) (old : Passed) where
  -- that over the last index is added
  pub last_array : (indexes : List TypeId) (inner : TypeId) (new : Passed)
      → add_type place (Array packed index element) old ≡ Ok (after inner [] new)
      → arrays packed place (indexes ++ index ∷ []) element old ≡ arrays packed place indexes inner new
  last_array [] inner new adds = behind_nothing (add_type place (Array packed index element) old) ∙ adds
  last_array (i ∷ indexes) inner new adds =
      ap (λ r. and_then r (λ a. behind_marks a.look (add_type place (Array packed i a.answer) a.passed))) (last_array indexes inner new adds)

  -- it is refused
  pub last_refused : (indexes : List TypeId) (why : TypeFault) → add_type place (Array packed index element) old ≡ Err why
      → arrays packed place (indexes ++ index ∷ []) element old ≡ Err why
  last_refused [] why stops = behind_nothing (add_type place (Array packed index element) old) ∙ stops
  last_refused (i ∷ indexes) why stops =
      ap (λ r. and_then r (λ a. behind_marks a.look (add_type place (Array packed i a.answer) a.passed))) (last_refused indexes why stops)

  pub last_stops : (indexes : List TypeId) (why : TypeFault) → IsFault (add_type place (Array packed index element) old) why
      → IsFault (arrays packed place (indexes ++ index ∷ []) element old) why
  last_stops indexes why (inl memory) = inl memory
  last_stops indexes why (inr stops) = inr (last_refused indexes why stops)

pub ruleset arrays_left = (last_array, last_stops)

-- the next one is refused, behind others
pub arrays_stop : (packed : Bool) (place : Place) (all left before : List TypeId) (first index element : TypeId) (old now : Passed) (why : TypeFault)
    → arrays packed place all first old ≡ arrays packed place left element now → left ≡ before ++ index ∷ []
    → IsFault (add_type place (Array packed index element) now) why → IsFault (arrays packed place all first old) why
arrays_stop packed place all left before first index element old now why goes is stops =
    subst (λ o. IsFault o why) (sym (goes ∙ ap (λ l. arrays packed place l element now) is)) (last_stops packed place index element now before why stops)

-- ---- index types

-- types before others
abbrev pub before_types : List TypeId → Checked (After (List TypeId)) → Checked (After (List TypeId))
before_types done outcome = and_then outcome (λ a. Ok (after (done ++ a.answer) a.look a.passed))

no_types : (outcome : Checked (After (List TypeId))) → outcome ≡ before_types [] outcome
no_types (Ok a) = refl
no_types (Err why) = refl

one_before : (done : List TypeId) (id : TypeId) (outcome : Checked (After (List TypeId)))
    → before_types done (behind_marks [] (and_then outcome (λ a. behind_marks a.look (Ok (after (id ∷ a.answer) [] a.passed)))))
    ≡ before_types (done ++ id ∷ []) outcome
one_before done id (Ok a) = ap₂ (λ ids look. Ok (after ids look a.passed)) (sym (append_assoc done (id ∷ []) a.answer)) (append-nil a.look)
one_before done id (Err why) = refl

module _ {A : Type 0} (written : A → WrittenDenoter) (forms : List A) (old : Passed) where
  abbrev types_from : ℕ → Passed → Checked (After (List TypeId))
  types_from i now = index_types (map written (drop i forms)) now

  -- what is left, once some are passed
  abbrev pub AreTypesFrom : ℕ → List TypeId → Passed → Type 0
  AreTypesFrom i done now = index_types (map written forms) old ≡ before_types done (types_from i now)

  -- none is passed yet
  pub types_begin : AreTypesFrom 0 [] old
  types_begin = no_types (index_types (map written forms) old)

  module _ (i : ℕ) (form : A) (done : List TypeId) (now : Passed) (within : i < length forms) (is : form ≡ get_or forms i form)
      (left : AreTypesFrom i done now) where
    abbrev behind_type : Checked (After TypeId) → Checked (After (List TypeId))
    behind_type outcome =
        before_types done (and_then outcome (λ a. behind_marks a.look (and_then (types_from (i + 1) a.passed)
        (λ b. behind_marks b.look (Ok (after (a.answer ∷ b.answer) [] b.passed))))))

    types_go : index_types (map written forms) old ≡ behind_type (index_type (written form) now)
    types_go =
        left
        ∙ ap (λ fs. before_types done (index_types (map written fs) now)) (drop_more forms i form within)
        ∙ ap (λ f. before_types done (index_types (map written (f ∷ drop (i + 1) forms)) now)) (sym is)

    -- the next one is passed
    pub types_next : (id : TypeId) (new : Passed) → index_type (written form) now ≡ Ok (after id [] new)
        → AreTypesFrom (i + 1) (done ++ id ∷ []) new
    types_next id new passes = types_go ∙ ap behind_type passes ∙ one_before done id (types_from (i + 1) new)

    -- it stops
    pub types_stop : (why : TypeFault) → IsFault (index_type (written form) now) why
        → IsFault (index_types (map written forms) old) why
    types_stop why (inl memory) = inl memory
    types_stop why (inr stops) = inr (types_go ∙ ap behind_type stops)

  -- all are passed
  pub types_end : (i : ℕ) (done : List TypeId) (now : Passed) → length forms ≤ i → AreTypesFrom i done now
      → index_types (map written forms) old ≡ Ok (after done [] now)
  types_end i done now all left =
      left ∙ at_drop_all (λ fs. before_types done (index_types (map written fs) now)) forms i all
      ∙ ap (λ ids. Ok (after ids [] now)) (append-nil done)

-- ---- groups of fields

-- past as many as there are of both, one has no more
pub past_one : (i first second : ℕ) → i ≡ min first second → (first ≤ i) ⊎ (second ≤ i)
past_one i first second is = by (cases_lt first second)
  where
    by : (first < second) ⊎ (second ≤ first) → (first ≤ i) ⊎ (second ≤ i)
    by (inl less) = inl (omega (arith, is, less))
    by (inr more) = inr (omega (arith, is, more))

no_denoters : {A : Type 0} (rows : List (Vec Name Global)) → fields_of {A = A} rows [] ≡ []
no_denoters [] = refl
no_denoters (row ∷ rows) = refl

module _ {A : Type 0} (written : A → WrittenDenoter) (rows : List (Vec Name Global)) (forms : List A) (old : Passed) where
  abbrev groups_from : ℕ → List (List Name × WrittenDenoter)
  groups_from i = fields_of (drop i rows) (map written (drop i forms))

  -- what is left, once some are passed
  abbrev pub AreGroupsFrom : ℕ → List FieldForm → Passed → Type 0
  AreGroupsFrom i fields now =
      grouped_fields [] (fields_of rows (map written forms)) old ≡ grouped_fields fields (groups_from i) now

  module _ (i : ℕ) (row : Vec Name Global) (form : A) (fields : List FieldForm) (now : Passed)
      (row_within : i < length rows) (row_is : row ≡ get_or rows i row) (within : i < length forms) (is : form ≡ get_or forms i form)
      (left : AreGroupsFrom i fields now) where
    abbrev behind_group : Checked (After TypeId) → Checked (After (List FieldForm))
    behind_group outcome =
        and_then outcome (λ a. behind_marks a.look ((given (named_fields fields a.answer row.items)
        >>= (λ more. grouped_fields more (groups_from (i + 1)))) a.passed))

    group_goes : grouped_fields [] (fields_of rows (map written forms)) old ≡ behind_group (written form now)
    group_goes =
        left
        ∙ ap (λ rs. grouped_fields fields (fields_of rs (map written (drop i forms))) now) (drop_more rows i row row_within)
        ∙ ap (λ fs. grouped_fields fields (fields_of (get_or rows i row ∷ drop (i + 1) rows) (map written fs)) now) (drop_more forms i form within)
        ∙ ap₂ (λ r f. grouped_fields fields ((r.items, written f) ∷ groups_from (i + 1)) now) (sym row_is) (sym is)

    -- the type of the next one is refused
    pub group_stops : (why : TypeFault) → IsFault (written form now) why
        → IsFault (grouped_fields [] (fields_of rows (map written forms)) old) why
    group_stops why (inl memory) = inl memory
    group_stops why (inr stops) = inr (group_goes ∙ ap behind_group stops)

    module _ (id : TypeId) (new : Passed) (passes : written form now ≡ Ok (after id [] new)) where
      names_go : grouped_fields [] (fields_of rows (map written forms)) old
          ≡ behind_marks [] (and_then (and_then (named_fields fields id row.items) (λ more. Ok (after more [] new)))
          (λ a. behind_marks a.look (grouped_fields a.answer (groups_from (i + 1)) a.passed)))
      names_go = group_goes ∙ ap behind_group passes

      -- the next one is passed
      pub group_next : (more : List FieldForm) → named_fields fields id row.items ≡ Ok more → AreGroupsFrom (i + 1) more new
      group_next more named =
          names_go
          ∙ ap (λ c. behind_marks [] (and_then (and_then c (λ more. Ok (after more [] new)))
          (λ a. behind_marks a.look (grouped_fields a.answer (groups_from (i + 1)) a.passed)))) named
          ∙ behind_nothing (behind_marks [] (grouped_fields more (groups_from (i + 1)) new))
          ∙ behind_nothing (grouped_fields more (groups_from (i + 1)) new)

      -- its names are refused
      pub group_names_stop : (why : TypeFault) → (why ≡ Memory the_refusal) ⊎ (named_fields fields id row.items ≡ Err why)
          → IsFault (grouped_fields [] (fields_of rows (map written forms)) old) why
      group_names_stop why (inl memory) = inl memory
      group_names_stop why (inr twice) = inr (
          names_go
          ∙ ap (λ c. behind_marks [] (and_then (and_then c (λ more. Ok (after more [] new)))
          (λ a. behind_marks a.look (grouped_fields a.answer (groups_from (i + 1)) a.passed)))) twice)

  -- all are passed
  pub groups_end : (i : ℕ) (fields : List FieldForm) (now : Passed) → i ≡ min (length rows) (length forms) → AreGroupsFrom i fields now
      → grouped_fields [] (fields_of rows (map written forms)) old ≡ Ok (after fields [] now)
  groups_end i fields now all left = by (past_one i (length rows) (length forms) all)
    where
      by : (length rows ≤ i) ⊎ (length forms ≤ i) → grouped_fields [] (fields_of rows (map written forms)) old ≡ Ok (after fields [] now)
      by (inl past) = left ∙ at_drop_all (λ rs. grouped_fields fields (fields_of rs (map written (drop i forms))) now) rows i past
      by (inr past) =
          left ∙ at_drop_all (λ fs. grouped_fields fields (fields_of (drop i rows) (map written fs)) now) forms i past
          ∙ ap (λ groups. grouped_fields fields groups now) (no_denoters (drop i rows))

-- ---- an array, as it is written

module _ (d : TypeDenoter) (packed : Bool) (place : Place) (indexes : Vec TypeDenoter Global) (element : Box TypeDenoter Global)
    (is : d ≡ denoter.Array packed place indexes element) (row : List TypeDenoter) (row_is : row ≡ indexes.items) (old now : Passed)
    (passes : pass place old ≡ Ok (after tt [] now)) where
  abbrev behind_indexes : Checked (After (List TypeId)) → Checked (After TypeId)
  behind_indexes outcome =
      behind_marks [] (and_then outcome (λ a. behind_marks a.look
      ((denoted_type element.value >>= (λ inner. arrays packed place a.answer inner)) a.passed)))

  array_goes : denoted_type d old ≡ behind_indexes (index_types (map denoted_type row) now)
  unfolding array
  array_goes =
      ap (λ w. denoted_type w old) is ∙ ap (λ w. w old) (typing_array packed place indexes element)
      ∙ ap (λ r. and_then r (λ a. behind_marks a.look ((index_types (map denoted_type indexes.items)
      >>= (λ ids. denoted_type element.value >>= (λ inner. arrays packed place ids inner))) a.passed))) passes
      ∙ ap (λ l. behind_indexes (index_types (map denoted_type l) now)) (sym row_is)

  -- its index types stop
  pub indexes_stop : (why : TypeFault) → IsFault (index_types (map denoted_type row) now) why → IsFault (denoted_type d old) why
  indexes_stop why (inl memory) = inl memory
  indexes_stop why (inr stops) = inr (array_goes ∙ ap behind_indexes stops)

  module _ (ids : List TypeId) (there : Passed) (types : index_types (map denoted_type row) now ≡ Ok (after ids [] there))
      (inner : TypeDenoter) (inner_is : inner ≡ element.value) where
    abbrev behind_element : Checked (After TypeId) → Checked (After TypeId)
    behind_element outcome = and_then outcome (λ a. behind_marks a.look (arrays packed place ids a.answer a.passed))

    element_goes : denoted_type d old ≡ behind_element (denoted_type inner there)
    element_goes =
        array_goes ∙ ap behind_indexes types ∙ behind_nothing (behind_marks [] (behind_element (denoted_type element.value there)))
        ∙ behind_nothing (behind_element (denoted_type element.value there))
        ∙ ap (λ e. behind_element (denoted_type e there)) (sym inner_is)

    -- the type of its elements stops
    pub element_stops : (why : TypeFault) → IsFault (denoted_type inner there) why → IsFault (denoted_type d old) why
    element_stops why (inl memory) = inl memory
    element_stops why (inr stops) = inr (element_goes ∙ ap behind_element stops)

    -- it goes on behind them
    pub array_goes_on : (id : TypeId) (new : Passed) → denoted_type inner there ≡ Ok (after id [] new)
        → denoted_type d old ≡ arrays packed place ids id new
    array_goes_on id new goes = element_goes ∙ ap behind_element goes ∙ behind_nothing (arrays packed place ids id new)

-- ---- a record, as it is written

module _ (d : TypeDenoter) (packed : Bool) (place : Place) (rows : Vec (Vec Name Global) Global) (denoters : Vec TypeDenoter Global)
    (semicolon : Bool) (is : d ≡ denoter.Record packed place rows denoters semicolon) (kept : List (Vec Name Global)) (kept_is : kept ≡ rows.items)
    (row : List TypeDenoter) (row_is : row ≡ denoters.items) (old now : Passed) (passes : pass place old ≡ Ok (after tt [] now)) where
  abbrev behind_fields : Checked (After (List FieldForm)) → Checked (After TypeId)
  behind_fields outcome = behind_marks [] (and_then outcome (λ a. behind_marks a.look (add_type place (Record packed a.answer) a.passed)))

  record_goes : denoted_type d old ≡ behind_fields (grouped_fields [] (fields_of kept (map denoted_type row)) now)
  unfolding record_type
  record_goes =
      ap (λ w. denoted_type w old) is ∙ ap (λ w. w old) (typing_record packed place rows denoters semicolon)
      ∙ ap (λ r. and_then r (λ a. behind_marks a.look ((grouped_fields [] (fields_of rows.items (map denoted_type denoters.items))
      >>= (λ fields. add_type place (Record packed fields))) a.passed))) passes
      ∙ ap₂ (λ rs ds. behind_fields (grouped_fields [] (fields_of rs (map denoted_type ds)) now)) (sym kept_is) (sym row_is)

  -- its fields stop
  pub fields_stop : (why : TypeFault) → IsFault (grouped_fields [] (fields_of kept (map denoted_type row)) now) why
      → IsFault (denoted_type d old) why
  fields_stop why (inl memory) = inl memory
  fields_stop why (inr stops) = inr (record_goes ∙ ap behind_fields stops)

  -- it goes on behind them
  pub record_goes_on : (fields : List FieldForm) (new : Passed)
      → grouped_fields [] (fields_of kept (map denoted_type row)) now ≡ Ok (after fields [] new)
      → denoted_type d old ≡ add_type place (Record packed fields) new
  record_goes_on fields new goes =
      record_goes ∙ ap behind_fields goes ∙ behind_nothing (behind_marks [] (add_type place (Record packed fields) new))
      ∙ behind_nothing (add_type place (Record packed fields) new)
