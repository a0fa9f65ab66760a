-- The types and the parameters of a heading, one after another.
use Rattle.std.proofs.Common.{◌≡◌, ◌⊎◌, true, ℕ, ◌+◌, ◌<◌, ◌≤◌, List, [], ◌∷◌, ◌++◌, flat_map, length, drop, get_or, min, Option, Ok, Err, inl, inr, refl, sym}
use Rattle.std.proofs.Common.{ap}
use Rattle.std.proofs.Common.{ap₂, ◌∙◌, append-nil}
use Rattle.std.proofs.lemmas.List.{drop_more, at_drop_all}
use Rattle.syntax_tree.specs.declared.FormalGroup.{FormalGroup}
use Rattle.place.specs.declared.Place.{Place}
use Rattle.syntax_tree.specs.declared.Name.{Name}
use Rattle.types.specs.declared.form.TypeId.{TypeId}
use Rattle.typed_tree.specs.declared.fault.TypeFault.{TypeFault}
use Rattle.typed_tree.specs.declared.tree.VariableKind.{VariableKind}
use Rattle.typing.specs.Denoters.{type_of_name}
use Rattle.typing.specs.Blocks.{heading_ends}
use Rattle.typing.specs.Names.{all_folded, formal_names}
use Rattle.typing.specs.Outcomes.{IsFault}
use Rattle.typing.specs.Steps.{enclosing_now, open_block, program_block, with_enclosing}
use Rattle.typing.specs.Passing.{Enclosing, Passed, After, Passing, after, behind_marks, pure, ◌>>=◌}
use Rattle.typing_rules.specs.Checked.{Checked, and_then}
use Rattle.typing.specs.Routines.{declared, group_types, heading, parameter_kind, parameters, parameters_named, result}
use Rattle.typing.proofs.Collected.{AreFrom, before, before_none, before_more, gather_begins, gather_next, gather_stops, gather_ends}
use Rattle.typing.proofs.DenoterRows.{past_one}
use Rattle.typing.proofs.Rows.{behind_nothing}
use Rattle.declarations.specs.Parts.{heading_inside, heading_of}
use Rattle.typing.proofs.Stays.{same_block}
use Rattle.typing.proofs.WalkedBlocks.{parameters_walk, result_walks}
use Rattle.typing.proofs.Ways.{Of}

-- ---- types

abbrev pub type_of_group : FormalGroup → Passing TypeId
type_of_group g = type_of_name g.type_name

module _ (groups : List FormalGroup) (old : Passed) where
  abbrev pub TypesFrom : ℕ → List TypeId → Passed → Type 0
  TypesFrom i done now = AreFrom type_of_group (λ id. id ∷ []) group_types (λ s. refl) (λ g gs s. refl) groups old i done [] now

  pub types_begin : TypesFrom 0 [] old
  types_begin = gather_begins type_of_group (λ id. id ∷ []) group_types (λ s. refl) (λ g gs s. refl) groups old

  pub types_next : (i : ℕ) (g : FormalGroup) (done : List TypeId) (now : Passed) → i < length groups → g ≡ get_or groups i g → TypesFrom i done now
      → (id : TypeId) (new : Passed) → type_of_group g now ≡ Ok (after id [] new) → TypesFrom (i + 1) (done ++ id ∷ []) new
  types_next i g done now within is left id new passes =
      gather_next type_of_group (λ id. id ∷ []) group_types (λ s. refl) (λ g gs s. refl) groups old i g done [] now within is left id [] new passes

  pub types_stop : (i : ℕ) (g : FormalGroup) (done : List TypeId) (now : Passed) → i < length groups → g ≡ get_or groups i g → TypesFrom i done now
      → (why : TypeFault) → IsFault (type_of_group g now) why → IsFault (group_types groups old) why
  types_stop i g done now within is left why stops =
      gather_stops type_of_group (λ id. id ∷ []) group_types (λ s. refl) (λ g gs s. refl) groups old i g done [] now within is left why stops

  pub types_end : (i : ℕ) (done : List TypeId) (now : Passed) → length groups ≤ i → TypesFrom i done now → group_types groups old ≡ Ok (after done [] now)
  types_end i done now past left =
      gather_ends type_of_group (λ id. id ∷ []) group_types (λ s. refl) (λ g gs s. refl) groups old i done [] now past left

-- ---- parameters of one group

module _ (block : ℕ) (kind : VariableKind) (type_id : TypeId) (names : List Name) (old : Passed) where
  abbrev pub NamedFrom : ℕ → List ℕ → Passed → Type 0
  NamedFrom i done now =
      AreFrom (declared block kind type_id) (λ root. root ∷ []) (parameters_named block kind type_id) (λ s. refl) (λ n ns s. refl) names old i done [] now

  pub named_begin : NamedFrom 0 [] old
  named_begin = gather_begins (declared block kind type_id) (λ root. root ∷ []) (parameters_named block kind type_id) (λ s. refl) (λ n ns s. refl) names old

  pub named_next : (i : ℕ) (name : Name) (done : List ℕ) (now : Passed) → i < length names → name ≡ get_or names i name → NamedFrom i done now
      → (root : ℕ) (new : Passed) → declared block kind type_id name now ≡ Ok (after root [] new) → NamedFrom (i + 1) (done ++ root ∷ []) new
  named_next i name done now within is left root new passes =
      gather_next (declared block kind type_id) (λ root. root ∷ []) (parameters_named block kind type_id) (λ s. refl) (λ n ns s. refl) names old i name done []
      now within is left root [] new passes

  pub named_stop : (i : ℕ) (name : Name) (done : List ℕ) (now : Passed) → i < length names → name ≡ get_or names i name → NamedFrom i done now
      → (why : TypeFault) → IsFault (declared block kind type_id name now) why → IsFault (parameters_named block kind type_id names old) why
  named_stop i name done now within is left why stops =
      gather_stops (declared block kind type_id) (λ root. root ∷ []) (parameters_named block kind type_id) (λ s. refl) (λ n ns s. refl) names old i name done []
      now within is left why stops

  pub named_end : (i : ℕ) (done : List ℕ) (now : Passed) → length names ≤ i → NamedFrom i done now
      → parameters_named block kind type_id names old ≡ Ok (after done [] now)
  named_end i done now past left =
      gather_ends (declared block kind type_id) (λ root. root ∷ []) (parameters_named block kind type_id) (λ s. refl) (λ n ns s. refl) names old i done []
      now past left

-- ---- parameters of all groups

no_types : (block : ℕ) (groups : List FormalGroup) (s : Passed) → parameters block groups [] s ≡ Ok (after [] [] s)
no_types block [] s = refl
no_types block (g ∷ groups) s = refl

module _ (block : ℕ) (groups : List FormalGroup) (types : List TypeId) (old : Passed) where
  -- what is left, once some are passed
  abbrev pub ParametersFrom : ℕ → List ℕ → Passed → Type 0
  ParametersFrom i done now = parameters block groups types old ≡ before done [] (parameters block (drop i groups) (drop i types) now)

  pub parameters_begin : ParametersFrom 0 [] old
  parameters_begin = before_none (parameters block groups types old)

  module _ (i : ℕ) (g : FormalGroup) (type_id : TypeId) (done : List ℕ) (now : Passed) (group_within : i < length groups) (group_is : g ≡ get_or groups i g)
      (within : i < length types) (is : type_id ≡ get_or types i type_id) (left : ParametersFrom i done now) where
    abbrev behind_group : Checked (After (List ℕ)) → Checked (After (List ℕ))
    behind_group outcome =
        before done [] (and_then outcome (λ a. behind_marks a.look ((parameters block (drop (i + 1) groups) (drop (i + 1) types)
        >>= (λ others. pure (a.answer ++ others))) a.passed)))

    goes : parameters block groups types old ≡ behind_group (parameters_named block (parameter_kind g.by) type_id g.names.items now)
    goes =
        left
        ∙ ap (λ gs. before done [] (parameters block gs (drop i types) now)) (drop_more groups i g group_within)
        ∙ ap (λ ts. before done [] (parameters block (get_or groups i g ∷ drop (i + 1) groups) ts now)) (drop_more types i type_id within)
        ∙ ap₂ (λ h t. before done [] (parameters block (h ∷ drop (i + 1) groups) (t ∷ drop (i + 1) types) now)) (sym group_is) (sym is)

    -- the next ones are passed
    pub parameters_next : (roots : List ℕ) (new : Passed)
        → parameters_named block (parameter_kind g.by) type_id g.names.items now ≡ Ok (after roots [] new) → ParametersFrom (i + 1) (done ++ roots) new
    parameters_next roots new passes =
        goes ∙ ap behind_group passes ∙ before_more done roots [] [] (parameters block (drop (i + 1) groups) (drop (i + 1) types) new)

    -- they stop
    pub parameters_stop : (why : TypeFault) → IsFault (parameters_named block (parameter_kind g.by) type_id g.names.items now) why
        → IsFault (parameters block groups types old) why
    parameters_stop why (inl memory) = inl memory
    parameters_stop why (inr stops) = inr (goes ∙ ap behind_group stops)

  -- all are passed
  pub parameters_end : (i : ℕ) (done : List ℕ) (now : Passed) → i ≡ min (length groups) (length types) → ParametersFrom i done now
      → parameters block groups types old ≡ Ok (after done [] now)
  parameters_end i done now all left = left ∙ by (past_one i (length groups) (length types) all) ∙ ap (λ l. Ok (after l [] now)) (append-nil done)
    where
      by : (length groups ≤ i) ⊎ (length types ≤ i) → before done [] (parameters block (drop i groups) (drop i types) now) ≡ Ok (after (done ++ []) [] now)
      by (inl past) = at_drop_all (λ gs. before done [] (parameters block gs (drop i types) now)) groups i past
      by (inr past) =
          at_drop_all (λ ts. before done [] (parameters block (drop i groups) ts now)) types i past ∙ ap (before done []) (no_types block (drop i groups) now)

-- the names of groups of parameters from one on
pub formals_next : (groups : List FormalGroup) (i : ℕ) (g : FormalGroup) → i < length groups → g ≡ get_or groups i g
    → flat_map formal_names (drop i groups) ≡ g.names.items ++ flat_map formal_names (drop (i + 1) groups)
formals_next groups i g within is =
    ap (flat_map formal_names) (drop_more groups i g within) ∙ ap (λ h. flat_map formal_names (h ∷ drop (i + 1) groups)) (sym is)

-- ---- a heading behind its types

enclosing_left : {A : Type 0} → Checked (After A) → Enclosing
enclosing_left (Ok a) = a.passed.enclosing
enclosing_left (Err why) = program_block

module _ (number : ℕ) (place : Place) (groups : List FormalGroup) (types : List TypeId) (result_id : Option TypeId) (old now : Passed)
    (begins : with_enclosing (record (old.enclosing) { cells = 0 }) old ≡ Ok (after tt [] now)) where
  abbrev behind_roots : Option ℕ → Checked (After (List ℕ)) → Checked (After (Unit {0}))
  behind_roots root outcome = and_then outcome (λ a. behind_marks a.look (heading_ends old.enclosing a.answer root a.passed))

  abbrev behind_open : Option ℕ → Checked (After (Unit {0})) → Checked (After (Unit {0}))
  behind_open root outcome = and_then outcome (λ a. behind_marks a.look (behind_roots root (parameters number groups types a.passed)))

  abbrev behind_result : Checked (After (Option ℕ)) → Checked (After (Unit {0}))
  behind_result outcome =
      and_then outcome (λ a. behind_marks a.look (behind_open a.answer (open_block (all_folded (flat_map formal_names groups)) a.passed)))

  inside_goes : heading_inside number place groups types result_id old ≡ behind_result (result number place result_id now)
  unfolding heading_inside enclosing_now
  inside_goes =
      ap (λ o. behind_marks [] (and_then o (λ a. behind_marks a.look (behind_result (result number place result_id a.passed))))) begins
      ∙ behind_nothing (behind_marks [] (behind_result (result number place result_id now)))
      ∙ behind_nothing (behind_result (result number place result_id now))

  -- the result stops
  pub result_stops : (why : TypeFault) → IsFault (result number place result_id now) why → IsFault (heading_inside number place groups types result_id old) why
  result_stops why (inl memory) = inl memory
  result_stops why (inr stops) = inr (inside_goes ∙ ap behind_result stops)

  module _ (root : Option ℕ) (there : Passed) (passes : result number place result_id now ≡ Ok (after root [] there)) where
    result_goes : heading_inside number place groups types result_id old
        ≡ behind_open root (open_block (all_folded (flat_map formal_names groups)) there)
    result_goes =
        inside_goes ∙ ap behind_result passes ∙ behind_nothing (behind_open root (open_block (all_folded (flat_map formal_names groups)) there))

    -- the region stops
    pub region_stops : (why : TypeFault) → IsFault (open_block (all_folded (flat_map formal_names groups)) there) why
        → IsFault (heading_inside number place groups types result_id old) why
    region_stops why (inl memory) = inl memory
    region_stops why (inr stops) = inr (result_goes ∙ ap (behind_open root) stops)

    module _ (inner : Passed) (opens : open_block (all_folded (flat_map formal_names groups)) there ≡ Ok (after tt [] inner)) where
      region_goes : heading_inside number place groups types result_id old ≡ behind_roots root (parameters number groups types inner)
      region_goes = result_goes ∙ ap (behind_open root) opens ∙ behind_nothing (behind_roots root (parameters number groups types inner))

      -- the parameters stop
      pub roots_stop : (why : TypeFault) → IsFault (parameters number groups types inner) why
          → IsFault (heading_inside number place groups types result_id old) why
      roots_stop why (inl memory) = inl memory
      roots_stop why (inr stops) = inr (region_goes ∙ ap (behind_roots root) stops)

      module _ (roots : List ℕ) (last : Passed) (declares : parameters number groups types inner ≡ Ok (after roots [] last)) where
        -- the block round it is the one before, but for the cells
        round_is : record (last.enclosing) { cells = old.enclosing.cells } ≡ old.enclosing
        unfolding enclosing_left open_block with_enclosing
        round_is =
            let one = same_block (result number place result_id) (result_walks true (Of number) tt 0 number place result_id refl) root [] now there passes in
            let two = same_block (parameters number groups types)
            (parameters_walk true (Of number) tt 0 number groups types refl) roots [] inner last declares in
            let opened = ap enclosing_left opens in
            let begun = ap enclosing_left begins in
            ap (λ (e : Enclosing). record e { cells = old.enclosing.cells })
            (two ∙ ap (λ (e : Enclosing). record e { cells = 0 }) (sym opened) ∙ one ∙ ap (λ (e : Enclosing). record e { cells = 0 }) (sym begun))

        -- what is left is the heading's end
        pub end_is_left : heading_inside number place groups types result_id old
            ≡ heading_ends (record (last.enclosing) { cells = old.enclosing.cells }) roots root last
        end_is_left =
            region_goes ∙ ap (behind_roots root) declares ∙ behind_nothing (heading_ends old.enclosing roots root last)
            ∙ ap (λ e. heading_ends e roots root last) (sym round_is)

-- a heading is its types, and what comes behind them
pub heading_is : (number : ℕ) (name : Name) (groups : List FormalGroup) (of_result : Option Name)
    → heading number name groups of_result ≡ heading_of number name.place groups of_result
unfolding heading heading_inside heading_ends
heading_is number name groups of_result = refl
