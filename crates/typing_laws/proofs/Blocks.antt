-- What blocks and routines do, by induction over their form.
use Rattle.std.proofs.Common.{◌≡◌, ◌||◌, List, [], ◌∷◌, ◌++◌, map, Option, Some, None, Ok, refl, sym, ap, subst, ◌∙◌, append_assoc}
use Rattle.std.specs.List.{flat_map}
use Rattle.std.proofs.lemmas.Bool.{eq-eqb}
use Rattle.place.specs.declared.Place.{Place}
use Rattle.syntax_tree.specs.declared.Block.{Block}
use Rattle.syntax_tree.specs.declared.Block.TheOpen as layer
use Rattle.syntax_tree.specs.declared.Block.TheViews.{roll-Block, roll-Routine}
use Rattle.syntax_tree.specs.declared.Block.TheFolds.{map-Block, map-Routine, fold-roll-Block, fold-roll-Routine, ind-Block}
use Rattle.syntax_tree.specs.declared.ConstantDefinition.{ConstantDefinition}
use Rattle.syntax_tree.specs.declared.Heading.{Heading}
use Rattle.syntax_tree.specs.declared.Routine.{Routine}
use Rattle.syntax_tree.specs.declared.Stmt.{Stmt}
use Rattle.syntax_tree.specs.declared.TypeDefinition.{TypeDefinition}
use Rattle.syntax_tree.specs.declared.VariableGroup.{VariableGroup}
use Rattle.syntax_tree.specs.Places.{Places, block_places, definition_places, group_places, heading_places, joined_places, routine_places, stmt_places}
use Rattle.syntax_tree.specs.Places.{type_definition_places, block_step as block_row, routine_step as routine_row}
use Rattle.scopes.specs.Scopes.{Region}
use Rattle.typed_tree.specs.WellFormed.{is_one_of}
use Rattle.typed_tree.specs.Look.{Look}
use Rattle.typing.specs.Passing.{Passed, After, Passing, after, behind_marks, each, ◌>>◌}
use Rattle.typing_rules.specs.Checked.{and_then}
use Rattle.typing.specs.Steps.{enclosing_now}
use Rattle.typing.specs.Statements.{compound, statement}
use Rattle.typing.specs.Routines.{TypedBlock, TypedRoutine, all_came, block_step, definition, first_waiting, group, headed, heading_name, none_waits}
use Rattle.typing.specs.Routines.{routine_body, routine_step, type_definition, typed_block, typed_routine}
use Rattle.typing_laws.proofs.Bodies.{Inside, LawfulBody, body_builds, fine_standing, forward_builds}
use Rattle.typing_laws.proofs.Built.{Built, Builds, LeavesBuilt, Standing, built_silent, built_then, builds_more, builds_then, keeps_builds}
use Rattle.typing_laws.proofs.Covers.{Stood, Covers, covers_behind, covers_both, covers_none}
use Rattle.typing_laws.proofs.Declarations.{definition_keeps, group_keeps, type_definition_keeps}
use Rattle.typing_laws.proofs.Headings.{parts_of, quiet_parts}
use Rattle.typing.proofs.Ways.{Stay}
use Rattle.typing_laws.proofs.Grown.{Sited, sited_then, sited_more}
use Rattle.typing_laws.proofs.Steps.{no_sites as no_more}
use Rattle.typing_laws.proofs.Keeping.{before, behind, each_keeps}
use Rattle.typing_laws.proofs.Reached.{Here, as_far, reached}
use Rattle.typing_laws.proofs.Routines.{headed_begins}
use Rattle.typing_laws.proofs.Statements.{compound_does, statements_lawful}
use Rattle.typing_laws.proofs.Waiting.{none_waiting}

-- ---- the parts of a block

-- the first parts of a block, and what comes behind them
record Declared (here : Here) (under : List Region) (Has : List Stood → Type 0) (s : Passed) (rest : Passing (Unit {0})) (a : After (Unit {0})) : Type 0 where
  pub look : Look
  pub middle : Passed
  pub built : Built here look s middle
  pub sited : Sited Has s middle
  pub standing : Standing here under middle
  pub behind_it : After (Unit {0})
  pub goes : rest middle ≡ Ok behind_it
  pub both : after behind_it.answer (look ++ behind_it.look) behind_it.passed ≡ a

declared_first : {here : Here} {under : List Region} {Has : List Stood → Type 0} (p rest : Passing (Unit {0})) (s : Passed) (a : After (Unit {0}))
    → Builds here under Has p → (p >> rest) s ≡ Ok a → Standing here under s → Declared here under Has s rest a
declared_first p rest s a law is st =
    let x = parts_of p (λ _. rest) s a is in
    let one = law.builds s x.first x.goes st in
    record {
      look = x.first.look;
      middle = x.first.passed;
      built = one.0;
      sited = one.1;
      standing = one.2;
      behind_it = x.second;
      goes = x.goes_on;
      both = x.both;
    }

declared_next : {here : Here} {under : List Region} {First Second Both : List Stood → Type 0} (q rest : Passing (Unit {0})) (s : Passed)
    (a : After (Unit {0})) → ((x y : List Stood) → First x → Second y → Both (x ++ y)) → Declared here under First s (q >> rest) a
    → Builds here under Second q → Declared here under Both s rest a
declared_next q rest s a joined d law =
    let e = declared_first q rest d.middle d.behind_it law d.goes d.standing in
    record {
      look = d.look ++ e.look;
      middle = e.middle;
      built = built_then d.built e.built;
      sited = sited_then joined d.sited e.sited;
      standing = e.standing;
      behind_it = e.behind_it;
      goes = e.goes;
      both =
          ap (λ l. after e.behind_it.answer l e.behind_it.passed) (append_assoc d.look e.look e.behind_it.look)
          ∙ ap (λ (z : After (Unit {0})). after z.answer (d.look ++ z.look) z.passed) e.both ∙ d.both;
    }

no_sites : (places : Places) (sites : List Stood) → sites ≡ [] → Covers 0 places sites
no_sites places sites none = subst (Covers 0 places) (sym none) (covers_none 0 places)

module _ (here : Here) (under : List Region) where
  definitions_build : (items : List ConstantDefinition) → Builds here under (Covers 0 (flat_map definition_places items)) (each definition items)
  definitions_build items =
      builds_more (no_sites (flat_map definition_places items))
      (keeps_builds {Also = λ s. Unit {0}} (λ s st. tt) (λ heads there.
      before (λ s from. from.0) (behind (λ x s r. (r, tt)) (each_keeps (definition_keeps here under here.block heads) items))))

  types_build : (items : List TypeDefinition) → Builds here under (Covers 0 (flat_map type_definition_places items)) (each type_definition items)
  types_build items =
      builds_more (no_sites (flat_map type_definition_places items))
      (keeps_builds {Also = λ s. Unit {0}} (λ s st. tt) (λ heads there.
      before (λ s from. from.0) (behind (λ x s r. (r, tt)) (each_keeps (type_definition_keeps here under here.block heads) items))))

  groups_build : (items : List VariableGroup) → Builds here under (Covers 0 (flat_map group_places items)) (each group items)
  groups_build items =
      builds_more (no_sites (flat_map group_places items))
      (keeps_builds {Also = λ s. s.enclosing.block ≡ here.block} (λ s st. st.block) (λ heads there.
      each_keeps (group_keeps here under here.block heads there (ap (λ b. b || is_one_of here.around here.block) (eq-eqb here.block here.block refl))) items))

-- ---- routines

pub record LawfulRoutine (places : List Place) (r : TypedRoutine) : Type 0 where
  pub law : (here : Here) (under : List Region) → Builds here under (Covers 0 places) r.typing

abbrev AreLawfulRoutines : List (List Place) → List TypedRoutine → Type 0
AreLawfulRoutines [] [] = Unit {0}
AreLawfulRoutines [] (r ∷ routines) = ⊥
AreLawfulRoutines (row ∷ rows) [] = ⊥
AreLawfulRoutines (row ∷ rows) (r ∷ routines) = LawfulRoutine row r × AreLawfulRoutines rows routines

routines_build : (here : Here) (under : List Region) (rows : List (List Place)) (routines : List TypedRoutine) → AreLawfulRoutines rows routines
    → Builds here under (Covers 0 (joined_places rows)) (each (λ routine. routine.typing) routines)
routines_build here under [] [] laws = record {
  builds = λ s a is st.
      let same : after tt [] s ≡ a = cc in
      subst (LeavesBuilt here under (λ sites. sites ≡ []) s) same (built_silent Stay, no_more refl refl, st);
}
routines_build here under [] (r ∷ routines) laws = absurd laws
routines_build here under (row ∷ rows) [] laws = absurd laws
routines_build here under (row ∷ rows) (r ∷ routines) laws =
    builds_then (covers_both 0 row (joined_places rows)) (laws.0.law here under) (routines_build here under rows routines laws.1)

-- none waits
came_is : (s : Passed) (a : After (Unit {0})) → all_came s ≡ Ok a → (after tt [] s ≡ a) × (first_waiting s.enclosing.waiting ≡ None)
unfolding all_came enclosing_now
came_is s a is = by (first_waiting s.enclosing.waiting) is
  where
    by : (found : Option Place) → behind_marks [] (and_then (none_waits found) (λ b. Ok (after b [] s))) ≡ Ok a → (after tt [] s ≡ a) × (found ≡ None)
    by None h = (cc, refl)
    by (Some place) h = absurd cc

-- ---- blocks

module _ (constants : List ConstantDefinition) (types : List TypeDefinition) (groups : List VariableGroup) (rows : List (List Place))
    (routines : List TypedRoutine) (statements : List Stmt) where
  abbrev typing_of : Passing (Unit {0})
  typing_of =
      each definition constants
      >> (each type_definition types
      >> (each group groups >> (each (λ routine. routine.typing) routines >> (all_came >> compound (map statement statements)))))

  abbrev declared_places : List Place
  declared_places =
      ((flat_map definition_places constants ++ flat_map type_definition_places types) ++ flat_map group_places groups) ++ joined_places rows

  abbrev inside_places : List Place
  inside_places = declared_places ++ flat_map stmt_places statements

  block_inside : AreLawfulRoutines rows routines → (here : Here) (under : List Region) (s : Passed) (a : After (Unit {0})) → typing_of s ≡ Ok a
      → Standing here under s → Inside here under (Covers 0 inside_places) s a
  block_inside laws here under s a is st =
      let statement_part = compound (map statement statements) in
      let behind_routines = all_came >> statement_part in
      let behind_groups = each (λ routine. routine.typing) routines >> behind_routines in
      let behind_types = each group groups >> behind_groups in
      let one = declared_first (each definition constants) (each type_definition types >> behind_types) s a (definitions_build here under constants) is st in
      let two = declared_next {Both = Covers 0 (flat_map definition_places constants ++ flat_map type_definition_places types)}
      (each type_definition types) behind_types s a
      (covers_both 0 (flat_map definition_places constants) (flat_map type_definition_places types)) one (types_build here under types) in
      let three = declared_next
      {Both = Covers 0 ((flat_map definition_places constants ++ flat_map type_definition_places types) ++ flat_map group_places groups)}
      (each group groups) behind_groups s a
      (covers_both 0 (flat_map definition_places constants ++ flat_map type_definition_places types) (flat_map group_places groups)) two
      (groups_build here under groups) in
      let four = declared_next {Both = Covers 0 declared_places} (each (λ routine. routine.typing) routines) behind_routines s a
      (covers_both 0 ((flat_map definition_places constants ++ flat_map type_definition_places types) ++ flat_map group_places groups)
      (joined_places rows)) three (routines_build here under rows routines laws) in
      let middle = four.middle in
      let x = quiet_parts all_came (λ _. statement_part) middle four.behind_it four.goes
      (λ b goes. ap (λ (c : After (Unit {0})). c.look) (sym (came_is middle b goes).0)) in
      let came = came_is middle x.0 x.1 in
      let on : statement_part middle ≡ Ok four.behind_it =
      subst (λ (c : After (Unit {0})). statement_part c.passed ≡ Ok four.behind_it) (sym came.0) x.2 in
      let law = (compound_does here (flat_map stmt_places statements) (map statement statements) (statements_lawful here statements)).passes (reached middle) in
      let grown = law.does middle four.behind_it on (fine_standing here under middle four.standing) as_far in
      subst (Inside here under (Covers 0 inside_places) s) four.both (record {
        first = four.look;
        second = four.behind_it.look;
        middle = middle;
        built = four.built;
        standing = four.standing;
        came = none_waiting middle.enclosing.waiting came.1;
        grown = grown.0;
        look = refl;
        sited = sited_then (covers_both 0 declared_places (flat_map stmt_places statements)) four.sited grown.1;
      })

-- ---- every block and every routine

-- with other sites
sited_by : (here : Here) (under : List Region) {Has Had : List Stood → Type 0} (s : Passed) (a : After (Unit {0}))
    → ((sites : List Stood) → Has sites → Had sites) → LeavesBuilt here under Has s a → LeavesBuilt here under Had s a
sited_by here under s a has k = (k.0, sited_more has k.1, k.2)

abbrev LawfulBlockOf : Block → Type 0
LawfulBlockOf b = LawfulBody (block_places b) (typed_block b)

abbrev LawfulRoutineOf : Routine → Type 0
LawfulRoutineOf r = LawfulRoutine (routine_places r) (typed_routine r)

abbrev WithBlock : Type 0
WithBlock = (b : Block) × LawfulBlockOf b

abbrev WithRoutine : Type 0
WithRoutine = (r : Routine) × LawfulRoutineOf r

abbrev bare_block : layer.Block-F WithBlock WithRoutine → layer.Block-F Block Routine
bare_block = map-Block WithBlock WithRoutine Block Routine (λ b. b.0) (λ r. r.0)

abbrev bare_routine : layer.Routine-F WithBlock WithRoutine → layer.Routine-F Block Routine
bare_routine = map-Routine WithBlock WithRoutine Block Routine (λ b. b.0) (λ r. r.0)

abbrev bare_routines : List WithRoutine → List Routine
bare_routines ys = map (λ (y : WithRoutine). y.0) ys

routine_rows : (ys : List WithRoutine) → AreLawfulRoutines (map routine_places (bare_routines ys)) (map typed_routine (bare_routines ys))
routine_rows [] = tt
routine_rows (y ∷ ys) = (y.1, routine_rows ys)

grouped_places : (a b c d e f : List Place) → a ++ (b ++ (c ++ (d ++ (e ++ f)))) ≡ ((((a ++ b) ++ c) ++ d) ++ e) ++ f
grouped_places a b c d e f =
    sym (append_assoc a b (c ++ (d ++ (e ++ f)))) ∙ sym (append_assoc (a ++ b) c (d ++ (e ++ f)))
    ∙ sym (append_assoc ((a ++ b) ++ c) d (e ++ f)) ∙ sym (append_assoc (((a ++ b) ++ c) ++ d) e f)

block_layer : (y : layer.Block-F WithBlock WithRoutine)
    → LawfulBody (block_row (map-Block Block Routine Places Places block_places routine_places (bare_block y)))
    (block_step (map-Block Block Routine TypedBlock TypedRoutine typed_block typed_routine (bare_block y)))
block_layer y =
    let routines = bare_routines y.routines.items in
    let rows = map routine_places routines in
    record {
      inside = inside_places y.constants.items y.types.items y.variables.items rows (map typed_routine routines) y.statements.items;
      places_are =
          grouped_places (flat_map definition_places y.constants.items) (flat_map type_definition_places y.types.items)
          (flat_map group_places y.variables.items) (joined_places rows) (flat_map stmt_places y.statements.items) (y.end ∷ []);
      law =
          block_inside y.constants.items y.types.items y.variables.items rows (map typed_routine routines) y.statements.items (routine_rows y.routines.items);
    }

block_rolled : (y : layer.Block-F WithBlock WithRoutine) → LawfulBlockOf (roll-Block (bare_block y))
block_rolled y =
    let d = bare_block y in
    subst (λ p. LawfulBody p (typed_block (roll-Block d))) (sym (fold-roll-Block Places Places block_row routine_row d))
    (subst (LawfulBody _) (sym (fold-roll-Block TypedBlock TypedRoutine block_step routine_step d)) (block_layer y))

-- a heading, and then a block or `forward`
with_body : (h : Heading) (body : Option WithBlock)
    → LawfulRoutine (routine_row (map-Routine Block Routine Places Places block_places routine_places (bare_routine (record { heading = h; block = body }))))
    (routine_step (map-Routine Block Routine TypedBlock TypedRoutine typed_block typed_routine (bare_routine (record { heading = h; block = body }))))
with_body h None = record {
  law = λ here under. record {
    builds = λ s a is st.
        let x = quiet_parts (headed h) (λ begins. routine_body begins (heading_name h) None) s a is
        (λ b goes. (headed_begins here under h s b st goes).0) in
        let begins = (headed_begins here under h s x.0 st x.1).1 in
        let k = forward_builds here under x.0.answer (heading_name h).place s x.0.passed a st begins x.2 in
        sited_by here under s a (λ sites none. no_sites (heading_places h ++ []) sites none) k;
  };
}
with_body h (Some b) = record {
  law = λ here under. record {
    builds = λ s a is st.
        let x = quiet_parts (headed h) (λ begins. routine_body begins (heading_name h) (Some (typed_block b.0))) s a is
        (λ c goes. (headed_begins here under h s c st goes).0) in
        let begins = (headed_begins here under h s x.0 st x.1).1 in
        let k = body_builds here under x.0.answer (heading_name h) (typed_block b.0) (block_places b.0) b.1 s x.0.passed a st begins x.2 in
        sited_by here under s a (λ sites has. covers_behind 0 (heading_places h) (block_places b.0) sites has) k;
  };
}

routine_rolled : (y : layer.Routine-F WithBlock WithRoutine) → LawfulRoutineOf (roll-Routine (bare_routine y))
routine_rolled y =
    let d = bare_routine y in
    subst (λ p. LawfulRoutine p (typed_routine (roll-Routine d))) (sym (fold-roll-Routine Places Places block_row routine_row d))
    (subst (LawfulRoutine _) (sym (fold-roll-Routine TypedBlock TypedRoutine block_step routine_step d)) (with_body y.heading y.block))

-- every block
pub block_lawful : (b : Block) → LawfulBlockOf b
block_lawful =
    ind-Block LawfulBlockOf LawfulRoutineOf (λ x y is. subst (λ z. LawfulBlockOf (roll-Block z)) is (block_rolled y))
    (λ x y is. subst (λ z. LawfulRoutineOf (roll-Routine z)) is (routine_rolled y))
