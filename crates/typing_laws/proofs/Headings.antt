-- What the heading of a routine does: its parameters and its result are variables of its block, and the block round it goes
-- on behind it as before.
use Rattle.std.proofs.Common.{◌≡◌, ℕ, zero, suc, ◌+◌, ◌<◌, ◌≤◌, Bool, true, false, not, ◌||◌, ◌&&◌, nat_eq, nat_lt, nat_le, if◌then◌else◌, List, [], ◌∷◌, ◌++◌}
use Rattle.std.proofs.Common.{length, map, Option, Some, None, Ok, is_none, slice_get, refl, sym, ap, ap₂, subst, ◌∙◌, arith, inl, inr, append_assoc}
use Rattle.std.proofs.Common.{append-nil, length-append, ◌⊎◌}
use Rattle.std.specs.List.{list_all, flat_map}
use Rattle.std.proofs.lemmas.Bool.{eq-eqb}
use Rattle.std.proofs.lemmas.Bool.Decides.{nat_tests}
use Rattle.std.proofs.lemmas.List.{length-map, map-append}
use Rattle.std.proofs.lemmas.Option.{slice_get_within}
use Rattle.place.specs.declared.Place.{Place}
use Rattle.syntax_tree.specs.declared.Name.{Name}
use Rattle.syntax_tree.specs.declared.FormalGroup.{FormalGroup}
use Rattle.syntax_tree.specs.declared.Passing.{Passing as FormalKind}
use Rattle.syntax_tree.specs.declared.Passing.TheVariants as formal
use Rattle.types.specs.Forms.{Form}
use Rattle.types.specs.declared.form.TypeId.{TypeId}
use Rattle.types.specs.Types.{cells_of, is_ordinal, most_cells}
use Rattle.scopes.specs.Scopes.{Region, found, innermost, opened, outer}
use Rattle.scopes.specs.declared.denotation.Denotation.TheVariants as denotes
use Rattle.typed_tree.specs.declared.fault.TypeFault.TheVariants as fault
use Rattle.typed_tree.specs.declared.tree.Variable.{Variable}
use Rattle.typed_tree.specs.declared.tree.VariableKind.{VariableKind}
use Rattle.typed_tree.specs.declared.tree.VariableKind.TheVariants as variable
use Rattle.typed_tree.specs.Look.{Look}
use Rattle.typed_tree.specs.WellFormed.{declarer, is_local_kind, is_parameter_kind, is_result_kind, most_blocks, most_numbered, is_one_of, roots_where}
use Rattle.typed_tree.specs.WellFormed.{variables_of}
use Rattle.typing.specs.Names.{folded, all_folded, formal_names}
use Rattle.typing.specs.Passing.{Enclosing, Headed, Passed, After, Passing, after, behind_marks, pure, ◌>>=◌, ◌>>◌, ◌>>?◌}
use Rattle.typing_rules.specs.Checked.{Checked, and_then}
use Rattle.typing.specs.Steps.{next_root, reserve, enclosing_now, with_enclosing, open_block, close_block, add_heading}
use Rattle.typing_rules.specs.Checked.{fits}
use Rattle.typing.specs.Denoters.{named_type, type_of_name}
use Rattle.typing.specs.Routines.{group_types, heading, parameter_kind, parameters, parameters_named, result, result_type, type_of_result}
use Rattle.typing_laws.proofs.Owned.{Fails, block_cells_longer, cells_of_block, declares, other_block, roots_of}
use Rattle.typing_laws.proofs.Reached.{IsLonger, as_long, longer_still, one_longer, get_longer, get_mapped, Signature, signature_passed, Head, head_of, reached}
use Rattle.typing_laws.proofs.Reached.{Here, is_round_here, StandsIn}
use Rattle.typing_laws.proofs.Sound.{IsSound, AreSound, IsSoundRegion, declared_in, found_holds, opened_holds, inside_itself, inside_routine, regions_later}
use Rattle.typing_laws.proofs.Ready.{Base, IsHeaded, IsOrdinalAt, IsPlacedAt, base_heading, heads_passed, placed_longer, type_stands, within}
use Rattle.typing.proofs.Ways.{Of, Way}
use Rattle.typing_laws.proofs.Went.{Grows, grows, no_mark, same_controls, silent}
use Rattle.typing_laws.proofs.Keeping.{Ready, Keeps, keeps_then, pure_keeps, aside, before}
use Rattle.typing_laws.proofs.Declarations.{IsReady, IsBehind, HasRoots, and_root, and_result, declared_keeps, named_is, next_root_keeps, reserve_keeps}
use Rattle.typing_laws.proofs.Declarations.{root_is_next}
use Rattle.typing_laws.proofs.Strings.{behind_nothing, fit_is, both_and}
use Rattle.typing_laws.proofs.Steps.{split, split_behind, split_unless}
use Rattle.typing_laws.proofs.Tables.{HaveTypes, cells_in, is_ordinal_longer, stands_longer}

-- ---- steps without marks

pub passes_on : {A B : Type 0} (p : Passing A) (f : A → Passing B) (s : Passed) (x : A) (t : Passed) (b : After B) → p s ≡ Ok (after x [] t)
    → (p >>= f) s ≡ Ok b → f x t ≡ Ok b
passes_on p f s x t b goes is =
    sym (behind_nothing (f x t)) ∙ ap (λ r. and_then r (λ a. behind_marks a.look (f a.answer a.passed))) (sym goes) ∙ is

-- a step, and what comes behind it
pub record Parts {A B : Type 0} (p : Passing A) (f : A → Passing B) (s : Passed) (b : After B) : Type 0 where
  pub first : After A
  pub goes : p s ≡ Ok first
  pub second : After B
  pub goes_on : f first.answer first.passed ≡ Ok second
  pub both : after second.answer (first.look ++ second.look) second.passed ≡ b

pub parts_of : {A B : Type 0} (p : Passing A) (f : A → Passing B) (s : Passed) (b : After B) → (p >>= f) s ≡ Ok b → Parts p f s b
parts_of p f s b is =
    let x = split (p s) (λ a. behind_marks a.look (f a.answer a.passed)) b is in
    let y = split_behind x.0.look (f x.0.answer x.0.passed) b x.2 in
    record { first = x.0; goes = x.1; second = y.0; goes_on = y.1; both = y.2 }

-- a first step without a mark
pub quiet_parts : {A B : Type 0} (p : Passing A) (f : A → Passing B) (s : Passed) (b : After B) → (p >>= f) s ≡ Ok b
    → ((a : After A) → p s ≡ Ok a → a.look ≡ [])
    → (a : After A) × (p s ≡ Ok a) × (f a.answer a.passed ≡ Ok b)
quiet_parts p f s b is quiet =
    let x = parts_of p f s b is in
    let same : x.second ≡ b = ap (λ l. after x.second.answer (l ++ x.second.look) x.second.passed) (sym (quiet x.first x.goes)) ∙ x.both in
    (x.first, x.goes, x.goes_on ∙ ap Ok same)

-- ---- types that are looked up

-- all but the latest token stays as it is
abbrev Looks : {A : Type 0} → Passed → After A → Type 0
Looks s a = (place : Place) × (after a.answer [] (record s { latest = place }) ≡ a)

looks_quiet : {A : Type 0} (s : Passed) (a : After A) → Looks s a → a.look ≡ []
looks_quiet s a l = ap (λ b. b.look) (sym l.1)

-- they stand in the table
abbrev pub AllStand : List Form → List TypeId → Type 0
AllStand types [] = Unit {0}
AllStand types (id ∷ ids) = (id.index < length types) × AllStand types ids

module _ (here : Here) (heads : List Head) where
  abbrev AreSoundIn : Passed → Type 0
  AreSoundIn s = AreSound here s.variables s.types heads s.regions

  type_looks : (name : Name) (s : Passed) (a : After TypeId) → AreSoundIn s → type_of_name name s ≡ Ok a
      → Looks s a × (a.answer.index < length s.types)
  unfolding type_of_name
  type_looks name s a sound is =
      let denoted = found s.regions (folded name.text.now) in
      let x = split (named_type name denoted) (λ type_id. Ok (after type_id [] (record s { latest = name.place }))) a is in
      let same : after x.0 [] (record s { latest = name.place }) ≡ a = cc in
      let one : x.0.index < length s.types =
      found_holds (IsSound here s.variables s.types heads) s.regions (folded name.text.now) (denotes.TypeName x.0) sound
      (named_is name denoted x.0 x.1) in
      subst (λ (b : After TypeId). Looks s b × (b.answer.index < length s.types)) same ((name.place, refl), one)

  groups_look : (groups : List FormalGroup) (s : Passed) (a : After (List TypeId)) → AreSoundIn s → group_types groups s ≡ Ok a
      → Looks s a × AllStand s.types a.answer
  groups_look [] s a sound is =
      let same : after [] [] s ≡ a = cc in subst (λ (b : After (List TypeId)). Looks s b × AllStand s.types b.answer) same ((s.latest, refl), tt)
  groups_look (g ∷ groups) s a sound is =
      let x = parts_of (type_of_name g.type_name) (λ id. group_types groups >>= (λ ids. pure (id ∷ ids))) s a is in
      let one = type_looks g.type_name s x.first sound x.goes in
      let n : Passed = record s { latest = one.0.0 } in
      let first_is : after x.first.answer [] n ≡ x.first = one.0.1 in
      let on : (group_types groups >>= (λ ids. pure (x.first.answer ∷ ids))) n ≡ Ok x.second =
      subst (λ (z : After TypeId). (group_types groups >>= (λ ids. pure (x.first.answer ∷ ids))) z.passed ≡ Ok x.second) (sym first_is) x.goes_on in
      let y = parts_of (group_types groups) (λ ids. pure (x.first.answer ∷ ids)) n x.second on in
      let more = groups_look groups n y.first sound y.goes in
      let last : after (x.first.answer ∷ y.first.answer) [] y.first.passed ≡ y.second = cc in
      let whole : after (x.first.answer ∷ y.first.answer) [] (record s { latest = more.0.0 }) ≡ a =
      ap (λ (z : After (List TypeId)). after (x.first.answer ∷ y.first.answer) [] z.passed) more.0.1 ∙ last
      ∙ ap (λ l. after y.second.answer (l ++ y.second.look) y.second.passed) (sym (looks_quiet n y.first more.0))
      ∙ y.both ∙ ap (λ l. after x.second.answer (l ++ x.second.look) x.second.passed) (sym (looks_quiet s x.first one.0)) ∙ x.both in
      subst (λ (b : After (List TypeId)). Looks s b × AllStand s.types b.answer) whole ((more.0.0, refl), (one.1, more.1))

  -- the type of a result, which is ordinal
  abbrev pub IsOutcomeType : List Form → Option TypeId → Type 0
  IsOutcomeType types None = Unit {0}
  IsOutcomeType types (Some id) = (id.index < length types) × (is_ordinal types id ≡ true)

  result_looks : (of_result : Option Name) (s : Passed) (a : After (Option TypeId)) → AreSoundIn s → type_of_result of_result s ≡ Ok a
      → Looks s a × IsOutcomeType s.types a.answer × (is_none a.answer ≡ is_none of_result)
  unfolding result_type
  result_looks None s a sound is =
      let same : after None [] s ≡ a = cc in
      subst (λ (b : After (Option TypeId)). Looks s b × IsOutcomeType s.types b.answer × (is_none b.answer ≡ true)) same ((s.latest, refl), tt, refl)
  result_looks (Some name) s a sound is =
      let test : List Form → TypeId → Checked TypeId = λ types id. fits (is_ordinal types id) name.place id in
      let x = parts_of (type_of_name name >>? test) (λ id. pure (Some id)) s a is in
      let y = split (type_of_name name s) (λ b. and_then (test b.passed.types b.answer) (λ id. Ok (after id b.look b.passed))) x.first x.goes in
      let z = split (test y.0.passed.types y.0.answer) (λ id. Ok (after id y.0.look y.0.passed)) x.first y.2 in
      let one = type_looks name s y.0 sound y.1 in
      let fit = fit_is (is_ordinal y.0.passed.types y.0.answer) name.place y.0.answer z.0 z.1 in
      let ordinal : is_ordinal s.types y.0.answer ≡ true = ap (λ (b : After TypeId). is_ordinal b.passed.types y.0.answer) one.0.1 ∙ fit.0 in
      let n : Passed = record s { latest = one.0.0 } in
      let made : after y.0.answer [] n ≡ x.first =
      ap (λ (b : After TypeId). after y.0.answer b.look b.passed) one.0.1 ∙ ap (λ id. after id y.0.look y.0.passed) fit.1 ∙ ok_same z.2 in
      let last : after (Some x.first.answer) [] x.first.passed ≡ x.second = ok_same x.goes_on in
      let whole : after (Some y.0.answer) [] n ≡ a =
      ap (λ (b : After TypeId). after (Some b.answer) [] b.passed) made ∙ last
      ∙ ap (λ l. after x.second.answer (l ++ x.second.look) x.second.passed) (ap (λ (b : After TypeId). b.look) made) ∙ x.both in
      subst (λ (b : After (Option TypeId)). Looks s b × IsOutcomeType s.types b.answer × (is_none b.answer ≡ false)) whole
      ((one.0.0, refl), (one.1, ordinal), refl)
    where
      ok_same : {B : Type 0} {b c : After B} → ◌≡◌ {A = Checked (After B)} (Ok b) (Ok c) → b ≡ c
      ok_same is = cc

-- ---- results and parameters

-- the result's root, once it is declared
abbrev IsResult : ℕ → Option TypeId → Option ℕ → Passed → Type 0
IsResult number None root s = root ≡ None
IsResult number (Some id) root s =
    (r : ℕ) × (root ≡ Some r) × (slice_get s.variables r ≡ Some (record { block = number; type_id = id; kind = variable.Result }))

module _ (here : Here) (under : List Region) (number : ℕ) (heads : List Head) (there : number < length heads) where
  -- no heading of the block was passed
  abbrev IsNew : Passed → Type 0
  IsNew s = length s.headings ≤ number

  abbrev HasOnly : List ℕ → List ℕ → Passed → Type 0
  HasOnly roots results s = HasRoots here under number heads roots results s

  abbrev IsSet : Passed → Type 0
  IsSet s = IsReady here under number heads s × IsNew s

  result_keeps : (place : Place) (id : Option TypeId) (types : List Form) → IsOutcomeType here heads types id
      → Keeps number (λ s. (IsSet s × HasOnly [] [] s) × (s.types ≡ types)) (result number place id)
      (λ root s. (IsSet s × HasOnly [] (roots_of root) s) × IsResult number id root s)
  unfolding result
  result_keeps place None types outcome = pure_keeps None (λ s from. (from.0, refl))
  result_keeps place (Some id) types outcome =
      keeps_then (before set_up (next_root_keeps here under number heads place variable.Result id [] [])) λ root.
      keeps_then (before (λ s from. (root_is_next here under number heads variable.Result id root s from.0, from.1))
      (reserve_keeps here under number heads there place variable.Result id root [] [])) λ _.
      pure_keeps (Some root) (λ s to. (((to.0.0.0.0, new_of s to.0.0.1), to.0.1), (root, refl, to.1)))
    where
      set_up : (s : Passed) → (IsSet s × HasOnly [] [] s) × (s.types ≡ types) → IsBehind here under number heads variable.Result id s × HasOnly [] [] s
      set_up s from =
          let stands : id.index < length s.types = subst (λ l. id.index < length l) (sym from.1) outcome.0 in
          (((from.0.0.0, stands), inr from.0.0.1), from.0.1)

      new_of : (s : Passed) → (false ≡ true) ⊎ (length s.headings ≤ number) → length s.headings ≤ number
      new_of s (inl local) = absurd cc
      new_of s (inr new) = new

  -- a kind of parameter is no result
  kind_is : (by : FormalKind) → (is_parameter_kind (parameter_kind by) ≡ true) × (is_result_kind (parameter_kind by) ≡ false)
  kind_is formal.Value = (refl, refl)
  kind_is formal.Variable = (refl, refl)

  no_local : (by : FormalKind) (s : Passed) → (is_local_kind (parameter_kind by) ≡ true) ⊎ (length s.headings ≤ number) → length s.headings ≤ number
  no_local formal.Value s (inl local) = absurd cc
  no_local formal.Variable s (inl local) = absurd cc
  no_local by s (inr new) = new

  module _ (visible : is_round_here here number ≡ true) where
    named_keep : (by : FormalKind) (id : TypeId) (names : List Name) (roots results : List ℕ)
        → Keeps number (λ s. (IsSet s × (id.index < length s.types)) × HasOnly roots results s) (parameters_named number (parameter_kind by) id names)
        (λ more s. (IsSet s × (id.index < length s.types)) × HasOnly (roots ++ more) results s)
    named_keep by id [] roots results = pure_keeps [] (λ s from. (from.0, (from.1.0 ∙ sym (append-nil roots), from.1.1)))
    named_keep by id (name ∷ names) roots results =
        keeps_then (before (λ s from. (((from.0.0.0, from.0.1), inr from.0.0.1), from.1))
        (declared_keeps here under number heads there visible (parameter_kind by) id name roots results)) λ root.
        keeps_then (before (added root) (named_keep by id names (roots ++ root ∷ []) results)) λ more.
        pure_keeps (root ∷ more) (λ s to. (to.0, (to.1.0 ∙ append_assoc roots (root ∷ []) more, to.1.1)))
      where
        added : (root : ℕ) (s : Passed)
            → IsBehind here under number heads (parameter_kind by) id s
            × HasOnly (and_root here under number heads (parameter_kind by) roots root) (and_result here under number heads (parameter_kind by) results root) s
            → (IsSet s × (id.index < length s.types)) × HasOnly (roots ++ root ∷ []) results s
        added root s to =
            let kind = kind_is by in (
              ((to.0.0.0, no_local by s to.0.1), to.0.0.1),
              (
                to.1.0 ∙ ap (λ (b : Bool). if b then roots ++ root ∷ [] else roots) kind.0,
                to.1.1 ∙ ap (λ (b : Bool). if b then results ++ root ∷ [] else results) kind.1,
              ),
            )

    parameters_keep : (groups : List FormalGroup) (ids : List TypeId) (roots results : List ℕ)
        → Keeps number (λ s. (IsSet s × AllStand s.types ids) × HasOnly roots results s) (parameters number groups ids)
        (λ more s. IsSet s × HasOnly (roots ++ more) results s)
    parameters_keep [] ids roots results = pure_keeps [] (λ s from. (from.0.0, (from.1.0 ∙ sym (append-nil roots), from.1.1)))
    parameters_keep (g ∷ groups) [] roots results = pure_keeps [] (λ s from. (from.0.0, (from.1.0 ∙ sym (append-nil roots), from.1.1)))
    parameters_keep (g ∷ groups) (id ∷ ids) roots results =
        keeps_then (before (λ s from. (((from.0.0, from.0.1.0), from.1), from.0.1.1))
        (aside all_stand (named_keep g.by id g.names.items roots results))) λ more.
        keeps_then (before (λ s from. ((from.0.0.0, from.1), from.0.1)) (parameters_keep groups ids (roots ++ more) results)) λ others.
        pure_keeps (more ++ others) (λ s to. (to.0, (to.1.0 ∙ append_assoc roots more others, to.1.1)))
      where
        stand_later : (old new : List Form) (all : List TypeId) → IsLonger old new → AllStand old all → AllStand new all
        stand_later old new [] longer stand = tt
        stand_later old new (one ∷ all) longer stand = (stands_longer longer one stand.0, stand_later old new all longer stand.1)

        all_stand : (s new : Passed) → IsLonger s.types new.types → new.enclosing.block ≡ s.enclosing.block → AllStand s.types ids → AllStand new.types ids
        all_stand s new longer same stand = stand_later s.types new.types ids longer stand

-- it leaves the regions as they are
result_regions : (number : ℕ) (place : Place) (id : Option TypeId) (s : Passed) (a : After (Option ℕ)) → result number place id s ≡ Ok a
    → a.passed.regions ≡ s.regions
unfolding result next_root reserve
result_regions number place None s a is = let same : after None [] s ≡ a = cc in ap (λ (b : After (Option ℕ)). b.passed.regions) (sym same)
result_regions number place (Some id) s a is =
    let goes_on : ℕ → Passing (Option ℕ) = λ root. reserve place number variable.Result id >> pure (Some root) in
    let x = parts_of (next_root place) goes_on s a is in
    let many = nat_le most_numbered (length s.variables) in
    let first = split_unless many (fault.TooMany place) (after (length s.variables) [] s) x.first x.goes in
    let y = parts_of (reserve place number variable.Result id) (λ _. pure (Some x.first.answer)) x.first.passed x.second x.goes_on in
    let reserved = reserve_regions number place id x.first.passed y.first y.goes in
    let last : after (Some x.first.answer) [] y.first.passed ≡ y.second = cc in
    ap (λ (b : After (Option ℕ)). b.passed.regions) (sym x.both) ∙ ap (λ (b : After (Option ℕ)). b.passed.regions) (sym y.both)
    ∙ ap (λ (b : After (Option ℕ)). b.passed.regions) (sym last) ∙ reserved
    ∙ ap (λ (b : After ℕ). b.passed.regions) (sym first.1)
  where
    reserve_regions : (number : ℕ) (place : Place) (id : TypeId) (s : Passed) (a : After (Unit {0})) → reserve place number variable.Result id s ≡ Ok a
        → a.passed.regions ≡ s.regions
    reserve_regions number place id s a is =
        let one : Variable = record { block = number; type_id = id; kind = variable.Result } in
        let taken = s.enclosing.cells + cells_of s.types id in
        let new : Passed = record s { variables = s.variables ++ one ∷ []; enclosing = record (s.enclosing) { cells = taken } } in
        let x = split_unless (nat_lt most_cells taken) (fault.TooManyCells place) (after tt [] new) a is in
        ap (λ (b : After (Unit {0})). b.passed.regions) (sym x.1)

-- ---- a heading

-- what a heading leaves: one more of a block of this number, and the block round it as it was
pub record HeadingAdded (here : Here) (under : List Region) (number : ℕ) (old new : Passed) : Type 0 where
  pub sites : new.sites ≡ old.sites
  pub points : new.points ≡ old.points
  pub controls_kept : new.controls ≡ old.controls
  pub records_kept : new.records ≡ old.records
  pub grows : Grows old new
  pub regions : new.regions ≡ old.regions
  pub enclosing : new.enclosing ≡ old.enclosing
  pub headed : Headed
  pub headings : new.headings ≡ old.headings ++ headed ∷ []
  pub around : headed.around ≡ here.around ++ here.block ∷ []
  pub cells : headed.cells ≡ cells_of_block new.types number new.variables
  pub others : (block : ℕ) → Fails (nat_eq number block) → variables_of block new.variables ≡ variables_of block old.variables
  pub ready : Ready here under here.block (heads_passed new.headings) new.variables new

-- what is known where a heading begins, whose name is declared: with the head of its block
pub record Entering (here : Here) (under : List Region) (number : ℕ) (pending : Head) (s : Passed) : Type 0 where
  pub ready : Ready here under here.block (heads_passed s.headings ++ pending ∷ []) s.variables s
  pub block : s.enclosing.block ≡ here.block
  pub around : s.enclosing.around ≡ here.around
  pub none_open : here.records ≡ []
  pub stands : StandsIn here (reached s)
  pub number_is : number ≡ length s.headings
  pub owned : list_all (λ v. nat_lt v.block number) s.variables ≡ true
  pub few_round : length here.around + 1 < most_blocks
  pub around_it : pending.around ≡ here.around ++ here.block ∷ []

-- a block of a greater number has no variables
no_own : (number : ℕ) (variables : List Variable) → list_all (λ (v : Variable). nat_lt v.block number) variables ≡ true → variables_of number variables ≡ []
no_own number [] all = refl
no_own number (v ∷ variables) all =
    let parts = both_and (nat_lt v.block number) (list_all (λ (w : Variable). nat_lt w.block number) variables) all in
    by (nat_eq v.block number) refl parts.0 (no_own number variables parts.1)
  where
    by : (own : Bool) → nat_eq v.block number ≡ own → nat_lt v.block number ≡ true → variables_of number variables ≡ []
        → (if own then v ∷ variables_of number variables else variables_of number variables) ≡ []
    by true same less none = absurd (differ (nat_lt v.block number) same less)
      where
        differ : (b : Bool) → nat_eq v.block number ≡ true → nat_lt v.block number ≡ true → ⊥
        differ b one two = grind (arith, nat_tests)
    by false same less none = none

no_roots : (number first : ℕ) (is_kind : VariableKind → Bool) (variables : List Variable)
    → list_all (λ (v : Variable). nat_lt v.block number) variables ≡ true → roots_where (declares number is_kind) first variables ≡ []
no_roots number first is_kind [] all = refl
no_roots number first is_kind (v ∷ variables) all =
    let parts = both_and (nat_lt v.block number) (list_all (λ (w : Variable). nat_lt w.block number) variables) all in
    let other : nat_eq v.block number ≡ false = differs v.block number parts.0 in
    ap (λ (b : Bool). if b && is_kind v.kind then first ∷ roots_where (declares number is_kind) (suc first) variables
    else roots_where (declares number is_kind) (suc first) variables) other
    ∙ no_roots number (suc first) is_kind variables parts.1
  where
    differs : (a b : ℕ) → nat_lt a b ≡ true → nat_eq a b ≡ false
    differs a b h = grind (arith, nat_tests)

-- the declarer of a block stands last of those round it
pub declarer_last : (blocks : List ℕ) (block : ℕ) → declarer (blocks ++ block ∷ []) ≡ Some block
declarer_last [] block = refl
declarer_last (one ∷ []) block = refl
declarer_last (one ∷ two ∷ blocks) block = declarer_last (two ∷ blocks) block

routine_placed : (headings : List Headed) (here : Here) (number : ℕ) (headed outer : Headed) → number ≡ length headings
    → slice_get headings here.block ≡ Some outer → outer.around ≡ here.around → headed.around ≡ here.around ++ here.block ∷ []
    → length here.around + 1 < most_blocks → IsPlacedAt headings number headed
routine_placed headings here zero headed outer is there round around few =
    let within = slice_get_within headings here.block outer there in absurd (omega (arith, is, within))
routine_placed headings here (suc number) headed outer is there round around few =
    let within = slice_get_within headings here.block outer there in
    let counted : length headed.around ≡ length here.around + 1 = ap length around ∙ length-append here.around (here.block ∷ []) in (
      omega (arith, counted, few),
      here.block,
      ap declarer around ∙ declarer_last here.around here.block,
      omega (arith, is, within),
      outer,
      there,
      around ∙ ap (λ l. l ++ here.block ∷ []) (sym round),
    )

heads_more : (headings : List Headed) (headed : Headed)
    → heads_passed (headings ++ headed ∷ []) ≡ heads_passed headings ++ head_of (signature_passed headed) ∷ []
heads_more headings headed =
    ap (map head_of) (map-append signature_passed headings (headed ∷ []))
    ∙ map-append head_of (map signature_passed headings) (signature_passed headed ∷ [])

pub heads_count : (headings : List Headed) → length (heads_passed headings) ≡ length headings
heads_count headings = length-map (map signature_passed headings) head_of ∙ length-map headings signature_passed

innermost_sound : (here : Here) (variables : List Variable) (types : List Form) (heads : List Head) (regions : List Region)
    → AreSound here variables types heads regions → IsSoundRegion here variables types heads (innermost regions)
innermost_sound here variables types heads [] sound = tt
innermost_sound here variables types heads (region ∷ regions) sound = sound.0

module _ (here : Here) (under : List Region) (number : ℕ) (name : Name) (groups : List FormalGroup) (of_result : Option Name) where
  abbrev inner : Here
  inner = declared_in here number

  abbrev pending : Head
  pending = record { around = here.around ++ here.block ∷ []; is_function = not (is_none of_result) }

  -- the heading that is added, by what stands before it
  abbrev made : Enclosing → Option ℕ → List ℕ → Passed → Headed
  made round root roots s = record {
    around = round.around ++ round.block ∷ [];
    parameters = roots;
    result = root;
    region = innermost s.regions;
    cells = s.enclosing.cells;
  }

  abbrev with_heading : Enclosing → Option ℕ → List ℕ → Passed → Passed
  with_heading round root roots s =
      record s { regions = outer s.regions; enclosing = round; headings = s.headings ++ made round root roots s ∷ [] }

  -- from the region of the parameters on
  abbrev behind_result : Enclosing → Option ℕ → List TypeId → Passing (Unit {0})
  behind_result round root types = do
    open_block (all_folded (flat_map formal_names groups))
    roots ← parameters number groups types
    region ← close_block
    own ← enclosing_now
    with_enclosing round
    add_heading (record {
      around = round.around ++ round.block ∷ [];
      parameters = roots;
      result = root;
      region = region;
      cells = own.cells;
    })

  -- the steps behind the types
  abbrev behind_types : List TypeId → Option TypeId → Passing (Unit {0})
  behind_types types id = do
    round ← enclosing_now
    with_enclosing (record round { cells = 0 })
    root ← result number name.place id
    behind_result round root types

  abbrev opened_here : Passed → Passed
  opened_here s = record s { regions = opened (all_folded (flat_map formal_names groups)) ∷ s.regions }

  -- where the parameters were declared, from where they begin
  record Parametered (heads : List Head) (s : Passed) (round : Enclosing) (root : Option ℕ) (a : After (Unit {0})) : Type 0 where
    pub roots : List ℕ
    pub last : Passed
    pub look : Look
    pub way : Way false (Of number) 0 0 look (opened_here s) last
    pub ready : Ready inner s.regions number heads last.variables last
    pub has : HasRoots inner s.regions number heads roots (roots_of root) last
    pub is : after tt [] (with_heading round root roots last) ≡ a

  parametered : (heads : List Head) (there : number < length heads) (s : Passed) (round : Enclosing) (root : Option ℕ) (types : List TypeId)
      (a : After (Unit {0})) → Ready inner under number heads s.variables s → length s.headings ≤ number
      → HasRoots inner under number heads [] (roots_of root) s → AllStand s.types types → behind_result round root types s ≡ Ok a
      → Parametered heads s round root a
  unfolding open_block close_block enclosing_now with_enclosing add_heading
  parametered heads there s round root types a ready new has stand is =
      let n = opened_here s in
      let rest : List ℕ → Passing (Unit {0}) = λ roots.
      close_block
      >>= (λ region. enclosing_now
      >>= (λ own. with_enclosing round
      >> add_heading (record { around = round.around ++ round.block ∷ []; parameters = roots; result = root; region = region; cells = own.cells }))) in
      let on = passes_on (open_block (all_folded (flat_map formal_names groups))) (λ _. parameters number groups types >>= rest) s tt n a refl is in
      let own = eq-eqb number number refl in
      let visible : is_round_here inner number ≡ true = ap (λ b. b || is_one_of inner.around number) own in
      let law = parameters_keep inner s.regions number heads there visible groups types [] (roots_of root) in
      let set : IsReady inner s.regions number heads n = record {
        sound = (opened_holds (IsSound inner s.variables s.types heads) (all_folded (flat_map formal_names groups)), ready.sound);
        under_it = refl;
        base = ready.base;
        texts = ready.texts;
        cells = ready.cells;
      } in
      let x = quiet_parts (parameters number groups types) rest n a on (λ b goes. no_mark (law.keeps n b goes (((set, new), stand), has)).0) in
      let k = law.keeps n x.0 x.1 (((set, new), stand), has) in
      let roots = x.0.answer in
      let s6 = x.0.passed in
      let last : after tt [] (with_heading round root roots s6) ≡ a = ok_is x.2 in
      record { roots = roots; last = s6; look = x.0.look; way = k.0; ready = k.1.0.0; has = k.1.1; is = last }
    where
      ok_is : {b c : After (Unit {0})} → ◌≡◌ {A = Checked (After (Unit {0}))} (Ok b) (Ok c) → b ≡ c
      ok_is h = cc

  -- where the heading stands behind its result
  record Resulted (s : Passed) (a : After (Unit {0})) : Type 0 where
    pub types : List TypeId
    pub id : Option TypeId
    pub as_told : is_none id ≡ is_none of_result
    pub start : Passed
    pub place : Place
    pub look : Look
    pub way : Way false (Of number) 0 0 look (record s { latest = place; enclosing = record (s.enclosing) { cells = 0 } }) start
    pub regions : start.regions ≡ s.regions
    pub root : Option ℕ
    pub ready : Ready inner under number (heads_passed s.headings ++ pending ∷ []) start.variables start
    pub has : HasRoots inner under number (heads_passed s.headings ++ pending ∷ []) [] (roots_of root) start
    pub result_is : IsResult number id root start
    pub ordinal : IsOutcomeType inner (heads_passed s.headings ++ pending ∷ []) start.types id
    pub stand : AllStand start.types types
    pub goes : behind_result s.enclosing root types start ≡ Ok a

  outcome_later : (heads : List Head) (old new : List Form) (id : Option TypeId) → IsLonger old new → IsOutcomeType inner heads old id
      → IsOutcomeType inner heads new id
  outcome_later heads old new None longer outcome = tt
  outcome_later heads old new (Some id) longer outcome =
      (stands_longer longer id outcome.0, is_ordinal_longer longer id outcome.0 ∙ outcome.1)

  all_later : (old new : List Form) (all : List TypeId) → IsLonger old new → AllStand old all → AllStand new all
  all_later old new [] longer stand = tt
  all_later old new (one ∷ all) longer stand = (stands_longer longer one stand.0, all_later old new all longer stand.1)

  resulted : (s : Passed) (a : After (Unit {0})) → Entering here under number pending s → heading number name groups of_result s ≡ Ok a → Resulted s a
  unfolding heading enclosing_now with_enclosing
  resulted s a e is =
      let heads = heads_passed s.headings ++ pending ∷ [] in
      let x = quiet_parts (group_types groups) (λ types. type_of_result of_result >>= behind_types types) s a is
      (λ b goes. looks_quiet s b (groups_look here heads groups s b e.ready.sound goes).0) in
      let one = groups_look here heads groups s x.0 e.ready.sound x.1 in
      let n1 : Passed = record s { latest = one.0.0 } in
      let on1 : (type_of_result of_result >>= behind_types x.0.answer) n1 ≡ Ok a =
      subst (λ (z : After (List TypeId)). (type_of_result of_result >>= behind_types x.0.answer) z.passed ≡ Ok a) (sym one.0.1) x.2 in
      let y = quiet_parts (type_of_result of_result) (behind_types x.0.answer) n1 a on1
      (λ b goes. looks_quiet n1 b (result_looks here heads of_result n1 b e.ready.sound goes).0) in
      let two = result_looks here heads of_result n1 y.0 e.ready.sound y.1 in
      let n2 : Passed = record s { latest = two.0.0 } in
      let on2 : behind_types x.0.answer y.0.answer n2 ≡ Ok a =
      subst (λ (z : After (Option TypeId)). behind_types x.0.answer y.0.answer z.passed ≡ Ok a) (sym two.0.1) y.2 in
      let n3 : Passed = record s { latest = two.0.0; enclosing = record (s.enclosing) { cells = 0 } } in
      let rest : Option ℕ → Passing (Unit {0}) = λ root. behind_result s.enclosing root x.0.answer in
      let on3 : (result number name.place y.0.answer >>= rest) n3 ≡ Ok a = twice (result number name.place y.0.answer >>= rest) n3 a on2 in
      let counted : length heads ≡ number + 1 =
      length-append (heads_passed s.headings) (pending ∷ []) ∙ ap (λ n. n + 1) (heads_count s.headings ∙ sym e.number_is) in
      let there : number < length heads = omega (arith, counted) in
      let ready : Ready inner under number heads n3.variables n3 = record {
        sound = regions_later (inside_routine here number e.none_open) as_long as_long as_long s.regions e.ready.sound;
        under_it = e.ready.under_it;
        base = e.ready.base;
        texts = e.ready.texts;
        cells = sym (ap (λ l. cells_in s.types l) (no_own number s.variables e.owned));
      } in
      let none : HasRoots inner under number heads [] [] n3 =
      (no_roots number 0 is_parameter_kind s.variables e.owned, no_roots number 0 is_result_kind s.variables e.owned) in
      let outcome = outcome_inner heads s.types y.0.answer two.1 in
      let law = result_keeps inner under number heads there name.place y.0.answer s.types outcome in
      let z = quiet_parts (result number name.place y.0.answer) rest n3 a on3
      (λ b goes. no_mark (law.keeps n3 b goes ((set_of n3 heads ready e.number_is, none), refl)).0) in
      let k = law.keeps n3 z.0 z.1 ((set_of n3 heads ready e.number_is, none), refl) in
      record {
        types = x.0.answer;
        id = y.0.answer;
        as_told = two.2;
        start = z.0.passed;
        place = two.0.0;
        look = z.0.look;
        way = k.0;
        regions = result_regions number name.place y.0.answer n3 z.0 z.1;
        root = z.0.answer;
        ready = k.1.0.0.0;
        has = k.1.0.1;
        result_is = k.1.1;
        ordinal = outcome_later heads s.types z.0.passed.types y.0.answer (grows k.0).types outcome;
        stand = all_later s.types z.0.passed.types x.0.answer (grows k.0).types one.1;
        goes = z.2;
      }
    where
      twice : (p : Passing (Unit {0})) (n : Passed) (a : After (Unit {0})) → behind_marks [] (behind_marks [] (p n)) ≡ Ok a → p n ≡ Ok a
      twice p n a h = sym (behind_nothing (p n)) ∙ sym (behind_nothing (behind_marks [] (p n))) ∙ h

      set_of : (n : Passed) (heads : List Head) → Ready inner under number heads n.variables n → number ≡ length n.headings
          → Ready inner under number heads n.variables n × (length n.headings ≤ number)
      set_of n heads ready same = (ready, omega (arith, same))

      outcome_inner : (heads : List Head) (types : List Form) (id : Option TypeId) → IsOutcomeType here heads types id → IsOutcomeType inner heads types id
      outcome_inner heads types None outcome = tt
      outcome_inner heads types (Some id) outcome = outcome

  -- the head of the block is the one that was told
  head_is : (id : Option TypeId) (root : Option ℕ) (s : Passed) → IsResult number id root s → is_none root ≡ is_none id
  head_is None root s is = ap is_none is
  head_is (Some id) root s is = ap is_none is.1

  result_ordinal : (heads : List Head) (id : Option TypeId) (root : Option ℕ) (s : Passed) (r : ℕ) → IsResult number id root s
      → IsOutcomeType inner heads s.types id → root ≡ Some r → IsOrdinalAt s.types s.variables r
  result_ordinal heads None root s r is outcome there = absurd (no (sym is ∙ there))
    where
      no : ◌≡◌ {A = Option ℕ} None (Some r) → ⊥
      no h = absurd cc
  result_ordinal heads (Some id) root s r is outcome there =
      let same : is.0 ≡ r = some_is is.0 r (sym is.1 ∙ there) in
      (record { block = number; type_id = id; kind = variable.Result }, ap (slice_get s.variables) (sym same) ∙ is.2, outcome.1)
    where
      some_is : (a b : ℕ) → ◌≡◌ {A = Option ℕ} (Some a) (Some b) → a ≡ b
      some_is a b h = cc

  ordinal_later : (old new : List Form) (variables more : List Variable) (r : ℕ) → HaveTypes old variables → IsLonger old new → IsLonger variables more
      → IsOrdinalAt old variables r → IsOrdinalAt new more r
  ordinal_later old new variables more r have types longer o =
      (o.0, get_longer longer r o.0 o.1, is_ordinal_longer types o.0.type_id (type_stands old variables r o.0 have o.1) ∙ o.2)

  pub heading_adds : (s : Passed) (a : After (Unit {0})) → Entering here under number pending s → heading number name groups of_result s ≡ Ok a
      → (a.look ≡ []) × HeadingAdded here under number s a.passed
  heading_adds s a e is =
      let heads = heads_passed s.headings ++ pending ∷ [] in
      let r = resulted s a e is in
      let few : length r.start.headings ≤ number = omega (arith, ap length (silent r.way).headings, e.number_is) in
      let counted : length heads ≡ number + 1 =
      length-append (heads_passed s.headings) (pending ∷ []) ∙ ap (λ n. n + 1) (heads_count s.headings ∙ sym e.number_is) in
      let there : number < length heads = omega (arith, counted) in
      let p = parametered heads there r.start s.enclosing r.root r.types a r.ready few r.has r.stand r.goes in
      let last = p.last in
      let headed = made s.enclosing r.root p.roots last in
      let new = with_heading s.enclosing r.root p.roots last in
      let same_headings : last.headings ≡ s.headings = (silent p.way).headings ∙ (silent r.way).headings in
      let number_last : number ≡ length last.headings = e.number_is ∙ ap length (sym same_headings) in
      let types : IsLonger s.types last.types = longer_still (grows r.way).types (grows p.way).types in
      let variables : IsLonger s.variables last.variables = longer_still (grows r.way).variables (grows p.way).variables in
      let regions : new.regions ≡ s.regions = p.ready.under_it ∙ r.regions in
      let around : headed.around ≡ here.around ++ here.block ∷ [] = ap₂ (λ l b. l ++ b ∷ []) e.around e.block in
      let others : (block : ℕ) → Fails (nat_eq number block) → variables_of block last.variables ≡ variables_of block s.variables =
      λ block other. (silent p.way).others block other ∙ (silent r.way).others block other in
      let head : head_of (signature_passed headed) ≡ pending =
      ap₂ (λ l (b : Bool). record { around = l; is_function = not b }) around (head_is r.id r.root r.start r.result_is ∙ r.as_told) in
      let same_heads : heads_passed new.headings ≡ heads =
      heads_more last.headings headed ∙ ap₂ (λ l h. l ++ h ∷ []) (ap heads_passed same_headings) head in
      let at = get_mapped signature_passed s.headings here.block e.stands.0 e.stands.1 in
      let round : at.0.around ≡ here.around = ap (λ (g : Signature). g.around) at.2 ∙ e.stands.2 in
      let within_it = slice_get_within s.headings here.block at.0 at.1 in
      let other_than : Fails (nat_eq number here.block) = other_block number here.block (λ same. omega (arith, same, e.number_is, within_it)) in
      let placed = routine_placed s.headings here number headed at.0 e.number_is at.1 round around e.few_round in
      let longer : IsLonger s.headings new.headings =
      subst (λ l. IsLonger l (last.headings ++ headed ∷ [])) same_headings (one_longer last.headings headed) in
      let is_headed : IsHeaded last.types last.variables new.headings number headed = record {
        placed = placed_longer s.headings new.headings number headed longer placed;
        parameters = sym p.has.0;
        results = sym p.has.1;
        ordinal = λ root told.
            ordinal_later r.start.types last.types r.start.variables last.variables root r.ready.base.have_types (grows p.way).types (grows p.way).variables
            (result_ordinal heads r.id r.root r.start root r.result_is r.ordinal told);
        region =
            subst (λ h. IsSoundRegion (within number headed) last.variables last.types h headed.region)
            (sym same_heads)
            (subst (λ l. IsSoundRegion (record { block = number; around = l; records = [] }) last.variables last.types heads headed.region) (sym around)
            (innermost_sound inner last.variables last.types heads last.regions p.ready.sound));
      } in
      let base =
      base_heading last.types last.variables last.headings (length heads) headed p.ready.base
      (subst (λ n. IsHeaded last.types last.variables new.headings n headed) number_last is_headed) in
      let own_cells : cells_of_block last.types here.block last.variables ≡ cells_of_block s.types here.block s.variables =
      ap (cells_in last.types) (others here.block other_than) ∙ block_cells_longer types here.block s.variables e.ready.base.have_types in
      let ready : Ready here under here.block (heads_passed new.headings) new.variables new = record {
        sound =
            subst (λ h. AreSound here last.variables last.types h new.regions) (sym same_heads)
            (subst (AreSound here last.variables last.types heads) (sym regions)
            (regions_later inside_itself variables types as_long s.regions e.ready.sound));
        under_it = ap outer regions ∙ e.ready.under_it;
        base = subst (Base last.types last.variables new.headings) (ap length (sym same_heads)) base;
        texts = p.ready.texts;
        cells = e.ready.cells ∙ sym own_cells;
      } in
      let added : HeadingAdded here under number s new = record {
        sites = (silent p.way).sites ∙ (silent r.way).sites;
        points = (silent p.way).points ∙ (silent r.way).points;
        controls_kept = same_controls p.way ∙ same_controls r.way;
        records_kept = (silent p.way).records ∙ (silent r.way).records;
        grows = record {
          types = types;
          variables = variables;
          headings = longer;
          sites = longer_still (grows r.way).sites (grows p.way).sites;
          points = longer_still (grows r.way).points (grows p.way).points;
          threats = λ root is. (grows p.way).threats root ((grows r.way).threats root is);
        };
        regions = regions;
        enclosing = refl;
        headed = headed;
        headings = ap (λ l. l ++ headed ∷ []) same_headings;
        around = around;
        cells = p.ready.cells;
        others = others;
        ready = ready;
      } in
      subst (λ (b : After (Unit {0})). (b.look ≡ []) × HeadingAdded here under number s b.passed) p.is (refl, added)
