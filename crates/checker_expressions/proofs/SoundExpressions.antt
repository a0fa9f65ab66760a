-- The walk over expressions is sound, form by form, and so is that over values that are written.
use Rattle.std.proofs.Common.{arith, ◌≡◌, ◌∙◌, ap, refl, sym, subst, ℕ, suc, ◌+◌, ◌<◌, ℤ, pos, Bool, true, false, ◌&&◌, nat_eq, nat_lt}
use Rattle.std.proofs.Common.{length, List, [], ◌∷◌, ◌++◌, map, Option, Some, None}
use Rattle.std.specs.Prelude.{slice_get}
use Rattle.std.specs.List.{list_all}
use Rattle.std.specs.Option.{option_and_then, option_map}
use Rattle.std.proofs.lemmas.Bool.{and_parts, eqb-true, ltb-true}
use Rattle.std.proofs.lemmas.List.{length-map}
use Rattle.std.proofs.lemmas.Option.{none-some, same_Some, slice_get-map}
use Rattle.types.specs.Types.{is_same}
use Rattle.types.specs.declared.form.TypeId.{TypeId}
use Rattle.typed_tree.specs.declared.tree.Access.{Access}
use Rattle.typed_tree.specs.declared.tree.Block.{Block}
use Rattle.typed_tree.specs.declared.tree.Call.{Call}
use Rattle.typed_tree.specs.declared.tree.Designator.{Designator}
use Rattle.typed_tree.specs.declared.tree.Designator.TheVariants.{Single, Range}
use Rattle.typed_tree.specs.declared.tree.FunctionResult.{FunctionResult}
use Rattle.typed_tree.specs.declared.tree.Heading.{Heading}
use Rattle.typed_tree.specs.declared.tree.RangeTest.{RangeTest}
use Rattle.typed_tree.specs.declared.tree.Scalar.{Scalar}
use Rattle.typed_tree.specs.declared.tree.Scalar.TheVariants as scalar
use Rattle.typed_tree.specs.declared.tree.Tree.{Tree}
use Rattle.typed_tree.specs.declared.tree.Variable.{Variable as DeclaredVariable}
use Rattle.typed_tree.specs.declared.tree.Width.{Width}
use Rattle.typed_tree.specs.declared.tree.WriteParameter.{WriteParameter}
use Rattle.typed_tree.specs.declared.tree.Written.{Written}
use Rattle.typed_tree.specs.declared.tree.Written.TheVariants as written
use Rattle.typed_tree.specs.declared.tree.Whole.{Whole}
use Rattle.typed_tree.specs.declared.tree.Whole.TheVariants.{Text, Variable as VariableOf}
use Rattle.typed_tree.specs.declared.tree.Expr.{Expr}
use Rattle.typed_tree.specs.declared.tree.Link.{Link}
use Rattle.typed_tree.specs.declared.tree.Passed.{Passed}
use Rattle.typed_tree.specs.declared.tree.Expr.TheOpen.{Expr-F, Link-F, Passed-F}
use Rattle.typed_tree.specs.declared.tree.Expr.TheOpen.Expr-F.{Constant, Variable, Monadic as MonadicOf, Chain, Compare, Call as CallOf, Set as SetOf, Input}
use Rattle.typed_tree.specs.declared.tree.Expr.TheOpen.Passed-F.{Value as PassedValue, Whole as PassedWhole, Reference}
use Rattle.typed_tree.specs.declared.tree.Expr.TheViews.{roll-Expr, roll-Link, roll-Passed}
use Rattle.typed_tree.specs.declared.tree.Expr.TheFolds.{map-Expr, map-Link, map-Passed, fold-roll-Expr, fold-roll-Link, fold-roll-Passed, ind-Expr, ind-Passed}
use Rattle.typed_tree.specs.declared.tree.Expr.TheFolds.{fold-Link, ind-Link}
use Rattle.typed_tree.specs.Accesses as accesses
use Rattle.typed_tree.specs.Accesses.{Origin, origin_of, root_of}
use Rattle.typed_tree.specs.Kinds.{Held, are_ordinal_indexes, are_ordinals, expression_held, given, held_by, is_held, is_held_parameter, is_held_passed}
use Rattle.typed_tree.specs.Kinds.{is_held_value, is_held_width, is_held_written, link_held, links_held, passed_held, taken_left, taken_right}
use Rattle.typed_tree.specs.Records.{Begin, OpenRecord, access_begins, accesses_begin, all_begin, begins, expression_begins, is_there, link_begins}
use Rattle.typed_tree.specs.Records.{parameter_begins, passed_begin, passed_begins, value_begins, whole_begins, width_begins, written_begins}
use Rattle.typed_tree.specs.WellFormed.{Outline, all_hold, are_designators, compare, declarer, dyadic_is_well_formed, expr_is_well_formed, formal_of}
use Rattle.typed_tree.specs.WellFormed.{heading_of, is_text}
use Rattle.typed_tree.specs.WellFormed.{holds, is_callable, is_kind_of, member_site, members_wanted}
use Rattle.typed_tree.specs.WellFormed.{is_passed_to, is_round, is_value_kind, is_variable_kind, is_well_formed_call, is_well_formed_expr}
use Rattle.typed_tree.specs.WellFormed.{is_well_formed_link, is_well_formed_parameter, is_well_formed_passed, is_well_formed_test, is_well_formed_width}
use Rattle.typed_tree.specs.WellFormed.{is_well_formed_written, is_whole, leads_to_type, length_of, link_is_well_formed, may_call, may_copy, of_one, outline_of}
use Rattle.typed_tree.specs.WellFormed.{passed_is_well_formed, passes_value, passes_variable, passes_whole, placed, takes_value, takes_variable, takes_whole}
use Rattle.typed_tree.specs.WellFormed.{are_well_formed, is_well_formed_value, is_well_formed_whole, leads_to, leads_to_held, monadic_is_well_formed}
use Rattle.typed_tree.specs.WellFormed.{source_of, tests_type, whole_indexes}
use Rattle.members.specs.Members as sets
use Rattle.members.specs.declared.sets.Operator.TheVariants as operator
use Rattle.meaning.specs.declared.value.Value.{Value}
use Rattle.meaning.specs.declared.value.Value.TheVariants.{Members, Number}
use Rattle.meaning.specs.Integers.{truth}
use Rattle.meaning.specs.Store.{Environment, Place, Store, part}
use Rattle.meaning.specs.Effect as effect
use Rattle.meaning.specs.Effect.{fetch, is_in, is_positive, number_of, row_text, text_of}
use Rattle.meaning.specs.Kinds.{IsOf}
use Rattle.meaning.specs.Meaning as meaning
use Rattle.meaning.specs.Meaning.{Evaluation, Passing, Surroundings, accessed, link_of, parameter_of, passing_of, value_of, values_of, width_of, written_of}
use Rattle.checker_state.specs.Bounds.{Bound}
use Rattle.domain.specs.Interval.{HasMember, Interval, truth_values}
use Rattle.domain.specs.declared.versions.Version.{Version}
use Rattle.checker_rows.specs.Rows.{is_ordinal_variable}
use Rattle.checker_state.specs.declared.value.Known.{Known}
use Rattle.checker_state.specs.declared.value.Known.TheVariants.{Set}
use Rattle.checker_state.specs.Values.{IsKnown, is_closed_member, is_closed_range, known_range, no_members, tested_member, with_member, with_members}
use Rattle.checker_state.specs.Knows.{IsOfForm}
use Rattle.checker_state.specs.Holds.{IsIn, moment}
use Rattle.checker_state.proofs.Ranged.{constant-in, truth_values-has}
use Rattle.checker_state.proofs.Refined.{access-kept, expression-kept, forms-tell, whole-kept}
use Rattle.checker_state.proofs.Valued.{values-tell}
use Rattle.checker_state.specs.Stores.{Reach}
use Rattle.checker_calls.specs.Actuals.{Actual, OfRows, OfValue, OfVariable}
use Rattle.checker_calls.proofs.Passed.{indexes-integer}
use Rattle.checker_expressions.specs.Walk as walk
use Rattle.checker_expressions.specs.Walk.{Gathering, Joint, PassedPiece, Piece, Walking, form_by, joint_of, link_step, link_walk, members_walk}
use Rattle.checker_expressions.specs.Walk.{none_gathered, parameter_walk, passed_piece_of, passed_step, piece_of, piece_step, scalar_of, value_walk, width_walk}
use Rattle.checker_expressions.proofs.Fitting.{IsCopyFor, copy-for, passed-lies, same-type}
use Rattle.checker_expressions.proofs.Forms.{bound-same, form-same, pieces-hold, whole-holds}
use Rattle.checker_expressions.proofs.Inputs.{asked-sound}
use Rattle.checker_expressions.proofs.Keeping.{keeps-itself}
use Rattle.checker_expressions.proofs.Opened.{AreOpen}
use Rattle.checker_expressions.proofs.Scalars.{held-is, held-where, known-of, number-known}
use Rattle.checker_expressions.proofs.Sound.{World, Any_value, IsForetold, IsHeld, IsSo, SoundLeaves, LiesInResult, Passes, Sound, SoundCalls, declared_in}
use Rattle.checker_expressions.proofs.Sound.{from-held, from-then, gives-state, good-give, ordinal_in, sound-by_tree, sound-checked, sound-tested}
use Rattle.checker_expressions.proofs.Sound.{sites_in, sound-anywhere, sound-enter, sound-give, sound-given, sound-here, sound-named, sound-then, sound-written}
use Rattle.checker_expressions.proofs.Sound.{types_in}
use Rattle.checker_expressions.proofs.SoundAccesses.{AllSound, IndexIsSound, IsWholeIn, LeadsTo, leads-count, leads-seen, leads-tests}
use Rattle.checker_expressions.proofs.SoundAccesses.{leads-type, reached-sound, required-leaves, required-true, stored-sound, string-sound, type-of, used-sound}
use Rattle.checker_expressions.proofs.SoundCalls.{AllPassed, CallLaws, IsPassed, PassedIsSound, call-sound, function-sound, place-kind, then-gives}
use Rattle.checker_expressions.proofs.SoundOperations.{IsFitting, combined-sound, fitting-sound, given-sound, operated-sound}
use Rattle.checker_expressions.proofs.SoundOperations.{positive-sound}

-- the walk over an action that gives no value is sound
abbrev pub SoundAction : World → ℕ → Environment → effect.Action (Unit {0}) → Walking (Unit {0}) → Type 0
SoundAction world block env action walking = Sound {A = Unit {0}} {B = Unit {0}} world block env Any_value action walking

-- behind an entry
pub entered-sound : {A B : Type 0} (world : World) (block : ℕ) (env : Environment) (R : B → A → Store → Type 0) (number : ℕ)
    (action : effect.Action A) (walking : Walking B)
    → Sound world block env R action walking
    → Sound world block env R (effect.◌>>=◌ (effect.enter number env) (λ done. action)) (walk.◌>>=◌ (walk.enter number) (λ done. walking))
entered-sound world block env R number action walking one =
    sound-then world block env Any_value R (effect.enter number env) (λ done. action) (walk.enter number) (λ done. walking)
    (sound-enter world block env number) (λ b a store tie. one)

-- what a test holds of is there
one-there : {A : Type 0} (test : A → Bool) (found : Option A) → of_one test found ≡ true → (x : A) × (found ≡ Some x) × (test x ≡ true)
one-there test None is = absurd (cc)
one-there test (Some x) is = (x, refl, is)

mapped-there : {A B : Type 0} (f : A → B) (found : Option A) (y : B) → option_map f found ≡ Some y → (x : A) × (found ≡ Some x) × (f x ≡ y)
mapped-there f None y is = absurd (none-some y is)
mapped-there f (Some x) y is = (x, refl, same_Some (f x) y is)

-- an access begins at what is there, behind its index expressions
begins-there : (forms : List Begin) (records : List OpenRecord) (origin : Origin) → (all_begin forms records && is_there records origin) ≡ true
    → (all_begin forms records ≡ true) × (is_there records origin ≡ true)
begins-there forms records origin is = and_parts (all_begin forms records) (is_there records origin) is

-- ---- set constructors

-- a set has its members in a hull
abbrev IsSetIn : Interval → ℕ → Store → Type 0
IsSetIn hull set store = IsIn hull (Members set)

-- so has one that was gathered, behind which these designators are left
abbrev IsGathered : List Designator → Gathering → ℕ → Store → Type 0
IsGathered left gathering set store =
    (gathering ≡ record { hull = gathering.hull; left = left; first = None }) × IsIn gathering.hull (Members set)

module _ (world : World) (block : ℕ) (env : Surroundings) where
  abbrev seen_there : Environment
  seen_there = env.visible

  member-sound : (site : ℕ) (v : Value) (set : ℕ) (range hull : Interval) → site < sites_in world → HasMember range (number_of v) → IsIn hull (Members set)
      → Sound world block seen_there IsSetIn (meaning.with_one site v set) (walk.member_walk site range hull)
  member-sound site v set range hull below inside held =
      let n = number_of v in
      let test = sets.can_be_member n in
      let more = sets.of_two operator.Union set (sets.of_one n) in
      sound-then world block seen_there (Passes test n) IsSetIn (effect.require test site) (λ tested. effect.give more)
      (walk.tested (is_closed_member range) site (tested_member range)) (λ passed. walk.give (with_member hull passed))
      (sound-tested world block seen_there (is_closed_member range) site (tested_member range) n test below
      (λ closed. values-tell.member_passes range n inside closed) (λ passes. values-tell.member_lies range n inside passes))
      (λ passed tested store passes. sound-give world block seen_there IsSetIn more (with_member hull passed)
      (λ later. values-tell.of_member hull passed set n held passes.0))

  between-sound : (site : ℕ) (v w : Value) (set : ℕ) (first last hull : Interval) → site < sites_in world → HasMember first (number_of v)
      → HasMember last (number_of w) → IsIn hull (Members set)
      → Sound world block seen_there IsSetIn (meaning.with_range site v w set) (walk.between_walk site first last hull)
  between-sound site v w set first last hull below from to held =
      let a = number_of v in
      let b = number_of w in
      let test = sets.range_fits a b in
      let more = sets.of_two operator.Union set (sets.of_range a b) in
      sound-then world block seen_there (IsSo test) IsSetIn (effect.require test site) (λ tested. effect.give more)
      (walk.checked (is_closed_range first last) site) (λ done. walk.give (with_members hull first last))
      (sound-checked world block seen_there (is_closed_range first last) site test below (λ closed. values-tell.range_passes first last a b from to closed))
      (λ done tested store passes. sound-give world block seen_there IsSetIn more (with_members hull first last)
      (λ later. values-tell.of_members hull first last set a b held from to))

  abbrev sites_are : List Designator → Bool
  sites_are designators = list_all (λ one. nat_lt (member_site one) (sites_in world)) designators

  -- member expressions, by the designators that are left
  gathered-sound : (designators : List Designator) (evaluations : List Evaluation) (pieces : List Piece) → AllSound world block env evaluations pieces
      → length evaluations ≡ members_wanted designators → sites_are designators ≡ true → (hull : Interval) (set : ℕ) → IsIn hull (Members set)
      → Sound world block seen_there IsSetIn (meaning.gathered designators evaluations env set)
      (members_walk pieces (record { hull = hull; left = designators; first = None }))
  gathered-sound [] [] [] all count sites hull set held = sound-give world block seen_there IsSetIn set hull (λ later. held)
  gathered-sound [] [] (piece ∷ pieces) all count sites hull set held = absurd all
  gathered-sound [] (evaluation ∷ evaluations) pieces all count sites hull set held = absurd (omega (arith, count))
  gathered-sound (Single site ∷ designators) [] pieces all count sites hull set held = absurd (omega (arith, count))
  gathered-sound (Single site ∷ designators) (evaluation ∷ evaluations) [] all count sites hull set held = absurd all
  gathered-sound (Single site ∷ designators) (evaluation ∷ evaluations) (piece ∷ pieces) all count sites hull set held =
      let below = and_parts (nat_lt site (sites_in world)) (sites_are designators) sites in
      let now : Gathering = record { hull = hull; left = Single site ∷ designators; first = None } in
      let later = λ (more : Interval). (let one : Gathering = record { hull = more; left = designators; first = None } in one) in
      sound-then world block seen_there (IsHeld scalar.Ordinal) IsSetIn (evaluation env)
      (λ v. effect.◌>>=◌ (meaning.with_one site v set) (λ more. meaning.gathered designators evaluations env more)) piece.walk
      (λ known. walk.◌>>=◌ (walk.gathered now (known_range known)) (members_walk pieces)) all.0.sound
      (λ known v store inside.
      let range = known_range known in
      let n = number-known known v inside.0 inside.1 in
      sound-then world block seen_there (IsGathered designators) IsSetIn (meaning.with_one site v set)
      (λ more. meaning.gathered designators evaluations env more) (walk.gathered now range) (members_walk pieces)
      (sound-named world block seen_there IsSetIn (IsGathered designators) later (λ more set store held. (refl, held)) (meaning.with_one site v set)
      (walk.member_walk site range hull) (member-sound site v set range hull (ltb-true site (sites_in world) below.0) n held))
      (λ gathering more store tie.
      subst (λ (g : Gathering). Sound world block seen_there IsSetIn (meaning.gathered designators evaluations env more) (members_walk pieces g)) (sym tie.0)
      (gathered-sound designators evaluations pieces all.1 (omega (arith, count)) below.1 gathering.hull more tie.1)))
  gathered-sound (Range site ∷ designators) [] pieces all count sites hull set held = absurd (omega (arith, count))
  gathered-sound (Range site ∷ designators) (evaluation ∷ []) pieces all count sites hull set held = absurd (omega (arith, count))
  gathered-sound (Range site ∷ designators) (one ∷ two ∷ evaluations) [] all count sites hull set held = absurd all
  gathered-sound (Range site ∷ designators) (one ∷ two ∷ evaluations) (piece ∷ []) all count sites hull set held = absurd all.1
  gathered-sound (Range site ∷ designators) (one ∷ two ∷ evaluations) (piece ∷ other ∷ pieces) all count sites hull set held =
      let below = and_parts (nat_lt site (sites_in world)) (sites_are designators) sites in
      let now : Gathering = record { hull = hull; left = Range site ∷ designators; first = None } in
      let between = λ (first : Interval). (let own : Gathering = record { hull = hull; left = Range site ∷ designators; first = Some first } in own) in
      let later = λ (more : Interval). (let own : Gathering = record { hull = more; left = designators; first = None } in own) in
      let rest = λ (v w : Value). effect.◌>>=◌ (meaning.with_range site v w set) (λ more. meaning.gathered designators evaluations env more) in
      sound-then world block seen_there (IsHeld scalar.Ordinal) IsSetIn (one env) (λ v. effect.◌>>=◌ (two env) (rest v)) piece.walk
      (λ known. walk.◌>>=◌ (walk.gathered now (known_range known)) (members_walk (other ∷ pieces))) all.0.sound
      (λ known v store inside.
      let first = known_range known in
      let a = number-known known v inside.0 inside.1 in
      sound-then world block seen_there (IsHeld scalar.Ordinal) IsSetIn (two env) (rest v) other.walk
      (λ known. walk.◌>>=◌ (walk.gathered (between first) (known_range known)) (members_walk pieces)) all.1.0.sound
      (λ known w store inside.
      let last = known_range known in
      let b = number-known known w inside.0 inside.1 in
      sound-then world block seen_there (IsGathered designators) IsSetIn (meaning.with_range site v w set)
      (λ more. meaning.gathered designators evaluations env more) (walk.gathered (between first) last) (members_walk pieces)
      (sound-named world block seen_there IsSetIn (IsGathered designators) later (λ more set store held. (refl, held)) (meaning.with_range site v w set)
      (walk.between_walk site first last hull) (between-sound site v w set first last hull (ltb-true site (sites_in world) below.0) a b held))
      (λ gathering more store tie.
      subst (λ (g : Gathering). Sound world block seen_there IsSetIn (meaning.gathered designators evaluations env more) (members_walk pieces g)) (sym tie.0)
      (gathered-sound designators evaluations pieces all.1.1 (omega (arith, count)) below.1 gathering.hull more tie.1))))

module _ (world : World) (block : ℕ) (env : Surroundings) (records : List OpenRecord) (opened : AreOpen world block env.visible records env.records)
    (laws : CallLaws world) (calls : SoundCalls world env.calls) where
  abbrev visible : Environment
  visible = env.visible

  abbrev outline : Outline
  outline = outline_of world.tree

  abbrev well_expr : Expr → Bool
  well_expr = is_well_formed_expr outline block

  abbrev well_passed : Passed → ℕ → ℕ → Bool
  well_passed = is_well_formed_passed outline block

  abbrev well_link : Link → Bool
  well_link = is_well_formed_link outline block

  abbrev held_link : Link → Held → Held
  held_link = fold-Link Held Bool (Held → Held) expression_held passed_held link_held

  abbrev begin_link : Link → Begin
  begin_link = fold-Link Begin Begin Begin expression_begins passed_begins link_begins

  -- ---- expressions

  -- the walk of an expression tells of its value, which is what it is told to be
  abbrev SoundValue : Bool → Held → Begin → Evaluation → Walking Known → Type 0
  SoundValue well held begin evaluation walking =
      well ≡ true → (one : Scalar) → held ≡ Some one → begin records ≡ true → Sound world block visible (IsHeld one) (evaluation env) walking

  -- and behind a value on the left that is something an operator gives something, behind none it gives none
  abbrev SoundLink : Bool → (Held → Held) → Begin → meaning.Combination → walk.Combination → Type 0
  SoundLink well held begin combination walking =
      (held None ≡ None)
      × (well ≡ true → (left one : Scalar) → held (Some left) ≡ Some one → begin records ≡ true → (known : Known) (v : Value) → IsKnown known v
      → scalar_of known ≡ left → Sound world block visible (IsHeld one) (combination env v) (walking known))

  abbrev ValueIsSound : Expr → Type 0
  ValueIsSound e = SoundValue (well_expr e) (held_by e) (begins e) (value_of e) (value_walk e)

  abbrev LinkIsSound : Link → Type 0
  LinkIsSound l = SoundLink (well_link l) (held_link l) (begin_link l) (link_of l) (link_walk l)

  -- that of an actual parameter, for a callee and the place of the formal one
  abbrev SoundPassed : (ℕ → ℕ → Bool) → Bool → Begin → Passing → PassedPiece → Type 0
  SoundPassed well held begin passing piece =
      (callee position : ℕ) → well callee position ≡ true → held ≡ true → begin records ≡ true
      → (formal : DeclaredVariable) × (formal_of outline callee position ≡ Some formal) × PassedIsSound world block env formal passing piece

  abbrev ActualIsSound : Passed → Type 0
  ActualIsSound p = SoundPassed (well_passed p) (is_held_passed p) (passed_begin p) (passing_of p) (passed_piece_of p)

  abbrev ProvedExpr : Type 0
  ProvedExpr = (e : Expr) × ValueIsSound e

  abbrev ProvedPassed : Type 0
  ProvedPassed = (p : Passed) × ActualIsSound p

  abbrev ProvedLink : Type 0
  ProvedLink = (l : Link) × LinkIsSound l

  -- a value that is one thing
  as-held : {evaluation : effect.Action Value} {walking : Walking Known} (own one : Scalar) → own ≡ one
      → Sound world block visible (IsHeld own) evaluation walking → Sound world block visible (IsHeld one) evaluation walking
  as-held {evaluation} {walking} own one same sound = subst (λ (k : Scalar). Sound world block visible (IsHeld k) evaluation walking) same sound

  -- the operators of a chain
  links-none : (links : List ProvedLink) → links_held None (map held_link (map (λ l. l.0) links)) ≡ None
  links-none [] = refl
  links-none (link ∷ links) =
      ap (λ (h : Held). links_held h (map held_link (map (λ (l : ProvedLink). l.0) links))) link.1.0 ∙ links-none links

  turns-sound : (links : List ProvedLink) → all_hold (map well_link (map (λ l. l.0) links)) ≡ true → (left one : Scalar)
      → links_held (Some left) (map held_link (map (λ l. l.0) links)) ≡ Some one → all_begin (map begin_link (map (λ l. l.0) links)) records ≡ true
      → (known : Known) (v : Value) → IsKnown known v → scalar_of known ≡ left
      → Sound world block visible (IsHeld one) (meaning.in_turn (map link_of (map (λ l. l.0) links)) env v)
      (walk.in_turn (map (λ joint. joint.combination) (map joint_of (map (λ l. l.0) links))) known)
  turns-sound [] well left one held begin known v inside is =
      sound-give world block visible (IsHeld one) v known (λ store. (inside, is ∙ same_Some left one held))
  turns-sound (link ∷ links) well left one held begin known v inside is =
      let later = map (λ (l : ProvedLink). l.0) links in
      let parts = and_parts (well_link link.0) (all_hold (map well_link later)) well in
      let there = and_parts (begin_link link.0 records) (all_begin (map begin_link later) records) begin in
      by (held_link link.0 (Some left)) refl parts.0 there.0
      (λ mid own k w at_left same. turns-sound links parts.1 mid one own there.1 k w at_left same)
    where
      more : List Link
      more = map (λ (l : ProvedLink). l.0) links

      by : (mid : Held) → held_link link.0 (Some left) ≡ mid → well_link link.0 ≡ true → begin_link link.0 records ≡ true
          → ((next : Scalar) → links_held (Some next) (map held_link more) ≡ Some one → (k : Known) (w : Value) → IsKnown k w → scalar_of k ≡ next
          → Sound world block visible (IsHeld one) (meaning.in_turn (map link_of more) env w)
          (walk.in_turn (map (λ joint. joint.combination) (map joint_of more)) k))
          → Sound world block visible (IsHeld one) (meaning.in_turn (map link_of (link.0 ∷ more)) env v)
          (walk.in_turn (map (λ joint. joint.combination) (map joint_of (link.0 ∷ more))) known)
      by None mid_is first begin_first later =
          absurd (none-some one (sym (ap (λ (h : Held). links_held h (map held_link more)) mid_is ∙ links-none links) ∙ held))
      by (Some mid) mid_is first begin_first later =
          sound-then world block visible (IsHeld mid) (IsHeld one) (link_of link.0 env v) (meaning.in_turn (map link_of more) env) (link_walk link.0 known)
          (walk.in_turn (map (λ joint. joint.combination) (map joint_of more)))
          (link.1.1 first left mid mid_is begin_first known v inside is)
          (λ k w store tie. later mid (sym (ap (λ (h : Held). links_held h (map held_link more)) mid_is) ∙ held) k w tie.0 tie.1)

  -- a layer of an expression, of which the parts are sound
  abbrev ExprLayer : Expr-F Expr Passed Link → Type 0
  ExprLayer x =
      SoundValue (expr_is_well_formed outline block (map-Expr Expr Passed Link Bool (ℕ → ℕ → Bool) Bool well_expr well_passed well_link x))
      (expression_held (map-Expr Expr Passed Link Held Bool (Held → Held) held_by is_held_passed held_link x))
      (expression_begins (map-Expr Expr Passed Link Begin Begin Begin begins passed_begin begin_link x))
      (meaning.value_step (map-Expr Expr Passed Link Evaluation Passing meaning.Combination value_of passing_of link_of x))
      (piece_step (map-Expr Expr Passed Link Piece PassedPiece Joint piece_of passed_piece_of joint_of x)).walk

  abbrev LinkLayer : Link-F Expr Passed Link → Type 0
  LinkLayer x =
      SoundLink (link_is_well_formed outline block (map-Link Expr Passed Link Bool (ℕ → ℕ → Bool) Bool well_expr well_passed well_link x))
      (link_held (map-Link Expr Passed Link Held Bool (Held → Held) held_by is_held_passed held_link x))
      (link_begins (map-Link Expr Passed Link Begin Begin Begin begins passed_begin begin_link x))
      (meaning.link_step (map-Link Expr Passed Link Evaluation Passing meaning.Combination value_of passing_of link_of x))
      (link_step (map-Link Expr Passed Link Piece PassedPiece Joint piece_of passed_piece_of joint_of x)).combination

  -- the index expressions of an access
  index-sound : (e : Expr) → Sound world block visible (IsHeld scalar.Ordinal) (value_of e env) (value_walk e)
      → IndexIsSound world block env (value_of e) (piece_of e)
  index-sound e sound = record {
    sound = sound;
    leaves = λ quiet s t v is. expression-kept e (sym (form-same e).holds ∙ quiet) env s t v is;
    form = λ version s t v is numbers.
        subst (λ (bound : Option Bound). IsOfForm (moment visible t.store) bound v) (sym (bound-same (ordinal_in world) version e))
        (forms-tell (ordinal_in world) version e env s t v is numbers);
  }

  proved-indexes : (parts : List ProvedExpr) → all_hold (map well_expr (map (λ e. e.0) parts)) ≡ true
      → are_ordinals (map held_by (map (λ e. e.0) parts)) ≡ true → all_begin (map begins (map (λ e. e.0) parts)) records ≡ true
      → AllSound world block env (map value_of (map (λ e. e.0) parts)) (map piece_of (map (λ e. e.0) parts))
  proved-indexes [] well held begin = tt
  proved-indexes (one ∷ parts) well held begin =
      let others = map (λ (e : ProvedExpr). e.0) parts in
      let both = and_parts (well_expr one.0) (all_hold (map well_expr others)) well in
      let ordinals = and_parts (is_held scalar.Ordinal (held_by one.0)) (are_ordinals (map held_by others)) held in
      let there = and_parts (begins one.0 records) (all_begin (map begins others) records) begin in (
        index-sound one.0 (one.1 both.0 scalar.Ordinal (held-is scalar.Ordinal (held_by one.0) ordinals.0) there.0),
        proved-indexes parts both.1 ordinals.1 there.1,
      )

  many-mapped : {A : Type 0} (f : Expr → A) (parts : List ProvedExpr) → length (map f (map (λ e. e.0) parts)) ≡ length (map (λ e. e.0) parts)
  many-mapped f parts = length-map (map (λ (e : ProvedExpr). e.0) parts) f

  variable-sound : (one : Scalar) (access : Access) (expressions : List Expr) (pieces : List Piece) (site : ℕ)
      → AllSound world block env (map value_of expressions) pieces
      → leads_to_held outline block one (origin_of access) access.selectors.items (length (map value_of expressions)) ≡ true
      → is_there records (origin_of access) ≡ true → site < sites_in world
      → Sound world block visible (IsHeld one) (effect.◌>>=◌ (accessed access (map value_of expressions) env) (λ place. fetch place site))
      (walk.variable_walk one access pieces site)
  variable-sound one access expressions pieces site all well there below =
      let evaluations = map value_of expressions in
      let selectors = access.selectors.items in
      let origin = origin_of access in
      let wanted = holds (types_in world) one in
      let n = length evaluations in
      let count = leads-count outline block wanted origin selectors n well in
      let tests = leads-tests outline block wanted origin selectors n well in
      let typed = leads-type outline block wanted origin selectors n well in
      let action = accessed access evaluations env in
      let walking = walk.access_walk access pieces in
      let walk_next = λ (reach : Reach). walk.value_use one origin selectors reach site in
      sound-anywhere world block visible (IsHeld one) (effect.◌>>=◌ action (λ place. fetch place site)) (walk.◌>>=◌ walking walk_next)
      (λ store.
      from-then world block visible store (LeadsTo world block env origin selectors) (IsHeld one) action (λ place. fetch place site) walking walk_next
      (sound-here world block visible store (LeadsTo world block env origin selectors) action walking
      (reached-sound world block env records opened access evaluations pieces all count tests there))
      (λ reach place s t is from leads. used-sound world block env one origin selectors site typed below t.store reach place leads))

  -- the index expressions that count, and the whole value
  whole-sound : (value : Whole) (indexes : List ProvedExpr)
      → all_hold (whole_indexes value (map well_expr (map (λ e. e.0) indexes))) ≡ true
      → is_well_formed_whole outline block value (length (map (λ e. e.0) indexes)) ≡ true
      → are_ordinals (whole_indexes value (map held_by (map (λ e. e.0) indexes))) ≡ true
      → whole_begins value (map begins (map (λ e. e.0) indexes)) records ≡ true
      → Sound world block visible (IsWholeIn world block env value) (meaning.whole_of value (map value_of (map (λ e. e.0) indexes)) env)
      (walk.whole_walk value (map piece_of (map (λ e. e.0) indexes)))
  whole-sound (Text number text) indexes counted well held begin = string-sound world block env number text
  whole-sound (VariableOf access type_id cells defined) indexes counted well held begin =
      let expressions = map (λ (e : ProvedExpr). e.0) indexes in
      let there = begins-there (map begins expressions) records (origin_of access) begin in
      stored-sound world block env records opened access type_id cells defined (map value_of expressions) (map piece_of expressions)
      (proved-indexes indexes counted held there.0)
      (subst (λ (n : ℕ). is_well_formed_whole outline block (VariableOf access type_id cells defined) n ≡ true)
      (sym (many-mapped value_of indexes)) well) there.1

  -- ---- actual parameters

  passed-value : (value : Expr) (fits : RangeTest) (callee position : ℕ) (formal : DeclaredVariable) → ValueIsSound value
      → formal_of outline callee position ≡ Some formal → (well_expr value && passes_value outline block fits callee position) ≡ true
      → is_held fits.tests (held_by value) ≡ true → begins value records ≡ true
      → PassedIsSound world block env formal (meaning.passed_step (PassedValue (value_of value) fits)) (passed_step (PassedValue (piece_of value) fits))
  passed-value value fits callee position formal sound at well held begin =
      let both = and_parts (well_expr value) (passes_value outline block fits callee position) well in
      let tests = and_parts (is_well_formed_test outline block fits) (is_passed_to outline block (takes_value outline fits) callee position) both.1 in
      let site = and_parts (nat_lt fits.site (sites_in world)) (is_whole fits.range.first && is_whole fits.range.last) tests.0 in
      let takes : takes_value outline fits formal ≡ true =
      subst (λ (found : Option DeclaredVariable). of_one (takes_value outline fits) found ≡ true) at tests.1 in
      let kind = and_parts (is_value_kind formal.kind) (tests_type (types_in world) fits formal.type_id) takes in
      let R = IsPassed world visible formal in
      let Q = IsHeld fits.tests in
      let test = λ (v : Value). effect.require (is_in fits.range v) fits.site in
      let next = λ (v : Value). effect.◌>>=◌ (test v) (λ tested. effect.give (meaning.OfValue v)) in
      let given_by = λ (passed : Known) (version : Version) (tree : Tree).
      walk.give (OfValue (known_range passed) (form_by (is_ordinal_variable tree) version (piece_of value))) in
      let walked = λ (known : Known). walk.◌>>=◌ (walk.fitting fits known) (λ passed context. given_by passed context.version context.tree context) in
      record {
        sound = sound-anywhere world block visible R (effect.◌>>=◌ (value_of value env) next) (walk.◌>>=◌ (value_walk value) walked)
            (λ store.
            from-held world block visible store Q R (value_of value env) next (value_walk value) walked
            (sound-here world block visible store Q (value_of value env) (value_walk value)
            (sound both.0 fits.tests (held-is fits.tests (held_by value) held) begin))
            (λ known v s t is from inside numbers.
            from-then world block visible t.store (IsFitting known v) R (test v) (λ tested. effect.give (meaning.OfValue v)) (walk.fitting fits known)
            (λ passed context. given_by passed context.version context.tree context)
            (sound-here world block visible t.store (IsFitting known v) (test v) (walk.fitting fits known)
            (fitting-sound world block visible fits known v (ltb-true fits.site (sites_in world) site.0) inside.0))
            (λ passed done s2 u gives same lies at.
            sound-by_tree world block visible u.store R (effect.give (meaning.OfValue v)) (given_by passed at.version)
            (λ context state s3 now unbroken part here.
            let passes = required-true (is_in fits.range v) fits.site s2 u done gives in
            let stays : s3.store ≡ t.store = now ∙ required-leaves (is_in fits.range v) fits.site s2 u done gives ∙ same in
            let own = form_by (ordinal_in world) at.version (piece_of value) in
            let form : IsOfForm (moment visible s3.store) own v =
            subst (λ (x : Store). IsOfForm (moment visible x) own v) (sym stays)
            (subst (λ (bound : Option Bound). IsOfForm (moment visible t.store) bound v) (sym (bound-same (ordinal_in world) at.version value))
            (forms-tell (ordinal_in world) at.version value env s t v is numbers)) in
            good-give world
            (IsForetold world visible R context (walk.give (OfValue (known_range passed) own) context state) s3.store)
            (meaning.OfValue v) s3 here.fine (record {
              tie = record {
                known = (values-tell.in_range passed v lies.0, form);
                kind = (
                  kind.0,
                  passed-lies (types_in world) formal.type_id v fits kind.1 passes
                      (subst (λ (k : Scalar). IsOf k v) inside.1 (known-of known v inside.0)),
                );
              };
              stands = here.stands;
              kept = keeps-itself visible context.rounds s3.store;
            })) at)));
        leaves = λ quiet s t argument is.
            let first = then-gives (value_of value env s) next argument t is in
            let second = then-gives (test first.1 first.0) (λ tested. effect.give (meaning.OfValue first.1)) argument t first.3 in
            ap (λ (x : effect.State). x.store) (gives-state (meaning.OfValue first.1) argument second.0 t second.3)
            ∙ required-leaves (is_in fits.range first.1) fits.site first.0 second.0 second.1 second.2
            ∙ expression-kept value (sym (form-same value).holds ∙ quiet) env s first.0 first.1 first.2;
      }

  passed-whole : (type_id : TypeId) (value : Whole) (indexes : List ProvedExpr) (callee position : ℕ) (formal : DeclaredVariable)
      → formal_of outline callee position ≡ Some formal
      → (all_hold (whole_indexes value (map well_expr (map (λ e. e.0) indexes)))
      && (is_well_formed_whole outline block value (length (map well_expr (map (λ e. e.0) indexes)))
      && passes_whole outline block type_id (source_of value) (length_of value) callee position)) ≡ true
      → are_ordinals (whole_indexes value (map held_by (map (λ e. e.0) indexes))) ≡ true
      → whole_begins value (map begins (map (λ e. e.0) indexes)) records ≡ true
      → (passing : Passing) → passing ≡ (λ env. effect.◌>>=◌ (meaning.whole_of value (map value_of (map (λ e. e.0) indexes)) env)
      (λ row. effect.give (meaning.OfRow row)))
      → (piece : PassedPiece) → piece.walk ≡ walk.whole_passed value (map piece_of (map (λ e. e.0) indexes))
      → piece.holds_call ≡ walk.hold_call (whole_indexes value (map piece_of (map (λ e. e.0) indexes)))
      → PassedIsSound world block env formal passing piece
  passed-whole type_id value indexes callee position formal at well held begin passing passing_is piece walk_is holds_is =
      let expressions = map (λ (e : ProvedExpr). e.0) indexes in
      let values = map value_of expressions in
      let pieces = map piece_of expressions in
      let counted = all_hold (whole_indexes value (map well_expr expressions)) in
      let formed = is_well_formed_whole outline block value (length (map well_expr expressions)) in
      let source = source_of value in
      let passes = passes_whole outline block type_id source (length_of value) callee position in
      let one = and_parts counted (formed && passes) well in
      let two = and_parts formed passes one.1 in
      let three = and_parts (may_copy outline block type_id source (length_of value)) (is_passed_to outline block (takes_whole type_id) callee position)
      two.1 in
      let takes : takes_whole type_id formal ≡ true =
      subst (λ (found : Option DeclaredVariable). of_one (takes_whole type_id) found ≡ true) at three.1 in
      let kind = and_parts (is_value_kind formal.kind) (is_same type_id formal.type_id) takes in
      let sized_indexes : is_well_formed_whole outline block value (length expressions) ≡ true =
      subst (λ (n : ℕ). is_well_formed_whole outline block value n ≡ true) (many-mapped well_expr indexes) two.0 in
      let R = IsPassed world visible formal in
      let action = meaning.whole_of value values env in
      let next = λ (row : List Value). effect.give (meaning.OfRow row) in
      let walking = walk.whole_walk value pieces in
      let walk_next = λ (ranges : List Interval). walk.give (OfRows ranges) in
      let sound_here : Sound world block visible R (effect.◌>>=◌ action next) (walk.◌>>=◌ walking walk_next) =
      sound-then world block visible (IsWholeIn world block env value) R action next walking walk_next
      (whole-sound value indexes one.0 sized_indexes held begin)
      (λ ranges row store whole. sound-give world block visible R (meaning.OfRow row) (OfRows ranges)
      (λ later.
      let copy = subst (λ (id : TypeId). IsCopyFor (types_in world) id ranges row) (same-type type_id formal.type_id kind.1)
      (copy-for outline block laws.required type_id (length expressions) ranges row value sized_indexes three.0 whole) in
      record { known = (copy.structured, copy.many, copy.lie); kind = (kind.0, copy.components) })) in
      record {
        sound = subst (λ (w : Walking Actual). Sound world block visible R (passing env) w) (sym walk_is)
            (subst (λ (p : Passing). Sound world block visible R (p env) (walk.whole_passed value pieces)) (sym passing_is) sound_here);
        leaves = λ quiet. subst (λ (p : Passing). SoundLeaves (p env)) (sym passing_is)
            (λ s t argument is.
            let first = then-gives (action s) next argument t is in
            ap (λ (x : effect.State). x.store) (gives-state (meaning.OfRow first.1) argument first.0 t first.3)
            ∙ whole-kept value expressions (sym (whole-holds value expressions) ∙ sym holds_is ∙ quiet) env s first.0 first.1 first.2);
      }

  passed-reference : (type_id : TypeId) (access : Access) (indexes : List ProvedExpr) (callee position : ℕ) (formal : DeclaredVariable)
      → formal_of outline callee position ≡ Some formal
      → (all_hold (map well_expr (map (λ e. e.0) indexes))
      && passes_variable outline block type_id (origin_of access) access.selectors.items (length (map well_expr (map (λ e. e.0) indexes))) callee position)
      ≡ true
      → are_ordinals (map held_by (map (λ e. e.0) indexes)) ≡ true → access_begins access (map begins (map (λ e. e.0) indexes)) records ≡ true
      → (passing : Passing) → passing ≡ (λ env. effect.◌>>=◌ (accessed access (map value_of (map (λ e. e.0) indexes)) env)
      (λ place. effect.give (meaning.OfPlace place)))
      → (piece : PassedPiece) → piece.walk ≡ walk.variable_passed access (map piece_of (map (λ e. e.0) indexes))
      → piece.holds_call ≡ walk.hold_call (map piece_of (map (λ e. e.0) indexes))
      → PassedIsSound world block env formal passing piece
  passed-reference type_id access indexes callee position formal at well held begin passing passing_is piece walk_is holds_is =
      let expressions = map (λ (e : ProvedExpr). e.0) indexes in
      let values = map value_of expressions in
      let pieces = map piece_of expressions in
      let selectors = access.selectors.items in
      let origin = origin_of access in
      let n = length (map well_expr expressions) in
      let one = and_parts (all_hold (map well_expr expressions)) (passes_variable outline block type_id origin selectors n callee position) well in
      let two = and_parts (leads_to_type outline block type_id origin selectors n) (is_passed_to outline block (takes_variable type_id) callee position)
      one.1 in
      let takes : takes_variable type_id formal ≡ true = subst (λ (found : Option DeclaredVariable). of_one (takes_variable type_id) found ≡ true) at two.1 in
      let kind = and_parts (is_variable_kind formal.kind) (is_same type_id formal.type_id) takes in
      let wanted = λ (id : TypeId). is_same id type_id in
      let found = type-of wanted (accesses.accessed (declared_in world) (types_in world) origin selectors)
      (leads-type outline block wanted origin selectors n two.0) in
      let typed : accesses.accessed (declared_in world) (types_in world) origin selectors ≡ Some formal.type_id =
      found.1 ∙ ap (λ (id : TypeId). Some id) (same-type found.0 type_id found.2 ∙ same-type type_id formal.type_id kind.1) in
      let tests = leads-tests outline block wanted origin selectors n two.0 in
      let count = many-mapped value_of indexes ∙ sym (many-mapped well_expr indexes) ∙ leads-count outline block wanted origin selectors n two.0 in
      let there = begins-there (map begins expressions) records origin begin in
      let R = IsPassed world visible formal in
      let action = accessed access values env in
      let next = λ (place : Option Place). effect.give (meaning.OfPlace place) in
      let walking = walk.access_walk access pieces in
      let walk_next = λ (reach : Reach). walk.give (OfVariable origin selectors reach) in
      let sound_here : Sound world block visible R (effect.◌>>=◌ action next) (walk.◌>>=◌ walking walk_next) =
      sound-anywhere world block visible R (effect.◌>>=◌ action next) (walk.◌>>=◌ walking walk_next)
      (λ store.
      from-then world block visible store (LeadsTo world block env origin selectors) R action next walking walk_next
      (sound-here world block visible store (LeadsTo world block env origin selectors) action walking
      (reached-sound world block env records opened access values pieces (proved-indexes indexes one.0 held there.0) count tests there.1))
      (λ reach place s t is from leads_to. λ context state s2 now unbroken walked here.
      let shown = here.proper.visible (root_of origin) (leads-seen outline block wanted origin selectors n two.0) in
      let leads_now : LeadsTo world block env origin selectors reach place s2.store =
      subst (λ (x : Store). LeadsTo world block env origin selectors reach place x) (sym now) leads_to in
      let leads = leads_now.leads in
      let at_place = leads.place_is ∙ ap (λ (found : Option Place). part found leads.way) shown.1 in
      good-give world (IsForetold world visible R context (walk.give (OfVariable origin selectors reach) context state) s2.store)
      (meaning.OfPlace place) s2
      here.fine (record {
        tie = record {
          known = (leads, leads_now.typed formal.type_id typed, indexes-integer outline block leads.all leads.way leads_now.tests leads.matches);
          kind = place-kind world formal place (record (shown.0) { steps = shown.0.steps ++ leads.way }) at_place kind.0;
        };
        stands = here.stands;
        kept = keeps-itself visible context.rounds s2.store;
      }))) in
      record {
        sound = subst (λ (w : Walking Actual). Sound world block visible R (passing env) w) (sym walk_is)
            (subst (λ (p : Passing). Sound world block visible R (p env) (walk.variable_passed access pieces)) (sym passing_is) sound_here);
        leaves = λ quiet. subst (λ (p : Passing). SoundLeaves (p env)) (sym passing_is)
            (λ s t argument is.
            let first = then-gives (action s) next argument t is in
            ap (λ (x : effect.State). x.store) (gives-state (meaning.OfPlace first.1) argument first.0 t first.3)
            ∙ access-kept access expressions (sym (pieces-hold expressions) ∙ sym holds_is ∙ quiet) env s first.0 first.1 first.2);
      }

  abbrev plain_passed : Passed-F ProvedExpr ProvedPassed ProvedLink → Passed-F Expr Passed Link
  plain_passed = map-Passed ProvedExpr ProvedPassed ProvedLink Expr Passed Link (λ e. e.0) (λ p. p.0) (λ l. l.0)

  abbrev PassedLayer : Passed-F Expr Passed Link → Type 0
  PassedLayer x =
      SoundPassed (passed_is_well_formed outline block (map-Passed Expr Passed Link Bool (ℕ → ℕ → Bool) Bool well_expr well_passed well_link x))
      (passed_held (map-Passed Expr Passed Link Held Bool (Held → Held) held_by is_held_passed held_link x))
      (passed_begins (map-Passed Expr Passed Link Begin Begin Begin begins passed_begin begin_link x))
      (meaning.passed_step (map-Passed Expr Passed Link Evaluation Passing meaning.Combination value_of passing_of link_of x))
      (passed_step (map-Passed Expr Passed Link Piece PassedPiece Joint piece_of passed_piece_of joint_of x))

  passed-sound_layer : (y : Passed-F ProvedExpr ProvedPassed ProvedLink) → PassedLayer (plain_passed y)
  passed-sound_layer (PassedValue value fits) = λ callee position well held begin.
      let both = and_parts (well_expr value.0) (passes_value outline block fits callee position) well in
      let tests = and_parts (is_well_formed_test outline block fits) (is_passed_to outline block (takes_value outline fits) callee position) both.1 in
      let there = one-there (takes_value outline fits) (formal_of outline callee position) tests.1 in
      (there.0, there.1, passed-value value.0 fits callee position there.0 value.1 there.1 well held begin)
  passed-sound_layer (PassedWhole type_id value indexes) = λ callee position well held begin.
      let expressions = map (λ (e : ProvedExpr). e.0) indexes.items in
      let formed = is_well_formed_whole outline block value (length (map well_expr expressions)) in
      let copied = may_copy outline block type_id (source_of value) (length_of value) in
      let passed = is_passed_to outline block (takes_whole type_id) callee position in
      let one = and_parts (all_hold (whole_indexes value (map well_expr expressions))) (formed && (copied && passed)) well in
      let two = and_parts formed (copied && passed) one.1 in
      let there = one-there (takes_whole type_id) (formal_of outline callee position) (and_parts copied passed two.1).1 in
      (there.0, there.1, passed-whole type_id value indexes.items callee position there.0 there.1 well held begin _ refl _ refl refl)
  passed-sound_layer (Reference type_id access indexes) = λ callee position well held begin.
      let expressions = map (λ (e : ProvedExpr). e.0) indexes.items in
      let n = length (map well_expr expressions) in
      let leads = leads_to_type outline block type_id (origin_of access) access.selectors.items n in
      let passes = is_passed_to outline block (takes_variable type_id) callee position in
      let one = and_parts (all_hold (map well_expr expressions)) (leads && passes) well in
      let there = one-there (takes_variable type_id) (formal_of outline callee position) (and_parts leads passes one.1).1 in
      (there.0, there.1, passed-reference type_id access indexes.items callee position there.0 there.1 well held begin _ refl _ refl refl)

  -- side by side with the formal parameters, from a place on
  placed-sound : (number : ℕ) (heading : Heading) → slice_get outline.headings number ≡ Some heading → (position : ℕ) (roots : List ℕ)
      → ((k : ℕ) → slice_get roots k ≡ slice_get heading.parameters.items (position + k)) → (actuals : List ProvedPassed) → length actuals ≡ length roots
      → all_hold (placed number position (map well_passed (map (λ p. p.0) actuals))) ≡ true
      → all_hold (map is_held_passed (map (λ p. p.0) actuals)) ≡ true → all_begin (map passed_begin (map (λ p. p.0) actuals)) records ≡ true
      → AllPassed world block env roots (map passing_of (map (λ p. p.0) actuals)) (map passed_piece_of (map (λ p. p.0) actuals))
  placed-sound number heading at position [] suffix [] count well held begin = tt
  placed-sound number heading at position [] suffix (actual ∷ actuals) count well held begin = absurd (omega (arith, count))
  placed-sound number heading at position (root ∷ roots) suffix [] count well held begin = absurd (omega (arith, count))
  placed-sound number heading at position (root ∷ roots) suffix (actual ∷ actuals) count well held begin =
      let others = map (λ (p : ProvedPassed). p.0) actuals in
      let both = and_parts (well_passed actual.0 number position) (all_hold (placed number (suc position) (map well_passed others))) well in
      let taken = and_parts (is_held_passed actual.0) (all_hold (map is_held_passed others)) held in
      let there = and_parts (passed_begin actual.0 records) (all_begin (map passed_begin others) records) begin in
      let here : slice_get heading.parameters.items position ≡ Some root =
      ap (slice_get heading.parameters.items) (let e : position ≡ position + 0 = omega arith in e) ∙ sym (suffix 0) in
      let of_root : formal_of outline number position ≡ slice_get (declared_in world) root =
      ap (λ (found : Option Heading). option_and_then (λ (r : ℕ). slice_get (declared_in world) r)
      (option_and_then (λ (h : Heading). slice_get h.parameters.items position) found)) at
      ∙ ap (λ (found : Option ℕ). option_and_then (λ (r : ℕ). slice_get (declared_in world) r) found) here in
      let own = actual.1 number position both.0 taken.0 there.0 in (
        own.0,
        sym of_root ∙ own.1,
        own.2,
        placed-sound number heading at (suc position) roots
            (λ k. suffix (suc k) ∙ ap (slice_get heading.parameters.items) (let e : position + suc k ≡ suc position + k = omega arith in e)) actuals
            (omega (arith, count)) both.1 taken.1 there.1,
      )

  -- a routine that is called
  pub callee-found : (is_function : Bool) (number count : ℕ) → may_call outline block is_function number count ≡ true
      → (callee : Block) × (slice_get world.tree.blocks.items number ≡ Some callee) × (slice_get outline.headings number ≡ Some callee.heading)
      × (of_one (is_round outline block) (declarer callee.heading.around.items) ≡ true) × (is_kind_of is_function callee.heading.result ≡ true)
      × (count ≡ length callee.heading.parameters.items)
  callee-found is_function number count may =
      let there = one-there (is_callable outline block is_function count) (slice_get outline.headings number) may in
      let block_there = mapped-there heading_of (slice_get world.tree.blocks.items number) there.0
      (sym (slice_get-map heading_of world.tree.blocks.items number) ∙ there.1) in
      let callee = block_there.0 in
      let heading : slice_get outline.headings number ≡ Some callee.heading = there.1 ∙ ap (λ (h : Heading). Some h) (sym block_there.2) in
      let callable : is_callable outline block is_function count callee.heading ≡ true =
      subst (λ (h : Heading). is_callable outline block is_function count h ≡ true) (sym block_there.2) there.2 in
      let one = and_parts (of_one (is_round outline block) (declarer callee.heading.around.items))
      (is_kind_of is_function callee.heading.result && nat_eq count (length callee.heading.parameters.items)) callable in
      let two = and_parts (is_kind_of is_function callee.heading.result) (nat_eq count (length callee.heading.parameters.items)) one.1 in
      (callee, block_there.1, heading, one.0, two.0, eqb-true count (length callee.heading.parameters.items) two.1)

  function-result : (result : Option FunctionResult) → is_kind_of true result ≡ true → (own : FunctionResult) × (result ≡ Some own)
  function-result None is = absurd (cc)
  function-result (Some own) is = (own, refl)

  value-layer : (y : Expr-F ProvedExpr ProvedPassed ProvedLink) → ExprLayer
      (map-Expr ProvedExpr ProvedPassed ProvedLink Expr Passed Link (λ e. e.0) (λ p. p.0) (λ l. l.0) y)
  value-layer (Constant number value) well one held begin =
      as-held scalar.Ordinal one (same_Some scalar.Ordinal one held)
      (entered-sound world block visible (IsHeld scalar.Ordinal) number (effect.give (Number value)) (walk.ordinal (record { first = value; last = value }))
      (given-sound world block visible (record { first = value; last = value }) value (constant-in value)))
  value-layer (Variable access indexes own defined) well one held begin =
      let expressions = map (λ (e : ProvedExpr). e.0) indexes.items in
      let leads = leads_to_held outline block own (origin_of access) access.selectors.items in
      let counted = all_hold (map well_expr expressions) in
      let many = length (map well_expr expressions) in
      let parts = and_parts counted (leads many && nat_lt defined (sites_in world)) well in
      let both = and_parts (leads many) (nat_lt defined (sites_in world)) parts.1 in
      let taken = held-where (are_ordinals (map held_by expressions)) own one held in
      let there = begins-there (map begins expressions) records (origin_of access) begin in
      as-held own one taken.1
      (variable-sound own access expressions (map piece_of expressions) defined (proved-indexes indexes.items parts.0 taken.0 there.0)
      (subst (λ (n : ℕ). leads n ≡ true) (many-mapped well_expr indexes.items ∙ sym (many-mapped value_of indexes.items)) both.0) there.1
      (ltb-true defined (sites_in world) both.1))
  value-layer (SetOf number designators members) well one held begin =
      let expressions = map (λ (e : ProvedExpr). e.0) members.items in
      let n = length (map well_expr expressions) in
      let parts = and_parts (all_hold (map well_expr expressions)) (are_designators outline block designators.items n) well in
      let both = and_parts (nat_eq n (members_wanted designators.items)) (sites_are world block env designators.items) parts.1 in
      let taken = held-where (are_ordinals (map held_by expressions)) scalar.Set one held in
      let evaluations = map value_of expressions in
      let pieces = map piece_of expressions in
      let count : length evaluations ≡ members_wanted designators.items =
      many-mapped value_of members.items ∙ sym (many-mapped well_expr members.items) ∙ eqb-true n (members_wanted designators.items) both.0 in
      as-held scalar.Set one taken.1
      (entered-sound world block visible (IsHeld scalar.Set) number
      (effect.◌>>=◌ (meaning.gathered designators.items evaluations env sets.empty) (λ set. effect.give (Members set)))
      (walk.◌>>=◌ (members_walk pieces (none_gathered designators.items)) walk.set)
      (sound-then world block visible IsSetIn (IsHeld scalar.Set) (meaning.gathered designators.items evaluations env sets.empty)
      (λ set. effect.give (Members set)) (members_walk pieces (none_gathered designators.items)) walk.set
      (gathered-sound world block env designators.items evaluations pieces (proved-indexes members.items parts.0 taken.0 begin) count both.1 no_members
      sets.empty values-tell.of_none)
      (λ hull set store inside. sound-give world block visible (IsHeld scalar.Set) (Members set) (Set hull) (λ later. (inside, refl)))))
  value-layer (MonadicOf number operation operand) well one held begin =
      let parts = and_parts (monadic_is_well_formed outline block operation) (well_expr operand.value.0) well in
      let taken = held-where (is_held scalar.Ordinal (held_by operand.value.0)) scalar.Ordinal one held in
      let meant = λ (v : Value). effect.◌>>=◌ (meaning.operated operation (number_of v)) (λ n. effect.give (Number n)) in
      as-held scalar.Ordinal one taken.1
      (entered-sound world block visible (IsHeld scalar.Ordinal) number (effect.◌>>=◌ (value_of operand.value.0 env) meant)
      (walk.◌>>=◌ (value_walk operand.value.0) (walk.operated operation))
      (sound-then world block visible (IsHeld scalar.Ordinal) (IsHeld scalar.Ordinal) (value_of operand.value.0 env) meant (value_walk operand.value.0)
      (walk.operated operation)
      (operand.value.1 parts.1 scalar.Ordinal (held-is scalar.Ordinal (held_by operand.value.0) taken.0) begin)
      (λ known v store inside. operated-sound world block visible operation known v parts.0 inside.0 inside.1)))
  value-layer (Chain first rest) well one held begin =
      let links = map (λ (l : ProvedLink). l.0) rest.items in
      let parts = and_parts (well_expr first.value.0) (all_hold (map well_link links)) well in
      let there = and_parts (begins first.value.0 records) (all_begin (map begin_link links) records) begin in
      by (held_by first.value.0) refl parts.0 parts.1 there.0 there.1
    where
      others : List Link
      others = map (λ (l : ProvedLink). l.0) rest.items

      by : (left : Held) → held_by first.value.0 ≡ left → well_expr first.value.0 ≡ true → all_hold (map well_link others) ≡ true
          → begins first.value.0 records ≡ true → all_begin (map begin_link others) records ≡ true
          → Sound world block visible (IsHeld one) (effect.◌>>=◌ (value_of first.value.0 env) (meaning.in_turn (map link_of others) env))
          (walk.◌>>=◌ (value_walk first.value.0) (walk.in_turn (map (λ joint. joint.combination) (map joint_of others))))
      by None is first_well more first_there more_there =
          absurd (none-some one (sym (ap (λ (h : Held). links_held h (map held_link others)) is ∙ links-none rest.items) ∙ held))
      by (Some left) is first_well more first_there more_there =
          sound-then world block visible (IsHeld left) (IsHeld one) (value_of first.value.0 env) (meaning.in_turn (map link_of others) env)
          (value_walk first.value.0) (walk.in_turn (map (λ joint. joint.combination) (map joint_of others)))
          (first.value.1 first_well left is first_there)
          (λ known v store inside. turns-sound rest.items more left one
          (sym (ap (λ (h : Held). links_held h (map held_link others)) is) ∙ held) more_there known v inside.0 inside.1)
  value-layer (Compare number relation left left_indexes right right_indexes) well one held begin =
      let left_expressions = map (λ (e : ProvedExpr). e.0) left_indexes.items in
      let right_expressions = map (λ (e : ProvedExpr). e.0) right_indexes.items in
      let left_values = map value_of left_expressions in
      let right_values = map value_of right_expressions in
      let left_pieces = map piece_of left_expressions in
      let right_pieces = map piece_of right_expressions in
      let is_well = is_well_formed_whole outline block in
      let left_counted = all_hold (whole_indexes left (map well_expr left_expressions)) in
      let right_counted = all_hold (whole_indexes right (map well_expr right_expressions)) in
      let left_well = is_well left (length (map well_expr left_expressions)) in
      let right_well = is_well right (length (map well_expr right_expressions)) in
      let same = compare outline block (source_of left) (length_of left) (source_of right) (length_of right) in
      let first = and_parts left_counted (left_well && (right_counted && (right_well && same))) well in
      let two = and_parts left_well (right_counted && (right_well && same)) first.1 in
      let three = and_parts right_counted (right_well && same) two.1 in
      let four = and_parts right_well same three.1 in
      let left_held = are_ordinals (whole_indexes left (map held_by left_expressions)) in
      let right_held = are_ordinals (whole_indexes right (map held_by right_expressions)) in
      let taken = held-where (left_held && right_held) scalar.Ordinal one held in
      let ordinals = and_parts left_held right_held taken.0 in
      let there = and_parts (whole_begins left (map begins left_expressions) records) (whole_begins right (map begins right_expressions) records) begin in
      let left_sized : is_well left (length left_expressions) ≡ true =
      subst (λ (n : ℕ). is_well left n ≡ true) (many-mapped well_expr left_indexes.items) two.0 in
      let right_sized : is_well right (length right_expressions) ≡ true =
      subst (λ (n : ℕ). is_well right n ≡ true) (many-mapped well_expr right_indexes.items) four.0 in
      let R = IsHeld scalar.Ordinal in
      let compares = λ (a : List Value).
      effect.◌>>=◌ (meaning.whole_of right right_values env) (λ b. effect.give (Number (meaning.compared relation a b))) in
      let behind = λ (a : List Value). effect.◌>>=◌ (effect.enter number visible) (λ done. compares a) in
      let walked = walk.◌>>=◌ (walk.whole_walk right right_pieces) (λ done. walk.ordinal truth_values) in
      as-held scalar.Ordinal one taken.1
      (sound-then world block visible (IsWholeIn world block env left) R (meaning.whole_of left left_values env) behind
      (walk.whole_walk left left_pieces) (λ done. walk.◌>>=◌ (walk.enter number) (λ done. walked))
      (whole-sound left left_indexes.items first.0 left_sized ordinals.0 there.0)
      (λ b a store tie. entered-sound world block visible R number (compares a) walked
      (sound-then world block visible (IsWholeIn world block env right) R (meaning.whole_of right right_values env)
      (λ b. effect.give (Number (meaning.compared relation a b)))
      (walk.whole_walk right right_pieces) (λ done. walk.ordinal truth_values)
      (whole-sound right right_indexes.items three.0 right_sized ordinals.1 there.1)
      (λ c b store tie. given-sound world block visible truth_values (meaning.compared relation a b)
      (truth_values-has (meaning.relates relation (meaning.order_of (map number_of a) (map number_of b)) (pos 0)))))))
  value-layer (CallOf call actuals) well one held begin =
      let passed = map (λ (p : ProvedPassed). p.0) actuals.items in
      let n = length (map well_passed passed) in
      let both = and_parts (may_call outline block true call.block n) (all_hold (placed call.block 0 (map well_passed passed))) well in
      let found = callee-found true call.block n both.0 in
      let taken = held-where (all_hold (map is_held_passed passed)) scalar.Ordinal one held in
      let count = sym (length-map passed well_passed ∙ length-map actuals.items (λ (p : ProvedPassed). p.0)) ∙ found.5 in
      let all = placed-sound call.block found.0.heading found.2 0 found.0.heading.parameters.items
      (λ k. ap (slice_get found.0.heading.parameters.items) (let e : k ≡ 0 + k = omega arith in e)) actuals.items count both.1 taken.0 begin in
      let result = function-result found.0.heading.result found.4 in
      as-held scalar.Ordinal one taken.1
      (function-sound world block env laws calls call found.0 found.1 found.3 (map passing_of passed) (map passed_piece_of passed) all result.0 result.1)
  value-layer (Input number asks) well one held begin =
      as-held scalar.Ordinal one (same_Some scalar.Ordinal one held)
      (entered-sound world block visible (IsHeld scalar.Ordinal) number
      (effect.◌>>=◌ (meaning.asked asks) (λ b. effect.give (Number (truth b)))) (walk.ordinal truth_values) (asked-sound world block visible asks))

  link-layer : (y : Link-F ProvedExpr ProvedPassed ProvedLink) → LinkLayer
      (map-Link ProvedExpr ProvedPassed ProvedLink Expr Passed Link (λ e. e.0) (λ p. p.0) (λ l. l.0) y)
  link-layer y = (
    refl,
    λ well left one held begin known v inside is.
        let right = y.operand.0 in
        let operation = y.operation in
        let meant = meaning.operated_both operation v in
        let walked = walk.combined operation known in
        let parts = and_parts (dyadic_is_well_formed outline block operation) (well_expr right) well in
        let taken = held-where (is_held (taken_left operation) (Some left) && is_held (taken_right operation) (held_by right)) (given operation) one held in
        let operands = and_parts (is_held (taken_left operation) (Some left)) (is_held (taken_right operation) (held_by right)) taken.0 in
        let left_is : left ≡ taken_left operation = same_Some left (taken_left operation) (held-is (taken_left operation) (Some left) operands.0) in
        as-held (given operation) one taken.1
        (entered-sound world block visible (IsHeld (given operation)) y.number (effect.◌>>=◌ (value_of right env) meant) (walk.◌>>=◌ (value_walk right) walked)
        (sound-then world block visible (IsHeld (taken_right operation)) (IsHeld (given operation)) (value_of right env) meant (value_walk right) walked
        (y.operand.1 parts.1 (taken_right operation) (held-is (taken_right operation) (held_by right) operands.1) begin)
        (λ k w store own. combined-sound world block visible known k v w inside own.0 operation parts.0 (is ∙ left_is) own.1))),
  )

  -- by what the five folds are at a form
  along-value : {a b : Bool} {h i : Held} {n m : Begin} {evaluation evaluated : Evaluation} {walking walked : Walking Known} → a ≡ b → h ≡ i → n ≡ m
      → evaluation ≡ evaluated → walking ≡ walked → SoundValue b i m evaluated walked → SoundValue a h n evaluation walking
  along-value {a} {b} {h} {i} {n} {m} {evaluation} {evaluated} {walking} {walked} well_is held_is begin_is one two sound =
      subst (λ (w : Bool). SoundValue w h n evaluation walking) (sym well_is)
      (subst (λ (own : Held). SoundValue b own n evaluation walking) (sym held_is)
      (subst (λ (own : Begin). SoundValue b i own evaluation walking) (sym begin_is)
      (subst (λ (e : Evaluation). SoundValue b i m e walking) (sym one) (subst (λ (w : Walking Known). SoundValue b i m evaluated w) (sym two) sound))))

  along-link : {a b : Bool} {h i : Held → Held} {n m : Begin} {combination combined : meaning.Combination} {walking walked : walk.Combination} → a ≡ b
      → h ≡ i → n ≡ m → combination ≡ combined → walking ≡ walked → SoundLink b i m combined walked → SoundLink a h n combination walking
  along-link {a} {b} {h} {i} {n} {m} {combination} {combined} {walking} {walked} well_is held_is begin_is one two sound =
      subst (λ (w : Bool). SoundLink w h n combination walking) (sym well_is)
      (subst (λ (own : Held → Held). SoundLink b own n combination walking) (sym held_is)
      (subst (λ (own : Begin). SoundLink b i own combination walking) (sym begin_is)
      (subst (λ (c : meaning.Combination). SoundLink b i m c walking) (sym one)
      (subst (λ (w : walk.Combination). SoundLink b i m combined w) (sym two) sound))))

  rolled-expr : (x : Expr-F Expr Passed Link) → ExprLayer x → ValueIsSound (roll-Expr x)
  rolled-expr x =
      along-value
      (fold-roll-Expr Bool (ℕ → ℕ → Bool) Bool (expr_is_well_formed outline block) (passed_is_well_formed outline block)
      (link_is_well_formed outline block) x)
      (fold-roll-Expr Held Bool (Held → Held) expression_held passed_held link_held x)
      (fold-roll-Expr Begin Begin Begin expression_begins passed_begins link_begins x)
      (fold-roll-Expr Evaluation Passing meaning.Combination meaning.value_step meaning.passed_step meaning.link_step x)
      (ap (λ (piece : Piece). piece.walk) (fold-roll-Expr Piece PassedPiece Joint piece_step passed_step link_step x))

  rolled-link : (x : Link-F Expr Passed Link) → LinkLayer x → LinkIsSound (roll-Link x)
  rolled-link x =
      along-link
      (fold-roll-Link Bool (ℕ → ℕ → Bool) Bool (expr_is_well_formed outline block) (passed_is_well_formed outline block)
      (link_is_well_formed outline block) x)
      (fold-roll-Link Held Bool (Held → Held) expression_held passed_held link_held x)
      (fold-roll-Link Begin Begin Begin expression_begins passed_begins link_begins x)
      (fold-roll-Link Evaluation Passing meaning.Combination meaning.value_step meaning.passed_step meaning.link_step x)
      (ap (λ (joint : Joint). joint.combination) (fold-roll-Link Piece PassedPiece Joint piece_step passed_step link_step x))

  abbrev plain_expr : Expr-F ProvedExpr ProvedPassed ProvedLink → Expr-F Expr Passed Link
  plain_expr = map-Expr ProvedExpr ProvedPassed ProvedLink Expr Passed Link (λ e. e.0) (λ p. p.0) (λ l. l.0)

  abbrev plain_link : Link-F ProvedExpr ProvedPassed ProvedLink → Link-F Expr Passed Link
  plain_link = map-Link ProvedExpr ProvedPassed ProvedLink Expr Passed Link (λ e. e.0) (λ p. p.0) (λ l. l.0)

  along-passed : {a b : ℕ → ℕ → Bool} {h i : Bool} {n m : Begin} {passing passed : Passing} {piece walked : PassedPiece} → a ≡ b → h ≡ i → n ≡ m
      → passing ≡ passed → piece ≡ walked → SoundPassed b i m passed walked → SoundPassed a h n passing piece
  along-passed {a} {b} {h} {i} {n} {m} {passing} {passed} {piece} {walked} well_is held_is begin_is one two sound =
      subst (λ (w : ℕ → ℕ → Bool). SoundPassed w h n passing piece) (sym well_is)
      (subst (λ (own : Bool). SoundPassed b own n passing piece) (sym held_is)
      (subst (λ (own : Begin). SoundPassed b i own passing piece) (sym begin_is)
      (subst (λ (p : Passing). SoundPassed b i m p piece) (sym one) (subst (λ (w : PassedPiece). SoundPassed b i m passed w) (sym two) sound))))

  rolled-passed : (x : Passed-F Expr Passed Link) → PassedLayer x → ActualIsSound (roll-Passed x)
  rolled-passed x =
      along-passed
      (fold-roll-Passed Bool (ℕ → ℕ → Bool) Bool (expr_is_well_formed outline block) (passed_is_well_formed outline block)
      (link_is_well_formed outline block) x)
      (fold-roll-Passed Held Bool (Held → Held) expression_held passed_held link_held x)
      (fold-roll-Passed Begin Begin Begin expression_begins passed_begins link_begins x)
      (fold-roll-Passed Evaluation Passing meaning.Combination meaning.value_step meaning.passed_step meaning.link_step x)
      (fold-roll-Passed Piece PassedPiece Joint piece_step passed_step link_step x)

  each-sound : (e : Expr) → ValueIsSound e
  each-sound =
      ind-Expr ValueIsSound ActualIsSound LinkIsSound
      (λ x y is. subst (λ (z : Expr-F Expr Passed Link). ValueIsSound (roll-Expr z)) is (rolled-expr (plain_expr y) (value-layer y)))
      (λ x y is. subst (λ (z : Passed-F Expr Passed Link). ActualIsSound (roll-Passed z)) is (rolled-passed (plain_passed y) (passed-sound_layer y)))
      (λ x y is. subst (λ (z : Link-F Expr Passed Link). LinkIsSound (roll-Link z)) is (rolled-link (plain_link y) (link-layer y)))

  -- an expression that is an ordinal, or a set
  pub value-sound : (e : Expr) (one : Scalar) → well_expr e ≡ true → is_held one (held_by e) ≡ true → begins e records ≡ true
      → Sound world block visible (IsHeld one) (value_of e env) (value_walk e)
  value-sound e one well held begin = each-sound e well one (held-is one (held_by e) held) begin

  -- an operator, behind a value on the left
  pub link-sound : (l : Link) → LinkIsSound l
  link-sound =
      ind-Link ValueIsSound ActualIsSound LinkIsSound
      (λ x y is. subst (λ (z : Expr-F Expr Passed Link). ValueIsSound (roll-Expr z)) is (rolled-expr (plain_expr y) (value-layer y)))
      (λ x y is. subst (λ (z : Passed-F Expr Passed Link). ActualIsSound (roll-Passed z)) is (rolled-passed (plain_passed y) (passed-sound_layer y)))
      (λ x y is. subst (λ (z : Link-F Expr Passed Link). LinkIsSound (roll-Link z)) is (rolled-link (plain_link y) (link-layer y)))

  actual-sound : (p : Passed) → ActualIsSound p
  actual-sound =
      ind-Passed ValueIsSound ActualIsSound LinkIsSound
      (λ x y is. subst (λ (z : Expr-F Expr Passed Link). ValueIsSound (roll-Expr z)) is (rolled-expr (plain_expr y) (value-layer y)))
      (λ x y is. subst (λ (z : Passed-F Expr Passed Link). ActualIsSound (roll-Passed z)) is (rolled-passed (plain_passed y) (passed-sound_layer y)))
      (λ x y is. subst (λ (z : Link-F Expr Passed Link). LinkIsSound (roll-Link z)) is (rolled-link (plain_link y) (link-layer y)))

  abbrev with_proof : Passed → ProvedPassed
  with_proof p = (p, actual-sound p)

  plain-back : (actuals : List Passed) → map (λ p. p.0) (map with_proof actuals) ≡ actuals
  plain-back [] = refl
  plain-back (p ∷ actuals) = ap (λ (more : List Passed). p ∷ more) (plain-back actuals)

  procedure-proved : (call : Call) (actuals : List ProvedPassed)
      → is_well_formed_call outline block false call (map well_passed (map (λ p. p.0) actuals)) ≡ true
      → all_hold (map is_held_passed (map (λ p. p.0) actuals)) ≡ true → all_begin (map passed_begin (map (λ p. p.0) actuals)) records ≡ true
      → SoundAction world block visible (effect.◌>>=◌ (meaning.call_of call (map passing_of (map (λ p. p.0) actuals)) env) (λ v. effect.give tt))
      (walk.call_walk call (map passed_piece_of (map (λ p. p.0) actuals)))
  procedure-proved call actuals well held begin =
      let passed = map (λ (p : ProvedPassed). p.0) actuals in
      let n = length (map well_passed passed) in
      let both = and_parts (may_call outline block false call.block n) (all_hold (placed call.block 0 (map well_passed passed))) well in
      let found = callee-found false call.block n both.0 in
      let count = sym (length-map passed well_passed ∙ length-map actuals (λ (p : ProvedPassed). p.0)) ∙ found.5 in
      let all = placed-sound call.block found.0.heading found.2 0 found.0.heading.parameters.items
      (λ k. ap (slice_get found.0.heading.parameters.items) (let e : k ≡ 0 + k = omega arith in e)) actuals count both.1 held begin in
      let action = meaning.call_of call (map passing_of passed) env in
      let walking = walk.call_walk call (map passed_piece_of passed) in
      sound-given {C = Unit {0}} world block visible (λ (done : Unit {0}) (v : Value) (store : Store). LiesInResult world call.block found.0.heading.result v)
      Any_value (λ v. tt) (λ done v store tie. tt) action walking
      (call-sound world block env laws calls call found.0 found.1 found.3 (map passing_of passed) (map passed_piece_of passed) all)

  -- a call of a procedure
  pub procedure-sound : (call : Call) (actuals : List Passed) → is_well_formed_call outline block false call (map well_passed actuals) ≡ true
      → all_hold (map is_held_passed actuals) ≡ true → all_begin (map passed_begin actuals) records ≡ true
      → SoundAction world block visible (effect.◌>>=◌ (meaning.call_of call (map passing_of actuals) env) (λ v. effect.give tt))
      (walk.call_walk call (map passed_piece_of actuals))
  procedure-sound call actuals =
      subst (λ (list : List Passed). is_well_formed_call outline block false call (map well_passed list) ≡ true
      → all_hold (map is_held_passed list) ≡ true → all_begin (map passed_begin list) records ≡ true
      → SoundAction world block visible (effect.◌>>=◌ (meaning.call_of call (map passing_of list) env) (λ v. effect.give tt))
      (walk.call_walk call (map passed_piece_of list)))
      (plain-back actuals) (procedure-proved call (map with_proof actuals))

  -- ---- accesses and whole values

  all-indexes : (indexes : List Expr) → are_well_formed outline block indexes ≡ true → are_ordinal_indexes indexes ≡ true
      → all_begin (map begins indexes) records ≡ true
      → AllSound world block env (values_of indexes) (walk.index_pieces indexes)
  all-indexes [] well held begin = tt
  all-indexes (index ∷ indexes) well held begin =
      let both = and_parts (well_expr index) (are_well_formed outline block indexes) well in
      let ordinals = and_parts (is_held scalar.Ordinal (held_by index)) (are_ordinal_indexes indexes) held in
      let there = and_parts (begins index records) (all_begin (map begins indexes) records) begin in
      (index-sound index (value-sound index scalar.Ordinal both.0 ordinals.0 there.0), all-indexes indexes both.1 ordinals.1 there.1)

  -- an access, which leads to what is wanted: what is reached there
  pub access-sound : (access : Access) (indexes : List Expr) (wanted : TypeId → Bool)
      → are_well_formed outline block indexes ≡ true
      → leads_to outline block wanted (origin_of access) access.selectors.items (length indexes) ≡ true
      → are_ordinal_indexes indexes ≡ true → accesses_begin access indexes records ≡ true
      → Sound world block visible (LeadsTo world block env (origin_of access) access.selectors.items) (accessed access (values_of indexes) env)
      (walk.access_walk access (walk.index_pieces indexes))
  access-sound access indexes wanted well leads held begin =
      let selectors = access.selectors.items in
      let origin = origin_of access in
      let there = begins-there (map begins indexes) records origin begin in
      reached-sound world block env records opened access (values_of indexes) (walk.index_pieces indexes) (all-indexes indexes well held there.0)
      (length-map indexes value_of ∙ leads-count outline block wanted origin selectors (length indexes) leads)
      (leads-tests outline block wanted origin selectors (length indexes) leads) there.1

  -- the values of a whole value lie in the ranges that the walk tells
  pub whole_value-sound : (value : Whole) (indexes : List Expr) → is_well_formed_value outline block value indexes ≡ true
      → is_held_value value indexes ≡ true → value_begins value indexes records ≡ true
      → Sound world block visible (IsWholeIn world block env value) (meaning.whole_of value (values_of indexes) env)
      (walk.whole_walk value (walk.index_pieces indexes))
  whole_value-sound (Text number text) indexes well held begin = string-sound world block env number text
  whole_value-sound (VariableOf access type_id cells defined) indexes well held begin =
      let is_well = is_well_formed_whole outline block (VariableOf access type_id cells defined) in
      let both = and_parts (are_well_formed outline block indexes) (is_well (length indexes)) well in
      let there = begins-there (map begins indexes) records (origin_of access) begin in
      stored-sound world block env records opened access type_id cells defined (values_of indexes) (walk.index_pieces indexes)
      (all-indexes indexes both.0 held there.0)
      (subst (λ (n : ℕ). is_well n ≡ true) (sym (length-map indexes value_of)) both.1) there.1

  -- ---- values that are written

  -- a width that has to be at least 1
  width-tested : (site : ℕ) (known : Known) (w : Value) → nat_lt site (sites_in world) ≡ true → IsKnown known w → scalar_of known ≡ scalar.Ordinal
      → Sound {B = Unit {0}} world block visible Any_value
      (effect.◌>>=◌ (effect.require (is_positive (number_of w)) site) (λ tested. effect.give (number_of w)))
      (walk.width_test site known)
  width-tested site known w below inside is =
      let n = number_of w in
      let range = known_range known in
      sound-then {D = Unit {0}} world block visible (Passes (is_positive n) n) Any_value (effect.require (is_positive n) site)
      (λ tested. effect.give n) (walk.positive site range) (λ passed. walk.give tt)
      (positive-sound world block visible site range n (ltb-true site (sites_in world) below) (number-known known w inside is))
      (λ passed tested store passes. sound-give {B = Unit {0}} world block visible Any_value n tt (λ later. tt))

  width-sound : (width : Option Width) (default : ℤ) → is_well_formed_width outline block width ≡ true → is_held_width width ≡ true
      → width_begins width records ≡ true
      → Sound {B = Unit {0}} world block visible Any_value (width_of width default env) (width_walk width)
  width-sound None default well held begin = sound-give {B = Unit {0}} world block visible Any_value default tt (λ later. tt)
  width-sound (Some width) default well held begin =
      let parts = and_parts (nat_lt width.site (sites_in world)) (well_expr width.value) well in
      let tests = λ (w : Value).
      effect.◌>>=◌ (effect.require (is_positive (number_of w)) width.site) (λ tested. effect.give (number_of w)) in
      sound-then {D = Unit {0}} world block visible (IsHeld scalar.Ordinal) Any_value (value_of width.value env) tests (value_walk width.value)
      (walk.width_test width.site) (value-sound width.value scalar.Ordinal parts.1 held begin)
      (λ known w store inside. width-tested width.site known w parts.0 inside.0 inside.1)

  -- a value that is written, and its width
  written-sound : (value : Written) (width : Option Width) → is_well_formed_written outline block value ≡ true
      → is_well_formed_width outline block width ≡ true → is_held_written value ≡ true → is_held_width width ≡ true
      → written_begins value records ≡ true → width_begins width records ≡ true
      → SoundAction world block visible (written_of value width env) (walk.◌>>=◌ (walk.written_walk value) (λ done. width_walk width))
  written-sound (written.Ordinal value representation) width well wide held wide_held begin wide_begin =
      let default = meaning.default_width representation in
      sound-then world block visible Any_value Any_value (value_of value env)
      (λ v. effect.◌>>=◌ (width_of width default env) (λ w. effect.write (text_of representation (number_of v) w)))
      (walk.written_walk (written.Ordinal value representation)) (λ done. width_walk width)
      (sound-named world block visible (IsHeld scalar.Ordinal) Any_value (λ known. tt) (λ known v store inside. tt) (value_of value env) (value_walk value)
      (value-sound value scalar.Ordinal well held begin))
      (λ done v store tie. sound-written world block visible Any_value (text_of representation (number_of v)) (width_of width default env) (width_walk width)
      (width-sound width default wide wide_held wide_begin))
  written-sound (written.String value indexes) width well wide held wide_held begin wide_begin =
      let default = pos (length_of value) in
      let expressions = indexes.items in
      sound-then world block visible Any_value Any_value (meaning.whole_of value (values_of expressions) env)
      (λ row. effect.◌>>=◌ (width_of width default env) (λ w. effect.write (row_text row w)))
      (walk.written_walk (written.String value indexes)) (λ done. width_walk width)
      (sound-named world block visible (IsWholeIn world block env value) Any_value (λ ranges. tt) (λ ranges row store tie. tt)
      (meaning.whole_of value (values_of expressions) env) (walk.whole_walk value (walk.index_pieces expressions))
      (whole_value-sound value expressions (and_parts _ (is_text outline.types (source_of value)) well).0 held begin))
      (λ done row store tie. sound-written world block visible Any_value (row_text row) (width_of width default env) (width_walk width)
      (width-sound width default wide wide_held wide_begin))

  pub parameter-sound : (parameter : WriteParameter) → is_well_formed_parameter outline block parameter ≡ true → is_held_parameter parameter ≡ true
      → parameter_begins parameter records ≡ true
      → SoundAction world block visible (parameter_of parameter env) (parameter_walk parameter)
  parameter-sound parameter well held begin =
      let parts = and_parts (is_well_formed_written outline block parameter.value)
      (is_well_formed_width outline block parameter.width) well in
      let taken = and_parts (is_held_written parameter.value) (is_held_width parameter.width) held in
      let there = and_parts (written_begins parameter.value records) (width_begins parameter.width records) begin in
      written-sound parameter.value parameter.width parts.0 parts.1 taken.0 taken.1 there.0 there.1
