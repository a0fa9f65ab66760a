-- What a run leaves that stores a value, or the values of components one after another; and that the walk over such stores foretells it.
use Rattle.std.proofs.Common.{arith, ◌≡◌, ⊎_elim, ◌∙◌, sym, ap, ap₂, subst, ℕ, ◌≤◌, true, ◌||◌, length, List, [], ◌∷◌}
use Rattle.std.proofs.Common.{◌++◌, Option, Some}
use Rattle.std.specs.List.{Contains}
use Rattle.std.specs.Prelude.{map, slice_get}
use Rattle.std.proofs.lemmas.Bool.{and_parts}
use Rattle.types.specs.Components.{components_of}
use Rattle.types.specs.declared.form.Step.{Step}
use Rattle.types.specs.declared.form.TypeId.{TypeId}
use Rattle.place.specs.declared.Place.{Place}
use Rattle.typed_tree.specs.declared.tree.Selector.{Selector}
use Rattle.typed_tree.specs.declared.tree.Tree.{Tree}
use Rattle.typed_tree.specs.Accesses.{AtVariable, accessed}
use Rattle.typed_tree.specs.WellFormed.{of_one}
use Rattle.checker_state.specs.Bounds.{Bound}
use Rattle.domain.specs.Interval.{Interval}
use Rattle.meaning.specs.declared.value.Value.{Value}
use Rattle.meaning.specs.Store.{Environment, Place as StorePlace, Store, part, written}
use Rattle.meaning.specs.Effect as effect
use Rattle.checker_state.specs.Holds.{IsIn, moment}
use Rattle.checker_state.specs.Knows.{IsKept, IsOfForm, IsStep, Knows}
use Rattle.checker_state.proofs.Apart.{part as part_at}
use Rattle.checker_rows.specs.Rows.{is_structured_variable, rows_accessed, rows_of, type_at}
use Rattle.checker_state.specs.Changes.{assigned}
use Rattle.checker_state.specs.Stores.{Reach, all_stored}
use Rattle.checker_state.specs.State.{State}
use Rattle.checker_loops.specs.Loops.{Round, all_list}
use Rattle.checker_loops.specs.Pairs.{aliases_of, Listed, aliases_in}
use Rattle.checker_loops.specs.Aliases.{reach_unless_alias, unless_alias, with_aliases_stored}
use Rattle.checker_loops.specs.Starts.{is_own}
use Rattle.checker_loops.proofs.AliasedStores.{AreWritten, Pairs, at-head, head-or_tail, in-tail, none-written, one-kept, one-written, written-then}
use Rattle.checker_calls.specs.Environments.{Fine, Proper}
use Rattle.checker_calls.proofs.AliasedTypes.{AreTyped, IsClosedIn, listed-keeps, written-begun, written-typed}
use Rattle.checker_calls.proofs.SeenAliases.{apart-seen}
use Rattle.checker_expressions.specs.declared.fault.Rule.TheVariants.{Changes}
use Rattle.checker_expressions.specs.Walk.{Context, Walked, followed}
use Rattle.checker_expressions.specs.Walk as flow
use Rattle.checker_expressions.proofs.Sound.{Any_value, Good, Here, IsForetold, World, good-give, good-then, good-weaker, kept-rule, nothing-new, parts_in}
use Rattle.checker_expressions.proofs.Sound.{declared_in, listed_in, types_in, unbroken-left, variables_in}
use Rattle.cert_checker.proofs.Rounds.{kept-wider}
use Rattle.checker_expressions.proofs.SoundAccesses.{part-then}
use Rattle.checker_calls.proofs.Passed.{AreComponentsOf, IsReachedBy}
use Rattle.checker_rows.proofs.Selected.{Matches}
use Rattle.checker_rows.proofs.Accessed.{RowsAre}
use Rattle.cert_checker.specs.Walk as walk
use Rattle.cert_checker.specs.Walk.{Stores}
use Rattle.cert_checker.proofs.Changes.{LiesInVariable, assigned-knows, whole, whole-typed, whole-written}
use Rattle.cert_checker.proofs.SoundStores.{AreTargets, made-knows, reached-unless}
use Rattle.cert_checker.proofs.Targets.{behind-variables, is-reach, zipped, zipped-reached, zipped-typed}

-- what a walk over a statement foretells
abbrev pub Foretold : World → Environment → Context → Walked (Unit {0}) → Store → Unit {0} → Store → Type 0
Foretold world env context walked start = IsForetold {A = Unit {0}} {B = Unit {0}} world env Any_value context walked start

module _ (world : World) (block : ℕ) (env : Environment) where
  abbrev aliases : ℕ → List ℕ
  aliases root = aliases_in (listed_in world) block root

  -- what is kept but for those, is kept but for all that are listed
  wider : (root : ℕ) (before after : Store) → IsKept env (root ∷ aliases root) [] before after
      → IsKept env (root ∷ aliases_of world.pairs root) [] before after
  wider root before after kept = kept-wider world block env root before after kept

  closed-here : (context : Context) (state : State) (s : effect.State) → Here world block env context state s → (round : Round)
      → Contains context.rounds round → IsClosedIn world.tree world.pairs block round
  closed-here context state s here round inside =
      subst (λ (b : ℕ). IsClosedIn world.tree world.pairs b round) here.block_is (here.stands.goes.closed round inside)

  -- ---- the store of a value

  module _ (root : ℕ) (home : StorePlace) (at : env.variables root ≡ Some home) where
    assign-known : (v : Value) (range : Interval) (form : Option Bound) (step : Option Interval) (context : Context) (state : State) (s : effect.State)
        (after : Store)
        → Here world block env context state s → AreWritten env (aliases root) root (whole v) s.store after
        → AreTyped world.tree env root (whole v) → IsIn range v → IsOfForm (moment env s.store) form v → IsStep (moment env s.store) root step v
        → Knows (parts_in world) (variables_in world) env (walk.assign root form step range context state).after after
    assign-known v range form step context state s after here are typed inside of_form is_step =
        let goes = here.stands.goes in
        let behind = λ (tree : Tree) (listed : Listed) (b : ℕ).
        assigned root range (unless_alias (aliases_in listed b root) form) step
        (with_aliases_stored tree (aliases_in listed b root) (record { type_id = type_at (rows_of tree) root; range = range } ∷ []) state) in
        let K = λ (after_state : State). Knows (parts_in world) (variables_in world) env after_state after in
        subst (λ (tree : Tree). K (behind tree context.pairs context.block)) (sym goes.tree_is)
        (subst (λ (listed : Listed). K (behind world.tree listed context.block)) (sym goes.pairs_are)
        (subst (λ (b : ℕ). K (behind world.tree (listed_in world) b)) (sym here.block_is)
        (assigned-knows world.tree world.pairs block s.activations env here.proper root home at v s.store after are typed range form step state inside of_form
        is_step here.stands.known)))

    -- a value is assigned to a variable that each loop round it lists
    pub listed-good : (v : Value) (range : Interval) (form : Option Bound) (step : Option Interval) (context : Context) (state : State) (s : effect.State)
        → Here world block env context state s → LiesInVariable world.tree root v → IsIn range v → IsOfForm (moment env s.store) form v
        → IsStep (moment env s.store) root step v → all_list root context.rounds ≡ true
        → Good world (Foretold world env context (walk.assign root form step range context state) s.store) s (effect.store (env.variables root) v s)
    listed-good v range form step context state s here lies inside of_form is_step listed =
        let before = s.store in
        let after = written before home v in
        let apart = apart-seen world.tree world.pairs block s.activations env here.proper root home at in
        let are = whole-written env (aliases root) root home at apart before v in
        let typed = whole-typed world.tree world.pairs block s.activations env here.proper root home at v lies in
        let P = Foretold world env context (walk.assign root form step range context state) before in
        subst (λ (place : Option StorePlace). Good world P s (effect.store place v s)) (sym at)
        (record {
          errs = tt;
          new = nothing-new world s.visited;
          gives = record {
            so = record {
              tie = tt;
              stands = record { goes = here.stands.goes; known = assign-known v range form step context state s after here are typed inside of_form is_step };
              kept =
                  listed-keeps world.tree world.pairs block s.activations env here.proper root home at context.rounds (closed-here context state s here)
                  before after (wider root before after (one-kept env (aliases root) root (whole v) before after are)) listed;
            };
            fine = record {
              typed = written-typed world.tree env (aliases root) root (whole v) before after are typed here.fine.typed;
              begun = written-begun world.tree env (aliases root) root (whole v) before after are s.activations home at (here.proper.begun root home at)
                  here.fine.begun;
            };
            grown = omega arith;
          };
        })

  -- ---- stores of components, one after another

  module _ (root : ℕ) (home : StorePlace) (at : env.variables root ≡ Some home) (activations : ℕ)
      (proper : Proper world.tree world.pairs block activations env) where
    -- what a run leaves
    abbrev Leaves : Pairs → Store → Unit {0} → Store → Type 0
    Leaves pairs before done after = AreWritten env (aliases root) root pairs before after

    one-left : (way rest : List Step) (place : Option StorePlace) → place ≡ part (env.variables root) way → (v : Value) (t : effect.State)
        → AreTyped world.tree env root ((way ++ rest, v) ∷ []) → activations ≤ t.activations → Fine world.tree t
        → Good world (Leaves ((way ++ rest, v) ∷ []) t.store) t (effect.store (part place rest) v t)
    one-left way rest place place_is v t typed grown fine =
        let pairs : Pairs = (way ++ rest, v) ∷ [] in
        let there : part place rest ≡ Some (part_at home (way ++ rest)) =
        ap (λ (p : Option StorePlace). part p rest) place_is ∙ part-then (env.variables root) way rest
        ∙ ap (λ (p : Option StorePlace). part p (way ++ rest)) at in
        let apart = apart-seen world.tree world.pairs block activations env proper root home at in
        let are = one-written env (aliases root) root home at apart t.store (way ++ rest) v in
        let after = written t.store (part_at home (way ++ rest)) v in
        let young = proper.begun root home at in
        subst (λ (p : Option StorePlace). Good world (Leaves pairs t.store) t (effect.store p v t)) (sym there)
        (record {
          errs = tt;
          new = nothing-new world t.visited;
          gives = record {
            so = are;
            fine = record {
              typed = written-typed world.tree env (aliases root) root pairs t.store after are typed fine.typed;
              begun = written-begun world.tree env (aliases root) root pairs t.store after are t.activations home at (omega (arith, young, grown)) fine.begun;
            };
            grown = omega arith;
          };
        })

    first-typed : (pair : List Step × Value) (pairs : Pairs) → AreTyped world.tree env root (pair ∷ pairs) → AreTyped world.tree env root (pair ∷ [])
    first-typed pair pairs typed one place inside place_is =
        ⊎_elim (λ same. typed one place (subst (Contains (pair ∷ pairs)) same (at-head pair pairs)) place_is)
        (λ none. absurd (omega (arith, none.1))) (head-or_tail pair one [] inside)

    pub all-left : (way : List Step) (place : Option StorePlace) → place ≡ part (env.variables root) way → (components : List (List Step)) (values : List Value)
        (t : effect.State) → AreTyped world.tree env root (zipped way components values) → activations ≤ t.activations → Fine world.tree t
        → Good world (Leaves (zipped way components values) t.store) t (effect.store_all place components values t)
    all-left way place place_is [] values t typed grown fine =
        good-give {A = Unit {0}} world (Leaves [] t.store) tt t fine (none-written env (aliases root) root t.store)
    all-left way place place_is (rest ∷ components) [] t typed grown fine =
        good-give {A = Unit {0}} world (Leaves [] t.store) tt t fine (none-written env (aliases root) root t.store)
    all-left way place place_is (rest ∷ components) (v ∷ values) t typed grown fine =
        let pair : List Step × Value = (way ++ rest, v) in
        let pairs = zipped way components values in
        good-then world (Leaves (pair ∷ []) t.store) (Leaves (pair ∷ pairs) t.store) t (effect.store (part place rest) v t)
        (λ done. effect.store_all place components values) (one-left way rest place place_is v t (first-typed pair pairs typed) grown fine)
        (λ done u is first.
        let more = first.grown in
        good-weaker world (Leaves pairs u.store) (Leaves (pair ∷ pairs) t.store) u (effect.store_all place components values u)
        (λ again w gives rest_left.
        written-then env (aliases root) root pair pairs t.store u.store w.store first.so rest_left.so home at)
        (all-left way place place_is components values u
        (λ one place inside place_is. typed one place (in-tail pair one pairs inside) place_is) (omega (arith, grown, more)) first.fine))

  -- ---- what the walk foretells of that

  module _ (root : ℕ) (home : StorePlace) (at : env.variables root ≡ Some home) (selectors : List Selector) (id : TypeId)
      (rows : RowsAre world.tree root (rows_accessed world.tree (AtVariable root) selectors) selectors id) (reach : Reach) (way : List Step)
      (matches : Matches selectors way) (values : List Value)
      (many : length (components_of (types_in world) id) ≡ length values) where
    abbrev touched : List ℕ
    touched = rows_accessed world.tree (AtVariable root) selectors

    abbrev pairs : Pairs
    pairs = zipped way (components_of (types_in world) id) values

    -- stores have rows under the access as their targets
    pub record Fit (stores : Stores) : Type 0 where
      pub structured : selectors ≡ [] → is_structured_variable world.tree root ≡ true
      pub are : (one : ℕ × Interval) → Contains stores one → Contains touched one.0
      pub targets : AreTargets (parts_in world) root pairs stores

    left-known : (stores : Stores) → Fit stores → (context : Context) (state : State) (s : effect.State) (after : Store)
        → Here world block env context state s → AreTyped world.tree env root pairs → IsReachedBy env s.store selectors way reach
        → AreWritten env (aliases root) root pairs s.store after
        → Knows (parts_in world) (variables_in world) env (walk.stores_made root reach stores context state).after after
    left-known stores fit context state s after here typed reached are =
        let goes = here.stands.goes in
        let own = aliases root in
        let reached_own = reached-unless env s.store selectors way own reach reached in
        let told = λ (tree : Tree). map (λ (one : ℕ × Interval). record { type_id = type_at (rows_of tree) one.0; range = one.1 }) stores in
        let ready = λ (tree : Tree) (own : List ℕ). with_aliases_stored tree own (told tree) state in
        let made = λ (tree : Tree) (own : List ℕ). all_stored (reach_unless_alias own reach) stores (ready tree own) in
        let K = λ (after_state : State). Knows (parts_in world) (variables_in world) env after_state after in
        subst (λ (tree : Tree). K (made tree (walk.aliases_here context root))) (sym goes.tree_is)
        (subst (λ (aliases : List ℕ). K (made world.tree aliases))
        (sym (ap₂ (λ (listed : Listed) (b : ℕ). aliases_in listed b root) goes.pairs_are here.block_is))
        (made-knows world.tree world.pairs block s.activations env here.proper root home at pairs stores fit.targets
        (λ one inside. behind-variables world.tree root selectors fit.structured one.0 (fit.are one inside)) s.store after are typed reach
        (is-reach world.tree root selectors id rows env s.store way matches (reach_unless_alias own reach) reached_own)
        (λ formed.
        zipped-reached world.tree root selectors id rows env s.store way matches values many stores fit.are (reach_unless_alias own reach) reached_own formed)
        state here.stands.known))

    -- the stores of a walk, where they break no rule, of values that are components of the type
    pub stores-good : accessed (declared_in world) (types_in world) (AtVariable root) selectors ≡ Some id → AreComponentsOf (types_in world) id values
        → (becomes : Place) (stores : Stores) → Fit stores → (context : Context) (state : State) (s : effect.State)
        → IsReachedBy env s.store selectors way reach → (walk.store_to becomes root reach stores context state).broken ≡ []
        → Here world block env context state s → (place : Option StorePlace) → place ≡ part (env.variables root) way
        → Good world (Foretold world env context (walk.store_to becomes root reach stores context state) s.store) s
        (effect.store_all place (components_of (types_in world) id) values s)
    stores-good of_type components becomes stores fit context state s reached unbroken here place place_is =
        let asked = walk.change becomes root context state in
        let made = walk.stores_made root reach stores context state in
        let may = kept-rule (flow.may_change context root) Changes becomes (unbroken-left asked.broken made.broken unbroken) in
        let typed = zipped-typed world.tree world.pairs block s.activations env here.proper root home at selectors id of_type way matches values components in
        let listed = changes-listed context may in
        good-weaker world (Leaves root home at s.activations here.proper pairs s.store)
        (Foretold world env context (followed asked made) s.store) s
        (effect.store_all place (components_of (types_in world) id) values s)
        (λ done u is left. record {
          tie = tt;
          stands = record { goes = here.stands.goes; known = left-known stores fit context state s u.store here typed reached left.so };
          kept =
              listed-keeps world.tree world.pairs block s.activations env here.proper root home at context.rounds (closed-here context state s here) s.store
              u.store (wider root s.store u.store (one-kept env (aliases root) root pairs s.store u.store left.so)) listed;
        })
        (all-left root home at s.activations here.proper way place place_is (components_of (types_in world) id) values s typed (omega arith) here.fine)
      where
        changes-listed : (context : Context) → flow.may_change context root ≡ true → all_list root context.rounds ≡ true
        changes-listed context may =
            (and_parts (all_list root context.rounds)
            (of_one (is_own context.block) (slice_get context.tree.variables.items root) || flow.block_lists context root) may).0
