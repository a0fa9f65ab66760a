-- Of a condition that is evaluated is known what a walk tells of it, and what it tells of the sides of its operators holds.
use Rattle.std.proofs.Common.{◌≡◌, sym, subst, ℕ, Bool, true, false, cond, List, [], ◌∷◌, Some}
use Rattle.typed_tree.specs.declared.tree.Expr.{Expr}
use Rattle.typed_tree.specs.declared.tree.Scalar.TheVariants as scalar
use Rattle.typed_tree.specs.Calls.{holds_call}
use Rattle.typed_tree.specs.Kinds.{held_by, is_held}
use Rattle.typed_tree.specs.Records.{OpenRecord, begins}
use Rattle.typed_tree.specs.WellFormed.{is_well_formed_expr, outline_of}
use Rattle.std.proofs.lemmas.Bool.{cond_both}
use Rattle.domain.specs.Versions.{has}
use Rattle.domain.specs.declared.versions.Extension.TheVariants.{Sides}
use Rattle.meaning.specs.declared.value.Value.{Value}
use Rattle.meaning.specs.Meaning.{Surroundings, is_so, value_of}
use Rattle.meaning.specs.Store.{Environment, Store}
use Rattle.checker_state.specs.Conditions.{Telling, condition_of}
use Rattle.checker_state.specs.Holds.{HoldNumbers, moment}
use Rattle.checker_state.specs.Knows.{Knows}
use Rattle.checker_state.specs.State.{State}
use Rattle.checker_expressions.specs.declared.noting.Noted.{Noted}
use Rattle.checker_sides.specs.Sides.{all_met, sided}
use Rattle.checker_expressions.specs.Walk.{Valued, noting_walk, value_walk}
use Rattle.checker_expressions.proofs.Opened.{AreOpen}
use Rattle.checker_expressions.proofs.Sound.{Good, Here, IsForetold, IsHeld, IsPartOf, Sound, SoundCalls, World, good-weaker, ordinal_in, parts_in}
use Rattle.checker_expressions.proofs.Sound.{variables_in}
use Rattle.checker_expressions.proofs.SoundCalls.{CallLaws}
use Rattle.checker_expressions.proofs.SoundExpressions.{value-sound}
use Rattle.checker_expressions.proofs.SoundNotes.{AreNoted, IsNotedValue, noting-sound}
use Rattle.checker_sides.proofs.SoundSides.{sided-holds}
use Rattle.checker_expressions.proofs.Traced.{traced_of}
use Rattle.cert_checker.specs.Steps.{unnoted_walk}
use Rattle.cert_checker.specs.Walk.{condition_walk}

-- a condition was evaluated: it is as is known of it, and what it tells of sides holds
pub record IsTested (world : World) (visible : Environment) (condition : Expr) (told : Valued) (v : Value) (store : Store) : Type 0 where
  pub held : IsHeld scalar.Ordinal told.known v store
  pub sides : HoldNumbers (ordinal_in world) (moment visible store) → (state : State) → Knows (parts_in world) (variables_in world) visible state store
      → Knows (parts_in world) (variables_in world) visible (sided world.tree (is_so v) condition told.noted state) store

-- without notes it tells nothing
none-met : (world : World) (visible : Environment) (condition : Expr) (truth : Bool) (store : Store) (state : State)
    → Knows (parts_in world) (variables_in world) visible state store
    → Knows (parts_in world) (variables_in world) visible (sided world.tree truth condition [] state) store
none-met world visible condition truth store state known =
    cond_both (holds_call condition) state (all_met world.tree tellings [] state) (λ state. Knows (parts_in world) (variables_in world) visible state store)
    (λ holds. known) (λ quiet. by tellings)
  where
    tellings : List Telling
    tellings = (condition_of (ordinal_in world) condition).tellings (Some truth)

    by : (tellings : List Telling) → Knows (parts_in world) (variables_in world) visible (all_met world.tree tellings [] state) store
    by [] = known
    by (telling ∷ tellings) = known

module _ (world : World) (block : ℕ) (env : Surroundings) (records : List OpenRecord) (opened : AreOpen world block env.visible records env.records)
    (laws : CallLaws world) (calls : SoundCalls world env.calls) where
  pub condition-sound : (e : Expr) → is_well_formed_expr (outline_of world.tree) block e ≡ true → is_held scalar.Ordinal (held_by e) ≡ true
      → begins e records ≡ true → Sound world block env.visible (IsTested world env.visible e) (value_of e env) (condition_walk e)
  condition-sound e well held begin context state s = by (has context.version Sides)
    where
      by : (b : Bool) → (cond b (noting_walk [] e context) (unnoted_walk e context) state).broken ≡ []
          → IsPartOf world (cond b (noting_walk [] e context) (unnoted_walk e context) state) → Here world block env.visible context state s
          → Good world
          (IsForetold world env.visible (IsTested world env.visible e) context (cond b (noting_walk [] e context) (unnoted_walk e context) state) s.store) s
          (value_of e env s)
      by true unbroken part here =
          good-weaker world
          (IsForetold world env.visible (IsNotedValue world block env records opened laws calls scalar.Ordinal e []) context (noting_walk [] e context state)
          s.store)
          (IsForetold world env.visible (IsTested world env.visible e) context (noting_walk [] e context state) s.store) s (value_of e env s)
          (λ v t is told. record {
            tie = record {
              held = told.so.tie.held;
              sides = λ numbers state_there known.
                  let tie = told.so.tie in
                  let notes = (noting_walk [] e context state).value.noted in
                  let same = tie.store_is in
                  subst (λ (store : Store). Knows (parts_in world) (variables_in world) env.visible (sided world.tree (is_so v) e notes state_there) store) same
                  (sided-holds world block env records opened known.shows e well begin tie.start tie.behind v notes tie.gives
                  (subst (λ (some : List Noted). AreNoted some ((traced_of e).values env tie.start)) (sym tie.noted_is) tie.are_noted)
                  (subst (λ (store : Store). HoldNumbers (ordinal_in world) (moment env.visible store)) (sym same) numbers) state_there
                  (subst (λ (store : Store). Knows (parts_in world) (variables_in world) env.visible state_there store) (sym same) known));
            };
            stands = told.so.stands;
            kept = told.so.kept;
          })
          (noting-sound world block env records opened laws calls e scalar.Ordinal [] well held begin context state s unbroken part here)
      by false unbroken part here =
          good-weaker world (IsForetold world env.visible (IsHeld scalar.Ordinal) context (value_walk e context state) s.store)
          (IsForetold world env.visible (IsTested world env.visible e) context (unnoted_walk e context state) s.store) s (value_of e env s)
          (λ v t is told. record {
            tie = record {
              held = told.so.tie;
              sides = λ numbers state_there known. none-met world env.visible e (is_so v) t.store state_there known;
            };
            stands = told.so.stands;
            kept = told.so.kept;
          })
          (value-sound world block env records opened laws calls e scalar.Ordinal well held begin context state s unbroken
          (record { ids = part.ids; linked = part.linked }) here)
