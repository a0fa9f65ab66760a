-- What calls leave as it is: variables that none of the calls in a piece touches, and so the numbers of bounds that stand behind them.
use Rattle.std.proofs.Common.{arith, ◌≡◌, ◌∙◌, ⊎_elim, sym, ap, refl, subst, ℕ, ℤ, ◌+ℤ◌, ◌<◌, Bool, true, false, cond, not, ◌||◌, length, map, nat_eq}
use Rattle.std.proofs.Common.{List, [], ◌∷◌, ◌++◌, Option, Some, None}
use Rattle.std.specs.Prelude.{flat_map}
use Rattle.std.specs.List.{Contains, list_all, list_any}
use Rattle.std.proofs.lemmas.Bool.{and_from, both_ways, eq-eqb, or_left, or_right}
use Rattle.std.proofs.lemmas.List.{length-map}
use Rattle.std.proofs.lemmas.List.Elements.{Contains-append_cases}
use Rattle.std.proofs.lemmas.List.Folds.{list_any_at, list_any-append}
use Rattle.std.proofs.lemmas.Option.{none-some, same_Some}
use Rattle.types.specs.declared.form.Step.{Step}
use Rattle.typed_tree.specs.declared.tree.Selector.{Selector}
use Rattle.meaning.specs.Store.{Environment, Store}
use Rattle.meaning.specs.Effect as effect
use Rattle.meaning.specs.Effect.{Action, Reply}
use Rattle.checker_rows.specs.Rows.{indexes_of}
use Rattle.checker_state.specs.Bounds.{Bound}
use Rattle.checker_state.specs.Holds.{HasNumber, IsBound, IsBoundBy, Moment, moment}
use Rattle.checker_state.specs.Knows.{IsKept}
use Rattle.checker_state.specs.Loops.{is_among}
use Rattle.checker_state.specs.State.{State}
use Rattle.checker_state.specs.Stores.{Index, Reach}
use Rattle.checker_state.proofs.Knows.{kept-itself}
use Rattle.checker_loops.specs.Loops.{Round, all_list, touched}
use Rattle.checker_loops.specs.Pairs.{aliases_of}
use Rattle.checker_loops.proofs.Lists.{among-contains, among-flat, contains-among, contains-more, in-flat, in-one, of-flat}
use Rattle.checker_expressions.specs.Walk.{Callees, Calling, Context, Linked, Walking, changed_in, form_behind}
use Rattle.checker_expressions.specs.Walk.{index_behind, is_or_pairs, reach_behind, stands_behind}
use Rattle.checker_expressions.specs.Walk.{touches}
use Rattle.checker_expressions.proofs.EffectsCalls.{not-among}
use Rattle.checker_expressions.proofs.OtherLoops.{AreListed, GoesAlike, in_loops}
use Rattle.checker_expressions.proofs.Sound.{Behind, Good, Here, IsClosed, IsForetold, IsPartOf, Sound, SoundFrom, SoundGoes, World, good-weaker}
use Rattle.checker_expressions.proofs.SoundCalls.{by-world}
use Rattle.checker_expressions.proofs.SoundRows.{AreIndexesOn, IsReachedBy}

-- ---- items

all-where : {A : Type 0} (test : A → Bool) (items : List A) → ((item : A) → Contains items item → test item ≡ true) → list_all test items ≡ true
all-where test [] each = refl
all-where test (item ∷ items) each =
    and_from (test item) (list_all test items) (each item (0, omega arith, refl))
    (all-where test items (λ other inside. each other (contains-more item items other inside)))

any-there : {A : Type 0} (test : A → Bool) (items : List A) (item : A) → Contains items item → test item ≡ true → list_any test items ≡ true
any-there test items item inside is = list_any_at test items inside.0 item inside.1 (ap test inside.2 ∙ is)

-- ---- what calls touch

-- by what it is told in a world
abbrev pub callees_in : World → Callees
callees_in world = record { tree = world.tree; blocks = world.blocks; pairs = world.pairs }

module _ (world : World) (calls : List Calling) where
  abbrev from : Callees
  from = callees_in world

  abbrev changed : List ℕ
  changed = flat_map (changed_in from) calls

  -- a loop that lists all that calls change, with what may share a place with that
  abbrev pub around : Round
  around = record { changes = changed; controls = []; aliases = flat_map (aliases_of world.pairs) changed; is_for = false }

  abbrev loops : List Round
  loops = around ∷ []

  listed-in : (context : Context) → SoundGoes world context → AreListed context loops calls
  listed-in context goes =
      by-world world context (λ (own : Context). AreListed own loops calls) goes
      (all-where (λ (calling : Calling). list_all (λ root. all_list root loops) (changed_in from calling)) calls
      (λ calling inside. all-where (λ root. all_list root loops) (changed_in from calling)
      (λ root own. and_from (is_among root changed) true (contains-among changed root (in-flat (changed_in from) calls calling root inside own)) refl)))

  around-closed : (block : ℕ) → IsClosed world block around
  around-closed block root alias shown shown_alias is pair =
      list_any-append (λ (other : ℕ). nat_eq other alias) changed around.aliases
      ∙ or_right (is_among alias changed) (is_among alias around.aliases)
      (among-flat (aliases_of world.pairs) changed root alias (among-contains changed root is) pair)

  -- what none of them touches isn't among that
  untouched : (root : ℕ) → list_any (touches from root) calls ≡ false → is_among root (touched around) ≡ false
  untouched root none =
      not-among root (changed ++ around.aliases)
      (λ among.
      ⊎_elim (λ here. pairs root here (or_left (nat_eq root root) (is_among root (aliases_of world.pairs root)) (eq-eqb root root refl)))
      (λ there.
      let other = of-flat (aliases_of world.pairs) changed root there in
      pairs other.0 other.1
      (or_right (nat_eq other.0 root) (is_among root (aliases_of world.pairs other.0)) (contains-among (aliases_of world.pairs other.0) root other.2)))
      (Contains-append_cases changed around.aliases root (among-contains (changed ++ around.aliases) root among)))
    where
      pairs : (other : ℕ) → Contains changed other → is_or_pairs from root other ≡ true → ⊥
      pairs other inside is =
          let call = of-flat (changed_in from) calls other inside in
          both_ways (list_any (touches from root) calls) none
          (any-there (touches from root) calls call.0 call.1 (any-there (is_or_pairs from root) (changed_in from call.0) other call.2 is))

  abbrev pub IsLeft : Environment → Store → Store → Type 0
  IsLeft env before after = IsKept env (touched around) [] before after

  pub left-itself : (env : Environment) (store : Store) → IsLeft env store store
  left-itself env store = kept-itself env (touched around) [] store

  -- ---- what a piece leaves

  goes-in : (context : Context) → SoundGoes world context → SoundGoes world (in_loops context loops)
  goes-in context goes = record {
    tree_is = goes.tree_is;
    pairs_are = goes.pairs_are;
    blocks_are = goes.blocks_are;
    closed = λ one inside. subst (λ (round : Round). IsClosed world context.block round) (in-one around one inside) (around-closed context.block);
  }

  pub piece-leaves : {A B : Type 0} (block : ℕ) (env : Environment) (R : B → A → Store → Type 0) (action : Action A) (walking : Walking B)
      → Sound world block env R action walking
      → ((context : Context) (rounds : List Round) → AreListed context rounds calls → GoesAlike context rounds walking)
      → (context : Context) (state : State) (s t : effect.State) (a : A) → (walking context state).broken ≡ [] → IsPartOf world (walking context state)
      → Here world block env context state s → action s ≡ effect.Gives a t → IsLeft env s.store t.store
  piece-leaves {A = A} block env R action walking sound alike context state s t a unbroken part here is =
      let own = in_loops context loops in
      let there = alike context loops (listed-in context here.stands.goes) state in
      let inner : IsPartOf world (walking own state) = record {
        ids = λ id inside. part.ids id (subst (λ (ids : List ℕ). Contains ids id) there.ids inside);
        linked = λ one inside. part.linked one (subst (λ (all : List Linked). Contains all one) there.linked inside);
      } in
      let stands : Here world block env own state s = record {
        block_is = here.block_is;
        fine = here.fine;
        proper = here.proper;
        stands = record { goes = goes-in context here.stands.goes; known = here.stands.known };
      } in
      let good = sound own state s (there.broken unbroken) inner stands in
      let behind : Behind world (IsForetold world env R own (walking own state) s.store) s a t =
      (subst (λ (reply : Reply A). Good world (IsForetold world env R own (walking own state) s.store) s reply) is good).gives in
      behind.so.kept around (0, omega arith, refl)

  -- what it gives is told, and that it left this
  abbrev pub AndLeft : {A B : Type 0} → Environment → Store → (B → A → Store → Type 0) → B → A → Store → Type 0
  AndLeft env before R b a after = R b a after × IsLeft env before after

  pub sound-left : {A B : Type 0} (block : ℕ) (env : Environment) (before : Store) (R : B → A → Store → Type 0) (action : Action A) (walking : Walking B)
      → Sound world block env R action walking
      → ((context : Context) (state : State) (s t : effect.State) (a : A) → (walking context state).broken ≡ [] → IsPartOf world (walking context state)
      → Here world block env context state s → action s ≡ effect.Gives a t → IsLeft env s.store t.store)
      → SoundFrom world block env before (AndLeft env before R) action walking
  sound-left block env before R action walking sound leaves context state s same unbroken part here =
      good-weaker world (IsForetold world env R context (walking context state) s.store)
      (IsForetold world env (AndLeft env before R) context (walking context state) s.store) s (action s)
      (λ a t is told. record {
        tie = (told.so.tie, subst (λ (start : Store). IsLeft env start t.store) same (leaves context state s t a unbroken part here is));
        stands = told.so.stands;
        kept = told.so.kept;
      })
      (sound context state s unbroken part here)

  -- ---- bounds

  stands-none : (root : ℕ) → stands_behind from calls (Some root) ≡ true → list_any (touches from root) calls ≡ false
  stands-none root is = by (list_any (touches from root) calls) is
    where
      by : (some : Bool) → not some ≡ true → some ≡ false
      by true is = absurd (cc)
      by false is = refl

  bound-left : (env : Environment) (before after : Store) → IsLeft env before after → (bound : Bound) (n : ℤ) → stands_behind from calls bound.root ≡ true
      → IsBound (moment env before) bound n → IsBound (moment env after) bound n
  bound-left env before after left bound n stands is = by bound.root stands is
    where
      by : (root : Option ℕ) → stands_behind from calls root ≡ true → IsBoundBy (moment env before) root bound.number n
          → IsBoundBy (moment env after) root bound.number n
      by None stands is = is
      by (Some root) stands (old, has, sum) = (old, left.values root (untouched root (stands-none root stands)) [] ∙ has, sum)

  -- each form stands
  abbrev pub AllStand : List Index → Type 0
  AllStand [] = Unit {0}
  AllStand (index ∷ indexes) = ((bound : Bound) → index.form ≡ Some bound → stands_behind from calls bound.root ≡ true) × AllStand indexes

  pub reached-left : (env : Environment) (before after : Store) → IsLeft env before after → (selectors : List Selector) (way : List Step) (reach : Reach)
      → AllStand reach.indexes → IsReachedBy env before selectors way reach → IsReachedBy env after selectors way reach
  reached-left env before after left selectors way reach stand reached = record {
    indexes = each reach.indexes (indexes_of way) stand reached.indexes;
    all = reached.all;
    none = reached.none;
  }
    where
      each : (indexes : List Index) (numbers : List ℤ) → AllStand indexes → AreIndexesOn env before indexes numbers → AreIndexesOn env after indexes numbers
      each [] numbers stand on = tt
      each (index ∷ indexes) [] stand on = absurd on
      each (index ∷ indexes) (number ∷ numbers) stand on = (
        record {
          in_range = on.0.in_range;
          of_form = λ bound is. bound-left env before after left bound number (stand.0 bound is) (on.0.of_form bound is);
        },
        each indexes numbers stand.1 on.1,
      )

  -- a form that is left stands, and is what it was
  pub form-left : (form : Option Bound) (bound : Bound) → form_behind from calls form ≡ Some bound
      → (form ≡ Some bound) × (stands_behind from calls bound.root ≡ true)
  form-left None bound is = absurd (none-some bound is)
  form-left (Some own) bound is = by (stands_behind from calls own.root) refl is
    where
      by : (stands : Bool) → stands_behind from calls own.root ≡ stands → cond stands (Some own) None ≡ Some bound
          → (Some own ≡ Some bound) × (stands_behind from calls bound.root ≡ true)
      by true known is = (is, subst (λ (b : Bound). stands_behind from calls b.root ≡ true) (same_Some own bound is) known)
      by false known is = absurd (none-some bound is)

  -- what was reached is reached by the forms that are left, behind the calls too
  pub reached-behind : (env : Environment) (before after : Store) → IsLeft env before after → (selectors : List Selector) (way : List Step) (reach : Reach)
      → IsReachedBy env before selectors way reach → IsReachedBy env after selectors way (reach_behind from calls reach)
  reached-behind env before after left selectors way reach reached =
      reached-left env before after left selectors way (reach_behind from calls reach) (all-stand reach.indexes) (record {
        indexes = each reach.indexes (indexes_of way) reached.indexes;
        all = λ is. length-map reach.indexes (index_behind from calls) ∙ reached.all is;
        none = λ is. reached.none (unmapped reach.indexes is);
      })
    where
      all-stand : (indexes : List Index) → AllStand (map (index_behind from calls) indexes)
      all-stand [] = tt
      all-stand (index ∷ indexes) = (λ bound is. (form-left index.form bound is).1, all-stand indexes)

      each : (indexes : List Index) (numbers : List ℤ) → AreIndexesOn env before indexes numbers
          → AreIndexesOn env before (map (index_behind from calls) indexes) numbers
      each [] numbers on = tt
      each (index ∷ indexes) [] on = on
      each (index ∷ indexes) (number ∷ numbers) on = (
        record { in_range = on.0.in_range; of_form = λ bound is. on.0.of_form bound (form-left index.form bound is).0 },
        each indexes numbers on.1,
      )

      unmapped : (indexes : List Index) → map (index_behind from calls) indexes ≡ [] → indexes ≡ []
      unmapped [] is = refl
      unmapped (index ∷ indexes) is = absurd (cc)
