-- Pieces of a program use their turns exactly: where one gave a value, the turns that it used are enough for that. Of most
-- pieces a law of the meaning says so; the others are made of those.
use Rattle.code_generator.proofs.Words.{◌≡◌, ℕ, ◌+◌, List, [], ◌∷◌, Option, Some, None, map, Bool, true, false, refl, ap, ◌∙◌, arith, Expr, Value, Place, Reply}
use Rattle.code_generator.proofs.Words.{Gives, Action, ◌>>=◌, give, number_of, require, UsesTurnsExactly, value_of, Ending, pos}
use Rattle.std.proofs.Common.{ℤ, if◌then◌else◌}
use Rattle.types.specs.declared.form.Step.TheVariants as step
use Rattle.text_input.specs.declared.InputFault.TheVariants.{OutsideType}
use Rattle.text_input.specs.Input.{Reading, Reads, Fails, Ends, read_character, read_integer}
use Rattle.typed_tree.specs.Accesses.{origin_of}
use Rattle.typed_tree.specs.declared.tree.Access.{Access}
use Rattle.typed_tree.specs.declared.tree.Dyadic.{Dyadic}
use Rattle.typed_tree.specs.declared.tree.ForHead.{ForHead}
use Rattle.typed_tree.specs.declared.tree.Passed.{Passed}
use Rattle.typed_tree.specs.declared.tree.Readable.{Readable}
use Rattle.typed_tree.specs.declared.tree.Readable.TheVariants as readable
use Rattle.typed_tree.specs.declared.tree.ReadVariable.{ReadVariable}
use Rattle.typed_tree.specs.declared.tree.Selector.{Selector}
use Rattle.typed_tree.specs.declared.tree.Selector.TheVariants.{Element, Field}
use Rattle.typed_tree.specs.declared.tree.Stmt.{Stmt}
use Rattle.typed_tree.specs.declared.tree.WriteParameter.{WriteParameter}
use Rattle.meaning.specs.declared.outcome.Ending.TheVariants.{Input}
use Rattle.meaning.specs.declared.value.Value.TheVariants.{Number}
use Rattle.meaning.specs.Counting.{value_behind}
use Rattle.meaning.specs.Store.{part}
use Rattle.meaning.specs.Effect.{Stops, and_then, enter, is_in, stop, store, take_in, taken, use_turn}
use Rattle.meaning.specs.Laws.{AllUseTurnsExactly, UsedTurns, state_after}
use Rattle.meaning.specs.Meaning.{Evaluation, Surroundings, all_of, all_passed, effect_of, link_step, parameter_of, passing_of, selected, for_round, for_turn}
use Rattle.meaning.specs.Meaning.{accessed, begun, is_so, read_as, read_of, repeat_round, turn_if, unless_outside, values_of, while_round}

-- the same reply with so many turns left
abbrev left_at : {A : Type 0} → ℕ → Reply A → Reply A
left_at left (Gives x u) = Gives x (record u { turns = left })
left_at left (Stops e u) = Stops e (record u { turns = left })

pub exact_give : {A : Type 0} (a : A) → UsesTurnsExactly (give a)
exact_give a s t b is =
    let same : s.turns ≡ t.turns = ap (λ r. (state_after r).turns) is in (
      0,
      omega (arith, same),
      λ left.
          let none : 0 + left ≡ left = omega arith in
          ap (λ n. Gives a (record s { turns = n })) none ∙ ap (left_at left) is,
    )

pub exact_stop : {A : Type 0} (e : Ending) → UsesTurnsExactly (stop {A = A} e)
exact_stop e s t b is = absurd cc

-- what is taken of the input
pub exact_take : {A : Type 0} (point : ℕ) (reading : List ℕ → Reading A) → UsesTurnsExactly (take_in point reading)
exact_take {A} point reading s t b is = by (reading s.input) refl is
  where
    by : (r : Reading A) → reading s.input ≡ r → taken point r s ≡ Gives b t → UsedTurns (take_in point reading) s t b
    by (Reads a rest) read gives =
        let same : s.turns ≡ t.turns = ap (λ r. (state_after r).turns) gives in (
          0,
          omega (arith, same),
          λ left.
              let none : 0 + left ≡ left = omega arith in
              ap (λ n. taken point (reading s.input) (record s { turns = n })) none
              ∙ ap (λ r. taken point r (record s { turns = left })) read
              ∙ ap (left_at left) gives,
        )
    by (Fails why) read gives = absurd cc
    by Ends read gives = absurd cc

-- one piece after another
pub exact_then : {A B : Type 0} (action : Action A) (rest : A → Action B) → UsesTurnsExactly action → ((a : A) → UsesTurnsExactly (rest a))
    → UsesTurnsExactly (action >>= rest)
exact_then {A} {B} action rest first each s t b is = by (action s) refl is
  where
    by : (reply : Reply A) → action s ≡ reply → and_then reply rest ≡ Gives b t → UsedTurns (action >>= rest) s t b
    by (Gives a u) gives then_is =
        let one = first s u a gives in
        let two = each a u t b then_is in (
          one.0 + two.0,
          omega (arith, one.1, two.1),
          λ left.
              let parts : (one.0 + two.0) + left ≡ one.0 + (two.0 + left) = omega arith in
              ap (λ n. and_then (action (record s { turns = n })) rest) parts ∙ ap (λ r. and_then r rest) (one.2 (two.0 + left)) ∙ two.2 left,
        )
    by (Stops e u) gives then_is = absurd cc

-- what is read, and its test
exact_read_as : (reads : Readable) (point : ℕ) → UsesTurnsExactly (read_as reads point)
exact_read_as readable.Integer point = exact_take point read_integer
exact_read_as readable.Char point = exact_then (take_in point read_character) _ (exact_take point read_character) (λ c. exact_give (pos c))

exact_unless : (good : Bool) (e : Ending) → UsesTurnsExactly (if good then give {A = Unit {0}} tt else stop e)
exact_unless true e = exact_give tt
exact_unless false e = exact_stop e

module _ (env : Surroundings) (exact : AllUseTurnsExactly env) where
  pub exact_selected : (selectors : List Selector) (indexes : List Expr) (p : Option Place)
      → UsesTurnsExactly (selected selectors (map value_of indexes) env p)
  exact_selected [] indexes p = exact_give p
  exact_selected (Field position offset ∷ selectors) indexes p = exact_selected selectors indexes (part p (step.Field position ∷ []))
  exact_selected (Element fits cells ∷ selectors) [] p = exact_give None
  exact_selected (Element fits cells ∷ selectors) (index ∷ indexes) p =
      exact_then (value_of index env) _ (exact.values index)
      (λ v. exact_then (require (is_in fits.range v) fits.site) _ (exact.tests (is_in fits.range v) fits.site)
      (λ _. exact_selected selectors indexes (part p (step.Element (number_of v) ∷ []))))

  exact_accessed : (access : Access) (indexes : List Expr) → UsesTurnsExactly (accessed access (map value_of indexes) env)
  exact_accessed access indexes =
      exact_then (enter access.number env.visible) _ (exact.entries access.number)
      (λ _. exact_selected access.selectors.items indexes (begun (origin_of access) env))

  pub exact_link : (number : ℕ) (operation : Dyadic) (operand : Evaluation) (v : Value) → UsesTurnsExactly (operand env)
      → UsesTurnsExactly (link_step (record { number = number; operation = operation; operand = operand }) env v)
  exact_link number operation operand v one =
      exact_then (enter number env.visible) _ (exact.entries number)
      (λ _. exact_then (operand env) _ one
      (λ w. exact.operations operation v w))

  pub exact_passed : (actuals : List Passed) → UsesTurnsExactly (all_passed (map passing_of actuals) env)
  exact_passed [] = exact_give []
  exact_passed (one ∷ rest) =
      exact_then (passing_of one env) _ (exact.actuals one)
      (λ argument. exact_then (all_passed (map passing_of rest) env) _ (exact_passed rest) (λ arguments. exact_give (argument ∷ arguments)))

  pub exact_parameters : (ps : List WriteParameter) → UsesTurnsExactly (all_of (map parameter_of ps) env)
  exact_parameters [] = exact_give tt
  exact_parameters (p ∷ ps) = exact_then (parameter_of p env) _ (exact.written p) (λ _. exact_parameters ps)

  pub exact_read : (one : ReadVariable) → UsesTurnsExactly (read_of one env)
  exact_read one =
      exact_then (accessed one.access (values_of one.indexes.items) env) _ (exact_accessed one.access one.indexes.items)
      (λ place. exact_then (read_as one.reads one.point) _ (exact_read_as one.reads one.point)
      (λ n. exact_then (unless_outside one.range one.point n) _ (exact_unless (is_in one.range (Number n)) (Input one.point OutsideType))
      (λ _. exact.stores place (Number n))))

  pub exact_reads : (ones : List ReadVariable) → UsesTurnsExactly (all_of (map read_of ones) env)
  exact_reads [] = exact_give tt
  exact_reads (one ∷ ones) = exact_then (read_of one env) _ (exact_read one) (λ _. exact_reads ones)

  pub exact_statements : (ss : List Stmt) → UsesTurnsExactly (all_of (map effect_of ss) env)
  exact_statements [] = exact_give tt
  exact_statements (s ∷ ss) = exact_then (effect_of s env) _ (exact.statements s) (λ _. exact_statements ss)

  -- the rounds of loops
  exact_turn_if : (so : Bool) (body : Stmt) → UsesTurnsExactly (turn_if so (effect_of body env))
  exact_turn_if false body = exact_give None
  exact_turn_if true body = exact_then use_turn _ exact.turn (λ _. exact_then (effect_of body env) _ (exact.statements body) (λ _. exact_give (Some tt)))

  pub exact_while_round : (condition : Expr) (body : Stmt) → UsesTurnsExactly (while_round (value_of condition) (effect_of body) env tt)
  exact_while_round condition body = exact_then (value_of condition env) _ (exact.values condition) (λ v. exact_turn_if (is_so v) body)

  pub exact_repeat_round : (ss : List Stmt) (condition : Expr)
      → UsesTurnsExactly (repeat_round (all_of (map effect_of ss)) (value_of condition) env tt)
  exact_repeat_round ss condition =
      exact_then use_turn _ exact.turn (λ _. exact_then (all_of (map effect_of ss) env) _ (exact_statements ss)
      (λ _. exact_then (value_of condition env) _ (exact.values condition) (λ v. exact_give (if is_so v then None else Some tt))))

  pub exact_for_round : (head : ForHead) (first last : ℤ) (body : Stmt)
      → ((n : ℤ) → UsesTurnsExactly (effect_of body (for_turn head first env n))) → (n : ℤ)
      → UsesTurnsExactly (for_round head first last (effect_of body) env n)
  exact_for_round head first last body done n =
      exact_then (store (env.visible.variables head.control) (Number n)) _ (exact.stores (env.visible.variables head.control) (Number n))
      (λ _. exact_then use_turn _ exact.turn (λ _. exact_then (effect_of body (for_turn head first env n)) _ (done n)
      (λ _. exact_give (value_behind head.direction last n))))
