-- Values that are assigned to scalar types, or passed to value parameters: their typing, by that of a value with its test.
use Rattle.std.proofs.Common.{◌≡◌, [], ◌∷◌, ◌++◌, None, Result, Ok, Err, inl, inr, sym, ap, ◌∙◌}
use Rattle.place.specs.declared.Place.{Place}
use Rattle.types.specs.declared.form.TypeId.{TypeId}
use Rattle.typed_tree.specs.declared.fault.TypeFault.{TypeFault}
use Rattle.typed_tree.specs.declared.tree.Fitted.{Fitted}
use Rattle.typed_tree.specs.declared.tree.RangeTest.{RangeTest}
use Rattle.typed_tree.specs.declared.tree.Scalar.{Scalar}
use Rattle.typed_tree.specs.Look.{Mark, look_expr}
use Rattle.typing.specs.Passing.{Passed, Passing, behind_marks, mark, pure, ◌>>=◌, ◌>>?◌}
use Rattle.typing_rules.specs.Checked.{and_then}
use Rattle.typing.specs.Steps.{site}
use Rattle.typing_rules.specs.Checked.{or_mismatch}
use Rattle.typing.specs.Expressions.{Written}
use Rattle.typing_rules.specs.Targets.{fitting, test_kind}
use Rattle.typing.specs.Outcomes.{Makes}
use Rattle.typing.proofs.Rows.{then_assoc}
use Rattle.expression_resolver.specs.Made.{MakesFitted, fitted}
use Rattle.expression_resolver.proofs.Selecting.{same_behind}

-- a value of a scalar type at a place, and then a mark by its test
module _ (tested : Scalar) (type_id : TypeId) (place : Place) (w : Written) (does : RangeTest → Mark) (old : Passed) where
  abbrev pub marked : Passing (Unit {0})
  marked =
      site (test_kind tested) place >>= (λ id. (w.typing None >>? (λ types t. or_mismatch place (fitting types type_id t)))
      >>= (λ range. mark (does (record { site = id; tests = tested; range = range }))))

  pub by_value : marked old ≡ (fitted tested type_id place w >>= (λ fits. mark (does fits))) old
  unfolding fitted
  by_value = sym (
      then_assoc (site (test_kind tested) place)
      (λ id. (w.typing None >>? (λ types t. or_mismatch place (fitting types type_id t)))
      >>= (λ range. pure (record { site = id; tests = tested; range = range })))
      (λ fits. mark (does fits)) old
      ∙ same_behind
      (λ id. ((w.typing None >>? (λ types t. or_mismatch place (fitting types type_id t)))
      >>= (λ range. pure (record { site = id; tests = tested; range = range })))
      >>= (λ fits. mark (does fits)))
      (λ id. (w.typing None >>? (λ types t. or_mismatch place (fitting types type_id t)))
      >>= (λ range. mark (does (record { site = id; tests = tested; range = range }))))
      (λ id s. then_assoc (w.typing None >>? (λ types t. or_mismatch place (fitting types type_id t)))
      (λ range. pure (record { site = id; tests = tested; range = range })) (λ fits. mark (does fits)) s)
      (site (test_kind tested) place) old)

  pub value_marked : (result : Result Fitted TypeFault) (new : Passed) → MakesFitted (fitted tested type_id place w old) result new
      → Makes (λ _. tt) (λ made. look_expr made.value ++ (does made.fits ∷ [])) (marked old) result new
  value_marked (Ok made) new passes = by_value ∙ ap (λ r. and_then r (λ a. behind_marks a.look (mark (does a.answer) a.passed))) passes
  value_marked (Err why) new (inl memory) = inl memory
  value_marked (Err why) new (inr stops) = inr (by_value ∙ ap (λ r. and_then r (λ a. behind_marks a.look (mark (does a.answer) a.passed))) stops)
