-- Records of with statements: how their typing goes on from what is accessed, and how they look.
use Rattle.std.proofs.Common.{◌≡◌, ℕ, zero, suc, ◌+◌, ◌<◌, ◌≤◌, List, [], ◌∷◌, ◌++◌, length, map, drop, Ok, refl, sym, ap, ap₂, arith, ◌∙◌}
use Rattle.std.proofs.lemmas.List.{at_drop_all}
use Rattle.syntax_tree.specs.declared.RecordVariable.{RecordVariable}
use Rattle.types.specs.declared.form.TypeId.{TypeId}
use Rattle.typed_tree.specs.declared.tree.Selector.{Selector}
use Rattle.typed_tree.specs.Accesses.{Origin, index_count, origin_of}
use Rattle.typed_tree.specs.Look.{Access, Opens, look_record}
use Rattle.typing.specs.Expressions.{Denoted, selected}
use Rattle.typing.specs.Passing.{Passed, Passing, after, behind_marks, each, mark, ◌>>=◌, ◌>>◌}
use Rattle.typing_rules.specs.Checked.{and_then}
use Rattle.typing.specs.Statements.{WrittenVariable, opened, opened_record, written_record}
use Rattle.typing.specs.Steps.{close_record, enter_as, open_record}
use Rattle.typing.proofs.Rows.{behind_nothing}
use Rattle.expression_resolver.specs.declared.typed.Reached.{Reached}
use Rattle.expression_resolver.specs.Accesses.{component_of, look_reached, named_variable}
use Rattle.expression_resolver.proofs.Selecting.{component_then, look_made, variable_then}

module _ (one : WrittenVariable) where
  abbrev pub behind_record : Denoted → List Selector × TypeId → Passing (Unit {0})
  behind_record variable component =
      mark (Opens variable.origin component.0 (index_count component.0))
      >> open_record one.name.place (opened_record variable.origin component.0 component.1)

  abbrev behind_variable : Denoted → Passing (Unit {0})
  behind_variable variable =
      enter_as Access >> (selected variable.selectors variable.type_id one.selectors one.indexes >>= behind_record variable)

  -- it goes on behind what is accessed
  pub opened_goes : (old first : Passed) (variable : Denoted) → named_variable one.name old ≡ Ok (after variable [] first)
      → opened one old ≡ (component_of variable one.selectors one.indexes >>= behind_record variable) first
  unfolding opened
  opened_goes old first variable finds =
      variable_then one.name behind_variable old first variable finds ∙ component_then variable one.selectors one.indexes (behind_record variable) first

-- as it is made
pub record_made : (made : Reached) (origin : Origin) → origin_of made.access ≡ origin
    → index_count made.access.selectors.items ≡ length made.indexes.items
    → look_reached made ++ (Opens origin made.access.selectors.items (index_count made.access.selectors.items) ∷ [])
    ≡ look_record (record { access = made.access; indexes = made.indexes })
record_made made origin is counted =
    ap₂ (λ o n. look_reached made ++ (Opens o made.access.selectors.items n ∷ [])) (sym is) counted
    ∙ sym (look_made made.access made.indexes (Opens (origin_of made.access) made.access.selectors.items (length made.indexes.items)))

-- ---- records that are closed

abbrev pub closes : List RecordVariable → Passing (Unit {0})
closes ones = each (λ one. close_record) (map written_record ones)

-- what stands next, and what is behind it
next_of : {A : Type 0} (xs : List A) (i : ℕ) → i < length xs → (x : A) × (drop i xs ≡ x ∷ drop (i + 1) xs)
next_of [] i within = absurd (omega (arith, within))
next_of (x ∷ xs) zero within = (x, refl)
next_of (x ∷ xs) (suc i) within =
    let later : suc i + 1 ≡ suc (i + 1) = omega arith in
    let next = next_of xs i (omega (arith, within)) in
    (next.0, next.1 ∙ ap (λ n. next.0 ∷ drop n (x ∷ xs)) (sym later))

module _ (written : List RecordVariable) (old : Passed) where
  pub one_closed : (i : ℕ) (now new : Passed) → i < length written → closes written old ≡ closes (drop i written) now
      → close_record now ≡ Ok (after tt [] new) → closes written old ≡ closes (drop (i + 1) written) new
  one_closed i now new within left closed =
      left
      ∙ ap (λ ones. closes ones now) (next_of written i within).1
      ∙ ap (λ r. and_then r (λ a. behind_marks a.look (closes (drop (i + 1) written) a.passed))) closed
      ∙ behind_nothing (closes (drop (i + 1) written) new)

  pub all_closed : (i : ℕ) (now : Passed) → length written ≤ i → closes written old ≡ closes (drop i written) now
      → closes written old ≡ Ok (after tt [] now)
  all_closed i now all left = left ∙ at_drop_all (λ ones. closes ones now) written i all
