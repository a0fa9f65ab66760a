-- Members of a set constructor: how their typing goes on from those that are made, and how they look.
use Rattle.std.proofs.Common.{◌≡◌, ℕ, ◌+◌, ◌<◌, ◌≤◌, List, [], ◌∷◌, ◌++◌, map, length, drop, get_or, Option, None, Some, Ok, inl, inr, refl, sym, ap}
use Rattle.std.proofs.Common.{ap₂, append-nil, length-append, ◌∙◌, arith}
use Rattle.std.specs.Prelude.{flat_map}
use Rattle.std.proofs.lemmas.List.{drop_more, at_drop_all}
use Rattle.std.proofs.lemmas.Grind.{flat_map-append}
use Rattle.syntax_tree.specs.declared.Designator.{Designator as SyntaxDesignator}
use Rattle.syntax_tree.specs.declared.Designator.TheVariants as written
use Rattle.syntax_tree.specs.declared.Expr.{Expr as SyntaxExpr}
use Rattle.syntax_tree.specs.Places.{members_of}
use Rattle.types.specs.declared.form.TypeId.{TypeId}
use Rattle.typed_tree.specs.declared.fault.TypeFault.{TypeFault}
use Rattle.typed_tree.specs.declared.tree.Designator.{Designator}
use Rattle.typed_tree.specs.declared.tree.Designator.TheVariants as designator
use Rattle.typed_tree.specs.Look.{look_expr}
use Rattle.typed_tree.specs.WellFormed.{members_wanted}
use Rattle.typing.specs.Passing.{Passed, After, after, behind_marks, pure, ◌>>=◌}
use Rattle.typing_rules.specs.Checked.{Checked, and_then}
use Rattle.typing.specs.Expressions.{Written, expression, first_member, last_member, member, members}
use Rattle.typing.specs.Outcomes.{IsFault}
use Rattle.typing.proofs.Rows.{behind_both, behind_nothing}
use Rattle.expression_resolver.specs.declared.typed.Members.{Members}
use Rattle.expression_resolver.specs.declared.typed.SitedMember.{SitedMember}
use Rattle.expression_resolver.specs.Made.{IsMemberBehind, range_behind}

wanted_more : (made : List Designator) (one : Designator) → members_wanted (made ++ one ∷ []) ≡ members_wanted made + members_wanted (one ∷ [])
wanted_more [] one = omega arith
wanted_more (designator.Single site ∷ made) one = omega (arith, wanted_more made one)
wanted_more (designator.Range site ∷ made) one = omega (arith, wanted_more made one)

-- no values are left
pub none_of : (designators : List SyntaxDesignator) → members_of {A = Written} designators [] ≡ []
none_of [] = refl
none_of (written.Single ∷ designators) = refl
none_of (written.Range ∷ designators) = refl

module _ (designators : List SyntaxDesignator) (values : List SyntaxExpr) (old : Passed) where
  -- what is left behind so many designators and values
  abbrev pub left_of : ℕ → ℕ → List (Written × Option Written)
  left_of i n = members_of (drop i designators) (map expression (drop n values))

  abbrev all : Checked (After (List Designator × Option TypeId))
  all = members [] None (members_of designators (map expression values)) old

  -- the members so far are made, and those behind them are left
  pub record AreMembersFrom (i : ℕ) (made : Members) (now : Passed) : Type 0 where
    pub goes : all
        ≡ behind_marks (flat_map look_expr made.values.items)
        (members made.designators.items made.host (left_of i (length made.values.items)) now)
    pub counted : members_wanted made.designators.items ≡ length made.values.items

  -- none is made yet
  pub no_members : (made : Members) → made.designators.items ≡ [] → made.values.items ≡ [] → made.host ≡ None → AreMembersFrom 0 made old
  no_members made designators_none values_none host_none = record {
    goes =
        sym (behind_nothing all)
        ∙ ap₂ (λ ones host. behind_marks [] (members ones host (members_of designators (map expression values)) old)) (sym designators_none) (sym host_none)
        ∙ ap (λ taken. behind_marks (flat_map look_expr taken) (members made.designators.items made.host (left_of 0 (length taken)) old)) (sym values_none);
    counted = ap members_wanted designators_none ∙ ap length (sym values_none);
  }

  module _ (i : ℕ) (made : Members) (now : Passed) (so_far : AreMembersFrom i made now) where
    -- nothing is left
    pub members_end : left_of i (length made.values.items) ≡ []
        → all ≡ Ok (after (made.designators.items, made.host) (flat_map look_expr made.values.items) now)
    members_end none =
        so_far.goes ∙ ap (λ ms. behind_marks (flat_map look_expr made.values.items) (members made.designators.items made.host ms now)) none
        ∙ ap (λ look. Ok (after (made.designators.items, made.host) look now)) (append-nil (flat_map look_expr made.values.items))

    pub all_members : length designators ≤ i → all ≡ Ok (after (made.designators.items, made.host) (flat_map look_expr made.values.items) now)
    all_members done = members_end (at_drop_all (λ ds. members_of ds (map expression (drop (length made.values.items) values))) designators i done)

    pub no_value : length values ≤ length made.values.items
        → all ≡ Ok (after (made.designators.items, made.host) (flat_map look_expr made.values.items) now)
    no_value done = members_end (at_drop_all (λ vs. members_of (drop i designators) (map expression vs)) values (length made.values.items) done
        ∙ none_of (drop i designators))

    -- the next one takes so many values
    module _ (first : Written) (last : Option Written) (count : ℕ)
        (next : left_of i (length made.values.items) ≡ (first, last) ∷ left_of (i + 1) (length made.values.items + count)) where
      abbrev behind_it : Checked (After (Designator × TypeId)) → Checked (After (List Designator × Option TypeId))
      behind_it outcome =
          and_then outcome (λ a. behind_marks a.look
          (members (made.designators.items ++ a.answer.0 ∷ []) (Some a.answer.1) (left_of (i + 1) (length made.values.items + count)) a.passed))

      goes_on : all ≡ behind_marks (flat_map look_expr made.values.items) (behind_it (member made.host first last now))
      goes_on = so_far.goes ∙ ap (λ ms. behind_marks (flat_map look_expr made.values.items) (members made.designators.items made.host ms now)) next

      pub one_member : (new : Members) (there : Passed) → IsMemberBehind count (member made.host first last now) made new there
          → AreMembersFrom (i + 1) new there
      one_member new there one =
          let longer : length new.values.items ≡ length made.values.items + count =
          ap length one.values ∙ length-append made.values.items one.own ∙ ap (λ n. length made.values.items + n) one.counted in
          record {
            goes =
                goes_on ∙ ap (λ r. behind_marks (flat_map look_expr made.values.items) (behind_it r)) one.is
                ∙ behind_both (flat_map look_expr made.values.items) (flat_map look_expr one.own)
                (members (made.designators.items ++ one.designator ∷ []) (Some one.type_id) (left_of (i + 1) (length made.values.items + count)) there)
                ∙ ap (λ look. behind_marks look
                (members (made.designators.items ++ one.designator ∷ []) (Some one.type_id) (left_of (i + 1) (length made.values.items + count)) there))
                (sym (ap (flat_map look_expr) one.values ∙ flat_map-append look_expr made.values.items one.own))
                ∙ ap (λ n. behind_marks (flat_map look_expr new.values.items)
                (members (made.designators.items ++ one.designator ∷ []) (Some one.type_id) (left_of (i + 1) n) there)) (sym longer)
                ∙ ap₂ (λ ones host. behind_marks (flat_map look_expr new.values.items)
                (members ones host (left_of (i + 1) (length new.values.items)) there)) (sym one.designators) (sym one.host);
            counted =
                ap members_wanted one.designators ∙ wanted_more made.designators.items one.designator
                ∙ ap₂ (λ m n. m + n) so_far.counted one.wanted ∙ sym longer;
          }

      pub member_stops : (why : TypeFault) → IsFault (member made.host first last now) why → IsFault all why
      member_stops why (inl memory) = inl memory
      member_stops why (inr stops) = inr (goes_on ∙ ap (λ r. behind_marks (flat_map look_expr made.values.items) (behind_it r)) stops)

    -- it is a single one, by the value at n
    module _ (one first : SyntaxExpr) (n : ℕ) (within : i < length designators) (at : n ≡ length made.values.items) (there : n < length values)
        (is_first : first ≡ get_or values n one) where
      next_values : drop (length made.values.items) values ≡ first ∷ drop (n + 1) values
      next_values =
          ap (λ k. drop k values) (sym at) ∙ drop_more values n one there ∙ ap (λ v. v ∷ drop (n + 1) values) (sym is_first)

      pub single_next : (other : SyntaxDesignator) → get_or designators i other ≡ written.Single
          → left_of i (length made.values.items) ≡ (expression first, None) ∷ left_of (i + 1) (length made.values.items + 1)
      single_next other single =
          ap (λ ds. members_of ds (map expression (drop (length made.values.items) values)))
          (drop_more designators i other within ∙ ap (λ x. x ∷ drop (i + 1) designators) single)
          ∙ ap (λ vs. members_of (written.Single ∷ drop (i + 1) designators) (map expression vs)) next_values
          ∙ ap (λ k. (expression first, None) ∷ left_of (i + 1) (k + 1)) at

      -- or a range, whose last value stands behind
      pub range_next : (other : SyntaxDesignator) (last more : SyntaxExpr) → get_or designators i other ≡ written.Range → n + 1 < length values
          → last ≡ get_or values (n + 1) more
          → left_of i (length made.values.items) ≡ (expression first, Some (expression last)) ∷ left_of (i + 1) (length made.values.items + 2)
      range_next other last more range longer is_last =
          ap (λ ds. members_of ds (map expression (drop (length made.values.items) values)))
          (drop_more designators i other within ∙ ap (λ x. x ∷ drop (i + 1) designators) range)
          ∙ ap (λ vs. members_of (written.Range ∷ drop (i + 1) designators) (map expression vs)) next_values
          ∙ ap (λ vs. members_of (written.Range ∷ drop (i + 1) designators) (expression first ∷ map expression vs))
          (drop_more values (n + 1) more longer ∙ ap (λ v. v ∷ drop (n + 1 + 1) values) (sym is_last))
          ∙ ap (λ k. (expression first, Some (expression last)) ∷ left_of (i + 1) k) (omega (arith, at))

      -- of which there is none
      pub no_last : (other : SyntaxDesignator) → get_or designators i other ≡ written.Range → length values ≤ n + 1
          → left_of i (length made.values.items) ≡ []
      no_last other range done =
          ap (λ ds. members_of ds (map expression (drop (length made.values.items) values)))
          (drop_more designators i other within ∙ ap (λ x. x ∷ drop (i + 1) designators) range)
          ∙ ap (λ vs. members_of (written.Range ∷ drop (i + 1) designators) (map expression vs)) next_values
          ∙ at_drop_all (λ vs. members_of (written.Range ∷ drop (i + 1) designators) (expression first ∷ map expression vs)) values (n + 1) done

-- a range, by its first value
pub range_goes : (host : Option TypeId) (first : Written) (last : Written) (made : SitedMember) (old now : Passed)
    → first_member host first old ≡ Ok (after (made.site, made.type_id) (look_expr made.value) now)
    → member host first (Some last) old ≡ range_behind made last now
unfolding member
range_goes host first last made old now passes =
    ap (λ r. and_then r (λ a. behind_marks a.look
    ((last_member (Some a.answer.1) last >>= (λ type_id. pure (designator.Range a.answer.0, type_id))) a.passed))) passes

pub range_stops : (host : Option TypeId) (first : Written) (last : Written) (old : Passed) (why : TypeFault) → IsFault (first_member host first old) why
    → IsFault (member host first (Some last) old) why
unfolding member
range_stops host first last old why (inl memory) = inl memory
range_stops host first last old why (inr stops) = inr (
    ap (λ r. and_then r (λ a. behind_marks a.look
    ((last_member (Some a.answer.1) last >>= (λ type_id. pure (designator.Range a.answer.0, type_id))) a.passed))) stops)
