-- The code of a variable that is read: it is accessed first, then comes what is read, and it gets that; or it stops as the
-- read does.
use Rattle.code_generator.proofs.Words.{◌≡◌, ◌+◌, List, [], ◌∷◌, ◌++◌, length, map, Option, sym, subst, arith, nat_lt, ◌&&◌, and_parts}
use Rattle.code_generator.proofs.Words.{Bool, true, ltb-true, TypeId, Expr, all_hold, is_well_formed_expr, Value, Place, Action, ◌>>=◌, value_of, Number}
use Rattle.code_generator.proofs.Words.{expr_code, expr_depth}
use Rattle.typed_tree.specs.declared.tree.ReadVariable.{ReadVariable}
use Rattle.typed_tree.specs.declared.tree.Scalar.TheVariants as scalar
use Rattle.typed_tree.specs.Accesses.{origin_of}
use Rattle.typed_tree.specs.Kinds.{are_ordinal_indexes}
use Rattle.typed_tree.specs.Records.{accesses_begin, all_begin, begins as all_begins, is_there}
use Rattle.typed_tree.specs.WellFormed.{has_values, is_whole, leads_to, leads_to_read}
use Rattle.meaning.specs.declared.value.Value.TheVariants as value
use Rattle.meaning.specs.Effect as effect
use Rattle.meaning.specs.Meaning.{accessed, read_as, unless_outside}
use Rattle.code_scheme.specs.Code.{input_code, reached, store_code}
use Rattle.code_scheme.specs.Depth.{store_depth}
use Rattle.code_generator.proofs.Accesses.{AreOrdinals, Indexes, begins, codes, expressions, leads}
use Rattle.code_generator.proofs.Assigns.{Pushes, store_runs, told, told_back}
use Rattle.code_generator.proofs.Evaluating.{ExecutesAs}
use Rattle.code_generator.proofs.Inputs.{admit_then, points, read_then}
use Rattle.code_generator.proofs.Passing.{CallsAt}
use Rattle.code_generator.proofs.Reach.{Stands}
use Rattle.code_generator.proofs.Running.{Executes, kept_on}
use Rattle.code_generator.proofs.Scalars.{scalar_tested}
use Rattle.code_generator.proofs.Setting.{Setting, entered, linked, on, outline}
use Rattle.code_generator.proofs.Texts.{all_compare}

module _ (g : Setting) (known : CallsAt g) (one : ReadVariable) where
  -- what is done with what is read, once it is tested
  abbrev valued : (Value → Action (Unit {0})) → Action (Unit {0})
  valued next = read_as one.reads one.point >>= λ n. unless_outside one.range one.point n >>= λ _. next (value.Number n)

  input_pushed : nat_lt one.point (points g) ≡ true → Pushes g known (input_code one) 1 scalar.Ordinal valued
  input_pushed there left c place base held s next stands based deep behind =
      let e : place + 1 + 1 + length c ≡ place + length (input_code one ++ c) = omega arith in
      let second : place + length (input_code one) ≡ place + 1 + 1 = omega arith in
      let within = ltb-true one.point (points g) there in
      subst (λ end. Executes g (on g (base ++ held) place s) left end (valued next) s) e
      (read_then g (kept_on g left (place + 1 + 1 + length c)) one.reads one.point place base held s
      (λ n. unless_outside one.range one.point n >>= λ _. next (value.Number n)) stands.0 within based (omega (arith, deep))
      (λ n t fit based2.
      admit_then g (kept_on g left (place + 1 + 1 + length c)) one.range one.point n (base ++ held) (place + 1) t (next (value.Number n)) stands.1.0 within
      (linked g t base held based2) fit
      (subst (λ p. Executes g (on g ((base ++ held) ++ Number n ∷ []) p t) left (p + length c) (next (value.Number n)) t) second
      (behind base (value.Number n) t (subst (λ p. Stands g.target p c) (sym second) stands.1.1) based2 fit))))

  abbrev ReadRuns : List Expr → Type 0
  ReadRuns es =
      ExecutesAs g (λ scope place. store_code (input_code one) (reached scope one.access (map (expr_code scope) es)))
      (store_depth one.access.selectors.items (map expr_depth es) 1)
      (record {
        well = all_hold (map (is_well_formed_expr (outline g) g.number) es)
            && leads_to_read (outline g) g.number one.point one.range (origin_of one.access) one.access.selectors.items (length es);
        held = are_ordinal_indexes es;
        there = accesses_begin one.access es g.opened;
        strings = all_compare g.tree.types es;
      })
      (λ env. accessed one.access (map value_of es) env >>= λ q.
      read_as one.reads one.point >>= λ n. unless_outside one.range one.point n >>= λ _. effect.store q (value.Number n))

  read_there : (indexes : Indexes g) → ReadRuns (expressions g indexes)
  read_there indexes place base held s stands good based high deep =
      let access = one.access in
      let es = expressions g indexes in
      let count = length es in
      let wanted : TypeId → Bool = has_values g.tree.types one.range in
      let leads_there = leads_to (outline g) g.number wanted (origin_of access) access.selectors.items count in
      let pointed = nat_lt one.point (points g) in
      let whole = is_whole one.range.first && is_whole one.range.last in
      let parts = and_parts (all_hold (map (is_well_formed_expr (outline g) g.number) es)) (leads_there && (pointed && whole)) good.0 in
      let its = and_parts leads_there (pointed && whole) parts.1 in
      let there = and_parts pointed whole its.1 in
      let begun = and_parts (all_begin (map all_begins es) g.opened) (is_there g.opened (origin_of access)) good.2 in
      let ordinals : AreOrdinals g es = (parts.0, good.1, begun.0, good.3) in
      let led_to = leads g wanted (origin_of access) access.selectors.items count its.0 in
      let kind_is = scalar_tested g.tree.types led_to.last scalar.Ordinal one.range led_to.is_wanted in
      let start = begins g access wanted count (codes g indexes) led_to begun.1 in
      let c = store_code (input_code one) (reached g.scope access (codes g indexes)) in
      let next : Option Place → Action (Unit {0}) = λ q. valued (effect.store q) in
      subst (λ action. Executes g (on g (base ++ held) place s) held (place + length c) (action >>= next) s) (sym (start.meant (map value_of es)))
      (store_runs g known (input_code one) 1 scalar.Ordinal valued (input_pushed there.0) access indexes led_to.last start ordinals led_to.counts kind_is
      place base held (entered g access.number s) stands based deep)

  pub read_runs : ReadRuns one.indexes.items
  read_runs = subst ReadRuns (told_back g known one.indexes.items) (read_there (told g known one.indexes.items))
