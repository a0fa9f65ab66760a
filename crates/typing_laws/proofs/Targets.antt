-- What the target of an assignment does: a variable of the block or of one round it, or the result of a function inside its
-- block, which is assigned then.
use Rattle.std.proofs.Common.{◌≡◌, ℕ, ◌<◌, ap, ap₂, ◌∙◌, ◌||◌, length, nat_eq, Bool, true, false, List, [], ◌∷◌, Option, Some, None, Ok, refl, sym, slice_get}
use Rattle.std.proofs.Common.{subst}
use Rattle.std.proofs.lemmas.Bool.{eq-eqb, eqb-true}
use Rattle.std.proofs.lemmas.Result.{IfOk-at_ok}
use Rattle.place.specs.declared.Place.{Place}
use Rattle.syntax_tree.specs.declared.Name.{Name}
use Rattle.syntax_tree.specs.declared.Selector.{Selector}
use Rattle.syntax_tree.specs.Places.{selector_places}
use Rattle.types.specs.declared.form.TypeId.{TypeId}
use Rattle.types.specs.declared.form.TypeKind.{TypeKind}
use Rattle.types.specs.declared.form.TypeKind.TheVariants as kind_of_type
use Rattle.types.specs.Types.{is_structured_kind, kind_of}
use Rattle.scopes.specs.declared.denotation.Denotation.{Denotation}
use Rattle.typed_tree.specs.declared.tree.Selector.{Selector as TreeSelector}
use Rattle.typed_tree.specs.declared.tree.Variable.{Variable}
use Rattle.typed_tree.specs.Accesses.{Origin, index_count, root_of}
use Rattle.typed_tree.specs.declared.tree.Scalar.TheVariants as scalar
use Rattle.typed_tree.specs.Look.{Access, Target, WholeTarget}
use Rattle.typed_tree.specs.WellFormed.{is_held_by, is_one_of}
use Rattle.typing.specs.Passing.{Enclosing, Headed, mark, After, Passed, Passing, after, behind_marks, pure, ◌>>=◌}
use Rattle.typing.specs.Expressions.{Denoted, Written, entire}
use Rattle.typing_rules.specs.Denotations.{as_routine}
use Rattle.typing.specs.Statements.{Accessed, target_mark, or_no_variable, function_target, target_of, target}
use Rattle.typing.specs.Steps.{program_heading}
use Rattle.typing.proofs.WalkedForms.{AssignsResult, access_told, access_typing, function_target_is}
use Rattle.typing.proofs.Ways.{with_result}
use Rattle.typing_laws.proofs.Covers.{Covers}
use Rattle.typing_laws.proofs.Grown.{heads_of, Fine}
use Rattle.typing_laws.proofs.Reached.{Signature, signature_passed, Reached, further_still, head_of, Here, StandsIn, is_round_here, get_mapped, get_or_is}
use Rattle.typing_laws.proofs.Reached.{mapped_longer, stands_later, as_far, reached}
use Rattle.typing_laws.proofs.Sound.{IsVariable, IsRoutine, routine_longer, or_right}
use Rattle.typing_laws.proofs.Opened.{open_in, stands_there}
use Rattle.typing_laws.proofs.Steps.{PassingDoes, Anything, Nothing, IsFound, quietly, last, pure_does, find_does, enter_does}
use Rattle.typing_laws.proofs.Steps.{may_change_does, change_does, split, fine_with_result, grown_assigned}
use Rattle.typing_laws.proofs.Accesses.{LeadsTo, AreLawfulRows, IsDenoted, entire_denoted, kind_now_does, leads_later, selected_does, scalar_formed}
use Rattle.typing_laws.proofs.Accesses.{variable_does, whole_formed}
use Rattle.typing_laws.proofs.Tables.{has_kind}
use Rattle.typing_laws.proofs.Calls.{may_call_it, routine_is}
use Rattle.typing_laws.proofs.Strings.{behind_nothing}
use Rattle.typing_laws.proofs.Kept.{MayChange, change_later}
use Rattle.typing_laws.specs.Results.{is_target}

abbrev accessed_by : Origin → List TreeSelector × TypeId → Accessed
accessed_by origin component = record { origin = origin; selectors = component.0; type_id = component.1 }

module _ (here : Here) where
  target_formed : {least : Reached} (origin : Origin) (selectors : List TreeSelector) (id : TypeId) (found : Option TypeKind)
      → LeadsTo here origin selectors id least → kind_of least.types id ≡ found → MayChange here least (root_of origin)
      → PassingDoes here least Nothing (mark (target_mark found origin selectors id)) Anything
  target_formed {least} origin selectors id (Some kind_of_type.Structured) l is may =
      change_does (WholeTarget origin selectors (index_count selectors) id) (root_of origin) refl refl refl refl
      (stands_there (open_in here) (open_in here) origin l.opens) may
      (λ n h. whole_formed here origin selectors id least n l (ap is_structured_kind is) h)
  target_formed {least} origin selectors id (Some (kind_of_type.Set base members)) l is may =
      change_does (Target origin selectors (index_count selectors)) (root_of origin) refl refl refl refl
      (stands_there (open_in here) (open_in here) origin l.opens) may
      (λ n h. scalar_formed here scalar.Set origin selectors id least n l (ap (is_held_by scalar.Set) is) h)
  target_formed {least} origin selectors id (Some (kind_of_type.Ordinal range)) l is may =
      change_does (Target origin selectors (index_count selectors)) (root_of origin) refl refl refl refl
      (stands_there (open_in here) (open_in here) origin l.opens) may
      (λ n h. scalar_formed here scalar.Ordinal origin selectors id least n l (ap (is_held_by scalar.Ordinal) is) h)
  target_formed {least} origin selectors id None l is may = absurd (has_kind least.types id l.stands is)

  -- selectors lead to what is accessed
  abbrev pub IsAccessed : Accessed → Reached → Type 0
  IsAccessed to now = LeadsTo here to.origin to.selectors to.type_id now

  variable_type : (place : Place) (found : Option Variable) (id : TypeId) → or_no_variable place found ≡ Ok id
      → (v : Variable) × (found ≡ Some v) × (v.type_id ≡ id)
  variable_type place (Some v) id is = (v, refl, cc)
  variable_type place None id is = absurd cc

  inside_is : (enclosing : Enclosing) (block : ℕ) → enclosing.block ≡ here.block → enclosing.around ≡ here.around
      → is_one_of (enclosing.block ∷ enclosing.around) block ≡ true → is_round_here here block ≡ true
  inside_is enclosing block one two is =
      by (nat_eq here.block block) refl (subst (λ blocks. is_one_of blocks block ≡ true) (ap₂ (λ a b. a ∷ b) one two) is)
    where
      by : (test : Bool) → nat_eq here.block block ≡ test → (test || is_one_of here.around block) ≡ true
          → (nat_eq block here.block || is_one_of here.around block) ≡ true
      by true same h = ap (λ b. b || is_one_of here.around block) (eq-eqb block here.block (sym (eqb-true here.block block same)))
      by false same h = or_right (nat_eq block here.block) (is_one_of here.around block) h

  -- what stands left of `:=` is a variable, or the result of a function
  abbrev IsTarget : ℕ × TypeId → Reached → Type 0
  IsTarget variable now = IsVariable here now.variables now.types variable.0 variable.1 × StandsIn here now

  -- the result of a function inside its block
  result_is : (place : Place) (block : ℕ) (is_function : Bool) (s : Passed) (v : After (ℕ × TypeId)) → Fine here s
      → IsRoutine here (heads_of (reached s)) block is_function → StandsIn here (reached s) → (r : AssignsResult place block s v)
      → IsTarget (r.root, r.type_id) (reached s)
  result_is place block is_function s v fine routine stands r =
      let may = may_call_it here (reached s) is_function block routine in
      let at = get_mapped signature_passed s.headings block may.signature may.heading in
      let heading = get_or_is s.headings block program_heading at.0 at.1 in
      let told = ap (λ (g : Signature). g.result) (sym at.2) ∙ ap (λ (h : Headed). h.result) (sym heading) ∙ r.result in
      let outcome = (fine.fit.fits block may.signature may.heading).outcome r.root told in
      let typed = variable_type place (slice_get s.variables r.root) r.type_id r.found in
      let same : outcome.variable ≡ typed.0 = some_same outcome.variable typed.0 (sym outcome.is_there ∙ typed.1) in
      let of_type = ap (λ (v : Variable). v.type_id) same ∙ typed.2 in (
        record {
          variable = outcome.variable;
          is_there = outcome.is_there;
          is_visible = ap (is_round_here here) outcome.of_block ∙ inside_is s.enclosing block fine.block fine.around r.inside;
          of_type = of_type;
          stands = subst (λ (i : TypeId). i.index < length s.types) of_type outcome.stands;
        },
        stands,
      )
    where
      some_same : (a b : Variable) → Some a ≡ Some b → a ≡ b
      some_same a b is = cc

  access_does : {least : Reached} (name : Name) (selectors : List Selector) (rows : List (List Place)) (ws : List Written) → AreLawfulRows here rows ws
      → (variable : Denoted) → IsDenoted here variable least
      → PassingDoes here least (Covers 0 (selector_places selectors rows)) (access_typing name selectors ws variable) IsAccessed
  access_does {least} name selectors rows ws laws variable found =
      let origin = variable.origin in
      quietly (may_change_does name.place (root_of origin) found.type_id found.of_root) λ _ changed two may.
      quietly (enter_does Access (λ n. refl) (λ n. refl) (λ n. refl) (λ n. refl) (λ n m h. refl)) λ _ entered three _.
      last (selected_does here origin variable.selectors variable.type_id selectors rows ws laws
      (leads_later here origin variable.selectors variable.type_id least entered (further_still two three) found.leads_to))
      λ component met later l.
      quietly (kind_now_does here component.1) λ kind next four of_kind.
      let may_there = change_later here changed next (root_of origin) (further_still three (further_still later four)) may in
      let led = leads_later here origin component.0 component.1 met next four l in
      quietly (target_formed origin component.0 component.1 kind led of_kind.1 may_there) λ _ _ five _.
      pure_does (accessed_by origin component)
      (λ n h. leads_later here origin component.0 component.1 next n (further_still five h) led)

  -- the target of an assignment: a variable, or the result of a function, which is told behind what is assigned
  pub target_does : {least : Reached} (name : Name) (selectors : List Selector) (rows : List (List Place)) (ws : List Written) → AreLawfulRows here rows ws
      → PassingDoes here least (Covers 0 (selector_places selectors rows)) (target name selectors ws) IsAccessed
  unfolding target
  target_does name selectors rows ws laws = quietly (find_does name) λ d now _ sound. by now d (as_routine d) refl selectors rows laws sound
    where
      by : (now : Reached) (d : Denotation) (found : Option (ℕ × Bool)) → as_routine d ≡ found → (others : List Selector) (places : List (List Place))
          → AreLawfulRows here places ws → IsFound here d now
          → PassingDoes here now (Covers 0 (selector_places others places)) (target_of found others name.place d >>= access_typing name others ws) IsAccessed
      by now d None same others places laws sound =
          quietly (variable_does here name.place d sound) λ variable _ _ found. access_does name others places ws laws variable found
      by now d (Some routine) same (selector ∷ others) places laws sound =
          quietly (variable_does here name.place d sound) λ variable _ _ found. access_does name (selector ∷ others) places ws laws variable found
      by now d (Some routine) same [] places laws sound = record {
        does = λ s a is fine h.
            let rest : ℕ × TypeId → Passing Denoted = λ v. pure (entire v.0 v.1) in
            let z = split ((function_target name.place routine.0 >>= rest) s)
            (λ v. behind_marks v.look (access_typing name [] ws v.answer v.passed)) a is in
            let x = split (function_target name.place routine.0 s) (λ v. behind_marks v.look (rest v.answer v.passed)) z.0 z.1 in
            let r = function_target_is name.place routine.0 s x.0 x.1 in
            let variable = entire r.root r.type_id in
            let start = with_result r.root s in
            let made : after variable [] start ≡ z.0 = made_is r.is x.2 in
            let goes : access_typing name [] ws variable start ≡ Ok a =
            sym (behind_nothing (access_typing name [] ws variable start))
            ∙ ap (λ (v : After Denoted). behind_marks v.look (access_typing name [] ws v.answer v.passed)) made ∙ z.2 in
            let is_routine = routine_longer here (heads_of now) (heads_of (reached s)) routine.0 routine.1 (mapped_longer head_of h.headings)
            (routine_is here now d routine same sound.0) in
            let target = result_is name.place routine.0 routine.1 s x.0 fine is_routine (stands_later here now (reached s) h sound.1) r in
            let denoted = entire_denoted here r.root r.type_id (reached s) target.0 target.1 in
            let k = (access_does {least = reached s} name [] places ws laws variable denoted).does start a goes (fine_with_result s r.root fine) as_far in
            let told = IfOk-at_ok (λ (b : After Accessed). is_target b.look r.root ≡ true) goes ((access_told name [] ws variable).walks start) in
            (grown_assigned r.root told k.0, record { added = k.1.added; sites = k.1.sites; points = k.1.points; covered = k.1.covered }, k.2);
      }
        where
          made_is : {v : After (ℕ × TypeId)} {w : After Denoted} {r : ℕ × TypeId} {t : Passed} → after r [] t ≡ v
              → behind_marks v.look (pure (entire v.answer.0 v.answer.1) v.passed) ≡ Ok w → after (entire r.0 r.1) [] t ≡ w
          made_is {w = w} {r = r} {t = t} one two =
              let three : behind_marks [] (pure (entire r.0 r.1) t) ≡ Ok w =
              ap (λ (z : After (ℕ × TypeId)). behind_marks z.look (pure (entire z.answer.0 z.answer.1) z.passed)) one ∙ two in cc
