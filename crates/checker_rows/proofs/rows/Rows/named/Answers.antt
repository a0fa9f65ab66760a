use Rattle.std.proofs.Common.{◌≡◌, ◌∙◌, sym, ap, subst, ◌+◌, ◌<◌, ◌^◌, ◌∷◌, [], map, drop, Some, ℕ, List}
use Rattle.std.proofs.lemmas.List.{drop_all, drop_more}
use Rattle.std.specs.Prelude.{slice_get}
use Rattle.types.specs.Types.{element_of, field_of}
use Rattle.typed_tree.specs.declared.tree.Tree.{Tree}
use Rattle.typed_tree.specs.declared.tree.Variable.{Variable}
use Rattle.domain.specs.Facts as fact
use Rattle.domain.specs.Facts.{said_path, said_step}
use Rattle.domain.specs.declared.facts.Step.{Step}
use Rattle.checker_rows.specs.Rows.{variable_named}
use Rattle.checker_rows.specs.View.{end_of}
use Rattle.checker_rows.proofs.Naming.{NamesOn, element_on, field_on, named_all}
use Rattle.checker_rows.proofs.Variables.{part_under, under_of}
use Rattle.checker_rows.proofs.rows.Rows.named.Goals as goal
use Rattle.checker_rows.proofs.rows.Rows.named.Goals.{in-Element+in_ok-type_id-in-Element, in-Field+in_ok-field-in-Field}

pub loop-step-init : goal.loop-step-init
loop-step-init c =
    let tree : Tree = c.args.self.now in
    let there : slice_get tree.variables.items c.args.path.now.root ≡ Some c.in_ok-type_id.field-0 =
    ap (λ (l : List Variable). slice_get l c.args.path.now.root) (sym (c.deref.ensures.value ∙ ap (λ (t : Tree). t.variables.items) c.self.view_is))
    ∙ sym c.in_ok-type_id.ensures in
    record {
      fits = c.variable.ensures.fits;
      so_far = (
        [],
        ap (variable_named tree.types (map said_step c.args.path.now.steps.items)) there,
        λ more. under_of tree c.args.path.now.root more ∙ ap (λ part. part_under tree.types more (Some part)) (sym c.variable.ensures.part),
      );
    }

pub loop-step-preserved : goal.loop-step-preserved
loop-step-preserved c =
    let tree : Tree = c.args.self.now in
    let n = c.loop-step.step-index in
    let items : List Step = c.args.path.now.steps.items in
    let next : drop n items ≡ c.step-item.result ∷ drop (n + 1) items =
    subst (λ (l : List Step). drop n l ≡ c.step-item.result ∷ drop (n + 1) l) c.deref-step-items.ensures.value
    (drop_more c.deref-step-items.result.now n c.step-item.result c.loop-step-test.true
    ∙ ap (λ x. x ∷ drop (n + 1) c.deref-step-items.result.now) (sym c.step-item.is)) in
    let so_far : NamesOn tree (said_path c.args.path.now) (said_step c.step-item.result ∷ map said_step (drop (n + 1) items))
    c.loop-step.type_id c.loop-step.part =
    subst (λ l. NamesOn tree (said_path c.args.path.now) (map said_step l) c.loop-step.type_id c.loop-step.part) next c.loop-step.invariant.so_far in
    let path = said_path c.args.path.now in
    let rest = map said_step (drop (n + 1) items) in
    elim c.match-step.branch [
      | in-Element+in_ok-type_id-in-Element w ↦
          let e = w.in_ok-type_id-in-Element.field-0 in
          let found : element_of tree.types c.loop-step.type_id ≡ Some e =
          ap (λ (t : Tree). element_of t.types c.loop-step.type_id) (sym c.self.view_is) ∙ sym w.in_ok-type_id-in-Element.ensures in
          let names : NamesOn tree path (fact.Elements ∷ rest) c.loop-step.type_id c.loop-step.part =
          subst (λ (s : Step). NamesOn tree path (said_step s ∷ rest) c.loop-step.type_id c.loop-step.part) w.in-Element.is so_far in
          record {
            fits = subst (λ part. end_of tree.types part < 2 ^ 64) (sym w.part-is) w.elements-part.ensures.fits;
            so_far =
                subst (λ id. NamesOn tree path rest id c.match-step.part) (sym w.type_id-is)
                (element_on tree path rest c.loop-step.type_id c.loop-step.part c.match-step.part e found (w.part-is ∙ w.elements-part.ensures.part) names);
          }
      | in-Field+in_ok-field-in-Field w ↦
          let f = w.in_ok-field-in-Field.field in
          let name : List ℕ = w.in-Field.name.items in
          let found : field_of tree.types c.loop-step.type_id name ≡ Some f =
          ap (λ (t : Tree). field_of t.types c.loop-step.type_id name) (sym c.self.view_is)
          ∙ ap (field_of c.self.inside.tree.now.types c.loop-step.type_id) (sym w.deref-in-Field.ensures.value) ∙ sym w.in_ok-field-in-Field.ensures in
          let names : NamesOn tree path (fact.Field name ∷ rest) c.loop-step.type_id c.loop-step.part =
          subst (λ (s : Step). NamesOn tree path (said_step s ∷ rest) c.loop-step.type_id c.loop-step.part) w.in-Field.is so_far in
          record {
            fits = subst (λ part. end_of tree.types part < 2 ^ 64) (sym w.part-is) w.field-part.ensures.fits;
            so_far =
                subst (λ id. NamesOn tree path rest id c.match-step.part) (sym w.type_id-is)
                (field_on tree path rest c.loop-step.type_id c.loop-step.part c.match-step.part name f found (w.part-is ∙ w.field-part.ensures.part) names);
          }
    ]

pub returns : goal.returns
returns c =
    let tree : Tree = c.args.self.now in
    let n = c.loop-step.step-index in
    let past = subst (λ (l : List Step). drop n l ≡ []) c.deref-step-items.ensures.value (drop_all n c.deref-step-items.result.now c.loop-step-test.false) in
    named_all tree (said_path c.args.path.now) c.loop-step.part (record { type_id = c.loop-step.type_id; rows = c.span.result }) c.span.ensures
    (subst (λ l. NamesOn tree (said_path c.args.path.now) (map said_step l) c.loop-step.type_id c.loop-step.part) past c.loop-step.invariant.so_far)
